-- What the code of the exact run does in place of trying every position. A buyer need not read it: proofs/Searches.antt shows that
-- `searched` is `extreme`.
use Rattle.std.specs.Prelude.{ℕ, ◌+◌, ◌-◌, Bool, true, false, ◌&&◌, ◌||◌, List, ◌∷◌, ◌++◌, leb, ltb, eqb, map, filter, fold}
use Rattle.geometry.specs.declared.Spot.{Spot}
use Rattle.geometry.specs.declared.Sense.{Sense}
use Rattle.geometry.specs.Extreme.{better, spot_at}
use Rattle.geometry.specs.Positions.{window_area}
use Rattle.sweep.specs.declared.Side.TheVariants.{Low, High}
use Rattle.sweep.specs.declared.Upright.{Upright}
use Rattle.sweep.specs.declared.sorted.Sorted.{Sorted}
use Rattle.sweep.specs.Strips.{strip_sides}
use Rattle.extremes.specs.declared.search.Row.{Row}
use Rattle.extremes.specs.Listing.{near_of, far_of, candidates}

-- ---- the search among listed positions, in any order

-- whether a window has a smaller y, or the same y and a smaller x
abbrev pub earlier : Spot → Spot → Bool
earlier new old = ltb new.y old.y || (eqb new.y old.y && ltb new.x old.x)

-- whether a window goes before the one that stands: it is better, or as good and earlier
abbrev pub leads : Sense → Spot → Spot → Bool
leads s new old = better s new.area old.area || (eqb new.area old.area && earlier new old)

-- what stands after one more window was tried
abbrev pub leading : Sense → Spot → Spot → Spot
leading s old new = elim (leads s new old) [ true ↦ new | false ↦ old ]

-- the leading one of the windows at (x, y), x in a list, where b stood before
abbrev pub leading_in_row : Sense → (ℕ → ℕ → ℕ) → List ℕ → (y : ℕ) → Spot → Spot
leading_in_row s f xs y b = fold (λ b x. leading s b (spot_at f x y)) b xs

-- the leading one of the windows at (x, y), y in a list and x in the list of the row y, where b stood before
abbrev pub leading_in_rows : Sense → (ℕ → ℕ → ℕ) → (xs : ℕ → List ℕ) → (ys : List ℕ) → Spot → Spot
leading_in_rows s f xs ys b = fold (λ b y. leading_in_row s f (xs y) y b) b ys

-- ---- the positions that are tried in a row

-- the window whose edge meets a side is a position: at the side less 0, if it is the low edge, or less w
abbrev pub is_reached : (shift last side : ℕ) → Bool
is_reached shift last v = leb shift v && leb (v - shift) last

-- the positions of the windows whose edges meet the sides of a list
abbrev pub positions_of : (shift last : ℕ) → List Upright → List ℕ
positions_of shift last sides = map (λ u. u.column - shift) (filter (λ u. is_reached shift last u.column) sides)

-- the positions that are tried in a row: 0, the last one, and where an edge of the window meets a side of its strip
abbrev pub tried_row : Sense → (w last : ℕ) → Sorted → (y : ℕ) → List ℕ
tried_row s w last m y =
    let lows = strip_sides m.lows.items Low y (y + w) in
    let highs = strip_sides m.highs.items High y (y + w) in
    0 ∷ last ∷ (positions_of 0 last (near_of s lows highs) ++ positions_of w last (far_of s lows highs))

-- the search for an extreme: the window at (0, 0), then those at the candidates
unfoldable pub searched : Sense → Sorted → (n w : ℕ) → Spot
searched s m n w =
    let area = window_area m.rects.now w in
    leading_in_rows s area (tried_row s w (n - w) m) (candidates s (n - w) w m.rects.now) (spot_at area 0 0)

-- ---- one row

-- a row's window at x
abbrev pub window_at : Row → (x : ℕ) → Spot
window_at row x = spot_at (window_area row.strip.now.sorted.now.rects.now row.search.w) x row.strip.now.y1

-- the leading one of a row's windows at the positions of a list, where b stood before
abbrev pub leading_along : Row → List ℕ → Spot → Spot
leading_along row xs b = leading_in_row row.search.sense (window_area row.strip.now.sorted.now.rects.now row.search.w) xs row.strip.now.y1 b
