-- Document 02, request 7: how many window positions lie under L, within, and over U, by all shapes and without the fill.
use Rattle.std.specs.Prelude.{ℕ, Bool, not, ◌&&◌, List}
use Rattle.geometry.specs.declared.Rect.{Rect}
use Rattle.geometry.specs.Count.{one_if, box_sum}
use Rattle.geometry.specs.Positions.{window_area, positions}
use Rattle.geometry.specs.Bounds.{keeps_upper, keeps_lower}
use Rattle.positions.specs.declared.Tally.{Tally}

-- all window positions: a box in which each is a unit square
abbrev pub all_positions : (n w : ℕ) → Rect
all_positions n w = record { x1 = 0; y1 = 0; x2 = positions n w; y2 = positions n w }

-- the number of positions whose area passes a test
abbrev pub positions_where : (passes : ℕ → Bool) → List Rect → (n w : ℕ) → ℕ
positions_where passes rs n w = box_sum (all_positions n w) (λ x y. one_if (passes (window_area rs w x y)))

-- under are the positions that fail L, over those that fail U, within those that fail neither, by the test of the verdict: an area that is
-- exactly a bound is within. Where L ≤ U the three add up to all positions: `tally_adds_up` in proofs/Adding.antt
abbrev pub tally_of : List Rect → (n w lower upper : ℕ) → Tally
tally_of rs n w lower upper =
    record {
      under = positions_where (λ area. not (keeps_lower lower w area)) rs n w;
      within = positions_where (λ area. keeps_lower lower w area && keeps_upper upper w area) rs n w;
      over = positions_where (λ area. not (keeps_upper upper w area)) rs n w;
    }
