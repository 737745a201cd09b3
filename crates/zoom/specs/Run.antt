-- Document 01, "The quick run", and document 02, requests 1 (the same of the least window) and 4 (how the density is rounded): the run, level by
-- level; what a level is stands in levels/specs/Levels.antt. Level and end are their terms. Nothing is passed over here.
-- A run is stated over the sense of the extreme. Of its last level the answer prints `named`, area and place, after floor (F) for the greatest
-- and after high for the least, `limit` after ceiling (C) and after low, `kept` after kept, and `done` of the run after levels.
use Rattle.std.specs.Prelude.{ℕ, zero, suc, ◌+◌, ◌*◌, ◌/◌, ◌^◌, ◌≤◌, min, Bool, true, false, List, leb}
use Rattle.std.specs.Int.Count.{count_trailing_zeros}
use Rattle.rounding.specs.Nearest.{rounded}
use Rattle.geometry.specs.declared.Rect.{Rect}
use Rattle.geometry.specs.declared.Spot.{Spot}
use Rattle.geometry.specs.declared.Sense.{Sense}
use Rattle.geometry.specs.declared.Sense.TheVariants.{Greatest, Least}
use Rattle.geometry.specs.Extreme.{spot_at, replaced}
use Rattle.geometry.specs.Positions.{window_area}
use Rattle.extremes.specs.Exact.{extreme}
use Rattle.zoom.specs.declared.End.{End}
use Rattle.zoom.specs.declared.End.TheVariants.{Met, Stopped, Exact}
use Rattle.levels.specs.declared.Level.{Level}
use Rattle.levels.specs.Levels.{level_of}
use Rattle.zoom.specs.declared.Quick.{Quick}

-- z, the last level: the smaller of 4 and the number of trailing zero bits of w; 64 bits hold every side
abbrev pub last_level : ℕ → ℕ
last_level w = min 4 (count_trailing_zeros 64 w)

-- the paper's tile side t at level j: the step from a start to the next, and by what a window is bloated or shrunk. It is not the side W/R of
-- the tiles that the fill is judged by
abbrev pub level_step : (w j : ℕ) → ℕ
level_step w j = w / 2 ^ j

-- level j of a run: before it, the window at (0, 0) was named for j = 0, else that of the level before
unfoldable pub level_at : Sense → List Rect → (n w j : ℕ) → Level
level_at s rs n w zero = level_of s rs n w (level_step w 0) (spot_at (window_area rs w) 0 0)
level_at s rs n w (suc j) = level_of s rs n w (level_step w (suc j)) (level_at s rs n w j).named

-- the lower and the upper end of a level's bracket: F and C, or low and high
abbrev pub low_end : Sense → Level → ℕ
low_end Greatest v = v.named.area
low_end Least v = v.limit

abbrev pub high_end : Sense → Level → ℕ
high_end Greatest v = v.limit
high_end Least v = v.named.area

-- m lies in a level's bracket
pub record Brackets (s : Sense) (v : Level) (m : ℕ) : Type 0 where
  pub low : low_end s v ≤ m
  pub high : m ≤ high_end s v

-- the bracket of the next level lies in that of v: the lower end does not fall, the upper one does not rise
pub record Narrows (s : Sense) (v next : Level) : Type 0 where
  pub low : low_end s v ≤ low_end s next
  pub high : high_end s next ≤ high_end s v

-- a level is met for accuracy e, in thousandths: 1000 × C ≤ (1000 + 2e) × F, or 1000 × high ≤ (1000 + 2e) × low
abbrev pub is_met : Sense → ℕ → Level → Bool
is_met s e v = leb (1000 * high_end s v) ((1000 + 2 * e) * low_end s v)

-- an end in numbers
abbrev pub end_number : End → ℕ
end_number Met = 0
end_number Stopped = 1
end_number Exact = 2

-- the answer after level j: met; else stopped, if the v levels allowed are done; else what the next level answers
abbrev pub after_level : Sense → (e v j : ℕ) → Level → Quick → Quick
after_level s e v j this next =
    elim (is_met s e this) [
      | true ↦ record { end = Met; done = suc j; last = this }
      | false ↦ elim (leb v (suc j)) [ true ↦ record { end = Stopped; done = suc j; last = this } | false ↦ next ]
    ]

-- the exact search counts as one more level after level j: C is M, or low the minimum, no start is kept, and its window m is named only where
-- strictly better. F is M too, or high the minimum: `exact_named` in proofs/Bracket.antt
abbrev pub exact_end : Sense → (j : ℕ) → (before m : Spot) → Quick
exact_end s j before m = record { end = Exact; done = suc (suc j); last = record { named = replaced s before m; limit = m.area; kept = 0 } }

-- the run from level j on, with `left` levels after it before the exact search
unfoldable pub run_from : Sense → List Rect → (n w e v left j : ℕ) → Quick
run_from s rs n w e v zero j = let this = level_at s rs n w j in after_level s e v j this (exact_end s j this.named (extreme s rs n w))
run_from s rs n w e v (suc left) j = after_level s e v j (level_at s rs n w j) (run_from s rs n w e v left (suc j))

-- the quick run for an extreme
unfoldable pub quick_run : Sense → List Rect → (n w e v : ℕ) → Quick
quick_run s rs n w e v = run_from s rs n w e v (last_level w) 0

-- density in ten-thousandths: 10000 × (F + C) / (2 × w × w), rounded to the nearest, an exact half to the even neighbour
abbrev pub density : (w f c : ℕ) → ℕ
density w f c = rounded (10000 * (f + c)) (2 * w * w)
