-- The one way in which things are counted: a sum over the first numbers, on it a sum over the unit squares of a box, and the same over the
-- rectangles of a list.
use Rattle.std.specs.Prelude.{ℕ, zero, suc, ◌+◌, ◌-◌, Bool, true, false, List, [], ◌∷◌}
use Rattle.geometry.specs.declared.Rect.{Rect}

-- sum n f = f 0 + … + f (n − 1)
unfoldable pub sum : ℕ → (ℕ → ℕ) → ℕ
sum zero f = 0
sum (suc n) f = sum n f + f n

-- what a test adds to a count: 1 where it holds, else 0
abbrev pub one_if : Bool → ℕ
one_if true = 1
one_if false = 0

-- the sum of f over the numbers from a to before b
abbrev pub span : ℕ → ℕ → (ℕ → ℕ) → ℕ
span a b f = sum (b - a) (λ i. f (a + i))

-- the sum of f x y over the unit squares (x, y) of a box
abbrev pub box_sum : Rect → (ℕ → ℕ → ℕ) → ℕ
box_sum b f = span b.y1 b.y2 (λ y. span b.x1 b.x2 (λ x. f x y))

-- the sum of f over the rectangles of a list
unfoldable pub rect_sum : List Rect → (Rect → ℕ) → ℕ
rect_sum [] f = 0
rect_sum (r ∷ rs) f = f r + rect_sum rs f
