-- Document 01, "Areas": window positions and the area of each; and the shapes under a window, of document 02's request 2.
use Rattle.std.specs.Prelude.{ℕ, suc, ◌-◌, ◌≤◌, List}
use Rattle.geometry.specs.declared.Rect.{Rect}
use Rattle.geometry.specs.Layout.{covered_area, shapes_under, window_box}

-- the area of the window at (x, y)
abbrev pub window_area : List Rect → ℕ → ℕ → ℕ → ℕ
window_area rs w x y = covered_area rs (window_box w x y)

-- the shapes under the window at (x, y); no search looks at them
abbrev pub window_shapes : List Rect → ℕ → ℕ → ℕ → ℕ
window_shapes rs w x y = shapes_under rs (window_box w x y)

-- the number of window positions on an axis: 0 to n − w
abbrev pub positions : ℕ → ℕ → ℕ
positions n w = suc (n - w)

-- (x, y) is a whole-number window position
pub record Position (n w x y : ℕ) : Type 0 where
  pub across : x ≤ n - w
  pub down : y ≤ n - w
