-- Regions that do not come near a box: they may be left out of what holds its squares, so that a part of the table is enough for it. What is said of
-- cores and reaches is said of all, of whatever size and however a table has them.
use Prim.Native.Nat.{ℕ, ◌+◌, ◌-◌, ◌≤◌, ◌<◌}
use mathlib.Core.Path.{◌≡◌, sym, ap, ◌∙◌}
use mathlib.Core.Bool.{Bool, false, ◌||◌, or-false}
use mathlib.Core.List.{List, [], ◌∷◌}
use mathlib.Core.Logic.{◌⊎◌, inl, inr}
use native.Mathlib.Omega.{arith}
use lib.ListN.{length, take, drop, get_or}
use Rattle.std.proofs.Common.{All}
use Rattle.std.proofs.lemmas.List.{take-append-drop, take_all, drop-drop, get_or-take, length-take-le}
use Rattle.std.proofs.lemmas.List.Folds.{list_any-append, list_any_none}
use Rattle.laws.proofs.Tests.{le_or_lt, true_false}
use Rattle.geometry.specs.declared.Rect.{Rect}
use Rattle.spacing.specs.declared.region.Region.{Region}
use Rattle.spacing.specs.Regions.{reaches}
use Rattle.spacing.specs.Nearness.{comes_near, is_near}
use Rattle.free.specs.declared.Part.{Part}
use Rattle.free.specs.Free.{any_holds, free_in, part_of, AgreeOn, ServesBy, Serves}
use Rattle.free.specs.Parts.{AllFar, FirstNear, LastNear}
use Rattle.spacing.proofs.Distances.{none_held}
use Rattle.free.proofs.Held.{agree_free}

-- ---- what is enough for a box, by a test of what each thing of a table holds

module _ {A : Type 0} (holds : A → ℕ → ℕ → Bool) (t : List A) (b : Rect) where
  -- those from place i on hold all that the table holds of the box, and those from place j on nothing
  pub part_serves : (i j : ℕ) → i ≤ j → j ≤ length t → AgreeOn b (any_holds holds (drop i t)) (any_holds holds t) →
      AgreeOn b (any_holds holds (drop j t)) (λ x y. false) → ServesBy holds t b (record { from = i; to = j })
  part_serves i j order within onward behind =
      record { order = order; within = within; same = λ x y p q r s. sym (ahead x y p q r s) ∙ onward x y p q r s }
    where
      part : List A
      part = take (j - i) (drop i t)

      rest : drop (j - i) (drop i t) ≡ drop j t
      rest = drop-drop (j - i) i t ∙ ap (λ (k : ℕ). drop k t) (omega arith)

      ahead : AgreeOn b (any_holds holds (drop i t)) (any_holds holds part)
      ahead x y p q r s =
          ap (λ (l : List A). any_holds holds l x y) (sym (take-append-drop (j - i) (drop i t)))
          ∙ list_any-append (λ a. holds a x y) part (drop (j - i) (drop i t))
          ∙ ap (λ (l : List A). any_holds holds part x y || any_holds holds l x y) rest
          ∙ ap (λ (u : Bool). any_holds holds part x y || u) (behind x y p q r s)
          ∙ or-false (any_holds holds part x y)

  -- all of a table is enough, and what is enough for a box is enough for one inside
  pub all_serves : ServesBy holds t b (record { from = 0; to = length t })
  all_serves =
      record {
        order = omega arith;
        within = omega arith;
        same = λ x y p q r s. ap (λ (l : List A). any_holds holds l x y) (take_all (length t - 0) t (omega arith));
      }

  pub serves_inside : (c : Rect) (p : Part) → ServesBy holds t b p → b.x1 ≤ c.x1 → b.y1 ≤ c.y1 → c.x2 ≤ b.x2 → c.y2 ≤ b.y2 →
      ServesBy holds t c p
  serves_inside c p s left low right high =
      record {
        order = s.order;
        within = s.within;
        same = λ x y p' q r u. s.same x y (omega arith) (omega arith) (omega arith) (omega arith);
      }

-- ---- cores and reaches that do not come near the box

module _ {A : Type 0} (core : A → Rect) (reach : A → ℕ) (b : Rect) where
  abbrev holds : A → (x y : ℕ) → Bool
  holds a x y = reaches (core a) (reach a) x y

  abbrev NoneNear : List A → Type 0
  NoneNear things = All (λ a. comes_near (core a) (reach a) b ≡ false) things

  far_held : (things : List A) → NoneNear things → AgreeOn b (any_holds holds things) (λ x y. false)
  far_held things h x y p q r s = list_any_none (λ a. holds a x y) things (λ k d l. none_held _ _ b (h k d l) x y p q r s)

  -- those before a part of a table and those behind it may be left out
  pub far_serves : (t : List A) (i j : ℕ) → i ≤ j → j ≤ length t → NoneNear (take i t) → NoneNear (drop j t) →
      ServesBy holds t b (record { from = i; to = j })
  far_serves t i j order within before behind =
      part_serves holds t b i j order within (λ x y p q r s. sym (onward x y p q r s)) (far_held (drop j t) behind)
    where
      onward : AgreeOn b (any_holds holds t) (any_holds holds (drop i t))
      onward x y p q r s =
          ap (λ (l : List A). any_holds holds l x y) (sym (take-append-drop i t))
          ∙ list_any-append (λ a. holds a x y) (take i t) (drop i t)
          ∙ ap (λ (u : Bool). u || any_holds holds (drop i t) x y) (far_held (take i t) before x y p q r s)

-- ---- a table of regions

-- the first region that comes near is not behind the last
in_order : (t : List Region) (b : Rect) (i j : ℕ) → FirstNear t b i → LastNear t b j → i ≤ j
in_order [] b i j f l = absurd (omega (arith, f.within))
in_order (d ∷ t) b i j f l = go (le_or_lt i j)
  where
    far : j < i → is_near (get_or (take i (d ∷ t)) j d) b ≡ false
    far h = f.before j d (omega (arith, length-take-le i (d ∷ t) (omega (arith, f.within)), h))

    go : (i ≤ j) ⊎ (j < i) → i ≤ j
    go (inl h) = h
    go (inr h) =
        absurd (true_false (is_near (get_or (d ∷ t) j d) b) (l.near d) (ap (λ (r : Region). is_near r b) (sym (get_or-take i (d ∷ t) j d h)) ∙ far h))

module _ (t : List Region) (b : Rect) where
  pub near_serves : (i j : ℕ) → FirstNear t b i → LastNear t b j → Serves t b (record { from = i; to = j + 1 })
  near_serves i j f l =
      let order : i ≤ j = in_order t b i j f l in
      far_serves (λ r. r.core) (λ r. r.reach) b t i (j + 1) (omega arith) (omega (arith, l.within)) f.before l.behind

  pub none_serves : AllFar b t → Serves t b (record { from = 0; to = 0 })
  none_serves h = far_serves (λ r. r.core) (λ r. r.reach) b t 0 0 (omega arith) (omega arith) (λ k d l. absurd (omega arith)) h

-- what is enough for a box has as many free squares there as the table
pub serves_free : (t : List Region) (b : Rect) (p : Part) → Serves t b p → free_in (part_of t p) b ≡ free_in t b
serves_free t b p s = agree_free (part_of t p) t b s.same
