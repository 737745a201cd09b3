-- The search for the first failing start: what "none" and "found" say of every start that was looked at.
use Prim.Native.Nat.{ℕ, zero, suc, ◌+◌, ◌<◌}
use mathlib.Core.Path.{◌≡◌, refl, sym, ap, ◌∙◌, subst}
use mathlib.Core.Logic.{◌⊎◌, inl, inr}
use native.Mathlib.Omega.{arith}
use denote.Param.Members.{Mut, Called}
use Rattle.std.specs.Prelude.{Option, None, Some, MatchOption, IfSome, IsSomeAnd, IsTrue, option_map}
use Rattle.std.specs.Iterator.Runs.{Run, SomeRun, ItemsCountUp, CallKeepsClosure, AllItemsGive, IsFirstToGive}
use Rattle.std.specs.Option.{option_or}
use Rattle.laws.proofs.Tests.{below_or_last}
use Rattle.fill.specs.declared.Failure.{Failure}
use Rattle.fill.specs.Judge.{first_of, failing_in_rows}

never : {A : Type 0} (v : Failure) → Some v ≡ None → A
never v e = cc

pub first_none : (f : ℕ → Option Failure) (k : ℕ) → first_of f k ≡ None → (i : ℕ) → i < k → f i ≡ None
unfolding first_of
first_none f zero e i h = absurd (omega arith)
first_none f (suc k) e i h = go (first_of f k) refl (first_none f k) (below_or_last i k h) e
  where
    go : (o : Option Failure) → first_of f k ≡ o → (first_of f k ≡ None → (i : ℕ) → i < k → f i ≡ None) → (i < k) ⊎ (i ≡ k) → option_or o (f k) ≡ None → f i ≡ None
    go None p ih (inl l) q = ih p i l
    go None p ih (inr l) q = ap f l ∙ q
    go (Some v) p ih l q = never v q

-- where none fails, none is first
pub none_first : (f : ℕ → Option Failure) (k : ℕ) → ((i : ℕ) → i < k → f i ≡ None) → first_of f k ≡ None
unfolding first_of
none_first f zero h = refl
none_first f (suc k) h = ap (λ (o : Option Failure). option_or o (f k)) (none_first f k (λ i l. h i (omega arith))) ∙ h k (omega arith)

-- where the first k do not fail and the next does, it is the first of any more
pub found_more : (f : ℕ → Option Failure) (k m : ℕ) (v : Failure) → first_of f k ≡ None → f k ≡ Some v → k < m → first_of f m ≡ Some v
unfolding first_of
found_more f k zero v e h l = absurd (omega arith)
found_more f k (suc m) v e h l = go (below_or_last k m l) (found_more f k m v e h)
  where
    go : (k < m) ⊎ (k ≡ m) → (k < m → first_of f m ≡ Some v) → option_or (first_of f m) (f m) ≡ Some v
    go (inl l) ih = ap (λ (o : Option Failure). option_or o (f m)) (ih l)
    go (inr p) ih = ap (λ (i : ℕ). option_or (first_of f i) (f i)) (sym p) ∙ ap (λ (o : Option Failure). option_or o (f k)) e ∙ h

-- a failing number with none before it
pub record FirstAt (f : ℕ → Option Failure) (k : ℕ) (v : Failure) : Type 0 where
  pub at : ℕ
  pub within : at < k
  pub here : f at ≡ Some v
  pub before : (i : ℕ) → i < at → f i ≡ None

pub first_found : (f : ℕ → Option Failure) (k : ℕ) (v : Failure) → first_of f k ≡ Some v → FirstAt f k v
unfolding first_of
first_found f zero v e = never v (sym e)
first_found f (suc k) v e = go (first_of f k) refl (first_found f k v) e
  where
    go : (o : Option Failure) → first_of f k ≡ o → (first_of f k ≡ Some v → FirstAt f k v) → option_or o (f k) ≡ Some v → FirstAt f (suc k) v
    go None p ih q = record { at = k; within = omega arith; here = q; before = first_none f k p }
    go (Some w) p ih q =
        let found = ih (p ∙ q) in
        let l : found.at < k = found.within in
        record { at = found.at; within = omega arith; here = found.here; before = found.before }

-- what `find_map` gives over 0, …, n − 1, by a closure that computes f
module _ {F : Type 0} (g : Mut F (ℕ × Unit {0}) (Option Failure)) (by : F) (f : ℕ → Option Failure) (n : ℕ)
    (computes : (x : ℕ) (v : Option Failure) (q : F) → Called g by (x, tt) v q → (q ≡ by) × (v ≡ f x)) where
  keeps : CallKeepsClosure g by
  keeps a v q c = (computes a.0 v q c).0

  module _ {S : Type 0} {steps : S → Option ℕ → S → Type 0} (p : Run steps) (u : ItemsCountUp p 0 n) where
    place : (k : ℕ) → k < p.len → p.at k ≡ Some k
    place k h = go (p.at k) (u.3 k h)
      where
        go : (o : Option ℕ) → option_map (λ y. y) o ≡ Some (0 + k) → o ≡ Some k
        go None e = cc
        go (Some x) e = let q : x ≡ 0 + k = cc in ap Some (omega arith)

    given : (k : ℕ) (v : Option Failure) → k < p.len → IfSome (p.at k) (λ x. Called g by (x, tt) v by) → f k ≡ v
    given k v h c = sym (computes k v by (subst (λ (o : Option ℕ). IfSome o (λ x. Called g by (x, tt) v by)) (place k h) c)).1

    at_hit : (k : ℕ) (v : Option Failure) → k < p.len → IsSomeAnd (p.at k) (λ x. Called g by (x, tt) v by) → f k ≡ v
    at_hit k v h c = sym (computes k v by (subst (λ (o : Option ℕ). IsSomeAnd o (λ x. Called g by (x, tt) v by)) (place k h) c)).1

  pub mapped : {S : Type 0} {steps : S → Option ℕ → S → Type 0} (s : S) (r : Option Failure) → ((p : Run steps) → p.from ≡ s → ItemsCountUp p 0 n) →
      SomeRun steps s
      (λ p. MatchOption r (IsTrue p.whole × AllItemsGive p g by None)
      (λ y. (i : ℕ) × (i < p.len) × (p.len ≡ i + 1) × IsFirstToGive p g by (Some y) None i)) →
      r ≡ first_of f n
  mapped s r counts (p, e, h) = go r h
    where
      u : ItemsCountUp p 0 n
      u = counts p e

      go : (r : Option Failure) →
          MatchOption r (IsTrue p.whole × AllItemsGive p g by None) (λ y. (i : ℕ) × (i < p.len) × (p.len ≡ i + 1) × IsFirstToGive p g by (Some y) None i) →
          r ≡ first_of f n
      go None (whole, all) = sym (none_first f n (λ k l. given p u k None (omega (arith, u.1 whole)) (all keeps k)))
      go (Some y) (i, l, m, first) =
          let found = first keeps in
          sym (found_more f i n y (none_first f i (λ k j. at_hit p u k None (omega arith) (found.1 k j))) (at_hit p u i (Some y) l found.0) (omega (arith, u.0)))

-- a search that looks at the same starts finds the same
pub first_cong : (f g : ℕ → Option Failure) (k : ℕ) → ((i : ℕ) → i < k → f i ≡ g i) → first_of f k ≡ first_of g k
unfolding first_of
first_cong f g zero h = refl
first_cong f g (suc k) h =
    ap (λ (o : Option Failure). option_or o (f k)) (first_cong f g k (λ i l. h i (omega arith))) ∙ ap (λ (o : Option Failure). option_or (first_of g k) o) (h k (omega arith))

pub rows_cong : (f g : ℕ → ℕ → Option Failure) (k m : ℕ) → ((i j : ℕ) → i < k → j < m → f i j ≡ g i j) → failing_in_rows f k m ≡ failing_in_rows g k m
rows_cong f g k m h =
    first_cong (λ j. first_of (λ i. f i j) k) (λ j. first_of (λ i. g i j) k) m (λ j l. first_cong (λ i. f i j) (λ i. g i j) k (λ i u. h i j u l))

pub rows_none : (f : ℕ → ℕ → Option Failure) (k m : ℕ) → failing_in_rows f k m ≡ None → (i j : ℕ) → i < k → j < m → f i j ≡ None
rows_none f k m e i j h l = first_none (λ x. f x j) k (first_none (λ y. first_of (λ x. f x y) k) m e j l) i h

-- a failing start with none before it: none in an earlier row, none earlier in its own
pub record First (f : ℕ → ℕ → Option Failure) (k m : ℕ) (v : Failure) : Type 0 where
  pub column : ℕ
  pub row : ℕ
  pub across : column < k
  pub down : row < m
  pub here : f column row ≡ Some v
  pub rows_before : (i j : ℕ) → i < k → j < row → f i j ≡ None
  pub columns_before : (i : ℕ) → i < column → f i row ≡ None

pub rows_found : (f : ℕ → ℕ → Option Failure) (k m : ℕ) (v : Failure) → failing_in_rows f k m ≡ Some v → First f k m v
rows_found f k m v e =
    let in_rows = first_found (λ j. first_of (λ i. f i j) k) m v e in
    let j : ℕ = in_rows.at in
    let in_row = first_found (λ i. f i j) k v in_rows.here in
    record {
      column = in_row.at;
      row = j;
      across = in_row.within;
      down = in_rows.within;
      here = in_row.here;
      rows_before = λ i y h l. first_none (λ x. f x y) k (in_rows.before y l) i h;
      columns_before = in_row.before;
    }
