-- What the loops of a pass need: each turn is one start, or one row, of the definition.
use Prim.Native.Nat.{ℕ, zero, suc, ◌+◌, ◌-◌, ◌*◌, ◌≤◌, ◌<◌}
use mathlib.Core.Path.{◌≡◌, refl, sym, ap, ap₂, ◌∙◌, subst}
use mathlib.Core.Bool.{Bool}
use mathlib.Core.List.{List}
use native.Mathlib.Nat.{div-le_self, mul-le-mul}
use native.Mathlib.Numerals.{add-one}
use native.Mathlib.Omega.{arith}
use Rattle.geometry.specs.declared.Spot.{Spot}
use Rattle.geometry.specs.declared.Sense.{Sense}
use Rattle.geometry.specs.Extreme.{spot_at, NoBetter}
use Rattle.geometry.proofs.Extremes.{better_self}
use Rattle.levels.specs.declared.grid.Grid.{Grid}
use Rattle.levels.specs.Sizes.{starts_room, level_room, kept_room}
use Rattle.levels.specs.Passes.{row_seen, rows_seen, PassLaws}
use Rattle.levels.specs.Laws.{no_better_trans}
use Rattle.levels.proofs.Starts.{start_fits}

-- ---- bounds

pub starts_small : (g : Grid) → g.starts ≤ starts_room
starts_small g = omega (arith, g.count, g.small, div-le_self (g.size - g.window) g.step)

pub start_inside : (g : Grid) (i : ℕ) → i < g.starts → i * g.step + g.window ≤ g.size
start_inside g i h = omega (arith, start_fits g.size g.window g.step i g.some_step (rw g.count at h), g.inside)

pub row_place : (g : Grid) (j : ℕ) → j ≤ g.starts → j * g.starts ≤ level_room
row_place g j h = mul-le-mul {n₂ = starts_room} (omega (arith, starts_small g)) (starts_small g)

-- ---- what the laws of a pass give of a row and of all rows

module _ {S : Type 0} {best counted : S → ℕ} {Able : Sense → S → Type 0} {looked : Sense → S × List Bool → ℕ → Spot → S × List Bool}
    (laws : PassLaws best counted Able looked) (s : Sense) (f : ℕ → ℕ → ℕ) (t : ℕ) where
  row_no_worse : (y at k : ℕ) (z : S × List Bool) → NoBetter s (best z.0) (best (row_seen (looked s) f t y at k z).0)
  unfolding row_seen
  row_no_worse y at zero z = better_self s (best z.0)
  row_no_worse y at (suc k) z =
      no_better_trans s _ _ _ (row_no_worse y at k z) (laws.no_worse s (row_seen (looked s) f t y at k z) (at + k) (spot_at f (k * t) y))

  row_counts : (y at k : ℕ) (z : S × List Bool) → counted (row_seen (looked s) f t y at k z).0 ≤ counted z.0 + k
  unfolding row_seen
  row_counts y at zero z = omega arith
  row_counts y at (suc k) z = omega (arith, row_counts y at k z, laws.counts s (row_seen (looked s) f t y at k z) (at + k) (spot_at f (k * t) y))

  row_able : (y at k : ℕ) (z : S × List Bool) → Able s z.0 → Able s (row_seen (looked s) f t y at k z).0
  unfolding row_seen
  row_able y at zero z h = h
  row_able y at (suc k) z h = laws.able s (row_seen (looked s) f t y at k z) (at + k) (spot_at f (k * t) y) (row_able y at k z h)

  rows_no_worse : (k m : ℕ) (z : S × List Bool) → NoBetter s (best z.0) (best (rows_seen (looked s) f t k m z).0)
  unfolding rows_seen
  rows_no_worse k zero z = better_self s (best z.0)
  rows_no_worse k (suc m) z = no_better_trans s _ _ _ (rows_no_worse k m z) (row_no_worse (m * t) (m * k) k (rows_seen (looked s) f t k m z))

  rows_count : (k m : ℕ) (z : S × List Bool) → counted (rows_seen (looked s) f t k m z).0 ≤ counted z.0 + m * k
  unfolding rows_seen
  rows_count k zero z = omega arith
  rows_count k (suc m) z = omega (arith, rows_count k m z, row_counts (m * t) (m * k) k (rows_seen (looked s) f t k m z))

  rows_able : (k m : ℕ) (z : S × List Bool) → Able s z.0 → Able s (rows_seen (looked s) f t k m z).0
  unfolding rows_seen
  rows_able k zero z h = h
  rows_able k (suc m) z h = row_able (m * t) (m * k) k (rows_seen (looked s) f t k m z) (rows_able k m z h)

  -- ---- one start more, looked at or passed over

  module _ (y at i : ℕ) (before z : S × List Bool) (so_far : z ≡ row_seen (looked s) f t y at i before) where
    pub row_looks : (area : ℕ) (r : S × List Bool) → area ≡ f (i * t) y → r ≡ looked s z (at + i) (record { area = area; x = i * t; y = y }) →
        r ≡ row_seen (looked s) f t y at (i + 1) before
    unfolding row_seen
    row_looks area r e h =
        h ∙ ap₂ (λ u a. looked s u (at + i) (record { area = a; x = i * t; y = y })) so_far e ∙ ap (λ k. row_seen (looked s) f t y at k before) (sym (add-one i))

    -- what is no better than the area before the row is no better than the one now
    row_no_better : (a : ℕ) → NoBetter s a (best before.0) → NoBetter s a (best z.0)
    row_no_better a h =
        no_better_trans s a (best before.0) (best z.0) h
        (subst (λ (u : S × List Bool). NoBetter s (best before.0) (best u.0)) (sym so_far) (row_no_worse y at i before))

    -- it is passed over where that does what looking at any window that is no better would do, and its area is no better
    pub row_skips : (r : S × List Bool) → ((seen : Spot) → NoBetter s seen.area (best z.0) → looked s z (at + i) seen ≡ r) →
        NoBetter s (f (i * t) y) (best before.0) → r ≡ row_seen (looked s) f t y at (i + 1) before
    row_skips r h l = row_looks (f (i * t) y) r refl (sym (h (spot_at f (i * t) y) (row_no_better (f (i * t) y) l)))

    pub row_few : counted before.0 ≤ level_room → i ≤ starts_room → counted z.0 ≤ kept_room
    row_few h k = omega (arith, ap (λ (u : S × List Bool). counted u.0) so_far, row_counts y at i before)

    pub row_asks : Able s before.0 → Able s z.0
    row_asks h = subst (λ (u : S × List Bool). Able s u.0) (sym so_far) (row_able y at i before h)

  -- ---- one row more

  module _ (k j : ℕ) (before z : S × List Bool) (so_far : z ≡ rows_seen (looked s) f t k j before) where
    pub rows_next : (r : S × List Bool) → r ≡ row_seen (looked s) f t (j * t) (j * k) k z → r ≡ rows_seen (looked s) f t k (j + 1) before
    unfolding rows_seen
    rows_next r h = h ∙ ap (row_seen (looked s) f t (j * t) (j * k) k) so_far ∙ ap (λ m. rows_seen (looked s) f t k m before) (sym (add-one j))

    pub rows_few : counted before.0 ≡ 0 → j * k ≤ level_room → counted z.0 ≤ level_room
    rows_few h l = omega (arith, ap (λ (u : S × List Bool). counted u.0) so_far, rows_count k j before)

    pub rows_ask : Able s before.0 → Able s z.0
    rows_ask h = subst (λ (u : S × List Bool). Able s u.0) (sym so_far) (rows_able k j before h)

    pub rows_no_better : (a : ℕ) → NoBetter s a (best before.0) → NoBetter s a (best z.0)
    rows_no_better a h =
        no_better_trans s a (best before.0) (best z.0) h
        (subst (λ (u : S × List Bool). NoBetter s (best before.0) (best u.0)) (sym so_far) (rows_no_worse k j before))
