-- Patterns that differ do not read each other's spellings.
use Prim.Native.Nat.{ℕ}
use mathlib.Core.Path.{◌≡◌, refl, ap, ◌∙◌}
use mathlib.Core.Bool.{Bool, true, false, not, ◌&&◌, false≢true}
use mathlib.Core.List.{List, [], ◌∷◌}
use Rattle.std.proofs.Common.{None}
use native.Mathlib.Omega.{arith}
use borrow.Author.Tests.{eqb-true, eqb-false, not-true}
use lib.Dec.{eqb}
use lib.ListN.{length}
use Rattle.laws.proofs.Tests.{both}
use Rattle.spelling.specs.Decimal.{EachShort}
use Rattle.spelling.specs.Pattern.{is_place, spell, with_number, read_as}
use Rattle.spelling.specs.Scanning.{places}
use Rattle.spelling.proofs.Patterns.{places_place, spell_place, places_byte, spell_byte, read_same, read_other}
use Rattle.spelling.proofs.Inverse.{ends_number, ends_digits, read_decimal}

-- two patterns differ in a byte, and up to it have their numbers at the same places
unfoldable pub clash : List ℕ → List ℕ → Bool
clash [] q = false
clash (c ∷ p) [] = false
clash (c ∷ p) (d ∷ q) =
    elim (is_place c) [
      | true ↦ is_place d && (ends_number q && clash p q)
      | false ↦ not (is_place d) && elim (eqb d c) [ true ↦ clash p q | false ↦ true ]
    ]

module _ (most c d : ℕ) (p q : List ℕ)
    (ih : (ns : List ℕ) → clash p q ≡ true → length ns ≡ places q → EachShort most ns → read_as most p (spell q ns) ≡ None) where
  -- a number at the same place of both
  clash_number : is_place c ≡ true → (is_place d && (ends_number q && clash p q)) ≡ true → (ns : List ℕ) → length ns ≡ places (d ∷ q) → EachShort most ns →
      read_as most (c ∷ p) (spell (d ∷ q) ns) ≡ None
  clash_number e t [] l b = absurd (omega (arith, places_place d q (both (is_place d) (ends_number q && clash p q) t).0))
  clash_number e t (n ∷ ns) l b =
      let k = both (is_place d) (ends_number q && clash p q) t in
      let r = both (ends_number q) (clash p q) k.1 in
      rw (spell_place d q k.0 n ns)
      (read_decimal most c p e n (spell q ns) b.0 (ends_digits q ns r.0).0 (ends_digits q ns r.0).1
      ∙ ap (with_number n) (ih ns r.1 (omega (arith, places_place d q k.0)) b.1))

  -- a byte of both
  clash_byte : is_place c ≡ false → (not (is_place d) && elim (eqb d c) as (λ x. Bool) [ true ↦ clash p q | false ↦ true ]) ≡ true → (ns : List ℕ) →
      length ns ≡ places (d ∷ q) → EachShort most ns → read_as most (c ∷ p) (spell (d ∷ q) ns) ≡ None
  clash_byte e t ns l b =
      let k = both (not (is_place d)) (elim (eqb d c) as (λ x. Bool) [ true ↦ clash p q | false ↦ true ]) t in
      let f = not-true (is_place d) k.0 in
      rw (spell_byte d q f ns) (go (eqb d c) refl k.1 (l ∙ places_byte d q f))
    where
      go : (x : Bool) → eqb d c ≡ x → elim x as (λ y. Bool) [ true ↦ clash p q | false ↦ true ] ≡ true → length ns ≡ places q →
          read_as most (c ∷ p) (d ∷ spell q ns) ≡ None
      go true h t m = read_same c p e most d (spell q ns) (eqb-true d c h) ∙ ih ns t m b
      go false h t m = read_other c p e most d (spell q ns) (eqb-false d c h)

pub clash_none : (most : ℕ) (p q ns : List ℕ) → clash p q ≡ true → length ns ≡ places q → EachShort most ns → read_as most p (spell q ns) ≡ None
unfolding clash
clash_none most [] q ns e l b = absurd (false≢true e)
clash_none most (c ∷ p) [] ns e l b = absurd (false≢true e)
clash_none most (c ∷ p) (d ∷ q) ns e l b = go (λ ms u m v. clash_none most p q ms u m v) (is_place c) refl e
  where
    go : ((ms : List ℕ) → clash p q ≡ true → length ms ≡ places q → EachShort most ms → read_as most p (spell q ms) ≡ None) → (x : Bool) → is_place c ≡ x →
        elim x as (λ y. Bool) [
          | true ↦ is_place d && (ends_number q && clash p q)
          | false ↦ not (is_place d) && elim (eqb d c) as (λ y. Bool) [ true ↦ clash p q | false ↦ true ]
        ]
        ≡ true →
        read_as most (c ∷ p) (spell (d ∷ q) ns) ≡ None
    go ih true h t = clash_number most c d p q ih h t ns l b
    go ih false h t = clash_byte most c d p q ih h t ns l b
