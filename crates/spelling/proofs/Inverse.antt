-- Both ways that `read_as` is the inverse of `spell`: what is read is spelled so, and what is spelled so is read.
use Prim.Native.Nat.{ℕ, suc, ◌-◌, ◌≤◌}
use mathlib.Core.Path.{◌≡◌, refl, sym, ap, ap₂, ◌∙◌}
use mathlib.Core.Bool.{Bool, true, false, not, ◌&&◌, ◌||◌}
use mathlib.Core.List.{List, [], ◌∷◌, ◌++◌, append-nil}
use Rattle.std.proofs.Common.{Option, Some, None, option_map}
use native.Mathlib.Omega.{arith}
use borrow.Author.Tests.{leb-true, eqb-true, eqb-false, not-true}
use lib.Dec.{leb, eqb}
use lib.ListN.{length, replicate}
use Rattle.laws.proofs.Tests.{both}
use Rattle.spelling.specs.Decimal.{decimal, EachShort, is_digit, digits_of, past_digits, value_from, same_bytes, is_numeral}
use Rattle.spelling.specs.Pattern.{is_place, spell, with_number, read_as}
use Rattle.spelling.specs.Scanning.{places, padded}
use Rattle.spelling.proofs.Numerals.{value_decimal, all_decimal, decimal_numeral, same_equal, digits_append, digits_then_past}
use Rattle.spelling.proofs.Patterns.{places_place, spell_place, read_number, read_no_number, places_byte, spell_byte, read_same, read_other, read_short}

-- ---- what is read is spelled so

pub record Spelled (most : ℕ) (p line ns : List ℕ) : Type 0 where
  pub spelling : line ≡ spell p ns
  pub count : length ns ≡ places p
  pub short : EachShort most ns

abbrev Right : (most : ℕ) (p line : List ℕ) → Option (List ℕ) → Type 0
Right most p line None = Unit {0}
Right most p line (Some ns) = Spelled most p line ns

right_number : (most c : ℕ) (p s : List ℕ) → is_place c ≡ true → is_numeral most (digits_of s) ≡ true → (o : Option (List ℕ)) →
    Right most p (past_digits s) o → Right most (c ∷ p) s (with_number (value_from 0 (digits_of s)) o)
right_number most c p s e g None r = tt
right_number most c p s e g (Some ms) r =
    record {
      spelling = sym (digits_then_past s) ∙ ap₂ ◌++◌ (sym digits) r.spelling ∙ sym (spell_place c p e v ms);
      count = ap suc r.count ∙ sym (places_place c p e);
      short = (omega (arith, leb-true (length (digits_of s)) most k.0, ap length digits), r.short);
    }
  where
    v : ℕ
    v = value_from 0 (digits_of s)

    k : (leb (length (digits_of s)) most ≡ true) × (same_bytes (decimal (value_from 0 (digits_of s))) (digits_of s) ≡ true)
    k = both (leb (length (digits_of s)) most) (same_bytes (decimal (value_from 0 (digits_of s))) (digits_of s)) g

    digits : decimal (value_from 0 (digits_of s)) ≡ digits_of s
    digits = same_equal (decimal (value_from 0 (digits_of s))) (digits_of s) k.1

right_byte : (most c : ℕ) (p s : List ℕ) → is_place c ≡ false → (b : ℕ) → b ≡ c → (o : Option (List ℕ)) → Right most p s o → Right most (c ∷ p) (b ∷ s) o
right_byte most c p s e b h None r = tt
right_byte most c p s e b h (Some ms) r =
    record { spelling = ap₂ ◌∷◌ h r.spelling ∙ sym (spell_byte c p e ms); count = r.count ∙ sym (places_byte c p e); short = r.short }

right_step : (most c : ℕ) (p : List ℕ) → ((t : List ℕ) → Right most p t (read_as most p t)) → (x : Bool) → is_place c ≡ x → (s : List ℕ) →
    Right most (c ∷ p) s (read_as most (c ∷ p) s)
right_step most c p ih true e s = go (is_numeral most (digits_of s)) refl
  where
    go : (y : Bool) → is_numeral most (digits_of s) ≡ y → Right most (c ∷ p) s (read_as most (c ∷ p) s)
    go true g = rw (read_number c p e most s g) (right_number most c p s e g (read_as most p (past_digits s)) (ih (past_digits s)))
    go false g = rw (read_no_number c p e most s g) tt
right_step most c p ih false e [] = rw (read_short most c p) tt
right_step most c p ih false e (b ∷ s) = go (eqb b c) refl
  where
    go : (y : Bool) → eqb b c ≡ y → Right most (c ∷ p) (b ∷ s) (read_as most (c ∷ p) (b ∷ s))
    go true g = let h = eqb-true b c g in rw (read_same c p e most b s h) (right_byte most c p s e b h (read_as most p s) (ih s))
    go false g = rw (read_other c p e most b s (eqb-false b c g)) tt

right : (most : ℕ) (p s : List ℕ) → Right most p s (read_as most p s)
unfolding read_as spell places
right most [] [] = record { spelling = refl; count = refl; short = tt }
right most [] (b ∷ s) = tt
right most (c ∷ p) s = right_step most c p (λ t. right most p t) (is_place c) refl s

pub read_is_spelled : (most : ℕ) (p line ns : List ℕ) → read_as most p line ≡ Some ns → Spelled most p line ns
read_is_spelled most p line ns e = rw e at (right most p line)

-- a table with as many places as the pattern has holds the numbers alone
pub whole_table : (most n : ℕ) (p line : List ℕ) → places p ≡ n → option_map (padded n) (read_as most p line) ≡ read_as most p line
whole_table most n p line e = go (read_as most p line) (right most p line)
  where
    go : (o : Option (List ℕ)) → Right most p line o → option_map (padded n) o ≡ o
    go None r = refl
    go (Some ns) r =
        let none : n - length ns ≡ 0 = omega (arith, e, r.count) in
        ap {B = Option (List ℕ)} Some (ap (λ (k : ℕ). ns ++ replicate k 0) none ∙ append-nil ns)

-- ---- what is spelled so is read

-- a number ends where the rest of a pattern begins: with no digit, nor another number
abbrev pub ends_number : List ℕ → Bool
ends_number [] = true
ends_number (d ∷ p) = not (is_digit d) && not (is_place d)

-- every number of a pattern ends where the rest begins
unfoldable pub well_formed : List ℕ → Bool
well_formed [] = true
well_formed (c ∷ p) = (not (is_place c) || ends_number p) && well_formed p

pub ends_digits : (p ns : List ℕ) → ends_number p ≡ true → (digits_of (spell p ns) ≡ []) × (past_digits (spell p ns) ≡ spell p ns)
unfolding digits_of past_digits spell
ends_digits [] ns h = (refl, refl)
ends_digits (d ∷ p) ns h = rw (spell_byte d p (not-true (is_place d) k.1) ns) (rw (other, digits_of), rw (other, past_digits))
  where
    k : (not (is_digit d) ≡ true) × (not (is_place d) ≡ true)
    k = both (not (is_digit d)) (not (is_place d)) h

    other : is_digit d ≡ false
    other = not-true (is_digit d) k.0

-- a number's spelling, read where a number ends
pub read_decimal : (most c : ℕ) (p : List ℕ) → is_place c ≡ true → (n : ℕ) (t : List ℕ) → length (decimal n) ≤ most → digits_of t ≡ [] → past_digits t ≡ t →
    read_as most (c ∷ p) (decimal n ++ t) ≡ with_number n (read_as most p t)
read_decimal most c p e n t h d k =
    read_number c p e most (decimal n ++ t) (rw digits (decimal_numeral most n h)) ∙ rw (digits, past, value_decimal n)
  where
    digits : digits_of (decimal n ++ t) ≡ decimal n
    digits = (digits_append (decimal n) t (all_decimal n)).0 ∙ ap (λ (u : List ℕ). decimal n ++ u) d ∙ append-nil (decimal n)

    past : past_digits (decimal n ++ t) ≡ t
    past = (digits_append (decimal n) t (all_decimal n)).1 ∙ k

-- one byte more in front of a pattern whose spellings are read
spelled_step : (most c : ℕ) (p : List ℕ) → ((ns : List ℕ) → length ns ≡ places p → EachShort most ns → read_as most p (spell p ns) ≡ Some ns) →
    (x : Bool) → is_place c ≡ x → (not x || ends_number p) ≡ true → (ns : List ℕ) → length ns ≡ places (c ∷ p) → EachShort most ns →
    read_as most (c ∷ p) (spell (c ∷ p) ns) ≡ Some ns
spelled_step most c p ih true e w [] l b = absurd (omega (arith, places_place c p e))
spelled_step most c p ih true e w (n ∷ ns) l b =
    rw (spell_place c p e n ns)
    (read_decimal most c p e n (spell p ns) b.0 (ends_digits p ns w).0 (ends_digits p ns w).1
    ∙ rw (ih ns (omega (arith, places_place c p e)) b.1))
spelled_step most c p ih false e w ns l b =
    rw (spell_byte c p e ns) (read_same c p e most c (spell p ns) refl ∙ ih ns (l ∙ places_byte c p e) b)

pub spelled_is_read : (most : ℕ) (p ns : List ℕ) → well_formed p ≡ true → length ns ≡ places p → EachShort most ns →
    read_as most p (spell p ns) ≡ Some ns
unfolding read_as spell well_formed places
spelled_is_read most [] [] w l b = refl
spelled_is_read most [] (n ∷ ns) w l b = absurd (omega arith)
spelled_is_read most (c ∷ p) ns w l b =
    let k = both (not (is_place c) || ends_number p) (well_formed p) w in
    spelled_step most c p (λ ms lm bm. spelled_is_read most p ms k.1 lm bm) (is_place c) refl k.0 ns l b
