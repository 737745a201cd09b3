-- A number's text, and a pattern's, byte by byte of the pattern.
use Prim.Native.Nat.{ℕ, ◌+◌, ◌^◌, ◌≤◌, ◌<◌}
use mathlib.Core.Path.{◌≡◌, refl, sym, ap, ap₂, ◌∙◌}
use mathlib.Core.Bool.{true}
use mathlib.Core.List.{List, [], ◌∷◌, ◌++◌, append_assoc, append-nil}
use mathlib.Core.Logic.{◌⊎◌, inl, inr}
use native.Mathlib.Numerals.{add-one}
use native.Mathlib.Omega.{arith}
use borrow.Author.Tests.{eq-eqb, ne_eqb}
use lib.ListN.{length, get_or, drop, length-append, drop_of_length-le}
use lib.Seq.{drop-cons}
use Rattle.laws.proofs.Tests.{both}
use Rattle.std.specs.Fmt.{decimal as printed}
use Rattle.std.proofs.lemmas.List.{nil_from_length}
use Rattle.std.proofs.lemmas.Fmt.{decimal-digits_value}
use Rattle.std.proofs.lemmas.Str.Parse.{IsDigitsTest, FoldsDigits, numerals_by_fold}
use Rattle.spelling.specs.Decimal.{decimal, is_digit, value_from}
use Rattle.spelling.specs.Pattern.{spell}
use Rattle.spelling.proofs.Patterns.{spell_place, spell_byte, spell_none}
use Rattle.spelling.proofs.Numerals.{all_digits, digit_from, is_digit_lem, all_decimal, value_decimal, decimal_nonempty, decimal_small, first_zero}

-- ---- a number is spelled as std prints it

are_digits : IsDigitsTest (λ ds. all_digits ds ≡ true)
unfolding all_digits
are_digits =
    record {
      empty = refl;
      parts = λ c cs e. let k = both (is_digit c) (all_digits cs) e in (digit_from c k.0, k.1);
      more = λ c cs h e. rw (is_digit_lem c h.0 h.1) e;
    }

folds : FoldsDigits value_from
unfolding value_from
folds = record { empty = λ n. refl; more = λ n c cs h. ap (λ (m : ℕ). value_from m cs) (omega arith) }

pub printed_so : (n : ℕ) → n < 2 ^ 64 → printed n ≡ decimal n
printed_so n h =
    sym (ap printed (value_decimal n))
    ∙ decimal-digits_value (numerals_by_fold (λ ds. all_digits ds ≡ true) are_digits value_from folds) (decimal n) (all_decimal n)
    (omega (arith, decimal_nonempty n)) short (omega (arith, value_decimal n))
  where
    short : get_or (decimal n) 0 0 ≡ 48 → length (decimal n) ≡ 1
    short z = ap length (decimal_small n (omega (arith, (first_zero n).0 z)))

-- ---- a pattern, byte by byte

-- what the rest of a pattern spells with the numbers left, behind a text, is what the pattern spells with all numbers behind the text before
pub record WrittenTo (p v before ns : List ℕ) (j : ℕ) (text : List ℕ) : Type 0 where
  pub whole : text ++ spell (drop j p) ns ≡ before ++ spell p v

module _ {p v before ns : List ℕ} {j : ℕ} {text : List ℕ} (inv : WrittenTo p v before ns j text) where
  module _ (u ms : List ℕ) (piece : spell (drop j p) ns ≡ u ++ spell (drop (j + 1) p) ms) where
    written : WrittenTo p v before ms (j + 1) (text ++ u)
    written = record { whole = append_assoc text u (spell (drop (j + 1) p) ms) ∙ ap (λ (t : List ℕ). text ++ t) (sym piece) ∙ inv.whole }

    fits : {room : ℕ} → length before + length (spell p v) ≤ room → length text + length u ≤ room
    fits h =
        omega (
          arith,
          ap length written.whole,
          length-append (text ++ u) (spell (drop (j + 1) p) ms),
          length-append text u,
          length-append before (spell p v),
        )

  module _ (more : j < length p) where
    next : drop j p ≡ get_or p j 0 ∷ drop (j + 1) p
    next = rw (add-one j) (drop-cons p j 0 more)

    module _ {n : ℕ} {ms : List ℕ} (first : ns ≡ n ∷ ms) (place : get_or p j 0 ≡ 35) where
      number_next : spell (drop j p) ns ≡ decimal n ++ spell (drop (j + 1) p) ms
      number_next = ap₂ spell next first ∙ spell_place (get_or p j 0) (drop (j + 1) p) (eq-eqb (get_or p j 0) 35 place) n ms

      pub number_fits : {room : ℕ} → length before + length (spell p v) ≤ room → length text + length (decimal n) ≤ room
      number_fits h = fits (decimal n) ms number_next h

      pub number_written : WrittenTo p v before ms (j + 1) (text ++ decimal n)
      number_written = written (decimal n) ms number_next

    -- no number is left, or none is asked for
    module _ (none : (length ns ≡ 0) ⊎ (get_or p j 0 ≡ 35 → ⊥)) where
      byte_next : spell (drop j p) ns ≡ (get_or p j 0 ∷ []) ++ spell (drop (j + 1) p) ns
      byte_next = ap (λ (q : List ℕ). spell q ns) next ∙ go none
        where
          go : (length ns ≡ 0) ⊎ (get_or p j 0 ≡ 35 → ⊥) → spell (get_or p j 0 ∷ drop (j + 1) p) ns ≡ get_or p j 0 ∷ spell (drop (j + 1) p) ns
          go (inl h) = rw (nil_from_length ns h) (spell_none (get_or p j 0) (drop (j + 1) p))
          go (inr h) = spell_byte (get_or p j 0) (drop (j + 1) p) (ne_eqb (get_or p j 0) 35 h) ns

      pub byte_fits : {room : ℕ} → length before + length (spell p v) ≤ room → length text < room
      byte_fits h = omega (arith, fits (get_or p j 0 ∷ []) ns byte_next h)

      pub byte_written : WrittenTo p v before ns (j + 1) (text ++ (get_or p j 0 ∷ []))
      byte_written = written (get_or p j 0 ∷ []) ns byte_next

  pub all_written : length p ≤ j → text ≡ before ++ spell p v
  unfolding spell
  all_written h = sym (append-nil text) ∙ ap (λ (q : List ℕ). text ++ spell q ns) (sym (drop_of_length-le p h)) ∙ inv.whole
