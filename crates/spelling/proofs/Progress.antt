-- A line read against a pattern, byte by byte of the pattern.
use Prim.Native.Nat.{ℕ, ◌+◌, ◌-◌, ◌≤◌, ◌<◌}
use mathlib.Core.Path.{◌≡◌, refl, sym, ap, ap₂, ◌∙◌}
use mathlib.Core.Bool.{true, false}
use mathlib.Core.List.{List, [], ◌∷◌, ◌++◌, append_assoc, append-nil}
use native.Mathlib.Numerals.{add-one}
use native.Mathlib.Omega.{arith}
use borrow.Author.Tests.{eq-eqb, ne_eqb}
use lib.Dec.{eqb}
use lib.Pointwise.{pointwise}
use lib.ListN.{length, get_or, set, take, drop, replicate, length-set, drop_of_length-le}
use lib.Seq.{drop-cons, drop-drop, take-suc-set}
use Rattle.std.proofs.Common.{Option, Some, None, option_map}
use Rattle.std.proofs.lemmas.List.{nil_from_length, take-append-drop, length-take-le, drop-set-lt, drop-replicate}
use Rattle.spelling.specs.Decimal.{digits_of, past_digits, value_from, is_numeral}
use Rattle.spelling.specs.Scanning.{places, padded}
use Rattle.spelling.specs.Pattern.{is_place, with_number, read_as}
use Rattle.spelling.proofs.Patterns.{places_place, places_byte, read_number, read_no_number, read_byte, read_no_byte, read_over}

-- numbers in front of what is read after them
abbrev pub prefixed : List ℕ → Option (List ℕ) → Option (List ℕ)
prefixed ns o = option_map (λ (ms : List ℕ). ns ++ ms) o

-- the first j bytes of a pattern have been read, the numbers among them into a table of n places, and the rest of the line is left
pub record ReadTo (most n : ℕ) (p s table : List ℕ) (count j : ℕ) (rest : List ℕ) : Type 0 where
  pub room : places p ≤ n
  pub sized : length table ≡ n
  pub zeros : drop count table ≡ replicate (n - count) 0
  pub left : count + places (drop j p) ≡ places p
  pub whole : read_as most p s ≡ prefixed (take count table) (read_as most (drop j p) rest)

prefixed_more : (ns : List ℕ) (v : ℕ) (o : Option (List ℕ)) → prefixed ns (with_number v o) ≡ prefixed (ns ++ (v ∷ [])) o
prefixed_more ns v None = refl
prefixed_more ns v (Some ms) = ap {B = Option (List ℕ)} Some (sym (append_assoc ns (v ∷ []) ms))

module _ {most n : ℕ} {p s table : List ℕ} {count j : ℕ} {rest : List ℕ} (inv : ReadTo most n p s table count j rest) where
  -- what is handed back
  abbrev answer : Option (List ℕ)
  answer = option_map (padded n) (read_as most p s)

  refused : read_as most (drop j p) rest ≡ None → None ≡ answer
  refused e = sym (ap (option_map (padded n)) (inv.whole ∙ ap (prefixed (take count table)) e))

  module _ (more : j < length p) where
    next : drop j p ≡ get_or p j 0 ∷ drop (j + 1) p
    next = rw (add-one j) (drop-cons p j 0 more)

    module _ (place : get_or p j 0 ≡ 35) where
      is_place_lem : is_place (get_or p j 0) ≡ true
      is_place_lem = eq-eqb (get_or p j 0) 35 place

      pub number_left : count < n
      number_left = omega (arith, inv.left, inv.room, ap places next, places_place (get_or p j 0) (drop (j + 1) p) is_place_lem)

      pub number_missing : is_numeral most (digits_of rest) ≡ false → None ≡ answer
      number_missing e =
          refused
          (ap (λ (q : List ℕ). read_as most q rest) next
          ∙ read_no_number (get_or p j 0) (drop (j + 1) p) is_place_lem most rest e)

      pub number_read : is_numeral most (digits_of rest) ≡ true → (v : ℕ) → v ≡ value_from 0 (digits_of rest) →
          ReadTo most n p s (set table count v) (count + 1) (j + 1) (past_digits rest)
      number_read e v is =
          record {
            room = inv.room;
            sized = length-set table count v ∙ inv.sized;
            zeros =
                drop-set-lt (count + 1) table count v (omega arith) ∙ sym (drop-drop 1 count table) ∙ ap (drop 1) inv.zeros
                ∙ drop-replicate 1 (n - count) 0 ∙ ap (λ (k : ℕ). replicate k 0) (omega arith);
            left = omega (arith, inv.left, ap places next, places_place (get_or p j 0) (drop (j + 1) p) is_place_lem);
            whole =
                inv.whole ∙ ap (prefixed (take count table)) step
                ∙ prefixed_more (take count table) v (read_as most (drop (j + 1) p) (past_digits rest))
                ∙ ap (λ (ns : List ℕ). prefixed ns (read_as most (drop (j + 1) p) (past_digits rest))) entered;
          }
        where
          entered : take count table ++ (v ∷ []) ≡ take (count + 1) (set table count v)
          entered = rw (add-one count) (sym (take-suc-set table count v (omega (arith, number_left, inv.sized))))

          step : read_as most (drop j p) rest ≡ with_number v (read_as most (drop (j + 1) p) (past_digits rest))
          step =
              ap (λ (q : List ℕ). read_as most q rest) next
              ∙ read_number (get_or p j 0) (drop (j + 1) p) is_place_lem most rest e
              ∙ ap (λ (n : ℕ). with_number n (read_as most (drop (j + 1) p) (past_digits rest))) (sym is)

    module _ (byte : get_or p j 0 ≡ 35 → ⊥) where
      is_byte : is_place (get_or p j 0) ≡ false
      is_byte = ne_eqb (get_or p j 0) 35 byte

      pub byte_missing : pointwise eqb (take 1 rest) (get_or p j 0 ∷ []) ≡ false → None ≡ answer
      byte_missing e =
          refused
          (ap (λ (q : List ℕ). read_as most q rest) next
          ∙ read_no_byte (get_or p j 0) (drop (j + 1) p) is_byte most rest e)

      pub byte_read : pointwise eqb (take 1 rest) (get_or p j 0 ∷ []) ≡ true → ReadTo most n p s table count (j + 1) (drop 1 rest)
      byte_read e =
          record {
            room = inv.room;
            sized = inv.sized;
            zeros = inv.zeros;
            left = omega (arith, inv.left, ap places next, places_byte (get_or p j 0) (drop (j + 1) p) is_byte);
            whole =
                inv.whole
                ∙ ap (prefixed (take count table))
                (ap (λ (q : List ℕ). read_as most q rest) next
                ∙ read_byte (get_or p j 0) (drop (j + 1) p) is_byte most rest e);
          }

  module _ (over : length p ≤ j) where
    done : drop j p ≡ []
    done = drop_of_length-le p over

    pub bytes_left : (length rest ≡ 0 → ⊥) → None ≡ answer
    bytes_left n = refused (ap (λ (q : List ℕ). read_as most q rest) done ∙ read_over most rest n)

    pub all_read : length rest ≡ 0 → Some table ≡ answer
    unfolding read_as places
    all_read e =
        sym
        (ap (option_map (padded n)) (inv.whole ∙ ap (prefixed (take count table)) (ap₂ (read_as most) done empty))
        ∙ ap {B = Option (List ℕ)} Some (ap (padded n) (append-nil (take count table)) ∙ filled))
      where
        empty : rest ≡ []
        empty = nil_from_length rest e

        counted : length (take count table) ≡ count
        counted = length-take-le count table (omega (arith, inv.left, inv.room, inv.sized, ap places done))

        filled : padded n (take count table) ≡ table
        filled = ap (λ (k : ℕ). take count table ++ replicate (n - k) 0) counted ∙ ap (λ (l : List ℕ). take count table ++ l) (sym inv.zeros) ∙ take-append-drop count table
