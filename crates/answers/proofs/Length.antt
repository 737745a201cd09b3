-- How long a spelled text can be: each number takes at most `number_room` digits, since it fits 64 bits.
use Prim.Native.Nat.{ℕ, suc, ◌+◌, ◌*◌, ◌^◌, ◌≤◌, ◌<◌}
use mathlib.Core.Path.{◌≡◌, refl}
use mathlib.Core.Bool.{Bool, true, false}
use mathlib.Core.List.{List, [], ◌∷◌}
use native.Mathlib.Omega.{arith}
use lib.ListN.{length, get_or, length-append}
use mir.Val.{Fits}
use mir.Syntax.{w64}
use Rattle.spelling.specs.Decimal.{decimal, EachShort}
use Rattle.spelling.specs.Pattern.{is_place, spell}
use Rattle.spelling.proofs.Numerals.{at_most_digits}
use Rattle.spelling.proofs.Patterns.{spell_place, spell_byte}
use Rattle.answers.specs.Room.{number_room}

number_length : (n : ℕ) → n < 2 ^ 64 → length (decimal n) ≤ number_room
number_length n h = (at_most_digits number_room n (omega arith)).1 (omega arith)

spell_length : (p ns : List ℕ) → EachShort number_room ns → length (spell p ns) ≤ length p + number_room * length ns
unfolding spell
spell_length [] ns h = omega arith
spell_length (c ∷ p) [] h = omega (arith, spell_length p [] tt)
spell_length (c ∷ p) (n ∷ ns) h = go (is_place c) refl (spell_length p ns h.1) (spell_length p (n ∷ ns) h)
  where
    go : (x : Bool) → is_place c ≡ x → length (spell p ns) ≤ length p + number_room * length ns → length (spell p (n ∷ ns)) ≤ length p + number_room * suc (length ns) →
        length (spell (c ∷ p) (n ∷ ns)) ≤ suc (length p) + number_room * suc (length ns)
    go true e fewer same = rw (spell_place c p e) (rw (length-append (decimal n) (spell p ns)) (omega (arith, h.0)))
    go false e fewer same = rw (spell_byte c p e) (omega arith)

-- numbers of a slice fit 64 bits
fits_short : (ns : List ℕ) → ((i : ℕ) → get_or ns i 0 < 2 ^ 64) → EachShort number_room ns
fits_short [] h = tt
fits_short (n ∷ ns) h = (number_length n (h 0), fits_short ns (λ i. h (suc i)))

pub spell_fits : (p ns : List ℕ) → ((i : ℕ) → Fits w64 (get_or ns i 0)) → length (spell p ns) ≤ length p + number_room * length ns
spell_fits p ns h = spell_length p ns (fits_short ns (λ i. (h i).fits))
