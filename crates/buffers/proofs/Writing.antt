-- A list written at a place of a buffer.
use Prim.Native.Nat.{ℕ, ◌+◌, ◌≤◌, ◌<◌}
use mathlib.Core.Path.{◌≡◌, refl, sym, ap, ap₂, ◌∙◌}
use mathlib.Core.List.{List, [], ◌∷◌, ◌++◌, append_assoc, append-nil}
use native.Mathlib.Nat.{add-zero}
use native.Mathlib.Numerals.{add-one}
use native.Mathlib.Omega.{arith}
use lib.ListN.{length, set, take, drop, length-append, length-drop, take-append-drop}
use lib.Seq.{drop-drop, take_at, drop-append-add, set_split, sets-eq, length-take-le}
use Rattle.buffers.specs.Written.{written, Written}

pub written_none : (l : List ℕ) (at : ℕ) → written l at [] ≡ l
written_none l at = rw (append-nil (take at l), add-zero at) (take-append-drop at l)

pub written_length : (l : List ℕ) (at : ℕ) (w : List ℕ) → at + length w ≤ length l → length (written l at w) ≡ length l
written_length l at w h =
    length-append (take at l ++ w) (drop (at + length w) l)
    ∙ omega (arith, length-append (take at l) w, length-take-le at l (omega arith), length-drop (at + length w) l)

-- two lists written one behind the other are the joined list written
pub written_then : (l : List ℕ) (at : ℕ) (u w : List ℕ) → at + length u ≤ length l → written (written l at u) (at + length u) w ≡ written l at (u ++ w)
written_then l at u w h =
    ap₂ (λ (x y : List ℕ). x ++ w ++ y) (take_at (take at l ++ u) (drop (at + length u) l) (at + length u) front) behind
    ∙ ap₂ (λ (x y : List ℕ). x ++ y) (append_assoc (take at l) u w) (ap (λ (n : ℕ). drop n l) place)
  where
    front : length (take at l ++ u) ≡ at + length u
    front = length-append (take at l) u ∙ omega (arith, length-take-le at l (omega arith))

    place : at + length u + length w ≡ at + length (u ++ w)
    place = omega (arith, length-append u w)

    behind : drop (at + length u + length w) (written l at u) ≡ drop (at + length u + length w) l
    behind =
        ap (λ (n : ℕ). drop (n + length w) (written l at u)) (sym front)
        ∙ drop-append-add (take at l ++ u) (drop (at + length u) l) (length w)
        ∙ drop-drop (length w) (at + length u) l

-- for a caller that writes several lists in a row
pub written_chain : (l : List ℕ) (at : ℕ) (u w m m' : List ℕ) (r r' : ℕ) → at + length u ≤ length l → Written l at u m r → Written m r w m' r' → Written l at (u ++ w) m' r'
written_chain l at u w m m' r r' h a b =
    record {
      buffer = b.buffer ∙ ap₂ (λ (x : List ℕ) (n : ℕ). written x n w) a.buffer a.place ∙ written_then l at u w h;
      place = omega (arith, a.place, b.place, length-append u w);
    }

-- one number stored
pub one_stored : (l : List ℕ) (at b : ℕ) → at < length l → Written l at (b ∷ []) (set l at b) (at + 1)
one_stored l at b h =
    record { buffer = set_split l at b h ∙ sym (append_assoc (take at l) (b ∷ []) (drop (at + 1) l) ∙ rw (add-one at)); place = refl }

-- two numbers stored, and none
pub two_stored : (l : List ℕ) (at a b : ℕ) → at + 2 ≤ length l → Written l at (a ∷ b ∷ []) (set (set l at a) (at + 1) b) (at + 2)
two_stored l at a b h = record { buffer = rw (add-one) (sets-eq (a ∷ b ∷ []) l at h); place = refl }

pub none_stored : (l : List ℕ) (at : ℕ) → Written l at [] l at
none_stored l at = record { buffer = sym (written_none l at); place = sym (add-zero at) }
