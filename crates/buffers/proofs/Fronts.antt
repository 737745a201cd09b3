-- A list written at the front of a buffer, at once or by a loop over a table.
use Prim.Native.Nat.{ℕ, ◌+◌, ◌-◌, ◌*◌, ◌≤◌}
use mathlib.Core.Path.{◌≡◌, refl, sym, ap, ap₂, ◌∙◌}
use mathlib.Core.List.{List, [], ◌++◌, append-nil, append_assoc}
use native.Mathlib.Nat.{mul-le-mul_left}
use native.Mathlib.Omega.{arith}
use lib.ListN.{length, take, drop, length-append, length-drop, take-append-drop, drop_of_length-le}
use lib.Seq.{take_all, take_at, drop_at, drop-append-add, drop-drop, length-take-le}
use Rattle.buffers.specs.Written.{Written, Front}
use Rattle.buffers.proofs.Writing.{written_length}

-- ---- what is at the front

pub front_same : (out : List ℕ) (count : ℕ) → count ≤ length out → Front out (take count out) out count
front_same out count h = record {
  count = sym (length-take-le count out h);
  buffer = rw (length-take-le count out h) (sym (take-append-drop count out));
}

pub front_take : (before w after : List ℕ) (r : ℕ) → Front before w after r → take r after ≡ w
front_take before w after r p = ap (take r) p.buffer ∙ take_at w (drop (length w) before) r (sym p.count)

pub front_fits : (before w after : List ℕ) (r : ℕ) → Front before w after r → r ≤ length after
front_fits before w after r p = omega (arith, p.count, ap length p.buffer, length-append w (drop (length w) before))

pub front_count : (before w after : List ℕ) (r : ℕ) → Front before w after r → r ≡ length (take r after)
front_count before w after r p = p.count ∙ ap length (sym (front_take before w after r p))

pub front_chain : (before l mid m after : List ℕ) (k r : ℕ) → Front before l mid k → Front mid m after r → length l ≤ length m → Front before m after r
front_chain before l mid m after k r f g h = record { count = g.count; buffer = g.buffer ∙ ap (λ (t : List ℕ). m ++ t) rest }
  where
    more : length l + (length m - length l) ≡ length m
    more = omega arith

    rest : drop (length m) mid ≡ drop (length m) before
    rest =
        rw (← more, f.buffer)
        (drop-append-add l (drop (length l) before) (length m - length l) ∙ drop-drop (length m - length l) (length l) before)

-- what stands behind a place, as a part of a buffer
pub part_from : (l : List ℕ) (a : ℕ) → take (length l - a) (drop a l) ≡ drop a l
part_from l a = take_all (length l - a) (drop a l) (omega (arith, length-drop a l))

pub front_behind : (before w mid : List ℕ) (r : ℕ) → Front before w mid r → length (take (length mid - r) (drop r mid)) ≡ length before - r
front_behind before w mid r f =
    omega (
      arith,
      ap length (part_from mid r),
      length-drop r mid,
      ap length f.buffer,
      length-append w (drop (length w) before),
      length-drop (length w) before,
      f.count,
    )

-- a second list written behind the first, at the front of the part that begins there
pub front_then : (before u mid w part : List ℕ) (a b : ℕ) → Front before u mid a → Front (take (length mid - a) (drop a mid)) w part b →
    Front before (u ++ w) (take a mid ++ (part ++ drop (length mid - a) (drop a mid))) (a + b)
front_then before u mid w part a b f g =
    record {
      count = omega (arith, f.count, g.count, length-append u w);
      buffer =
          ap₂ (λ (x y : List ℕ). x ++ (part ++ y)) (front_take before u mid a f) (drop_of_length-le (drop a mid) {i = length mid - a} (omega (arith, length-drop a mid)))
          ∙ ap (λ (x : List ℕ). u ++ x) (append-nil part ∙ g.buffer ∙ ap (λ (x : List ℕ). w ++ drop (length w) x) (part_from mid a ∙ behind))
          ∙ sym (append_assoc u w (drop (length w) (drop (length u) before)))
          ∙ ap (λ (x : List ℕ). (u ++ w) ++ x) (drop-drop (length w) (length u) before ∙ ap (λ (k : ℕ). drop k before) (sym (length-append u w)));
    }
  where
    behind : drop a mid ≡ drop (length u) before
    behind = ap (drop a) f.buffer ∙ drop_at u (drop (length u) before) a (sym f.count)

-- and the two lists again, as parts of the buffer
module _ (before u w after : List ℕ) (a r : ℕ) (f : Front before (u ++ w) after r) (e : a ≡ length u) where
  whole : after ≡ u ++ (w ++ drop (length (u ++ w)) before)
  whole = f.buffer ∙ append_assoc u w (drop (length (u ++ w)) before)

  pub front_first : take a after ≡ u
  front_first = ap (take a) whole ∙ take_at u (w ++ drop (length (u ++ w)) before) a (sym e)

  pub front_second : take (r - a) (drop a after) ≡ w
  front_second =
      ap (take (r - a)) (ap (drop a) whole ∙ drop_at u (w ++ drop (length (u ++ w)) before) a (sym e))
      ∙ take_at w (drop (length (u ++ w)) before) (r - a) (omega (arith, f.count, length-append u w))

-- ---- a list that a loop over a table writes at the front of a buffer

-- the loop stands at place i of the table t: what is written, up to `at`, and f of what is left make f of the table. For a number of the table at
-- most `most` are written
pub record FrontSoFar (f : List ℕ → List ℕ) (most : ℕ) (t before out : List ℕ) (at i : ℕ) : Type 0 where
  pub whole : take at out ++ f (drop i t) ≡ f t
  pub rest : drop at out ≡ drop at before
  pub same : length out ≡ length before
  pub behind : at ≤ most * i
  pub within : i ≤ length t

pub front_starts : (f : List ℕ → List ℕ) (most : ℕ) (t out : List ℕ) → FrontSoFar f most t out out 0 0
front_starts f most t out = record { whole = refl; rest = refl; same = refl; behind = omega arith; within = omega arith }

module _ (l : List ℕ) (at : ℕ) (w m : List ℕ) (r : ℕ) (p : Written l at w m r) (fits : r ≤ length l) where
  head_length : length (take at l ++ w) ≡ r
  head_length = omega (arith, length-append (take at l) w, length-take-le at l (omega arith), p.place)

  written_take : take r m ≡ take at l ++ w
  written_take = ap (take r) p.buffer ∙ take_at (take at l ++ w) (drop (at + length w) l) r head_length

  written_drop : drop r m ≡ drop r l
  written_drop =
      ap (drop r) p.buffer ∙ drop_at (take at l ++ w) (drop (at + length w) l) r head_length ∙ ap (λ (k : ℕ). drop k l) (sym p.place)

  same_length : length m ≡ length l
  same_length = ap length p.buffer ∙ written_length l at w (omega (arith, p.place))

later_drop : (a b : List ℕ) (at n : ℕ) → drop at a ≡ drop at b → drop (at + n) a ≡ drop (at + n) b
later_drop a b at n e = sym (drop-drop n at a) ∙ ap (drop n) e ∙ drop-drop n at b

-- k numbers of the table further, for which `one` was written
module _ (f : List ℕ → List ℕ) (most : ℕ) (t before out : List ℕ) (at i : ℕ) (s : FrontSoFar f most t before out at i)
    (room : most * length t ≤ length before) where
  pub front_moves : (k : ℕ) (one m : List ℕ) (r : ℕ) → i + k ≤ length t → length one ≤ most * k → f (drop i t) ≡ one ++ f (drop (i + k) t) → Written out at one m r →
      FrontSoFar f most t before m r (i + k)
  front_moves k one m r more short next p =
      record {
        whole =
            ap (λ (l : List ℕ). l ++ f (drop (i + k) t)) (written_take out at one m r p fits)
            ∙ append_assoc (take at out) one (f (drop (i + k) t))
            ∙ ap (λ (l : List ℕ). take at out ++ l) (sym next)
            ∙ s.whole;
        rest =
            written_drop out at one m r p fits
            ∙ ap (λ (k : ℕ). drop k out) p.place
            ∙ later_drop out before at (length one) s.rest
            ∙ ap (λ (k : ℕ). drop k before) (sym p.place);
        same = same_length out at one m r p fits ∙ s.same;
        behind = omega (arith, p.place, s.behind);
        within = more;
      }
    where
      fits : r ≤ length out
      fits = omega (arith, p.place, s.behind, s.same, mul-le-mul_left most more)

  pub front_ends : f (drop i t) ≡ [] → Front before (f t) out at
  front_ends done =
      record {
        count = sym size;
        buffer =
            sym (take-append-drop at out)
            ∙ ap₂ ◌++◌ all s.rest
            ∙ ap (λ (k : ℕ). f t ++ drop k before) (sym size);
      }
    where
      all : take at out ≡ f t
      all = sym (append-nil (take at out)) ∙ ap (λ (l : List ℕ). take at out ++ l) (sym done) ∙ s.whole

      size : length (f t) ≡ at
      size = ap length (sym all) ∙ length-take-le at out (omega (arith, s.behind, s.same, mul-le-mul_left most s.within))
