-- The regions of a table by their places, and the places that are kept for a box.
use Prim.Native.Nat.{ℕ, zero, suc, ◌+◌, ◌≤◌, ◌<◌}
use mathlib.Core.Path.{◌≡◌, refl, sym, ap, ◌∙◌}
use mathlib.Core.Bool.{Bool, true, false, false≢true, not, ◌||◌, or-false, or-true}
use mathlib.Core.List.{List, [], ◌∷◌, ◌++◌}
use mathlib.Core.Logic.{◌⊎◌, inl, inr}
use native.Mathlib.Numerals.{add-one}
use native.Mathlib.Omega.{arith}
use lib.ListN.{length, take, get_or, length-append}
use lib.Seq.{take-suc}
use lib.Dec.{eqb}
use borrow.Author.Tests.{eq-eqb, not-true}
use Rattle.std.proofs.Common.{Option, Some, None, Contains, slice_get}
use Rattle.std.proofs.lemmas.List.{take_all}
use Rattle.std.proofs.lemmas.Option.{slice_get-get_or}
use Rattle.std.proofs.lemmas.List.Elements.{filter_map-append, Contains-get_or, Contains-append_cases}
use Rattle.laws.proofs.Tests.{both, true_false}
use Rattle.geometry.specs.declared.Rect.{Rect}
use Rattle.geometry.specs.Places.{Listed}
use Rattle.geometry.proofs.Listing.{listed_more}
use Rattle.spacing.specs.declared.region.Region.{Region}
use Rattle.spacing.specs.Regions.{holds_square}
use Rattle.spacing.specs.Nearness.{is_near, covers_box, is_idle, is_spare, Divisible}
use Rattle.spacing.proofs.Distances.{none_held, all_held, some_held}
use Rattle.spacing.proofs.Gains.{idle_held}
use Rattle.free.specs.declared.left.Left.{Left}
use Rattle.free.specs.Free.{held_by, AgreeOn}
use Rattle.free.specs.Places.{at_places}
use Rattle.free.specs.Counting.{Enough}
use Rattle.free.proofs.Held.{held_one, held_append}

-- ---- the regions at places

-- the region at a place
abbrev pub At : List Region → ℕ → Region → Type 0
At t p r = slice_get t p ≡ Some r

-- at one place stands one region
at_same : (t : List Region) (p : ℕ) (r c : Region) → At t p r → At t p c → r ≡ c
at_same t p r c e f = cc

pub at_one : (t : List Region) (p : ℕ) (r : Region) → At t p r → at_places t (p ∷ []) ≡ r ∷ []
at_one t p r e = rw e

at_more : (t : List Region) (ps : List ℕ) (p : ℕ) (r : Region) → At t p r → at_places t (ps ++ (p ∷ [])) ≡ at_places t ps ++ (r ∷ [])
at_more t ps p r e = filter_map-append (slice_get t) ps (p ∷ []) ∙ ap (λ (l : List Region). at_places t ps ++ l) (at_one t p r e)

-- the places of the first i regions, and of one more
pub next_place : (t : List Region) (ps : List ℕ) (i : ℕ) → i < length t → at_places t ps ≡ take i t → at_places t (ps ++ (i ∷ [])) ≡ take (i + 1) t
next_place (d ∷ t) ps i h e =
    at_more (d ∷ t) ps i (get_or (d ∷ t) i d) (slice_get-get_or (d ∷ t) i d h)
    ∙ ap (λ (l : List Region). l ++ (get_or (d ∷ t) i d ∷ [])) e
    ∙ sym (take-suc (d ∷ t) i d h)
    ∙ ap (λ (n : ℕ). take n (d ∷ t)) (sym (add-one i))
next_place [] ps i h e = absurd (omega arith)

-- what one of them holds they hold
held_at : (t : List Region) (ps : List ℕ) (k p : ℕ) (c : Region) (x y : ℕ) → k < length ps → get_or ps k p ≡ p → At t p c → holds_square c x y ≡ true →
    held_by (at_places t ps) x y ≡ true
held_at t [] k p c x y h e f g = absurd (omega arith)
held_at t (q ∷ ps) zero p c x y h e f g = rw (e, f) (ap (λ (u : Bool). u || held_by (at_places t ps) x y) g)
held_at t (q ∷ ps) (suc k) p c x y h e f g = go (slice_get t q) refl (held_at t ps k p c x y (omega arith) e f g)
  where
    go : (o : Option Region) → slice_get t q ≡ o → held_by (at_places t ps) x y ≡ true → held_by (at_places t (q ∷ ps)) x y ≡ true
    go None i rest = rw i rest
    go (Some r) i rest = rw i (ap (λ (u : Bool). holds_square r x y || u) rest ∙ or-true (holds_square r x y))

pub held_in : (t : List Region) (ps : List ℕ) (p : ℕ) (c : Region) (x y : ℕ) → Contains ps p → At t p c → holds_square c x y ≡ true →
    held_by (at_places t ps) x y ≡ true
held_in t ps p c x y h f g = held_at t ps h.0 p c x y h.1 h.2 f g

-- one that covers a box holds all of it
pub covered_by : (t : List Region) (ps : List ℕ) (i : ℕ) (r : Region) (b : Rect) → i < length ps → At t (get_or ps i 0) r → covers_box r b ≡ true →
    AgreeOn b (held_by (at_places t ps)) (λ x y. true)
covered_by t ps i r b h e f x y p q u s = held_in t ps (get_or ps i 0) r x y (Contains-get_or ps i 0 h) e (all_held r.core r.reach b f x y p q u s)

-- ---- the places that are kept for a box

-- of the squares of a box, what the one test holds the other holds
abbrev HoldsIn : Rect → (f g : ℕ → ℕ → Bool) → Type 0
HoldsIn b f g = (x y : ℕ) → b.x1 ≤ x → x < b.x2 → b.y1 ≤ y → y < b.y2 → f x y ≡ true → g x y ≡ true

or_absorbs : (a l : Bool) → (l ≡ true → a ≡ true) → (a || l) ≡ a
or_absorbs a false h = or-false a
or_absorbs a true h = or-true a ∙ sym (h refl)

or_drops : (a r l : Bool) → (r ≡ true → l ≡ true) → (a || l) ≡ ((a || r) || l)
or_drops true r l h = refl
or_drops false false l h = refl
or_drops false true l h = h refl

or_last : (a r l : Bool) → ((a || l) || r) ≡ ((a || r) || l)
or_last true r l = refl
or_last false true true = refl
or_last false true false = refl
or_last false false l = or-false l

-- the first i places are looked at. What is made idle by the region c at place `lead` is left out, so this one counts along; once it was looked at,
-- the list holds what it holds
pub record KeptSoFar (l : Left) (lead : ℕ) (c : Region) (own : List ℕ) (i : ℕ) : Type 0 where
  pub few : length own ≤ i
  pub listed : Listed l.regions.now own
  pub same : AgreeOn l.bounds (λ x y. held_by (at_places l.regions.now own) x y || holds_square c x y)
      (λ x y. held_by (at_places l.regions.now (take i l.places.now)) x y || holds_square c x y)
  pub led : Contains (take i l.places.now) lead → HoldsIn l.bounds (holds_square c) (held_by (at_places l.regions.now own))
  pub divisible : 0 < length own → Divisible l.bounds

module _ (l : Left) (lead : ℕ) (c : Region) (own : List ℕ) (i : ℕ) (z : KeptSoFar l lead c own i) (there : At l.regions.now lead c) where
  abbrev t : List Region
  t = l.regions.now

  abbrev ps : List ℕ
  ps = l.places.now

  abbrev b : Rect
  b = l.bounds

  pub keeping_ends : (left : Left) → left.bounds ≡ b → left.regions.now ≡ t → left.places.now ≡ own → Contains ps lead → i ≡ length ps → Enough l left
  keeping_ends left eb et eo h e =
      record {
        bounds = eb;
        same = λ x y p q r s.
            rw (et, eo)
            (sym (or_absorbs (held_by (at_places t own) x y) (holds_square c x y) (z.led (rw all h) x y p q r s))
            ∙ z.same x y p q r s
            ∙ ap (λ (qs : List ℕ). held_by (at_places t qs) x y || holds_square c x y) all
            ∙ or_absorbs (held_by (at_places t ps) x y) (holds_square c x y) (held_in t ps lead c x y h there));
        divisible = rw eo z.divisible;
      }
    where
      all : take i ps ≡ ps
      all = take_all i ps (omega arith)

  module _ (h : i < length ps) (r : Region) (here : At t (get_or ps i 0) r) where
    abbrev p : ℕ
    p = get_or ps i 0

    seen : take (i + 1) ps ≡ take i ps ++ (p ∷ [])
    seen = ap (λ (n : ℕ). take n ps) (add-one i) ∙ take-suc ps i 0 h

    held_more : (qs : List ℕ) (x y : ℕ) → held_by (at_places t (qs ++ (p ∷ []))) x y ≡ (held_by (at_places t qs) x y || holds_square r x y)
    held_more qs x y =
        ap (λ (rs : List Region). held_by rs x y) (at_more t qs p r here)
        ∙ held_append (at_places t qs) (r ∷ []) x y
        ∙ ap (λ (u : Bool). held_by (at_places t qs) x y || u) (held_one r x y)

    held_seen : (x y : ℕ) → held_by (at_places t (take (i + 1) ps)) x y ≡ (held_by (at_places t (take i ps)) x y || holds_square r x y)
    held_seen x y = ap (λ (qs : List ℕ). held_by (at_places t qs) x y) seen ∙ held_more (take i ps) x y

    -- the lead was looked at before, or is here
    led_here : Contains (take (i + 1) ps) lead → Contains (take i ps) lead ⊎ (lead ≡ p)
    led_here k = go (Contains-append_cases (take i ps) (p ∷ []) lead (rw seen at k))
      where
        only : (j : ℕ) → j < 1 → get_or (p ∷ []) j lead ≡ lead → lead ≡ p
        only zero l e = sym e
        only (suc j) l e = absurd (omega arith)

        go : Contains (take i ps) lead ⊎ Contains (p ∷ []) lead → Contains (take i ps) lead ⊎ (lead ≡ p)
        go (inl k') = inl k'
        go (inr k') = inr (only k'.0 k'.1 k'.2)

    -- the region here is passed over: it holds nothing of the box that the lead does not
    passed : HoldsIn b (holds_square r) (holds_square c) → (lead ≡ p → HoldsIn b (holds_square c) (λ x y. false)) → KeptSoFar l lead c own (i + 1)
    passed implied unled =
        record {
          few = omega (arith, z.few);
          listed = z.listed;
          same = λ x y p' q s u.
              z.same x y p' q s u
              ∙ or_drops (held_by (at_places t (take i ps)) x y) (holds_square r x y) (holds_square c x y) (implied x y p' q s u)
              ∙ ap (λ (v : Bool). v || holds_square c x y) (sym (held_seen x y));
          led = λ k. go (led_here k);
          divisible = z.divisible;
        }
      where
        go : Contains (take i ps) lead ⊎ (lead ≡ p) → HoldsIn b (holds_square c) (held_by (at_places t own))
        go (inl k) x y p' q s u e = z.led k x y p' q s u e
        go (inr k) x y p' q s u e = absurd (false≢true (unled k x y p' q s u e))

    pub keeping_far : is_near r b ≡ false → KeptSoFar l lead c own (i + 1)
    keeping_far e =
        passed (λ x y p' q s u k. absurd (true_false (holds_square r x y) k (none_held r.core r.reach b e x y p' q s u)))
        (λ m x y p' q s u k. sym (none_held r.core r.reach b e x y p' q s u) ∙ ap (λ (g : Region). holds_square g x y) (same m) ∙ k)
      where
        same : lead ≡ p → r ≡ c
        same m = at_same t p r c here (rw m at there)

    pub keeping_spare : is_spare p lead r c b ≡ true → KeptSoFar l lead c own (i + 1)
    keeping_spare e =
        passed (idle_held r.core r.reach c.core c.reach b c.small l.full tests.1) (λ m. absurd (true_false (eqb p lead) (eq-eqb p lead (sym m)) (not-true (eqb p lead) tests.0)))
      where
        tests : (not (eqb p lead) ≡ true) × (is_idle r c b ≡ true)
        tests = both (not (eqb p lead)) (is_idle r c b) e

    pub keeping_one : is_near r b ≡ true → covers_box r b ≡ false → KeptSoFar l lead c (own ++ (p ∷ [])) (i + 1)
    keeping_one e f =
        record {
          few = omega (arith, length-append own (p ∷ []), z.few);
          listed = listed_more t own p z.listed (l.listed i 0 h);
          same = λ x y p' q s u.
              ap (λ (v : Bool). v || holds_square c x y) (held_more own x y)
              ∙ sym (or_last (held_by (at_places t own) x y) (holds_square r x y) (holds_square c x y))
              ∙ ap (λ (v : Bool). v || holds_square r x y) (z.same x y p' q s u)
              ∙ or_last (held_by (at_places t (take i ps)) x y) (holds_square r x y) (holds_square c x y)
              ∙ ap (λ (v : Bool). v || holds_square c x y) (sym (held_seen x y));
          led = λ k x y p' q s u o. held_more own x y ∙ go (led_here k) x y p' q s u o;
          divisible = λ k. some_held r.core r.reach b l.full.across l.full.up e f;
        }
      where
        go : Contains (take i ps) lead ⊎ (lead ≡ p) → HoldsIn b (holds_square c) (λ x y. held_by (at_places t own) x y || holds_square r x y)
        go (inl k) x y p' q s u o = ap (λ (v : Bool). v || holds_square r x y) (z.led k x y p' q s u o)
        go (inr k) x y p' q s u o =
            ap (λ (v : Bool). held_by (at_places t own) x y || v) (ap (λ (g : Region). holds_square g x y) (at_same t p r c here (rw k at there)) ∙ o)
            ∙ or-true (held_by (at_places t own) x y)
