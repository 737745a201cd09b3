-- Both passes keep the laws of a pass. A buyer need not read it: it has no definition, only proofs.
use Rattle.std.specs.Prelude.{ℕ, ◌≡◌, Bool, true, false, refl}
use Rattle.std.proofs.Common.{arith}
use borrow.Author.Tests.{ltb-false, le-ltb}
use Rattle.geometry.specs.declared.Spot.{Spot}
use Rattle.geometry.specs.declared.Sense.{Sense}
use Rattle.geometry.specs.declared.Sense.TheVariants.{Greatest, Least}
use Rattle.geometry.specs.Extreme.{better, replaced, NoBetter}
use Rattle.geometry.proofs.Extremes.{better_self, better_not, step_better, step_skip}
use Rattle.geometry.proofs.Overlaps.{one_if_small}
use Rattle.levels.specs.declared.Level.{Level}
use Rattle.levels.specs.Weighing.{better_area, Stands}
use Rattle.levels.specs.Passes.{named_at, weighed_at, PassLaws}

pub no_better_trans : (s : Sense) (a b c : ℕ) → NoBetter s a b → NoBetter s b c → NoBetter s a c
no_better_trans Greatest a b c h k = le-ltb c a (omega (arith, ltb-false b a h, ltb-false c b k))
no_better_trans Least a b c h k = le-ltb a c (omega (arith, ltb-false a b h, ltb-false b c k))

pub area_stays : (s : Sense) (old new : ℕ) → NoBetter s old (better_area s old new)
area_stays s old new = go (better s new old) refl
  where
    go : (t : Bool) → better s new old ≡ t → NoBetter s old (better_area s old new)
    go true e = rw (e, better_area) (better_not s new old e)
    go false e = rw (e, better_area) (better_self s old)

pub replaced_stays : (s : Sense) (b c : Spot) → NoBetter s b.area (replaced s b c).area
replaced_stays s b c = go (better s c.area b.area) refl
  where
    go : (t : Bool) → better s c.area b.area ≡ t → NoBetter s b.area (replaced s b c).area
    go true e = rw (step_better s b c e) (better_not s c.area b.area e)
    go false e = rw (step_skip s b c e) (better_self s b.area)

pub named_laws : PassLaws {S = Spot} (λ b. b.area) (λ b. 0) (λ s b. Unit {0}) named_at
named_laws =
    record {
      no_worse = λ s z at p. replaced_stays s z.0 p;
      counts = λ s z at p. omega arith;
      able = λ s z at p h. tt;
    }

pub weighed_laws : PassLaws {S = Level} (λ v. v.named.area) (λ v. v.kept) Stands weighed_at
weighed_laws =
    record {
      no_worse = λ s z at p. better_self s z.0.named.area;
      counts = λ s z at p. omega (arith, one_if_small (better s p.area z.0.named.area));
      able = λ s z at p h. no_better_trans s z.0.named.area z.0.limit (better_area s z.0.limit p.area) h (area_stays s z.0.limit p.area);
    }
