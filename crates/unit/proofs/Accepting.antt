-- What the unit needs of a file that was read: an accepted one may be run and its tables give what stands; a refused one has a number.
use Prim.Native.Nat.{ℕ}
use mathlib.Core.Path.{◌≡◌}
use mathlib.Core.List.{List}
use native.Mathlib.Omega.{arith}
use Rattle.forms.specs.Limits.{unit_limits}
use Rattle.standing.specs.Faults.{Standing}
use Rattle.jobfile.specs.File.{refused, accepted, outcome_of}
use Rattle.jobfile.specs.Acceptance.{FirstFault, faulty, unfed, unended, RefusedFile, long, lines}
use Rattle.jobfile.proofs.Files.{acceptance}
use Rattle.jobfile.proofs.Accepted.{AcceptedFacts, accepted_facts, amount_room}
use Rattle.unit.specs.Guarantee.{FilePromise}
use Rattle.unit.specs.Readable.{Readable}
use Rattle.unit.proofs.Demand.{Runs, promises_kept}

-- ---- an accepted file

facts_run : (st : Standing) → AcceptedFacts st → Runs st
facts_run st f =
    let h = f.head in
    record {
      apart = f.apart;
      some_window = h.window_least;
      window_fits = h.window_most;
      some_level = h.levels_least;
      some_tile = h.side_least;
      window_tiles = h.window_tiles;
      layout_tiles = h.size_tiles;
      cut_fits = h.cut_tiles;
      bounds_order = h.bounds_order;
      amounts_fit = f.fillable;
    }

-- what is promised of every file
pub promised : (file : List ℕ) → FilePromise file
promised file =
    let k = acceptance unit_limits file in
    record { meaning = k; promises = λ st a. promises_kept st (facts_run st (accepted_facts file st (k.accepted_if st a))) }

facts_ready : (st : Standing) → AcceptedFacts st → Readable st
facts_ready st f =
    let h = f.head in
    record {
      layer = f.layer;
      some_window = h.window_least;
      window_fits = h.window_most;
      small = omega (arith, h.size_most);
      accurate = h.accuracy_most;
      bounds_order = h.bounds_order;
      planned = record {
        tiled = record {
          few = h.tiles_most;
          table = f.sized;
          room = amount_room st f;
          layout = omega (arith, h.size_tiles, h.size_most);
        };
        fits = h.cut_tiles;
        window = omega (arith, h.window_most, h.size_most);
        lower = omega (arith, h.bounds_order, h.bounds_most);
        upper = h.bounds_most;
      };
    }

pub accepted_readable : (file : List ℕ) (st : Standing) → outcome_of unit_limits file ≡ accepted st → Readable st
accepted_readable file st e = facts_ready st (accepted_facts file st e)

-- ---- a refused file

first_positive : {st : Standing} {k : ℕ} {s : List ℕ} {number line : ℕ} → FirstFault unit_limits st k s number line → number ≡ 0 → ⊥
first_positive (faulty fs l after t n g fault bad) z = bad z
first_positive (unfed fs l t n p g) z = omega (arith, z)
first_positive (unended fs t g n) z = omega (arith, z)

refused_file_positive : (file : List ℕ) (number line : ℕ) → RefusedFile unit_limits file number line → number ≡ 0 → ⊥
refused_file_positive file number line (long h) z = omega (arith, z)
refused_file_positive file number line (lines h c) z = first_positive c z

pub refused_positive : (file : List ℕ) (number line : ℕ) → outcome_of unit_limits file ≡ refused number line → number ≡ 0 → ⊥
refused_positive file number line e = refused_file_positive file number line ((acceptance unit_limits file).refused_only_if number line e)
