-- The places so far are those of the regions before the index.
use Rattle.std.proofs.Common.{◌≡◌, length, take}
use Rattle.geometry.specs.Places.{Listed}
use Rattle.free.specs.Places.{at_places}
use Rattle.free.proofs.all_places.Given as goal

abbrev pub invariant-loop-i : goal.invariant-loop-i
invariant-loop-i l =
    record {
      listed : Listed l.regions l.places.items;
      each : at_places l.regions l.places.items ≡ take l.i l.regions;
      count : length l.places.items ≡ l.i;
    }
