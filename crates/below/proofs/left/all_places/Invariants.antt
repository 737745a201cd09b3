-- `below::left::all_places` meets its contract. The loop's invariant: the places so far are listed. Assumes nothing.
use Rattle.std.proofs.Common.{◌≡◌, length, take}
use Rattle.geometry.specs.Places.{Listed}
use Rattle.below.specs.Counting.{listed_rects}
use Rattle.below.proofs.left.all_places.Given as goal

abbrev pub invariant-loop-place : goal.invariant-loop-place
invariant-loop-place l = record {
  len : length l.places.items ≡ l.place;
  listed : Listed l.rects l.places.items;
  all : listed_rects l.rects l.places.items ≡ take l.place l.rects;
}
