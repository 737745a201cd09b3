-- What a layer above may rely on where a file was accepted.
use Prim.Native.Nat.{ℕ, ◌+◌, ◌*◌, ◌/◌, ◌%◌, ◌≤◌, ◌<◌}
use mathlib.Core.Path.{◌≡◌, subst}
use mathlib.Core.List.{List}
use mathlib.Core.Logic.{◌⊎◌, inl, inr}
use native.Mathlib.Nat.{le_trans, div-add-mod', mod-lt, div-lt_iff_lt-mul}
use native.Mathlib.Omega.{arith}
use lib.ListN.{length, get_or, get_or-eq_default}
use Rattle.laws.proofs.Tests.{le_or_lt}
use Rattle.geometry.specs.Layout.{Disjoint, Layer}
use Rattle.tiles.specs.Tiles.{number_at}
use Rattle.tiles.proofs.Loads.{tile_fillable}
use Rattle.forms.specs.declared.Form.{Form}
use Rattle.forms.specs.Limits.{unit_limits}
use Rattle.forms.specs.Shapes.{rectangles}
use Rattle.forms.specs.Forms.{tile_side, tiles_across, tile_count}
use Rattle.forms.proofs.Heads.{HeadFacts, head_facts, positive}
use Rattle.standing.specs.declared.Turn.TheVariants.{Before}
use Rattle.standing.specs.Filling.{keepouts}
use Rattle.standing.specs.Faults.{Standing, room_of}
use Rattle.jobfile.specs.File.{accepted, outcome_of}
use Rattle.jobfile.specs.Acceptance.{Good, none, next}
use Rattle.standing.specs.Sound.{Sound}
use Rattle.standing.proofs.Shapes.{sound_layer}
use Rattle.standing.proofs.Sound.{sound_after, sound_start}
use Rattle.jobfile.proofs.Files.{acceptance}

pub record AcceptedFacts (st : Standing) : Type 0 where
  pub head : HeadFacts st.head
  pub few : length st.shapes ≤ unit_limits.shapes
  pub apart : Disjoint (rectangles st.shapes)
  pub layer : Layer (rectangles st.shapes)
  pub sized : length st.amounts ≡ tile_count st.head
  pub fillable : (i j : ℕ) → i < tiles_across st.head → j < tiles_across st.head →
      number_at st.amounts (tiles_across st.head) i j ≤ room_of st i j

-- good forms keep what is so
good_sound : {st st' : Standing} {fs : List Form} → Good unit_limits st fs st' → Sound st → Sound st'
good_sound none s = s
good_sound (next {st = x} {f = f} short e g) s = good_sound g (sound_after x f s e)

pub accepted_sound : (file : List ℕ) (st : Standing) → outcome_of unit_limits file ≡ accepted st → Sound st
accepted_sound file st e = good_sound ((acceptance unit_limits file).accepted_only_if st e).good sound_start

pub accepted_facts : (file : List ℕ) (st : Standing) → outcome_of unit_limits file ≡ accepted st → AcceptedFacts st
accepted_facts file st e =
    record {
      head = head_facts st.head (s.headed headed);
      few = s.few;
      apart = s.apart;
      layer = sound_layer st s;
      sized = s.sized;
      fillable = s.fillable;
    }
  where
    s : Sound st
    s = accepted_sound file st e

    headed : st.turn ≡ Before → ⊥
    headed b = let d = ((acceptance unit_limits file).accepted_only_if st e).ended in cc

-- ---- an amount is at most its tile's area

pub amount_room : (st : Standing) → AcceptedFacts st → (i : ℕ) → get_or st.amounts i 0 ≤ tile_side st.head * tile_side st.head
amount_room st f i = go (le_or_lt (length st.amounts) i)
  where
    t : ℕ
    t = tiles_across st.head

    d : ℕ
    d = tile_side st.head

    some : i < tile_count st.head → 0 < tiles_across st.head
    some h = positive (tiles_across st.head) (tiles_across st.head) (omega arith)

    go : (length st.amounts ≤ i) ⊎ (i < length st.amounts) → get_or st.amounts i 0 ≤ tile_side st.head * tile_side st.head
    go (inl h) = omega (arith, get_or-eq_default st.amounts 0 h)
    go (inr h) =
        let within : i < tile_count st.head = omega (arith, f.sized) in
        let column : i % t < t = mod-lt i (some within) in
        let row : i / t < t = (div-lt_iff_lt-mul (some within)).1 within in
        let place : i / t * t + i % t ≡ i = div-add-mod' i t in
        le_trans (subst (λ (n : ℕ). get_or st.amounts n 0 ≤ room_of st (i % t) (i / t)) place (f.fillable (i % t) (i / t) column row))
        (tile_fillable (keepouts st.head.gap st.shapes) d (i % t) (i / t))
