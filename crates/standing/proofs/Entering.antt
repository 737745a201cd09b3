-- A good line entered into the fields that hold what stands: what they hold then is what stands after it.
use Prim.Native.Nat.{ℕ, ◌≤◌, ◌<◌}
use mathlib.Core.Path.{◌≡◌, refl, sym, ap, ap₂, ◌∙◌, subst}
use mathlib.Core.List.{List, [], ◌∷◌, ◌++◌, map-append}
use native.Mathlib.Nat.{mul-le-mul, lt_of_lt_of_le, le_trans}
use native.Mathlib.Omega.{arith}
use lib.Dec.{lit≤}
use lib.Arith.{digits_lt}
use lib.ListN.{length, take, set, replicate, length-map, length-append}
use lib.Seq.{take-set-lt}
use Rattle.arrayvec.specs.ArrayVec.{ArrayVec}
use Rattle.std.specs.Prelude.{Some, None}
use Rattle.std.proofs.lemmas.List.{take-replicate}
use Rattle.std.proofs.lemmas.Slice.Zip.{AllZip-long}
use Rattle.geometry.specs.declared.Rect.{Rect}
use Rattle.spacing.specs.declared.region.Region.{Region}
use Rattle.spacing.specs.Regions.{IsRegionOf}
use Rattle.spacing.specs.Sizes.{SmallKeepout}
use Rattle.free.proofs.RegionTables.{regions_none, regions_more}
use Rattle.tiles.specs.Tiles.{tile_index}
use Rattle.forms.specs.declared.Head.{Head}
use Rattle.forms.specs.declared.Kind.{Kind}
use Rattle.forms.specs.declared.Shape.{Shape}
use Rattle.forms.specs.declared.Form.{Form}
use Rattle.forms.specs.declared.Form.TheVariants.{Unknown, Heading, Metal, Fill, End}
use Rattle.forms.specs.Limits.{unit_limits}
use Rattle.forms.specs.Forms.{tiles_across, tile_count, GoodHead}
use Rattle.forms.proofs.Spans.{corners}
use Rattle.forms.proofs.Heads.{head_facts, agreement}
use Rattle.standing.specs.declared.Turn.TheVariants.{Before, Shapes, Fills, Done}
use Rattle.standing.specs.declared.near.Near.{Near}
use Rattle.standing.specs.declared.held.Standing.TheInside.{Inside}
use Rattle.standing.specs.Filling.{keepout_of, keepouts}
use Rattle.standing.specs.Faults.{Standing, no_head, before_head, room_of, line_fault, stands_after}
use Rattle.standing.specs.Sound.{Sound, TileIn}
use Rattle.standing.specs.Near.{NearHeld}
use Rattle.standing.specs.Held.{amounts_room, shapes_by, standing_of, Held}
use Rattle.standing.proofs.Faultless.{head_faultless, NoFault, no_fault, no_shape_fault, NoFillFault, no_fill_fault}
use Rattle.standing.proofs.Sound.{heading_turn, after_head, sound_after, sound_start}
use Rattle.standing.proofs.Shapes.{by_length, by_more}

-- a tile's place fits the table of amounts
pub place_small : (h : Head) (i j : ℕ) → TileIn h i j → tile_index (tiles_across h) i j < amounts_room
place_small h i j k = lt_of_lt_of_le (digits_lt k.row k.column) (mul-le-mul k.few k.few)

module _ (a : Inside) (k : Held a) (st : Standing) (v : standing_of a ≡ st) where
  sound : Sound st
  sound = subst Sound v k.sound

  -- the fields hold what stands after a line
  held_after : (f : Form) (a' : Inside) → line_fault unit_limits st f ≡ 0 → standing_of a' ≡ stands_after st f → Sound (standing_of a')
  held_after f a' e s = subst Sound (sym s) (sound_after st f sound e)

  -- ---- a head: nothing stands before it

  module _ (h : Head) (e : line_fault unit_limits st (Heading h) ≡ 0) where
    g : NoFault unit_limits st (Heading h)
    g = no_fault unit_limits st (Heading h) e

    before : a.turn ≡ Before
    before = ap (λ (s : Standing). s.turn) v ∙ heading_turn st.turn h g.turn

    none : shapes_by a.kinds.items a.rects.items ≡ []
    none = ap (λ (s : Standing). s.shapes) (k.sound.start before)

    few : tiles_across h ≤ unit_limits.tiles
    few = (agreement unit_limits h (head_faultless unit_limits h g.own)).few

    clean : take (tile_count h) a.amounts ≡ replicate (tile_count h) 0
    clean = ap (take (tile_count h)) (k.unused before) ∙ take-replicate (tile_count h) amounts_room 0 (mul-le-mul few few)

    abbrev headed : Inside
    headed =
        record { turn = Shapes; head = h; rects = a.rects; kinds = a.kinds; regions = a.regions; amounts = a.amounts; near = None }

    pub heading_stands : standing_of headed ≡ stands_after st (Heading h)
    unfolding stands_after
    heading_stands =
        ap₂ (λ (ss : List Shape) (l : List ℕ). record { turn = Shapes; head = h; shapes = ss; amounts = l }) none clean

    pub heading_held : Held headed
    heading_held =
        record {
          kinds = k.kinds;
          regions = rw none (rw none at k.regions);
          across = few;
          unused = λ q. cc;
          near = tt;
          sound = held_after (Heading h) headed e heading_stands;
        }

  -- ---- a shape

  module _ (m : Shape) (e : line_fault unit_limits st (Metal m) ≡ 0) where
    abbrev before_shape : List Shape
    before_shape = shapes_by a.kinds.items a.rects.items

    good : NoFault unit_limits st (Metal m)
    good = no_fault unit_limits st (Metal m) e

    counted : length st.shapes ≡ length a.rects.items
    counted = ap (λ (s : Standing). length s.shapes) (sym v) ∙ by_length a.kinds.items a.rects.items k.kinds

    pub rects_room : length a.rects.items < unit_limits.shapes
    rects_room = omega (arith, counted, (no_shape_fault unit_limits st m.rect good.own).room)

    pub kinds_room : length a.kinds.items < unit_limits.shapes
    kinds_room = omega (arith, rects_room, k.kinds)

    pub regions_room : length a.regions.items < unit_limits.shapes
    regions_room =
        omega (
          arith,
          rects_room,
          AllZip-long IsRegionOf (keepouts a.head.gap before_shape) a.regions.items k.regions.each,
          length-map before_shape (keepout_of a.head.gap),
          by_length a.kinds.items a.rects.items k.kinds,
        )

    head_is : a.head ≡ st.head
    head_is = ap (λ (s : Standing). s.head) v

    pub shape_small : SmallKeepout (keepout_of a.head.gap m)
    shape_small =
        let c = corners unit_limits m.rect good.range in
        let head : GoodHead st.head = sound.headed (after_head st.turn (Metal m) good.turn (lit≤ tt)) in
        record {
          left = le_trans c.left.most (lit≤ tt);
          low = le_trans c.low.most (lit≤ tt);
          right = le_trans c.right.most (lit≤ tt);
          high = le_trans c.high.most (lit≤ tt);
          narrow = rw head_is (le_trans ((head_facts st.head head).gap_most m.kind) (lit≤ tt));
        }

    module _ (rects : ArrayVec Rect) (kinds : ArrayVec Kind) (regions : ArrayVec Region) (r : Region)
        (rects_are : rects.items ≡ a.rects.items ++ (m.rect ∷ [])) (kinds_are : kinds.items ≡ a.kinds.items ++ (m.kind ∷ [])) where
      abbrev shaped : Inside
      shaped =
          record { turn = Shapes; head = a.head; rects = rects; kinds = kinds; regions = regions; amounts = a.amounts; near = None }

      more : shapes_by kinds.items rects.items ≡ before_shape ++ (m ∷ [])
      more = ap₂ shapes_by kinds_are rects_are ∙ by_more a.kinds.items a.rects.items m k.kinds

      pub shape_stands : standing_of shaped ≡ stands_after st (Metal m)
      unfolding stands_after
      shape_stands =
          ap (λ (ss : List Shape). record { turn = Shapes; head = a.head; shapes = ss; amounts = take (tile_count a.head) a.amounts }) more
          ∙ ap (λ (s : Standing). stands_after s (Metal m)) v

      pub shape_held : regions.items ≡ a.regions.items ++ (r ∷ []) → IsRegionOf (keepout_of a.head.gap m) r → Held shaped
      shape_held regions_are is =
          record {
            kinds = omega (arith, ap length rects_are, ap length kinds_are, length-append a.rects.items (m.rect ∷ []), length-append a.kinds.items (m.kind ∷ []), k.kinds);
            regions =
                rw (regions_are, more, map-append (keepout_of a.head.gap) before_shape (m ∷ []))
                (regions_more a.regions.items (keepouts a.head.gap before_shape) r (keepout_of a.head.gap m) k.regions is (omega (arith, regions_room)));
            across = k.across;
            unused = λ q. cc;
            near = tt;
            sound = held_after (Metal m) shaped e shape_stands;
          }

  -- ---- a fill

  module _ (i j p : ℕ) (e : line_fault unit_limits st (Fill i j p) ≡ 0) where
    filled : NoFault unit_limits st (Fill i j p)
    filled = no_fault unit_limits st (Fill i j p) e

    in_layout : NoFillFault st.head st.amounts (room_of st i j) i j p
    in_layout = no_fill_fault st.head st.amounts (room_of st i j) i j p filled.own

    pub fill_head : GoodHead a.head
    fill_head = subst GoodHead (sym (ap (λ (s : Standing). s.head) v)) (sound.headed (after_head st.turn (Fill i j p) filled.turn (lit≤ tt)))

    pub fill_tile : TileIn a.head i j
    fill_tile =
        let h : st.head ≡ a.head = sym (ap (λ (s : Standing). s.head) v) in
        record { few = k.across; column = rw h at in_layout.column; row = rw h at in_layout.row }

    module _ (near : Near) where
      abbrev with_fill : Inside
      with_fill =
          record {
            turn = Fills;
            head = a.head;
            rects = a.rects;
            kinds = a.kinds;
            regions = a.regions;
            amounts = set a.amounts (tile_index (tiles_across a.head) i j) p;
            near = Some near;
          }

      pub fill_stands : standing_of with_fill ≡ stands_after st (Fill i j p)
      unfolding stands_after
      fill_stands =
          ap (λ (l : List ℕ). record { turn = Fills; head = a.head; shapes = shapes_by a.kinds.items a.rects.items; amounts = l })
          (take-set-lt (tile_count a.head) a.amounts (tile_index (tiles_across a.head) i j) p (digits_lt fill_tile.row fill_tile.column))
          ∙ ap (λ (s : Standing). stands_after s (Fill i j p)) v

      pub fill_held : NearHeld a.head a.regions.items (Some near) → Held with_fill
      fill_held n =
          record {
            kinds = k.kinds;
            regions = k.regions;
            across = k.across;
            unused = λ q. cc;
            near = n;
            sound = held_after (Fill i j p) with_fill e fill_stands;
          }

  -- ---- the end

  abbrev ended : Inside
  ended =
      record { turn = Done; head = a.head; rects = a.rects; kinds = a.kinds; regions = a.regions; amounts = a.amounts; near = a.near }

  pub end_stands : standing_of ended ≡ stands_after st End
  unfolding stands_after
  end_stands = ap (λ (s : Standing). stands_after s End) v

  pub end_held : line_fault unit_limits st End ≡ 0 → Held ended
  end_held e =
      record {
        kinds = k.kinds;
        regions = k.regions;
        across = k.across;
        unused = λ q. cc;
        near = k.near;
        sound = held_after End ended e end_stands;
      }

-- ---- a line that is none of the spellings has a fault, and enters nothing

pub none_entered : (st : Standing) (f : Form) → f ≡ Unknown → st ≡ stands_after st f
unfolding stands_after
none_entered st f q = rw q refl

-- ---- the first fields

module _ (h : Head) (rects : ArrayVec Rect) (kinds : ArrayVec Kind) (regions : ArrayVec Region) (head_is : h ≡ no_head) (rects_are : rects.items ≡ [])
    (kinds_are : kinds.items ≡ []) where
  abbrev first : Inside
  first =
      record { turn = Before; head = h; rects = rects; kinds = kinds; regions = regions; amounts = replicate amounts_room 0; near = None }

  pub new_stands : standing_of first ≡ before_head
  unfolding shapes_by
  new_stands = rw (head_is, rects_are, kinds_are) refl

  pub new_held : regions.items ≡ [] → Held first
  new_held regions_are =
      record {
        kinds = omega (arith, ap length rects_are, ap length kinds_are);
        regions = rw (ap (λ (s : Standing). s.shapes) new_stands, regions_are) regions_none;
        across = rw head_is (lit≤ tt);
        unused = λ e. refl;
        near = tt;
        sound = rw new_stands sound_start;
      }
