-- What is so after good lines stays so after one more.
use Prim.Native.Nat.{ℕ, ◌+◌, ◌*◌, ◌/◌, ◌%◌, ◌≤◌, ◌<◌}
use mathlib.Core.Path.{◌≡◌, refl, sym, ap, ◌∙◌}
use mathlib.Core.Bool.{true, false≢true}
use mathlib.Core.List.{List, [], ◌∷◌, ◌++◌, map-append}
use native.Mathlib.Decide.{ℕ_discrete}
use native.Mathlib.Omega.{arith}
use lib.Dec.{lit≤}
use lib.Arith.{digits_lt, digits_div, digits_mod}
use lib.ListN.{length, get_or, set, replicate, length-append, length-set, length-replicate}
use lib.Seq.{get_or-set_same, get_or-set_other}
use Rattle.std.proofs.lemmas.List.{get_or-replicate}
use Rattle.std.proofs.lemmas.List.Elements.{All-nil, All-push}
use Rattle.geometry.specs.Layout.{Disjoint}
use Rattle.geometry.proofs.Sharing.{shares_none}
use Rattle.geometry.proofs.Tables.{disjoint_more}
use Rattle.tiles.specs.Tiles.{tile_index, number_at}
use Rattle.forms.specs.declared.Head.{Head}
use Rattle.forms.specs.declared.Form.{Form}
use Rattle.forms.specs.declared.Form.TheVariants.{Unknown, Heading, Metal, Fill, End}
use Rattle.forms.specs.declared.Shape.{Shape}
use Rattle.forms.specs.Limits.{unit_limits}
use Rattle.forms.specs.Shapes.{rectangles}
use Rattle.forms.specs.Forms.{tiles_across, tile_count}
use Rattle.standing.specs.declared.Turn.{Turn}
use Rattle.standing.specs.declared.Turn.TheVariants.{Before, Shapes}
use Rattle.standing.specs.Faults.{Standing, before_head, rank_of, in_turn, room_of, line_fault, stands_after}
use Rattle.standing.specs.Sound.{GoodRect, Sound}
use Rattle.standing.proofs.Faultless.{head_faultless, NoFault, no_fault, NoShapeFault, no_shape_fault, NoFillFault, no_fill_fault}

-- ---- the turn

pub heading_turn : (t : Turn) (h : Head) → in_turn t (Heading h) ≡ true → t ≡ Before
heading_turn t h e = grind arith

pub shape_turn : (t : Turn) (s : Shape) → in_turn t (Metal s) ≡ true → t ≡ Shapes
shape_turn t s e = grind arith

-- what is in turn and no head comes after the head
pub after_head : (t : Turn) (f : Form) → in_turn t f ≡ true → 2 ≤ rank_of f → t ≡ Before → ⊥
after_head t f e n b = grind arith

-- ---- one more amount

-- a tile's place in the table names the tile
same_tile : (t i j u v : ℕ) → i < t → u < t → j * t + i ≡ v * t + u → (i ≡ u) × (j ≡ v)
same_tile t i j u v h k e = (sym (digits_mod j h) ∙ ap (λ (n : ℕ). n % t) e ∙ digits_mod v k, sym (digits_div j h) ∙ ap (λ (n : ℕ). n / t) e ∙ digits_div v k)

-- an amount that was set is the one of its tile, and the others are as they were
amount_set : (t : ℕ) (l : List ℕ) (i j p u v : ℕ) (bound : ℕ → ℕ → ℕ) → length l ≡ t * t → i < t → j < t → u < t → v < t → p ≤ bound i j →
    get_or l (v * t + u) 0 ≤ bound u v → get_or (set l (j * t + i) p) (v * t + u) 0 ≤ bound u v
amount_set t l i j p u v bound e hi hj hu hv fits old = go (ℕ_discrete (v * t + u) (j * t + i))
  where
    go : Dec (v * t + u ≡ j * t + i) → get_or (set l (j * t + i) p) (v * t + u) 0 ≤ bound u v
    go (yes q) =
        let k = same_tile t i j u v hi hu (sym q) in
        rw (q, get_or-set_same l (j * t + i) p 0 (rw e (digits_lt hj hi)), ← k.0, ← k.1) fits
    go (no n) = rw (get_or-set_other l (j * t + i) (v * t + u) p 0 n) old

-- ---- one more line

after_heading : (st : Standing) (h : Head) → NoFault unit_limits st (Heading h) → Sound (stands_after st (Heading h))
unfolding stands_after Disjoint
after_heading st h g =
    record {
      start = λ e. cc;
      headed = λ n. record { range = g.range; agreement = head_faultless unit_limits h g.own };
      few = lit≤ tt;
      good = All-nil _;
      apart = tt;
      sized = length-replicate (tile_count h) 0;
      unfilled = λ e. refl;
      fillable = λ i j hi hj. omega (arith, get_or-replicate {A = ℕ} (tile_count h) (tile_index (tiles_across h) i j) 0 0 (digits_lt hj hi));
    }

after_shape : (st : Standing) (s : Shape) → Sound st → NoFault unit_limits st (Metal s) → Sound (stands_after st (Metal s))
unfolding stands_after
after_shape st s k g =
    record {
      start = λ e. cc;
      headed = λ n. k.headed (after_head st.turn (Metal s) g.turn (lit≤ tt));
      few = omega (arith, length-append st.shapes (s ∷ []), f.room);
      good = rw more (All-push (GoodRect st.head) (rectangles st.shapes) s.rect k.good (record { range = g.range; fits = f.fits }));
      apart = rw more (disjoint_more (rectangles st.shapes) s.rect k.apart (shares_none (rectangles st.shapes) s.rect f.free));
      sized = k.sized;
      unfilled = λ e. none;
      fillable = λ i j hi hj. omega (arith, ap (λ (l : List ℕ). number_at l (tiles_across st.head) i j) none, get_or-replicate {A = ℕ} (tile_count st.head) (tile_index (tiles_across st.head) i j) 0 0 (digits_lt hj hi));
    }
  where
    f : NoShapeFault unit_limits st s.rect
    f = no_shape_fault unit_limits st s.rect g.own

    more : rectangles (st.shapes ++ (s ∷ [])) ≡ rectangles st.shapes ++ (s.rect ∷ [])
    more = map-append (λ (t : Shape). t.rect) st.shapes (s ∷ [])

    none : st.amounts ≡ replicate (tile_count st.head) 0
    none = k.unfilled (shape_turn st.turn s g.turn)

after_fill : (st : Standing) (i j p : ℕ) → Sound st → NoFault unit_limits st (Fill i j p) → Sound (stands_after st (Fill i j p))
unfolding stands_after
after_fill st i j p s g =
    record {
      start = λ e. cc;
      headed = λ n. s.headed (after_head st.turn (Fill i j p) g.turn (lit≤ tt));
      few = s.few;
      good = s.good;
      apart = s.apart;
      sized = length-set st.amounts (tile_index (tiles_across st.head) i j) p ∙ s.sized;
      unfilled = λ e. cc;
      fillable = λ u v hu hv.
          amount_set (tiles_across st.head) st.amounts i j p u v (room_of st)
          s.sized k.column k.row hu hv k.fits (s.fillable u v hu hv);
    }
  where
    k : NoFillFault st.head st.amounts (room_of st i j) i j p
    k = no_fill_fault st.head st.amounts (room_of st i j) i j p g.own

after_end : (st : Standing) → Sound st → NoFault unit_limits st End → Sound (stands_after st End)
unfolding stands_after
after_end st s g =
    record {
      start = λ e. cc;
      headed = λ n. s.headed (after_head st.turn End g.turn (lit≤ tt));
      few = s.few;
      good = s.good;
      apart = s.apart;
      sized = s.sized;
      unfilled = λ e. cc;
      fillable = s.fillable;
    }

sound_next : (st : Standing) (f : Form) → Sound st → NoFault unit_limits st f → Sound (stands_after st f)
sound_next st Unknown s g = absurd (false≢true g.spelled)
sound_next st (Heading h) s g = after_heading st h g
sound_next st (Metal m) s g = after_shape st m s g
sound_next st (Fill i j p) s g = after_fill st i j p s g
sound_next st End s g = after_end st s g

pub sound_after : (st : Standing) (f : Form) → Sound st → line_fault unit_limits st f ≡ 0 → Sound (stands_after st f)
sound_after st f s e = sound_next st f s (no_fault unit_limits st f e)

pub sound_start : Sound before_head
unfolding Disjoint
sound_start =
    record {
      start = λ e. refl;
      headed = λ n. absurd (n refl);
      few = lit≤ tt;
      good = All-nil _;
      apart = tt;
      sized = refl;
      unfilled = λ e. cc;
      fillable = λ i j hi hj. omega arith;
    }
