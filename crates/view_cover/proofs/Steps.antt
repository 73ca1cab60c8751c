-- The steps of the walk.
use Rattle.std.proofs.Common.{ℕ, ℤ, pos, ◌≡◌, ◌+◌, ◌-◌, ◌*◌, ◌^◌, ◌<◌, ◌≤◌, ◌≤ℤ◌, inl, inr, Option, None, Some, true, false, IsTrue, sym}
use Rattle.std.proofs.Common.{ap, ◌∙◌, subst, arith}
use Rattle.std.specs.Prelude.{IfSome}
use Rattle.std.proofs.lemmas.Int.{ints}
use Rattle.chart_grid.specs.declared.axis.Axis.{Axis}
use Rattle.chart_grid.specs.declared.grid.Grid.{Grid}
use Rattle.chart_grid.proofs.Rising.{column-below}
use Rattle.chart_grid.specs.Slots.{slot_time}
use Rattle.line_raster.specs.Canvas.{Canvas, Adds, IsBlank, black_at}
use Rattle.om3_coeff.specs.declared.key.Key.{Key}
use Rattle.om3_coeff.specs.declared.span.Span.{Span}
use Rattle.om3_coeff.specs.declared.coef.Coef.{Coef}
use Rattle.om3_coeff.specs.Keys.{first_slot, end_slot, left_of, right_of, top_key, height as height_of}
use Rattle.om3_coeff.specs.Spans.{IsProper, IsProperIfAny}
use Rattle.om3_coeff.specs.Coefs.{parts}
use Rattle.std.specs.Option.{option_map}
use Rattle.om3_coeff.specs.Known.{half, known_below, known}
use Rattle.om3_coeff.proofs.KeyLemmas.{end_within}
use Rattle.view_keys.proofs.Ranging.{first-in_range}
use Rattle.view_cover.specs.declared.area.Area.{Area}
use Rattle.view_cover.specs.Scene.{Scene, IsDrawnIn, IsSeen, known_in}
use Rattle.view_cover.specs.Front.{IsLowest, IsInFront}
use Rattle.view_cover.specs.Cover.{InCover, bottom, top}
use Rattle.view_cover.specs.Walk.{IsCoverOf, IsReached, AreColumnsIn, IsAreaOf, IsLastBefore, InPart}
use Rattle.view_cover.proofs.Spans.{Basis, left-half, right-half}
use Rattle.view_cover.proofs.Trees.{peak, left-key, right-key, left-parent, right-parent, known-under}

pub reached-left : Basis → (scene : Scene) (k : Key) (s : Span) (c : Coef) (halves : Option Span × Option Span) → 1 ≤ k.level
    → IsReached scene k (Some s) → scene.told k ≡ Some c
    → parts s c ≡ Some halves → IsReached scene (left_of k) halves.0
reached-left by scene k s c halves low reached is split = record {
  key = left-key (peak scene) k reached.key low;
  known_so = known-under by scene (left_of k) k (Some (Some s)) (left-parent k low) reached.key.high reached.known_so
      ∙ ap (λ (e : Option Coef). known_below (2 * k.index) (Some (Some s)) e) is
      ∙ ap (option_map (half (2 * k.index))) split
      ∙ ap (λ (o : Option Span). Some o) (left-half (2 * k.index) halves.0 halves.1 (omega arith));
}

pub reached-right : Basis → (scene : Scene) (k : Key) (s : Span) (c : Coef) (halves : Option Span × Option Span) → 1 ≤ k.level
    → IsReached scene k (Some s) → scene.told k ≡ Some c
    → parts s c ≡ Some halves → IsReached scene (right_of k) halves.1
reached-right by scene k s c halves low reached is split = record {
  key = right-key (peak scene) k reached.key low;
  known_so = known-under by scene (right_of k) k (Some (Some s)) (right-parent k low) reached.key.high reached.known_so
      ∙ ap (λ (e : Option Coef). known_below (2 * k.index + 1) (Some (Some s)) e) is
      ∙ ap (option_map (half (2 * k.index + 1))) split
      ∙ ap (λ (o : Option Span). Some o) (right-half (2 * k.index + 1) halves.0 halves.1 (omega arith));
}

-- a seen key is reached
pub seen-reached : (scene : Scene) (k : Key) (s : Span) → IsSeen scene k s → IsReached scene k (Some s)
seen-reached scene k s seen = record { key = seen.key; known_so = seen.span }

-- the key is reached with the span that it has
pub reached-as : (scene : Scene) (k : Key) (o p : Option Span) → o ≡ p → IsReached scene k o → IsReached scene k p
reached-as scene k o p is reached = subst (λ (s : Option Span). IsReached scene k s) is reached

pub reached-at : (scene : Scene) (k l : Key) (o : Option Span) → l ≡ k → IsReached scene k o → IsReached scene l o
reached-at scene k l o is reached = subst (λ (w : Key). IsReached scene w o) (sym is) reached

pub last-at : (scene : Scene) (a b : ℕ) (last : Option Area) → a ≡ b → IsLastBefore scene a last → IsLastBefore scene b last
last-at scene a b last is before = subst (λ (e : ℕ). IsLastBefore scene e last) is before

-- the span of a reached key is ordered
pub reached-order : ((root : Option Span) (told : Key → Option Coef) (top : ℕ) (k : Key) → IsProperIfAny root
    → IfSome (known root told top k) IsProperIfAny)
    → (scene : Scene) (k : Key) (s : Span) → IsProperIfAny scene.root → IsReached scene k (Some s) → s.min ≤ℤ s.max
reached-order proper scene k s root reached =
    let h : IfSome (known_in scene k) IsProperIfAny = proper scene.root scene.told (peak scene) k root in
    let p : IsProper s = subst (λ (o : Option (Option Span)). IfSome o IsProperIfAny) reached.known_so h in
    p.ordered

pub low-high : (a b p q : ℤ) → a ≡ p → b ≡ q → p ≤ℤ q → a ≤ℤ b
low-high a b p q e f h = omega (arith, ints, e, f, h)

-- a drawn column is one of the canvas
pub drawn-below : (axis : Axis) (grid : Grid) (k : Key) (c : ℕ) → IsDrawnIn axis grid k c → c < grid.w
drawn-below axis grid k c h = omega (arith, h.in_column.place, column-below grid (slot_time axis h.slot) h.in_column.shown)

pub last-within : (scene : Scene) (e n : ℕ) (last : Option Area) → n ≡ scene.grid.w → IsLastBefore scene e last
    → IfSome last (λ before. before.right < n)
last-within scene e n None is before = tt
last-within scene e n (Some area) is before = omega (
  arith,
  is,
  drawn-below scene.axis scene.grid before.0 area.right before.5.columns.right_drawn,
)

pub area-is : (scene : Scene) (k : Key) (s : Span) (a : Area) (left right : ℕ) → AreColumnsIn scene.axis scene.grid k left right
    → a.left ≡ left → a.right ≡ right
    → a.low ≡ bottom scene s → a.high ≡ top scene s → IsAreaOf scene k s a
area-is scene k s a left right columns left_is right_is low high = record {
  columns = subst (λ (n : ℕ). AreColumnsIn scene.axis scene.grid k a.left n) (sym right_is)
      (subst (λ (n : ℕ). AreColumnsIn scene.axis scene.grid k n right) (sym left_is) columns);
  low = low;
  high = high;
}

pub front-is : (scene : Scene) (k : Key) (s : Span) (left right : ℕ) → IsLowest scene k s → AreColumnsIn scene.axis scene.grid k left right
    → IsInFront scene k s
front-is scene k s left right lowest columns = record { lowest = lowest; column = left; drawn = columns.left_drawn }

-- the walk begins at the top
pub top-reached : ((root : Option Span) (told : Key → Option Coef) (n : ℕ) → known root told (height_of n) (top_key n) ≡ Some root)
    → (scene : Scene) → IsReached scene (top_key scene.axis.slots) scene.root
top-reached known_top scene = record {
  key = record { high = omega arith; within = power (peak scene - peak scene) };
  known_so = known_top scene.root scene.told scene.axis.slots;
}
  where
    power : (n : ℕ) → 0 < 2 ^ n
    power n = omega (arith, (first-in_range (record { level = n; index = 0 })).to)

pub top-last : (scene : Scene) → IsLastBefore scene (first_slot (top_key scene.axis.slots)) None
top-last scene m u front from to = absurd (omega (arith, to, (first-in_range m).to))

whole-part : (scene : Scene) (x : ℕ) (y : ℤ) → InCover scene x y
    → InPart scene (first_slot (top_key scene.axis.slots)) (end_slot (top_key scene.axis.slots)) x y
whole-part scene x y (inl b) =
    inl (record {
      key = b.key;
      span = b.span;
      front = b.front;
      from = omega arith;
      to = omega (arith, end_within (peak scene) b.key b.front.lowest.seen.key.high b.front.lowest.seen.key.within);
      pixel = b.pixel;
    })
whole-part scene x y (inr j) =
    inr (record {
      key = j.key;
      span = j.span;
      front = j.front;
      next = j.next;
      next_span = j.next_span;
      next_front = j.next_front;
      consecutive = j.consecutive;
      from = omega arith;
      to = omega (arith, end_within (peak scene) j.next j.next_front.lowest.seen.key.high j.next_front.lowest.seen.key.within);
      pixel = j.pixel;
    })

part-whole : (scene : Scene) (a b x : ℕ) (y : ℤ) → InPart scene a b x y → InCover scene x y
part-whole scene a b x y (inl s) = inl (record { key = s.key; span = s.span; front = s.front; pixel = s.pixel })
part-whole scene a b x y (inr j) = inr (record {
  key = j.key;
  span = j.span;
  front = j.front;
  next = j.next;
  next_span = j.next_span;
  next_front = j.next_front;
  consecutive = j.consecutive;
  pixel = j.pixel;
})

not-black : (c : Canvas) (x y : ℕ) → black_at c x y ≡ false → IsTrue (black_at c x y) → ⊥
not-black c x y white black = let t : false ≡ true = sym white ∙ black in cc

-- what the whole walk draws on a white canvas is the cover
covered : (scene : Scene) (w h : ℕ) (blank drawn : Canvas) → w ≡ scene.grid.w → h ≡ scene.grid.h → IsBlank w h blank
    → Adds (λ x y. InPart scene (first_slot (top_key scene.axis.slots)) (end_slot (top_key scene.axis.slots)) x (pos y)) blank drawn
    → IsCoverOf scene drawn
covered scene w h blank drawn wide tall is_blank adds = record {
  wide = adds.width ∙ is_blank.width ∙ wide;
  high = adds.height ∙ is_blank.height ∙ tall;
  pixels = λ x y column row.
      let inside : x < blank.w = omega (arith, column, is_blank.width, wide) in
      let below : y < blank.h = omega (arith, row, is_blank.height, tall) in
      let p = adds.pixels x y inside below in
      let white = is_blank.white x y (omega (arith, column, wide)) (omega (arith, row, tall)) in (
        (λ black. elim (p.0 black) [
          | inl old ↦ absurd (not-black blank x y white old)
          | inr set ↦ part-whole scene
              (first_slot (top_key scene.axis.slots)) (end_slot (top_key scene.axis.slots)) x (pos y) set
        ]),
        (λ set. p.1 (inr (whole-part scene x (pos y) set))),
      );
}

pub covered-by : (scene : Scene) (w h : ℕ) (key : Key) (blank drawn : Canvas) → w ≡ scene.grid.w → h ≡ scene.grid.h
    → key ≡ top_key scene.axis.slots → IsBlank w h blank
    → Adds (λ x y. InPart scene (first_slot key) (end_slot key) x (pos y)) blank drawn → IsCoverOf scene drawn
covered-by scene w h key blank drawn wide tall is is_blank adds =
    covered scene w h blank drawn wide tall is_blank
    (subst (λ (k : Key). Adds (λ x y. InPart scene (first_slot k) (end_slot k) x (pos y)) blank drawn) is adds)
