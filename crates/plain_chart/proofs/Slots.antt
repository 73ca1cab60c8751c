-- Drawing, one slot more.
use Rattle.std.proofs.Common.{◌≡◌, ℕ, ℤ, pos, ◌+◌, ◌-◌, ◌*◌, ◌≤◌, ◌≤ℤ◌, ◌↔◌, ◌⊎◌, inl, inr, List, [], ◌∷◌, ◌++◌, length, map, Option, None}
use Rattle.std.proofs.Common.{Some, IfSome, sym, ap, subst, ◌∙◌, refl, arith, length-append}
use Rattle.std.proofs.lemmas.Int.{ints}
use Rattle.std.proofs.lemmas.Nat.{mul-le}
use Rattle.std.proofs.lemmas.List.{map-append, append-nil, length-map}
use Rattle.std.proofs.lemmas.Option.{slice_get-map}
use Rattle.std.specs.Prelude.{Bool, true, false, slice_get, if◌then◌else◌}
use Rattle.std.specs.Option.{ForSome, option_map, option_to_list}
use Rattle.chart_grid.specs.declared.grid.Grid.{Grid}
use Rattle.chart_grid.specs.declared.axis.Axis.{Axis}
use Rattle.chart_grid.specs.Projection.{InWindow, column}
use Rattle.line_raster.specs.Canvas.{Canvas, Adds}
use Rattle.line_raster.specs.Raster.{InRaster}
use Rattle.line_raster.specs.declared.position.Point.{Point}
use Rattle.line_raster.proofs.Drawn.{both, alike}
use Rattle.plain_chart.specs.declared.sample.Sample.{Sample}
use Rattle.plain_chart.specs.declared.value_range.ValueRange.{ValueRange}
use Rattle.plain_chart.specs.Samples.{kept_at, in_window, IsSlot}
use Rattle.chart_grid.specs.Slots.{slot_time}
use Rattle.plain_chart.specs.Chart.{place, places, last_of, last_with, Joins, OnFrom, IsDrawable, IsBefore}
use Rattle.plain_chart.proofs.Rastering.{raster_more, new_in_more}
use Rattle.plain_chart.proofs.Places.{column-rising}

kept_parts : (g : Grid) (axis : Axis) (slot : ℕ) (v : ℤ) (b : Bool) (s : Sample)
    → (if b then Some (record { time = slot_time axis slot; value = v }) else None) ≡ Some s
    → (s.time ≡ slot_time axis slot) × (s.value ≡ v)
kept_parts g axis slot v true s is =
    let e : record { time = slot_time axis slot; value = v } ≡ s = cc in
    (sym (ap (λ k. k.time) e), sym (ap (λ k. k.value) e))
kept_parts g axis slot v false s is = cc

-- a slot's sample has the slot's time and value
pub kept_is : (g : Grid) (axis : Axis) (slot : ℕ) (stored : Option ℤ) (s : Sample) → kept_at g axis (slot, stored) ≡ Some s
    → (s.time ≡ slot_time axis slot) × (stored ≡ Some s.value)
kept_is g axis slot None s is = cc
kept_is g axis slot (Some v) s is =
    let parts = kept_parts g axis slot v (in_window g (slot_time axis slot)) s is in
    (parts.0, ap Some (sym parts.1))

-- a kept sample may be drawn
pub kept_drawable : (g : Grid) (axis : Axis) (slot : ℕ) (stored : Option ℤ) (o : Option Sample) → o ≡ kept_at g axis (slot, stored)
    → IsSlot stored → IfSome o (λ s. InWindow g s.time) → ForSome o (IsDrawable g)
kept_drawable g axis slot stored o is value window = λ s some.
    let W : Option Sample → Type 0 = λ p. IfSome p (λ t. InWindow g t.time) in
    let parts = kept_is g axis slot stored s (sym is ∙ some) in
    record { window = subst W some window; value = subst IsSlot parts.1 value }

-- the last sample with one more is the last of the samples with one more
pub last_more : (ps : List Sample) (last o : Option Sample) → last ≡ last_of ps → last_with last o ≡ last_of (ps ++ option_to_list o)
last_more ps last None is = is ∙ ap (λ l. last_of l) (sym (append-nil ps))
last_more ps last (Some s) is =
    let at : length ps ≡ length (ps ++ s ∷ []) - 1 = omega (arith, length-append ps (s ∷ [])) in
    let P : ℕ → Type 0 = λ i. slice_get (ps ++ s ∷ []) i ≡ Some s in
    sym (subst P at (new_in_more ps s))

placed_last : (f : Sample → Point) (ps : List Sample) → option_map f (last_of ps) ≡ last_of (map f ps)
placed_last f ps =
    let same : length (map f ps) ≡ length ps = length-map ps f in
    sym (ap (λ n. slice_get (map f ps) (n - 1)) same ∙ slice_get-map f ps (length ps - 1))

placed_order : (g : Grid) (range : ValueRange) (last : Option Sample) (s : Sample) → ForSome last (IsDrawable g) → IsBefore last s
    → (p : Point) → option_map (place g range) last ≡ Some p → p.x ≤ column g s.time
placed_order g range None s drawable before p is = cc
placed_order g range (Some t) s drawable before p is =
    let same : place g range t ≡ p = cc in
    let X : Point → Type 0 = λ q. q.x ≤ column g s.time in
    subst X same (column-rising g t.time s.time (drawable t refl).window before)

-- drawing a slot's sample draws the raster of one sample more
pub drawn_more : (g : Grid) (range : ValueRange) (ps : List Sample) (last o : Option Sample) (base now new : Canvas) → base.w ≡ g.w
    → last ≡ last_of ps → ForSome last (IsDrawable g) → ForSome o (IsBefore last)
    → Adds (λ x y. InRaster (places g range ps) x (pos y)) base now → Adds (λ x y. Joins g range last o x (pos y)) now new
    → Adds (λ x y. InRaster (places g range (ps ++ option_to_list o)) x (pos y)) base new
drawn_more g range ps last None base now new width is drawable before drawn joined =
    alike _ _ base new (both _ _ base now new drawn joined)
    (λ x y column row. (
      (λ h. elim h [
        | inl old ↦ let P : List Sample → Type 0 = λ l. InRaster (places g range l) x (pos y) in
            subst P (sym (append-nil ps)) old
        | inr none ↦ absurd none
      ]),
      (λ h. let P : List Sample → Type 0 = λ l. InRaster (places g range l) x (pos y) in inl (subst P (append-nil ps) h)),
    ))
drawn_more g range ps last (Some s) base now new width is drawable before drawn joined =
    let more = raster_more (places g range ps) (place g range s) (option_map (place g range) last) (ap (option_map (place g range)) is
    ∙ placed_last (place g range) ps) (placed_order g range last s drawable (before s refl)) in
    let split : places g range (ps ++ s ∷ []) ≡ places g range ps ++ place g range s ∷ [] = map-append (place g range) ps (s ∷ []) in
    alike _ _ base new (both _ _ base now new drawn joined)
    (λ x y column row. let P : List Point → Type 0 = λ l. (InRaster (places g range ps) x (pos y)
    ⊎ OnFrom (option_map (place g range) last) (place g range s) x (pos y)) ↔ InRaster l x (pos y) in
    subst P (sym split) (more x (pos y)))

-- what holds of the last sample and of the next holds of the last of both
pub later_more : (P Q : Sample → Type 0) (last o : Option Sample) → ((s : Sample) → P s → Q s) → ForSome last P → ForSome o Q
    → ForSome (last_with last o) Q
later_more P Q last None weaker old next = λ s is. weaker s (old s is)
later_more P Q last (Some t) weaker old next = next

-- the next sample isn't before the last
pub before_next : (axis : Axis) (slot : ℕ) (last o : Option Sample) → ForSome last (λ s. s.time ≤ℤ slot_time axis slot)
    → ForSome o (λ s. s.time ≡ slot_time axis slot) → ForSome o (IsBefore last)
before_next axis slot None o earlier at = λ s is. tt
before_next axis slot (Some t) o earlier at = λ s is. omega (arith, ints, earlier t refl, at s is)

-- a later slot has no earlier time
pub time-rising : (axis : Axis) (slot : ℕ) → slot_time axis slot ≤ℤ slot_time axis (slot + 1)
time-rising axis slot =
    let more : slot * axis.step ≤ (slot + 1) * axis.step = mul-le slot axis.step (slot + 1) axis.step (omega arith) (omega arith) in
    omega (arith, ints, more)
