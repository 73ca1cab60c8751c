-- What counts at a stage is told by the whole frame and what is held, so it is told of each list that agrees.
use Rattle.std.proofs.Common.{ℕ, ℤ, pos, suc, ◌≡◌, ◌^◌, ◌<◌, ◌≤◌, ◌⊎◌, ◌↔◌, inl, inr, Bool, true, false, cond, IsTrue, List, [], ◌∷◌}
use Rattle.std.proofs.Common.{length, get_or, Option, None, Some, refl, sym, ap, ◌∙◌, subst, arith}
use Rattle.std.specs.Prelude.{AllPairs, slice_get}
use Rattle.std.proofs.lemmas.Option.{slice_get_within, get_or_from_slice_get}
use Rattle.line_raster.specs.Canvas.{Canvas, black_at}
use Rattle.chart_grid.specs.declared.axis.Axis.{Axis}
use Rattle.chart_grid.specs.declared.grid.Grid.{Grid}
use Rattle.om3_coeff.specs.declared.key.Key.{Key}
use Rattle.om3_coeff.specs.declared.coef.Coef.{Coef}
use Rattle.om3_coeff.specs.Keys.{top_key}
use Rattle.om3_coeff.specs.Spans.{AreSlots, span}
use Rattle.om3_coeff.specs.Coefs.{coef}
use Rattle.view_keys.specs.Needed.{IsNeeded}
use Rattle.view_keys.specs.Wanted.{Seen, IsWanted}
use Rattle.coefficient_cache.specs.Caches.{Cache}
use Rattle.coefficient_cache.specs.Pairs.{series_key, key_eq, in_series, coefficient_at}
use Rattle.coefficient_cache.proofs.Keys.{key_from, key_exact}
use Rattle.coefficient_cache.proofs.Finds.{or_else, lookup-append}
use Rattle.coefficient_cache.proofs.Given.{found-needed}
use Rattle.chart_frames.specs.declared.frame.Frame.TheVariants.{View}
use Rattle.chart_frames.specs.declared.frame.ViewFrame.{ViewFrame}
use Rattle.chart_frames.specs.Frames.{Precedes, FitsView}
use Rattle.chart_client.specs.declared.holding.Holding.{Holding}
use Rattle.chart_client.specs.HeldNodes.{sent_for}
use Rattle.chart_client.specs.Holdings.{told_by, axis_of, seen_by}
use Rattle.chart_client.specs.Agreeing.{Agrees}
use Rattle.chart_client.specs.Accepting.{Accepts, AcceptsView}
use Rattle.chart_client.proofs.Entries.{distinct_in_order}
use Rattle.chart_client.proofs.Grids.{grid_one}
use Rattle.view_cover.specs.Scene.{Scene}
use Rattle.view_cover.specs.Chart.{InChart, HoldsChart, IsToldOf}
use Rattle.progressive_view.proofs.Later.{one-holding}
use Rattle.progressive_view.specs.Used.{IsTaken, IsUnsent, IsHeldFor}
use Rattle.progressive_view.specs.Covers.{Taking, Stage, DrawsCover, scene_by, IsUsable, IsWithinCover}

-- what is sent for a key is told
told-sent : (view : ViewFrame) (cache : Cache) (k : Key) (c : Coef) → sent_for view.series view.coefs k ≡ Some c
    → told_by view cache k ≡ Some c
told-sent view cache k c is =
    lookup-append (key_eq (series_key view.series k)) (in_series view.series view.coefs) cache.pairs
    ∙ ap (λ (o : Option Coef). or_else o (coefficient_at cache.pairs (series_key view.series k))) is

taken-sent : (view : ViewFrame) (i : ℕ) (k : Key) (c : Coef) → AllPairs Precedes view.coefs → IsTaken view i k c
    → sent_for view.series view.coefs k ≡ Some c
taken-sent view i k c order t =
    let e : Key × Coef = (k, c) in
    let inside : t.place < length view.coefs = slice_get_within view.coefs t.place e t.sent in
    let here : get_or view.coefs t.place e ≡ e = get_or_from_slice_get view.coefs t.place e e t.sent in
    subst (λ (f : Key × Coef). sent_for view.series view.coefs f.0 ≡ Some f.1) here
    (found-needed view.series view.coefs t.place e (distinct_in_order view.coefs order) inside)

-- where none is sent, what is held is told
unsent-none : (series : ℕ) (coefs : List (Key × Coef)) (k : Key) → ((place : ℕ) (c : Coef) → slice_get coefs place ≡ Some (k, c) → ⊥)
    → sent_for series coefs k ≡ None
unsent-none series [] k none = refl
unsent-none series (e ∷ es) k none =
    let rest : sent_for series es k ≡ None = unsent-none series es k (λ place c is. none (suc place) c is) in
    elim (key_eq (series_key series k) (series_key series e.0)) as (λ (b : Bool). key_eq (series_key series k) (series_key series e.0) ≡ b
    → cond b (Some e.1) (sent_for series es k) ≡ None) [
      | true ↦ λ same. absurd (none 0 e.1 (ap (λ (q : Key). Some (q, e.1))
          (sym (key_from series k e.0 (key_exact (series_key series k) (series_key series e.0) same)))))
      | false ↦ λ other. rest
    ] refl

told-held : (view : ViewFrame) (cache : Cache) (k : Key) (c : Coef) → IsUnsent view k
    → coefficient_at cache.pairs (series_key view.series k) ≡ Some c → told_by view cache k ≡ Some c
told-held view cache k c unsent held =
    lookup-append (key_eq (series_key view.series k)) (in_series view.series view.coefs) cache.pairs
    ∙ ap (λ (o : Option Coef). or_else o (coefficient_at cache.pairs (series_key view.series k)))
    (unsent-none view.series view.coefs k unsent)
    ∙ held

-- what counts is told
used-told : (view : ViewFrame) (holding : Holding) (grid : Grid) (i : ℕ) (k : Key) (c : Coef) → AllPairs Precedes view.coefs
    → IsTaken view i k c ⊎ IsHeldFor view holding grid i k c
    → told_by view holding.cache k ≡ Some c
used-told view holding grid i k c order (inl t) = told-sent view holding.cache k c (taken-sent view i k c order t)
used-told view holding grid i k c order (inr h) = told-held view holding.cache k c h.unsent h.held

-- wanted keys are needed ones, where each that is both is told with the list's coefficient
abbrev pub WantedAreNeeded : Type 0
WantedAreNeeded = (list : List (Option ℤ)) (axis : Axis) (grid : Grid) (lo hi : ℤ) (seen : Seen) → AreSlots list → length list ≤ 2 ^ 35
    → axis.slots ≡ length list
    → seen.root ≡ span list (top_key (length list))
    → ((k : Key) → IsNeeded list axis grid lo hi k → IsWanted seen axis grid lo hi k → seen.told k ≡ Some (coef list k))
    → (k : Key) → IsWanted seen axis grid lo hi k ↔ IsNeeded list axis grid lo hi k

-- a wanted key that doesn't fail is told with the list's coefficient
right-told : (view : ViewFrame) (holding : Holding) (grid : Grid) (list : List (Option ℤ)) → IsUsable view holding grid
    → Agrees view holding.cache grid list
    → (k : Key) → IsWanted (seen_by view holding.cache) (axis_of view) grid view.lo view.hi k → (o : Option Coef)
    → told_by view holding.cache k ≡ o → o ≡ Some (coef list k)
right-told view holding grid list usable agrees k wanted None is = absurd (usable k wanted (inl is))
right-told view holding grid list usable agrees k wanted (Some c) is = ap (λ (d : Coef). Some d) (agrees.told k c wanted is)

few-slots : (view : ViewFrame) (list : List (Option ℤ)) → FitsView view → view.slots ≡ length list → length list ≤ 2 ^ 35
few-slots view list fits same = omega (arith, fits.head.source.axis.limit, same)

told-of : WantedAreNeeded → (view : ViewFrame) (holdings : List Holding) (i : ℕ) (stage : Stage view holdings i) (list : List (Option ℤ))
    → FitsView view
    → IsUsable view stage.holding stage.grid → Agrees view stage.holding.cache stage.grid list
    → IsToldOf list (scene_by view stage.grid stage.told)
told-of needed view holdings i stage list fits usable agrees = record {
  values = agrees.values;
  slots = agrees.slots;
  root = agrees.root;
  told = λ k c needs is.
      let told = used-told view stage.holding stage.grid i k c fits.coefs.order ((stage.used k c).0 is) in
      let wanted = (needed list (axis_of view) stage.grid view.lo view.hi (seen_by view stage.holding.cache) agrees.values
      (few-slots view list fits agrees.slots) agrees.slots agrees.root
      (λ w needs_w wanted_w. right-told view stage.holding stage.grid list usable agrees w wanted_w
      (told_by view stage.holding.cache w) refl) k).1 needs in
      agrees.told k c wanted told;
}

abbrev pub CoversHold : Type 0
CoversHold = (list : List (Option ℤ)) (scene : Scene) → IsToldOf list scene → length list ≤ 2 ^ 35 → HoldsChart list scene

pub agreeing-held : CoversHold → WantedAreNeeded → (view : ViewFrame) (holdings : List Holding) (i : ℕ) (stage : Stage view holdings i)
    (list : List (Option ℤ)) → FitsView view
    → IsUsable view stage.holding stage.grid → Agrees view stage.holding.cache stage.grid list
    → HoldsChart list (scene_by view stage.grid stage.told)
agreeing-held hold needed view holdings i stage list fits usable agrees =
    hold list (scene_by view stage.grid stage.told) (told-of needed view holdings i stage list fits usable agrees)
    (few-slots view list fits agrees.slots)

-- the picture of an accepted frame is the list's chart
picture-is : (view : ViewFrame) (holdings new : List Holding) (i : ℕ) (stage : Stage view holdings i) (picture : Canvas)
    (list : List (Option ℤ))
    → (accepted : AcceptsView view stage.holding.cache picture holdings new) → accepted.grid ≡ stage.grid
    → Agrees view stage.holding.cache stage.grid list
    → (x y : ℕ) → x < stage.grid.w → y < stage.grid.h
    → IsTrue (black_at picture x y) ↔ InChart list (scene_by view stage.grid stage.told) x (pos y)
picture-is view holdings new i stage picture list accepted same agrees =
    let other : Agrees view stage.holding.cache accepted.grid list = subst (λ (g : Grid). Agrees view stage.holding.cache g list)
    (sym same) agrees in
    subst (λ (g : Grid). (x y : ℕ) → x < g.w → y < g.h
    → IsTrue (black_at picture x y) ↔ InChart list (scene_by view g stage.told) x (pos y)) same
    (accepted.draws list other).pixels

picture-in : CoversHold → WantedAreNeeded → (s : Taking) (cover picture : Canvas) (new : List Holding) (drawn : DrawsCover s cover)
    (list : List (Option ℤ)) → FitsView s.view
    → AcceptsView s.view drawn.stage.holding.cache picture s.holdings new → Agrees s.view drawn.stage.holding.cache drawn.stage.grid list
    → IsWithinCover list (scene_by s.view drawn.stage.grid drawn.stage.told) cover picture
picture-in hold needed s cover picture new drawn list fits accepted agrees =
    let stage : Stage s.view s.holdings s.taken = drawn.stage in
    let same : accepted.grid ≡ stage.grid = grid_one s.view accepted.grid stage.grid accepted.grid_is stage.grid_is in
    let usable : IsUsable s.view stage.holding stage.grid = subst (λ (g : Grid). IsUsable s.view stage.holding g) same accepted.usable in
    let pixels = picture-is s.view s.holdings new s.taken stage picture list accepted same agrees in
    record {
      chart = pixels;
      within = λ x y wide high black. (drawn.cover.pixels x y wide high).1
          (agreeing-held hold needed s.view s.holdings s.taken stage list fits usable agrees x (pos y) ((pixels x y wide high).0 black));
    }

pub picture-within : CoversHold → WantedAreNeeded → (s : Taking) (cover picture : Canvas) (new : List Holding) (drawn : DrawsCover s cover)
    (list : List (Option ℤ)) → FitsView s.view
    → Accepts (View s.view) (Some picture) s.holdings new → Agrees s.view drawn.stage.holding.cache drawn.stage.grid list
    → IsWithinCover list (scene_by s.view drawn.stage.grid drawn.stage.told) cover picture
picture-within hold needed s cover picture new drawn list fits (holding, is, accepted) agrees =
    let same : holding ≡ drawn.stage.holding = one-holding (sym is ∙ drawn.stage.holding_is) in
    picture-in hold needed s cover picture new drawn list fits
    (subst (λ (h : Holding). AcceptsView s.view h.cache picture s.holdings new) same accepted) agrees
