-- A request that is answered isn't refused, and of lines that say requests which aren't none stops a run.
use Rattle.std.proofs.Common.{◌≡◌, ◌∙◌, ℕ, ℤ, true, cond, List, [], ◌∷◌, ◌++◌, Option, Some, None, refl, ap, sym, subst, arith, inl, inr}
use Rattle.std.proofs.lemmas.List.Elements.{All-contains}
use Rattle.std.specs.List.{filter}
use Rattle.chart_grid.specs.declared.grid.Grid.{Grid}
use Rattle.chart_service.specs.Serving.{told}
use Rattle.chart_service.specs.ViewingLaws.{no_window, no_sides, no_range}
use Rattle.chart_world.specs.FrontLaws.{some_left, whole_front}
use Rattle.chart_world.specs.Fronts.{says}
use Rattle.chart_world.specs.LineLaws.{told_behind}
use Rattle.derived_chart.specs.Points.{IsSumAt}
use Rattle.line_raster.specs.Canvas.{Canvas}
use Rattle.line_runs.specs.Given.{NextLine}
use Rattle.plain_chart.specs.declared.value_range.ValueRange.{ValueRange}
use Rattle.series_book.specs.Edits.{id_of}
use Rattle.series_book.specs.declared.one_series.Series.{Series}
use Rattle.series_pair.proofs.ChartLemmas.{same_series}
use Rattle.series_pair.specs.Derived.{AreAlike, AreShifted, HasLargeSum, IsDerivedChart, axis_of}
use Rattle.view_keys.proofs.Grids.{grid_same}
use Rattle.whole_number.specs.Range.{IsValue}
use Rattle.derive_command.specs.Answers.{AreNamed, AreOnOneGrid, IsAnswer, IsGridOf, IsRefused, IsUnrefused, asked_range, by_book}
use Rattle.derive_command.specs.Lines.{AreUnrefused, DrawsToBad, DrawsToRefused, FirstLines}
use Rattle.derive_command.specs.Requests.{Says}
use Rattle.derive_command.specs.declared.derive_refusal.DeriveRefusal.{DeriveRefusal}
use Rattle.derive_command.specs.declared.derive_refusal.DeriveRefusal.TheVariants as refusal
use Rattle.derive_command.specs.declared.request.Request.{Request}
use Rattle.derive_command.proofs.LineLemmas.{says_true}
use Rattle.derive_command.proofs.PictureLemmas.{picture_same}
use Rattle.derive_command.proofs.SpellLemmas.{one_request}

-- ---- a request that is answered isn't refused

not_none : (o : Option ℕ) (id : ℕ) → o ≡ Some id → o ≡ None → ⊥
not_none o id some none = cc

one_id : (o : Option ℕ) (id other : ℕ) → o ≡ Some id → o ≡ Some other → id ≡ other
one_id o id other first second = let same : Some id ≡ Some other = sym first ∙ second in cc

-- a chart has no sum that is too large
no_large : (book : List Series) (x y : ℕ) (a b : ℤ) (g : Grid) (asked : Option ValueRange) (canvas : Canvas) (time : ℤ)
    → IsDerivedChart book x y a b g asked canvas → HasLargeSum book x y a b g time → ⊥
no_large book x y a b g asked canvas time chart large =
    let one = same_series book x large.are.one chart.are.one large.are.first chart.are.first in
    let other = same_series book y large.are.other chart.are.other large.are.second chart.are.second in
    let is = (large.are.are.each time large.first.value).0 large.first.among in
    let P : Series → Type 0 = λ s. IsSumAt a b (axis_of s) (axis_of large.are.other) s.slots large.are.other.slots time large.first.value in
    let Q : Series → Type 0 = λ s. IsSumAt a b (axis_of chart.are.one) (axis_of s) chart.are.one.slots s.slots time large.first.value in
    let there = (chart.are.are.each time large.first.value).1 (is.0, subst Q other (subst P one is.1)) in
    let small = All-contains (λ s. IsValue s.value) chart.samples (record { time = time; value = large.first.value }) chart.values there in
    absurd (omega (arith, small, large.first.large))

one_grid : (r : Request) (g other : Grid) → IsGridOf r g → IsGridOf r other → g ≡ other
one_grid r g other first second =
    grid_same g other (first.shows.from ∙ sym second.shows.from) (first.shows.to ∙ sym second.shows.to) (first.canvas.columns
    ∙ sym second.canvas.columns) (first.canvas.rows ∙ sym second.canvas.rows)

module _ (book : List Series) (r : Request) (text : List ℕ) (answer : IsAnswer book r text) where
  same_first : (x y : ℕ) → AreNamed book r x y → x ≡ answer.series.x
  same_first x y named = one_id (id_of r.first book) x answer.series.x named.first answer.series.named.first

  same_second : (x y : ℕ) → AreNamed book r x y → y ≡ answer.series.y
  same_second x y named = one_id (id_of r.second book) y answer.series.y named.second answer.series.named.second

  pub not_refused : (why : DeriveRefusal) → IsRefused book r why → ⊥
  not_refused refusal.UnknownSeries (inl none) = not_none (id_of r.first book) answer.series.x answer.series.named.first none
  not_refused refusal.UnknownSeries (inr none) = not_none (id_of r.second book) answer.series.y answer.series.named.second none
  not_refused refusal.NotOneGrid (x, y, named, unlike) =
      let X : ℕ → Type 0 = λ i. AreShifted book i answer.series.y answer.series.shift in
      let Y : ℕ → Type 0 = λ i. AreShifted book x i answer.series.shift in
      unlike answer.series.shift (subst Y (sym (same_second x y named)) (subst X (sym (same_first x y named)) answer.series.shifted))
  not_refused refusal.BadWindow (one, bad) = no_window r.t0 r.t1 answer.grid_is.window bad
  not_refused refusal.BadCanvas (one, window, bad) = no_sides r.w r.h answer.grid_is.wide answer.grid_is.high bad
  not_refused refusal.BadRange (one, window, wide, high, bad) = no_range r.range answer.grid_is.range bad
  not_refused refusal.TooLarge has =
      let G : Grid → Type 0 = λ g. HasLargeSum book has.series.x has.series.y r.a r.b g has.time in
      let X : ℕ → Type 0 = λ i. HasLargeSum book i has.series.y r.a r.b answer.grid has.time in
      let Y : ℕ → Type 0 = λ i. HasLargeSum book answer.series.x i r.a r.b answer.grid has.time in
      let large = subst Y (same_second has.series.x has.series.y has.series.named)
      (subst X (same_first has.series.x has.series.y has.series.named)
      (subst G (one_grid r has.grid answer.grid has.grid_is answer.grid_is) has.large)) in
      no_large book answer.series.x answer.series.y r.a r.b answer.grid (asked_range r.range) answer.canvas has.time answer.chart large

-- ---- a request is refused for one reason

module _ (book : List Series) (r : Request) where
  named_not : (x y : ℕ) → AreNamed book r x y → IsRefused book r refusal.UnknownSeries → ⊥
  named_not x y named (inl none) = not_none (id_of r.first book) x named.first none
  named_not x y named (inr none) = not_none (id_of r.second book) y named.second none

  one_grid_not : AreOnOneGrid book r → IsRefused book r refusal.NotOneGrid → ⊥
  one_grid_not one (x, y, named, unlike) =
      let X : ℕ → Type 0 = λ i. AreShifted book i one.y one.shift in
      let Y : ℕ → Type 0 = λ i. AreShifted book x i one.shift in
      unlike one.shift (subst Y (one_id (id_of r.second book) one.y y one.named.second named.second)
      (subst X (one_id (id_of r.first book) one.x x one.named.first named.first) one.shifted))

  pub one_refusal : (one other : DeriveRefusal) → IsRefused book r one → IsRefused book r other → one ≡ other
  one_refusal refusal.UnknownSeries refusal.UnknownSeries first second = refl
  one_refusal refusal.UnknownSeries refusal.NotOneGrid first second = absurd (named_not second.0 second.1 second.2 first)
  one_refusal refusal.UnknownSeries refusal.BadWindow first second = absurd (named_not second.0.x second.0.y second.0.named first)
  one_refusal refusal.UnknownSeries refusal.BadCanvas first second = absurd (named_not second.0.x second.0.y second.0.named first)
  one_refusal refusal.UnknownSeries refusal.BadRange first second = absurd (named_not second.0.x second.0.y second.0.named first)
  one_refusal refusal.UnknownSeries refusal.TooLarge first second = absurd
      (named_not second.series.x second.series.y second.series.named first)
  one_refusal refusal.NotOneGrid refusal.UnknownSeries first second = absurd (named_not first.0 first.1 first.2 second)
  one_refusal refusal.NotOneGrid refusal.NotOneGrid first second = refl
  one_refusal refusal.NotOneGrid refusal.BadWindow first second = absurd (one_grid_not second.0 first)
  one_refusal refusal.NotOneGrid refusal.BadCanvas first second = absurd (one_grid_not second.0 first)
  one_refusal refusal.NotOneGrid refusal.BadRange first second = absurd (one_grid_not second.0 first)
  one_refusal refusal.NotOneGrid refusal.TooLarge first second = absurd (one_grid_not second.series first)
  one_refusal refusal.BadWindow refusal.UnknownSeries first second = absurd (named_not first.0.x first.0.y first.0.named second)
  one_refusal refusal.BadWindow refusal.NotOneGrid first second = absurd (one_grid_not first.0 second)
  one_refusal refusal.BadWindow refusal.BadWindow first second = refl
  one_refusal refusal.BadWindow refusal.BadCanvas first second = absurd (no_window r.t0 r.t1 second.1 first.1)
  one_refusal refusal.BadWindow refusal.BadRange first second = absurd (no_window r.t0 r.t1 second.1 first.1)
  one_refusal refusal.BadWindow refusal.TooLarge first second = absurd (no_window r.t0 r.t1 second.grid_is.window first.1)
  one_refusal refusal.BadCanvas refusal.UnknownSeries first second = absurd (named_not first.0.x first.0.y first.0.named second)
  one_refusal refusal.BadCanvas refusal.NotOneGrid first second = absurd (one_grid_not first.0 second)
  one_refusal refusal.BadCanvas refusal.BadWindow first second = absurd (no_window r.t0 r.t1 first.1 second.1)
  one_refusal refusal.BadCanvas refusal.BadCanvas first second = refl
  one_refusal refusal.BadCanvas refusal.BadRange first second = absurd (no_sides r.w r.h second.2 second.3 first.2)
  one_refusal refusal.BadCanvas refusal.TooLarge first second = absurd (no_sides r.w r.h second.grid_is.wide second.grid_is.high first.2)
  one_refusal refusal.BadRange refusal.UnknownSeries first second = absurd (named_not first.0.x first.0.y first.0.named second)
  one_refusal refusal.BadRange refusal.NotOneGrid first second = absurd (one_grid_not first.0 second)
  one_refusal refusal.BadRange refusal.BadWindow first second = absurd (no_window r.t0 r.t1 first.1 second.1)
  one_refusal refusal.BadRange refusal.BadCanvas first second = absurd (no_sides r.w r.h first.2 first.3 second.2)
  one_refusal refusal.BadRange refusal.BadRange first second = refl
  one_refusal refusal.BadRange refusal.TooLarge first second = absurd (no_range r.range second.grid_is.range first.4)
  one_refusal refusal.TooLarge refusal.UnknownSeries first second = absurd
      (named_not first.series.x first.series.y first.series.named second)
  one_refusal refusal.TooLarge refusal.NotOneGrid first second = absurd (one_grid_not first.series second)
  one_refusal refusal.TooLarge refusal.BadWindow first second = absurd (no_window r.t0 r.t1 first.grid_is.window second.1)
  one_refusal refusal.TooLarge refusal.BadCanvas first second = absurd (no_sides r.w r.h first.grid_is.wide first.grid_is.high second.2)
  one_refusal refusal.TooLarge refusal.BadRange first second = absurd (no_range r.range first.grid_is.range second.4)
  one_refusal refusal.TooLarge refusal.TooLarge first second = refl

-- ---- a request has one answer

pub one_answer : ((book : List Series) (x y : ℕ) (a b : ℤ) (g : Grid) (asked : Option ValueRange) (one other : Canvas)
    → IsDerivedChart book x y a b g asked one → IsDerivedChart book x y a b g asked other → AreAlike one other)
    → (book : List Series) (r : Request) (one other : List ℕ) → IsAnswer book r one → IsAnswer book r other → one ≡ other
one_answer law book r one other first second =
    let asked = asked_range r.range in
    let x = same_first book r one first second.series.x second.series.y second.series.named in
    let y = same_second book r one first second.series.x second.series.y second.series.named in
    let X : ℕ → Type 0 = λ i. IsDerivedChart book i second.series.y r.a r.b second.grid asked second.canvas in
    let Y : ℕ → Type 0 = λ i. IsDerivedChart book first.series.x i r.a r.b second.grid asked second.canvas in
    let G : Grid → Type 0 = λ g. IsDerivedChart book first.series.x first.series.y r.a r.b g asked second.canvas in
    let chart = subst G (one_grid r second.grid first.grid second.grid_is first.grid_is) (subst Y y (subst X x second.chart)) in
    let alike = law book first.series.x first.series.y r.a r.b first.grid asked first.canvas second.canvas first.chart chart in
    first.text_is ∙ sym (picture_same first.canvas second.canvas alike) ∙ sym second.text_is

-- ---- lines

says_one : (line : Option (List ℕ)) (first second : Request) → Says line first → Says line second → first ≡ second
says_one None first second one two = absurd one
says_one (Some text) first second one two = one_request text first second one two

-- the lines behind some first ones are so, too
split : (book : List Series) (first others : List (Option (List ℕ))) → AreUnrefused book (first ++ others) → AreUnrefused book others
split book [] others are = are
split book (l ∷ ls) others are = split book ls others are.1

-- the next line is so
at_next : (book : List Series) (input : List ℕ) (answers : Request → List ℕ
    → Type 0) (first : FirstLines answers input) (given : ℕ) (line : Option (List ℕ)) → AreUnrefused book (told input)
    → NextLine given first.rest line → says line ≡ true → IsUnrefused book line
at_next book input answers first given line are next some =
    let whole = whole_front first.front first.rest first.begins.whole (some_left first.rest line next.later next.lines_are) in
    let P : List (Option (List ℕ)) → Type 0 = λ l. AreUnrefused book l in
    let behind : told first.rest ≡ line ∷ filter says next.later = ap (filter says) next.lines_are
    ∙ ap (λ b. cond b (line ∷ filter says next.later) (filter says next.later)) some in
    let all : told input ≡ told first.front ++ line ∷ filter says next.later = ap told first.begins.split
    ∙ told_behind first.front first.rest whole ∙ ap (λ l. told first.front ++ l) behind in
    (split book (told first.front) (line ∷ filter says next.later) (subst P all are)).0

pub bad_never : (book : List Series) (input : List ℕ) (before now : Option (List ℕ)) (place : ℕ) → AreUnrefused book (told input)
    → DrawsToBad (by_book book) input before now place → ⊥
bad_never book input before now place are bad =
    let next = at_next book input (IsAnswer book) bad.drawn.first _ bad.line are bad.next bad.some in
    bad.none next.request next.says_it

pub refused_never : (book : List Series) (input : List ℕ) (before now : Option (List ℕ)) (at : ℕ) (why : DeriveRefusal)
    → AreUnrefused book (told input) → DrawsToRefused (by_book book) input before now at why → ⊥
refused_never book input before now at why are stop =
    let next = at_next book input (IsAnswer book) stop.drawn.first _ stop.line are stop.next
    (says_true stop.line stop.refuses.request stop.refuses.says_it) in
    let same = says_one stop.line stop.refuses.request next.request stop.refuses.says_it next.says_it in
    let P : Request → Type 0 = λ r. IsRefused book r why in
    next.unrefused why (subst P same stop.refuses.refused)
