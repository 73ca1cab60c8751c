-- The example worked through.
use Rattle.std.proofs.Common.{◌≡◌, ℕ, ℤ, pos, suc, ◌-◌, ◌≤◌, ◌^◌, true, false, List, [], ◌∷◌, ◌++◌, length}
use Rattle.std.proofs.Common.{take, Option, None, Some, Result, Ok, Err, slice_get}
use Rattle.std.proofs.Common.{refl, sym, ap, subst, ◌∙◌, arith, inl, inr, append-nil, length-append}
use Rattle.std.specs.Prelude.{◌⊎◌, map, nat_le, if◌then◌else◌, codes}
use Rattle.std.proofs.lemmas.Bool.{le-ltb}
use Rattle.block_disk.specs.Streams.{sent_after}
use Rattle.gate_pages.specs.Journal.{page_count}
use Rattle.series_book.specs.declared.one_series.Series.{Series}
use Rattle.series_book.specs.declared.refusals.Refusal.TheVariants.{Full}
use Rattle.series_book.specs.Edits.{id_of, created, appended, fitted}
use Rattle.whole_number.specs.SlotTimes.{ends_in_time}
use Rattle.series_book.specs.Pages.{count_below, range_has_value, ranges_with_value, level_pages}
use Rattle.series_book.specs.Pages.{first_covering, page_levels, series_pages, pages_of}
use Rattle.request_lines.specs.declared.requests.Request.{Request}
use Rattle.request_lines.specs.declared.ranges.RangeWord.TheVariants.{Fixed}
use Rattle.zoom_session.specs.declared.view_spec.ViewSpec.{ViewSpec}
use Rattle.zoom_session.specs.declared.view_spec.RangeSpec.{RangeSpec}
use Rattle.plain_chart.specs.declared.sample.Sample.{Sample}
use Rattle.plain_chart.specs.Samples.{kept, values_of}
use Rattle.plain_chart.specs.Chart.{IsChart}
use Rattle.chart_grid.specs.declared.axis.Axis.{Axis}
use Rattle.query_rewriter.specs.Kept.{passes}
use Rattle.std.specs.List.{filter}
use Rattle.chart_service.specs.Serving.{told}
use Rattle.chart_service.specs.Viewing.{kept_by, ShowsRange}
use Rattle.served_fronts.specs.Books.{Line, ok_of, said_by, after_line, after_lines, after_request, after_requests, or_same}
use Rattle.served_fronts.specs.Fronts.{Draws}
use Rattle.served_fronts.specs.Answers.{Answer, AreAnswers, ArePictures, FitsSaid}
use Rattle.served_fronts.specs.Answers.{FitsIn, CantShow, HasPicture, IsAsked, IsPicture, Keeps}
use Rattle.served_fronts.specs.Answers.{OpenSession, Reply, applied, opened, closed, shown, refused, after_reply, bytes_of, whole_in}
use Rattle.served_fronts.specs.Answers.{AreFrames}
use Rattle.served_fronts.specs.Laws.{ChartsHaveOnePicture}
use Rattle.served_fronts.specs.Headline.{Task, Run, Says, LeavesBook, IsExact, AreExact, ChartsAreExact}
use Rattle.served_fronts.specs.Example.{first_input, second_input, book_with, bitmap, TheExampleIsDrawn}
use Rattle.served_fronts.proofs.Fronts.{high_of}
use Rattle.served_fronts.proofs.Reading.{Spelling, all_said, said_many}
use Rattle.served_fronts.proofs.Texting.{answers_many}
use Rattle.served_fronts.proofs.ExampleLines.{first_lines, second_lines, read_open, read_create, read_append, read_one, read_view}
use Rattle.served_fronts.proofs.ExampleChart.{canvas, its_bytes, two_samples, kept_two, kept_three, chart}

-- ---- the books

abbrev empty : List Series
empty = record { name = codes "A"; start = pos 0; step = 4; scale = 0; slots = [] } ∷ []

after_create : (total : ℕ) → after_line total [] (Some (codes "create A 0 4 0")) ≡ empty
unfolding created id_of
after_create total = ap (λ q. after_request total [] (ok_of q)) read_create

after_append : (total : ℕ) → 62 ≤ total → after_line total empty (Some (codes "append A 0 3")) ≡ book_with []
unfolding ends_in_time id_of appended fitted pages_of series_pages page_levels first_covering level_pages ranges_with_value
    range_has_value count_below
after_append total large =
    ap (λ q. after_request total empty (ok_of q)) read_append
    ∙ ap (λ full. or_same empty (if full then Err (Full 18 total) else Ok (record { book = book_with []; slots = 2 })))
    (le-ltb total 18 (omega (arith, large)))

after_one : (total : ℕ) → 62 ≤ total → after_line total (book_with []) (Some (codes "append A 1")) ≡ book_with (Some (pos 1) ∷ [])
unfolding ends_in_time id_of appended fitted pages_of series_pages page_levels first_covering level_pages ranges_with_value
    range_has_value count_below
after_one total large =
    ap (λ q. after_request total (book_with []) (ok_of q)) read_one
    ∙ ap (λ full. or_same (book_with []) (if full then Err (Full 18 total)
    else Ok (record { book = book_with (Some (pos 1) ∷ []); slots = 3 }))) (le-ltb total 18 (omega (arith, large)))

few_whole : (n : ℕ) (answers : List Answer) → length (whole_in n answers) ≤ length answers
few_whole n [] = omega arith
few_whole n (a ∷ l) = elim (nat_le (length a.bytes) n) as (λ b. length (if b then a ∷ whole_in (n - length a.bytes) l else [])
    ≤ suc (length l)) [
      | true ↦ omega (arith, few_whole (n - length a.bytes) l)
      | false ↦ omega arith
    ]

two_or_three : (a b c : Line) (lines later : List Line) → a ∷ b ∷ c ∷ [] ≡ lines ++ later → 2 ≤ length lines
    → (lines ≡ a ∷ b ∷ []) ⊎ (lines ≡ a ∷ b ∷ c ∷ [])
two_or_three a b c [] later same low = absurd (omega (arith, low))
two_or_three a b c (x ∷ []) later same low = absurd (omega (arith, low))
two_or_three a b c (x ∷ y ∷ []) later same low = inl (sym (ap (take 2) same))
two_or_three a b c (x ∷ y ∷ z ∷ []) later same low = inr (sym (ap (take 3) same))
two_or_three a b c (x ∷ y ∷ z ∷ w ∷ l) later same low = absurd (omega (arith, ap length same, length-append l later))

abbrev MayHold : List Series → Type 0
MayHold book = (book ≡ book_with []) ⊎ (book ≡ book_with (Some (pos 1) ∷ []))

book_after : (total : ℕ) (lines : List Line) → 62 ≤ total
    → (lines ≡ Some (codes "create A 0 4 0") ∷ Some (codes "append A 0 3") ∷ [])
    ⊎ (lines ≡ Some (codes "create A 0 4 0") ∷ Some (codes "append A 0 3") ∷ Some (codes "append A 1") ∷ [])
    → MayHold (after_lines total [] lines)
book_after total lines large (inl is) =
    inl (ap (after_lines total []) is ∙ ap (λ b. after_line total b (Some (codes "append A 0 3"))) (after_create total)
    ∙ after_append total large)
book_after total lines large (inr is) =
    let second = ap (λ b. after_line total b (Some (codes "append A 0 3"))) (after_create total) ∙ after_append total large in
    inr (ap (after_lines total []) is ∙ ap (λ b. after_line total b (Some (codes "append A 1"))) second ∙ after_one total large)

held_by : Spelling → (total : ℕ) (first : Run) (book : List Series) → 62 ≤ total → first.input ≡ first_input
    → (leaves : LeavesBook total [] first book)
    → 2 ≤ length (whole_in first.by_then leaves.answers) → MayHold book
held_by law total first book large input leaves many =
    let lines = leaves.first.lines in
    let size = answers_many total [] [] leaves.requests leaves.answers leaves.first.fit
    ∙ said_many lines leaves.requests leaves.first.said in
    let low = few_whole first.by_then leaves.answers in
    let split = sym first_lines ∙ ap told (sym input) ∙ leaves.first.split in
    let some : 2 ≤ length lines = omega (arith, many, size, low) in
    let after = book_after total lines large (two_or_three (Some (codes "create A 0 4 0")) (Some (codes "append A 0 3"))
    (Some (codes "append A 1"))
    lines leaves.first.later split some) in
    subst MayHold (sym (leaves.next_is ∙ ap (after_requests total []) (all_said law lines leaves.requests leaves.first.said))) after

-- ---- the answers of the second run

abbrev session : OpenSession
session = record { number = 1; cache = 65536; last = None }

abbrev Asks : List (Option ℤ) → ViewSpec → Type 0
Asks values view = IsAsked (book_with values) (codes "A") 8 4 (pos 0) (pos 8) (Fixed (pos 0) (pos 3)) None view

abbrev Cant : List (Option ℤ) → Type 0
Cant values = CantShow (book_with values) (codes "A") 8 4 (pos 0) (pos 8) (Fixed (pos 0) (pos 3)) None session

can_show : (values : List (Option ℤ)) → Cant values → ⊥
unfolding id_of
can_show values (inl never) = never
can_show values (inr (inl none)) =
    none 0 (record { name = codes "A"; start = pos 0; step = 4; scale = 0; slots = Some (pos 0) ∷ Some (pos 3) ∷ values }) refl refl
can_show values (inr (inr (inl (inl bad)))) = omega (arith, bad)
can_show values (inr (inr (inl (inr (inl bad))))) = omega (arith, bad)
can_show values (inr (inr (inl (inr (inr bad))))) = omega (arith, bad)
can_show values (inr (inr (inr (inl (inl (inl bad)))))) = omega (arith, bad)
can_show values (inr (inr (inr (inl (inl (inr bad)))))) = omega (arith, bad)
can_show values (inr (inr (inr (inl (inr (inl bad)))))) = omega (arith, bad)
can_show values (inr (inr (inr (inl (inr (inr bad)))))) = omega (arith, bad)
can_show values (inr (inr (inr (inr (inl (inl bad)))))) = omega (arith, bad)
can_show values (inr (inr (inr (inr (inl (inr (inl bad))))))) = omega (arith, bad)
can_show values (inr (inr (inr (inr (inl (inr (inr bad))))))) = omega (arith, bad)
can_show values (inr (inr (inr (inr (inr lacks))))) = omega (arith, lacks.1)

-- a reply shows the view
record ShowsIt (values : List (Option ℤ)) (reply : Reply) : Type 0 where
  number : ℕ
  view : ViewSpec
  samples : List Sample
  is : reply ≡ shown number view samples
  asked : Asks values view
  keeps : Keeps (book_with values) view samples

shows_it : (values : List (Option ℤ)) (reply : Reply)
    → FitsIn (book_with values) 1 (λ s view. Asks values view) (λ s. CantShow (book_with values) (codes "A") 8 4 (pos 0) (pos 8)
    (Fixed (pos 0) (pos 3)) None s) (Some session) reply
    → ShowsIt values reply
shows_it values applied fit = absurd fit
shows_it values (opened m cache) fit = absurd fit
shows_it values (closed m) fit = absurd fit
shows_it values (shown m view samples) fit =
    record { number = m; view = view; samples = samples; is = refl; asked = fit.1; keeps = fit.2 }
shows_it values refused fit = absurd (can_show values fit)

-- the answers open the session and show the view
record AreShown (values : List (Option ℤ)) (answers : List Answer) : Type 0 where
  opening : Answer
  showing : Answer
  are : answers ≡ opening ∷ showing ∷ []
  open_is : opening.reply ≡ opened 1 65536
  shows : ShowsIt values showing.reply

fit_behind : (total : ℕ) (book : List Series) (sessions : List OpenSession) (x : Option Request) (xs : List (Option Request)) (a : Answer)
    (l : List Answer)
    → AreAnswers total book sessions (x ∷ xs) (a ∷ l) → AreAnswers total (after_request total book x) (after_reply sessions a.reply) xs l
fit_behind total book sessions x xs a l fit = fit.1

fit_here : (total : ℕ) (book : List Series) (sessions : List OpenSession) (x : Option Request) (xs : List (Option Request)) (a : Answer)
    (l : List Answer)
    → AreAnswers total book sessions (x ∷ xs) (a ∷ l) → FitsSaid total book sessions x a.reply
fit_here total book sessions x xs a l fit = fit.0

abbrev open_line : Line
open_line = Some (codes "open 1")

abbrev view_line : Line
view_line = Some (codes "view 1 A 8 4 0 8 0..3")

abbrev opening : Option Request
opening = said_by open_line

abbrev viewing : Option Request
viewing = said_by view_line

are_shown : (total : ℕ) (values : List (Option ℤ)) (answers : List Answer)
    → AreAnswers total (book_with values) [] (opening ∷ viewing ∷ []) answers → AreShown values answers
are_shown total values [] fit = absurd fit
are_shown total values (a ∷ []) fit = absurd (fit_behind total (book_with values) [] opening (viewing ∷ []) a [] fit)
are_shown total values (a ∷ b ∷ []) fit =
    let book = book_with values in
    let R : Result Request ℕ → Type 0 = λ q. FitsSaid total book [] (ok_of q) a.reply in
    let is : a.reply ≡ opened 1 65536 = subst R read_open (fit_here total book [] opening (viewing ∷ []) a (b ∷ []) fit) in
    let F : Result Request ℕ → Type 0 = λ q. FitsSaid total (after_request total book (ok_of q)) (after_reply [] a.reply) viewing b.reply in
    let G : Reply → Type 0 = λ r. FitsSaid total book (after_reply [] r) viewing b.reply in
    let H : Result Request ℕ → Type 0 = λ q. FitsSaid total book (session ∷ []) (ok_of q) b.reply in
    let behind = fit_behind total book [] opening (viewing ∷ []) a (b ∷ []) fit in
    let here = fit_here total (after_request total book opening) (after_reply [] a.reply) viewing [] b [] behind in
    let fits = subst H read_view (subst G is (subst F read_open here)) in
    record { opening = a; showing = b; are = refl; open_is = is; shows = shows_it values b.reply fits }
are_shown total values (a ∷ b ∷ c ∷ l) fit =
    let book = book_with values in
    let behind = fit_behind total book [] opening (viewing ∷ []) a (b ∷ c ∷ l) fit in
    absurd (fit_behind total (after_request total book opening) (after_reply [] a.reply) viewing [] b (c ∷ l) behind)

-- ---- the picture

-- the samples of a view without a filter
unfiltered : (view : ViewSpec) (axis : Axis) (slots : List (Option ℤ)) (samples : List Sample) → view.filter ≡ None
    → kept view.grid axis slots ≡ samples → filter (passes view.filter) (kept view.grid axis slots) ≡ filter (passes None) samples
unfiltered view axis slots samples none are =
    ap (λ f. filter (passes f) (kept view.grid axis slots)) none ∙ ap (λ l. filter (passes None) l) are

abbrev series_or : Option Series → Series
series_or None = record { name = []; start = pos 0; step = 0; scale = 0; slots = [] }
series_or (Some s) = s

abbrev place_or : Option ℕ → ℕ
place_or None = 0
place_or (Some n) = n

abbrev KeepsTwo : List (Option ℤ) → Type 0
KeepsTwo values = (view : ViewSpec) (samples : List Sample) → Asks values view → Keeps (book_with values) view samples
    → samples ≡ two_samples

the_series : (values : List (Option ℤ)) (view : ViewSpec) (series : Series) → Asks values view
    → slice_get (book_with values) view.series ≡ Some series
    → series ≡ record { name = codes "A"; start = pos 0; step = 4; scale = 0; slots = Some (pos 0) ∷ Some (pos 3) ∷ values }
unfolding id_of
the_series values view series asked stored =
    let here : 0 ≡ view.series = ap place_or asked.series in
    sym (ap series_or (ap (slice_get (book_with values)) here ∙ stored))

keeps_without : KeepsTwo []
keeps_without view samples asked keeps =
    keeps.are ∙ ap (kept_by view) (the_series [] view keeps.series asked keeps.stored)
    ∙ unfiltered view (record { start = pos 0; step = 4; slots = 2 }) (Some (pos 0) ∷ Some (pos 3) ∷ []) two_samples asked.filter
    (kept_two view.grid asked.window)

keeps_with : KeepsTwo (Some (pos 1) ∷ [])
keeps_with view samples asked keeps =
    keeps.are ∙ ap (kept_by view) (the_series (Some (pos 1) ∷ []) view keeps.series asked keeps.stored)
    ∙ unfiltered view (record { start = pos 0; step = 4; slots = 3 }) (Some (pos 0) ∷ Some (pos 3) ∷ Some (pos 1) ∷ [])
    two_samples asked.filter (kept_three view.grid asked.window)

whole_all : (n : ℕ) (answers : List Answer) → length (bytes_of answers) ≤ n → whole_in n answers ≡ answers
whole_all n [] low = refl
whole_all n (a ∷ l) low =
    let size = length-append a.bytes (bytes_of l) in
    let k = n - length a.bytes in
    let later = whole_all k l (omega (arith, low, size)) in
    (elim (nat_le (length a.bytes) n) as (λ b. nat_le (length a.bytes) n ≡ b → (if b then a ∷ whole_in k l else []) ≡ a ∷ l) [
      | true ↦ λ test. ap (λ rest. a ∷ rest) later
      | false ↦ λ test. absurd (omega (arith, high_of (length a.bytes) n test, low, size))
    ]) refl

taken_all : (xs : List ℕ) → take (length xs) xs ≡ xs
taken_all [] = refl
taken_all (x ∷ xs) = ap (λ l. x ∷ l) (taken_all xs)

nothing_behind : (xs : List ℕ) → xs ++ [] ≡ xs
nothing_behind [] = refl
nothing_behind (x ∷ xs) = ap (λ l. x ∷ l) (nothing_behind xs)

module _ (law : Spelling) (one : ChartsHaveOnePicture) where
  its_picture : (view : ViewSpec) (samples : List Sample) (bytes : List ℕ) (values : List (Option ℤ)) → Asks values view
      → samples ≡ two_samples
      → IsPicture view samples bytes → bytes ≡ bitmap
  its_picture view samples bytes values asked are is =
      let d = is.1 in
      let S : RangeSpec → Type 0 = λ r. ShowsRange r (values_of samples) d.range in
      let over = subst S asked.range d.over in
      let C : List Sample → Type 0 = λ l. IsChart view.grid d.range l is.0 in
      is.2 ∙ one view.grid d.range two_samples is.0 canvas (subst C are d.chart)
      (chart view.grid d.range asked.window asked.canvas over.0 over.1) ∙ its_bytes

  pictures : (values : List (Option ℤ)) (answers : List Answer) (bytes : List ℕ) → KeepsTwo values → AreShown values answers
      → ArePictures answers bytes → bytes ≡ bitmap
  pictures values answers bytes two is are =
      let A : List Answer → Type 0 = λ l. ArePictures l bytes in
      let p = subst A is.are are in
      let O : Reply → Type 0 = λ r. HasPicture r p.0 in
      let none : p.0 ≡ [] = subst O is.open_is p.2 in
      let q = p.3 in
      let V : Reply → Type 0 = λ r. HasPicture r q.0 in
      let s = is.shows in
      let drawn = its_picture s.view s.samples q.0 values s.asked (two s.view s.samples s.asked s.keeps) (subst V s.is q.2) in
      p.4 ∙ ap (λ l. l ++ p.1) none ∙ q.4 ∙ ap (λ l. q.0 ++ l) q.3 ∙ nothing_behind q.0 ∙ drawn

  drawn_over : (total : ℕ) (values : List (Option ℤ)) (second : Run) (left before now : Option (List ℕ)) → KeepsTwo values
      → second.input ≡ second_input → Says AreFrames total (book_with values) second → second.status ≡ 0 → length second.sent ≤ 2 ^ 32
      → Draws second.sent left before now → now ≡ sent_after bitmap before
  drawn_over total values second left before now two input says status small draws =
      let answers = says.answers in
      let all = says.all status in
      let front = says.first.lines in
      let lines = sym (append-nil front) ∙ ap (λ l. front ++ l) (sym all.0) ∙ sym says.first.split ∙ ap told input ∙ second_lines in
      let L : List (Option Request) → Type 0 = λ l. AreAnswers total (book_with values) [] l answers in
      let requests = all_said law front says.requests says.first.said ∙ ap (map said_by) lines in
      let is = are_shown total values answers (subst L requests says.first.fit) in
      let bytes : bytes_of answers ≡ second.sent = says.bytes ∙ ap (λ l. second.sent ++ l) all.1 ∙ nothing_behind second.sent in
      let n = length (bytes_of answers) in
      let D : List ℕ → Type 0 = λ l. Draws l left before now in
      let sends = says.are.drawn answers n left before now (inl refl) (omega (arith, small, ap length bytes))
      (subst D (sym (taken_all (bytes_of answers) ∙ bytes)) draws) in
      let W : List Answer → Type 0 = λ l. ArePictures l sends.pictures in
      let are = subst W (whole_all n answers (omega arith)) sends.are in
      sends.sent ∙ ap (λ l. sent_after l before) (pictures values answers sends.pictures two is are)

  drawn_of : (total : ℕ) (book : List Series) (second : Run) (left before now : Option (List ℕ)) → MayHold book
      → second.input ≡ second_input → Says AreFrames total book second → second.status ≡ 0 → length second.sent ≤ 2 ^ 32
      → Draws second.sent left before now → now ≡ sent_after bitmap before
  drawn_of total book second left before now (inl is) input says status small draws =
      let B : List Series → Type 0 = λ b. Says AreFrames total b second in
      drawn_over total [] second left before now keeps_without input (subst B is says) status small draws
  drawn_of total book second left before now (inr is) input says status small draws =
      let B : List Series → Type 0 = λ b. Says AreFrames total b second in
      drawn_over total (Some (pos 1) ∷ []) second left before now keeps_with input (subst B is says) status small draws

exact_behind : (total : ℕ) (book : List Series) (run : Run) (later : List Run) → (steps : AreExact total book (run ∷ later))
    → AreExact total steps.0 later
exact_behind total book run later steps = steps.2

pub worked : Spelling → ChartsAreExact → ChartsHaveOnePicture → TheExampleIsDrawn
worked law exact one size image first second large recovers are serves_first input_first serves_second input_second =
    let total = page_count size in
    let steps = exact total total [] image (first ∷ second ∷ []) recovers are in
    let E : Task → Type 0 = λ t. IsExact t total [] first steps.0 in
    let behind = exact_behind total [] first (second ∷ []) steps in
    let F : Task → Type 0 = λ t. IsExact t total steps.0 second behind.0 in
    let leaves = (subst E serves_first steps.1).1 in
    let says = (subst F serves_second behind.1).0 in
    let held = held_by law total first steps.0 (omega (arith, large)) input_first leaves in
    record {
      book = steps.0;
      leaves = leaves;
      held = held;
      drawn = λ many status small left before now draws.
          drawn_of law one total steps.0 second left before now (held many) input_second says status small draws;
    }
