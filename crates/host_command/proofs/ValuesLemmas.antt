-- The frames that answer `values`, put together, are the pieces of the window.
use Rattle.std.proofs.Common.{◌≡◌, ◌∙◌, ℕ, ℤ, suc, pos, ◌+◌, ◌-◌, ◌<◌, ◌≤◌, ◌<ℤ◌, Bool, true, false, cond, List, [], ◌∷◌, ◌++◌, length, map}
use Rattle.std.proofs.Common.{Option, None, Some, refl, ap, sym, subst, inl, inr, arith}
use Rattle.std.specs.Prelude.{nat_lt, ◌↔◌}
use Rattle.std.proofs.lemmas.Bool.{cases_lt, lt-ltb, ltb-true}
use Rattle.chart_frames.specs.declared.frame.Frame.{Frame}
use Rattle.chart_frames.specs.declared.frame.Frame.TheVariants.{Refused, Report}
use Rattle.chart_frames.specs.declared.reports.Report.{Report as AnyReport}
use Rattle.chart_frames.specs.declared.reports.Report.TheVariants as report
use Rattle.chart_frames.specs.declared.reports.ValuesFrame.{ValuesFrame}
use Rattle.chart_service.specs.State.{State}
use Rattle.host_replies.specs.Replies.{TellsValues, TellsValuesOf}
use Rattle.host_reports.specs.Reports.{piece_frame, run_in, values_of}
use Rattle.host_reports.proofs.RunLemmas.{AreApart, runs_apart}
use Rattle.retention.specs.Sweeps.{at_id, slot_time, slots_before}
use Rattle.retention.proofs.TimeLemmas.{before_few}
use Rattle.series_book.specs.Books.{IsBook, IsSeries}
use Rattle.series_book.specs.Edits.{id_of}
use Rattle.series_book.specs.declared.one_series.Series.{Series}
use Rattle.series_book.proofs.BookLemmas.{IsSeries-there}
use Rattle.series_export.specs.Exports.{Stored, header, lines_of}
use Rattle.series_export.specs.Laws.{PiecesAreTheExport}
use Rattle.series_export.specs.Pieces.{ArePieces, Piece, piece_of, readings_in, readings_of}
use Rattle.series_store.specs.Windows.{piece_end, runs_from, slots_from, stored, window}
use Rattle.series_store.specs.declared.slot_run.SlotRun.{SlotRun}
use Rattle.host_command.specs.Values.{AnswerValues, AsksOn, ValuesAreTheExport, piece_in, slots_of}

-- ---- a frame

-- the runs of a frame are those of its slots
run_back : (run : SlotRun) → run.first ≤ run.end → slots_of (run_in run) ≡ run
run_back run order =
    let same : run.first + (run.end - run.first) ≡ run.end = omega (arith, order) in
    ap (λ (e : ℕ). record { first = run.first; end = e }) same

runs_back : (end from : ℕ) (runs : List SlotRun) → AreApart end from runs → map slots_of (map run_in runs) ≡ runs
runs_back end from [] apart = refl
runs_back end from (run ∷ runs) (first, some, within, more) =
    ap (λ (r : SlotRun). r ∷ map slots_of (map run_in runs)) (run_back run (omega (arith, some)))
    ∙ ap (λ l. run ∷ l) (runs_back end (suc run.end) runs more)

piece_back : (id : ℕ) (series : Series) (from to end : ℕ) (frame : ValuesFrame) → frame ≡ piece_frame id series from to end
    → piece_in frame ≡ piece_of series.slots from end
piece_back id series from to end frame is =
    let slots = window series.slots from end in
    ap piece_in is
    ∙ ap (λ l. record { runs = l; values = stored slots })
    (runs_back (from + length slots) from (runs_from from slots) (runs_apart from slots (from + length slots) (omega arith)))

no_refusal : {report : AnyReport} {number a b : ℕ} → ◌≡◌ {A = Frame} (Report report) (Refused number a b) → ⊥
no_refusal is = cc

one_frame : (a b : ValuesFrame) → ◌≡◌ {A = Frame} (Report (report.Values a)) (Report (report.Values b)) → a ≡ b
one_frame a b is = cc

-- the frame tells the first piece
tells_piece : (o : Option ℕ) (book : List Series) (series : Series) (t0 t1 : ℤ) (frame : ValuesFrame) → at_id book o ≡ Some series
    → TellsValuesOf o book t0 t1 (Report (report.Values frame)) → (id : ℕ) × (frame ≡ values_of id series t0 t1)
tells_piece None book series t0 t1 frame there tells = absurd (cc (there))
tells_piece (Some id) book series t0 t1 frame there tells =
    let T : Option Series → Type 0 = λ o. TellsValues o id t0 t1 (Report (report.Values frame)) in
    elim (subst T there tells) [
      | inl bad ↦ absurd (no_refusal bad.1)
      | inr good ↦ (id, one_frame frame (values_of id series t0 t1) good.1)
    ]

-- ---- frames

-- they are the pieces of the slots from `from` on and below `to`
record Together (series : Series) (from to : ℕ) (frames : List ValuesFrame) : Type 0 where
  pub pieces : List Piece
  pub are : ArePieces series.slots from to pieces
  pub same : readings_in series (map piece_in frames) ≡ readings_in series pieces

no_slots : (start : ℤ) (step from : ℕ) (list : List (Option ℤ))
    → readings_of start step (runs_from from (slots_from list from 0)) (stored (slots_from list from 0)) ≡ []
unfolding readings_of runs_from slots_from stored
no_slots start step from list = refl

none_read : (series : Series) (from end : ℕ) → end ≤ from
    → readings_of series.start series.step (runs_from from (window series.slots from end)) (stored (window series.slots from end)) ≡ []
none_read series from end low =
    let none : end - from ≡ 0 = omega (arith, low) in
    let P : ℕ → Type 0 = λ n. readings_of series.start series.step (runs_from from (slots_from series.slots from n))
    (stored (slots_from series.slots from n)) ≡ [] in
    subst P (sym none) (no_slots series.start series.step from series.slots)

not_left : (end to : ℕ) → to ≤ end → nat_lt end to ≡ false
not_left end to up = elim (nat_lt end to) as (λ b. nat_lt end to ≡ b → b ≡ false) [
  | true ↦ λ is. absurd (omega (arith, ltb-true end to is, up))
  | false ↦ λ is. refl
] refl

module _ (state : State) (name : List ℕ) (series : Series) (there : at_id state.book (id_of name state.book) ≡ Some series)
    (at_slot : (n : ℕ) → n ≤ length series.slots → slots_before series (slot_time series n) ≡ n) where
  abbrev read : Piece → List Stored
  read piece = readings_of series.start series.step piece.runs piece.values

  together : (t0 t1 : ℤ) (frames : List ValuesFrame) → AnswerValues name state t0 t1 frames
      → Together series (slots_before series t0) (slots_before series t1) frames
  together t0 t1 [] answers = absurd answers
  together t0 t1 (frame ∷ later) answers =
      let from = slots_before series t0 in
      let to = slots_before series t1 in
      let end = piece_end from to in
      let told = tells_piece (id_of name state.book) state.book series t0 t1 frame there answers.0 in
      let piece_is : piece_in frame ≡ piece_of series.slots from end = piece_back told.0 series from to end frame told.1 in
      let first_is : readings_in series (map piece_in (frame ∷ later)) ≡ read (piece_of series.slots from end) ++ readings_in series
      (map piece_in later) = ap (λ p. read p ++ readings_in series (map piece_in later)) piece_is in
      let A : Bool → Type 0 = λ b. AsksOn b later (AnswerValues name state frame.next t1 later) in
      let on : A (nat_lt end to) = subst A (ap (λ (v : ValuesFrame). v.more) told.1) answers.1 in
      elim (cases_lt end to) [
        | inl left ↦
            let next_is : frame.next ≡ slot_time series end = ap (λ (v : ValuesFrame). v.next) told.1
            ∙ ap (λ b. cond b (slot_time series end) (pos 0)) (lt-ltb end to left) in
            let next : slots_before series frame.next ≡ end = ap (λ t. slots_before series t) next_is
            ∙ at_slot end (omega (arith, left, before_few series t1)) in
            let P : ℕ → Type 0 = λ n. Together series n to later in
            let others : Together series end to later = subst P next (together frame.next t1 later (subst A (lt-ltb end to left) on)) in
            record {
              pieces = piece_of series.slots from end ∷ others.pieces;
              are = (omega (arith, left), refl, others.are);
              same = first_is ∙ ap (λ l. read (piece_of series.slots from end) ++ l) others.same;
            }
        | inr up ↦
            let last : later ≡ [] = subst A (not_left end to (omega (arith, up))) on in
            let alone : readings_in series (map piece_in (frame ∷ later)) ≡ read (piece_of series.slots from end) ++ [] = first_is
            ∙ ap (λ l. read (piece_of series.slots from end) ++ readings_in series (map piece_in l)) last in
            elim (cases_lt from to) [
              | inl some ↦ record { pieces = piece_of series.slots from end ∷ []; are = (some, refl, omega (arith, up)); same = alone }
              | inr none ↦ record {
                pieces = [];
                are = omega (arith, none);
                same = alone ∙ ap (λ l. l ++ []) (none_read series from end (omega (arith, none)));
              }
            ]
      ]

-- ---- the window

found_series : (o : Option ℕ) (book : List Series) (series : Series) → IsBook book → at_id book o ≡ Some series → IsSeries series
found_series None book series is there = absurd (cc (there))
found_series (Some id) book series is there = IsSeries-there book id series is there

abbrev pub Earlier : Type 0
Earlier = (series : Series) (time : ℤ) (slot : ℕ) → slot < length series.slots
    → (slot < slots_before series time) ↔ (slot_time series slot <ℤ time)

abbrev pub AtSlot : Type 0
AtSlot = (series : Series) (n : ℕ) → 1 ≤ series.step → n ≤ length series.slots → slots_before series (slot_time series n) ≡ n

pub values_export : PiecesAreTheExport → Earlier → AtSlot → ValuesAreTheExport
values_export pieces earlier at_slot state name series window frames is there answers =
    let good = found_series (id_of name state.book) state.book series is there in
    let all = together state name series there (λ n within. at_slot series n good.step_above_zero within) window.from window.to frames
    answers in
    pieces series window (slots_before series window.from) (slots_before series window.to) all.pieces
    (record { within = before_few series window.from; before = λ i within. earlier series window.from i within })
    (record { within = before_few series window.to; before = λ i within. earlier series window.to i within })
    all.are
    ∙ ap (λ l. header ++ lines_of series.scale l) (sym all.same)
