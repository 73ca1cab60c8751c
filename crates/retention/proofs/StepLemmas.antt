-- Steps of a sweep put together, and one that isn't cut.
use Rattle.std.proofs.Common.{◌≡◌, ℕ, ℤ, zero, suc, ◌+◌, ◌*◌, ◌≤◌, List, [], length, take, drop, get_or, Option, Result, Err, refl, sym, ap}
use Rattle.std.proofs.Common.{subst, ◌∙◌, arith, inl, inr}
use Rattle.std.specs.Option.{is_some}
use Rattle.std.proofs.lemmas.List.{length-take, take_all}
use Rattle.std.proofs.lemmas.List.Sums.{count_by-le-length, sum_by-le}
use Rattle.block_disk.specs.View.{Image, View, Passes}
use Rattle.gate_pages.specs.Pages.{Quiet}
use Rattle.series_book.specs.declared.limits.TheConstants.{MOST_SERIES, MOST_SLOTS}
use Rattle.series_book.specs.declared.edits.Edit.{Edit}
use Rattle.series_book.specs.declared.one_series.Series.{Series}
use Rattle.series_book.specs.Books.{IsBook}
use Rattle.series_book.specs.EditLists.{after_edits}
use Rattle.series_book.specs.Pages.{pages_of}
use Rattle.stored_book.specs.Standing.{StandsForBook}
use Rattle.retention.specs.declared.rule.Rule.{Rule}
use Rattle.retention.specs.declared.sweep_error.SweepError.{SweepError}
use Rattle.retention.specs.declared.sweep_error.SweepError.TheVariants.{UnknownSeries, DiskFault, Damaged, NoMemory}
use Rattle.retention.specs.declared.swept.SweptSome.{SweptSome}
use Rattle.retention.specs.Drops.{book_stepped, book_swept}
use Rattle.retention.specs.Moving.{CommitsFew, ReadsFew}
use Rattle.retention.specs.Steps.{IsNext}
use Rattle.retention.specs.Sweeping.{IsAfterFirst, IsSwept, IsSweptSome, StopsSo, StopsSomeSo}
use Rattle.retention.specs.Sweeps.{sweeps, sweeps_some, values_in, values_of}
use Rattle.retention.proofs.LawLemmas.{behind_first, by_clears, none_or_next}
use Rattle.retention.proofs.LookLemmas.{commits_more}

-- ---- steps

-- where there is no clear, a step leaves the book
nil_stays : (total : ℕ) (book : List Series) (most : ℕ) → after_edits total book (take most []) ≡ book
nil_stays total book zero = refl
nil_stays total book (suc most) = refl

none_stays : (total : ℕ) (book : List Series) (rule : Rule) (most : ℕ) → sweeps total book rule ≡ []
    → book_stepped total book rule most ≡ book
none_stays total book rule most none = ap (λ cs. after_edits total book (take most cs)) none ∙ nil_stays total book most

-- and else it is the first clear, and a step from the book behind it
next_steps : (total : ℕ) (book : List Series) (rule : Rule) (most : ℕ) (clear : Edit) (next : IsNext total book rule clear)
    → book_stepped total book rule (suc most) ≡ book_stepped total next.after rule most
next_steps total book rule most clear next =
    ap (λ cs. after_edits total book (take (suc most) cs)) next.first
    ∙ ap (λ (b : List Series). after_edits total b (take most (sweeps total next.after rule))) (behind_first total book rule clear next)

pub steps_rest : (total : ℕ) (book : List Series) (rule : Rule) (most : ℕ) → IsBook book
    → sweeps total (book_stepped total book rule most) rule ≡ drop most (sweeps total book rule)
steps_rest total book rule zero is = refl
steps_rest total book rule (suc most) is = elim (none_or_next total book rule is) [
  | inl none ↦ ap (λ (b : List Series). sweeps total b rule) (none_stays total book rule (suc most) none) ∙ none
      ∙ sym (ap (drop (suc most)) none)
  | inr first ↦
      ap (λ (b : List Series). sweeps total b rule) (next_steps total book rule most first.0 first.1)
      ∙ steps_rest total first.1.after rule most first.1.is_book
      ∙ sym (ap (drop (suc most)) first.1.first)
]

pub steps_together : (total : ℕ) (book : List Series) (rule : Rule) (first second : ℕ) → IsBook book
    → book_stepped total (book_stepped total book rule first) rule second ≡ book_stepped total book rule (first + second)
steps_together total book rule zero second is =
    let sum : second ≡ zero + second = omega arith in
    ap (book_stepped total book rule) sum
steps_together total book rule (suc first) second is = elim (none_or_next total book rule is) [
  | inl none ↦
      ap (λ (b : List Series). book_stepped total b rule second) (none_stays total book rule (suc first) none)
      ∙ none_stays total book rule second none
      ∙ sym (none_stays total book rule (suc first + second) none)
  | inr next ↦
      let sum : suc (first + second) ≡ suc first + second = omega arith in
      ap (λ (b : List Series). book_stepped total b rule second) (next_steps total book rule first next.0 next.1)
      ∙ steps_together total next.1.after rule first second next.1.is_book
      ∙ sym (next_steps total book rule (first + second) next.0 next.1)
      ∙ ap (book_stepped total book rule) sum
]

pub steps_all : (total : ℕ) (book : List Series) (rule : Rule) (most : ℕ) → length (sweeps total book rule) ≤ most
    → book_stepped total book rule most ≡ book_swept total book rule
steps_all total book rule most few = ap (after_edits total book) (take_all most (sweeps total book rule) few)

pub steps_books : (total : ℕ) (book : List Series) (rule : Rule) (most : ℕ) → IsBook book → IsBook (book_stepped total book rule most)
steps_books total book rule zero is = is
steps_books total book rule (suc most) is = elim (none_or_next total book rule is) [
  | inl none ↦ subst IsBook (sym (none_stays total book rule (suc most) none)) is
  | inr first ↦ subst IsBook (sym (next_steps total book rule most first.0 first.1))
      (steps_books total first.1.after rule most first.1.is_book)
]

-- ---- a step that isn't cut

-- each clear takes a value
few_clears : (total : ℕ) (book : List Series) (rule : Rule) → IsBook book → length (sweeps total book rule) ≤ values_of book
few_clears total book rule is =
    by_clears (λ b. length (sweeps total b rule) ≤ values_of b) total rule (λ b is none. omega (arith, ap length none))
    (λ b clear is next later. omega (arith, ap length next.first, next.fewer, later)) (values_of book) book is (omega arith)

few_values : (book : List Series) → IsBook book → values_of book ≤ MOST_SERIES * MOST_SLOTS
few_values book is =
    let most : values_of book ≤ length book * MOST_SLOTS =
    sum_by-le (λ (one : Series). values_in one.slots) MOST_SLOTS book (λ k d within. let one = is.all_in_range k d within in
    omega (arith, count_by-le-length (λ (x : Option ℤ). is_some x) (get_or book k d).slots, one.slots_in_range)) in
    omega (arith, most, is.few)

abbrev pub most_clears : ℕ
most_clears = MOST_SERIES * MOST_SLOTS

whole : (total : ℕ) (book : List Series) (rule : Rule) → IsBook book → sweeps_some total book rule most_clears ≡ sweeps total book rule
whole total book rule is = take_all most_clears (sweeps total book rule) (omega (arith, few_clears total book rule is, few_values book is))

pub whole_swept : (total : ℕ) (book : List Series) (rule : Rule) (swept : SweptSome) (used : ℕ) (image : Image) → IsBook book
    → used ≡ swept.used → IsSweptSome total book rule most_clears swept image
    → IsSwept total book rule (record { clears = swept.clears; used = used }) image
whole_swept total book rule swept used image is same done =
    let all : sweeps_some total book rule most_clears ≡ sweeps total book rule = whole total book rule is in
    let here : book_stepped total book rule most_clears ≡ book_swept total book rule = ap (after_edits total book) all in
    let P : List Series → Type 0 = StandsForBook image total in
    record { clears = done.clears ∙ ap length all; used = same ∙ done.used ∙ ap pages_of here; stands = subst P here done.stands }

pub whole_stops : (e : SweepError) (total : ℕ) (book : List Series) (rule : Rule) (image : Image) → IsBook book
    → StopsSomeSo total book rule most_clears image e → StopsSo total book rule image e
whole_stops UnknownSeries total book rule image is stops = stops
whole_stops DiskFault total book rule image is stops = tt
whole_stops (Damaged page) total book rule image is stops = absurd stops
whole_stops NoMemory total book rule image is stops =
    let P : List Edit → Type 0 = λ cs. IsAfterFirst total book cs image in
    subst P (whole total book rule is) stops

pub whole_moments : (total : ℕ) (book : List Series) (rule : Rule) (old new : View) → IsBook book
    → Passes old new (IsAfterFirst total book (sweeps_some total book rule most_clears)) (Quiet old)
    → Passes old new (IsAfterFirst total book (sweeps total book rule)) (Quiet old)
whole_moments total book rule old new is time =
    let P : List Edit → Type 0 = λ cs. Passes old new (IsAfterFirst total book cs) (Quiet old) in
    subst P (whole total book rule is) time

pub whole_commits : (total : ℕ) (book : List Series) (rule : Rule) (old new : View)
    → CommitsFew (length (sweeps_some total book rule most_clears)) old new → CommitsFew (length (sweeps total book rule)) old new
whole_commits total book rule old new few =
    commits_more (length (sweeps_some total book rule most_clears)) (length (sweeps total book rule)) old new
    (omega (arith, length-take most_clears (sweeps total book rule))) few

-- an error of one call is one of another
pub err_moves : {T U : Type 0} (e f : SweepError) → ◌≡◌ {A = Result T SweepError} (Err e) (Err f)
    → ◌≡◌ {A = Result U SweepError} (Err e) (Err f)
err_moves {T} {U} e f same = let is : e ≡ f = cc in ap Err is

pub whole_reads : (total : ℕ) (book : List Series) (rule : Rule) (old new : View)
    → ReadsFew (length (sweeps_some total book rule most_clears)) old new → ReadsFew (length (sweeps total book rule)) old new
whole_reads total book rule old new few = omega (arith, few, length-take most_clears (sweeps total book rule))
