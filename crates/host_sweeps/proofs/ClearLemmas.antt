-- The clears of a step are edits, and how steps go on.
use Rattle.std.proofs.Common.{◌≡◌, ◌∙◌, ◌+◌, ◌-◌, ◌<◌, ◌≤◌, ◌^◌, ℕ, zero, suc, true, false, cond, List, [], length, drop, Option, None}
use Rattle.std.proofs.Common.{Some, ap, arith}
use Rattle.std.specs.Prelude.{ℤ, All, filter, nat_le}
use Rattle.std.specs.List.{range_with_len}
use Rattle.std.proofs.lemmas.List.Elements.{All-cons, All-map, All-nil, All-take}
use Rattle.block_disk.specs.View.{Image}
use Rattle.chart_frames.specs.declared.frame.Frame.{Frame}
use Rattle.chart_service.proofs.Together.{after_first, some_replied}
use Rattle.chart_service.specs.State.{IsSound, State}
use Rattle.host_sweeps.specs.Sweeping.{DoesStep, SweepsSome, most_clears, step_clears, stepped}
use Rattle.live_service.proofs.Grouping.{some_of}
use Rattle.live_service.specs.LiveReplies.{LiveState}
use Rattle.live_service.specs.Shown.{DoesSome}
use Rattle.retention.specs.declared.rule.Rule.{Rule}
use Rattle.retention.specs.declared.rule.Rule.TheVariants.{Before, Last, Free}
use Rattle.retention.specs.Drops.{book_stepped, book_swept}
use Rattle.retention.specs.Sweeps.{Found, clear_of, clear_page, clears_if, clears_of, frees, holds_value, named, oldest, range_end}
use Rattle.retention.specs.Sweeps.{range_first, slots_before, sweeps, unless_none}
use Rattle.series_book.specs.declared.edits.Edit.{Edit}
use Rattle.series_book.specs.declared.edits.Edit.TheVariants.{Clear}
use Rattle.series_book.specs.declared.one_series.Series.{Series}
use Rattle.series_book.specs.Books.{IsBook, IsNamed}
use Rattle.series_book.specs.EditLists.{book_behind}
use Rattle.series_book.specs.Edits.{IsEdit, apply}
use Rattle.series_book.specs.Pages.{pages_of}

-- ---- each clear of a rule is a clear

module _ (P : Edit → Type 0) (clear : (name : List ℕ) (time : ℤ) (count : ℕ) → P (Clear name time count)) where
  clears_all : (name : List ℕ) (series : Series) (old : ℕ) → All P (clears_of name series old)
  unfolding clears_of
  clears_all name series old =
      All-map P (λ q. clear_of name series (range_first q) (range_end old q))
      (filter (λ q. holds_value series.slots (range_first q) (range_end old q)) (range_with_len 0 old)) (λ k d below. clear name _ _)

  named_all : (name : List ℕ) (one : Option Series) (old : Series → ℕ) → All P (clears_if name one old)
  named_all name None old = All-nil P
  named_all name (Some series) old = clears_all name series (old series)

  unless_all : (one : Option Found) (later : Edit → List Edit) → ((edit : Edit) → All P (later edit)) → All P (unless_none one later)
  unless_all None later all = All-nil P
  unless_all (Some found) later all = All-cons P (clear_page found) (later (clear_page found)) (clear _ _ _) (all (clear_page found))

  frees_all : (total pages most : ℕ) (book : List Series) → All P (frees total pages most book)
  unfolding frees
  frees_all total pages zero book = All-nil P
  frees_all total pages (suc most) book =
      elim (nat_le pages (total - pages_of book)) as
      (λ b. All P (cond b [] (unless_none (oldest book) (λ edit. frees total pages most (book_behind book (apply book total edit)))))) [
        | true ↦ All-nil P
        | false ↦ unless_all (oldest book) (λ edit. frees total pages most (book_behind book (apply book total edit)))
            (λ edit. frees_all total pages most (book_behind book (apply book total edit)))
      ]

  sweeps_all : (total : ℕ) (book : List Series) (rule : Rule) → All P (sweeps total book rule)
  sweeps_all total book (Before name time) = named_all name (named book name) (λ series. slots_before series time)
  sweeps_all total book (Last name count) = named_all name (named book name) (λ series. length series.slots - count)
  sweeps_all total book (Free pages) = frees_all total pages _ book

-- so they are those of a group, of which some first are done
pub clears_some : (rule : Rule) (old : LiveState) (image : Image) → IsSound old.state → SweepsSome rule old image
    → DoesSome (step_clears old.state rule) old image
clears_some rule old image sound some =
    let total = old.state.total in
    let book = old.state.book in
    let clears : List Edit = step_clears old.state rule in
    let small : total < 2 ^ 64 = omega (arith, some.stands.total_is, some.stands.store.small) in
    let edits : All IsEdit clears = All-take IsEdit most_clears (sweeps total book rule)
    (sweeps_all IsEdit (λ name time count. tt) total book rule) in
    let named : All IsNamed clears = All-take IsNamed most_clears (sweeps total book rule)
    (sweeps_all IsNamed (λ name time count. tt) total book rule) in
    some_of clears old.state old.followed old.pending image
    (some_replied total book clears old.state.sessions image sound small edits named
    (after_first total book clears some.done image some.stands))

-- ---- steps go on

abbrev Rest : Type 0
Rest = (total : ℕ) (book : List Series) (rule : Rule) (most : ℕ) → IsBook book
    → sweeps total (book_stepped total book rule most) rule ≡ drop most (sweeps total book rule)

abbrev Together : Type 0
Together = (total : ℕ) (book : List Series) (rule : Rule) (first second : ℕ) → IsBook book
    → book_stepped total (book_stepped total book rule first) rule second ≡ book_stepped total book rule (first + second)

abbrev All_done : Type 0
All_done = (total : ℕ) (book : List Series) (rule : Rule) (most : ℕ) → length (sweeps total book rule) ≤ most
    → book_stepped total book rule most ≡ book_swept total book rule

pub steps_rest : Rest → (rule : Rule) (frame : Frame) (old new : LiveState) → IsSound old.state → DoesStep rule frame old new
    → sweeps new.state.total new.state.book rule ≡ drop most_clears (sweeps old.state.total old.state.book rule)
steps_rest law rule frame old new sound does =
    ap (λ (s : State). sweeps s.total s.book rule) does.state_is ∙ law old.state.total old.state.book rule most_clears sound.book

pub steps_together : Together → (rule : Rule) (frame other : Frame) (old between new : LiveState) → IsSound old.state
    → DoesStep rule frame old between → DoesStep rule other between new
    → new.state.book ≡ book_stepped old.state.total old.state.book rule (most_clears + most_clears)
steps_together law rule frame other old between new sound one two =
    ap (λ (s : State). s.book) two.state_is
    ∙ ap (λ (s : State). stepped s rule) one.state_is
    ∙ law old.state.total old.state.book rule most_clears most_clears sound.book

pub steps_last : All_done → (rule : Rule) (frame : Frame) (old new : LiveState)
    → length (sweeps old.state.total old.state.book rule) ≤ most_clears → DoesStep rule frame old new
    → new.state.book ≡ book_swept old.state.total old.state.book rule
steps_last law rule frame old new few does = ap (λ (s : State). s.book) does.state_is
    ∙ law old.state.total old.state.book rule most_clears few
