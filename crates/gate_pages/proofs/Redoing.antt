-- The moments of a commit, step by step.
use Rattle.std.proofs.Common.{◌≡◌, ℕ, ◌+◌, ◌≤◌, true, false, List, length, ap, arith, inl, inr, ◌∙◌, IsTrue}
use Rattle.block_disk.specs.View.{Image, View, Now, Honest, Only, Passes, Moves, At}
use Rattle.gate_pages.specs.Batch.{Entry, put_all, numbers, all_below}
use Rattle.gate_pages.specs.GatePages.{IsClosed, IsReadable}
use Rattle.gate_pages.specs.Journal.{home, is_open, pages_of}
use Rattle.gate_pages.specs.Pages.{BeforeOrAfter, Quiet}
use Rattle.gate_pages.specs.Steps.{Anywhere, IsJournal, IsHome, HoldsBatch}
use Rattle.gate_pages.proofs.Moving.{Rests, time_then, moments_from, rested, moves_then, moves_weaker}
use Rattle.gate_pages.proofs.States.{Staged, Gives, closed_pages, in_stage, stage_home, in_gate, in_closing, in_home, staged_gate}
use Rattle.gate_pages.proofs.States.{staged_home, gate_kept, before_or_after}

-- any calls, and one more
pub way : (touched : ℕ → Type 0) (reads syncs writes reads' syncs' writes' : ℕ) (old mid new : View)
    → Moves Anywhere reads syncs writes old mid → Moves touched reads' syncs' writes' mid new
    → Moves Anywhere (reads + reads') (syncs + syncs') (writes + writes') old new
way touched reads syncs writes reads' syncs' writes' old mid new first second =
    moves_then Anywhere reads syncs writes reads' syncs' writes' old mid new first
    (moves_weaker touched Anywhere reads' syncs' writes' reads' syncs' writes' mid new (λ number in_some. tt) (omega arith) (omega arith)
    (omega arith) second)

-- an open gate before a journal
pub record Opened (count : ℕ) (batch : List Entry) (pages image : Image) : Type 0 where
  pub staged : Staged count batch pages image
  pub gate : is_open (image 0) ≡ true

-- a closed gate, and the pages lie so
pub record Shut (pages image : Image) : Type 0 where
  pub gate : is_open (image 0) ≡ false
  pub lies : home image ≡ pages

module _ (count : ℕ) (batch : List Entry) (few : length batch ≤ 64) (start : View) (images : Image → Type 0) (pages : Image) where
  -- some way into a commit: the moments so far, and what stands on a disk at rest
  pub record Way (property : Image → Type 0) (view : View) : Type 0 where
    pub time : Passes start view images (Quiet start)
    pub back : Honest view → Honest start
    pub rests : Rests property view

  module _ (after : (image : Image) → Honest start → Gives count image (put_all batch pages) → images image) where
    -- the gate is written, open
    pub gate_time : (before : (image : Image) → Honest start → Gives count image pages
        → images image) (reads syncs writes : ℕ) (view view' : View) → Way (Staged count batch pages) view
        → Moves (At 0) reads syncs writes view view' → Passes start view' images (Quiet start)
    gate_time before reads syncs writes view view' at moves =
        time_then start view view' images at.time
        (moments_from (At 0) reads syncs writes view view' images moves at.rests.only
        (λ image same honest. elim (in_gate count batch few pages view.image image (at.rests.is honest) same) [
          | inl old ↦ before image (at.back honest) old
          | inr new ↦ after image (at.back honest) new
        ]))

    pub gate_way : (before : (image : Image) → Honest start → Gives count image pages → images image) (view view' : View)
        → Way (Staged count batch pages) view → Moves (At 0) 0 1 1 view view' → Only view'.image (Now view')
        → (Honest view → is_open (view'.image 0) ≡ true) → Way (Opened count batch pages) view'
    gate_way before view view' at moves only opened = record {
      time = gate_time before 0 1 1 view view' at moves;
      back = λ honest. at.back (moves.was_honest honest);
      rests = rested (At 0) 0 1 1 view view' (Opened count batch pages) moves only
          (λ honest. record {
            staged = staged_gate count batch few pages view.image view'.image (at.rests.is honest) (moves.off honest);
            gate = opened honest;
          });
    }

    -- the pages are written home
    pub home_time : (reads syncs writes : ℕ) (view view' : View) → Way (Opened count batch pages) view
        → Moves (IsHome (numbers batch)) reads syncs writes view view' → Passes start view' images (Quiet start)
    home_time reads syncs writes view view' at moves =
        time_then start view view' images at.time
        (moments_from (IsHome (numbers batch)) reads syncs writes view view' images moves at.rests.only
        (λ image same honest. after image (at.back honest)
        (in_home count batch few pages view.image image (at.rests.is honest).staged (at.rests.is honest).gate same)))

    pub home_way : (reads writes : ℕ) (view view' : View) → Way (Opened count batch pages) view
        → Moves (IsHome (numbers batch)) reads 1 writes view view' → Only view'.image (Now view')
        → (Honest view → home view'.image ≡ put_all batch (home view.image)) → Way (Opened count batch (put_all batch pages)) view'
    home_way reads writes view view' at moves only lies = record {
      time = home_time reads 1 writes view view' at moves;
      back = λ honest. at.back (moves.was_honest honest);
      rests = rested (IsHome (numbers batch)) reads 1 writes view view' (Opened count batch (put_all batch pages)) moves only
          (λ honest.
          let was = at.rests.is honest in
          record {
            staged = staged_home count batch few pages (put_all batch pages) view.image view'.image was.staged (moves.off honest)
                (lies honest ∙ ap (λ (i : Image). put_all batch i) was.staged.lies);
            gate = gate_kept count batch few view.image view'.image (moves.off honest) ∙ was.gate;
          });
    }

    -- the gate is written, closed
    pub close_time : (reads syncs writes : ℕ) (view view' : View) → Way (Opened count batch (put_all batch pages)) view
        → Moves (At 0) reads syncs writes view view' → Passes start view' images (Quiet start)
    close_time reads syncs writes view view' at moves =
        time_then start view view' images at.time
        (moments_from (At 0) reads syncs writes view view' images moves at.rests.only
        (λ image same honest. after image (at.back honest)
        (in_closing count batch few pages view.image image (at.rests.is honest).staged same)))

    pub close_way : (view view' : View) → Way (Opened count batch (put_all batch pages)) view → Moves (At 0) 0 1 1 view view'
        → Only view'.image (Now view')
        → (Honest view → is_open (view'.image 0) ≡ false) → Way (Shut (put_all batch pages)) view'
    close_way view view' at moves only shut = record {
      time = close_time 0 1 1 view view' at moves;
      back = λ honest. at.back (moves.was_honest honest);
      rests = rested (At 0) 0 1 1 view view' (Shut (put_all batch pages)) moves only
          (λ honest. record {
            gate = shut honest;
            lies = (staged_gate count batch few (put_all batch pages) view.image view'.image
                (at.rests.is honest).staged (moves.off honest)).lies;
          });
    }

-- The moments of a commit are those with the pages from before it or after it, and a journal that can be read.
abbrev pub Moment : ℕ → List Entry → View → Image → Type 0
Moment count batch start image = IsReadable count image × BeforeOrAfter batch (pages_of count start.image) (pages_of count image)

module _ (count : ℕ) (batch : List Entry) (start : View) (closed : IsClosed start) where
  pub possible : (image : Image) → Honest start → IsReadable count image → BeforeOrAfter batch (home start.image) (pages_of count image)
      → Moment count batch start image
  possible image honest readable which = (
    readable,
    before_or_after batch (home start.image) (pages_of count start.image) (pages_of count image)
        (closed_pages count start.image (closed.gate honest)) which,
  )

  -- the journal is written
  pub stage_time : (reads syncs writes : ℕ) (view' : View) → Moves IsJournal reads syncs writes start view'
      → Passes start view' (Moment count batch start) (Quiet start)
  stage_time reads syncs writes view' moves =
      moments_from IsJournal reads syncs writes start view' (Moment count batch start) moves closed.only
      (λ image same honest. let gives = in_stage count start.image image (closed.gate honest) same in
      possible image honest gives.readable (inl gives.stands))

  pub stage_way : (few : length batch ≤ 64) (writes : ℕ) (view' : View) → IsTrue (all_below count (numbers batch))
      → Moves IsJournal 0 1 writes start view' → Only view'.image (Now view')
      → (Honest start → HoldsBatch batch view'.image)
      → Way count batch few start (Moment count batch start) (home start.image) (Staged count batch (home start.image)) view'
  stage_way few writes view' below moves only holds = record {
    time = stage_time 0 1 writes view' moves;
    back = moves.was_honest;
    rests = rested IsJournal 0 1 writes start view' (Staged count batch (home start.image)) moves only
        (λ honest. record {
          listed = (holds honest).listed count below;
          images_are = (holds honest).images_are;
          lies = stage_home start.image view'.image (moves.off honest);
        });
  }
