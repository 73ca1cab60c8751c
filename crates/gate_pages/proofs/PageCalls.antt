-- What the calls of pages do, by what the calls of their disk do.
use Rattle.std.proofs.Common.{◌≡◌, ℕ, ◌+◌, ◌*◌, ◌≤◌, ◌<◌, ◌^◌, Bool, List, length, refl, sym, ap, arith, ◌∙◌}
use Rattle.block_disk.specs.View.{Image, View, Now, Honest, Passes, Moves, Nowhere}
use Rattle.block_disk.proofs.Passing.{passes_none, passes_weaker}
use Rattle.gate_pages.specs.Batch.{Entry, put_all, numbers, AllBelow}
use Rattle.gate_pages.specs.GateLaws.{pages_passes, passes_pages}
use Rattle.gate_pages.specs.GatePages.{pages_view, IsClosed, IsReadable}
use Rattle.gate_pages.specs.Journal.{home, pages_of}
use Rattle.gate_pages.specs.Pages.{Quiet, Reads, Commits, GoesOn, BeforeOrAfter}
use Rattle.gate_pages.specs.Steps.{Anywhere, LiesWithin}
use Rattle.gate_pages.proofs.Moving.{nothing_torn, untouched}
use Rattle.gate_pages.proofs.Puts.{below_from_all, numbers_below}
use Rattle.gate_pages.proofs.States.{closed_pages}

pub reads_page : (count : ℕ) (sound : Bool) (old new : View) → Moves Nowhere 1 0 0 old new
    → Reads (Honest old) (Honest new) (pages_view count sound old) (pages_view count sound new)
reads_page count sound old new moves = record {
  time = passes_pages count count sound sound old new (Quiet old) refl
      (passes_weaker old new _ (Now old) (Quiet old) (Quiet old) (λ image torn. nothing_torn (Now old) image torn)
      (λ sent quiet. quiet) moves.time);
  told = moves.honest;
  was_told = moves.was_honest;
  image = λ honest. ap (λ i. pages_of count i) (untouched 1 0 0 old new moves honest);
  size = refl;
  beside = moves.beside;
  fit = λ fit. fit;
  faults = moves.faults;
  reads = moves.reads;
  syncs = omega (arith, moves.syncs.low, moves.syncs.high);
  writes = omega (arith, moves.writes.low, moves.writes.high);
}

-- the page that a read gives
pub page_read : (count : ℕ) (disk : View) (p : ℕ) (page : List ℕ) → IsClosed disk → Honest disk → page ≡ disk.image (66 + p)
    → page ≡ pages_of count disk.image p
page_read count disk p page closed honest is =
    let turned : 66 + p ≡ p + 66 = omega arith in
    is ∙ ap disk.image turned ∙ ap (λ (i : Image). i p) (sym (closed_pages count disk.image (closed.gate honest)))

pub commits_batch : (count : ℕ) (sound sound' : Bool) (batch : List Entry) (old new : View)
    → Moves Anywhere 0 4 (2 * length batch + 3) old new
    → Passes old new (λ image. IsReadable count image × BeforeOrAfter batch (pages_of count old.image) (pages_of count image)) (Quiet old)
    → Commits batch (Honest old) (Honest new) (pages_view count sound old) (pages_view count sound' new)
commits_batch count sound sound' batch old new moves passes = record {
  time = pages_passes count sound sound' old new (BeforeOrAfter batch (pages_of count old.image)) (Quiet old) passes;
  told = moves.honest;
  was_told = moves.was_honest;
  size = refl;
  beside = moves.beside;
  faults = moves.faults;
  reads = omega (arith, moves.reads.low, moves.reads.high);
  syncs = moves.syncs;
  writes = moves.writes;
}

-- the pages once a batch is home and the gate is closed
pub committed : (count : ℕ) (batch : List Entry) (old new : View) → IsClosed old → IsClosed new → Honest old → Honest new
    → home new.image ≡ put_all batch (home old.image) → pages_of count new.image ≡ put_all batch (pages_of count old.image)
committed count batch old new closed closed' honest honest' lies =
    closed_pages count new.image (closed'.gate honest') ∙ lies
    ∙ ap (λ (i : Image). put_all batch i) (sym (closed_pages count old.image (closed.gate honest)))

pub lies_within : (count size : ℕ) (batch : List Entry) → count + 66 < 2 ^ 32 → count + 66 ≤ size → AllBelow count batch
    → LiesWithin size (numbers batch)
lies_within count size batch most within below n is =
    let less = below_from_all count (numbers batch) n (numbers_below count batch below) is in
    omega (arith, less, most, within)

-- time goes on where it passes
pub goes_on : {old new : View} {images : Image → Type 0} {sent : ℕ → Type 0} → Passes old new images sent → GoesOn old new
goes_on passes = record { later = passes.later; past = passes.past; kept = passes.kept; sent_past = passes.sent_past }

-- no call at all
pub commits_none : (batch : List Entry) (told : Type 0) (at : View) → Commits batch told told at at
commits_none batch told at = record {
  time = passes_none at (BeforeOrAfter batch at.image) (Quiet at);
  told = λ is. is;
  was_told = λ is. is;
  size = refl;
  beside = refl;
  faults = omega arith;
  reads = refl;
  syncs = record { low = omega arith; high = omega arith };
  writes = record { low = omega arith; high = omega arith };
}
