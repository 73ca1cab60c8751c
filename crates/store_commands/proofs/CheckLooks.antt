-- A store is read, and what a check found is sent: the disk holds its book on.
use Rattle.std.proofs.Common.{arith, ◌≡◌, ◌∙◌, ℕ, ◌+◌, ◌≤◌, Bool, List, Option, refl, sym, subst, inl, inr}
use Rattle.block_disk.specs.View.{Image, View, Now, Honest, Passes, sent_now}
use Rattle.block_disk.proofs.Passing.{passes_weaker}
use Rattle.gate_pages.specs.GateLaws.{gate_rests, goes_by, goes_then, kept_told}
use Rattle.gate_pages.specs.GatePages.{PagesOf, IsClosed, pages_view}
use Rattle.gate_pages.specs.Journal.{pages_of}
use Rattle.gate_pages.specs.Pages.{Quiet, GoesOn}
use Rattle.gate_pages.proofs.Moving.{sent_same}
use Rattle.page_space.specs.Layout.{Keeps}
use Rattle.page_space.specs.declared.superblock.Superblock.{Superblock}
use Rattle.series_book.specs.declared.one_series.Series.{Series}
use Rattle.series_store.specs.Counting.{AreCounts, IsCheckCause, NamesWithin}
use Rattle.series_store.specs.Opening.{IsOutside}
use Rattle.series_store.specs.declared.counts.Counts.{Counts}
use Rattle.series_store.specs.declared.errors.StoreError.{StoreError}
use Rattle.series_store.specs.declared.errors.StoreError.TheVariants as of_store
use Rattle.disk_store.specs.Held.{HoldsBook}
use Rattle.stored_book.specs.Standing.{StandsForBook, RecoversTo}
use Rattle.stored_book.proofs.CurrentLemmas.{recovers_new, spelled_current}
use Rattle.tree_walk.specs.Holding.{KeptWalking}
use Rattle.chart_service.specs.MomentLaws.{since_none}
use Rattle.store_commands.specs.Books.{OfBook, LeavesSame}
use Rattle.run_ends.specs.declared.ending.End.{End}
use Rattle.run_ends.specs.declared.ending.End.TheVariants.{Done, NoMemory, SendFault}
use Rattle.store_commands.proofs.Held.{RestsNew, within_held, stands_held, holds_same, holds_sent}
use Rattle.store_commands.proofs.Moments.{since_worked, since_sent}
use Rattle.store_commands.specs.Checked.{counts_text, AreWhole, IsBadForCheck}
use Rattle.store_commands.specs.Checking.{check_end, EndsCheck, ChecksStore}
use Rattle.store_commands.specs.Sending.{IsSent, SendsText}

-- what may be left of the pages stands for the book
pub left_stands : (count total : ℕ) (book : List Series) (disk : View) → RestsNew count disk → HoldsBook count total book disk
    → (pages : Image) → PagesOf count (Now disk) pages → StandsForBook pages total book
left_stands count total book disk rests holds pages left =
    let P : Image → Type 0 = λ i. StandsForBook i total book in
    subst P (sym (gate_rests count disk rests.closed pages left)) (stands_held count total book disk rests holds)

-- The pages of a disk are read.
module _ (count count' : ℕ) (sound sound' : Bool) (old mid : View)
    (kept : KeptWalking (Honest old) (Honest mid) (pages_view count sound old) (pages_view count' sound' mid)) (goes : GoesOn old mid)
    (rests : RestsNew count old) where
  pub looked_since : LeavesSame count old mid
  looked_since = λ total book holds.
      let IsSo : Image → ℕ → Type 0 = λ image sent. RecoversTo count image total book in
      let Q : Image → Type 0 = λ pages. StandsForBook pages total book in
      let before = pages_view count sound old in
      let passes : Passes before (pages_view count' sound' mid) Q (Quiet before) =
      passes_weaker before (pages_view count' sound' mid) (PagesOf count (Now old)) Q (Quiet before) (Quiet before)
      (left_stands count total book old rests holds) (λ sent quiet. quiet) kept.time in
      since_worked IsSo count count' total sound sound' old old mid Q (λ pages is. book) kept.size (within_held count total book old holds)
      (λ pages is. is) passes goes refl
      (λ image on. recovers_new count image total book on.readable on.within on.so) (since_none old IsSo holds.images)

  pub looked_holds : IsClosed mid → OfBook count old (λ total book. HoldsBook count total book mid)
  looked_holds closed = λ total book holds. holds_same count count' total book old mid rests kept.size kept.told kept.image closed holds

  pub looked_quiet : sent_now mid ≡ sent_now old
  looked_quiet = sent_same (pages_view count sound old) (pages_view count' sound' mid) (PagesOf count (Now old)) kept.time

-- how the sending of counts ends a check
counts_sent : (count : ℕ) (old new : View) (counts : Counts) (before now : Option (List ℕ)) (sends sends_now : ℕ)
    → OfBook count old (λ total book. AreCounts total book counts) → AreWhole count old counts → (end : End)
    → IsSent end (counts_text counts) before now sends sends_now
    → EndsCheck end count old new before now sends sends_now
counts_sent count old new counts before now sends sends_now of_book whole Done is = record {
  counts = counts;
  of_book = of_book;
  whole = whole;
  sent = is;
}
counts_sent count old new counts before now sends sends_now of_book whole NoMemory is = is
counts_sent count old new counts before now sends sends_now of_book whole SendFault is = (
  is.0,
  record { counts = counts; of_book = of_book; whole = whole; sent = is.1 },
)
counts_sent count old new counts before now sends sends_now of_book whole end is = absurd is

-- how a store that isn't counted does
not_counted : (count count' : ℕ) (sound sound' : Bool) (old new : View) (s : Superblock) (before now : Option (List ℕ))
    (sends sends_now : ℕ) (error : StoreError) → now ≡ before → (Honest old → Keeps count s (pages_of count old.image 0)) → s.total ≤ count
    → NamesWithin s.total error
    → IsCheckCause error (Honest old) s (pages_view count sound old) (pages_view count' sound' new)
    → OfBook count old (λ total book. IsOutside error) → EndsCheck (check_end error) count old new before now sends sends_now
not_counted count count' sound sound' old new s before now sends sends_now
    (of_store.Refused refusal) same keeps few low is outside = absurd is
not_counted count count' sound sound' old new s before now sends sends_now of_store.NotAStore same keeps few low is outside = absurd is
not_counted count count' sound sound' old new s before now sends sends_now of_store.DiskFault same keeps few low is outside = (is, same)
not_counted count count' sound sound' old new s before now sends sends_now (of_store.Damaged page) same keeps few low is outside = (
  record {
    page = page;
    place_is = refl;
    within = omega (arith, low, few);
    bad = λ honest.
        let B : Image → Type 0 = λ image. IsBadForCheck count image page in
        subst B (sym (spelled_current (pages_of count old.image) s (keeps honest).spelled))
        (record { numbers = s; keeps = keeps honest; so = (low, is honest) });
  },
  λ total book holds. elim (outside total book holds) [ inl fault ↦ cc | inr memory ↦ cc ],
  same,
)
not_counted count count' sound sound' old new s before now sends sends_now of_store.NoMemory same keeps few low is outside = same

-- A store was read, and then its disk is at rest.
module _ (count count' : ℕ) (sound sound' : Bool) (old mid : View)
    (kept : KeptWalking (Honest old) (Honest mid) (pages_view count sound old) (pages_view count' sound' mid)) (goes : GoesOn old mid)
    (rests : RestsNew count old) (closed : IsClosed mid) (few : OfBook count old (λ total book. mid.reads ≤ old.reads + total)) where
  pub checks_not : (s : Superblock) (before now : Option (List ℕ)) (sends sends_now : ℕ) (error : StoreError) (end : End)
      → end ≡ check_end error → now ≡ before → (Honest old → Keeps count s (pages_of count old.image 0)) → s.total ≤ count
      → NamesWithin s.total error
      → IsCheckCause error (Honest old) s (pages_view count sound old) (pages_view count' sound' mid)
      → OfBook count old (λ total book. IsOutside error) → ChecksStore count old mid before now sends sends_now end
  checks_not s before now sends sends_now error end end_is same keeps small low cause outside = record {
    is =
        let P : End → Type 0 = λ e. EndsCheck e count old mid before now sends sends_now in
        subst P (sym end_is) (not_counted count count' sound sound' old mid s before now sends sends_now error same keeps small low cause
        outside);
    crash = looked_since count count' sound sound' old mid kept goes rests;
    holds = looked_holds count count' sound sound' old mid kept goes rests closed;
    reads = few;
    unwritten = (kept.syncs, kept.writes);
    honest = kept.told;
    goes_on = goes;
  }

  pub checks_sent : (new : View) (counts : Counts) (before mid_before now : Option (List ℕ)) (sends mid_sends sends_now : ℕ) (end : End)
      → mid_before ≡ before → mid_sends ≡ sends
      → OfBook count old (λ total book. AreCounts total book counts) → AreWhole count old counts
      → SendsText (counts_text counts) mid new mid_before now mid_sends sends_now end
      → ChecksStore count old new before now sends sends_now end
  checks_sent new counts before mid_before now sends mid_sends sends_now end same same_sends of_book whole sent = record {
    is =
        let P : Option (List ℕ) → Type 0 = λ b. EndsCheck end count old new b now mid_sends sends_now in
        let S : ℕ → Type 0 = λ s. EndsCheck end count old new before now s sends_now in
        subst S same_sends (subst P same (counts_sent count old new counts mid_before now mid_sends sends_now of_book whole end sent.is));
    crash = λ total book holds.
        since_sent (λ image bytes. RecoversTo count image total book) old mid new sent.time
        (looked_quiet count count' sound sound' old mid kept goes rests)
        (λ image bytes left low. (looked_holds count count' sound sound' old mid kept goes rests closed total book holds).images image left)
        (looked_since count count' sound sound' old mid kept goes rests total book holds);
    holds = λ total book holds.
        holds_sent count total book mid new (λ bytes. (sent_now mid ≤ bytes)
        × (bytes ≤ sent_now new)) sent.kept sent.time
        (looked_holds count count' sound sound' old mid kept goes rests closed total book holds);
    reads = λ total book holds. omega (arith, few total book holds, sent.kept.reads);
    unwritten = (sent.kept.syncs ∙ kept.syncs, sent.kept.writes ∙ kept.writes);
    honest = λ h. kept_told mid new sent.kept (kept.told h);
    goes_on = goes_then old mid new goes (goes_by mid new (Now mid) (λ bytes. (sent_now mid ≤ bytes) × (bytes ≤ sent_now new)) sent.time);
  }
