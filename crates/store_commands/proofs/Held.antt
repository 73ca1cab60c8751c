-- What is done over the pages of a disk, in the words of the disk.
use Rattle.std.proofs.Common.{◌≡◌, ℕ, ◌≤◌, List, refl, sym, subst}
use Rattle.block_disk.specs.View.{Image, View, Now, Honest, DiskKept, Passes}
use Rattle.block_disk.proofs.Passing.{now_back}
use Rattle.gate_pages.specs.GateLaws.{closed_readable, kept_told}
use Rattle.gate_pages.specs.GatePages.{IsReadable, IsClosed}
use Rattle.gate_pages.specs.Journal.{page_count, pages_of}
use Rattle.series_book.specs.declared.one_series.Series.{Series}
use Rattle.disk_store.specs.Held.{HoldsBook}
use Rattle.disk_store.specs.Openings.{Opens}
use Rattle.disk_store.proofs.Lowered.{holds_closed}
use Rattle.disk_store.proofs.Opened.{holds_on}
use Rattle.page_space.specs.Layout.{superblock_page}
use Rattle.page_space.specs.declared.superblock.Superblock.{Superblock}
use Rattle.stored_book.specs.Standing.{StandsForBook, book_pages}
use Rattle.stored_book.proofs.CurrentLemmas.{spelled_current, book_once}
use Rattle.zoom_session.specs.declared.session.Session.{Session}
use Rattle.chart_service.specs.State.{State}
use Rattle.chart_service.specs.Stepping.{StandsAfter, state_of}
use Rattle.store_commands.specs.Books.{begun, OfBook, FromBook, HoldsPages}

-- nothing is pending on the disk, and its pages are of version 2: so it is once a store was opened
pub record RestsNew (count : ℕ) (disk : View) : Type 0 where
  pub closed : IsClosed disk
  pub current : Honest disk → book_pages count disk.image ≡ pages_of count disk.image

pub rests_new : (count : ℕ) (disk : View) (s : Superblock) → IsClosed disk → (Honest disk → pages_of count disk.image 0 ≡ superblock_page s)
    → RestsNew count disk
rests_new count disk s closed spelled = record {
  closed = closed;
  current = λ honest. spelled_current (pages_of count disk.image) s (spelled honest);
}

-- the pages of an opened store
pub opened_book : (count : ℕ) (old mid : View) → (Honest old → pages_of count mid.image ≡ book_pages count old.image) → Honest old
    → book_pages count mid.image ≡ book_pages count old.image
opened_book count old mid pages honest = book_once count old.image mid.image (pages honest)

-- the book that the disk holds is the one that the pages stand for
pub stands_held : (count total : ℕ) (book : List Series) (disk : View) → RestsNew count disk → HoldsBook count total book disk
    → StandsForBook (pages_of count disk.image) total book
stands_held count total book disk rests holds =
    let P : Image → Type 0 = λ pages. StandsForBook pages total book in
    subst P (rests.current holds.honest) (holds.images disk.image holds.honest).stands

pub within_held : (count total : ℕ) (book : List Series) (disk : View) → HoldsBook count total book disk → total ≤ count
within_held count total book disk holds = (holds.images disk.image holds.honest).within

-- an opening leaves the same book
pub held : (old mid : View) → Opens (page_count old.size) old mid → (total : ℕ) (book : List Series)
    → HoldsBook (page_count old.size) total book old → HoldsBook (page_count old.size) total book mid
held old mid opens total book holds = holds_on (page_count old.size) total book old mid holds opens

-- a disk at rest holds the pages that it has
pub holds_pages : (count total : ℕ) (IsSo : Image → Type 0) (disk : View) → IsClosed disk → Honest disk → total ≤ count
    → IsSo (pages_of count disk.image) → HoldsPages count total IsSo disk
holds_pages count total IsSo disk closed honest within so = record {
  honest = honest;
  on = record { readable = closed_readable count disk.image (closed.gate honest); within = within; so = so };
  images = λ image left.
      let P : Image → Type 0 = λ i. IsReadable count i × (pages_of count i ≡ pages_of count disk.image) in
      subst P (sym (closed.only image left)) (closed_readable count disk.image (closed.gate honest), refl);
}

-- a disk at rest holds the book that it held where its pages are the same
pub holds_same : (count count' total : ℕ) (book : List Series) (old new : View) → RestsNew count old → count' ≡ count
    → (Honest old → Honest new) → (Honest old → pages_of count' new.image ≡ pages_of count old.image) → IsClosed new
    → HoldsBook count total book old → HoldsBook count total book new
holds_same count count' total book old new rests counted told same closed holds =
    let P : Image → Type 0 = λ pages. StandsForBook pages total book in
    let C : ℕ → Type 0 = λ c. StandsForBook (pages_of c new.image) total book in
    holds_closed count total book new closed (told holds.honest) (within_held count total book old holds)
    (subst C counted (subst P (sym (same holds.honest)) (stands_held count total book old rests holds)))

-- what a disk holds it holds on while a text is sent
pub holds_sent : (count total : ℕ) (book : List Series) (old new : View) (sent : ℕ → Type 0) → DiskKept old new
    → Passes old new (Now old) sent → HoldsBook count total book old → HoldsBook count total book new
holds_sent count total book old new sent kept time holds = record {
  honest = kept_told old new kept holds.honest;
  images = λ image left. holds.images image (now_back old new sent time image left);
}

-- Calls over the pages of a disk, which is at rest afterwards.
module _ (count count' : ℕ) (old new : View) (same : count' ≡ count) (told : Honest old → Honest new) where
  pub held_after : (total : ℕ) (sessions : List Session) (P : State → Type 0) → IsClosed new → Honest new → total ≤ count
      → StandsAfter total (pages_of count' new.image) sessions P → (state : State) × P state × HoldsBook count total state.book new
  held_after total sessions P closed honest within after =
      let S : ℕ → Type 0 = λ c. StandsForBook (pages_of c new.image) total after.book in (
        state_of after.book total sessions,
        after.so,
        holds_closed count total after.book new closed honest within (subst S same after.stands),
      )

  pub from_book : (sessions : List Session) (Done : State → State → Type 0) → IsClosed new
      → OfBook count old (λ total book. StandsAfter total (pages_of count' new.image) sessions (λ state. Done (begun total book) state))
      → FromBook count old new Done
  from_book sessions Done closed all = λ total book holds.
      held_after total sessions (λ state. Done (begun total book) state) closed (told holds.honest) (within_held count total book old holds)
      (all total book holds)

  -- it holds the book for which its pages stand then
  pub holds_so : (total : ℕ) (book : List Series) → HoldsBook count total book old → IsClosed new → (after : List Series)
      → StandsForBook (pages_of count' new.image) total after → HoldsBook count total after new
  holds_so total book holds closed after stands =
      let S : ℕ → Type 0 = λ c. StandsForBook (pages_of c new.image) total after in
      holds_closed count total after new closed (told holds.honest) (within_held count total book old holds) (subst S same stands)
