-- The moments of a command over a store: its opening, the work on its pages, and the sending of an answer.
use Rattle.std.proofs.Common.{◌≡◌, ℕ, ◌≤◌, ◌<◌, Bool, List, sym, subst, arith, ◌∙◌}
use Rattle.block_disk.specs.View.{Image, View, Now, Passes, sent_now}
use Rattle.gate_pages.specs.GateLaws.{goes_by}
use Rattle.gate_pages.specs.GatePages.{PagesOf, pages_view}
use Rattle.gate_pages.specs.Journal.{page_count, pages_of}
use Rattle.gate_pages.specs.Pages.{Quiet, GoesOn}
use Rattle.series_book.specs.declared.one_series.Series.{Series}
use Rattle.disk_store.specs.Held.{HoldsBook}
use Rattle.disk_store.specs.Openings.{Opens}
use Rattle.disk_store.proofs.Lowered.{lowered_readable, lowered_is}
use Rattle.disk_store.proofs.Opened.{opens_goes, opens_quiet, opens_sent, opens_recover}
use Rattle.stored_book.specs.Standing.{StandsForBook, RecoversTo}
use Rattle.stored_book.proofs.CurrentLemmas.{book_current, book_keeps}
use Rattle.chart_service.specs.MomentLaws.{since_then}
use Rattle.chart_service.specs.Moments.{Since}
use Rattle.store_commands.specs.Books.{IsOn, IsOnBook, LeavesSame}

-- At each moment of an opening a crash leaves the book.
pub since_opened : (IsSo : Image → ℕ → Type 0) (old mid : View) (total : ℕ) (book : List Series) → Opens (page_count old.size) old mid
    → HoldsBook (page_count old.size) total book old
    → ((image : Image) → RecoversTo (page_count old.size) image total book → IsSo image (sent_now old)) → Since old mid IsSo
since_opened IsSo old mid total book opens holds so =
    let count = page_count old.size in
    record {
      goes = opens_goes count old mid opens;
      here = λ at image low high left.
          let P : ℕ → Type 0 = λ sent. IsSo image sent in
          subst P (sym (opens_sent count old mid opens at low high))
          (so image (opens_recover count total book old mid holds opens at image low high left));
    }

-- the book of a store that is opened stays
pub opened_since : (old mid : View) → Opens (page_count old.size) old mid → LeavesSame (page_count old.size) old mid
opened_since old mid opens = λ total book holds. since_opened
    (λ image sent. RecoversTo (page_count old.size) image total book) old mid total book opens holds (λ image is. is)

-- and time goes on
pub opened_goes : (old mid : View) → Opens (page_count old.size) old mid → GoesOn old mid
opened_goes old mid opens = opens_goes (page_count old.size) old mid opens

-- Moments, and then others: those up to mid stay as they were.
pub since_on : (IsSo : Image → ℕ → Type 0) (old mid new : View) → Since old mid IsSo → GoesOn mid new
    → ((at : ℕ) (image : Image) → mid.clock < at → at ≤ new.clock → new.crash at image → IsSo image (new.sent_by at)) → Since old new IsSo
since_on IsSo old mid new first goes later = since_then old mid new IsSo first (record { goes = goes; here = later })

-- At each moment of calls over the pages of a disk, each image that a crash may leave can be read, and its pages are so:
-- they stand for some book.
module _ (count count' total : ℕ) (sound sound' : Bool) (mid new : View) (same : count' ≡ count) (within : total ≤ count)
    (Q : Image → Type 0) (S : ℕ → Type 0) (book_of : (pages : Image) → Q pages → List Series) (stand : (pages : Image) (is : Q pages)
    → StandsForBook pages total (book_of pages is))
    (passes : Passes (pages_view count sound mid) (pages_view count' sound' new) Q S) where
  pub on_at : (at : ℕ) (image : Image) → mid.clock < at → at ≤ new.clock → new.crash at image → IsOn count total Q image
  on_at at image low high left =
      let P : ℕ → Type 0 = λ c. (pages : Image) → PagesOf c (new.crash at) pages → Q pages in
      let each : P count' = λ pages found. passes.here at pages low high found in
      let all : P count = subst P same each in
      let total_of : (pages : Image) → Q pages → ℕ = λ pages is. total in
      record {
        readable = lowered_readable count (new.crash at) Q total_of book_of stand all image left;
        within = within;
        so = lowered_is count (new.crash at) Q total_of book_of stand all image left;
      }

-- pages that stand for a book are those of version 2
pub on_book : (count total : ℕ) (Q : Image → Type 0) (book : List Series) (image : Image) → StandsForBook (pages_of count image) total book
    → IsOn count total Q image → IsOnBook count total Q image
on_book count total Q book image stands on = record {
  readable = on.readable;
  within = on.within;
  old = book_keeps count image total book stands;
  so = subst Q (sym (book_current (pages_of count image) total book stands)) on.so;
}

-- so they are at the moments of work on the pages of an opened store
pub since_worked : (IsSo : Image → ℕ → Type 0) (count count' total : ℕ) (sound sound' : Bool) (old mid new : View) (Q : Image
    → Type 0) (book_of : (pages : Image) → Q pages → List Series) → count' ≡ count → total ≤ count
    → ((pages : Image) (is : Q pages) → StandsForBook pages total (book_of pages is))
    → Passes (pages_view count sound mid) (pages_view count' sound' new) Q (Quiet (pages_view count sound mid)) → GoesOn mid new
    → sent_now mid ≡ sent_now old
    → ((image : Image) → IsOn count total Q image → IsSo image (sent_now old)) → Since old mid IsSo → Since old new IsSo
since_worked IsSo count count' total sound sound' old mid new Q book_of same within stand passes goes quiet so first =
    since_on IsSo old mid new first goes (λ at image low high left.
    let P : ℕ → Type 0 = λ sent. IsSo image sent in
    subst P (sym (passes.sent_here at low high ∙ quiet))
    (so image (on_at count count' total sound sound' mid new same within Q
    (Quiet (pages_view count sound mid)) book_of stand passes at image low high left)))

-- and while an answer is sent, where the images stay as they were before
pub since_sent : (IsSo : Image → ℕ → Type 0) (old mid new : View)
    → Passes mid new (Now mid) (λ count. (sent_now mid ≤ count) × (count ≤ sent_now new)) → sent_now mid ≡ sent_now old
    → ((image : Image) (count : ℕ) → Now mid image → sent_now old ≤ count → IsSo image count) → Since old mid IsSo → Since old new IsSo
since_sent IsSo old mid new passes quiet so first =
    since_on IsSo old mid new first (goes_by mid new (Now mid) (λ count. (sent_now mid ≤ count) × (count ≤ sent_now new)) passes)
    (λ at image low high left.
    let sent = passes.sent_here at low high in
    so image (new.sent_by at) (passes.here at image low high left) (omega (arith, sent.0, quiet)))

-- an opening sends nothing
pub opened_quiet : (old mid : View) → Opens (page_count old.size) old mid → sent_now mid ≡ sent_now old
opened_quiet old mid opens = opens_quiet (page_count old.size) old mid opens
