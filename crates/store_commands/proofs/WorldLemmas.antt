-- A world on whose disk no store was opened, with its streams.
use Rattle.std.proofs.Common.{◌≡◌, ◌∙◌, ℕ, ◌<◌, List, Option, ap, sym}
use Rattle.block_disk.specs.View.{Beside, Honest, View}
use Rattle.disk_store.specs.Openings.{IsOutside, Opens, Prevents}
use Rattle.disk_store.specs.declared.causes.OpeningCause.{OpeningCause}
use Rattle.gate_pages.specs.Journal.{page_count}
use Rattle.series_book.specs.declared.one_series.Series.{Series}
use Rattle.stored_book.specs.Standing.{RecoversTo}
use Rattle.store_commands.proofs.TurnedAway.{away_so}
use Rattle.store_commands.specs.Away.{IsTurnedAway}
use Rattle.store_commands.specs.Books.{OfBook}
use Rattle.store_commands.specs.Status.{opening_status}
use Rattle.run_ends.specs.declared.status.Status.{Status}
use Rattle.store_commands.specs.Traffic.{traffic}

-- why no store was opened, and that nothing was taken or sent
pub record IsUnopened (old new : View) (left left' before now : Option (List ℕ)) (cause : OpeningCause) : Type 0 where
  pub opens : Opens (page_count old.size) old new
  pub prevents : Prevents cause old new
  pub outside : OfBook (page_count old.size) old (λ total book. IsOutside cause)
  pub left_is : left' ≡ left
  pub sent_is : now ≡ before

module _ {W : Type 0} (view : W → View) (left sent : W → Option (List ℕ)) (has_left : (world : W)
    → (view world).beside.left ≡ left world) (has_sent : (world : W)
    → (view world).beside.sent ≡ sent world) (old new : W) (cause : OpeningCause) (same : (view new).beside ≡ (view old).beside) where
  pub left_same : left new ≡ left old
  left_same = sym (has_left new) ∙ ap (λ (b : Beside). b.left) same ∙ has_left old

  pub sent_same : sent new ≡ sent old
  sent_same = sym (has_sent new) ∙ ap (λ (b : Beside). b.sent) same ∙ has_sent old

  pub away_over : (end : Status) → end ≡ opening_status cause → Prevents cause (view old) (view new) → (view old).size < 128
      → IsTurnedAway (left old) (left new) (sent old) (sent new) end.code
  away_over end is prevents few = away_so (view old) (view new) (left old) (left new) (sent old)
      (sent new) cause end is prevents left_same sent_same few

  -- by what is said of an image that recovers
  pub unopened_over : Opens (page_count (view old).size) (view old) (view new) → Prevents cause (view old) (view new)
      → ((total : ℕ) (book : List Series) → Honest (view old) → RecoversTo (page_count (view old).size) (view old).image total book
      → IsOutside cause) → IsUnopened (view old) (view new) (left old) (left new) (sent old) (sent new) cause
  unopened_over opens prevents outside = record {
    opens = opens;
    prevents = prevents;
    outside = λ total book holds. outside total book holds.honest (holds.images (view old).image holds.honest);
    left_is = left_same;
    sent_is = sent_same;
  }

-- what passed through the streams of a world from one that begins as another
pub traffic_over : {W : Type 0} (view : W → View) (left sent : W → Option (List ℕ)) (reads sends : W → ℕ)
    → ((world : W) → (view world).beside.left ≡ left world) → ((world : W) → (view world).beside.sent ≡ sent world)
    → ((world : W) → (view world).beside.read_faults ≡ reads world) → ((world : W) → (view world).beside.send_faults ≡ sends world)
    → (first old new : W) → (view old).beside ≡ (view first).beside
    → traffic left sent reads sends old new ≡ traffic left sent reads sends first new
traffic_over {W} view left sent reads sends has_left has_sent has_reads has_sends first old new same =
    let l : left old ≡ left first = sym (has_left old) ∙ ap (λ (b : Beside). b.left) same ∙ has_left first in
    let s : sent old ≡ sent first = sym (has_sent old) ∙ ap (λ (b : Beside). b.sent) same ∙ has_sent first in
    let r : reads old ≡ reads first = sym (has_reads old) ∙ ap (λ (b : Beside). b.read_faults) same ∙ has_reads first in
    let f : sends old ≡ sends first = sym (has_sends old) ∙ ap (λ (b : Beside). b.send_faults) same ∙ has_sends first in
    λ i. record {
      left = l i;
      left_now = left new;
      sent = s i;
      sent_now = sent new;
      reads = r i;
      reads_now = reads new;
      sends = f i;
      sends_now = sends new;
    }
