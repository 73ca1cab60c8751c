-- What calls move of a store and of the streams beside it.
use Rattle.std.specs.Prelude.{◌≡◌, ℕ, List, length, Option, IfSome}
use Rattle.block_disk.specs.View.{View, sent_now}
use Rattle.block_disk.specs.declared.streams.Streams as streams
use Rattle.gate_pages.specs.declared.pages.Pages.{Ghosts}
use Rattle.series_store.specs.Shown as shown
use Rattle.series_store.specs.declared.store.Store.{Store}

-- pages with their streams, and how many a store on them may have
pub record Side : Type 1 where
  pub told : Type 0
  pub view : View
  pub under : View
  pub total : ℕ
  pub read_faults : ℕ
  pub send_faults : ℕ

-- what stands beside the pages are the streams
pub record AreBeside (at : View) (read_faults send_faults : ℕ) : Type 0 where
  pub reads_are : at.beside.read_faults ≡ read_faults
  pub sends_are : at.beside.send_faults ≡ send_faults

-- as many bytes were sent as are told
abbrev pub CountsSent : Option (List ℕ) → View → Type 0
CountsSent sent at = IfSome sent (λ bytes. sent_now at ≡ length bytes)

module _ {P : Type 0} {g : Ghosts P} where
  abbrev pub side_of : streams.Ghosts P → Store P g → Side
  side_of beside it = record {
    told = shown.IsTold it;
    view = shown.view it;
    under = shown.under it;
    total = shown.total it;
    read_faults = beside.read_faults (shown.pages it);
    send_faults = beside.send_faults (shown.pages it);
  }
