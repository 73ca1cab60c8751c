-- What a load moves, whatever the pages are.
use Rattle.std.specs.Prelude.{◌≡◌, ℕ, ◌≤◌, List, Option}
use Rattle.block_disk.specs.View.{View}
use Rattle.gate_pages.specs.Pages.{GoesOn}

-- pages with their streams, and the numbers of a store on them
pub record Side : Type 1 where
  pub told : Type 0
  pub view : View
  pub under : View
  pub total : ℕ
  pub count : ℕ
  pub left : Option (List ℕ)
  pub sent : Option (List ℕ)
  pub read_faults : ℕ
  pub send_faults : ℕ
  pub pieces : ℕ

abbrev pub side : Type 0 → View → View → ℕ → ℕ → Option (List ℕ) → Option (List ℕ) → ℕ → ℕ → ℕ → Side
side told view under total count left sent read_faults send_faults pieces = record {
  told = told;
  view = view;
  under = under;
  total = total;
  count = count;
  left = left;
  sent = sent;
  read_faults = read_faults;
  send_faults = send_faults;
  pieces = pieces;
}

-- no byte is sent, no series goes away, and no count falls
pub record Goes (old new : Side) : Type 0 where
  pub is_told : old.told → new.told
  pub was_told : new.told → old.told
  pub size : new.view.size ≡ old.view.size
  pub faults : old.view.faults ≤ new.view.faults
  pub goes_on : GoesOn old.under new.under
  pub total_is : new.total ≡ old.total
  pub more : old.count ≤ new.count
  pub sent_is : new.sent ≡ old.sent
  pub reads : old.read_faults ≤ new.read_faults
  pub sends : new.send_faults ≡ old.send_faults
  pub takes : old.pieces ≤ new.pieces
