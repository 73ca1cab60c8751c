-- The text of a command is sent.
use Rattle.std.specs.Prelude.{ℕ, ◌≡◌, ◌≤◌, List, Option, Result, Vec, IfOk}
use Rattle.block_disk.specs.Counts.{HasRisen}
use Rattle.block_disk.specs.Streams.{sent_after}
use Rattle.block_disk.specs.View.{View, Now, DiskKept, Passes, sent_now}
use Rattle.run_ends.specs.declared.ending.End.{End}
use Rattle.run_ends.specs.declared.ending.End.TheVariants.{Done, NoMemory, SendFault}
use Rattle.store_commands.specs.Books.{SendsPartOf}

-- a text was sent whole, in part where a send failed, or not at all where there was no memory to make it
abbrev pub IsSent : End → List ℕ → Option (List ℕ) → Option (List ℕ) → ℕ → ℕ → Type 0
IsSent Done text before now sends sends_now = now ≡ sent_after text before
IsSent NoMemory text before now sends sends_now = now ≡ before
IsSent SendFault text before now sends sends_now = HasRisen sends sends_now × SendsPartOf text before now
IsSent end text before now sends sends_now = ⊥

-- So was it, and the disk stays as it is meanwhile.
pub record SendsText (text : List ℕ) (old new : View) (before now : Option (List ℕ)) (sends sends_now : ℕ) (end : End) : Type 0 where
  pub is : IsSent end text before now sends sends_now
  pub kept : DiskKept old new
  pub time : Passes old new (Now old) (λ count. (sent_now old ≤ count) × (count ≤ sent_now new))

-- so was each text that was made, where it was
abbrev pub SendsMade : {E Z : Type 0} → Result (Vec ℕ Z) E → View → View → Option (List ℕ) → Option (List ℕ) → ℕ → ℕ → End → Type 0
SendsMade made old new before now sends sends_now end = (text : List ℕ) → IfOk made (λ bytes. bytes.items ≡ text)
    → SendsText text old new before now sends sends_now end
