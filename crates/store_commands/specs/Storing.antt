-- What a load stores. Private contracts are stated by these words.
use Rattle.std.specs.Prelude.{◌≡◌, ◌≢◌, ℕ, ◌≤◌, List, Option, Result, Err, IfOk, IfErr, IfSome, ⊤}
use Rattle.block_disk.specs.Counts.{HasRisen}
use Rattle.block_disk.specs.View.{Honest, View, sent_now}
use Rattle.block_disk.specs.declared.disk.Disk.{Ghosts}
use Rattle.gate_pages.specs.Pages.{GoesOn}
use Rattle.gate_pages.specs.Shown as gate
use Rattle.gate_pages.specs.declared.gate_pages.GatePages.{GatePages}
use Rattle.run_ends.specs.Statuses.{block_of}
use Rattle.run_ends.specs.declared.ending.End.{End}
use Rattle.run_ends.specs.declared.ending.End.TheVariants.{NoMemory, ReadFault, DiskFault, DamagedPage, BadInput, InputTooLong}
use Rattle.run_ends.specs.declared.ending.End.TheVariants.{UnknownSeries, Refused}
use Rattle.stored_book.specs.Damage.{IsBadForEdit}
use Rattle.stored_book.specs.Standing.{RecoversTo}
use Rattle.disk_store.specs.Held.{HoldsBook}
use Rattle.chart_service.specs.Moments.{Since}
use Rattle.series_load.specs.Sets.{IsAfterSome}
use Rattle.series_load.specs.Ends.{CostsFirst, IsLoaded}
use Rattle.store_commands.specs.Traffic.{IsLong, Traffic, WasRead}
use Rattle.store_commands.specs.Damaged.{IsDamagedLater}
use Rattle.store_commands.specs.Books.{OfBook, Never, IsOnBook, HoldsPages}
use Rattle.store_commands.specs.Lacking.{LacksRecord}
use Rattle.store_commands.specs.Loaded.{IsAtLine, IsReadByRecord, LoadsTaken, LoadsToBad, LoadsWithin, OfSeries, RefusesRun, Unnamed}

-- what was done of an input that wasn't loaded to its end
abbrev pub StopsAt : List ℕ → ℕ → View → View → List ℕ → Option (List ℕ) → End → Type 0
StopsAt name count old new input left ReadFault = IfSome left (LoadsTaken name count old new input)
StopsAt name count old new input left (BadInput at) = LoadsToBad name count old new input at
StopsAt name count old new input left InputTooLong = LoadsWithin name count old new input
StopsAt name count old new input left (Refused at number) = RefusesRun name count old new input at number
StopsAt name count old new input left end = ⊤

-- why it wasn't, whatever the disk holds
abbrev pub IsEndCause : End → ℕ → View → View → ℕ → ℕ → Type 0
IsEndCause NoMemory count old new reads reads_now = ⊤
IsEndCause ReadFault count old new reads reads_now = HasRisen reads reads_now
IsEndCause DiskFault count old new reads reads_now = HasRisen old.faults new.faults
IsEndCause (DamagedPage page) count old new reads reads_now = Never count old × IsDamagedLater IsBadForEdit count new (block_of page)
IsEndCause (BadInput at) count old new reads reads_now = ⊤
IsEndCause InputTooLong count old new reads reads_now = ⊤
IsEndCause UnknownSeries count old new reads reads_now = ⊤
IsEndCause (Refused at number) count old new reads reads_now = ⊤
IsEndCause end count old new reads reads_now = ⊥

-- The input was loaded over a disk, all of it or some first sets. Nothing was sent.
pub record Stores (name : List ℕ) (count : ℕ) (old new : View) (t : Traffic) (answer : Result ℕ End) : Type 0 where
  pub done : IfOk answer (λ readings. IfSome t.left
      (λ input. OfSeries count old name (λ total book series. HoldsPages count total (IsLoaded total name book series input readings) new)))
  pub within : IfOk answer (λ readings. WasRead t.left t.left_now)
  pub long : answer ≡ Err InputTooLong → IsLong t.left
  pub some : answer ≢ Err DiskFault → OfSeries count old name
      (λ total book series. HoldsPages count total (IsAfterSome total name book series t.left) new)
  pub stops : IfErr answer (λ end. IfSome t.left (λ input. StopsAt name count old new input t.left_now end))
  pub line : IfErr answer (λ end. IfSome t.left (λ input. IsAtLine name count old input end))
  pub read : IfOk answer (λ readings. IfSome t.left (λ input. IsReadByRecord count old name input readings))
  pub cause : IfErr answer (λ end. IsEndCause end count old new t.reads t.reads_now)
  pub named : OfSeries count old name (λ total book series. answer ≢ Err UnknownSeries)
  pub unnamed : Unnamed count old name (λ total book. answer ≡ Err UnknownSeries)
  pub lacks : answer ≡ Err UnknownSeries → LacksRecord count old name
  pub untouched : answer ≡ Err UnknownSeries → OfBook count old (λ total book. HoldsBook count total book new
      × Since old new (λ image sent. RecoversTo count image total book)) × (t.left_now ≡ t.left)
  pub moments : OfSeries count old name (λ total book series. Since old new
      (λ image sent. IsOnBook count total (IsAfterSome total name book series t.left) image × (sent ≡ sent_now old)))
  pub quiet : OfBook count old (λ total book. sent_now new ≡ sent_now old)
  pub sent_is : t.sent_now ≡ t.sent
  pub sends_is : t.sends_now ≡ t.sends
  pub faults : old.faults ≤ new.faults
  -- reads give what a crash may leave, where they did
  pub honest : Honest old → Honest new
  pub goes_on : GoesOn old new

-- what its sets cost, over the pages of an open store on a world
abbrev pub CostsOn : {W : Type 0} {disk : Ghosts W} → List ℕ → (W → View) → (W → Option (List ℕ)) → GatePages W disk → W → Type 0
CostsOn name view left pages new =
    OfSeries (gate.count pages) (view (gate.disk pages)) name
    (λ total book series. CostsFirst series (left (gate.disk pages)) (view (gate.disk pages)) (view new))

-- the same over the pages of an open store on a world, by what passed through the streams
abbrev pub StoresOn : {W : Type 0} {disk : Ghosts W} → List ℕ → (W → View) → GatePages W disk → W → Traffic → Result ℕ End → Type 0
StoresOn name view pages new t answer = Stores name (gate.count pages) (view (gate.disk pages)) (view new) t answer
