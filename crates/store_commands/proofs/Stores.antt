-- What is the same of equal stores on disks.
use Rattle.std.proofs.Common.{◌≡◌, ap}
use Rattle.block_disk.specs.declared.disk.Disk.{Ghosts}
use Rattle.gate_pages.specs.declared.pages.Pages as pages_trait
use Rattle.gate_pages.specs.declared.gate_pages.GatePages.{GatePages}
use Rattle.series_store.specs.Shown as shown
use Rattle.series_store.specs.declared.store.Store.{Store}

pub store_disk : {D : Type 0} {disk : Ghosts D} {pages : pages_trait.Ghosts (GatePages D disk)} (a b : Store (GatePages D disk) pages)
    → a ≡ b → (shown.pages a).disk ≡ (shown.pages b).disk
store_disk {D} {disk} {pages} a b same = ap (λ (s : Store (GatePages D disk) pages). (shown.pages s).disk) same

pub store_count : {D : Type 0} {disk : Ghosts D} {pages : pages_trait.Ghosts (GatePages D disk)} (a b : Store (GatePages D disk) pages)
    → a ≡ b → (shown.pages a).count ≡ (shown.pages b).count
store_count {D} {disk} {pages} a b same = ap (λ (s : Store (GatePages D disk) pages). (shown.pages s).count) same

pub store_sound : {D : Type 0} {disk : Ghosts D} {pages : pages_trait.Ghosts (GatePages D disk)} (a b : Store (GatePages D disk) pages)
    → a ≡ b → (shown.pages a).sound ≡ (shown.pages b).sound
store_sound {D} {disk} {pages} a b same = ap (λ (s : Store (GatePages D disk) pages). (shown.pages s).sound) same
