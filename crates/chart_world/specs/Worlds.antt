-- What a world in memory has left and has sent.
use Rattle.std.specs.Prelude.{◌≡◌, ℕ, List, drop}
use Rattle.block_disk.specs.declared.disk.Disk.{Ghosts}
use Rattle.chart_world.specs.declared.mem_world.MemWorld.{MemWorld}

-- the bytes of the input that weren't taken
abbrev pub bytes_left : {D : Type 0} {disk : Ghosts D} → MemWorld D disk → List ℕ
bytes_left world = drop world.at world.input.items

-- the bytes that were sent
abbrev pub bytes_sent : {D : Type 0} {disk : Ghosts D} → MemWorld D disk → List ℕ
bytes_sent world = world.sent.items

-- a take leaves what is sent, the lists and the disk
pub record TakesOnly {D : Type 0} {disk : Ghosts D} (old new : MemWorld D disk) : Type 0 where
  pub sent : bytes_sent new ≡ bytes_sent old
  pub sends : new.sends ≡ old.sends
  pub send_faults : new.send_faults ≡ old.send_faults
  pub log : new.log.items ≡ old.log.items
  pub take_fails : new.take_fails.items ≡ old.take_fails.items
  pub send_fails : new.send_fails.items ≡ old.send_fails.items
  pub same_disk : new.disk ≡ old.disk

-- a send leaves what is taken, the lists and the disk
pub record SendsOnly {D : Type 0} {disk : Ghosts D} (old new : MemWorld D disk) : Type 0 where
  pub left : bytes_left new ≡ bytes_left old
  pub takes : new.takes ≡ old.takes
  pub read_faults : new.read_faults ≡ old.read_faults
  pub pieces : new.pieces ≡ old.pieces
  pub take_fails : new.take_fails.items ≡ old.take_fails.items
  pub send_fails : new.send_fails.items ≡ old.send_fails.items
  pub same_disk : new.disk ≡ old.disk
