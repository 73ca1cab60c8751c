-- The moments of a world in memory: those of its disk, and one for each send.
use Rattle.std.specs.Prelude.{ℕ, ◌+◌, ◌-◌, ◌≤◌, nat_lt, if◌then◌else◌, List, [], ◌∷◌, length, All}
use Rattle.block_disk.specs.View.{View, Beside}
use Rattle.chart_world.specs.declared.sent_log.Sent.{Sent}

-- how many sends were done by a moment
abbrev pub sends_by : List Sent → ℕ → ℕ
sends_by [] time = 0
sends_by (sent ∷ later) time = if nat_lt sent.at time then 1 + sends_by later (time - 1) else 0

-- how many bytes were sent by a moment, where so many were sent before these sends
abbrev pub bytes_by : ℕ → List Sent → ℕ → ℕ
bytes_by before [] time = before
bytes_by before (sent ∷ later) time = if nat_lt sent.at time then bytes_by sent.count later (time - 1) else before

-- how many bytes were sent after all these sends
abbrev pub bytes_after : ℕ → List Sent → ℕ
bytes_after before [] = before
bytes_after before (sent ∷ later) = bytes_after sent.count later

-- no send came later than this moment of the disk
abbrev pub DatedBy : ℕ → List Sent → Type 0
DatedBy clock sends = All (λ sent. sent.at ≤ clock) sends

-- the disk, with streams beside it that took these sends
abbrev pub timed : View → List Sent → Beside → View
timed disk sends others = record {
  size = disk.size;
  image = disk.image;
  clock = disk.clock + length sends;
  crash = λ time image. disk.crash (time - sends_by sends time) image;
  sent_by = λ time. bytes_by 0 sends time;
  faults = disk.faults;
  reads = disk.reads;
  syncs = disk.syncs;
  writes = disk.writes;
  beside = others;
  fit = disk.fit;
}
