-- What a serving command did, by the traffic of its world.
use Rattle.std.specs.Prelude.{Result}
use Rattle.block_disk.specs.View.{View}
use Rattle.block_disk.specs.declared.disk.Disk.{Ghosts}
use Rattle.gate_pages.specs.Shown as gate
use Rattle.gate_pages.specs.declared.gate_pages.GatePages.{GatePages}
use Rattle.store_commands.specs.Traffic.{Traffic}
use Rattle.run_ends.specs.declared.status.Status.{Status}
use Rattle.chart_program.specs.Ended.{EndsBy}
use Rattle.chart_program.specs.Served.{Says, ServesLines, ServesWorld, faults_of}
use Rattle.chart_program.specs.declared.lines_end.LinesEnd.{LinesEnd}
use Rattle.chart_program.specs.declared.run_end.RunEnd.{RunEnd}

-- over the pages of an open store on a world
abbrev pub PagesServed : {W T : Type 0} {disk : Ghosts W} → Says → Type 0 → (W → View) → GatePages W disk → W → Traffic → Result T RunEnd
    → Type 0
PagesServed IsText CanShow view pages new t answer =
    ServesLines IsText CanShow (gate.count pages) (view (gate.disk pages)) (view new) t.left t.left_now t.sent t.sent_now
    (faults_of t.reads t.reads_now t.sends t.sends_now) answer

-- where the store is opened first
abbrev pub WorldServed : {T : Type 0} → Says → Type 0 → View → View → Traffic → Result T LinesEnd → Type 0
WorldServed IsText CanShow old new t answer =
    ServesWorld IsText CanShow old new t.left t.left_now t.sent t.sent_now (faults_of t.reads t.reads_now t.sends t.sends_now) answer

-- and by its status
abbrev pub EndsInStatus : Says → Type 0 → View → View → Traffic → Status → Type 0
EndsInStatus IsText CanShow old new t status =
    EndsBy IsText CanShow old new t.left t.left_now t.sent t.sent_now
    (faults_of t.reads t.reads_now t.sends t.sends_now) status.code status.place
