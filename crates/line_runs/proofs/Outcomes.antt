-- What a call answered is none of its errors.
use Rattle.std.proofs.Common.{◌≡◌}
use Rattle.std.specs.Prelude.{Result, Ok, Err, ⊤}
use Rattle.chart_world.specs.declared.line_answer.LineFault.{LineFault}
use Rattle.chart_world.specs.declared.line_answer.LineFault.TheVariants as fault
use Rattle.line_runs.specs.declared.lines_stop.LinesStop.{LinesStop}
use Rattle.line_runs.specs.declared.lines_stop.LinesStop.TheVariants as stop

pub ok_err : {T E : Type 0} (x : T) (e : E) → ◌≡◌ {A = Result T E} (Ok x) (Err e) → ⊥
ok_err x e never = cc

pub fault_same : {E : Type 0} (f : LineFault) → ◌≡◌ {A = Result ⊤ (LinesStop E)} (Err (stop.Fault f)) (Err (stop.Fault fault.InputTooLong))
    → f ≡ fault.InputTooLong
fault_same {E} f same = cc
