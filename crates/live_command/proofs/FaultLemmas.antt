-- The failed call that ends a run, by the counts of faults.
use Rattle.std.proofs.Common.{◌≡◌, Result, Err, refl}
use Rattle.std.specs.Prelude.{⊤}
use Rattle.chart_service.specs.Faulting.{serve_fault}
use Rattle.chart_service.specs.Serving.{end_of}
use Rattle.chart_world.specs.declared.line_answer.LineFault.{LineFault}
use Rattle.chart_world.specs.declared.line_answer.LineFault.TheVariants as fault
use Rattle.run_ends.specs.Faults.{end_fault, input_end}
use Rattle.run_ends.specs.declared.ending.End.{End}
use Rattle.run_ends.specs.declared.ending.End.TheVariants.{InputTooLong}

pub input_fault_is : (f : LineFault) → end_fault (input_end f) ≡ serve_fault (end_of f)
input_fault_is fault.ReadFault = refl
input_fault_is fault.InputTooLong = refl

pub input_long_is : (f : LineFault) (end : End) → end ≡ input_end f → ◌≡◌ {A = Result ⊤ End} (Err end) (Err InputTooLong)
    → f ≡ fault.InputTooLong
input_long_is fault.ReadFault end is same = cc
input_long_is fault.InputTooLong end is same = refl

-- a line that wasn't read
pub same_fault : {T : Type 0} (one other : LineFault) → ◌≡◌ {A = Result T LineFault} (Err one) (Err other) → one ≡ other
same_fault {T} one other is = cc
