-- A command counts the failed call that its status tells, and no other.
use Rattle.std.proofs.Common.{ℕ, ◌≡◌, ◌≢◌, None, Result, Ok, Err, refl, ap, ◌∙◌}
use Rattle.block_disk.specs.Counts.{HasRisen}
use Rattle.block_disk.specs.View.{View, DiskKept}
use Rattle.chart_client.specs.declared.errors.ClientError.TheVariants as client
use Rattle.chart_service.specs.Faulting.{answer_fault, serve_fault}
use Rattle.chart_service.specs.declared.failure.AnswerEnd.{AnswerEnd}
use Rattle.chart_service.specs.declared.failure.AnswerEnd.TheVariants as answers
use Rattle.chart_service.specs.declared.failure.ServeEnd.{ServeEnd}
use Rattle.chart_service.specs.declared.failure.ServeEnd.TheVariants as serve_end
use Rattle.chart_world.specs.Faults.{CountsFault, fault_in}
use Rattle.chart_world.specs.declared.line_answer.LineFault.{LineFault}
use Rattle.chart_world.specs.declared.line_answer.LineFault.TheVariants as fault
use Rattle.draw_command.specs.declared.draw_end.DrawEnd.{DrawEnd}
use Rattle.draw_command.specs.declared.draw_end.DrawEnd.TheVariants as draw_end
use Rattle.run_ends.specs.Faults.{end_fault}
use Rattle.store_commands.specs.Status.{code_fault}
use Rattle.chart_program.specs.CommandStatuses.{drawing_end}
use Rattle.chart_program.specs.Ended.{status_by}
use Rattle.chart_program.specs.Faulting.{plot_fault, run_fault}
use Rattle.chart_program.specs.Plotted.{plotting_end}
use Rattle.chart_program.specs.Reads.{end_of}
use Rattle.chart_program.specs.Runs.{run_answer}
use Rattle.chart_program.specs.Served.{in_world, served}
use Rattle.chart_program.specs.declared.input.InputEnd.{InputEnd}
use Rattle.chart_program.specs.declared.input.InputEnd.TheVariants as input
use Rattle.chart_program.specs.declared.plot.PlotEnd.{PlotEnd}
use Rattle.chart_program.specs.declared.plot.PlotEnd.TheVariants.{Input, SendFault}
use Rattle.chart_program.specs.declared.run_end.RunEnd.{RunEnd}
use Rattle.chart_program.specs.declared.run_end.RunEnd.TheVariants.{Serve, Show}
use Rattle.chart_world.specs.FaultLaws.{counts_kept, counts_unsent, counts_untaken}

-- ---- what a status tells

pub told_in_world : {T : Type 0} (answer : Result T RunEnd) → code_fault (status_by (in_world answer)).code ≡ fault_in run_fault answer
told_in_world (Ok done) = refl
told_in_world (Err (Serve serve_end.ReadFault)) = refl
told_in_world (Err (Serve serve_end.SendFault)) = refl
told_in_world (Err (Serve serve_end.DiskFault)) = refl
told_in_world (Err (Serve (serve_end.Damaged page))) = refl
told_in_world (Err (Serve serve_end.InputTooLong)) = refl
told_in_world (Err (Serve serve_end.NoMemory)) = refl
told_in_world (Err (Show (client.Missing key))) = refl
told_in_world (Err (Show (client.BadCoefficient key))) = refl
told_in_world (Err (Show (client.UnknownSession number))) = refl
told_in_world (Err (Show client.NoMemory)) = refl

pub told_served : {T : Type 0} (answer : Result T ServeEnd) → fault_in run_fault (served answer) ≡ fault_in serve_fault answer
told_served (Ok done) = refl
told_served (Err end) = refl

-- a text that wasn't made is no failed call
pub told_run : {T : Type 0} (answer : Result T (AnswerEnd RunEnd))
    → ((f : ServeEnd) → (f ≡ serve_end.NoMemory → ⊥) → run_answer answer ≡ Err (Serve f) → answer ≡ Err (answers.Serve f))
    → fault_in run_fault (run_answer answer) ≡ fault_in answer_fault answer
told_run (Ok done) made = refl
told_run (Err (answers.Serve end)) made = refl
told_run (Err (answers.Reply (Serve serve_end.ReadFault))) made = absurd (cc (made serve_end.ReadFault (λ is. cc) refl))
told_run (Err (answers.Reply (Serve serve_end.SendFault))) made = absurd (cc (made serve_end.SendFault (λ is. cc) refl))
told_run (Err (answers.Reply (Serve serve_end.DiskFault))) made = absurd (cc (made serve_end.DiskFault (λ is. cc) refl))
told_run (Err (answers.Reply (Serve (serve_end.Damaged page)))) made = refl
told_run (Err (answers.Reply (Serve serve_end.InputTooLong))) made = refl
told_run (Err (answers.Reply (Serve serve_end.NoMemory))) made = refl
told_run (Err (answers.Reply (Show error))) made = refl

pub told_plotted : {T : Type 0} (answer : Result T PlotEnd) → end_fault (plotting_end answer) ≡ fault_in plot_fault answer
told_plotted (Ok done) = refl
told_plotted (Err SendFault) = refl
told_plotted (Err (Input input.NoMemory)) = refl
told_plotted (Err (Input input.ReadFault)) = refl
told_plotted (Err (Input input.InputTooLong)) = refl
told_plotted (Err (Input (input.BadLine at))) = refl
told_plotted (Err (Input input.TooManySlots)) = refl

-- ---- takes and sends beside the disk

pub is_of_take : {T : Type 0} (f : LineFault) (r : Result T InputEnd) → r ≡ Err (end_of f) → r ≢ Err input.ReadFault → f ≢ fault.ReadFault
is_of_take f r is other read = other (is ∙ ap (λ (x : LineFault). Err (end_of x)) read)

module _ {W : Type 0} (view : W → View) (reads sends : W → ℕ) (beside_reads : (world : W)
    → (view world).beside.read_faults ≡ reads world) (beside_sends : (world : W)
    → (view world).beside.send_faults ≡ sends world) (old new : W) (kept : DiskKept (view old) (view new)) where
  none : reads new ≡ reads old → sends new ≡ sends old → CountsFault None (view old) (view new)
  none = counts_kept view reads sends beside_reads beside_sends old new kept

  -- slots that weren't read
  pub counts_slots : (end : InputEnd) → (end ≡ input.ReadFault → HasRisen (reads old) (reads new))
      → (end ≢ input.ReadFault → reads new ≡ reads old) → sends new ≡ sends old → CountsFault (plot_fault (Input end)) (view old) (view new)
  counts_slots input.NoMemory risen quiet send = none (quiet (λ is. cc)) send
  counts_slots input.ReadFault risen quiet send = counts_untaken view reads sends beside_reads beside_sends old new kept (risen refl) send
  counts_slots input.InputTooLong risen quiet send = none (quiet (λ is. cc)) send
  counts_slots (input.BadLine at) risen quiet send = none (quiet (λ is. cc)) send
  counts_slots input.TooManySlots risen quiet send = none (quiet (λ is. cc)) send

  -- pictures that are sent
  pub counts_drawn : {T : Type 0} (answer : Result T DrawEnd) → (answer ≡ Err draw_end.ReadFault → HasRisen (reads old) (reads new))
      → (answer ≡ Err draw_end.SendFault → HasRisen (sends old) (sends new)) → (answer ≢ Err draw_end.ReadFault → reads new ≡ reads old)
      → (answer ≢ Err draw_end.SendFault → sends new ≡ sends old) → CountsFault (end_fault (drawing_end answer)) (view old) (view new)
  counts_drawn (Ok done) read send no_read no_send = none (no_read (λ is. cc)) (no_send (λ is. cc))
  counts_drawn (Err draw_end.ReadFault) read send no_read no_send = counts_untaken view reads sends beside_reads beside_sends old new kept
      (read refl) (no_send (λ is. cc))
  counts_drawn (Err draw_end.SendFault) read send no_read no_send = counts_unsent view reads sends beside_reads beside_sends old new kept
      (no_read (λ is. cc)) (send refl)
  counts_drawn (Err draw_end.NoMemory) read send no_read no_send = none (no_read (λ is. cc)) (no_send (λ is. cc))
  counts_drawn (Err draw_end.InputTooLong) read send no_read no_send = none (no_read (λ is. cc)) (no_send (λ is. cc))
  counts_drawn (Err (draw_end.BadFrame at)) read send no_read no_send = none (no_read (λ is. cc)) (no_send (λ is. cc))
  counts_drawn (Err (draw_end.Missing key)) read send no_read no_send = none (no_read (λ is. cc)) (no_send (λ is. cc))
  counts_drawn (Err (draw_end.BadCoefficient key)) read send no_read no_send = none (no_read (λ is. cc)) (no_send (λ is. cc))
  counts_drawn (Err (draw_end.UnknownSession number)) read send no_read no_send = none (no_read (λ is. cc)) (no_send (λ is. cc))
