use Rattle.std.proofs.Common.{◌≡◌, ◌≢◌, ℕ, List, Option, true, false, None, Some, Result, Err, IfSome, refl, sym, subst, ap, ◌∙◌, rules}
use Rattle.std.specs.Prelude.{is_err}
use Rattle.block_disk.specs.Counts.{HasRisen}
use Rattle.chart_world.specs.Faults.{OfSend, CountsFault, fault_in}
use Rattle.chart_world.specs.Reading.{IsReadUp}
use Rattle.chart_world.specs.FaultLaws.{counts_then, counts_kept, counts_unsent}
use Rattle.chart_service.proofs.Sending.{error_goes}
use Rattle.chart_service.proofs.Ends.{error_is, on_err}
use Rattle.chart_service.proofs.Faulting.{of_err, of_ok}
use Rattle.chart_service.proofs.Outcomes.{ok_err}
use Rattle.chart_program.specs.declared.input.InputEnd.{InputEnd}
use Rattle.chart_program.specs.declared.plot.PlotEnd.{PlotEnd}
use Rattle.chart_program.specs.declared.plot.PlotEnd.TheVariants.{Input, SendFault}
use Rattle.chart_program.specs.Faulting.{plot_fault}
use Rattle.chart_program.specs.Plotted.{EndsPlot}
use Rattle.chart_program.proofs.Faults.{counts_slots}
use Rattle.draw_command.proofs.DiskKept.{stays_taken, stays_sent, stays_then}
use Rattle.chart_program.proofs.plot.plot.Goals as goal

input_is : {T : Type 0} {e f : InputEnd} → ◌≡◌ {A = Result T PlotEnd} (Err (Input e)) (Err (Input f)) → e ≡ f
input_is is = cc

input_sent : {T S : Type 0} {e : InputEnd} → ◌≡◌ {A = Result T PlotEnd} (Err (Input e)) (Err SendFault) → S
input_sent is = absurd (cc)

pub returns-in_err-slots-clause-done : goal.returns-in_err-slots-clause-done
returns-in_err-slots-clause-done g c = on_err c.from_residual.result _ _ c.from_residual.ensures.1

pub returns-in_err-slots-clause-within : goal.returns-in_err-slots-clause-within
returns-in_err-slots-clause-within g c = on_err c.from_residual.result _ _ c.from_residual.ensures.1

pub returns-in_err-slots-clause-whole : goal.returns-in_err-slots-clause-whole
returns-in_err-slots-clause-whole g c = on_err c.from_residual.result _ _ c.from_residual.ensures.1

pub returns-in_err-slots-clause-ends : goal.returns-in_err-slots-clause-ends
returns-in_err-slots-clause-ends g c =
    let old = c.args.streams.now in
    let new = c.read_slots.new.from in
    let left = g.S.Streams.left in
    let sent = g.S.Streams.sent in
    error_goes (λ end. IfSome (left old) (λ input. EndsPlot c.args.w c.args.h input (left new) (sent old) (sent new) end))
    c.from_residual.result (Input c.in_err-slots.field-0.0) c.from_residual.ensures.1 c.in_err-slots.ensures.ends

pub returns-in_err-slots-clause-unsent : goal.returns-in_err-slots-clause-unsent
returns-in_err-slots-clause-unsent g c =
    let sent = g.S.Streams.sent in
    error_goes (λ end. end ≢ SendFault → sent c.read_slots.new.from ≡ sent c.args.streams.now) c.from_residual.result
    (Input c.in_err-slots.field-0.0) c.from_residual.ensures.1 (λ other. c.read_slots.ensures.sent)

pub returns-in_err-slots-clause-read : goal.returns-in_err-slots-clause-read
returns-in_err-slots-clause-read g c = λ fault. c.in_err-slots.ensures.read
    (ap Err (input_is (sym (error_is c.from_residual.result (Input c.in_err-slots.field-0.0) c.from_residual.ensures.1) ∙ fault)))

pub returns-in_err-slots-clause-send : goal.returns-in_err-slots-clause-send
returns-in_err-slots-clause-send g c = λ fault. input_sent
    (sym (error_is c.from_residual.result (Input c.in_err-slots.field-0.0) c.from_residual.ensures.1) ∙ fault)

pub returns-in_err-bytes-clause-done : goal.returns-in_err-bytes-clause-done
returns-in_err-bytes-clause-done g c = on_err c.from_residual-in_err-bytes.result _ _ c.from_residual-in_err-bytes.ensures.1

pub returns-in_err-bytes-clause-within : goal.returns-in_err-bytes-clause-within
returns-in_err-bytes-clause-within g c = on_err c.from_residual-in_err-bytes.result _ _ c.from_residual-in_err-bytes.ensures.1

pub returns-in_err-bytes-clause-whole : goal.returns-in_err-bytes-clause-whole
returns-in_err-bytes-clause-whole g c = on_err c.from_residual-in_err-bytes.result _ _ c.from_residual-in_err-bytes.ensures.1

pub returns-in_err-bytes-clause-unsent : goal.returns-in_err-bytes-clause-unsent
returns-in_err-bytes-clause-unsent g c =
    let sent = g.S.Streams.sent in
    error_goes (λ end. end ≢ SendFault → sent c.read_slots.new.from ≡ sent c.args.streams.now) c.from_residual-in_err-bytes.result
    (Input c.in_err-bytes.field-0.0) c.from_residual-in_err-bytes.ensures.1 (λ other. c.read_slots.ensures.sent)

pub returns-in_err-bytes-clause-send : goal.returns-in_err-bytes-clause-send
returns-in_err-bytes-clause-send g c = λ fault. input_sent
    (sym (error_is c.from_residual-in_err-bytes.result (Input c.in_err-bytes.field-0.0) c.from_residual-in_err-bytes.ensures.1) ∙ fault)

pub returns-then-is_err-clause-done : goal.returns-then-is_err-clause-done
returns-then-is_err-clause-done g c = tt

pub returns-then-is_err-clause-within : goal.returns-then-is_err-clause-within
returns-then-is_err-clause-within g c = tt

pub returns-then-is_err-clause-whole : goal.returns-then-is_err-clause-whole
returns-then-is_err-clause-whole g c = tt

pub returns-clause-whole : goal.returns-clause-whole
returns-clause-whole g c =
    let left = g.S.Streams.left in
    let R : Option (List ℕ) → Type 0 = λ l. IsReadUp (left c.args.streams.now) l in
    subst R (sym c.send.ensures.left) c.in_ok-slots.ensures.whole

pub returns-then-is_err-clause-unsent : goal.returns-then-is_err-clause-unsent
returns-then-is_err-clause-unsent g c = λ other. absurd (other refl)

pub returns-clause-ends : goal.returns-clause-ends
returns-clause-ends g c = tt

pub returns-clause-unsent : goal.returns-clause-unsent
returns-clause-unsent g c = tt

pub returns-in_err-slots-clause-disk : goal.returns-in_err-slots-clause-disk
returns-in_err-slots-clause-disk g c =
    let view = g.S.Disk.view in
    let old = c.args.streams.now in
    let mid = c.read_slots.new.from in
    let beside = c.read_slots.ensures.beside in
    stays_taken (view old) (view mid) (g.met.S.World.take_keeps old mid beside) (g.met.S.World.take_passes old mid beside)

pub returns-in_err-bytes-clause-disk : goal.returns-in_err-bytes-clause-disk
returns-in_err-bytes-clause-disk g c =
    let view = g.S.Disk.view in
    let old = c.args.streams.now in
    let mid = c.read_slots.new.from in
    let beside = c.read_slots.ensures.beside in
    stays_taken (view old) (view mid) (g.met.S.World.take_keeps old mid beside) (g.met.S.World.take_passes old mid beside)

pub returns-then-is_err-clause-disk : goal.returns-then-is_err-clause-disk
returns-then-is_err-clause-disk g c =
    let view = g.S.Disk.view in
    let old = c.args.streams.now in
    let mid = c.read_slots.new.from in
    let new = c.send.new.self in
    let taken = c.read_slots.ensures.beside in
    let sent = c.send.ensures.beside in
    stays_then (view old) (view mid) (view new)
    (stays_taken (view old) (view mid) (g.met.S.World.take_keeps old mid taken) (g.met.S.World.take_passes old mid taken))
    (stays_sent (view mid) (view new) (g.met.S.World.send_keeps _ mid new sent) (g.met.S.World.send_passes _ mid new sent))

pub returns-clause-disk : goal.returns-clause-disk
returns-clause-disk g c =
    let view = g.S.Disk.view in
    let old = c.args.streams.now in
    let mid = c.read_slots.new.from in
    let new = c.send.new.self in
    let taken = c.read_slots.ensures.beside in
    let sent = c.send.ensures.beside in
    stays_then (view old) (view mid) (view new)
    (stays_taken (view old) (view mid) (g.met.S.World.take_keeps old mid taken) (g.met.S.World.take_passes old mid taken))
    (stays_sent (view mid) (view new) (g.met.S.World.send_keeps _ mid new sent) (g.met.S.World.send_passes _ mid new sent))

pub returns-in_err-slots-clause-faults : goal.returns-in_err-slots-clause-faults
returns-in_err-slots-clause-faults g c =
    let view = g.S.Disk.view in
    let w = g.met.S.World in
    let old = c.args.streams.now in
    let mid = c.read_slots.new.from in
    let e = c.in_err-slots.ensures in
    let end = c.in_err-slots.field-0.0 in
    let P : Result (Unit {0}) PlotEnd → Type 0 = λ r. CountsFault (fault_in plot_fault r) (view old) (view mid) in
    subst P (sym (error_is c.from_residual.result (Input end) c.from_residual.ensures.1))
    (counts_slots view g.S.Streams.read_faults g.S.Streams.send_faults w.beside_read_faults w.beside_send_faults old mid
    (w.take_keeps old mid e.beside) end (λ is. e.read (ap Err is)) (λ other. e.quiet_reads (λ is. other (cc))) e.send_faults)

pub returns-in_err-bytes-clause-faults : goal.returns-in_err-bytes-clause-faults
returns-in_err-bytes-clause-faults g c =
    let view = g.S.Disk.view in
    let w = g.met.S.World in
    let old = c.args.streams.now in
    let mid = c.read_slots.new.from in
    let e = c.read_slots.ensures in
    let end = c.in_err-bytes.field-0.0 in
    let kept = counts_kept view g.S.Streams.read_faults g.S.Streams.send_faults w.beside_read_faults w.beside_send_faults old mid
    (w.take_keeps old mid e.beside) (c.in_ok-slots.ensures.quiet_reads (ok_err _ _)) e.send_faults in
    let I : InputEnd → Type 0 = λ x. CountsFault (plot_fault (Input x)) (view old) (view mid) in
    let P : Result (Unit {0}) PlotEnd → Type 0 = λ r. CountsFault (fault_in plot_fault r) (view old) (view mid) in
    subst P (sym (error_is c.from_residual-in_err-bytes.result (Input end) c.from_residual-in_err-bytes.ensures.1))
    (subst I (sym c.in_err-bytes.ensures.memory) kept)

pub returns-then-is_err-clause-faults : goal.returns-then-is_err-clause-faults
returns-then-is_err-clause-faults g c =
    let view = g.S.Disk.view in
    let w = g.met.S.World in
    let old = c.args.streams.now in
    let mid = c.read_slots.new.from in
    let new = c.send.new.self in
    let e = c.read_slots.ensures in
    let reads = g.S.Streams.read_faults in
    let sends = g.S.Streams.send_faults in
    let kept = counts_kept view reads sends w.beside_read_faults w.beside_send_faults old mid (w.take_keeps old mid e.beside)
    (c.in_ok-slots.ensures.quiet_reads (ok_err _ _)) e.send_faults in
    let failed : is_err c.send.result ≡ true = search rules in
    counts_then (Some OfSend) (view old) (view mid) (view new) kept
    (counts_unsent view reads sends w.beside_read_faults w.beside_send_faults mid new
    (w.send_keeps _ mid new c.send.ensures.beside) c.send.ensures.read_faults
    (of_err c.send.result (HasRisen (sends mid) (sends new)) failed c.send.ensures.cause))

pub returns-clause-faults : goal.returns-clause-faults
returns-clause-faults g c =
    let view = g.S.Disk.view in
    let w = g.met.S.World in
    let old = c.args.streams.now in
    let mid = c.read_slots.new.from in
    let new = c.send.new.self in
    let e = c.read_slots.ensures in
    let reads = g.S.Streams.read_faults in
    let sends = g.S.Streams.send_faults in
    let kept = counts_kept view reads sends w.beside_read_faults w.beside_send_faults old mid (w.take_keeps old mid e.beside)
    (c.in_ok-slots.ensures.quiet_reads (ok_err _ _)) e.send_faults in
    let done : is_err c.send.result ≡ false = search rules in
    counts_then None (view old) (view mid) (view new) kept
    (counts_kept view reads sends w.beside_read_faults w.beside_send_faults mid new
    (w.send_keeps _ mid new c.send.ensures.beside) c.send.ensures.read_faults
    (of_ok c.send.result (sends new ≡ sends mid) done c.send.ensures.quiet))
