use Rattle.std.proofs.Common.{Option, ap, subst, sym, ◌∙◌}
use Rattle.chart_world.specs.Faults.{CountsFault, Fault}
use Rattle.program_words.specs.declared.words.Command.{Command}
use Rattle.run_ends.specs.Faults.{end_fault}
use Rattle.run_ends.specs.Statuses.{code_of, place_of, status_of}
use Rattle.run_ends.specs.declared.ending.End.{End}
use Rattle.run_ends.specs.declared.status.Status.{Status}
use Rattle.store_commands.specs.Faulting.{counts_end}
use Rattle.store_commands.specs.Traffic.{traffic}
use Rattle.chart_program.specs.Served.{faults_of}
use Rattle.chart_program.specs.Commands.{Does}
use Rattle.chart_program.specs.Course.{course}
use Rattle.chart_program.specs.Host.{hosting_end}
use Rattle.chart_program.specs.Ran.{CommandEnds}
use Rattle.chart_program.proofs.DerivePage.{of_derive}
use Rattle.chart_program.proofs.HostPage.{hosted_fault, of_host}
use Rattle.chart_program.proofs.LivePage.{of_live}
use Rattle.chart_program.proofs.LoadPage.{of_load}
use Rattle.chart_program.proofs.RetainPage.{of_retain}
use Rattle.chart_program.proofs.StorePages.{of_check, of_demo, of_export, of_init, of_list}
use Rattle.chart_program.proofs.CommandsEnd.{run_ends, serve_ends}
use Rattle.chart_program.proofs.LoadEnds.{load_ends}
use Rattle.chart_program.proofs.InitEnds.{init_ends}
use Rattle.chart_program.proofs.StoreShown.{check_ends, demo_ends, export_ends, list_ends}
use Rattle.chart_program.proofs.RetainEnds.{retain_ends}
use Rattle.chart_program.proofs.HostEnds.{host_ends}
use Rattle.chart_program.proofs.LiveEnds.{live_ends}
use Rattle.chart_program.proofs.DeriveEnds.{derive_ends}
use Rattle.chart_program.proofs.commands.status_of_command.Goals as goal

pub returns-in-Plot-clause-ends : goal.returns-in-Plot-clause-ends
returns-in-Plot-clause-ends g c =
    let view = g.W.Disk.view in
    let left = g.W.Streams.left in
    let sent = g.W.Streams.sent in
    let reads = g.W.Streams.read_faults in
    let sends = g.W.Streams.send_faults in
    let old = c.args.world in
    let new = c.plot_status-status.new.world in
    let status = c.plot_status-status.result in
    let faults = faults_of (reads old) (reads new) (sends old) (sends new) in
    let P : Command → Type 0 = λ command. CommandEnds command (view old) (view new) (left old) (left new) (sent old)
    (sent new) faults status.code status.place in
    subst P (sym c.in-Plot.is) c.plot_status-status.ensures.ends

pub returns-in-Load-clause-ends : goal.returns-in-Load-clause-ends
returns-in-Load-clause-ends g c =
    let view = g.W.Disk.view in
    let left = g.W.Streams.left in
    let sent = g.W.Streams.sent in
    let reads = g.W.Streams.read_faults in
    let sends = g.W.Streams.send_faults in
    let old = c.args.world in
    let new = c.load_series-end.result.1 in
    let end = c.load_series-end.result.0 in
    let e = c.load_series-end.ensures in
    let faults = faults_of (reads old) (reads new) (sends old) (sends new) in
    let P : Command → Type 0 = λ command. CommandEnds command (view old) (view new) (left old) (left new) (sent old) (sent new) faults
    (code_of end) (place_of end) in
    let S : Status → Type 0 = λ s. CommandEnds c.args.command (view old) (view new) (left old) (left new) (sent old)
    (sent new) faults s.code s.place in
    subst S (sym c.status_of.ensures.status)
    (subst P (sym c.in-Load.is) (load_ends c.in-Load.name (view old) (view new) (left old) (left new) (sent old)
    (sent new) faults end e.ends e.away e.holds))

pub returns-in-Load-clause-faults : goal.returns-in-Load-clause-faults
returns-in-Load-clause-faults g c =
    counts_end c.load_series-end.result.0 c.status_of.result (g.W.Disk.view c.args.world)
    (g.W.Disk.view c.load_series-end.result.1) c.status_of.ensures.status c.load_series-end.ensures.faults

pub returns-in-Demo-clause-ends : goal.returns-in-Demo-clause-ends
returns-in-Demo-clause-ends g c =
    let view = g.W.Disk.view in
    let left = g.W.Streams.left in
    let sent = g.W.Streams.sent in
    let reads = g.W.Streams.read_faults in
    let sends = g.W.Streams.send_faults in
    let old = c.args.world in
    let new = c.run_demo-end.result.1 in
    let end = c.run_demo-end.result.0 in
    let e = c.run_demo-end.ensures in
    let faults = faults_of (reads old) (reads new) (sends old) (sends new) in
    let P : Command → Type 0 = λ command. CommandEnds command (view old) (view new) (left old) (left new) (sent old) (sent new) faults
    (code_of end) (place_of end) in
    let S : Status → Type 0 = λ s. CommandEnds c.args.command (view old) (view new) (left old) (left new) (sent old)
    (sent new) faults s.code s.place in
    subst S (sym c.status_of-in-Demo.ensures.status)
    (subst P (sym c.in-Demo.is) (demo_ends (view old) (view new) (left old) (left new) (sent old)
    (sent new) faults c.in-Demo.seed c.in-Demo.count end e.ends e.away e.untaken e.holds))

pub returns-in-Demo-clause-faults : goal.returns-in-Demo-clause-faults
returns-in-Demo-clause-faults g c =
    counts_end c.run_demo-end.result.0 c.status_of-in-Demo.result (g.W.Disk.view c.args.world)
    (g.W.Disk.view c.run_demo-end.result.1) c.status_of-in-Demo.ensures.status c.run_demo-end.ensures.faults

pub returns-in-Run-clause-ends : goal.returns-in-Run-clause-ends
returns-in-Run-clause-ends g c =
    let view = g.W.Disk.view in
    let left = g.W.Streams.left in
    let sent = g.W.Streams.sent in
    let reads = g.W.Streams.read_faults in
    let sends = g.W.Streams.send_faults in
    let old = c.args.world in
    let new = c.run_status.result.1 in
    let status = c.run_status.result.0 in
    let e = c.run_status.ensures in
    let faults = faults_of (reads old) (reads new) (sends old) (sends new) in
    let P : Command → Type 0 = λ command. CommandEnds command (view old) (view new) (left old) (left new) (sent old)
    (sent new) faults status.code status.place in
    subst P (sym c.in-Run.is) (run_ends (view old) (view new) (left old) (left new) (sent old)
    (sent new) faults status.code status.place e.ends e.own e.away e.bars)

pub returns-in-Serve-clause-ends : goal.returns-in-Serve-clause-ends
returns-in-Serve-clause-ends g c =
    let view = g.W.Disk.view in
    let left = g.W.Streams.left in
    let sent = g.W.Streams.sent in
    let reads = g.W.Streams.read_faults in
    let sends = g.W.Streams.send_faults in
    let old = c.args.world in
    let new = c.serve_status.result.1 in
    let status = c.serve_status.result.0 in
    let e = c.serve_status.ensures in
    let faults = faults_of (reads old) (reads new) (sends old) (sends new) in
    let P : Command → Type 0 = λ command. CommandEnds command (view old) (view new) (left old) (left new) (sent old)
    (sent new) faults status.code status.place in
    subst P (sym c.in-Serve.is) (serve_ends (view old) (view new) (left old) (left new) (sent old)
    (sent new) faults status.code status.place e.ends e.own e.away e.bars)

pub returns-in-Draw-clause-ends : goal.returns-in-Draw-clause-ends
returns-in-Draw-clause-ends g c =
    let view = g.W.Disk.view in
    let left = g.W.Streams.left in
    let sent = g.W.Streams.sent in
    let reads = g.W.Streams.read_faults in
    let sends = g.W.Streams.send_faults in
    let old = c.args.world in
    let new = c.draw_status-status.new.world in
    let status = c.draw_status-status.result in
    let faults = faults_of (reads old) (reads new) (sends old) (sends new) in
    let P : Command → Type 0 = λ command. CommandEnds command (view old) (view new) (left old) (left new) (sent old)
    (sent new) faults status.code status.place in
    subst P (sym c.in-Draw.is) c.draw_status-status.ensures.ends

pub returns-in-Init-clause-ends : goal.returns-in-Init-clause-ends
returns-in-Init-clause-ends g c =
    let view = g.W.Disk.view in
    let left = g.W.Streams.left in
    let sent = g.W.Streams.sent in
    let reads = g.W.Streams.read_faults in
    let sends = g.W.Streams.send_faults in
    let old = c.args.world in
    let new = c.init-end.result.1 in
    let end = c.init-end.result.0 in
    let e = c.init-end.ensures in
    let faults = faults_of (reads old) (reads new) (sends old) (sends new) in
    let P : Command → Type 0 = λ command. CommandEnds command (view old) (view new) (left old) (left new) (sent old) (sent new) faults
    (code_of end) (place_of end) in
    let S : Status → Type 0 = λ s. CommandEnds c.args.command (view old) (view new) (left old) (left new) (sent old)
    (sent new) faults s.code s.place in
    subst S (sym c.status_of-in-Init.ensures.status)
    (subst P (sym c.in-Init.is) (init_ends (view old) (view new) (left old) (left new) (sent old)
    (sent new) faults end e.ends e.away e.untaken e.sent e.disk e.honest e.ready))

pub returns-in-Init-clause-faults : goal.returns-in-Init-clause-faults
returns-in-Init-clause-faults g c =
    counts_end c.init-end.result.0 c.status_of-in-Init.result (g.W.Disk.view c.args.world)
    (g.W.Disk.view c.init-end.result.1) c.status_of-in-Init.ensures.status c.init-end.ensures.faults

pub returns-in-Check-clause-ends : goal.returns-in-Check-clause-ends
returns-in-Check-clause-ends g c =
    let view = g.W.Disk.view in
    let left = g.W.Streams.left in
    let sent = g.W.Streams.sent in
    let reads = g.W.Streams.read_faults in
    let sends = g.W.Streams.send_faults in
    let old = c.args.world in
    let new = c.check_store-end.result.1 in
    let end = c.check_store-end.result.0 in
    let e = c.check_store-end.ensures in
    let faults = faults_of (reads old) (reads new) (sends old) (sends new) in
    let P : Command → Type 0 = λ command. CommandEnds command (view old) (view new) (left old) (left new) (sent old) (sent new) faults
    (code_of end) (place_of end) in
    let S : Status → Type 0 = λ s. CommandEnds c.args.command (view old) (view new) (left old) (left new) (sent old)
    (sent new) faults s.code s.place in
    subst S (sym c.status_of-in-Check.ensures.status)
    (subst P (sym c.in-Check.is) (check_ends (view old) (view new) (left old) (left new) (sent old)
    (sent new) faults end e.ends e.away e.untaken))

pub returns-in-Check-clause-faults : goal.returns-in-Check-clause-faults
returns-in-Check-clause-faults g c =
    counts_end c.check_store-end.result.0 c.status_of-in-Check.result (g.W.Disk.view c.args.world)
    (g.W.Disk.view c.check_store-end.result.1) c.status_of-in-Check.ensures.status c.check_store-end.ensures.faults

pub returns-in-ListSeries-clause-ends : goal.returns-in-ListSeries-clause-ends
returns-in-ListSeries-clause-ends g c =
    let view = g.W.Disk.view in
    let left = g.W.Streams.left in
    let sent = g.W.Streams.sent in
    let reads = g.W.Streams.read_faults in
    let sends = g.W.Streams.send_faults in
    let old = c.args.world in
    let new = c.list_series-end.result.1 in
    let end = c.list_series-end.result.0 in
    let e = c.list_series-end.ensures in
    let faults = faults_of (reads old) (reads new) (sends old) (sends new) in
    let P : Command → Type 0 = λ command. CommandEnds command (view old) (view new) (left old) (left new) (sent old) (sent new) faults
    (code_of end) (place_of end) in
    let S : Status → Type 0 = λ s. CommandEnds c.args.command (view old) (view new) (left old) (left new) (sent old)
    (sent new) faults s.code s.place in
    subst S (sym c.status_of-in-ListSeries.ensures.status)
    (subst P (sym c.in-ListSeries.is) (list_ends (view old) (view new) (left old) (left new) (sent old)
    (sent new) faults end e.ends e.away e.untaken))

pub returns-in-ListSeries-clause-faults : goal.returns-in-ListSeries-clause-faults
returns-in-ListSeries-clause-faults g c =
    counts_end c.list_series-end.result.0 c.status_of-in-ListSeries.result (g.W.Disk.view c.args.world)
    (g.W.Disk.view c.list_series-end.result.1) c.status_of-in-ListSeries.ensures.status c.list_series-end.ensures.faults

pub returns-in-Export-clause-ends : goal.returns-in-Export-clause-ends
returns-in-Export-clause-ends g c =
    let view = g.W.Disk.view in
    let left = g.W.Streams.left in
    let sent = g.W.Streams.sent in
    let reads = g.W.Streams.read_faults in
    let sends = g.W.Streams.send_faults in
    let old = c.args.world in
    let new = c.export_values-end.result.1 in
    let end = c.export_values-end.result.0 in
    let e = c.export_values-end.ensures in
    let faults = faults_of (reads old) (reads new) (sends old) (sends new) in
    let P : Command → Type 0 = λ command. CommandEnds command (view old) (view new) (left old) (left new) (sent old) (sent new) faults
    (code_of end) (place_of end) in
    let S : Status → Type 0 = λ s. CommandEnds c.args.command (view old) (view new) (left old) (left new) (sent old)
    (sent new) faults s.code s.place in
    subst S (sym c.status_of-in-Export.ensures.status)
    (subst P (sym c.in-Export.is) (export_ends (view old) (view new) (left old) (left new) (sent old)
    (sent new) faults c.in-Export.name c.in-Export.window end e.ends e.away e.untaken))

pub returns-in-Export-clause-faults : goal.returns-in-Export-clause-faults
returns-in-Export-clause-faults g c =
    counts_end c.export_values-end.result.0 c.status_of-in-Export.result (g.W.Disk.view c.args.world)
    (g.W.Disk.view c.export_values-end.result.1) c.status_of-in-Export.ensures.status c.export_values-end.ensures.faults

pub returns-in-Retain-clause-ends : goal.returns-in-Retain-clause-ends
returns-in-Retain-clause-ends g c =
    let view = g.W.Disk.view in
    let left = g.W.Streams.left in
    let sent = g.W.Streams.sent in
    let reads = g.W.Streams.read_faults in
    let sends = g.W.Streams.send_faults in
    let old = c.args.world in
    let new = c.retain-end.result.1 in
    let end = c.retain-end.result.0 in
    let e = c.retain-end.ensures in
    let faults = faults_of (reads old) (reads new) (sends old) (sends new) in
    let P : Command → Type 0 = λ command. CommandEnds command (view old) (view new) (left old) (left new) (sent old) (sent new) faults
    (code_of end) (place_of end) in
    let S : Status → Type 0 = λ s. CommandEnds c.args.command (view old) (view new) (left old) (left new) (sent old)
    (sent new) faults s.code s.place in
    subst S (sym c.status_of-in-Retain.ensures.status)
    (subst P (sym c.in-Retain.is) (retain_ends (view old) (view new) (left old) (left new) (sent old) (sent new) faults end e.ends e.away))

pub returns-in-Retain-clause-faults : goal.returns-in-Retain-clause-faults
returns-in-Retain-clause-faults g c =
    counts_end c.retain-end.result.0 c.status_of-in-Retain.result (g.W.Disk.view c.args.world)
    (g.W.Disk.view c.retain-end.result.1) c.status_of-in-Retain.ensures.status c.retain-end.ensures.faults

pub returns-in-Cover-clause-ends : goal.returns-in-Cover-clause-ends
returns-in-Cover-clause-ends g c =
    let view = g.W.Disk.view in
    let left = g.W.Streams.left in
    let sent = g.W.Streams.sent in
    let reads = g.W.Streams.read_faults in
    let sends = g.W.Streams.send_faults in
    let old = c.args.world in
    let new = c.cover_status-status.new.world in
    let status = c.cover_status-status.result in
    let faults = faults_of (reads old) (reads new) (sends old) (sends new) in
    let P : Command → Type 0 = λ command. CommandEnds command (view old) (view new) (left old) (left new) (sent old)
    (sent new) faults status.code status.place in
    subst P (sym c.in-Cover.is) c.cover_status-status.ensures.ends

pub returns-in-Live-clause-ends : goal.returns-in-Live-clause-ends
returns-in-Live-clause-ends g c =
    let view = g.W.Disk.view in
    let left = g.W.Streams.left in
    let sent = g.W.Streams.sent in
    let reads = g.W.Streams.read_faults in
    let sends = g.W.Streams.send_faults in
    let old = c.args.world in
    let new = c.live-end.result.1 in
    let end = c.live-end.result.0 in
    let e = c.live-end.ensures in
    let faults = faults_of (reads old) (reads new) (sends old) (sends new) in
    let P : Command → Type 0 = λ command. CommandEnds command (view old) (view new) (left old) (left new) (sent old) (sent new) faults
    (code_of end) (place_of end) in
    let S : Status → Type 0 = λ s. CommandEnds c.args.command (view old) (view new) (left old) (left new) (sent old)
    (sent new) faults s.code s.place in
    subst S (sym c.status_of-in-Live.ensures.status)
    (subst P (sym c.in-Live.is) (live_ends (view old) (view new) (left old) (left new) (sent old)
    (sent new) faults end e.ends e.away e.reads e.syncs))

pub returns-in-Host-clause-ends : goal.returns-in-Host-clause-ends
returns-in-Host-clause-ends g c =
    let view = g.W.Disk.view in
    let left = g.W.Streams.left in
    let sent = g.W.Streams.sent in
    let reads = g.W.Streams.read_faults in
    let sends = g.W.Streams.send_faults in
    let old = c.args.world in
    let new = c.host-end.result.1 in
    let end = c.host-end.result.0 in
    let e = c.host-end.ensures in
    let faults = faults_of (reads old) (reads new) (sends old) (sends new) in
    let P : Command → Type 0 = λ command. CommandEnds command (view old) (view new) (left old) (left new) (sent old) (sent new) faults
    (code_of (hosting_end end)) (place_of (hosting_end end)) in
    let S : Status → Type 0 = λ s. CommandEnds c.args.command (view old) (view new) (left old) (left new) (sent old)
    (sent new) faults s.code s.place in
    subst S (sym (c.status_of-in-Host.ensures.status ∙ ap (λ (e : End). status_of e) c.hosting_end.ensures))
    (subst P (sym c.in-Host.is) (host_ends (view old) (view new) (left old) (left new) (sent old)
    (sent new) faults end e.ends e.away e.costs))

pub returns-in-Live-clause-faults : goal.returns-in-Live-clause-faults
returns-in-Live-clause-faults g c =
    counts_end c.live-end.result.0 c.status_of-in-Live.result (g.W.Disk.view c.args.world)
    (g.W.Disk.view c.live-end.result.1) c.status_of-in-Live.ensures.status c.live-end.ensures.faults

pub returns-in-Host-clause-faults : goal.returns-in-Host-clause-faults
returns-in-Host-clause-faults g c =
    let old = g.W.Disk.view c.args.world in
    let new = g.W.Disk.view c.host-end.result.1 in
    let F : Option Fault → Type 0 = λ fault. CountsFault fault old new in
    let same = ap (λ (e : End). end_fault e) c.hosting_end.ensures ∙ hosted_fault c.host-end.result.0 in
    counts_end c.hosting_end.result c.status_of-in-Host.result old new c.status_of-in-Host.ensures.status
    (subst F (sym same) c.host-end.ensures.faults)

pub returns-in-Derive-clause-ends : goal.returns-in-Derive-clause-ends
returns-in-Derive-clause-ends g c =
    let view = g.W.Disk.view in
    let left = g.W.Streams.left in
    let sent = g.W.Streams.sent in
    let reads = g.W.Streams.read_faults in
    let sends = g.W.Streams.send_faults in
    let old = c.args.world in
    let new = c.derive-end.result.1 in
    let end = c.derive-end.result.0 in
    let e = c.derive-end.ensures in
    let faults = faults_of (reads old) (reads new) (sends old) (sends new) in
    let P : Command → Type 0 = λ command. CommandEnds command (view old) (view new) (left old) (left new) (sent old) (sent new) faults
    (code_of end) (place_of end) in
    let S : Status → Type 0 = λ s. CommandEnds c.args.command (view old) (view new) (left old) (left new) (sent old)
    (sent new) faults s.code s.place in
    subst S (sym c.status_of-in-Derive.ensures.status)
    (subst P (sym c.in-Derive.is) (derive_ends (view old) (view new) (left old) (left new) (sent old) (sent new) faults end e.ends e.away))

pub returns-in-Derive-clause-faults : goal.returns-in-Derive-clause-faults
returns-in-Derive-clause-faults g c =
    counts_end c.derive-end.result.0 c.status_of-in-Derive.result (g.W.Disk.view c.args.world)
    (g.W.Disk.view c.derive-end.result.1) c.status_of-in-Derive.ensures.status c.derive-end.ensures.faults

-- ---- the pages

pub returns-in-Plot-clause-does : goal.returns-in-Plot-clause-does
returns-in-Plot-clause-does g c =
    let at = course g.W.Disk.view g.W.Streams.left g.W.Streams.sent c.args.world c.plot_status-status.new.world in
    let P : Command → Type 0 = λ command. Does command at c.plot_status-status.result in
    subst P (sym c.in-Plot.is) c.plot_status-status.ensures.does

pub returns-in-Draw-clause-does : goal.returns-in-Draw-clause-does
returns-in-Draw-clause-does g c =
    let at = course g.W.Disk.view g.W.Streams.left g.W.Streams.sent c.args.world c.draw_status-status.new.world in
    let P : Command → Type 0 = λ command. Does command at c.draw_status-status.result in
    subst P (sym c.in-Draw.is) c.draw_status-status.ensures.does

pub returns-in-Cover-clause-does : goal.returns-in-Cover-clause-does
returns-in-Cover-clause-does g c =
    let at = course g.W.Disk.view g.W.Streams.left g.W.Streams.sent c.args.world c.cover_status-status.new.world in
    let P : Command → Type 0 = λ command. Does command at c.cover_status-status.result in
    subst P (sym c.in-Cover.is) c.cover_status-status.ensures.does

pub returns-in-Demo-clause-does : goal.returns-in-Demo-clause-does
returns-in-Demo-clause-does g c =
    let at = course g.W.Disk.view g.W.Streams.left g.W.Streams.sent c.args.world c.run_demo-end.result.1 in
    let P : Command → Type 0 = λ command. Does command at c.status_of-in-Demo.result in
    let end = c.run_demo-end.result.0 in
    let e = c.run_demo-end.ensures in
    subst P (sym c.in-Demo.is) (
      end,
      c.status_of-in-Demo.ensures.status,
      of_demo at (g.W.Streams.send_faults c.args.world)
          (g.W.Streams.send_faults c.run_demo-end.result.1) c.in-Demo.seed c.in-Demo.count end e.ends e.away e.untaken,
    )

pub returns-in-Check-clause-does : goal.returns-in-Check-clause-does
returns-in-Check-clause-does g c =
    let at = course g.W.Disk.view g.W.Streams.left g.W.Streams.sent c.args.world c.check_store-end.result.1 in
    let P : Command → Type 0 = λ command. Does command at c.status_of-in-Check.result in
    let end = c.check_store-end.result.0 in
    let e = c.check_store-end.ensures in
    subst P (sym c.in-Check.is) (
      end,
      c.status_of-in-Check.ensures.status,
      of_check at (g.W.Streams.send_faults c.args.world) (g.W.Streams.send_faults c.check_store-end.result.1) end e.ends e.away e.untaken,
    )

pub returns-in-ListSeries-clause-does : goal.returns-in-ListSeries-clause-does
returns-in-ListSeries-clause-does g c =
    let at = course g.W.Disk.view g.W.Streams.left g.W.Streams.sent c.args.world c.list_series-end.result.1 in
    let P : Command → Type 0 = λ command. Does command at c.status_of-in-ListSeries.result in
    let end = c.list_series-end.result.0 in
    let e = c.list_series-end.ensures in
    subst P (sym c.in-ListSeries.is) (
      end,
      c.status_of-in-ListSeries.ensures.status,
      of_list at (g.W.Streams.send_faults c.args.world) (g.W.Streams.send_faults c.list_series-end.result.1) end e.ends e.away e.untaken,
    )

pub returns-in-Export-clause-does : goal.returns-in-Export-clause-does
returns-in-Export-clause-does g c =
    let at = course g.W.Disk.view g.W.Streams.left g.W.Streams.sent c.args.world c.export_values-end.result.1 in
    let P : Command → Type 0 = λ command. Does command at c.status_of-in-Export.result in
    let end = c.export_values-end.result.0 in
    let e = c.export_values-end.ensures in
    subst P (sym c.in-Export.is) (
      end,
      c.status_of-in-Export.ensures.status,
      of_export at (g.W.Streams.send_faults c.args.world)
          (g.W.Streams.send_faults c.export_values-end.result.1) c.in-Export.name c.in-Export.window end e.ends e.away e.untaken,
    )

pub returns-in-Init-clause-does : goal.returns-in-Init-clause-does
returns-in-Init-clause-does g c =
    let at = course g.W.Disk.view g.W.Streams.left g.W.Streams.sent c.args.world c.init-end.result.1 in
    let P : Command → Type 0 = λ command. Does command at c.status_of-in-Init.result in
    let end = c.init-end.result.0 in
    let e = c.init-end.ensures in
    subst P (sym c.in-Init.is) (end, c.status_of-in-Init.ensures.status, of_init at end e.ends e.away e.untaken e.sent e.disk e.ready)

pub returns-in-Load-clause-does : goal.returns-in-Load-clause-does
returns-in-Load-clause-does g c =
    let view = g.W.Disk.view in
    let s = g.W.Streams in
    let old = c.args.world in
    let new = c.load_series-end.result.1 in
    let P : Command → Type 0 = λ command. Does command (course view s.left s.sent old new) c.status_of.result in
    let end = c.load_series-end.result.0 in
    let e = c.load_series-end.ensures in
    let did = of_load c.in-Load.name (view old) (view new) (traffic s.left s.sent s.read_faults s.send_faults old new) end e.ends e.away in
    subst P (sym c.in-Load.is) (end, c.status_of.ensures.status, did)

pub returns-in-Run-clause-does : goal.returns-in-Run-clause-does
returns-in-Run-clause-does g c =
    let at = course g.W.Disk.view g.W.Streams.left g.W.Streams.sent c.args.world c.run_status.result.1 in
    let P : Command → Type 0 = λ command. Does command at c.run_status.result.0 in
    subst P (sym c.in-Run.is) c.run_status.ensures.does

pub returns-in-Serve-clause-does : goal.returns-in-Serve-clause-does
returns-in-Serve-clause-does g c =
    let at = course g.W.Disk.view g.W.Streams.left g.W.Streams.sent c.args.world c.serve_status.result.1 in
    let P : Command → Type 0 = λ command. Does command at c.serve_status.result.0 in
    subst P (sym c.in-Serve.is) c.serve_status.ensures.does

pub returns-in-Retain-clause-does : goal.returns-in-Retain-clause-does
returns-in-Retain-clause-does g c =
    let view = g.W.Disk.view in
    let s = g.W.Streams in
    let old = c.args.world in
    let new = c.retain-end.result.1 in
    let P : Command → Type 0 = λ command. Does command (course view s.left s.sent old new) c.status_of-in-Retain.result in
    let end = c.retain-end.result.0 in
    let e = c.retain-end.ensures in
    let did = of_retain (view old) (view new) (traffic s.left s.sent s.read_faults s.send_faults old new) end e.ends e.away in
    subst P (sym c.in-Retain.is) (end, c.status_of-in-Retain.ensures.status, did)

pub returns-in-Live-clause-does : goal.returns-in-Live-clause-does
returns-in-Live-clause-does g c =
    let view = g.W.Disk.view in
    let s = g.W.Streams in
    let old = c.args.world in
    let new = c.live-end.result.1 in
    let P : Command → Type 0 = λ command. Does command (course view s.left s.sent old new) c.status_of-in-Live.result in
    let end = c.live-end.result.0 in
    let e = c.live-end.ensures in
    let did = of_live (view old) (view new) (traffic s.left s.sent s.read_faults s.send_faults old new) end e.ends e.away e.reads e.syncs
    e.answers e.blames in
    subst P (sym c.in-Live.is) (end, c.status_of-in-Live.ensures.status, did)

pub returns-in-Host-clause-does : goal.returns-in-Host-clause-does
returns-in-Host-clause-does g c =
    let view = g.W.Disk.view in
    let s = g.W.Streams in
    let old = c.args.world in
    let new = c.host-end.result.1 in
    let P : Command → Type 0 = λ command. Does command (course view s.left s.sent old new) c.status_of-in-Host.result in
    let end = c.host-end.result.0 in
    let e = c.host-end.ensures in
    let did = of_host (view old) (view new) (traffic s.left s.sent s.read_faults s.send_faults old new) end e.ends e.away e.costs e.answers
    e.blames in
    subst P (sym c.in-Host.is) (
      hosting_end end,
      c.status_of-in-Host.ensures.status ∙ ap (λ (e : End). status_of e) c.hosting_end.ensures,
      did,
    )

pub returns-in-Derive-clause-does : goal.returns-in-Derive-clause-does
returns-in-Derive-clause-does g c =
    let view = g.W.Disk.view in
    let s = g.W.Streams in
    let old = c.args.world in
    let new = c.derive-end.result.1 in
    let P : Command → Type 0 = λ command. Does command (course view s.left s.sent old new) c.status_of-in-Derive.result in
    let end = c.derive-end.result.0 in
    let e = c.derive-end.ensures in
    let did = of_derive (view old) (view new) (traffic s.left s.sent s.read_faults s.send_faults old new) end e.ends e.away in
    subst P (sym c.in-Derive.is) (end, c.status_of-in-Derive.ensures.status, did)
