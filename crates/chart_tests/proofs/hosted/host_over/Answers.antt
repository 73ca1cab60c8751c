use Rattle.std.proofs.Common.{sym, subst}
use Rattle.chart_service.specs.Shown as shown
use Rattle.chart_service.specs.State.{IsSound}
use Rattle.chart_service.specs.declared.service.Service.{Service}
use Rattle.live_service.proofs.LiveShown.{begun_service}
use Rattle.chart_tests.proofs.hosted.host_over.Goals as goal

pub host_lines-end-requires-clause-book : goal.host_lines-end-requires-clause-book
host_lines-end-requires-clause-book g c =
    let S : Service _ _ → Type 0 = λ s. shown.ForBook s (λ total book. IsSound (shown.state s total book)) in
    subst S (sym (begun_service c.new-live.result c.new.result c.args.service c.new-live.ensures.stepper c.new.ensures))
    (λ total book told stands. c.is_sound.ensures.state total book c.requires told stands)
