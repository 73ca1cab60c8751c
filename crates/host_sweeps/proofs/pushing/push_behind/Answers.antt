use Rattle.std.proofs.Common.{◌≤◌, refl, arith}
use Rattle.live_view.specs.Live as follows
use Rattle.host_sweeps.specs.Steps.{PushesBehind}
use Rattle.host_sweeps.proofs.PushLemmas.{before_follows, behind_named, last_follows, on_ok_so}
use Rattle.host_sweeps.proofs.pushing.push_behind.Goals as goal

pub returns-in-Before-clause-pushes : goal.returns-in-Before-clause-pushes
returns-in-Before-clause-pushes g c =
    let old = c.args.live.now in
    let new = c.push_to.new.self in
    let rule = c.args.rule.now in
    let clears = c.args.clears in
    let some : 1 ≤ clears = omega (arith, c.if-clears-eq0.false) in
    on_ok_so c.push_to.result (follows.PushesTo c.in-Before.name old new) (PushesBehind rule clears old new)
    (behind_named (record { names = λ it name id x. x; sessions = λ it. refl }) rule c.in-Before.name clears old new
    (before_follows rule c.in-Before.name c.in-Before.time c.in-Before.is) some)
    c.push_to.ensures.pushes

pub returns-in-Last-clause-pushes : goal.returns-in-Last-clause-pushes
returns-in-Last-clause-pushes g c =
    let old = c.args.live.now in
    let new = c.push_to-in-Last.new.self in
    let rule = c.args.rule.now in
    let clears = c.args.clears in
    let some : 1 ≤ clears = omega (arith, c.if-clears-eq0.false) in
    on_ok_so c.push_to-in-Last.result (follows.PushesTo c.in-Last.name old new) (PushesBehind rule clears old new)
    (behind_named (record { names = λ it name id x. x; sessions = λ it. refl }) rule c.in-Last.name clears old new
    (last_follows rule c.in-Last.name c.in-Last.count c.in-Last.is) some)
    c.push_to-in-Last.ensures.pushes
