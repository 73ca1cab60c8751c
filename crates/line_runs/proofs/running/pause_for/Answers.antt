use Rattle.std.proofs.Common.{Result, Ok, Err, inl, inr, refl}
use Rattle.std.specs.Prelude.{OnOk}
use Rattle.line_runs.specs.Given.{Pause}
use Rattle.line_runs.specs.MomentLaws.{through_none}
use Rattle.block_disk.specs.View.{sent_now}
use Rattle.line_runs.proofs.running.pause_for.Goals as goal

on_ok : {T E : Type 0} (r : Result T E) (P Q : Type 0) → (P → Q) → OnOk r P → OnOk r Q
on_ok {T} {E} (Ok v) P Q more is = more is
on_ok {T} {E} (Err e) P Q more is = tt

pub pause-requires : goal.pause-requires
pause-requires g c = record {
  fit = g.met.W.LineWork.fit_later c.args.work.now c.args.from.now c.args.lines.now.given g.W.LineWork.limit c.requires.within
      c.requires.fit;
}

pub returns-then-ready-clause-does : goal.returns-then-ready-clause-does
returns-then-ready-clause-does g c = λ state stands. inl (c.ready.ensures.ready c.if-ready.true, stands, refl)

pub returns-then-ready-clause-leaves : goal.returns-then-ready-clause-leaves
returns-then-ready-clause-leaves g c = λ state stands lasting.
    let w = g.W.LineWork in
    let from = c.args.from.now in
    through_none (w.view from) (w.leaves state Pause (sent_now (w.view from)))

pub returns-clause-does : goal.returns-clause-does
returns-clause-does g c = λ state stands.
    on_ok c.pause.result _ _ (λ did. inr (c.ready.ensures.unready c.if-ready.false, did)) (c.pause.ensures.does state stands)
