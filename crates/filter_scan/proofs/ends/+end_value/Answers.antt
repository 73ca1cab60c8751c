use Rattle.std.proofs.Common.{rules, arith, ◌≤◌, ◌∙◌}
use Rattle.std.proofs.Math.Nat.{le_trans}
use Rattle.std.proofs.lemmas.Result.{IfOk-weaker, IfErr-weaker, on_ok_weaker}
use Rattle.om3_coeff.specs.Keys.{first_slot, end_slot}
use Rattle.om3_coeff.specs.View.{StaysSame}
use Rattle.om3_coeff.proofs.CauseLemmas.{passed_on}
use Rattle.om3_coeff.proofs.WalkLemmas.{key_small, still_agrees}
use Rattle.filter_scan.specs.Ends.{IsEndValue, IsAmong}
use Rattle.filter_scan.proofs.EndLaws.{cause_before, end_here, end_step, among_step, half_reached, half_follows, half_below}
use Rattle.filter_scan.proofs.ends.+end_value.Goals as goal

pub returns-then-key-eq0-clause-list : goal.returns-then-key-eq0-clause-list
returns-then-key-eq0-clause-list g t c = λ list agrees.
    end_here c.args.side (g.N.Nodes.view c.args.nodes.now) list c.args.key c.args.span agrees c.requires.reached
    (omega (arith, c.if-key-eq0.true))

pub end_half-requires-clause-fits : goal.end_half-requires-clause-fits
end_half-requires-clause-fits g t c = key_small (g.N.Nodes.view c.args.nodes.now).slots c.args.key c.requires.reached.key

pub end_value-requires : goal.end_value-requires
end_value-requires g t c κs within =
    let low : 1 ≤ c.args.key.level = omega (arith, c.if-key-eq0.false) in
    let same : StaysSame (g.N.Nodes.view c.args.nodes.now) (g.N.Nodes.view c.ask.new.nodes) =
    g.met.N.Nodes.keeps_same c.args.nodes.now c.ask.new.nodes c.in_ok-left.ensures.kept in (
      search rules,
      (
        search rules,
        (
          c.in_ok-left.ensures.fit,
          (
            half_reached c.args.side (g.N.Nodes.view c.args.nodes.now)
                (g.N.Nodes.view c.ask.new.nodes) c.args.key c.in_ok-left.left c.in_ok-left.right c.end_half.result same
                c.in_ok-left.ensures.left c.in_ok-left.ensures.right c.end_half.ensures.half,
            half_follows c.args.side (g.N.Nodes.view c.ask.new.nodes) c.args.key c.in_ok-left.left c.in_ok-left.right c.end_half.result low
                c.in_ok-left.ensures.asked c.end_half.ensures.half,
          ),
        ),
      ),
    )

pub returns-clause-list : goal.returns-clause-list
returns-clause-list g t c = λ list agrees.
    let same : StaysSame (g.N.Nodes.view c.args.nodes.now) (g.N.Nodes.view c.ask.new.nodes) =
    g.met.N.Nodes.keeps_same c.args.nodes.now c.ask.new.nodes c.in_ok-left.ensures.kept in
    IfOk-weaker c.end_value.result
    (IsEndValue c.args.side list (first_slot c.end_half.result.0) (end_slot c.end_half.result.0))
    (IsEndValue c.args.side list (first_slot c.args.key) (end_slot c.args.key))
    (λ v. end_step c.args.side (g.N.Nodes.view c.args.nodes.now) list c.args.key c.in_ok-left.left c.in_ok-left.right c.end_half.result v
    (omega (arith, c.if-key-eq0.false)) agrees
    c.in_ok-left.ensures.left c.in_ok-left.ensures.right c.end_half.ensures.half)
    (c.end_value.ensures.list list (still_agrees (g.N.Nodes.view c.args.nodes.now) (g.N.Nodes.view c.ask.new.nodes) list same agrees))

pub returns-clause-among : goal.returns-clause-among
returns-clause-among g t c =
    IfOk-weaker c.end_value.result (IsAmong c.end_half.result.1) (IsAmong c.args.span)
    (λ v. among_step c.args.side c.args.key c.in_ok-left.left c.in_ok-left.right c.end_half.result c.args.span v c.in_ok-left.ensures.whole
    c.end_half.ensures.half)
    c.end_value.ensures.among

pub returns-clause-below : goal.returns-clause-below
returns-clause-below g t c =
    on_ok_weaker c.end_value.result
    (half_below c.args.side c.args.key c.in_ok-left.left c.in_ok-left.right c.end_half.result (g.N.Nodes.view c.args.nodes.now).asked
    (g.N.Nodes.view c.ask.new.nodes).asked
    (g.N.Nodes.view c.end_value.new.nodes).asked (omega (arith, c.if-key-eq0.false)) c.end_half.ensures.half c.in_ok-left.ensures.asked)
    c.end_value.ensures.below

pub returns-in_err-left-clause-cause : goal.returns-in_err-left-clause-cause
returns-in_err-left-clause-cause g t c =
    passed_on _ c.in_err-left.field-0.0 _ c.from_residual.ensures.1 c.in_err-left.ensures.cause

pub returns-in_err-left-clause-quiet_err : goal.returns-in_err-left-clause-quiet_err
returns-in_err-left-clause-quiet_err g t c =
    passed_on _ c.in_err-left.field-0.0 _ c.from_residual.ensures.1 c.in_err-left.ensures.quiet_err

pub returns-clause-kept : goal.returns-clause-kept
returns-clause-kept g t c =
    g.met.N.Nodes.keeps_on c.args.nodes.now c.ask.new.nodes c.end_value.new.nodes c.in_ok-left.ensures.kept c.end_value.ensures.kept

pub returns-clause-faults : goal.returns-clause-faults
returns-clause-faults g t c =
    le_trans c.in_ok-left.ensures.faults c.end_value.ensures.faults

pub returns-clause-reads : goal.returns-clause-reads
returns-clause-reads g t c =
    omega (arith, c.in_ok-left.ensures.one_read c.requires.follows, c.end_value.ensures.reads, c.end_half.ensures.lower)

pub returns-clause-cause : goal.returns-clause-cause
returns-clause-cause g t c =
    IfErr-weaker c.end_value.result _ _
    (λ e. cause_before (g.N.Nodes.view c.args.nodes.now) (g.N.Nodes.view c.ask.new.nodes) (g.N.Nodes.view c.end_value.new.nodes) e
    (g.met.N.Nodes.keeps_same c.args.nodes.now c.ask.new.nodes c.in_ok-left.ensures.kept) c.in_ok-left.ensures.quiet)
    c.end_value.ensures.cause

pub returns-clause-quiet : goal.returns-clause-quiet
returns-clause-quiet g t c =
    on_ok_weaker c.end_value.result (λ quiet. quiet ∙ c.in_ok-left.ensures.quiet) c.end_value.ensures.quiet

pub returns-clause-quiet_err : goal.returns-clause-quiet_err
returns-clause-quiet_err g t c =
    IfErr-weaker c.end_value.result _ _ (λ e quiet ne. quiet ne ∙ c.in_ok-left.ensures.quiet) c.end_value.ensures.quiet_err
