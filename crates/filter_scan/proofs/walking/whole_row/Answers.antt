use Rattle.std.proofs.Common.{rules, SFits, w64, ◌∙◌}
use Rattle.std.proofs.Math.Nat.{le_trans}
use Rattle.std.specs.Prelude.{Some}
use Rattle.om3_coeff.specs.Keys.{first_slot, end_slot}
use Rattle.om3_coeff.specs.View.{StaysSame}
use Rattle.om3_coeff.proofs.CauseLemmas.{passed_on}
use Rattle.om3_coeff.proofs.WalkLemmas.{still_agrees}
use Rattle.filter_scan.specs.Ends.{IsWholeRow}
use Rattle.filter_scan.proofs.EndLaws.{ask_again, both_below, cast_row, cause_before}
use Rattle.filter_scan.proofs.FillLaws.{extremes_of}
use Rattle.std.proofs.Common.{refl}
use Rattle.filter_scan.proofs.walking.whole_row.Goals as goal

pub end_value-requires-2-clause-follows : goal.end_value-requires-2-clause-follows
end_value-requires-2-clause-follows g c =
    ask_again (g.N.Nodes.view c.args.nodes.now) (g.N.Nodes.view c.end_value.new.nodes) c.args.key
    (g.met.N.Nodes.keeps_same c.args.nodes.now c.end_value.new.nodes c.in_ok-first.ensures.kept) c.requires.follows
    c.in_ok-first.ensures.below

pub returns-clause-list : goal.returns-clause-list
returns-clause-list g c = λ list agrees.
    let same : StaysSame (g.N.Nodes.view c.args.nodes.now) (g.N.Nodes.view c.end_value.new.nodes) =
    g.met.N.Nodes.keeps_same c.args.nodes.now c.end_value.new.nodes c.in_ok-first.ensures.kept in
    let first : SFits w64 c.in_ok-first.first = search rules in
    let last : SFits w64 c.in_ok-last.last = search rules in
    let least : SFits w64 c.args.span.min = search rules in
    let greatest : SFits w64 c.args.span.max = search rules in
    cast_row (IsWholeRow list (first_slot c.args.key) (end_slot c.args.key)) c.args.column c.in_ok-first.first c.args.span.min
    c.args.span.max c.in_ok-last.last first least greatest last
    (record {
      first = c.in_ok-first.ensures.list list agrees;
      extremes = extremes_of (g.N.Nodes.view c.args.nodes.now) list c.args.key
          (Some c.args.span) c.args.span refl agrees c.requires.reached;
      last = c.in_ok-last.ensures.list list (still_agrees (g.N.Nodes.view c.args.nodes.now)
          (g.N.Nodes.view c.end_value.new.nodes) list same agrees);
    })

pub returns-in_err-first-clause-cause : goal.returns-in_err-first-clause-cause
returns-in_err-first-clause-cause g c =
    passed_on _ c.in_err-first.field-0.0 _ c.from_residual.ensures.1 c.in_err-first.ensures.cause

pub returns-in_err-first-clause-quiet_err : goal.returns-in_err-first-clause-quiet_err
returns-in_err-first-clause-quiet_err g c =
    passed_on _ c.in_err-first.field-0.0 _ c.from_residual.ensures.1 c.in_err-first.ensures.quiet_err

pub returns-in_err-last-clause-kept : goal.returns-in_err-last-clause-kept
returns-in_err-last-clause-kept g c =
    g.met.N.Nodes.keeps_on c.args.nodes.now c.end_value.new.nodes c.end_value-2.new.nodes c.in_ok-first.ensures.kept
    c.in_err-last.ensures.kept

pub returns-in_err-last-clause-faults : goal.returns-in_err-last-clause-faults
returns-in_err-last-clause-faults g c =
    le_trans c.in_ok-first.ensures.faults c.in_err-last.ensures.faults

pub returns-in_err-last-clause-cause : goal.returns-in_err-last-clause-cause
returns-in_err-last-clause-cause g c =
    passed_on _ c.in_err-last.field-0.0 _ c.from_residual-in_err-last.ensures.1
    (cause_before (g.N.Nodes.view c.args.nodes.now) (g.N.Nodes.view c.end_value.new.nodes)
    (g.N.Nodes.view c.end_value-2.new.nodes) c.in_err-last.field-0.0
    (g.met.N.Nodes.keeps_same c.args.nodes.now c.end_value.new.nodes c.in_ok-first.ensures.kept) c.in_ok-first.ensures.quiet
    c.in_err-last.ensures.cause)

pub returns-in_err-last-clause-quiet_err : goal.returns-in_err-last-clause-quiet_err
returns-in_err-last-clause-quiet_err g c =
    passed_on _ c.in_err-last.field-0.0 _ c.from_residual-in_err-last.ensures.1
    (λ ne. c.in_err-last.ensures.quiet_err ne ∙ c.in_ok-first.ensures.quiet)

pub returns-clause-kept : goal.returns-clause-kept
returns-clause-kept g c =
    g.met.N.Nodes.keeps_on c.args.nodes.now c.end_value.new.nodes c.end_value-2.new.nodes c.in_ok-first.ensures.kept
    c.in_ok-last.ensures.kept

pub returns-clause-faults : goal.returns-clause-faults
returns-clause-faults g c =
    le_trans c.in_ok-first.ensures.faults c.in_ok-last.ensures.faults

pub returns-clause-quiet : goal.returns-clause-quiet
returns-clause-quiet g c =
    c.in_ok-last.ensures.quiet ∙ c.in_ok-first.ensures.quiet

pub returns-clause-below : goal.returns-clause-below
returns-clause-below g c =
    both_below c.args.key _ _ _ c.in_ok-first.ensures.below c.in_ok-last.ensures.below
