use Rattle.std.proofs.Common.{refl, ◌∙◌, ap, arith}
use Rattle.std.proofs.Math.Nat.{le_trans}
use Rattle.std.proofs.lemmas.Result.{IfOk-weaker}
use Rattle.om3_coeff.specs.Keys.{page_levels}
use Rattle.om3_coeff.specs.View.{StaysSame}
use Rattle.om3_coeff.proofs.WalkLemmas.{key_small}
use Rattle.needed_nodes.specs.Columns.{top_end}
use Rattle.needed_nodes.proofs.ServeLaws.{ready_later, serves_earlier}
use Rattle.needed_nodes.proofs.StepLaws.{cause_earlier, err_cause}
use Rattle.needed_nodes.proofs.ColumnLaws.{ready_first, ready_last, one_block, two_blocks, hold_both, hold_first, hold_last, has_ends_one}
use Rattle.needed_nodes.proofs.ColumnLaws.{has_ends_two, reads_one, reads_start, reads_two}
use Rattle.needed_nodes.proofs.columns.ends_of.Goals as goal

pub first-requires : goal.first-requires
first-requires g c = key_small c.args.window.now.axis.slots c.args.blocks.last.key c.requires.held.last.key

pub first-requires-2 : goal.first-requires-2
first-requires-2 g c = key_small c.args.window.now.axis.slots c.args.blocks.first.key c.requires.held.first.key

pub follow-requires-clause-ready : goal.follow-requires-clause-ready
follow-requires-clause-ready g c =
    ready_first (g.N.Nodes.view c.args.nodes.now) c.args.window.now _ c.args.column c.args.blocks c.requires.fit c.requires.slots
    c.requires.held c.requires.ends

pub follow-requires-clause-inside : goal.follow-requires-clause-inside
follow-requires-clause-inside g c = c.requires.held.first.inside

pub follow-requires-clause-clear : goal.follow-requires-clause-clear
follow-requires-clause-clear g c =
    hold_both (g.N.Nodes.view c.args.nodes.now) c.args.window.now c.args.column c.args.blocks
    (one_block c.args.window.now _ c.args.column c.args.blocks c.requires.held
    (omega (arith, c.if-first.true, c.first.ensures, c.first-2.ensures)))
    c.requires.ends

pub returns-then-first-clause-found : goal.returns-then-first-clause-found
returns-then-first-clause-found g c =
    IfOk-weaker c.follow.result _ _
    (λ values h. has_ends_one _ _ c.args.window.now _ c.args.column c.args.blocks _ _ values c.requires.held
    (one_block c.args.window.now _ c.args.column c.args.blocks c.requires.held
    (omega (arith, c.if-first.true, c.first.ensures, c.first-2.ensures)))
    c.requires.ends h)
    c.follow.ensures.found

pub returns-then-first-clause-reads : goal.returns-then-first-clause-reads
returns-then-first-clause-reads g c =
    reads_one c.args.window.now _ c.args.column c.args.blocks _ _ _ c.requires.held
    (omega (arith, c.follow.ensures.reads, ap page_levels c.requires.slots))

pub follow-requires-2-clause-ready : goal.follow-requires-2-clause-ready
follow-requires-2-clause-ready g c =
    ready_first (g.N.Nodes.view c.args.nodes.now) c.args.window.now _ c.args.column c.args.blocks c.requires.fit c.requires.slots
    c.requires.held c.requires.ends

pub follow-requires-2-clause-inside : goal.follow-requires-2-clause-inside
follow-requires-2-clause-inside g c = c.requires.held.first.inside

pub follow-requires-2-clause-clear : goal.follow-requires-2-clause-clear
follow-requires-2-clause-clear g c = hold_first (g.N.Nodes.view c.args.nodes.now) c.args.window.now c.args.column c.args.blocks
    c.requires.ends

pub returns-in_err-front-clause-cause : goal.returns-in_err-front-clause-cause
returns-in_err-front-clause-cause g c = err_cause _ _ c.in_err-front.field-0.0 c.from_residual.ensures.1 c.in_err-front.ensures.cause

pub returns-in_err-front-clause-reads : goal.returns-in_err-front-clause-reads
returns-in_err-front-clause-reads g c =
    reads_start c.args.window.now _ c.args.column c.args.blocks _ _ _ c.requires.held
    (omega (arith, c.in_err-front.ensures.reads, ap page_levels c.requires.slots))

pub follow-requires-3-clause-ready : goal.follow-requires-3-clause-ready
follow-requires-3-clause-ready g c =
    ready_later (g.N.Nodes.view c.args.nodes.now) _ c.args.window.now c.args.blocks.last.key _
    (g.met.N.Nodes.keeps_same c.args.nodes.now c.follow-2.new.nodes c.in_ok-front.ensures.kept) c.in_ok-front.ensures.fit
    (ready_last (g.N.Nodes.view c.args.nodes.now) c.args.window.now _ c.args.column c.args.blocks c.requires.fit c.requires.slots
    c.requires.held c.requires.ends)

pub follow-requires-3-clause-inside : goal.follow-requires-3-clause-inside
follow-requires-3-clause-inside g c = c.requires.held.last.inside

pub follow-requires-3-clause-clear : goal.follow-requires-3-clause-clear
follow-requires-3-clause-clear g c = λ S served.
    hold_last (g.N.Nodes.view c.args.nodes.now) c.args.window.now c.args.column c.args.blocks c.requires.ends S
    (serves_earlier (g.N.Nodes.view c.args.nodes.now) _ c.args.window.now S
    (g.met.N.Nodes.keeps_same c.args.nodes.now c.follow-2.new.nodes c.in_ok-front.ensures.kept) served)

pub returns-in_err-back-clause-cause : goal.returns-in_err-back-clause-cause
returns-in_err-back-clause-cause g c =
    err_cause _ _ c.in_err-back.field-0.0 c.from_residual-in_err-back.ensures.1
    (cause_earlier (g.N.Nodes.view c.args.nodes.now) (g.N.Nodes.view c.follow-2.new.nodes)
    (g.N.Nodes.view c.follow-3.new.nodes) c.args.window.now c.in_err-back.field-0.0
    (g.met.N.Nodes.keeps_same c.args.nodes.now c.follow-2.new.nodes c.in_ok-front.ensures.kept) c.in_ok-front.ensures.quiet
    c.in_err-back.ensures.cause)

pub returns-in_err-back-clause-reads : goal.returns-in_err-back-clause-reads
returns-in_err-back-clause-reads g c =
    let same : StaysSame (g.N.Nodes.view c.args.nodes.now) (g.N.Nodes.view c.follow-2.new.nodes) =
    g.met.N.Nodes.keeps_same c.args.nodes.now c.follow-2.new.nodes c.in_ok-front.ensures.kept in
    reads_two c.args.window.now (top_end c.args.window.now) c.args.column c.args.blocks (g.N.Nodes.view c.args.nodes.now).reads
    (g.N.Nodes.view c.follow-2.new.nodes).reads (g.N.Nodes.view c.follow-3.new.nodes).reads
    (page_levels c.args.window.now.axis.slots) c.requires.held
    (omega (arith, c.in_ok-front.ensures.reads, ap page_levels c.requires.slots))
    (omega (arith, c.in_err-back.ensures.reads, ap page_levels (same.slots ∙ c.requires.slots)))

pub returns-clause-reads : goal.returns-clause-reads
returns-clause-reads g c =
    let same : StaysSame (g.N.Nodes.view c.args.nodes.now) (g.N.Nodes.view c.follow-2.new.nodes) =
    g.met.N.Nodes.keeps_same c.args.nodes.now c.follow-2.new.nodes c.in_ok-front.ensures.kept in
    reads_two c.args.window.now (top_end c.args.window.now) c.args.column c.args.blocks (g.N.Nodes.view c.args.nodes.now).reads
    (g.N.Nodes.view c.follow-2.new.nodes).reads (g.N.Nodes.view c.follow-3.new.nodes).reads
    (page_levels c.args.window.now.axis.slots) c.requires.held
    (omega (arith, c.in_ok-front.ensures.reads, ap page_levels c.requires.slots))
    (omega (arith, c.in_ok-back.ensures.reads, ap page_levels (same.slots ∙ c.requires.slots)))

pub returns-clause-found : goal.returns-clause-found
returns-clause-found g c =
    has_ends_two _ _ _ c.args.window.now _ c.args.column c.args.blocks _ _ _ c.in_ok-front.front c.in_ok-back.back _ c.requires.held
    (two_blocks c.args.window.now _ c.args.column c.args.blocks c.requires.held
    (omega (arith, c.if-first.false, c.first.ensures, c.first-2.ensures)))
    c.requires.ends (g.met.N.Nodes.keeps_same c.args.nodes.now c.follow-2.new.nodes c.in_ok-front.ensures.kept)
    c.in_ok-front.ensures.found c.in_ok-back.ensures.found refl refl

pub returns-in_err-front-clause-quiet_err : goal.returns-in_err-front-clause-quiet_err
returns-in_err-front-clause-quiet_err g c =
    err_cause _ _ c.in_err-front.field-0.0 c.from_residual.ensures.1 c.in_err-front.ensures.quiet_err

pub returns-in_err-back-clause-quiet_err : goal.returns-in_err-back-clause-quiet_err
returns-in_err-back-clause-quiet_err g c =
    err_cause _ _ c.in_err-back.field-0.0 c.from_residual-in_err-back.ensures.1 (λ ne. c.in_err-back.ensures.quiet_err ne
    ∙ c.in_ok-front.ensures.quiet)

pub returns-clause-quiet : goal.returns-clause-quiet
returns-clause-quiet g c =
    c.in_ok-back.ensures.quiet ∙ c.in_ok-front.ensures.quiet

pub returns-in_err-back-clause-kept : goal.returns-in_err-back-clause-kept
returns-in_err-back-clause-kept g c =
    g.met.N.Nodes.keeps_on c.args.nodes.now c.follow-2.new.nodes c.follow-3.new.nodes c.in_ok-front.ensures.kept c.in_err-back.ensures.kept

pub returns-in_err-back-clause-faults : goal.returns-in_err-back-clause-faults
returns-in_err-back-clause-faults g c =
    le_trans c.in_ok-front.ensures.faults c.in_err-back.ensures.faults

pub returns-clause-kept : goal.returns-clause-kept
returns-clause-kept g c =
    g.met.N.Nodes.keeps_on c.args.nodes.now c.follow-2.new.nodes c.follow-3.new.nodes c.in_ok-front.ensures.kept c.in_ok-back.ensures.kept

pub returns-clause-faults : goal.returns-clause-faults
returns-clause-faults g c =
    le_trans c.in_ok-front.ensures.faults c.in_ok-back.ensures.faults
