use Rattle.std.proofs.Common.{rules, arith, ◌≤◌, subst, sym, ◌∙◌}
use Rattle.std.specs.Prelude.{Option}
use Rattle.om3_coeff.specs.declared.span.Span.{Span}
use Rattle.om3_coeff.specs.Keys.{left_of, right_of}
use Rattle.om3_coeff.specs.Spans.{IsProperIfAny}
use Rattle.om3_coeff.specs.View.{Agrees, HasCause, StaysSame}
use Rattle.om3_coeff.specs.Walks.{IsReached}
use Rattle.om3_coeff.proofs.CoefLemmas.{hull-proper}
use Rattle.om3_coeff.proofs.WalkLemmas.{key_small, go_to, ask_at, ask_left, still_agrees, cut_low, cut_reads, cut_reads_once}
use Rattle.om3_coeff.proofs.WalkLemmas.{cut_reads_twice, list_none, list_outside, list_within, list_cut, both_below_at, right_follows_at}
use Rattle.om3_coeff.proofs.CauseLemmas.{passed_on, later_cause}
use Rattle.om3_coeff.proofs.walks.+span_below.Goals as goal

pub returns-in_default-clause-list : goal.returns-in_default-clause-list
returns-in_default-clause-list g t c = λ list agrees.
    list_none (g.N.Nodes.view c.args.nodes.now) list c.args.key c.args.span c.args.a c.args.b agrees c.requires.reached c.in_default.is

pub place_of-requires : goal.place_of-requires
place_of-requires g t c = key_small (g.N.Nodes.view c.args.nodes.now).slots c.args.key c.requires.reached.key

pub left-requires-clause-fits : goal.left-requires-clause-fits
left-requires-clause-fits g t c = key_small (g.N.Nodes.view c.args.nodes.now).slots c.args.key c.requires.reached.key

pub right-requires-clause-fits : goal.right-requires-clause-fits
right-requires-clause-fits g t c = key_small (g.N.Nodes.view c.args.nodes.now).slots c.args.key c.requires.reached.key

pub returns-in_err-left-in-Cut-clause-reads : goal.returns-in_err-left-in-Cut-clause-reads
returns-in_err-left-in-Cut-clause-reads g t c =
    cut_reads_once c.args.a c.args.b c.args.key _ _ c.in-Cut.ensures (c.in_err-left-in-Cut.ensures.one_read c.requires.follows)

pub returns-in_err-first-in-Cut-clause-reads : goal.returns-in_err-first-in-Cut-clause-reads
returns-in_err-first-in-Cut-clause-reads g t c =
    cut_reads_twice c.args.a c.args.b c.args.key c.left.result _ _ _ c.in-Cut.ensures c.left.ensures
    (c.in_ok-left-in-Cut.ensures.one_read c.requires.follows) c.in_err-first-in-Cut.ensures.reads

pub returns-in_err-second-in-Cut-clause-reads : goal.returns-in_err-second-in-Cut-clause-reads
returns-in_err-second-in-Cut-clause-reads g t c =
    cut_reads c.args.a c.args.b c.args.key c.left.result c.right.result _ _ _ _ c.in-Cut.ensures c.left.ensures c.right.ensures
    (c.in_ok-left-in-Cut.ensures.one_read c.requires.follows) c.in_ok-first-in-Cut.ensures.reads c.in_err-second-in-Cut.ensures.reads

pub returns-in_ok-second-in-Cut-clause-reads : goal.returns-in_ok-second-in-Cut-clause-reads
returns-in_ok-second-in-Cut-clause-reads g t c =
    cut_reads c.args.a c.args.b c.args.key c.left.result c.right.result _ _ _ _ c.in-Cut.ensures c.left.ensures c.right.ensures
    (c.in_ok-left-in-Cut.ensures.one_read c.requires.follows) c.in_ok-first-in-Cut.ensures.reads c.in_ok-second-in-Cut.ensures.reads

pub returns-in-Outside-clause-list : goal.returns-in-Outside-clause-list
returns-in-Outside-clause-list g t c = λ list agrees. list_outside list c.args.a c.args.b c.args.key c.in-Outside.ensures

pub returns-in-Within-clause-list : goal.returns-in-Within-clause-list
returns-in-Within-clause-list g t c = λ list agrees.
    list_within (g.N.Nodes.view c.args.nodes.now) list c.args.key c.args.span c.in-Some.span c.args.a c.args.b agrees c.requires.reached
    c.in-Some.is c.in-Within.ensures

pub returns-in_ok-second-in-Cut-clause-proper : goal.returns-in_ok-second-in-Cut-clause-proper
returns-in_ok-second-in-Cut-clause-proper g t c =
    let P : Option Span → Type 0 = λ s. IsProperIfAny s in
    subst P (sym c.hull.ensures)
    (hull-proper c.in_ok-first-in-Cut.first c.in_ok-second-in-Cut.second c.in_ok-first-in-Cut.ensures.proper
    c.in_ok-second-in-Cut.ensures.proper)

pub returns-in_ok-second-in-Cut-clause-below : goal.returns-in_ok-second-in-Cut-clause-below
returns-in_ok-second-in-Cut-clause-below g t c =
    both_below_at c.args.key c.left.result c.right.result _ _ _ _
    (cut_low c.args.a c.args.b c.args.key c.in-Cut.ensures) c.left.ensures c.right.ensures
    c.in_ok-left-in-Cut.ensures.asked c.in_ok-first-in-Cut.ensures.below c.in_ok-second-in-Cut.ensures.below

pub returns-in_ok-second-in-Cut-clause-list : goal.returns-in_ok-second-in-Cut-clause-list
returns-in_ok-second-in-Cut-clause-list g t c = λ list agrees.
    let asked : StaysSame (g.N.Nodes.view c.args.nodes.now) (g.N.Nodes.view c.ask.new.nodes) =
    g.met.N.Nodes.keeps_same c.args.nodes.now c.ask.new.nodes c.in_ok-left-in-Cut.ensures.kept in
    let walked : StaysSame (g.N.Nodes.view c.ask.new.nodes) (g.N.Nodes.view c.span_below.new.nodes) =
    g.met.N.Nodes.keeps_same c.ask.new.nodes c.span_below.new.nodes c.in_ok-first-in-Cut.ensures.kept in
    let then : Agrees (g.N.Nodes.view c.ask.new.nodes) list =
    still_agrees (g.N.Nodes.view c.args.nodes.now) (g.N.Nodes.view c.ask.new.nodes) list asked agrees in
    let later : Agrees (g.N.Nodes.view c.span_below.new.nodes) list =
    still_agrees (g.N.Nodes.view c.ask.new.nodes) (g.N.Nodes.view c.span_below.new.nodes) list walked then in
    c.hull.ensures
    ∙ list_cut list c.args.a c.args.b c.args.key c.left.result c.right.result c.in_ok-first-in-Cut.first c.in_ok-second-in-Cut.second
    c.in-Cut.ensures c.left.ensures c.right.ensures
    (c.in_ok-first-in-Cut.ensures.list list then) (c.in_ok-second-in-Cut.ensures.list list later)

pub span_below-requires : goal.span_below-requires
span_below-requires g t c κs within =
    let low : 1 ≤ c.args.key.level = cut_low c.args.a c.args.b c.args.key c.in-Cut.ensures in
    let same : StaysSame (g.N.Nodes.view c.args.nodes.now) (g.N.Nodes.view c.ask.new.nodes) =
    g.met.N.Nodes.keeps_same c.args.nodes.now c.ask.new.nodes c.in_ok-left-in-Cut.ensures.kept in (
      search rules,
      (
        search rules,
        (
          c.in_ok-left-in-Cut.ensures.fit,
          (
            go_to (g.N.Nodes.view c.args.nodes.now) (g.N.Nodes.view c.ask.new.nodes) c.left.result
                (left_of c.args.key) c.in_ok-left-in-Cut.left c.left.ensures same c.in_ok-left-in-Cut.ensures.left,
            ask_at (g.N.Nodes.view c.ask.new.nodes) c.left.result (left_of c.args.key) c.left.ensures
                (ask_left (g.N.Nodes.view c.ask.new.nodes) c.args.key low c.in_ok-left-in-Cut.ensures.asked),
          ),
        ),
      ),
    )

pub span_below-requires-in-Cut : goal.span_below-requires-in-Cut
span_below-requires-in-Cut g t c κs within =
    let low : 1 ≤ c.args.key.level = cut_low c.args.a c.args.b c.args.key c.in-Cut.ensures in
    let same : StaysSame (g.N.Nodes.view c.args.nodes.now) (g.N.Nodes.view c.span_below.new.nodes) =
    g.met.N.Nodes.keeps_same c.args.nodes.now c.span_below.new.nodes
    (g.met.N.Nodes.keeps_on c.args.nodes.now c.ask.new.nodes c.span_below.new.nodes c.in_ok-left-in-Cut.ensures.kept
    c.in_ok-first-in-Cut.ensures.kept) in (
      search rules,
      (
        search rules,
        (
          c.in_ok-first-in-Cut.ensures.fit,
          (
            go_to (g.N.Nodes.view c.args.nodes.now) (g.N.Nodes.view c.span_below.new.nodes) c.right.result
                (right_of c.args.key) c.in_ok-left-in-Cut.right c.right.ensures same c.in_ok-left-in-Cut.ensures.right,
            right_follows_at (g.N.Nodes.view c.span_below.new.nodes) c.args.key c.left.result c.right.result
                (g.N.Nodes.view c.ask.new.nodes).asked low c.left.ensures c.right.ensures
                c.in_ok-left-in-Cut.ensures.asked c.in_ok-first-in-Cut.ensures.below,
          ),
        ),
      ),
    )

pub returns-in_err-first-in-Cut-clause-kept : goal.returns-in_err-first-in-Cut-clause-kept
returns-in_err-first-in-Cut-clause-kept g t c = g.met.N.Nodes.keeps_on c.args.nodes.now c.ask.new.nodes c.span_below.new.nodes
    c.in_ok-left-in-Cut.ensures.kept c.in_err-first-in-Cut.ensures.kept

pub returns-in_err-first-in-Cut-clause-faults : goal.returns-in_err-first-in-Cut-clause-faults
returns-in_err-first-in-Cut-clause-faults g t c = omega (arith, c.in_ok-left-in-Cut.ensures.faults, c.in_err-first-in-Cut.ensures.faults)

pub returns-in_err-first-in-Cut-clause-cause : goal.returns-in_err-first-in-Cut-clause-cause
returns-in_err-first-in-Cut-clause-cause g t c =
    let same = g.met.N.Nodes.keeps_same c.args.nodes.now c.ask.new.nodes c.in_ok-left-in-Cut.ensures.kept in
    passed_on c.from_residual-in_err-first-in-Cut.result c.in_err-first-in-Cut.field-0.0
    (HasCause (g.N.Nodes.view c.args.nodes.now) (g.N.Nodes.view c.span_below.new.nodes)) c.from_residual-in_err-first-in-Cut.ensures.1
    (later_cause (g.N.Nodes.view c.args.nodes.now) (g.N.Nodes.view c.ask.new.nodes)
    (g.N.Nodes.view c.span_below.new.nodes) c.in_err-first-in-Cut.field-0.0 same c.in_ok-left-in-Cut.ensures.quiet
    c.in_err-first-in-Cut.ensures.cause)

pub returns-in_err-second-in-Cut-clause-kept : goal.returns-in_err-second-in-Cut-clause-kept
returns-in_err-second-in-Cut-clause-kept g t c =
    g.met.N.Nodes.keeps_on c.args.nodes.now c.span_below.new.nodes c.span_below-in-Cut.new.nodes
    (g.met.N.Nodes.keeps_on c.args.nodes.now c.ask.new.nodes c.span_below.new.nodes c.in_ok-left-in-Cut.ensures.kept
    c.in_ok-first-in-Cut.ensures.kept) c.in_err-second-in-Cut.ensures.kept

pub returns-in_err-second-in-Cut-clause-faults : goal.returns-in_err-second-in-Cut-clause-faults
returns-in_err-second-in-Cut-clause-faults g t c = omega (
  arith,
  c.in_ok-left-in-Cut.ensures.faults,
  c.in_ok-first-in-Cut.ensures.faults,
  c.in_err-second-in-Cut.ensures.faults,
)

pub returns-in_err-second-in-Cut-clause-cause : goal.returns-in_err-second-in-Cut-clause-cause
returns-in_err-second-in-Cut-clause-cause g t c =
    let same = g.met.N.Nodes.keeps_same c.args.nodes.now c.span_below.new.nodes
    (g.met.N.Nodes.keeps_on c.args.nodes.now c.ask.new.nodes c.span_below.new.nodes c.in_ok-left-in-Cut.ensures.kept
    c.in_ok-first-in-Cut.ensures.kept) in
    passed_on c.from_residual-in_err-second-in-Cut.result c.in_err-second-in-Cut.field-0.0
    (HasCause (g.N.Nodes.view c.args.nodes.now) (g.N.Nodes.view c.span_below-in-Cut.new.nodes))
    c.from_residual-in_err-second-in-Cut.ensures.1
    (later_cause (g.N.Nodes.view c.args.nodes.now) (g.N.Nodes.view c.span_below.new.nodes)
    (g.N.Nodes.view c.span_below-in-Cut.new.nodes) c.in_err-second-in-Cut.field-0.0 same (c.in_ok-first-in-Cut.ensures.quiet
    ∙ c.in_ok-left-in-Cut.ensures.quiet) c.in_err-second-in-Cut.ensures.cause)

pub returns-in_ok-second-in-Cut-clause-kept : goal.returns-in_ok-second-in-Cut-clause-kept
returns-in_ok-second-in-Cut-clause-kept g t c =
    g.met.N.Nodes.keeps_on c.args.nodes.now c.span_below.new.nodes c.span_below-in-Cut.new.nodes
    (g.met.N.Nodes.keeps_on c.args.nodes.now c.ask.new.nodes c.span_below.new.nodes c.in_ok-left-in-Cut.ensures.kept
    c.in_ok-first-in-Cut.ensures.kept) c.in_ok-second-in-Cut.ensures.kept

pub returns-in_ok-second-in-Cut-clause-faults : goal.returns-in_ok-second-in-Cut-clause-faults
returns-in_ok-second-in-Cut-clause-faults g t c = omega (
  arith,
  c.in_ok-left-in-Cut.ensures.faults,
  c.in_ok-first-in-Cut.ensures.faults,
  c.in_ok-second-in-Cut.ensures.faults,
)

pub ask-requires-clause-key : goal.ask-requires-clause-key
ask-requires-clause-key g t c = record {
  low = cut_low c.args.a c.args.b c.args.key c.in-Cut.ensures;
  high = c.requires.reached.key.high;
  within = c.requires.reached.key.within;
}

pub ask-requires-clause-reached : goal.ask-requires-clause-reached
ask-requires-clause-reached g t c =
    let P : Option Span → Type 0 = λ span. IsReached (g.N.Nodes.view c.args.nodes.now) c.args.key span in
    subst P c.in-Some.is c.requires.reached

pub returns-in-Within-clause-proper : goal.returns-in-Within-clause-proper
returns-in-Within-clause-proper g t c = subst IsProperIfAny c.in-Some.is c.requires.reached.proper
