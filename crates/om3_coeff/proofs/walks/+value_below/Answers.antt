use Rattle.std.proofs.Common.{rules, arith, ◌≤◌, subst}
use Rattle.std.proofs.lemmas.Result.{IfErr-weaker}
use Rattle.std.specs.Prelude.{Option, Some}
use Rattle.om3_coeff.specs.declared.span.Span.{Span}
use Rattle.om3_coeff.specs.Keys.{left_of, right_of}
use Rattle.om3_coeff.specs.View.{HasCause, StaysSame}
use Rattle.om3_coeff.specs.Walks.{IsReached}
use Rattle.om3_coeff.proofs.WalkLemmas.{key_small, right_small, value_none, value_here, value_code, go_to, ask_at, ask_left, ask_right}
use Rattle.om3_coeff.proofs.WalkLemmas.{left_from, left_to, right_from, right_to, still_agrees}
use Rattle.om3_coeff.proofs.CauseLemmas.{later_cause}
use Rattle.om3_coeff.proofs.walks.+value_below.Goals as goal

pub returns-in_default-clause-list : goal.returns-in_default-clause-list
returns-in_default-clause-list g t c = λ list agrees.
    value_none (g.N.Nodes.view c.args.nodes.now) list c.args.key c.args.span c.args.slot agrees c.requires.reached c.in_default.is
    c.requires.from c.requires.to

pub returns-then-key-eq0-clause-list : goal.returns-then-key-eq0-clause-list
returns-then-key-eq0-clause-list g t c = λ list agrees.
    let P : Option Span → Type 0 = λ s. IsReached (g.N.Nodes.view c.args.nodes.now) c.args.key s in
    let reached : IsReached (g.N.Nodes.view c.args.nodes.now) c.args.key (Some c.in-Some.span) = subst P c.in-Some.is c.requires.reached in
    value_code list c.in-Some.span.min c.args.slot reached.proper.low
    (value_here (g.N.Nodes.view c.args.nodes.now) list c.args.key c.in-Some.span c.args.slot agrees reached
    (omega arith) c.requires.from c.requires.to)

pub right-second-requires-clause-fits : goal.right-second-requires-clause-fits
right-second-requires-clause-fits g t c = key_small (g.N.Nodes.view c.args.nodes.now).slots c.args.key c.requires.reached.key

pub first-requires : goal.first-requires
first-requires g t c =
    right_small (g.N.Nodes.view c.args.nodes.now).slots c.args.key c.right-second.result c.requires.reached.key
    (omega arith) c.right-second.ensures

pub left-requires-clause-fits : goal.left-requires-clause-fits
left-requires-clause-fits g t c = key_small (g.N.Nodes.view c.args.nodes.now).slots c.args.key c.requires.reached.key

pub value_below-requires : goal.value_below-requires
value_below-requires g t c κs within =
    let low : 1 ≤ c.args.key.level = omega arith in
    let same : StaysSame (g.N.Nodes.view c.args.nodes.now)
    (g.N.Nodes.view c.ask.new.nodes) = g.met.N.Nodes.keeps_same c.args.nodes.now c.ask.new.nodes c.in_ok-left.ensures.kept in (
      search rules,
      (
        search rules,
        (
          c.in_ok-left.ensures.fit,
          (
            go_to (g.N.Nodes.view c.args.nodes.now) (g.N.Nodes.view c.ask.new.nodes) c.left.result
                (left_of c.args.key) c.in_ok-left.left c.left.ensures same c.in_ok-left.ensures.left,
            (
              ask_at (g.N.Nodes.view c.ask.new.nodes) c.left.result (left_of c.args.key) c.left.ensures
                  (ask_left (g.N.Nodes.view c.ask.new.nodes) c.args.key low c.in_ok-left.ensures.asked),
              (
                left_from c.args.key c.left.result c.args.slot c.left.ensures low c.requires.from,
                left_to c.args.key c.left.result c.right-second.result c.args.slot c.first.result c.left.ensures c.right-second.ensures
                    c.first.ensures c.if-slot-first.true,
              ),
            ),
          ),
        ),
      ),
    )

pub value_below-requires-else-slot-first : goal.value_below-requires-else-slot-first
value_below-requires-else-slot-first g t c κs within =
    let low : 1 ≤ c.args.key.level = omega arith in
    let same : StaysSame (g.N.Nodes.view c.args.nodes.now)
    (g.N.Nodes.view c.ask.new.nodes) = g.met.N.Nodes.keeps_same c.args.nodes.now c.ask.new.nodes c.in_ok-left.ensures.kept in (
      search rules,
      (
        search rules,
        (
          c.in_ok-left.ensures.fit,
          (
            go_to (g.N.Nodes.view c.args.nodes.now) (g.N.Nodes.view c.ask.new.nodes) c.right-second.result
                (right_of c.args.key) c.in_ok-left.right c.right-second.ensures same c.in_ok-left.ensures.right,
            (
              ask_at (g.N.Nodes.view c.ask.new.nodes) c.right-second.result (right_of c.args.key) c.right-second.ensures
                  (ask_right (g.N.Nodes.view c.ask.new.nodes) c.args.key low c.in_ok-left.ensures.asked),
              (
                right_from c.right-second.result c.args.slot c.first.result c.first.ensures c.if-slot-first.false,
                right_to c.args.key c.right-second.result c.args.slot c.right-second.ensures low c.requires.to,
              ),
            ),
          ),
        ),
      ),
    )

pub returns-then-slot-first-clause-list : goal.returns-then-slot-first-clause-list
returns-then-slot-first-clause-list g t c = λ list agrees.
    let same : StaysSame (g.N.Nodes.view c.args.nodes.now)
    (g.N.Nodes.view c.ask.new.nodes) = g.met.N.Nodes.keeps_same c.args.nodes.now c.ask.new.nodes c.in_ok-left.ensures.kept in
    c.value_below.ensures.list list (still_agrees (g.N.Nodes.view c.args.nodes.now) (g.N.Nodes.view c.ask.new.nodes) list same agrees)

pub returns-then-slot-first-clause-kept : goal.returns-then-slot-first-clause-kept
returns-then-slot-first-clause-kept g t c = g.met.N.Nodes.keeps_on c.args.nodes.now c.ask.new.nodes c.value_below.new.nodes
    c.in_ok-left.ensures.kept c.value_below.ensures.kept

pub returns-then-slot-first-clause-faults : goal.returns-then-slot-first-clause-faults
returns-then-slot-first-clause-faults g t c = omega (arith, c.in_ok-left.ensures.faults, c.value_below.ensures.faults)

pub returns-then-slot-first-clause-cause : goal.returns-then-slot-first-clause-cause
returns-then-slot-first-clause-cause g t c =
    let same : StaysSame (g.N.Nodes.view c.args.nodes.now)
    (g.N.Nodes.view c.ask.new.nodes) = g.met.N.Nodes.keeps_same c.args.nodes.now c.ask.new.nodes c.in_ok-left.ensures.kept in
    IfErr-weaker c.value_below.result (HasCause (g.N.Nodes.view c.ask.new.nodes) (g.N.Nodes.view c.value_below.new.nodes))
    (HasCause (g.N.Nodes.view c.args.nodes.now) (g.N.Nodes.view c.value_below.new.nodes))
    (λ e. later_cause (g.N.Nodes.view c.args.nodes.now) (g.N.Nodes.view c.ask.new.nodes)
    (g.N.Nodes.view c.value_below.new.nodes) e same c.in_ok-left.ensures.quiet) c.value_below.ensures.cause

pub returns-else-slot-first-clause-list : goal.returns-else-slot-first-clause-list
returns-else-slot-first-clause-list g t c = λ list agrees.
    let same : StaysSame (g.N.Nodes.view c.args.nodes.now)
    (g.N.Nodes.view c.ask.new.nodes) = g.met.N.Nodes.keeps_same c.args.nodes.now c.ask.new.nodes c.in_ok-left.ensures.kept in
    c.value_below-else-slot-first.ensures.list list
    (still_agrees (g.N.Nodes.view c.args.nodes.now) (g.N.Nodes.view c.ask.new.nodes) list same agrees)

pub returns-else-slot-first-clause-kept : goal.returns-else-slot-first-clause-kept
returns-else-slot-first-clause-kept g t c = g.met.N.Nodes.keeps_on c.args.nodes.now c.ask.new.nodes c.value_below-else-slot-first.new.nodes
    c.in_ok-left.ensures.kept c.value_below-else-slot-first.ensures.kept

pub returns-else-slot-first-clause-faults : goal.returns-else-slot-first-clause-faults
returns-else-slot-first-clause-faults g t c = omega (arith, c.in_ok-left.ensures.faults, c.value_below-else-slot-first.ensures.faults)

pub returns-else-slot-first-clause-cause : goal.returns-else-slot-first-clause-cause
returns-else-slot-first-clause-cause g t c =
    let same : StaysSame (g.N.Nodes.view c.args.nodes.now)
    (g.N.Nodes.view c.ask.new.nodes) = g.met.N.Nodes.keeps_same c.args.nodes.now c.ask.new.nodes c.in_ok-left.ensures.kept in
    IfErr-weaker c.value_below-else-slot-first.result
    (HasCause (g.N.Nodes.view c.ask.new.nodes) (g.N.Nodes.view c.value_below-else-slot-first.new.nodes))
    (HasCause (g.N.Nodes.view c.args.nodes.now) (g.N.Nodes.view c.value_below-else-slot-first.new.nodes))
    (λ e. later_cause (g.N.Nodes.view c.args.nodes.now) (g.N.Nodes.view c.ask.new.nodes)
    (g.N.Nodes.view c.value_below-else-slot-first.new.nodes) e same c.in_ok-left.ensures.quiet)
    c.value_below-else-slot-first.ensures.cause

pub ask-requires-clause-key : goal.ask-requires-clause-key
ask-requires-clause-key g t c = record {
  low = omega (arith, c.if-key-eq0.false);
  high = c.requires.reached.key.high;
  within = c.requires.reached.key.within;
}

pub ask-requires-clause-reached : goal.ask-requires-clause-reached
ask-requires-clause-reached g t c =
    let P : Option Span → Type 0 = λ span. IsReached (g.N.Nodes.view c.args.nodes.now) c.args.key span in
    subst P c.in-Some.is c.requires.reached
