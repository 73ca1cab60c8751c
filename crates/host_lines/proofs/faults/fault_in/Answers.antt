use Rattle.std.proofs.Common.{◌≡◌, ◌∙◌, ◌+◌, length, ap, arith, sym}
use Rattle.host_lines.specs.Grammar.{left, places_fault}
use Rattle.host_lines.proofs.LineLemmas.{fault_end, fault_missing, fault_more, fault_right, fault_wrong, places_end, places_go}
use Rattle.host_lines.proofs.faults.fault_in.Goals as goal

pub returns-then-at-line-clause-fault : goal.returns-then-at-line-clause-fault
returns-then-at-line-clause-fault c =
    fault_missing c.args.line.now c.in-Some.place.now c.in-Some.others.now c.loop-place.at c.if-at-line.true
    ∙ sym (places_go c.args.places.now c.loop-place.rest.now c.in-Some.others.now c.in-Some.place.now c.args.line.now c.args.start
    c.loop-place.at c.in-Some.ensures.cases.0 c.loop-place.invariant.same)

pub returns-then-not-allows-clause-fault : goal.returns-then-not-allows-clause-fault
returns-then-not-allows-clause-fault c =
    fault_wrong c.args.line.now c.in-Some.place.now c.in-Some.others.now c.loop-place.at c.token_at-token.result.now c.if-at-line.false
    c.token_at-token.ensures.token (sym c.allows.ensures ∙ c.if-not-allows.true)
    ∙ sym (places_go c.args.places.now c.loop-place.rest.now c.in-Some.others.now c.in-Some.place.now c.args.line.now c.args.start
    c.loop-place.at c.in-Some.ensures.cases.0 c.loop-place.invariant.same)

pub loop-place-preserved : goal.loop-place-preserved
loop-place-preserved c =
    let sum : c.loop-place.at + length c.token_at-token.result.now + 1 ≡ c.loop-place.at + (length
    c.token_at-token.result.now + 1) = omega arith in
    record {
      within = omega (arith, c.token_at-token.ensures.within);
      same = places_go c.args.places.now c.loop-place.rest.now c.in-Some.others.now c.in-Some.place.now c.args.line.now c.args.start
          c.loop-place.at c.in-Some.ensures.cases.0 c.loop-place.invariant.same
          ∙ fault_right c.args.line.now c.in-Some.place.now c.in-Some.others.now c.loop-place.at c.token_at-token.result.now
          c.if-at-line.false c.token_at-token.ensures.token (sym c.allows.ensures ∙ c.if-not-allows.false)
          ∙ ap (λ n. places_fault (length c.args.line.now) c.in-Some.others.now (left c.args.line.now n) n) sum;
    }

pub returns-then-at-line-2-clause-fault : goal.returns-then-at-line-2-clause-fault
returns-then-at-line-2-clause-fault c = fault_more c.args.line.now c.loop-place.at c.if-at-line-2.true
    ∙ sym (places_end c.args.places.now c.loop-place.rest.now c.args.line.now c.args.start c.loop-place.at c.in_default.ensures.cases
    c.loop-place.invariant.same)

pub returns-clause-fault : goal.returns-clause-fault
returns-clause-fault c = fault_end c.args.line.now c.loop-place.at c.if-at-line-2.false
    ∙ sym (places_end c.args.places.now c.loop-place.rest.now c.args.line.now c.args.start c.loop-place.at c.in_default.ensures.cases
    c.loop-place.invariant.same)
