use Rattle.std.proofs.Common.{ℕ, ◌≡◌, ◌<◌, ◌+◌, ◌-◌, ◌/◌, refl, arith, List, get_or, length}
use Rattle.std.proofs.lemmas.List.{get_or_default}
use Rattle.om3_coeff.specs.declared.key.Key.{Key}
use Rattle.om3_coeff.specs.declared.coef.Coef.{Coef}
use Rattle.chart_client.proofs.Entries.{no_entry, not_both, narrowed_up, narrowed_down, entry_found, none_left, none_found}
use Rattle.chart_client.proofs.lookup.look_up.Goals as goal

same : (list : List (Key × Coef)) (i : ℕ) → i < length list → get_or list i no_entry ≡ get_or list i (get_or list i no_entry)
same list i within = get_or_default list i no_entry (get_or list i no_entry) within

pub loop-from-preserved-then-comes_before : goal.loop-from-preserved-then-comes_before
loop-from-preserved-then-comes_before c =
    let list : List (Key × Coef) = c.args.list.now in
    let middle : ℕ = c.loop-from.from + (c.loop-from.to - c.loop-from.from) / 2 in
    let less : middle < c.loop-from.to = omega (arith, c.loop-from-test.true) in
    narrowed_up list c.args.key c.loop-from.from c.loop-from.to middle (middle + 1)
    (get_or list middle no_entry) c.requires.order c.loop-from.invariant less refl
    (same list middle (omega (arith, less, c.loop-from.invariant.within))) (c.comes_before.ensures.0 c.if-comes_before.true)

pub loop-from-preserved : goal.loop-from-preserved
loop-from-preserved c =
    let list : List (Key × Coef) = c.args.list.now in
    let middle : ℕ = c.loop-from.from + (c.loop-from.to - c.loop-from.from) / 2 in
    let less : middle < c.loop-from.to = omega (arith, c.loop-from-test.true) in
    narrowed_down list c.args.key c.loop-from.from c.loop-from.to middle
    (get_or list middle no_entry) c.requires.order c.loop-from.invariant (omega arith) less
    (same list middle (omega (arith, less, c.loop-from.invariant.within)))
    (λ before. not_both c.comes_before.result (c.comes_before.ensures.1 before) c.if-comes_before.false)

pub returns-then-from-list : goal.returns-then-from-list
returns-then-from-list c = record {
  found = λ series. none_left series c.args.list.now c.args.key c.loop-from.from c.loop-from.to c.loop-from.invariant
      (omega (arith, c.if-from-list.true));
}

pub returns-then-comes_before-2 : goal.returns-then-comes_before-2
returns-then-comes_before-2 c =
    let list : List (Key × Coef) = c.args.list.now in
    let from : ℕ = c.loop-from.from in
    let inside : from < length list = omega (arith, c.if-from-list.false, c.loop-from.invariant.order, c.loop-from.invariant.within) in
    record {
      found = λ series. none_found series list c.args.key from c.loop-from.to
          (get_or list from no_entry) c.requires.order c.loop-from.invariant inside (same list from inside)
          (c.comes_before-2.ensures.0 c.if-comes_before-2.true);
    }

pub returns : goal.returns
returns c =
    let list : List (Key × Coef) = c.args.list.now in
    let from : ℕ = c.loop-from.from in
    let inside : from < length list = omega (arith, c.if-from-list.false, c.loop-from.invariant.order, c.loop-from.invariant.within) in
    record {
      found = λ series. entry_found series list c.args.key from (get_or list from no_entry) c.requires.order inside (same list from inside)
          (λ before. c.loop-from.invariant.behind from no_entry (omega (arith, c.loop-from-test.false)) inside before)
          (λ behind. not_both c.comes_before-2.result (c.comes_before-2.ensures.1 behind) c.if-comes_before-2.false);
    }
