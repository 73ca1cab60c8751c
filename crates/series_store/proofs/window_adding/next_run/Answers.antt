use Rattle.std.proofs.Common.{◌≡◌, ◌∙◌, ◌+◌, [], ◌∷◌, ◌++◌, List, arith, ap}
use Rattle.series_store.specs.declared.slot_run.SlotRun.{SlotRun}
use Rattle.series_store.proofs.WindowLemmas.{next_first, next_grown, next_new, none_of}
use Rattle.series_store.proofs.window_adding.next_run.Goals as goal

pub returns-in_default : goal.returns-in_default
returns-in_default c =
    let was : c.args.runs.now.items ≡ [] = none_of c.args.runs.now.items
    (omega (arith, c.args.runs.now.ok, c.in_default.ensures.cases.0)) in
    let now : c.pop.new.self.items ≡ [] = none_of c.pop.new.self.items (omega (arith, c.pop.new.self.ok, c.in_default.ensures.cases.1)) in
    ap (λ (l : List SlotRun). l ++ record { first = c.args.slot; end = c.args.slot + 1 } ∷ []) now
    ∙ next_first c.args.runs.now.items c.args.slot (c.args.slot + 1) was (omega arith)

pub returns-then-last-slot : goal.returns-then-last-slot
returns-then-last-slot c = next_grown c.pop.new.self.items c.args.runs.now.items c.in-Some.last c.args.slot
    (c.args.slot + 1) c.in-Some.ensures.items (omega (arith, c.if-last-slot.true)) (omega arith)

pub returns : goal.returns
returns c =
    next_new c.pop.new.self.items c.args.runs.now.items c.push.new.self.items c.in-Some.last c.args.slot
    (c.args.slot + 1) c.in-Some.ensures.items c.in_ok-push.ensures.items (λ same. omega (arith, same, c.if-last-slot.false))
    (omega arith)
