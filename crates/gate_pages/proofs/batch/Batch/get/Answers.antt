use Rattle.std.proofs.Common.{◌∙◌, ℕ, ◌≤◌, ◌<◌, List, length, Some, sym, ap, arith}
use Rattle.gate_pages.specs.Batch.{Entry}
use Rattle.gate_pages.specs.Batches.{entry_of}
use Rattle.gate_pages.proofs.BatchLemmas.{none_there, some_there, entry_at}
use Rattle.gate_pages.proofs.batch.Batch.get.Goals as goal

pub returns-then-at-self : goal.returns-then-at-self
returns-then-at-self c =
    let self = c.args.self.now in
    let len = self.len in
    let pages = self.pages.items in
    let at = c.place-at.result in
    let within : len ≤ length pages = omega (arith, self.within, self.room) in
    sym (none_there len at c.args.p pages within c.place-at.ensures.within c.place-at.ensures.before c.if-at-self.true)

pub returns : goal.returns
returns c =
    let self = c.args.self.now in
    let len = self.len in
    let pages = self.pages.items in
    let at = c.place-at.result in
    let within : len ≤ length pages = omega (arith, self.within, self.room) in
    let below : at < len = omega (arith, c.place-at.ensures.within, c.if-at-self.false) in
    let some = some_there len at c.args.p pages within c.place-at.ensures.within c.place-at.ensures.before below
    (c.place-at.ensures.found below) in
    let page = c.index.result.now in
    let there = entry_at len pages at page below within ∙ ap entry_of (sym c.index.ensures) in
    ap (λ (b : List ℕ). Some b) c.as_slice.ensures.value
    ∙ sym (some ∙ ap (λ (e : Entry). Some e.1) there)
