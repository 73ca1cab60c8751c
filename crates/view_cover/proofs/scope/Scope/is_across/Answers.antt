use Rattle.std.proofs.Common.{◌≡◌, false, true}
use Rattle.view_cover.specs.Across.{is_across}
use Rattle.view_cover.proofs.Crossing.{across-by, before-test, behind-test, left-test, right-test, inner-test}
use Rattle.view_cover.proofs.scope.Scope.is_across.Goals as goal

pub returns-then-end-self : goal.returns-then-end-self
returns-then-end-self c =
    let test : false ≡ is_across c.args.self.now c.args.key = before-test c.args.self.now c.args.key c.end-end.result c.end-end.ensures
    c.if-end-self.true in
    record { test = test; across = across-by c.args.self.now c.args.key _ test }

pub returns-then-self-first : goal.returns-then-self-first
returns-then-self-first c =
    let test : false ≡ is_across c.args.self.now c.args.key = behind-test c.args.self.now c.args.key c.first-first.result
    c.first-first.ensures c.if-self-first.true in
    record { test = test; across = across-by c.args.self.now c.args.key _ test }

pub returns-then-first-self : goal.returns-then-first-self
returns-then-first-self c =
    let test = left-test c.args.self.now c.args.key c.first-first.result c.end-end.result c.first-first.ensures c.end-end.ensures
    c.if-end-self.false c.if-self-first.false c.if-first-self.true in
    record { test = test; across = across-by c.args.self.now c.args.key _ test }

pub returns-then-self-end : goal.returns-then-self-end
returns-then-self-end c =
    let test : true ≡ is_across c.args.self.now c.args.key = right-test c.args.self.now c.args.key c.first-first.result c.end-end.result
    c.first-first.ensures c.end-end.ensures
    c.if-end-self.false c.if-self-first.false c.if-first-self.false c.if-self-end.true in
    record { test = test; across = across-by c.args.self.now c.args.key _ test }

pub returns : goal.returns
returns c =
    let test = inner-test c.args.self.now c.args.key c.first-first.result c.end-end.result c.column_of.result c.column_of-2.result
    c.first-first.ensures c.end-end.ensures
    c.if-end-self.false c.if-self-first.false c.if-first-self.false c.if-self-end.false c.column_of.ensures.place
    c.column_of-2.ensures.place in
    record { test = test; across = across-by c.args.self.now c.args.key _ test }
