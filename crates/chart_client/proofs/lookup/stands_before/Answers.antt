use Rattle.std.proofs.Common.{ℕ, ◌≡◌, ◌<◌, ◌+◌, refl, sym, subst, arith, List, get_or, length}
use Rattle.std.proofs.lemmas.List.{get_or_default}
use Rattle.om3_coeff.specs.declared.key.Key.{Key}
use Rattle.om3_coeff.specs.declared.coef.Coef.{Coef}
use Rattle.chart_client.specs.Looking.{Narrowed}
use Rattle.chart_client.proofs.Entries.{no_entry, not_both, narrowed_none, narrowed_up, narrowed_down}
use Rattle.chart_client.proofs.lookup.stands_before.Goals as goal

pub returns-then-place-list-clause-behind : goal.returns-then-place-list-clause-behind
returns-then-place-list-clause-behind c = λ _.
    let all : c.args.place ≡ length c.args.list.now = omega (arith, c.if-place-list.true) in
    subst (λ (n : ℕ). Narrowed c.args.list.now c.args.key 0 n) (sym all) (narrowed_none c.args.list.now c.args.key)

pub returns-clause-before : goal.returns-clause-before
returns-clause-before c = λ is.
    let list : List (Key × Coef) = c.args.list.now in
    let less : c.args.place < length list = omega (arith, c.requires.within, c.if-place-list.false) in
    narrowed_up list c.args.key 0 (length list) c.args.place (c.args.place + 1) (get_or list c.args.place no_entry) c.requires.order
    (narrowed_none list c.args.key) less refl
    (get_or_default list c.args.place no_entry (get_or list c.args.place no_entry) less) (c.comes_before.ensures.0 is)

pub returns-clause-behind : goal.returns-clause-behind
returns-clause-behind c = λ is.
    let list : List (Key × Coef) = c.args.list.now in
    let less : c.args.place < length list = omega (arith, c.requires.within, c.if-place-list.false) in
    narrowed_down list c.args.key 0 (length list) c.args.place (get_or list c.args.place no_entry) c.requires.order
    (narrowed_none list c.args.key) (omega arith) less
    (get_or_default list c.args.place no_entry (get_or list c.args.place no_entry) less)
    (λ before. not_both c.comes_before.result (c.comes_before.ensures.1 before) is)
