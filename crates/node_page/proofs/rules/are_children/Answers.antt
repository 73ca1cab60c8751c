use Rattle.std.proofs.Common.{◌≡◌, ◌*◌, inl, inr, arith}
use Rattle.std.proofs.lemmas.Bool.{cases_lt}
use Rattle.node_page.specs.Fields.{level_at}
use Rattle.node_page.proofs.Deciding.{zero_in, zero_out}
use Rattle.node_page.proofs.Childless.{no_children, childless}
use Rattle.node_page.proofs.rules.are_children.Goals as goal

pub returns-then-page-eq1 : goal.returns-then-page-eq1
unfolding level_at
returns-then-page-eq1 c =
    let page = c.args.page.now in
    let low : level_at page ≡ 1 = c.if-page-eq1.true in (
      λ zero. no_children page low (zero_in 2072 512 page (omega arith) (c.are_zero.ensures.0 zero)),
      λ children. c.are_zero.ensures.1 (zero_out 2072 512 page (omega arith) (childless page low children)),
    )

pub loop-group-preserved : goal.loop-group-preserved
loop-group-preserved c = record {
  so_far = λ n low. elim (cases_lt n (8 * c.loop-group.group)) [
    | inl before ↦ c.loop-group.invariant.so_far n before
    | inr here ↦ c.are_eight_children.ensures.0 c.if-not-are_eight_children.false n here (omega (arith, low))
  ];
}
