use Rattle.std.proofs.Common.{ℕ, inl, inr, subst, sym, arith}
use Rattle.std.proofs.lemmas.Bool.{cases_order}
use Rattle.node_page.specs.Layout.{IsChild}
use Rattle.node_page.proofs.rules.are_eight_children.Goals as goal

pub loop-child-preserved : goal.loop-child-preserved
loop-child-preserved c =
    let P : ℕ → Type 0 = λ child. IsChild c.args.page.now child in
    record {
      so_far = λ n low few. elim (cases_order n c.loop-child.child) [
        | inl same ↦ subst P (sym same) (c.is_child.ensures.0 c.if-not-is_child.false)
        | inr differ ↦ elim differ [ inl less ↦ c.loop-child.invariant.so_far n low less | inr more ↦ absurd (omega (arith, more, few)) ]
      ];
      from = omega (arith, c.loop-child.invariant.from);
    }
