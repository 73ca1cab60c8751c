use Rattle.std.proofs.Common.{◌≡◌, ◌-◌, length, inl, inr, arith, false}
use Rattle.node_page.proofs.Deciding.{zero_in, zero_out}
use Rattle.node_page.proofs.rules.is_reserved.Goals as goal

pub returns-then-are_zero : goal.returns-then-are_zero
returns-then-are_zero c =
    let page = c.args.page.now in
    let n = length page - 2584 in (
      λ yes k spare. elim spare [
        | inl front ↦ zero_in 2 6 page (omega arith) (c.are_zero.ensures.0 c.if-are_zero.true) k front.0 front.1
        | inr behind ↦ zero_in 2584 n page (omega arith) (c.are_zero-then-are_zero.ensures.0 yes) k behind.0 (omega (arith, behind.1))
      ],
      λ reserved. c.are_zero-then-are_zero.ensures.1
          (zero_out 2584 n page (omega arith) (λ k from to. reserved k (inr (from, omega (arith, to))))),
    )

pub returns-else-are_zero : goal.returns-else-are_zero
returns-else-are_zero c =
    let page = c.args.page.now in (
      λ yes. absurd (let no : c.are_zero.result ≡ false = c.if-are_zero.false in cc),
      λ reserved. c.are_zero.ensures.1 (zero_out 2 6 page (omega arith) (λ k from to. reserved k (inl (from, to)))),
    )
