use Rattle.std.proofs.Common.{arith}
use Rattle.page_space.proofs.Layouts.{denied, unlinked_none}
use Rattle.page_space.proofs.freed_page.next_of.Goals as goal

pub returns-then-not-may_link-clause-none : goal.returns-then-not-may_link-clause-none
returns-then-not-may_link-clause-none c =
    unlinked_none _ c.in_ok-next.next _ (omega arith) c.in_ok-next.ensures.small c.in_ok-next.ensures.named
    (denied _ c.may_link.ensures c.if-not-may_link.true)
