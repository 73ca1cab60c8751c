use Rattle.std.proofs.Common.{ap, sym, ◌∙◌}
use Rattle.coefficient_cache.specs.Views.{to_send}
use Rattle.coefficient_cache.proofs.Empty.{all-sent}
use Rattle.coefficient_cache.proofs.Unmoved.{nothing-sent}
use Rattle.coefficient_cache.proofs.cache.CoefficientCache.to_send.Goals as goal

pub returns-then-is_in_front : goal.returns-then-is_in_front
returns-then-is_in_front c =
    let front = c.is_in_front.ensures c.if-is_in_front.true in
    c.from_vec-then-is_in_front.ensures ∙ c.new-sent.ensures.items
    ∙ sym (nothing-sent c.self.inside.list.pairs c.len-length.ensures.valid.distinct c.args.series c.args.needed.now front.rest front.is)
    ∙ (λ i. to_send (c.self.view_is i).pairs c.args.series c.args.needed.now)

pub returns-then-is_empty : goal.returns-then-is_empty
returns-then-is_empty c =
    c.from_vec.ensures ∙ c.in_ok-all.ensures.items
    ∙ sym (all-sent c.args.series c.args.needed.now)
    ∙ ap (λ l. to_send l c.args.series c.args.needed.now) (sym (c.is_empty.ensures.0 c.if-is_empty.true))
