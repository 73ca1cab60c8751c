use Rattle.std.proofs.Common.{FitsSigned, ◌∙◌, inl, arith, rules}
use Rattle.std.specs.Int.{w64}
use Rattle.std.proofs.lemmas.Int.{to_z-of_z}
use Rattle.node_page.proofs.Bytes.{number_same}
use Rattle.catalog_page.proofs.Numbers.{signed_same}
use Rattle.catalog_page.proofs.setting.set_numbers.Goals as goal

pub returns-clause-step : goal.returns-clause-step
returns-clause-step c =
    number_same 4 36 c.set_short.new.bytes c.set_short-2.new.bytes (λ k from to.
    c.set_short-2.ensures.rest k (inl (omega (arith, to))) ∙ c.set_long.ensures.rest k (inl (omega (arith, to)))
    ∙ c.set_value.ensures.rest k (inl (omega (arith, to))))
    ∙ c.set_short.ensures.set

pub returns-clause-start : goal.returns-clause-start
returns-clause-start c =
    let fits : FitsSigned w64 c.args.series.now.start = search rules in
    signed_same 40 c.set_value.new.bytes c.set_short-2.new.bytes (λ k from to.
    c.set_short-2.ensures.rest k (inl (omega (arith, to))) ∙ c.set_long.ensures.rest k (inl (omega (arith, to))))
    ∙ c.set_value.ensures.set ∙ to_z-of_z w64 c.args.series.now.start fits

pub returns-clause-slots : goal.returns-clause-slots
returns-clause-slots c =
    number_same 8 48 c.set_long.new.bytes c.set_short-2.new.bytes (λ k from to. c.set_short-2.ensures.rest k (inl (omega (arith, to))))
    ∙ c.set_long.ensures.set
