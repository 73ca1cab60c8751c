use Rattle.std.proofs.Common.{◌∙◌, FitsSigned, inl, arith, rules}
use Rattle.std.specs.Int.{w64}
use Rattle.std.proofs.lemmas.Int.{to_z-of_z}
use Rattle.catalog_page.proofs.Numbers.{signed_same}
use Rattle.catalog_page.proofs.setting.set_span.Goals as goal

pub returns-clause-min : goal.returns-clause-min
returns-clause-min c =
    let fits : FitsSigned w64 c.ends_of-min.result.0 = search rules in
    signed_same 64 c.set_value.new.bytes c.set_value-2.new.bytes (λ k from to. c.set_value-2.ensures.rest k (inl (omega (arith, to))))
    ∙ c.set_value.ensures.set ∙ to_z-of_z w64 c.ends_of-min.result.0 fits ∙ c.ends_of-min.ensures.least
