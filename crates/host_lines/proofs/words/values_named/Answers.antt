use Rattle.std.proofs.Common.{◌∙◌, ap, arith, to_z, of_z}
use Rattle.std.specs.Int.{w128}
use Rattle.std.proofs.lemmas.Int.{to_z-of_z, fits_signed_from_abs}
use Rattle.request_lines.specs.Tokens.{tokens}
use Rattle.host_lines.specs.declared.asked.HostLine.TheVariants.{Values}
use Rattle.host_lines.proofs.NamedLemmas.{values_are, values_parts}
use Rattle.host_lines.proofs.words.values_named.Goals as goal

pub integer_value-t0-requires : goal.integer_value-t0-requires
integer_value-t0-requires c = (values_parts (tokens c.args.words.now) c.in-Some.name.now c.in-Some.t0.now c.in-Some.t1.now
    c.in-Some.ensures.three c.requires).1

pub integer_value-t1-requires : goal.integer_value-t1-requires
integer_value-t1-requires c = (values_parts (tokens c.args.words.now) c.in-Some.name.now c.in-Some.t0.now c.in-Some.t1.now
    c.in-Some.ensures.three c.requires).2

pub returns-clause-asked : goal.returns-clause-asked
returns-clause-asked c =
    let first = c.integer_value-t0.result in
    let second = c.integer_value-t1.result in
    ap (λ n. Values n (to_z w128 (of_z w128 first)) (to_z w128 (of_z w128 second))) c.in_ok-name.ensures
    ∙ values_are (tokens c.args.words.now) c.in-Some.name.now c.in-Some.t0.now c.in-Some.t1.now (to_z w128 (of_z w128 first))
    (to_z w128 (of_z w128 second)) c.in-Some.ensures.three
    (to_z-of_z w128 first (fits_signed_from_abs w128 first (omega (arith, c.integer_value-t0.ensures.digits)))
    ∙ c.integer_value-t0.ensures.value)
    (to_z-of_z w128 second (fits_signed_from_abs w128 second (omega (arith, c.integer_value-t1.ensures.digits)))
    ∙ c.integer_value-t1.ensures.value)
