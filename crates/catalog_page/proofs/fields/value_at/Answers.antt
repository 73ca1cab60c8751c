use Rattle.std.proofs.Common.{◌∙◌, ap, arith, rules}
use Rattle.std.specs.Int.{w64, cast_signed}
use Rattle.std.specs.Prelude.{FitsSigned}
use Rattle.std.proofs.lemmas.Int.{to_z-of_z}
use Rattle.node_page.specs.Fields.{signed_at}
use Rattle.node_page.proofs.Bytes.{number_read}
use Rattle.catalog_page.proofs.fields.value_at.Goals as goal

pub returns : goal.returns
unfolding signed_at
returns c =
    let fits : FitsSigned w64 c.read_i64.result = search rules in
    to_z-of_z w64 c.read_i64.result fits ∙ c.read_i64.ensures
    ∙ ap (cast_signed w64) (number_read 8 c.args.offset c.args.bytes.now (omega arith))
