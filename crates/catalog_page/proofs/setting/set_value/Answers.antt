use Rattle.std.proofs.Common.{◌≡◌, of_z, ap, ◌∙◌, arith}
use Rattle.std.specs.Int.{w64}
use Rattle.std.proofs.lemmas.Int.{to_z-of_z}
use Rattle.node_page.proofs.Puts.{IsPut, puts, signed_is_put}
use Rattle.catalog_page.proofs.setting.set_value.Goals as goal

pub returns-clause-set : goal.returns-clause-set
returns-clause-set c =
    let bits : c.cast_unsigned.result ≡ of_z w64 c.args.value = c.cast_unsigned.ensures
    ∙ ap (of_z w64) (to_z-of_z w64 c.args.value c.ranges.value) in
    let put : IsPut 8 c.cast_unsigned.result c.args.offset c.args.bytes.now c.put.new.bytes =
    puts 8 c.cast_unsigned.result c.args.offset c.args.bytes.now c.put.new.bytes c.to_be_bytes.result c.put.ensures c.to_be_bytes.ensures
    (omega arith) (omega arith) in
    signed_is_put c.args.offset c.cast_unsigned.result c.args.value c.args.bytes.now c.put.new.bytes bits c.ranges.value put

pub returns-clause-rest : goal.returns-clause-rest
returns-clause-rest c =
    let put : IsPut 8 c.cast_unsigned.result c.args.offset c.args.bytes.now c.put.new.bytes =
    puts 8 c.cast_unsigned.result c.args.offset c.args.bytes.now c.put.new.bytes c.to_be_bytes.result c.put.ensures c.to_be_bytes.ensures
    (omega arith) (omega arith) in
    put.rest
