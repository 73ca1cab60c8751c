use Rattle.std.proofs.Common.{arith}
use Rattle.node_page.proofs.Puts.{IsPut, puts}
use Rattle.catalog_page.proofs.setting.set_long.Goals as goal

pub returns-clause-set : goal.returns-clause-set
returns-clause-set c =
    let set : IsPut 8 c.args.number c.args.offset c.args.bytes.now c.put.new.bytes =
    puts 8 c.args.number c.args.offset c.args.bytes.now c.put.new.bytes c.to_be_bytes.result c.put.ensures c.to_be_bytes.ensures
    (omega arith) (omega arith) in
    set.is

pub returns-clause-rest : goal.returns-clause-rest
returns-clause-rest c =
    let set : IsPut 8 c.args.number c.args.offset c.args.bytes.now c.put.new.bytes =
    puts 8 c.args.number c.args.offset c.args.bytes.now c.put.new.bytes c.to_be_bytes.result c.put.ensures c.to_be_bytes.ensures
    (omega arith) (omega arith) in
    set.rest
