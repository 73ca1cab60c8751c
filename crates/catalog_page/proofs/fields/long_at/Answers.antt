use Rattle.std.proofs.Common.{◌∙◌, arith}
use Rattle.node_page.proofs.Bytes.{number_read}
use Rattle.catalog_page.proofs.fields.long_at.Goals as goal

pub returns : goal.returns
returns c = c.read_u64.ensures ∙ number_read 8 c.args.offset c.args.bytes.now (omega arith)
