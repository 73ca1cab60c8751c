use Rattle.std.proofs.Common.{◌∙◌, arith}
use Rattle.node_page.proofs.Bytes.{number_read}
use Rattle.catalog_page.proofs.fields.short_at.Goals as goal

pub returns : goal.returns
returns c = c.read_u32.ensures ∙ number_read 4 c.args.offset c.args.bytes.now (omega arith)
