use Rattle.std.proofs.Common.{◌∙◌, arith}
use Rattle.node_page.proofs.Bytes.{number_read}
use Rattle.store_upgrade.proofs.old_pages.slots_of.Goals as goal

pub returns : goal.returns
returns c = c.read_u64.ensures ∙ number_read 8 48 c.args.bytes.now (omega arith)
