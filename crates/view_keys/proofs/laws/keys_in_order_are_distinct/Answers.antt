use Rattle.view_keys.proofs.Distinct.{distinct}
use Rattle.view_keys.proofs.laws.keys_in_order_are_distinct.Goals as goal

pub returns : goal.returns
returns c = distinct
