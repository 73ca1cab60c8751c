use Rattle.node_page.proofs.Blank.{flag_blank, coef_blank, child_blank}
use Rattle.node_page.proofs.laws.blank_pages_have_no_fields.Goals as goal

pub returns-clause-flags : goal.returns-clause-flags
returns-clause-flags c = flag_blank

pub returns-clause-coefs : goal.returns-clause-coefs
returns-clause-coefs c = coef_blank

pub returns-clause-children : goal.returns-clause-children
returns-clause-children c = child_blank
