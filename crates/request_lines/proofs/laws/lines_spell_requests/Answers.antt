use Rattle.request_lines.proofs.SpeltLines.{request_spells, spells_request, spells_one}
use Rattle.request_lines.proofs.laws.lines_spell_requests.Goals as goal

pub returns-clause-spelt : goal.returns-clause-spelt
returns-clause-spelt c = λ line request. (request_spells line request, spells_request line request)

pub returns-clause-one : goal.returns-clause-one
returns-clause-one c = spells_one
