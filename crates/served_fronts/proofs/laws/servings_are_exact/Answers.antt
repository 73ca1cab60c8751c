use Rattle.served_fronts.proofs.Exact.{servings_exact}
use Rattle.served_fronts.proofs.laws.servings_are_exact.Goals as goal

pub returns : goal.returns
returns c =
    servings_exact (record { spelt = c.lines_spell_requests.ensures.spelt; one = c.lines_spell_requests.ensures.one })
    c.first_bytes_agree.ensures c.lines_have_their_answers.ensures
