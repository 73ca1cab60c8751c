use Rattle.served_fronts.proofs.Example.{worked}
use Rattle.served_fronts.proofs.laws.the_example_is_drawn.Goals as goal

pub returns : goal.returns
returns c =
    worked (record { spelt = c.lines_spell_requests.ensures.spelt; one = c.lines_spell_requests.ensures.one })
    c.charts_are_exact.ensures c.charts_have_one_picture.ensures
