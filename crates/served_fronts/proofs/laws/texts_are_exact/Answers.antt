use Rattle.served_fronts.proofs.TextRuns.{texts_exact}
use Rattle.served_fronts.proofs.laws.texts_are_exact.Goals as goal

pub returns : goal.returns
returns c =
    texts_exact (record { spelt = c.lines_spell_requests.ensures.spelt; one = c.lines_spell_requests.ensures.one })
    c.replies_are_one.ensures.line c.charts_have_one_picture.ensures c.a_text_is_read_in_one_way.ensures.either
    c.keys_of_a_view_are_few.ensures.needed
