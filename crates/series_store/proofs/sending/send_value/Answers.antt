use Rattle.series_store.proofs.SendLemmas.{given_lost}
use Rattle.series_store.proofs.sending.send_value.Goals as goal

pub returns-in_err-add-clause-gives : goal.returns-in_err-add-clause-gives
returns-in_err-add-clause-gives g c = λ text before given.
    given_lost c.from_residual.result text (g.T.Texts.text c.args.texts.now c.args.slot c.args.value) c.args.out.now.items
    c.add.new.out.items before _ c.from_residual.ensures.1 given
