use Rattle.series_export.proofs.PieceLemmas.{pieces_export, pieces_whole}
use Rattle.series_export.proofs.laws.pieces_are_the_export.Goals as goal

pub returns : goal.returns
returns c = record { window = pieces_export; whole = pieces_whole }
