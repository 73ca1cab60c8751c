use Rattle.std.proofs.Common.{None, ◌∷◌, [], ◌++◌}
use Rattle.series_load.proofs.OneCut.{one_cut, first_cut, some_cut}
use Rattle.series_load.specs.Runs.{nothing}
use Rattle.series_load.proofs.laws.runs_are_one.Goals as goal

pub returns-clause-cut : goal.returns-clause-cut
returns-clause-cut c = λ step rows runs others open_run other one two. one_cut step rows runs others open_run other one two

pub returns-clause-all : goal.returns-clause-all
returns-clause-all c = λ step rows runs others one two. (one_cut step (rows ++ None ∷ []) runs others one.0 two.0 one.1 two.1).0

pub returns-clause-some : goal.returns-clause-some
returns-clause-some c = λ step rows. some_cut step (rows ++ None ∷ []) [] [] None nothing

pub returns-clause-first : goal.returns-clause-first
returns-clause-first c = λ step rows more runs all one two. first_cut step rows more runs all one two
