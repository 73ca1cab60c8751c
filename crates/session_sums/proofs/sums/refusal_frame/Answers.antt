use Rattle.std.proofs.Common.{ℕ, sym, subst}
use Rattle.chart_frames.specs.Frames.{FitsRefused}
use Rattle.session_sums.proofs.SumLemmas.{refusal_fits}
use Rattle.session_sums.proofs.sums.refusal_frame.Goals as goal

pub returns-clause-fits : goal.returns-clause-fits
returns-clause-fits c =
    let F : ℕ → Type 0 = λ number. FitsRefused number 0 0 in
    subst F (sym c.number.ensures) (refusal_fits c.args.refusal)
