use Rattle.std.proofs.Common.{ℤ, map, arith, sym, subst, ◌∙◌}
use Rattle.std.proofs.lemmas.Int.{to_z-of_z, fits_signed_from_abs}
use Rattle.std.specs.Int.{w128}
use Rattle.whole_number.specs.Range.{IsTime}
use Rattle.program_words.proofs.ExportWords.{no_time, not_so}
use Rattle.program_words.proofs.words.time_at.Goals as goal

pub returns-else-is_time-clause-none : goal.returns-else-is_time-clause-none
returns-else-is_time-clause-none c =
    let time = c.in_ok-time.time in
    let T : ℤ → Type 0 = λ z. IsTime z in
    no_time (map (λ word. word.now) c.args.words.now) c.args.place time c.in_ok-word.word.now c.in_ok-word.ensures
    (sym c.as_bytes.ensures.value ∙ c.in_ok-time.ensures.found.0, c.in_ok-time.ensures.found.1)
    (not_so c.is_time.result (IsTime time) c.if-is_time.false
    (λ is. c.is_time.ensures.1 (subst T (sym (to_z-of_z w128 time (fits_signed_from_abs w128 time (omega (arith, is))))) is)))
