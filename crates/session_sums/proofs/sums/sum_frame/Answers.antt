use Rattle.std.proofs.Common.{Result, IfOk, IfErr, inl, refl, sym, subst}
use Rattle.chart_frames.specs.declared.frame.Frame.{Frame}
use Rattle.chart_service.specs.Faulting.{step_fault}
use Rattle.chart_service.specs.Stepping.{IsOutside}
use Rattle.chart_service.specs.declared.failure.ServiceError.{ServiceError}
use Rattle.chart_world.specs.Faults.{CountsFault, fault_in}
use Rattle.plain_chart.specs.Samples.{kept}
use Rattle.series_store.specs.Shown as shown
use Rattle.session_sums.specs.Sums.{AnswersSum, IsSumCause}
use Rattle.session_sums.proofs.SumLemmas.{error_answers, error_cause, error_faults, error_outside, has_rows, refuses, rows_read}
use Rattle.session_sums.proofs.sums.sum_frame.Goals as goal

pub returns-in-Err-clause-reply : goal.returns-in-Err-clause-reply
returns-in-Err-clause-reply g c = λ total book told stands.
    let P : Frame → Type 0 = AnswersSum book c.args.request.now c.args.session in
    subst P (sym c.refusal_frame.ensures.frame) (refuses book c.args.request.now c.args.session c.in-Err.refusal
    (c.in-Err.ensures.asked total book c.requires.sound told stands))

pub returns-in-Ok-rows_of_sum-clause-reply : goal.returns-in-Ok-rows_of_sum-clause-reply
returns-in-Ok-rows_of_sum-clause-reply g c = λ total book told stands.
    let asked = c.in-Ok.asked in
    let is = c.in-Ok.ensures.asked total book c.requires.sound told stands in
    let are = c.in-Ok-rows_of_sum.ensures.answer total book told stands is.shifted in
    has_rows book c.args.request.now c.args.session asked c.in-Ok-rows_of_sum.rows c.rows_frame.result is are
    (c.rows_frame.ensures.frame (kept asked.grid are.axis are.sums) are.rows_are)

pub returns-in-Err-rows_of_sum-clause-reply : goal.returns-in-Err-rows_of_sum-clause-reply
returns-in-Err-rows_of_sum-clause-reply g c = λ total book told stands.
    let is = c.in-Ok.ensures.asked total book c.requires.sound told stands in
    let R : Result Frame ServiceError → Type 0 = λ r. IfOk r (AnswersSum book c.args.request.now c.args.session) in
    subst R (sym c.error_reply.ensures.reply) (error_answers book c.args.request.now c.args.session c.in-Ok.asked c.in-Err-rows_of_sum.error
    is (c.in-Err-rows_of_sum.ensures.answer total book told stands is.shifted))

pub returns-in-Err-rows_of_sum-clause-outside : goal.returns-in-Err-rows_of_sum-clause-outside
returns-in-Err-rows_of_sum-clause-outside g c = λ total book told stands.
    let asked = c.in-Ok.asked in
    let is = c.in-Ok.ensures.asked total book c.requires.sound told stands in
    let R : Result Frame ServiceError → Type 0 = λ r. IfErr r IsOutside in
    subst R (sym c.error_reply.ensures.reply) (error_outside book asked.x asked.y asked.sum.a asked.sum.b asked.grid
    c.in-Err-rows_of_sum.error (c.in-Err-rows_of_sum.ensures.answer total book told stands is.shifted))

pub returns-in-Err-rows_of_sum-clause-cause : goal.returns-in-Err-rows_of_sum-clause-cause
returns-in-Err-rows_of_sum-clause-cause g c =
    let old = c.args.store.now in
    let new = c.rows_of_sum.new.store in
    let R : Result Frame ServiceError → Type 0 = λ r. IfErr r
    (λ e. IsSumCause e (shown.IsTold new) (shown.total old) (shown.view old) (shown.view new)) in
    subst R (sym c.error_reply.ensures.reply) (error_cause _ _ c.in-Err-rows_of_sum.error (shown.IsTold new) (shown.total old)
    (shown.view old) (shown.view new) c.in-Err-rows_of_sum.ensures.cause)

pub returns-in-Err-rows_of_sum-clause-faults : goal.returns-in-Err-rows_of_sum-clause-faults
returns-in-Err-rows_of_sum-clause-faults g c =
    let old = c.args.store.now in
    let new = c.rows_of_sum.new.store in
    let R : Result Frame ServiceError → Type 0 = λ r. CountsFault (fault_in step_fault r) (shown.view old) (shown.view new) in
    subst R (sym c.error_reply.ensures.reply) (error_faults c.in-Err-rows_of_sum.error (shown.view old)
    (shown.view new) c.in-Err-rows_of_sum.ensures.faults)

pub returns-in-Err-clause-reads : goal.returns-in-Err-clause-reads
returns-in-Err-clause-reads g c = λ total book told stands. inl refl

pub returns-in-Ok-rows_of_sum-clause-reads : goal.returns-in-Ok-rows_of_sum-clause-reads
returns-in-Ok-rows_of_sum-clause-reads g c = λ total book told stands.
    rows_read book c.args.request.now c.in-Ok.asked _ _ (c.in-Ok.ensures.asked total book c.requires.sound told stands)
    (c.in-Ok-rows_of_sum.ensures.reads total book told stands)

pub returns-in-Err-rows_of_sum-clause-reads : goal.returns-in-Err-rows_of_sum-clause-reads
returns-in-Err-rows_of_sum-clause-reads g c = λ total book told stands.
    rows_read book c.args.request.now c.in-Ok.asked _ _ (c.in-Ok.ensures.asked total book c.requires.sound told stands)
    (c.in-Err-rows_of_sum.ensures.reads total book told stands)
