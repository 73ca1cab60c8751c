use Rattle.std.proofs.Common.{List, [], ◌∷◌, All, sym, subst, arith}
use Rattle.std.proofs.lemmas.List.Elements.{All-append, All-cons}
use Rattle.chart_frames.specs.declared.frame.Frame.{Frame}
use Rattle.chart_frames.specs.Frames.{Fits}
use Rattle.chart_service.specs.EditGroups.{IsEditReply}
use Rattle.chart_service.proofs.groups.+add_frames.Goals as goal

pub returns-in_ok-push-in-Some-clause-fits : goal.returns-in_ok-push-in-Some-clause-fits
returns-in_ok-push-in-Some-clause-fits t c = λ all.
    let A : List Frame → Type 0 = λ l. All Fits l in
    c.add_frames.ensures.fits (subst A (sym c.in_ok-push-in-Some.ensures.items)
    (All-append Fits c.args.frames.now.items (c.answer_frame.result ∷ []) all
    (All-cons Fits c.answer_frame.result [] c.answer_frame.ensures.fits (λ k d below. absurd (omega (arith, below))))))

pub returns-in_ok-push-in-Some-clause-replies : goal.returns-in_ok-push-in-Some-clause-replies
returns-in_ok-push-in-Some-clause-replies t c = λ all.
    let A : List Frame → Type 0 = λ l. All IsEditReply l in
    c.add_frames.ensures.replies (subst A (sym c.in_ok-push-in-Some.ensures.items)
    (All-append IsEditReply c.args.frames.now.items (c.answer_frame.result ∷ []) all
    (All-cons IsEditReply c.answer_frame.result [] c.answer_frame.ensures.reply (λ k d below. absurd (omega (arith, below))))))
