use Rattle.std.proofs.Common.{◌≡◌, drop, ap, ◌∙◌}
use Rattle.chart_frames.proofs.Streams.{answers_behind, only_frame, only_bad, only_more}
use Rattle.chart_frames.proofs.decoder.Decoder.next.Goals as goal

pub returns-clause-answers : goal.returns-clause-answers
returns-clause-answers c =
    let rest : c.split_at.result.1.now ≡ drop c.self.inside.start c.self.inside.bytes.items = c.split_at.ensures.back
    ∙ ap (drop c.self.inside.start) c.deref.ensures.value in
    answers_behind c.self.inside.given c.self.inside.start c.answer_of-answer.result.1 c.self.inside.bytes.items c.split_at.result.1.now
    c.args.self.now c.answer_of-answer.result.0 c.self.view_is rest c.answer_of-answer.ensures.answers

pub returns-clause-frame : goal.returns-clause-frame
returns-clause-frame c = λ f x fits e. only_frame c.args.self.now c.answer_of-answer.result.0 _ (returns-clause-answers c) f x fits e

pub returns-clause-bad : goal.returns-clause-bad
returns-clause-bad c = λ within b. only_bad c.args.self.now c.answer_of-answer.result.0 _ (returns-clause-answers c) within b

pub returns-clause-more : goal.returns-clause-more
returns-clause-more c = λ partial. only_more c.args.self.now c.answer_of-answer.result.0 _ (returns-clause-answers c) partial
