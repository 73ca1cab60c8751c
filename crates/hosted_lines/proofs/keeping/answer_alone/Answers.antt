use Rattle.std.proofs.Common.{◌++◌, ◌∙◌, [], ◌∷◌, Some, ap, sym}
use Rattle.chart_service.specs.Serving.{unless_empty}
use Rattle.chart_world.specs.LineLaws.{said, says_text}
use Rattle.hosted_lines.specs.Doing.{held_by, held_with}
use Rattle.hosted_lines.specs.Shown.{pages}
use Rattle.hosted_lines.proofs.HostLemmas.{lines_so}
use Rattle.hosted_lines.specs.Answers.{MayAnswerHost, followed_behind, watched}
use Rattle.hosted_lines.proofs.AnswersLemmas.{sends_so}
use Rattle.chart_service.specs.Shown as shown
use Rattle.live_service.specs.Shown as its
use Rattle.hosted_lines.specs.Blaming.{BlamesHost}
use Rattle.hosted_lines.proofs.BlameLemmas.{lines_blame}
use Rattle.hosted_lines.proofs.keeping.answer_alone.Goals as goal

pub returns-in-List-clause-does : goal.returns-in-List-clause-does
returns-in-List-clause-does g c = λ lines spell total book told stands sound.
    let view = g.P.Pages.view in
    let sent = g.P.Streams.sent in
    let line = c.args.line.now in
    let old = c.args.live.now in
    let new = c.answer_asked.new.live in
    lines_so 1 (lines ++ Some line ∷ []) (lines ++ unless_empty (Some line)) total
    (held_with total book (held_by old)) c.answer_asked.result (view (pages old)) (view (pages new)) (held_by new) (sent (pages old))
    (sent (pages new))
    (ap (λ l. lines ++ l) (sym (said (Some line) (says_text line c.requires.some))))
    (c.answer_asked.ensures.does line (sym c.requires.asks) lines spell total book told stands sound)

pub returns-in-Sweep-clause-does : goal.returns-in-Sweep-clause-does
returns-in-Sweep-clause-does g c = λ lines spell total book told stands sound.
    let view = g.P.Pages.view in
    let sent = g.P.Streams.sent in
    let line = c.args.line.now in
    let old = c.args.live.now in
    let new = c.answer_step.new.live in
    lines_so 1 (lines ++ Some line ∷ []) (lines ++ unless_empty (Some line)) total (held_with total book (held_by old)) c.answer_step.result
    (view (pages old)) (view (pages new)) (held_by new) (sent (pages old)) (sent (pages new))
    (ap (λ l. lines ++ l) (sym (said (Some line) (says_text line c.requires.some))))
    (c.answer_step.ensures.does line (sym c.requires.asks ∙ c.in-Sweep.is) lines spell total book told stands sound)

pub returns-in-List-clause-sends : goal.returns-in-List-clause-sends
returns-in-List-clause-sends g c = λ lines spell.
    let sent = g.P.Streams.sent in
    let line = c.args.line.now in
    let old = c.args.live.now in
    let new = c.answer_asked.new.live in
    sends_so MayAnswerHost followed_behind c.answer_asked.result (lines ++ Some line ∷ []) (lines ++ unless_empty (Some line)) (watched old)
    (watched new) (sent (pages old)) (sent (pages new))
    (ap (λ l. lines ++ l) (sym (said (Some line) (says_text line c.requires.some))))
    (c.answer_asked.ensures.sends line (sym c.requires.asks) lines spell)

pub returns-in-Sweep-clause-sends : goal.returns-in-Sweep-clause-sends
returns-in-Sweep-clause-sends g c = λ lines spell.
    let sent = g.P.Streams.sent in
    let line = c.args.line.now in
    let old = c.args.live.now in
    let new = c.answer_step.new.live in
    sends_so MayAnswerHost followed_behind c.answer_step.result (lines ++ Some line ∷ []) (lines ++ unless_empty (Some line)) (watched old)
    (watched new) (sent (pages old)) (sent (pages new))
    (ap (λ l. lines ++ l) (sym (said (Some line) (says_text line c.requires.some))))
    (c.answer_step.ensures.sends line (sym c.requires.asks ∙ c.in-Sweep.is) lines spell)

pub returns-in-List-clause-blames : goal.returns-in-List-clause-blames
returns-in-List-clause-blames g c = λ lines spell.
    let sent = g.P.Streams.sent in
    let line = c.args.line.now in
    let old = c.args.live.now in
    let new = c.answer_asked.new.live in
    lines_blame MayAnswerHost followed_behind BlamesHost (shown.IsTold (its.service new)) (its.view new).size
    (its.view new).image c.answer_asked.result (lines ++ Some line ∷ []) (lines ++ unless_empty (Some line)) (watched old)
    (sent (pages old)) (sent (pages new))
    (ap (λ l. lines ++ l) (sym (said (Some line) (says_text line c.requires.some))))
    (c.answer_asked.ensures.blames line (sym c.requires.asks) lines spell)

pub returns-in-Sweep-clause-blames : goal.returns-in-Sweep-clause-blames
returns-in-Sweep-clause-blames g c = λ lines spell.
    let sent = g.P.Streams.sent in
    let line = c.args.line.now in
    let old = c.args.live.now in
    let new = c.answer_step.new.live in
    lines_blame MayAnswerHost followed_behind BlamesHost (shown.IsTold (its.service new)) (its.view new).size
    (its.view new).image c.answer_step.result (lines ++ Some line ∷ []) (lines ++ unless_empty (Some line)) (watched old)
    (sent (pages old)) (sent (pages new))
    (ap (λ l. lines ++ l) (sym (said (Some line) (says_text line c.requires.some))))
    (c.answer_step.ensures.blames line (sym c.requires.asks ∙ c.in-Sweep.is) lines spell)
