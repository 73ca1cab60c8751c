use Rattle.std.specs.Prelude.{⊤}
use Rattle.std.proofs.Common.{◌≡◌, ◌<◌, [], ◌∷◌, Some, Result, Err, length, refl, arith, ℕ, List, Option, sym, subst}
use Rattle.std.proofs.lemmas.Grind.{common_steps}
use Rattle.chart_service.specs.Serving.{unless_empty}
use Rattle.chart_service.specs.Syncing.{edits_of}
use Rattle.hosted_lines.proofs.SyncLemmas.{none_syncs, text_syncs}
use Rattle.hosted_lines.specs.Answers.{Sends, watched}
use Rattle.chart_service.specs.Blaming.{Blames}
use Rattle.chart_service.specs.Shown as shown
use Rattle.live_service.specs.Shown as its
use Rattle.hosted_lines.proofs.BlameLemmas.{behind_blames, lines_blame}
use Rattle.hosted_lines.specs.Doing.{held_by, held_with}
use Rattle.hosted_lines.specs.Shown.{pages}
use Rattle.hosted_lines.proofs.LineLemmas.{line_empty, line_some, then_does}
use Rattle.chart_world.specs.FaultLaws.{counts_then}
use Rattle.run_ends.specs.Faults.{end_fault}
use Rattle.chart_world.specs.Faults.{fault_in}
use Rattle.chart_world.specs.LineLaws.{said, says_text}
use Rattle.live_service.specs.Kinds.{MayAnswerLive}
use Rattle.hosted_lines.proofs.AnswersLemmas.{sends_none, sends_so, sends_then}
use Rattle.hosted_lines.proofs.WorkLemmas.{none_said}
use Rattle.live_service.specs.Pushing.{followed_after}
use Rattle.hosted_lines.proofs.answering.answer_line.Goals as goal

pub returns-then-is_empty-clause-does : goal.returns-then-is_empty-clause-does
returns-then-is_empty-clause-does g c = λ total book told stands sound.
    let at = pages c.args.live.now in
    let none : length c.args.line.now ≡ 0 = grind (arith, common_steps) in
    line_empty _ c.args.line.now total book (held_by c.args.live.now) (g.P.Pages.view at) (g.P.Streams.sent at) none stands sound

pub returns-in-Ok-clause-does : goal.returns-in-Ok-clause-does
returns-in-Ok-clause-does g c = λ total book told stands sound.
    let view = g.P.Pages.view in
    let sent = g.P.Streams.sent in
    let w = g.met.P.PageWorld in
    let old = c.args.live.now in
    let mid = c.answer_frame.new.live in
    let new = c.send_pushes.new.live in
    let text = c.args.line.now in
    let some : 0 < length c.args.line.now = grind (arith, common_steps) in
    let state = held_with total book (held_by old) in
    let first = c.in-Ok.ensures.does total book told stands sound in
    line_some text total state c.send_pushes.result (view (pages old)) (view (pages new)) (held_by new) (sent (pages old))
    (sent (pages new)) some
    (then_does (Some text ∷ []) total state (held_by mid) (held_by new) (view (pages old)) (view (pages mid)) (view (pages new))
    (sent (pages old)) (sent (pages mid)) (sent (pages new)) first.done
    (w.counts_sent (pages old)) (w.counts_sent (pages mid)) first.moments c.send_pushes.result
    (c.send_pushes.ensures.does total first.done.book (c.in-Ok.ensures.goes.is_told told) first.done.stands first.done.sound))

pub returns-in-Err-clause-does : goal.returns-in-Err-clause-does
returns-in-Err-clause-does g c = λ total book told stands sound.
    let view = g.P.Pages.view in
    let sent = g.P.Streams.sent in
    let old = c.args.live.now in
    let new = c.answer_frame.new.live in
    let text = c.args.line.now in
    let some : 0 < length c.args.line.now = grind (arith, common_steps) in
    line_some text total (held_with total book (held_by old)) _ (view (pages old)) (view (pages new)) (held_by new) (sent (pages old))
    (sent (pages new)) some (c.in-Err.ensures.does total book told stands sound)

pub returns-then-is_empty-clause-syncs : goal.returns-then-is_empty-clause-syncs
returns-then-is_empty-clause-syncs g c =
    let count = (g.P.Pages.view (pages c.args.live.now)).syncs in
    none_syncs (edits_of (unless_empty (Some c.args.line.now))) count count refl

pub returns-in-Ok-clause-syncs : goal.returns-in-Ok-clause-syncs
returns-in-Ok-clause-syncs g c =
    let view = g.P.Pages.view in
    let some : 0 < length c.args.line.now = grind (arith, common_steps) in
    text_syncs c.args.line.now (view (pages c.args.live.now)).syncs (view (pages c.send_pushes.new.live)).syncs some
    (omega (arith, c.in-Ok.ensures.syncs, c.send_pushes.ensures.syncs))

pub returns-in-Err-clause-syncs : goal.returns-in-Err-clause-syncs
returns-in-Err-clause-syncs g c =
    let view = g.P.Pages.view in
    let some : 0 < length c.args.line.now = grind (arith, common_steps) in
    text_syncs c.args.line.now (view (pages c.args.live.now)).syncs (view (pages c.answer_frame.new.live)).syncs some c.in-Err.ensures.syncs

pub returns-in-Ok-clause-faults : goal.returns-in-Ok-clause-faults
returns-in-Ok-clause-faults g c =
    let view = g.P.Pages.view in
    counts_then (fault_in end_fault c.send_pushes.result) (view (pages c.args.live.now)) (view (pages c.answer_frame.new.live))
    (view (pages c.send_pushes.new.live)) c.in-Ok.ensures.faults c.send_pushes.ensures.faults

pub returns-then-is_empty-clause-sends : goal.returns-then-is_empty-clause-sends
returns-then-is_empty-clause-sends g c =
    let at = c.args.live.now in
    let own = watched at in
    let sent = g.P.Streams.sent (pages at) in
    let none : length c.args.line.now ≡ 0 = grind (arith, common_steps) in
    let S : List (Option (List ℕ)) → Type 0 = λ l. Sends MayAnswerLive followed_after l own own sent sent in
    subst S (sym (none_said c.args.line.now none)) (sends_none MayAnswerLive followed_after own sent)

pub returns-in-Ok-clause-sends : goal.returns-in-Ok-clause-sends
returns-in-Ok-clause-sends g c =
    let sent = g.P.Streams.sent in
    let old = c.args.live.now in
    let mid = c.answer_frame.new.live in
    let new = c.send_pushes.new.live in
    let text = c.args.line.now in
    let some : 0 < length c.args.line.now = grind (arith, common_steps) in
    let own = watched old in
    let behind = watched new in
    sends_so MayAnswerLive followed_after c.send_pushes.result (Some text ∷ []) (unless_empty (Some text)) own behind (sent (pages old))
    (sent (pages new)) (sym (said (Some text) (says_text text some)))
    (sends_then MayAnswerLive followed_after c.send_pushes.result (Some text ∷ []) [] own (watched mid) behind (sent (pages old))
    (sent (pages mid)) (sent (pages new)) c.in-Ok.ensures.sends c.send_pushes.ensures.sends)

pub returns-in-Ok-clause-blames : goal.returns-in-Ok-clause-blames
returns-in-Ok-clause-blames g c =
    let sent = g.P.Streams.sent in
    let old = c.args.live.now in
    let mid = c.answer_frame.new.live in
    let new = c.send_pushes.new.live in
    let text = c.args.line.now in
    let some : 0 < length c.args.line.now = grind (arith, common_steps) in
    lines_blame MayAnswerLive followed_after Blames (shown.IsTold (its.service new)) (its.view new).size
    (its.view new).image c.send_pushes.result (Some text ∷ []) (unless_empty (Some text)) (watched old) (sent (pages old))
    (sent (pages new))
    (sym (said (Some text) (says_text text some)))
    (behind_blames MayAnswerLive followed_after Blames (shown.IsTold (its.service new)) (its.view new).size
    (its.view new).image c.send_pushes.result (Some text ∷ []) [] (watched old) (watched mid) (sent (pages old)) (sent (pages mid))
    (sent (pages new))
    c.in-Ok.ensures.sends c.send_pushes.ensures.blames)

pub returns-in-Err-clause-blames : goal.returns-in-Err-clause-blames
returns-in-Err-clause-blames g c =
    let sent = g.P.Streams.sent in
    let old = c.args.live.now in
    let new = c.answer_frame.new.live in
    let text = c.args.line.now in
    let some : 0 < length c.args.line.now = grind (arith, common_steps) in
    let failed : Result ⊤ _ = Err c.in-Err.end in
    lines_blame MayAnswerLive followed_after Blames (shown.IsTold (its.service new)) (its.view new).size (its.view new).image failed
    (Some text ∷ []) (unless_empty (Some text)) (watched old) (sent (pages old)) (sent (pages new))
    (sym (said (Some text) (says_text text some))) c.in-Err.ensures.blames
