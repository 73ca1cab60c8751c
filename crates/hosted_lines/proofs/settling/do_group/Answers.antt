use Rattle.std.proofs.Common.{◌≡◌, [], ◌++◌, length, sym, arith, ℕ, List, Option, subst}
use Rattle.std.proofs.lemmas.Grind.{common_steps}
use Rattle.std.proofs.lemmas.List.{append-nil}
use Rattle.hosted_lines.specs.Doing.{held_by, held_with}
use Rattle.hosted_lines.specs.Shown.{pages}
use Rattle.hosted_lines.proofs.HostLemmas.{host_then, lines_so, live_does, none_hosts}
use Rattle.hosted_lines.proofs.SpelledLemmas.{spell_none}
use Rattle.hosted_lines.specs.Answers.{MayAnswerHost, Sends, followed_behind, watched}
use Rattle.hosted_lines.proofs.AnswersLemmas.{sends_host, sends_none, sends_so, sends_then}
use Rattle.chart_service.specs.Shown as shown
use Rattle.live_service.specs.Shown as its
use Rattle.hosted_lines.specs.Blaming.{BlamesHost}
use Rattle.hosted_lines.proofs.BlameLemmas.{behind_blames, lines_blame}
use Rattle.hosted_lines.proofs.HostBlames.{host_blames}
use Rattle.hosted_lines.proofs.settling.do_group.Goals as goal

pub returns-then-is_empty-clause-does : goal.returns-then-is_empty-clause-does
returns-then-is_empty-clause-does g c = λ lines spell total book told stands sound.
    let at = pages c.args.live.now in
    let held = held_by c.args.live.now in
    let none : length c.args.edits.now ≡ 0 = grind (arith, common_steps) in
    lines_so 1 [] lines total (held_with total book held) _ (g.P.Pages.view at) (g.P.Pages.view at) held (g.P.Streams.sent at)
    (g.P.Streams.sent at) (sym (spell_none lines c.args.edits.now none spell))
    (none_hosts 1 _ total book held (g.P.Pages.view at) (g.P.Streams.sent at) stands sound)

pub returns-in-Ok-clause-does : goal.returns-in-Ok-clause-does
returns-in-Ok-clause-does g c = λ lines spell total book told stands sound.
    let view = g.P.Pages.view in
    let sent = g.P.Streams.sent in
    let w = g.met.P.PageWorld in
    let old = c.args.live.now in
    let mid = c.answer_group.new.live in
    let new = c.send_pushes.new.live in
    let first = c.in-Ok.ensures.does lines spell total book told stands sound in
    let second = c.send_pushes.ensures.does total first.done.book (c.in-Ok.ensures.goes.is_told told) first.done.stands first.done.sound in
    lines_so 1 _ lines total (held_with total book (held_by old)) c.send_pushes.result (view (pages old)) (view (pages new)) (held_by new)
    (sent (pages old)) (sent (pages new)) (append-nil lines)
    (host_then 1 0 lines [] total (held_with total book (held_by old)) (held_by mid) (held_by new) (view (pages old)) (view (pages mid))
    (view (pages new)) (sent (pages old)) (sent (pages mid)) (sent (pages new)) first.done
    (w.counts_sent (pages old)) (w.counts_sent (pages mid)) first.moments c.send_pushes.result
    (live_does [] tt total (held_with total first.done.book (held_by mid)) c.send_pushes.result (view (pages mid)) (view (pages new))
    (held_by new) (sent (pages mid)) (sent (pages new)) c.send_pushes.ensures.syncs second))

pub returns-then-is_empty-clause-sends : goal.returns-then-is_empty-clause-sends
returns-then-is_empty-clause-sends g c = λ lines spell.
    let own = watched c.args.live.now in
    let sent = g.P.Streams.sent (pages c.args.live.now) in
    let none : length c.args.edits.now ≡ 0 = grind (arith, common_steps) in
    let S : List (Option (List ℕ)) → Type 0 = λ l. Sends MayAnswerHost followed_behind l own own sent sent in
    subst S (sym (spell_none lines c.args.edits.now none spell)) (sends_none MayAnswerHost followed_behind own sent)

pub returns-in-Ok-clause-sends : goal.returns-in-Ok-clause-sends
returns-in-Ok-clause-sends g c = λ lines spell.
    let sent = g.P.Streams.sent in
    let old = c.args.live.now in
    let mid = c.answer_group.new.live in
    let new = c.send_pushes.new.live in
    let own = watched old in
    let between = watched mid in
    let behind = watched new in
    sends_so MayAnswerHost followed_behind c.send_pushes.result _ lines own behind (sent (pages old)) (sent (pages new)) (append-nil lines)
    (sends_then MayAnswerHost followed_behind c.send_pushes.result lines [] own between behind (sent (pages old)) (sent (pages mid))
    (sent (pages new)) (c.in-Ok.ensures.sends lines spell)
    (sends_host c.send_pushes.result [] between behind (sent (pages mid)) (sent (pages new)) tt c.send_pushes.ensures.sends))

pub returns-in-Ok-clause-blames : goal.returns-in-Ok-clause-blames
returns-in-Ok-clause-blames g c = λ lines spell.
    let sent = g.P.Streams.sent in
    let old = c.args.live.now in
    let mid = c.answer_group.new.live in
    let new = c.send_pushes.new.live in
    lines_blame MayAnswerHost followed_behind BlamesHost (shown.IsTold (its.service new)) (its.view new).size
    (its.view new).image c.send_pushes.result (lines ++ []) lines (watched old) (sent (pages old)) (sent (pages new)) (append-nil lines)
    (behind_blames MayAnswerHost followed_behind BlamesHost (shown.IsTold (its.service new)) (its.view new).size
    (its.view new).image c.send_pushes.result lines [] (watched old) (watched mid) (sent (pages old)) (sent (pages mid))
    (sent (pages new)) (c.in-Ok.ensures.sends lines spell)
    (host_blames (shown.IsTold (its.service new)) (its.view new).size (its.view new).image c.send_pushes.result [] (watched mid)
    (sent (pages mid)) (sent (pages new)) tt c.send_pushes.ensures.blames))
