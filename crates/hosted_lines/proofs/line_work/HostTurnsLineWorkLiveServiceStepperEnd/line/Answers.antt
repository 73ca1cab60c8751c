use Rattle.std.proofs.Common.{rules, ◌≡◌, ◌<◌, ◌≤◌, ◌++◌, ℕ, List, [], ◌∷◌, Option, Some, length, ap, sym, subst, arith}
use Rattle.std.proofs.lemmas.Grind.{common_steps}
use Rattle.std.proofs.lemmas.List.{append-nil}
use Rattle.chart_service.specs.EditGroups.{SpellEdits, SpellsEdit}
use Rattle.chart_service.specs.Serving.{unless_empty}
use Rattle.chart_service.specs.Syncing.{edit_of}
use Rattle.chart_service.specs.Shown as shown
use Rattle.series_book.specs.declared.edits.Edit.{Edit}
use Rattle.line_runs.specs.Given.{Line}
use Rattle.live_service.specs.Shown as its
use Rattle.served_lines.proofs.Steps.{said_some}
use Rattle.hosted_lines.specs.Answers.{MayAnswerHost, followed_behind, watched}
use Rattle.hosted_lines.specs.Doing.{held_by, held_with}
use Rattle.hosted_lines.specs.Shown.{pages}
use Rattle.hosted_lines.proofs.AnswersLemmas.{sends_so}
use Rattle.hosted_lines.specs.Blaming.{BlamesHost}
use Rattle.hosted_lines.proofs.BlameLemmas.{lines_blame}
use Rattle.hosted_lines.proofs.CountLemmas.{by_fewer, by_many, by_other}
use Rattle.hosted_lines.proofs.HostLemmas.{lines_so}
use Rattle.hosted_lines.proofs.SpelledLemmas.{spell_more}
use Rattle.hosted_lines.proofs.StandLemmas.{stand_does, stand_keeps, stand_lacks, stand_leaves, stand_stops}
use Rattle.hosted_lines.proofs.WorkLemmas.{line_spells, none_said}
use Rattle.hosted_lines.proofs.line_work.HostTurnsLineWorkLiveServiceStepperEnd.line.Goals as goal

pub returns-then-is_empty-clause-does : goal.returns-then-is_empty-clause-does
returns-then-is_empty-clause-does g c = λ stand stands.
    let it = c.args.from.now in
    let edits = c.args.self.now.edits.items in
    let none : length c.args.line.now ≡ 0 = grind (arith, common_steps) in
    let S : List (Option (List ℕ)) → Type 0 = λ l. SpellEdits l edits in
    stand_keeps edits (shown.IsTold (its.service it)) (its.view it) (held_by it) (g.P.Streams.sent (pages it))
    (Line c.args.at (Some c.args.line.now)) [] (none_said c.args.line.now none) (λ ahead. tt) edits
    (λ lines spell. subst S (sym (append-nil lines)) spell) stand stands

pub returns-in-Ok-clause-does : goal.returns-in-Ok-clause-does
returns-in-Ok-clause-does g c = λ stand stands.
    let it = c.args.from.now in
    let new = c.answer_alone.new.live in
    let sent = g.P.Streams.sent in
    let edits = c.args.self.now.edits.items in
    let e = c.answer_alone.ensures in
    let some : 0 < length c.args.line.now = search rules in
    let none : edit_of (Some c.args.line.now) ≡ [] = search rules in
    stand_does edits (shown.IsTold (its.service it)) (its.view it) (held_by it) (sent (pages it))
    (Line c.args.at (Some c.args.line.now)) c.answer_alone.result (its.view new) (held_by new) (sent (pages new)) e.does
    (shown.IsTold (its.service new)) e.goes.is_told c.answer_alone.new.turns.edits.items e.none
    (λ lines spell. by_other lines edits spell (Some c.args.line.now) (said_some c.args.line.now some) none) e.idle e.sends stand stands

pub returns-in-Ok-clause-stops : goal.returns-in-Ok-clause-stops
returns-in-Ok-clause-stops g c = λ stand stands.
    let it = c.args.from.now in
    let new = c.answer_alone.new.live in
    let sent = g.P.Streams.sent in
    stand_stops c.args.self.now.edits.items (shown.IsTold (its.service it)) (its.view it) (held_by it) (sent (pages it))
    (Line c.args.at (Some c.args.line.now)) c.answer_alone.result (its.view new) (held_by new) (sent (pages new))
    c.answer_alone.ensures.does (shown.IsTold (its.service new)) c.answer_alone.ensures.blames stand stands

pub returns-in-Ok-clause-leaves : goal.returns-in-Ok-clause-leaves
returns-in-Ok-clause-leaves g c = λ stand stands lasting.
    let it = c.args.from.now in
    let new = c.answer_alone.new.live in
    let sent = g.P.Streams.sent in
    stand_leaves c.args.self.now.edits.items (shown.IsTold (its.service it)) (its.view it) (held_by it) (sent (pages it))
    (Line c.args.at (Some c.args.line.now)) c.answer_alone.result (its.view new) (held_by new) (sent (pages new))
    c.answer_alone.ensures.does stand stands lasting

pub returns-in-Err-clause-stops : goal.returns-in-Err-clause-stops
returns-in-Err-clause-stops g c = λ stand stands.
    let it = c.args.from.now in
    stand_lacks c.args.self.now.edits.items (shown.IsTold (its.service it)) (its.view it) (held_by it) (g.P.Streams.sent (pages it))
    (Line c.args.at (Some c.args.line.now)) stand stands

pub returns-in-Err-host_line-clause-stops : goal.returns-in-Err-host_line-clause-stops
returns-in-Err-host_line-clause-stops g c = λ stand stands.
    let it = c.args.from.now in
    stand_lacks c.args.self.now.edits.items (shown.IsTold (its.service it)) (its.view it) (held_by it) (g.P.Streams.sent (pages it))
    (Line c.args.at (Some c.args.line.now)) stand stands

pub returns-then-is_err-clause-stops : goal.returns-then-is_err-clause-stops
returns-then-is_err-clause-stops g c = λ stand stands.
    let it = c.args.from.now in
    stand_lacks c.args.self.now.edits.items (shown.IsTold (its.service it)) (its.view it) (held_by it) (g.P.Streams.sent (pages it))
    (Line c.args.at (Some c.args.line.now)) stand stands

pub returns-then-len-lt-MOST_EDITS-clause-does : goal.returns-then-len-lt-MOST_EDITS-clause-does
returns-then-len-lt-MOST_EDITS-clause-does g c = λ stand stands.
    let it = c.args.from.now in
    let edits = c.args.self.now.edits.items in
    let edit = c.in-Ok-Some.edit in
    let line = Some c.args.line.now in
    let spells : SpellsEdit line edit = search rules in
    let pushed : c.push.new.self.items ≡ edits ++ edit ∷ [] = grind (arith, common_steps) in
    stand_keeps edits (shown.IsTold (its.service it)) (its.view it) (held_by it) (g.P.Streams.sent (pages it)) (Line c.args.at line)
    (line ∷ []) (line_spells c.args.line.now edit spells) (λ ahead. tt) c.push.new.self.items
    (λ lines spell. let S : List Edit → Type 0 = λ l. SpellEdits (lines ++ line ∷ []) l in
    subst S (sym pushed) (spell_more lines edits line edit spell spells)) stand stands

pub returns-else-len-lt-MOST_EDITS-clause-does : goal.returns-else-len-lt-MOST_EDITS-clause-does
returns-else-len-lt-MOST_EDITS-clause-does g c = λ stand stands.
    let it = c.args.from.now in
    let new = c.settle.new.live in
    let sent = g.P.Streams.sent in
    let edits = c.args.self.now.edits.items in
    let edit = c.in-Ok-Some.edit in
    let line = Some c.args.line.now in
    let e = c.settle.ensures in
    let spells : SpellsEdit line edit = search rules in
    let pushed : c.push.new.self.items ≡ edits ++ edit ∷ [] = grind (arith, common_steps) in
    let many : 64 ≤ length c.push.new.self.items = grind (arith, common_steps) in
    let all : (lines : List (Option (List ℕ))) → SpellEdits lines edits → SpellEdits (lines ++ line ∷ []) c.push.new.self.items =
    λ lines spell. let S : List Edit → Type 0 = λ l. SpellEdits (lines ++ line ∷ []) l in
    subst S (sym pushed) (spell_more lines edits line edit spell spells) in
    let said : (lines : List (Option (List ℕ))) → lines ++ unless_empty line ≡ lines ++ line ∷ [] = λ lines. ap (λ l. lines ++ l)
    (line_spells c.args.line.now edit spells) in
    stand_does edits (shown.IsTold (its.service it)) (its.view it) (held_by it) (sent (pages it)) (Line c.args.at line) c.settle.result
    (its.view new) (held_by new) (sent (pages new))
    (λ lines spell total book told stands sound. lines_so 1 (lines ++ line ∷ []) (lines ++ unless_empty line) total
    (held_with total book (held_by it)) c.settle.result (its.view it) (its.view new) (held_by new) (sent (pages it)) (sent (pages new))
    (sym (said lines)) (e.does (lines ++ line ∷ []) (all lines spell) total book told stands sound))
    (shown.IsTold (its.service new)) e.goes.is_told c.settle.new.turns.edits.items e.none
    (λ lines spell. by_fewer (lines ++ line ∷ []) (lines ++ unless_empty line) 1 1 0 (said lines) (omega arith)
    (by_many (lines ++ line ∷ []) c.push.new.self.items (all lines spell) many)) e.idle
    (λ lines spell. sends_so MayAnswerHost followed_behind c.settle.result (lines ++ line ∷ []) (lines ++ unless_empty line) (watched it)
    (watched new) (sent (pages it)) (sent (pages new)) (sym (said lines))
    (e.sends (lines ++ line ∷ []) (all lines spell))) stand stands

pub returns-else-len-lt-MOST_EDITS-clause-stops : goal.returns-else-len-lt-MOST_EDITS-clause-stops
returns-else-len-lt-MOST_EDITS-clause-stops g c = λ stand stands.
    let it = c.args.from.now in
    let new = c.settle.new.live in
    let sent = g.P.Streams.sent in
    let edits = c.args.self.now.edits.items in
    let edit = c.in-Ok-Some.edit in
    let line = Some c.args.line.now in
    let spells : SpellsEdit line edit = search rules in
    let pushed : c.push.new.self.items ≡ edits ++ edit ∷ [] = grind (arith, common_steps) in
    let all : (lines : List (Option (List ℕ))) → SpellEdits lines edits → SpellEdits (lines ++ line ∷ []) c.push.new.self.items =
    λ lines spell. let S : List Edit → Type 0 = λ l. SpellEdits (lines ++ line ∷ []) l in
    subst S (sym pushed) (spell_more lines edits line edit spell spells) in
    stand_stops edits (shown.IsTold (its.service it)) (its.view it) (held_by it) (sent (pages it)) (Line c.args.at line) c.settle.result
    (its.view new) (held_by new) (sent (pages new))
    (λ lines spell total book told stands sound. lines_so 1 (lines ++ line ∷ []) (lines ++ unless_empty line) total
    (held_with total book (held_by it)) c.settle.result (its.view it) (its.view new) (held_by new) (sent (pages it)) (sent (pages new))
    (sym (ap (λ l. lines ++ l) (line_spells c.args.line.now edit spells)))
    (c.settle.ensures.does (lines ++ line ∷ []) (all lines spell) total book told stands sound))
    (shown.IsTold (its.service new)) (λ lines spell. lines_blame MayAnswerHost followed_behind BlamesHost (shown.IsTold (its.service new))
    (its.view new).size (its.view new).image c.settle.result (lines ++ line ∷ []) (lines ++ unless_empty line) (watched it)
    (sent (pages it)) (sent (pages new))
    (sym (ap (λ l. lines ++ l) (line_spells c.args.line.now edit spells))) (c.settle.ensures.blames (lines ++ line ∷ []) (all lines spell)))
    stand stands

pub returns-else-len-lt-MOST_EDITS-clause-leaves : goal.returns-else-len-lt-MOST_EDITS-clause-leaves
returns-else-len-lt-MOST_EDITS-clause-leaves g c = λ stand stands lasting.
    let it = c.args.from.now in
    let new = c.settle.new.live in
    let sent = g.P.Streams.sent in
    let edits = c.args.self.now.edits.items in
    let edit = c.in-Ok-Some.edit in
    let line = Some c.args.line.now in
    let spells : SpellsEdit line edit = search rules in
    let pushed : c.push.new.self.items ≡ edits ++ edit ∷ [] = grind (arith, common_steps) in
    let all : (lines : List (Option (List ℕ))) → SpellEdits lines edits → SpellEdits (lines ++ line ∷ []) c.push.new.self.items =
    λ lines spell. let S : List Edit → Type 0 = λ l. SpellEdits (lines ++ line ∷ []) l in
    subst S (sym pushed) (spell_more lines edits line edit spell spells) in
    stand_leaves edits (shown.IsTold (its.service it)) (its.view it) (held_by it) (sent (pages it)) (Line c.args.at line) c.settle.result
    (its.view new) (held_by new) (sent (pages new))
    (λ lines spell total book told stands sound. lines_so 1 (lines ++ line ∷ []) (lines ++ unless_empty line) total
    (held_with total book (held_by it)) c.settle.result (its.view it) (its.view new) (held_by new) (sent (pages it)) (sent (pages new))
    (sym (ap (λ l. lines ++ l) (line_spells c.args.line.now edit spells)))
    (c.settle.ensures.does (lines ++ line ∷ []) (all lines spell) total book told stands sound)) stand stands lasting
