use Rattle.std.proofs.Common.{◌≡◌, ◌≤◌, [], ◌∷◌, ◌++◌, length, arith}
use Rattle.std.proofs.lemmas.Grind.{common_steps}
use Rattle.chart_service.specs.Shown as shown
use Rattle.served_lines.proofs.KeepLemmas.{none_spelled, full_does, full_leaves, full_stops, kept_does, memory_stops}
use Rattle.served_lines.proofs.Steps.{spelled_line}
use Rattle.served_lines.proofs.keeping.keep.Goals as goal

pub returns-then-is_err-clause-stops : goal.returns-then-is_err-clause-stops
returns-then-is_err-clause-stops g c = λ stand at line spells stands.
    let it = c.args.service.now in
    let turns = c.args.turns.now in
    memory_stops g.R.Reply.makes turns.kept.ghost_name turns.kept.now turns.edits.items (shown.IsTold it) (shown.view it) (shown.sessions
    it)
    (g.P.Streams.sent (shown.pages it)) stand at line (spelled_line line c.args.edit spells) stands

pub returns-then-len-lt-MOST_EDITS-clause-does : goal.returns-then-len-lt-MOST_EDITS-clause-does
returns-then-len-lt-MOST_EDITS-clause-does g c = λ stand at line spells stands.
    let it = c.args.service.now in
    let turns = c.args.turns.now in
    let pushed : c.push.new.self.items ≡ turns.edits.items ++ c.args.edit ∷ [] = grind (arith, common_steps) in
    kept_does g.R.Reply.makes turns.kept.ghost_name turns.kept.now turns.edits.items (shown.IsTold it) (shown.view it) (shown.sessions it)
    (g.P.Streams.sent (shown.pages it)) line c.args.edit spells c.push.new.self.items pushed stand at stands

pub returns-clause-does : goal.returns-clause-does
returns-clause-does g c = λ stand at line spells stands.
    let it = c.args.service.now in
    let turns = c.args.turns.now in
    let new = c.settle.new.service in
    let next = c.settle.new.turns in
    let pushed : c.push.new.self.items ≡ turns.edits.items ++ c.args.edit ∷ [] = grind (arith, common_steps) in
    let full : 64 ≤ length c.push.new.self.items = grind (arith, common_steps) in
    full_does g.R.Reply.makes turns.kept.ghost_name turns.kept.now turns.edits.items (shown.IsTold it) (shown.view it) (shown.sessions it)
    (g.P.Streams.sent (shown.pages it)) line c.args.edit spells c.push.new.self.items pushed next.kept.ghost_name
    c.settle.ensures.same_reference
    next.kept.now (shown.IsTold new) (shown.view new) (shown.sessions new) (g.P.Streams.sent (shown.pages new)) next.edits.items
    c.settle.result stand at full stands (none_spelled next.edits.items c.settle.ensures.none) c.settle.ensures.blames c.settle.ensures.done

pub returns-clause-stops : goal.returns-clause-stops
returns-clause-stops g c = λ stand at line spells stands.
    let it = c.args.service.now in
    let turns = c.args.turns.now in
    let new = c.settle.new.service in
    let next = c.settle.new.turns in
    let pushed : c.push.new.self.items ≡ turns.edits.items ++ c.args.edit ∷ [] = grind (arith, common_steps) in
    let full : 64 ≤ length c.push.new.self.items = grind (arith, common_steps) in
    let few : length c.push.new.self.items ≤ 64 = grind (arith, common_steps) in
    full_stops g.R.Reply.makes turns.kept.ghost_name turns.kept.now turns.edits.items (shown.IsTold it) (shown.view it) (shown.sessions it)
    (g.P.Streams.sent (shown.pages it)) line c.args.edit spells c.push.new.self.items pushed next.kept.ghost_name
    c.settle.ensures.same_reference
    next.kept.now (shown.IsTold new) (shown.view new) (shown.sessions new) (g.P.Streams.sent (shown.pages new)) next.edits.items
    c.settle.result stand at full few stands c.settle.ensures.gives c.settle.ensures.blames c.settle.ensures.stops

pub returns-clause-leaves : goal.returns-clause-leaves
returns-clause-leaves g c = λ stand at line spells stands lasting.
    let it = c.args.service.now in
    let turns = c.args.turns.now in
    let new = c.settle.new.service in
    let next = c.settle.new.turns in
    let pushed : c.push.new.self.items ≡ turns.edits.items ++ c.args.edit ∷ [] = grind (arith, common_steps) in
    let few : length c.push.new.self.items ≤ 64 = grind (arith, common_steps) in
    full_leaves g.R.Reply.makes turns.kept.ghost_name turns.kept.now turns.edits.items (shown.IsTold it) (shown.view it) (shown.sessions it)
    (g.P.Streams.sent (shown.pages it)) line c.args.edit spells c.push.new.self.items pushed next.kept.ghost_name
    c.settle.ensures.same_reference
    next.kept.now (shown.IsTold new) (shown.view new) (shown.sessions new) (g.P.Streams.sent (shown.pages new)) next.edits.items
    stand at few stands lasting c.settle.ensures.moments
