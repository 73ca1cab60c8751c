use Rattle.std.proofs.Common.{rules, List, ◌≡◌, ◌≢◌, ◌≤◌, ◌<◌, [], IfSome, length, refl, subst, sym}
use Rattle.block_disk.specs.View.{sent_now}
use Rattle.chart_service.specs.EditGroups.{SpellEdits}
use Rattle.chart_service.specs.Serving.{told}
use Rattle.chart_service.specs.Shown as shown
use Rattle.series_book.specs.declared.edits.Edit.{Edit}
use Rattle.chart_world.specs.Faults.{CountsFault}
use Rattle.chart_world.specs.Reading.{IsReadUp}
use Rattle.line_runs.specs.Runs.{AreAll}
use Rattle.line_runs.specs.EndLaws.{came_to_end, causes_so, end_cause, input_long, same_fault}
use Rattle.live_service.specs.Shown as its
use Rattle.run_ends.specs.Faults.{end_fault}
use Rattle.run_ends.specs.declared.ending.End.{End}
use Rattle.run_ends.specs.declared.ending.End.TheVariants.{Done, DiskFault, InputTooLong}
use Rattle.hosted_lines.specs.Answers.{MayAnswerHost, SendsFor, followed_behind, watched}
use Rattle.hosted_lines.specs.Doing.{held_by, side_of}
use Rattle.hosted_lines.specs.HostCauses.{IsHostCause}
use Rattle.hosted_lines.specs.Input.{most_bytes}
use Rattle.hosted_lines.specs.Served.{EndsOn}
use Rattle.hosted_lines.specs.Shown.{pages}
use Rattle.hosted_lines.specs.Standing.{Any, IsNamed, Over, Stands}
use Rattle.hosted_lines.specs.Working.{CausesEnd, IsHosted}
use Rattle.hosted_lines.proofs.AnyLemmas.{all_sends}
use Rattle.hosted_lines.proofs.OverLemmas.{over_done, over_lasts, over_stops}
use Rattle.hosted_lines.proofs.EndLemmas.{costs_so, ends_so, first_at, lasts_so, none_costs, none_ends, none_lasts, sound_behind}
use Rattle.hosted_lines.specs.Blaming.{BlamesHost, BlamesInput}
use Rattle.hosted_lines.proofs.HostBlames.{all_blames}
use Rattle.hosted_lines.proofs.serving.host_lines.Goals as goal

pub returns-in_default-clause-ends : goal.returns-in_default-clause-ends
returns-in_default-clause-ends g c = λ total book told stands.
    let at = pages c.args.live.now in
    none_ends total book (held_by c.args.live.now) (g.P.Streams.left at) (g.P.Streams.left at) (g.P.Streams.sent at)
    (its.view c.args.live.now).image stands

pub returns-in_default-clause-crash : goal.returns-in_default-clause-crash
returns-in_default-clause-crash g c = λ total book told stands.
    let at = pages c.args.live.now in
    none_lasts total book (held_by c.args.live.now) (g.P.Streams.left at) (g.P.Streams.sent at) (its.view c.args.live.now)
    (g.met.P.Pages.rests at c.requires.sound) stands

pub returns-in_default-clause-costs : goal.returns-in_default-clause-costs
returns-in_default-clause-costs g c = λ total book told stands.
    let view = its.view c.args.live.now in
    none_costs total book (held_by c.args.live.now) (g.P.Streams.left (pages c.args.live.now)) (g.P.Streams.pieces (pages c.args.live.now))
    (g.P.Streams.pieces (pages c.args.live.now)) view.reads view.syncs

pub returns-clause-ends : goal.returns-clause-ends
returns-clause-ends g c = λ total book told stands.
    let left = g.P.Streams.left in
    let sent = g.P.Streams.sent in
    let pieces = g.P.Streams.pieces in
    let old = c.args.live.now in
    let new = c.run_lines-answer.new.from in
    let work = c.run_lines-answer.new.work in
    let e = c.run_lines-answer.ensures in
    let hosted = first_at total book (held_by old) (its.view old) (sent (pages old)) in
    let none : c.new.result.items ≡ [] = search rules in
    let S : List Edit → Type 0 = λ l. SpellEdits [] l in
    let here : IsHosted hosted c.new.result.items (shown.IsTold (its.service old)) (its.view old) (held_by old) (sent (pages old)) =
    record {
      told_so = told;
      stands = stands;
      sound = c.requires.book total book told stands;
      held_is = refl;
      idle = c.requires.idle;
      spell = subst S (sym none) tt;
      sent_is = refl;
      reads_are = refl;
      syncs_are = refl;
    } in
    let E : End → Type 0 = λ end. EndsOn g.P.Streams total book old new end in
    subst E (sym c.run_end.ensures)
    (ends_so total book (held_by old) (its.view old) (sent (pages old)) (its.view new) (held_by new) work.edits.items
    (shown.IsTold (its.service new)) (left (pages old)) (left (pages new)) (sent (pages new)) (pieces (pages old)) (pieces (pages new))
    c.run_lines-answer.result (over_done hosted work.edits.items (shown.IsTold (its.service new)) (its.view new) (held_by new)
    (sent (pages new)) c.run_lines-answer.result (AreAll (pieces (pages old)) (pieces (pages new))) (left (pages old))
    (sent (pages old)) (e.done (Over hosted) here))
    (over_stops hosted work.edits.items (shown.IsTold (its.service new)) (its.view new) (held_by new) (sent (pages new)) most_bytes
    (left (pages old)) (left (pages new)) (sent (pages old)) (pieces (pages old)) (pieces (pages new)) c.run_lines-answer.result
    (e.stops (Over hosted) here)))

pub returns-clause-crash : goal.returns-clause-crash
returns-clause-crash g c = λ total book told stands.
    let left = g.P.Streams.left in
    let sent = g.P.Streams.sent in
    let pieces = g.P.Streams.pieces in
    let old = c.args.live.now in
    let new = c.run_lines-answer.new.from in
    let work = c.run_lines-answer.new.work in
    let e = c.run_lines-answer.ensures in
    let hosted = first_at total book (held_by old) (its.view old) (sent (pages old)) in
    let none : c.new.result.items ≡ [] = search rules in
    let S : List Edit → Type 0 = λ l. SpellEdits [] l in
    let here : IsHosted hosted c.new.result.items (shown.IsTold (its.service old)) (its.view old) (held_by old) (sent (pages old)) =
    record {
      told_so = told;
      stands = stands;
      sound = c.requires.book total book told stands;
      held_is = refl;
      idle = c.requires.idle;
      spell = subst S (sym none) tt;
      sent_is = refl;
      reads_are = refl;
      syncs_are = refl;
    } in
    lasts_so total book (held_by old) (its.view old) (sent (pages old)) (its.view new) (held_by new) work.edits.items
    (shown.IsTold (its.service new)) (left (pages old)) (left (pages new)) (sent (pages new)) (pieces (pages old)) (pieces (pages new))
    (left (pages old)) (sent (pages old)) (λ lasts. over_lasts hosted most_bytes (left (pages old)) (sent (pages old))
    (sent_now (its.view old)) (its.view old) (its.view new) (e.crash (Over hosted) here lasts))

pub returns-clause-costs : goal.returns-clause-costs
returns-clause-costs g c = λ total book told stands.
    let left = g.P.Streams.left in
    let sent = g.P.Streams.sent in
    let pieces = g.P.Streams.pieces in
    let old = c.args.live.now in
    let new = c.run_lines-answer.new.from in
    let work = c.run_lines-answer.new.work in
    let e = c.run_lines-answer.ensures in
    let hosted = first_at total book (held_by old) (its.view old) (sent (pages old)) in
    let none : c.new.result.items ≡ [] = search rules in
    let S : List Edit → Type 0 = λ l. SpellEdits [] l in
    let here : IsHosted hosted c.new.result.items (shown.IsTold (its.service old)) (its.view old) (held_by old) (sent (pages old)) =
    record {
      told_so = told;
      stands = stands;
      sound = c.requires.book total book told stands;
      held_is = refl;
      idle = c.requires.idle;
      spell = subst S (sym none) tt;
      sent_is = refl;
      reads_are = refl;
      syncs_are = refl;
    } in
    costs_so total book (held_by old) (its.view old) (sent (pages old)) (its.view new) (held_by new) work.edits.items
    (shown.IsTold (its.service new)) (left (pages old)) (left (pages new)) (sent (pages new)) (pieces (pages old)) (pieces (pages new))
    c.run_lines-answer.result (over_done hosted work.edits.items (shown.IsTold (its.service new)) (its.view new) (held_by new)
    (sent (pages new)) c.run_lines-answer.result (AreAll (pieces (pages old)) (pieces (pages new))) (left (pages old))
    (sent (pages old)) (e.done (Over hosted) here))
    (over_stops hosted work.edits.items (shown.IsTold (its.service new)) (its.view new) (held_by new) (sent (pages new)) most_bytes
    (left (pages old)) (left (pages new)) (sent (pages old)) (pieces (pages old)) (pieces (pages new)) c.run_lines-answer.result
    (e.stops (Over hosted) here))

pub returns-clause-within : goal.returns-clause-within
returns-clause-within g c =
    let side = side_of g.P.Streams in
    let e = c.run_lines-answer.ensures in
    let W : End → Type 0 = λ end. end ≡ Done → IfSome (g.P.Streams.left (pages c.args.live.now)) (λ input. length input ≤ most_bytes) in
    subst W (sym c.run_end.ensures)
    (came_to_end (λ end s s'. CausesEnd end (side s) (side s')) c.args.live.now c.run_lines-answer.new.from c.run_lines-answer.result
    (λ none. none.cause) e.within e.cause)

pub returns-clause-whole : goal.returns-clause-whole
returns-clause-whole g c =
    let side = side_of g.P.Streams in
    let left = g.P.Streams.left in
    let old = c.args.live.now in
    let new = c.run_lines-answer.new.from in
    let e = c.run_lines-answer.ensures in
    let W : End → Type 0 = λ end. end ≡ Done → IsReadUp (left (pages old)) (left (pages new)) in
    subst W (sym c.run_end.ensures)
    (came_to_end (λ end s s'. CausesEnd end (side s) (side s')) old new c.run_lines-answer.result (λ none. none.cause) e.whole e.cause)

pub returns-clause-long : goal.returns-clause-long
returns-clause-long g c =
    let side = side_of g.P.Streams in
    let old = c.args.live.now in
    let new = c.run_lines-answer.new.from in
    let e = c.run_lines-answer.ensures in
    let L : End → Type 0 = λ end. end ≡ InputTooLong → IfSome (g.P.Streams.left (pages old)) (λ input. most_bytes < length input) in
    subst L (sym c.run_end.ensures)
    (input_long (λ end s s'. CausesEnd end (side s) (side s')) old new c.run_lines-answer.result
    (λ never. never.within refl) e.long e.cause)

pub returns-clause-cause : goal.returns-clause-cause
returns-clause-cause g c =
    let w = g.met.P.PageWorld in
    let side = side_of g.P.Streams in
    let old = c.args.live.now in
    let new = c.run_lines-answer.new.from in
    let e = c.run_lines-answer.ensures in
    let C : End → Type 0 = λ end. end ≢ Done → IsHostCause end (side old) (side new) in
    subst C (sym c.run_end.ensures)
    (end_cause (λ s. its.view s) (λ s. g.P.Streams.read_faults (pages s)) (λ s. w.beside_read_faults (pages s))
    (λ end s s'. IsHostCause end (side s) (side s')) old new c.run_lines-answer.result (λ risen. risen) tt e.faults
    (causes_so (λ end s s'. CausesEnd end (side s) (side s')) (λ end s s'. IsHostCause end (side s) (side s')) old new
    c.run_lines-answer.result (λ end is. is.cause) e.cause))

pub returns-clause-faults : goal.returns-clause-faults
returns-clause-faults g c =
    let old = its.view c.args.live.now in
    let new = its.view c.run_lines-answer.new.from in
    let F : _ → Type 0 = λ fault. CountsFault fault old new in
    let E : End → Type 0 = λ end. CountsFault (end_fault end) old new in
    subst E (sym c.run_end.ensures) (subst F (sym (same_fault c.run_lines-answer.result)) c.run_lines-answer.ensures.faults)

pub returns-clause-sound : goal.returns-clause-sound
returns-clause-sound g c =
    let side = side_of g.P.Streams in
    let old = c.args.live.now in
    let new = c.run_lines-answer.new.from in
    let e = c.run_lines-answer.ensures in
    let S : End → Type 0 = λ end. end ≢ DiskFault → (its.view new).fit in
    subst S (sym c.run_end.ensures) (sound_behind (λ end s s'. CausesEnd end (side s) (side s')) old new c.run_lines-answer.result
    (λ fit. fit.sound) (λ end is other. is.sound other) e.fit e.fit_on_err e.cause)

pub returns-clause-answers : goal.returns-clause-answers
returns-clause-answers g c =
    let side = side_of g.P.Streams in
    let left = g.P.Streams.left in
    let sent = g.P.Streams.sent in
    let pieces = g.P.Streams.pieces in
    let old = c.args.live.now in
    let new = c.run_lines-answer.new.from in
    let work = c.run_lines-answer.new.work in
    let e = c.run_lines-answer.ensures in
    let own = watched old in
    let none : c.new.result.items ≡ [] = search rules in
    let here : IsNamed (record { ahead = []; watched = own }) c.new.result.items
    (held_by old) = record { spell = subst (SpellEdits []) (sym none) tt; watched_are = refl } in
    let A : End → Type 0 = λ end. end ≡ Done → IfSome (left (pages old))
    (λ input. SendsFor g.P.Streams MayAnswerHost followed_behind (told input) old new) in
    subst A (sym c.run_end.ensures)
    (came_to_end (λ end s s'. CausesEnd end (side s) (side s')) old new c.run_lines-answer.result (λ none. none.cause)
    (all_sends own work.edits.items (shown.IsTold (its.service new)) (its.view new) (held_by new) (sent (pages old)) (sent (pages new))
    (pieces (pages old)) (pieces (pages new)) c.run_lines-answer.result (left (pages old))
    (e.done (Any (record { ahead = []; watched = own })) here)) e.cause)

pub returns-clause-blames : goal.returns-clause-blames
returns-clause-blames g c =
    let left = g.P.Streams.left in
    let sent = g.P.Streams.sent in
    let pieces = g.P.Streams.pieces in
    let old = c.args.live.now in
    let new = c.run_lines-answer.new.from in
    let work = c.run_lines-answer.new.work in
    let e = c.run_lines-answer.ensures in
    let own = watched old in
    let none : c.new.result.items ≡ [] = search rules in
    let here : IsNamed (record { ahead = []; watched = own }) c.new.result.items
    (held_by old) = record { spell = subst (SpellEdits []) (sym none) tt; watched_are = refl } in
    let view = its.view new in
    let A : End → Type 0 = λ end. BlamesInput g.P.Streams MayAnswerHost followed_behind BlamesHost old new end in
    subst A (sym c.run_end.ensures)
    (all_blames most_bytes own (shown.IsTold (its.service new)) view.size view.image (sent (pages old))
    (sent (pages new)) view.reads view.syncs (pieces (pages old)) (pieces (pages new)) (left (pages new))
    (λ s. Stands s work.edits.items (shown.IsTold (its.service new)) view (held_by new) (sent (pages new))) c.run_lines-answer.result
    (left (pages old)) (e.stops (Any (record { ahead = []; watched = own })) here))
