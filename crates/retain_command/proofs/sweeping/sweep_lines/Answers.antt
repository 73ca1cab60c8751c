use Rattle.std.proofs.Common.{◌≡◌, ◌≢◌, ◌≤◌, ◌<◌, ◌^◌, IfSome, length, refl, subst, sym, true}
use Rattle.chart_world.specs.Faults.{CountsFault}
use Rattle.chart_world.specs.Reading.{IsReadUp}
use Rattle.line_runs.specs.EndLaws.{came_to_end, causes_so, end_cause, harmless, input_long, same_fault}
use Rattle.line_runs.specs.Ends.{run_end}
use Rattle.run_ends.specs.Faults.{end_fault}
use Rattle.run_ends.specs.declared.ending.End.{End}
use Rattle.run_ends.specs.declared.ending.End.TheVariants.{Done, DiskFault, InputTooLong}
use Rattle.series_store.specs.Shown as shown
use Rattle.store_commands.specs.Sides.{side_of}
use Rattle.retain_command.specs.Doing.{IsCause}
use Rattle.retain_command.specs.Shown.{EndsOn, IsAnsweredSo, IsAtFault, IsBadOn}
use Rattle.retain_command.specs.Working.{IsHeld}
use Rattle.retain_command.proofs.RunLemmas.{answers_told, costs_begun, costs_told, counted_by, ends_of, ends_told, faults_told, held_by}
use Rattle.retain_command.proofs.RunLemmas.{lasts_none, lasts_told, never_known, no_answers, no_faults, none_costs, none_swept, unknown}
use Rattle.retain_command.proofs.sweeping.sweep_lines.Goals as goal

pub returns-in_default-clause-ends : goal.returns-in_default-clause-ends
returns-in_default-clause-ends g c = λ total book told stands.
    let pages = shown.pages c.args.store.now in
    none_swept total book (counted_by (shown.view c.args.store.now)) (g.P.Streams.left pages) (g.P.Streams.left pages)
    (g.P.Streams.sent pages) (shown.image c.args.store.now) stands

pub returns-in_default-clause-crash : goal.returns-in_default-clause-crash
returns-in_default-clause-crash g c = λ total book told stands.
    let pages = shown.pages c.args.store.now in
    lasts_none total book (counted_by (shown.view c.args.store.now)) (g.P.Streams.left pages) (g.P.Streams.sent pages)
    (shown.view c.args.store.now) (g.met.P.Pages.rests pages c.requires.sound) stands

pub returns-in_default-clause-costs : goal.returns-in_default-clause-costs
returns-in_default-clause-costs g c = λ total book told stands. none_costs total book (g.P.Streams.left (shown.pages c.args.store.now))
    (shown.view c.args.store.now)

pub returns-in_default-clause-faulty : goal.returns-in_default-clause-faulty
returns-in_default-clause-faulty g c = no_faults (shown.catalog c.args.store.now) (g.P.Streams.left (shown.pages c.args.store.now))

pub returns-clause-ends : goal.returns-clause-ends
returns-clause-ends g c = λ total book told stands.
    let left = g.P.Streams.left in
    let sent = g.P.Streams.sent in
    let old = c.args.store.now in
    let pages = shown.pages old in
    let new = c.run_lines-answer.new.from in
    let e = c.run_lines-answer.ensures in
    let held = held_by total book (counted_by (shown.view old)) in
    let is : held.known ≡ true → IsHeld (shown.IsTold old) (shown.view old) held = λ known. (told, stands, costs_begun (shown.view old)) in
    let E : End → Type 0 = λ end. EndsOn g.P.Streams total book old new end in
    subst E (sym c.run_end.ensures)
    (ends_of total book (shown.view old) (shown.view new) (left pages) (left (shown.pages new)) (sent pages) (sent (shown.pages new))
    (run_end c.run_lines-answer.result)
    (ends_told total book (counted_by (shown.view old)) (shown.IsTold new) (shown.view new) (IsBadOn new) (shown.catalog new) (left pages)
    (left (shown.pages new)) (sent pages) (sent (shown.pages new))
    (g.P.Streams.pieces pages) (g.P.Streams.pieces (shown.pages new)) c.run_lines-answer.result e.within
    (e.done held is) (e.stops held is)))

pub returns-clause-costs : goal.returns-clause-costs
returns-clause-costs g c = λ total book told stands.
    let left = g.P.Streams.left in
    let sent = g.P.Streams.sent in
    let old = c.args.store.now in
    let pages = shown.pages old in
    let new = c.run_lines-answer.new.from in
    let e = c.run_lines-answer.ensures in
    let held = held_by total book (counted_by (shown.view old)) in
    let is : held.known ≡ true → IsHeld (shown.IsTold old) (shown.view old) held = λ known. (told, stands, costs_begun (shown.view old)) in
    costs_told total book (shown.view old) (shown.view new) (left pages) (left (shown.pages new)) (sent pages) (sent (shown.pages new))
    (run_end c.run_lines-answer.result)
    (ends_told total book (counted_by (shown.view old)) (shown.IsTold new) (shown.view new) (IsBadOn new) (shown.catalog new) (left pages)
    (left (shown.pages new)) (sent pages) (sent (shown.pages new))
    (g.P.Streams.pieces pages) (g.P.Streams.pieces (shown.pages new)) c.run_lines-answer.result e.within
    (e.done held is) (e.stops held is))

pub returns-clause-faulty : goal.returns-clause-faulty
returns-clause-faulty g c =
    let left = g.P.Streams.left in
    let sent = g.P.Streams.sent in
    let old = c.args.store.now in
    let pages = shown.pages old in
    let new = c.run_lines-answer.new.from in
    let F : End → Type 0 = λ end. IsAtFault g.P.Streams old new end in
    subst F (sym c.run_end.ensures)
    (faults_told (shown.IsTold new) (shown.view new) (IsBadOn new) (shown.catalog new) (left pages) (left (shown.pages new)) (sent pages)
    (sent (shown.pages new))
    (g.P.Streams.pieces pages) (g.P.Streams.pieces (shown.pages new)) c.run_lines-answer.result
    (c.run_lines-answer.ensures.stops unknown (λ known. never_known known)))

pub returns-in_default-clause-answered : goal.returns-in_default-clause-answered
returns-in_default-clause-answered g c = no_answers (g.P.Streams.sent (shown.pages c.args.store.now))
    (g.P.Streams.left (shown.pages c.args.store.now))

pub returns-clause-answered : goal.returns-clause-answered
returns-clause-answered g c =
    let left = g.P.Streams.left in
    let sent = g.P.Streams.sent in
    let old = c.args.store.now in
    let pages = shown.pages old in
    let new = c.run_lines-answer.new.from in
    let e = c.run_lines-answer.ensures in
    let F : End → Type 0 = λ end. IsAnsweredSo g.P.Streams old new end in
    subst F (sym c.run_end.ensures)
    (answers_told (shown.IsTold new) (shown.view new) (IsBadOn new) (shown.catalog new) (left pages) (left (shown.pages new)) (sent pages)
    (sent (shown.pages new))
    (g.P.Streams.pieces pages) (g.P.Streams.pieces (shown.pages new)) c.run_lines-answer.result
    (e.done unknown (λ known. never_known known)) (e.stops unknown (λ known. never_known known)))

pub returns-clause-crash : goal.returns-clause-crash
returns-clause-crash g c = λ total book told stands.
    let old = c.args.store.now in
    let pages = shown.pages old in
    let held = held_by total book (counted_by (shown.view old)) in
    let is : held.known ≡ true → IsHeld (shown.IsTold old) (shown.view old) held = λ known. (told, stands, costs_begun (shown.view old)) in
    lasts_told total book (counted_by (shown.view old)) (g.P.Streams.left pages) (g.P.Streams.sent pages) (shown.view old)
    (shown.view c.run_lines-answer.new.from) (c.run_lines-answer.ensures.crash held is refl)

pub returns-clause-within : goal.returns-clause-within
returns-clause-within g c =
    let side = side_of g.P.Streams in
    let e = c.run_lines-answer.ensures in
    let W : End → Type 0 = λ end. end ≡ Done → IfSome (g.P.Streams.left (shown.pages c.args.store.now)) (λ input. length input ≤ 2 ^ 32) in
    subst W (sym c.run_end.ensures)
    (came_to_end (λ end s s'. IsCause end (side s) (side s')
    × (end ≢ InputTooLong)) c.args.store.now c.run_lines-answer.new.from c.run_lines-answer.result (λ none. none.0) e.within e.cause)

pub returns-clause-whole : goal.returns-clause-whole
returns-clause-whole g c =
    let side = side_of g.P.Streams in
    let left = g.P.Streams.left in
    let old = c.args.store.now in
    let new = c.run_lines-answer.new.from in
    let e = c.run_lines-answer.ensures in
    let W : End → Type 0 = λ end. end ≡ Done → IsReadUp (left (shown.pages old)) (left (shown.pages new)) in
    subst W (sym c.run_end.ensures)
    (came_to_end (λ end s s'. IsCause end (side s) (side s')
    × (end ≢ InputTooLong)) old new c.run_lines-answer.result (λ none. none.0) e.whole e.cause)

pub returns-clause-long : goal.returns-clause-long
returns-clause-long g c =
    let side = side_of g.P.Streams in
    let old = c.args.store.now in
    let new = c.run_lines-answer.new.from in
    let e = c.run_lines-answer.ensures in
    let L : End → Type 0 = λ end. end ≡ InputTooLong → IfSome (g.P.Streams.left (shown.pages old)) (λ input. 2 ^ 32 < length input) in
    subst L (sym c.run_end.ensures)
    (input_long (λ end s s'. IsCause end (side s) (side s')
    × (end ≢ InputTooLong)) old new c.run_lines-answer.result (λ never. never.1 refl) e.long e.cause)

pub returns-clause-cause : goal.returns-clause-cause
returns-clause-cause g c =
    let w = g.met.P.PageWorld in
    let side = side_of g.P.Streams in
    let old = c.args.store.now in
    let new = c.run_lines-answer.new.from in
    let e = c.run_lines-answer.ensures in
    let C : End → Type 0 = λ end. end ≢ Done → IsCause end (side old) (side new) in
    subst C (sym c.run_end.ensures)
    (end_cause (λ s. shown.view s) (λ s. g.P.Streams.read_faults (shown.pages s)) (λ s. w.beside_read_faults (shown.pages s))
    (λ end s s'. IsCause end (side s) (side s')) old new c.run_lines-answer.result (λ risen. risen) tt e.faults
    (causes_so (λ end s s'. IsCause end (side s) (side s') × (end ≢ InputTooLong)) (λ end s s'. IsCause end (side s) (side s')) old new
    c.run_lines-answer.result (λ end is. is.0) e.cause))

pub returns-clause-faults : goal.returns-clause-faults
returns-clause-faults g c =
    let old = shown.view c.args.store.now in
    let new = shown.view c.run_lines-answer.new.from in
    let F : _ → Type 0 = λ fault. CountsFault fault old new in
    let E : End → Type 0 = λ end. CountsFault (end_fault end) old new in
    subst E (sym c.run_end.ensures) (subst F (sym (same_fault c.run_lines-answer.result)) c.run_lines-answer.ensures.faults)

pub returns-clause-sound : goal.returns-clause-sound
returns-clause-sound g c =
    let e = c.run_lines-answer.ensures in
    let S : End → Type 0 = λ end. end ≢ DiskFault → shown.IsSound c.run_lines-answer.new.from in
    subst S (sym c.run_end.ensures) (harmless DiskFault c.run_lines-answer.result e.fit e.fit_on_err)
