use Rattle.std.proofs.Common.{◌≡◌, ◌≢◌, ◌≤◌, ◌<◌, ◌^◌, IfSome, length, refl, sym, subst, inl, inr}
use Rattle.chart_world.specs.Faults.{CountsFault}
use Rattle.chart_world.specs.Reading.{IsReadUp}
use Rattle.line_runs.specs.EndLaws.{came_to_end, causes_so, end_cause, input_long, same_fault}
use Rattle.run_ends.specs.Faults.{end_fault}
use Rattle.run_ends.specs.declared.ending.End.{End}
use Rattle.run_ends.specs.declared.ending.End.TheVariants.{Done, InputTooLong}
use Rattle.series_store.specs.Shown as shown
use Rattle.store_commands.specs.Sides.{side_of}
use Rattle.derive_command.specs.Doing.{IsCause}
use Rattle.derive_command.specs.Answers.{by_book}
use Rattle.derive_command.specs.Catalogs.{by_memory}
use Rattle.derive_command.specs.Shown.{EndsOn}
use Rattle.derive_command.specs.Working.{StandsSo}
use Rattle.derive_command.proofs.RunLemmas.{ends_told, none_told}
use Rattle.derive_command.proofs.drawing.draw_lines.Goals as goal

pub returns-in_default-clause-ends : goal.returns-in_default-clause-ends
returns-in_default-clause-ends g c = λ total book told stands.
    let pages = shown.pages c.args.store.now in
    none_told (by_book book) (g.P.Streams.left pages) (g.P.Streams.left pages) (g.P.Streams.sent pages)

pub returns-clause-ends : goal.returns-clause-ends
returns-clause-ends g c = λ total book told stands.
    let left = g.P.Streams.left in
    let sent = g.P.Streams.sent in
    let pages = shown.pages c.args.store.now in
    let new = c.run_lines-answer.new.from in
    let e = c.run_lines-answer.ensures in
    let E : End → Type 0 = λ end. EndsOn g.P.Streams (by_book book) c.args.store.now new end in
    subst E (sym c.run_end.ensures)
    (ends_told (inl book) (λ k. StandsSo (shown.IsTold new) (shown.image new) (shown.catalog new) k) (side_of g.P.Streams new) (left pages)
    (left (shown.pages new)) (sent pages)
    (sent (shown.pages new)) (g.P.Streams.pieces pages) (g.P.Streams.pieces (shown.pages new)) c.run_lines-answer.result
    (e.done (inl book) (told, (total, stands))) (e.stops (inl book) (told, (total, stands))))

pub returns-in_default-clause-lines : goal.returns-in_default-clause-lines
returns-in_default-clause-lines g c =
    let store = c.args.store.now in
    let pages = shown.pages store in
    none_told (by_memory (shown.catalog store) (side_of g.P.Streams store)) (g.P.Streams.left pages) (g.P.Streams.left pages)
    (g.P.Streams.sent pages)

pub returns-clause-lines : goal.returns-clause-lines
returns-clause-lines g c =
    let left = g.P.Streams.left in
    let sent = g.P.Streams.sent in
    let old = c.args.store.now in
    let pages = shown.pages old in
    let new = c.run_lines-answer.new.from in
    let e = c.run_lines-answer.ensures in
    let E : End → Type 0 = λ end. EndsOn g.P.Streams (by_memory (shown.catalog old) (side_of g.P.Streams new)) old new end in
    subst E (sym c.run_end.ensures)
    (ends_told (inr (shown.catalog old)) (λ k. StandsSo (shown.IsTold new) (shown.image new) (shown.catalog new) k)
    (side_of g.P.Streams new) (left pages) (left (shown.pages new)) (sent pages)
    (sent (shown.pages new)) (g.P.Streams.pieces pages) (g.P.Streams.pieces (shown.pages new)) c.run_lines-answer.result
    (e.done (inr (shown.catalog old)) refl) (e.stops (inr (shown.catalog old)) refl))

pub returns-clause-within : goal.returns-clause-within
returns-clause-within g c =
    let pages = shown.pages c.args.store.now in
    let side = side_of g.P.Streams in
    let e = c.run_lines-answer.ensures in
    let W : End → Type 0 = λ end. end ≡ Done → IfSome (g.P.Streams.left pages) (λ input. length input ≤ 2 ^ 32) in
    subst W (sym c.run_end.ensures) (came_to_end (λ end s s'. IsCause end (side s) (side s')
    × (end ≢ InputTooLong)) c.args.store.now c.run_lines-answer.new.from c.run_lines-answer.result (λ none. none.0) e.within e.cause)

pub returns-clause-whole : goal.returns-clause-whole
returns-clause-whole g c =
    let side = side_of g.P.Streams in
    let left = g.P.Streams.left in
    let old = c.args.store.now in
    let new = c.run_lines-answer.new.from in
    let e = c.run_lines-answer.ensures in
    let W : End → Type 0 = λ end. end ≡ Done → IsReadUp (left (shown.pages old)) (left (shown.pages new)) in
    subst W (sym c.run_end.ensures)
    (came_to_end (λ end s s'. IsCause end (side s) (side s')
    × (end ≢ InputTooLong)) old new c.run_lines-answer.result (λ none. none.0) e.whole e.cause)

pub returns-clause-long : goal.returns-clause-long
returns-clause-long g c =
    let side = side_of g.P.Streams in
    let old = c.args.store.now in
    let new = c.run_lines-answer.new.from in
    let e = c.run_lines-answer.ensures in
    let L : End → Type 0 = λ end. end ≡ InputTooLong → IfSome (g.P.Streams.left (shown.pages old)) (λ input. 2 ^ 32 < length input) in
    subst L (sym c.run_end.ensures)
    (input_long (λ end s s'. IsCause end (side s) (side s')
    × (end ≢ InputTooLong)) old new c.run_lines-answer.result (λ never. never.1 refl) e.long e.cause)

pub returns-clause-cause : goal.returns-clause-cause
returns-clause-cause g c =
    let w = g.met.P.PageWorld in
    let side = side_of g.P.Streams in
    let old = c.args.store.now in
    let new = c.run_lines-answer.new.from in
    let e = c.run_lines-answer.ensures in
    let C : End → Type 0 = λ end. end ≢ Done → IsCause end (side old) (side new) in
    subst C (sym c.run_end.ensures)
    (end_cause (λ s. shown.view s) (λ s. g.P.Streams.read_faults (shown.pages s)) (λ s. w.beside_read_faults (shown.pages s))
    (λ end s s'. IsCause end (side s) (side s')) old new c.run_lines-answer.result (λ risen. risen) tt e.faults
    (causes_so (λ end s s'. IsCause end (side s) (side s') × (end ≢ InputTooLong)) (λ end s s'. IsCause end (side s) (side s')) old new
    c.run_lines-answer.result (λ end is. is.0) e.cause))

pub returns-clause-faults : goal.returns-clause-faults
returns-clause-faults g c =
    let old = shown.view c.args.store.now in
    let new = shown.view c.run_lines-answer.new.from in
    let F : _ → Type 0 = λ fault. CountsFault fault old new in
    let E : End → Type 0 = λ end. CountsFault (end_fault end) old new in
    subst E (sym c.run_end.ensures) (subst F (sym (same_fault c.run_lines-answer.result)) c.run_lines-answer.ensures.faults)
