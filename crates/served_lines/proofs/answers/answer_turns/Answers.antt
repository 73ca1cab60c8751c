use Rattle.std.proofs.Common.{[], Result, IfErr, refl, sym, subst}
use Rattle.std.specs.Prelude.{OnOk}
use Rattle.chart_service.specs.Answering.{EndsBy, SendsAll}
use Rattle.chart_service.specs.Knowing.{EndsKnown}
use Rattle.chart_service.specs.Making.{AreMade}
use Rattle.chart_service.specs.Naming.{GivesTold}
use Rattle.chart_service.specs.Shown as shown
use Rattle.chart_service.specs.declared.failure.AnswerEnd.{AnswerEnd}
use Rattle.served_lines.specs.Ending.{answer_of}
use Rattle.served_lines.specs.Standing.{IsNamed}
use Rattle.served_lines.specs.Turning.{Any, Named, Over}
use Rattle.served_lines.proofs.Concluding.{first_held}
use Rattle.served_lines.proofs.Finishing.{crash_told, done_so, ends_so, first_stands, reads_so, syncs_so}
use Rattle.served_lines.proofs.KeepLemmas.{none_spelled}
use Rattle.served_lines.proofs.NamedLemmas.{gives_so, known_by}
use Rattle.served_lines.proofs.NamedLemmas.{blames_so}
use Rattle.served_lines.specs.Blaming.{BlamesOf}
use Rattle.served_lines.proofs.answers.answer_turns.Goals as goal

pub returns-clause-same_reference : goal.returns-clause-same_reference
returns-clause-same_reference g c =
    let it = c.args.service.now in
    let turns = c.args.turns.now in
    let new = c.run_lines.new.from in
    let work = c.run_lines.new.work in
    let pages = shown.pages it in
    let pages' = shown.pages new in
    let sent = g.P.Streams.sent in
    let left = g.P.Streams.left in
    let pieces = g.P.Streams.pieces in
    let makes = g.R.Reply.makes in
    let r = c.run_lines.result in
    let named : Named g.row.S.Denot = record { name = turns.kept.ghost_name; kept = turns.kept.now; ahead = []; sessions = it.sessions } in
    let here : IsNamed named turns.kept.ghost_name turns.kept.now turns.edits.items it.sessions = record {
      name_is = refl;
      kept_is = refl;
      spells = none_spelled turns.edits.items c.requires.none;
      sessions_are =
          refl;
    } in
    let all = gives_so makes turns.kept.now work.kept.now it.sessions new.sessions (sent pages) (sent pages') turns.kept.ghost_name
    work.kept.ghost_name work.edits.items (shown.IsTold new) (shown.view new) (left pages) (left pages') (pieces pages) (pieces
    pages') r
    (c.run_lines.ensures.done (Any named) here) (c.run_lines.ensures.stops (Any named) here) in
    all.1

pub returns-clause-done : goal.returns-clause-done
returns-clause-done g c = λ total book told stands.
    let it = c.args.service.now in
    let turns = c.args.turns.now in
    let new = c.run_lines.new.from in
    let work = c.run_lines.new.work in
    let pages = shown.pages it in
    let pages' = shown.pages new in
    let sent = g.P.Streams.sent in
    let left = g.P.Streams.left in
    let pieces = g.P.Streams.pieces in
    let makes = g.R.Reply.makes in
    let r = c.run_lines.result in
    let held = first_held turns.kept.now total book it.sessions (sent pages) (shown.view it).reads (shown.view it).syncs in
    let here = first_stands turns.kept.now total book turns.edits.items (shown.IsTold it) (shown.view it) it.sessions (sent pages) told
    stands c.requires.none in
    let P : Result (Unit {0}) (AnswerEnd g.row.F.Denot)
    → Type 0 = λ x. OnOk x (SendsAll left sent (AreMade makes turns.kept.now work.kept.now) total book it new) in
    subst P (sym c.answer_of.ensures)
    (done_so makes turns.kept.now work.kept.now total book it.sessions new.sessions (sent pages) (sent pages') (shown.view it)
    work.kept.ghost_name work.edits.items (shown.IsTold new) (shown.view new) (left pages) (pieces pages) (pieces pages') r
    (c.run_lines.ensures.done (Over held) here))

pub returns-clause-ends : goal.returns-clause-ends
returns-clause-ends g c = λ total book told stands.
    let it = c.args.service.now in
    let turns = c.args.turns.now in
    let new = c.run_lines.new.from in
    let work = c.run_lines.new.work in
    let pages = shown.pages it in
    let pages' = shown.pages new in
    let sent = g.P.Streams.sent in
    let left = g.P.Streams.left in
    let pieces = g.P.Streams.pieces in
    let makes = g.R.Reply.makes in
    let r = c.run_lines.result in
    let held = first_held turns.kept.now total book it.sessions (sent pages) (shown.view it).reads (shown.view it).syncs in
    let here = first_stands turns.kept.now total book turns.edits.items (shown.IsTold it) (shown.view it) it.sessions (sent pages) told
    stands c.requires.none in
    let P : Result (Unit {0}) (AnswerEnd g.row.F.Denot)
    → Type 0 = λ x. IfErr x (EndsBy left sent makes turns.kept.now work.kept.now total book it new) in
    subst P (sym c.answer_of.ensures)
    (ends_so makes turns.kept.now work.kept.now total book it.sessions new.sessions (sent pages) (sent pages') (shown.view it)
    work.kept.ghost_name work.edits.items (shown.IsTold new) (shown.view new) (left pages) (left pages') (pieces pages) (pieces
    pages') r (c.run_lines.ensures.stops (Over held) here))

pub returns-clause-crash : goal.returns-clause-crash
returns-clause-crash g c = λ total book told stands.
    let it = c.args.service.now in
    let turns = c.args.turns.now in
    let new = c.run_lines.new.from in
    let work = c.run_lines.new.work in
    let pages = shown.pages it in
    let pages' = shown.pages new in
    let sent = g.P.Streams.sent in
    let left = g.P.Streams.left in
    let pieces = g.P.Streams.pieces in
    let makes = g.R.Reply.makes in
    let r = c.run_lines.result in
    let held = first_held turns.kept.now total book it.sessions (sent pages) (shown.view it).reads (shown.view it).syncs in
    let here = first_stands turns.kept.now total book turns.edits.items (shown.IsTold it) (shown.view it) it.sessions (sent pages) told
    stands c.requires.none in
    crash_told makes turns.kept.now work.kept.now total book it.sessions new.sessions (sent pages) (sent pages') (shown.view it)
    work.kept.ghost_name work.edits.items (shown.IsTold new) (shown.view new) (left pages) (c.run_lines.ensures.crash (Over held) here)

pub returns-clause-reads : goal.returns-clause-reads
returns-clause-reads g c = λ total book told stands.
    let it = c.args.service.now in
    let turns = c.args.turns.now in
    let new = c.run_lines.new.from in
    let work = c.run_lines.new.work in
    let pages = shown.pages it in
    let pages' = shown.pages new in
    let sent = g.P.Streams.sent in
    let left = g.P.Streams.left in
    let pieces = g.P.Streams.pieces in
    let makes = g.R.Reply.makes in
    let r = c.run_lines.result in
    let held = first_held turns.kept.now total book it.sessions (sent pages) (shown.view it).reads (shown.view it).syncs in
    let here = first_stands turns.kept.now total book turns.edits.items (shown.IsTold it) (shown.view it) it.sessions (sent pages) told
    stands c.requires.none in
    reads_so makes turns.kept.now work.kept.now total book it.sessions new.sessions (sent pages) (sent pages') (shown.view it)
    work.kept.ghost_name work.edits.items (shown.IsTold new) (shown.view new) (left pages) (left pages') (pieces pages) (pieces
    pages') r
    (c.run_lines.ensures.done (Over held) here) (c.run_lines.ensures.stops (Over held) here)

pub returns-clause-syncs : goal.returns-clause-syncs
returns-clause-syncs g c = λ total book told stands.
    let it = c.args.service.now in
    let turns = c.args.turns.now in
    let new = c.run_lines.new.from in
    let work = c.run_lines.new.work in
    let pages = shown.pages it in
    let pages' = shown.pages new in
    let sent = g.P.Streams.sent in
    let left = g.P.Streams.left in
    let pieces = g.P.Streams.pieces in
    let makes = g.R.Reply.makes in
    let r = c.run_lines.result in
    let held = first_held turns.kept.now total book it.sessions (sent pages) (shown.view it).reads (shown.view it).syncs in
    let here = first_stands turns.kept.now total book turns.edits.items (shown.IsTold it) (shown.view it) it.sessions (sent pages) told
    stands c.requires.none in
    syncs_so makes turns.kept.now work.kept.now total book it.sessions new.sessions (sent pages) (sent pages') (shown.view it)
    work.kept.ghost_name work.edits.items (shown.IsTold new) (shown.view new) (left pages) (left pages') (pieces pages) (pieces
    pages') r
    (c.run_lines.ensures.done (Over held) here) (c.run_lines.ensures.stops (Over held) here)

pub returns-clause-known : goal.returns-clause-known
returns-clause-known g c = λ knows follows known.
    let it = c.args.service.now in
    let turns = c.args.turns.now in
    let new = c.run_lines.new.from in
    let work = c.run_lines.new.work in
    let pages = shown.pages it in
    let pages' = shown.pages new in
    let sent = g.P.Streams.sent in
    let left = g.P.Streams.left in
    let pieces = g.P.Streams.pieces in
    let makes = g.R.Reply.makes in
    let r = c.run_lines.result in
    let named : Named g.row.S.Denot = record { name = turns.kept.ghost_name; kept = turns.kept.now; ahead = []; sessions = it.sessions } in
    let here : IsNamed named turns.kept.ghost_name turns.kept.now turns.edits.items it.sessions = record {
      name_is = refl;
      kept_is = refl;
      spells = none_spelled turns.edits.items c.requires.none;
      sessions_are =
          refl;
    } in
    let all = gives_so makes turns.kept.now work.kept.now it.sessions new.sessions (sent pages) (sent pages') turns.kept.ghost_name
    work.kept.ghost_name work.edits.items (shown.IsTold new) (shown.view new) (left pages) (left pages') (pieces pages) (pieces
    pages') r
    (c.run_lines.ensures.done (Any named) here) (c.run_lines.ensures.stops (Any named) here) in
    let P : Result (Unit {0}) (AnswerEnd g.row.F.Denot) → Type 0 = λ x. IfErr x (EndsKnown makes knows) in
    subst P (sym c.answer_of.ensures)
    (known_by makes knows follows all.0.lines turns.kept.now work.kept.now it.sessions new.sessions (sent pages) (sent pages')
    (answer_of r) known
    all.0.gives)

pub returns-clause-gives : goal.returns-clause-gives
returns-clause-gives g c =
    let it = c.args.service.now in
    let turns = c.args.turns.now in
    let new = c.run_lines.new.from in
    let work = c.run_lines.new.work in
    let pages = shown.pages it in
    let pages' = shown.pages new in
    let sent = g.P.Streams.sent in
    let left = g.P.Streams.left in
    let pieces = g.P.Streams.pieces in
    let makes = g.R.Reply.makes in
    let r = c.run_lines.result in
    let named : Named g.row.S.Denot = record { name = turns.kept.ghost_name; kept = turns.kept.now; ahead = []; sessions = it.sessions } in
    let here : IsNamed named turns.kept.ghost_name turns.kept.now turns.edits.items it.sessions = record {
      name_is = refl;
      kept_is = refl;
      spells = none_spelled turns.edits.items c.requires.none;
      sessions_are =
          refl;
    } in
    let all = gives_so makes turns.kept.now work.kept.now it.sessions new.sessions (sent pages) (sent pages') turns.kept.ghost_name
    work.kept.ghost_name work.edits.items (shown.IsTold new) (shown.view new) (left pages) (left pages') (pieces pages) (pieces
    pages') r
    (c.run_lines.ensures.done (Any named) here) (c.run_lines.ensures.stops (Any named) here) in
    let P : Result (Unit {0}) (AnswerEnd g.row.F.Denot)
    → Type 0 = λ x. GivesTold makes (left pages) turns.kept.now work.kept.now it.sessions new.sessions (sent pages) (sent pages') x in
    subst P (sym c.answer_of.ensures) all.0

pub returns-clause-blames : goal.returns-clause-blames
returns-clause-blames g c =
    let it = c.args.service.now in
    let turns = c.args.turns.now in
    let new = c.run_lines.new.from in
    let work = c.run_lines.new.work in
    let pages = shown.pages it in
    let pages' = shown.pages new in
    let sent = g.P.Streams.sent in
    let left = g.P.Streams.left in
    let pieces = g.P.Streams.pieces in
    let makes = g.R.Reply.makes in
    let r = c.run_lines.result in
    let named : Named g.row.S.Denot = record { name = turns.kept.ghost_name; kept = turns.kept.now; ahead = []; sessions = it.sessions } in
    let here : IsNamed named turns.kept.ghost_name turns.kept.now turns.edits.items it.sessions = record {
      name_is = refl;
      kept_is = refl;
      spells = none_spelled turns.edits.items c.requires.none;
      sessions_are = refl;
    } in
    let P : Result (Unit {0}) (AnswerEnd g.row.F.Denot)
    → Type 0 = λ x. IfErr x (BlamesOf left sent makes turns.kept.now work.kept.now it new) in
    subst P (sym c.answer_of.ensures)
    (blames_so makes turns.kept.now work.kept.now it.sessions new.sessions (sent pages) (sent pages') turns.kept.ghost_name
    work.kept.ghost_name work.edits.items (shown.IsTold new) (shown.view new) (left pages) (left pages') (pieces pages) (pieces
    pages') r (c.run_lines.ensures.stops (Any named) here))
