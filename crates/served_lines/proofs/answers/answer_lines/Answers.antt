use Rattle.std.proofs.Common.{[], rules, refl, subst}
use Rattle.std.specs.Prelude.{OnOk}
use Rattle.chart_service.specs.Making.{AreMade}
use Rattle.chart_service.specs.Answering.{SendsAll}
use Rattle.chart_world.specs.Reading.{unread_input}
use Rattle.zoom_session.specs.Sessions.{is_open}
use Rattle.chart_service.specs.Shown as shown
use Rattle.chart_service.specs.Stepping.{state_of}
use Rattle.chart_service.specs.declared.failure.AnswerEnd.TheVariants.{Serve}
use Rattle.chart_service.specs.declared.failure.ServeEnd.TheVariants.{NoMemory}
use Rattle.chart_service.proofs.Naming.{first_memory, gives_none}
use Rattle.chart_service.proofs.Stands.{far_first, lasts_first, no_memory_first}
use Rattle.chart_service.proofs.SyncLemmas.{sync_none}
use Rattle.chart_service.proofs.TurnLemmas.{no_line_read}
use Rattle.std.proofs.Common.{IfErr}
use Rattle.served_lines.specs.Blaming.{BlamesOf}
use Rattle.served_lines.proofs.answers.answer_lines.Goals as goal

pub returns-in-Err-clause-ends : goal.returns-in-Err-clause-ends
returns-in-Err-clause-ends g c = λ total book told stands.
    let it = c.args.service.now in
    let left = g.P.Streams.left (shown.pages it) in
    no_memory_first g.R.Reply.makes c.args.kept.now left total book it.sessions (g.P.Streams.sent (shown.pages it)) (shown.view it).image
    left
    (Serve NoMemory) stands refl

pub returns-in-Err-clause-crash : goal.returns-in-Err-clause-crash
returns-in-Err-clause-crash g c = λ total book told stands.
    let it = c.args.service.now in
    let pages = shown.pages it in
    let left = g.P.Streams.left pages in
    let sent = g.P.Streams.sent pages in
    lasts_first g.R.Reply.makes c.args.kept.now left sent total book it.sessions (shown.view it) unread_input
    (far_first g.R.Reply.makes c.args.kept.now left total book it.sessions sent (shown.view it).image unread_input stands refl)
    (g.met.P.Pages.rests pages c.requires) (g.met.P.PageWorld.counts_sent pages)

pub returns-in-Err-clause-reads : goal.returns-in-Err-clause-reads
returns-in-Err-clause-reads g c = λ total book told stands.
    let it = c.args.service.now in
    no_line_read (g.P.Streams.left (shown.pages it)) (state_of book total it.sessions) (shown.view it).reads

pub returns-in-Err-clause-syncs : goal.returns-in-Err-clause-syncs
returns-in-Err-clause-syncs g c = λ total book told stands.
    let it = c.args.service.now in
    sync_none (g.P.Streams.left (shown.pages it)) total book (shown.view it).syncs (g.P.Streams.pieces (shown.pages it))

pub returns-in-Err-clause-gives : goal.returns-in-Err-clause-gives
returns-in-Err-clause-gives g c =
    let it = c.args.service.now in
    let sent = g.P.Streams.sent (shown.pages it) in
    record {
      lines = [];
      gives = first_memory g.R.Reply.makes [] c.args.kept.now c.args.kept.now (λ n. is_open n it.sessions)
          (λ n. is_open n it.sessions) sent sent
          (gives_none g.R.Reply.makes c.args.kept.now (λ n. is_open n it.sessions) sent);
      are_told = tt;
    }

pub returns-clause-done : goal.returns-clause-done
returns-clause-done g c = λ total book told stands.
    let it = c.args.service.now in
    let new = c.answer_turns-answer.new.service in
    let K : g.row.S.Denot → Type 0 = λ k.
    OnOk c.answer_turns-answer.result (SendsAll g.P.Streams.left g.P.Streams.sent (AreMade g.R.Reply.makes c.args.kept.now k) total book
    it new) in
    subst K (search rules) (c.answer_turns-answer.ensures.done total book told stands)

pub returns-clause-ends : goal.returns-clause-ends
returns-clause-ends g c = λ total book told stands.
    let ends = c.answer_turns-answer.ensures.ends total book told stands in
    search rules

pub returns-clause-blames : goal.returns-clause-blames
returns-clause-blames g c =
    let it = c.args.service.now in
    let new = c.answer_turns-answer.new.service in
    let K : g.row.S.Denot → Type 0 = λ k.
    IfErr c.answer_turns-answer.result (BlamesOf g.P.Streams.left g.P.Streams.sent g.R.Reply.makes c.args.kept.now k it new) in
    subst K (search rules) c.answer_turns-answer.ensures.blames
