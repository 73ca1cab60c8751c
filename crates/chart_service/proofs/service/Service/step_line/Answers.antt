use Rattle.std.proofs.Common.{◌≡◌, ◌≤◌, ℕ, List, Option, Result, length, Ok, Err, IfErr, sym, subst, arith}
use Rattle.request_lines.specs.declared.requests.Request.{Request}
use Rattle.request_lines.specs.declared.line_errors.LineError.{LineError}
use Rattle.request_lines.specs.Requests.{read_line, ReadsAs}
use Rattle.chart_service.specs.Stepping.{IsLineCause, IsReadCause}
use Rattle.chart_service.specs.Shown as shown
use Rattle.series_store.specs.Shown as stored
use Rattle.chart_service.specs.Replies.{line_text}
use Rattle.chart_service.proofs.TurnLemmas.{line_none, line_reads}
use Rattle.chart_service.proofs.KindLemmas.{may_bad, may_line, may_long}
use Rattle.chart_service.proofs.LineLemmas.{long_line}
use Rattle.chart_service.proofs.Blaming.{line_blamed}
use Rattle.chart_service.proofs.StepLemmas.{AreOwn, line_reply, line_moments, bad_line}
use Rattle.chart_service.proofs.Sending.{text_is}
use Rattle.chart_service.proofs.SyncLemmas.{no_edit}
use Rattle.chart_service.proofs.RoomLemmas.{line_leaves, line_same}
use Rattle.chart_service.proofs.LastLemmas.{lasts_line, lasts_refused}
use Rattle.chart_service.specs.LastShown.{OfRowsLine}
use Rattle.series_book.specs.declared.refusals.Refusal.TheVariants.{BadLine, LineTooLong}
use Rattle.std.proofs.Common.{refl}
use Rattle.chart_service.proofs.service.Service.step_line.Goals as goal

pub returns-then-line-gt-LONGEST_LINE-clause-reply : goal.returns-then-line-gt-LONGEST_LINE-clause-reply
returns-then-line-gt-LONGEST_LINE-clause-reply g c = λ total book told stands.
    let sound = c.is_sound.ensures.state total book c.requires told stands in
    long_line c.args.line.now c.refused.result total book c.args.self.now.sessions
    (g.P.Pages.view (shown.pages c.args.self.now)).image c.if-line-gt-LONGEST_LINE.true c.refused.ensures.frame c.refused.ensures.fits
    sound stands

pub returns-in-Ok-clause-reply : goal.returns-in-Ok-clause-reply
returns-in-Ok-clause-reply g c = λ total book told stands.
    let short : length c.args.line.now ≤ 8192 = omega arith in
    let is : read_line c.args.line.now ≡ Ok c.in-Ok.request = c.in-Ok.ensures.reading in
    line_reply c.step.result c.args.line.now c.in-Ok.request total book c.args.self.now.sessions c.step.new.self.sessions
    (g.P.Pages.view (shown.pages c.step.new.self)).image short is (c.step.ensures.reply total book told stands)

pub returns-in-Ok-clause-moments : goal.returns-in-Ok-clause-moments
returns-in-Ok-clause-moments g c = λ total book told stands.
    let short : length c.args.line.now ≤ 8192 = omega arith in
    let is : read_line c.args.line.now ≡ Ok c.in-Ok.request = c.in-Ok.ensures.reading in
    line_moments c.args.line.now c.in-Ok.request total book c.args.self.now.sessions (g.P.Pages.view (shown.pages c.args.self.now))
    (g.P.Pages.view (shown.pages c.step.new.self)) short is (c.step.ensures.moments total book told stands)

pub returns-in-Ok-clause-bad : goal.returns-in-Ok-clause-bad
returns-in-Ok-clause-bad g c = c.step.ensures.bad

pub returns-in-Err-BadLine-clause-reply : goal.returns-in-Err-BadLine-clause-reply
returns-in-Err-BadLine-clause-reply g c = λ total book told stands.
    let sound = c.is_sound.ensures.state total book c.requires told stands in
    let short : length c.args.line.now ≤ 8192 = omega arith in
    let R : LineError → Type 0 = λ e. ReadsAs (read_line c.args.line.now) (Err e) in
    let is : read_line c.args.line.now ≡ Err c.in-Err-BadLine.at = subst R c.in-Err-BadLine.field-0-is c.in-Err-BadLine.ensures.reading in
    bad_line c.args.line.now c.in-Err-BadLine.at c.refused-in-Err-BadLine.result total book c.args.self.now.sessions
    (g.P.Pages.view (shown.pages c.args.self.now)).image short is c.refused-in-Err-BadLine.ensures.frame
    c.refused-in-Err-BadLine.ensures.fits sound stands

pub returns-then-line-gt-LONGEST_LINE-clause-reads : goal.returns-then-line-gt-LONGEST_LINE-clause-reads
returns-then-line-gt-LONGEST_LINE-clause-reads g c = λ total book told stands. line_none (line_text c.args.line.now)
    (shown.state c.args.self.now total book) _

pub returns-in-Ok-clause-reads : goal.returns-in-Ok-clause-reads
returns-in-Ok-clause-reads g c = λ total book told stands.
    let short : length c.args.line.now ≤ 8192 = omega arith in
    let is : read_line c.args.line.now ≡ Ok c.in-Ok.request = c.in-Ok.ensures.reading in
    line_reads c.args.line.now c.in-Ok.request (shown.state c.args.self.now total book) _ _ short is
    (c.step.ensures.reads total book told stands)

pub returns-in-Err-BadLine-clause-reads : goal.returns-in-Err-BadLine-clause-reads
returns-in-Err-BadLine-clause-reads g c = λ total book told stands. line_none (line_text c.args.line.now)
    (shown.state c.args.self.now total book) _

pub returns-in-Err-NoMemory-clause-reads : goal.returns-in-Err-NoMemory-clause-reads
returns-in-Err-NoMemory-clause-reads g c = λ total book told stands. line_none (line_text c.args.line.now)
    (shown.state c.args.self.now total book) _

pub returns-in-Ok-clause-idle : goal.returns-in-Ok-clause-idle
returns-in-Ok-clause-idle g c = λ none.
    let short : length c.args.line.now ≤ 8192 = omega arith in
    let is : read_line c.args.line.now ≡ Ok c.in-Ok.request = c.in-Ok.ensures.reading in
    c.step.ensures.idle (no_edit c.args.line.now c.in-Ok.request (text_is c.args.line.now short) is none)

pub returns-in-Ok-clause-cause : goal.returns-in-Ok-clause-cause
returns-in-Ok-clause-cause g c =
    let short : length c.args.line.now ≤ 8192 = omega arith in
    let is : read_line c.args.line.now ≡ Ok c.in-Ok.request = c.in-Ok.ensures.reading in
    let store = c.args.self.now.store in
    let told = g.P.Pages.told (stored.pages store) in
    let old = g.P.Pages.view (stored.pages store) in
    let new = g.P.Pages.view (stored.pages c.step.new.self.store) in
    let L : Option (List ℕ) → Type 0 = λ line. IfErr c.step.result
    (λ e. IsLineCause line e told (stored.catalog store) c.args.self.now.sessions (stored.numbers store) old new) in
    let R : Result Request ℕ → Type 0 = λ read. IfErr c.step.result
    (λ e. IsReadCause read e told (stored.catalog store) c.args.self.now.sessions (stored.numbers store) old new) in
    subst L (sym (text_is c.args.line.now short)) (subst R (sym is) c.step.ensures.cause)

pub returns-then-line-gt-LONGEST_LINE-clause-may : goal.returns-then-line-gt-LONGEST_LINE-clause-may
returns-then-line-gt-LONGEST_LINE-clause-may g c = may_long c.args.line.now c.refused.result c.if-line-gt-LONGEST_LINE.true
    c.refused.ensures.frame

pub returns-in-Ok-clause-may : goal.returns-in-Ok-clause-may
returns-in-Ok-clause-may g c =
    let short : length c.args.line.now ≤ 8192 = omega arith in
    let is : read_line c.args.line.now ≡ Ok c.in-Ok.request = c.in-Ok.ensures.reading in
    may_line c.args.line.now c.in-Ok.request c.step.result short is c.step.ensures.may

pub returns-in-Err-BadLine-clause-may : goal.returns-in-Err-BadLine-clause-may
returns-in-Err-BadLine-clause-may g c =
    let short : length c.args.line.now ≤ 8192 = omega arith in
    let R : LineError → Type 0 = λ e. ReadsAs (read_line c.args.line.now) (Err e) in
    let is : read_line c.args.line.now ≡ Err c.in-Err-BadLine.at = subst R c.in-Err-BadLine.field-0-is c.in-Err-BadLine.ensures.reading in
    may_bad c.args.line.now c.in-Err-BadLine.at c.refused-in-Err-BadLine.result short is c.refused-in-Err-BadLine.ensures.frame

pub returns-then-line-gt-LONGEST_LINE-clause-leaves : goal.returns-then-line-gt-LONGEST_LINE-clause-leaves
returns-then-line-gt-LONGEST_LINE-clause-leaves g c = line_same (line_text c.args.line.now) c.args.self.now.sessions

pub returns-in-Ok-clause-leaves : goal.returns-in-Ok-clause-leaves
returns-in-Ok-clause-leaves g c =
    let short : length c.args.line.now ≤ 8192 = omega arith in
    let is : read_line c.args.line.now ≡ Ok c.in-Ok.request = c.in-Ok.ensures.reading in
    line_leaves c.step.result c.args.line.now c.in-Ok.request c.args.self.now.sessions c.step.new.self.sessions short is
    c.step.ensures.leaves

pub returns-in-Err-BadLine-clause-leaves : goal.returns-in-Err-BadLine-clause-leaves
returns-in-Err-BadLine-clause-leaves g c = line_same (line_text c.args.line.now) c.args.self.now.sessions

pub returns-then-line-gt-LONGEST_LINE-clause-lasts : goal.returns-then-line-gt-LONGEST_LINE-clause-lasts
returns-then-line-gt-LONGEST_LINE-clause-lasts g c = lasts_refused
    (OfRowsLine (line_text c.args.line.now)) c.refused.result LineTooLong c.args.self.now.sessions c.args.self.now.sessions
    c.refused.ensures.frame refl

pub returns-in-Ok-clause-lasts : goal.returns-in-Ok-clause-lasts
returns-in-Ok-clause-lasts g c =
    let short : length c.args.line.now ≤ 8192 = omega arith in
    let is : read_line c.args.line.now ≡ Ok c.in-Ok.request = c.in-Ok.ensures.reading in
    lasts_line c.step.result c.args.line.now c.in-Ok.request c.args.self.now.sessions c.step.new.self.sessions short is c.step.ensures.lasts

pub returns-in-Err-BadLine-clause-lasts : goal.returns-in-Err-BadLine-clause-lasts
returns-in-Err-BadLine-clause-lasts g c = lasts_refused (OfRowsLine (line_text c.args.line.now)) c.refused-in-Err-BadLine.result
    (BadLine c.in-Err-BadLine.at) c.args.self.now.sessions c.args.self.now.sessions c.refused-in-Err-BadLine.ensures.frame refl

pub returns-in-Ok-clause-blames : goal.returns-in-Ok-clause-blames
returns-in-Ok-clause-blames g c =
    let short : length c.args.line.now ≤ 8192 = omega arith in
    let is : read_line c.args.line.now ≡ Ok c.in-Ok.request = c.in-Ok.ensures.reading in
    let store = c.args.self.now.store in
    let next = c.step.new.self.store in
    let told = g.P.Pages.told (stored.pages store) in
    let old = g.P.Pages.view (stored.pages store) in
    let new = g.P.Pages.view (stored.pages next) in
    let own : AreOwn told old (stored.numbers store) (stored.catalog store) = record {
      within = store.space.rules.total_high;
      keeps = λ t. record { spelled = store.space.spelled c.requires t; rules = store.space.rules };
      count = store.count;
      says = λ t. store.told c.requires t;
    } in
    let L : Option (List ℕ) → Type 0 = λ line. IfErr c.step.result
    (λ e. IsLineCause line e told (stored.catalog store) c.args.self.now.sessions (stored.numbers store) old new) in
    let R : Result Request ℕ → Type 0 = λ read. IfErr c.step.result
    (λ e. IsReadCause read e told (stored.catalog store) c.args.self.now.sessions (stored.numbers store) old new) in
    line_blamed c.step.result told (g.P.Pages.told (stored.pages next)) old new (stored.numbers store)
    (stored.catalog store) c.args.self.now.sessions own c.step.ensures.steps.was_told c.step.ensures.steps.size
    (line_text c.args.line.now) c.step.ensures.unchanged
    (subst L (sym (text_is c.args.line.now short)) (subst R (sym is) c.step.ensures.cause))
