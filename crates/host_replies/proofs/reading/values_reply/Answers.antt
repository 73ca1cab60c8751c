use Rattle.std.proofs.Common.{◌≡◌, ◌∙◌, ℕ, ℤ, Option, None, Some, rules, sym, ap, subst, arith, inl, inr, to_z, of_z}
use Rattle.std.specs.Int.{w128}
use Rattle.std.proofs.lemmas.Int.{to_z-of_z}
use Rattle.chart_frames.specs.declared.frame.Frame.TheVariants.{Report}
use Rattle.chart_frames.specs.declared.reports.ValuesFrame.{ValuesFrame}
use Rattle.chart_frames.specs.declared.reports.Report.TheVariants.{Values}
use Rattle.chart_grid.specs.Limits.{IsBadWindow, IsWindow}
use Rattle.chart_service.specs.Faulting.{step_fault}
use Rattle.chart_service.specs.Stepping.{IsOutside}
use Rattle.chart_service.specs.declared.failure.ServiceError.{ServiceError}
use Rattle.chart_world.specs.Faults.{CountsFault}
use Rattle.host_lines.specs.declared.asked.HostLine.TheVariants as line
use Rattle.host_reports.specs.Reports.{values_of}
use Rattle.series_book.specs.Edits.{id_of}
use Rattle.series_store.specs.Shown as stored
use Rattle.series_store.proofs.NameLemmas.{named_record}
use Rattle.host_replies.specs.Replies.{IsPageCause, TellsValuesOf}
use Rattle.host_replies.proofs.LookLemmas.{looks_at}
use Rattle.host_replies.proofs.ReadLemmas.{Names, found_there, read_faults, read_outside, values_cause, values_told}
use Rattle.host_replies.proofs.reading.values_reply.Goals as goal

pub returns-in_default-clause-reply : goal.returns-in_default-clause-reply
returns-in_default-clause-reply g c = λ total book told stands.
    let none : id_of c.args.name.now book ≡ None = c.in_default.ensures.info total book c.requires.sound told stands in
    let O : Option ℕ → Type 0 = λ o. TellsValuesOf o book c.args.t0 c.args.t1 c.refused.result in
    subst O (sym none) c.refused.ensures.frame

pub returns-then-is_bad_window-clause-reply : goal.returns-then-is_bad_window-clause-reply
returns-then-is_bad_window-clause-reply g c = λ total book told stands.
    let id = c.in-Some.info.id in
    let named : id_of c.args.name.now book ≡ Some id = (c.in-Some.ensures.info total book c.requires.sound told stands).0 in
    let t0 = to_z w128 (of_z w128 c.args.t0) in
    let t1 = to_z w128 (of_z w128 c.args.t1) in
    let passed : IsBadWindow t0 t1 = c.is_bad_window.ensures.bad c.if-is_bad_window.true in
    let A : ℤ → Type 0 = λ t. IsBadWindow t t1 in
    let B : ℤ → Type 0 = λ t. IsBadWindow c.args.t0 t in
    let bad = subst B (to_z-of_z w128 c.args.t1 c.ranges.t1) (subst A (to_z-of_z w128 c.args.t0 c.ranges.t0) passed) in
    values_told c.args.name.now c.args.t0 c.args.t1 total book id c.refused-then-is_bad_window.result named
    (λ series there. inl (bad, c.refused-then-is_bad_window.ensures.frame))

pub returns-in-Ok-clause-reply : goal.returns-in-Ok-clause-reply
returns-in-Ok-clause-reply g c = λ total book told stands.
    let id = c.in-Some.info.id in
    let named : id_of c.args.name.now book ≡ Some id = (c.in-Some.ensures.info total book c.requires.sound told stands).0 in
    let t0 = to_z w128 (of_z w128 c.args.t0) in
    let t1 = to_z w128 (of_z w128 c.args.t1) in
    let from = to_z-of_z w128 c.args.t0 c.ranges.t0 in
    let to = to_z-of_z w128 c.args.t1 c.ranges.t1 in
    let passed : IsWindow t0 t1 = c.is_bad_window.ensures.good c.if-is_bad_window.false in
    let A : ℤ → Type 0 = λ t. IsWindow t t1 in
    let B : ℤ → Type 0 = λ t. IsWindow c.args.t0 t in
    let good = subst B to (subst A from passed) in
    values_told c.args.name.now c.args.t0 c.args.t1 total book id (Report (Values c.in-Ok.values)) named (λ series there.
    let are : c.in-Ok.values ≡ values_of id series t0 t1 = c.in-Ok.ensures.frame total book series told stands there in
    inr (
      good,
      ap (λ (v : ValuesFrame). Report (Values v)) (are ∙ ap (λ (t : ℤ). values_of id series t t1) from
          ∙ ap (λ (t : ℤ). values_of id series c.args.t0 t) to),
    ))

pub returns-in-Err-clause-standing : goal.returns-in-Err-clause-standing
returns-in-Err-clause-standing g c = λ total book told stands.
    let id = c.in-Some.info.id in
    let named : id_of c.args.name.now book ≡ Some id = (c.in-Some.ensures.info total book c.requires.sound told stands).0 in
    let it = found_there c.args.name.now book id named in
    subst IsOutside (sym c.read_error.ensures) (read_outside c.in-Err.error (c.in-Err.ensures.stands total book it.0 told stands it.1))

pub returns-in-Err-clause-cause : goal.returns-in-Err-clause-cause
returns-in-Err-clause-cause g c =
    let id = c.in-Some.info.id in
    let name = c.args.name.now in
    let at = c.args.store.now in
    let later = c.values_frame.new.store in
    let old = stored.view at in
    let new = stored.view later in
    let sound = c.requires.sound in
    let names : Names (stored.IsTold at) old (stored.numbers at) id name = record {
      within = at.space.rules.total_high;
      keeps = λ t. record { spelled = at.space.spelled sound t; rules = at.space.rules };
      there = omega (arith, c.in-Some.ensures.there, at.count);
      named = λ t. named_record old.image (stored.catalog at) name id c.in-Some.ensures.there (at.told sound t) c.in-Some.ensures.named;
    } in
    let looks = looks_at (stored.IsTold at) (stored.IsTold later) old new (stored.under at) (stored.under later) (stored.numbers at)
    (stored.numbers later) (stored.kept_catalog at) (stored.kept_catalog later) c.in-Err.ensures.looks c.in-Err.ensures.catalog in
    let E : ServiceError → Type 0 = λ e. IsPageCause e (line.Values name c.args.t0 c.args.t1) (stored.IsTold later) old new in
    subst E (sym c.read_error.ensures)
    (values_cause (stored.IsTold at) (stored.IsTold later) old new (stored.under at) (stored.under later) (stored.numbers at)
    (stored.numbers later) (stored.kept_catalog at) (stored.kept_catalog later) looks
    name c.args.t0 c.args.t1 id c.in-Err.error names c.in-Err.ensures.cause)

pub returns-in-Err-clause-faults : goal.returns-in-Err-clause-faults
returns-in-Err-clause-faults g c =
    let at = c.args.store.now in
    let old = stored.view at in
    let new = stored.view c.values_frame.new.store in
    let F : ServiceError → Type 0 = λ e. CountsFault (step_fault e) old new in
    subst F (sym c.read_error.ensures) (read_faults (stored.IsTold at)
    (stored.numbers at) c.in-Some.info.id c.in-Err.error old new c.in-Err.ensures.looks.kept.beside c.in-Err.ensures.quiet_err
    c.in-Err.ensures.cause)
