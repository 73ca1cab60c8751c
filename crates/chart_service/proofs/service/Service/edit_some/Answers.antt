use Rattle.std.proofs.Common.{◌≡◌, ◌≢◌, ◌∙◌, ◌+◌, ◌<◌, ◌≤◌, Result, Err, length, inr, refl, sym, ap, subst, arith}
use Rattle.std.specs.Prelude.{IfErr}
use Rattle.block_disk.specs.View.{Image}
use Rattle.stored_book.specs.Standing.{StandsForBook}
use Rattle.chart_service.specs.EditDamage.{NamesBadForEdit}
use Rattle.chart_service.specs.EditGroups.{group_end}
use Rattle.chart_service.specs.Stepping.{IsOutside, NamesBad}
use Rattle.chart_service.specs.Shown as shown
use Rattle.series_store.specs.Shown as stored
use Rattle.chart_service.specs.declared.failure.ServiceError.{ServiceError}
use Rattle.chart_service.specs.declared.failure.ServiceError.TheVariants.{DiskFault, NoMemory}
use Rattle.chart_service.proofs.Ends.{err_is}
use Rattle.chart_service.proofs.BlameLemmas.{group_blames, none_first}
use Rattle.chart_service.proofs.Faulting.{quiet_any}
use Rattle.chart_service.proofs.GroupEnds.{group_kept, group_risen, group_steps, frames_more}
use Rattle.chart_service.proofs.Sending.{error_so, ok_so}
use Rattle.chart_service.proofs.StepLemmas.{AreOwn, group_bad, on_ok}
use Rattle.chart_service.proofs.Together.{after_first, whole_passes, group_outside, does_some, few_read}
use Rattle.chart_service.proofs.service.Service.edit_some.Goals as goal

pub returns-in-Err : goal.returns-in-Err
returns-in-Err g c =
    let store = c.args.self.now.store in
    let store' = c.edit_group.new.self in
    let told = g.P.Pages.told (stored.pages store) in
    let told' = g.P.Pages.told (stored.pages store') in
    let old = g.P.Pages.view (stored.pages store) in
    let new = g.P.Pages.view (stored.pages store') in
    let edits = c.args.edits.now in
    let made = c.edit_group.ensures in
    let no = c.in-Err.ensures in
    let error = c.in-Err.error in
    let end = c.group_error.result in
    let own : AreOwn told old (stored.numbers store) (stored.catalog store) = record {
      within = store.space.rules.total_high;
      keeps = λ t. record { spelled = store.space.spelled c.requires.sound t; rules = store.space.rules };
      count = store.count;
      says = λ t. store.told c.requires.sound t;
    } in
    record {
      done = λ total book t stands. tt;
      standing = λ total book t stands. group_outside error end c.group_error.ensures (no.outside total book t stands);
      left = λ total book t stands other.
          let S : Image → Type 0 = λ i. StandsForBook i total book in
          let kept = group_kept error end told old new c.group_error.ensures no.unchanged (λ is. other (ap Err is)) in
          after_first total book edits 0 new.image (subst S (sym (kept.image t)) stands);
      moments = λ total book t stands. whole_passes total book edits old new (made.whole total book t stands);
      reads = made.reads;
      few_reads = λ total book t stands. tt;
      syncs = omega (arith, made.moves.syncs);
      more = tt;
      most = tt;
      fits = λ all. tt;
      replies = λ all. tt;
      sessions = refl;
      disk = λ is. group_risen error end told (stored.numbers store) old new c.group_error.ensures no.cause (err_is is);
      quiet = tt;
      quiet_err = λ other. no.quiet_err (λ is. other (c.group_error.ensures ∙ ap group_end is));
      blames = group_blames error end told told' (stored.catalog store)
          (stored.numbers store) old new c.group_error.ensures own made.moves no.unchanged no.cause;
      idle = λ total book t stands. tt;
      bad = group_bad error end told told' (stored.catalog store)
          (stored.numbers store) old new c.group_error.ensures own made.moves no.unchanged no.cause;
      moves = group_steps told told' old new made.moves;
      goes_on = made.goes_on;
      sound = λ other. (group_kept error end told old new c.group_error.ensures no.unchanged (λ is. other (ap Err is))).fit
          c.requires.sound;
      total = made.total;
    }

pub returns : goal.returns
returns g c =
    let old = g.P.Pages.view (shown.pages c.args.self.now) in
    let new = g.P.Pages.view (stored.pages c.edit_group.new.self) in
    let told = g.P.Pages.told (shown.pages c.args.self.now) in
    let told' = g.P.Pages.told (stored.pages c.edit_group.new.self) in
    let edits = c.args.edits.now in
    let made = c.edit_group.ensures in
    let yes = c.in-Ok.ensures in
    let answers = c.in-Ok.answers.items in
    let slice = c.as_slice.result.now in
    let before = c.args.frames.now.items in
    let now = c.add_frames.new.frames.items in
    let result = c.add_frames.result in
    let ends = c.add_frames.ensures.ends in
    let count = frames_more result answers slice before now c.as_slice.ensures.value c.add_frames.ensures.done in
    record {
      done = λ total book t stands.
          does_some result total book edits answers slice before now new.image c.as_slice.ensures.value yes.covered.1
          (yes.many total book t stands) (yes.done total book t stands) c.add_frames.ensures.done;
      standing = λ total book t stands. error_so result (λ e. e ≡ NoMemory) IsOutside (λ e is. inr is) ends;
      left = λ total book t stands other. after_first total book edits _ new.image (yes.done total book t stands).stands;
      moments = λ total book t stands. whole_passes total book edits old new (made.whole total book t stands);
      reads = made.reads;
      few_reads = λ total book t stands. few_read result answers slice before now _ _ c.as_slice.ensures.value
          (yes.few_reads total book t stands) c.add_frames.ensures.done;
      syncs = omega (arith, made.moves.syncs);
      more = ok_so result (length now ≡ length before + length answers) (length before < length now)
          (λ is. omega (arith, is, yes.covered)) count;
      most = ok_so result (length now ≡ length before + length answers) (length now ≤ length before + length edits)
          (λ is. omega (arith, is, yes.covered)) count;
      fits = c.add_frames.ensures.fits;
      replies = c.add_frames.ensures.replies;
      sessions = refl;
      disk = λ is.
          let E : Result (Unit {0}) ServiceError → Type 0 = λ r. IfErr r (λ e. e ≡ NoMemory) in
          let no : ◌≡◌ {A = ServiceError} DiskFault NoMemory = subst E is ends in
          cc (no);
      quiet = on_ok result _ yes.quiet;
      quiet_err = quiet_any result (λ e. e ≢ DiskFault) (new.faults ≡ old.faults) yes.quiet;
      blames = error_so result (λ e. e ≡ NoMemory) (NamesBadForEdit told' new.size new.image)
          (λ e is. subst (NamesBadForEdit told' new.size new.image) (sym is) tt) ends;
      idle = λ total book t stands. on_ok result _ (λ none. yes.idle total book t stands
          (none_first total book (length answers) edits none));
      bad = error_so result (λ e. e ≡ NoMemory) (NamesBad told' new.size new.image)
          (λ e is. subst (NamesBad told' new.size new.image) (sym is) tt) ends;
      moves = group_steps told told' old new made.moves;
      goes_on = made.goes_on;
      sound = λ other. yes.sound;
      total = made.total;
    }
