use Rattle.std.proofs.Common.{◌∙◌, List, length, take, Err, ap, sym, subst, arith}
use Rattle.std.proofs.lemmas.List.{length-drop}
use Rattle.block_disk.specs.View.{Passes}
use Rattle.chart_world.specs.FaultLaws.{counts_no_disk}
use Rattle.gate_pages.specs.GateLaws.{goes_then}
use Rattle.gate_pages.specs.Pages.{Quiet}
use Rattle.series_book.specs.declared.edits.Edit.{Edit}
use Rattle.series_book.specs.EditLists.{after_edits}
use Rattle.series_store.specs.Groups.{ChangeNone}
use Rattle.series_store.specs.Results.{CommitsNone}
use Rattle.chart_service.specs.EditGroups.{DoesSome, IsAfterSome}
use Rattle.chart_service.specs.Faulting.{step_fault}
use Rattle.chart_service.specs.Shown as shown
use Rattle.chart_service.specs.Stepping.{IsOutside}
use Rattle.chart_service.proofs.BlameLemmas.{none_later}
use Rattle.chart_service.proofs.DiskKept.{group_then, risen_since}
use Rattle.chart_service.proofs.Ends.{err_is, error_is}
use Rattle.chart_service.proofs.Faulting.{counts_error, fault_goes}
use Rattle.chart_service.proofs.Sending.{error_goes}
use Rattle.chart_service.proofs.SyncLemmas.{group_next, group_stop, group_end}
use Rattle.chart_service.proofs.Together.{after_more, after_first, more_done, tail_is, all_done, more_passes, some_replied, some_passes}
use Rattle.chart_service.proofs.service.Service.step_edits.Goals as goal

pub edits-preserved : goal.edits-preserved
edits-preserved g c =
    let view = g.P.Pages.view in
    let told_in = g.P.Pages.told in
    let first = shown.pages c.args.self.now in
    let mid = shown.pages c.edits.self in
    let new = shown.pages c.edit_some.new.self in
    let inv = c.edits.invariant in
    let edits = c.args.edits.now in
    let before = c.edits.frames.items in
    let now = c.edit_some.new.frames.items in
    let yes = c.in_ok-edit_some.ensures in
    let tail = tail_is edits c.len-in-edits.result (length before) (omega (arith, c.len-in-edits.ensures, c.edits.frames.ok)) in
    record {
      fit = c.edit_some.ensures.sound (λ e. let no = sym c.in_ok-edit_some.was ∙ e in cc);
      within = omega (arith, yes.most, ap length tail, length-drop (length before) edits, inv.within);
      has = λ total book told stands.
          let h = inv.has total book told stands in
          let behind = after_edits total book (take (length before) edits) in
          let D : List Edit → Type 0 = λ l. DoesSome total behind l before now (view new).image in
          more_done total book edits before now (view mid).image (view new).image h
          (subst D tail (yes.done total behind (inv.moves.told told) h.stands));
      moments = λ total book told stands.
          let h = inv.has total book told stands in
          let behind = after_edits total book (take (length before) edits) in
          let M : List Edit → Type 0 = λ l. Passes (view mid) (view new) (IsAfterSome total behind l) (Quiet (view mid)) in
          more_passes total book edits (length before) (view first) (view mid) (view new) (inv.moments total book told stands)
          (subst M tail (yes.moments total behind (inv.moves.told told) h.stands));
      reads = λ total book told stands.
          let h = inv.has total book told stands in
          omega (
            arith,
            inv.reads total book told stands,
            yes.few_reads total (after_edits total book (take (length before) edits)) (inv.moves.told told) h.stands,
          );
      idle = λ total book told stands none.
          let h = inv.has total book told stands in
          let behind = after_edits total book (take (length before) edits) in
          let C : List Edit → Type 0 = λ l. ChangeNone total behind l → CommitsNone (view mid) (view new) in
          let so_far = inv.idle total book told stands none in
          let now_too = subst C tail (yes.idle total behind (inv.moves.told told) h.stands)
          (none_later total book (length before) edits none) in
          (now_too.0 ∙ so_far.0, now_too.1 ∙ so_far.1);
      syncs = λ total book told stands.
          let h = inv.has total book told stands in
          let behind = after_edits total book (take (length before) edits) in
          let D : List Edit → Type 0 = λ l. DoesSome total behind l before now (view new).image in
          group_next total book edits before now (view new).image (view first).syncs (view mid).syncs (view new).syncs
          (omega (arith, c.edits-test.true, c.len.ensures))
          (subst D tail (yes.done total behind (inv.moves.told told) h.stands)) c.edit_some.ensures.syncs
          (inv.syncs total book told stands);
      fits = yes.fits inv.fits;
      replies = yes.replies inv.replies;
      sessions = c.edit_some.ensures.sessions ∙ inv.sessions;
      quiet = yes.quiet ∙ inv.quiet;
      moves = group_then (told_in first) (told_in mid) (told_in new) (view first) (view mid) (view new) inv.moves c.edit_some.ensures.moves;
      goes_on = goes_then (g.P.Pages.under first) (g.P.Pages.under mid) (g.P.Pages.under new) inv.goes_on c.edit_some.ensures.goes_on;
      total = c.edit_some.ensures.total ∙ inv.total;
    }

pub returns-in_err-edit_some-clause-standing : goal.returns-in_err-edit_some-clause-standing
returns-in_err-edit_some-clause-standing g c = λ total book told stands.
    let h = c.edits.invariant.has total book told stands in
    error_goes IsOutside c.from_residual.result c.in_err-edit_some.field-0.0 c.from_residual.ensures.1
    (c.in_err-edit_some.ensures.standing total (after_edits total book (take (length c.edits.frames.items) c.args.edits.now))
    (c.edits.invariant.moves.told told) h.stands)

pub returns-in_err-edit_some-clause-left : goal.returns-in_err-edit_some-clause-left
returns-in_err-edit_some-clause-left g c = λ total book told stands other.
    let edits = c.args.edits.now in
    let count = length c.edits.frames.items in
    let h = c.edits.invariant.has total book told stands in
    let behind = after_edits total book (take count edits) in
    let image = (g.P.Pages.view (shown.pages c.edit_some.new.self)).image in
    let tail = tail_is edits c.len-in-edits.result count (omega (arith, c.len-in-edits.ensures, c.edits.frames.ok)) in
    let I : List Edit → Type 0 = λ l. IsAfterSome total behind l image in
    some_replied total book edits c.args.self.now.sessions image (c.is_sound.ensures.state total book c.requires.sound told stands)
    (omega (arith, stands.store.small, stands.total_is)) c.requires.are_edits c.read_names.ensures
    (after_more total book edits count image (subst I tail
    (c.in_err-edit_some.ensures.left total behind (c.edits.invariant.moves.told told) h.stands
    (λ e. other (error_is c.from_residual.result c.in_err-edit_some.field-0.0 c.from_residual.ensures.1 ∙ ap Err (err_is e))))))

pub returns-in_err-edit_some-clause-moments : goal.returns-in_err-edit_some-clause-moments
returns-in_err-edit_some-clause-moments g c = λ total book told stands.
    let view = g.P.Pages.view in
    let first = shown.pages c.args.self.now in
    let mid = shown.pages c.edits.self in
    let new = shown.pages c.edit_some.new.self in
    let edits = c.args.edits.now in
    let count = length c.edits.frames.items in
    let h = c.edits.invariant.has total book told stands in
    let behind = after_edits total book (take count edits) in
    let M : List Edit → Type 0 = λ l. Passes (view mid) (view new) (IsAfterSome total behind l) (Quiet (view mid)) in
    some_passes total book edits c.args.self.now.sessions (view first) (view new)
    (c.is_sound.ensures.state total book c.requires.sound told stands)
    (omega (arith, stands.store.small, stands.total_is)) c.requires.are_edits c.read_names.ensures
    (more_passes total book edits count (view first) (view mid) (view new) (c.edits.invariant.moments total book told stands)
    (subst M (tail_is edits c.len-in-edits.result count (omega (arith, c.len-in-edits.ensures, c.edits.frames.ok)))
    (c.edit_some.ensures.moments total behind (c.edits.invariant.moves.told told) h.stands)))

pub returns-in_err-edit_some-clause-reads : goal.returns-in_err-edit_some-clause-reads
returns-in_err-edit_some-clause-reads g c = λ total book told stands.
    let edits = c.args.edits.now in
    let h = c.edits.invariant.has total book told stands in
    omega (
      arith,
      c.edits.invariant.reads total book told stands,
      c.edits.invariant.within,
      ap length (tail_is edits c.len-in-edits.result (length c.edits.frames.items)
          (omega (arith, c.len-in-edits.ensures, c.edits.frames.ok))),
      length-drop (length c.edits.frames.items) edits,
      c.edit_some.ensures.reads total (after_edits total book (take (length c.edits.frames.items) edits))
          (c.edits.invariant.moves.told told) h.stands,
    )

pub returns-clause-reply : goal.returns-clause-reply
returns-clause-reply g c = λ total book told stands.
    all_done total book c.args.edits.now c.args.self.now.sessions c.edits.self.sessions c.edits.frames.items
    (g.P.Pages.view (shown.pages c.edits.self)).image (c.is_sound.ensures.state total book c.requires.sound told stands)
    (omega (arith, stands.store.small, stands.total_is)) c.requires.are_edits c.read_names.ensures
    c.edits.invariant.sessions (omega (arith, c.edits-test.false, c.len.ensures)) (c.edits.invariant.has total book told stands)

pub returns-clause-left : goal.returns-clause-left
returns-clause-left g c = λ total book told stands other.
    let image = (g.P.Pages.view (shown.pages c.edits.self)).image in
    some_replied total book c.args.edits.now c.args.self.now.sessions image
    (c.is_sound.ensures.state total book c.requires.sound told stands)
    (omega (arith, stands.store.small, stands.total_is)) c.requires.are_edits c.read_names.ensures
    (after_first total book c.args.edits.now (length c.edits.frames.items) image (c.edits.invariant.has total book told stands).stands)

pub returns-clause-moments : goal.returns-clause-moments
returns-clause-moments g c = λ total book told stands.
    some_passes total book c.args.edits.now c.args.self.now.sessions (g.P.Pages.view (shown.pages c.args.self.now))
    (g.P.Pages.view (shown.pages c.edits.self)) (c.is_sound.ensures.state total book c.requires.sound told stands)
    (omega (arith, stands.store.small, stands.total_is)) c.requires.are_edits c.read_names.ensures
    (c.edits.invariant.moments total book told stands)

pub returns-clause-reads : goal.returns-clause-reads
returns-clause-reads g c = λ total book told stands. omega (arith, c.edits.invariant.reads total book told stands, c.edits.invariant.within)

pub returns-in_err-edit_some-clause-syncs : goal.returns-in_err-edit_some-clause-syncs
returns-in_err-edit_some-clause-syncs g c = λ total book told stands.
    group_stop total book c.args.edits.now (length c.edits.frames.items) _ _ _
    (omega (arith, c.edits-test.true, c.len.ensures)) c.edit_some.ensures.syncs (c.edits.invariant.syncs total book told stands)

pub returns-clause-syncs : goal.returns-clause-syncs
returns-clause-syncs g c = λ total book told stands. group_end total book c.args.edits.now (length c.edits.frames.items) _ _
    (c.edits.invariant.syncs total book told stands)

pub returns-in_err-edit_some-clause-faults : goal.returns-in_err-edit_some-clause-faults
returns-in_err-edit_some-clause-faults g c =
    let view = g.P.Pages.view in
    let first = view (shown.pages c.args.self.now) in
    let mid = view (shown.pages c.edits.self) in
    let new = view (shown.pages c.edit_some.new.self) in
    let inv = c.edits.invariant in
    let no = c.in_err-edit_some.ensures in
    let e = c.in_err-edit_some.field-0.0 in
    fault_goes step_fault c.from_residual.result e first new c.from_residual.ensures.1
    (counts_error e first new (c.edit_some.ensures.moves.beside
    ∙ inv.moves.beside) (λ is. risen_since first.faults mid.faults new.faults inv.quiet (no.disk (ap Err is)))
    (λ other. no.quiet_err other ∙ inv.quiet))

pub returns-clause-faults : goal.returns-clause-faults
returns-clause-faults g c =
    let inv = c.edits.invariant in
    counts_no_disk (g.P.Pages.view (shown.pages c.args.self.now)) (g.P.Pages.view (shown.pages c.edits.self)) inv.moves.beside inv.quiet

pub returns-clause-idle : goal.returns-clause-idle
returns-clause-idle g c = λ total book told stands. c.edits.invariant.idle total book told stands
