use Rattle.std.proofs.Common.{Option, IfSome, ap, sym, subst}
use Rattle.block_disk.specs.View.{Image}
use Rattle.series_store.specs.Shown as shown
use Rattle.stored_book.specs.Standing.{StandsForBook}
use Rattle.std.proofs.Common.{None}
use Rattle.page_space.specs.declared.superblock.Superblock.{Superblock}
use Rattle.series_book.specs.Edits.{IsEdit}
use Rattle.series_book.specs.declared.edits.Edit.{Edit}
use Rattle.retention.proofs.LookLemmas.{carries_looks, carries_then, commits_looks, commits_then, read_later}
use Rattle.chart_world.specs.FaultLaws.{counts_then, disk_stays}
use Rattle.retention.specs.Faults.{sweep_fault}
use Rattle.retention.proofs.SweepLemmas.{err_ok, looks_sound, next_none, next_some, ok_apart, step_done, step_fails, step_none, step_stops}
use Rattle.retention.specs.Damage.{Asks, IsBadForLook, IsBadForSweep}
use Rattle.stored_book.specs.Damage.{IsBadForEdit}
use Rattle.retention.proofs.DamageLemmas.{blames_by, clear_bad, look_bad}
use Rattle.retention.proofs.sweeping.clear_next.Goals as goal

-- commits

pub returns-in-Err-clause-commits : goal.returns-in-Err-clause-commits
returns-in-Err-clause-commits g c = commits_looks 1 _ _ _ _ _ _ _ _ _ _ c.in-Err.ensures.looks

pub returns-in-Err-clause-idle : goal.returns-in-Err-clause-idle
returns-in-Err-clause-idle g c = λ is. commits_looks 0 _ _ _ _ _ _ _ _ _ _ c.in-Err.ensures.looks

pub returns-in_default-clause-commits : goal.returns-in_default-clause-commits
returns-in_default-clause-commits g c = commits_looks 1 _ _ _ _ _ _ _ _ _ _ c.in-Ok.ensures.looks

pub returns-in_default-clause-idle : goal.returns-in_default-clause-idle
returns-in_default-clause-idle g c = λ is. commits_looks 0 _ _ _ _ _ _ _ _ _ _ c.in-Ok.ensures.looks

pub returns-in-Ok-do_clear-clause-commits : goal.returns-in-Ok-do_clear-clause-commits
returns-in-Ok-do_clear-clause-commits g c =
    commits_then 0 1 (shown.view c.args.store.now) (shown.view c.next_clear.new.store) (shown.view c.do_clear.new.store)
    (commits_looks 0 _ _ _ _ _ _ _ _ _ _ c.in-Ok.ensures.looks) c.in-Ok-do_clear.ensures.commits

pub returns-clause-commits : goal.returns-clause-commits
returns-clause-commits g c =
    commits_then 0 1 (shown.view c.args.store.now) (shown.view c.next_clear.new.store) (shown.view c.do_clear.new.store)
    (commits_looks 0 _ _ _ _ _ _ _ _ _ _ c.in-Ok.ensures.looks) c.in-Err-do_clear.ensures.commits

-- what was done

pub returns-in-Err-clause-steps : goal.returns-in-Err-clause-steps
returns-in-Err-clause-steps g c = λ total book told stands.
    step_fails total book c.args.rule.now c.in-Err.error (shown.view c.args.store.now) (shown.view c.next_clear.new.store)
    (g.met.P.Pages.rests (shown.pages c.args.store.now) c.requires.sound) stands
    (c.in-Err.ensures.looks.image told) c.in-Err.ensures.looks.time (c.in-Err.ensures.outside total book told stands)
    (commits_looks 0 _ _ _ _ _ _ _ _ _ _ c.in-Err.ensures.looks)

pub returns-in-Ok-do_clear-clause-steps : goal.returns-in-Ok-do_clear-clause-steps
returns-in-Ok-do_clear-clause-steps g c = λ total book told stands.
    let S : Image → Type 0 = λ i. StandsForBook i total book in
    let stands' = subst S (sym (c.in-Ok.ensures.looks.image told)) stands in
    let next = next_some total book c.args.rule.now c.in-Ok.next c.in-Some.clear c.in-Some.is
    (c.in-Ok.ensures.next total book told stands) in
    step_done total book c.args.rule.now c.in-Some.clear next c.in-Ok-do_clear.field-0 (shown.view c.args.store.now)
    (shown.view c.next_clear.new.store) (shown.view c.do_clear.new.store)
    (g.met.P.Pages.rests (shown.pages c.args.store.now) c.requires.sound) stands
    c.in-Ok.ensures.looks.time (c.in-Ok-do_clear.ensures.done total book
    (c.in-Ok.ensures.looks.told told) stands' next.after next.slots next.accepted)
    (returns-in-Ok-do_clear-clause-commits g c)

pub returns-clause-steps : goal.returns-clause-steps
returns-clause-steps g c = λ total book told stands.
    let S : Image → Type 0 = λ i. StandsForBook i total book in
    let stands' = subst S (sym (c.in-Ok.ensures.looks.image told)) stands in
    let next = next_some total book c.args.rule.now c.in-Ok.next c.in-Some.clear c.in-Some.is
    (c.in-Ok.ensures.next total book told stands) in
    step_stops total book c.args.rule.now c.in-Some.clear next c.in-Err-do_clear.error (shown.view c.args.store.now)
    (shown.view c.next_clear.new.store) (shown.view c.do_clear.new.store)
    (g.met.P.Pages.rests (shown.pages c.args.store.now) c.requires.sound) stands
    c.in-Ok.ensures.looks.time (c.in-Err-do_clear.ensures.done total book
    (c.in-Ok.ensures.looks.told told) stands' next.after next.slots next.accepted)
    (returns-clause-commits g c)

pub returns-in-Ok-do_clear-clause-faults : goal.returns-in-Ok-do_clear-clause-faults
returns-in-Ok-do_clear-clause-faults g c = counts_then None (shown.view c.args.store.now) (shown.view c.next_clear.new.store)
    (shown.view c.do_clear.new.store) c.in-Ok.ensures.faults c.in-Ok-do_clear.ensures.faults

pub returns-clause-faults : goal.returns-clause-faults
returns-clause-faults g c = counts_then (sweep_fault c.in-Err-do_clear.error) (shown.view c.args.store.now)
    (shown.view c.next_clear.new.store) (shown.view c.do_clear.new.store) c.in-Ok.ensures.faults c.in-Err-do_clear.ensures.faults

pub do_clear-requires-clause-sound : goal.do_clear-requires-clause-sound
do_clear-requires-clause-sound g c = c.in-Ok.ensures.looks.fit c.requires.sound

pub do_clear-requires-clause-is_edit : goal.do_clear-requires-clause-is_edit
do_clear-requires-clause-is_edit g c = let P : Option Edit → Type 0 = λ x. IfSome x IsEdit in subst P c.in-Some.is c.in-Ok.ensures.is_edit

pub returns-in-Err-clause-carries : goal.returns-in-Err-clause-carries
returns-in-Err-clause-carries g c = carries_looks _ _ _ _ _ _ _ _ _ _ c.in-Err.ensures.looks

pub returns-in-Err-clause-cause : goal.returns-in-Err-clause-cause
returns-in-Err-clause-cause g c = c.in-Err.ensures.cause

pub returns-in-Err-clause-faults : goal.returns-in-Err-clause-faults
returns-in-Err-clause-faults g c = c.in-Err.ensures.faults

pub returns-in-Err-clause-sound_for : goal.returns-in-Err-clause-sound_for
returns-in-Err-clause-sound_for g c = looks_sound c.in-Err.error (shown.view c.next_clear.new.store)
    (c.in-Err.ensures.looks.fit c.requires.sound)

pub returns-in_default-clause-steps : goal.returns-in_default-clause-steps
returns-in_default-clause-steps g c = λ total book told stands.
    step_none total book c.args.rule.now (shown.view c.args.store.now) (shown.view c.next_clear.new.store)
    (g.met.P.Pages.rests (shown.pages c.args.store.now) c.requires.sound) stands
    (c.in-Ok.ensures.looks.image told) c.in-Ok.ensures.looks.time (commits_looks 0 _ _ _ _ _ _ _ _ _ _ c.in-Ok.ensures.looks)
    (next_none total book c.args.rule.now c.in-Ok.next c.in_default.is (c.in-Ok.ensures.next total book told stands))

pub returns-in_default-clause-carries : goal.returns-in_default-clause-carries
returns-in_default-clause-carries g c = carries_looks _ _ _ _ _ _ _ _ _ _ c.in-Ok.ensures.looks

pub returns-in_default-clause-faults : goal.returns-in_default-clause-faults
returns-in_default-clause-faults g c = c.in-Ok.ensures.faults

pub returns-in_default-clause-sound : goal.returns-in_default-clause-sound
returns-in_default-clause-sound g c = c.in-Ok.ensures.looks.fit c.requires.sound

pub returns-in-Ok-do_clear-clause-carries : goal.returns-in-Ok-do_clear-clause-carries
returns-in-Ok-do_clear-clause-carries g c = carries_then _ _ _ _ _ _ _ _ _ _ _ _ _ _ _
    (carries_looks _ _ _ _ _ _ _ _ _ _ c.in-Ok.ensures.looks) c.in-Ok-do_clear.ensures.carries

pub returns-in-Ok-do_clear-clause-idle : goal.returns-in-Ok-do_clear-clause-idle
returns-in-Ok-do_clear-clause-idle g c = λ is. absurd (ok_apart is)

pub returns-in-Ok-do_clear-clause-sound : goal.returns-in-Ok-do_clear-clause-sound
returns-in-Ok-do_clear-clause-sound g c = c.in-Ok-do_clear.ensures.sound

pub returns-clause-carries : goal.returns-clause-carries
returns-clause-carries g c = carries_then _ _ _ _ _ _ _ _ _ _ _ _ _ _ _
    (carries_looks _ _ _ _ _ _ _ _ _ _ c.in-Ok.ensures.looks) c.in-Err-do_clear.ensures.carries

pub returns-clause-idle : goal.returns-clause-idle
returns-clause-idle g c = λ is. absurd (err_ok _ _ is)

pub returns-clause-cause : goal.returns-clause-cause
returns-clause-cause g c =
    read_later c.in-Err-do_clear.error (shown.IsTold c.do_clear.new.store) (shown.total c.args.store.now)
    (shown.total c.next_clear.new.store) (shown.view c.args.store.now) (shown.view c.next_clear.new.store)
    (shown.view c.do_clear.new.store)
    (ap (λ (x : Superblock). x.total) c.in-Ok.ensures.looks.superblock)
    (disk_stays (shown.view c.args.store.now) (shown.view c.next_clear.new.store) c.in-Ok.ensures.faults)
    c.in-Err-do_clear.ensures.cause

pub returns-clause-sound_for : goal.returns-clause-sound_for
returns-clause-sound_for g c = c.in-Err-do_clear.ensures.sound_for

pub returns-in-Err-clause-blames : goal.returns-in-Err-clause-blames
returns-in-Err-clause-blames g c =
    let new = c.next_clear.new.store in
    blames_by c.in-Err.error (λ page. shown.IsTold new → IsBadForLook (Asks c.args.rule.now) (shown.view new).size (shown.image new) page)
    (λ page. shown.IsTold new → IsBadForSweep c.args.rule.now (shown.view new).size (shown.image new) page)
    (λ page bad told. look_bad c.args.rule.now (shown.view new).size page (shown.image new) (bad told)) c.in-Err.ensures.blames

pub returns-clause-blames : goal.returns-clause-blames
returns-clause-blames g c =
    let new = c.do_clear.new.store in
    blames_by c.in-Err-do_clear.error (λ page. shown.IsTold new → IsBadForEdit (shown.view new).size (shown.image new) page)
    (λ page. shown.IsTold new → IsBadForSweep c.args.rule.now (shown.view new).size (shown.image new) page)
    (λ page bad told. clear_bad c.args.rule.now (shown.view new).size page (shown.image new) (bad told)) c.in-Err-do_clear.ensures.blames
