use Rattle.std.proofs.Common.{◌≡◌, ◌+◌, ◌<◌, Ok, None, true, false, ap, refl, arith}
use Rattle.series_store.specs.Shown as shown
use Rattle.chart_world.specs.FaultLaws.{counts_then, disk_stays}
use Rattle.retention.specs.Faults.{sweep_fault}
use Rattle.retention.proofs.LookLemmas.{carries_looks, carries_none, carries_then, commits_looks, commits_more, commits_then, read_later}
use Rattle.retention.proofs.LookLemmas.{read_sweeps}
use Rattle.retention.proofs.SweepLemmas.{going_commits, going_few, going_more, going_none, is_known, later_moments, look_commits}
use Rattle.retention.proofs.SweepLemmas.{look_moments, look_stops, looks_sound, swept_end, swept_last, swept_stops}
use Rattle.retention.specs.Damage.{Asks, IsBadForLook, IsBadForSweep}
use Rattle.retention.proofs.DamageLemmas.{blames_by, look_bad}
use Rattle.retention.proofs.sweeping.clear_some.Goals as goal

-- ---- a clear failed

pub returns-in-Err-clause-stops : goal.returns-in-Err-clause-stops
returns-in-Err-clause-stops g c = λ total book told stands.
    let was = c.clearing.invariant in
    let going = was.going total book told stands in
    swept_stops total book c.args.rule.now c.args.most c.clearing.clears c.in-Err.error (shown.view c.args.store.now)
    (shown.view c.clearing.store) (shown.view c.clear_next.new.store) was.few going
    (c.in-Err.ensures.steps total going.after (was.carries.told told) going.stands)

pub returns-in-Err-clause-moments : goal.returns-in-Err-clause-moments
returns-in-Err-clause-moments g c = λ total book told stands.
    let was = c.clearing.invariant in
    let going = was.going total book told stands in
    let low : c.clearing.clears < c.args.most = c.clearing-test.true in
    later_moments total book c.args.rule.now c.args.most c.clearing.clears (shown.view c.args.store.now) (shown.view c.clearing.store)
    (shown.view c.clear_next.new.store) low going
    (c.in-Err.ensures.steps total going.after (was.carries.told told) going.stands).moments

pub returns-in-Err-clause-commits : goal.returns-in-Err-clause-commits
returns-in-Err-clause-commits g c = λ total book told stands.
    let was = c.clearing.invariant in
    let going = was.going total book told stands in
    let low : c.clearing.clears < c.args.most = c.clearing-test.true in
    going_commits total book c.args.rule.now c.args.most c.clearing.clears (shown.view c.args.store.now) (shown.view c.clearing.store)
    (shown.view c.clear_next.new.store) low going was.commits
    (c.in-Err.ensures.steps total going.after (was.carries.told told) going.stands).commits

pub returns-in-Err-clause-within : goal.returns-in-Err-clause-within
returns-in-Err-clause-within g c =
    let low : c.clearing.clears < c.args.most = c.clearing-test.true in
    commits_more (c.clearing.clears + 1) c.args.most (shown.view c.args.store.now) (shown.view c.clear_next.new.store) (omega (arith, low))
    (commits_then c.clearing.clears 1 (shown.view c.args.store.now) (shown.view c.clearing.store)
    (shown.view c.clear_next.new.store) c.clearing.invariant.commits c.in-Err.ensures.commits)

pub returns-in-Err-clause-known : goal.returns-in-Err-clause-known
returns-in-Err-clause-known g c = is_known c.in-Err.error (shown.IsTold c.clear_next.new.store) (shown.total c.clearing.store)
    (shown.view c.clearing.store) (shown.view c.clear_next.new.store) c.in-Err.ensures.cause

pub returns-in-Err-clause-carries : goal.returns-in-Err-clause-carries
returns-in-Err-clause-carries g c = carries_then _ _ _ _ _ _ _ _ _ _ _ _ _ _ _ c.clearing.invariant.carries c.in-Err.ensures.carries

pub returns-in-Err-clause-cause : goal.returns-in-Err-clause-cause
returns-in-Err-clause-cause g c =
    read_sweeps c.in-Err.error (shown.IsTold c.clear_next.new.store) (shown.total c.args.store.now) (shown.view c.args.store.now)
    (shown.view c.clear_next.new.store)
    (read_later c.in-Err.error (shown.IsTold c.clear_next.new.store) (shown.total c.args.store.now) (shown.total c.clearing.store)
    (shown.view c.args.store.now) (shown.view c.clearing.store) (shown.view c.clear_next.new.store)
    c.clearing.invariant.carries.total_is (disk_stays (shown.view c.args.store.now)
    (shown.view c.clearing.store) c.clearing.invariant.quiet) c.in-Err.ensures.cause)

pub returns-in-Err-clause-faults : goal.returns-in-Err-clause-faults
returns-in-Err-clause-faults g c = counts_then (sweep_fault c.in-Err.error) (shown.view c.args.store.now) (shown.view c.clearing.store)
    (shown.view c.clear_next.new.store) c.clearing.invariant.quiet c.in-Err.ensures.faults

pub returns-in-Err-clause-sound_for : goal.returns-in-Err-clause-sound_for
returns-in-Err-clause-sound_for g c = c.in-Err.ensures.sound_for

-- ---- no clear was left

pub returns-then-not-more-clause-done : goal.returns-then-not-more-clause-done
returns-then-not-more-clause-done g c = λ total book told stands.
    let was = c.clearing.invariant in
    let going = was.going total book told stands in
    let is : c.in-Ok.more ≡ false = c.if-not-more.true in
    let low : c.clearing.clears < c.args.most = c.clearing-test.true in
    swept_end total book c.args.rule.now c.args.most c.clearing.clears _ c.in-Ok.more (shown.view c.args.store.now)
    (shown.view c.clearing.store) (shown.view c.clear_next.new.store) low going is
    (c.in-Ok.ensures.steps total going.after (was.carries.told told) going.stands)
    (λ after there. c.used-used.ensures.books total after c.in-Ok.ensures.sound
    (c.in-Ok.ensures.carries.told (was.carries.told told)) there)

pub returns-then-not-more-clause-moments : goal.returns-then-not-more-clause-moments
returns-then-not-more-clause-moments g c = λ total book told stands.
    let was = c.clearing.invariant in
    let going = was.going total book told stands in
    let low : c.clearing.clears < c.args.most = c.clearing-test.true in
    later_moments total book c.args.rule.now c.args.most c.clearing.clears (shown.view c.args.store.now) (shown.view c.clearing.store)
    (shown.view c.clear_next.new.store) low going (c.in-Ok.ensures.steps total going.after (was.carries.told told) going.stands).moments

pub returns-then-not-more-clause-commits : goal.returns-then-not-more-clause-commits
returns-then-not-more-clause-commits g c = λ total book told stands.
    let was = c.clearing.invariant in
    let going = was.going total book told stands in
    let low : c.clearing.clears < c.args.most = c.clearing-test.true in
    going_commits total book c.args.rule.now c.args.most c.clearing.clears (shown.view c.args.store.now) (shown.view c.clearing.store)
    (shown.view c.clear_next.new.store) low going was.commits
    (c.in-Ok.ensures.steps total going.after (was.carries.told told) going.stands).commits

pub returns-then-not-more-clause-within : goal.returns-then-not-more-clause-within
returns-then-not-more-clause-within g c =
    let is : c.in-Ok.more ≡ false = c.if-not-more.true in
    let was = c.clearing.invariant in
    commits_more (c.clearing.clears + 0) c.args.most (shown.view c.args.store.now) (shown.view c.clear_next.new.store)
    (omega (arith, was.few))
    (commits_then c.clearing.clears 0 (shown.view c.args.store.now) (shown.view c.clearing.store)
    (shown.view c.clear_next.new.store) was.commits (c.in-Ok.ensures.idle (ap Ok is)))

pub returns-then-not-more-clause-each : goal.returns-then-not-more-clause-each
returns-then-not-more-clause-each g c =
    let is : c.in-Ok.more ≡ false = c.if-not-more.true in
    commits_more (c.clearing.clears + 0) c.clearing.clears (shown.view c.args.store.now) (shown.view c.clear_next.new.store) (omega arith)
    (commits_then c.clearing.clears 0 (shown.view c.args.store.now) (shown.view c.clearing.store)
    (shown.view c.clear_next.new.store) c.clearing.invariant.commits (c.in-Ok.ensures.idle (ap Ok is)))

pub returns-then-not-more-clause-few : goal.returns-then-not-more-clause-few
returns-then-not-more-clause-few g c = c.clearing.invariant.few

pub returns-then-not-more-clause-carries : goal.returns-then-not-more-clause-carries
returns-then-not-more-clause-carries g c = carries_then _ _ _ _ _ _ _ _ _ _ _ _ _ _ _ c.clearing.invariant.carries c.in-Ok.ensures.carries

pub returns-then-not-more-clause-faults : goal.returns-then-not-more-clause-faults
returns-then-not-more-clause-faults g c = counts_then None (shown.view c.args.store.now) (shown.view c.clearing.store)
    (shown.view c.clear_next.new.store) c.clearing.invariant.quiet c.in-Ok.ensures.faults

pub returns-then-not-more-clause-sound : goal.returns-then-not-more-clause-sound
returns-then-not-more-clause-sound g c = c.in-Ok.ensures.sound

-- ---- clear by clear

pub clearing-init : goal.clearing-init
clearing-init g c =
    let store = c.args.store.now in
    record {
      sound = c.requires.sound;
      carries = carries_none (shown.IsTold store) (shown.view store) (shown.under store) (shown.total store) _;
      quiet = refl;
      few = omega arith;
      commits = record { syncs = omega arith; writes = omega arith };
      reads = omega arith;
      going = λ total book told stands. going_none total book c.args.rule.now c.args.most (shown.view store) stands;
    }

pub clear_next-requires : goal.clear_next-requires
clear_next-requires g c = record { sound = c.clearing.invariant.sound }

pub clearing-preserved : goal.clearing-preserved
clearing-preserved g c =
    let was = c.clearing.invariant in
    let is : c.in-Ok.more ≡ true = c.if-not-more.false in
    let low : c.clearing.clears < c.args.most = c.clearing-test.true in
    record {
      sound = c.in-Ok.ensures.sound;
      carries = carries_then _ _ _ _ _ _ _ _ _ _ _ _ _ _ _ was.carries c.in-Ok.ensures.carries;
      quiet = counts_then None (shown.view c.args.store.now) (shown.view c.clearing.store)
          (shown.view c.clear_next.new.store) was.quiet c.in-Ok.ensures.faults;
      few = omega (arith, low);
      commits = commits_then c.clearing.clears 1 (shown.view c.args.store.now) (shown.view c.clearing.store)
          (shown.view c.clear_next.new.store) was.commits c.in-Ok.ensures.commits;
      reads = omega (arith, was.reads, c.in-Ok.ensures.reads);
      going = λ total book told stands.
          let going = was.going total book told stands in
          going_more total book c.args.rule.now c.args.most c.clearing.clears c.in-Ok.more (shown.view c.args.store.now)
          (shown.view c.clearing.store) (shown.view c.clear_next.new.store) low going is
          (c.in-Ok.ensures.steps total going.after (was.carries.told told) going.stands);
    }

-- ---- as many were made as may be

pub next_clear-requires : goal.next_clear-requires
next_clear-requires g c = record { sound = c.clearing.invariant.sound }

pub returns-in-Err-next_clear-clause-known : goal.returns-in-Err-next_clear-clause-known
returns-in-Err-next_clear-clause-known g c = is_known c.in-Err-next_clear.error (shown.IsTold c.next_clear.new.store)
    (shown.total c.clearing.store) (shown.view c.clearing.store) (shown.view c.next_clear.new.store) c.in-Err-next_clear.ensures.cause

pub returns-in-Err-next_clear-clause-stops : goal.returns-in-Err-next_clear-clause-stops
returns-in-Err-next_clear-clause-stops g c = λ total book told stands.
    let was = c.clearing.invariant in
    let going = was.going total book told stands in
    let told' = was.carries.told told in
    look_stops total book c.args.rule.now c.args.most c.clearing.clears c.in-Err-next_clear.error (shown.view c.args.store.now)
    (shown.view c.clearing.store) (shown.view c.next_clear.new.store) was.few going
    (c.in-Err-next_clear.ensures.looks.image told') (c.in-Err-next_clear.ensures.outside total going.after told' going.stands)

pub returns-in-Err-next_clear-clause-moments : goal.returns-in-Err-next_clear-clause-moments
returns-in-Err-next_clear-clause-moments g c = λ total book told stands.
    let was = c.clearing.invariant in
    look_moments total book c.args.rule.now c.args.most c.clearing.clears (shown.view c.args.store.now) (shown.view c.clearing.store)
    (shown.view c.next_clear.new.store) was.few (was.going total book told stands)
    (g.met.P.Pages.rests (shown.pages c.clearing.store) was.sound) c.in-Err-next_clear.ensures.looks.time

pub returns-in-Err-next_clear-clause-carries : goal.returns-in-Err-next_clear-clause-carries
returns-in-Err-next_clear-clause-carries g c = carries_then _ _ _ _ _ _ _ _ _ _ _ _ _ _ _ c.clearing.invariant.carries
    (carries_looks _ _ _ _ _ _ _ _ _ _ c.in-Err-next_clear.ensures.looks)

pub returns-in-Err-next_clear-clause-commits : goal.returns-in-Err-next_clear-clause-commits
returns-in-Err-next_clear-clause-commits g c = λ total book told stands.
    let was = c.clearing.invariant in
    look_commits total book c.args.rule.now c.args.most c.clearing.clears (shown.view c.args.store.now) (shown.view c.clearing.store)
    (shown.view c.next_clear.new.store) was.few (was.going total book told stands) was.commits
    (commits_looks 0 _ _ _ _ _ _ _ _ _ _ c.in-Err-next_clear.ensures.looks)

pub returns-in-Err-next_clear-clause-within : goal.returns-in-Err-next_clear-clause-within
returns-in-Err-next_clear-clause-within g c =
    let was = c.clearing.invariant in
    commits_more (c.clearing.clears + 0) c.args.most (shown.view c.args.store.now) (shown.view c.next_clear.new.store)
    (omega (arith, was.few))
    (commits_then c.clearing.clears 0 (shown.view c.args.store.now) (shown.view c.clearing.store)
    (shown.view c.next_clear.new.store) was.commits (commits_looks 0 _ _ _ _ _ _ _ _ _ _ c.in-Err-next_clear.ensures.looks))

pub returns-in-Err-next_clear-clause-cause : goal.returns-in-Err-next_clear-clause-cause
returns-in-Err-next_clear-clause-cause g c =
    read_sweeps c.in-Err-next_clear.error (shown.IsTold c.next_clear.new.store) (shown.total c.args.store.now) (shown.view c.args.store.now)
    (shown.view c.next_clear.new.store)
    (read_later c.in-Err-next_clear.error (shown.IsTold c.next_clear.new.store) (shown.total c.args.store.now)
    (shown.total c.clearing.store) (shown.view c.args.store.now) (shown.view c.clearing.store) (shown.view c.next_clear.new.store)
    c.clearing.invariant.carries.total_is (disk_stays (shown.view c.args.store.now)
    (shown.view c.clearing.store) c.clearing.invariant.quiet) c.in-Err-next_clear.ensures.cause)

pub returns-in-Err-next_clear-clause-faults : goal.returns-in-Err-next_clear-clause-faults
returns-in-Err-next_clear-clause-faults g c = counts_then (sweep_fault c.in-Err-next_clear.error) (shown.view c.args.store.now)
    (shown.view c.clearing.store) (shown.view c.next_clear.new.store) c.clearing.invariant.quiet c.in-Err-next_clear.ensures.faults

pub returns-in-Err-next_clear-clause-sound_for : goal.returns-in-Err-next_clear-clause-sound_for
returns-in-Err-next_clear-clause-sound_for g c = looks_sound c.in-Err-next_clear.error (shown.view c.next_clear.new.store)
    (c.in-Err-next_clear.ensures.looks.fit c.clearing.invariant.sound)

pub returns-clause-done : goal.returns-clause-done
returns-clause-done g c = λ total book told stands.
    let was = c.clearing.invariant in
    let going = was.going total book told stands in
    let told' = was.carries.told told in
    swept_last total book c.args.rule.now c.args.most c.clearing.clears c.used-used-2.result c.is_some-more.result c.in-Ok-next_clear.next
    (shown.view c.args.store.now) (shown.view c.clearing.store) (shown.view c.next_clear.new.store) was.few c.clearing-test.false going
    (c.in-Ok-next_clear.ensures.looks.image told') c.is_some-more.ensures
    (c.in-Ok-next_clear.ensures.next total going.after told' going.stands)
    (λ after there. c.used-used-2.ensures.books total after (c.in-Ok-next_clear.ensures.looks.fit was.sound)
    (c.in-Ok-next_clear.ensures.looks.told told') there)

pub returns-clause-moments : goal.returns-clause-moments
returns-clause-moments g c = λ total book told stands.
    let was = c.clearing.invariant in
    look_moments total book c.args.rule.now c.args.most c.clearing.clears (shown.view c.args.store.now) (shown.view c.clearing.store)
    (shown.view c.next_clear.new.store) was.few (was.going total book told stands)
    (g.met.P.Pages.rests (shown.pages c.clearing.store) was.sound) c.in-Ok-next_clear.ensures.looks.time

pub returns-clause-carries : goal.returns-clause-carries
returns-clause-carries g c = carries_then _ _ _ _ _ _ _ _ _ _ _ _ _ _ _ c.clearing.invariant.carries
    (carries_looks _ _ _ _ _ _ _ _ _ _ c.in-Ok-next_clear.ensures.looks)

pub returns-clause-commits : goal.returns-clause-commits
returns-clause-commits g c = λ total book told stands.
    let was = c.clearing.invariant in
    look_commits total book c.args.rule.now c.args.most c.clearing.clears (shown.view c.args.store.now) (shown.view c.clearing.store)
    (shown.view c.next_clear.new.store) was.few (was.going total book told stands) was.commits
    (commits_looks 0 _ _ _ _ _ _ _ _ _ _ c.in-Ok-next_clear.ensures.looks)

pub returns-clause-within : goal.returns-clause-within
returns-clause-within g c =
    let was = c.clearing.invariant in
    commits_more (c.clearing.clears + 0) c.args.most (shown.view c.args.store.now) (shown.view c.next_clear.new.store)
    (omega (arith, was.few))
    (commits_then c.clearing.clears 0 (shown.view c.args.store.now) (shown.view c.clearing.store)
    (shown.view c.next_clear.new.store) was.commits (commits_looks 0 _ _ _ _ _ _ _ _ _ _ c.in-Ok-next_clear.ensures.looks))

pub returns-clause-each : goal.returns-clause-each
returns-clause-each g c =
    commits_more (c.clearing.clears + 0) c.clearing.clears (shown.view c.args.store.now) (shown.view c.next_clear.new.store) (omega arith)
    (commits_then c.clearing.clears 0 (shown.view c.args.store.now) (shown.view c.clearing.store)
    (shown.view c.next_clear.new.store) c.clearing.invariant.commits
    (commits_looks 0 _ _ _ _ _ _ _ _ _ _ c.in-Ok-next_clear.ensures.looks))

pub returns-clause-few : goal.returns-clause-few
returns-clause-few g c = c.clearing.invariant.few

pub returns-clause-faults : goal.returns-clause-faults
returns-clause-faults g c = counts_then None (shown.view c.args.store.now) (shown.view c.clearing.store)
    (shown.view c.next_clear.new.store) c.clearing.invariant.quiet c.in-Ok-next_clear.ensures.faults

pub returns-clause-sound : goal.returns-clause-sound
returns-clause-sound g c = c.in-Ok-next_clear.ensures.looks.fit c.clearing.invariant.sound

-- ---- blocks

pub returns-in-Err-clause-reads : goal.returns-in-Err-clause-reads
returns-in-Err-clause-reads g c = omega (arith, c.clearing.invariant.reads, c.in-Err.ensures.reads, c.clearing-test.true)

pub returns-then-not-more-clause-reads : goal.returns-then-not-more-clause-reads
returns-then-not-more-clause-reads g c = omega (arith, c.clearing.invariant.reads, c.in-Ok.ensures.reads, c.clearing-test.true)

pub returns-in-Err-next_clear-clause-reads : goal.returns-in-Err-next_clear-clause-reads
returns-in-Err-next_clear-clause-reads g c = omega (
  arith,
  c.clearing.invariant.reads,
  c.clearing.invariant.few,
  c.in-Err-next_clear.ensures.reads,
)

pub returns-clause-reads : goal.returns-clause-reads
returns-clause-reads g c = omega (arith, c.clearing.invariant.reads, c.clearing.invariant.few, c.in-Ok-next_clear.ensures.reads)

-- ---- how much was read, where the pages stand for a book

pub returns-in-Err-clause-few_reads : goal.returns-in-Err-clause-few_reads
returns-in-Err-clause-few_reads g c = λ total book told stands.
    let was = c.clearing.invariant in
    omega (
      arith,
      was.reads,
      c.in-Err.ensures.reads,
      going_few total book c.args.rule.now c.args.most c.clearing.clears (shown.view c.args.store.now)
          (shown.view c.clearing.store) was.few (was.going total book told stands),
    )

pub returns-then-not-more-clause-few_reads : goal.returns-then-not-more-clause-few_reads
returns-then-not-more-clause-few_reads g c = λ total book told stands.
    let was = c.clearing.invariant in
    omega (
      arith,
      was.reads,
      c.in-Ok.ensures.reads,
      going_few total book c.args.rule.now c.args.most c.clearing.clears (shown.view c.args.store.now)
          (shown.view c.clearing.store) was.few (was.going total book told stands),
    )

pub returns-in-Err-next_clear-clause-few_reads : goal.returns-in-Err-next_clear-clause-few_reads
returns-in-Err-next_clear-clause-few_reads g c = λ total book told stands.
    let was = c.clearing.invariant in
    omega (
      arith,
      was.reads,
      c.in-Err-next_clear.ensures.reads,
      going_few total book c.args.rule.now c.args.most c.clearing.clears (shown.view c.args.store.now)
          (shown.view c.clearing.store) was.few (was.going total book told stands),
    )

pub returns-clause-few_reads : goal.returns-clause-few_reads
returns-clause-few_reads g c = λ total book told stands.
    let was = c.clearing.invariant in
    omega (
      arith,
      was.reads,
      c.in-Ok-next_clear.ensures.reads,
      going_few total book c.args.rule.now c.args.most c.clearing.clears (shown.view c.args.store.now)
          (shown.view c.clearing.store) was.few (was.going total book told stands),
    )

-- ---- the page that is called damaged

pub returns-in-Err-clause-blames : goal.returns-in-Err-clause-blames
returns-in-Err-clause-blames g c = c.in-Err.ensures.blames

pub returns-in-Err-next_clear-clause-blames : goal.returns-in-Err-next_clear-clause-blames
returns-in-Err-next_clear-clause-blames g c =
    let new = c.next_clear.new.store in
    blames_by c.in-Err-next_clear.error (λ page. shown.IsTold new
    → IsBadForLook (Asks c.args.rule.now) (shown.view new).size (shown.image new) page)
    (λ page. shown.IsTold new → IsBadForSweep c.args.rule.now (shown.view new).size (shown.image new) page)
    (λ page bad told. look_bad c.args.rule.now (shown.view new).size page (shown.image new) (bad told)) c.in-Err-next_clear.ensures.blames
