-- How a demo ends.
use Rattle.std.proofs.Common.{◌≡◌, ◌≢◌, ℕ, List, length, Option, Result, Ok, Err, sym, subst, ap, inl, inr, arith}
use Rattle.block_disk.specs.View.{View, sent_now}
use Rattle.gate_pages.specs.Journal.{page_count}
use Rattle.request_lines.specs.declared.requests.Request.{Request}
use Rattle.disk_store.specs.Openings.{Opens}
use Rattle.disk_store.specs.declared.causes.OpeningCause.{OpeningCause}
use Rattle.disk_store.specs.declared.causes.OpeningCause.TheVariants as opening
use Rattle.demo_workload.specs.declared.summaries.Summary.{Summary}
use Rattle.demo_workload.specs.Ending.{CostsRequests, IsOutside}
use Rattle.demo_workload.specs.Replying.{Summarizes}
use Rattle.demo_workload.specs.Workload.{workload}
use Rattle.run_ends.specs.declared.ending.End.{End}
use Rattle.run_ends.specs.declared.ending.End.TheVariants.{NoMemory, DiskFault, DamagedPage, Missing, BadCoefficient}
use Rattle.store_commands.specs.Books.{HoldsAgain, OfBook, begun}
use Rattle.store_commands.specs.Status.{opening_end}
use Rattle.store_commands.specs.Unopened.{IsUnopenedEnd}
use Rattle.store_commands.proofs.Held.{held}
use Rattle.store_commands.proofs.HoldsAgain.{again_from}
use Rattle.store_commands.proofs.Moments.{since_opened, opened_goes}
use Rattle.store_commands.proofs.Unopened.{unopened_end}
use Rattle.store_commands.proofs.WorldLemmas.{IsUnopened}
use Rattle.demo_workload.specs.Demonstrated.{AnswersFirst, CostsDemo, DemoEnds, IsAheadDemo, IsDemoEnd, LeavesDemo}
use Rattle.demo_workload.specs.Answered.{Answered}
use Rattle.demo_workload.specs.Reading.{ReadsDemo}
use Rattle.demo_workload.proofs.DemoReads.{reads_opening}
use Rattle.demo_workload.proofs.DemoRequests.{first_none, ahead_none}
use Rattle.demo_workload.proofs.Rounds.{few_by_rounds}

-- ---- no store was opened

opened_leaves : (requests : List Request) (old new : View) → Opens (page_count old.size) old new
    → LeavesDemo requests (page_count old.size) old new
opened_leaves requests old new opens = λ total book holds.
    since_opened (IsAheadDemo requests (page_count old.size) total (begun total book) (sent_now old)) old new total book opens holds
    (λ image is. ahead_none requests (page_count old.size) total book (sent_now old) image is)

-- what an opening costs, and what requests cost behind it
costs_opening : (rounds : ℕ) (old new : View) → Opens (page_count old.size) old new → CostsDemo rounds old new
costs_opening rounds old new opens = record { syncs = omega (arith, opens.few.syncs.high); writes = omega (arith, opens.few.writes.high) }

pub costs_behind : (seed rounds : ℕ) (old mid new : View) → Opens (page_count old.size) old mid
    → CostsRequests (length (workload seed rounds)) mid new → CostsDemo rounds old new
costs_behind seed rounds old mid new opens costs = record {
  syncs = omega (arith, few_by_rounds seed rounds, opens.few.syncs.high, costs.syncs);
  writes = omega (arith, few_by_rounds seed rounds, opens.few.writes.high, costs.writes);
}

pub undemonstrated : (seed rounds : ℕ) (old new : View) (left left' before now : Option (List ℕ)) (sends sends_now : ℕ)
    (cause : OpeningCause) (end : End) → IsUnopened old new left left' before now cause → end ≡ opening_end cause
    → DemoEnds seed rounds old new before now sends sends_now end
undemonstrated seed rounds old new left left' before now sends sends_now cause end u same =
    let P : End → Type 0 = λ e. DemoEnds seed rounds old new before now sends sends_now e in
    subst P (sym same) (record {
      is = by cause (unopened_end old new left left' before now cause u);
      crash = opened_leaves (workload seed rounds) old new u.opens;
      costs = costs_opening rounds old new u.opens;
      reads = reads_opening rounds old new u.opens;
      honest = u.opens.honest;
      goes_on = opened_goes old new u.opens;
    })
  where
    by : (cause : OpeningCause) → IsUnopenedEnd (opening_end cause) old new × (now ≡ before)
        → IsDemoEnd (opening_end cause) seed rounds old new before now sends sends_now
    by opening.NoMemory is = (
      λ total book holds. (
        begun total book,
        first_none (workload seed rounds) (begun total book),
        held old new u.opens total book holds,
      ),
      is.1,
    )
    by cause is = is

-- ---- the workload stopped

never_page : (page : ℕ) → IsOutside (DamagedPage page) → ⊥
never_page page (inl same) = cc
never_page page (inr same) = cc

never_key : (end : End) → end ≢ DiskFault → end ≢ NoMemory → IsOutside end → ⊥
never_key end fault memory (inl same) = fault same
never_key end fault memory (inr same) = memory same

stopped : (seed rounds : ℕ) (old new : View) (before now : Option (List ℕ)) (sends sends_now : ℕ) (end : End)
    → Answered (workload seed rounds) (page_count old.size) old new (Err end) → now ≡ before
    → IsDemoEnd end seed rounds old new before now sends sends_now
stopped seed rounds old new before now sends sends_now NoMemory a same = (a.stopped (λ e. cc), same)
stopped seed rounds old new before now sends sends_now DiskFault a same = (a.cause, same)
stopped seed rounds old new before now sends sends_now (DamagedPage page) a same = (
  a.cause,
  λ total book holds. never_page page (a.outside total book holds),
  same,
)
stopped seed rounds old new before now sends sends_now
    (Missing number) a same = (
      λ total book holds. never_key (Missing number) (λ e. cc) (λ e. cc) (a.outside total book holds),
      a.cause,
      same,
    )
stopped seed rounds old new before now sends sends_now
    (BadCoefficient number) a same = (
      λ total book holds. never_key (BadCoefficient number) (λ e. cc) (λ e. cc)
          (a.outside total book holds),
      a.cause,
      same,
    )
stopped seed rounds old new before now sends sends_now end a same = absurd a.cause

pub stopped_ends : (seed rounds : ℕ) (old new : View) (before now : Option (List ℕ)) (sends sends_now : ℕ) (end : End)
    → Answered (workload seed rounds) (page_count old.size) old new (Err end) → now ≡ before
    → CostsDemo rounds old new → OfBook (page_count old.size) old (λ total book. ReadsDemo rounds old new)
    → DemoEnds seed rounds old new before now sends sends_now end
stopped_ends seed rounds old new before now sends sends_now end a same costs reads = record {
  costs = costs;
  reads = reads;
  is = stopped seed rounds old new before now sends sends_now end a same;
  crash = a.crash;
  honest = a.honest;
  goes_on = a.goes_on;
}

-- ---- a disk that held a book holds one again

pub again_answered : (requests : List Request) (count : ℕ) (old new : View) (answer : Result Summary End) → answer ≢ Err DiskFault
    → Answered requests count old new answer → HoldsAgain count old new
again_answered requests count old new (Ok summary) other a = again_from count old new
    (λ start state. Summarizes requests start state summary) a.done
again_answered requests count old new (Err end) other a = again_from count old new (AnswersFirst requests)
    (a.stopped (λ is. other (ap Err is)))
