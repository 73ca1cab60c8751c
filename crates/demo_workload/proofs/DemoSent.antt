-- How a demo ends whose requests were all answered, by the sending of its summary.
use Rattle.std.proofs.Common.{◌≡◌, ℕ, ◌≤◌, List, [], Option, Ok, sym, subst, arith}
use Rattle.std.proofs.lemmas.List.{append-nil}
use Rattle.block_disk.specs.View.{View, Now, DiskKept, Passes, sent_now}
use Rattle.gate_pages.specs.GateLaws.{goes_by, goes_then, kept_told}
use Rattle.gate_pages.specs.Journal.{page_count}
use Rattle.request_lines.specs.declared.requests.Request.{Request}
use Rattle.chart_service.specs.State.{State}
use Rattle.demo_workload.specs.declared.summaries.Summary.{Summary}
use Rattle.demo_workload.specs.Reading.{ReadsDemo}
use Rattle.demo_workload.specs.Replying.{Summarizes}
use Rattle.demo_workload.specs.Summaries.{summary_line}
use Rattle.demo_workload.specs.Workload.{workload}
use Rattle.demo_workload.proofs.Replies.{pictures_answers}
use Rattle.store_commands.specs.Books.{begun, FromBook, OfBook}
use Rattle.store_commands.proofs.Moments.{since_sent}
use Rattle.demo_workload.specs.Demonstrated.{AnswersFirst, CostsDemo, DemoEnds, IsAheadDemo, IsDemoEnd, LeavesDemo, SendsSummary}
use Rattle.demo_workload.specs.Demonstrated.{SendsSummaryPart}
use Rattle.demo_workload.specs.Answered.{Answered}
use Rattle.run_ends.specs.declared.ending.End.{End}
use Rattle.run_ends.specs.declared.ending.End.TheVariants as ends
use Rattle.store_commands.specs.Sending.{IsSent, SendsText}
use Rattle.store_commands.proofs.Held.{holds_sent}

-- all requests are some first ones
first_all : (requests : List Request) (start state : State) (summary : Summary) → Summarizes requests start state summary
    → AnswersFirst requests start state
first_all requests start state summary sums = record {
  first = requests;
  rest = [];
  split = sym (append-nil requests);
  frames = sums.frames;
  answered = pictures_answers requests sums.frames sums.pictures start state sums.replied;
}

module _ (requests : List Request) (count : ℕ) (old mid new : View) (summary : Summary) (a : Answered requests count old mid (Ok summary))
    (kept : DiskKept mid new) (time : Passes mid new (Now mid) (λ sent. (sent_now mid ≤ sent) × (sent ≤ sent_now new))) where
  -- all requests were answered, and so is this
  pub all_done : (Done : State → State → Type 0) → ((start state : State) → Summarizes requests start state summary → Done start state)
      → FromBook count old new Done
  all_done Done so = λ total book holds.
      let all = a.done total book holds in (
        all.0,
        so (begun total book) all.0 all.1,
        holds_sent count total all.0.book mid new (λ sent. (sent_now mid ≤ sent)
            × (sent ≤ sent_now new)) kept time all.2,
      )

  pub all_leave : LeavesDemo requests count old new
  all_leave = λ total book holds.
      let all = a.done total book holds in
      let answered = pictures_answers requests all.1.frames all.1.pictures (begun total book) all.0 all.1.replied in
      since_sent (IsAheadDemo requests count total (begun total book) (sent_now old)) old mid new time (a.quiet total book holds)
      (λ image sent left low.
      let is = all.2.images image left in
      record {
        readable = is.readable;
        within = is.within;
        old = is.old;
        some = record {
          first = requests;
          rest = [];
          split = sym (append-nil requests);
          frames = all.1.frames;
          new = all.0;
          answered = answered;
          stands = is.stands;
        };
        all = λ more. (all.1.frames, all.0, answered, is.stands);
      })
      (a.crash total book holds)

-- the summary was sent, in part or not at all
module _ (seed rounds : ℕ) (old mid new : View) (summary : Summary)
    (a : Answered (workload seed rounds) (page_count old.size) old mid (Ok summary)) (kept : DiskKept mid new)
    (time : Passes mid new (Now mid) (λ sent. (sent_now mid ≤ sent) × (sent ≤ sent_now new))) where
  summary_sent : (before now : Option (List ℕ)) (sends sends_now : ℕ) (end : End)
      → IsSent end (summary_line summary) before now sends sends_now → IsDemoEnd end seed rounds old new before now sends sends_now
  summary_sent before now sends sends_now ends.Done is =
      all_done (workload seed rounds) (page_count old.size) old mid new summary a kept time
      (λ start state. SendsSummary (workload seed rounds) start state before now)
      (λ start state sums. record { summary = summary; sums = sums; sent = is })
  summary_sent before now sends sends_now ends.NoMemory is = (
    all_done (workload seed rounds) (page_count old.size) old mid new summary a kept time (AnswersFirst (workload seed rounds))
        (λ start state sums. first_all (workload seed rounds) start state summary sums),
    is,
  )
  summary_sent before now sends sends_now ends.SendFault is = (
    is.0,
    all_done (workload seed rounds) (page_count old.size) old mid new summary a kept time
        (λ start state. SendsSummaryPart (workload seed rounds) start state before now)
        (λ start state sums. record { summary = summary; sums = sums; sent = is.1 }),
  )
  summary_sent before now sends sends_now end is = absurd is

pub sent_ends : (seed rounds : ℕ) (old mid new : View) (before between now : Option (List ℕ)) (sends sends_mid sends_now : ℕ) (end : End)
    (summary : Summary) → Answered (workload seed rounds) (page_count old.size) old mid (Ok summary)
    → between ≡ before → sends_mid ≡ sends → SendsText (summary_line summary) mid new between now sends_mid sends_now end
    → CostsDemo rounds old mid
    → OfBook (page_count old.size) old (λ total book. ReadsDemo rounds old mid)
    → DemoEnds seed rounds old new before now sends sends_now end
sent_ends seed rounds old mid new before between now sends sends_mid sends_now end summary a same same_sends s costs reads =
    let B : Option (List ℕ) → Type 0 = λ b. SendsText (summary_line summary) mid new b now sends_mid sends_now end in
    let S : ℕ → Type 0 = λ n. SendsText (summary_line summary) mid new before now n sends_now end in
    let t = subst S same_sends (subst B same s) in
    record {
      is = summary_sent seed rounds old mid new summary a t.kept t.time before now sends sends_now end t.is;
      crash = all_leave (workload seed rounds) (page_count old.size) old mid new summary a t.kept t.time;
      costs = record { syncs = omega (arith, t.kept.syncs, costs.syncs); writes = omega (arith, t.kept.writes, costs.writes) };
      reads = λ total book holds. omega (arith, t.kept.reads, reads total book holds);
      honest = λ h. kept_told mid new t.kept (a.honest h);
      goes_on = goes_then old mid new a.goes_on (goes_by mid new (Now mid) (λ sent. (sent_now mid ≤ sent) × (sent ≤ sent_now new)) t.time);
    }
