use Rattle.std.proofs.Common.{◌≡◌, ◌+◌, ◌≤◌, suc, [], ◌∷◌, None, length, refl, sym, ap, subst, ◌∙◌, arith}
use Rattle.block_disk.proofs.Passing.{passes_none}
use Rattle.chart_world.specs.FaultLaws.{counts_then}
use Rattle.gate_pages.specs.Pages.{Quiet}
use Rattle.gate_pages.specs.GateLaws.{goes_none, goes_then}
use Rattle.chart_service.specs.Stepping.{state_of}
use Rattle.chart_service.specs.Shown as shown
use Rattle.run_ends.specs.declared.ending.End.TheVariants.{DiskFault}
use Rattle.run_ends.specs.Faults.{end_fault}
use Rattle.demo_workload.specs.Reading.{most_reads}
use Rattle.demo_workload.specs.Workload.{workload}
use Rattle.demo_workload.specs.Replying.{IsPartWay}
use Rattle.demo_workload.proofs.FewReads.{AreOfDemo, of_left, of_workload, reads_most, reads_on}
use Rattle.demo_workload.proofs.Rounds.{few_requests}
use Rattle.demo_workload.proofs.Replies.{starts, nothing_done, next_reaches, reaches_more, reached_part, reached_all, next_part}
use Rattle.demo_workload.proofs.Replies.{accepted_none, accepted_more}
use Rattle.demo_workload.proofs.Knowing.{knows_none}
use Rattle.chart_service.proofs.Outcomes.{ok_err}
use Rattle.demo_workload.proofs.Moved.{runs_none, runs_on, moments_more, cause_on, costs_most, costs_none, costs_on, given_some, given_none}
use Rattle.demo_workload.proofs.Moved.{one_counted, one_fewer}
use Rattle.demo_workload.proofs.running.run_workload.Goals as goal

pub returns-in_default-clause-left : goal.returns-in_default-clause-left
returns-in_default-clause-left g c = λ total book told stands apart. nothing_done (workload c.args.seed c.args.count) total book
    (shown.image c.args.service.now) stands

pub requests-init : goal.requests-init
requests-init g c = record {
  fit = c.requires.fit;
  small = c.new-summary.ensures.small;
  few =
      let many : length (workload c.args.seed c.args.count) ≤ 12290 = few_requests c.args.seed c.args.count c.requires.rounds in
      let same : length c.new-workload.result ≡ length (workload c.args.seed c.args.count) = ap length c.new-workload.ensures in
      let none : c.new-summary.result.requests ≡ 0 = c.new-summary.ensures.none in
      omega arith;
  counted =
      let same : length c.new-workload.result ≡ length (workload c.args.seed c.args.count) = ap length c.new-workload.ensures in
      let none : c.new-summary.result.requests ≡ 0 = c.new-summary.ensures.none in
      omega (arith, same, none);
  costs = costs_none c.new-summary.result.requests (shown.view c.args.service.now);
  knows = knows_none c.args.service.now.sessions c.in-Ok.client c.requires.alone c.in-Ok.ensures;
  accepted = accepted_none c.in-Ok.client c.in-Ok.ensures;
  reaches = λ total book told stands.
      starts (workload c.args.seed c.args.count) c.new-workload.result total book
      (shown.image c.args.service.now) c.args.service.now.sessions c.in-Ok.client
      c.new-summary.result c.new-workload.ensures c.requires.alone c.in-Ok.ensures c.new-summary.ensures.summary stands
      (c.is_sound-sound.ensures.state total book c.requires.fit told stands);
  moments = λ total book told stands.
      passes_none (shown.view c.args.service.now) (IsPartWay (workload c.args.seed c.args.count) total (state_of book total []))
      (Quiet (shown.view c.args.service.now));
  are = subst AreOfDemo (sym c.new-workload.ensures) (of_workload c.args.seed c.args.count);
  reads = λ total book told stands. omega (arith, ap most_reads c.new-workload.ensures);
  faults = refl;
  runs = runs_none (shown.IsTold c.args.service.now) (shown.view c.args.service.now);
  goes_on = goes_none (shown.under c.args.service.now);
  total = refl;
}

pub returns-in_default-next-clause-left : goal.returns-in_default-next-clause-left
returns-in_default-next-clause-left g c = λ total book told stands apart.
    reached_part (workload c.args.seed c.args.count) c.requests.workload total (state_of book total [])
    (shown.image c.requests.service) c.requests.service.sessions
    c.requests.client c.requests.summary (c.requests.invariant.reaches total book told stands)

pub returns-in_default-next-2-clause-done : goal.returns-in_default-next-2-clause-done
returns-in_default-next-2-clause-done g c = λ total book told stands.
    let none = given_none c.in-Ok-next.next _ _ c.in-Ok-next.ensures.given c.in_default-next-2.is in
    reached_all (workload c.args.seed c.args.count) c.requests.workload total (state_of book total [])
    (shown.image c.requests.service) c.requests.service.sessions
    c.requests.client c.requests.summary none.0 (c.requests.invariant.reaches total book told stands)

pub returns-in-Err-clause-standing : goal.returns-in-Err-clause-standing
returns-in-Err-clause-standing g c = λ total book told stands.
    let r = c.requests.invariant.reaches total book told stands in
    c.in-Err.ensures.standing total r.book (c.requests.invariant.runs.told told) r.stands r.sound r.mirrors

pub returns-in-Err-clause-moments : goal.returns-in-Err-clause-moments
returns-in-Err-clause-moments g c = λ total book told stands.
    let is : c.requests.workload ≡ c.in-Some.request ∷ c.next.new.self = given_some c.in-Ok-next.next c.in-Some.request _ _
    c.in-Ok-next.ensures.given c.in-Some.is in
    let r = next_reaches (workload c.args.seed c.args.count) c.requests.workload c.next.new.self c.in-Some.request total
    (state_of book total []) (shown.image c.requests.service) c.requests.service.sessions c.requests.client c.requests.summary is
    (c.requests.invariant.reaches total book told stands) in
    moments_more (workload c.args.seed c.args.count) c.next.new.self c.in-Some.request total (state_of book total [])
    (shown.view c.args.service.now) (shown.view c.requests.service)
    (shown.view c.answer-answered.new.service) c.requests.service.sessions c.requests.client c.requests.summary r
    (c.requests.invariant.moments total book told stands)
    (c.in-Err.ensures.moments total r.book (c.requests.invariant.runs.told told) r.stands)

pub returns-in-Err-clause-left : goal.returns-in-Err-clause-left
returns-in-Err-clause-left g c = λ total book told stands apart.
    let is : c.requests.workload ≡ c.in-Some.request ∷ c.next.new.self = given_some c.in-Ok-next.next c.in-Some.request _ _
    c.in-Ok-next.ensures.given c.in-Some.is in
    let r = next_reaches (workload c.args.seed c.args.count) c.requests.workload c.next.new.self c.in-Some.request total
    (state_of book total []) (shown.image c.requests.service) c.requests.service.sessions c.requests.client c.requests.summary is
    (c.requests.invariant.reaches total book told stands) in
    next_part (workload c.args.seed c.args.count) c.next.new.self c.in-Some.request total (state_of book total [])
    (shown.image c.requests.service) (shown.image c.answer-answered.new.service) c.requests.service.sessions c.requests.client
    c.requests.summary r
    (c.in-Err.ensures.left total r.book (c.requests.invariant.runs.told told) r.stands apart)

pub requests-preserved : goal.requests-preserved
requests-preserved g c =
    let is : c.requests.workload ≡ c.in-Some.request ∷ c.next.new.self = given_some c.in-Ok-next.next c.in-Some.request _ _
    c.in-Ok-next.ensures.given c.in-Some.is in
    record {
      fit = c.in-Ok-answered.ensures.fit (λ never. ok_err c.in-Ok-answered.field-0 DiskFault never);
      small = c.in-Ok-answered.ensures.small;
      few =
          let one : c.answer-answered.new.summary.requests ≡ c.requests.summary.requests + 1 = c.in-Ok-answered.ensures.requests in
          let was : c.requests.summary.requests + length c.requests.workload ≤ 12290 = c.requests.invariant.few in
          one_fewer c.requests.summary.requests c.answer-answered.new.summary.requests c.requests.workload c.next.new.self c.in-Some.request
          is one was;
      counted =
          let one : c.answer-answered.new.summary.requests ≡ c.requests.summary.requests + 1 = c.in-Ok-answered.ensures.requests in
          let was : c.requests.summary.requests + length c.requests.workload ≡ length
          (workload c.args.seed c.args.count) = c.requests.invariant.counted in
          one_counted c.requests.summary.requests c.answer-answered.new.summary.requests c.requests.workload c.next.new.self
          c.in-Some.request (length (workload c.args.seed c.args.count)) is one was;
      costs = costs_on (shown.IsTold c.requests.service)
          (shown.IsTold c.answer-answered.new.service) c.requests.summary.requests c.answer-answered.new.summary.requests
          (shown.view c.args.service.now) (shown.view c.requests.service) (shown.view c.answer-answered.new.service)
          (omega (arith, c.in-Ok-answered.ensures.requests)) c.requests.invariant.costs c.in-Ok-answered.ensures.steps;
      knows = c.in-Ok-answered.ensures.known;
      accepted = accepted_more c.requests.client c.answer-answered.new.client c.requests.invariant.accepted
          c.in-Ok-answered.ensures.accepts;
      reaches = λ total book told stands.
          let r = next_reaches (workload c.args.seed c.args.count) c.requests.workload c.next.new.self c.in-Some.request total
          (state_of book total []) (shown.image c.requests.service) c.requests.service.sessions c.requests.client c.requests.summary is
          (c.requests.invariant.reaches total book told stands) in
          reaches_more (workload c.args.seed c.args.count) c.next.new.self c.in-Some.request total (state_of book total [])
          (shown.image c.requests.service) (shown.image c.answer-answered.new.service) c.requests.service.sessions
          c.answer-answered.new.service.sessions
          c.requests.client c.answer-answered.new.client c.requests.summary c.answer-answered.new.summary r
          (c.in-Ok-answered.ensures.answered total r.book (c.requests.invariant.runs.told told) r.stands r.sound r.mirrors);
      moments = λ total book told stands.
          let r = next_reaches (workload c.args.seed c.args.count) c.requests.workload c.next.new.self c.in-Some.request total
          (state_of book total []) (shown.image c.requests.service) c.requests.service.sessions c.requests.client c.requests.summary is
          (c.requests.invariant.reaches total book told stands) in
          moments_more (workload c.args.seed c.args.count) c.next.new.self c.in-Some.request total (state_of book total [])
          (shown.view c.args.service.now) (shown.view c.requests.service)
          (shown.view c.answer-answered.new.service) c.requests.service.sessions c.requests.client c.requests.summary r
          (c.requests.invariant.moments total book told stands)
          (c.in-Ok-answered.ensures.moments total r.book (c.requests.invariant.runs.told told) r.stands);
      are = of_left c.requests.workload c.next.new.self c.in-Some.request is c.requests.invariant.are;
      reads = λ total book told stands.
          let r = c.requests.invariant.reaches total book told stands in
          reads_on (shown.view c.args.service.now).reads (shown.view c.requests.service).reads
          (shown.view c.answer-answered.new.service).reads
          (most_reads (workload c.args.seed c.args.count)) c.requests.workload c.next.new.self c.in-Some.request r.book
          c.requests.service.sessions is c.requests.invariant.are
          (c.requests.invariant.reads total book told stands)
          (c.in-Ok-answered.ensures.reads total r.book (c.requests.invariant.runs.told told) r.stands);
      faults = counts_then None (shown.view c.args.service.now) (shown.view c.requests.service)
          (shown.view c.answer-answered.new.service) c.requests.invariant.faults c.in-Ok-answered.ensures.faults;
      runs = runs_on (shown.IsTold c.args.service.now) (shown.IsTold c.requests.service) (shown.IsTold c.answer-answered.new.service)
          (shown.view c.args.service.now) (shown.view c.requests.service)
          (shown.view c.answer-answered.new.service) c.requests.invariant.runs c.in-Ok-answered.ensures.steps;
      goes_on = goes_then (shown.under c.args.service.now) (shown.under c.requests.service) (shown.under c.answer-answered.new.service)
          c.requests.invariant.goes_on c.in-Ok-answered.ensures.goes_on;
      total = c.in-Ok-answered.ensures.total ∙ c.requests.invariant.total;
    }

pub returns-in-Err-clause-cause : goal.returns-in-Err-clause-cause
returns-in-Err-clause-cause g c =
    let new = c.answer-answered.new.service in
    cause_on c.in-Err.end c.requests.client (shown.IsTold new) (shown.view c.args.service.now) (shown.view c.requests.service)
    (shown.view new) c.requests.invariant.accepted c.requests.invariant.faults c.in-Err.ensures.cause

pub returns-in-Err-clause-faults : goal.returns-in-Err-clause-faults
returns-in-Err-clause-faults g c =
    counts_then (end_fault c.in-Err.end) (shown.view c.args.service.now) (shown.view c.requests.service)
    (shown.view c.answer-answered.new.service) c.requests.invariant.faults c.in-Err.ensures.faults

pub returns-in_default-clause-costs : goal.returns-in_default-clause-costs
returns-in_default-clause-costs g c = costs_none (length (workload c.args.seed c.args.count)) (shown.view c.args.service.now)

pub returns-in_default-next-clause-costs : goal.returns-in_default-next-clause-costs
returns-in_default-next-clause-costs g c =
    let was : c.requests.summary.requests + length c.requests.workload ≡ length
    (workload c.args.seed c.args.count) = c.requests.invariant.counted in
    costs_most c.requests.summary.requests (length (workload c.args.seed c.args.count)) (shown.view c.args.service.now)
    (shown.view c.requests.service) (omega (arith, was)) c.requests.invariant.costs

pub returns-in_default-next-2-clause-costs : goal.returns-in_default-next-2-clause-costs
returns-in_default-next-2-clause-costs g c =
    let was : c.requests.summary.requests + length c.requests.workload ≡ length
    (workload c.args.seed c.args.count) = c.requests.invariant.counted in
    costs_most c.requests.summary.requests (length (workload c.args.seed c.args.count)) (shown.view c.args.service.now)
    (shown.view c.requests.service) (omega (arith, was)) c.requests.invariant.costs

pub returns-in-Err-clause-costs : goal.returns-in-Err-clause-costs
returns-in-Err-clause-costs g c =
    let is : c.requests.workload ≡ c.in-Some.request ∷ c.next.new.self = given_some c.in-Ok-next.next c.in-Some.request _ _
    c.in-Ok-next.ensures.given c.in-Some.is in
    let was : c.requests.summary.requests + length c.requests.workload ≡ length
    (workload c.args.seed c.args.count) = c.requests.invariant.counted in
    let some : length c.requests.workload ≡ suc (length c.next.new.self) = ap length is in
    costs_on (shown.IsTold c.requests.service) (shown.IsTold c.answer-answered.new.service) c.requests.summary.requests
    (length (workload c.args.seed c.args.count)) (shown.view c.args.service.now) (shown.view c.requests.service)
    (shown.view c.answer-answered.new.service)
    (omega (arith, was, some)) c.requests.invariant.costs c.in-Err.ensures.steps

pub returns-in_default-clause-reads : goal.returns-in_default-clause-reads
returns-in_default-clause-reads g c = λ total book told stands. omega arith

pub returns-in_default-next-clause-reads : goal.returns-in_default-next-clause-reads
returns-in_default-next-clause-reads g c = λ total book told stands.
    reads_most (shown.view c.args.service.now).reads (shown.view c.requests.service).reads (most_reads (workload c.args.seed c.args.count))
    (most_reads c.requests.workload) (c.requests.invariant.reads total book told stands)

pub returns-in_default-next-2-clause-reads : goal.returns-in_default-next-2-clause-reads
returns-in_default-next-2-clause-reads g c = λ total book told stands.
    reads_most (shown.view c.args.service.now).reads (shown.view c.requests.service).reads (most_reads (workload c.args.seed c.args.count))
    (most_reads c.requests.workload) (c.requests.invariant.reads total book told stands)

pub returns-in-Err-clause-reads : goal.returns-in-Err-clause-reads
returns-in-Err-clause-reads g c = λ total book told stands.
    let is : c.requests.workload ≡ c.in-Some.request ∷ c.next.new.self = given_some c.in-Ok-next.next c.in-Some.request _ _
    c.in-Ok-next.ensures.given c.in-Some.is in
    let r = c.requests.invariant.reaches total book told stands in
    let most = most_reads (workload c.args.seed c.args.count) in
    let old = (shown.view c.args.service.now).reads in
    let new = (shown.view c.answer-answered.new.service).reads in
    reads_most old new most (most_reads c.next.new.self)
    (reads_on old (shown.view c.requests.service).reads new most c.requests.workload c.next.new.self c.in-Some.request r.book
    c.requests.service.sessions is c.requests.invariant.are
    (c.requests.invariant.reads total book told stands)
    (c.in-Err.ensures.reads total r.book (c.requests.invariant.runs.told told) r.stands))
