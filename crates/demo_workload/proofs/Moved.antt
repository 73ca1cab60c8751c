-- What a workload has moved so far, and one request more.
use Rattle.std.proofs.Common.{ℕ, suc, ◌≡◌, ◌+◌, ◌≤◌, List, ◌∷◌, length, Option, None, Some, refl, ap, ◌∙◌, subst, arith}
use Rattle.std.specs.Prelude.{MatchOption}
use Rattle.block_disk.specs.View.{View, Passes}
use Rattle.block_disk.proofs.Passing.{passes_weaker}
use Rattle.chart_world.specs.Faults.{CountsFault}
use Rattle.chart_world.specs.FaultLaws.{disk_stays}
use Rattle.gate_pages.specs.Pages.{Quiet}
use Rattle.gate_pages.proofs.Moving.{time_then}
use Rattle.request_lines.specs.declared.requests.Request.{Request}
use Rattle.zoom_session.specs.declared.session.Session.{Session}
use Rattle.chart_client.specs.Accepting.{Rejects}
use Rattle.chart_client.specs.declared.errors.ClientError.{ClientError}
use Rattle.chart_client.specs.declared.errors.ClientError.TheVariants as client
use Rattle.chart_client.specs.declared.holding.Holding.{Holding}
use Rattle.chart_frames.specs.declared.frame.Frame.{Frame}
use Rattle.chart_service.proofs.DiskKept.{risen_since}
use Rattle.chart_service.specs.State.{State}
use Rattle.chart_service.specs.Stepping.{RepliedTo, IsBeforeOrAfter, Steps}
use Rattle.demo_workload.specs.declared.summaries.Summary.{Summary}
use Rattle.demo_workload.specs.Replying.{IsPartWay}
use Rattle.run_ends.specs.declared.ending.End.{End}
use Rattle.run_ends.specs.declared.ending.End.TheVariants.{DiskFault, Missing, BadCoefficient}
use Rattle.demo_workload.specs.Ending.{CostsRequests, Runs, IsCause, MeetsError}
use Rattle.demo_workload.specs.Answering.{HasAccepted, IsOneCause, Reaches}
use Rattle.demo_workload.proofs.Replies.{next_part}

pub runs_none : (told : Type 0) (at : View) → Runs told told at at
runs_none told at = record { told = λ t. t; was_told = λ t. t; size = refl; beside = refl; faults = omega arith }

pub runs_on : (told_old told_mid told_new : Type 0) (old mid new : View) → Runs told_old told_mid old mid → Steps told_mid told_new mid new
    → Runs told_old told_new old new
runs_on told_old told_mid told_new old mid new first second = record {
  told = λ t. second.told (first.told t);
  was_told = λ t. first.was_told (second.was_told t);
  size = second.size ∙ first.size;
  beside = second.beside ∙ first.beside;
  faults = omega (arith, first.faults, second.faults);
}

-- requests, and one more
pub costs_none : (requests : ℕ) (at : View) → CostsRequests requests at at
costs_none requests at = record { syncs = omega arith; writes = omega arith }

pub costs_on : (told_mid told_new : Type 0) (requests more : ℕ) (old mid new : View) → requests + 1 ≤ more → CostsRequests requests old mid
    → Steps told_mid told_new mid new → CostsRequests more old new
costs_on told_mid told_new requests more old mid new one first second = record {
  syncs = omega (arith, one, first.syncs, second.syncs.high);
  writes = omega (arith, one, first.writes, second.writes.high);
}

pub costs_most : (requests most : ℕ) (old new : View) → requests ≤ most → CostsRequests requests old new → CostsRequests most old new
costs_most requests most old new few costs = record { syncs = omega (arith, few, costs.syncs); writes = omega (arith, few, costs.writes) }

pub one_counted : (requests requests' : ℕ) (workload left : List Request) (request : Request) (all : ℕ) → workload ≡ request ∷ left
    → requests' ≡ requests + 1 → requests + length workload ≡ all → requests' + length left ≡ all
one_counted requests requests' workload left request all is one was =
    let some : length workload ≡ suc (length left) = ap length is in
    omega (arith, some, one, was)

-- at each moment of one more request a crash leaves the book behind some first requests
pub moments_more : (requests left : List Request) (request : Request) (total : ℕ) (state : State) (old mid new : View)
    (sessions : List Session) (holdings : List Holding)
    (summary : Summary) → (r : Reaches requests (request ∷ left) total state mid.image sessions holdings summary)
    → Passes old mid (IsPartWay requests total state) (Quiet old)
    → Passes mid new (IsBeforeOrAfter (RepliedTo request) total r.book sessions) (Quiet mid)
    → Passes old new (IsPartWay requests total state) (Quiet old)
moments_more requests left request total state old mid new sessions holdings summary r first second =
    time_then old mid new (IsPartWay requests total state) first
    (passes_weaker mid new (IsBeforeOrAfter (RepliedTo request) total r.book sessions) (IsPartWay requests total state) (Quiet mid)
    (Quiet mid)
    (λ image way. next_part requests left request total state mid.image image sessions holdings summary r way)
    (λ count quiet. quiet) second)

-- why the requests end
met : (error : ClientError) (holdings : List Holding) → HasAccepted holdings → (frame : Frame) → Rejects frame error holdings
    → MeetsError error
met error holdings accepted frame rejected = record {
  frames = accepted.frames;
  drawings = accepted.drawings;
  holdings = holdings;
  accepted = accepted.accepted;
  frame = frame;
  rejected = rejected;
}

pub cause_on : (end : End) (holdings : List Holding) (told : Type 0) (old mid new : View) → HasAccepted holdings
    → CountsFault None old mid → IsOneCause end holdings told mid new → IsCause end told old new
cause_on DiskFault holdings told old mid new accepted faults cause = risen_since old.faults mid.faults new.faults
    (disk_stays old mid faults) cause
cause_on (Missing number) holdings told old mid new accepted faults cause =
    (cause.1.0, cause.1.1, met (client.Missing cause.1.0) holdings accepted cause.0 cause.1.2)
cause_on (BadCoefficient number) holdings told old mid new accepted faults cause =
    (cause.1.0, cause.1.1, met (client.BadCoefficient cause.1.0) holdings accepted cause.0 cause.1.2)
cause_on end holdings told old mid new accepted faults cause = cause

-- ---- what a call answered

pub given_some : {X : Type 0} (o : Option X) (x : X) (P : Type 0) (Q : X → Type 0) → MatchOption o P Q → o ≡ Some x → Q x
given_some {X} o x P Q given is = let M : Option X → Type 0 = λ y. MatchOption y P Q in subst M is given

pub given_none : {X : Type 0} (o : Option X) (P : Type 0) (Q : X → Type 0) → MatchOption o P Q → o ≡ None → P
given_none {X} o P Q given is = let M : Option X → Type 0 = λ y. MatchOption y P Q in subst M is given

pub one_fewer : (before now : ℕ) (left behind : List Request) (request : Request) → left ≡ request ∷ behind → now ≡ before + 1
    → before + length left ≤ 12290
    → now + length behind ≤ 12290
one_fewer before now left behind request is one few =
    let shorter : length left ≡ suc (length behind) = ap length is in
    omega arith
