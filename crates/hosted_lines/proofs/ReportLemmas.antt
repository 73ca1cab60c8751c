-- What a line asks of the host alone is reported, and the frame is sent.
use Rattle.std.proofs.Common.{◌≡◌, ◌≢◌, ◌∙◌, ℕ, ℤ, ◌+◌, ◌≤◌, List, [], ◌∷◌, length, Option, Some, Result, Err, refl, sym, subst, inl, inr}
use Rattle.std.proofs.Common.{arith}
use Rattle.std.specs.Prelude.{OnOk, IfErr}
use Rattle.block_disk.specs.Streams.{sent_after}
use Rattle.block_disk.specs.View.{Image, View, DiskKept, Now, Only, Passes, sent_now}
use Rattle.block_disk.specs.SentLaws.{sent_none}
use Rattle.chart_frames.specs.Frames.{Fits, spelling}
use Rattle.chart_frames.specs.declared.frame.Frame.{Frame}
use Rattle.chart_service.specs.MomentLaws.{through_by}
use Rattle.chart_service.specs.Moments.{Through}
use Rattle.chart_service.specs.State.{IsSound}
use Rattle.chart_service.specs.Stepping.{IsOutside, state_of}
use Rattle.chart_service.specs.declared.failure.ServiceError.{ServiceError}
use Rattle.chart_service.specs.declared.failure.ServiceError.TheVariants as step
use Rattle.gate_pages.specs.Pages.{Quiet}
use Rattle.derive_command.specs.declared.request.Request.{Request}
use Rattle.host_lines.specs.Grammar.{host_line}
use Rattle.host_lines.specs.declared.asked.HostLine.{HostLine}
use Rattle.host_lines.specs.declared.asked.HostLine.TheVariants.{List as ListLine, Values, Sum, Sweep, Bad, Other}
use Rattle.host_replies.specs.Replies.{IsPageCause, IsReportCause, ReadsReportOver, Reported}
use Rattle.live_service.specs.LiveReplies.{LiveState}
use Rattle.run_ends.specs.declared.ending.End.{End}
use Rattle.run_ends.specs.declared.ending.End.TheVariants.{InputTooLong}
use Rattle.series_pair.specs.Damage.{IsBadForChart}
use Rattle.series_book.specs.declared.one_series.Series.{Series}
use Rattle.stored_book.specs.Damage.{IsBadForRequest}
use Rattle.stored_book.specs.Standing.{StandsForBook}
use Rattle.hosted_lines.specs.Doing.{FrameStops, Held, Side, held_with, step_end}
use Rattle.hosted_lines.specs.HostCauses.{IsHostCause}
use Rattle.hosted_lines.specs.Hosting.{DoesHost, HostMoment, HostStop}
use Rattle.hosted_lines.specs.Hosts.{Costs, Reports, report}
use Rattle.hosted_lines.specs.Working.{CausesEnd}
use Rattle.hosted_lines.proofs.EventLemmas.{length_one}
use Rattle.hosted_lines.proofs.FaultLemmas.{told_any}
use Rattle.hosted_lines.proofs.HostLemmas.{begun_none}
use Rattle.hosted_lines.proofs.MadeLemmas.{made_failed, made_sends}
use Rattle.hosted_lines.proofs.SendLemmas.{one_stops, one_whole}

-- ---- why it isn't made

bad_in_chart : (count : ℕ) (image : Image) (page : ℕ) → IsBadForChart count image page → IsBadForRequest count image page
bad_in_chart count image page bad = record { numbers = bad.numbers; keeps = bad.keeps; so = (bad.so.0, inl bad.so.1) }

values_cause : (name : List ℕ) (t0 t1 : ℤ) (error : ServiceError) (old new : Side)
    → IsPageCause error (Values name t0 t1) new.told old.view new.view → IsHostCause (step_end error) old new
values_cause name t0 t1 step.DiskFault old new is = is
values_cause name t0 t1 (step.Damaged page) old new is = (is.0, λ told. inr (name, is.1 told))
values_cause name t0 t1 step.NoMemory old new is = tt

sum_cause : (session : ℕ) (request : Request) (error : ServiceError) (old new : Side)
    → IsPageCause error (Sum session request) new.told old.view new.view → IsHostCause (step_end error) old new
sum_cause session request step.DiskFault old new is = is
sum_cause session request (step.Damaged page) old new is = (is.0, λ told. inl (bad_in_chart new.view.size new.view.image page (is.1 told)))
sum_cause session request step.NoMemory old new is = tt

pub report_cause : (asked : HostLine) (error : ServiceError) (old new : Side) → IsReportCause asked error new.told old.view new.view
    → IsHostCause (step_end error) old new
report_cause ListLine error old new is = let P : ServiceError → Type 0 = λ e. IsHostCause (step_end e) old new in subst P (sym is) tt
report_cause (Values name t0 t1) error old new is = values_cause name t0 t1 error old new is
report_cause (Sum session request) error old new is = sum_cause session request error old new is
report_cause (Sweep rule) error old new is = absurd is
report_cause (Bad at) error old new is = absurd is
report_cause Other error old new is = absurd is

pub unmade_cause : (asked : HostLine) (error : ServiceError) (end : End) (old new : Side) → end ≡ step_end error → new.view.fit
    → IsReportCause asked error new.told old.view new.view → CausesEnd end old new
unmade_cause asked error end old new is fit cause =
    let P : End → Type 0 = λ e. CausesEnd e old new in
    subst P (sym is) (record { cause = report_cause asked error old new cause; within = short error; sound = λ other. fit })
  where
    short : (e : ServiceError) → step_end e ≢ InputTooLong
    short step.DiskFault = λ same. cc
    short (step.Damaged page) = λ same. cc
    short step.NoMemory = λ same. cc

module _ (line : List ℕ) (total : ℕ) (book : List Series) (held : Held) (idle : held.pending ≡ []) where
  abbrev old : LiveState
  old = held_with total book held

  abbrev lines : List (Option (List ℕ))
  lines = Some line ∷ []

  -- ---- the frame is made

  -- while it is made a crash leaves the book
  pub report_moments : (view mid : View) → Only view.image (Now view) → StandsForBook view.image total book
      → Passes view mid (Now view) (Quiet view) → Through view mid (HostMoment lines total old (sent_now view))
  report_moments view mid only stands passes =
      let S : Image → Type 0 = λ i. StandsForBook i total book in
      through_by view mid (Now view) (Quiet view) (HostMoment lines total old (sent_now view)) passes
      (λ image count left quiet. record {
        shown = [];
        more = [];
        few = omega arith;
        state = old;
        begun = begun_none lines old;
        stands = inl (subst S (sym (only image left)) stands);
        low = omega (arith, quiet);
        high = omega (arith, quiet);
      })

  pub report_costs : (reads reads' syncs syncs' : ℕ) → ReadsReportOver book (host_line line) reads reads' → syncs' ≡ syncs
      → Costs (report line) old reads reads' syncs syncs'
  report_costs reads reads' syncs syncs' few same = record { reads_few = few; syncs_few = same }

  -- ---- it isn't made

  report_stops : (error : ServiceError) (image : Image) (before now : Option (List ℕ)) → IsOutside error → StandsForBook image total book
      → now ≡ before → HostStop lines total old image before now (step_end error)
  report_stops step.DiskFault image before now outside stands unsent =
      record { frames = []; state = old; begun = begun_none lines old; sent = unsent ∙ sent_none before }
  report_stops (step.Damaged page) image before now outside stands unsent = elim outside [
    | inl fault ↦ absurd (cc (fault))
    | inr none ↦ absurd (cc (none))
  ]
  report_stops step.NoMemory image before now outside stands unsent =
      record {
        shown = [];
        more = [];
        few = omega arith;
        state = old;
        begun = begun_none lines old;
        stands = inl stands;
        sent = unsent ∙ sent_none before;
      }

  pub report_unmade : {T : Type 0} (error : ServiceError) (end : End) (held' : Held) (view mid : View) (before now : Option (List ℕ))
      → end ≡ step_end error → IsOutside error → StandsForBook mid.image total book → now ≡ before
      → Through view mid (HostMoment lines total old (sent_now view)) → Costs (report line) old view.reads mid.reads view.syncs mid.syncs
      → DoesHost {T = T} 0 lines total old (Err end) view mid held' before now
  report_unmade {T} error end held' view mid before now is outside stands unsent moments costs =
      let P : End → Type 0 = λ e. HostStop lines total old mid.image before now e in
      record {
        done = tt;
        stops = subst P (sym is) (report_stops error mid.image before now outside stands unsent);
        moments = told_any moments before;
        cost = made_failed lines (report line) refl total old view.reads mid.reads view.syncs mid.syncs costs 0;
      }

  -- ---- it is sent

  pub report_sends : {T : Type 0} (frame : Frame) → Reported (host_line line) frame old.state → Fits frame
      → IsSound (state_of book total held.sessions) → (held' : Held) → held' ≡ held
      → (view mid new : View) (before between now : Option (List ℕ)) → StandsForBook mid.image total book
      → Through view mid (HostMoment lines total old (sent_now view)) → sent_now mid ≡ sent_now view → between ≡ before
      → Costs (report line) old view.reads mid.reads view.syncs mid.syncs → DiskKept mid new → (result : Result T End)
      → OnOk result (now ≡ sent_after (spelling frame) between) → IfErr result (FrameStops frame between now) → Only mid.image (Now mid)
      → Passes mid new (Now mid) (λ count. (sent_now mid ≤ count) × (count ≤ sent_now new))
      → sent_now new ≤ sent_now mid + length (spelling frame)
      → DoesHost 0 lines total old result view new held' before now
  report_sends {T} frame reported fits sound held' same view mid new before between now stands moments quiet unsent costs kept result whole
      stops only sends most =
      let happens : Reports line (frame ∷ []) old old = record {
        frame = frame;
        frames_are = refl;
        idle = idle;
        reported = reported;
        fits = fits;
        same = refl;
      } in
      made_sends lines (report line) refl total old (frame ∷ [])
      (omega arith) held held' same book happens sound view mid new before between now stands moments quiet unsent costs kept result
      (one_whole result frame between now whole) (one_stops result frame between now stops) only sends
      (omega (arith, most, length_one frame))
