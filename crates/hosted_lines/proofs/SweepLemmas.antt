-- The step of a sweep is done, and its frame is sent.
use Rattle.std.proofs.Common.{◌≡◌, ◌≢◌, ◌∙◌, ℕ, ◌+◌, ◌*◌, ◌≤◌, List, [], ◌∷◌, length, Option, Some, Result, Err, refl, sym, subst, inl, inr}
use Rattle.std.proofs.Common.{arith}
use Rattle.std.specs.Prelude.{OnOk, IfErr}
use Rattle.block_disk.specs.Streams.{sent_after}
use Rattle.block_disk.specs.View.{Image, View, DiskKept, Now, Only, Passes, sent_now}
use Rattle.block_disk.specs.SentLaws.{sent_none}
use Rattle.chart_frames.specs.Frames.{spelling}
use Rattle.chart_frames.specs.declared.frame.Frame.{Frame}
use Rattle.chart_service.specs.MomentLaws.{through_by}
use Rattle.chart_service.specs.Moments.{Through}
use Rattle.chart_service.specs.Stepping.{IsOutside}
use Rattle.chart_service.specs.declared.failure.ServiceError.{ServiceError}
use Rattle.chart_service.specs.declared.failure.ServiceError.TheVariants as step
use Rattle.gate_pages.specs.Pages.{Quiet}
use Rattle.host_lines.specs.Grammar.{host_line}
use Rattle.host_lines.specs.declared.asked.HostLine.{HostLine}
use Rattle.host_lines.specs.declared.asked.HostLine.TheVariants.{Sweep}
use Rattle.host_sweeps.specs.Sweeping.{SweepReplied, SweepsSome, step_clears, step_reads}
use Rattle.live_service.specs.LiveReplies.{LiveState}
use Rattle.retention.specs.Moving.{CommitsFew}
use Rattle.retention.specs.declared.rule.Rule.{Rule}
use Rattle.run_ends.specs.declared.ending.End.{End}
use Rattle.series_book.specs.declared.one_series.Series.{Series}
use Rattle.stored_book.specs.Standing.{StandsForBook}
use Rattle.hosted_lines.specs.Amid.{IsAmidStep}
use Rattle.hosted_lines.specs.Doing.{FrameStops, Held, held_with, step_end}
use Rattle.hosted_lines.specs.Hosting.{DoesHost, HostMoment, HostStop}
use Rattle.hosted_lines.specs.Hosts.{Costs, Sweeps, clears_asked, sweep}
use Rattle.hosted_lines.proofs.EventLemmas.{length_one}
use Rattle.hosted_lines.proofs.FaultLemmas.{told_any}
use Rattle.hosted_lines.proofs.HostLemmas.{begun_none}
use Rattle.hosted_lines.proofs.MadeLemmas.{made_failed, made_sends}
use Rattle.hosted_lines.proofs.SendLemmas.{one_stops, one_whole}

module _ (line : List ℕ) (rule : Rule) (asks : host_line line ≡ Sweep rule) (total : ℕ) (book : List Series) (held : Held)
    (idle : held.pending ≡ []) where
  abbrev old : LiveState
  old = held_with total book held

  abbrev lines : List (Option (List ℕ))
  lines = Some line ∷ []

  -- ---- some first clears are made

  amid : (image : Image) → SweepsSome rule old image → IsAmidStep (λ after. StandsForBook image total after) [] lines old
  amid image some = record {
    none = refl;
    idle = idle;
    line = line;
    later = [];
    lines_are = refl;
    rule = rule;
    asks = asks;
    done = some.done;
    few = some.few;
    there = some.stands;
  }

  -- while they are made a crash leaves some first of them
  pub step_moments : (view mid : View) → Passes view mid (SweepsSome rule old) (Quiet view)
      → Through view mid (HostMoment lines total old (sent_now view))
  step_moments view mid passes =
      through_by view mid (SweepsSome rule old) (Quiet view) (HostMoment lines total old (sent_now view)) passes
      (λ image count left quiet. record {
        shown = [];
        more = [];
        few = omega arith;
        state = old;
        begun = begun_none lines old;
        stands = inr (amid image left);
        low = omega (arith, quiet);
        high = omega (arith, quiet);
      })

  pub step_costs : (view mid : View) → mid.reads ≤ view.reads + step_reads → CommitsFew (length (step_clears old.state rule)) view mid
      → Costs (sweep line) old view.reads mid.reads view.syncs mid.syncs
  step_costs view mid read few =
      let S : HostLine → Type 0 = λ a. mid.syncs ≤ view.syncs + 4 * length (clears_asked a old.state) in
      record { reads_few = read; syncs_few = subst S (sym asks) few.syncs }

  -- ---- they aren't answered

  step_stops : (error : ServiceError) (image : Image) (before now : Option (List ℕ)) → IsOutside error
      → (error ≢ step.DiskFault → SweepsSome rule old image) → now ≡ before → HostStop lines total old image before now (step_end error)
  step_stops step.DiskFault image before now outside left unsent =
      record { frames = []; state = old; begun = begun_none lines old; sent = unsent ∙ sent_none before }
  step_stops (step.Damaged page) image before now outside left unsent = elim outside [
    | inl fault ↦ absurd (cc (fault))
    | inr none ↦ absurd (cc (none))
  ]
  step_stops step.NoMemory image before now outside left unsent = record {
    shown = [];
    more = [];
    few = omega arith;
    state = old;
    begun = begun_none lines old;
    stands = inr (amid image (left (λ is. cc)));
    sent = unsent ∙ sent_none before;
  }

  pub step_unmade : {T : Type 0} (error : ServiceError) (end : End) (held' : Held) (view mid : View) (before now : Option (List ℕ))
      → end ≡ step_end error → IsOutside error → (error ≢ step.DiskFault → SweepsSome rule old mid.image) → now ≡ before
      → Passes view mid (SweepsSome rule old) (Quiet view) → Costs (sweep line) old view.reads mid.reads view.syncs mid.syncs
      → DoesHost {T = T} 0 lines total old (Err end) view mid held' before now
  step_unmade {T} error end held' view mid before now is outside left unsent passes costs =
      let P : End → Type 0 = λ e. HostStop lines total old mid.image before now e in
      record {
        done = tt;
        stops = subst P (sym is) (step_stops error mid.image before now outside left unsent);
        moments = told_any (step_moments view mid passes) before;
        cost = made_failed lines (sweep line) refl total old view.reads mid.reads view.syncs mid.syncs costs 0;
      }

  -- ---- they are

  pub step_sends : {T : Type 0} (frame : Frame) (held' held'' : Held) → held'' ≡ held' → (book' : List Series)
      → SweepReplied rule frame old (held_with total book' held') → (view mid new : View) (before between now : Option (List ℕ))
      → StandsForBook mid.image total book' → Passes view mid (SweepsSome rule old) (Quiet view) → sent_now mid ≡ sent_now view
      → between ≡ before
      → Costs (sweep line) old view.reads mid.reads view.syncs mid.syncs → DiskKept mid new → (result : Result T End)
      → OnOk result (now ≡ sent_after (spelling frame) between) → IfErr result (FrameStops frame between now) → Only mid.image (Now mid)
      → Passes mid new (Now mid) (λ count. (sent_now mid ≤ count) × (count ≤ sent_now new))
      → sent_now new ≤ sent_now mid + length (spelling frame)
      → DoesHost 0 lines total old result view new held'' before now
  step_sends {T} frame held' held'' same book' replied view mid new before between now stands passes quiet unsent costs kept result whole
      stops only sends most =
      let happens : Sweeps line (frame ∷ []) old (held_with total book' held') = record {
        rule = rule;
        asks = asks;
        frame = frame;
        frames_are = refl;
        idle = idle;
        replied = replied;
      } in
      made_sends lines (sweep line) refl total old (frame ∷ [])
      (omega arith) held' held'' same book' happens replied.2 view mid new before between now stands
      (step_moments view mid passes) quiet unsent costs kept result
      (one_whole result frame between now whole) (one_stops result frame between now stops) only sends
      (omega (arith, most, length_one frame))
