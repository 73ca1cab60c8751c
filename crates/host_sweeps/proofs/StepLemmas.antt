-- A step over a plain book, and what a live service says of it.
use Rattle.std.proofs.Common.{◌≡◌, ◌≢◌, ◌∙◌, ◌≤◌, ◌+◌, ℕ, Bool, List, length, Result, Ok, Err, refl, sym, ap, subst, inl, inr, arith}
use Rattle.std.specs.Prelude.{IfErr, IfOk}
use Rattle.std.proofs.lemmas.List.{take_all}
use Rattle.block_disk.specs.Counts.{HasRisen}
use Rattle.block_disk.specs.View.{Image, View}
use Rattle.block_disk.specs.declared.streams.Streams.{Ghosts as StreamGhosts}
use Rattle.chart_frames.specs.Frames.{Fits}
use Rattle.chart_frames.specs.declared.frame.Frame.{Frame}
use Rattle.chart_frames.specs.declared.frame.Frame.TheVariants.{Report}
use Rattle.chart_frames.specs.declared.reports.Report.TheVariants.{Swept}
use Rattle.chart_service.specs.Faulting.{step_fault}
use Rattle.chart_service.specs.Shown as shown
use Rattle.chart_service.specs.Stepping.{IsBadPage, IsOutside, NamesBad, state_of}
use Rattle.chart_service.specs.declared.failure.ServiceError.{ServiceError}
use Rattle.chart_service.specs.declared.failure.ServiceError.TheVariants as step
use Rattle.chart_world.specs.Faults.{CountsFault, fault_in}
use Rattle.gate_pages.specs.declared.pages.Pages.{Ghosts}
use Rattle.host_sweeps.specs.Steps.{PushesBehind, StepsService, error_reply, frame_of}
use Rattle.host_sweeps.specs.Sweeping.{SweepReplied, SweepsSome, TellsStep, most_clears, pushed_behind, step_clears, step_reads}
use Rattle.host_sweeps.specs.Sweeping.{swept_followers}
use Rattle.live_service.specs.Shown as its
use Rattle.live_service.specs.declared.stepper.ServiceStepper.{ServiceStepper}
use Rattle.live_view.specs.Live as live
use Rattle.live_view.specs.declared.live.Live.{Live}
use Rattle.live_view.specs.declared.stepper.Stepper.{Ghosts as StepperGhosts}
use Rattle.retention.specs.declared.rule.Rule.{Rule}
use Rattle.retention.specs.declared.sweep_error.SweepError.{SweepError}
use Rattle.retention.specs.declared.sweep_error.SweepError.TheVariants as sweep
use Rattle.retention.specs.declared.swept.SweptSome.{SweptSome}
use Rattle.retention.specs.Drops.{book_stepped}
use Rattle.retention.specs.Moving.{CarriesOn, CommitsFew}
use Rattle.retention.specs.Sweeping.{IsAfterFirst}
use Rattle.retention.specs.Sweeps.{sweeps_some}
use Rattle.series_book.specs.declared.edits.Edit.{Edit}
use Rattle.series_book.specs.declared.one_series.Series.{Series}
use Rattle.series_book.specs.EditLists.{after_edits}
use Rattle.series_store.specs.Asking.{IsBadPage as IsBadOfStore}
use Rattle.series_store.specs.Results.{IsUnchanged}
use Rattle.series_store.specs.Shown as stored
use Rattle.series_store.specs.declared.store.Store.{Store}
use Rattle.stored_book.specs.Standing.{StandsForBook}
use Rattle.zoom_session.specs.declared.session.Session.{Session}

-- ---- over a plain book

-- no clear is done
none_done : (rule : Rule) (total : ℕ) (book : List Series) (image : Image) → StandsForBook image total book
    → IsAfterFirst total book (sweeps_some total book rule most_clears) image
none_done rule total book image stands = record { done = 0; few = omega arith; stands = stands }

-- or all of the step
all_done : (rule : Rule) (total : ℕ) (book : List Series) (image : Image)
    → StandsForBook image total (book_stepped total book rule most_clears)
    → IsAfterFirst total book (sweeps_some total book rule most_clears) image
all_done rule total book image stands =
    let clears : List Edit = sweeps_some total book rule most_clears in
    let S : List Edit → Type 0 = λ l. StandsForBook image total (after_edits total book l) in
    record { done = length clears; few = omega arith; stands = subst S (sym (take_all (length clears) clears (omega arith))) stands }

-- the frame of a step, by what it tells
abbrev frame_with : ℕ → ℕ → Bool → Frame
frame_with clears used more = Report (Swept clears used more)

made_is : (one : SweptSome) (other : SweepError) → ◌≡◌ {A = Result SweptSome SweepError} (Ok one) (Err other) → ⊥
made_is one other is = cc

never_fails : (frame : Frame) (error : ServiceError) → ◌≡◌ {A = Result Frame ServiceError} (Ok frame) (Err error) → ⊥
never_fails frame error is = cc

same_error : (one other : ServiceError) → ◌≡◌ {A = Result Frame ServiceError} (Err one) (Err other) → one ≡ other
same_error one other is = cc

same_end : (one other : SweepError) → ◌≡◌ {A = Result SweptSome SweepError} (Err one) (Err other) → one ≡ other
same_end one other is = cc

-- the page of an error is bad
bad_page : (told : Type 0) (total page : ℕ) (old new : View) → total ≤ old.size → new.size ≡ old.size → IsBadOfStore told total new page
    → IsBadPage told new.size new.image page
bad_page told total page old new room size bad = (omega (arith, bad.0, room, size), bad.1)

-- a store that stayed
module _ {P : Type 0} {g : Ghosts P} where
  same_stands : (old new : Store P g) → new ≡ old → (total : ℕ) (book : List Series) → StandsForBook (stored.image old) total book
      → StandsForBook (stored.image new) total book
  same_stands old new same total book stands = let S : Store P g → Type 0 = λ s. StandsForBook (stored.image s) total book in
      subst S (sym same) stands

  unchanged_by : (old new : Store P g) → new ≡ old → IsUnchanged (stored.IsTold old) (stored.view old) (stored.view new)
  unchanged_by old new same =
      let S : Store P g → Type 0 = λ s. IsUnchanged (stored.IsTold old) (stored.view old) (stored.view s) in
      subst S (sym same) (record { image = λ t. refl; fit = λ f. f; syncs = refl; writes = refl })

-- ---- of a live service

module _ {P : Type 0} {g : Ghosts P} {h : StepperGhosts (ServiceStepper P g) ServiceError} {streams : StreamGhosts (ServiceStepper P g)}
  where
    -- what is said of a step, answered or not
    pub record StepFacts (rule : Rule) (result : Result Frame ServiceError)
        (old new : Live (ServiceStepper P g) ServiceError h streams) : Type 0 where
      pub reply : its.ForBook old (λ total book. IfOk result (its.AnswersSo (SweepReplied rule) total book old new))
      pub standing : its.ForBook old (λ total book. IfErr result IsOutside)
      pub left : its.ForBook old (λ total book. result ≢ Err step.DiskFault
          → SweepsSome rule (its.state old total book) (its.view new).image)
      pub moments : its.ForBook old (λ total book. shown.PassesTo (SweepsSome rule (its.state old total book)) (its.service old)
          (its.service new))
      pub commits : its.ForBook old (λ total book. CommitsFew (length (step_clears (shown.state (its.service old) total book) rule))
          (its.view old) (its.view new))
      pub within : CommitsFew most_clears (its.view old) (its.view new)
      pub tells : IfOk result (λ frame. TellsStep frame (shown.IsTold (its.service old)) (its.view old) (its.view new))
      pub reads : (its.view new).reads ≤ (its.view old).reads + step_reads
      pub ended : IfErr result (λ error. live.IsIdle new)
      pub sessions : shown.sessions (its.service new) ≡ shown.sessions (its.service old)
      pub followed : live.followed new ≡ live.followed old
      pub disk : result ≡ Err step.DiskFault → HasRisen (its.view old).faults (its.view new).faults
      pub faults : CountsFault (fault_in step_fault result) (its.view old) (its.view new)
      pub bad : IfErr result (NamesBad (shown.IsTold (its.service new)) (its.view new).size (its.view new).image)
      pub carries : CarriesOn (shown.store (its.service old)) (shown.store (its.service new))
      pub sound : result ≢ Err step.DiskFault → (its.view new).fit

    -- it is done, and pushes are pending
    pub step_done : (rule : Rule) (swept : SweptSome) (frame : Frame) (old mid new : Live (ServiceStepper P g) ServiceError h streams)
        → frame ≡ frame_of swept → Fits frame → live.followed mid ≡ live.followed old
        → StepsService rule (Ok swept) (its.service old) (its.service mid)
        → PushesBehind rule swept.clears mid new → StepFacts rule (Ok frame) old new
    step_done rule swept frame old mid new is fits followed before pushes =
        let S : ServiceStepper P g → Type 0 = λ s. StepsService rule (Ok swept) (its.service old) s.service in
        let steps = subst S (sym pushes.stepper) before in
        let store = steps.store in
        let T : Frame → Type 0 = λ f. TellsStep f (shown.IsTold (its.service old)) (its.view old) (its.view new) in
        record {
          reply = λ total book told stands.
              let done = store.done total book told stands in
              let after : List Series = book_stepped total book rule most_clears in
              let own = new.stepper.service.sessions in
              record {
                book = after;
                stands = done.stands;
                so = (
                  inr (record {
                    there = λ none. made_is swept sweep.UnknownSeries ((store.unknown total book told stands).1 none);
                    frame_is = is ∙ (λ i. frame_with (done.clears i) (done.used i) (done.more i));
                    state_is = ap (λ (l : List Session). state_of after total l) steps.sessions;
                    followed_same = pushes.followed_same ∙ followed;
                    pending_now = pushes.pending_now total after store.sound (store.carries.told told) done.stands
                        ∙ ap (λ (l : List ℕ). pushed_behind swept.clears (swept_followers rule after own l)) followed
                        ∙ ap (λ n. pushed_behind n (swept_followers rule after own old.followed.items)) done.clears;
                  }),
                  fits,
                  steps.state total after store.sound (store.carries.told told) done.stands,
                );
              };
          standing = λ total book told stands. tt;
          left = λ total book told stands other. all_done rule total book (its.view new).image (store.done total book told stands).stands;
          moments = store.moments;
          commits = store.commits;
          within = store.within;
          tells = subst T (sym is) store.each;
          reads = store.reads;
          ended = tt;
          sessions = steps.sessions;
          followed = pushes.followed_same ∙ followed;
          disk = λ fails. absurd (never_fails frame step.DiskFault fails);
          faults = store.faults;
          bad = tt;
          carries = store.carries;
          sound = λ other. store.sound;
        }

    -- it is done, and there was no memory to tell whom to push to
    pub step_untold : (rule : Rule) (swept : SweptSome) (old mid new : Live (ServiceStepper P g) ServiceError h streams) → live.IsIdle old
        → live.followed mid ≡ live.followed old → live.pending mid ≡ live.pending old
        → StepsService rule (Ok swept) (its.service old) (its.service mid)
        → live.Stays mid new → StepFacts rule (Err step.NoMemory) old new
    step_untold rule swept old mid new idle followed pending before stays =
        let S : ServiceStepper P g → Type 0 = λ s. StepsService rule (Ok swept) (its.service old) s.service in
        let steps = subst S (sym stays.stepper) before in
        let store = steps.store in
        record {
          reply = λ total book told stands. tt;
          standing = λ total book told stands. inr refl;
          left = λ total book told stands other. all_done rule total book (its.view new).image (store.done total book told stands).stands;
          moments = store.moments;
          commits = store.commits;
          within = store.within;
          tells = tt;
          reads = store.reads;
          ended = stays.pending_same ∙ pending ∙ idle;
          sessions = steps.sessions;
          followed = stays.followed_same ∙ followed;
          disk = λ fails. let no = same_error step.NoMemory step.DiskFault fails in cc (no);
          faults = store.faults;
          bad = tt;
          carries = store.carries;
          sound = λ other. store.sound;
        }

    -- it wasn't done to its end
    failed : (rule : Rule) (error : SweepError) (old new : Live (ServiceStepper P g) ServiceError h streams) → IfOk (error_reply error) Fits
        → live.IsIdle old → live.followed new ≡ live.followed old → live.pending new ≡ live.pending old
        → StepsService rule (Err error) (its.service old) (its.service new)
        → StepFacts rule (error_reply error) old new
    failed rule sweep.UnknownSeries old new fits idle followed pending steps =
        let store = steps.store in
        let same = store.untouched refl in
        record {
          reply = λ total book told stands.
              let there : StandsForBook (its.view new).image total book = same_stands (its.service old).store
              (its.service new).store same total book stands in
              record {
                book = book;
                stands = there;
                so = (
                  inl (record {
                    none = (store.unknown total book told stands).0 refl;
                    frame_is = refl;
                    state_same = ap (λ (l : List Session). state_of book total l) steps.sessions;
                    followed_same = followed;
                    idle = pending ∙ idle;
                  }),
                  fits,
                  steps.state total book store.sound_for (store.carries.told told) there,
                );
              };
          standing = λ total book told stands. tt;
          left = λ total book told stands other. none_done rule total book (its.view new).image
              (same_stands (its.service old).store (its.service new).store same total book stands);
          moments = store.moments;
          commits = store.commits;
          within = store.within;
          tells = (refl, unchanged_by (its.service old).store (its.service new).store same);
          reads = store.reads;
          ended = tt;
          sessions = steps.sessions;
          followed = followed;
          disk = λ fails. absurd (never_fails _ step.DiskFault fails);
          faults = store.faults;
          bad = tt;
          carries = store.carries;
          sound = λ other. store.sound_for;
        }
    failed rule sweep.DiskFault old new fits idle followed pending steps =
        let store = steps.store in
        record {
          reply = λ total book told stands. tt;
          standing = λ total book told stands. inl refl;
          left = λ total book told stands other. absurd (other refl);
          moments = store.moments;
          commits = store.commits;
          within = store.within;
          tells = tt;
          reads = store.reads;
          ended = pending ∙ idle;
          sessions = steps.sessions;
          followed = followed;
          disk = λ fails. store.cause;
          faults = store.faults;
          bad = tt;
          carries = store.carries;
          sound = λ other. absurd (other refl);
        }
    failed rule (sweep.Damaged page) old new fits idle followed pending steps =
        let store = steps.store in
        record {
          reply = λ total book told stands. tt;
          standing = λ total book told stands. absurd (store.stops total book told stands);
          left = λ total book told stands other. absurd (store.stops total book told stands);
          moments = store.moments;
          commits = store.commits;
          within = store.within;
          tells = tt;
          reads = store.reads;
          ended = pending ∙ idle;
          sessions = steps.sessions;
          followed = followed;
          disk = λ fails. let no = same_error (step.Damaged page) step.DiskFault fails in cc (no);
          faults = store.faults;
          bad = bad_page _ _ page (its.view old) (its.view new) store.room store.carries.size store.cause;
          carries = store.carries;
          sound = λ other. store.sound_for;
        }
    failed rule sweep.NoMemory old new fits idle followed pending steps =
        let store = steps.store in
        record {
          reply = λ total book told stands. tt;
          standing = λ total book told stands. inr refl;
          left = λ total book told stands other. store.stops total book told stands;
          moments = store.moments;
          commits = store.commits;
          within = store.within;
          tells = tt;
          reads = store.reads;
          ended = pending ∙ idle;
          sessions = steps.sessions;
          followed = followed;
          disk = λ fails. let no = same_error step.NoMemory step.DiskFault fails in cc (no);
          faults = store.faults;
          bad = tt;
          carries = store.carries;
          sound = λ other. store.sound_for;
        }

    pub step_failed : (rule : Rule) (error : SweepError) (result : Result Frame ServiceError)
        (old new : Live (ServiceStepper P g) ServiceError h streams) → result ≡ error_reply error → IfOk result Fits → live.IsIdle old
        → live.followed new ≡ live.followed old → live.pending new ≡ live.pending old
        → StepsService rule (Err error) (its.service old) (its.service new) → StepFacts rule result old new
    step_failed rule error result old new is fits idle followed pending steps =
        let R : Result Frame ServiceError → Type 0 = λ r. StepFacts rule r old new in
        let F : Result Frame ServiceError → Type 0 = λ r. IfOk r Fits in
        subst R (sym is) (failed rule error old new (subst F is fits) idle followed pending steps)
