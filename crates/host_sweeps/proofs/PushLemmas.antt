-- To whom a frame is pushed behind the clears of a rule.
use Rattle.std.proofs.Common.{◌≡◌, ◌∙◌, ◌≤◌, ℕ, zero, suc, List, Option, Result, Ok, Err, refl, sym, ap, arith}
use Rattle.std.specs.Prelude.{OnOk}
use Rattle.block_disk.specs.declared.streams.Streams.{Ghosts as StreamGhosts}
use Rattle.chart_service.specs.Shown as shown
use Rattle.chart_service.specs.declared.failure.ServiceError.{ServiceError}
use Rattle.gate_pages.specs.declared.pages.Pages.{Ghosts}
use Rattle.host_sweeps.specs.Steps.{PushesBehind}
use Rattle.host_sweeps.specs.Sweeping.{pushed_behind, swept_followers}
use Rattle.live_service.specs.declared.stepper.ServiceStepper.{ServiceStepper}
use Rattle.live_view.specs.Live as live
use Rattle.live_view.specs.Replies.{followers}
use Rattle.live_view.specs.declared.live.Live.{Live}
use Rattle.live_view.specs.declared.stepper.Stepper.{Ghosts as StepperGhosts}
use Rattle.retention.specs.declared.rule.Rule.{Rule}
use Rattle.retention.specs.declared.rule.Rule.TheVariants.{Before, Last}
use Rattle.series_book.specs.declared.one_series.Series.{Series}
use Rattle.series_book.specs.Edits.{id_of}
use Rattle.zoom_session.specs.declared.session.Session.{Session}

-- what the relations of the stepper say
pub record MeansNames {P : Type 0} {g : Ghosts P} (h : StepperGhosts (ServiceStepper P g) ServiceError) : Type 0 where
  pub names : (it : ServiceStepper P g) (name : List ℕ) (id : Option ℕ) → h.names it name id
      → shown.ForSoundBook it.service (λ total book. id ≡ id_of name book)
  pub sessions : (it : ServiceStepper P g) → h.sessions it ≡ it.service.sessions

-- the rule names the series of this name
abbrev Follows : Rule → List ℕ → Type 0
Follows rule name = (book : List Series) (ss : List Session) (ns : List ℕ)
    → swept_followers rule book ss ns ≡ followers (id_of name book) ss ns

pub before_follows : (rule : Rule) (name : List ℕ) (time : _) → rule ≡ Before name time → Follows rule name
before_follows rule name time is = λ book ss ns. ap (λ (r : Rule). swept_followers r book ss ns) is

pub last_follows : (rule : Rule) (name : List ℕ) (count : ℕ) → rule ≡ Last name count → Follows rule name
last_follows rule name count is = λ book ss ns. ap (λ (r : Rule). swept_followers r book ss ns) is

-- some clears were made
pub behind_some : (clears : ℕ) (ns : List ℕ) → 1 ≤ clears → pushed_behind clears ns ≡ ns
behind_some zero ns some = absurd (omega (arith, some))
behind_some (suc n) ns some = refl

-- a call that was done
pub on_ok_so : {E : Type 0} (r : Result (Unit {0}) E) (A B : Type 0) → (A → B) → OnOk r A → OnOk r B
on_ok_so (Ok x) A B more so = more so
on_ok_so (Err e) A B more so = tt

module _ {P : Type 0} {g : Ghosts P} {h : StepperGhosts (ServiceStepper P g) ServiceError} {streams : StreamGhosts (ServiceStepper P g)}
  where
    -- behind clears of a series of a name
    pub behind_named : MeansNames h → (rule : Rule) (name : List ℕ) (clears : ℕ)
        (old new : Live (ServiceStepper P g) ServiceError h streams)
        → Follows rule name → 1 ≤ clears → live.PushesTo name old new → PushesBehind rule clears old new
    behind_named m rule name clears old new names some pushes = record {
      stepper = pushes.stepper;
      followed_same = pushes.followed_same;
      pending_now = λ total book fit told stands.
          let ss = new.stepper.service.sessions in
          let ns = old.followed.items in
          pushes.pending_now
          ∙ ap (λ (o : Option ℕ). followers o (h.sessions new.stepper) ns)
          (m.names new.stepper name pushes.series pushes.named total book fit told stands)
          ∙ ap (λ (l : List Session). followers (id_of name book) l ns) (m.sessions new.stepper)
          ∙ sym (names book ss ns)
          ∙ sym (behind_some clears (swept_followers rule book ss ns) some);
    }
