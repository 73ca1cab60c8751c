-- What `show` knows of the sessions that are open.
use Rattle.std.proofs.Common.{◌≡◌, ℕ, Bool, true, List, [], Option, Some, None, inl, inr, refl, sym, ap, subst}
use Rattle.std.proofs.lemmas.Bool.Decides.{eqb_tells}
use Rattle.std.specs.Prelude.{IsTrue, ◌||◌, ◌&&◌, not, is_some, ◌≢◌}
use Rattle.line_raster.specs.Canvas.{Canvas}
use Rattle.chart_client.specs.Accepting.{Accepts, AcceptsView, Rejects, named_in, viewed}
use Rattle.chart_client.specs.Holdings.{holding_of}
use Rattle.chart_client.specs.Showing.{ScreenGives}
use Rattle.chart_client.specs.declared.errors.ClientError.TheVariants as client
use Rattle.chart_client.specs.declared.holding.Holding.{Holding}
use Rattle.chart_frames.specs.declared.frame.Frame.{Frame}
use Rattle.chart_frames.specs.declared.frame.Frame.TheVariants.{Done, Refused, Opened, Closed, View, Rows, Live, Report}
use Rattle.chart_frames.specs.declared.frame.ViewFrame.{ViewFrame}
use Rattle.chart_frames.specs.Opened.{opens}
use Rattle.zoom_session.specs.declared.session.Session.{Session}
use Rattle.zoom_session.specs.Sessions.{is_open}
use Rattle.chart_program.specs.declared.run_end.RunEnd.TheVariants.{Show}
use Rattle.chart_service.specs.Knowing.{KnowsOpen, NamesKnown}
use Rattle.chart_program.specs.Known.{Follows, EndsKnown}
use Rattle.chart_program.proofs.Telling.{OneFrame, shown_frame}

-- ---- a screen knows the sessions of which it holds a list

abbrev pub holds_of : List Holding → ℕ → Bool
holds_of held n = is_some (holding_of n held)

abbrev pub OthersStay : Type 0
OthersStay = (frame : Frame) (drawing : Option Canvas) (old new : List Holding) (number : ℕ) → Accepts frame drawing old new
    → named_in frame ≢ Some number → holding_of number new ≡ holding_of number old

abbrev pub OpeningHolds : Type 0
OpeningHolds = (number size : ℕ) (drawing : Option Canvas) (old new : List Holding) → Accepts (Opened number size) drawing old new
    → holding_of number new ≡ Some (record { number = number; cache = record { pairs = []; capacity = size } })

abbrev pub ViewHolds : Type 0
ViewHolds = (view : ViewFrame) (holding : Holding) (drawing : Canvas) (old new : List Holding) → holding_of view.session old ≡ Some holding
    → (accepted : AcceptsView view holding.cache drawing old new)
    → holding_of view.session new ≡ Some (record { number = view.session; cache = viewed view holding.cache accepted.wanted })

same_some : (m n : ℕ) → Some m ≡ Some n → m ≡ n
same_some m n e = cc

some_held : (o : Option Holding) (h : Holding) → o ≡ Some h → IsTrue (is_some o)
some_held o h is = let P : Option Holding → Type 0 = λ x. IsTrue (is_some x) in subst P (sym is) refl

same_held : (n : ℕ) (old new : List Holding) → holding_of n new ≡ holding_of n old → IsTrue (holds_of old n) → IsTrue (holds_of new n)
same_held n old new same is = let P : Option Holding → Type 0 = λ x. IsTrue (is_some x) in subst P (sym same) is

module _ (others : OthersStay) (opening : OpeningHolds) (viewing : ViewHolds) where
  holds_next : (frame : Frame) (drawing : Option Canvas) (old new : List Holding) (n : ℕ) → Accepts frame drawing old new
      → IsTrue (opens frame n (holds_of old n)) → IsTrue (holds_of new n)
  holds_next (Done slots) drawing old new n accepts is = same_held n old new (ap (λ l. holding_of n l) accepts.1) is
  holds_next (Refused number a b) drawing old new n accepts is = same_held n old new (ap (λ l. holding_of n l) accepts.1) is
  holds_next (Opened number size) drawing old new n accepts is = elim (eqb_tells number n) [
    | inl same ↦
        let P : ℕ → Type 0 = λ m. IsTrue (holds_of new m) in
        subst P same.1 (some_held (holding_of number new) _ (opening number size drawing old new accepts))
    | inr other ↦
        let was : IsTrue (holds_of old n) = subst (λ (b : Bool). IsTrue (b || holds_of old n)) other.0 is in
        same_held n old new (others (Opened number size) drawing old new n accepts (λ e. other.1 (same_some number n e))) was
  ]
  holds_next (Closed number) drawing old new n accepts is = elim (eqb_tells number n) [
    | inl same ↦ let gone : IsTrue (not true && holds_of old n) = subst (λ (b : Bool). IsTrue (not b && holds_of old n)) same.0 is in cc
    | inr other ↦
        let was : IsTrue (holds_of old n) = subst (λ (b : Bool). IsTrue (not b && holds_of old n)) other.0 is in
        same_held n old new (others (Closed number) drawing old new n accepts (λ e. other.1 (same_some number n e))) was
  ]
  holds_next (View view) None old new n accepts is = absurd accepts
  holds_next (View view) (Some drawing) old new n accepts is = elim (eqb_tells view.session n) [
    | inl same ↦
        let P : ℕ → Type 0 = λ m. IsTrue (holds_of new m) in
        subst P same.1 (some_held (holding_of view.session new) _ (viewing view accepts.0 drawing old new accepts.1 accepts.2))
    | inr other ↦ same_held n old new (others (View view) (Some drawing) old new n accepts (λ e. other.1 (same_some view.session n e))) is
  ]
  holds_next (Rows rows) None old new n accepts is = absurd accepts
  holds_next (Rows rows) (Some drawing) old new n accepts is = same_held n old new (ap (λ l. holding_of n l) accepts.1.holdings) is
  holds_next (Live session on) drawing old new n accepts is = same_held n old new (ap (λ l. holding_of n l) accepts.2) is
  holds_next (Report report) drawing old new n accepts is = same_held n old new (ap (λ l. holding_of n l) accepts.1) is

  pub screen_follows : OneFrame → Follows ScreenGives holds_of
  screen_follows one old new frame shown n fits given is =
      let same : frame ≡ shown.frame = shown_frame one frame shown.frame fits given.0 in
      let A : Frame → Type 0 = λ f. Accepts f shown.bitmap old new in
      holds_next frame shown.bitmap old new n (subst A (sym same) given.1) is

not_held : (o : Option Holding) → o ≡ None → IsTrue (is_some o) → ⊥
not_held o none is = let P : Option Holding → Type 0 = λ x. IsTrue (is_some x) in let gone = subst P none is in cc

known_rejects : (frame : Frame) (n : ℕ) (old : List Holding) → NamesKnown frame (holds_of old) → Rejects frame (client.UnknownSession n) old
    → ⊥
known_rejects (Done slots) n old named rejects = let e = rejects.0 in cc
known_rejects (Refused number a b) n old named rejects = let e = rejects.0 in cc
known_rejects (Opened number size) n old named rejects = let e = rejects.0 in cc
known_rejects (Closed number) n old named rejects = let P : ℕ → Type 0 = λ m. IsTrue (holds_of old m) in
    not_held (holding_of n old) rejects.1 (subst P (same_some number n rejects.0) named)
known_rejects (View view) n old named rejects = let P : ℕ → Type 0 = λ m. IsTrue (holds_of old m) in
    not_held (holding_of n old) rejects.1 (subst P (same_some view.session n rejects.0) named)
known_rejects (Rows rows) n old named rejects = let P : ℕ → Type 0 = λ m. IsTrue (holds_of old m) in
    not_held (holding_of n old) rejects.1 (subst P (same_some rows.session n rejects.0) named)
known_rejects (Live session on) n old named rejects = let P : ℕ → Type 0 = λ m. IsTrue (holds_of old m) in
    not_held (holding_of n old) rejects.1 (subst P (same_some session n rejects.0) named)
known_rejects (Report report) n old named rejects = let e = rejects.0 in cc

-- a screen that knows the open sessions misses none
pub never_unknown : OneFrame → (number : ℕ) → EndsKnown ScreenGives holds_of (Show (client.UnknownSession number)) → ⊥
never_unknown one number ends =
    let rejects = ends.5.0 in
    let same : ends.1 ≡ rejects.frame = shown_frame one ends.1 rejects.frame ends.3 rejects.spelled in
    let R : Frame → Type 0 = λ f. Rejects f (client.UnknownSession number) ends.0 in
    known_rejects ends.1 number ends.0 ends.4 (subst R (sym same) rejects.rejects)

-- before the first line no session is open
pub known_first : (held : List Holding) (sessions : List Session) → sessions ≡ [] → KnowsOpen holds_of held sessions
known_first held sessions none = λ n is.
    let P : List Session → Type 0 = λ s. IsTrue (is_open n s) in
    let gone = subst P none is in
    cc
