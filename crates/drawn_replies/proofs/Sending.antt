-- A client that is sent some of the frames alone.
use Rattle.std.proofs.Common.{◌≡◌, Bool, true, false, if◌then◌else◌, List, [], ◌∷◌, ◌++◌, map, Option, None, refl, sym, ap, ◌∙◌, subst}
use Rattle.std.specs.Prelude.{⊤}
use Rattle.std.specs.List.{filter}
use Rattle.line_raster.specs.Canvas.{Canvas}
use Rattle.zoom_session.specs.declared.session.Session.{Session}
use Rattle.chart_client.specs.Accepting.{Accepts, Rejects}
use Rattle.chart_client.specs.declared.errors.ClientError.{ClientError}
use Rattle.chart_client.specs.declared.errors.ClientError.TheVariants.{NoMemory}
use Rattle.chart_client.specs.declared.holding.Holding.{Holding}
use Rattle.chart_frames.specs.declared.frame.Frame.{Frame}
use Rattle.chart_service.specs.State.{State}
use Rattle.drawn_replies.specs.Mirrors.{Mirrors, OnlyLacksMemory}
use Rattle.drawn_replies.specs.Pictures.{AcceptsAll, IsDrawn}
use Rattle.drawn_replies.specs.Sent.{Follows, each}

none_there : (front behind : List Frame) (frame : Frame) → [] ≡ front ++ frame ∷ behind → ⊥
none_there [] behind frame is = cc
none_there (g ∷ gs) behind frame is = cc

module _ (is_sent : Frame → Bool) (some : List Session → List Session) where
  -- the same with other drawings, which are so where the client accepts the frame with them
  pub follows_so : (f : Frame) (old new : State) (IsSo AreSo : Option Canvas → Type 0) → Follows is_sent some f old new IsSo
      → ((d : Option Canvas) (h now : List Holding) → Accepts f d h now → IsSo d → AreSo d) → Follows is_sent some f old new AreSo
  follows_so f old new IsSo AreSo follows so = record {
    draws = λ sent h m d now a. let here = follows.draws sent h m d now a in (here.0, so d h now a here.1);
    accepts = follows.accepts;
    stays = follows.stays;
  }

  -- ---- what is drawn of the first of some frames, and of those behind it

  pub record Next (f : Frame) (fs : List Frame) (new : State) (IsSo : Option Canvas
      → Type 0) (drawings : List (Option Canvas)) (now : List Holding) : Type 0 where
    pub drawn : List (Option Canvas)
    pub later : List (Option Canvas)
    pub drawings_are : drawings ≡ drawn ++ later
    pub is : IsDrawn (is_sent f) IsSo drawn
    pub holdings : List Holding
    pub mirrors : Mirrors (some new.sessions) holdings
    pub others : AcceptsAll holdings (filter is_sent fs) later now

  abbrev Taken : Bool → Frame → List Frame → List (Option Canvas) → List Holding → List Holding → Type 0
  Taken b f fs drawings h now = AcceptsAll h (if b then f ∷ filter is_sent fs else filter is_sent fs) drawings now

  sent_next : (f : Frame) (fs : List Frame) (old new : State) (IsSo : Option Canvas
      → Type 0) (drawings : List (Option Canvas)) (h now : List Holding)
      → Follows is_sent some f old new IsSo → Mirrors (some old.sessions) h → is_sent f ≡ true
      → AcceptsAll h (f ∷ filter is_sent fs) drawings now
      → Next f fs new IsSo drawings now
  sent_next f fs old new IsSo [] h now follows m sent a = absurd a
  sent_next f fs old new IsSo (d ∷ ds) h now follows m sent a =
      let here = follows.draws sent h m d a.0 a.1 in
      let B : Bool → Type 0 = λ b. IsDrawn b IsSo (d ∷ []) in
      record {
        drawn = d ∷ [];
        later = ds;
        drawings_are = refl;
        is = subst B (sym sent) (d, refl, here.1);
        holdings = a.0;
        mirrors = here.0;
        others = a.2;
      }

  unsent_next : (f : Frame) (fs : List Frame) (old new : State) (IsSo : Option Canvas
      → Type 0) (drawings : List (Option Canvas)) (h now : List Holding)
      → Follows is_sent some f old new IsSo → Mirrors (some old.sessions) h → is_sent f ≡ false
      → AcceptsAll h (filter is_sent fs) drawings now
      → Next f fs new IsSo drawings now
  unsent_next f fs old new IsSo drawings h now follows m unsent a =
      let B : Bool → Type 0 = λ b. IsDrawn b IsSo [] in
      let S : List Session → Type 0 = λ ss. Mirrors ss h in
      record {
        drawn = [];
        later = drawings;
        drawings_are = refl;
        is = subst B (sym unsent) refl;
        holdings = h;
        mirrors = subst S (sym (follows.stays unsent)) m;
        others = a;
      }

  pub next : (f : Frame) (fs : List Frame) (old new : State) (IsSo : Option Canvas
      → Type 0) (drawings : List (Option Canvas)) (h now : List Holding)
      → Follows is_sent some f old new IsSo → Mirrors (some old.sessions) h → AcceptsAll h (filter is_sent (f ∷ fs)) drawings now
      → Next f fs new IsSo drawings now
  next f fs old new IsSo drawings h now follows m a =
      (elim (is_sent f) as (λ b. is_sent f ≡ b → Taken b f fs drawings h now → Next f fs new IsSo drawings now) [
        | true ↦ λ sent a'. sent_next f fs old new IsSo drawings h now follows m sent a'
        | false ↦ λ unsent a'. unsent_next f fs old new IsSo drawings h now follows m unsent a'
      ]) refl a

  -- nothing is drawn of it, and nothing of those behind it
  pub none_drawn : (f : Frame) (fs : List Frame) (drawn later : List (Option Canvas)) → IsDrawn (is_sent f) (λ d. d ≡ None) drawn
      → later ≡ map (λ x. None) (filter is_sent fs) → drawn ++ later ≡ map (λ x. None) (filter is_sent (f ∷ fs))
  none_drawn f fs drawn later is none =
      (elim (is_sent f) as (λ b. IsDrawn b (λ d. d ≡ None) drawn
      → drawn ++ later ≡ map (λ x. None) (if b then f ∷ filter is_sent fs else filter is_sent fs)) [
        | true ↦ λ one.
            ap (λ l. l ++ later) (one.1 ∙ ap (λ (d : Option Canvas). d ∷ []) one.2) ∙ ap (λ (l : List (Option Canvas)). None ∷ l) none
        | false ↦ λ no. ap (λ l. l ++ later) no ∙ none
      ]) is

  -- ---- none of them is rejected

  -- the client follows frames, one after the other
  abbrev pub AllFollow : State → List Frame → State → Type 0
  AllFollow old [] new = new ≡ old
  AllFollow old (f ∷ fs) new = (between : State) × Follows is_sent some f old between (λ d. ⊤) × AllFollow between fs new

  pub follow_one : (f : Frame) (fs : List Frame) (old between new : State) (IsSo : Option Canvas → Type 0)
      → Follows is_sent some f old between IsSo
      → AllFollow between fs new → AllFollow old (f ∷ fs) new
  follow_one f fs old between new IsSo follows later = (between, follows_so f old between IsSo (λ d. ⊤) follows (λ d h now a so. tt), later)

  pub follow_then : (old mid new : State) (first later : List Frame) → AllFollow old first mid → AllFollow mid later new
      → AllFollow old (first ++ later) new
  follow_then old mid new [] later same all = let P : State → Type 0 = λ s. AllFollow s later new in subst P same all
  follow_then old mid new (f ∷ fs) later one all = (one.0, one.1, follow_then one.0 mid new fs later one.2 all)

  stays_mirrored : (f : Frame) (old new : State) (h : List Holding) → Follows is_sent some f old new (λ d. ⊤) → is_sent f ≡ false
      → Mirrors (some old.sessions) h → Mirrors (some new.sessions) h
  stays_mirrored f old new h follows unsent m = let S : List Session → Type 0 = λ ss. Mirrors ss h in subst S (sym (follows.stays unsent)) m

  abbrev Kept : Bool → Frame → List Frame → List Frame
  Kept b f fs = if b then f ∷ filter is_sent fs else filter is_sent fs

  pub none_rejected : (frames front behind : List Frame) (frame : Frame) (drawings : List (Option Canvas)) (old new : State)
      (h now : List Holding) (e : ClientError)
      → AllFollow old frames new → Mirrors (some old.sessions) h → filter is_sent frames ≡ front ++ frame ∷ behind
      → AcceptsAll h front drawings now → Rejects frame e now → e ≡ NoMemory
  none_rejected [] front behind frame drawings old new h now e all m is a r = absurd (none_there front behind frame is)
  none_rejected (f ∷ fs) [] behind frame (d ∷ ds) old new h now e all m is a r = absurd a
  none_rejected (f ∷ fs) (g ∷ gs) behind frame [] old new h now e all m is a r = absurd a
  none_rejected (f ∷ fs) [] behind frame [] old new h now e all m is a r =
      (elim (is_sent f) as (λ b. is_sent f ≡ b → Kept b f fs ≡ frame ∷ behind → e ≡ NoMemory) [
        | true ↦ λ sent is'.
            let same : f ≡ frame = cc in
            let F : Frame → Type 0 = λ x. Rejects x e now in
            let H : List Holding → Type 0 = λ x. Rejects f e x in
            all.1.accepts sent h m e (subst H a (subst F (sym same) r))
        | false ↦ λ unsent is'. none_rejected fs [] behind frame [] all.0 new h now e all.2
            (stays_mirrored f old all.0 h all.1 unsent m) is' a r
      ]) refl is
  none_rejected (f ∷ fs) (g ∷ gs) behind frame (d ∷ ds) old new h now e all m is a r =
      (elim (is_sent f) as (λ b. is_sent f ≡ b → Kept b f fs ≡ g ∷ (gs ++ frame ∷ behind) → e ≡ NoMemory) [
        | true ↦ λ sent is'.
            let same : f ≡ g = cc in
            let rest : filter is_sent fs ≡ gs ++ frame ∷ behind = cc in
            let A : Frame → Type 0 = λ x. Accepts x d h a.0 in
            let here = all.1.draws sent h m d a.0 (subst A (sym same) a.1) in
            none_rejected fs gs behind frame ds all.0 new a.0 now e all.2 here.0 rest a.2 r
        | false ↦ λ unsent is'. none_rejected fs (g ∷ gs) behind frame (d ∷ ds) all.0 new h now e all.2
            (stays_mirrored f old all.0 h all.1 unsent m) is' a r
      ]) refl is

-- ---- a client that is sent each frame

never : true ≡ false → ⊥
never is = cc

pub each_follows : (f : Frame) (old new : State) (IsSo : Option Canvas → Type 0)
    → ((h : List Holding) → Mirrors old.sessions h → (d : Option Canvas) (now : List Holding) → Accepts f d h now
    → Mirrors new.sessions now × IsSo d)
    → ((h : List Holding) → Mirrors old.sessions h → OnlyLacksMemory f h) → Follows each (λ ss. ss) f old new IsSo
each_follows f old new IsSo draws accepts = record {
  draws = λ sent h m d now a. draws h m d now a;
  accepts = λ sent h m. accepts h m;
  stays = λ unsent. absurd (never unsent);
}

pub all_sent : (frames : List Frame) → filter each frames ≡ frames
all_sent [] = refl
all_sent (f ∷ fs) = ap (λ l. f ∷ l) (all_sent fs)
