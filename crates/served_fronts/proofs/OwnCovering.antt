-- What `cover` sends of a front of one session's answers.
use Rattle.std.specs.Prelude.{flat_map, filter, nat_le, if◌then◌else◌}
use Rattle.std.proofs.Common.{◌≡◌, ℕ, ◌-◌, inl, inr, Bool, true, false, List, [], ◌∷◌, ◌++◌, length, map, take, Option, Some}
use Rattle.std.proofs.Common.{refl, ap, sym, subst, ◌∙◌, append-nil}
use Rattle.std.proofs.lemmas.Bool.{eq-eqb}
use Rattle.std.proofs.lemmas.List.Elements.{All-filter}
use Rattle.view_keys.specs.Laws.{NeededKeysAreFew}
use Rattle.line_raster.specs.Canvas.{Canvas}
use Rattle.chart_frames.specs.declared.frame.Frame.{Frame}
use Rattle.chart_frames.specs.declared.frame.Frame.TheVariants as frame
use Rattle.chart_frames.specs.Frames.{Fits, spelling}
use Rattle.chart_client.specs.declared.holding.Holding.{Holding}
use Rattle.chart_service.specs.State.{State, IsSound}
use Rattle.chart_service.specs.Serving.{RepliesToAll}
use Rattle.chart_service.specs.Replies.{Replied, RepliesToLine}
use Rattle.chart_service.specs.Alone.{only, alone, concerns}
use Rattle.chart_service.specs.Laws.{SessionsStandAlone}
use Rattle.chart_service.proofs.Standing.{alone_sound}
use Rattle.drawn_replies.specs.Mirrors.{IsPictureOf, Mirrors, mirrored}
use Rattle.drawn_replies.specs.Laws.{OwnRepliesDrawTheBook}
use Rattle.drawn_replies.specs.Pictures.{AcceptsAll, AreOwnPictured, IsOwnPicture, names}
use Rattle.draw_command.specs.Covers.{SendsFrame, SendsFrames}
use Rattle.served_fronts.specs.Books.{Line}
use Rattle.served_fronts.specs.Fronts.{whole_frames, Covers}
use Rattle.served_fronts.specs.Answers.{Answer, bytes_of, whole_in, says_in, said_in, AreCovers, SendsCovers, FrontsAreCovered}
use Rattle.served_fronts.proofs.Accepting.{OwnAccepted, concerned, never_crowded}
use Rattle.served_fronts.proofs.Agreeing.{OneReply}
use Rattle.served_fronts.proofs.Covering.{CoverLaws, AgreesSo, said_covered, nothing_sent, fronts_covered}
use Rattle.served_fronts.proofs.Fronts.{OneFrame, Told, replies_fit}
use Rattle.served_fronts.proofs.Owning.{all_of, own_spelled, from, closed_at}
use Rattle.served_fronts.proofs.Saying.{OneReading, open_in, line_said}
use Rattle.served_fronts.proofs.Stopped.{Stay, Good, Accepted, drawn_by}

first_drawing : (d e : Option Canvas) → d ∷ [] ≡ e ∷ [] → e ≡ d
first_drawing d e is = cc

module _ (laws : CoverLaws) (every : ℕ) (stands : SessionsStandAlone) (draws : OwnRepliesDrawTheBook) (either : OneReading)
    (bound : NeededKeysAreFew) (told : Told) (one : OneReply) (m : ℕ) where
  -- one line that is answered by this frame
  module _ (l : Line) (f : Frame) (old between : State) (sound : IsSound old) (replied : Replied l f old between) (h : List Holding)
      (mirrors : Mirrors (only m old.sessions) h) where
    -- a frame of another session leaves the client as it is
    mirrors_other : names m f ≡ false → Mirrors (only m between.sessions) h
    mirrors_other other =
        let A : Bool → Type 0 = λ b. AcceptsAll h (if b then f ∷ [] else []) [] h in
        (draws m (l ∷ []) (f ∷ []) [] old between h h sound (between, replied, refl) mirrors (subst A (sym other) refl)).1

    module _ (named : names m f ≡ true) (d : Option Canvas) (h' : List Holding) (bytes : List ℕ)
        (s : SendsFrame (Some every) f d h h' bytes) where
      drew : AreOwnPictured m old (l ∷ []) (f ∷ []) (d ∷ []) between × Mirrors (only m between.sessions) h'
      drew =
          let A : Bool → Type 0 = λ b. AcceptsAll h (if b then f ∷ [] else []) (d ∷ []) h' in
          draws m (l ∷ []) (f ∷ []) (d ∷ []) old between h h' sound (between, replied, refl) mirrors
          (subst A (sym named) (h', s.accepted, refl))

      -- its drawing is the picture of the book
      pictured : IsPictureOf old between f d
      pictured =
          let p = drew.0 in
          let states = (one l f f old p.0 between p.1 replied.0).1 in
          let I : Bool → Type 0 = λ b. IsOwnPicture b old p.0 f p.2 in
          let mine = subst I named p.5 in
          let all : d ∷ [] ≡ mine.0 ∷ [] =
          p.4 ∙ ap (λ l'. p.2 ++ l') p.6.1 ∙ append-nil p.2 ∙ mine.1 in
          let D : Option Canvas → Type 0 = λ o. IsPictureOf old p.0 f o in
          let S : State → Type 0 = λ x. IsPictureOf old x f d in
          subst S states (subst D (first_drawing d mine.0 all) mine.2)

      -- the book's series agrees with what is held of the session
      agrees : AgreesSo f d h
      agrees = λ view same c some.
          let said = line_said either bound l old between f replied.0 in
          let owned = concerned old.total old.book (open_in old) m l said.reply said.fits (sym (said.named m) ∙ named) in
          let never = never_crowded m l f (concerns m l) named in
          let all = stands m (l ∷ []) (f ∷ []) old between (between, replied, refl) never in
          let R : Bool → Type 0 = λ b. RepliesToAll (alone m old) (if b then l ∷ [] else []) (if b then f ∷ [] else [])
          (alone m between) in
          let here : RepliesToAll (alone m old) (l ∷ []) (f ∷ []) (alone m between) = subst R owned all in
          let L : Frame → Type 0 = λ g. RepliesToLine l g (alone m old) here.0 in
          let P : Frame → Type 0 = λ g. IsPictureOf old between g d in
          let Q : Option Canvas → Type 0 = λ o. IsPictureOf old between (frame.View view) o in
          let shown = subst Q some (subst P same pictured) in
          let agree = laws.agree l view (alone m old) here.0 h (alone_sound m old sound) (subst L same here.1.0) mirrors in
          (shown.0.slots, λ holding grid there on. agree holding grid shown.0 there on shown.1)

  own_step : (l : Line) (f : Frame) (rest : List Frame) (later : List Answer) (old between : State) (h now : List Holding) (bytes : List ℕ)
      (replied : Replied l f old between) → IsSound old → Mirrors (only m old.sessions) h → names m f ≡ true
      → ((ds : List (Option Canvas)) (h' : List Holding) (more : List ℕ) → Mirrors (only m between.sessions) h'
      → SendsFrames (Some every) rest ds h' now more → AreCovers later more)
      → (drawings : List (Option Canvas)) → SendsFrames (Some every) (f ∷ rest) drawings h now bytes
      → AreCovers (record { bytes = spelling f; reply = (line_said either bound l old between f replied.0).reply } ∷ later) bytes
  own_step l f rest later old between h now bytes replied sound mirrors named all [] s = absurd s
  own_step l f rest later old between h now bytes replied sound mirrors named all (d ∷ ds) s =
      let said = line_said either bound l old between f replied.0 in
      let shown = pictured l f old between sound replied h mirrors named d s.0 s.1 s.3 in
      let agree = agrees l f old between sound replied h mirrors named d s.0 s.1 s.3 in
      let held = (drew l f old between sound replied h mirrors named d s.0 s.1 s.3).1 in
      let first = said_covered laws every said.reply f d h s.0 s.1 said.tells (said.shows d shown) replied.1 agree s.3 in
      (s.1, s.2, first, all ds s.0 s.2 held s.4, s.5)

  own_covered : (n : ℕ) (lines : List Line) (frames : List Frame) (drawings : List (Option Canvas)) (old new : State)
      (h now : List Holding) (bytes : List ℕ) → (replied : RepliesToAll old lines frames new) → IsSound old
      → Mirrors (only m old.sessions) h → SendsFrames (Some every) (whole_frames n (filter (names m) frames)) drawings h now bytes
      → AreCovers (whole_in n (said_in m (all_of either bound told one lines frames old new replied))) bytes
  own_covered n [] [] drawings old new h now bytes replied sound mirrors sends = nothing_sent laws every drawings h now bytes sends
  own_covered n [] (f ∷ fs) drawings old new h now bytes replied sound mirrors sends = absurd replied
  own_covered n (l ∷ ls) [] drawings old new h now bytes replied sound mirrors sends = absurd replied
  own_covered n (l ∷ ls) (f ∷ fs) drawings old new h now bytes replied sound mirrors sends =
      let said = line_said either bound l old replied.0 f replied.1.0 in
      let answer : Answer = record { bytes = spelling f; reply = said.reply } in
      let mine = said_in m (all_of either bound told one ls fs replied.0 new replied.2) in
      let others = filter (names m) fs in
      let k = n - length (spelling f) in
      let E : Bool → Type 0 = λ b. AreCovers (whole_in n (if b then answer ∷ mine else mine)) bytes in
      subst E (said.named m) ((elim (names m f) as (λ b. names m f ≡ b
      → SendsFrames (Some every) (whole_frames n (if b then f ∷ others else others)) drawings h now bytes
      → AreCovers (whole_in n (if b then answer ∷ mine else mine)) bytes) [
        | true ↦ λ named s. (elim (nat_le (length (spelling f)) n) as
            (λ c. SendsFrames (Some every) (if c then f ∷ whole_frames k others else []) drawings h now bytes
            → AreCovers (if c then answer ∷ whole_in k mine else []) bytes) [
              | true ↦ λ x. own_step l f (whole_frames k others) (whole_in k mine) old replied.0 h now bytes replied.1 sound mirrors named
                  (λ ds h' more mirrors' y. own_covered k ls fs ds replied.0 new h' now more replied.2 replied.1.2 mirrors' y) drawings x
              | false ↦ λ x. nothing_sent laws every drawings h now bytes x
            ]) s
        | false ↦ λ other s. own_covered n ls fs drawings replied.0 new h now bytes replied.2 replied.1.2
            (mirrors_other l f old replied.0 sound replied.1 h mirrors other) s
      ]) refl sends)

-- all answers, or those of one session from an opening on
pub reached_covered : CoverLaws → OneFrame → Stay → Good → Accepted → SessionsStandAlone → OwnRepliesDrawTheBook → OwnAccepted
    → (either : OneReading) (bound : NeededKeysAreFew) (told : Told) (one : OneReply) (lines : List Line) (frames : List Frame)
    (old new : State) (replied : RepliesToAll old lines frames new) → IsSound old → old.sessions ≡ []
    → FrontsAreCovered (all_of either bound told one lines frames old new replied)
reached_covered laws frame_law stay good accepted stands draws own_accepted either bound told one lines frames old new replied sound alone
    every got n left before now (inl same) few drew =
    let D : List Answer → Type 0 = λ l. Covers every (take n (bytes_of l)) left before now in
    let S : List Answer → Type 0 = λ l. SendsCovers (whole_in n l) before now in
    subst S (sym same) (fronts_covered laws frame_law stay good accepted either bound told one lines frames old new replied sound alone
    every n left before now few (subst D same drew))
reached_covered laws frame_law stay good accepted stands draws own_accepted either bound told one lines frames old new replied sound alone
    every got n left before now (inr own_got) few drew =
    let m = own_got.0 in
    let opening = own_got.3 in
    let behind = own_got.4 in
    let reply = own_got.5 in
    let f = from either bound told one lines frames old new replied sound own_got.2 opening behind own_got.6 in
    let none = closed_at either bound told one m own_got.1 f.lines f.frames f.old new f.replied opening behind f.same reply in
    let mine = said_in m (all_of either bound told one f.lines f.frames f.old new f.replied) in
    let named : says_in m opening.reply ≡ true = ap (says_in m) reply ∙ eq-eqb m m refl in
    let is : mine ≡ opening ∷ said_in m behind =
    ap (said_in m) f.same ∙ ap (λ b. if b then opening ∷ said_in m behind else said_in m behind) named in
    let frames_of = filter (names m) f.frames in
    let bytes : bytes_of got ≡ flat_map spelling frames_of =
    ap bytes_of (own_got.7 ∙ sym is) ∙ own_spelled either bound told one m f.lines f.frames f.old new f.replied in
    let D : List ℕ → Type 0 = λ l. Covers every (take n l) left before now in
    let fit = All-filter (names m) Fits f.frames (replies_fit f.lines f.frames f.old new f.replied) in
    let rejected = own_accepted m f.lines f.frames f.old new f.sound none f.replied in
    let d = drawn_by frame_law told (Some every) stay good frames_of n before now fit rejected few left (subst D bytes drew) in
    let mirrors = ap (λ ss. map mirrored ss) (sym none) in
    let are = own_covered laws every stands draws either bound told one m n f.lines f.frames d.drawings f.old new [] d.holdings d.bytes
    f.replied f.sound mirrors d.sends in
    let A : List Answer → Type 0 = λ l. AreCovers (whole_in n l) d.bytes in
    record { covers = d.bytes; are = subst A (is ∙ sym own_got.7) are; sent = d.sent }
