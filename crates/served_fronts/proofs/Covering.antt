-- What `cover` sends of a front of the answers to lines.
use Rattle.std.specs.Prelude.{slice_get, is_some, flat_map, nat_le, if◌then◌else◌}
use Rattle.std.proofs.Common.{◌≡◌, ℕ, ℤ, ◌-◌, ◌<◌, ◌≤◌, ◌^◌, true, false, List, [], ◌∷◌, ◌++◌, length, map, take, Option, None, Some}
use Rattle.std.proofs.Common.{refl, ap, sym, subst, ◌∙◌}
use Rattle.value_filter.specs.declared.steps.Step.{Step}
use Rattle.view_keys.specs.Laws.{NeededKeysAreFew}
use Rattle.zoom_session.specs.declared.view_spec.ViewSpec.{ViewSpec}
use Rattle.plain_chart.specs.declared.sample.Sample.{Sample}
use Rattle.line_raster.specs.Canvas.{Canvas}
use Rattle.pbm_writer.specs.Picture.{picture}
use Rattle.chart_frames.specs.declared.frame.Frame.{Frame}
use Rattle.chart_frames.specs.declared.frame.Frame.TheVariants as frame
use Rattle.chart_frames.specs.declared.frame.ViewFrame.{ViewFrame}
use Rattle.chart_frames.specs.Frames.{Fits, spelling}
use Rattle.chart_client.specs.declared.holding.Holding.{Holding}
use Rattle.chart_service.specs.State.{State, IsSound}
use Rattle.chart_service.specs.Serving.{RepliesToAll}
use Rattle.chart_service.specs.Replies.{RepliesToLine}
use Rattle.drawn_replies.specs.Mirrors.{IsPictureOf, Mirrors, mirrored}
use Rattle.drawn_replies.specs.Laws.{LinesAreDrawn, LineViewsAgree}
use Rattle.draw_command.specs.Covers.{picture_bytes, AreCoversOf, SendsFrame, SendsFrames, AgreesWith, LiesWithin}
use Rattle.draw_command.specs.Laws.{CoversNarrow, CoversHoldThePicture}
use Rattle.served_fronts.specs.Books.{Line}
use Rattle.served_fronts.specs.Fronts.{whole_frames, Covers}
use Rattle.served_fronts.specs.Answers.{Reply, Answer, bytes_of, whole_in, LiesIn, IsDrawing, IsCovered, HasCovers, AreCovers, SendsCovers}
use Rattle.served_fronts.specs.Answers.Reply.{applied, opened, closed, shown, refused}
use Rattle.served_fronts.proofs.Agreeing.{OneReply}
use Rattle.served_fronts.proofs.Fronts.{OneFrame, Told, replies_fit}
use Rattle.served_fronts.proofs.Saying.{OneReading, Shows, Tells, HasDrawing, line_said}
use Rattle.served_fronts.proofs.Showing.{answers_of, spelled}
use Rattle.served_fronts.proofs.Stopped.{Stay, Good, Accepted, drawn_by}

-- what `cover` stands on: how a client draws, that the book agrees with what it holds, and that covers hold pictures
pub record CoverLaws : Type 0 where
  pub draws : LinesAreDrawn
  pub agree : LineViewsAgree
  pub narrow : CoversNarrow
  pub hold : CoversHoldThePicture

-- the series of a view agrees with what is held
abbrev pub AgreesSo : Frame → Option Canvas → List Holding → Type 0
AgreesSo f d h = (view : ViewFrame) → f ≡ frame.View view → (c : Canvas) → d ≡ Some c → (list : List (Option ℤ)) × AgreesWith view h list

-- no cover is sent for the frame
abbrev NoCover : ℕ → Frame → List Holding → Type 0
NoCover every f h = (covers : List Canvas) → AreCoversOf (Some every) f h covers → covers ≡ []

none_there : (i : ℕ) (c : Canvas) → slice_get [] i ≡ Some c → ⊥
none_there i c is = cc

module _ (laws : CoverLaws) (every : ℕ) where
  none_sent : (f : Frame) (d : Option Canvas) (h h' : List Holding) (bytes : List ℕ) → NoCover every f h → d ≡ None
      → SendsFrame (Some every) f d h h' bytes → bytes ≡ []
  none_sent f d h h' bytes bare is s =
      s.bytes_are ∙ ap (λ cs. flat_map picture cs ++ picture_bytes d) (bare s.covers s.covered) ∙ ap picture_bytes is

  -- a view by rows has no cover, and its picture
  rows_covered : (view : ViewSpec) (samples : List Sample) (f : Frame) (c : Canvas) (h h' : List Holding) (bytes : List ℕ)
      → NoCover every f h → IsDrawing view samples c → SendsFrame (Some every) f (Some c) h h' bytes → IsCovered view samples bytes
  rows_covered view samples f c h h' bytes bare is s = record {
    drawing = c;
    is = is;
    covers = [];
    shrink = λ i j early late here there low. absurd (none_there i early here);
    hold = λ i cover here. absurd (none_there i cover here);
    are = s.bytes_are ∙ ap (λ cs. flat_map picture cs ++ picture c) (bare s.covers s.covered);
  }

  view_covered : (view : ViewSpec) (samples : List Sample) (v : ViewFrame) (c : Canvas) (h h' : List Holding) (bytes : List ℕ)
      → Fits (frame.View v) → AgreesSo (frame.View v) (Some c) h → IsDrawing view samples c
      → SendsFrame (Some every) (frame.View v) (Some c) h h' bytes → IsCovered view samples bytes
  view_covered view samples v c h h' bytes fits agree is s =
      let a = s.accepted.2 in
      let w : view.grid.w ≡ v.w = sym is.chart.width ∙ a.wide in
      let t : view.grid.h ≡ v.h = sym is.chart.height ∙ a.high in
      let on : (inner outer : Canvas) → LiesWithin v inner outer → LiesIn view.grid inner outer =
      λ inner outer lies x y left low. lies x y (subst (λ (k : ℕ). x < k) w left) (subst (λ (k : ℕ). y < k) t low) in
      let list = agree v refl c refl in
      record {
        drawing = c;
        is = is;
        covers = s.covers;
        shrink = λ i j early late here there low.
            on late early (laws.narrow every v h s.covers i j early late fits s.covered.first here there low);
        hold = λ i cover here. on c cover (laws.hold every v h h' s.covers i cover c list.0 fits s.covered.first here s.accepted list.1);
        are = s.bytes_are;
      }

  -- a view of a session
  shown_covered : (n : ℕ) (view : ViewSpec) (samples : List Sample) (o : Option (List Step)) (f : Frame) (c : Canvas) (h h' : List Holding)
      (bytes : List ℕ) → Shows n (is_some o) f → Fits f → AgreesSo f (Some c) h → IsDrawing view samples c
      → SendsFrame (Some every) f (Some c) h h' bytes → IsCovered view samples bytes
  shown_covered n view samples None f c h h' bytes shows fits agree is s =
      let F : Frame → Type 0 = λ g. Fits g in
      let A : Frame → Type 0 = λ g. AgreesSo g (Some c) h in
      let S : Frame → Type 0 = λ g. SendsFrame (Some every) g (Some c) h h' bytes in
      view_covered view samples shows.0 c h h' bytes (subst F shows.1 fits) (subst A shows.1 agree) is (subst S shows.1 s)
  shown_covered n view samples (Some steps) f c h h' bytes shows fits agree is s =
      let S : Frame → Type 0 = λ g. SendsFrame (Some every) g (Some c) h h' bytes in
      rows_covered view samples (frame.Rows shows.0) c h h' bytes (λ covers none. none) is (subst S shows.1 s)

  -- any reply
  pub said_covered : (reply : Reply) (f : Frame) (d : Option Canvas) (h h' : List Holding) (bytes : List ℕ) → Tells reply f
      → HasDrawing reply d
      → Fits f → AgreesSo f d h → SendsFrame (Some every) f d h h' bytes → HasCovers reply bytes
  said_covered applied f d h h' bytes tells is fits agree s =
      let N : Frame → Type 0 = λ g. NoCover every g h in
      none_sent f d h h' bytes (subst N (sym tells.1) (λ covers none. none)) is s
  said_covered (opened n cache) f d h h' bytes tells is fits agree s =
      let N : Frame → Type 0 = λ g. NoCover every g h in
      none_sent f d h h' bytes (subst N (sym tells) (λ covers none. none)) is s
  said_covered (closed n) f d h h' bytes tells is fits agree s =
      let N : Frame → Type 0 = λ g. NoCover every g h in
      none_sent f d h h' bytes (subst N (sym tells) (λ covers none. none)) is s
  said_covered (shown n view samples) f None h h' bytes tells is fits agree s = absurd is
  said_covered (shown n view samples) f (Some c) h h' bytes tells is fits agree s =
      shown_covered n view samples view.filter f c h h' bytes tells fits agree is s
  said_covered refused f d h h' bytes tells is fits agree s =
      let N : Frame → Type 0 = λ g. NoCover every g h in
      none_sent f d h h' bytes (subst N (sym tells.3) (λ covers none. none)) is s

  -- the book's series of a view agrees
  agrees_so : (line : Line) (f : Frame) (d : Option Canvas) (old between : State) (h : List Holding) → IsSound old
      → RepliesToLine line f old between → Mirrors old.sessions h → IsPictureOf old between f d → AgreesSo f d h
  agrees_so line f d old between h sound replied mirrors is = λ view same c some.
      let R : Frame → Type 0 = λ g. RepliesToLine line g old between in
      let P : Frame → Type 0 = λ g. IsPictureOf old between g d in
      let Q : Option Canvas → Type 0 = λ o. IsPictureOf old between (frame.View view) o in
      let shown = subst Q some (subst P same is) in
      let agree = laws.agree line view old between h sound (subst R same replied) mirrors in
      (shown.0.slots, λ holding grid there on. agree holding grid shown.0 there on shown.1)

  pub nothing_sent : (drawings : List (Option Canvas)) (h now : List Holding) (bytes : List ℕ)
      → SendsFrames (Some every) [] drawings h now bytes → AreCovers [] bytes
  nothing_sent [] h now bytes s = s.1
  nothing_sent (d ∷ ds) h now bytes s = absurd s

  module _ (either : OneReading) (bound : NeededKeysAreFew) (told : Told) (one : OneReply) where
    step : (l : Line) (f : Frame) (rest : List Frame) (later : List Answer) (old between : State) (h now : List Holding) (bytes : List ℕ)
        (is : RepliesToLine l f old between) → Fits f → IsSound old → Mirrors old.sessions h
        → ((ds : List (Option Canvas)) (h' : List Holding) (more : List ℕ) → Mirrors between.sessions h'
        → SendsFrames (Some every) rest ds h' now more → AreCovers later more)
        → (drawings : List (Option Canvas)) → SendsFrames (Some every) (f ∷ rest) drawings h now bytes
        → AreCovers (record { bytes = spelling f; reply = (line_said either bound l old between f is).reply } ∷ later) bytes
    step l f rest later old between h now bytes is fits sound mirrors all [] s = absurd s
    step l f rest later old between h now bytes is fits sound mirrors all (d ∷ ds) s =
        let drew = laws.draws l f old between h sound is mirrors d s.0 s.3.accepted in
        let said = line_said either bound l old between f is in
        let agree = agrees_so l f d old between h sound is mirrors drew.1 in
        let first = said_covered said.reply f d h s.0 s.1 said.tells (said.shows d drew.1) fits agree s.3 in
        (s.1, s.2, first, all ds s.0 s.2 drew.0 s.4, s.5)

    covered : (n : ℕ) (lines : List Line) (frames : List Frame) (drawings : List (Option Canvas)) (old new : State) (h now : List Holding)
        (bytes : List ℕ) → (replied : RepliesToAll old lines frames new) → IsSound old → Mirrors old.sessions h
        → SendsFrames (Some every) (whole_frames n frames) drawings h now bytes
        → AreCovers (whole_in n (answers_of either bound told one lines frames old new replied)) bytes
    covered n [] [] drawings old new h now bytes replied sound mirrors sends = nothing_sent drawings h now bytes sends
    covered n [] (f ∷ fs) drawings old new h now bytes replied sound mirrors sends = absurd replied
    covered n (l ∷ ls) [] drawings old new h now bytes replied sound mirrors sends = absurd replied
    covered n (l ∷ ls) (f ∷ fs) drawings old new h now bytes replied sound mirrors sends =
        let answer : Answer = record { bytes = spelling f; reply = (line_said either bound l old replied.0 f replied.1.0).reply } in
        let m = n - length (spelling f) in
        let rest = whole_frames m fs in
        let later = whole_in m (answers_of either bound told one ls fs replied.0 new replied.2) in
        (elim (nat_le (length (spelling f)) n) as (λ b. SendsFrames (Some every) (if b then f ∷ rest else []) drawings h now bytes
        → AreCovers (if b then answer ∷ later else []) bytes) [
          | true ↦ λ s. step l f rest later old replied.0 h now bytes replied.1.0 replied.1.1 sound mirrors
              (λ ds h' more mirrors' s'. covered m ls fs ds replied.0 new h' now more replied.2 replied.1.2 mirrors' s') drawings s
          | false ↦ λ s. nothing_sent drawings h now bytes s
        ]) sends

-- a front of the bytes of all answers
pub fronts_covered : CoverLaws → OneFrame → Stay → Good → Accepted → (either : OneReading) (bound : NeededKeysAreFew) (told : Told)
    (one : OneReply) (lines : List Line) (frames : List Frame) (old new : State) (replied : RepliesToAll old lines frames new)
    → IsSound old → old.sessions ≡ [] → (every n : ℕ) (left before now : Option (List ℕ)) → n ≤ 2 ^ 32
    → Covers every (take n (bytes_of (answers_of either bound told one lines frames old new replied))) left before now
    → SendsCovers (whole_in n (answers_of either bound told one lines frames old new replied)) before now
fronts_covered laws frame_law stay good accepted either bound told one lines frames old new replied sound alone every n left before now
    few drew =
    let bytes = spelled either bound told one lines frames old new replied in
    let D : List ℕ → Type 0 = λ l. Covers every (take n l) left before now in
    let fit = replies_fit lines frames old new replied in
    let none = accepted lines frames old new sound alone replied in
    let d = drawn_by frame_law told (Some every) stay good frames n before now fit none few left (subst D bytes drew) in
    let mirrors = ap (λ ss. map mirrored ss) (sym alone) in
    record {
      covers = d.bytes;
      are = covered laws every either bound told one n lines frames d.drawings old new [] d.holdings d.bytes replied sound mirrors d.sends;
      sent = d.sent;
    }
