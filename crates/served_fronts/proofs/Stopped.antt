-- A front of good frames stops at none of them.
use Rattle.std.proofs.Common.{◌≡◌, ℕ, ◌-◌, ◌^◌, ◌≤◌, inl, inr, true, false, List, [], ◌∷◌, ◌++◌, length}
use Rattle.std.proofs.Common.{take, drop, map, Option, None, refl, ap, sym, subst, ◌∙◌, arith, append_assoc, append-nil}
use Rattle.std.specs.Prelude.{flat_map, filter, All, nat_le}
use Rattle.std.proofs.lemmas.List.{length-take, take-append-drop, take_all}
use Rattle.std.proofs.lemmas.List.Elements.{All-nil, All-cons, All-head, All-tail, All-filter}
use Rattle.block_disk.specs.Streams.{sent_after}
use Rattle.chart_frames.specs.declared.frame.Frame.{Frame}
use Rattle.chart_frames.specs.declared.frame.Frame.TheVariants.{Done}
use Rattle.chart_frames.specs.Format.{Breaks}
use Rattle.chart_frames.specs.Fields.{frame_fields}
use Rattle.chart_frames.specs.Frames.{Fits, spelling}
use Rattle.chart_frames.specs.Pending.{Pending, held}
use Rattle.chart_client.specs.declared.holding.Holding.{Holding}
use Rattle.chart_client.specs.declared.errors.ClientError.{ClientError}
use Rattle.chart_client.specs.declared.errors.ClientError.TheVariants as client
use Rattle.chart_client.specs.Accepting.{Rejects}
use Rattle.chart_service.specs.State.{State, IsSound}
use Rattle.chart_service.specs.Serving.{RepliesToAll}
use Rattle.line_raster.specs.Canvas.{Canvas}
use Rattle.drawn_replies.specs.Mirrors.{mirrored}
use Rattle.drawn_replies.specs.Laws.{RepliesDrawTheBook, OwnRepliesDrawTheBook}
use Rattle.drawn_replies.specs.Pictures.{NoneRejected, names}
use Rattle.draw_command.specs.Covers.{SendsFrames}
use Rattle.draw_command.specs.declared.draw_end.DrawEnd.{DrawEnd}
use Rattle.draw_command.specs.declared.draw_end.DrawEnd.TheVariants as draw_end
use Rattle.draw_command.specs.Draws.{DrawsFirst, FramesStop, StopsAtFrame, NextStops, EndsDraw}
use Rattle.served_fronts.specs.Books.{Line}
use Rattle.served_fronts.specs.Fronts.{whole_frames, IsOfInput, DrawsBy}
use Rattle.served_fronts.specs.Laws.{DrawnFrontsAreTheBook, DrawnOwnFrontsAreTheBook}
use Rattle.served_fronts.proofs.Accepting.{OwnAccepted}
use Rattle.served_fronts.proofs.Fronts.{OneFrame, Told, NoneWhole, some_bytes, none_whole, cut_frame, take_behind, low_of, high_of}
use Rattle.served_fronts.proofs.Fronts.{take_none, whole, replies_fit, first_lines, own_first, accepted_by, pictured_by}

abbrev pub Stay : Type 0
Stay = (bytes more : List ℕ) (at : ℕ) → Breaks frame_fields bytes at → Breaks frame_fields (bytes ++ more) at

abbrev pub Good : Type 0
Good = (f : Frame) (x : List ℕ) (at : ℕ) → Fits f → Breaks frame_fields (spelling f ++ x) at → ⊥

-- the rest is a front of the frames behind those that were drawn
record Behind (frames drawn : List Frame) (rest : List ℕ) : Type 0 where
  later : List Frame
  split : frames ≡ drawn ++ later
  fit : All Fits later
  most : ℕ
  is : rest ≡ take most (flat_map spelling later)

module _ (one : OneFrame) (told : Told) where
  behind : (frames drawn : List Frame) (n : ℕ) (rest : List ℕ) → All Fits frames → All Fits drawn
      → take n (flat_map spelling frames) ≡ flat_map spelling drawn ++ rest → Behind frames drawn rest
  behind frames [] n rest fit fit_drawn same = record { later = frames; split = refl; fit = fit; most = n; is = sym same }
  behind [] (g ∷ gs) n rest fit fit_drawn same =
      absurd (some_bytes told g (flat_map spelling gs ++ rest) (All-head Fits g gs fit_drawn)
      (sym (append_assoc (spelling g) (flat_map spelling gs) rest) ∙ sym same ∙ take_none n))
  behind (f ∷ fs) (g ∷ gs) n rest fit fit_drawn same =
      (elim (nat_le (length (spelling f)) n) as (λ b. nat_le (length (spelling f)) n ≡ b → Behind (f ∷ fs) (g ∷ gs) rest) [
        | false ↦ λ test. let few = high_of (length (spelling f)) n test in
            absurd (cut_frame one n f g (flat_map spelling gs ++ rest) (flat_map spelling fs) (All-head Fits f fs fit)
            (All-head Fits g gs fit_drawn) few (same ∙ append_assoc (spelling g) (flat_map spelling gs) rest))
        | true ↦ λ test.
            let low = low_of (length (spelling f)) n test in
            let next = one f g (take (n - length (spelling f)) (flat_map spelling fs)) (flat_map spelling gs ++ rest)
            (All-head Fits f fs fit) (All-head Fits g gs fit_drawn)
            (sym (take_behind (spelling f) (flat_map spelling fs) n low) ∙ same
            ∙ append_assoc (spelling g) (flat_map spelling gs) rest) in
            let b = behind fs gs (n - length (spelling f)) rest (All-tail Fits f fs fit) (All-tail Fits g gs fit_drawn) next.1 in
            record { later = b.later; split = ap (λ h. h ∷ fs) next.0 ∙ ap (λ l. g ∷ l) b.split; fit = b.fit; most = b.most; is = b.is }
      ]) refl

  -- no field of a front breaks its rule
  none_breaks : Stay → Good → (later : List Frame) (most at : ℕ) → All Fits later
      → Breaks frame_fields (take most (flat_map spelling later)) at → ⊥
  none_breaks stay good [] most at fit breaks =
      let P : List ℕ → Type 0 = λ l. Breaks frame_fields l at in
      good (Done 0) [] at (omega arith) (stay [] (spelling (Done 0) ++ []) at (subst P (take_none most) breaks))
  none_breaks stay good (f ∷ fs) most at fit breaks =
      let P : List ℕ → Type 0 = λ l. Breaks frame_fields l at in
      let all = flat_map spelling (f ∷ fs) in
      good f (flat_map spelling fs) at (All-head Fits f fs fit)
      (subst P (take-append-drop most all) (stay (take most all) (drop most all) at breaks))

  -- and the next frame isn't rejected
  none_rejects : (every : Option ℕ) (frames drawn : List Frame) (n : ℕ) (rest : List ℕ) (frame : Frame) (more : List ℕ)
      (drawings : List (Option Canvas))
      (h : List Holding) (bytes : List ℕ) (e : ClientError) → All Fits frames → All Fits drawn → NoneRejected frames
      → take n (flat_map spelling frames) ≡ flat_map spelling drawn ++ rest → rest ≡ spelling frame ++ more → Fits frame
      → SendsFrames every drawn drawings [] h bytes → Rejects frame e h → e ≡ client.NoMemory
  none_rejects every frames drawn n rest frame more drawings h bytes e fit fit_drawn accepted same next fits sends rejects =
      let b = behind frames drawn n rest fit fit_drawn same in
      let c = behind b.later (frame ∷ []) b.most more b.fit (All-cons Fits frame [] fits (All-nil Fits))
      (sym b.is ∙ next ∙ ap (λ l. l ++ more) (sym (append-nil (spelling frame)))) in
      accepted drawn c.later frame drawings h e (b.split ∙ ap (λ l. drawn ++ l) c.split)
      (accepted_by every drawn drawings [] h bytes sends) rejects

  -- what was drawn of a front
  pub record Drawn (every : Option ℕ) (n : ℕ) (frames : List Frame) (before now : Option (List ℕ)) : Type 0 where
    pub drawings : List (Option Canvas)
    pub holdings : List Holding
    pub bytes : List ℕ
    pub sends : SendsFrames every (whole_frames n frames) drawings [] holdings bytes
    pub sent : now ≡ sent_after bytes before

  module _ (every : Option ℕ) (stay : Stay) (good : Good) (frames : List Frame) (n : ℕ) (before now : Option (List ℕ))
      (fit : All Fits frames)
      (accepted : NoneRejected frames) (few : n ≤ 2 ^ 32) where
    abbrev input : List ℕ
    input = take n (flat_map spelling frames)

    within : length input ≤ 2 ^ 32
    within = omega (arith, few, length-take n (flat_map spelling frames))

    ends : (rest : Pending) (holdings : List Holding) → DrawsFirst every input rest holdings before now → NoneWhole rest.rest
        → Drawn every n frames before now
    ends rest holdings d none =
        let S : List Frame → Type 0 = λ fs. SendsFrames every fs d.drawings [] holdings d.bytes in
        record {
          drawings = d.drawings;
          holdings = holdings;
          bytes = d.bytes;
          sends = subst S (whole one told frames d.frames n rest.rest fit d.fit d.split none) d.sends;
          sent = d.sent;
        }

    at_all : (end : DrawEnd) → StopsAtFrame every input before now end → FramesStop every (held 0 input) [] before now end
    at_all end stops =
        let P : List ℕ → Type 0 = λ l. FramesStop every (held 0 l) [] before now end in
        subst P (take_all (2 ^ 32) input within) stops

    at_next : (end : DrawEnd) (e : ClientError) → (s : FramesStop every (held 0 input) [] before now end)
        → (next : NextStops every s.rest s.client s.sent_first now end) → Rejects next.frame e s.client → e ≡ client.NoMemory
    at_next end e s next rejects =
        none_rejects every frames s.first.frames n s.rest.rest next.frame next.behind s.first.drawings s.client s.first.bytes e fit
        s.first.fit
        accepted s.first.split next.next next.fits s.first.sends rejects

    -- the drawing didn't stop at a frame
    no_stop : (end : DrawEnd) → IsOfInput end → StopsAtFrame every input before now end → ⊥
    no_stop draw_end.NoMemory own stops = absurd own
    no_stop draw_end.ReadFault own stops = absurd own
    no_stop draw_end.SendFault own stops = absurd own
    no_stop draw_end.InputTooLong own stops = (at_all draw_end.InputTooLong stops).stops.stops
    no_stop (draw_end.BadFrame at) own stops =
        let s = at_all (draw_end.BadFrame at) stops in
        let b = behind frames s.first.frames n s.rest.rest fit s.first.fit s.first.split in
        let P : List ℕ → Type 0 = λ l. Breaks frame_fields l s.stops.1.0 in
        none_breaks stay good b.later b.most s.stops.1.0 b.fit (subst P b.is s.stops.1.2)
    no_stop (draw_end.Missing key) own stops =
        let s = at_all (draw_end.Missing key) stops in
        let never : client.Missing key ≡ client.NoMemory =
        at_next (draw_end.Missing key) (client.Missing key) s s.stops s.stops.stops.0 in
        cc
    no_stop (draw_end.BadCoefficient key) own stops =
        let s = at_all (draw_end.BadCoefficient key) stops in
        let never : client.BadCoefficient key ≡ client.NoMemory =
        at_next (draw_end.BadCoefficient key) (client.BadCoefficient key) s s.stops s.stops.stops.0 in
        cc
    no_stop (draw_end.UnknownSession number) own stops =
        let s = at_all (draw_end.UnknownSession number) stops in
        let never : client.UnknownSession number ≡ client.NoMemory =
        at_next (draw_end.UnknownSession number) (client.UnknownSession number) s s.stops s.stops.stops.0 in
        cc

    any_end : (left : Option (List ℕ)) (end : DrawEnd) → IsOfInput end → EndsDraw every input left before now end
        → Drawn every n frames before now
    any_end left draw_end.NoMemory own ends = absurd own
    any_end left draw_end.ReadFault own ends = absurd own
    any_end left draw_end.SendFault own ends = absurd own
    any_end left draw_end.InputTooLong own past = absurd (omega (arith, within, past.past))
    any_end left (draw_end.BadFrame at) own (inl cut) = ends cut.rest cut.holdings cut.first (none_whole told cut.rest.rest cut.unended)
    any_end left (draw_end.BadFrame at) own (inr stops) = absurd (no_stop (draw_end.BadFrame at) own stops)
    any_end left (draw_end.Missing key) own stops = absurd (no_stop (draw_end.Missing key) own stops)
    any_end left (draw_end.BadCoefficient key) own stops = absurd (no_stop (draw_end.BadCoefficient key) own stops)
    any_end left (draw_end.UnknownSession number) own stops = absurd (no_stop (draw_end.UnknownSession number) own stops)

    -- whatever end it had: the frames that stand whole in the front were drawn
    pub drawn_by : (left : Option (List ℕ)) → DrawsBy every input left before now → Drawn every n frames before now
    drawn_by left (inl all) = ends (held all.0 []) all.1 all.2 (λ f y fits same. some_bytes told f y fits (sym same))
    drawn_by left (inr (end, own, ends)) = any_end left end own ends

abbrev pub Accepted : Type 0
Accepted =
    (lines : List Line) (frames : List Frame) (old new : State)
    → IsSound old → old.sessions ≡ [] → RepliesToAll old lines frames new → NoneRejected frames

pub drawn_fronts : OneFrame → Told → Stay → Good → RepliesDrawTheBook → Accepted → DrawnFrontsAreTheBook
drawn_fronts one told stay good draws accepted lines frames old new n left before now sound alone replied few drew =
    let fit = replies_fit lines frames old new replied in
    let all = accepted lines frames old new sound alone replied in
    let d = drawn_by one told None stay good frames n before now fit all few left drew in
    let first = first_lines n lines frames old new replied in
    let own = whole_frames n frames in
    let mirrors = ap (λ ss. map mirrored ss) (sym alone) in
    let accepts = accepted_by None own d.drawings [] d.holdings d.bytes d.sends in
    record {
      front = first.front;
      behind = first.behind;
      split = first.split;
      state = first.state;
      drawings = d.drawings;
      pictured = (draws first.front own d.drawings old first.state [] d.holdings sound first.replied mirrors accepts).0;
      sent = d.sent ∙ ap (λ l. sent_after l before) (pictured_by own d.drawings [] d.holdings d.bytes d.sends);
    }

pub drawn_own_fronts : OneFrame → Told → Stay → Good → OwnRepliesDrawTheBook → OwnAccepted → DrawnOwnFrontsAreTheBook
drawn_own_fronts one told stay good draws accepted m lines frames old new n left before now sound closed replied few drew =
    let all = filter (names m) frames in
    let fit = All-filter (names m) Fits frames (replies_fit lines frames old new replied) in
    let none_rejected = accepted m lines frames old new sound closed replied in
    let d = drawn_by one told None stay good all n before now fit none_rejected few left drew in
    let first = own_first m n lines frames old new replied in
    let own = filter (names m) first.frames in
    let S : List Frame → Type 0 = λ fs. SendsFrames None fs d.drawings [] d.holdings d.bytes in
    let sends = subst S (sym first.own_is) d.sends in
    let mirrors = ap (λ ss. map mirrored ss) (sym closed) in
    let accepts = accepted_by None own d.drawings [] d.holdings d.bytes sends in
    record {
      front = first.front;
      behind = first.behind;
      split = first.split;
      frames = first.frames;
      own_is = first.own_is;
      state = first.state;
      drawings = d.drawings;
      pictured = (draws m first.front first.frames d.drawings old first.state [] d.holdings sound first.replied mirrors accepts).0;
      sent = d.sent ∙ ap (λ l. sent_after l before) (pictured_by own d.drawings [] d.holdings d.bytes sends);
    }
