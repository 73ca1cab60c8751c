-- Bytes are the spellings of one list of frames.
use Rattle.std.proofs.Common.{◌≡◌, ℕ, ◌+◌, ◌<◌, ◌^◌, ◌⊎◌, inl, inr, List, [], ◌∷◌, ◌++◌, length, Option, None, Some, IfSome, refl, ap, sym}
use Rattle.std.proofs.Common.{subst, ◌∙◌, arith, append_assoc, length-append}
use Rattle.std.specs.Prelude.{flat_map, All}
use Rattle.std.proofs.lemmas.List.{take_all}
use Rattle.std.proofs.lemmas.List.Elements.{All-head, All-tail}
use Rattle.chart_frames.specs.declared.frame.Frame.{Frame}
use Rattle.chart_frames.specs.Format.{Breaks, number_in}
use Rattle.chart_frames.specs.Fields.{frame_fields}
use Rattle.chart_frames.specs.declared.frame.Frame.TheVariants.{Done}
use Rattle.chart_frames.specs.Frames.{Fits, spelling}
use Rattle.chart_frames.specs.Pending.{Pending, held}
use Rattle.line_raster.specs.Canvas.{Canvas}
use Rattle.om3_coeff.specs.declared.key.Key.{Key}
use Rattle.chart_client.specs.declared.holding.Holding.{Holding}
use Rattle.chart_client.specs.declared.errors.ClientError.{ClientError}
use Rattle.chart_client.specs.declared.errors.ClientError.TheVariants as client
use Rattle.chart_client.specs.Accepting.{Rejects}
use Rattle.drawn_replies.specs.Pictures.{AcceptsAll, NoneRejected}
use Rattle.draw_command.specs.declared.draw_end.DrawEnd.{DrawEnd}
use Rattle.draw_command.specs.declared.draw_end.DrawEnd.TheVariants as draw_end
use Rattle.draw_command.specs.Covers.{picture_bytes, SendsFrames}
use Rattle.draw_command.specs.Draws.{DrawsMore, FramesStop, StopsAtFrame, IsCut, DrawsWithin, IsFront, EndsDraw}
use Rattle.chart_program.specs.Draw.{IsFrames}
use Rattle.draw_command.proofs.DrawnFrames.{Good, Stay}
use Rattle.pbm_writer.specs.Picture.{picture}

abbrev pub OneFrame : Type 0
OneFrame = (f g : Frame) (x y : List ℕ) → Fits f → Fits g → spelling f ++ x ≡ spelling g ++ y → (f ≡ g) × (x ≡ y)

abbrev pub Told : Type 0
Told = (f : Frame) (x : List ℕ) → Fits f → length (spelling f) ≡ 4 + number_in 4 (spelling f ++ x)

-- what is known of frames
pub record Known : Type 0 where
  pub one : OneFrame
  pub told : Told
  pub good : Good

some_bytes : Told → (f : Frame) (x : List ℕ) → Fits f → spelling f ++ x ≡ [] → ⊥
some_bytes told f x fits none = omega (arith, told f x fits, ap length none, length-append (spelling f) x)

-- frames whose spellings begin the bytes of others are the first of these
pub record Begins (frames all : List Frame) (rest : List ℕ) : Type 0 where
  pub more : List Frame
  pub split : all ≡ frames ++ more
  pub fit : All Fits more
  pub behind : rest ≡ flat_map spelling more

begins_one : (f : Frame) (fs all : List Frame) (rest : List ℕ) → Begins fs all rest → Begins (f ∷ fs) (f ∷ all) rest
begins_one f fs all rest b = record { more = b.more; split = ap (λ l. f ∷ l) b.split; fit = b.fit; behind = b.behind }

pub begins : Known → (frames all : List Frame) (rest : List ℕ) → All Fits frames → All Fits all
    → flat_map spelling all ≡ flat_map spelling frames ++ rest → Begins frames all rest
begins k [] all rest fit fit_all same = record { more = all; split = refl; fit = fit_all; behind = sym same }
begins k (f ∷ fs) [] rest fit fit_all same =
    absurd (some_bytes k.told f (flat_map spelling fs ++ rest) (All-head Fits f fs fit)
    (sym (append_assoc (spelling f) (flat_map spelling fs) rest) ∙ sym same))
begins k (f ∷ fs) (g ∷ gs) rest fit fit_all same =
    let first = k.one g f (flat_map spelling gs) (flat_map spelling fs ++ rest) (All-head Fits g gs fit_all) (All-head Fits f fs fit)
    (same ∙ append_assoc (spelling f) (flat_map spelling fs) rest) in
    let later = begins k fs gs rest (All-tail Fits f fs fit) (All-tail Fits g gs fit_all) first.1 in
    let P : Frame → Type 0 = λ h. Begins (f ∷ fs) (h ∷ gs) rest in
    subst P (sym first.0) (begins_one f fs gs rest later)

-- no field breaks its rule where frames stand
no_break : Known → (more : List Frame) (at : ℕ) → All Fits more → Breaks frame_fields (flat_map spelling more) at
    → (Breaks frame_fields [] at → ⊥) → ⊥
no_break k [] at fit breaks none = none breaks
no_break k (m ∷ ms) at fit breaks none = k.good m (flat_map spelling ms) at (All-head Fits m ms fit) breaks

-- some bytes of frames hold a whole frame
no_front : Known → (more : List Frame) → All Fits more → 0 < length (flat_map spelling more) → IsFront (flat_map spelling more) → ⊥
no_front k [] fit some front = absurd (omega (arith, some))
no_front k (m ∷ ms) fit some front =
    let fits = All-head Fits m ms fit in
    elim front.few [
      | inl few ↦ omega (arith, few, k.told m (flat_map spelling ms) fits, length-append (spelling m) (flat_map spelling ms))
      | inr few ↦ omega (arith, few, k.told m (flat_map spelling ms) fits, length-append (spelling m) (flat_map spelling ms))
    ]

-- the next frame is accepted
not_rejected : Known → (all frames more : List Frame) (holdings : List Holding) (drawings : List (Option Canvas)) (f : Frame)
    (behind : List ℕ) (e : ClientError) → NoneRejected all → all ≡ frames ++ more → All Fits more
    → AcceptsAll [] frames drawings holdings → Fits f → flat_map spelling more ≡ spelling f ++ behind → Rejects f e holdings
    → e ≡ client.NoMemory
not_rejected k all frames [] holdings drawings f behind e none split fit accepted fits same rejects =
    absurd (some_bytes k.told f behind fits (sym same))
not_rejected k all frames (m ∷ ms) holdings drawings f behind e none split fit accepted fits same rejects =
    let first = k.one m f (flat_map spelling ms) behind (All-head Fits m ms fit) fits same in
    let R : Frame → Type 0 = λ g. Rejects g e holdings in
    none frames ms m drawings holdings e split accepted (subst R (sym first.0) rejects)

next_rejected : Known → (all more : List Frame) (frames : List Frame) (drawings : List (Option Canvas)) (holdings : List Holding)
    (rest : List ℕ) (f : Frame) (behind : List ℕ) (e : ClientError) → NoneRejected all → all ≡ frames ++ more
    → All Fits more → rest ≡ flat_map spelling more → AcceptsAll [] frames drawings holdings → Fits f → rest ≡ spelling f ++ behind
    → Rejects f e holdings → e ≡ client.NoMemory
next_rejected k all more frames drawings holdings rest f behind e none split fit is accepted fits front rejects =
    not_rejected k all frames more holdings drawings f behind e none split fit accepted fits (sym is ∙ front) rejects

-- a client accepts the frames that were drawn
pub accepted_by : (every : Option ℕ) (frames : List Frame) (drawings : List (Option Canvas)) (h h' : List Holding) (bytes : List ℕ)
    → SendsFrames every frames drawings h h' bytes → AcceptsAll h frames drawings h'
accepted_by every [] [] h h' bytes all = all.0
accepted_by every [] (d ∷ ds) h h' bytes all = absurd all
accepted_by every (f ∷ fs) [] h h' bytes all = absurd all
accepted_by every (f ∷ fs) (d ∷ ds) h h' bytes all = (all.0, all.3.accepted, accepted_by every fs ds all.0 h' all.2 all.4)

-- without covers their pictures alone were sent
pub pictured_by : (frames : List Frame) (drawings : List (Option Canvas)) (h h' : List Holding) (bytes : List ℕ)
    → SendsFrames None frames drawings h h' bytes → bytes ≡ flat_map picture_bytes drawings
pictured_by [] [] h h' bytes all = all.1
pictured_by [] (d ∷ ds) h h' bytes all = absurd all
pictured_by (f ∷ fs) [] h h' bytes all = absurd all
pictured_by (f ∷ fs) (d ∷ ds) h h' bytes all =
    let bare : all.1 ≡ picture_bytes d = all.3.bytes_are ∙ ap (λ cs. flat_map picture cs ++ picture_bytes d) all.3.covered in
    all.5 ∙ ap (λ l. l ++ all.2) bare ∙ ap (λ l. picture_bytes d ++ l) (pictured_by fs ds all.0 h' all.2 all.4)

pub none_broken : Stay → Good → (at : ℕ) → Breaks frame_fields [] at → ⊥
none_broken stay good at breaks = good (Done 0) [] at (omega arith) (stay [] (spelling (Done 0) ++ []) at breaks)

module _ (every : Option ℕ) where
  -- what is left of frames behind those that were drawn
  left_of : Known → (input : List ℕ) (good : IsFrames input) (rest : Pending) (holdings : List Holding) (before now : Option (List ℕ))
      → (d : DrawsMore every (held 0 input) rest [] holdings before now) → Begins d.frames good.frames rest.rest
  left_of k input good rest holdings before now d = begins k d.frames good.frames rest.rest d.fit good.fit (sym good.spelled ∙ d.split)

  -- good input isn't cut off at 2^32 bytes
  whole_stop : (input : List ℕ) (before now : Option (List ℕ)) (end : DrawEnd) → IsFrames input → StopsAtFrame every input before now end
      → FramesStop every (held 0 input) [] before now end
  whole_stop input before now end good stop =
      let P : List ℕ → Type 0 = λ l. FramesStop every (held 0 l) [] before now end in
      subst P (take_all (2 ^ 32) input good.short) stop

  -- good input has no bad field
  pub no_bad_frame : Known → ((at : ℕ) → Breaks frame_fields [] at → ⊥) → (input : List ℕ) (at : ℕ) (before now : Option (List ℕ))
      → IsFrames input
      → IsCut every input at before now ⊎ StopsAtFrame every input before now (draw_end.BadFrame at) → ⊥
  no_bad_frame k none input at before now good (inl cut) =
      let b = left_of k input good cut.rest cut.holdings before now cut.first in
      no_front k b.more b.fit (omega (arith, cut.some, ap length b.behind)) (subst IsFront b.behind cut.unended)
  no_bad_frame k none input at before now good (inr some) =
      let stop = whole_stop input before now (draw_end.BadFrame at) good some in
      let b = left_of k input good stop.rest stop.client before stop.sent_first stop.first in
      let P : List ℕ → Type 0 = λ l. Breaks frame_fields l stop.stops.1.0 in
      no_break k b.more stop.stops.1.0 b.fit (subst P b.behind stop.stops.1.2) (none stop.stops.1.0)

  -- and no frame that a client rejects
  pub no_missing : Known → (input : List ℕ) (key : Key) (before now : Option (List ℕ)) → IsFrames input
      → StopsAtFrame every input before now (draw_end.Missing key) → ⊥
  no_missing k input key before now good some =
      let stop = whole_stop input before now (draw_end.Missing key) good some in
      let b = left_of k input good stop.rest stop.client before stop.sent_first stop.first in
      let s = stop.stops in
      let drawn = accepted_by every stop.first.frames stop.first.drawings [] stop.client stop.first.bytes stop.first.sends in
      let never : client.Missing key ≡ client.NoMemory = next_rejected k good.frames b.more stop.first.frames stop.first.drawings
      stop.client stop.rest.rest s.frame s.behind
      (client.Missing key) good.accepted b.split b.fit b.behind drawn s.fits s.next s.stops.0 in
      cc

  pub no_misfit : Known → (input : List ℕ) (key : Key) (before now : Option (List ℕ)) → IsFrames input
      → StopsAtFrame every input before now (draw_end.BadCoefficient key) → ⊥
  no_misfit k input key before now good some =
      let stop = whole_stop input before now (draw_end.BadCoefficient key) good some in
      let b = left_of k input good stop.rest stop.client before stop.sent_first stop.first in
      let s = stop.stops in
      let drawn = accepted_by every stop.first.frames stop.first.drawings [] stop.client stop.first.bytes stop.first.sends in
      let never : client.BadCoefficient key ≡ client.NoMemory = next_rejected k good.frames b.more stop.first.frames stop.first.drawings
      stop.client stop.rest.rest s.frame s.behind
      (client.BadCoefficient key) good.accepted b.split b.fit b.behind drawn s.fits s.next s.stops.0 in
      cc

  pub no_unopened : Known → (input : List ℕ) (n : ℕ) (before now : Option (List ℕ)) → IsFrames input
      → StopsAtFrame every input before now (draw_end.UnknownSession n) → ⊥
  no_unopened k input n before now good some =
      let stop = whole_stop input before now (draw_end.UnknownSession n) good some in
      let b = left_of k input good stop.rest stop.client before stop.sent_first stop.first in
      let s = stop.stops in
      let drawn = accepted_by every stop.first.frames stop.first.drawings [] stop.client stop.first.bytes stop.first.sends in
      let never : client.UnknownSession n ≡ client.NoMemory = next_rejected k good.frames b.more stop.first.frames stop.first.drawings
      stop.client stop.rest.rest s.frame s.behind
      (client.UnknownSession n) good.accepted b.split b.fit b.behind drawn s.fits s.next s.stops.0 in
      cc

  -- nor too many bytes
  no_much_frames : (input : List ℕ) (before now : Option (List ℕ)) → IsFrames input → DrawsWithin every input before now → ⊥
  no_much_frames input before now good within = omega (arith, good.short, within.past)

  -- ---- so such an end never comes

  pub bad_never : Known → Stay → (P : Type 0) (o left before now : Option (List ℕ)) (at : ℕ)
      → IfSome o (λ input. EndsDraw every input left before now (draw_end.BadFrame at)) → IfSome o (λ input. IsFrames input → P)
  bad_never k stay P None left before now at ends = tt
  bad_never k stay P (Some input) left before now at ends = λ good. absurd
      (no_bad_frame k (none_broken stay k.good) input at before now good ends)

  pub much_never : (P : Type 0) (o left before now : Option (List ℕ))
      → IfSome o (λ input. EndsDraw every input left before now draw_end.InputTooLong) → IfSome o (λ input. IsFrames input → P)
  much_never P None left before now ends = tt
  much_never P (Some input) left before now ends = λ good. absurd (no_much_frames input before now good ends)

  pub missing_never : Known → (P : Type 0) (o left before now : Option (List ℕ)) (key : Key)
      → IfSome o (λ input. EndsDraw every input left before now (draw_end.Missing key)) → IfSome o (λ input. IsFrames input → P)
  missing_never k P None left before now key ends = tt
  missing_never k P (Some input) left before now key ends = λ good. absurd (no_missing k input key before now good ends)

  pub misfit_never : Known → (P : Type 0) (o left before now : Option (List ℕ)) (key : Key)
      → IfSome o (λ input. EndsDraw every input left before now (draw_end.BadCoefficient key)) → IfSome o (λ input. IsFrames input → P)
  misfit_never k P None left before now key ends = tt
  misfit_never k P (Some input) left before now key ends = λ good. absurd (no_misfit k input key before now good ends)

  pub unopened_never : Known → (P : Type 0) (o left before now : Option (List ℕ)) (n : ℕ)
      → IfSome o (λ input. EndsDraw every input left before now (draw_end.UnknownSession n)) → IfSome o (λ input. IsFrames input → P)
  unopened_never k P None left before now n ends = tt
  unopened_never k P (Some input) left before now n ends = λ good. absurd (no_unopened k input n before now good ends)

-- ---- all frames of an input

none_more : Known → (more : List Frame) → All Fits more → [] ≡ flat_map spelling more → more ≡ []
none_more k [] fit none = refl
none_more k (m ∷ ms) fit none = absurd (some_bytes k.told m (flat_map spelling ms) (All-head Fits m ms fit) (sym none))

append_no_frame : (fs : List Frame) → fs ++ [] ≡ fs
append_no_frame [] = refl
append_no_frame (f ∷ fs) = ap (λ l. f ∷ l) (append_no_frame fs)

-- the frames that were drawn are all of them
pub all_drawn : Known → (every : Option ℕ) (input : List ℕ) (frames : List Frame) (given : ℕ) (holdings : List Holding)
    (before now : Option (List ℕ)) → All Fits frames → input ≡ flat_map spelling frames
    → (d : DrawsMore every (held 0 input) (held given []) [] holdings before now) → d.frames ≡ frames
all_drawn k every input frames given holdings before now fit spelled d =
    let b = begins k d.frames frames [] d.fit fit (sym spelled ∙ d.split) in
    sym (b.split ∙ ap (λ m. d.frames ++ m) (none_more k b.more b.fit b.behind) ∙ append_no_frame d.frames)

-- what holds at all holds of good input
pub good_so : (o : Option (List ℕ)) (P : Type 0) → P → IfSome o (λ input. IsFrames input → P)
good_so None P holds = tt
good_so (Some input) P holds = λ good. holds
