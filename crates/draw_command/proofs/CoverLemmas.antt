-- The covers of a view, one more at a time.
use Rattle.std.proofs.Common.{◌≡◌, ℕ, ◌+◌, ◌*◌, ◌<◌, ◌≤◌, ◌⊎◌, inl, inr, List, [], ◌∷◌, ◌++◌, length, get_or, Option, None, Some, sym, ap}
use Rattle.std.proofs.Common.{subst, ◌∙◌, refl, arith, length-append}
use Rattle.std.proofs.Math.ListN.{get_or-append}
use Rattle.std.proofs.Math.Seq.{get_or-append_seam}
use Rattle.std.proofs.lemmas.Bool.{cases_lt}
use Rattle.std.proofs.lemmas.Grind.{flat_map-append}
use Rattle.std.proofs.lemmas.List.{append-nil}
use Rattle.std.proofs.lemmas.Option.{slice_get_within, slice_get-get_or, get_or_from_slice_get}
use Rattle.std.specs.Prelude.{slice_get, flat_map, min}
use Rattle.line_raster.specs.Canvas.{Canvas}
use Rattle.pbm_writer.specs.Picture.{picture}
use Rattle.block_disk.specs.Streams.{sent_after, PartSent}
use Rattle.block_disk.specs.SentLaws.{sent_none, sent_more}
use Rattle.chart_frames.specs.declared.frame.Frame.{Frame}
use Rattle.chart_frames.specs.declared.frame.Frame.TheVariants.{Done, Refused, Opened, Closed, View, Rows, Live, Report}
use Rattle.chart_frames.specs.declared.frame.ViewFrame.{ViewFrame}
use Rattle.chart_client.specs.declared.holding.Holding.{Holding}
use Rattle.chart_client.specs.declared.errors.ClientError.{ClientError}
use Rattle.chart_client.specs.declared.errors.ClientError.TheVariants as client
use Rattle.chart_client.specs.Accepting.{Accepts, Rejects}
use Rattle.chart_client.specs.Holdings.{holding_of}
use Rattle.progressive_view.specs.Covers.{Taking, DrawsCover}
use Rattle.draw_command.specs.declared.draw_end.DrawEnd.{DrawEnd}
use Rattle.draw_command.specs.declared.draw_end.DrawEnd.TheVariants.{NoMemory, ReadFault, SendFault, InputTooLong, BadFrame, Missing}
use Rattle.draw_command.specs.declared.draw_end.DrawEnd.TheVariants.{BadCoefficient, UnknownSession}
use Rattle.draw_command.specs.Covers.{picture_bytes, IsCoverAfter, AreFirstCovers, AreFirstCoversOf, AreCoversOf}
use Rattle.draw_command.specs.Draws.{CoversFirst, CoversFrame, DrawsFrame, PictureStops, CoversStop, FrameStops, client_end}

some_eq : {n m : ℕ} → ◌≡◌ {A = Option ℕ} (Some n) (Some m) → n ≡ m
some_eq is = cc

-- an element of the list with one more is an old one or that one
in_more : (ps : List Canvas) (q r : Canvas) (i : ℕ) → slice_get (ps ++ q ∷ []) i ≡ Some r
    → (slice_get ps i ≡ Some r) ⊎ ((i ≡ length ps) × (r ≡ q))
in_more ps q r i is =
    let within : i < length (ps ++ q ∷ []) = slice_get_within (ps ++ q ∷ []) i r is in
    let here : get_or (ps ++ q ∷ []) i r ≡ r = get_or_from_slice_get (ps ++ q ∷ []) i r r is in
    elim (cases_lt i (length ps)) [
      | inl old ↦ inl (slice_get-get_or ps i r old ∙ ap Some (sym (get_or-append ps (q ∷ []) r i old) ∙ here))
      | inr new ↦
          let at : i ≡ length ps = omega (arith, within, new, length-append ps (q ∷ [])) in
          let P : ℕ → Type 0 = λ k. get_or (ps ++ q ∷ []) k r ≡ r in
          inr (at, sym (subst P at here) ∙ get_or-append_seam ps q [] r)
    ]

-- one cover more
first_more : (every : ℕ) (view : ViewFrame) (h : List Holding) (covers : List Canvas) (next : Canvas)
    → AreFirstCovers every view h covers → IsCoverAfter view h (length covers * every) next
    → AreFirstCovers every view h (covers ++ next ∷ [])
first_more every view h covers next first is = λ i cover found. elim (in_more covers next cover i found) [
  | inl old ↦ first i cover old
  | inr new ↦
      let P : ℕ → Type 0 = λ n. IsCoverAfter view h (n * every) cover in
      let Q : Canvas → Type 0 = λ c. IsCoverAfter view h (length covers * every) c in
      subst P (sym new.0) (subst Q (sym new.1) is)
]

-- no cover at all
first_none : (every : ℕ) (view : ViewFrame) (h : List Holding) → AreFirstCovers every view h []
first_none every view h = λ i cover found. absurd (let never : None ≡ Some cover = found in cc)

-- The covers so far: the next is due once so many coefficients are taken, or all are.
pub record CoversSoFar (every : ℕ) (view : ViewFrame) (h : List Holding) (taken : ℕ) (before now : Option (List ℕ)) : Type 0 where
  pub covers : List Canvas
  pub first : AreFirstCovers every view h covers
  pub due : taken ≡ min (length covers * every) (length view.coefs)
  pub sent : now ≡ sent_after (flat_map picture covers) before

covers_start : (every : ℕ) (view : ViewFrame) (h : List Holding) (now : Option (List ℕ)) → CoversSoFar every view h 0 now now
covers_start every view h now = record { covers = []; first = first_none every view h; due = omega arith; sent = sent_none now }

pub covers_begun : (every : ℕ) (view : ViewFrame) (h : List Holding) (taken : ℕ) (now : Option (List ℕ)) → taken ≡ 0
    → CoversSoFar every view h taken now now
covers_begun every view h taken now is = let P : ℕ → Type 0 = λ n. CoversSoFar every view h n now now in
    subst P (sym is) (covers_start every view h now)

-- what a view is begun with
pub begun_so : (p : Taking) (view : ViewFrame) (h : List Holding) (taken : ℕ) → p ≡ record { view = view; holdings = h; taken = taken }
    → (p.view ≡ view) × (p.holdings ≡ h) × (p.taken ≡ taken)
begun_so p view h taken is = (ap (λ (p : Taking). p.view) is, ap (λ (p : Taking). p.holdings) is, ap (λ (p : Taking). p.taken) is)

-- the cover of a view that is under way
pub cover_of : (p : Taking) (view : ViewFrame) (h : List Holding) (next : Canvas) → p.view ≡ view → p.holdings ≡ h → DrawsCover p next
    → DrawsCover (record { view = view; holdings = h; taken = p.taken }) next
cover_of p view h next view_is holdings_is draws =
    let P : ViewFrame → Type 0 = λ v. DrawsCover (record { view = v; holdings = h; taken = p.taken }) next in
    let Q : List Holding → Type 0 = λ hs. DrawsCover (record { view = p.view; holdings = hs; taken = p.taken }) next in
    subst P view_is (subst Q holdings_is draws)

-- the multiple behind
next_multiple : (count every : ℕ) → (count + 1) * every ≡ count * every + every
next_multiple count every = omega arith

-- the next cover is the one that is due
due_cover : (every taken : ℕ) (view : ViewFrame) (h : List Holding) (covers : List Canvas) (next : Canvas)
    → taken ≡ min (length covers * every) (length view.coefs) → taken < length view.coefs
    → DrawsCover (record { view = view; holdings = h; taken = taken }) next → IsCoverAfter view h (length covers * every) next
due_cover every taken view h covers next due more draws =
    let same : taken ≡ length covers * every = omega (arith, due, more) in
    let P : ℕ → Type 0 = λ n. IsCoverAfter view h n next in
    subst P same (record { some_left = more; draws = draws })

pub covers_more : (every : ℕ) (view : ViewFrame) (h : List Holding) (taken taken' : ℕ) (next : Canvas) (before now later : Option (List ℕ))
    → taken < length view.coefs
    → DrawsCover (record { view = view; holdings = h; taken = taken }) next → later ≡ sent_after (picture next) now
    → taken' ≡ min (taken + every) (length view.coefs)
    → CoversSoFar every view h taken before now → CoversSoFar every view h taken' before later
covers_more every view h taken taken' next before now later more draws sends due s =
    let one = append-nil (picture next) in
    record {
      covers = s.covers ++ next ∷ [];
      first = first_more every view h s.covers next s.first (due_cover every taken view h s.covers next s.due more draws);
      due = omega (
        arith,
        due,
        s.due,
        more,
        length-append s.covers (next ∷ []),
        next_multiple (length s.covers) every,
        ap (λ n. n * every) (length-append s.covers (next ∷ [])),
      );
      sent =
          sent_more (flat_map picture s.covers) (picture next) before now later s.sent sends
          ∙ ap (λ l. sent_after l before) (ap (λ l. flat_map picture s.covers ++ l) (sym one)
          ∙ sym (flat_map-append picture s.covers (next ∷ [])));
    }

-- all of them
pub covers_all : (every : ℕ) (view : ViewFrame) (h : List Holding) (taken : ℕ) (before now : Option (List ℕ)) → length view.coefs ≤ taken
    → CoversSoFar every view h taken before now → CoversFrame (Some every) (View view) h before now
covers_all every view h taken before now all s = record {
  covers = s.covers;
  all = record { first = s.first; all = omega (arith, all, s.due) };
  sent = s.sent;
}

-- some first ones
pub covers_some : (every : ℕ) (view : ViewFrame) (h : List Holding) (taken : ℕ) (before now : Option (List ℕ))
    → CoversSoFar every view h taken before now → CoversFirst (Some every) (View view) h before now
covers_some every view h taken before now s = record { covers = s.covers; first = s.first; sent = s.sent }

-- the next one isn't sent
pub covers_stop : (every : ℕ) (view : ViewFrame) (h : List Holding) (taken : ℕ) (next : Canvas) (before now later : Option (List ℕ))
    (end : DrawEnd) → taken < length view.coefs
    → DrawsCover (record { view = view; holdings = h; taken = taken }) next → CoversSoFar every view h taken before now
    → PictureStops next now later end
    → CoversStop (Some every) (View view) h before later end
covers_stop every view h taken next before now later NoMemory more draws s stops =
    let P : Option (List ℕ) → Type 0 = λ n. CoversFirst (Some every) (View view) h before n in
    subst P (sym stops) (covers_some every view h taken before now s)
covers_stop every view h taken next before now later ReadFault more draws s stops = absurd stops
covers_stop every view h taken next before now later SendFault more draws s stops =
    let P : Option (List ℕ) → Type 0 = λ n. PartSent (picture next) n later in
    record {
      covers = s.covers;
      next = next;
      first = first_more every view h s.covers next s.first (due_cover every taken view h s.covers next s.due more draws);
      part = subst P s.sent stops;
    }
covers_stop every view h taken next before now later InputTooLong more draws s stops = absurd stops
covers_stop every view h taken next before now later (BadFrame at) more draws s stops = absurd stops
covers_stop every view h taken next before now later (Missing key) more draws s stops = absurd stops
covers_stop every view h taken next before now later (BadCoefficient key) more draws s stops = absurd stops
covers_stop every view h taken next before now later (UnknownSession n) more draws s stops = absurd stops

-- there was no memory for the next one
pub covers_end : (every : ℕ) (view : ViewFrame) (h : List Holding) (taken : ℕ) (before now : Option (List ℕ)) (end : DrawEnd)
    → end ≡ NoMemory
    → CoversSoFar every view h taken before now → CoversStop (Some every) (View view) h before now end
covers_end every view h taken before now end is s =
    let P : DrawEnd → Type 0 = λ e. CoversStop (Some every) (View view) h before now e in
    subst P (sym is) (covers_some every view h taken before now s)

-- the session isn't open
pub covers_unopened : (every : ℕ) (view : ViewFrame) (h : List Holding) (now : Option (List ℕ)) (e : ClientError) (end : DrawEnd)
    → e ≡ client.UnknownSession view.session
    → holding_of view.session h ≡ None → end ≡ client_end e → CoversStop (Some every) (View view) h now now end
covers_unopened every view h now e end is none ends =
    let P : DrawEnd → Type 0 = λ x. CoversStop (Some every) (View view) h now now x in
    subst P (sym (ends ∙ ap client_end is)) ((refl, none), refl)

-- ---- a frame

-- its covers are sent, and its picture
pub frame_drawn : (every : Option ℕ) (f : Frame) (d : Option Canvas) (h h' : List Holding) (before now later : Option (List ℕ))
    → CoversFrame every f h before now
    → Accepts f d h h' → later ≡ sent_after (picture_bytes d) now → DrawsFrame every f h h' before later
frame_drawn every f d h h' before now later c accepts sends = (
  d,
  flat_map picture c.covers ++ picture_bytes d,
  record { covers = c.covers; covered = c.all; accepted = accepts; bytes_are = refl },
  sent_more (flat_map picture c.covers) (picture_bytes d) before now later c.sent sends,
)

pub frame_pictured : (every : Option ℕ) (f : Frame) (d : Option Canvas) (drawing : Canvas) (h h' : List Holding)
    (before now later : Option (List ℕ)) → CoversFrame every f h before now
    → Accepts f d h h' → d ≡ Some drawing → later ≡ sent_after (picture drawing) now → DrawsFrame every f h h' before later
frame_pictured every f d drawing h h' before now later c accepts some sends =
    let P : Option Canvas → Type 0 = λ x. Accepts f x h h' in
    frame_drawn every f (Some drawing) h h' before now later c (subst P some accepts) sends

first_of_all : (every : Option ℕ) (f : Frame) (h : List Holding) (covers : List Canvas) → AreCoversOf every f h covers
    → AreFirstCoversOf every f h covers
first_of_all None f h covers all = all
first_of_all (Some every) (Done slots) h covers all = all
first_of_all (Some every) (Refused number a b) h covers all = all
first_of_all (Some every) (Opened number size) h covers all = all
first_of_all (Some every) (Closed number) h covers all = all
first_of_all (Some every) (View view) h covers all = all.first
first_of_all (Some every) (Rows rows) h covers all = all
first_of_all (Some every) (Live number on) h covers all = all
first_of_all (Some every) (Report report) h covers all = all

covers_first : (every : Option ℕ) (f : Frame) (h : List Holding) (before now : Option (List ℕ)) → CoversFrame every f h before now
    → CoversFirst every f h before now
covers_first every f h before now c = record { covers = c.covers; first = first_of_all every f h c.covers c.all; sent = c.sent }

-- a view of a session that isn't open has no covers
none_unopened : (every : ℕ) (view : ViewFrame) (h : List Holding) (covers : List Canvas) → AreFirstCovers every view h covers
    → holding_of view.session h ≡ None → covers ≡ []
none_unopened every view h [] first none = refl
none_unopened every view h (c ∷ cs) first none =
    let one : IsCoverAfter view h (0 * every) c = first 0 c refl in
    let here = one.draws.stage.holding_is in
    absurd (let never : None ≡ Some one.draws.stage.holding = sym none ∙ here in cc)

unopened_covers : (every : Option ℕ) (f : Frame) (h : List Holding) (covers : List Canvas) (n : ℕ) → AreCoversOf every f h covers
    → Rejects f (client.UnknownSession n) h → covers ≡ []
unopened_covers None f h covers n all rejects = all
unopened_covers (Some every) (Done slots) h covers n all rejects = all
unopened_covers (Some every) (Refused number a b) h covers n all rejects = all
unopened_covers (Some every) (Opened number size) h covers n all rejects = all
unopened_covers (Some every) (Closed number) h covers n all rejects = all
unopened_covers (Some every) (View view) h covers n all rejects =
    let same : view.session ≡ n = some_eq rejects.0 in
    none_unopened every view h covers all.first (ap (λ m. holding_of m h) same ∙ rejects.1)
unopened_covers (Some every) (Rows rows) h covers n all rejects = all
unopened_covers (Some every) (Live number on) h covers n all rejects = all
unopened_covers (Some every) (Report report) h covers n all rejects = all

-- its covers aren't all sent
pub frame_uncovered : (every : Option ℕ) (f : Frame) (h : List Holding) (before now : Option (List ℕ)) (end : DrawEnd)
    → CoversStop every f h before now end → FrameStops every f h before now end
frame_uncovered every f h before now NoMemory stops = stops
frame_uncovered every f h before now ReadFault stops = absurd stops
frame_uncovered every f h before now SendFault stops = inl stops
frame_uncovered every f h before now InputTooLong stops = absurd stops
frame_uncovered every f h before now (BadFrame at) stops = absurd stops
frame_uncovered every f h before now (Missing key) stops = absurd stops
frame_uncovered every f h before now (BadCoefficient key) stops = absurd stops
frame_uncovered every f h before now (UnknownSession n) stops = stops

-- the client doesn't accept it
rejected_so : (every : Option ℕ) (f : Frame) (h : List Holding) (before now : Option (List ℕ)) (e : ClientError)
    → CoversFrame every f h before now → Rejects f e h → FrameStops every f h before now (client_end e)
rejected_so every f h before now (client.Missing key) c rejects = (rejects, c)
rejected_so every f h before now (client.BadCoefficient key) c rejects = (rejects, c)
rejected_so every f h before now (client.UnknownSession n) c rejects =
    let none = unopened_covers every f h c.covers n c.all rejects in
    (rejects, c.sent ∙ ap (λ l. sent_after (flat_map picture l) before) none ∙ sym (sent_none before))
rejected_so every f h before now client.NoMemory c rejects = covers_first every f h before now c

pub frame_rejected : (every : Option ℕ) (f : Frame) (h : List Holding) (before now : Option (List ℕ)) (e : ClientError) (end : DrawEnd)
    → end ≡ client_end e
    → CoversFrame every f h before now → Rejects f e h → FrameStops every f h before now end
frame_rejected every f h before now e end is c rejects =
    let P : DrawEnd → Type 0 = λ x. FrameStops every f h before now x in
    subst P (sym is) (rejected_so every f h before now e c rejects)

-- its picture isn't sent whole
pub frame_unsent : (every : Option ℕ) (f : Frame) (drawing : Canvas) (h h' : List Holding) (before now later : Option (List ℕ))
    (end : DrawEnd) → CoversFrame every f h before now
    → Accepts f (Some drawing) h h' → PictureStops drawing now later end → FrameStops every f h before later end
frame_unsent every f drawing h h' before now later NoMemory c accepts stops =
    let P : Option (List ℕ) → Type 0 = λ n. CoversFirst every f h before n in
    subst P (sym stops) (covers_first every f h before now c)
frame_unsent every f drawing h h' before now later ReadFault c accepts stops = absurd stops
frame_unsent every f drawing h h' before now later SendFault c accepts stops =
    inr (record { between = now; covered = c; drawing = drawing; new = h'; accepted = accepts; part = stops })
frame_unsent every f drawing h h' before now later InputTooLong c accepts stops = absurd stops
frame_unsent every f drawing h h' before now later (BadFrame at) c accepts stops = absurd stops
frame_unsent every f drawing h h' before now later (Missing key) c accepts stops = absurd stops
frame_unsent every f drawing h h' before now later (BadCoefficient key) c accepts stops = absurd stops
frame_unsent every f drawing h h' before now later (UnknownSession n) c accepts stops = absurd stops
