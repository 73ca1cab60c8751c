-- How far the frames of an input are drawn.
use Rattle.std.proofs.Common.{◌≡◌, ℕ, ◌+◌, ◌<◌, ◌≤◌, List, [], ◌∷◌, ◌++◌, length, take, drop, ◌-◌, ◌^◌, inl, inr, Option, None, Some, Ok}
use Rattle.std.proofs.Common.{Err, IfSome, refl, ap, sym, subst, ◌∙◌, arith, append_assoc, length-append}
use Rattle.std.specs.Prelude.{flat_map}
use Rattle.std.proofs.lemmas.List.Elements.{All-nil, All-cons, All-append}
use Rattle.std.proofs.lemmas.List.{take-take, take-append-drop, length-drop, append-nil}
use Rattle.std.proofs.lemmas.Grind.{flat_map-append}
use Rattle.std.proofs.Math.Seq.{take-append-add}
use Rattle.line_raster.specs.Canvas.{Canvas}
use Rattle.block_disk.specs.Streams.{Given, left_after}
use Rattle.block_disk.specs.SentLaws.{sent_none, sent_more}
use Rattle.chart_frames.specs.declared.frame.Frame.{Frame}
use Rattle.chart_frames.specs.declared.frame.Frame.TheVariants.{Done}
use Rattle.chart_frames.specs.Frames.{Fits, spelling}
use Rattle.chart_frames.specs.Pending.{Pending, held}
use Rattle.chart_frames.specs.Format.{number_in, Breaks}
use Rattle.chart_frames.specs.Fields.{frame_fields}
use Rattle.chart_frames.specs.declared.errors.FrameFault.{FrameFault}
use Rattle.chart_frames.specs.declared.errors.FrameFault.TheVariants as fault
use Rattle.chart_frames.specs.Stream.{Takes, Answers, IsPartial}
use Rattle.chart_client.specs.declared.holding.Holding.{Holding}
use Rattle.draw_command.specs.Covers.{SendsFrames}
use Rattle.draw_command.specs.declared.draw_end.DrawEnd.{DrawEnd}
use Rattle.draw_command.specs.declared.draw_end.DrawEnd.TheVariants.{NoMemory, ReadFault, SendFault, InputTooLong, BadFrame, Missing}
use Rattle.draw_command.specs.declared.draw_end.DrawEnd.TheVariants.{BadCoefficient, UnknownSession}
use Rattle.draw_command.specs.Draws.{DrawsMore, DrawsFirst, DrawsFrame, FrameStops, NextStops, HoldingStops, FramesStop, PieceStops}
use Rattle.draw_command.specs.Draws.{EndsDraw, DrawsAll, DrawsTaken, DrawsWithin, IsCut, IsFront, StopsAtFrame, fed, frame_end}

-- what a frame that is given leaves
pub takes_so : (old new : Pending) (o : Option Frame) (f : Frame) → Answers old (Ok o) new → o ≡ Some f → Takes old new f
takes_so old new o f answers is = let P : Option Frame → Type 0 = λ x. Answers old (Ok x) new in subst P is answers

pub shorter : (old new : Pending) (f : Frame) → ((f : Frame) (x : List ℕ) → Fits f
    → length (spelling f) ≡ 4 + number_in 4 (spelling f ++ x))
    → Takes old new f → length new.rest < length old.rest
shorter old new f told takes =
    omega (arith, told f new.rest takes.fits, ap length takes.front, length-append (spelling f) new.rest)

-- ---- pieces

-- a take that gave nothing, where the bytes left are told
none_left : (count : ℕ) (bytes buffer : List ℕ) (left : Option (List ℕ)) → IfSome left (λ told. Given count told buffer) → left ≡ Some bytes
    → count ≡ 0 → bytes ≡ []
none_left count bytes buffer left given is none =
    let P : Option (List ℕ) → Type 0 = λ l. IfSome l (λ told. Given count told buffer) in
    let here : Given count bytes buffer = subst P is given in
    here.ends none

front_of : (at : Pending) → IsPartial at → IsFront at.rest
front_of at partial = record { few = partial.few; good = partial.good }

-- the piece that is fed is the front of what was left
piece_is : (fits count : ℕ) (bytes buffer piece : List ℕ) → Given count bytes buffer → fits ≤ count → piece ≡ take fits buffer
    → piece ≡ take fits bytes
piece_is fits count bytes buffer piece given less is =
    is ∙ sym (take-take fits count buffer less) ∙ ap (take fits) given.front ∙ take-take fits count bytes less

-- what is held and what is left, behind a piece
parted : (fits : ℕ) (bytes piece held_bytes : List ℕ) → piece ≡ take fits bytes
    → held_bytes ++ bytes ≡ (held_bytes ++ piece) ++ drop fits bytes
parted fits bytes piece held_bytes is =
    ap (λ l. held_bytes ++ l) (sym (take-append-drop fits bytes) ∙ ap (λ l. l ++ drop fits bytes) (sym is))
    ∙ sym (append_assoc held_bytes piece (drop fits bytes))

take_exact : (xs ys : List ℕ) → take (length xs) (xs ++ ys) ≡ xs
take_exact [] ys = refl
take_exact (x ∷ xs) ys = ap (λ l. x ∷ l) (take_exact xs ys)

-- a frame that isn't drawn, or a bad field, with more bytes behind
abbrev pub Stay : Type 0
Stay = (bytes more : List ℕ) (at : ℕ) → Breaks frame_fields bytes at → Breaks frame_fields (bytes ++ more) at

-- the first bytes of a list, where it begins with fewer
narrow : (input front rest : List ℕ) (most : ℕ) → input ≡ front ++ rest → length front ≤ most
    → take most input ≡ front ++ take (most - length front) rest
narrow input front rest most is few =
    let sum : most ≡ length front + (most - length front) = omega (arith, few) in
    ap (take most) is ∙ ap (λ n. take n (front ++ rest)) sum ∙ take-append-add front rest (most - length front)

-- what stands behind a piece, of the first 2^32 bytes
abbrev behind : List Frame → Pending → List ℕ → List ℕ → ℕ → List ℕ
behind frames at piece bytes fits = take (2 ^ 32 - length (flat_map spelling frames ++ (at.rest ++ piece))) (drop fits bytes)

-- no frame stands at the front of no bytes
abbrev pub Good : Type 0
Good = (f : Frame) (x : List ℕ) (at : ℕ) → Fits f → Breaks frame_fields (spelling f ++ x) at → ⊥

none_partial : Stay → Good → IsPartial (held 0 [])
none_partial stay good = record {
  few = inl (omega arith);
  good = λ at breaks. good (Done 0) [] at (omega arith) (stay [] (spelling (Done 0) ++ []) at breaks);
}

pub start_partial : Stay → Good → (at : Pending) → at ≡ held 0 [] → IsPartial at
start_partial stay good at is = subst IsPartial (sym is) (none_partial stay good)

pub start_counted : (at : Pending) → at ≡ held 0 [] → 0 ≡ at.given + length at.rest
start_counted at is = let P : Pending → Type 0 = λ a. 0 ≡ a.given + length a.rest in subst P (sym is) refl

module _ (every : Option ℕ) where
  -- frames in a row, and then others
  sends_joined : (fs gs : List Frame) (ds es : List (Option Canvas)) (old between new : List Holding) (xs ys : List ℕ)
      → SendsFrames every fs ds old between xs → SendsFrames every gs es between new ys
      → SendsFrames every (fs ++ gs) (ds ++ es) old new (xs ++ ys)
  sends_joined [] gs [] es old between new xs ys all more =
      let P : List Holding → Type 0 = λ h. SendsFrames every gs es h new ys in
      let Q : List ℕ → Type 0 = λ l. SendsFrames every gs es old new (l ++ ys) in
      subst Q (sym all.1) (subst P all.0 more)
  sends_joined [] gs (d ∷ ds) es old between new xs ys all more = absurd all
  sends_joined (f ∷ fs) gs [] es old between new xs ys all more = absurd all
  sends_joined (f ∷ fs) gs (d ∷ ds) es old between new xs ys all more = (
    all.0,
    all.1,
    all.2 ++ ys,
    all.3,
    sends_joined fs gs ds es all.0 between new all.2 ys all.4 more,
    ap (λ l. l ++ ys) all.5 ∙ append_assoc all.1 all.2 ys,
  )

  -- nothing is drawn yet
  pub drawn_none : (at : Pending) (holdings : List Holding) (now : Option (List ℕ)) → DrawsMore every at at holdings holdings now now
  drawn_none at holdings now = record {
    frames = [];
    fit = All-nil Fits;
    split = refl;
    given = omega arith;
    drawings = [];
    bytes = [];
    sends = (refl, refl);
    sent = sent_none now;
  }

  -- a frame is drawn
  pub drawn_one : (old new : Pending) (f : Frame) (holdings holdings' : List Holding) (before now : Option (List ℕ))
      → Takes old new f → DrawsFrame every f holdings holdings' before now → DrawsMore every old new holdings holdings' before now
  drawn_one old new f holdings holdings' before now takes draws = record {
    frames = f ∷ [];
    fit = All-cons Fits f [] takes.fits (All-nil Fits);
    split = takes.front ∙ ap (λ l. l ++ new.rest) (sym (append-nil (spelling f)));
    given = omega (arith, takes.given, ap length (append-nil (spelling f)));
    drawings = draws.0 ∷ [];
    bytes = draws.1;
    sends = (holdings', draws.1, [], draws.2, (refl, refl), sym (append-nil draws.1));
    sent = draws.3;
  }

  -- frames are drawn, and then more
  pub drawn_then : (old between new : Pending) (h h' h'' : List Holding) (before now later : Option (List ℕ))
      → DrawsMore every old between h h' before now → DrawsMore every between new h' h'' now later
      → DrawsMore every old new h h'' before later
  drawn_then old between new h h' h'' before now later a b = record {
    frames = a.frames ++ b.frames;
    fit = All-append Fits a.frames b.frames a.fit b.fit;
    split =
        a.split ∙ ap (λ l. flat_map spelling a.frames ++ l) b.split
        ∙ sym (append_assoc (flat_map spelling a.frames) (flat_map spelling b.frames) new.rest)
        ∙ ap (λ l. l ++ new.rest) (sym (flat_map-append spelling a.frames b.frames));
    given = omega (
      arith,
      a.given,
      b.given,
      length-append (flat_map spelling a.frames) (flat_map spelling b.frames),
      ap length (flat_map-append spelling a.frames b.frames),
    );
    drawings = a.drawings ++ b.drawings;
    bytes = a.bytes ++ b.bytes;
    sends = sends_joined a.frames b.frames a.drawings b.drawings h h' h'' a.bytes b.bytes a.sends b.sends;
    sent = sent_more a.bytes b.bytes before now later a.sent b.sent;
  }

  -- the same, where more bytes stand behind
  pub drawn_wide : (old new : Pending) (more : List ℕ) (h h' : List Holding) (before now : Option (List ℕ))
      → DrawsMore every old new h h' before now
      → DrawsMore every (held old.given (old.rest ++ more)) (held new.given (new.rest ++ more)) h h' before now
  drawn_wide old new more h h' before now a = record {
    frames = a.frames;
    fit = a.fit;
    split = ap (λ l. l ++ more) a.split ∙ append_assoc (flat_map spelling a.frames) new.rest more;
    given = a.given;
    drawings = a.drawings;
    bytes = a.bytes;
    sends = a.sends;
    sent = a.sent;
  }

  -- The frames of the input so far are drawn, where the input and what is left of it are told: these bytes are held
  -- behind them.
  abbrev pub DrawnOf : Option (List ℕ) → Option (List ℕ) → Pending → List Holding → Option (List ℕ) → Option (List ℕ) → Type 0
  DrawnOf o left at holdings before now =
      IfSome o (λ input. (bytes : List ℕ) × (left ≡ Some bytes)
      × DrawsFirst every input (held at.given (at.rest ++ bytes)) holdings before now)

  -- before the first take
  pub drawn_start : (o : Option (List ℕ)) (at : Pending) (h : List Holding) (before : Option (List ℕ)) → at ≡ held 0 [] → h ≡ []
      → DrawnOf o o at h before before
  drawn_start None at h before is none = tt
  drawn_start (Some input) at h before is none =
      let P : Pending → Type 0 = λ a. DrawnOf (Some input) (Some input) a h before before in
      let Q : List Holding → Type 0 = λ hs. DrawnOf (Some input) (Some input) (held 0 []) hs before before in
      subst P (sym is) (subst Q (sym none) (input, refl, drawn_none (held 0 input) [] before))

  -- a frame more is drawn
  pub drawn_frame : (start old new : Pending) (f : Frame) (h h' h'' : List Holding) (before now later : Option (List ℕ)) → Takes old new f
      → DrawsFrame every f h' h'' now later → DrawsMore every start old h h' before now → DrawsMore every start new h h'' before later
  drawn_frame start old new f h h' h'' before now later takes draws a =
      drawn_then start old new h h' h'' before now later a (drawn_one old new f h' h'' now later takes draws)

  -- a frame isn't drawn
  next_stops : (at : Pending) (f : Frame) (behind : List ℕ) (h : List Holding) (before now : Option (List ℕ)) (end : DrawEnd) → Fits f
      → at.rest ≡ spelling f ++ behind → FrameStops every f h before now end → HoldingStops every at h before now end
  next_stops at f behind h before now NoMemory fits front stops = inr
      (record { frame = f; fits = fits; behind = behind; next = front; stops = stops })
  next_stops at f behind h before now ReadFault fits front stops = absurd stops
  next_stops at f behind h before now SendFault fits front stops = record {
    frame = f;
    fits = fits;
    behind = behind;
    next = front;
    stops = stops;
  }
  next_stops at f behind h before now InputTooLong fits front stops = absurd stops
  next_stops at f behind h before now (BadFrame n) fits front stops = absurd stops
  next_stops at f behind h before now (Missing key) fits front stops = record {
    frame = f;
    fits = fits;
    behind = behind;
    next = front;
    stops = stops;
  }
  next_stops at f behind h before now (BadCoefficient key) fits front stops = record {
    frame = f;
    fits = fits;
    behind = behind;
    next = front;
    stops = stops;
  }
  next_stops at f behind h before now (UnknownSession n) fits front stops = record {
    frame = f;
    fits = fits;
    behind = behind;
    next = front;
    stops = stops;
  }

  pub frame_stops : (start old new : Pending) (f : Frame) (h h' : List Holding) (before now later : Option (List ℕ)) (end : DrawEnd)
      → Takes old new f
      → FrameStops every f h' now later end → DrawsMore every start old h h' before now → FramesStop every start h before later end
  frame_stops start old new f h h' before now later end takes stops a = record {
    rest = old;
    client = h';
    sent_first = now;
    first = a;
    stops = next_stops old f new.rest h' now later end takes.fits takes.front stops;
  }

  -- no frame is given
  fault_at : (old new : Pending) (h : List Holding) (now : Option (List ℕ)) (e : FrameFault) → Answers old (Err e) new
      → HoldingStops every old h now now (frame_end e)
  fault_at old new h now (fault.BadFrame at) answers = (refl, answers.0)
  fault_at old new h now fault.NoMemory answers = inl refl

  pub fault_stops : (start old new : Pending) (h h' : List Holding) (before now : Option (List ℕ)) (e : FrameFault) (end : DrawEnd)
      → end ≡ frame_end e
      → Answers old (Err e) new → DrawsMore every start old h h' before now → FramesStop every start h before now end
  fault_stops start old new h h' before now e end is answers a =
      let P : DrawEnd → Type 0 = λ x. FramesStop every start h before now x in
      subst P (sym is) (record { rest = old; client = h'; sent_first = now; first = a; stops = fault_at old new h' now e answers })

  -- there was no memory for a piece
  pub piece_unfed : (piece : List ℕ) (old : Pending) (h : List Holding) (now : Option (List ℕ)) (end : DrawEnd) → end ≡ NoMemory
      → PieceStops every piece old h now now end
  piece_unfed piece old h now end is =
      let P : DrawEnd → Type 0 = λ x. PieceStops every piece old h now now x in
      subst P (sym is) (record {
        rest = fed piece old;
        client = h;
        sent_first = now;
        first = drawn_none (fed piece old) h now;
        stops = inl refl;
      })

  pub no_memory_first : (o left before : Option (List ℕ)) (end : DrawEnd) → end ≡ NoMemory
      → IfSome o (λ input. EndsDraw every input left before before end)
  no_memory_first None left before end is = tt
  no_memory_first (Some input) left before end is =
      let P : DrawEnd → Type 0 = λ x. EndsDraw every input left before before x in
      let front = take (2 ^ 32) input in
      subst P (sym is) (record {
        rest = held 0 front;
        client = [];
        sent_first = before;
        first = drawn_none (held 0 front) [] before;
        stops = inl refl;
      })

  -- behind the last take
  drawn_all_at : (input bytes : List ℕ) (at : Pending) (h : List Holding) (before now : Option (List ℕ)) → bytes ≡ [] → at.rest ≡ []
      → DrawsFirst every input (held at.given (at.rest ++ bytes)) h before now → DrawsAll every input before now
  drawn_all_at input bytes at h before now none empty first =
      let P : List ℕ → Type 0 = λ l. DrawsFirst every input (held at.given l) h before now in
      (at.given, h, subst P (ap (λ l. l ++ bytes) empty ∙ none) first)

  pub drawn_all : (o left : Option (List ℕ)) (count : ℕ) (buffer : List ℕ) (at : Pending) (h : List Holding) (before now : Option (List ℕ))
      → IfSome left (λ told. Given count told buffer) → count ≡ 0 → at.rest ≡ [] → DrawnOf o left at h before now
      → IfSome o (λ input. DrawsAll every input before now)
  drawn_all None left count buffer at h before now given none empty drawn = tt
  drawn_all (Some input) left count buffer at h before now given none empty drawn =
      drawn_all_at input drawn.0 at h before now (none_left count drawn.0 buffer left given drawn.1 none) empty drawn.2

  -- the bytes of all frames, where so many were taken
  read_all_at : (input bytes : List ℕ) (at : Pending) (h : List Holding) (taken most : ℕ) (before now : Option (List ℕ)) → bytes ≡ []
      → at.rest ≡ []
      → taken ≡ at.given + length at.rest → taken ≤ most → DrawsFirst every input (held at.given (at.rest ++ bytes)) h before now
      → length input ≤ most
  read_all_at input bytes at h taken most before now none empty counted few first =
      omega (
        arith,
        few,
        counted,
        first.given,
        ap length first.split,
        ap length none,
        ap length empty,
        length-append (flat_map spelling first.frames) (at.rest ++ bytes),
        length-append at.rest bytes,
      )

  pub read_all : (o left : Option (List ℕ)) (count : ℕ) (buffer : List ℕ) (at : Pending) (h : List Holding) (taken most : ℕ)
      (before now : Option (List ℕ))
      → IfSome left (λ told. Given count told buffer) → count ≡ 0 → at.rest ≡ [] → taken ≡ at.given + length at.rest → taken ≤ most
      → DrawnOf o left at h before now
      → IfSome o (λ input. length input ≤ most)
  read_all None left count buffer at h taken most before now given none empty counted few drawn = tt
  read_all (Some input) left count buffer at h taken most before now given none empty counted few drawn =
      read_all_at input drawn.0 at h taken most before now
      (none_left count drawn.0 buffer left given drawn.1 none) empty counted few drawn.2

  -- a take that gives nothing leaves none of it
  pub nothing_left : (o left left' : Option (List ℕ)) (count : ℕ) (buffer : List ℕ) (at : Pending) (h : List Holding)
      (before now : Option (List ℕ))
      → IfSome left (λ told. Given count told buffer) → left' ≡ left_after count left → count ≡ 0 → DrawnOf o left at h before now
      → IfSome o (λ input. left' ≡ Some [])
  nothing_left None left left' count buffer at h before now given is none drawn = tt
  nothing_left (Some input) left left' count buffer at h before now given is none drawn =
      let rest : drawn.0 ≡ [] = none_left count drawn.0 buffer left given drawn.1 none in
      is ∙ ap (λ n. left_after n left) none ∙ ap (left_after 0) (drawn.1 ∙ ap Some rest)

  cut_at : (input bytes : List ℕ) (at : Pending) (h : List Holding) (taken : ℕ) (before now : Option (List ℕ)) → bytes ≡ []
      → 0 < length at.rest
      → IsPartial at → taken ≡ at.given + length at.rest → taken ≤ 2 ^ 32
      → DrawsFirst every input (held at.given (at.rest ++ bytes)) h before now → IsCut every input taken before now
  cut_at input bytes at h taken before now none some partial counted few first =
      let rest_is : at.rest ++ bytes ≡ at.rest = ap (λ l. at.rest ++ l) none ∙ append-nil at.rest in
      record {
        rest = held at.given (at.rest ++ bytes);
        holdings = h;
        first = first;
        some = omega (arith, some, ap length rest_is);
        unended = subst IsFront (sym rest_is) (front_of at partial);
        end = omega (
          arith,
          counted,
          first.given,
          ap length first.split,
          ap length rest_is,
          length-append (flat_map spelling first.frames) (at.rest ++ bytes),
        );
        few = few;
      }

  pub cut_so : (o left left' : Option (List ℕ)) (count : ℕ) (buffer : List ℕ) (at : Pending) (h : List Holding) (taken : ℕ)
      (before now : Option (List ℕ)) (end : DrawEnd)
      → IfSome left (λ told. Given count told buffer) → count ≡ 0 → end ≡ BadFrame taken → 0 < length at.rest → IsPartial at
      → taken ≡ at.given + length at.rest → taken ≤ 2 ^ 32
      → DrawnOf o left at h before now → IfSome o (λ input. EndsDraw every input left' before now end)
  cut_so None left left' count buffer at h taken before now end given none is some partial counted few drawn = tt
  cut_so (Some input) left left' count buffer at h taken before now end given none is some partial counted few drawn =
      let P : DrawEnd → Type 0 = λ e. EndsDraw every input left' before now e in
      subst P (sym is) (inl (cut_at input drawn.0 at h taken before now
      (none_left count drawn.0 buffer left given drawn.1 none) some partial counted few drawn.2))

  -- at a take that failed
  pub taken_so : (o left left' : Option (List ℕ)) (at : Pending) (h : List Holding) (before now now' : Option (List ℕ)) (end : DrawEnd)
      → end ≡ ReadFault → left' ≡ left → now' ≡ now
      → IsPartial at → DrawnOf o left at h before now → IfSome o (λ input. EndsDraw every input left' before now' end)
  taken_so None left left' at h before now now' end is same sent partial drawn = tt
  taken_so (Some input) left left' at h before now now' end is same sent partial drawn =
      let P : DrawEnd → Type 0 = λ e. EndsDraw every input left' before now' e in
      let L : Option (List ℕ) → Type 0 = λ l. IfSome l (λ bytes. DrawsTaken every input bytes before now') in
      let N : Option (List ℕ) → Type 0 = λ n. DrawsTaken every input drawn.0 before n in
      subst P (sym is) (subst L (sym (same ∙ drawn.1)) (subst N (sym sent) (record {
        rest = held at.given (at.rest ++ drawn.0);
        holdings = h;
        first = drawn.2;
        partial = at.rest;
        taken = refl;
        unended = front_of at partial;
      })))

  -- frames more are drawn, behind a piece
  drawn_piece_at : (input bytes piece : List ℕ) (fits : ℕ) (at at' : Pending) (h h' : List Holding) (before now now' : Option (List ℕ))
      → piece ≡ take fits bytes
      → DrawsFirst every input (held at.given (at.rest ++ bytes)) h before now → DrawsMore every (fed piece at) at' h h' now now'
      → DrawsFirst every input (held at'.given (at'.rest ++ drop fits bytes)) h' before now'
  drawn_piece_at input bytes piece fits at at' h h' before now now' is first more =
      let P : List ℕ → Type 0 = λ l. DrawsFirst every input (held at.given l) h before now in
      drawn_then (held 0 input) (held at.given ((at.rest ++ piece) ++ drop fits bytes))
      (held at'.given (at'.rest ++ drop fits bytes)) [] h h' before now now'
      (subst P (parted fits bytes piece at.rest is) first) (drawn_wide (fed piece at) at' (drop fits bytes) h h' now now' more)

  pub counted_more : (taken fits : ℕ) (piece : List ℕ) (at at' : Pending) (h h' : List Holding) (now now' : Option (List ℕ))
      → taken ≡ at.given + length at.rest
      → length piece ≡ fits → DrawsMore every (fed piece at) at' h h' now now' → taken + fits ≡ at'.given + length at'.rest
  counted_more taken fits piece at at' h h' now now' counted sized more =
      omega (
        arith,
        counted,
        sized,
        more.given,
        ap length more.split,
        length-append at.rest piece,
        length-append (flat_map spelling more.frames) at'.rest,
      )

  -- where all that was taken is fed
  pub drawn_piece : (o left left' : Option (List ℕ)) (fits count : ℕ) (buffer piece : List ℕ) (at at' : Pending) (h h' : List Holding)
      (before now now' : Option (List ℕ))
      → IfSome left (λ told. Given count told buffer) → left' ≡ left_after count left → fits ≡ count → piece ≡ take fits buffer
      → DrawsMore every (fed piece at) at' h h' now now' → DrawnOf o left at h before now → DrawnOf o left' at' h' before now'
  drawn_piece None left left' fits count buffer piece at at' h h' before now now' given after all is more drawn = tt
  drawn_piece (Some input) left left' fits count buffer piece at at' h h' before now now' given after all is more drawn =
      let G : Option (List ℕ) → Type 0 = λ l. IfSome l (λ told. Given count told buffer) in
      let here : Given count drawn.0 buffer = subst G drawn.1 given in
      let front = piece_is fits count drawn.0 buffer piece here (omega (arith, all)) is in (
        drop fits drawn.0,
        after ∙ ap (left_after count) drawn.1 ∙ ap (λ n. Some (drop n drawn.0)) (sym all),
        drawn_piece_at input drawn.0 piece fits at at' h h' before now now' front drawn.2 more,
      )

  -- where more was taken than is fed
  within_piece : (input bytes piece : List ℕ) (fits count : ℕ) (at at' : Pending) (h h' : List Holding) (before now now' : Option (List ℕ))
      → piece ≡ take fits bytes
      → count ≤ length bytes → fits < count → 2 ^ 32 ≡ at'.given + length at'.rest → IsPartial at'
      → DrawsFirst every input (held at.given (at.rest ++ bytes)) h before now → DrawsMore every (fed piece at) at' h h' now now'
      → DrawsWithin every input before now'
  within_piece input bytes piece fits count at at' h h' before now now' is few less full partial first more =
      let all = drawn_piece_at input bytes piece fits at at' h h' before now now' is first more in
      let room : 2 ^ 32 - at'.given ≡ length at'.rest = omega (arith, full) in
      record {
        rest = held at'.given (at'.rest ++ drop fits bytes);
        holdings = h';
        first = all;
        unended = subst IsFront (sym (ap (λ n. take n (at'.rest ++ drop fits bytes)) room ∙ take_exact at'.rest (drop fits bytes)))
            (front_of at' partial);
        past = omega (
          arith,
          full,
          all.given,
          ap length all.split,
          length-append (flat_map spelling all.frames) (at'.rest ++ drop fits bytes),
          length-append at'.rest (drop fits bytes),
          length-drop fits bytes,
          few,
          less,
        );
      }

  pub within_so : (o left left' : Option (List ℕ)) (fits count : ℕ) (buffer piece : List ℕ) (at at' : Pending) (h h' : List Holding)
      (before now now' : Option (List ℕ)) (end : DrawEnd)
      → IfSome left (λ told. Given count told buffer) → fits < count → piece ≡ take fits buffer → 2 ^ 32 ≡ at'.given + length at'.rest
      → IsPartial at' → end ≡ InputTooLong
      → DrawsMore every (fed piece at) at' h h' now now' → DrawnOf o left at h before now
      → IfSome o (λ input. EndsDraw every input left' before now' end)
  within_so None left left' fits count buffer piece at at' h h' before now now' end given less is full partial too_long more drawn = tt
  within_so (Some input) left left' fits count buffer piece at at' h h' before now now' end given less is full partial too_long more drawn =
      let G : Option (List ℕ) → Type 0 = λ l. IfSome l (λ told. Given count told buffer) in
      let here : Given count drawn.0 buffer = subst G drawn.1 given in
      let front = piece_is fits count drawn.0 buffer piece here (omega (arith, less)) is in
      let P : DrawEnd → Type 0 = λ e. EndsDraw every input left' before now' e in
      subst P (sym too_long) (within_piece input drawn.0 piece fits count at at' h h' before now now' front here.within less full partial
      drawn.2 more)

  next_wide : (at : Pending) (more : List ℕ) (h : List Holding) (before now : Option (List ℕ)) (end : DrawEnd)
      → NextStops every at h before now end
      → NextStops every (held at.given (at.rest ++ more)) h before now end
  next_wide at more h before now end n = record {
    frame = n.frame;
    fits = n.fits;
    behind = n.behind ++ more;
    next = ap (λ l. l ++ more) n.next ∙ append_assoc (spelling n.frame) n.behind more;
    stops = n.stops;
  }

  stops_wide : Stay → (at : Pending) (more : List ℕ) (h : List Holding) (before now : Option (List ℕ)) (end : DrawEnd)
      → HoldingStops every at h before now end
      → HoldingStops every (held at.given (at.rest ++ more)) h before now end
  stops_wide stay at more h before now NoMemory (inl same) = inl same
  stops_wide stay at more h before now NoMemory (inr n) = inr (next_wide at more h before now NoMemory n)
  stops_wide stay at more h before now ReadFault s = next_wide at more h before now ReadFault s
  stops_wide stay at more h before now SendFault s = next_wide at more h before now SendFault s
  stops_wide stay at more h before now InputTooLong s = next_wide at more h before now InputTooLong s
  stops_wide stay at more h before now (BadFrame n) s = (s.0, (s.1.0, s.1.1, stay at.rest more s.1.0 s.1.2))
  stops_wide stay at more h before now (Missing key) s = next_wide at more h before now (Missing key) s
  stops_wide stay at more h before now (BadCoefficient key) s = next_wide at more h before now (BadCoefficient key) s
  stops_wide stay at more h before now (UnknownSession n) s = next_wide at more h before now (UnknownSession n) s

  -- the frames before are those of the first 2^32 bytes
  drawn_narrow : (input bytes piece : List ℕ) (fits : ℕ) (at : Pending) (h : List Holding) (before now : Option (List ℕ))
      → piece ≡ take fits bytes → at.given + length at.rest + length piece ≤ 2 ^ 32
      → (first : DrawsFirst every input (held at.given (at.rest ++ bytes)) h before now)
      → DrawsFirst every (take (2 ^ 32) input) (held at.given ((at.rest ++ piece) ++ behind first.frames at piece bytes fits)) h before
      now
  drawn_narrow input bytes piece fits at h before now is room first =
      let spelled = flat_map spelling first.frames in
      let fed_bytes = at.rest ++ piece in
      let split : input ≡ (spelled ++ fed_bytes) ++ drop fits bytes =
      first.split ∙ ap (λ l. spelled ++ l) (parted fits bytes piece at.rest is) ∙ sym (append_assoc spelled fed_bytes (drop fits bytes)) in
      let few : length (spelled ++ fed_bytes) ≤ 2 ^ 32 = omega (
        arith,
        room,
        first.given,
        length-append spelled fed_bytes,
        length-append at.rest piece,
      ) in
      record {
        frames = first.frames;
        fit = first.fit;
        split = narrow input (spelled ++ fed_bytes) (drop fits bytes) (2 ^ 32) split few
            ∙ append_assoc spelled fed_bytes (behind first.frames at piece bytes fits);
        given = first.given;
        drawings = first.drawings;
        bytes = first.bytes;
        sends = first.sends;
        sent = first.sent;
      }

  stopped_at : Stay → (input bytes piece : List ℕ) (fits : ℕ) (at : Pending) (h : List Holding) (before now now' : Option (List ℕ))
      (end : DrawEnd) → piece ≡ take fits bytes → at.given + length at.rest + length piece ≤ 2 ^ 32
      → DrawsFirst every input (held at.given (at.rest ++ bytes)) h before now → PieceStops every piece at h now now' end
      → StopsAtFrame every input before now' end
  stopped_at stay input bytes piece fits at h before now now' end is room first s =
      let more = behind first.frames at piece bytes fits in
      record {
        rest = held s.rest.given (s.rest.rest ++ more);
        client = s.client;
        sent_first = s.sent_first;
        first = drawn_then (held 0 (take (2 ^ 32) input)) (held at.given ((at.rest ++ piece) ++ more))
            (held s.rest.given (s.rest.rest ++ more)) [] h s.client before now s.sent_first
            (drawn_narrow input bytes piece fits at h before now is room first)
            (drawn_wide (fed piece at) s.rest more h s.client now s.sent_first s.first);
        stops = stops_wide stay s.rest more s.client s.sent_first now' end s.stops;
      }

  ends_at : (input : List ℕ) (left before now : Option (List ℕ)) (end : DrawEnd) → StopsAtFrame every input before now end
      → EndsDraw every input left before now end
  ends_at input left before now NoMemory s = s
  ends_at input left before now ReadFault s = let never = s.stops.stops in absurd never
  ends_at input left before now SendFault s = s
  ends_at input left before now InputTooLong s = let never = s.stops.stops in absurd never
  ends_at input left before now (BadFrame n) s = inr s
  ends_at input left before now (Missing key) s = s
  ends_at input left before now (BadCoefficient key) s = s
  ends_at input left before now (UnknownSession n) s = s

  pub stopped_so : Stay → (o left left' : Option (List ℕ)) (fits count : ℕ) (buffer piece : List ℕ) (at : Pending) (h : List Holding)
      (before now now' : Option (List ℕ)) (end : DrawEnd)
      → IfSome left (λ told. Given count told buffer) → fits ≤ count → piece ≡ take fits buffer
      → at.given + length at.rest + length piece ≤ 2 ^ 32 → PieceStops every piece at h now now' end → DrawnOf o left at h before now
      → IfSome o (λ input. EndsDraw every input left' before now' end)
  stopped_so stay None left left' fits count buffer piece at h before now now' end given less is room s drawn = tt
  stopped_so stay (Some input) left left' fits count buffer piece at h before now now' end given less is room s drawn =
      let G : Option (List ℕ) → Type 0 = λ l. IfSome l (λ told. Given count told buffer) in
      let here : Given count drawn.0 buffer = subst G drawn.1 given in
      let front = piece_is fits count drawn.0 buffer piece here less is in
      ends_at input left' before now' end (stopped_at stay input drawn.0 piece fits at h before now now' end front room drawn.2 s)

  -- a take leaves what was drawn
  pub drawn_sent : (o left : Option (List ℕ)) (at : Pending) (h : List Holding) (before now now' : Option (List ℕ)) → now' ≡ now
      → DrawnOf o left at h before now → DrawnOf o left at h before now'
  drawn_sent o left at h before now now' same = let P : Option (List ℕ) → Type 0 = λ n. DrawnOf o left at h before n in subst P (sym same)
