-- Which line or push calls a page damaged, whatever the pages are.
use Rattle.std.proofs.Common.{◌≡◌, ◌∙◌, ℕ, ◌<◌, List, [], ◌∷◌, ◌++◌, Option, None, Some, IfSome, Result, Ok, Err, IfErr, refl, ap, sym}
use Rattle.std.proofs.Common.{subst, inl, inr, append_assoc}
use Rattle.std.specs.Prelude.{OnOk}
use Rattle.block_disk.specs.Streams.{sent_after}
use Rattle.block_disk.specs.View.{Honest, Image, View}
use Rattle.chart_frames.specs.declared.frame.Frame.{Frame}
use Rattle.chart_world.specs.declared.line_answer.LineFault.{LineFault}
use Rattle.chart_world.specs.declared.line_answer.LineFault.TheVariants as input
use Rattle.chart_service.proofs.LastLemmas.{last_more}
use Rattle.chart_service.proofs.Naming.{named_opened}
use Rattle.chart_service.specs.Blaming.{Blames, BlamesRead, FindsDamaged, IsDamagedOf}
use Rattle.chart_service.specs.LastShown.{IsLastIn}
use Rattle.chart_service.specs.Naming.{NameOpen}
use Rattle.chart_service.specs.Serving.{told}
use Rattle.chart_service.specs.declared.failure.ServiceError.{ServiceError}
use Rattle.chart_service.specs.declared.failure.ServiceError.TheVariants as step
use Rattle.gate_pages.specs.Journal.{pages_of}
use Rattle.live_service.specs.Blaming.{PushBlames}
use Rattle.live_service.specs.Kinds.{MayAnswerBy, MayAnswerLive}
use Rattle.live_service.specs.Pushing.{FollowedBy, followed_after}
use Rattle.request_lines.specs.Requests.{read_line}
use Rattle.request_lines.specs.declared.requests.Request.{Request}
use Rattle.run_ends.specs.Faults.{input_end}
use Rattle.run_ends.specs.declared.ending.End.{End}
use Rattle.run_ends.specs.declared.ending.End.TheVariants as end
use Rattle.served_lines.proofs.BlameLemmas.{more_blamed}
use Rattle.stored_book.proofs.CurrentLemmas.{spelled_current}
use Rattle.stored_book.specs.Damage.{SaysNumbers}
use Rattle.stored_book.specs.Standing.{book_pages}
use Rattle.zoom_session.specs.Sessions.{is_open}
use Rattle.zoom_session.specs.declared.session.Session.{Session}
use Rattle.hosted_lines.specs.Answers.{AreSentBy, Sends, ShownLast, Watched, lines_at}
use Rattle.hosted_lines.specs.Blaming.{BlamesBy, BlamesFirst, BlamesNext, BlamesOnDisk, FirstBlames, NextBlames, OfDamaged, none_shown}
use Rattle.hosted_lines.specs.Doing.{FrameStops, step_end}
use Rattle.hosted_lines.proofs.AnswersLemmas.{sends_both, sends_none}

-- ---- ends

-- a frame that wasn't sent calls no page damaged
unsent : (frame : Frame) (before now : Option (List ℕ)) (IsSo : ℕ → Type 0) (e : End) → FrameStops frame before now e → OfDamaged IsSo e
unsent frame before now IsSo end.NoMemory stops = tt
unsent frame before now IsSo end.SendFault stops = tt
unsent frame before now IsSo e stops = absurd stops

pub unsent_blames : {T : Type 0} (r : Result T End) (frame : Frame) (before now : Option (List ℕ)) (IsSo : ℕ → Type 0)
    → IfErr r (FrameStops frame before now) → IfErr r (OfDamaged IsSo)
unsent_blames (Ok v) frame before now IsSo stops = tt
unsent_blames (Err e) frame before now IsSo stops = unsent frame before now IsSo e stops

-- a step that failed
pub step_damaged : (error : ServiceError) (e : End) (IsSo : ℕ → Type 0) (Why : ServiceError → Type 0) → e ≡ step_end error → Why error
    → ((page : ℕ) → Why (step.Damaged page) → IsSo page) → OfDamaged IsSo e
step_damaged step.DiskFault e IsSo Why is why so = let E : End → Type 0 = OfDamaged IsSo in subst E (sym is) tt
step_damaged (step.Damaged page) e IsSo Why is why so = let E : End → Type 0 = OfDamaged IsSo in subst E (sym is) (so page why)
step_damaged step.NoMemory e IsSo Why is why so = let E : End → Type 0 = OfDamaged IsSo in subst E (sym is) tt

damaged_so : (One Two : ℕ → Type 0) (e : End) → ((page : ℕ) → One page → Two page) → OfDamaged One e → OfDamaged Two e
damaged_so One Two (end.DamagedPage page) more one = more page one
damaged_so One Two e more one = tt

pub blames_so : {T : Type 0} (r : Result T End) (One Two : ℕ → Type 0) → ((page : ℕ) → One page → Two page) → IfErr r (OfDamaged One)
    → IfErr r (OfDamaged Two)
blames_so (Ok v) One Two more one = tt
blames_so (Err e) One Two more one = damaged_so One Two e more one

-- ---- lines

module _ (May : MayAnswerBy) (after : FollowedBy) (By : BlamesBy) (is_told : Type 0) (count : ℕ) (image : Image) where
  module _ (page : ℕ) where
    -- the first line, or a push, blames the page
    pub blames_now : (lines : List (Option (List ℕ))) (at : Watched) (before now : Option (List ℕ)) → now ≡ before
        → NextBlames By lines at.followed (IsLastIn at.sessions) is_told count image page
        → BlamesFirst May after By lines at before now is_told count image page
    blames_now lines at before now unsent blames =
        let S : Option (List ℕ) → Type 0 = λ n. Sends May after [] at at before n in
        record {
          first = [];
          later = lines;
          split = refl;
          at = at;
          sends = subst S (sym unsent) (sends_none May after at before);
          blames = blames;
        }

    -- behind lines that are answered
    pub blames_behind : (lines others : List (Option (List ℕ))) (old mid : Watched) (before between now : Option (List ℕ))
        → Sends May after lines old mid before between
        → BlamesFirst May after By others mid between now is_told count image page
        → BlamesFirst May after By (lines ++ others) old before now is_told count image page
    blames_behind lines others old mid before between now one two = record {
      first = lines ++ two.first;
      later = two.later;
      split = ap (λ l. lines ++ l) two.split ∙ sym (append_assoc lines two.first two.later);
      at = two.at;
      sends = sends_both May after lines two.first old mid two.at before between now one two.sends;
      blames = two.blames;
    }

    next_more : (lines more : List (Option (List ℕ))) (followed : List ℕ) (last : ℕ → ℕ → Type 0)
        → NextBlames By lines followed last is_told count image page
        → NextBlames By (lines ++ more) followed last is_told count image page
    next_more [] more followed last (inl blames) = absurd blames
    next_more (line ∷ lines) more followed last (inl blames) = inl blames
    next_more lines more followed last (inr blames) = inr blames

    -- before others
    pub blames_before : (lines more : List (Option (List ℕ))) (old : Watched) (before now : Option (List ℕ))
        → BlamesFirst May after By lines old before now is_told count image page
        → BlamesFirst May after By (lines ++ more) old before now is_told count image page
    blames_before lines more old before now it = record {
      first = it.first;
      later = it.later ++ more;
      split = ap (λ l. l ++ more) it.split ∙ append_assoc it.first it.later more;
      at = it.at;
      sends = it.sends;
      blames = next_more it.later more it.at.followed (IsLastIn it.at.sessions) it.blames;
    }

    -- ---- all lines of an input, where no session was open before them

    push_more : (followed : List ℕ) (one other : ℕ → ℕ → Type 0) → ((n id : ℕ) → one n id → other n id)
        → PushBlames followed one is_told count image page → PushBlames followed other is_told count image page
    push_more followed one other more it = record {
      session = it.session;
      among = it.among;
      within = it.within;
      found = λ t.
          let f = it.found t in
          let d = f.so.1 in
          record {
            numbers = f.numbers;
            keeps = f.keeps;
            so = (f.so.0, record { id = d.id; there = d.there; shown = more it.session d.id d.shown; damaged = d.damaged });
          };
    }

    next_so : ((line : Option (List ℕ)) (one other : ℕ → ℕ → Type 0) → ((n id : ℕ) → one n id → other n id)
        → By line one is_told count image page → By line other is_told count image page)
        → (lines : List (Option (List ℕ))) (followed : List ℕ) (one other : ℕ → ℕ → Type 0) → ((n id : ℕ) → one n id → other n id)
        → NextBlames By lines followed one is_told count image page
        → NextBlames By lines followed other is_told count image page
    next_so grows [] followed one other more (inl blames) = absurd blames
    next_so grows (line ∷ lines) followed one other more (inl blames) = inl (grows line one other more blames)
    next_so grows lines followed one other more (inr blames) = inr (push_more followed one other more blames)

    pub input_blames : ((line : Option (List ℕ)) (one other : ℕ → ℕ → Type 0) → ((n id : ℕ) → one n id → other n id)
        → By line one is_told count image page → By line other is_told count image page)
        → (input : List ℕ) (old : Watched) (before now : Option (List ℕ)) → old.sessions ≡ [] → old.followed ≡ []
        → BlamesFirst May after By (told input) old before now is_told count image page
        → BlamesNext May after By input before now is_told count image page
    input_blames grows input old before now none alone it =
        let a = it.sends.answers in
        let N : List Session → Type 0 = λ ss. NameOpen (λ n. is_open n ss) a.frames in
        let F : List ℕ → Type 0 = λ f. AreSentBy May after a.events f a.frames it.at.followed in
        let S : List Session → Type 0 = λ ss. (n id : ℕ) → IsLastIn ss n id → none_shown n id in
        let never : S old.sessions = subst S (sym none) (λ n id last. last) in
        record {
          events = a.events;
          later = it.later;
          lines_are = it.split ∙ ap (λ l. l ++ it.later) (sym a.lines_are);
          frames = a.frames;
          fits = a.fits;
          followed = it.at.followed;
          are_sent = subst F alone a.are_sent;
          named = named_opened a.frames (subst N none a.named);
          sent = it.sends.sent ∙ ap (λ t. sent_after t before) a.text_is;
          blames = next_so grows it.later it.at.followed (IsLastIn it.at.sessions) (ShownLast none_shown a.events a.frames)
              (λ n id last. last_more (lines_at a.events) a.frames (IsLastIn old.sessions) none_shown never n id (a.lasts n id last))
              it.blames;
        }

  -- ---- by what is answered

  pub behind_blames : {T : Type 0} (r : Result T End) (lines others : List (Option (List ℕ))) (old mid : Watched)
      (before between now : Option (List ℕ)) → Sends May after lines old mid before between
      → IfErr r (OfDamaged (BlamesFirst May after By others mid between now is_told count image))
      → IfErr r (OfDamaged (BlamesFirst May after By (lines ++ others) old before now is_told count image))
  behind_blames {T} r lines others old mid before between now sends blames =
      blames_so r (BlamesFirst May after By others mid between now is_told count image)
      (BlamesFirst May after By (lines ++ others) old before now is_told count image)
      (λ page it. blames_behind page lines others old mid before between now sends it) blames

  pub lines_blame : {T : Type 0} (r : Result T End) (lines others : List (Option (List ℕ))) (old : Watched) (before now : Option (List ℕ))
      → lines ≡ others
      → IfErr r (OfDamaged (BlamesFirst May after By lines old before now is_told count image))
      → IfErr r (OfDamaged (BlamesFirst May after By others old before now is_told count image))
  lines_blame {T} r lines others old before now same blames =
      let P : List (Option (List ℕ)) → Type 0 = λ l. IfErr r (OfDamaged (BlamesFirst May after By l old before now is_told count image)) in
      subst P same blames

  -- where the input is told
  pub told_blames : ((page : ℕ) (line : Option (List ℕ)) (one other : ℕ → ℕ → Type 0) → ((n id : ℕ) → one n id → other n id)
      → By line one is_told count image page → By line other is_told count image page)
      → (e : End) (o : Option (List ℕ)) (old : Watched) (before now : Option (List ℕ)) → old.sessions ≡ [] → old.followed ≡ []
      → OfDamaged (λ page. IfSome o (λ input. BlamesFirst May after By (told input) old before now is_told count image page)) e
      → OfDamaged (λ page. IfSome o (λ input. BlamesNext May after By input before now is_told count image page)) e
  told_blames grows e o old before now none alone blames =
      damaged_so (λ page. IfSome o (λ input. BlamesFirst May after By (told input) old before now is_told count image page))
      (λ page. IfSome o (λ input. BlamesNext May after By input before now is_told count image page)) e (λ page it. each page o it) blames
    where
      each : (page : ℕ) (o : Option (List ℕ)) → IfSome o
          (λ input. BlamesFirst May after By (told input) old before now is_told count image page)
          → IfSome o (λ input. BlamesNext May after By input before now is_told count image page)
      each page None it = tt
      each page (Some input) it = input_blames page (grows page) input old before now none alone it

-- ---- on a disk

-- what page 0 says of the pages of a disk, they say where they are of version 2
read_current : (read : Result Request ℕ) (last : ℕ → ℕ → Type 0) (is_told : Type 0) (count : ℕ) (image : Image) (page : ℕ)
    → BlamesRead read last is_told count (pages_of count image) page
    → BlamesRead read last is_told count (book_pages count image) page
read_current (Err at) last is_told count image page blames = absurd blames
read_current (Ok request) last is_told count image page blames = record {
  reads = blames.reads;
  within = blames.within;
  found = λ t.
      let here = blames.found t in
      let Says : Image → Type 0 = λ pages. SaysNumbers count pages (λ s. (page < s.total) × FindsDamaged request last pages s page) in
      subst Says (sym (spelled_current (pages_of count image) here.numbers here.keeps.spelled)) here;
}

pub line_current : (line : Option (List ℕ)) (last : ℕ → ℕ → Type 0) (is_told : Type 0) (count : ℕ) (image : Image) (page : ℕ)
    → Blames line last is_told count (pages_of count image) page
    → Blames line last is_told count (book_pages count image) page
line_current None last is_told count image page blames = absurd blames
line_current (Some text) last is_told count image page blames = read_current (read_line text) last is_told count image page blames

push_current : (followed : List ℕ) (last : ℕ → ℕ → Type 0) (is_told : Type 0) (count : ℕ) (image : Image) (page : ℕ)
    → PushBlames followed last is_told count (pages_of count image) page
    → PushBlames followed last is_told count (book_pages count image) page
push_current followed last is_told count image page blames = record {
  session = blames.session;
  among = blames.among;
  within = blames.within;
  found = λ t.
      let here = blames.found t in
      let Says : Image → Type 0 = λ pages. SaysNumbers count pages (λ s. (page < s.total)
      × IsDamagedOf (last blames.session) pages s page) in
      subst Says (sym (spelled_current (pages_of count image) here.numbers here.keeps.spelled)) here;
}

module _ (May : MayAnswerBy) (after : FollowedBy) (By : BlamesBy)
    (current : (line : Option (List ℕ)) (last : ℕ → ℕ → Type 0) (is_told : Type 0) (count : ℕ) (image : Image) (page : ℕ)
    → By line last is_told count (pages_of count image) page
    → By line last is_told count (book_pages count image) page) where
  next_current : (lines : List (Option (List ℕ))) (followed : List ℕ) (last : ℕ → ℕ
      → Type 0) (is_told : Type 0) (count : ℕ) (image : Image) (page : ℕ)
      → NextBlames By lines followed last is_told count (pages_of count image) page
      → NextBlames By lines followed last is_told count (book_pages count image) page
  next_current [] followed last is_told count image page (inl blames) = absurd blames
  next_current (line ∷ lines) followed last is_told count image page (inl blames) = inl (current line last is_told count image page blames)
  next_current lines followed last is_told count image page (inr blames) = inr (push_current followed last is_told count image page blames)

  blames_current : (input : List ℕ) (before now : Option (List ℕ)) (is_told : Type 0) (count : ℕ) (image : Image) (page : ℕ)
      → BlamesNext May after By input before now is_told count (pages_of count image) page
      → BlamesNext May after By input before now is_told count (book_pages count image) page
  blames_current input before now is_told count image page it = record {
    events = it.events;
    later = it.later;
    lines_are = it.lines_are;
    frames = it.frames;
    fits = it.fits;
    followed = it.followed;
    are_sent = it.are_sent;
    named = it.named;
    sent = it.sent;
    blames = next_current it.later it.followed (ShownLast none_shown it.events it.frames) is_told count image page it.blames;
  }

  each_current : (o before now : Option (List ℕ)) (is_told : Type 0) (count : ℕ) (image : Image) (page : ℕ)
      → IfSome o (λ input. BlamesNext May after By input before now is_told count (pages_of count image) page)
      → IfSome o (λ input. BlamesNext May after By input before now is_told count (book_pages count image) page)
  each_current None before now is_told count image page it = tt
  each_current (Some input) before now is_told count image page it = blames_current input before now is_told count image page it

  pub disk_blames : (count count' : ℕ) (disk : View) (o before now : Option (List ℕ)) (e : End) → count' ≡ count
      → OfDamaged (λ page. IfSome o (λ input. BlamesNext May after By input before now (Honest disk) count'
      (pages_of count' disk.image) page)) e → BlamesOnDisk May after By count disk o before now e
  disk_blames count count' disk o before now e same blames =
      let C : ℕ → Type 0 = λ n. BlamesOnDisk May after By n disk o before now e in
      subst C same (damaged_so (λ page. IfSome o (λ input. BlamesNext May after By input before now (Honest disk) count'
      (pages_of count' disk.image) page))
      (λ page. IfSome o (λ input. BlamesNext May after By input before now (Honest disk) count' (book_pages count' disk.image) page)) e
      (λ page it. each_current o before now (Honest disk) count' disk.image page it) blames)

-- ---- of a live service

pub live_told : (is_told : Type 0) (count : ℕ) (image : Image) (e : End) (o : Option (List ℕ)) (old : Watched)
    (before now : Option (List ℕ)) → old.sessions ≡ [] → old.followed ≡ []
    → OfDamaged (λ page. IfSome o (λ input. BlamesFirst MayAnswerLive followed_after Blames
    (told input) old before now is_told count image page)) e
    → OfDamaged (λ page. IfSome o (λ input. BlamesNext MayAnswerLive followed_after Blames input before now is_told count image page)) e
live_told is_told count image e o old before now none alone blames =
    told_blames MayAnswerLive followed_after Blames is_told count image
    (λ page line one other more blamed. more_blamed line one other is_told count image page more blamed) e o old before now none alone
    blames

-- behind an opening, which leaves the streams
pub blames_over : (May : MayAnswerBy) (after : FollowedBy) (By : BlamesBy) (count count' : ℕ) (disk : View)
    (o o' before before' now : Option (List ℕ)) (e : End) → count ≡ count' → o ≡ o' → before ≡ before'
    → BlamesOnDisk May after By count disk o before now e → BlamesOnDisk May after By count' disk o' before' now e
blames_over May after By count count' disk o o' before before' now e counted same unsent blames =
    let C : ℕ → Type 0 = λ n. BlamesOnDisk May after By n disk o' before' now e in
    let O : Option (List ℕ) → Type 0 = λ x. BlamesOnDisk May after By count disk x before' now e in
    let B : Option (List ℕ) → Type 0 = λ b. BlamesOnDisk May after By count disk o b now e in
    subst C counted (subst O same (subst B unsent blames))

-- where the input failed
pub input_unblamed : (fault : LineFault) (e : End) (IsSo : ℕ → Type 0) → e ≡ input_end fault → OfDamaged IsSo e
input_unblamed input.ReadFault e IsSo is = let E : End → Type 0 = OfDamaged IsSo in subst E (sym is) tt
input_unblamed input.InputTooLong e IsSo is = let E : End → Type 0 = OfDamaged IsSo in subst E (sym is) tt
