-- Which line calls a page damaged.
use Rattle.std.proofs.Common.{◌≡◌, ◌∙◌, ℕ, ◌≤◌, ◌<◌, List, [], ◌∷◌, ◌++◌, length, All, Option, None, Some, Result, Ok, Err, IfErr, refl}
use Rattle.std.proofs.Common.{sym, ap, subst, arith}
use Rattle.std.specs.Prelude.{IsErrAnd, MatchResult, OnOk, slice_get}
use Rattle.std.proofs.lemmas.Option.{slice_get_within}
use Rattle.block_disk.specs.View.{Image, View}
use Rattle.catalog_page.specs.Entries.{Entry}
use Rattle.chart_frames.specs.Frames.{Fits}
use Rattle.chart_frames.specs.Opened.{opens}
use Rattle.chart_frames.specs.declared.frame.Frame.{Frame}
use Rattle.chart_frames.specs.declared.frame.Frame.TheVariants.{Done, Refused, Opened, Closed, View as ViewOf, Rows, Live, Report}
use Rattle.page_space.specs.declared.superblock.Superblock.{Superblock}
use Rattle.request_lines.specs.Requests.{read_line}
use Rattle.request_lines.specs.declared.requests.Request.{Request}
use Rattle.request_lines.specs.declared.requests.Request.TheVariants.{Edit as EditRequest, Open, View as ViewRequest, Zoom, Pan, Close}
use Rattle.series_book.specs.declared.edits.Edit.{Edit}
use Rattle.series_catalog.specs.declared.stored_series.StoredSeries.{StoredSeries}
use Rattle.series_store.specs.Asking.{IsNamedAt}
use Rattle.stored_book.specs.Damage.{SaysNumbers}
use Rattle.stored_book.specs.Records.{entry, tree_of}
use Rattle.tree_walk.specs.Paths.{IsDamaged}
use Rattle.zoom_session.specs.Sessions.{is_open}
use Rattle.zoom_session.specs.declared.session.Session.{Session}
use Rattle.chart_service.specs.Blaming.{Blames, BlamesBy, BlamesEnd, BlamesFor, BlamesRead, FindsDamaged, GivesLast, IsDamagedOf}
use Rattle.chart_service.specs.Blaming.{LineBlames, ReadsPages, RequestBlames}
use Rattle.chart_service.specs.EditDamage.{NamesBadForEdit}
use Rattle.chart_service.specs.EditGroups.{IsEditReply, SpellEdits, SpellsEdit}
use Rattle.chart_service.specs.Kinds.{MayAnswerAll}
use Rattle.chart_service.specs.Knowing.{NamesKnown}
use Rattle.chart_service.specs.LastShown.{IsLastIn, LastShown, LastsBehind, LastsBy, OfRowsLine, ShownBy}
use Rattle.chart_service.specs.Making.{FrameSent, FramesSent, IsReplyEnd, Makes}
use Rattle.chart_service.specs.Replies.{line_text}
use Rattle.chart_service.specs.Serving.{end_of_step, unless_empty}
use Rattle.chart_service.specs.Stepping.{IsDamagedFor, IsDamagedIn, IsDamagedToView, IsLineCause, IsReadCause, IsStepCause, IsUnchangedBy}
use Rattle.chart_service.specs.Stepping.{IsUnchangedFor}
use Rattle.chart_service.specs.declared.failure.AnswerEnd.{AnswerEnd}
use Rattle.chart_service.specs.declared.failure.AnswerEnd.TheVariants.{Serve, Reply}
use Rattle.chart_service.specs.declared.failure.ServeEnd.TheVariants.{ReadFault, SendFault, DiskFault, Damaged, InputTooLong, NoMemory}
use Rattle.chart_service.specs.declared.failure.ServiceError.{ServiceError}
use Rattle.chart_service.specs.declared.failure.ServiceError.TheVariants as step
use Rattle.chart_service.proofs.LastLemmas.{last_more}
use Rattle.chart_service.proofs.Naming.{gives_joined, gives_none, gives_one, gives_edits, Each, each_of}
use Rattle.chart_service.proofs.Sending.{text_is}
use Rattle.chart_service.proofs.StepLemmas.{AreOwn}

-- ---- what a request finds damaged, by the image

named_one : (told : Type 0) (view : View) (s : Superblock) (catalog : List StoredSeries) (IsShown IsSo : ℕ → Type 0) (page : ℕ)
    → AreOwn told view s catalog → told
    → ((id : ℕ) (one : StoredSeries) → slice_get catalog id ≡ Some one → IsShown id → IsSo id)
    → IsDamagedIn IsShown catalog view.image s.total page → IsDamagedOf IsSo view.image s page
named_one told view s catalog IsShown IsSo page own t more bad =
    let E : Entry → Type 0 = λ e. IsDamaged view.image s.total (tree_of e) page in
    record {
      id = bad.id;
      there = omega (arith, slice_get_within catalog bad.id bad.series bad.there, own.count);
      shown = more bad.id bad.series bad.there bad.shown;
      damaged = subst E (sym (own.says t bad.id bad.series bad.there)) bad.damaged;
    }

module _ (told told' : Type 0) (old new : View) (s : Superblock) (catalog : List StoredSeries) (sessions : List Session) (page : ℕ)
    (own : AreOwn told old s catalog) (was : told' → told)
    (same : told → new.image ≡ old.image) (size : new.size ≡ old.size) where
  found_on : (request : Request) → ReadsPages request → page < s.total → (told → FindsDamaged request (IsLastIn sessions) old.image s page)
      → BlamesFor request (IsLastIn sessions) told' new.size new.image page
  found_on request reads low found =
      let I : Image → Type 0 = λ i. SaysNumbers old.size i (λ z. (page < z.total) × FindsDamaged request (IsLastIn sessions) i z page) in
      let C : ℕ → Type 0 = λ n. SaysNumbers n new.image (λ z. (page < z.total)
      × FindsDamaged request (IsLastIn sessions) new.image z page) in
      record {
        reads = reads;
        within = omega (arith, low, own.within, size);
        found = λ t. subst C (sym size) (subst I (sym (same (was t)))
            (record { numbers = s; keeps = own.keeps (was t); so = (low, found (was t)) }));
      }

  view_finds : (request : Request) (IsShown IsSo : ℕ → Type 0) → ReadsPages request
      → (told → (id : ℕ) (one : StoredSeries) → slice_get catalog id ≡ Some one → IsShown id → IsSo id)
      → (IsDamagedOf IsSo old.image s page → FindsDamaged request (IsLastIn sessions) old.image s page)
      → IsDamagedToView IsShown told catalog old.image s.total page
      → BlamesFor request (IsLastIn sessions) told' new.size new.image page
  view_finds request IsShown IsSo reads more finds bad = found_on request reads bad.0
      (λ t. finds (named_one told old s catalog IsShown IsSo page own t (more t) (bad.1 t)))

  pub request_blames : (request : Request) → IsDamagedFor request told catalog sessions old.image s page
      → BlamesFor request (IsLastIn sessions) told' new.size new.image page
  request_blames (EditRequest edit) bad = found_on (EditRequest edit) tt bad.0 bad.1
  request_blames (Open number cache) bad = absurd bad
  request_blames (ViewRequest number name w h t0 t1 word text) bad =
      view_finds (ViewRequest number name w h t0 t1 word text) (IsNamedAt catalog name) (λ id. (entry old.image id).name ≡ name) tt
      (λ t id one there named. ap (λ (e : Entry). e.name) (own.says t id one there) ∙ named one there) (λ found. found) bad
  request_blames (Zoom number t0 t1) bad = view_finds (Zoom number t0 t1) (IsLastIn sessions number) (IsLastIn sessions number) tt
      (λ t id one there last. last) (λ found. found) bad
  request_blames (Pan number by) bad = view_finds (Pan number by) (IsLastIn sessions number) (IsLastIn sessions number) tt
      (λ t id one there last. last) (λ found. found) bad
  request_blames (Close number) bad = absurd bad

  pub read_blames : (read : Result Request ℕ) → IsReadCause read (step.Damaged page) told catalog sessions s old new
      → BlamesRead read (IsLastIn sessions) told' new.size new.image page
  read_blames (Err at) bad = absurd bad
  read_blames (Ok request) bad = request_blames request bad

  pub line_blames : (text : List ℕ) → length text ≤ 8192 → IsLineCause (line_text text) (step.Damaged page) told catalog sessions s old new
      → Blames (Some text) (IsLastIn sessions) told' new.size new.image page
  line_blames text short bad =
      let L : Option (List ℕ) → Type 0 = λ o. IsLineCause o (step.Damaged page) told catalog sessions s old new in
      read_blames (read_line text) (subst L (text_is text short) bad)

-- ---- by what is answered

module _ (told told' : Type 0) (old new : View) (s : Superblock) (catalog : List StoredSeries) (sessions : List Session)
    (own : AreOwn told old s catalog) (was : told' → told) (size : new.size ≡ old.size) where
  request_error : (request : Request) (e : ServiceError) → IsUnchangedFor e told old new
      → IsStepCause request e told catalog sessions s old new → RequestBlames request (IsLastIn sessions) told' new.size new.image e
  request_error request step.DiskFault kept cause = tt
  request_error request (step.Damaged page) kept cause = request_blames told told' old new s catalog sessions page own was kept.image size
      request cause
  request_error request step.NoMemory kept cause = tt

  line_error : (line : Option (List ℕ)) (e : ServiceError) → IsUnchangedFor e told old new
      → IsLineCause line e told catalog sessions s old new → LineBlames line (IsLastIn sessions) told' new.size new.image e
  line_error line step.DiskFault kept cause = tt
  line_error None (step.Damaged page) kept cause = absurd cause
  line_error (Some text) (step.Damaged page) kept cause = read_blames told told' old new s catalog sessions page own was kept.image size
      (read_line text) cause
  line_error line step.NoMemory kept cause = tt

pub request_blamed : (r : Result Frame ServiceError) (told told' : Type 0) (old new : View) (s : Superblock) (catalog : List StoredSeries)
    (sessions : List Session) → AreOwn told old s catalog → (told' → told) → new.size ≡ old.size
    → (request : Request) → MatchResult r (λ frame. IsUnchangedBy frame told old new) (λ e. IsUnchangedFor e told old new)
    → IfErr r (λ e. IsStepCause request e told catalog sessions s old new)
    → IfErr r (RequestBlames request (IsLastIn sessions) told' new.size new.image)
request_blamed (Ok frame) told told' old new s catalog sessions own was size request kept cause = tt
request_blamed (Err e) told told' old new s catalog sessions own was size request kept cause = request_error told told' old new s catalog
    sessions own was size request e kept cause

pub line_blamed : (r : Result Frame ServiceError) (told told' : Type 0) (old new : View) (s : Superblock) (catalog : List StoredSeries)
    (sessions : List Session) → AreOwn told old s catalog → (told' → told) → new.size ≡ old.size
    → (line : Option (List ℕ)) → MatchResult r (λ frame. IsUnchangedBy frame told old new) (λ e. IsUnchangedFor e told old new)
    → IfErr r (λ e. IsLineCause line e told catalog sessions s old new)
    → IfErr r (LineBlames line (IsLastIn sessions) told' new.size new.image)
line_blamed (Ok frame) told told' old new s catalog sessions own was size line kept cause = tt
line_blamed (Err e) told told' old new s catalog sessions own was size line kept cause = line_error told told' old new s catalog sessions
    own was size line e kept cause

-- an edit that is one of a group
edit_blames : (line : Option (List ℕ)) (edit : Edit) (last : ℕ → ℕ → Type 0) (told : Type 0) (count : ℕ) (image : Image) (page : ℕ)
    → SpellsEdit line edit → NamesBadForEdit told count image (step.Damaged page) → Blames line last told count image page
edit_blames None edit last told count image page spells bad = absurd spells
edit_blames (Some []) edit last told count image page spells bad = absurd spells
edit_blames (Some (byte ∷ bytes)) edit last told count image page spells bad =
    let R : Result Request ℕ → Type 0 = λ r. BlamesRead r last told count image page in
    subst R (sym spells) (record { reads = tt; within = bad.0; found = bad.1 })

-- ---- the series that sessions show last, behind lines

last_joined : (lines more : List (Option (List ℕ))) (frames later : List Frame) (was : ℕ → ℕ → Type 0) (n id : ℕ)
    → MayAnswerAll lines frames → LastShown (LastShown was lines frames) more later n id
    → LastShown was (lines ++ more) (frames ++ later) n id
last_joined [] more [] later was n id may last = last
last_joined [] more (f ∷ fs) later was n id may last = absurd may
last_joined (l ∷ ls) more [] later was n id may last = absurd may
last_joined (l ∷ ls) more (f ∷ fs) later was n id may last = last_joined ls more fs later
    (λ m i. ShownBy (OfRowsLine l (was m)) f m (was m) i) n id may.1 last

edit_last : (line : Option (List ℕ)) (frame : Frame) (n id : ℕ) (was : ℕ → Type 0) → IsEditReply frame → was id
    → ShownBy (OfRowsLine line was) frame n was id
edit_last line (Done slots) n id was is last = last
edit_last line (Refused number a b) n id was is last = last
edit_last line (Opened session cache) n id was is last = absurd is
edit_last line (Closed session) n id was is last = absurd is
edit_last line (ViewOf view) n id was is last = absurd is
edit_last line (Rows rows) n id was is last = absurd is
edit_last line (Live session on) n id was is last = absurd is
edit_last line (Report report) n id was is last = absurd is

edits_last : (lines : List (Option (List ℕ))) (frames : List Frame) (was : ℕ → ℕ → Type 0) → Each IsEditReply frames → (n id : ℕ) → was n id
    → LastShown was lines frames n id
edits_last [] frames was all n id last = last
edits_last (l ∷ ls) [] was all n id last = last
edits_last (l ∷ ls) (f ∷ fs) was all n id last =
    edits_last ls fs (λ m i. ShownBy (OfRowsLine l (was m)) f m (was m) i) all.1 n id (edit_last l f n id (was n) all.0 last)

pub text_lasts : (text : List ℕ) (frame : Frame) (old new : List Session) → length text ≤ 8192 → 0 < length text
    → LastsBy (OfRowsLine (line_text text)) frame old new → LastsBehind (unless_empty (Some text)) (frame ∷ []) old new
text_lasts [] frame old new short some lasts = absurd (omega (arith, some))
text_lasts (b ∷ bs) frame old new short some lasts =
    let L : Option (List ℕ) → Type 0 = λ o. LastsBy (OfRowsLine o) frame old new in
    subst L (text_is (b ∷ bs) short) lasts

module _ {S F : Type 0} (makes : Makes S F) where
  -- no lines
  pub last_none : (v : S) (own : List Session) (before : Option (List ℕ)) → GivesLast makes [] v v own own before before
  unfolding gives_none
  last_none v own before = record { gives = gives_none makes v (λ n. is_open n own) before; lasts = λ n id last. last }

  -- an empty line is given nothing
  pub last_empty : (line : List ℕ) → length line ≡ 0 → (v : S) (own : List Session) (before : Option (List ℕ))
      → GivesLast makes (unless_empty (Some line)) v v own own before before
  last_empty [] none v own before = last_none v own before
  last_empty (byte ∷ bytes) none v own before = absurd (omega (arith, none))

  -- lines, and others behind them
  pub last_then : (lines more : List (Option (List ℕ))) (u v w : S) (own mid_sessions sessions : List Session)
      (before mid now : Option (List ℕ)) → GivesLast makes lines u v own mid_sessions before mid
      → GivesLast makes more v w mid_sessions sessions mid now → GivesLast makes (lines ++ more) u w own sessions before now
  unfolding gives_joined
  last_then lines more u v w own mid_sessions sessions before mid now one two = record {
    gives = gives_joined makes lines more u v w (λ n. is_open n own) (λ n. is_open n mid_sessions)
        (λ n. is_open n sessions) before mid now one.gives two.gives;
    lasts = λ n id last.
        last_joined lines more one.gives.frames two.gives.frames (IsLastIn own) n id one.gives.answers
        (last_more more two.gives.frames (IsLastIn mid_sessions) (LastShown (IsLastIn own) lines one.gives.frames) one.lasts n id
        (two.lasts n id last));
  }

  last_one : (lines : List (Option (List ℕ))) (v w : S) (frame : Frame) (old new : List Session) (before now : Option (List ℕ)) → Fits frame
      → MayAnswerAll lines (frame ∷ []) → NamesKnown frame (λ n. is_open n old) → ((n : ℕ) → is_open n new ≡ opens frame n (is_open n old))
      → LastsBehind lines (frame ∷ []) old new → FrameSent makes frame v w before now → GivesLast makes lines v w old new before now
  unfolding gives_one
  last_one lines v w frame old new before now fits may named after lasts s =
      record {
        gives = gives_one makes lines v w frame (λ n. is_open n old) (λ n. is_open n new) before now fits may named after s;
        lasts = lasts;
      }

  last_edits : (lines : List (Option (List ℕ))) (v w : S) (frames : List Frame) (own : List Session) (before now : Option (List ℕ))
      → Each Fits frames → MayAnswerAll lines frames → Each IsEditReply frames → FramesSent makes frames v w before now
      → GivesLast makes lines v w own own before now
  unfolding gives_edits
  last_edits lines v w frames own before now fits may all s =
      record {
        gives = gives_edits makes lines v w frames (λ n. is_open n own) before now fits may all s;
        lasts = edits_last lines frames (IsLastIn own) all;
      }

  -- ---- by what is answered

  reply_blames : (lines : List (Option (List ℕ))) (v w : S) (own : List Session) (before now : Option (List ℕ)) (told : Type 0) (count : ℕ)
      (image : Image) (end : AnswerEnd F) → IsReplyEnd end → BlamesEnd makes lines v w own before now told count image end
  reply_blames lines v w own before now told count image (Serve ReadFault) is = tt
  reply_blames lines v w own before now told count image (Serve SendFault) is = tt
  reply_blames lines v w own before now told count image (Serve DiskFault) is = tt
  reply_blames lines v w own before now told count image (Serve (Damaged page)) is = absurd is
  reply_blames lines v w own before now told count image (Serve InputTooLong) is = tt
  reply_blames lines v w own before now told count image (Serve NoMemory) is = tt
  reply_blames lines v w own before now told count image (Reply e) is = tt

  pub blames_error : {T : Type 0} (lines : List (Option (List ℕ))) (v w : S) (own new : List Session) (before now : Option (List ℕ))
      (told : Type 0) (count : ℕ) (image : Image) (r : Result T (AnswerEnd F)) (from : AnswerEnd F) → IsErrAnd r (λ e. e ≡ from)
      → BlamesEnd makes lines v w own before now told count image from → BlamesBy makes lines v w own new before now told count image r
  blames_error lines v w own new before now told count image (Ok done) from is so = absurd is
  blames_error lines v w own new before now told count image (Err e) from is so = let P : AnswerEnd F
      → Type 0 = λ x. BlamesEnd makes lines v w own before now told count image x in subst P (sym is) so

  -- a line wasn't answered
  pub step_blames : (text : List ℕ) (v : S) (before now : Option (List ℕ)) (told told' : Type 0) (old new : View) (s : Superblock)
      (catalog : List StoredSeries) (sessions : List Session) (e : ServiceError) → length text ≤ 8192 → 0 < length text → now ≡ before
      → AreOwn told old s catalog
      → (told' → told) → new.size ≡ old.size → IsUnchangedFor e told old new
      → IsLineCause (line_text text) e told catalog sessions s old new
      → BlamesEnd makes (unless_empty (Some text)) v v sessions before now told' new.size new.image (Serve (end_of_step e))
  step_blames text v before now told told' old new s catalog sessions step.DiskFault short some same own was size kept cause = tt
  step_blames [] v before now told told' old new s catalog sessions (step.Damaged page) short some same own was size kept cause = absurd
      (omega (arith, some))
  step_blames (b ∷ bs) v before now told told' old new s catalog sessions (step.Damaged page) short some same own was size kept cause =
      let G : Option (List ℕ) → Type 0 = λ o. GivesLast makes [] v v sessions sessions before o in
      record {
        front = [];
        line = Some (b ∷ bs);
        behind = [];
        split = refl;
        sessions = sessions;
        gives = subst G (sym same) (last_none v sessions before);
        blames = line_blames told told' old new s catalog sessions page own was kept.image size (b ∷ bs) short cause;
      }
  step_blames text v before now told told' old new s catalog sessions step.NoMemory short some same own was size kept cause = tt

  -- edits weren't done
  pub group_blamed : (lines : List (Option (List ℕ))) (edits : List Edit) (v : S) (before now : Option (List ℕ)) (told : Type 0) (count : ℕ)
      (image : Image) (sessions : List Session) (e : ServiceError) → SpellEdits lines edits → 0 < length edits → now ≡ before
      → NamesBadForEdit told count image e
      → BlamesEnd makes lines v v sessions before now told count image (Serve (end_of_step e))
  group_blamed lines edits v before now told count image sessions step.DiskFault spell some same bad = tt
  group_blamed lines [] v before now told count image sessions (step.Damaged page) spell some same bad = absurd (omega (arith, some))
  group_blamed [] (e ∷ es) v before now told count image sessions (step.Damaged page) spell some same bad = absurd spell
  group_blamed (l ∷ ls) (e ∷ es) v before now told count image sessions (step.Damaged page) spell some same bad =
      let G : Option (List ℕ) → Type 0 = λ o. GivesLast makes [] v v sessions sessions before o in
      record {
        front = [];
        line = l;
        behind = ls;
        split = refl;
        sessions = sessions;
        gives = subst G (sym same) (last_none v sessions before);
        blames = edit_blames l e (IsLastIn sessions) told count image page spell.0 bad;
      }
  group_blamed lines edits v before now told count image sessions step.NoMemory spell some same bad = tt

  -- a frame was given, or it wasn't
  pub answer_blames : {T : Type 0} (lines : List (Option (List ℕ))) (v w : S) (r : Result T (AnswerEnd F)) (frame : Frame)
      (old own new : List Session) (before mid now : Option (List ℕ)) (told : Type 0) (count : ℕ) (image : Image) → Fits frame
      → MayAnswerAll lines (frame ∷ []) → NamesKnown frame (λ n. is_open n old)
      → ((n : ℕ) → is_open n own ≡ opens frame n (is_open n old)) → LastsBehind lines (frame ∷ []) old own → new ≡ own → mid ≡ before
      → OnOk r (FrameSent makes frame v w mid now) → IfErr r IsReplyEnd → BlamesBy makes lines v w old new before now told count image r
  answer_blames lines v w (Ok done) frame old own new before mid now told count image fits may named after lasts same same_sent good bad =
      let G : List Session → Type 0 = λ o. GivesLast makes lines v w old o before now in
      let Y : Option (List ℕ) → Type 0 = λ o. FrameSent makes frame v w o now in
      subst G (sym same) (last_one lines v w frame old own before now fits may named after lasts (subst Y same_sent good))
  answer_blames lines v w (Err end) frame old own new before mid now told count image fits may named after lasts same same_sent good
      bad = reply_blames lines v w old before now told count image end bad

  -- frames that tell what edits gave were given, or weren't
  pub edits_blame : {T : Type 0} (lines : List (Option (List ℕ))) (v w : S) (r : Result T (AnswerEnd F)) (frames : List Frame)
      (old new : List Session) (before mid now : Option (List ℕ)) (told : Type 0) (count : ℕ) (image : Image) → All Fits frames
      → MayAnswerAll lines frames → All IsEditReply frames → new ≡ old → mid ≡ before
      → OnOk r (FramesSent makes frames v w mid now) → IfErr r IsReplyEnd → BlamesBy makes lines v w old new before now told count image r
  edits_blame lines v w (Ok done) frames old new before mid now told count image fits may all same same_sent good bad =
      let G : List Session → Type 0 = λ o. GivesLast makes lines v w old o before now in
      let Y : Option (List ℕ) → Type 0 = λ o. FramesSent makes frames v w o now in
      subst G (sym same) (last_edits lines v w frames old before now (each_of Fits frames fits) may (each_of IsEditReply frames all)
      (subst Y same_sent good))
  edits_blame lines v w (Err end) frames old new before mid now told count image fits may all same same_sent good bad = reply_blames lines v
      w old before now told count image end bad
