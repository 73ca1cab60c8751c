-- Edits that are done together, and the frames that answer them.
use Rattle.std.proofs.Common.{◌≡◌, ℕ, suc, ◌+◌, ◌-◌, ◌*◌, ◌<◌, ◌≤◌, ◌^◌, List, [], ◌∷◌, ◌++◌, length, map, take, drop, All, Result, Ok, Err}
use Rattle.std.proofs.Common.{refl, sym, ap, subst, ◌∙◌, arith, inl, inr, append_assoc, length-append}
use Rattle.std.specs.Prelude.{OnOk}
use Rattle.std.proofs.lemmas.List.{take-append-drop, take_all, map-append, length-map, length-take, length-drop}
use Rattle.std.proofs.lemmas.List.Elements.{All-cons}
use Rattle.std.proofs.Math.Seq.{take-add}
use Rattle.block_disk.specs.View.{Image, View, Passes}
use Rattle.block_disk.proofs.Passing.{passes_then, passes_weaker}
use Rattle.gate_pages.specs.Pages.{Quiet}
use Rattle.gate_pages.proofs.Moving.{sent_same}
use Rattle.chart_frames.specs.declared.frame.Frame.{Frame}
use Rattle.chart_frames.specs.declared.frame.Frame.TheVariants.{Done}
use Rattle.chart_frames.specs.Frames.{Fits, FitsRefused}
use Rattle.series_book.specs.declared.refusal_numbers.TheConstants.{SUM_TOO_LARGE}
use Rattle.request_lines.specs.declared.requests.Request.TheVariants.{Edit as EditRequest}
use Rattle.series_book.specs.declared.one_series.Series.{Series}
use Rattle.series_book.specs.declared.edits.Edit.{Edit}
use Rattle.series_book.specs.declared.outcomes.Outcome.{Outcome}
use Rattle.series_book.specs.declared.refusals.Refusal.{Refusal}
use Rattle.series_book.specs.declared.refusals.Refusal.TheVariants.{LineTooLong, BadLine, BadFilter, UnknownSession, SessionOpen}
use Rattle.series_book.specs.declared.refusals.Refusal.TheVariants.{TooManySessions, BadCache, UnknownSeries, SeriesExists, TooManySeries}
use Rattle.series_book.specs.declared.refusals.Refusal.TheVariants.{OffGrid, BeforeStart, ValueTooLarge, RangeTooLong, SeriesFull, NoView}
use Rattle.series_book.specs.declared.refusals.Refusal.TheVariants.{BadWindow, BadCanvas, BadRange, ViewTooLarge, Full}
use Rattle.series_book.specs.Books.{IsNamed}
use Rattle.series_book.specs.EditLists.{book_behind, slots_behind, after_edits, edits_give}
use Rattle.series_book.specs.Edits.{Edited, IsEdit, apply}
use Rattle.series_book.proofs.EditListLemmas.{after_append, give_append}
use Rattle.series_book.proofs.LawLemmas.{edits_keep}
use Rattle.series_book.proofs.RefusalLemmas.{IsEditRefusal, edit_refuses}
use Rattle.series_store.specs.Groups.{AreDone, AreMany, IsNoneOrAll, PassesWhole, answer_of}
use Rattle.series_store.specs.Opening.{IsOutside as store_outside}
use Rattle.series_store.specs.declared.errors.StoreError.{StoreError}
use Rattle.stored_book.specs.Standing.{StandsForBook}
use Rattle.zoom_session.specs.declared.session.Session.{Session}
use Rattle.chart_service.specs.EditGroups.{RepliesToEdits, IsAfterSome, AnswersSome, DoesSome, frame_of, frames_of, group_end}
use Rattle.chart_service.specs.Replies.{refused, Edits}
use Rattle.chart_service.specs.State.{IsSound}
use Rattle.chart_service.specs.Stepping.{RepliedTo, StandsAfter, IsOutside, state_of}
use Rattle.chart_service.specs.declared.failure.ServiceError.{ServiceError}
use Rattle.chart_service.proofs.EditLemmas.{views_grown}
use Rattle.chart_service.proofs.Editing.{edit_leaves, edit_fits}

-- ---- one edit

plain : (number : ℕ) → 1 ≤ number → number ≤ SUM_TOO_LARGE → FitsRefused number 0 0
plain number low high = record {
  low = low;
  high = high;
  first = omega arith;
  second = omega arith;
  no_first = λ none. refl;
  no_second = λ none. refl;
}

-- the frame of a refused edit fits
refusal_fits : (total : ℕ) (refusal : Refusal) → total < 2 ^ 64 → IsEditRefusal total refusal → Fits (refused refusal)
refusal_fits total LineTooLong small is = absurd is
refusal_fits total (BadLine at) small is = absurd is
refusal_fits total (BadFilter at) small is = absurd is
refusal_fits total UnknownSession small is = absurd is
refusal_fits total SessionOpen small is = absurd is
refusal_fits total TooManySessions small is = absurd is
refusal_fits total BadCache small is = absurd is
refusal_fits total UnknownSeries small is = plain 8 (omega arith) (omega arith)
refusal_fits total SeriesExists small is = plain 9 (omega arith) (omega arith)
refusal_fits total TooManySeries small is = plain 10 (omega arith) (omega arith)
refusal_fits total OffGrid small is = plain 11 (omega arith) (omega arith)
refusal_fits total BeforeStart small is = plain 12 (omega arith) (omega arith)
refusal_fits total ValueTooLarge small is = plain 13 (omega arith) (omega arith)
refusal_fits total RangeTooLong small is = plain 14 (omega arith) (omega arith)
refusal_fits total SeriesFull small is = plain 15 (omega arith) (omega arith)
refusal_fits total NoView small is = absurd is
refusal_fits total BadWindow small is = absurd is
refusal_fits total BadCanvas small is = absurd is
refusal_fits total BadRange small is = absurd is
refusal_fits total (ViewTooLarge needed cache) small is = absurd is
refusal_fits total (Full needed have) small is = record {
  low = omega arith;
  high = omega arith;
  first = is.0;
  second = omega (arith, is.1, small);
  no_first = λ none. cc (none);
  no_second = λ none. cc (none);
}

edit_replied : (total : ℕ) (book : List Series) (edit : Edit) (ss : List Session) (given : Result Edited Refusal)
    → IsSound (state_of book total ss) → total < 2 ^ 64 → IsEdit edit → IsNamed edit → apply book total edit ≡ given
    → RepliedTo (EditRequest edit) (frame_of (slots_behind given)) (state_of book total ss) (state_of (book_behind book given) total ss)
edit_replied total book edit ss (Ok edited) sound small is named accepted =
    let E : Result Edited Refusal → Type 0 = λ r. Edits r (Done edited.slots) (state_of book total ss) (state_of edited.book total ss) in
    let book_is = edits_keep book total edit edited sound.book is named accepted in (
      subst E (sym accepted) (refl, refl),
      edit_fits book total edit edited.book edited.slots accepted book_is,
      record {
        book = book_is;
        sessions = sound.sessions;
        views = views_grown book edited.book ss (edit_leaves book total edit edited accepted).more sound.views;
      },
    )
edit_replied total book edit ss (Err refusal) sound small is named refuses =
    let E : Result Edited Refusal → Type 0 = λ r. Edits r (refused refusal) (state_of book total ss) (state_of book total ss) in (
      subst E (sym refuses) (record { reply = refl; state = refl }),
      refusal_fits total refusal small (edit_refuses book total edit refusal sound.book refuses),
      sound,
    )

-- ---- edits one after the other

first_of : {A : Type 0} (P : A → Type 0) (x : A) (xs : List A) → All P (x ∷ xs) → P x
first_of P x xs all = all 0 x (omega arith)

later_of : {A : Type 0} (P : A → Type 0) (x : A) (xs : List A) → All P (x ∷ xs) → All P xs
later_of P x xs all = λ k d below. all (suc k) d (omega (arith, below))

front_of : {A : Type 0} (P : A → Type 0) (first later : List A) → All P (first ++ later) → All P first
front_of P [] later all = λ k d below. absurd (omega (arith, below))
front_of P (x ∷ xs) later all = All-cons P x xs (first_of P x (xs ++ later) all) (front_of P xs later (later_of P x (xs ++ later) all))

pub edits_replied : (total : ℕ) (book : List Series) (edits : List Edit) (ss : List Session) → IsSound (state_of book total ss)
    → total < 2 ^ 64 → All IsEdit edits → All IsNamed edits
    → RepliesToEdits edits (frames_of (edits_give total book edits)) (state_of book total ss)
    (state_of (after_edits total book edits) total ss)
edits_replied total book [] ss sound small are named = refl
edits_replied total book (edit ∷ edits) ss sound small are named =
    let given = apply book total edit in
    let one = edit_replied total book edit ss given sound small (first_of IsEdit edit edits are) (first_of IsNamed edit edits named) refl in (
      state_of (book_behind book given) total ss,
      one,
      edits_replied total (book_behind book given) edits ss one.2 small (later_of IsEdit edit edits are)
          (later_of IsNamed edit edits named),
    )

-- the book after some of them, in the words of their replies
pub some_replied : (total : ℕ) (book : List Series) (edits : List Edit) (ss : List Session) (image : Image)
    → IsSound (state_of book total ss) → total < 2 ^ 64 → All IsEdit edits → All IsNamed edits → IsAfterSome total book edits image
    → AnswersSome edits (state_of book total ss) image
some_replied total book edits ss image sound small are named after =
    let E : List Edit → Type 0 = λ l. All IsEdit l in
    let N : List Edit → Type 0 = λ l. All IsNamed l in
    record {
      first = after.first;
      later = after.later;
      edits_are = after.edits_are;
      frames = frames_of (edits_give total book after.first);
      new = state_of (after_edits total book after.first) total ss;
      replied = edits_replied total book after.first ss sound small (front_of IsEdit after.first after.later (subst E after.edits_are are))
          (front_of IsNamed after.first after.later (subst N after.edits_are named));
      sessions = refl;
      total = refl;
      stands = after.stands;
    }

-- ---- commit after commit

-- the book after some of the edits behind others is the book after some of all
pub after_more : (total : ℕ) (book : List Series) (edits : List Edit) (count : ℕ) (image : Image)
    → IsAfterSome total (after_edits total book (take count edits)) (drop count edits) image → IsAfterSome total book edits image
after_more total book edits count image after =
    let B : List Series → Type 0 = λ b. StandsForBook image total b in
    record {
      first = take count edits ++ after.first;
      later = after.later;
      edits_are = sym (take-append-drop count edits) ∙ ap (λ l. take count edits ++ l) after.edits_are
          ∙ sym (append_assoc (take count edits) after.first after.later);
      stands = subst B (sym (after_append total book (take count edits) after.first)) after.stands;
    }

-- the book after so many first edits
pub after_first : (total : ℕ) (book : List Series) (edits : List Edit) (count : ℕ) (image : Image)
    → StandsForBook image total (after_edits total book (take count edits)) → IsAfterSome total book edits image
after_first total book edits count image stands = record {
  first = take count edits;
  later = drop count edits;
  edits_are = sym (take-append-drop count edits);
  stands = stands;
}

given_length : (total : ℕ) (book : List Series) (edits : List Edit) → length (edits_give total book edits) ≡ length edits
given_length total book [] = refl
given_length total book (edit ∷ edits) = omega (arith, given_length total (book_behind book (apply book total edit)) edits)

-- so many first edits are done, and these frames tell what they gave
pub record HasDone (total : ℕ) (book : List Series) (edits : List Edit) (frames : List Frame) (image : Image) : Type 0 where
  pub within : length frames ≤ length edits
  pub frames_are : frames ≡ frames_of (edits_give total book (take (length frames) edits))
  pub stands : StandsForBook image total (after_edits total book (take (length frames) edits))

pub none_done : (total : ℕ) (book : List Series) (edits : List Edit) (frames : List Frame) (image : Image) → frames ≡ []
    → StandsForBook image total book → HasDone total book edits frames image
none_done total book edits [] image none stands = record { within = omega arith; frames_are = refl; stands = stands }
none_done total book edits (f ∷ fs) image none stands = cc (none)

pub more_done : (total : ℕ) (book : List Series) (edits : List Edit) (before now : List Frame) (image image' : Image)
    → HasDone total book edits before image → DoesSome total (after_edits total book (take (length before) edits))
    (drop (length before) edits) before now image' → HasDone total book edits now image'
more_done total book edits before now image image' has does =
    let here = take (length before) edits in
    let next = take does.covered (drop (length before) edits) in
    let behind = after_edits total book here in
    let whole : length next ≡ does.covered = omega (arith, length-take does.covered (drop (length before) edits), does.within) in
    let given : length (frames_of (edits_give total behind next)) ≡ does.covered = length-map (edits_give total behind next) frame_of
    ∙ given_length total behind next ∙ whole in
    let count : length now ≡ length before + does.covered = ap length does.frames_are
    ∙ length-append before (frames_of (edits_give total behind next)) ∙ ap (λ n. length before + n) given in
    let front : take (length now) edits ≡ here ++ next = ap (λ n. take n edits) count ∙ take-add (length before) does.covered edits in
    let B : List Series → Type 0 = λ b. StandsForBook image' total b in
    record {
      within = omega (arith, count, does.within, length-drop (length before) edits, has.within);
      frames_are = does.frames_are ∙ ap (λ l. l ++ frames_of (edits_give total behind next)) has.frames_are
          ∙ sym (map-append frame_of (edits_give total book here) (edits_give total behind next))
          ∙ ap frames_of (sym (give_append total book here next)) ∙ ap (λ l. frames_of (edits_give total book l)) (sym front);
      stands = subst B (sym (after_append total book here next) ∙ ap (after_edits total book) (sym front)) does.stands;
    }

-- the edits behind so many
pub tail_is : (edits : List Edit) (from count : ℕ) → from ≡ count → take (length edits - from) (drop from edits) ≡ drop count edits
tail_is edits from count same = take_all (length edits - from) (drop from edits) (omega (arith, length-drop from edits))
    ∙ ap (λ n. drop n edits) same

-- once all are done
pub all_done : (total : ℕ) (book : List Series) (edits : List Edit) (ss ss' : List Session) (frames : List Frame) (image : Image)
    → IsSound (state_of book total ss) → total < 2 ^ 64 → All IsEdit edits → All IsNamed edits → ss' ≡ ss → length edits ≤ length frames
    → HasDone total book edits frames image
    → StandsAfter total image ss' (RepliesToEdits edits frames (state_of book total ss))
all_done total book edits ss ss' frames image sound small are named same all has =
    let whole : take (length frames) edits ≡ edits = take_all (length frames) edits all in
    let F : List Frame → Type 0 = λ l. RepliesToEdits edits l (state_of book total ss) (state_of (after_edits total book edits) total ss) in
    let S : List Session → Type 0 = λ s. RepliesToEdits edits frames (state_of book total ss)
    (state_of (after_edits total book edits) total s) in
    let B : List Series → Type 0 = λ b. StandsForBook image total b in
    record {
      book = after_edits total book edits;
      stands = subst B (ap (after_edits total book) whole) has.stands;
      so = subst S (sym same) (subst F (sym (has.frames_are ∙ ap (λ l. frames_of (edits_give total book l)) whole))
          (edits_replied total book edits ss sound small are named));
    }

-- ---- a group, in one commit

none_or_all : (total : ℕ) (book : List Series) (edits : List Edit) (covered : ℕ) (image : Image)
    → IsNoneOrAll total book edits covered image → IsAfterSome total book edits image
none_or_all total book edits covered image (inl stands) = record { first = []; later = edits; edits_are = refl; stands = stands }
none_or_all total book edits covered image (inr stands) = after_first total book edits covered image stands

pub whole_passes : (total : ℕ) (book : List Series) (edits : List Edit) (old new : View) → PassesWhole total book edits old new
    → Passes old new (IsAfterSome total book edits) (Quiet old)
whole_passes total book edits old new p =
    passes_weaker old new (IsNoneOrAll total book edits p.covered) (IsAfterSome total book edits) (Quiet old) (Quiet old)
    (λ image is. none_or_all total book edits p.covered image is) (λ count quiet. quiet) p.moments

-- group after group
pub more_passes : (total : ℕ) (book : List Series) (edits : List Edit) (count : ℕ) (first mid new : View)
    → Passes first mid (IsAfterSome total book edits) (Quiet first)
    → Passes mid new (IsAfterSome total (after_edits total book (take count edits)) (drop count edits)) (Quiet mid)
    → Passes first new (IsAfterSome total book edits) (Quiet first)
more_passes total book edits count first mid new before next =
    passes_then first mid new (IsAfterSome total book edits) (Quiet first) before
    (passes_weaker mid new (IsAfterSome total (after_edits total book (take count edits)) (drop count edits)) (IsAfterSome total book edits)
    (Quiet mid) (Quiet first) (λ image is. after_more total book edits count image is)
    (λ n quiet. quiet ∙ sent_same first mid (IsAfterSome total book edits) before) next)

pub some_passes : (total : ℕ) (book : List Series) (edits : List Edit) (ss : List Session) (old new : View)
    → IsSound (state_of book total ss) → total < 2 ^ 64 → All IsEdit edits → All IsNamed edits
    → Passes old new (IsAfterSome total book edits) (Quiet old) → Passes old new (AnswersSome edits (state_of book total ss)) (Quiet old)
some_passes total book edits ss old new sound small are named passes =
    passes_weaker old new (IsAfterSome total book edits) (AnswersSome edits (state_of book total ss)) (Quiet old) (Quiet old)
    (λ image is. some_replied total book edits ss image sound small are named is) (λ count quiet. quiet) passes

pub group_outside : (e : StoreError) (s : ServiceError) → s ≡ group_end e → store_outside e → IsOutside s
group_outside e s is (inl disk) = inl (is ∙ ap group_end disk)
group_outside e s is (inr memory) = inr (is ∙ ap group_end memory)

pub does_some : {T E : Type 0} (r : Result T E) (total : ℕ) (book : List Series) (edits : List Edit)
    (answers slice : List (Result Outcome Refusal)) (before now : List Frame) (image : Image) → slice ≡ answers
    → length answers ≤ length edits → AreMany total book edits (length answers) → AreDone total book edits answers image
    → OnOk r (now ≡ before ++ frames_of (map answer_of slice)) → OnOk r (DoesSome total book edits before now image)
does_some (Ok t) total book edits answers slice before now image same within many done is = record {
  covered = length answers;
  within = within;
  many = many;
  frames_are = is ∙ ap (λ l. before ++ frames_of (map answer_of l)) same ∙ ap (λ l. before ++ frames_of l) done.answered;
  stands = done.stands;
}
does_some (Err e) total book edits answers slice before now image same within many done is = tt

pub frames_length : (answers : List (Result Outcome Refusal)) → length (frames_of (map answer_of answers)) ≡ length answers
frames_length answers = length-map (map answer_of answers) frame_of ∙ length-map answers answer_of

pub few_read : {T E : Type 0} (r : Result T E) (answers slice : List (Result Outcome Refusal)) (before now : List Frame) (old new : ℕ)
    → slice ≡ answers → new ≤ old + 96 * length answers → OnOk r (now ≡ before ++ frames_of (map answer_of slice))
    → OnOk r (new + 96 * length before ≤ old + 96 * length now)
few_read (Ok t) answers slice before now old new same few is =
    omega (arith, few, ap length is, length-append before (frames_of (map answer_of slice)), frames_length slice, ap length same)
few_read (Err e) answers slice before now old new same few is = tt
