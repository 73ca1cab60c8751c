-- An edit, and the frame that answers it.
use Rattle.std.proofs.Common.{◌≡◌, ℕ, ◌≤◌, List, length, Option, None, Some, Result, Ok, Err, refl, sym, subst, inl, inr, arith}
use Rattle.block_disk.specs.View.{Image, View, Passes}
use Rattle.block_disk.proofs.Passing.{passes_weaker}
use Rattle.chart_frames.specs.declared.frame.Frame.{Frame}
use Rattle.chart_frames.specs.declared.frame.Frame.TheVariants.{Done}
use Rattle.chart_frames.specs.Frames.{Fits}
use Rattle.gate_pages.specs.Pages.{Quiet}
use Rattle.request_lines.specs.declared.requests.Request.TheVariants.{Edit as EditRequest}
use Rattle.series_book.specs.declared.one_series.Series.{Series}
use Rattle.series_book.specs.declared.edits.Edit.{Edit}
use Rattle.series_book.specs.declared.outcomes.Outcome.{Outcome}
use Rattle.series_book.specs.declared.refusals.Refusal.{Refusal}
use Rattle.series_book.specs.Edits.{Edited, apply}
use Rattle.series_store.specs.Results.{IsDone, IsBeforeOrAfter as IsEither}
use Rattle.stored_book.specs.Standing.{StandsForBook}
use Rattle.zoom_session.specs.declared.session.Session.{Session}
use Rattle.zoom_session.specs.declared.view_spec.ViewSpec.{ViewSpec}
use Rattle.chart_service.specs.State.{IsSound, HasViewOf, AreViewsOf}
use Rattle.chart_service.specs.Replies.{refused, Edits}
use Rattle.chart_service.specs.Stepping.{StandsAfter, state_of, RepliedTo, IsBeforeOrAfter}
use Rattle.chart_service.proofs.Editing.{edit_leaves, edit_fits}

view_grown : (book more : List Series) (last : Option ViewSpec) → length book ≤ length more → HasViewOf book last → HasViewOf more last
view_grown book more None fits has = tt
view_grown book more (Some spec) fits has = record { there = omega (arith, has.there, fits); range = has.range }

pub views_grown : (book more : List Series) (ss : List Session) → length book ≤ length more → AreViewsOf book ss → AreViewsOf more ss
views_grown book more ss fits all = λ k d below. view_grown book more _ fits (all k d below)

-- an accepted edit leaves this
pub edit_after : (total : ℕ) (book : List Series) (edit : Edit) (sessions : List Session) (edited : Edited) (image : Image)
    → IsSound (state_of book total sessions) → apply book total edit ≡ Ok edited → StandsForBook image total edited.book
    → StandsAfter total image sessions (λ new. RepliedTo (EditRequest edit) (Done edited.slots) (state_of book total sessions) new)
edit_after total book edit sessions edited image sound accepted stands =
    let old = state_of book total sessions in
    let new = state_of edited.book total sessions in
    let E : Result Edited Refusal → Type 0 = λ r. Edits r (Done edited.slots) old new in
    let is = stands.store.is_book in
    record {
      book = edited.book;
      stands = stands;
      so = (
        subst E (sym accepted) (refl, refl),
        edit_fits book total edit edited.book edited.slots accepted is,
        record {
          book = is;
          sessions = sound.sessions;
          views = views_grown book edited.book sessions (edit_leaves book total edit edited accepted).more sound.views;
        },
      );
    }

pub edit_done : (total : ℕ) (book : List Series) (edit : Edit) (sessions : List Session) (outcome : Outcome) (image : Image)
    → IsSound (state_of book total sessions) → IsDone total book edit outcome image
    → StandsAfter total image sessions (λ new. RepliedTo (EditRequest edit) (Done outcome.slots) (state_of book total sessions) new)
edit_done total book edit sessions outcome image sound is =
    let P : ℕ → Type 0 = λ n. StandsAfter total image sessions
    (λ new. RepliedTo (EditRequest edit) (Done n) (state_of book total sessions) new) in
    subst P (sym is.slots) (edit_after total book edit sessions is.edited image sound is.accepted is.stands)

-- a refused one leaves all
pub edit_refused : (total : ℕ) (book : List Series) (edit : Edit) (sessions : List Session) (refusal : Refusal) (frame : Frame)
    (image image' : Image) → IsSound (state_of book total sessions) → apply book total edit ≡ Err refusal → frame ≡ refused refusal
    → Fits frame → StandsForBook image total book → image' ≡ image
    → StandsAfter total image' sessions (λ new. RepliedTo (EditRequest edit) frame (state_of book total sessions) new)
edit_refused total book edit sessions refusal frame image image' sound is reply fits stands same =
    let old = state_of book total sessions in
    let E : Result Edited Refusal → Type 0 = λ r. Edits r frame old old in
    let S : Image → Type 0 = λ i. StandsForBook i total book in
    record {
      book = book;
      stands = subst S (sym same) stands;
      so = (subst E (sym is) (record { reply = reply; state = refl }), fits, sound);
    }

either : (total : ℕ) (book : List Series) (edit : Edit) (sessions : List Session) (image : Image) → IsSound (state_of book total sessions)
    → IsEither total book edit image → IsBeforeOrAfter (RepliedTo (EditRequest edit)) total book sessions image
either total book edit sessions image sound (inl stands) = inl stands
either total book edit sessions image sound (inr after) = inr
    (record {
      frame = Done after.edited.slots;
      left = sessions;
      after = edit_after total book edit sessions after.edited image sound after.accepted after.stands;
    })

-- a crash leaves the book from before the edit, or the edited one
pub edit_moments : (total : ℕ) (book : List Series) (edit : Edit) (sessions : List Session) (old new : View)
    → IsSound (state_of book total sessions) → Passes old new (IsEither total book edit) (Quiet old)
    → Passes old new (IsBeforeOrAfter (RepliedTo (EditRequest edit)) total book sessions) (Quiet old)
edit_moments total book edit sessions old new sound passes =
    passes_weaker old new (IsEither total book edit) (IsBeforeOrAfter (RepliedTo (EditRequest edit)) total book sessions) (Quiet old)
    (Quiet old) (λ image is. either total book edit sessions image sound is) (λ count quiet. quiet) passes
