-- How far the lines of an input are answered, over pages that stand for a book.
use Rattle.std.proofs.Common.{◌≡◌, ℕ, List, length, Option, Some, None, IfSome, refl, subst, sym}
use Rattle.block_disk.specs.View.{Image, View, Now, Only, sent_now}
use Rattle.block_disk.specs.SentLaws.{sent_is}
use Rattle.chart_world.specs.Reading.{Reading, unread_input, unread}
use Rattle.series_book.specs.declared.one_series.Series.{Series}
use Rattle.stored_book.specs.Standing.{StandsForBook}
use Rattle.zoom_session.specs.declared.session.Session.{Session}
use Rattle.chart_service.specs.Answering.{EndsAnswers}
use Rattle.chart_service.specs.Making.{Makes, AreMade, AreMadeFrom}
use Rattle.chart_service.specs.Moments.{IsAhead, Since}
use Rattle.chart_service.specs.State.{State}
use Rattle.chart_service.specs.Stepping.{StandsAfter, state_of}
use Rattle.chart_service.specs.MomentLaws.{since_none}
use Rattle.chart_service.specs.declared.failure.AnswerEnd.{AnswerEnd}
use Rattle.chart_service.specs.declared.failure.AnswerEnd.TheVariants.{Serve}
use Rattle.chart_service.specs.declared.failure.ServeEnd.TheVariants.{NoMemory}
use Rattle.chart_service.proofs.Made.{no_memory}
use Rattle.chart_service.proofs.Moments.{at_rest}
use Rattle.chart_service.proofs.Progress.{Progress, starts}

-- from the book at its start, of an input that may be told
module _ {S F : Type 0} (makes : Makes S F) (v : S) (o : Option (List ℕ)) (total : ℕ) (book : List Series) (own : List Session)
    (before : Option (List ℕ)) where
  abbrev first : State
  first = state_of book total own

  -- how far the lines are answered, in this state
  abbrev pub Far : S → Reading → Option (List ℕ) → Option (List ℕ) → State → Type 0
  Far w r left now state = IfSome o (λ input. Progress (AreMade makes v w) input (unread r left) r.given first state before now)

  -- the pages stand for the book that the lines so far have left
  abbrev pub IsFar : S → Reading → Option (List ℕ) → Option (List ℕ) → Image → List Session → Type 0
  IsFar w r left now image sessions = StandsAfter total image sessions (Far w r left now)

  -- before the first line
  pub far_first : (image : Image) (r : Reading) → StandsForBook image total book → r ≡ unread_input → IsFar v r o before image own
  far_first image r stands fresh = record {
    book = book;
    stands = stands;
    so = starts (AreMade makes v v) o before r first (refl, refl) fresh;
  }

  -- want of memory before the first line
  pub no_memory_first : (image : Image) (left : Option (List ℕ)) (end : AnswerEnd F) → StandsForBook image total book → end ≡ Serve NoMemory
      → EndsAnswers makes v v o first image own left before before end
  no_memory_first image left end stands is =
      let E : AnswerEnd F → Type 0 = λ e. EndsAnswers makes v v o first image own left before before e in
      subst E (sym is) (record {
        book = book;
        stands = stands;
        so = no_memory makes o (unread unread_input o) 0 first first first v v v left before before before refl (
          refl,
          refl,
        ) (starts (AreMade makes v v) o before unread_input first (refl, refl) refl);
      })

  -- ---- what a crash leaves

  -- at each moment since the start a crash leaves a book with what was answered by then
  abbrev pub Lasts : View → View → Type 0
  Lasts old new = IfSome o (λ input. IfSome before (λ bytes. Since old new
      (IsAhead (AreMadeFrom makes v) input total first (sent_now old))))

-- before the first line
pub lasts_first : {S F : Type 0} (makes : Makes S F) (v : S) (o before : Option (List ℕ)) (total : ℕ) (book : List Series)
    (own : List Session) (old : View) (r : Reading) → IsFar makes v o total book own before v r o before old.image own
    → Only old.image (Now old) → IfSome before (λ bytes. sent_now old ≡ length bytes)
    → Lasts makes v o total book own before old old
lasts_first makes v None before total book own old r far only counts = tt
lasts_first makes v (Some input) None total book own old r far only counts = tt
lasts_first makes v (Some input) (Some bytes) total book own old r far only counts =
    let p = far.so in
    let B : Image → Type 0 = λ image. StandsForBook image total far.book in
    since_none old (IsAhead (AreMadeFrom makes v) input total (state_of book total own) (sent_now old)) (λ image left.
    at_rest makes v v input (unread r (Some input)) r.given total (sent_now old) (state_of book total own) (state_of far.book total own)
    (Some bytes) (Some bytes) p refl image (sent_now old)
    (subst B (sym (only image left)) far.stands) (sent_is bytes p.text (Some bytes) (sent_now old) (sent_now old) counts p.sent counts))
