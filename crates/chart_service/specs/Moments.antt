-- What a crash leaves at each moment of a serving, and how many bytes were sent by then.
use Rattle.std.specs.Prelude.{ℕ, ◌≡◌, ◌+◌, ◌<◌, ◌≤◌, ◌⊎◌, List, ◌++◌, length, Option}
use Rattle.block_disk.specs.View.{Image, View}
use Rattle.chart_world.specs.Fronts.{BeginsWith}
use Rattle.gate_pages.specs.Pages.{GoesOn}
use Rattle.chart_frames.specs.declared.frame.Frame.{Frame}
use Rattle.stored_book.specs.Standing.{StandsForBook}
use Rattle.chart_service.specs.State.{State}
use Rattle.chart_service.specs.Serving.{Answers, AnswersNext, FirstOf, told}

-- Time goes on from old to new. At each moment since, an image that a crash may leave and the number of bytes sent by
-- then are so.
pub record Since (old new : View) (IsSo : Image → ℕ → Type 0) : Type 0 where
  pub goes : GoesOn old new
  pub here : (at : ℕ) (image : Image) → old.clock ≤ at → at ≤ new.clock → new.crash at image → IsSo image (new.sent_by at)

-- Time goes on from old to new. At each later moment an image that a crash may leave and the number of bytes sent by
-- then are so.
pub record Through (old new : View) (IsSo : Image → ℕ → Type 0) : Type 0 where
  pub goes : GoesOn old new
  pub here : (at : ℕ) (image : Image) → old.clock < at → at ≤ new.clock → new.crash at image → IsSo image (new.sent_by at)

-- no more bytes were sent than the text of the lines and the replies to the first of those done ahead from a state on
pub record SendsReply (IsText : List (Option (List ℕ)) → List Frame → List ℕ
    → Type 0) (lines : List (Option (List ℕ))) (frames : List Frame) (text : List ℕ) (between : State) (ahead : List (Option (List ℕ)))
    (answers : List Frame) (from count : ℕ) : Type 0 where
  pub first : FirstOf between ahead answers
  pub reply : List ℕ
  pub texts : IsText (lines ++ first.front) (frames ++ first.shown) (text ++ reply)
  pub low : from + length text ≤ count
  pub high : count ≤ from + length text + length reply

-- The lines behind the first ones, whose text was sent, are done ahead, and the image stands for the book after them. Of
-- the replies to the first of them nothing was sent, or a part, or all of it; to the others nothing was.
pub record DoesNext (IsText : List (Option (List ℕ)) → List Frame → List ℕ
    → Type 0) (given : ℕ) (lines : List (Option (List ℕ))) (frames : List Frame) (text rest : List ℕ) (total : ℕ) (between : State)
    (from : ℕ) (image : Image) (count : ℕ) : Type 0 where
  pub after : State
  pub next : AnswersNext given rest between after
  pub stands : StandsForBook image total after.book
  pub sent : (count ≡ from + length text) ⊎ SendsReply IsText lines frames text between (told next.front) next.frames from count

-- The text for some first lines was sent, after so many bytes. The image stands for the book that they leave, and no
-- byte more was sent; or lines behind them are done ahead, the image stands for the book after those, and at most their
-- replies were sent besides. So each edit whose reply was sent whole is in the book, and at most `most_ahead` others are.
pub record IsAhead (IsText : List (Option (List ℕ)) → List Frame → List ℕ
    → Type 0) (input : List ℕ) (total : ℕ) (old : State) (from : ℕ) (image : Image) (count : ℕ) : Type 0 where
  pub front : List ℕ
  pub rest : List ℕ
  pub begins : BeginsWith input front rest
  pub between : State
  pub text : List ℕ
  pub answers : Answers IsText front text old between
  pub total_is : between.total ≡ total
  pub state : (StandsForBook image total between.book × (count ≡ from + length text))
      ⊎ DoesNext IsText (length front) (told front) answers.frames text rest total between from image count
