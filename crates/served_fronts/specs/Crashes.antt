-- What a crash leaves while lines are answered, in the words of lines and answers.
use Rattle.std.specs.Prelude.{◌≡◌, ℕ, ◌+◌, ◌≤◌, List, [], ◌++◌, map, length, flat_map}
use Rattle.block_disk.specs.View.{Image}
use Rattle.stored_book.specs.Standing.{StandsForBook}
use Rattle.chart_service.specs.State.{State}
use Rattle.chart_frames.specs.declared.frame.Frame.{Frame}
use Rattle.chart_frames.specs.Frames.{spelling}
use Rattle.chart_service.specs.Serving.{told, RepliesToAll}
use Rattle.served_fronts.specs.Books.{Line, said_by, after_lines}
use Rattle.served_fronts.specs.Answers.{Answer, AreAnswers, bytes_of, whole_in, AreFrames}

-- Where so many bytes of the answers to an input's lines were sent, the image stands for the book after some first lines. Among
-- these are all whose answers stand whole in those bytes, and at most 64 more. Whatever answers all lines of the input begins with
-- the bytes of their answers.
pub record KeepsLines (image : Image) (total : ℕ) (old : State) (input : List ℕ) (n : ℕ) : Type 0 where
  pub first : List Line
  pub later : List Line
  pub lines : told input ≡ first ++ later
  pub answers : List Answer
  pub fit : AreAnswers total old.book [] (map said_by first) answers
  pub within : n ≤ length (bytes_of answers)
  pub begins : (frames : List Frame) (new : State) → RepliesToAll old (told input) frames new
      → (more : List ℕ) × (flat_map spelling frames ≡ bytes_of answers ++ more)
  pub few : length answers ≤ length (whole_in n answers) + 64
  pub stands : StandsForBook image total (after_lines total old.book first)
  pub are : AreFrames answers
