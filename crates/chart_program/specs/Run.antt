-- The page of `run`: for each line of the input the text of the frame that answers it is sent, with its picture.
use Rattle.std.specs.Prelude.{ℕ, ◌≡◌}
use Rattle.chart_client.specs.declared.errors.ClientError.{ClientError}
use Rattle.chart_client.specs.declared.errors.ClientError.TheVariants as client
use Rattle.chart_frames.specs.Frames.{key_number}
use Rattle.om3_coeff.specs.declared.key.Key.{Key}
use Rattle.run_ends.specs.declared.ending.End.{End}
use Rattle.run_ends.specs.declared.ending.End.TheVariants.{Missing, BadCoefficient}
use Rattle.chart_program.specs.Blamed.{IsBlamed}
use Rattle.chart_program.specs.Course.{Course, HeldNoBook, OfInput}
use Rattle.chart_program.specs.LineAnswers.{AreDrawnTexts, NoneIsPassed}
use Rattle.chart_program.specs.Serve.{ServeDoes, ServesLines}
use Rattle.chart_program.specs.Served.{AreTexts, RejectsNext}

-- The texts of some first frames were sent, and a client rejects the next one for the key of this number.
abbrev pub RejectsKey : Course → (Key → ClientError) → ℕ → Type 0
RejectsKey c why number = (key : Key) × (number ≡ key_number key) × RejectsNext (why key) c.sent c.sent_now

-- What it did and sent, by how it ended: as `serve`, but that each frame is shown. A client that rejects one never comes where the
-- disk holds a book.
abbrev pub RunDoes : Course → End → Type 0
RunDoes c (Missing number) = OfInput c (λ input. HeldNoBook c × RejectsKey c client.Missing number)
RunDoes c (BadCoefficient number) = OfInput c (λ input. HeldNoBook c × RejectsKey c client.BadCoefficient number)
RunDoes c end = ServeDoes AreTexts c end

-- The texts of the frames are sent. Whatever the disk holds, no line was passed over where the command was done, and a page is
-- called damaged by the line behind the answered ones.
abbrev pub OfRun : Course → End → Type 0
OfRun c end = RunDoes c end × ServesLines AreTexts c end × NoneIsPassed AreDrawnTexts c end × IsBlamed AreDrawnTexts c end
