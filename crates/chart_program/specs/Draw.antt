-- The page of `draw`: the frames of the input are drawn, and the pictures are sent.
use Rattle.std.specs.Prelude.{ℕ, ◌≡◌, ◌≤◌, ◌⊎◌, ◌^◌, List, length, flat_map, All, Option, None}
use Rattle.block_disk.specs.View.{DiskKept}
use Rattle.chart_frames.specs.declared.frame.Frame.{Frame}
use Rattle.chart_frames.specs.Frames.{Fits, key_number, spelling}
use Rattle.draw_command.specs.Draws.{DrawsAll, DrawsTaken, DrawsWithin, IsCut, StopsAtFrame}
use Rattle.draw_command.specs.declared.draw_end.DrawEnd.{DrawEnd}
use Rattle.draw_command.specs.declared.draw_end.DrawEnd.TheVariants as draw_end
use Rattle.drawn_replies.specs.Pictures.{NoneRejected}
use Rattle.om3_coeff.specs.declared.key.Key.{Key}
use Rattle.run_ends.specs.declared.ending.End.{End}
use Rattle.run_ends.specs.declared.ending.End.TheVariants.{Done, NoMemory, ReadFault, SendFault, BadInput, InputTooLong, Missing}
use Rattle.run_ends.specs.declared.ending.End.TheVariants.{BadCoefficient, UnknownSession}
use Rattle.chart_program.specs.Course.{Course, IsDoneOrCut, IsShort, KeptBook, OfInput, OfLeft}
use Rattle.chart_program.specs.Replies.{DrawsBook, IsOfReplies}

-- the next frame of the input wasn't drawn, for the key of this number
abbrev pub StopsAtKey : Option ℕ → Course → (Key → DrawEnd) → ℕ → Type 0
StopsAtKey every c why number =
    OfInput c (λ input. (key : Key) × (number ≡ key_number key) × StopsAtFrame every input c.sent c.sent_now (why key))

-- What was sent, by how it ended: the frames' pictures, each behind its covers where there are some. Of frames that answer lines
-- they are the pictures of the book.
abbrev pub DrawDoes : Option ℕ → Course → End → Type 0
DrawDoes every c Done =
    IsShort c × OfInput c (λ input. DrawsAll every input c.sent c.sent_now) × OfInput c (λ input. DrawsBook every input c.sent c.sent_now)
DrawDoes every c NoMemory = OfInput c (λ input. StopsAtFrame every input c.sent c.sent_now draw_end.NoMemory)
DrawDoes every c ReadFault = OfInput c (λ input. OfLeft c (λ bytes. DrawsTaken every input bytes c.sent c.sent_now))
DrawDoes every c SendFault = OfInput c (λ input. StopsAtFrame every input c.sent c.sent_now draw_end.SendFault)
DrawDoes every c (BadInput at) =
    OfInput c (λ input. IsCut every input at c.sent c.sent_now ⊎ StopsAtFrame every input c.sent c.sent_now (draw_end.BadFrame at))
DrawDoes every c InputTooLong = OfInput c (λ input. DrawsWithin every input c.sent c.sent_now)
DrawDoes every c (Missing number) = StopsAtKey every c draw_end.Missing number
DrawDoes every c (BadCoefficient number) = StopsAtKey every c draw_end.BadCoefficient number
DrawDoes every c (UnknownSession session) = OfInput c
    (λ input. StopsAtFrame every input c.sent c.sent_now (draw_end.UnknownSession session))
DrawDoes every c end = ⊥

-- the input is frames, and no more than `draw` takes, and a client rejects none
pub record IsFrames (input : List ℕ) : Type 0 where
  pub frames : List Frame
  pub fit : All Fits frames
  pub spelled : input ≡ flat_map spelling frames
  pub accepted : NoneRejected frames
  pub short : length input ≤ 2 ^ 32

-- The same, and what is so however it ended. The disk's blocks and counts stay; frames that a client accepts are good input, as are
-- those that answer lines, all of them or those of one session.
pub record Draws (every : Option ℕ) (c : Course) (end : End) : Type 0 where
  pub does : DrawDoes every c end
  pub disk : DiskKept c.old c.new
  pub kept : KeptBook c
  pub good : OfInput c (λ input. IsFrames input → IsDoneOrCut end)
  pub replies : OfInput c (λ input. IsOfReplies input → IsDoneOrCut end)

-- with no covers
abbrev pub OfDraw : Course → End → Type 0
OfDraw c end = Draws None c end
