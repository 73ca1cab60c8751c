-- The text of what a frame shows: a line, and behind that the picture, where there is one. What `run` sends, and the same in the
-- words of replies.
use Rattle.std.specs.Prelude.{ℕ, ◌≡◌, Bool, true, false, List, [], ◌∷◌, ◌++◌, length, All, Option, codes}
use Rattle.std.specs.Fmt.{decimal}
use Rattle.line_raster.specs.Canvas.{Canvas}
use Rattle.chart_frames.specs.declared.frame.Frame.{Frame}
use Rattle.chart_frames.specs.declared.frame.Frame.TheVariants.{Done, Refused, Opened, Closed, View, Rows, Live, Report}
use Rattle.chart_frames.specs.Frames.{spelling}
use Rattle.chart_service.specs.State.{State}
use Rattle.drawn_replies.specs.Pictures.{ArePictured}
use Rattle.draw_command.specs.Covers.{picture_bytes}
use Rattle.served_fronts.specs.Answers.{Reply, Answer, HasPicture}
use Rattle.served_fronts.specs.Answers.Reply.{applied, opened, closed, shown, refused}

-- the line of a view of a session, whose frame has so many bytes
abbrev pub view_line : ℕ → ℕ → List ℕ
view_line session sent = codes "view " ++ (decimal session ++ (codes " sent " ++ (decimal sent ++ codes "\n")))

-- the line that tells whether a session follows its view from now on
abbrev pub live_line : ℕ → Bool → List ℕ
live_line session true = codes "live " ++ (decimal session ++ codes " on\n")
live_line session false = codes "live " ++ (decimal session ++ codes " off\n")

-- the line of a frame of so many bytes
unfoldable pub line_of : Frame → ℕ → List ℕ
line_of (Done slots) sent = codes "done " ++ (decimal slots ++ codes "\n")
line_of (Refused number a b) sent =
    codes "refused " ++ (decimal number ++ (codes " " ++ (decimal a ++ (codes " " ++ (decimal b ++ codes "\n")))))
line_of (Opened session cache) sent = codes "opened " ++ (decimal session ++ (codes " " ++ (decimal cache ++ codes "\n")))
line_of (Closed session) sent = codes "closed " ++ (decimal session ++ codes "\n")
line_of (View view) sent = view_line view.session sent
line_of (Rows rows) sent = view_line rows.session sent
line_of (Live session on) sent = live_line session on
line_of (Report report) sent = []

abbrev pub text_of : Frame → Option Canvas → ℕ → List ℕ
text_of frame drawing sent = line_of frame sent ++ picture_bytes drawing

-- the texts of frames with these drawings, one behind the other
abbrev pub texts_of : List Frame → List (Option Canvas) → List ℕ
texts_of [] drawings = []
texts_of (frame ∷ frames) [] = []
texts_of (frame ∷ frames) (drawing ∷ drawings) = text_of frame drawing (length (spelling frame)) ++ texts_of frames drawings

-- The text of a run: that of each line's frame, with the picture of the book as it is at that line.
pub record AreTexts (start : State) (lines : List (Option (List ℕ))) (frames : List Frame) (text : List ℕ) : Type 0 where
  pub drawings : List (Option Canvas)
  pub state : State
  pub pictured : ArePictured start lines frames drawings state
  pub texts : text ≡ texts_of frames drawings

-- ---- in the words of replies

-- The line of a reply. That of an edit tells how many slots it set, that of a view how many bytes its frame would have, and that of
-- a refusal why.
abbrev pub IsLineOf : Reply → List ℕ → Type 0
IsLineOf applied line = (slots : ℕ) × (line ≡ codes "done " ++ (decimal slots ++ codes "\n"))
IsLineOf (opened n cache) line = line ≡ codes "opened " ++ (decimal n ++ (codes " " ++ (decimal cache ++ codes "\n")))
IsLineOf (closed n) line = line ≡ codes "closed " ++ (decimal n ++ codes "\n")
IsLineOf (shown n view samples) line =
    (size : ℕ) × (line ≡ codes "view " ++ (decimal n ++ (codes " sent " ++ (decimal size ++ codes "\n"))))
IsLineOf refused line =
    (number : ℕ) × (a : ℕ) × (b : ℕ)
    × (line ≡ codes "refused " ++ (decimal number ++ (codes " " ++ (decimal a ++ (codes " " ++ (decimal b ++ codes "\n"))))))

-- the bytes of one answer of `run`: the line of its reply, and behind that the picture, where a view is shown
pub record IsText (reply : Reply) (bytes : List ℕ) : Type 0 where
  pub line : List ℕ
  pub picture : List ℕ
  pub says : IsLineOf reply line
  pub shows : HasPicture reply picture
  pub are : bytes ≡ line ++ picture

-- what `run` sends of answers
abbrev pub AreTexted : List Answer → Type 0
AreTexted answers = All (λ answer. IsText answer.reply answer.bytes) answers
