-- How many blocks the lines of an input read, one after the other.
use Rattle.std.specs.Prelude.{ℕ, ◌≡◌, ◌≤◌, ◌+◌, ◌*◌, ◌⊎◌, List, [], ◌∷◌, length, Option, None, Some, Result, Ok, Err}
use Rattle.chart_world.specs.Fronts.{BeginsWith}
use Rattle.chart_world.specs.Lines.{lines}
use Rattle.chart_frames.specs.declared.frame.Frame.{Frame}
use Rattle.request_lines.specs.declared.requests.Request.{Request}
use Rattle.request_lines.specs.Requests.{read_line}
use Rattle.series_book.specs.declared.edits.Edit.{Edit}
use Rattle.chart_service.specs.EditGroups.{SpellEdits}
use Rattle.chart_service.specs.Replies.{Replied}
use Rattle.chart_service.specs.Serving.{most_ahead, told}
use Rattle.chart_service.specs.State.{State}
use Rattle.chart_service.specs.Stepping.{ReadsFew}

-- a line reads as many blocks as the request that it spells may, in this state; a line that spells none reads none
abbrev pub ReadsRead : Result Request ℕ → State → ℕ → ℕ → Type 0
ReadsRead (Err at) state old new = new ≡ old
ReadsRead (Ok request) state old new = ReadsFew request state.book state.sessions old new

abbrev pub ReadsLine : Option (List ℕ) → State → ℕ → ℕ → Type 0
ReadsLine None state old new = new ≡ old
ReadsLine (Some text) state old new = ReadsRead (read_line text) state old new

-- the first of these lines does, if there is one
abbrev pub ReadsFirst : List (Option (List ℕ)) → State → ℕ → ℕ → Type 0
ReadsFirst [] state old new = new ≡ old
ReadsFirst (line ∷ later) state old new = ReadsLine line state old new

-- Each line is answered in the state that the lines before it left, and the count of blocks read rises from one number to
-- another at the lines alone, at each by no more than the line may read.
abbrev pub ReadsInTurn : State → List (Option (List ℕ)) → List Frame → State → ℕ → ℕ → Type 0
ReadsInTurn old [] [] new from to = (new ≡ old) × (to ≡ from)
ReadsInTurn old [] (frame ∷ frames) new from to = ⊥
ReadsInTurn old (line ∷ later) [] new from to = ⊥
ReadsInTurn old (line ∷ later) (frame ∷ frames) new from to =
    (between : State) × (count : ℕ) × Replied line frame old between × ReadsLine line old from count
    × ReadsInTurn between later frames new count to

-- edits that stand first in these bytes read at most 96 blocks each; they may not have been answered
pub record ReadsAhead (bytes : List ℕ) (from to : ℕ) : Type 0 where
  pub front : List ℕ
  pub rest : List ℕ
  pub begins : BeginsWith bytes front rest
  pub edits : List Edit
  pub spells : SpellEdits (told front) edits
  pub few : length edits ≤ most_ahead
  pub most : to ≤ from + 96 * length edits

-- the same of some first lines of the input, and of the line or the edits behind them, which may not have been answered
pub record ReadsLines (input : List ℕ) (old : State) (from to : ℕ) : Type 0 where
  pub front : List ℕ
  pub rest : List ℕ
  pub begins : BeginsWith input front rest
  pub frames : List Frame
  pub between : State
  pub count : ℕ
  pub answered : ReadsInTurn old (told front) frames between from count
  pub last : (to ≡ count)
      ⊎ (((line : Option (List ℕ)) × (later : List (Option (List ℕ))) × (lines rest ≡ line ∷ later) × ReadsLine line between count to)
      ⊎ ReadsAhead rest count to)
