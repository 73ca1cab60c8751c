-- What a work is given: the lines of an input, each at its offset, with pauses between them, and then the end.
use Rattle.std.specs.Prelude.{◌≡◌, ℕ, ◌+◌, ◌≤◌, ◌^◌, List, [], ◌∷◌, ◌++◌, length, Option, ⊤}
use Rattle.chart_world.specs.Fronts.{BeginsWith, first_piece}
use Rattle.chart_world.specs.Lines.{lines, split_lines, text_of}

-- a line that begins at this offset, with its text, or with none where it is too long; a pause, behind which no line may
-- come for a while; or the end of the input
pub data Given : Type 0 where
  Line : ℕ → Option (List ℕ) → Given
  Pause : Given
  End : Given

-- without the pauses
abbrev pub unpaused : List Given → List Given
unpaused [] = []
unpaused (Line at line ∷ later) = Line at line ∷ unpaused later
unpaused (Pause ∷ later) = unpaused later
unpaused (End ∷ later) = End ∷ unpaused later

-- how many pauses there are
abbrev pub pauses : List Given → ℕ
pauses [] = 0
pauses (Line at line ∷ later) = pauses later
pauses (Pause ∷ later) = pauses later + 1
pauses (End ∷ later) = pauses later

-- a pause came last
pub record EndsPaused (given : List Given) : Type 0 where
  pub earlier : List Given
  pub given_are : given ≡ earlier ++ Pause ∷ []

-- these lines, of which the first begins at this offset; a line feed stands behind each
abbrev pub given_from : ℕ → List (List ℕ) → List Given
given_from at [] = []
given_from at (line ∷ later) = Line at (text_of line) ∷ given_from (at + length line + 1) later

-- the lines of these bytes
unfoldable pub given_lines : List ℕ → List Given
given_lines bytes = given_from 0 (split_lines bytes)

-- ---- of an input of which lines may come from so many first bytes

module _ (limit : ℕ) where
  -- behind so many bytes the next line says this, and ends within the limit
  pub record NextLineWithin (given : ℕ) (rest : List ℕ) (line : Option (List ℕ)) : Type 0 where
    pub later : List (Option (List ℕ))
    pub lines_are : lines rest ≡ line ∷ later
    pub early : given + length (first_piece rest) ≤ limit

  -- behind so many bytes this is given next
  abbrev pub IsNextWithin : ℕ → List ℕ → Given → Type 0
  IsNextWithin given rest (Line at line) = (at ≡ given) × NextLineWithin given rest line
  IsNextWithin given rest Pause = ⊤
  IsNextWithin given rest End = rest ≡ []

  -- these are some first lines of the input, with pauses
  pub record AreFirstWithin (input : List ℕ) (given : List Given) : Type 0 where
    pub front : List ℕ
    pub rest : List ℕ
    pub begins : BeginsWith input front rest
    pub early : length front ≤ limit
    pub given_are : unpaused given ≡ given_lines front

  -- and this comes behind them
  pub record AreBeforeWithin (input : List ℕ) (given : List Given) (next : Given) : Type 0 where
    pub first : AreFirstWithin input given
    pub next_is : IsNextWithin (length first.front) first.rest next

-- the same of the first 2^32 bytes
abbrev pub NextLine : ℕ → List ℕ → Option (List ℕ) → Type 0
NextLine = NextLineWithin (2 ^ 32)

abbrev pub IsNext : ℕ → List ℕ → Given → Type 0
IsNext = IsNextWithin (2 ^ 32)

abbrev pub AreFirst : List ℕ → List Given → Type 0
AreFirst = AreFirstWithin (2 ^ 32)

abbrev pub AreBefore : List ℕ → List Given → Given → Type 0
AreBefore = AreBeforeWithin (2 ^ 32)
