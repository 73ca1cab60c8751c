-- Where the next line of an input stands, and where none ends.
use Rattle.std.specs.Prelude.{◌≡◌, ℕ, ◌+◌, ◌^◌, ◌≤◌, IsTrue, List, [], ◌∷◌, ◌++◌, length, Option, ⊤}
use Rattle.chart_service.specs.Serving.{told}
use Rattle.chart_world.specs.Fronts.{BeginsWith, first_piece, says}
use Rattle.chart_world.specs.Lines.{lines, NoLineFeed}

-- behind so many bytes the next line says this, and ends among the first 2^32 bytes
pub record NextLine (given : ℕ) (rest : List ℕ) (line : Option (List ℕ)) : Type 0 where
  pub later : List (Option (List ℕ))
  pub lines_are : lines rest ≡ line ∷ later
  pub early : given + length (first_piece rest) ≤ 2 ^ 32

-- a part of a line stands there, and these bytes behind it
pub record Unended (rest left : List ℕ) : Type 0 where
  pub partial : List ℕ
  pub taken : rest ≡ partial ++ left
  pub unended : NoLineFeed partial

-- none of these lines is so
abbrev pub NoneIs : (Option (List ℕ) → Type 0) → List (Option (List ℕ)) → Type 0
NoneIs IsSo [] = ⊤
NoneIs IsSo (line ∷ others) = (IsSo line → ⊥) × NoneIs IsSo others

-- The line at this offset isn't empty and is so, and no line before it is that isn't empty. It ends among the first 2^32 bytes.
pub record FirstLine (IsSo : Option (List ℕ) → Type 0) (input : List ℕ) (at : ℕ) : Type 0 where
  pub front : List ℕ
  pub rest : List ℕ
  pub begins : BeginsWith input front rest
  pub none : NoneIs IsSo (told front)
  pub at_is : at ≡ length front
  pub line : Option (List ℕ)
  pub next : NextLine (length front) rest line
  pub some : IsTrue (says line)
  pub is : IsSo line
