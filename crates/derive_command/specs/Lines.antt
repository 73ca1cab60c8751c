-- How far the lines of an input are answered.
use Rattle.std.specs.Prelude.{◌≡◌, ℕ, ◌-◌, ◌^◌, ◌<◌, ◌≤◌, List, [], ◌∷◌, ◌++◌, length, take, Option, IfSome, IsTrue, ⊤}
use Rattle.block_disk.specs.Streams.{sent_after, PartSent}
use Rattle.chart_service.specs.Serving.{told}
use Rattle.chart_world.specs.Fronts.{says, BeginsWith, IsWhole}
use Rattle.chart_world.specs.Lines.{lines, NoLineFeed}
use Rattle.line_runs.specs.Given.{NextLine}
use Rattle.line_runs.specs.Runs.{Unended}
use Rattle.run_ends.specs.declared.ending.End.{End}
use Rattle.run_ends.specs.declared.ending.End.TheVariants.{Done, NoMemory, ReadFault, SendFault, DiskFault, DamagedBlock, DamagedPage}
use Rattle.run_ends.specs.declared.ending.End.TheVariants.{BadInput, InputTooLong, TooSmall, RefusedLine}
use Rattle.series_book.specs.declared.one_series.Series.{Series}
use Rattle.derive_command.specs.Answers.{Answering, AnswersLine, DamagesLine, IsUnrefused, RefusesLine, number_of}
use Rattle.derive_command.specs.Requests.{SaysNone}
use Rattle.derive_command.specs.declared.derive_refusal.DeriveRefusal.{DeriveRefusal}
use Rattle.derive_command.specs.declared.request.Request.{Request}

-- The text is the answers to these lines, one after the other: each of them says a request that has one.
abbrev pub AreAnswers : (Request → List ℕ → Type 0) → List (Option (List ℕ)) → List ℕ → Type 0
AreAnswers answers [] text = text ≡ []
AreAnswers answers (line ∷ lines) text =
    (first : List ℕ) × (rest : List ℕ) × AnswersLine answers line first × AreAnswers answers lines rest × (text ≡ first ++ rest)

-- each of these lines says a request that isn't refused over the book
abbrev pub AreUnrefused : List Series → List (Option (List ℕ)) → Type 0
AreUnrefused book [] = ⊤
AreUnrefused book (line ∷ lines) = IsUnrefused book line × AreUnrefused book lines

-- some first lines of the input, with their answers, and this stands behind them
pub record FirstLines (answers : Request → List ℕ → Type 0) (input : List ℕ) : Type 0 where
  pub front : List ℕ
  pub rest : List ℕ
  pub begins : BeginsWith input front rest
  pub early : length front ≤ 2 ^ 32
  pub text : List ℕ
  pub are : AreAnswers answers (told front) text

module _ (by : Answering) (input : List ℕ) (before now : Option (List ℕ)) where
  -- the answers to all lines were sent
  pub record DrawsAll : Type 0 where
    pub text : List ℕ
    pub answers : AreAnswers by.answers (told input) text
    pub sent : now ≡ sent_after text before

  -- those to some first lines were
  pub record DrawsFirst : Type 0 where
    pub first : FirstLines by.answers input
    pub sent : now ≡ sent_after first.text before

  -- they are those whose line feeds were among the bytes taken, where the bytes left are told
  pub record DrawsTaken (left : Option (List ℕ)) : Type 0 where
    pub drawn : DrawsFirst
    pub whole : IsWhole drawn.first.front
    pub behind : IfSome left (Unended drawn.first.rest)

  -- they are those that ended among the first 2^32 bytes, and there is a byte more
  pub record DrawsWithin : Type 0 where
    pub drawn : DrawsFirst
    pub unended : NoLineFeed (take (2 ^ 32 - length drawn.first.front) drawn.first.rest)
    pub past : 2 ^ 32 < length input

  -- the line behind them begins at this offset, isn't empty and says no request
  pub record DrawsToBad (at : ℕ) : Type 0 where
    pub drawn : DrawsFirst
    pub line : Option (List ℕ)
    pub next : NextLine (length drawn.first.front) drawn.first.rest line
    pub some : IsTrue (says line)
    pub none : SaysNone line
    pub at_is : at ≡ length drawn.first.front

  -- the line behind them begins at this offset, and says a request that is refused
  pub record DrawsToRefused (at : ℕ) (refusal : DeriveRefusal) : Type 0 where
    pub drawn : DrawsFirst
    pub line : Option (List ℕ)
    pub next : NextLine (length drawn.first.front) drawn.first.rest line
    pub refuses : RefusesLine by.refuses line refusal
    pub at_is : at ≡ length drawn.first.front

  -- for the reason of this number
  pub record DrawsToNumber (at number : ℕ) : Type 0 where
    pub why : DeriveRefusal
    pub number_is : number ≡ number_of why
    pub draws : DrawsToRefused at why

  -- the line behind them says a request for which the page is called damaged
  pub record DrawsToDamaged (page : ℕ) : Type 0 where
    pub drawn : DrawsFirst
    pub line : Option (List ℕ)
    pub next : NextLine (length drawn.first.front) drawn.first.rest line
    pub damages : DamagesLine by.damages line page

  -- the answers to some first lines were sent, and a part of the answer to the one behind them
  pub record DrawsPart : Type 0 where
    pub first : FirstLines by.answers input
    pub line : Option (List ℕ)
    pub next : NextLine (length first.front) first.rest line
    pub text : List ℕ
    pub answer : AnswersLine by.answers line text
    pub between : Option (List ℕ)
    pub sent : between ≡ sent_after first.text before
    pub part : PartSent text between now

-- what was sent, by how a run ended whose lines are answered so
abbrev pub EndsSo : Answering → List ℕ → Option (List ℕ) → Option (List ℕ) → Option (List ℕ) → End → Type 0
EndsSo by input left before now Done = DrawsAll by input before now
EndsSo by input left before now NoMemory = DrawsFirst by input before now
EndsSo by input left before now ReadFault = DrawsTaken by input before now left
EndsSo by input left before now SendFault = DrawsPart by input before now
EndsSo by input left before now DiskFault = DrawsFirst by input before now
EndsSo by input left before now (DamagedPage page) = DrawsToDamaged by input before now page
EndsSo by input left before now (BadInput at) = DrawsToBad by input before now at
EndsSo by input left before now InputTooLong = DrawsWithin by input before now
EndsSo by input left before now (RefusedLine at number) = DrawsToNumber by input before now at number
EndsSo by input left before now end = ⊥

-- the same, where nothing was sent if no store was opened
abbrev pub EndsAnyhow : Answering → List ℕ → Option (List ℕ) → Option (List ℕ) → Option (List ℕ) → End → Type 0
EndsAnyhow by input left before now (DamagedBlock block) = now ≡ before
EndsAnyhow by input left before now (TooSmall blocks) = now ≡ before
EndsAnyhow by input left before now end = EndsSo by input left before now end
