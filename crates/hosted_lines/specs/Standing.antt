-- What stands while the lines of a host are done: over a book, or whatever the pages are.
use Rattle.std.specs.Prelude.{◌≡◌, ℕ, List, ◌++◌, Option, ⊤}
use Rattle.block_disk.specs.View.{Image, View}
use Rattle.chart_service.specs.EditGroups.{SpellEdits}
use Rattle.line_runs.specs.Given.{Given}
use Rattle.run_ends.specs.declared.ending.End.{End}
use Rattle.series_book.specs.declared.edits.Edit.{Edit}
use Rattle.served_lines.specs.Turning.{lines_of}
use Rattle.hosted_lines.specs.Answers.{Answers, MayAnswerHost, Watched, followed_behind}
use Rattle.hosted_lines.specs.Blaming.{BlamesFirst, BlamesHost, OfDamaged}
use Rattle.hosted_lines.specs.Doing.{Held}
use Rattle.hosted_lines.specs.Working.{Does, Hosted, IsHosted, KeepsNone, Lasting, Leaves, Rests, Stops}

-- what is known whatever the pages are: the lines that are kept back, and the open and the followed sessions
pub record Named : Type 0 where
  pub ahead : List (Option (List ℕ))
  pub watched : Watched

-- these of what a service holds beside its book
abbrev pub watched_of : Held → Watched
watched_of held = record { sessions = held.sessions; followed = held.followed }

pub data Stand : Type 0 where
  Any : Named → Stand
  Over : Hosted → Stand

-- these are the sessions, and the lines kept back spell the edits that are
pub record IsNamed (named : Named) (edits : List Edit) (held : Held) : Type 0 where
  pub spell : SpellEdits named.ahead edits
  pub watched_are : named.watched ≡ watched_of held

abbrev pub Stands : Stand → List Edit → Type 0 → View → Held → Option (List ℕ) → Type 0
Stands (Any named) edits told at held sent = IsNamed named edits held
Stands (Over hosted) edits told at held sent = IsHosted hosted edits told at held sent

-- Of the lines kept back and those that are given some first are answered, in this text, and the others are kept back.
pub record AnswersSome (old : Named) (lines : List (Option (List ℕ))) (text : List ℕ) (new : Named) : Type 0 where
  pub front : List (Option (List ℕ))
  pub split : old.ahead ++ lines ≡ front ++ new.ahead
  pub answers : Answers MayAnswerHost followed_behind front old.watched new.watched text

abbrev pub DoesFrom : Stand → Given → List ℕ → Stand → Type 0
DoesFrom (Any old) it text (Any new) = AnswersSome old (lines_of it) text new × KeepsNone it new.ahead
DoesFrom (Any old) it text (Over new) = ⊥
DoesFrom (Over old) it text (Any new) = ⊥
DoesFrom (Over old) it text (Over new) = Does old it text new

-- whatever the pages are, it is told which line or push blames a page that the end calls damaged
abbrev pub StopsFrom : Stand → Given → Type 0 → ℕ → Image → Option (List ℕ) → Option (List ℕ) → ℕ → ℕ → End → Type 0
StopsFrom (Any old) it is_told count image before now reads syncs end =
    OfDamaged (BlamesFirst MayAnswerHost followed_behind BlamesHost (old.ahead ++ lines_of it) old.watched before now is_told count image)
    end
StopsFrom (Over old) it is_told count image before now reads syncs end = Stops old it image now reads syncs end

abbrev pub LeavesFrom : Stand → Given → ℕ → Image → ℕ → Type 0
LeavesFrom (Any old) it from image count = ⊤
LeavesFrom (Over old) it from image count = Leaves old it from image count

abbrev pub RestsFrom : Stand → Image → Type 0
RestsFrom (Any old) image = ⊤
RestsFrom (Over old) image = Rests old image

-- of a book alone it is told what a crash leaves
abbrev pub LastsFrom : Stand → Type 0
LastsFrom (Any old) = ⊥
LastsFrom (Over old) = Lasting old
