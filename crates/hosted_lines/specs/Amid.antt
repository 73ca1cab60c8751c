-- Books that may be there while the lines of a host are answered.
use Rattle.std.specs.Prelude.{ℕ, ◌≡◌, ◌≤◌, ◌⊎◌, List, [], ◌∷◌, length, take, Option, Some}
use Rattle.chart_frames.specs.declared.frame.Frame.{Frame}
use Rattle.host_lines.specs.Grammar.{host_line}
use Rattle.host_lines.specs.declared.asked.HostLine.TheVariants.{Sweep}
use Rattle.host_sweeps.specs.Sweeping.{step_clears}
use Rattle.live_service.specs.LiveReplies.{LiveState}
use Rattle.retention.specs.declared.rule.Rule.{Rule}
use Rattle.series_book.specs.EditLists.{after_edits}
use Rattle.series_book.specs.declared.one_series.Series.{Series}

-- All frames so far were sent and all pushes made, the first of these lines asks for the step of a sweep, and the book is
-- there that some first clears of it leave, which are at most 64.
pub record IsAmidStep (IsThere : List Series → Type 0) (more : List Frame) (lines : List (Option (List ℕ)))
    (state : LiveState) : Type 0 where
  pub none : more ≡ []
  pub idle : state.pending ≡ []
  pub line : List ℕ
  pub later : List (Option (List ℕ))
  pub lines_are : lines ≡ Some line ∷ later
  pub rule : Rule
  pub asks : host_line line ≡ Sweep rule
  pub done : ℕ
  pub few : done ≤ length (step_clears state.state rule)
  pub there : IsThere (after_edits state.state.total state.state.book (take done (step_clears state.state rule)))

-- the book of the state is there, or one amid the step that the first of these lines asks for
abbrev pub IsThereAhead : (List Series → Type 0) → List Frame → List (Option (List ℕ)) → LiveState → Type 0
IsThereAhead IsThere more lines state = IsThere state.state.book ⊎ IsAmidStep IsThere more lines state
