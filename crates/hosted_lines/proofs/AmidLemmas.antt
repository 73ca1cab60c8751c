-- Books that may be there while the lines of a host are answered.
use Rattle.std.proofs.Common.{◌≡◌, ◌∙◌, ℕ, List, [], ◌++◌, Option, refl, sym, ap, inl, inr}
use Rattle.std.proofs.lemmas.List.{append-nil}
use Rattle.chart_frames.specs.declared.frame.Frame.{Frame}
use Rattle.live_service.specs.LiveReplies.{LiveState}
use Rattle.series_book.specs.declared.one_series.Series.{Series}
use Rattle.hosted_lines.specs.Amid.{IsAmidStep, IsThereAhead}

module _ (IsThere IsThat : List Series → Type 0) (more : List Frame) (state : LiveState) (so : (after : List Series) → IsThere after
    → IsThat after) where
  amid_step : (lines other beyond : List (Option (List ℕ))) → other ≡ lines ++ beyond → IsAmidStep IsThere more lines state
      → IsAmidStep IsThat more other state
  amid_step lines other beyond is a = record {
    none = a.none;
    idle = a.idle;
    line = a.line;
    later = a.later ++ beyond;
    lines_are = is ∙ ap (λ l. l ++ beyond) a.lines_are;
    rule = a.rule;
    asks = a.asks;
    done = a.done;
    few = a.few;
    there = so _ a.there;
  }

  -- a book that is there otherwise, with more lines behind
  pub amid_wide : (lines other beyond : List (Option (List ℕ))) → other ≡ lines ++ beyond → IsThereAhead IsThere more lines state
      → IsThereAhead IsThat more other state
  amid_wide lines other beyond is (inl there) = inl (so state.state.book there)
  amid_wide lines other beyond is (inr amid) = inr (amid_step lines other beyond is amid)

-- a book that is there otherwise
pub amid_same : (IsThere IsThat : List Series → Type 0) (more : List Frame) (state : LiveState)
    → ((after : List Series) → IsThere after → IsThat after) → (lines : List (Option (List ℕ))) → IsThereAhead IsThere more lines state
    → IsThereAhead IsThat more lines state
amid_same IsThere IsThat more state so lines there = amid_wide IsThere IsThat more state so lines lines [] (sym (append-nil lines)) there

-- the book that is there
pub amid_book : (IsThere : List Series → Type 0) (more : List Frame) (state : LiveState) (lines : List (Option (List ℕ)))
    → IsThereAhead IsThere more lines state → (book : List Series) × IsThere book
amid_book IsThere more state lines (inl there) = (state.state.book, there)
amid_book IsThere more state lines (inr amid) = (_, amid.there)

-- the same book, with more lines behind
pub amid_on : (IsThere : List Series → Type 0) (more : List Frame) (state : LiveState) (lines beyond : List (Option (List ℕ)))
    → IsThereAhead IsThere more lines state → IsThereAhead IsThere more (lines ++ beyond) state
amid_on IsThere more state lines beyond there = amid_wide IsThere IsThere more state (λ after is. is) lines
    (lines ++ beyond) beyond refl there
