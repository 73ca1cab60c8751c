-- Rules of an input, and none yet.
use Rattle.std.proofs.Common.{◌≡◌, ◌∙◌, ℕ, ◌<◌, List, [], ◌∷◌, length, Option, refl, ap, sym, subst, arith, inl}
use Rattle.std.specs.List.{filter}
use Rattle.block_disk.specs.SentLaws.{sent_none}
use Rattle.chart_service.specs.Serving.{told}
use Rattle.chart_world.specs.Fronts.{says}
use Rattle.chart_world.specs.LineLaws.{lines_none}
use Rattle.series_book.specs.declared.one_series.Series.{Series}
use Rattle.retention.specs.declared.rule.Rule.{Rule}
use Rattle.retention.specs.declared.rule.Rule.TheVariants.{Before, Last, Free}
use Rattle.retain_command.specs.Answered.{AnswersFirst}
use Rattle.retain_command.specs.Answers.{AreRules, SayRules}
use Rattle.retain_command.specs.Rules.{Spells}
use Rattle.retain_command.specs.Sweeping.{FirstRules}

-- a line that is a rule isn't empty
pub spells_some : (rule : Rule) (text : List ℕ) → Spells rule text → 0 < length text
spells_some (Before name time) [] spells = absurd (omega (arith, ap length spells.1))
spells_some (Last name count) [] spells = absurd (omega (arith, ap length spells.1))
spells_some (Free pages) [] spells = absurd (omega (arith, ap length spells.1))
spells_some rule (byte ∷ bytes) spells = omega arith

-- before the first line
pub none_yet : (total : ℕ) (book : List Series) → AreRules total book (told []) []
none_yet total book = let P : List (Option (List ℕ)) → Type 0 = λ l. AreRules total book (filter says l) [] in subst P (sym lines_none) tt

abbrev pub no_rules : (total : ℕ) (book : List Series) (input : List ℕ) → FirstRules total book input
no_rules total book input = record {
  front = [];
  rest = input;
  begins = record { split = refl; whole = inl (inl refl) };
  early = omega arith;
  rules = [];
  are = none_yet total book;
}

-- no answer yet
pub unanswered_yet : SayRules (told []) []
unanswered_yet = let P : List (Option (List ℕ)) → Type 0 = λ l. SayRules (filter says l) [] in subst P (sym lines_none) tt

pub first_unanswered : (input : List ℕ) (before now : Option (List ℕ)) → now ≡ before → AnswersFirst input before now
first_unanswered input before now unsent = record {
  first = record { front = []; rest = input; begins = record { split = refl; whole = inl (inl refl) }; swept = []; are = unanswered_yet };
  sent = unsent ∙ sent_none before;
}
