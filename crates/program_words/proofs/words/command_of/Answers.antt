use Rattle.std.proofs.Common.{inl, inr, refl, ap, Err}
use Rattle.std.specs.Prelude.{map, string_bytes, Bool, true, false, ◌≡◌, ◌⊎◌, List, ℕ, []}
use Rattle.program_words.specs.CommandLine.{plain_words, has_flag}
use Rattle.program_words.specs.Words.{IsWrong}
use Rattle.program_words.proofs.Commands.{wrong_none}
use Rattle.program_words.proofs.words.command_of.Goals as goal

refused : (words : List (List ℕ)) (b : Bool) → has_flag words ≡ b → (has_flag words ≡ true) ⊎ (plain_words words ≡ []) → IsWrong 0 words
refused words true is why = inl (is, refl)
refused words false is why = elim why [
  | inl flag ↦ inl (flag, refl)
  | inr none ↦ inr (is, wrong_none (plain_words words) none)
]

pub returns-in-Err-Refused-clause-wrong : goal.returns-in-Err-Refused-clause-wrong
returns-in-Err-Refused-clause-wrong c =
    refused (map string_bytes c.args.words.now) (has_flag (map string_bytes c.args.words.now)) refl
    (c.in-Err-Refused.ensures.refused (ap Err c.in-Err-Refused.field-0-is))
