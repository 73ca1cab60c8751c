-- No line of an input yet, and lines that are requests.
use Rattle.std.proofs.Common.{ℕ, ◌<◌, List, [], ◌∷◌, length, Option, true, ◌≡◌, Some, None, refl, ap, sym, subst, arith, inl}
use Rattle.std.specs.List.{filter}
use Rattle.chart_service.specs.Serving.{told}
use Rattle.chart_world.specs.Fronts.{says}
use Rattle.chart_world.specs.LineLaws.{lines_none, says_text}
use Rattle.derive_command.specs.Lines.{AreAnswers, FirstLines}
use Rattle.derive_command.specs.Requests.{Says, Spells}
use Rattle.derive_command.specs.declared.request.Request.{Request}

-- a line that is a request isn't empty
spells_some : (request : Request) (text : List ℕ) → Spells request text → 0 < length text
spells_some request [] spells = absurd (omega (arith, ap length spells.words_are))
spells_some request (byte ∷ bytes) spells = omega arith

pub says_true : (line : Option (List ℕ)) (request : Request) → Says line request → says line ≡ true
says_true None request is = absurd is
says_true (Some text) request is = says_text text (spells_some request text is)

-- before the first line
pub none_yet : (answers : Request → List ℕ → Type 0) → AreAnswers answers (told []) []
none_yet answers = let P : List (Option (List ℕ)) → Type 0 = λ l. AreAnswers answers (filter says l) [] in subst P (sym lines_none) refl

abbrev pub no_lines : (answers : Request → List ℕ → Type 0) (input : List ℕ) → FirstLines answers input
no_lines answers input = record {
  front = [];
  rest = input;
  begins = record { split = refl; whole = inl (inl refl) };
  early = omega arith;
  text = [];
  are = none_yet answers;
}
