-- How often a line syncs the disk.
use Rattle.std.proofs.Common.{◌≡◌, ℕ, ◌+◌, ◌*◌, ◌<◌, ◌≤◌, List, [], ◌∷◌, length, Option, Some, refl, sym, subst, arith}
use Rattle.std.proofs.lemmas.List.{append-nil}
use Rattle.chart_service.specs.Serving.{unless_empty}
use Rattle.chart_service.specs.Syncing.{edit_of, edits_of}
use Rattle.chart_world.specs.LineLaws.{said, says_text}
use Rattle.series_book.specs.declared.edits.Edit.{Edit}

-- a line that spells no edit syncs never, and another one four times at most
pub edit_syncs : (edits : List Edit) (from to : ℕ) → to ≤ from + 4 → (edits ≡ [] → to ≡ from) → to ≤ from + 4 * length edits
edit_syncs [] from to few none = omega (arith, none refl)
edit_syncs (edit ∷ edits) from to few none = omega (arith, few)

pub text_syncs : (text : List ℕ) (from to : ℕ) → 0 < length text → to ≤ from + 4 * length (edit_of (Some text))
    → to ≤ from + 4 * length (edits_of (unless_empty (Some text)))
text_syncs text from to some few =
    let P : List (Option (List ℕ)) → Type 0 = λ l. to ≤ from + 4 * length (edits_of l) in
    let E : List Edit → Type 0 = λ e. to ≤ from + 4 * length e in
    subst P (sym (said (Some text) (says_text text some))) (subst E (sym (append-nil (edit_of (Some text)))) few)

pub none_syncs : (edits : List Edit) (from to : ℕ) → to ≡ from → to ≤ from + 4 * length edits
none_syncs edits from to same = omega (arith, same)
