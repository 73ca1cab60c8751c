-- Lines that spell edits.
use Rattle.std.proofs.Common.{◌≡◌, ℕ, List, [], ◌∷◌, ◌++◌, length, Option, refl, arith}
use Rattle.series_book.specs.declared.edits.Edit.{Edit}
use Rattle.chart_service.specs.EditGroups.{SpellsEdit, SpellEdits}

-- behind one line more
pub spells_more : (all : List (Option (List ℕ))) (edits : List Edit) (line : Option (List ℕ)) (edit : Edit) → SpellEdits all edits
    → SpellsEdit line edit → SpellEdits (all ++ line ∷ []) (edits ++ edit ∷ [])
spells_more [] [] line edit all one = (one, tt)
spells_more [] (e ∷ es) line edit all one = absurd all
spells_more (l ∷ ls) [] line edit all one = absurd all
spells_more (l ∷ ls) (e ∷ es) line edit all one = (all.0, spells_more ls es line edit all.1 one)

-- they are as many as the edits
pub spelled_length : (all : List (Option (List ℕ))) (edits : List Edit) → SpellEdits all edits → length all ≡ length edits
spelled_length [] [] spells = refl
spelled_length [] (e ∷ es) spells = absurd spells
spelled_length (l ∷ ls) [] spells = absurd spells
spelled_length (l ∷ ls) (e ∷ es) spells = omega (arith, spelled_length ls es spells.1)
