-- Lines that spell edits, and the frames that answer these.
use Rattle.std.proofs.Common.{◌≡◌, ◌∙◌, ℕ, List, [], ◌∷◌, ◌++◌, length, Option, refl, ap, sym, subst, arith}
use Rattle.chart_frames.specs.declared.frame.Frame.{Frame}
use Rattle.chart_service.specs.EditGroups.{RepliesToEdits, SpellEdits, SpellsEdit}
use Rattle.chart_service.specs.State.{IsSound, State}
use Rattle.series_book.specs.declared.edits.Edit.{Edit}

pub spelled_length : (lines : List (Option (List ℕ))) (edits : List Edit) → SpellEdits lines edits → length lines ≡ length edits
spelled_length [] [] spell = refl
spelled_length [] (edit ∷ edits) spell = absurd spell
spelled_length (line ∷ later) [] spell = absurd spell
spelled_length (line ∷ later) (edit ∷ edits) spell = omega (arith, spelled_length later edits spell.1)

-- the lines of some first edits
pub record SpellFirst (lines : List (Option (List ℕ))) (first : List Edit) : Type 0 where
  pub front : List (Option (List ℕ))
  pub rest : List (Option (List ℕ))
  pub lines_are : lines ≡ front ++ rest
  pub spell : SpellEdits front first

pub spell_first : (lines : List (Option (List ℕ))) (first later : List Edit) → SpellEdits lines (first ++ later) → SpellFirst lines first
spell_first lines [] later spell = record { front = []; rest = lines; lines_are = refl; spell = tt }
spell_first [] (edit ∷ first) later spell = absurd spell
spell_first (line ∷ lines) (edit ∷ first) later spell =
    let next = spell_first lines first later spell.1 in
    record { front = line ∷ next.front; rest = next.rest; lines_are = ap (λ l. line ∷ l) next.lines_are; spell = (spell.0, next.spell) }

-- one more
pub spell_more : (lines : List (Option (List ℕ))) (edits : List Edit) (line : Option (List ℕ)) (edit : Edit) → SpellEdits lines edits
    → SpellsEdit line edit → SpellEdits (lines ++ line ∷ []) (edits ++ edit ∷ [])
spell_more [] [] line edit spell one = (one, tt)
spell_more [] (e ∷ edits) line edit spell one = absurd spell
spell_more (l ∷ lines) [] line edit spell one = absurd spell
spell_more (l ∷ lines) (e ∷ edits) line edit spell one = (spell.0, spell_more lines edits line edit spell.1 one)

-- no edit is spelled by no line
pub spell_none : (lines : List (Option (List ℕ))) (edits : List Edit) → length edits ≡ 0 → SpellEdits lines edits → lines ≡ []
spell_none lines edits none spell = by lines (spelled_length lines edits spell ∙ none)
  where
    by : (l : List (Option (List ℕ))) → length l ≡ 0 → l ≡ []
    by [] is = refl
    by (x ∷ xs) is = absurd (omega (arith, is))

pub replied_length : (edits : List Edit) (frames : List Frame) (old new : State) → RepliesToEdits edits frames old new
    → length frames ≡ length edits
replied_length [] [] old new replied = refl
replied_length [] (frame ∷ frames) old new replied = absurd replied
replied_length (edit ∷ edits) [] old new replied = absurd replied
replied_length (edit ∷ edits) (frame ∷ frames) old new replied = omega (arith, replied_length edits frames replied.0 new replied.2)

-- what holds of the book and the sessions goes on to hold
pub sound_edits : (edits : List Edit) (frames : List Frame) (old new : State) → RepliesToEdits edits frames old new → IsSound old
    → IsSound new
sound_edits [] [] old new same sound = subst IsSound (sym same) sound
sound_edits [] (frame ∷ frames) old new replied sound = absurd replied
sound_edits (edit ∷ edits) [] old new replied sound = absurd replied
sound_edits (edit ∷ edits) (frame ∷ frames) old new replied sound = sound_edits edits frames replied.0 new replied.2 replied.1.2
