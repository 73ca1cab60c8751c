-- How the reading of slots goes on, and how it ends.
use Rattle.std.specs.Prelude.{◌≡◌, ℕ, ℤ, ◌+◌, ◌≤◌, ◌⊎◌, List, [], ◌∷◌, ◌++◌, length, Option, Some, IfSome, ⊤}
use Rattle.chart_world.specs.declared.line_answer.LineFault.{LineFault}
use Rattle.chart_world.specs.declared.line_answer.LineFault.TheVariants as fault
use Rattle.chart_program.specs.declared.input.InputEnd.{InputEnd}
use Rattle.chart_program.specs.declared.input.InputEnd.TheVariants.{NoMemory, ReadFault, InputTooLong, BadLine, TooManySlots}
use Rattle.chart_program.specs.Slots.{SpellsSlot, IsBad, FirstBad, HasTooMany, IsTooLong, StoppedBefore, most_slots}

-- what a fault of the lines is for the reader
abbrev pub end_of : LineFault → InputEnd
end_of fault.ReadFault = ReadFault
end_of fault.InputTooLong = InputTooLong

-- a line's slot stands behind the old ones
pub record AddsSlot (text : List ℕ) (old new : List (Option ℤ)) : Type 0 where
  pub slot : Option ℤ
  pub spells : SpellsSlot (Some text) slot
  pub room : length old + 1 ≤ most_slots
  pub more : new ≡ old ++ slot ∷ []

-- an empty line adds nothing, and every other its slot
abbrev pub AddsLine : List ℕ → List (Option ℤ) → List (Option ℤ) → Type 0
AddsLine text old new = ((text ≡ []) × (new ≡ old)) ⊎ AddsSlot text old new

-- there is no room for a line's slot
pub record Overflows (text : List ℕ) (old : List (Option ℤ)) : Type 0 where
  pub slot : Option ℤ
  pub spells : SpellsSlot (Some text) slot
  pub full : length old ≡ most_slots

-- why a line's slot isn't added
abbrev pub IsNotAdded : List ℕ → ℕ → List (Option ℤ) → InputEnd → Type 0
IsNotAdded text at old NoMemory = ⊤
IsNotAdded text at old ReadFault = ⊥
IsNotAdded text at old InputTooLong = ⊥
IsNotAdded text at old (BadLine place) = (place ≡ at) × IsBad (Some text)
IsNotAdded text at old TooManySlots = Overflows text old

-- why the slots of the input weren't read to the end, and these bytes are left
abbrev pub Stops : List ℕ → Option (List ℕ) → InputEnd → Type 0
Stops input left NoMemory = ⊤
Stops input left ReadFault = IfSome left (StoppedBefore input)
Stops input left InputTooLong = IsTooLong input
Stops input left (BadLine place) = FirstBad input place
Stops input left TooManySlots = HasTooMany input
