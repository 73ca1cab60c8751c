-- The input of `plot`: a slot on each line that isn't empty.
use Rattle.std.specs.Prelude.{◌≡◌, ℕ, ℤ, ◌+◌, ◌-◌, ◌^◌, ◌<◌, ◌≤◌, ◌⊎◌, true, List, [], ◌∷◌, ◌++◌, length, take, map, All, Option, None}
use Rattle.std.specs.Prelude.{Some}
use Rattle.std.specs.Fmt.{signed_decimal}
use Rattle.std.specs.List.{filter}
use Rattle.chart_world.specs.Fronts.{says, first_piece, IsWhole}
use Rattle.chart_world.specs.Lines.{lines, NoLineFeed}
use Rattle.plain_chart.specs.Samples.{IsSlot}
use Rattle.chart_program.specs.declared.slot.Entry.{Entry}
use Rattle.chart_program.specs.declared.slot.Entry.TheVariants.{Nothing, Slot, Bad}

-- the most slots of a plot
abbrev pub most_slots : ℕ
most_slots = 1048576

-- how a slot is written: a whole number, or `-` where it is missing
abbrev pub spelling : Option ℤ → List ℕ
spelling None = 45 ∷ []
spelling (Some v) = signed_decimal v

-- the line is that of a slot
pub record SpellsSlot (line : Option (List ℕ)) (slot : Option ℤ) : Type 0 where
  pub text : line ≡ Some (spelling slot)
  pub in_range : IsSlot slot

-- the line isn't empty, and is no slot's
pub record IsBad (line : Option (List ℕ)) : Type 0 where
  pub some : says line ≡ true
  pub none : (slot : Option ℤ) → SpellsSlot line slot → ⊥

-- what a line of at most 8,192 bytes says
abbrev pub IsEntry : List ℕ → Entry → Type 0
IsEntry text Nothing = text ≡ []
IsEntry text (Slot slot) = SpellsSlot (Some text) slot
IsEntry text Bad = IsBad (Some text)

-- the lines of the input that aren't empty are those of the slots
pub record SpellsAll (input : List ℕ) (slots : List (Option ℤ)) : Type 0 where
  pub texts : filter says (lines input) ≡ map (λ slot. Some (spelling slot)) slots
  pub in_range : All IsSlot slots

-- The input begins with lines that spell slots, at most as many as a plot has, and this is what stands behind them.
-- Each of these lines has its line feed, or the input ends with it.
pub record Behind (input rest : List ℕ) (slots : List (Option ℤ)) (place : ℕ) : Type 0 where
  pub front : List ℕ
  pub split : input ≡ front ++ rest
  pub whole : IsWhole front ⊎ (rest ≡ [])
  pub spells : SpellsAll front slots
  pub few : length slots ≤ most_slots
  pub counted : place ≡ length front

-- the line at this place is the first that is bad, and it ends among the first 2^32 bytes
pub record FirstBad (input : List ℕ) (place : ℕ) : Type 0 where
  pub rest : List ℕ
  pub slots : List (Option ℤ)
  pub behind : Behind input rest slots place
  pub line : Option (List ℕ)
  pub later : List (Option (List ℕ))
  pub first : lines rest ≡ line ∷ later
  pub bad : IsBad line
  pub early : place + length (first_piece rest) ≤ 2 ^ 32

-- behind as many slots as a plot has there is a line with one more
pub record HasTooMany (input : List ℕ) : Type 0 where
  pub rest : List ℕ
  pub slots : List (Option ℤ)
  pub place : ℕ
  pub behind : Behind input rest slots place
  pub full : length slots ≡ most_slots
  pub line : Option (List ℕ)
  pub later : List (Option (List ℕ))
  pub first : lines rest ≡ line ∷ later
  pub slot : Option ℤ
  pub good : SpellsSlot line slot

-- the input has a byte past 2^32, and each line that ends before it spells a slot or is empty
pub record IsTooLong (input : List ℕ) : Type 0 where
  pub rest : List ℕ
  pub slots : List (Option ℤ)
  pub place : ℕ
  pub behind : Behind input rest slots place
  pub unended : NoLineFeed (take (2 ^ 32 - place) rest)
  pub past : 2 ^ 32 < length input

-- Of the input these bytes are left to take. Behind are the lines whose line feeds were among those taken, and each of them spells a
-- slot or is empty.
pub record StoppedBefore (input left : List ℕ) : Type 0 where
  pub rest : List ℕ
  pub slots : List (Option ℤ)
  pub place : ℕ
  pub behind : Behind input rest slots place
  pub whole : IsWhole behind.front
  pub partial : List ℕ
  pub taken : rest ≡ partial ++ left
  pub unended : NoLineFeed partial
