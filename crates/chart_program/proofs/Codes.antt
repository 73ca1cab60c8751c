-- The codes of a run, and when they can't come.
use Rattle.std.proofs.Common.{◌≡◌, ℕ, ℤ, ◌<◌, ◌^◌, refl, ◌⊎◌, List, [], ◌∷◌, ◌++◌, length, map, Option, Some, None, ap, inl, inr, sym, ◌∙◌}
use Rattle.std.proofs.Common.{arith, length-append}
use Rattle.std.specs.Prelude.{All, true, IfSome, if◌then◌else◌}
use Rattle.std.specs.List.{filter}
use Rattle.std.proofs.lemmas.List.{length-map}
use Rattle.std.proofs.lemmas.List.Elements.{filter-append, All-head, All-tail}
use Rattle.chart_world.specs.Lines.{lines}
use Rattle.chart_world.specs.LineLaws.{lines_none, lines_joined}
use Rattle.chart_world.specs.Fronts.{says, IsWhole}
use Rattle.plain_chart.specs.Samples.{IsSlot}
use Rattle.store_commands.specs.Traffic.{IsLong, IsPast}
use Rattle.chart_program.specs.Slots.{spelling, SpellsSlot, Behind, FirstBad, HasTooMany}
use Rattle.chart_program.specs.Ran.{HasTooMuch, IsSlots}
use Rattle.chart_program.proofs.Ending.{says_true}

some_line : (rest : List ℕ) (line : Option (List ℕ)) (later : List (Option (List ℕ))) → lines rest ≡ line ∷ later → rest ≡ [] → ⊥
some_line rest line later first none = let both : [] ≡ line ∷ later = sym lines_none ∙ ap lines (sym none) ∙ first in cc

whole_of : (front rest : List ℕ) (line : Option (List ℕ)) (later : List (Option (List ℕ))) → lines rest ≡ line ∷ later
    → IsWhole front ⊎ (rest ≡ []) → IsWhole front
whole_of front rest line later first (inl whole) = whole
whole_of front rest line later first (inr none) = absurd (some_line rest line later first none)

said : (line : Option (List ℕ)) (later : List (Option (List ℕ))) → says line ≡ true → filter says (line ∷ later) ≡ line ∷ filter says later
said line later some = ap (λ b. if b then line ∷ filter says later else filter says later) some

-- what an input says behind its first lines
told_behind : (input rest : List ℕ) (slots : List (Option ℤ)) (place : ℕ) (line : Option (List ℕ)) (later : List (Option (List ℕ)))
    → (b : Behind input rest slots place) → lines rest ≡ line ∷ later → says line ≡ true
    → filter says (lines input) ≡ filter says (lines b.front) ++ line ∷ filter says later
told_behind input rest slots place line later b first some =
    ap (λ i. filter says (lines i)) b.split
    ∙ ap (filter says) (lines_joined b.front rest (whole_of b.front rest line later first b.whole))
    ∙ filter-append says (lines b.front) (lines rest)
    ∙ ap (λ l. filter says (lines b.front) ++ filter says l) first
    ∙ ap (λ l. filter says (lines b.front) ++ l) (said line later some)

abbrev text : Option ℤ → Option (List ℕ)
text slot = Some (spelling slot)

-- a line among those of slots is a slot's
among : (front : List (Option (List ℕ))) (line : Option (List ℕ)) (later : List (Option (List ℕ))) (slots : List (Option ℤ))
    → front ++ line ∷ later ≡ map text slots → All IsSlot slots → (slot : Option ℤ) × SpellsSlot line slot
among [] line later [] same values = cc
among [] line later (slot ∷ slots) same values = (
  slot,
  record { text = let e : line ≡ text slot = cc in e; in_range = All-head IsSlot slot slots values },
)
among (first ∷ front) line later [] same values = cc
among (first ∷ front) line later (slot ∷ slots) same values =
    let rest : front ++ line ∷ later ≡ map text slots = cc in
    among front line later slots rest (All-tail IsSlot slot slots values)

-- good input has no bad line
pub no_bad : (input : List ℕ) (place : ℕ) → IsSlots input → FirstBad input place → ⊥
no_bad input place good bad =
    let told = told_behind input bad.rest bad.slots place bad.line bad.later bad.behind bad.first bad.bad.some in
    let slot = among (filter says (lines bad.behind.front)) bad.line (filter says bad.later) good.slots (sym told
    ∙ good.spells.texts) good.spells.in_range in
    bad.bad.none slot.0 slot.1

-- it has no slot too many
no_many : (input : List ℕ) → IsSlots input → HasTooMany input → ⊥
no_many input good many =
    let told = told_behind input many.rest many.slots many.place many.line many.later many.behind many.first
    (says_true many.line many.slot many.good) in
    let front = filter says (lines many.behind.front) in
    omega (
      arith,
      good.few,
      many.full,
      ap length told,
      length-append front (many.line ∷ filter says many.later),
      ap length good.spells.texts,
      length-map good.slots text,
      ap length many.behind.spells.texts,
      length-map many.slots text,
    )

-- it isn't too much
pub no_much : (input : List ℕ) (place : ℕ) → IsSlots input → HasTooMuch input place → ⊥
no_much input place good (inl many) = no_many input good many.1
no_much input place good (inr long) = omega (arith, good.short, long.1.past)

-- what holds at all holds where an input is told
pub told_all : (o : Option (List ℕ)) (P : Type 0) → P → IfSome o (λ input. P)
told_all None P holds = tt
told_all (Some input) P holds = holds

-- and with what is told of it
pub told_both : (o : Option (List ℕ)) (P : Type 0) (Q : List ℕ → Type 0) → P → IfSome o Q → IfSome o (λ input. P × Q input)
told_both None P Q first second = tt
told_both (Some input) P Q first second = (first, second)

-- an input that is longer than so many bytes, which is told by that number
pub told_past : (most : ℕ) (o : Option (List ℕ)) (Q : List ℕ → Type 0) → IsPast most o → IfSome o Q
    → IfSome o (λ input. (most ≡ most) × (most < length input) × Q input)
told_past most None Q past so = tt
told_past most (Some input) Q past so = (refl, past, so)

-- the same of 2^32 bytes
pub told_long : (o : Option (List ℕ)) (Q : List ℕ → Type 0) → IsLong o → IfSome o Q
    → IfSome o (λ input. (2 ^ 32 ≡ 2 ^ 32) × (2 ^ 32 < length input) × Q input)
told_long o Q long so = told_past (2 ^ 32) o Q long so
