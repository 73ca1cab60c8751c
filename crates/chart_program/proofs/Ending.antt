-- How the reading of slots begins, and how it ends.
use Rattle.std.proofs.Common.{◌≡◌, ℕ, ℤ, ◌+◌, ◌-◌, ◌^◌, ◌<◌, ◌≤◌, List, [], ◌∷◌, ◌++◌, length, take, drop, Option, Some, None, IfSome, refl}
use Rattle.std.proofs.Common.{ap, subst, inl, inr, sym, ◌∙◌, arith, length-append, pos, negsuc}
use Rattle.std.specs.Prelude.{All, true, if◌then◌else◌}
use Rattle.std.specs.List.{filter, after_first}
use Rattle.std.specs.Fmt.{decimal}
use Rattle.std.proofs.lemmas.Fmt.{decimal_nonempty}
use Rattle.std.proofs.lemmas.List.{take-append-drop, append-nil}
use Rattle.std.proofs.lemmas.List.Elements.{All-nil, All-cons, All-append}
use Rattle.block_disk.specs.Streams.{left_after}
use Rattle.chart_world.specs.declared.line_answer.LineFault.{LineFault}
use Rattle.chart_world.specs.declared.line_answer.LineFault.TheVariants as fault
use Rattle.chart_world.specs.Lines.{is_line_feed, lines}
use Rattle.chart_world.specs.StandsLaws.{told_with, whole_given}
use Rattle.chart_world.specs.Reading.{Reading, unread_input, unread, told_lines, with_first, behind_first, input_length, NoLineIn}
use Rattle.chart_world.specs.LineLaws.{lines_none, pieces, told_so, no_rest}
use Rattle.chart_world.specs.Fronts.{says, IsWhole, first_piece}
use Rattle.chart_world.specs.FrontLaws.{passed, behind_told}
use Rattle.plain_chart.specs.Samples.{IsSlot}
use Rattle.chart_program.specs.declared.input.InputEnd.{InputEnd}
use Rattle.chart_program.specs.declared.input.InputEnd.TheVariants.{NoMemory, ReadFault, InputTooLong, BadLine, TooManySlots}
use Rattle.chart_program.specs.Slots.{spelling, SpellsSlot, SpellsAll, IsBad, FirstBad, HasTooMany, IsTooLong, StoppedBefore, most_slots}
use Rattle.chart_program.specs.Reads.{end_of, AddsLine, Overflows, IsNotAdded, Stops}
use Rattle.chart_program.proofs.Progress.{Progress, progress_more, first_told}

no_lines : SpellsAll [] []
no_lines = record { texts = ap (filter says) lines_none; in_range = All-nil IsSlot }

start_at : (input : List ℕ) → Progress input (Some ([] ++ input)) 0 []
start_at input = record {
  rest = input;
  told = refl;
  behind = record { front = []; split = refl; whole = inl (inl refl); spells = no_lines; few = omega arith; counted = refl };
}

start_told : (o : Option (List ℕ)) → IfSome o (λ input. Progress input (unread unread_input o) 0 [])
start_told None = tt
start_told (Some input) = start_at input

-- before the first line
pub start_so : (o : Option (List ℕ)) (r : Reading) (slots : List (Option ℤ)) → r ≡ unread_input → slots ≡ []
    → IfSome o (λ input. Progress input (unread r o) r.given slots)
start_so o r slots fresh none =
    let P : Reading → Type 0 = λ x. IfSome o (λ input. Progress input (unread x o) x.given slots) in
    let Q : List (Option ℤ) → Type 0 = λ s. IfSome o (λ input. Progress input (unread unread_input o) 0 s) in
    subst P (sym fresh) (subst Q (sym none) (start_told o))

end_at : (input : List ℕ) (bytes : Option (List ℕ)) (given : ℕ) (slots : List (Option ℤ)) → IfSome (told_lines bytes) (λ all. all ≡ [])
    → Progress input bytes given slots → SpellsAll input slots
end_at input bytes given slots none p =
    let P : Option (List ℕ) → Type 0 = λ b. IfSome (told_lines b) (λ all. all ≡ []) in
    let rest_none : p.rest ≡ [] = no_rest p.rest (subst P p.told none) in
    let all : p.behind.front ≡ input = sym (p.behind.split ∙ ap (λ l. p.behind.front ++ l) rest_none ∙ append-nil p.behind.front) in
    let Q : List ℕ → Type 0 = λ i. SpellsAll i slots in
    subst Q all p.behind.spells

read_all_at : (input : List ℕ) (bytes : Option (List ℕ)) (given most : ℕ) (slots : List (Option ℤ))
    → IfSome (told_lines bytes) (λ all. all ≡ []) → given ≤ most → Progress input bytes given slots → length input ≤ most
read_all_at input bytes given most slots none few p =
    let P : Option (List ℕ) → Type 0 = λ b. IfSome (told_lines b) (λ all. all ≡ []) in
    let rest_none : p.rest ≡ [] = no_rest p.rest (subst P p.told none) in
    omega (arith, few, p.behind.counted, ap length p.behind.split, length-append p.behind.front p.rest, ap length rest_none)

-- behind the last line
pub end_so : (o bytes : Option (List ℕ)) (given : ℕ) (slots : List (Option ℤ)) → IfSome (told_lines bytes) (λ all. all ≡ [])
    → IfSome o (λ input. Progress input bytes given slots) → IfSome o (λ input. SpellsAll input slots)
end_so o bytes given slots none = told_so (λ input. Progress input bytes given slots) (λ input. SpellsAll input slots) o
    (λ input. end_at input bytes given slots none)

-- then the input has no more bytes than the lines that were given
pub read_all : (o bytes : Option (List ℕ)) (given most : ℕ) (slots : List (Option ℤ)) → IfSome (told_lines bytes) (λ all. all ≡ [])
    → given ≤ most → IfSome o (λ input. Progress input bytes given slots) → IfSome o (λ input. length input ≤ most)
read_all o bytes given most slots none few =
    told_so (λ input. Progress input bytes given slots) (λ input. length input ≤ most) o
    (λ input. read_all_at input bytes given most slots none few)

-- the first of the lines that are left, where they are told
record FirstLine (bytes : List ℕ) (line : Option (List ℕ)) : Type 0 where
  later : List (Option (List ℕ))
  first : lines bytes ≡ line ∷ later

first_line : (input : List ℕ) (bytes bytes' : Option (List ℕ)) (given : ℕ) (slots : List (Option ℤ)) (line : Option (List ℕ))
    → told_lines bytes ≡ with_first line (told_lines bytes') → (p : Progress input bytes given slots) → FirstLine p.rest line
first_line input bytes bytes' given slots line first p =
    let P : Option (List ℕ) → Type 0 = λ b. told_lines b ≡ with_first line (told_lines bytes') in
    let told = first_told p.rest line (told_lines bytes') (subst P p.told first) in
    record { later = told.0; first = told.2 }

-- a line that is given ends among the first 2^32 bytes
pub early_so : (old new : Reading) (left left' : Option (List ℕ)) → unread new left' ≡ behind_first (unread old left)
    → old.taken ≡ old.given + length old.pending → new.taken ≡ new.given + length new.pending
    → input_length new.taken left' ≡ input_length old.taken left → new.given ≤ 2 ^ 32
    → IfSome (unread old left) (λ all. old.given + length (first_piece all) ≤ 2 ^ 32)
early_so old new None left' rest counted counted' total few = tt
early_so old new (Some l) left' rest counted counted' total few =
    let all = old.pending ++ l in
    let told' = behind_told all (unread old (Some l)) (unread new left') refl rest in
    let sum = passed old new (Some l) left' all (after_first is_line_feed all) refl told' counted counted' total in
    omega (arith, few, sum, ap length (pieces all), length-append (first_piece all) (after_first is_line_feed all))

bad_at : (input : List ℕ) (bytes bytes' : Option (List ℕ)) (given : ℕ) (slots : List (Option ℤ)) (line : Option (List ℕ))
    → told_lines bytes ≡ with_first line (told_lines bytes') → IsBad line → IfSome bytes (λ all. given + length (first_piece all) ≤ 2 ^ 32)
    → Progress input bytes given slots → FirstBad input given
bad_at input bytes bytes' given slots line first bad early p =
    let f = first_line input bytes bytes' given slots line first p in
    record {
      rest = p.rest;
      slots = slots;
      behind = p.behind;
      line = line;
      later = f.later;
      first = f.first;
      bad = bad;
      early = let P : Option (List ℕ) → Type 0 = λ b. IfSome b (λ all. given + length (first_piece all) ≤ 2 ^ 32) in
          subst P p.told early;
    }

-- at a bad line
pub bad_so : (o bytes bytes' : Option (List ℕ)) (given place : ℕ) (slots : List (Option ℤ)) (line : Option (List ℕ))
    → told_lines bytes ≡ with_first line (told_lines bytes') → IsBad line → place ≡ given
    → IfSome bytes (λ all. given + length (first_piece all) ≤ 2 ^ 32) → IfSome o (λ input. Progress input bytes given slots)
    → IfSome o (λ input. FirstBad input place)
bad_so o bytes bytes' given place slots line first bad at early =
    let P : ℕ → Type 0 = λ n. IfSome o (λ input. Progress input bytes given slots) → IfSome o (λ input. FirstBad input n) in
    subst P (sym at) (told_so (λ input. Progress input bytes given slots) (λ input. FirstBad input given) o
    (λ input. bad_at input bytes bytes' given slots line first bad early))

-- a line that is too long is no slot's
pub too_long_bad : IsBad None
too_long_bad = record { some = refl; none = λ slot spells. let text = spells.text in cc }

many_at : (input : List ℕ) (bytes bytes' : Option (List ℕ)) (given : ℕ) (slots : List (Option ℤ)) (text : List ℕ)
    → told_lines bytes ≡ with_first (Some text) (told_lines bytes') → Overflows text slots → Progress input bytes given slots
    → HasTooMany input
many_at input bytes bytes' given slots text first over p =
    let f = first_line input bytes bytes' given slots (Some text) first p in
    record {
      rest = p.rest;
      slots = slots;
      place = given;
      behind = p.behind;
      full = over.full;
      line = Some text;
      later = f.later;
      first = f.first;
      slot = over.slot;
      good = over.spells;
    }

-- at a line that isn't added
pub not_added_so : (o bytes bytes' left : Option (List ℕ)) (given at : ℕ) (slots : List (Option ℤ)) (text : List ℕ) (end : InputEnd)
    → told_lines bytes ≡ with_first (Some text) (told_lines bytes') → at ≡ given
    → IfSome bytes (λ all. given + length (first_piece all) ≤ 2 ^ 32) → IsNotAdded text at slots end
    → IfSome o (λ input. Progress input bytes given slots) → IfSome o (λ input. Stops input left end)
not_added_so o bytes bytes' left given at slots text NoMemory first place early why = told_so (λ input. Progress input bytes given slots)
    (λ input. Stops input left NoMemory) o (λ input p. tt)
not_added_so o bytes bytes' left given at slots text ReadFault first place early why = absurd why
not_added_so o bytes bytes' left given at slots text InputTooLong first place early why = absurd why
not_added_so o bytes bytes' left given at slots text (BadLine n) first place early why = bad_so o bytes bytes' given n slots
    (Some text) first why.1 (why.0 ∙ place) early
not_added_so o bytes bytes' left given at slots text TooManySlots first place early why =
    told_so (λ input. Progress input bytes given slots) (λ input. HasTooMany input) o
    (λ input. many_at input bytes bytes' given slots text first why)

stopped_at : (input : List ℕ) (bytes left : Option (List ℕ)) (given n : ℕ) (slots : List (Option ℤ)) → IsWhole (take given input)
    → NoLineIn n bytes → left ≡ left_after n bytes → Progress input bytes given slots → IfSome left (StoppedBefore input)
stopped_at input bytes left given n slots whole none after p =
    let P : Option (List ℕ) → Type 0 = NoLineIn n in
    let Q : Option (List ℕ) → Type 0 = λ l. IfSome l (StoppedBefore input) in
    let here : left ≡ Some (drop n p.rest) = after ∙ ap (left_after n) p.told in
    subst Q (sym here) (record {
      rest = p.rest;
      slots = slots;
      place = given;
      behind = p.behind;
      whole = whole_given input p.behind.front p.rest given p.behind.split p.behind.counted whole;
      partial = take n p.rest;
      taken = sym (take-append-drop n p.rest);
      unended = subst P p.told none;
    })

far_at : (input : List ℕ) (old new : Reading) (left left' : Option (List ℕ)) (slots : List (Option ℤ))
    → NoLineIn (2 ^ 32 - old.given) (unread old left) → 2 ^ 32 < new.taken → old.taken ≡ old.given + length old.pending
    → input_length new.taken left' ≡ input_length old.taken left → Progress input (unread old left) old.given slots → IsTooLong input
far_at input old new None left' slots none past counted total p = let told = p.told in cc
far_at input old new (Some l) None slots none past counted total p = cc
far_at input old new (Some l) (Some l') slots none past counted total p =
    let P : Option (List ℕ) → Type 0 = NoLineIn (2 ^ 32 - old.given) in
    let sum : new.taken + length l' ≡ old.taken + length l = cc in
    let told = p.told in
    let here : old.pending ++ l ≡ p.rest = cc in
    record {
      rest = p.rest;
      slots = slots;
      place = old.given;
      behind = p.behind;
      unended = subst P p.told none;
      past = omega (
        arith,
        past,
        sum,
        counted,
        ap length here,
        length-append old.pending l,
        ap length p.behind.split,
        length-append p.behind.front p.rest,
        p.behind.counted,
      );
    }

-- at a fault
pub fault_so : (o : Option (List ℕ)) (old new : Reading) (left left' : Option (List ℕ)) (slots : List (Option ℤ)) (f : LineFault)
    → (f ≡ fault.ReadFault → IfSome o (λ input. IsWhole (take old.given input)))
    → (f ≡ fault.ReadFault → NoLineIn (new.taken - old.given) (unread old left))
    → (f ≡ fault.InputTooLong → NoLineIn (2 ^ 32 - old.given) (unread old left)) → (f ≡ fault.InputTooLong → 2 ^ 32 < new.taken)
    → left' ≡ left_after (new.taken - old.given) (unread old left) → old.taken ≡ old.given + length old.pending
    → input_length new.taken left' ≡ input_length old.taken left → IfSome o (λ input. Progress input (unread old left) old.given slots)
    → IfSome o (λ input. Stops input left' (end_of f))
fault_so o old new left left' slots fault.ReadFault whole read far past after counted total =
    told_with (λ input. Progress input (unread old left) old.given slots) (λ input. IsWhole (take old.given input))
    (λ input. IfSome left' (StoppedBefore input)) o
    (λ input front. stopped_at input (unread old left) left' old.given (new.taken - old.given) slots front (read refl) after) (whole refl)
fault_so o old new left left' slots fault.InputTooLong whole read far past after counted total =
    told_so (λ input. Progress input (unread old left) old.given slots) (λ input. IsTooLong input) o
    (λ input. far_at input old new left left' slots (far refl) (past refl) counted total)

decimal_some : (n : ℕ) → n ≤ 10 ^ 18 → 0 < length (decimal n)
decimal_some n small = decimal_nonempty n (omega (arith, small))

spelling_some : (slot : Option ℤ) → IsSlot slot → 0 < length (spelling slot)
spelling_some None value = omega arith
spelling_some (Some (pos n)) value = decimal_some n (omega (arith, value))
spelling_some (Some (negsuc n)) value = omega arith

says_some : (text : List ℕ) → 0 < length text → says (Some text) ≡ true
says_some [] some = absurd (omega (arith, some))
says_some (b ∷ bs) some = refl

said : (line : Option (List ℕ)) → says line ≡ true → filter says (line ∷ []) ≡ line ∷ []
said line says_so = ap (λ b. if b then line ∷ [] else []) says_so

-- a slot's line says something
pub says_true : (line : Option (List ℕ)) (slot : Option ℤ) → SpellsSlot line slot → says line ≡ true
says_true line slot spells =
    let S : Option (List ℕ) → Type 0 = λ l. says l ≡ true in
    subst S (sym spells.text) (says_some (spelling slot) (spelling_some slot spells.in_range))

says_slot : (text : List ℕ) (slot : Option ℤ) → SpellsSlot (Some text) slot → filter says (Some text ∷ []) ≡ Some (spelling slot) ∷ []
says_slot text slot spells =
    let S : Option (List ℕ) → Type 0 = λ l. says l ≡ true in
    let some : says (Some text) ≡ true = subst S (sym spells.text) (says_some (spelling slot) (spelling_some slot spells.in_range)) in
    said (Some text) some ∙ ap (λ l. l ∷ []) spells.text

alone : (slot : Option ℤ) → IsSlot slot → All IsSlot (slot ∷ [])
alone slot value = All-cons IsSlot slot [] value (All-nil IsSlot)

-- behind a line
pub line_so : (o : Option (List ℕ)) (old new : Reading) (left left' : Option (List ℕ)) (slots slots' : List (Option ℤ)) (text : List ℕ)
    → told_lines (unread old left) ≡ with_first (Some text) (told_lines (unread new left'))
    → unread new left' ≡ behind_first (unread old left) → old.taken ≡ old.given + length old.pending
    → new.taken ≡ new.given + length new.pending → input_length new.taken left' ≡ input_length old.taken left → length slots ≤ most_slots
    → AddsLine text slots slots' → IfSome o (λ input. Progress input (unread old left) old.given slots)
    → IfSome o (λ input. Progress input (unread new left') new.given slots')
line_so o old new left left' slots slots' text first rest counted counted' total few (inl none) =
    told_so (λ input. Progress input (unread old left) old.given slots) (λ input. Progress input (unread new left') new.given slots') o
    (λ input p.
    let T : List ℕ → Type 0 = λ t. filter says (Some t ∷ []) ≡ [] in
    let S : List (Option ℤ) → Type 0 = λ s. Progress input (unread new left') new.given s in
    let same : slots ++ [] ≡ slots' = append-nil slots ∙ sym none.1 in
    subst S same (progress_more input old new left left' slots [] (Some text) p first rest counted counted' total
    (subst T (sym none.0) refl) (All-nil IsSlot) (omega (arith, few, ap length (append-nil slots)))))
line_so o old new left left' slots slots' text first rest counted counted' total few (inr adds) =
    told_so (λ input. Progress input (unread old left) old.given slots) (λ input. Progress input (unread new left') new.given slots') o
    (λ input p.
    let S : List (Option ℤ) → Type 0 = λ s. Progress input (unread new left') new.given s in
    subst S (sym adds.more) (progress_more input old new left left' slots (adds.slot ∷ []) (Some text) p first rest counted counted' total
    (says_slot text adds.slot adds.spells) (alone adds.slot adds.spells.in_range)
    (omega (arith, adds.room, length-append slots (adds.slot ∷ [])))))

-- the slots stay those of a series, and no more than a plot has
pub values_so : (text : List ℕ) (slots slots' : List (Option ℤ)) → AddsLine text slots slots' → All IsSlot slots → All IsSlot slots'
values_so text slots slots' (inl none) values = let S : List (Option ℤ) → Type 0 = All IsSlot in subst S (sym none.1) values
values_so text slots slots' (inr adds) values = let S : List (Option ℤ) → Type 0 = All IsSlot in
    subst S (sym adds.more) (All-append IsSlot slots (adds.slot ∷ []) values (alone adds.slot adds.spells.in_range))

pub few_so : (text : List ℕ) (slots slots' : List (Option ℤ)) → AddsLine text slots slots' → length slots ≤ most_slots
    → length slots' ≤ most_slots
few_so text slots slots' (inl none) few = omega (arith, few, ap length none.1)
few_so text slots slots' (inr adds) few = omega (arith, adds.room, ap length adds.more, length-append slots (adds.slot ∷ []))
