-- One line more of the input is read.
use Rattle.std.proofs.Common.{◌≡◌, ℕ, ℤ, ◌+◌, ◌≤◌, List, [], ◌∷◌, ◌++◌, length, map, Option, Some, None, refl, ap, subst, inl, inr, sym}
use Rattle.std.proofs.Common.{◌∙◌, arith, append_assoc, length-append}
use Rattle.std.specs.Prelude.{All}
use Rattle.std.specs.List.{filter, after_first}
use Rattle.std.proofs.lemmas.List.{map-append}
use Rattle.std.proofs.lemmas.List.Elements.{filter-append, All-append}
use Rattle.chart_world.specs.Lines.{is_line_feed, lines}
use Rattle.chart_world.specs.Reading.{Reading, unread, told_lines, with_first, behind_first, input_length}
use Rattle.chart_world.specs.LineLaws.{lines_joined, pieces, piece_ends, piece_line}
use Rattle.chart_world.specs.Fronts.{first_piece, says, IsWhole}
use Rattle.chart_world.specs.FrontLaws.{some_left, whole_front, whole_joined, passed, behind_told, told_after}
use Rattle.plain_chart.specs.Samples.{IsSlot}
use Rattle.chart_program.specs.Slots.{spelling, SpellsAll, Behind, most_slots}

-- what the slots of one line more are
spells_more : (front piece : List ℕ) (slots added : List (Option ℤ)) (line : Option (List ℕ)) → IsWhole front → lines piece ≡ line ∷ []
    → SpellsAll front slots → filter says (line ∷ []) ≡ map (λ slot. Some (spelling slot)) added → All IsSlot added
    → SpellsAll (front ++ piece) (slots ++ added)
spells_more front piece slots added line whole first spells told in_range =
    let text : Option ℤ → Option (List ℕ) = λ slot. Some (spelling slot) in
    record {
      texts =
          ap (filter says) (lines_joined front piece whole)
          ∙ filter-append says (lines front) (lines piece)
          ∙ ap (λ l. filter says (lines front) ++ filter says l) first
          ∙ ap (λ l. l ++ filter says (line ∷ [])) spells.texts
          ∙ ap (λ l. map text slots ++ l) told
          ∙ sym (map-append text slots added);
      in_range = All-append IsSlot slots added spells.in_range in_range;
    }

-- the input's front grows by its first line
pub behind_more : (input rest : List ℕ) (slots added : List (Option ℤ)) (place : ℕ) (line : Option (List ℕ)) → Behind input rest slots place
    → lines rest ≡ line ∷ lines (after_first is_line_feed rest) → filter says (line ∷ []) ≡ map (λ slot. Some (spelling slot)) added
    → All IsSlot added → length (slots ++ added) ≤ most_slots
    → Behind input (after_first is_line_feed rest) (slots ++ added) (place + length (first_piece rest))
behind_more input rest slots added place line behind first told in_range few =
    let some = some_left rest line (lines (after_first is_line_feed rest)) first in
    let whole = whole_front behind.front rest behind.whole some in
    record {
      front = behind.front ++ first_piece rest;
      split = behind.split ∙ ap (λ l. behind.front ++ l) (pieces rest)
          ∙ sym (append_assoc behind.front (first_piece rest) (after_first is_line_feed rest));
      whole = elim (piece_ends rest) [
        | inl ended ↦ inl (whole_joined behind.front (first_piece rest) whole ended)
        | inr none ↦ inr none
      ];
      spells = spells_more behind.front (first_piece rest) slots added line whole (piece_line rest line first) behind.spells told in_range;
      few = few;
      counted = omega (arith, behind.counted, length-append behind.front (first_piece rest));
    }

-- the lines that are told, one after another
pub first_told : (rest : List ℕ) (line : Option (List ℕ)) (told : Option (List (Option (List ℕ))))
    → Some (lines rest) ≡ with_first line told → (later : List (Option (List ℕ))) × (told ≡ Some later) × (lines rest ≡ line ∷ later)
first_told rest line None is = absurd (cc)
first_told rest line (Some later) is = (later, refl, cc)

-- how far the reading has come, where the input is told
pub record Progress (input : List ℕ) (bytes : Option (List ℕ)) (given : ℕ) (slots : List (Option ℤ)) : Type 0 where
  pub rest : List ℕ
  pub told : bytes ≡ Some rest
  pub behind : Behind input rest slots given

-- a line more
pub progress_more : (input : List ℕ) (old new : Reading) (left left' : Option (List ℕ)) (slots added : List (Option ℤ))
    (line : Option (List ℕ)) → Progress input (unread old left) old.given slots
    → told_lines (unread old left) ≡ with_first line (told_lines (unread new left')) → unread new left' ≡ behind_first (unread old left)
    → old.taken ≡ old.given + length old.pending → new.taken ≡ new.given + length new.pending
    → input_length new.taken left' ≡ input_length old.taken left → filter says (line ∷ []) ≡ map (λ slot. Some (spelling slot)) added
    → All IsSlot added → length (slots ++ added) ≤ most_slots → Progress input (unread new left') new.given (slots ++ added)
progress_more input old new left left' slots added line p first rest counted counted' total told in_range few =
    let told' = behind_told p.rest (unread old left) (unread new left') p.told rest in
    let lines_are = told_after p.rest (unread old left) (unread new left') line p.told told' first in
    let more = behind_more input p.rest slots added old.given line p.behind lines_are told in_range few in
    let sum = passed old new left left' p.rest (after_first is_line_feed p.rest) p.told told' counted counted' total in
    let at : old.given + length (first_piece p.rest) ≡ new.given = omega (
      arith,
      sum,
      ap length (pieces p.rest),
      length-append (first_piece p.rest) (after_first is_line_feed p.rest),
    ) in
    let P : ℕ → Type 0 = λ n. Behind input (after_first is_line_feed p.rest) (slots ++ added) n in
    record { rest = after_first is_line_feed p.rest; told = told'; behind = subst P at more }
