use Rattle.std.proofs.Common.{◌≡◌, ℕ, ◌<◌, ◌≤◌, false, List, [], ◌∷◌, map, length, Some, None, refl, sym, ap, ◌∙◌, inl, inr, ◌⊎◌, arith}
use Rattle.request_lines.specs.declared.places.Place.{Place}
use Rattle.request_lines.specs.Tokens.{Cursor, tokens_left, next_token}
use Rattle.request_lines.specs.declared.line_errors.LineError.{LineError}
use Rattle.request_lines.specs.declared.line_errors.LineError.TheVariants.{BadLine, NoMemory}
use Rattle.request_lines.specs.Requests.{value_of}
use Rattle.request_lines.specs.Grammar.{Misses, MissesEnd, Ending, nothing, at_most_one, one_or_more, any_behind, allows, fault}
use Rattle.request_lines.specs.Grammar.{ending_fault, first_misfit, Takes}
use Rattle.request_lines.proofs.TokenLemmas.{tokens_left-there, tokens_left-none}

-- a token that its place allows is passed over
pub fault-takes : (end : ℕ) (place : Place) (places : List Place) (ending : Ending) (old new : Cursor) → Takes place old new
    → fault end (place ∷ places) ending (tokens_left old) old.at ≡ fault end places ending (tokens_left new) new.at
unfolding fault
fault-takes end place places ending old new takes =
    rw (tokens_left-there old takes.there, takes.allowed, takes.past) refl

-- a token is missing
pub fault-missing : (end : ℕ) (place : Place) (places : List Place) (ending : Ending) (old : Cursor) → length old.line < old.at
    → fault end (place ∷ places) ending (tokens_left old) old.at ≡ Some end
unfolding fault
fault-missing end place places ending old past = rw (tokens_left-none old past) refl

-- a token isn't what its place allows
pub fault-wrong : (end : ℕ) (place : Place) (places : List Place) (ending : Ending) (old : Cursor) → old.at ≤ length old.line
    → allows place (next_token old) ≡ false → fault end (place ∷ places) ending (tokens_left old) old.at ≡ Some old.at
unfolding fault
fault-wrong end place places ending old there wrong = rw (tokens_left-there old there, wrong) refl

-- no token is left where none may follow
pub fault-end : (end : ℕ) (cursor : Cursor) → tokens_left cursor ≡ [] → fault end [] nothing (tokens_left cursor) cursor.at ≡ None
unfolding fault ending_fault
fault-end end cursor none = rw none refl

-- a token is left where none may follow
pub fault-more : (end : ℕ) (cursor : Cursor) → cursor.at ≤ length cursor.line
    → fault end [] nothing (tokens_left cursor) cursor.at ≡ Some cursor.at
unfolding fault ending_fault
fault-more end cursor there = rw (tokens_left-there cursor there) refl

-- no token is left where one may follow
pub fault-none : (end : ℕ) (place : Place) (cursor : Cursor) → length cursor.line < cursor.at
    → fault end [] (at_most_one place) (tokens_left cursor) cursor.at ≡ None
unfolding fault ending_fault
fault-none end place cursor past = rw (tokens_left-none cursor past) refl

-- a token that may follow is a place of the line
pub fault-one : (end : ℕ) (place : Place) (cursor : Cursor) → cursor.at ≤ length cursor.line
    → fault end [] (at_most_one place) (tokens_left cursor) cursor.at ≡ fault end (place ∷ []) nothing (tokens_left cursor) cursor.at
unfolding fault ending_fault
fault-one end place cursor there = rw (tokens_left-there cursor there) refl

-- no token is left where one may follow, with anything behind it
pub fault-none_behind : (end : ℕ) (place : Place) (cursor : Cursor) → length cursor.line < cursor.at
    → fault end [] (any_behind place) (tokens_left cursor) cursor.at ≡ None
unfolding fault ending_fault
fault-none_behind end place cursor past = rw (tokens_left-none cursor past) refl

-- a token that may follow is taken, and anything may stand behind it
pub fault-behind : (end : ℕ) (place : Place) (old new : Cursor) → Takes place old new
    → fault end [] (any_behind place) (tokens_left old) old.at ≡ None
unfolding fault ending_fault
fault-behind end place old new takes = rw (tokens_left-there old takes.there, takes.allowed) refl

-- another token is left than the one that may follow
fault-other : (end : ℕ) (place : Place) (cursor : Cursor) → cursor.at ≤ length cursor.line → allows place (next_token cursor) ≡ false
    → fault end [] (any_behind place) (tokens_left cursor) cursor.at ≡ Some cursor.at
unfolding fault ending_fault
fault-other end place cursor there wrong = rw (tokens_left-there cursor there, wrong) refl

pub misses_behind : (place : Place) (old : Cursor) (error : LineError) → old.at ≤ length old.line → Misses place old error
    → MissesEnd (any_behind place) old error
misses_behind place old (BadLine bad) there misses =
    elim misses [
      | inl missing ↦ absurd (omega (arith, missing.0))
      | inr wrong ↦ fault-other (length old.line) place old wrong.0 wrong.1 ∙ ap Some (sym wrong.2)
    ]
misses_behind place old NoMemory there misses = tt

-- where the next token is missing or wrong, it is at fault
pub misses-fault : (place : Place) (places : List Place) (ending : Ending) (old : Cursor) (bad : ℕ)
    → ((length old.line < old.at) × (bad ≡ length old.line))
    ⊎ ((old.at ≤ length old.line) × (allows place (next_token old) ≡ false) × (bad ≡ old.at))
    → fault (length old.line) (place ∷ places) ending (tokens_left old) old.at ≡ Some bad
misses-fault place places ending old bad misses =
    elim misses [
      | inl missing ↦ fault-missing (length old.line) place places ending old missing.0 ∙ ap Some (sym missing.1)
      | inr wrong ↦ fault-wrong (length old.line) place places ending old wrong.0 wrong.1 ∙ ap Some (sym wrong.2)
    ]

-- the tokens of a list of values, as long as one is left
fault-first : (end : ℕ) (place : Place) (cursor : Cursor) → cursor.at ≤ length cursor.line
    → fault end [] (one_or_more place) (tokens_left cursor) cursor.at ≡ first_misfit place (tokens_left cursor) cursor.at
unfolding fault ending_fault
fault-first end place cursor there = rw (tokens_left-there cursor there) refl

-- a token of a list that its place allows is passed over
pub misfit-takes : (place : Place) (old new : Cursor) → Takes place old new
    → first_misfit place (tokens_left old) old.at ≡ first_misfit place (tokens_left new) new.at
unfolding first_misfit
misfit-takes place old new takes = rw (tokens_left-there old takes.there, takes.allowed, takes.past) refl

-- a token of a list isn't what its place allows
misfit-wrong : (place : Place) (cursor : Cursor) → cursor.at ≤ length cursor.line → allows place (next_token cursor) ≡ false
    → first_misfit place (tokens_left cursor) cursor.at ≡ Some cursor.at
unfolding first_misfit
misfit-wrong place cursor there wrong = rw (tokens_left-there cursor there, wrong) refl

-- no token is left of a list
pub misfit-none : (place : Place) (cursor : Cursor) → length cursor.line < cursor.at
    → first_misfit place (tokens_left cursor) cursor.at ≡ None
unfolding first_misfit
misfit-none place cursor past = rw (tokens_left-none cursor past) refl

-- the first token of a list is passed over
pub list-takes : (end : ℕ) (place : Place) (old new : Cursor) → Takes place old new
    → fault end [] (one_or_more place) (tokens_left old) old.at ≡ first_misfit place (tokens_left new) new.at
list-takes end place old new takes = fault-first end place old takes.there ∙ misfit-takes place old new takes

-- no token is there of a list that has one
list-missing : (end : ℕ) (place : Place) (cursor : Cursor) → length cursor.line < cursor.at
    → fault end [] (one_or_more place) (tokens_left cursor) cursor.at ≡ Some end
unfolding fault ending_fault
list-missing end place cursor past = rw (tokens_left-none cursor past) refl

-- where the first token of a list is missing or wrong, the list doesn't end a line
pub list-misses : (place : Place) (old : Cursor) (error : LineError) → Misses place old error → MissesEnd (one_or_more place) old error
list-misses place old (BadLine bad) misses =
    elim misses [
      | inl missing ↦ list-missing (length old.line) place old missing.0 ∙ ap Some (sym missing.1)
      | inr wrong ↦ fault-first (length old.line) place old wrong.0 ∙ misfit-wrong place old wrong.0 wrong.1 ∙ ap Some (sym wrong.2)
    ]
list-misses place old NoMemory misses = tt

-- the same for a later token of the list
pub list-misses-later : (place : Place) (start cursor : Cursor) (error : LineError) → cursor.at ≤ length cursor.line
    → fault (length start.line) [] (one_or_more place) (tokens_left start) start.at ≡ first_misfit place (tokens_left cursor) cursor.at
    → Misses place cursor error → MissesEnd (one_or_more place) start error
list-misses-later place start cursor (BadLine bad) there so_far misses =
    elim misses [
      | inl missing ↦ absurd (omega (arith, missing.0))
      | inr wrong ↦ so_far ∙ misfit-wrong place cursor wrong.0 wrong.1 ∙ ap Some (sym wrong.2)
    ]
list-misses-later place start cursor NoMemory there so_far misses = tt

-- the values of the tokens that are left
pub values-takes : (place : Place) (old new : Cursor) → Takes place old new
    → map value_of (tokens_left old) ≡ value_of (next_token old) ∷ map value_of (tokens_left new)
values-takes place old new takes = rw (tokens_left-there old takes.there, takes.past) refl

-- a reader stays on its line
pub takes-line : (place : Place) (old new : Cursor) → Takes place old new → new.line ≡ old.line
takes-line place old new takes = ap (λ (cursor : Cursor). cursor.line) takes.past

-- a token that may follow isn't what its place allows
pub misses_one : (place : Place) (old : Cursor) (error : LineError) → old.at ≤ length old.line → Misses place old error
    → MissesEnd (at_most_one place) old error
misses_one place old (BadLine bad) there misses = fault-one (length old.line) place old there ∙ misses-fault place [] nothing old bad misses
misses_one place old NoMemory there misses = tt

-- a token is left after the one that may follow
pub misses_end_one : (place : Place) (old new : Cursor) (error : LineError) → Takes place old new → MissesEnd nothing new error
    → MissesEnd (at_most_one place) old error
misses_end_one place old new (BadLine bad) takes misses =
    fault-one (length old.line) place old takes.there
    ∙ fault-takes (length old.line) place [] nothing old new takes
    ∙ ap (λ line. fault (length line) [] nothing (tokens_left new) new.at) (sym (takes-line place old new takes))
    ∙ misses
misses_end_one place old new NoMemory takes misses = tt
