use Rattle.std.proofs.Common.{◌≡◌, ℕ, ◌+◌, ◌-◌, ◌<◌, ◌≤◌, Bool, true, false, cond, ltb, leb, List, [], ◌∷◌, length, take, drop, Some, None}
use Rattle.std.proofs.Common.{refl, sym, subst, ap, ◌∙◌, inl, inr, All, arith}
use Rattle.std.specs.List.{slice_split, before_first, after_first, position_or_len, join_with_byte}
use Rattle.std.proofs.lemmas.Bool.Decides.{nat_tests}
use Rattle.std.proofs.lemmas.Bool.{cases_lt}
use Rattle.std.proofs.lemmas.List.{length-take, length-drop, drop-drop, drop_all, take_all}
use Rattle.std.proofs.lemmas.List.Sums.{fails_before_first}
use Rattle.std.proofs.lemmas.List.Splits.{slice_split_first, slice_split_none, join_with_byte-slice_split}
use Rattle.request_lines.specs.Tokens.{is_space, Cursor, tokens, tokens_left, next_token, past_token}

-- a place that is found is the first one
pub place_found : (n m k : ℕ) → Some k ≡ cond (ltb n m) (Some n) None → k ≡ n
place_found n m k found = grind (arith, nat_tests)

-- where none is found, the first one is past the end
pub place_missing : (n m : ℕ) → None ≡ cond (ltb n m) (Some n) None → m ≤ n
place_missing n m missing = grind (arith, nat_tests)

-- the tokens that are left within a line
pub tokens_left-within : (line : List ℕ) (at : ℕ) → at ≤ length line
    → tokens_left (record { line = line; at = at }) ≡ slice_split is_space (drop at line)
unfolding tokens_left
tokens_left-within line at there = let test : leb at (length line) ≡ true = grind (arith, nat_tests) in rw test refl

-- no token is left past the end
pub tokens_left-none : (cursor : Cursor) → length cursor.line < cursor.at → tokens_left cursor ≡ []
unfolding tokens_left
tokens_left-none cursor past = let test : leb cursor.at (length cursor.line) ≡ false = grind (arith, nat_tests) in rw test refl

-- the next token and those after it, where there is a space
split_at_space : (line : List ℕ) (at : ℕ) → at ≤ length line → position_or_len is_space (drop at line) < length (drop at line)
    → tokens_left (record { line = line; at = at })
    ≡ next_token (record { line = line; at = at }) ∷ tokens_left (past_token (record { line = line; at = at }))
unfolding next_token
split_at_space line at there spaced =
    let rest : List ℕ = drop at line in
    let end : ℕ = position_or_len is_space rest in
    let first : List ℕ = before_first is_space rest in
    let size : length first ≡ end = omega (arith, length-take end rest) in
    let within' : at + length first + 1 ≤ length line = omega (arith, length-drop at line) in
    let after : after_first is_space rest ≡ drop (at + length first + 1) line =
    drop-drop (end + 1) at line ∙ ap (λ n. drop n line) (omega arith) in
    tokens_left-within line at there
    ∙ slice_split_first is_space rest 0 spaced
    ∙ ap (λ others. first ∷ others) (ap (slice_split is_space) after ∙ sym (tokens_left-within line (at + length first + 1) within'))

-- the next token is the last one, where there is no space
split_none : (line : List ℕ) (at : ℕ) → at ≤ length line → length (drop at line) ≤ position_or_len is_space (drop at line)
    → tokens_left (record { line = line; at = at })
    ≡ next_token (record { line = line; at = at }) ∷ tokens_left (past_token (record { line = line; at = at }))
unfolding next_token
split_none line at there spaceless =
    let rest : List ℕ = drop at line in
    let first : List ℕ = before_first is_space rest in
    let whole : first ≡ rest = take_all (position_or_len is_space rest) rest spaceless in
    let fails : All (λ byte. is_space byte ≡ false) rest = λ k d within'. fails_before_first is_space rest k d (omega arith) in
    let past : length line < at + length first + 1 = omega (arith, ap length whole, length-drop at line) in
    tokens_left-within line at there
    ∙ slice_split_none is_space rest fails
    ∙ ap (λ token. token ∷ []) (sym whole)
    ∙ ap (λ others. first ∷ others) (sym (tokens_left-none (record { line = line; at = at + length first + 1 }) past))

-- the tokens that are left are the next one and those past it
pub tokens_left-there : (cursor : Cursor) → cursor.at ≤ length cursor.line
    → tokens_left cursor ≡ next_token cursor ∷ tokens_left (past_token cursor)
tokens_left-there cursor there =
    elim (cases_lt (position_or_len is_space (drop cursor.at cursor.line)) (length (drop cursor.at cursor.line))) [
      | inl spaced ↦ split_at_space cursor.line cursor.at there spaced
      | inr spaceless ↦ split_none cursor.line cursor.at there spaceless
    ]

-- the tokens that are left, with a space between two of them, are the bytes that are left
pub joined-left : (cursor : Cursor) → join_with_byte 32 (tokens_left cursor) ≡ drop cursor.at cursor.line
joined-left cursor =
    elim (cases_lt (length cursor.line) cursor.at) [
      | inl past ↦ ap (join_with_byte 32) (tokens_left-none cursor past) ∙ sym (drop_all cursor.at cursor.line (omega (arith, past)))
      | inr there ↦ ap (join_with_byte 32) (tokens_left-within cursor.line cursor.at there)
          ∙ join_with_byte-slice_split 32 (drop cursor.at cursor.line)
    ]

-- a test that fails
pub beyond : (b : Bool) (n m : ℕ) → (n ≤ m → b ≡ true) → b ≡ false → m < n
beyond b n m holds fails =
    elim (cases_lt m n) [
      | inl less ↦ less
      | inr more ↦ let both : true ≡ false = sym (holds more) ∙ fails in cc
    ]

-- a space ends the first token
pub cut_found : (line : List ℕ) (place : ℕ) → position_or_len is_space line ≡ place → place < length line
    → tokens line ≡ take place line ∷ tokens (drop (place + 1) line)
cut_found line place is within =
    let P : ℕ → Type 0 = λ n. tokens line ≡ take n line ∷ tokens (drop (n + 1) line) in
    subst P is (slice_split_first is_space line 0 (omega (arith, is, within)))

-- where there is none, the line is one token
pub cut_none : (line : List ℕ) → length line ≤ position_or_len is_space line → tokens line ≡ line ∷ []
cut_none line none = slice_split_none is_space line (λ k d below. fails_before_first is_space line k d (omega (arith, none, below)))

-- all that stands behind a place
pub whole_rest : (bytes : List ℕ) (place : ℕ) → drop place bytes ≡ take (length bytes - place) (drop place bytes)
whole_rest bytes place = sym (take_all (length bytes - place) (drop place bytes) (omega (arith, length-drop place bytes)))
