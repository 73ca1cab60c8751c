-- What the lines that follow a session ask.
use Rattle.std.proofs.Common.{◌≡◌, ℕ, ◌+◌, ◌<◌, ◌≤◌, true, false, ltb, List, ◌∷◌, length, drop, Ok, Err, refl, sym, ap, ◌∙◌, zero-add}
use Rattle.std.proofs.Common.{arith}
use Rattle.std.specs.List.{before_first}
use Rattle.std.proofs.lemmas.Bool.Decides.{nat_tests}
use Rattle.whole_number.specs.Numbers.{natural_value}
use Rattle.request_lines.specs.declared.places.Place.TheVariants.{Session}
use Rattle.request_lines.specs.Grammar.{allows, fault, ending_fault}
use Rattle.request_lines.specs.Tokens.{is_space, Cursor, tokens_left, next_token}
use Rattle.request_lines.proofs.TokenLemmas.{tokens_left-within, tokens_left-none, tokens_left-there}
use Rattle.live_view.specs.declared.live_lines.LiveLine.TheVariants.{Other}
use Rattle.live_view.specs.Lines.{session_alone, tokens_ask, live_line}

abbrev cursor : List ℕ → ℕ → Cursor
cursor line at = record { line = line; at = at }

-- the next token and those behind it
split_off : (line : List ℕ) (at : ℕ) (token : List ℕ) → at ≤ length line → token ≡ before_first is_space (drop at line)
    → tokens_left (cursor line at) ≡ token ∷ tokens_left (cursor line (at + length token + 1))
unfolding next_token
split_off line at token there is =
    tokens_left-there (cursor line at) there
    ∙ ap (λ (t : List ℕ). t ∷ tokens_left (cursor line (at + length t + 1))) (sym is)

-- no token is left
pub alone-missing : (line : List ℕ) (at : ℕ) → length line < at
    → Err (length line) ≡ session_alone (length line) (tokens_left (cursor line at)) at
unfolding session_alone fault
alone-missing line at past = rw (tokens_left-none (cursor line at) past) refl

-- the next one isn't a session's number
pub alone-bad : (line : List ℕ) (at : ℕ) (token : List ℕ) → at ≤ length line → token ≡ before_first is_space (drop at line)
    → allows Session token ≡ false
    → Err at ≡ session_alone (length line) (tokens_left (cursor line at)) at
unfolding session_alone fault
alone-bad line at token there is bad = rw (split_off line at token there is, bad) refl

-- a second one stands behind it
pub alone-more : (line : List ℕ) (at : ℕ) (token : List ℕ) → at ≤ length line → token ≡ before_first is_space (drop at line)
    → allows Session token ≡ true
    → at + length token + 1 ≤ length line → Err (at + length token + 1) ≡ session_alone (length line) (tokens_left (cursor line at)) at
unfolding session_alone fault ending_fault
alone-more line at token there is good more =
    rw (
      split_off line at token there is,
      good,
      split_off line (at + length token + 1)
          (before_first is_space (drop (at + length token + 1) line)) more refl,
    ) refl

-- it is the only one
pub alone-ok : (line : List ℕ) (at : ℕ) (token : List ℕ) → at ≤ length line → token ≡ before_first is_space (drop at line)
    → allows Session token ≡ true
    → length line < at + length token + 1 → Ok (natural_value token) ≡ session_alone (length line) (tokens_left (cursor line at)) at
unfolding session_alone fault ending_fault
alone-ok line at token there is good last =
    rw (split_off line at token there is, good, tokens_left-none (cursor line (at + length token + 1)) last) refl

-- a line that is too long
pub line-long : (line : List ℕ) → 8192 < length line → Other ≡ live_line line
unfolding live_line
line-long line long = let test : ltb 8192 (length line) ≡ true = grind (arith, nat_tests) in rw test refl

-- a line that isn't, by its first word
pub line-asks : (line word : List ℕ) → length line ≤ 8192 → word ≡ before_first is_space line
    → live_line line ≡ tokens_ask (length line) (word ∷ tokens_left (cursor line (length word + 1)))
unfolding live_line
line-asks line word short is =
    let test : ltb 8192 (length line) ≡ false = grind (arith, nat_tests) in
    let there : 0 ≤ length line = omega arith in
    let first : tokens_left (cursor line 0) ≡ word ∷ tokens_left (cursor line (length word + 1)) = simp zero-add at
    (split_off line 0 word there is) in
    rw test (ap (tokens_ask (length line)) (sym (tokens_left-within line 0 there) ∙ first))
