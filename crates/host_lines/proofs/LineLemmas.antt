-- The tokens of a line from an offset on, and the first fault in them.
use Rattle.std.proofs.Common.{◌≡◌, ℕ, ◌+◌, ◌<◌, ◌≤◌, true, false, ltb, List, ◌∷◌, [], length, drop, Option, Some, None, refl, sym, ap, ◌∙◌}
use Rattle.std.proofs.Common.{zero-add, arith, inl, inr}
use Rattle.std.specs.List.{before_first}
use Rattle.std.proofs.lemmas.Bool.{cases_lt}
use Rattle.std.proofs.lemmas.Bool.Decides.{nat_tests}
use Rattle.request_lines.specs.Tokens.{is_space, Cursor, next_token, tokens}
use Rattle.request_lines.proofs.TokenLemmas.{tokens_left-within, tokens_left-none, tokens_left-there}
use Rattle.host_lines.specs.declared.places.HostPlace.{HostPlace}
use Rattle.host_lines.specs.declared.asked.HostLine.TheVariants.{Other}
use Rattle.host_lines.specs.Grammar.{fits, host_line, left, places_fault, rule_fault, tokens_ask}

abbrev cursor : List ℕ → ℕ → Cursor
cursor line at = record { line = line; at = at }

-- the next token and those behind it
pub split_off : (line : List ℕ) (at : ℕ) (token : List ℕ) → at ≤ length line → token ≡ before_first is_space (drop at line)
    → left line at ≡ token ∷ left line (at + length token + 1)
unfolding next_token
split_off line at token there is =
    tokens_left-there (cursor line at) there
    ∙ ap (λ (t : List ℕ). t ∷ left line (at + length t + 1)) (sym is)

pub left_there : (line : List ℕ) (at : ℕ) → at ≤ length line → left line at ≡ tokens (drop at line)
left_there line at there = tokens_left-within line at there

-- ---- the places of a line

pub fault_missing : (line : List ℕ) (place : HostPlace) (places : List HostPlace) (at : ℕ) → length line < at
    → Some (length line) ≡ places_fault (length line) (place ∷ places) (left line at) at
unfolding places_fault
fault_missing line place places at past = rw (tokens_left-none (cursor line at) past) refl

pub fault_wrong : (line : List ℕ) (place : HostPlace) (places : List HostPlace) (at : ℕ) (token : List ℕ) → at ≤ length line
    → token ≡ before_first is_space (drop at line) → fits place token ≡ false
    → Some at ≡ places_fault (length line) (place ∷ places) (left line at) at
unfolding places_fault
fault_wrong line place places at token there is wrong = rw (split_off line at token there is, wrong) refl

pub fault_right : (line : List ℕ) (place : HostPlace) (places : List HostPlace) (at : ℕ) (token : List ℕ) → at ≤ length line
    → token ≡ before_first is_space (drop at line) → fits place token ≡ true
    → places_fault (length line) (place ∷ places) (left line at) at ≡ places_fault (length line) places (left line (at + length token + 1))
    (at + length token + 1)
unfolding places_fault
fault_right line place places at token there is right = rw (split_off line at token there is, right) refl

pub fault_more : (line : List ℕ) (at : ℕ) → at ≤ length line → Some at ≡ places_fault (length line) [] (left line at) at
unfolding places_fault
fault_more line at there = rw (split_off line at (before_first is_space (drop at line)) there refl) refl

pub fault_end : (line : List ℕ) (at : ℕ) → length line < at → None ≡ places_fault (length line) [] (left line at) at
unfolding places_fault
fault_end line at past = rw (tokens_left-none (cursor line at) past) refl

some_none : (n : ℕ) → ◌≡◌ {A = Option ℕ} None (Some n) → ⊥
some_none n never = cc

-- where a place has no fault its token is there
pub fault_there : (line : List ℕ) (place : HostPlace) (places : List HostPlace) (at : ℕ)
    → None ≡ places_fault (length line) (place ∷ places) (left line at) at → at ≤ length line
fault_there line place places at none = elim (cases_lt (length line) at) [
  | inl past ↦ absurd (some_none (length line) (none ∙ sym (fault_missing line place places at past)))
  | inr there ↦ there
]

-- ---- the words of a rule

pub rule_missing : (line : List ℕ) (at : ℕ) → length line < at → Some (length line) ≡ rule_fault (length line) (left line at) at
unfolding rule_fault
rule_missing line at past = rw (tokens_left-none (cursor line at) past) refl

pub rule_word : (line : List ℕ) (at : ℕ) (word : List ℕ) → at ≤ length line → word ≡ before_first is_space (drop at line)
    → rule_fault (length line) (left line at) at ≡ rule_fault (length line) (word ∷ left line (at + length word + 1)) at
rule_word line at word there is = ap (λ ts. rule_fault (length line) ts at) (split_off line at word there is)

pub rule_there : (line : List ℕ) (at : ℕ) → None ≡ rule_fault (length line) (left line at) at → at ≤ length line
rule_there line at none = elim (cases_lt (length line) at) [
  | inl past ↦ absurd (some_none (length line) (none ∙ sym (rule_missing line at past)))
  | inr there ↦ there
]

-- ---- whole lines

-- a line that is too long
pub line_long : (line : List ℕ) → 8192 < length line → Other ≡ host_line line
unfolding host_line
line_long line long = let test : ltb 8192 (length line) ≡ true = grind (arith, nat_tests) in rw test refl

-- one that isn't
pub line_short : (line : List ℕ) → length line ≤ 8192 → host_line line ≡ tokens_ask (length line) (tokens line)
unfolding host_line
line_short line short = let test : ltb 8192 (length line) ≡ false = grind (arith, nat_tests) in rw test refl

-- by its first word
pub line_asks : (line word : List ℕ) → length line ≤ 8192 → word ≡ before_first is_space line
    → host_line line ≡ tokens_ask (length line) (word ∷ left line (length word + 1))
line_asks line word short is =
    let there : 0 ≤ length line = omega arith in
    let first : left line 0 ≡ word ∷ left line (length word + 1) = simp zero-add at (split_off line 0 word there is) in
    line_short line short ∙ ap (tokens_ask (length line)) (sym (tokens_left-within line 0 there) ∙ first)

-- places that go on
pub places_go : (places rest others : List HostPlace) (place : HostPlace) (line : List ℕ) (start at : ℕ) → rest ≡ place ∷ others
    → places_fault (length line) places (left line start) start ≡ places_fault (length line) rest (left line at) at
    → places_fault (length line) places (left line start) start ≡ places_fault (length line) (place ∷ others) (left line at) at
places_go places rest others place line start at is same = same ∙ ap (λ ps. places_fault (length line) ps (left line at) at) is

-- no place is left
pub places_end : (places rest : List HostPlace) (line : List ℕ) (start at : ℕ) → length rest ≡ 0
    → places_fault (length line) places (left line start) start ≡ places_fault (length line) rest (left line at) at
    → places_fault (length line) places (left line start) start ≡ places_fault (length line) [] (left line at) at
places_end places [] line start at none same = same
places_end places (place ∷ others) line start at none same = absurd (omega (arith, none))
