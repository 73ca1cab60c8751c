use Rattle.std.proofs.Common.{◌≡◌, ℕ, Bool, true, false, ◌||◌, List, [], ◌∷◌, refl, sym, ap, ◌∙◌}
use Rattle.std.proofs.lemmas.Slice.Eq.{bytes_eq-Decides}
use Rattle.std.specs.Str.{bytes_eq}
use lib.Chars.{codes}
use Rattle.whole_number.specs.Numbers.{is_natural, is_integer}
use Rattle.std.specs.Option.{is_some}
use Rattle.request_lines.specs.Grammar.{is_digit_token, allows, value_place}
use Rattle.request_lines.specs.Requests.{value_of}

-- one digit is a natural number
pub digit_natural : (token : List ℕ) → is_digit_token token ≡ true → is_natural token ≡ true
unfolding is_natural
digit_natural [] digit = cc
digit_natural (byte ∷ []) digit = rw digit refl
digit_natural (byte ∷ next ∷ bytes) digit = cc

-- an integer is no hyphen alone
pub integer_not_hyphen : (token : List ℕ) → is_integer token ≡ true → bytes_eq token (codes "-") ≡ false
unfolding is_integer is_natural
integer_not_hyphen token integer =
    let hyphen : List ℕ = codes "-" in
    let decide : (b : Bool) → bytes_eq token hyphen ≡ b → b ≡ false =
    λ b. elim b as (λ b. bytes_eq token hyphen ≡ b → b ≡ false) [
      | true ↦ λ same.
          let token_is : token ≡ hyphen = (bytes_eq-Decides token hyphen).0 same in
          let wrong : false ≡ true = ap is_integer (sym token_is) ∙ integer in
          cc
      | false ↦ λ _. refl
    ] in
    decide (bytes_eq token hyphen) refl

-- a token of an append or a set is an integer or a hyphen
pub named_place : (may_miss : Bool) (token : List ℕ) → allows (value_place may_miss) token ≡ true
    → (is_integer token || bytes_eq token (codes "-")) ≡ true
unfolding allows
named_place true token allowed = allowed
named_place false token allowed = rw allowed refl

-- a token of a set is no missing slot
pub value_there : (token : List ℕ) → allows (value_place false) token ≡ true → is_some (value_of token) ≡ true
unfolding allows value_of
value_there token allowed = rw (integer_not_hyphen token allowed) refl
