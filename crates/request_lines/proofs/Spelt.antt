-- Numbers, values and ranges as tokens, and the tokens that places allow.
use Rattle.std.proofs.Common.{◌≡◌, ℕ, ℤ, ◌+◌, ◌-◌, ◌^◌, ◌<◌, ◌≤◌, Bool, true, false, cond, ◌||◌, List, [], ◌∷◌, length, map, Option, Some}
use Rattle.std.proofs.Common.{None, All, refl, sym, ap, subst, arith}
use Rattle.std.specs.Char.{is_ascii_digit}
use Rattle.std.specs.Str.{bytes_eq}
use Rattle.std.specs.Fmt.{decimal, signed_decimal}
use lib.Chars.{codes}
use Rattle.std.proofs.lemmas.Bool.Decides.{nat_tests}
use Rattle.std.proofs.lemmas.Fmt.{decimal_digit}
use Rattle.std.proofs.lemmas.List.Elements.{All-nil, All-cons, All-head, All-tail}
use Rattle.std.proofs.lemmas.Slice.Eq.{bytes_eq-Decides}
use Rattle.whole_number.specs.Numbers.{is_natural, natural_value, is_integer, integer_value}
use Rattle.whole_number.specs.Spelling.{SpellsNatural, SpellsInteger}
use Rattle.whole_number.proofs.Tests.{natural_spelt, spelt_natural, integer_spelt, spelt_integer}
use Rattle.whole_number.proofs.Digits.{one_natural, one_integer, below}
use Rattle.request_lines.specs.declared.places.Place.{Place}
use Rattle.request_lines.specs.declared.places.Place.TheVariants.{Integer, Value}
use Rattle.request_lines.specs.Grammar.{Ending, is_digit_token, allows, fault, first_misfit}
use Rattle.request_lines.specs.Requests.{value_of}
use Rattle.request_lines.specs.Spelling.{value_text, IsEntry, IsThere}
use Rattle.request_lines.proofs.NumberLemmas.{digit_natural, integer_not_hyphen}
use Rattle.whole_number.proofs.Tests.{natural_digits}

-- the texts of numbers pass their tests, and are read as those numbers
pub integer_back : (z : ℤ) → SpellsInteger (signed_decimal z) z → integer_value (signed_decimal z) ≡ z
integer_back z spells = one_integer (signed_decimal z) _ z
    (integer_spelt (signed_decimal z) (spelt_integer (signed_decimal z) z spells)) spells

pub natural_back : (n : ℕ) → SpellsNatural (decimal n) n → natural_value (decimal n) ≡ n
natural_back n spells = one_natural (decimal n) _ n (natural_spelt (decimal n) (spelt_natural (decimal n) n spells)) spells

-- a place's token, and those behind it
pub first_fits : (end : ℕ) (place : Place) (places : List Place) (ending : Ending) (token : List ℕ) (others : List (List ℕ)) (at : ℕ)
    → fault end (place ∷ places) ending (token ∷ others) at ≡ None
    → (allows place token ≡ true) × (fault end places ending others (at + length token + 1) ≡ None)
unfolding fault
first_fits end place places ending token others at h =
    let rest : Option ℕ = fault end places ending others (at + length token + 1) in
    elim (allows place token) as (λ b. cond b rest (Some at) ≡ None → (b ≡ true) × (rest ≡ None)) [
      | true ↦ λ e. (refl, e)
      | false ↦ λ e. absurd (cc)
    ] h

pub fits_first : (end : ℕ) (place : Place) (places : List Place) (ending : Ending) (token : List ℕ) (others : List (List ℕ)) (at : ℕ)
    → allows place token ≡ true → ((at : ℕ) → fault end places ending others at ≡ None)
    → fault end (place ∷ places) ending (token ∷ others) at ≡ None
unfolding fault
fits_first end place places ending token others at allowed rest = rw allowed (rest (at + length token + 1))

-- a token of a list, and those behind it
misfit_first : (place : Place) (token : List ℕ) (others : List (List ℕ)) (at : ℕ) → first_misfit place (token ∷ others) at ≡ None
    → (allows place token ≡ true) × (first_misfit place others (at + length token + 1) ≡ None)
unfolding first_misfit
misfit_first place token others at h =
    let rest : Option ℕ = first_misfit place others (at + length token + 1) in
    elim (allows place token) as (λ b. cond b rest (Some at) ≡ None → (b ≡ true) × (rest ≡ None)) [
      | true ↦ λ e. (refl, e)
      | false ↦ λ e. absurd (cc)
    ] h

first_misfits : (place : Place) (token : List ℕ) (others : List (List ℕ)) (at : ℕ) → allows place token ≡ true
    → ((at : ℕ) → first_misfit place others at ≡ None) → first_misfit place (token ∷ others) at ≡ None
unfolding first_misfit
first_misfits place token others at allowed rest = rw allowed (rest (at + length token + 1))

-- one digit
pub digit_small : (token : List ℕ) → is_digit_token token ≡ true → natural_value token ≤ 9
digit_small [] digit = absurd (cc)
digit_small (byte ∷ []) digit =
    let small : natural_value (byte ∷ []) < 10 ^ 1 = below 1 (byte ∷ []) (natural_digits (byte ∷ []) (digit_natural (byte ∷ []) digit))
    (omega arith) in
    omega (arith, small)
digit_small (byte ∷ (next ∷ bytes)) digit = absurd (cc)

pub digit_back : (n : ℕ) → n ≤ 9 → is_digit_token (decimal n) ≡ true
digit_back n small =
    let digit : is_ascii_digit (48 + n) ≡ true = grind (arith, nat_tests) in
    let P : List ℕ → Type 0 = λ l. is_digit_token l ≡ true in
    subst P (sym (decimal_digit n (omega (arith, small)))) digit

or_false : (b : Bool) → (b || false) ≡ true → b ≡ true
or_false true h = refl
or_false false h = h

-- a value that may be missing
entry_back : (token : List ℕ) → allows Value token ≡ true → (value_text (value_of token) ≡ token) × IsEntry (value_of token)
unfolding allows value_of
entry_back token h =
    elim (bytes_eq token (codes "-")) as (λ b. bytes_eq token (codes "-") ≡ b → (is_integer token || b) ≡ true
    → (value_text (cond b None (Some (integer_value token))) ≡ token) × IsEntry (cond b None (Some (integer_value token)))) [
      | true ↦ λ same _. (sym ((bytes_eq-Decides token (codes "-")).0 same), tt)
      | false ↦ λ _ allowed. let spells = integer_spelt token (or_false (is_integer token) allowed) in (sym spells.0, spells.1)
    ] refl h

entry_allowed : (v : Option ℤ) → IsEntry v → allows Value (value_text v) ≡ true
unfolding allows is_integer is_natural
entry_allowed None small = refl
entry_allowed (Some v) small = let e = spelt_integer (signed_decimal v) v (refl, small) in rw e refl

entry_value : (v : Option ℤ) → IsEntry v → value_of (value_text v) ≡ v
unfolding value_of
entry_value None small = refl
entry_value (Some v) small =
    let integer : is_integer (signed_decimal v) ≡ true = spelt_integer (signed_decimal v) v (refl, small) in
    rw (integer_not_hyphen (signed_decimal v) integer) (ap Some (integer_back v (refl, small)))

pub entries_back : (tokens : List (List ℕ)) (at : ℕ) → first_misfit Value tokens at ≡ None
    → (map value_text (map value_of tokens) ≡ tokens) × All IsEntry (map value_of tokens)
entries_back [] at h = (refl, All-nil IsEntry)
entries_back (token ∷ tokens) at h =
    let k = misfit_first Value token tokens at h in
    let one = entry_back token k.0 in
    let rest = entries_back tokens (at + length token + 1) k.1 in
    ((λ i. one.0 i ∷ rest.0 i), All-cons IsEntry (value_of token) (map value_of tokens) one.1 rest.1)

pub entries_fit : (values : List (Option ℤ)) → All IsEntry values → (at : ℕ) → first_misfit Value (map value_text values) at ≡ None
unfolding first_misfit
entries_fit [] all at = refl
entries_fit (v ∷ values) all at =
    first_misfits Value (value_text v) (map value_text values) at (entry_allowed v (All-head IsEntry v values all))
    (entries_fit values (All-tail IsEntry v values all))

pub entries_values : (values : List (Option ℤ)) → All IsEntry values → map value_of (map value_text values) ≡ values
entries_values [] all = refl
entries_values (v ∷ values) all =
    let first = entry_value v (All-head IsEntry v values all) in
    let rest = entries_values values (All-tail IsEntry v values all) in
    λ i. first i ∷ rest i

-- a value that is there
there_entry : (v : Option ℤ) → IsThere v → IsEntry v
there_entry None there = tt
there_entry (Some v) there = there

there_back : (token : List ℕ) → allows Integer token ≡ true → (value_text (value_of token) ≡ token) × IsThere (value_of token)
unfolding allows value_of
there_back token integer = let spells = integer_spelt token integer in rw (integer_not_hyphen token integer) (sym spells.0, spells.1)

there_allowed : (v : Option ℤ) → IsThere v → allows Integer (value_text v) ≡ true
unfolding allows
there_allowed None there = absurd there
there_allowed (Some v) small = spelt_integer (signed_decimal v) v (refl, small)

pub theres_back : (tokens : List (List ℕ)) (at : ℕ) → first_misfit Integer tokens at ≡ None
    → (map value_text (map value_of tokens) ≡ tokens) × All IsThere (map value_of tokens)
theres_back [] at h = (refl, All-nil IsThere)
theres_back (token ∷ tokens) at h =
    let k = misfit_first Integer token tokens at h in
    let one = there_back token k.0 in
    let rest = theres_back tokens (at + length token + 1) k.1 in
    ((λ i. one.0 i ∷ rest.0 i), All-cons IsThere (value_of token) (map value_of tokens) one.1 rest.1)

pub theres_fit : (values : List (Option ℤ)) → All IsThere values → (at : ℕ) → first_misfit Integer (map value_text values) at ≡ None
unfolding first_misfit
theres_fit [] all at = refl
theres_fit (v ∷ values) all at =
    first_misfits Integer (value_text v) (map value_text values) at (there_allowed v (All-head IsThere v values all))
    (theres_fit values (All-tail IsThere v values all))

pub theres_values : (values : List (Option ℤ)) → All IsThere values → map value_of (map value_text values) ≡ values
theres_values [] all = refl
theres_values (v ∷ values) all =
    let first = entry_value v (there_entry v (All-head IsThere v values all)) in
    let rest = theres_values values (All-tail IsThere v values all) in
    λ i. first i ∷ rest i
