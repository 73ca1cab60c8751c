-- What tokens spell that their places allow, and tokens that places allow.
use Rattle.std.proofs.Common.{◌≡◌, ℕ, ℤ, ◌+◌, ◌^◌, true, false, cond, ◌&&◌, List, [], ◌∷◌, length, Option, Some, None, refl, sym, subst}
use Rattle.std.proofs.Common.{arith}
use Rattle.std.specs.Prelude.{IsTrue, nat_le, unsigned_abs}
use Rattle.std.specs.Fmt.{decimal}
use Rattle.std.proofs.lemmas.Bool.{and_parts, and_from}
use Rattle.std.proofs.lemmas.Bool.Decides.{nat_tests}
use Rattle.whole_number.specs.Numbers.{is_natural, natural_value, is_integer, integer_value}
use Rattle.whole_number.specs.Spelling.{SpellsNatural, SpellsInteger}
use Rattle.whole_number.proofs.Digits.{one_natural, one_integer}
use Rattle.whole_number.proofs.Tests.{natural_spelt, spelt_natural, integer_spelt, spelt_integer}
use Rattle.series_book.specs.Names.{is_name}
use Rattle.request_lines.specs.declared.places.Place.TheVariants.{Name, Integer, Natural, Session, Range}
use Rattle.request_lines.specs.declared.ranges.RangeWord.{RangeWord}
use Rattle.request_lines.specs.Grammar.{allows}
use Rattle.request_lines.specs.Ranges.{range_of}
use Rattle.request_lines.specs.Spelling.{IsSession, SpellsRange}
use Rattle.request_lines.proofs.SpeltRanges.{range_words, range_fit}
use Rattle.derive_command.specs.Requests.{IsFactor}
use Rattle.host_lines.specs.declared.places.HostPlace.{HostPlace}
use Rattle.host_lines.specs.declared.places.HostPlace.TheVariants.{Of, Factor}
use Rattle.host_lines.specs.Grammar.{Allow, fits, places_fault}

-- ---- all places of a line

pub fault_allow : (end : ℕ) (places : List HostPlace) (words : List (List ℕ)) (at : ℕ) → places_fault end places words at ≡ None
    → Allow places words
unfolding places_fault
fault_allow end [] [] at none = tt
fault_allow end [] (word ∷ words) at none = absurd (cc)
fault_allow end (place ∷ places) [] at none = absurd (cc)
fault_allow end (place ∷ places) (word ∷ words) at none =
    let rest : Option ℕ = places_fault end places words (at + length word + 1) in
    let parts : (fits place word ≡ true) × (rest ≡ None) =
    elim (fits place word) as (λ b. cond b rest (Some at) ≡ None → (b ≡ true) × (rest ≡ None)) [
      | true ↦ λ e. (refl, e)
      | false ↦ λ e. absurd (cc)
    ] none in
    (parts.0, fault_allow end places words (at + length word + 1) parts.1)

pub allow_fault : (end : ℕ) (places : List HostPlace) (words : List (List ℕ)) (at : ℕ) → Allow places words
    → places_fault end places words at ≡ None
unfolding places_fault
allow_fault end [] [] at allow = refl
allow_fault end [] (word ∷ words) at allow = absurd allow
allow_fault end (place ∷ places) [] at allow = absurd allow
allow_fault end (place ∷ places) (word ∷ words) at allow = rw allow.0 (allow_fault end places words (at + length word + 1) allow.1)

-- ---- what a token spells that its place allows

pub fits_name : (token : List ℕ) → fits (Of Name) token ≡ true → IsTrue (is_name token)
unfolding fits allows
fits_name token h = h

pub fits_integer : (token : List ℕ) → fits (Of Integer) token ≡ true → SpellsInteger token (integer_value token)
unfolding fits allows
fits_integer token h = integer_spelt token h

pub fits_natural : (token : List ℕ) → fits (Of Natural) token ≡ true → SpellsNatural token (natural_value token)
unfolding fits allows
fits_natural token h = natural_spelt token h

pub fits_session : (token : List ℕ) → fits (Of Session) token ≡ true
    → SpellsNatural token (natural_value token) × IsSession (natural_value token)
unfolding fits allows
fits_session token h =
    let k = and_parts (is_natural token && nat_le 1 (natural_value token)) (nat_le (natural_value token) 4294967295) h in
    let j = and_parts (is_natural token) (nat_le 1 (natural_value token)) k.0 in
    (natural_spelt token j.0, (grind (arith, nat_tests, j.1), grind (arith, nat_tests, k.1)))

pub fits_factor : (token : List ℕ) → fits Factor token ≡ true → SpellsInteger token (integer_value token) × IsFactor (integer_value token)
unfolding fits
fits_factor token h =
    let k = and_parts (is_integer token) (nat_le (unsigned_abs (integer_value token)) (10 ^ 9)) h in
    (integer_spelt token k.0, grind (arith, nat_tests, k.1))

pub fits_range : (token : List ℕ) → fits (Of Range) token ≡ true → SpellsRange (range_of token) token
unfolding fits allows
fits_range token h = range_words token h

-- ---- tokens that places allow

pub name_fits : (token : List ℕ) → IsTrue (is_name token) → fits (Of Name) token ≡ true
unfolding fits allows
name_fits token named = named

pub integer_fits : (token : List ℕ) (z : ℤ) → SpellsInteger token z → fits (Of Integer) token ≡ true
unfolding fits allows
integer_fits token z spells = spelt_integer token z spells

pub natural_fits : (token : List ℕ) (n : ℕ) → SpellsNatural token n → fits (Of Natural) token ≡ true
unfolding fits allows
natural_fits token n spells = spelt_natural token n spells

pub range_fits : (token : List ℕ) (range : RangeWord) → SpellsRange range token → fits (Of Range) token ≡ true
unfolding fits allows
range_fits token range spells = (range_fit range token spells).0

-- the number that a token is read as is the one that it spells
pub integer_read : (token : List ℕ) (z : ℤ) → SpellsInteger token z → integer_value token ≡ z
integer_read token z spells = one_integer token (integer_value token) z (integer_spelt token (spelt_integer token z spells)) spells

pub natural_read : (token : List ℕ) (n : ℕ) → SpellsNatural token n → natural_value token ≡ n
natural_read token n spells = one_natural token (natural_value token) n (natural_spelt token (spelt_natural token n spells)) spells

pub factor_fits : (token : List ℕ) (z : ℤ) → SpellsInteger token z → IsFactor z → fits Factor token ≡ true
unfolding fits
factor_fits token z spells small =
    let P : ℤ → Type 0 = λ y. nat_le (unsigned_abs y) (10 ^ 9) ≡ true in
    let test : nat_le (unsigned_abs z) (10 ^ 9) ≡ true = grind (arith, nat_tests, small) in
    and_from (is_integer token) (nat_le (unsigned_abs (integer_value token)) (10 ^ 9)) (spelt_integer token z spells)
    (subst P (sym (integer_read token z spells)) test)

session_spelt : (n : ℕ) → IsSession n → SpellsNatural (decimal n) n
session_spelt n session = (refl, omega (arith, session.1))

pub session_read : (n : ℕ) → IsSession n → natural_value (decimal n) ≡ n
session_read n session = natural_read (decimal n) n (session_spelt n session)

pub session_fits : (n : ℕ) → IsSession n → fits (Of Session) (decimal n) ≡ true
unfolding fits allows
session_fits n session =
    let P : ℕ → Type 0 = λ m. nat_le 1 m ≡ true in
    let Q : ℕ → Type 0 = λ m. nat_le m 4294967295 ≡ true in
    let from : nat_le 1 n ≡ true = grind (arith, nat_tests, session.0) in
    let to : nat_le n 4294967295 ≡ true = grind (arith, nat_tests, session.1) in
    let back : n ≡ natural_value (decimal n) = sym (session_read n session) in
    and_from (is_natural (decimal n) && nat_le 1 (natural_value (decimal n))) (nat_le (natural_value (decimal n)) 4294967295)
    (and_from (is_natural (decimal n)) (nat_le 1 (natural_value (decimal n))) (spelt_natural (decimal n) n (session_spelt n session))
    (subst P back from))
    (subst Q back to)
