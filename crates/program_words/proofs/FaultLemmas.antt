-- When `clap` refuses a word.
use Rattle.std.proofs.Common.{ℕ, Bool, true, false, List, [], ◌∷◌, Option, Some, None, ◌≡◌, refl, sym, ap, subst, ◌∙◌, length}
use Rattle.std.proofs.Common.{if◌then◌else◌, ◌==◌, arith}
use Rattle.std.specs.Str.{bytes_eq, chars, IsUtf8}
use Rattle.std.specs.Prelude.{slice_get, encode_utf8_all}
use Rattle.std.specs.Char.{encode_utf8}
use Rattle.std.specs.Option.{option_and_then, option_map_or}
use Rattle.std.proofs.lemmas.Str.{encodes-chars}
use Rattle.clap.specs.Lexer.{long_of, short_of, long_of_rest, short_of_rest, strip_byte}
use Rattle.clap.specs.Kinds.{Kinds}
use Rattle.clap.specs.Walk.{Text, Held}
use Rattle.clap.specs.Faults.{flag_word_fault, bundle_step_fault, flags_fault, bundle_fault}
use Rattle.clap.specs.declared.error.kind.ErrorKind.TheVariants as kind
use Rattle.program_words.specs.CommandLine.{is_flag}
use Rattle.program_words.proofs.WalkLemmas.{rules}

abbrev pub unknown : Kinds
unknown = kind.UnknownArgument ∷ []

-- a word that is no flag is neither long nor short
pub no_long : (w : Text) → is_flag w ≡ false → long_of w ≡ None
no_long [] plain = refl
no_long (a ∷ []) plain = elim (a == 45) as (λ (x : Bool). option_and_then long_of_rest
    (option_and_then (strip_byte 45) (if x then Some [] else None)) ≡ None) [ true ↦ refl | false ↦ refl ]
no_long (a ∷ b ∷ r) plain = rw plain refl

pub no_short : (w : Text) → is_flag w ≡ false → short_of w ≡ None
no_short [] plain = refl
no_short (a ∷ []) plain = elim (a == 45) as (λ (x : Bool). option_and_then short_of_rest (if x then Some [] else None) ≡ None)
    [ true ↦ refl | false ↦ refl ]
no_short (a ∷ b ∷ r) plain = rw plain refl

-- what stands behind a first hyphen has a character
has_chars : (b : ℕ) (r : Text) → IsUtf8 (45 ∷ b ∷ r) → chars (b ∷ r) ≡ [] → ⊥
unfolding chars encode_utf8
has_chars b r utf8 none =
    let P : List ℕ → Type 0 = λ cs. encode_utf8_all (45 ∷ cs) ≡ 45 ∷ b ∷ r in
    let done : encode_utf8_all (45 ∷ []) ≡ 45 ∷ b ∷ r = subst P none (encodes-chars (45 ∷ b ∷ r) utf8) in
    omega (arith, ap length done)

no_first : (cs : List ℕ) → (cs ≡ [] → ⊥) → slice_get cs 0 ≡ None → ⊥
no_first [] some none = some refl
no_first (c ∷ cs) some none = cc

unknown_short : (x : Option ℕ) (flags : Text) (h : Held) (next : Text → ℕ → Held → Kinds) → (x ≡ None → ⊥)
    → bundle_step_fault rules false x flags 0 h next ≡ unknown
unknown_short None flags h next some = absurd (some refl)
unknown_short (Some x) flags h next some = refl

short_fault : (b : ℕ) (r : Text) (h : Held) → h.skip ≡ 0 → (chars (b ∷ r) ≡ [] → ⊥)
    → flags_fault rules false (length (b ∷ r)) (b ∷ r) h.skip (record h { skip = 0 }) ≡ unknown
unfolding flags_fault
short_fault b r h skip some = rw skip (unknown_short (slice_get (chars (b ∷ r)) 0) (b ∷ r) _ _ (no_first (chars (b ∷ r)) some))

long_fault_of : (r : Text) (w : Text) (h : Held) → (r ≡ [] → ⊥) → flag_word_fault rules false (long_of_rest r) w h ≡ unknown
long_fault_of [] w h some = absurd (some refl)
long_fault_of (x ∷ xs) w h some = refl

by_short : (w flags : Text) (h : Held) → long_of w ≡ None → short_of w ≡ Some flags → bundle_fault rules false flags h ≡ unknown
    → flag_word_fault rules false (long_of w) w h ≡ unknown
by_short w flags h long short refused =
    let P : Option Text → Type 0 = λ s. option_map_or (λ flags. bundle_fault rules false flags h) s [] ≡ unknown in
    let Q : Option (Text × Option Text) → Type 0 = λ l. flag_word_fault rules false l w h ≡ unknown in
    subst Q (sym long) (subst P (sym short) refused)

by_second : (a b : ℕ) (r : Text) (h : Held) → h.skip ≡ 0 → IsUtf8 (45 ∷ b ∷ r) → (a == 45) ≡ true
    → bytes_eq (a ∷ b ∷ r) (45 ∷ 45 ∷ []) ≡ false
    → (x : Bool) → (b == 45) ≡ x → flag_word_fault rules false (long_of (a ∷ b ∷ r)) (a ∷ b ∷ r) h ≡ unknown
by_second a b r h skip utf8 first lone true second = rw (first, second) (long_fault_of r (a ∷ b ∷ r) h (λ none.
    let P : Text → Type 0 = λ rest. bytes_eq (a ∷ b ∷ rest) (45 ∷ 45 ∷ []) ≡ false in
    let so : bytes_eq (a ∷ b ∷ []) (45 ∷ 45 ∷ []) ≡ false = subst P none lone in
    let all : bytes_eq (a ∷ b ∷ []) (45 ∷ 45 ∷ []) ≡ true = rw (first, second) refl in
    let bad : true ≡ false = sym all ∙ so in
    cc))
by_second a b r h skip utf8 first lone false second =
    by_short (a ∷ b ∷ r) (b ∷ r) h (rw (first, second) refl) (rw (first, second) refl) (short_fault b r h skip (has_chars b r utf8))

is_hyphen : (a : ℕ) → (a == 45) ≡ true → a ≡ 45
is_hyphen a same = grind (arith, same)

-- a flag is an argument that isn't known
pub flag_unknown : (w : Text) (h : Held) → h.skip ≡ 0 → IsUtf8 w → bytes_eq w (45 ∷ 45 ∷ []) ≡ false → is_flag w ≡ true
    → flag_word_fault rules false (long_of w) w h ≡ unknown
flag_unknown [] h skip utf8 lone flagged = absurd (let bad : false ≡ true = flagged in cc)
flag_unknown (a ∷ []) h skip utf8 lone flagged = absurd (let bad : false ≡ true = flagged in cc)
flag_unknown (a ∷ b ∷ r) h skip utf8 lone flagged =
    let P : ℕ → Type 0 = λ n. IsUtf8 (n ∷ b ∷ r) in
    by_second a b r h skip (subst P (is_hyphen a flagged) utf8) flagged lone (b == 45) refl
