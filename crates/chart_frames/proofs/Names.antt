-- Names in 31 bytes.
use Rattle.std.proofs.Common.{◌≡◌, ℕ, zero, suc, ◌-◌, ◌^◌, ◌<◌, ◌≤◌, ◌&&◌, true, List, [], ◌∷◌, ◌++◌, length, take, drop, replicate, refl}
use Rattle.std.proofs.Common.{sym, ap, ◌∙◌, arith, length-append}
use Rattle.std.specs.Prelude.{nat_le}
use Rattle.std.specs.Bool.{IsTrue}
use Rattle.std.specs.List.{list_all}
use Rattle.std.proofs.lemmas.Bool.{and_parts, and_from, leb-true, eqb-true}
use Rattle.std.proofs.lemmas.Bool.Decides.{nat_tests}
use Rattle.std.proofs.lemmas.List.{take_at, drop_at, length-replicate}
use Rattle.series_book.specs.Names.{is_name, is_name_byte}
use Rattle.chart_frames.specs.Format.{number_bytes}
use Rattle.chart_frames.specs.Fields.{is_blank, is_padded}
use Rattle.chart_frames.specs.Frames.{name_number}
use Rattle.chart_frames.proofs.Numbers.{IsBytes, number_below, number_bytes_in}

-- a name has 1 to 31 bytes
pub name_length : (name : List ℕ) → IsTrue (is_name name) → (1 ≤ length name) × (length name ≤ 31)
unfolding is_name
name_length name named =
    let parts = and_parts (nat_le 1 (length name) && nat_le (length name) 31) (list_all is_name_byte name) named in
    let sizes = and_parts (nat_le 1 (length name)) (nat_le (length name) 31) parts.0 in
    (leb-true 1 (length name) sizes.0, leb-true (length name) 31 sizes.1)

byte_small : (b : ℕ) → is_name_byte b ≡ true → b < 256
unfolding is_name_byte
byte_small b named = grind (arith, nat_tests, named)

name_bytes : (name : List ℕ) → IsTrue (is_name name) → list_all is_name_byte name ≡ true
unfolding is_name
name_bytes name named = (and_parts (nat_le 1 (length name) && nat_le (length name) 31) (list_all is_name_byte name) named).1

-- ---- bytes

small_bytes : (bytes : List ℕ) → list_all is_name_byte bytes ≡ true → IsBytes bytes
small_bytes [] h i = omega arith
small_bytes (b ∷ bs) h zero = byte_small b (and_parts (is_name_byte b) (list_all is_name_byte bs) h).0
small_bytes (b ∷ bs) h (suc i) = small_bytes bs (and_parts (is_name_byte b) (list_all is_name_byte bs) h).1 i

padded_bytes : (bytes : List ℕ) (n : ℕ) → IsBytes bytes → IsBytes (bytes ++ replicate n 0)
padded_bytes [] zero h i = omega arith
padded_bytes [] (suc n) h zero = omega arith
padded_bytes [] (suc n) h (suc i) = padded_bytes [] n h i
padded_bytes (b ∷ bs) n h zero = h zero
padded_bytes (b ∷ bs) n h (suc i) = padded_bytes bs n (λ j. h (suc j)) i

blanks : (n : ℕ) → list_all is_blank (replicate n 0) ≡ true
blanks zero = refl
blanks (suc n) = blanks n

blanks_are : (bytes : List ℕ) → list_all is_blank bytes ≡ true → bytes ≡ replicate (length bytes) 0
blanks_are [] h = refl
blanks_are (b ∷ bs) h =
    let parts = and_parts (is_blank b) (list_all is_blank bs) h in
    ap (λ (x : ℕ). x ∷ bs) (eqb-true b 0 parts.0) ∙ ap (λ (xs : List ℕ). 0 ∷ xs) (blanks_are bs parts.1)

-- ---- a name and what stands behind it

-- the 31 bytes of a name
pub name_padded : (name : List ℕ) → IsTrue (is_name name) → number_bytes 31 (name_number name) ≡ name ++ replicate (31 - length name) 0
name_padded name named =
    let sizes = name_length name named in
    let whole : 31 ≡ length (name ++ replicate (31 - length name) 0) = omega (
      arith,
      sizes.1,
      length-append name (replicate (31 - length name) 0),
      length-replicate {A = ℕ} (31 - length name) 0,
    ) in
    number_bytes_in 31 (name ++ replicate (31 - length name) 0)
    (padded_bytes name (31 - length name) (small_bytes name (name_bytes name named))) whole

pub name_below : (name : List ℕ) → IsTrue (is_name name) → name_number name < 256 ^ 31
name_below name named = number_below 31 (name ++ replicate (31 - length name) 0)
    (padded_bytes name (31 - length name) (small_bytes name (name_bytes name named)))

padded_test : (size : ℕ) (name : List ℕ) (n : ℕ) → length name ≡ size → IsTrue (is_name name)
    → is_padded size (name ++ replicate n 0) ≡ true
padded_test size name n len named =
    let front : take size (name ++ replicate n 0) ≡ name = take_at name (replicate n 0) size len in
    let back : drop size (name ++ replicate n 0) ≡ replicate n 0 = drop_at name (replicate n 0) size len in
    and_from (is_name (take size (name ++ replicate n 0))) (list_all is_blank (drop size (name ++ replicate n 0))) (ap is_name front
    ∙ named) (ap (list_all is_blank) back ∙ blanks n)

-- the name's field meets its rule
pub name_meets : (name : List ℕ) → IsTrue (is_name name) → is_padded (length name) (number_bytes 31 (name_number name)) ≡ true
name_meets name named = ap (is_padded (length name)) (name_padded name named) ∙ padded_test (length name) name (31 - length name) refl named

-- the name again
pub name_back : (name : List ℕ) → IsTrue (is_name name) → take (length name) (number_bytes 31 (name_number name)) ≡ name
name_back name named = ap (take (length name)) (name_padded name named) ∙ take_at name (replicate (31 - length name) 0) (length name) refl

-- ---- reading

-- the bytes at the front are those that a name's field spells
pub padded_spelled : (front name blank : List ℕ) → length front ≡ 31 → front ≡ name ++ blank → IsTrue (is_name name)
    → list_all is_blank blank ≡ true → number_bytes 31 (name_number name) ≡ front
padded_spelled front name blank long is named clear =
    let left : length blank ≡ 31 - length name = omega (arith, long, ap length is, length-append name blank) in
    name_padded name named ∙ ap (λ (n : ℕ). name ++ replicate n 0) (sym left)
    ∙ ap (λ (xs : List ℕ). name ++ xs) (sym (blanks_are blank clear)) ∙ sym is
