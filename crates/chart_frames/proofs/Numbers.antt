-- Numbers of so many bytes: what was written is read again, and what is read was written so.
use Rattle.std.proofs.Common.{◌≡◌, ℕ, zero, suc, ◌+◌, ◌-◌, ◌*◌, ◌/◌, ◌%◌, ◌^◌, ◌<◌, ◌≤◌, List, [], ◌∷◌, ◌++◌, length, get_or, take, drop}
use Rattle.std.proofs.Common.{refl, sym, ap, ◌∙◌, arith, length-drop}
use Rattle.std.proofs.Math.Nat.{mul_assoc, mul-add-div_right, mul-add-mod_self_right, mod-eq_of_lt, pow-succ', one-le-pow, div-one}
use Rattle.std.proofs.Math.Seq.{take-length}
use Rattle.std.proofs.lemmas.Nat.{div-mul-add}
use Rattle.std.proofs.lemmas.List.{take-append-drop}
use Rattle.std.specs.Int.{byte_at, bytes_high_first}
use Rattle.byteorder.specs.Endian.{big_from}
use Rattle.byteorder.specs.Numbers.{big_from-cons, big_from-lt, big_number-reads_back, length-bytes_high_first, big_from-append}
use Rattle.chart_frames.specs.Format.{number_bytes, number_in}

abbrev pub IsBytes : List ℕ → Type 0
IsBytes bytes = (i : ℕ) → get_or bytes i 0 < 256

-- a byte of a number, by its place
byte_at-pow : (k x : ℕ) → byte_at k x ≡ x / 256 ^ k % 256
byte_at-pow zero x = ap (λ (y : ℕ). y % 256) (sym (div-one x))
byte_at-pow (suc k) x = refl

pow_positive : (n : ℕ) → 0 < 256 ^ n
pow_positive n = let h = one-le-pow n 256 (omega arith) in omega arith

-- what stands above n bytes isn't seen in them
high_first-onto : (n a r : ℕ) → bytes_high_first n (a * 256 ^ n + r) ≡ bytes_high_first n r
high_first-onto zero a r = refl
high_first-onto (suc n) a r =
    let wider : a * 256 ^ suc n + r ≡ a * 256 * 256 ^ n + r = ap (λ (p : ℕ). p + r) (ap (λ (p : ℕ). a * p) (pow-succ' 256 n)
    ∙ sym (mul_assoc a 256 (256 ^ n))) in
    let tail : bytes_high_first n (a * 256 ^ suc n + r) ≡ bytes_high_first n r = ap (bytes_high_first n) wider
    ∙ high_first-onto n (a * 256) r in
    let quotient : (a * 256 * 256 ^ n + r) / 256 ^ n ≡ a * 256 + r / 256 ^ n = mul-add-div_right (pow_positive n) (a * 256) r in
    let head : byte_at n (a * 256 ^ suc n + r) ≡ byte_at n r =
    byte_at-pow n (a * 256 ^ suc n + r) ∙ ap (λ (p : ℕ). p / 256 ^ n % 256) wider ∙ ap (λ (p : ℕ). p % 256) quotient
    ∙ mul-add-mod_self_right a 256 (r / 256 ^ n) ∙ sym (byte_at-pow n r) in
    ap (λ (p : ℕ). p ∷ bytes_high_first n (a * 256 ^ suc n + r)) head ∙ ap (λ (p : List ℕ). byte_at n r ∷ p) tail

-- the bytes of the number in n bytes are these bytes
number_back : (n : ℕ) (bytes : List ℕ) → IsBytes bytes → n ≤ length bytes → bytes_high_first n (big_from 0 n bytes) ≡ take n bytes
number_back zero bytes fits long = refl
number_back (suc n) [] fits long = absurd (omega arith)
number_back (suc n) (x ∷ xs) fits long =
    let low = big_from 0 n xs in
    let below : low < 256 ^ n = big_from-lt 0 n xs (λ i. fits (suc i)) in
    let byte : x < 256 = fits 0 in
    let whole : big_from 0 (suc n) (x ∷ xs) ≡ x * 256 ^ n + low = ap (λ (p : ℕ). x * 256 ^ n + p) (big_from-cons 0 n x xs) in
    let head : byte_at n (x * 256 ^ n + low) ≡ x =
    byte_at-pow n (x * 256 ^ n + low) ∙ ap (λ (p : ℕ). p % 256) (div-mul-add x (256 ^ n) low below) ∙ mod-eq_of_lt byte in
    let tail : bytes_high_first n (x * 256 ^ n + low) ≡ take n xs = high_first-onto n x low
    ∙ number_back n xs (λ i. fits (suc i)) (omega arith) in
    ap (bytes_high_first (suc n)) whole ∙ (ap (λ (p : ℕ). p ∷ bytes_high_first n (x * 256 ^ n + low)) head
    ∙ ap (λ (p : List ℕ). x ∷ p) tail)

pub length-number_bytes : (size n : ℕ) → length (number_bytes size n) ≡ size
unfolding number_bytes
length-number_bytes size n = length-bytes_high_first size n

-- what was written is read again, whatever follows it
pub number_again : (size n : ℕ) (rest : List ℕ) → n < 256 ^ size → number_in size (number_bytes size n ++ rest) ≡ n
unfolding number_bytes number_in
number_again size n rest below = big_number-reads_back size n rest below

-- the number fits its bytes
pub number_below : (size : ℕ) (bytes : List ℕ) → IsBytes bytes → number_in size bytes < 256 ^ size
unfolding number_in
number_below size bytes fits = big_from-lt 0 size bytes fits

-- bytes that come later change nothing
pub number_stays : (size : ℕ) (bytes more : List ℕ) → size ≤ length bytes → number_in size (bytes ++ more) ≡ number_in size bytes
unfolding number_in
number_stays size bytes more long = big_from-append size bytes more long

-- what is read is spelled so
pub number_spelled : (size : ℕ) (bytes : List ℕ) → IsBytes bytes → size ≤ length bytes
    → bytes ≡ number_bytes size (number_in size bytes) ++ drop size bytes
unfolding number_bytes number_in
number_spelled size bytes fits long =
    sym (take-append-drop size bytes) ∙ ap (λ (p : List ℕ). p ++ drop size bytes) (sym (number_back size bytes fits long))

-- the bytes of the number that some bytes spell are these bytes
pub number_bytes_in : (size : ℕ) (bytes : List ℕ) → IsBytes bytes → size ≡ length bytes → number_bytes size (number_in size bytes) ≡ bytes
unfolding number_bytes number_in
number_bytes_in size bytes fits whole = number_back size bytes fits (omega (arith, whole)) ∙ ap (λ (p : ℕ). take p bytes) whole
    ∙ take-length bytes

-- those of the first so many bytes are these
pub number_bytes_at : (size : ℕ) (bytes : List ℕ) → IsBytes bytes → size ≤ length bytes
    → number_bytes size (number_in size bytes) ≡ take size bytes
unfolding number_bytes number_in
number_bytes_at size bytes fits long = number_back size bytes fits long

take_whole : (k : ℕ) (l : List ℕ) → k ≡ length l → take k l ≡ l
take_whole k l e = ap (λ (p : ℕ). take p l) e ∙ take-length l

pub number_taken : (size : ℕ) (bytes : List ℕ) (n : ℕ) → IsBytes bytes → size ≤ length bytes → n ≡ number_in size bytes
    → bytes ≡ number_bytes size n ++ take (length bytes - size) (drop size bytes)
number_taken size bytes n fits long is =
    let rest : take (length bytes - size) (drop size bytes) ≡ drop size bytes = take_whole (length bytes - size) (drop size bytes)
    (sym (length-drop size bytes)) in
    number_spelled size bytes fits long ∙ ap (λ (p : ℕ). number_bytes size p ++ drop size bytes) (sym is)
    ∙ ap (λ (p : List ℕ). number_bytes size n ++ p) (sym rest)
