-- Numbers in four bytes.
use Rattle.std.proofs.Common.{◌≡◌, ℕ, zero, suc, ◌+◌, ◌-◌, ◌<◌, ◌≤◌, ◌^◌, List, [], ◌∷◌, ◌++◌, length, take, drop, get_or, refl, sym, ap}
use Rattle.std.proofs.Common.{arith, ◌∙◌}
use Rattle.std.proofs.Math.Seq.{take-length, drop-length}
use Rattle.std.proofs.lemmas.Nat.{from_be_bytes-to_be_bytes_4, be_bytes_4}
use borrow.Rule.Slice.PartMut.{mid_of, post_of, put_mid, Post-is}
use Rattle.std.proofs.lemmas.List.{append-nil, drop-drop, take_all, length-drop}
use Rattle.std.specs.Int.{w32, from_be_bytes}
use Rattle.byteorder.specs.Endian.{big_number}
use Rattle.page_space.specs.Layout.{word}

pub word_back : (n : ℕ) → n < 2 ^ 32 → from_be_bytes w32 (word n) ≡ n
unfolding word
word_back n small = from_be_bytes-to_be_bytes_4 n small

pub word_first : (n : ℕ) (rest : List ℕ) → take 4 (word n ++ rest) ≡ word n
unfolding word
word_first n rest = refl

pub word_behind : (n : ℕ) (rest : List ℕ) → drop 4 (word n ++ rest) ≡ rest
unfolding word
word_behind n rest = refl

-- bytes that begin with a number begin with no other
pub word_front : (a b : ℕ) (xs ys : List ℕ) → a < 2 ^ 32 → b < 2 ^ 32 → word a ++ xs ≡ word b ++ ys → (a ≡ b) × (xs ≡ ys)
word_front a b xs ys small small' same =
    let read : (n : ℕ) (rest : List ℕ) → n < 2 ^ 32 → from_be_bytes w32 (take 4 (word n ++ rest)) ≡ n =
    λ n rest fits. ap (λ l. from_be_bytes w32 l) (word_first n rest) ∙ word_back n fits in (
      sym (read a xs small) ∙ ap (λ l. from_be_bytes w32 (take 4 l)) same ∙ read b ys small',
      sym (word_behind a xs) ∙ ap (λ l. drop 4 l) same ∙ word_behind b ys,
    )

-- a number that was read, and what stands behind it
pub word_taken : (bytes : List ℕ) (n : ℕ) → ((i : ℕ) → get_or bytes i 0 < 256) → 4 ≤ length bytes → n ≡ big_number 4 bytes
    → bytes ≡ word n ++ take (length bytes - 4) (drop 4 bytes)
unfolding word
word_taken (a ∷ b ∷ c ∷ d ∷ rest) n fits long is =
    let bytes : List ℕ = a ∷ b ∷ c ∷ d ∷ rest in
    let front : List ℕ = a ∷ b ∷ c ∷ d ∷ [] in
    let each : (i : ℕ) → get_or front i 0 < 256 = four a b c d (fits 0) (fits 1) (fits 2) (fits 3) in
    let number : n ≡ from_be_bytes w32 front = is ∙ omega arith in
    let whole : take (length bytes - 4) rest ≡ rest = ap (λ k. take k rest) (omega arith) ∙ take-length rest in
    sym (ap (λ l. l ++ take (length bytes - 4) rest) (be_bytes_4 front n refl each number) ∙ ap (λ l. front ++ l) whole)
  where
    four : (a b c d : ℕ) → a < 256 → b < 256 → c < 256 → d < 256 → (i : ℕ) → get_or (a ∷ b ∷ c ∷ d ∷ []) i 0 < 256
    four a b c d ha hb hc hd zero = ha
    four a b c d ha hb hc hd (suc zero) = hb
    four a b c d ha hb hc hd (suc (suc zero)) = hc
    four a b c d ha hb hc hd (suc (suc (suc zero))) = hd
    four a b c d ha hb hc hd (suc (suc (suc (suc i)))) = omega arith
word_taken [] n fits long is = absurd (omega (arith, long))
word_taken (a ∷ []) n fits long is = absurd (omega (arith, long))
word_taken (a ∷ b ∷ []) n fits long is = absurd (omega (arith, long))
word_taken (a ∷ b ∷ c ∷ []) n fits long is = absurd (omega (arith, long))

-- a number that was put in its place
pub placed : (at n : ℕ) (page written : List ℕ) → at ≤ length page → written ≡ word n ++ drop 4 (mid_of at (length page - at) page)
    → put_mid at (length page - at) page written ≡ take at page ++ (word n ++ drop (at + 4) page)
placed at n page written within is =
    let middle : mid_of at (length page - at) page ≡ drop at page = take_all (length page - at) (drop at page)
    (omega (arith, length-drop at page)) in
    let nothing : post_of at (length page - at) page ≡ [] = Post-is at (length page) page within ∙ drop-length page in
    ap (λ l. take at page ++ (written ++ l)) nothing
    ∙ ap (λ l. take at page ++ l) (append-nil written)
    ∙ ap (λ l. take at page ++ l) is
    ∙ ap (λ l. take at page ++ (word n ++ drop 4 l)) middle
    ∙ ap (λ l. take at page ++ (word n ++ l)) (drop-drop 4 at page)
