-- Blocks in bytes that lie one after another.
use Rattle.std.proofs.Common.{◌≡◌, ◌≢◌, ℕ, ◌+◌, ◌-◌, ◌*◌, ◌≤◌, ◌<◌, List, ◌++◌, length, take, drop, ap, cond, sym, ◌∙◌, arith}
use Rattle.std.proofs.Common.{length-append, length-drop, inl, inr}
use Rattle.std.proofs.lemmas.List.{take-append-le, drop-append-le, drop-drop, drop-take, length-take, take-take}
use Rattle.std.proofs.Math.Nat.{mul-le-mul_left}
use Rattle.std.proofs.Math.Path.{fun_ext}
use Rattle.std.proofs.lemmas.Bool.{cases_lt}
use Rattle.std.proofs.lemmas.Bool.Decides.{eqb_tells}
use Rattle.std.proofs.Math.Seq.{drop-append-add, drop-append_seam, take-append_seam}
use Rattle.block_disk.specs.Blocks.{block_size, IsBlock}
use Rattle.block_disk.specs.MemDisk.{blocks_of, put, replaced}

pub length-replaced : (bytes : List ℕ) (start : ℕ) (from : List ℕ) → start + length from ≤ length bytes
    → length (replaced bytes start from) ≡ length bytes
unfolding replaced
length-replaced bytes start from within =
    let rest = drop (start + length from) bytes in
    omega (
      arith,
      length-append (take start bytes) (from ++ rest),
      length-append from rest,
      length-take start bytes,
      length-drop (start + length from) bytes,
    )

front_length : (bytes : List ℕ) (start : ℕ) → start ≤ length bytes → start ≡ length (take start bytes)
front_length bytes start within = omega (arith, length-take start bytes)

-- what stands there is what was put there
pub replaced_there : (bytes : List ℕ) (start : ℕ) (from : List ℕ) → start ≤ length bytes
    → take (length from) (drop start (replaced bytes start from)) ≡ from
unfolding replaced
replaced_there bytes start from within =
    let rest = drop (start + length from) bytes in
    ap (λ n. take (length from) (drop n (take start bytes ++ (from ++ rest)))) (front_length bytes start within)
    ∙ ap (λ l. take (length from) l) (drop-append_seam (take start bytes) (from ++ rest))
    ∙ take-append_seam from rest

-- what stands in front of it stays
pub replaced_before : (bytes : List ℕ) (start : ℕ) (from : List ℕ) (at size : ℕ) → start ≤ length bytes → at + size ≤ start
    → take size (drop at (replaced bytes start from)) ≡ take size (drop at bytes)
unfolding replaced
replaced_before bytes start from at size within low =
    let rest = from ++ drop (start + length from) bytes in
    let sum : start ≡ at + (start - at) = omega arith in
    let front : drop at (take start bytes) ≡ take (start - at) (drop at bytes) = ap (λ n. drop at (take n bytes)) sum
    ∙ drop-take at (start - at) bytes in
    let long : size ≤ length (drop at (take start bytes)) = omega (arith, length-drop at (take start bytes), length-take start bytes) in
    ap (λ l. take size l) (drop-append-le at (take start bytes) rest (omega (arith, length-take start bytes)))
    ∙ take-append-le size (drop at (take start bytes)) rest long
    ∙ ap (λ l. take size l) front
    ∙ take-take size (start - at) (drop at bytes) (omega arith)

-- and what stands behind it
pub replaced_after : (bytes : List ℕ) (start : ℕ) (from : List ℕ) (at : ℕ) → start ≤ length bytes → start + length from ≤ at
    → drop at (replaced bytes start from) ≡ drop at bytes
unfolding replaced
replaced_after bytes start from at within high =
    let rest = drop (start + length from) bytes in
    let more = at - (start + length from) in
    let sum : at ≡ length (take start bytes) + (length from + more) = omega (arith, front_length bytes start within) in
    let whole : start + length from + more ≡ at = omega arith in
    ap (λ n. drop n (take start bytes ++ (from ++ rest))) sum
    ∙ drop-append-add (take start bytes) (from ++ rest) (length from + more)
    ∙ drop-append-add from rest more
    ∙ drop-drop more (start + length from) bytes
    ∙ ap (λ n. drop n bytes) whole

-- a block that was put in place of another
pub block_there : (bytes : List ℕ) (one : ℕ) (from : List ℕ) → IsBlock from → block_size * one + block_size ≤ length bytes
    → blocks_of (replaced bytes (block_size * one) from) one ≡ from
block_there bytes one from whole within =
    ap (λ n. take n (drop (block_size * one) (replaced bytes (block_size * one) from))) (sym whole)
    ∙ replaced_there bytes (block_size * one) from (omega arith)

-- the other blocks stay
pub block_other : (bytes : List ℕ) (one : ℕ) (from : List ℕ) (number : ℕ) → IsBlock from → block_size * one + block_size ≤ length bytes
    → number ≢ one → blocks_of (replaced bytes (block_size * one) from) number ≡ blocks_of bytes number
block_other bytes one from number whole within other = elim (cases_lt number one) [
  | inl below ↦ replaced_before bytes (block_size * one) from (block_size * number) block_size (omega arith)
      (omega (arith, mul-le-mul_left block_size below))
  | inr above ↦
      let more : one < number = omega (arith, above, other) in
      ap (λ l. take block_size l) (replaced_after bytes (block_size * one) from (block_size * number) (omega arith)
      (omega (arith, whole, mul-le-mul_left block_size more)))
]

-- as much as fits is all, where nothing was added
pub all_of : (bytes other : List ℕ) (len : ℕ) → length bytes ≡ length other → len ≡ length other
    → take len (bytes ++ drop (length bytes) other) ≡ bytes
all_of bytes other len same whole =
    ap (λ n. take n (bytes ++ drop (length bytes) other)) (whole ∙ sym same) ∙ take-append_seam bytes (drop (length bytes) other)

-- the image with a block put in place of another
pub blocks_put : (bytes : List ℕ) (one : ℕ) (from : List ℕ) → IsBlock from → block_size * one + block_size ≤ length bytes
    → blocks_of (replaced bytes (block_size * one) from) ≡ put one from (blocks_of bytes)
blocks_put bytes one from whole within = fun_ext (λ number. elim (eqb_tells number one) [
  | inl is ↦ ap (λ n. blocks_of (replaced bytes (block_size * one) from) n) is.1 ∙ block_there bytes one from whole within
      ∙ sym (ap (λ b. cond b from (blocks_of bytes number)) is.0)
  | inr not ↦ block_other bytes one from number whole within not.1 ∙ sym (ap (λ b. cond b from (blocks_of bytes number)) not.0)
])
