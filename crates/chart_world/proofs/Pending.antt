-- What is pending, and the front of a line that is kept.
use Rattle.std.proofs.Common.{◌≡◌, ℕ, ◌+◌, ◌-◌, ◌≤◌, min, List, ◌++◌, length, take, drop, slice_range, ap, inl, inr, sym, ◌∙◌, arith}
use Rattle.std.proofs.Common.{length-drop}
use Rattle.std.proofs.lemmas.List.{take-take, drop-drop, drop-take, take_all, length-take}
use Rattle.std.proofs.lemmas.Bool.{cases_lt}
use Rattle.std.proofs.Math.Seq.{take-append-add}

-- a front of what is pending is a front of what stands behind the start
pub front_of_pending : (bytes : List ℕ) (start end count : ℕ) → count ≤ end - start
    → take count (slice_range bytes start end) ≡ take count (drop start bytes)
front_of_pending bytes start end count within = take-take count (end - start) (drop start bytes) within

-- a range that begins at the start
pub range_from : (bytes : List ℕ) (start count : ℕ) → slice_range bytes start (start + count) ≡ take count (drop start bytes)
range_from bytes start count = ap (λ n. take n (drop start bytes)) (let e : start + count - start ≡ count = omega arith in e)

-- what is pending once some of it was passed
pub pending_passed : (bytes : List ℕ) (start end count : ℕ) → start + count ≤ end
    → slice_range bytes (start + count) end ≡ drop count (slice_range bytes start end)
pending_passed bytes start end count within =
    let rest = end - (start + count) in
    let sum : end - start ≡ count + rest = omega arith in
    ap (λ l. take rest l) (sym (drop-drop count start bytes))
    ∙ sym (drop-take count rest (drop start bytes))
    ∙ ap (λ n. drop count (take n (drop start bytes))) (sym sum)

-- a front of a front
front_of_front : (ys : List ℕ) (count room kept : ℕ) → kept ≡ min count room → take room (take count ys) ≡ take kept ys
front_of_front ys count room kept is = elim (cases_lt count room) [
  | inl less ↦ take_all room (take count ys) (omega (arith, length-take count ys))
      ∙ ap (λ n. take n ys) (let e : count ≡ kept = omega arith in e)
  | inr more ↦ take-take room count ys more ∙ ap (λ n. take n ys) (let e : room ≡ kept = omega arith in e)
]

-- a front of the bytes is added as far as there is room for 8,192
pub kept_front : (spill ys : List ℕ) (count kept : ℕ) → length spill ≤ 8192 → kept ≡ min count (8192 - length spill)
    → spill ++ take kept ys ≡ take 8192 (spill ++ take count ys)
kept_front spill ys count kept short is =
    let room : length spill + (8192 - length spill) ≡ 8192 = omega arith in
    sym (
    ap (λ n. take n (spill ++ take count ys)) (sym room)
    ∙ take-append-add spill (take count ys) (8192 - length spill)
    ∙ ap (λ l. spill ++ l) (front_of_front ys count (8192 - length spill) kept is)
    )

-- the same of what is pending
pub kept_range : (spill bytes : List ℕ) (start end count kept : ℕ) → count ≤ end - start → length spill ≤ 8192
    → kept ≡ min count (8192 - length spill) → spill ++ slice_range bytes start (start + kept) ≡ take 8192
    (spill ++ take count (slice_range bytes start end))
kept_range spill bytes start end count kept within short is =
    ap (λ l. spill ++ l) (range_from bytes start kept)
    ∙ kept_front spill (drop start bytes) count kept short is
    ∙ ap (λ l. take 8192 (spill ++ l)) (sym (front_of_pending bytes start end count within))

-- no more is pending than the range has
pub pending_length : (bytes : List ℕ) (start end : ℕ) → length (slice_range bytes start end) ≤ end - start
pending_length bytes start end = omega (arith, length-take (end - start) (drop start bytes))

-- all of the range is pending where it lies within the bytes
pub pending_full : (bytes : List ℕ) (start end : ℕ) → start ≤ end → end ≤ length bytes → length (slice_range bytes start end) ≡ end - start
pending_full bytes start end ordered within = omega (arith, length-take (end - start) (drop start bytes), length-drop start bytes)

-- what is pending from a later start
pub pending_from : (bytes : List ℕ) (start next end count : ℕ) → next ≡ start + count → next ≤ end
    → slice_range bytes next end ≡ drop count (slice_range bytes start end)
pending_from bytes start next end count is within = ap (λ n. slice_range bytes n end) is
    ∙ pending_passed bytes start end count (omega arith)

-- a piece from its beginning
pub pending_piece : (bytes : List ℕ) (count : ℕ) → slice_range bytes 0 count ≡ take count bytes
pending_piece bytes count = ap (λ n. take n bytes) (let e : count - 0 ≡ count = omega arith in e)
