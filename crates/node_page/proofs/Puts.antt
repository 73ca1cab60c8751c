-- What writing a number at an offset makes.
use Rattle.std.proofs.Common.{◌≡◌, ◌≢◌, ℕ, ℤ, FitsSigned, of_z, ◌+◌, ◌*◌, ◌^◌, ◌<◌, ◌≤◌, ◌⊎◌, inl, inr, List, length, get_or, sym, ap, ◌∙◌}
use Rattle.std.proofs.Common.{arith}
use Rattle.std.proofs.lemmas.Bool.{cases_order}
use Rattle.std.specs.Int.{w64, bytes_high_first, cast_signed}
use Rattle.std.proofs.lemmas.Int.{to_z-of_z}
use Rattle.byteorder.specs.Numbers.{length-bytes_high_first}
use Rattle.node_page.specs.Fields.{number_at, signed_at, child_at, with_bytes}
use Rattle.node_page.proofs.Bytes.{number_same, number_written, written_before, written_behind}

-- the number stands there, and all bytes but its own are the same
pub record IsPut (size x at : ℕ) (old new : List ℕ) : Type 0 where
  pub is : number_at new size at ≡ x
  pub rest : (k : ℕ) → (k < at) ⊎ (at + size ≤ k) → get_or new k 0 ≡ get_or old k 0

rest_written : (size at x k : ℕ) (page : List ℕ) → at ≤ length page → (k < at) ⊎ (at + size ≤ k)
    → get_or (with_bytes page at (bytes_high_first size x)) k 0 ≡ get_or page k 0
rest_written size at x k page within (inl before) = written_before at k page (bytes_high_first size x) within before
rest_written size at x k page within (inr behind) =
    written_behind at k page (bytes_high_first size x) within (omega (arith, behind, length-bytes_high_first size x))

pub puts : (size x at : ℕ) (old new bytes : List ℕ) → new ≡ with_bytes old at bytes → bytes ≡ bytes_high_first size x → at ≤ length old
    → x < 256 ^ size → IsPut size x at old new
puts size x at old new bytes made are within fits =
    let all : new ≡ with_bytes old at (bytes_high_first size x) = made ∙ ap (with_bytes old at) are in
    record {
      is = ap (λ (l : List ℕ). number_at l size at) all ∙ number_written size at x old within fits;
      rest = λ k beside. ap (λ (l : List ℕ). get_or l k 0) all ∙ rest_written size at x k old within beside;
    }

-- a child is the number that was put
pub child_is_put : (child x at : ℕ) (old new : List ℕ) → at ≡ 2072 + 4 * child → IsPut 4 x at old new → child_at new child ≡ x
unfolding child_at
child_is_put child x at old new place put = ap (number_at new 4) (sym place) ∙ put.is

-- the other children are the same
pub other_child : (c child x at : ℕ) (old new : List ℕ) → at ≡ 2072 + 4 * child → c ≢ child → IsPut 4 x at old new
    → child_at new c ≡ child_at old c
unfolding child_at
other_child c child x at old new place other put =
    number_same 4 (2072 + 4 * c) old new (λ k from to.
    put.rest k (elim (cases_order c child) [
      | inl same ↦ absurd (other same)
      | inr differ ↦ elim differ [ inl less ↦ inl (omega (arith, less, to, place)) | inr more ↦ inr (omega (arith, more, from, place)) ]
    ]))

-- children depend on their bytes alone
pub child_same : (c : ℕ) (old new : List ℕ) → c < 128 → ((k : ℕ) → 2072 ≤ k → k < 2584 → get_or new k 0 ≡ get_or old k 0)
    → child_at new c ≡ child_at old c
unfolding child_at
child_same c old new few same = number_same 4 (2072 + 4 * c) old new (λ k from to. same k (omega (arith, from)) (omega (arith, few, to)))

-- all bytes but those of a child are the same
pub put_rest : (child x at k : ℕ) (old new : List ℕ) → at ≡ 2072 + 4 * child → IsPut 4 x at old new
    → (k < 2072 + 4 * child) ⊎ (2076 + 4 * child ≤ k) → get_or new k 0 ≡ get_or old k 0
put_rest child x at k old new place put (inl before) = put.rest k (inl (omega (arith, before, place)))
put_rest child x at k old new place put (inr behind) = put.rest k (inr (omega (arith, behind, place)))

-- a signed number is the one whose bits were put
pub signed_is_put : (at x : ℕ) (z : ℤ) (old new : List ℕ) → x ≡ of_z w64 z → FitsSigned w64 z → IsPut 8 x at old new → signed_at new at ≡ z
unfolding signed_at
signed_is_put at x z old new bits fits put = ap (cast_signed w64) (put.is ∙ bits) ∙ to_z-of_z w64 z fits
