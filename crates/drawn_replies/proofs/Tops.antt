-- The span of the top key is that of all slots.
use Rattle.std.proofs.Common.{ℕ, ℤ, ◌≡◌, ◌^◌, ◌≤◌, List, length, Option, sym, ap, ◌∙◌, arith}
use Rattle.std.proofs.lemmas.Bool.Decides.{nat_tests}
use Rattle.om3_coeff.specs.Keys.{height, top_key, page_levels, first_slot, end_slot}
use Rattle.om3_coeff.specs.Spans.{span, span_of, span_over}

deep : (n : ℕ) → n ≤ 2 ^ 35 → n ≤ 2 ^ height n
unfolding page_levels
deep n few = grind (arith, nat_tests)

first-zero : (n : ℕ) → first_slot (top_key n) ≡ 0
first-zero n = omega arith

end-is : (n : ℕ) → end_slot (top_key n) ≡ 2 ^ height n
end-is n = omega arith

pub top-span : ((list : List (Option ℤ)) (b : ℕ) → length list ≤ b → span_over list 0 b ≡ span_of list)
    → (list : List (Option ℤ)) → length list ≤ 2 ^ 35 → span list (top_key (length list)) ≡ span_over list 0 (length list)
top-span all list few =
    ap (λ a. span_over list a (end_slot (top_key (length list)))) (first-zero (length list))
    ∙ ap (λ b. span_over list 0 b) (end-is (length list))
    ∙ all list (2 ^ height (length list)) (deep (length list) few)
    ∙ sym (all list (length list) (omega arith))
