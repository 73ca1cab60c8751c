-- No key comes before itself.
use Rattle.std.proofs.Common.{◌≢◌, List, [], ◌∷◌, get_or, inl, inr, ap, arith}
use Rattle.std.proofs.lemmas.List.Kept.{AllPairs-cons}
use Rattle.std.specs.Prelude.{AllPairs}
use Rattle.om3_coeff.specs.declared.key.Key.{Key}
use Rattle.om3_coeff.specs.declared.coef.Coef.{Coef}
use Rattle.view_keys.specs.Listed.{ComesBefore, AreInOrder}

pub other_key : (a b : Key) → ComesBefore a b → a ≢ b
other_key a b (inl higher) same = absurd (omega (arith, higher, ap (λ k. k.level) same))
other_key a b (inr (level, lower)) same = absurd (omega (arith, lower, ap (λ k. k.index) same))

pub distinct : (entries : List (Key × Coef)) → AreInOrder entries → AllPairs (λ e f. e.0 ≢ f.0) entries
distinct [] order = λ i j d less short. absurd (omega arith)
distinct (e ∷ es) (first, rest) =
    AllPairs-cons (λ e f. e.0 ≢ f.0) e es (λ k d less. other_key e.0 (get_or es k d).0 (first k d less)) (distinct es rest)
