-- The pairs of another series, when a view needs keys of one.
use Rattle.std.proofs.Common.{◌≡◌, ◌≢◌, ℕ, Bool, true, false, cond, not, ◌&&◌, nat_eq, ◌==◌, List, [], ◌∷◌, ◌++◌, take, reverse, is_some}
use Rattle.std.proofs.Common.{Some, refl, sym, ap, ◌∙◌}
use Rattle.std.specs.List.{filter}
use Rattle.std.specs.Map.{lookup}
use Rattle.std.proofs.lemmas.List.Elements.{filter-append}
use Rattle.std.proofs.lemmas.Bool.Decides.{Decides-eqb}
use Rattle.om3_coeff.specs.declared.key.Key.{Key}
use Rattle.om3_coeff.specs.declared.coef.Coef.{Coef}
use Rattle.coefficient_cache.specs.declared.series_key.SeriesKey.{SeriesKey}
use Rattle.coefficient_cache.specs.Pairs.{series_key, key_eq, in_series, has}
use Rattle.coefficient_cache.specs.Views.{hits, news, others, renewed, of_series}
use Rattle.coefficient_cache.proofs.Filtered.{filter-reverse, filter-take}

unequal : (a b : ℕ) → a ≢ b → nat_eq a b ≡ false
unequal a b apart = (elim (nat_eq a b) as (λ r. nat_eq a b ≡ r → nat_eq a b ≡ false) [
  | true ↦ λ t. absurd (apart ((Decides-eqb a b).0 t))
  | false ↦ λ t. t
]) refl

module _ (series other : ℕ) (apart : other ≢ series) where
  -- what a filter keeps of the needed pairs has none of the other series
  none_needed : (q : SeriesKey × Coef → Bool) (needed : List (Key × Coef)) → of_series other (filter q (in_series series needed)) ≡ []
  none_needed q [] = refl
  none_needed q (e ∷ es) =
      let on = none_needed q es in
      elim (q (series_key series e.0, e.1)) as (λ b. of_series other
      (cond b ((series_key series e.0, e.1) ∷ filter q (in_series series es)) (filter q (in_series series es))) ≡ []) [
        | true ↦ ap (λ b. cond b ((series_key series e.0, e.1) ∷ of_series other (filter q (in_series series es)))
            (of_series other (filter q (in_series series es)))) (unequal series other (λ same. apart (sym same))) ∙ on
        | false ↦ on
      ]

  -- no key of the other series is needed
  not_needed : (needed : List (Key × Coef)) (k : SeriesKey) → nat_eq k.series other ≡ true → has (in_series series needed) k ≡ false
  not_needed [] k h = refl
  not_needed (e ∷ es) k h =
      let differs : nat_eq k.series series ≡ false = unequal k.series series
      (λ same. apart (sym ((Decides-eqb k.series other).0 h) ∙ same)) in
      ap (λ b. is_some (cond (b && (nat_eq k.level e.0.level && nat_eq k.index e.0.index)) (Some e.1)
      (lookup (key_eq k) (in_series series es)))) differs
      ∙ not_needed es k h

  -- all its pairs are among the others
  all_others : (pairs : List (SeriesKey × Coef)) (needed : List (Key × Coef))
      → of_series other (others pairs (in_series series needed)) ≡ of_series other pairs
  all_others [] needed = refl
  all_others (p ∷ ps) needed =
      let on = all_others ps needed in
      let rest = others ps (in_series series needed) in
      (elim (nat_eq p.0.series other) as (λ b. nat_eq p.0.series other ≡ b
      → of_series other (others (p ∷ ps) (in_series series needed)) ≡ cond b (p ∷ of_series other ps) (of_series other ps)) [
        | true ↦ λ t.
            ap (λ b. of_series other (cond (not b) (p ∷ rest) rest)) (not_needed needed p.0 t)
            ∙ ap (λ b. cond b (p ∷ of_series other rest) (of_series other rest)) t
            ∙ ap (λ l. p ∷ l) on
        | false ↦ λ t. (elim (has (in_series series needed) p.0) as
            (λ b. of_series other (cond (not b) (p ∷ rest) rest) ≡ of_series other ps) [
              | true ↦ on
              | false ↦ ap (λ b. cond b (p ∷ of_series other rest) (of_series other rest)) t ∙ on
            ])
      ]) refl

  pub loses-the-last : (capacity : ℕ) (pairs : List (SeriesKey × Coef)) (needed : List (Key × Coef))
      → (n : ℕ) × (of_series other (renewed capacity pairs (in_series series needed)) ≡ take n (of_series other pairs))
  loses-the-last capacity pairs needed =
      let all = in_series series needed in
      let of : SeriesKey × Coef → Bool = λ e. e.0.series == other in
      let front = reverse (news pairs all) ++ reverse (hits pairs all) in
      let cut = filter-take of capacity (front ++ others pairs all) in
      let gone : of_series other front ≡ [] =
      filter-append of (reverse (news pairs all)) (reverse (hits pairs all))
      ∙ (λ i. (filter-reverse of (news pairs all) ∙ ap reverse (none_needed (λ e. not (has pairs e.0)) needed))
      i ++ (filter-reverse of (hits pairs all) ∙ ap reverse (none_needed (λ e. has pairs e.0) needed)) i) in
      (cut.0, cut.1 ∙ ap (take cut.0) (filter-append of front (others pairs all) ∙ (λ i. gone i ++ all_others pairs needed i)))
