-- There is one list of samples of a sum.
use Rattle.std.proofs.Common.{◌≡◌, ◌∙◌, ℤ, ◌<ℤ◌, List, [], ◌∷◌, inl, inr, Option, refl, sym, ap, subst, arith, get_or}
use Rattle.std.proofs.lemmas.Int.{ints}
use Rattle.std.proofs.lemmas.List.{get_or-map, length-map}
use Rattle.std.proofs.lemmas.List.Elements.{All-contains}
use Rattle.std.specs.Prelude.{AllPairs, Contains}
use Rattle.chart_grid.specs.declared.axis.Axis.{Axis}
use Rattle.chart_grid.specs.declared.grid.Grid.{Grid}
use Rattle.plain_chart.specs.declared.sample.Sample.{Sample}
use Rattle.plain_chart.specs.Samples.{sample_points}
use Rattle.derived_chart.specs.Points.{AreSumSamples}
use Rattle.derived_chart.proofs.PointLemmas.{IsEarlier}
use Rattle.derived_chart.proofs.RowLemmas.{at_head, head_or_rest, heads_rest, in_rest, rest_rise}

-- samples whose points are in order of time
rise_of : (samples : List Sample) → AllPairs (λ p q. p.0 <ℤ q.0) (sample_points samples) → AllPairs IsEarlier samples
rise_of samples rise = λ i j d less short.
    let point : Sample → ℤ × ℤ = λ s. (s.time, s.value) in
    let low = get_or-map point samples i d (point d) (omega (arith, less, short)) in
    let high = get_or-map point samples j d (point d) short in
    let P : ℤ × ℤ → Type 0 = λ p. p.0 <ℤ (get_or (sample_points samples) j (point d)).0 in
    let Q : ℤ × ℤ → Type 0 = λ q. (get_or samples i d).time <ℤ q.0 in
    subst Q high (subst P low (rise i j (point d) less (omega (arith, short, length-map samples point))))

-- lists in order of time with the same samples are one
one_list : (xs ys : List Sample) → AllPairs IsEarlier xs → AllPairs IsEarlier ys → ((s : Sample) → Contains xs s → Contains ys s)
    → ((s : Sample) → Contains ys s → Contains xs s) → xs ≡ ys
one_list [] [] rise also to back = refl
one_list [] (y ∷ ys) rise also to back = absurd (omega (arith, (back y (at_head y ys)).1))
one_list (x ∷ xs) [] rise also to back = absurd (omega (arith, (to x (at_head x xs)).1))
one_list (x ∷ xs) (y ∷ ys) rise also to back =
    let same : x ≡ y = elim (head_or_rest y ys x (to x (at_head x xs))) [
      | inl first ↦ sym first
      | inr later ↦ elim (head_or_rest x xs y (back y (at_head y ys))) [
        | inl first ↦ first
        | inr behind ↦ absurd (omega (
          arith,
          ints,
          All-contains (IsEarlier y) ys x (heads_rest y ys also) later,
          All-contains (IsEarlier x) xs y (heads_rest x xs rise) behind,
        ))
      ]
    ] in
    let there : (s : Sample) → Contains xs s → Contains ys s = λ s is. elim (head_or_rest y ys s (to s (in_rest x xs s is))) [
      | inl first ↦ absurd (omega (
        arith,
        ints,
        All-contains (IsEarlier x) xs s (heads_rest x xs rise) is,
        ap (λ (t : Sample). t.time) (same ∙ first),
      ))
      | inr later ↦ later
    ] in
    let here : (s : Sample) → Contains ys s → Contains xs s = λ s is. elim (head_or_rest x xs s (back s (in_rest y ys s is))) [
      | inl first ↦ absurd (omega (
        arith,
        ints,
        All-contains (IsEarlier y) ys s (heads_rest y ys also) is,
        ap (λ (t : Sample). t.time) (sym same ∙ first),
      ))
      | inr later ↦ later
    ] in
    ap (λ s. s ∷ xs) same ∙ ap (λ list. y ∷ list) (one_list xs ys (rest_rise x xs rise) (rest_rise y ys also) there here)

pub samples_one : (g : Grid) (a b : ℤ) (x y : Axis) (xs ys : List (Option ℤ)) (one other : List Sample) → AreSumSamples g a b x y xs ys one
    → AreSumSamples g a b x y xs ys other → one ≡ other
samples_one g a b x y xs ys one other first second =
    one_list one other (rise_of one first.order.rising) (rise_of other second.order.rising)
    (λ s there. (second.each s.time s.value).1 ((first.each s.time s.value).0 there))
    (λ s there. (first.each s.time s.value).1 ((second.each s.time s.value).0 there))
