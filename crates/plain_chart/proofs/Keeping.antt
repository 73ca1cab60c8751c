-- One slot more, and what the view keeps of it.
use Rattle.std.proofs.Common.{◌≡◌, ℕ, ℤ, ◌+◌, ◌<◌, List, [], ◌∷◌, ◌++◌, length, take, get_or, Option, None, Some, sym, ap, subst, ◌∙◌, refl}
use Rattle.std.proofs.Common.{arith, length-take}
use Rattle.std.proofs.lemmas.List.{take_more, map-append}
use Rattle.std.proofs.lemmas.List.Elements.{filter_map-append, All-nil, All-cons, All-head, All-tail}
use Rattle.std.specs.Prelude.{All, true, false, if◌then◌else◌}
use Rattle.std.specs.List.{enumerate_from, filter_map, cons_option}
use Rattle.std.specs.Option.{option_to_list}
use Rattle.chart_grid.specs.declared.grid.Grid.{Grid}
use Rattle.chart_grid.specs.declared.axis.Axis.{Axis}
use Rattle.plain_chart.specs.declared.sample.Sample.{Sample}
use Rattle.plain_chart.specs.Samples.{kept, kept_at, values_of, in_window}
use Rattle.chart_grid.specs.Slots.{slot_time}

enumerated : {X : Type 0} (n i : ℕ) (xs : List X) (x : X) → i ≡ n + length xs
    → enumerate_from n (xs ++ (x ∷ [])) ≡ enumerate_from n xs ++ ((i, x) ∷ [])
enumerated n i [] x at = ap (λ k. (k, x) ∷ []) (omega (arith, at))
enumerated n i (y ∷ ys) x at = ap (λ zs. (n, y) ∷ zs) (enumerated (n + 1) i ys x (omega (arith, at)))

one_more : (h : ℕ × Option ℤ → Option Sample) (at : ℕ × Option ℤ) → filter_map h (at ∷ []) ≡ option_to_list (h at)
one_more h at = elim (h at) as (λ o. filter_map (λ _. o) (at ∷ []) ≡ option_to_list o) [ None ↦ refl | Some s ↦ refl ]

-- the samples of one slot more are those so far and that slot's
pub kept_more : (g : Grid) (axis : Axis) (slots : List (Option ℤ)) (i : ℕ) (d : Option ℤ) → i < length slots
    → kept g axis (take (i + 1) slots) ≡ kept g axis (take i slots) ++ option_to_list (kept_at g axis (i, get_or slots i d))
kept_more g axis slots i d inside =
    let h = kept_at g axis in
    let at : i ≡ 0 + length (take i slots) = simp length-take (omega arith) in
    ap (λ xs. filter_map h (enumerate_from 0 xs)) (take_more slots i d inside)
    ∙ ap (filter_map h) (enumerated 0 i (take i slots) (get_or slots i d) at)
    ∙ filter_map-append h (enumerate_from 0 (take i slots)) ((i, get_or slots i d) ∷ [])
    ∙ ap (λ zs. filter_map h (enumerate_from 0 (take i slots)) ++ zs) (one_more h (i, get_or slots i d))

-- what holds of the values so far and the next slot's holds of the values with that slot
pub values_more : (P : List ℤ → Type 0) (g : Grid) (axis : Axis) (slots : List (Option ℤ)) (i : ℕ) (d : Option ℤ) (o : Option Sample)
    → i < length slots → o ≡ kept_at g axis (i, get_or slots i d)
    → P (values_of (kept g axis (take i slots)) ++ values_of (option_to_list o)) → P (values_of (kept g axis (take (i + 1) slots)))
values_more P g axis slots i d o inside is h =
    let f : List Sample → List ℤ = values_of in
    let O : Option Sample → Type 0 = λ x. P (f (kept g axis (take i slots)) ++ f (option_to_list x)) in
    let joined : f (kept g axis (take (i + 1) slots)) ≡ f (kept g axis (take i slots)) ++ f
    (option_to_list (kept_at g axis (i, get_or slots i d))) =
    ap f (kept_more g axis slots i d inside) ∙ map-append (λ s. s.value) (kept g axis (take i slots))
    (option_to_list (kept_at g axis (i, get_or slots i d))) in
    subst P (sym joined) (subst O is h)

-- what holds of each stored value holds of each kept value
pub values_hold : (P : ℤ → Type 0) (Q : Option ℤ → Type 0) (g : Grid) (axis : Axis) (n : ℕ) (slots : List (Option ℤ))
    → ((v : ℤ) → Q (Some v) → P v) → All Q slots → All P (values_of (filter_map (kept_at g axis) (enumerate_from n slots)))
values_hold P Q g axis n [] same all = All-nil P
values_hold P Q g axis n (None ∷ slots) same all = values_hold P Q g axis (n + 1) slots same (All-tail Q None slots all)
values_hold P Q g axis n (Some v ∷ slots) same all =
    let rest = values_hold P Q g axis (n + 1) slots same (All-tail Q (Some v) slots all) in
    let here : P v = same v (All-head Q (Some v) slots all) in
    elim (in_window g (slot_time axis n)) as (λ b. All P
    (values_of (cons_option (if b then Some (record { time = slot_time axis n; value = v })
    else None) (filter_map (kept_at g axis) (enumerate_from (n + 1) slots))))) [
      | true ↦ All-cons P v (values_of (filter_map (kept_at g axis) (enumerate_from (n + 1) slots))) here rest
      | false ↦ rest
    ]
