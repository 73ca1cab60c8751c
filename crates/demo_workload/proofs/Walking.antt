-- The walk of the values and the list of them, one draw further.
use Rattle.std.proofs.Common.{ℕ, ℤ, zero, suc, ◌≡◌, ◌+◌, ◌++◌, [], ◌∷◌, length, Some, refl, ap, ap₂, ◌∙◌, add-one, length-append, arith}
use Rattle.demo_workload.specs.declared.draws.Walk.{Walk}
use Rattle.demo_workload.specs.Draws.{next_state, number_in, moved, after_draw, walked, values}

pub walked_more : (k : ℕ) (walk : Walk) → walked (k + 1) walk ≡ after_draw (walked k walk)
unfolding walked
walked_more k walk = rw add-one refl

pub values_more : (k : ℕ) (walk : Walk) → values (k + 1) walk ≡ values k walk ++ Some (walked (k + 1) walk).value ∷ []
unfolding values
values_more k walk = rw add-one refl

pub length_values : (n : ℕ) (walk : Walk) → length (values n walk) ≡ n
unfolding values
length_values zero walk = refl
length_values (suc n) walk = simp length-append (omega (arith, length_values n walk))

pub after_draw_is : (walk : Walk) (state : ℕ) (value : ℤ) (number : ℕ) → state ≡ next_state walk.state
    → number ≡ number_in (next_state walk.state)
    → value ≡ moved walk.value number → ◌≡◌ {A = Walk} (record { state = state; value = value }) (after_draw walk)
unfolding after_draw
after_draw_is walk state value number s n v =
    let e : value ≡ moved walk.value (number_in (next_state walk.state)) = v ∙ ap (λ (k : ℕ). moved walk.value k) n in
    ap₂ (λ (a : ℕ) (b : ℤ). let w : Walk = record { state = a; value = b } in w) s e
