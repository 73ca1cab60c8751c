-- The requests of rounds, one round further.
use Rattle.std.proofs.Common.{ℕ, zero, suc, pos, ◌≡◌, ◌+◌, ◌-◌, ◌*◌, ◌%◌, ◌<◌, ◌≤◌, ◌==◌, Bool, true, false, if◌then◌else◌, List, [], ◌∷◌}
use Rattle.std.proofs.Common.{◌++◌, length, length-append, refl, sym, ap, ap₂, ◌∙◌, arith}
use Rattle.series_book.specs.Names.{is_name, is_name_byte}
use Rattle.request_lines.specs.declared.requests.Request.{Request}
use Rattle.demo_workload.specs.declared.draws.Walk.{Walk}
use Rattle.demo_workload.specs.declared.plans.Stage.{Stage}
use Rattle.demo_workload.specs.declared.plans.Stage.TheVariants.{Append}
use Rattle.demo_workload.specs.Draws.{walked}
use Rattle.demo_workload.specs.Workload.{name, appends, set_in, after_set, view_in, round, after_round, rounds, workload}
use Rattle.demo_workload.specs.Remaining.{from_stage}

pub no_rounds : (n i : ℕ) (walk : Walk) → n ≡ 0 → rounds n i walk ≡ []
unfolding rounds
no_rounds zero i walk none = refl
no_rounds (suc n) i walk none = absurd (omega arith)

pub rounds_more : (n i : ℕ) (walk : Walk) → 0 < n → rounds n i walk ≡ round i walk ++ rounds (n - 1) (i + 1) (after_round i walk)
unfolding rounds
rounds_more zero i walk some = absurd (omega arith)
rounds_more (suc n) i walk some = let e : suc n - 1 ≡ n = omega arith in rw e refl

pub name_is : is_name name ≡ true
unfolding is_name is_name_byte
name_is = refl

-- an append is followed by what stands behind it
pub append_given : (stage : Stage) (i left : ℕ) (walk walk' : Walk) (request : Request) (rest : List Request) → stage ≡ Append → 0 < left
    → request ≡ appends walk
    → walk' ≡ walked 256 walk → rest ≡ set_in i walk' ++ view_in i ++ rounds (left - 1) (i + 1) (after_set i walk')
    → from_stage stage i left walk ≡ request ∷ rest
append_given stage i left walk walk' request rest is some r w e =
    let after : Walk → List Request = λ v. set_in i v ++ view_in i ++ rounds (left - 1) (i + 1) (after_set i v) in
    ap (λ (s : Stage). from_stage s i left walk) is
    ∙ rounds_more left i walk some
    ∙ sym (ap₂ (λ (x : Request) (xs : List Request). x ∷ xs) r (e ∙ ap after w))

pub none_left : (stage : Stage) (i left : ℕ) (walk : Walk) → stage ≡ Append → left ≡ 0 → from_stage stage i left walk ≡ []
none_left stage i left walk is none = ap (λ (s : Stage). from_stage s i left walk) is ∙ no_rounds left i walk none

few_if : (b : Bool) (request : Request) → length (if b then request ∷ [] else []) ≤ 1
few_if true request = omega arith
few_if false request = omega arith

few_in_round : (i : ℕ) (walk : Walk) → length (round i walk) ≤ 3
few_in_round i walk =
    let sets : length (set_in i (walked 256 walk)) ≤ 1 = few_if (i % 4 == 3) _ in
    let views : length (view_in i) ≤ 1 = few_if (i % 8 == 7) _ in
    let both : length (set_in i (walked 256 walk) ++ view_in i) ≡ length (set_in i (walked 256 walk)) + length (view_in i) = length-append
    (set_in i (walked 256 walk)) (view_in i) in
    let all : length (round i walk) ≡ suc (length (set_in i (walked 256 walk) ++ view_in i)) = refl in
    omega arith

few_in_rounds : (n i : ℕ) (walk : Walk) → length (rounds n i walk) ≤ 3 * n
unfolding rounds
few_in_rounds zero i walk = omega arith
few_in_rounds (suc n) i walk =
    let here : length (round i walk) ≤ 3 = few_in_round i walk in
    let later : length (rounds n (i + 1) (after_round i walk)) ≤ 3 * n = few_in_rounds n (i + 1) (after_round i walk) in
    let both : length (round i walk ++ rounds n (i + 1) (after_round i walk)) ≡ length (round i walk) + length
    (rounds n (i + 1) (after_round i walk)) =
    length-append (round i walk) (rounds n (i + 1) (after_round i walk)) in
    omega arith

pub few_by_rounds : (seed count : ℕ) → length (workload seed count) ≤ 3 * count + 2
few_by_rounds seed count =
    let some : length (rounds count 0 (record { state = seed; value = pos 0 })) ≤ 3 * count = few_in_rounds count 0 _ in
    let all : length (workload seed count) ≡ suc (suc (length (rounds count 0 (record { state = seed; value = pos 0 })))) = refl in
    omega arith

pub few_requests : (seed count : ℕ) → count ≤ 4096 → length (workload seed count) ≤ 12290
few_requests seed count few =
    let some : length (rounds count 0 (record { state = seed; value = pos 0 })) ≤ 3 * count = few_in_rounds count 0 _ in
    let all : length (workload seed count) ≡ suc (suc (length (rounds count 0 (record { state = seed; value = pos 0 })))) = refl in
    omega arith
