-- The slots of a series stand at times, where the last one does.
use Rattle.std.proofs.Common.{refl, arith, ◌<◌, ℕ, ℤ, ◌-◌, ◌*◌, ◌≤◌}
use Rattle.std.proofs.lemmas.Nat.{mul-le}
use Rattle.whole_number.specs.SlotTimes.{ends_in_time, IsEarly, EndsInTime}

pub in_time : (start : ℤ) (step slots i : ℕ) → EndsInTime start step slots → i < slots → IsEarly start step i
unfolding ends_in_time
in_time start step slots i ends within =
    let last : i * step ≤ (slots - 1) * step = mul-le i step (slots - 1) step (omega (arith, within)) (omega arith) in
    grind (arith, last, ends, within)

-- no slots stand late
pub none_in_time : (start : ℤ) (step : ℕ) → EndsInTime start step 0
unfolding ends_in_time
none_in_time start step = refl

-- fewer slots end no later
pub fewer_in_time : (start : ℤ) (step slots fewer : ℕ) → fewer ≤ slots → EndsInTime start step slots → EndsInTime start step fewer
unfolding ends_in_time
fewer_in_time start step slots fewer less ends =
    let last : (fewer - 1) * step ≤ (slots - 1) * step = mul-le (fewer - 1) step (slots - 1) step (omega (arith, less)) (omega arith) in
    grind (arith, last, ends, less)
