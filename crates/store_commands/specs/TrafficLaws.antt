-- What is so of an input that was read to its end.
use Rattle.std.proofs.Common.{ℕ, ◌≤◌, ◌^◌, List, length, Option, None, Some, Result, Ok, Err, IfSome, OnOk}
use Rattle.chart_world.specs.Reading.{IsReadUp}
use Rattle.store_commands.specs.Traffic.{WasRead, WasReadWithin}

-- it is short enough, too
pub was_read_within : (most : ℕ) (left left' : Option (List ℕ)) → IfSome left (λ input. length input ≤ most) → IsReadUp left left'
    → WasReadWithin most left left'
was_read_within most None left' within whole = tt
was_read_within most (Some input) left' within whole = (within, whole)

pub was_read : (left left' : Option (List ℕ)) → IfSome left (λ input. length input ≤ 2 ^ 32) → IsReadUp left left' → WasRead left left'
was_read left left' within whole = was_read_within (2 ^ 32) left left' within whole

-- of what a call answered
pub read_on : {T E : Type 0} (result : Result T E) (left left' : Option (List ℕ))
    → OnOk result (IfSome left (λ input. length input ≤ 2 ^ 32)) → OnOk result (IsReadUp left left') → OnOk result (WasRead left left')
read_on {T} {E} (Ok done) left left' within whole = was_read left left' within whole
read_on {T} {E} (Err e) left left' within whole = tt
