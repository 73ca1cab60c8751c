-- How often blocks are read and the disk is synced by the lines of an input, over a book.
use Rattle.std.proofs.Common.{◌≡◌, ◌∙◌, ℕ, ◌+◌, ◌*◌, ◌/◌, ◌-◌, ◌<◌, ◌≤◌, List, ◌++◌, length, Option, ap, sym, arith, length-append}
use Rattle.std.proofs.Math.Nat.{le-div_iff_mul-le}
use Rattle.chart_world.specs.Lines.{lines}
use Rattle.series_store.specs.Groups.{weight}
use Rattle.chart_service.specs.Serving.{told}
use Rattle.chart_service.specs.State.{State}
use Rattle.chart_service.specs.Syncing.{edits_of, most_syncs}
use Rattle.chart_service.proofs.SyncLemmas.{edits_joined, edits_told, told_less, weight_joined}
use Rattle.served_lines.specs.Turning.{Costs}

divided : (n k m : ℕ) → 0 < k → n * k ≤ m → n ≤ m / k
divided n k m some most = (le-div_iff_mul-le some).1 most

-- Of lines that say something, in these bytes, some first ones were done.
pub costs_lines : (state : State) (front : List ℕ) (all done more : List (Option (List ℕ))) (paused taken from to : ℕ)
    → all ≡ told front → all ≡ done ++ more → paused ≤ taken + 2 → Costs state (edits_of done) all paused from to
    → (others : ℕ) × (length (lines front) ≡ others + length (edits_of (lines front)))
    × (to ≤ from + most_syncs state.total state.book (edits_of (lines front)) others taken)
costs_lines state front all done more paused taken from to told_is split few c =
    let every = edits_of (lines front) in
    let edits_are : edits_of all ≡ every = ap edits_of told_is ∙ edits_told (lines front) in
    let parts : every ≡ edits_of done ++ edits_of more = sym edits_are ∙ ap edits_of split ∙ edits_joined done more in
    let said : length all ≤ length (lines front) = omega (arith, ap length told_is, told_less (lines front)) in
    let blank = length (lines front) - length all in
    let longer : length (edits_of done) ≤ length every = omega (arith, ap length parts, length-append (edits_of done) (edits_of more)) in
    let heavier : weight state.total state.book (edits_of done) ≤ weight state.total state.book every =
    omega (arith, ap (weight state.total state.book) parts, weight_joined state.total state.book (edits_of done) (edits_of more)) in (
      c.others + blank,
      omega (arith, c.counted, said, ap length edits_are),
      omega (
        arith,
        c.few,
        few,
        divided c.full 64 (length every) (omega arith) (omega (arith, c.full_paid, longer)),
        divided c.heavy 22 (weight state.total state.book every) (omega arith) (omega (arith, c.heavy_paid, heavier)),
      ),
    )
