-- The requests of a workload: a series grows by rounds of values, and now and then a slot is set and the
-- whole series is viewed.
use Rattle.std.specs.Prelude.{ℕ, zero, suc, pos, ◌+◌, ◌*◌, ◌%◌, ◌-ℤ◌, ◌==◌, if◌then◌else◌, List, [], ◌∷◌, ◌++◌, None, Some, codes}
use Rattle.series_book.specs.declared.edits.Edit.TheVariants.{Create, Append, Set}
use Rattle.request_lines.specs.declared.requests.Request.{Request}
use Rattle.request_lines.specs.declared.requests.Request.TheVariants.{Edit, Open, View}
use Rattle.request_lines.specs.declared.ranges.RangeWord.TheVariants.{Auto}
use Rattle.demo_workload.specs.declared.draws.Walk.{Walk}
use Rattle.demo_workload.specs.Draws.{next_state, number_in, walked, values}

-- the name of the series
abbrev pub name : List ℕ
name = codes "demo"

-- `create demo 0 1 0`
abbrev pub creates : Request
creates = Edit (Create name (pos 0) 1 0)

-- `open 1`
abbrev pub opens : Request
opens = Open 1 None

-- an append of 256 values, each by one draw
abbrev pub appends : Walk → Request
appends walk = Edit (Append name (values 256 walk))

-- how many slots were appended by the end of round i, whether these appends are refused or not
abbrev pub slots_after : ℕ → ℕ
slots_after i = 256 * (i + 1)

-- the set of one of so many slots to a value from -1,000 to 1,000: a draw names the slot, and the next one the value
abbrev pub sets : ℕ → Walk → Request
sets slots walk =
    let first = next_state walk.state in
    let second = next_state first in
    Edit (Set name (pos (number_in first % slots)) (Some (pos (number_in second % 2001) -ℤ pos 1000) ∷ []))

-- a view of so many slots on a canvas of 640 by 240 pixels
abbrev pub views : ℕ → Request
views slots = View 1 name 640 240 (pos 0) (pos slots) Auto None

-- round i has a set where i mod 4 is 3
abbrev pub set_in : ℕ → Walk → List Request
set_in i walk = if i % 4 == 3 then sets (slots_after i) walk ∷ [] else []

-- a set takes two draws, which leave the last value of the walk
abbrev pub drawn_twice : Walk → Walk
drawn_twice walk = record walk { state = next_state (next_state walk.state) }

abbrev pub after_set : ℕ → Walk → Walk
after_set i walk = if i % 4 == 3 then drawn_twice walk else walk

-- it has a view where i mod 8 is 7
abbrev pub view_in : ℕ → List Request
view_in i = if i % 8 == 7 then views (slots_after i) ∷ [] else []

-- the requests of round i, before which the draws stand there
abbrev pub round : ℕ → Walk → List Request
round i walk = appends walk ∷ set_in i (walked 256 walk) ++ view_in i

-- where the draws stand behind it
abbrev pub after_round : ℕ → Walk → Walk
after_round i walk = after_set i (walked 256 walk)

-- so many rounds, of which the first is round i
unfoldable pub rounds : ℕ → ℕ → Walk → List Request
rounds zero i walk = []
rounds (suc count) i walk = round i walk ++ rounds count (i + 1) (after_round i walk)

-- the requests of the workload of a seed with so many rounds
abbrev pub workload : ℕ → ℕ → List Request
workload seed count = creates ∷ opens ∷ rounds count 0 (record { state = seed; value = pos 0 })
