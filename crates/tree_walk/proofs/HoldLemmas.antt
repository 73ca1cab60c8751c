-- What a trail holds after a page was read into it.
use Rattle.std.proofs.Common.{◌≡◌, ℕ, ◌+◌, ◌-◌, ◌<◌, ◌≤◌, List, set, length, sym, ap, subst, inl, inr, ◌∙◌, arith}
use Rattle.std.proofs.lemmas.Bool.{cases_lt}
use Rattle.block_disk.specs.View.{Image, View}
use Rattle.gate_pages.specs.Pages.{Reads}
use Rattle.tree_walk.specs.declared.held_page.HeldPage.{HeldPage}
use Rattle.tree_walk.specs.Trails.{number_at, bytes_at, IsHeld, AreHeld}
use Rattle.tree_walk.specs.Holding.{IsSameAbove}
use Rattle.tree_walk.proofs.TrailLemmas.{number_set, bytes_set, number_other, bytes_other}

-- a held page stays one while the pages stay
pub still_held : (told told' : Type 0) (image image' : Image) (total total' level number : ℕ) (bytes : List ℕ) → (told' → told)
    → (told → image' ≡ image) → total' ≡ total
    → IsHeld told image total level number bytes → IsHeld told' image' total' level number bytes
still_held told told' image image' total total' level number bytes back same size held = record {
  below = omega (arith, held.below, size);
  keeps = held.keeps;
  level_is = held.level_is;
  as_told = λ t. held.as_told (back t) ∙ sym (ap (λ (pages : Image). pages number) (same (back t)));
}

pub same_above : (pages : List HeldPage) (depth : ℕ) (page : HeldPage) → depth < length pages
    → IsSameAbove depth pages (set pages depth page)
same_above pages depth page within = record {
  numbers = λ at less. number_other pages depth at page within less;
  bytes = λ at less. bytes_other pages depth at page within less;
}

-- the same number and bytes
same_held : (told : Type 0) (image : Image) (total level number number' : ℕ) (bytes bytes' : List ℕ) → number' ≡ number → bytes' ≡ bytes
    → IsHeld told image total level number bytes → IsHeld told image total level number' bytes'
same_held told image total level number number' bytes bytes' same_number same held =
    let P : ℕ → Type 0 = λ n. IsHeld told image total level n bytes' in
    let Q : List ℕ → Type 0 = λ b. IsHeld told image total level number b in
    subst P (sym same_number) (subst Q (sym same) held)

pub held_above : (told told' : Type 0) (old new : View) (levels len depth : ℕ) (pages : List HeldPage) (page : HeldPage)
    → Reads told told' old new
    → AreHeld told old.image old.size levels pages len → depth ≤ len → depth < length pages
    → AreHeld told' new.image new.size levels (set pages depth page) depth
held_above told told' old new levels len depth pages page reads held within room = λ at less.
    same_held told' new.image new.size (levels - at) (number_at pages at) (number_at (set pages depth page) at) (bytes_at pages at)
    (bytes_at (set pages depth page) at)
    (number_other pages depth at page room less) (bytes_other pages depth at page room less)
    (still_held told told' old.image new.image old.size new.size (levels - at) (number_at pages at)
    (bytes_at pages at) reads.was_told reads.image reads.size
    (held at (omega (arith, less, within))))

pub held_with : (told told' : Type 0) (old new : View) (levels len depth : ℕ) (pages : List HeldPage) (page : HeldPage)
    → Reads told told' old new
    → AreHeld told old.image old.size levels pages len → depth ≤ len → depth < length pages
    → IsHeld told' new.image new.size (levels - depth) page.number page.bytes.items
    → AreHeld told' new.image new.size levels (set pages depth page) (depth + 1)
held_with told told' old new levels len depth pages page reads held within room here = λ at less. elim (cases_lt at depth) [
  | inl above ↦ held_above told told' old new levels len depth pages page reads held within room at above
  | inr more ↦
      let same : depth ≡ at = omega (arith, less, more) in
      let P : ℕ → Type 0 = λ n. IsHeld told' new.image new.size (levels - n) (number_at (set pages depth page) n)
      (bytes_at (set pages depth page) n) in
      subst P same (same_held told' new.image new.size (levels - depth) page.number
      (number_at (set pages depth page) depth) page.bytes.items (bytes_at (set pages depth page) depth)
      (number_set pages depth page room) (bytes_set pages depth page room) here)
]
