-- What places say of their copies.
use Rattle.std.proofs.Common.{◌≡◌, ◌≢◌, ℕ, ◌*◌, ◌<◌, ◌++◌, cond, List, length, set, get_or, Option, Some, None, sym, ap, subst, inl, inr}
use Rattle.std.proofs.Common.{◌∙◌}
use Rattle.std.proofs.lemmas.Bool.{ne_eqb}
use Rattle.std.proofs.lemmas.Bool.Decides.{eqb_tells}
use Rattle.std.proofs.lemmas.List.{get_or-set_same, get_or-set_other}
use Rattle.std.proofs.lemmas.Option.{none-some, same_Some}
use Rattle.block_disk.specs.Blocks.{block_size}
use Rattle.block_disk.specs.MemDisk.{blocks_of, put}
use Rattle.block_disk.specs.View.{Image}
use Rattle.page_space.specs.Copies.{place, copy_of, copy_at, copies_at}
use Rattle.page_space.specs.Marks.{IsTreePage, IsMarked, AreMarked}
use Rattle.page_space.specs.Places.{filled, AreKept}
use Rattle.page_space.specs.declared.page_cache.Kept.{Kept}
use Rattle.page_space.proofs.Placing.{block_kept}

-- empty places say nothing
pub marked_none : (places : List (Option Kept)) (bytes : List ℕ) → ((at : ℕ) → get_or places at None ≡ None) → AreMarked places bytes
marked_none places bytes none at kept some = absurd (none-some kept (sym (none at) ∙ some))

-- a place that was set, where all others say what is so
marked_set : (places : List (Option Kept)) (bytes' : List ℕ) (at : ℕ) (kept : Kept) → at < length places → IsMarked kept bytes'
    → ((a : ℕ) (one : Kept) → a ≢ at → get_or places a None ≡ Some one → IsMarked one bytes') → AreMarked (set places at (Some kept)) bytes'
marked_set places bytes' at kept low here others a one is = elim (eqb_tells a at) [
  | inl same ↦
      let now : Some kept ≡ Some one = sym (ap (λ n. get_or (set places at (Some kept)) n None) same.1
      ∙ get_or-set_same places at (Some kept) None low) ∙ is in
      subst (λ (k : Kept). IsMarked k bytes') (same_Some kept one now) here
  | inr other ↦ others a one other.1 (sym (get_or-set_other places at a (Some kept) None other.1) ∙ is)
]

-- one that says nothing
unmarked : (kept : Kept) (bytes : List ℕ) → kept.level ≡ 0 → IsMarked kept bytes
unmarked kept bytes none = λ some. absurd (some none)

-- a copy was written over
pub marked_over : (places : List (Option Kept)) (bytes bytes' page : List ℕ) (at : ℕ) (old kept : Kept) → at < length places
    → AreKept places → get_or places at None ≡ Some old → kept.level ≡ 0
    → blocks_of bytes' ≡ put old.copy page (blocks_of bytes) → AreMarked places bytes → AreMarked (set places at (Some kept)) bytes'
marked_over places bytes bytes' page at old kept low are is none written marked =
    marked_set places bytes' at kept low (unmarked kept bytes' none) (λ a one other now some.
    let apart : one.copy ≢ old.copy = λ same. other (are.apart a at one old now is same) in
    let block : blocks_of bytes' one.copy ≡ blocks_of bytes one.copy = ap (λ (i : Image). i one.copy) written
    ∙ ap (λ b. cond b page (blocks_of bytes one.copy)) (ne_eqb one.copy old.copy apart) in
    subst (λ (l : List ℕ). IsTreePage one.level l) (sym block) (marked a one now some))

-- a copy came behind the others
pub marked_first : (places : List (Option Kept)) (bytes page : List ℕ) (at : ℕ) (kept : Kept) → at < length places → AreKept places
    → length bytes ≡ block_size * filled places → kept.level ≡ 0
    → AreMarked places bytes → AreMarked (set places at (Some kept)) (bytes ++ page)
marked_first places bytes page at kept low are many none marked =
    marked_set places (bytes ++ page) at kept low (unmarked kept (bytes ++ page) none) (λ a one other now some.
    subst (λ (l : List ℕ). IsTreePage one.level l) (sym (block_kept bytes page (filled places) one.copy many (are.within a one now)))
    (marked a one now some))

-- a place says more
pub marked_more : (places : List (Option Kept)) (bytes : List ℕ) (at : ℕ) (kept : Kept) → at < length places → IsMarked kept bytes
    → AreMarked places bytes
    → AreMarked (set places at (Some kept)) bytes
marked_more places bytes at kept low is marked = marked_set places bytes at kept low is (λ a one other. marked a one)

-- and its copy stays
pub copies_stay : (places : List (Option Kept)) (bytes : List ℕ) (at : ℕ) (old kept : Kept) → at < length places
    → get_or places at None ≡ Some old → kept.page ≡ old.page → kept.copy ≡ old.copy
    → (q : ℕ) → copies_at (set places at (Some kept)) bytes q ≡ copies_at places bytes q
copies_stay places bytes at old kept low is number copy q = elim (eqb_tells (place q) at) [
  | inl here ↦
      ap (λ n. copy_at (get_or (set places at (Some kept)) n None) bytes q) here.1
      ∙ ap (λ o. copy_at o bytes q) (get_or-set_same places at (Some kept) None low)
      ∙ ap (λ n. copy_of n (blocks_of bytes kept.copy) q) number
      ∙ ap (λ n. copy_of old.page (blocks_of bytes n) q) copy
      ∙ sym (ap (λ n. copy_at (get_or places n None) bytes q) here.1 ∙ ap (λ o. copy_at o bytes q) is)
  | inr other ↦ ap (λ o. copy_at o bytes q) (get_or-set_other places at (place q) (Some kept) None other.1)
]

-- what is noted of a held page is so of its copy
pub noted : (place_now : Option Kept) (bytes : List ℕ) (kept : Kept) (p level : ℕ) (copy : List ℕ) → IsMarked kept bytes
    → Some (blocks_of bytes kept.copy) ≡ copy_at place_now bytes p
    → copy_at place_now bytes p ≡ Some copy → kept.level ≡ level → level ≢ 0 → IsTreePage level copy
noted place_now bytes kept p level copy marked found held same some =
    let block : blocks_of bytes kept.copy ≡ copy = same_Some (blocks_of bytes kept.copy) copy (found ∙ held) in
    let P : ℕ → Type 0 = λ l. IsTreePage l (blocks_of bytes kept.copy) in
    subst (λ (l : List ℕ). IsTreePage level l) block (subst P same (marked (λ none. some (sym same ∙ none))))
