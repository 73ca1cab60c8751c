-- The places of a cache of pages, as they are filled.
use Rattle.std.proofs.Common.{◌≡◌, ℕ, zero, suc, ◌-◌, ◌*◌, ◌<◌, ◌≤◌, ◌⊎◌, ◌++◌, arith, List, [], ◌∷◌, length, set, get_or, take, drop}
use Rattle.std.proofs.Common.{Option, Some, None, is_some, true, rules, refl, sym, ap, inl, inr, ◌∙◌}
use Rattle.std.specs.Prelude.{replicate}
use Rattle.std.proofs.lemmas.Bool.Decides.{eqb_tells}
use Rattle.std.proofs.lemmas.List.{get_or-set_same, get_or-set_other, drop-append-le, take-append-le, length-drop}
use Rattle.std.proofs.Math.Seq.{drop-append_seam, take_all}
use Rattle.std.proofs.lemmas.Option.{none-some, same_Some}
use Rattle.block_disk.specs.Blocks.{block_size, IsBlock}
use Rattle.block_disk.specs.MemDisk.{blocks_of}
use Rattle.page_space.specs.Places.{filled, AreKept}
use Rattle.page_space.specs.declared.page_cache.Kept.{Kept}

-- ---- how many places are filled

pub filled_most : (places : List (Option Kept)) → filled places ≤ length places
filled_most [] = omega arith
filled_most (None ∷ places) = omega (arith, filled_most places)
filled_most (Some kept ∷ places) = omega (arith, filled_most places)

-- an empty place isn't
pub filled_less : (places : List (Option Kept)) (at : ℕ) → at < length places → get_or places at None ≡ None → filled places < length places
filled_less [] at low none = absurd (omega (arith, low))
filled_less (None ∷ places) at low none = omega (arith, filled_most places)
filled_less (Some kept ∷ places) zero low none = absurd (none-some kept (sym none))
filled_less (Some kept ∷ places) (suc at) low none = let less = filled_less places at (omega (arith, low)) none in omega (arith, less)

pub filled_none : (n : ℕ) → filled (replicate n None) ≡ 0
filled_none zero = refl
filled_none (suc n) = filled_none n

-- an empty place is filled
pub filled_more : (places : List (Option Kept)) (at : ℕ) (kept : Kept) → at < length places → get_or places at None ≡ None
    → filled (set places at (Some kept)) ≡ suc (filled places)
filled_more [] at kept low none = absurd (omega (arith, low))
filled_more (None ∷ places) zero kept low none = refl
filled_more (Some old ∷ places) zero kept low none = absurd (none-some old (sym none))
filled_more (None ∷ places) (suc at) kept low none = filled_more places at kept (omega (arith, low)) none
filled_more (Some old ∷ places) (suc at) kept low none = ap (λ n. suc n) (filled_more places at kept (omega (arith, low)) none)

-- and a filled one again
pub filled_same : (places : List (Option Kept)) (at : ℕ) (old kept : Kept) → at < length places → get_or places at None ≡ Some old
    → filled (set places at (Some kept)) ≡ filled places
filled_same [] at old kept low some = absurd (omega (arith, low))
filled_same (None ∷ places) zero old kept low some = absurd (none-some old some)
filled_same (Some first ∷ places) zero old kept low some = refl
filled_same (None ∷ places) (suc at) old kept low some = filled_same places at old kept (omega (arith, low)) some
filled_same (Some first ∷ places) (suc at) old kept low some = ap (λ n. suc n) (filled_same places at old kept (omega (arith, low)) some)

-- ---- what each place keeps

-- empty places keep nothing
pub kept_none : (places : List (Option Kept)) → ((at : ℕ) → get_or places at None ≡ None) → AreKept places
kept_none places none = record {
  within = λ at kept some. absurd (none-some kept (sym (none at) ∙ some));
  apart = λ a b one other some. absurd (none-some one (sym (none a) ∙ some));
}

-- a page comes in place of another one, whose copy becomes its own
kept_was : (places : List (Option Kept)) (at : ℕ) (old kept : Kept) → at < length places → get_or places at None ≡ Some old
    → kept.copy ≡ old.copy
    → (a : ℕ) (one : Kept) → get_or (set places at (Some kept)) a None ≡ Some one
    → (was : Kept) × (get_or places a None ≡ Some was) × (was.copy ≡ one.copy)
kept_was places at old kept low some same a one is = elim (eqb_tells a at) [
  | inl here ↦
      let new : Some kept ≡ Some one = sym (ap (λ n. get_or (set places at (Some kept)) n None) here.1
      ∙ get_or-set_same places at (Some kept) None low) ∙ is in (
        old,
        ap (λ n. get_or places n None) here.1 ∙ some,
        sym same ∙ ap (λ (k : Kept). k.copy) (same_Some kept one new),
      )
  | inr other ↦ (one, sym (get_or-set_other places at a (Some kept) None other.1) ∙ is, refl)
]

pub kept_over : (places : List (Option Kept)) (at : ℕ) (old kept : Kept) → at < length places → get_or places at None ≡ Some old
    → kept.copy ≡ old.copy → AreKept places → AreKept (set places at (Some kept))
kept_over places at old kept low some same are = record {
  within = λ a one is.
      let was = kept_was places at old kept low some same a one is in
      omega (arith, are.within a was.0 was.1, was.2, filled_same places at old kept low some);
  apart = λ a b one other is is' copies.
      let was = kept_was places at old kept low some same a one is in
      let was' = kept_was places at old kept low some same b other is' in
      are.apart a b was.0 was'.0 was.1 was'.1 (was.2 ∙ copies ∙ sym was'.2);
}

-- a page comes into an empty place: its copy is the one behind the others
kept_new : (places : List (Option Kept)) (at : ℕ) (kept : Kept) → at < length places
    → (a : ℕ) (one : Kept) → get_or (set places at (Some kept)) a None ≡ Some one
    → ((a ≡ at) × (kept ≡ one)) ⊎ (get_or places a None ≡ Some one)
kept_new places at kept low a one is = elim (eqb_tells a at) [
  | inl here ↦ inl (
    here.1,
    same_Some kept one (sym (ap (λ n. get_or (set places at (Some kept)) n None) here.1
        ∙ get_or-set_same places at (Some kept) None low) ∙ is),
  )
  | inr other ↦ inr (sym (get_or-set_other places at a (Some kept) None other.1) ∙ is)
]

pub kept_first : (places : List (Option Kept)) (at : ℕ) (kept : Kept) → at < length places → get_or places at None ≡ None
    → kept.copy ≡ filled places → AreKept places → AreKept (set places at (Some kept))
kept_first places at kept low none last are = record {
  within = λ a one is.
      let more = filled_more places at kept low none in
      elim (kept_new places at kept low a one is) [
        | inl here ↦ omega (arith, more, last, ap (λ (k : Kept). k.copy) here.1)
        | inr old ↦ omega (arith, more, are.within a one old)
      ];
  apart = λ a b one other is is' copies. elim (kept_new places at kept low a one is) [
    | inl here ↦ elim (kept_new places at kept low b other is') [
      | inl there ↦ here.0 ∙ sym there.0
      | inr old ↦ absurd (omega (arith, are.within b other old, copies, last, ap (λ (k : Kept). k.copy) here.1))
    ]
    | inr old ↦ elim (kept_new places at kept low b other is') [
      | inl there ↦ absurd (omega (arith, are.within a one old, copies, last, ap (λ (k : Kept). k.copy) there.1))
      | inr old' ↦ are.apart a b one other old old' copies
    ]
  ];
}

-- ---- the copies

-- a block behind others
pub block_added : (bytes block : List ℕ) (count : ℕ) → length bytes ≡ block_size * count → IsBlock block
    → blocks_of (bytes ++ block) count ≡ block
block_added bytes block count many whole =
    ap (λ n. take block_size (drop n (bytes ++ block))) (sym many)
    ∙ ap (λ l. take block_size l) (drop-append_seam bytes block)
    ∙ take_all block_size block (omega (arith, whole))

-- those before it stay
pub block_kept : (bytes block : List ℕ) (count at : ℕ) → length bytes ≡ block_size * count → at < count
    → blocks_of (bytes ++ block) at ≡ blocks_of bytes at
block_kept bytes block count at many low =
    let start : block_size * at ≤ length bytes = omega (arith, many, low) in
    let size : length (drop (block_size * at) bytes) ≡ length bytes - block_size * at = length-drop (block_size * at) bytes in
    ap (λ l. take block_size l) (drop-append-le (block_size * at) bytes block start)
    ∙ take-append-le block_size (drop (block_size * at) bytes) block (omega (arith, size, many, low))

-- the page that a filled place holds
pub kept_there : (place_now : Option Kept) → is_some place_now ≡ true → (kept : Kept) × (place_now ≡ Some kept)
kept_there None is = search rules
kept_there (Some kept) is = (kept, refl)
