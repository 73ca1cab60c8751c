-- Copies of pages in their places.
use Rattle.std.proofs.Common.{◌≡◌, ◌≢◌, ℕ, zero, suc, ◌+◌, ◌<◌, ◌≤◌, ◌*◌, ◌++◌, ◌⊎◌, arith, Bool, true, false, cond, List, [], ◌∷◌, length}
use Rattle.std.proofs.Common.{set, get_or, is_some, subst, Option, Some, None, refl, sym, ap, inl, inr, ◌∙◌, unwrap_or}
use Rattle.std.specs.Option.{option_map}
use Rattle.std.specs.Prelude.{replicate}
use Rattle.std.proofs.lemmas.Bool.{cases_lt, eq-eqb, ne_eqb}
use Rattle.std.proofs.lemmas.Bool.Decides.{eqb_tells}
use Rattle.std.proofs.lemmas.List.{get_or-set_same, get_or-set_other}
use Rattle.std.proofs.lemmas.Nat.{mod_below}
use Rattle.std.proofs.lemmas.Option.{none-some, same_Some}
use Rattle.block_disk.specs.Blocks.{block_size, IsBlock}
use Rattle.block_disk.specs.MemDisk.{blocks_of, put}
use Rattle.block_disk.specs.View.{Image}
use Rattle.gate_pages.specs.Batch.{Entry, page_in, put_all}
use Rattle.page_space.specs.Copies.{Copies, place, copy_of, copy_at, copies_at, with_copy, renewed, AreCopiesOf}
use Rattle.page_space.specs.Places.{filled, AreKept}
use Rattle.page_space.specs.declared.page_cache.Kept.{Kept}
use Rattle.page_space.proofs.Placing.{block_added, block_kept}

pub place_below : (p : ℕ) → place p < 4096
place_below p = mod_below p 4096 (omega arith)

-- what a place has once the copy of a page was written over that of another
put_off : (places : List (Option Kept)) (bytes bytes' page : List ℕ) (at a : ℕ) (old : Kept) (place_now : Option Kept) → AreKept places
    → get_or places at None ≡ Some old → get_or places a None ≡ place_now → a ≢ at
    → blocks_of bytes' ≡ put old.copy page (blocks_of bytes) → (q : ℕ) → copy_at place_now bytes' q ≡ copy_at place_now bytes q
put_off places bytes bytes' page at a old None are some now other is q = refl
put_off places bytes bytes' page at a old (Some one) are some now other is q =
    let apart : one.copy ≢ old.copy = λ same. other (are.apart a at one old now some same) in
    ap (λ l. copy_of one.page l q) (ap (λ (i : Image). i one.copy) is
    ∙ ap (λ b. cond b page (blocks_of bytes one.copy)) (ne_eqb one.copy old.copy apart))

-- a page is put in a place in which another one was
pub put_over : (places : List (Option Kept)) (bytes bytes' page : List ℕ) (p : ℕ) (old kept : Kept) → length places ≡ 4096 → AreKept places
    → get_or places (place p) None ≡ Some old → kept.page ≡ p → kept.copy ≡ old.copy
    → blocks_of bytes' ≡ put old.copy page (blocks_of bytes) → (q : ℕ)
    → copies_at (set places (place p) (Some kept)) bytes' q ≡ with_copy p page (copies_at places bytes) q
put_over places bytes bytes' page p old kept room are some number same is q =
    let places' = set places (place p) (Some kept) in
    elim (eqb_tells (place q) (place p)) [
      | inl here ↦
          let now : get_or places' (place q) None ≡ Some kept = ap (λ n. get_or places' n None) here.1
          ∙ get_or-set_same places (place p) (Some kept) None (omega (arith, place_below p, room)) in
          let block : blocks_of bytes' kept.copy ≡ page = ap (λ (i : Image). i kept.copy) is
          ∙ ap (λ b. cond b page (blocks_of bytes kept.copy)) (eq-eqb kept.copy old.copy same) in
          ap (λ o. copy_at o bytes' q) now
          ∙ ap (λ l. copy_of kept.page l q) block
          ∙ ap (λ n. copy_of n page q) number
          ∙ sym (ap (λ b. cond b (copy_of p page q) (copies_at places bytes q)) here.0)
      | inr other ↦
          ap (λ o. copy_at o bytes' q) (get_or-set_other places (place p) (place q) (Some kept) None other.1)
          ∙ put_off places bytes bytes' page (place p) (place q) old (get_or places (place q) None) are some refl other.1 is q
          ∙ sym (ap (λ b. cond b (copy_of p page q) (copies_at places bytes q)) other.0)
    ]

-- what a place has once a copy came behind the others
add_off : (places : List (Option Kept)) (bytes page : List ℕ) (a : ℕ) (place_now : Option Kept) → AreKept places
    → length bytes ≡ block_size * filled places → get_or places a None ≡ place_now
    → (q : ℕ) → copy_at place_now (bytes ++ page) q ≡ copy_at place_now bytes q
add_off places bytes page a None are many now q = refl
add_off places bytes page a (Some one) are many now q = ap (λ l. copy_of one.page l q)
    (block_kept bytes page (filled places) one.copy many (are.within a one now))

-- a page is put in an empty place
pub put_first : (places : List (Option Kept)) (bytes page : List ℕ) (p : ℕ) (kept : Kept) → length places ≡ 4096 → AreKept places
    → length bytes ≡ block_size * filled places → IsBlock page → kept.page ≡ p → kept.copy ≡ filled places
    → (q : ℕ) → copies_at (set places (place p) (Some kept)) (bytes ++ page) q ≡ with_copy p page (copies_at places bytes) q
put_first places bytes page p kept room are many whole number last q =
    let places' = set places (place p) (Some kept) in
    let bytes' = bytes ++ page in
    elim (eqb_tells (place q) (place p)) [
      | inl here ↦
          let now : get_or places' (place q) None ≡ Some kept = ap (λ n. get_or places' n None) here.1
          ∙ get_or-set_same places (place p) (Some kept) None (omega (arith, place_below p, room)) in
          let block : blocks_of bytes' kept.copy ≡ page = ap (λ n. blocks_of bytes' n) last
          ∙ block_added bytes page (filled places) many whole in
          ap (λ o. copy_at o bytes' q) now
          ∙ ap (λ l. copy_of kept.page l q) block
          ∙ ap (λ n. copy_of n page q) number
          ∙ sym (ap (λ b. cond b (copy_of p page q) (copies_at places bytes q)) here.0)
      | inr other ↦
          ap (λ o. copy_at o bytes' q) (get_or-set_other places (place p) (place q) (Some kept) None other.1)
          ∙ add_off places bytes page (place q) (get_or places (place q) None) are many refl q
          ∙ sym (ap (λ b. cond b (copy_of p page q) (copies_at places bytes q)) other.0)
    ]

-- a page that was read is one of the pages, and the others still are
pub copies_with : (image : Image) (p : ℕ) (page : List ℕ) (copies : Copies) → page ≡ image p → AreCopiesOf image copies
    → AreCopiesOf image (with_copy p page copies)
copies_with image p page copies is are q bytes held = elim (eqb_tells (place q) (place p)) [
  | inl same ↦ elim (eqb_tells q p) [
    | inl this ↦
        let some : Some page ≡ Some bytes = sym (ap (λ b. cond b (copy_of p page q) (copies q)) same.0
        ∙ ap (λ b. cond b (Some page) None) this.0) ∙ held in
        sym (same_Some page bytes some) ∙ is ∙ ap image (sym this.1)
    | inr not ↦
        let none : None ≡ Some bytes = sym (ap (λ b. cond b (copy_of p page q) (copies q)) same.0 ∙ ap (λ b. cond b (Some page) None) not.0)
        ∙ held in
        absurd (none-some bytes none)
  ]
  | inr other ↦ are q bytes (sym (ap (λ b. cond b (copy_of p page q) (copies q)) other.0) ∙ held)
]

-- copies that are the same are of the same pages
pub copies_same : (image : Image) (copies copies' : Copies) → ((p : ℕ) → copies' p ≡ copies p) → AreCopiesOf image copies
    → AreCopiesOf image copies'
copies_same image copies copies' same are p bytes held = are p bytes (sym (same p) ∙ held)

-- of pages that are the same
pub copies_on : (image image' : Image) (copies : Copies) → image' ≡ image → AreCopiesOf image copies → AreCopiesOf image' copies
copies_on image image' copies same are p bytes held = are p bytes held ∙ sym (ap (λ (i : Image). i p) same)

-- copies that are renewed are of the new pages
pub copies_renewed : (image : Image) (batch : List Entry) (copies : Copies) → AreCopiesOf image copies
    → AreCopiesOf (put_all batch image) (renewed batch copies)
copies_renewed image batch copies are p bytes = by (copies p) (page_in batch p) (are p)
  where
    by : (copy found : Option (List ℕ)) → ((old : List ℕ) → copy ≡ Some old → old ≡ image p)
        → option_map (λ old. unwrap_or found old) copy ≡ Some bytes → bytes ≡ unwrap_or found (image p)
    by None found was = λ held. absurd (none-some bytes held)
    by (Some old) None was = λ held. sym (same_Some old bytes held) ∙ was old refl
    by (Some old) (Some new) was = λ held. sym (same_Some new bytes held)

-- ---- a batch gives the pages that are held their new bytes

renewed_none : (copy : Option (List ℕ)) → option_map (λ (b : List ℕ). unwrap_or None b) copy ≡ copy
renewed_none None = refl
renewed_none (Some b) = refl

renewed_twice : (found copy : Option (List ℕ)) → option_map (λ (b : List ℕ). unwrap_or found b)
    (option_map (λ (b : List ℕ). unwrap_or found b) copy) ≡ option_map (λ (b : List ℕ). unwrap_or found b) copy
renewed_twice found None = refl
renewed_twice None (Some b) = refl
renewed_twice (Some new) (Some b) = refl

-- a page that isn't held isn't renewed
pub unheld : (found copy : Option (List ℕ)) (held : Bool) → held ≡ is_some copy → held ≡ false
    → copy ≡ option_map (λ (b : List ℕ). unwrap_or found b) copy
unheld found None held is gone = refl
unheld found (Some b) held is gone = absurd (cc (is, gone))

-- nor is one that the batch lacks
pub not_in : (found copy : Option (List ℕ)) → None ≡ found → copy ≡ option_map (λ (b : List ℕ). unwrap_or found b) copy
not_in found copy none =
    sym (ap (λ (o : Option (List ℕ)). option_map (λ (b : List ℕ). unwrap_or o b) copy) (sym none) ∙ renewed_none copy)

pub copy_here : (p : ℕ) (bytes : List ℕ) (copies : Copies) → with_copy p bytes copies p ≡ Some bytes
copy_here p bytes copies = ap (λ b. cond b (copy_of p bytes p) (copies p)) (eq-eqb (place p) (place p) refl)
    ∙ ap (λ b. cond b (Some bytes) None) (eq-eqb p p refl)

-- a page that is held and in the batch is renewed
pub renewed_held : (batch : List Entry) (copies : Copies) (p : ℕ) (bytes : List ℕ) (held : Bool) → held ≡ is_some (copies p) → held ≡ true
    → Some bytes ≡ page_in batch p
    → with_copy p bytes copies p ≡ renewed batch copies p
renewed_held batch copies p bytes held is there some = copy_here p bytes copies ∙ by (copies p) (sym is ∙ there)
  where
    by : (copy : Option (List ℕ)) → is_some copy ≡ true → Some bytes ≡ option_map (λ (b : List ℕ). unwrap_or (page_in batch p) b) copy
    by None here = absurd (cc (here))
    by (Some old) here = ap (λ (o : Option (List ℕ)). Some (unwrap_or o old)) some

-- of the pages that share a place one at most is held
one_held : (o : Option Kept) (bytes : List ℕ) (p q : ℕ) → is_some (copy_at o bytes p) ≡ true → q ≢ p → copy_at o bytes q ≡ None
one_held None bytes p q held other = refl
one_held (Some kept) bytes p q held other = elim (eqb_tells p kept.page) [
  | inl this ↦ ap (λ b. cond b (Some (blocks_of bytes kept.copy)) None) (ne_eqb q kept.page (λ same. other (same ∙ sym this.1)))
  | inr not ↦ absurd (let no : is_some (copy_of kept.page (blocks_of bytes kept.copy) p) ≡ false = ap (λ b. is_some
      (cond b (Some (blocks_of bytes kept.copy)) None)) not.0 in cc (no, held))
]

-- another page stays as it is where one that is held is written over
pub others_stay : (places : List (Option Kept)) (bytes page : List ℕ) (p q : ℕ) (held : Bool) → held ≡ is_some (copies_at places bytes p)
    → held ≡ true → q ≢ p
    → with_copy p page (copies_at places bytes) q ≡ copies_at places bytes q
others_stay places bytes page p q held is there other = elim (eqb_tells (place q) (place p)) [
  | inl same ↦
      let none : copy_at (get_or places (place p) None) bytes q ≡ None = one_held (get_or places (place p) None) bytes p q (sym is
      ∙ there) other in
      ap (λ b. cond b (copy_of p page q) (copies_at places bytes q)) same.0
      ∙ ap (λ b. cond b (Some page) None) (ne_eqb q p other)
      ∙ sym (ap (λ k. copy_at (get_or places k None) bytes q) same.1 ∙ none)
  | inr apart ↦ ap (λ b. cond b (copy_of p page q) (copies_at places bytes q)) apart.0
]

-- the first pages of a batch were given to what was held
pub record IsRenewing (batch : List Entry) (first now : Copies) (at : ℕ) : Type 0 where
  pub either : (p : ℕ) → (now p ≡ renewed batch first p) ⊎ (now p ≡ first p)
  pub done : (p k : ℕ) → k < at → (get_or batch k (0, [])).0 ≡ p → now p ≡ renewed batch first p

pub renewing_none : (batch : List Entry) (first : Copies) → IsRenewing batch first first 0
renewing_none batch first = record {
  either = λ p. inr refl;
  done = λ p k low is. absurd (omega (arith, low));
}

renewed_on : (batch : List Entry) (first now next : Copies) (p : ℕ) → (now p ≡ renewed batch first p) ⊎ (now p ≡ first p)
    → next p ≡ renewed batch now p → next p ≡ renewed batch first p
renewed_on batch first now next p (inl done) here =
    here ∙ ap (option_map (λ (b : List ℕ). unwrap_or (page_in batch p) b)) done ∙ renewed_twice (page_in batch p) (first p)
renewed_on batch first now next p (inr same) here = here ∙ ap (option_map (λ (b : List ℕ). unwrap_or (page_in batch p) b)) same

-- one page more
pub renewing_on : (batch : List Entry) (first now next : Copies) (at n : ℕ) → n ≡ (get_or batch at (0, [])).0 → next n ≡ renewed batch now n
    → ((q : ℕ) → q ≢ n → next q ≡ now q)
    → IsRenewing batch first now at → IsRenewing batch first next (at + 1)
renewing_on batch first now next at n number here others was =
    let this : (p : ℕ) → p ≡ n → next p ≡ renewed batch first p = λ p is.
    let P : ℕ → Type 0 = λ q. next q ≡ renewed batch now q in
    renewed_on batch first now next p (was.either p) (subst P (sym is) here) in
    record {
      either = λ p. elim (eqb_tells p n) [
        | inl is ↦ inl (this p is.1)
        | inr other ↦ elim (was.either p) [ inl done ↦ inl (others p other.1 ∙ done) | inr same ↦ inr (others p other.1 ∙ same) ]
      ];
      done = λ p k low is. elim (eqb_tells p n) [
        | inl same ↦ this p same.1
        | inr other ↦ elim (cases_lt k at) [
          | inl before ↦ others p other.1 ∙ was.done p k before is
          | inr late ↦
              let last : k ≡ at = omega (arith, low, late) in
              absurd (other.1 (sym is ∙ ap (λ (j : ℕ). (get_or batch j (0, [])).0) last ∙ sym number))
        ]
      ];
    }

-- where a page of a batch stands
page_at : (batch : List Entry) (p : ℕ) (bytes : List ℕ) → page_in batch p ≡ Some bytes
    → (k : ℕ) × ((k < length batch) × ((get_or batch k (0, [])).0 ≡ p))
page_at [] p bytes is = absurd (none-some bytes is)
page_at (e ∷ batch) p bytes is = elim (eqb_tells p e.0) [
  | inl this ↦ (0, (omega arith, sym this.1))
  | inr other ↦
      let rest = page_at batch p bytes (sym (ap (λ b. cond b (Some e.1) (page_in batch p)) other.0) ∙ is) in
      (suc rest.0, (omega (arith, rest.1.0), rest.1.1))
]

-- all pages of the batch were given
pub renewed_all : (batch : List Entry) (first now : Copies) (at p : ℕ) → length batch ≤ at → IsRenewing batch first now at
    → now p ≡ renewed batch first p
renewed_all batch first now at p all was = elim (was.either p) [ inl done ↦ done | inr same ↦ by (page_in batch p) refl same ]
  where
    by : (found : Option (List ℕ)) → page_in batch p ≡ found → now p ≡ first p → now p ≡ renewed batch first p
    by None none same = same ∙ not_in (page_in batch p) (first p) (sym none)
    by (Some bytes) some same = let k = page_at batch p bytes some in was.done p k.0 (omega (arith, k.1.0, all)) k.1.1

-- a page that a place holds has its bytes
pub copy_found : (place_now : Option Kept) (bytes : List ℕ) (kept : Kept) (p : ℕ) → place_now ≡ Some kept → kept.page ≡ p
    → Some (blocks_of bytes kept.copy) ≡ copy_at place_now bytes p
copy_found place_now bytes kept p is number =
    sym (ap (λ o. copy_at o bytes p) is ∙ ap (λ b. cond b (Some (blocks_of bytes kept.copy)) None) (eq-eqb p kept.page (sym number)))

-- empty places hold no page
abbrev pub empties : ℕ → List (Option Kept)
empties n = replicate n None

pub empty_at : (n at : ℕ) → get_or (empties n) at None ≡ None
empty_at zero at = refl
empty_at (suc n) zero = refl
empty_at (suc n) (suc at) = empty_at n at
