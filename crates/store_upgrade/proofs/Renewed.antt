-- The pages of version 2, gathered one after another.
use Rattle.std.proofs.Common.{◌≡◌, ℕ, ◌+◌, ◌-◌, ◌≤◌, ◌<◌, true, false, cond, eqb, List, [], length, Some, is_some, IsSome, Option, sym, ap}
use Rattle.std.proofs.Common.{subst, arith, inl, inr, ◌∙◌}
use Rattle.std.proofs.lemmas.Bool.{cases_Bool, cases_lt}
use Rattle.std.proofs.lemmas.Bool.Decides.{eqb_tells}
use Rattle.block_disk.specs.View.{Image, View}
use Rattle.gate_pages.specs.Batch.{Entry, page_in, AllBelow}
use Rattle.gate_pages.specs.GateLaws.{goes_then}
use Rattle.gate_pages.specs.Pages.{Reads, GoesOn}
use Rattle.store_upgrade.specs.OldStores.{KeepsOldRules}
use Rattle.store_upgrade.specs.Upgraded.{renewed, upgraded_page, upgraded}
use Rattle.store_upgrade.specs.Upgrading.{Looks, HasOldCatalog, HasNewPages}
use Rattle.store_upgrade.proofs.Looking.{looks_none, looks_one, looks_then}
use Rattle.store_upgrade.proofs.Magics.{upgraded_first, upgraded_catalog}

-- the pages below this one were read and put; the first of them was read before
pub record AreGathered (told told' first : Type 0) (old new under under' : View) (batch : List Entry) (n : ℕ) : Type 0 where
  pub len : length batch ≡ n
  pub below : AllBelow n batch
  pub looks : Looks (n - 1) told told' old new
  pub goes_on : GoesOn under under'
  pub kept : told → HasOldCatalog n old.image
  pub pages : told → first → HasNewPages n batch old.image

-- a page was put
abbrev pub IsPut : ℕ → List ℕ → List Entry → List Entry → Type 0
IsPut n page old new = (p : ℕ) → page_in new p ≡ cond (eqb p n) (Some page) (page_in old p)

abbrev pub IsLonger : ℕ → List Entry → List Entry → Type 0
IsLonger n old new = length new ≡ cond (is_some (page_in old n)) (length old) (length old + 1)

true_is_false : true ≡ false → ⊥
true_is_false same = absurd (cc)

none_in : (batch : List Entry) (p : ℕ) → batch ≡ [] → IsSome (page_in batch p) → ⊥
none_in batch p empty some =
    let none : is_some (page_in batch p) ≡ false = ap (λ (b : List Entry). is_some (page_in b p)) empty in
    true_is_false (sym some ∙ none)

-- none of this number
missing : (n : ℕ) (batch : List Entry) → AllBelow n batch → is_some (page_in batch n) ≡ false
missing n batch below = elim (cases_Bool (is_some (page_in batch n))) [
  | inl is ↦ absurd (omega (arith, below n is))
  | inr is ↦ is
]

put_below : (n : ℕ) (page : List ℕ) (old new : List Entry) → AllBelow n old → IsPut n page old new → AllBelow (n + 1) new
put_below n page old new below put p is = elim (eqb_tells p n) [
  | inl same ↦ omega (arith, same.1)
  | inr other ↦
      let S : Option (List ℕ) → Type 0 = λ o. IsSome o in
      let here : page_in new p ≡ page_in old p = put p ∙ ap (λ b. cond b (Some page) (page_in old p)) other.0 in
      omega (arith, below p (subst S here is))
]

put_pages : (n : ℕ) (page : List ℕ) (old new : List Entry) (image : Image) → HasNewPages n old image → IsPut n page old new
    → page ≡ upgraded image n → HasNewPages (n + 1) new image
put_pages n page old new image pages put is p low = elim (eqb_tells p n) [
  | inl same ↦
      put p
      ∙ ap (λ b. cond b (Some page) (page_in old p)) same.0
      ∙ ap (λ (l : List ℕ). Some l) is
      ∙ ap (λ m. Some (upgraded image m)) (sym same.1)
  | inr other ↦ put p ∙ ap (λ b. cond b (Some page) (page_in old p)) other.0 ∙ pages p (omega (arith, low, other.1))
]

-- page 0 is put
pub gathered_first : (told first : Type 0) (old under under' : View) (page before : List ℕ) (batch batch' : List Entry)
    → GoesOn under under' → page ≡ renewed before → (first → before ≡ old.image 0)
    → batch ≡ [] → IsPut 0 page batch batch' → IsLonger 0 batch batch' → AreGathered told told first old old under under' batch' 1
gathered_first told first old under under' page before batch batch' goes is first_is empty put longer =
    let none : AllBelow 0 batch = λ p some. absurd (none_in batch p empty some) in
    record {
      len = longer ∙ ap (λ b. cond b (length batch) (length batch + 1)) (missing 0 batch none)
          ∙ ap (λ (b : List Entry). length b + 1) empty;
      below = put_below 0 page batch batch' none put;
      looks = looks_none told old;
      goes_on = goes;
      kept = λ t p low high. absurd (omega (arith, low, high));
      pages = λ t f. put_pages 0 page batch batch' old.image (λ p low. absurd (omega (arith, low))) put (is
          ∙ ap (λ (l : List ℕ). renewed l) (first_is f) ∙ sym (upgraded_first old.image));
    }

-- one more page is put
pub gathered_more : (told told' told'' first : Type 0) (old mid new under under' under'' : View) (page : List ℕ) (batch batch' : List Entry)
    (n : ℕ) → 1 ≤ n → n < 17
    → AreGathered told told' first old mid under under' batch n → Reads told' told'' mid new → GoesOn under' under''
    → (told' → KeepsOldRules (mid.image n)) → (told' → page ≡ upgraded_page (mid.image n))
    → IsPut n page batch batch' → IsLonger n batch batch' → AreGathered told told'' first old new under under'' batch' (n + 1)
gathered_more told told' told'' first old mid new under under' under'' page batch batch' n low high so_far reads goes kept is put longer =
    let same : told → mid.image n ≡ old.image n = λ t. ap (λ (i : Image). i n) (so_far.looks.image t) in
    let K : List ℕ → Type 0 = λ l. KeepsOldRules l in
    record {
      len = longer ∙ ap (λ b. cond b (length batch) (length batch + 1)) (missing n batch so_far.below) ∙ ap (λ m. m + 1) so_far.len;
      below = put_below n page batch batch' so_far.below put;
      looks = looks_then (n - 1) 1 (n + 1 - 1) told told' told'' old mid new (omega (arith, low)) so_far.looks
          (looks_one told' told'' mid new reads);
      goes_on = goes_then under under' under'' so_far.goes_on goes;
      kept = λ t p from to. elim (cases_lt p n) [
        | inl below ↦ so_far.kept t p from below
        | inr above ↦
            let here : p ≡ n = omega (arith, to, above) in
            let P : ℕ → Type 0 = λ m. KeepsOldRules (old.image m) in
            subst P (sym here) (subst K (same t) (kept (so_far.looks.told t)))
      ];
      pages = λ t f. put_pages n page batch batch' old.image (so_far.pages t f) put
          (is (so_far.looks.told t) ∙ ap (λ (l : List ℕ). upgraded_page l) (same t) ∙ sym (upgraded_catalog old.image n low high));
    }
