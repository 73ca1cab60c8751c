-- Pages are changed and freed in a transaction.
use Rattle.std.proofs.Common.{◌≡◌, ◌≢◌, ℕ, ◌<◌, ◌≤◌, cond, if◌then◌else◌, ◌==◌, List, ◌∷◌, Some, None, Result, Ok, Err, sym, ap, subst, inl}
use Rattle.std.proofs.Common.{inr, ◌∙◌, unwrap_or}
use Rattle.std.specs.Prelude.{IfOk}
use Rattle.std.proofs.Math.Path.{fun_ext}
use Rattle.std.proofs.lemmas.Bool.Decides.{eqb_tells}
use Rattle.std.proofs.lemmas.Bool.{ne_eqb, eq-eqb}
use Rattle.block_disk.specs.View.{Image}
use Rattle.page_space.specs.declared.superblock.Superblock.{Superblock}
use Rattle.std.specs.declared.alloc.AllocError.{AllocError}
use Rattle.page_space.specs.declared.txn.Txn.{Txn}
use Rattle.page_space.specs.Layout.{superblock_page, freed_page, with_head, with_series}
use Rattle.page_space.specs.Spaces.{times, Stands}
use Rattle.page_space.specs.Transactions.{held_page, left_by, OnlyFirst}
use Rattle.page_space.proofs.Leaving.{left_first, left_same, left_put}
use Rattle.page_space.proofs.Spacing.{give, stands_put, stands_series}

-- a page that isn't freed is replaced
pub put_stands : (old new : Txn) (image : Image) (p : ℕ) (page : List ℕ) → 1 ≤ p → new.superblock ≡ old.superblock
    → ((number : ℕ) → held_page new number ≡ (if number == p then Some page else held_page old number))
    → (count : ℕ) (taken freed : List ℕ) → Stands count (left_by old image) old.superblock taken freed → times p freed ≡ 0
    → Stands count (left_by new image) new.superblock taken freed
put_stands old new image p page behind same put count taken freed stands none =
    let others : (q : ℕ) → q ≢ p → left_by new image q ≡ left_by old image q =
    λ q other. left_same old new image q (put q ∙ ap (λ b. cond b (Some page) (held_page old q)) (ne_eqb q p other)) in
    let P : Superblock → Type 0 = λ s. Stands count (left_by new image) s taken freed in
    subst P (sym same) (stands_put count (left_by old image) (left_by new image) old.superblock p taken freed behind none others stands)

-- the number of series is set
pub series_stands : (old new : Txn) (image : Image) (n : ℕ) → n ≤ 512 → new.superblock ≡ with_series old.superblock n → OnlyFirst old new
    → (count : ℕ) (taken freed : List ℕ) → Stands count (left_by old image) old.superblock taken freed
    → Stands count (left_by new image) new.superblock taken freed
series_stands old new image n few is only count taken freed stands =
    let spelled : left_by new image 0 ≡ superblock_page (with_series old.superblock n) = left_first new image
    ∙ ap (λ s. superblock_page s) is in
    let P : Superblock → Type 0 = λ s. Stands count (left_by new image) s taken freed in
    subst P (sym is) (stands_series count (left_by old image) (left_by new image) old.superblock n taken freed few spelled
    (λ q behind. left_same old new image q (only.others q behind)) stands)

-- a page in use is freed
pub free_stands : (old new : Txn) (image : Image) (p : ℕ) → new.superblock ≡ with_head old.superblock p
    → held_page new p ≡ Some (freed_page old.superblock.head) → ((q : ℕ) → 0 < q → q ≢ p → held_page new q ≡ held_page old q)
    → (count : ℕ) (taken rest freed : List ℕ) → Stands count (left_by old image) old.superblock taken freed
    → ((q : ℕ) → times q taken ≡ times q (p ∷ rest)) → Stands count (left_by new image) new.superblock rest (p ∷ freed)
free_stands old new image p is page others count taken rest freed stands parts =
    let spelled : left_by new image 0 ≡ superblock_page (with_head old.superblock p) = left_first new image
    ∙ ap (λ s. superblock_page s) is in
    let P : Superblock → Type 0 = λ s. Stands count (left_by new image) s rest (p ∷ freed) in
    subst P (sym is)
    (give count (left_by old image) (left_by new image) old.superblock p taken rest freed spelled
    (left_put old new image p (freed_page old.superblock.head) page)
    (λ q behind other. left_same old new image q (others q behind other)) parts stands)

-- pages that are the same stand alike
pub stands_same : (count : ℕ) (old new : Image) (s : Superblock) (taken freed : List ℕ) → ((p : ℕ) → new p ≡ old p)
    → Stands count old s taken freed → Stands count new s taken freed
stands_same count old new s taken freed same stands =
    let P : Image → Type 0 = λ image. Stands count image s taken freed in
    subst P (fun_ext (λ p. sym (same p))) stands

-- a transaction that holds the pages' own page 0 leaves them as they are
pub begun_stands : (r : Result Txn AllocError) (s : Superblock) → IfOk r (λ txn. txn.superblock ≡ s)
    → IfOk r (λ txn. (p : ℕ) → held_page txn p ≡ (if p == 0 then Some (superblock_page s) else None))
    → IfOk r (λ txn. (count : ℕ) (image : Image) (taken freed : List ℕ) → Stands count image s taken freed
    → Stands count (left_by txn image) txn.superblock taken freed)
begun_stands (Err cause) s is holds = tt
begun_stands (Ok txn) s is holds = λ count image taken freed stands.
    let same : (p : ℕ) → left_by txn image p ≡ image p =
    λ p. ap (λ o. unwrap_or o (image p)) (holds p) ∙ elim (eqb_tells p 0) [
      | inl none ↦
          ap (λ b. unwrap_or (cond b (Some (superblock_page s)) None) (image p)) (eq-eqb p 0 none.1)
          ∙ sym stands.spelled
          ∙ ap (λ q. image q) (sym none.1)
      | inr some ↦ ap (λ b. unwrap_or (cond b (Some (superblock_page s)) None) (image p)) (ne_eqb p 0 some.1)
    ] in
    let P : Superblock → Type 0 = λ t. Stands count (left_by txn image) t taken freed in
    subst P (sym is) (stands_same count image (left_by txn image) s taken freed same stands)
