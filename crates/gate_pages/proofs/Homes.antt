-- Pages are written home, one after another.
use Rattle.std.proofs.Common.{◌≡◌, ℕ, ◌+◌, ◌-◌, ◌<◌, true, cond, eqb, List, [], length, take, get_or, refl, sym, ap, subst, arith, inl, inr}
use Rattle.std.proofs.Common.{◌∙◌, IsTrue}
use Rattle.std.proofs.lemmas.Bool.Decides.{eqb_tells}
use Rattle.std.proofs.lemmas.List.Folds.{list_any_at}
use Rattle.std.proofs.Math.Path.{fun_ext}
use Rattle.block_disk.specs.MemDisk.{put}
use Rattle.block_disk.specs.View.{Image, SameOff, At, Nowhere}
use Rattle.gate_pages.specs.Batch.{Entry, put_all, numbers, is_one_of, is_distinct}
use Rattle.gate_pages.specs.Journal.{home}
use Rattle.gate_pages.specs.Steps.{IsHome}
use Rattle.gate_pages.proofs.Puts.{put_step, same_number}

-- a block is written where a page lies
pub home_put : (n : ℕ) (page : List ℕ) (old new : Image) → new (66 + n) ≡ page → SameOff (At (66 + n)) old new
    → home new ≡ put n page (home old)
home_put n page old new there same = fun_ext (λ number. elim (eqb_tells number n) [
  | inl is ↦
      let turned : number + 66 ≡ 66 + n = omega (arith, is.1) in
      ap new turned ∙ there ∙ sym (ap (λ b. cond b page (home old number)) is.0)
  | inr other ↦ same (number + 66) (λ is. other.1 (omega (arith, is))) ∙ sym (ap (λ b. cond b page (home old number)) other.0)
])

pub home_step : (batch : List Entry) (at n : ℕ) (page : List ℕ) (pages old new : Image) → at < length batch
    → IsTrue (is_distinct (numbers batch)) → get_or batch at (0, []) ≡ (n, page)
    → home old ≡ put_all (take at batch) pages → new (66 + n) ≡ page → SameOff (At (66 + n)) old new
    → home new ≡ put_all (take (at + 1) batch) pages
home_step batch at n page pages old new below distinct is so_far there same =
    home_put n page old new there same
    ∙ ap (λ (i : Image). put n page i) so_far
    ∙ ap (λ (e : Entry). put e.0 e.1 (put_all (take at batch) pages)) (sym is)
    ∙ put_step batch at pages below distinct

-- the block of a page is one of theirs
pub is_home : (ns : List ℕ) (n number : ℕ) → is_one_of ns n ≡ true → At (66 + n) number → IsHome ns number
is_home ns n number is at =
    let back : n ≡ number - 66 = omega (arith, at) in
    let P : ℕ → Type 0 = λ m. IsTrue (is_one_of ns m) in
    (omega (arith, at), subst P back is)

-- where nothing is touched the pages lie as they were
pub home_read : (old new : Image) → SameOff Nowhere old new → home new ≡ home old
home_read old new same = fun_ext (λ page. same (page + 66) (λ nothing. nothing))

-- each number is one of them
pub one_of_numbers : (ns : List ℕ) (at : ℕ) → at < length ns → is_one_of ns (get_or ns at 0) ≡ true
one_of_numbers ns at below = list_any_at (λ n. eqb n (get_or ns at 0)) ns at 0 below (same_number (get_or ns at 0) (get_or ns at 0) refl)
