-- What a call of the space is to a change of a tree.
use Rattle.std.proofs.Common.{◌≡◌, ℕ, ◌+◌, ◌≤◌, Bool, true, false, cond, length, ap, arith, inl, inr}
use Rattle.block_disk.specs.View.{Image, View}
use Rattle.gate_pages.specs.Pages.{Reads, GoesOn}
use Rattle.page_space.specs.declared.superblock.Superblock.{Superblock}
use Rattle.page_space.specs.declared.txn.Txn.{Txn}
use Rattle.page_space.specs.Causes.{Takes}
use Rattle.page_space.specs.Transactions.{held, OnlyFirst}
use Rattle.path_repair.specs.Standing.{ReadsMost, Moved}
use Rattle.path_repair.proofs.MoveLemmas.{moved_none}

reads_one : (told told' : Type 0) (old new : View) → Reads told told' old new → ReadsMost 1 told told' old new
reads_one told told' old new reads = record {
  time = reads.time;
  told = reads.told;
  was_told = reads.was_told;
  image = reads.image;
  size = reads.size;
  beside = reads.beside;
  fit = reads.fit;
  faults = reads.faults;
  reads = reads.reads;
  syncs = reads.syncs;
  writes = reads.writes;
}

-- a block is read, and the transaction is the same
pub moved_read : (told told' : Type 0) (old new under under' : View) (s s' : Superblock) (t t' : Txn) → Reads told told' old new
    → GoesOn under under' → s' ≡ s → t' ≡ t → Moved 1 0 told told' old new under under' s s' t t'
moved_read told told' old new under under' s s' t t' reads goes_on numbers same = record {
  reads = reads_one told told' old new reads;
  over = record { superblock = numbers; goes_on = goes_on };
  total = ap (λ (one : Txn). one.superblock.total) same;
  series = ap (λ (one : Txn). one.superblock.series) same;
  fresh = omega (arith, ap (λ (one : Txn). one.superblock.fresh) same);
  held = omega (arith, ap (λ (one : Txn). length (held one)) same);
}

-- a page is taken
pub moved_take : (told told' : Type 0) (old new under under' : View) (s s' : Superblock) (t t' : Txn) (image : Image) (p : ℕ)
    → Reads told told' old new → GoesOn under under' → s' ≡ s → OnlyFirst t t' → Takes told image t.superblock t'.superblock p
    → Moved 1 0 told told' old new under under' s s' t t'
moved_take told told' old new under under' s s' t t' image p reads goes_on numbers first (inl chain) = record {
  reads = reads_one told told' old new reads;
  over = record { superblock = numbers; goes_on = goes_on };
  total = ap (λ (one : Superblock). one.total) chain.after;
  series = ap (λ (one : Superblock). one.series) chain.after;
  fresh = omega (arith, ap (λ (one : Superblock). one.fresh) chain.after);
  held = omega (arith, first.len);
}
moved_take told told' old new under under' s s' t t' image p reads goes_on numbers first (inr new_page) = record {
  reads = reads_one told told' old new reads;
  over = record { superblock = numbers; goes_on = goes_on };
  total = ap (λ (one : Superblock). one.total) new_page.after;
  series = ap (λ (one : Superblock). one.series) new_page.after;
  fresh = omega (arith, ap (λ (one : Superblock). one.fresh) new_page.after);
  held = omega (arith, first.len);
}

-- a page is put into a transaction, or freed there
pub moved_put : (told : Type 0) (at under : View) (s : Superblock) (t t' : Txn) → t'.superblock.total ≡ t.superblock.total
    → t'.superblock.series ≡ t.superblock.series → t.superblock.fresh ≤ t'.superblock.fresh → length (held t') ≤ length (held t) + 1
    → Moved 0 1 told told at at under under s s t t'
moved_put told at under s t t' total series fresh held =
    let none = moved_none told at under s t in
    record { reads = none.reads; over = none.over; total = total; series = series; fresh = fresh; held = held }

pub one_at_most : (is_held : Bool) (old new : ℕ) → new ≤ cond is_held old (old + 1) → new ≤ old + 1
one_at_most true old new few = omega (arith, few)
one_at_most false old new few = few
