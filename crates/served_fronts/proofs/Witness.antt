-- A store that is none but for its numbers.
use Rattle.std.proofs.Common.{◌≡◌, ℕ, ◌-◌, ◌<◌, ◌≤◌, ◌^◌, true, false, [], refl, ap, sym, ◌∙◌, arith}
use Rattle.std.specs.Prelude.{if◌then◌else◌}
use Rattle.std.proofs.Math.Nat.{add-sub_cancel}
use Rattle.std.proofs.Math.Seq.{drop-length}
use Rattle.block_disk.specs.View.{Image}
use Rattle.block_disk.specs.MemDisk.{before_all, blocks_of}
use Rattle.empty_store.specs.Stores.{IsNewStore}
use Rattle.gate_pages.specs.Journal.{directory, home, is_open, page_count, pages_of, replayed}
use Rattle.page_space.specs.Firsts.{empty_over}
use Rattle.page_space.specs.Layout.{superblock_page}
use Rattle.stored_book.proofs.EmptyLemmas.{first_over}
use Rattle.stored_book.specs.Standing.{RecoversTo}
use Rattle.served_fronts.specs.Witness.{StoresCanBe, DisksInMemoryAreHonest}

abbrev nothing : Image
nothing number = []

-- the first pages of an empty store, page 0 in the place of the gate too
abbrev made : ℕ → Image
made count number = empty_over count nothing (number - 66)

closed : (count : ℕ) → is_open (made count 0) ≡ false
unfolding superblock_page
closed count = refl

page_at : (count p : ℕ) → pages_of count (made count) p ≡ empty_over count nothing p
page_at count p =
    ap (λ b. (if b then replayed (directory count (made count 1)) (made count) else home (made count)) p) (closed count)
    ∙ ap (λ n. empty_over count nothing n) (add-sub_cancel p 66)

new_store : (count : ℕ) → IsNewStore count (made count)
new_store count =
    let first = first_over count nothing in
    record {
      readable = λ broken. let never : false ≡ true = sym (closed count) ∙ broken.gate in cc;
      store = record { first = page_at count 0 ∙ first.first; catalog = λ p low high. page_at count p ∙ first.catalog p low high };
    }

abbrev pub NewStoresRecover : Type 0
NewStoresRecover = (count : ℕ) (image : Image) → 62 ≤ count → count < 2 ^ 32 → IsNewStore count image → RecoversTo count image count []

pub can_be : NewStoresRecover → StoresCanBe
can_be recovers size large = record {
  image = made (page_count size);
  honest = refl;
  only = λ other is. is;
  recovers = recovers (page_count size) (made (page_count size)) (omega (arith, large)) (omega arith) (new_store (page_count size));
}

pub honest : DisksInMemoryAreHonest
honest disk = λ number rests. ap (λ calls. before_all calls (blocks_of disk.bytes.items) number) (sym (drop-length disk.record.items))
