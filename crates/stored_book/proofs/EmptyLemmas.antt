-- The first pages of a store have no series.
use Rattle.std.proofs.Common.{◌≡◌, ℕ, ◌<◌, ◌≤◌, ◌^◌, cond, List, [], refl, sym, ap, subst, ◌∙◌, arith, inl, inr}
use Rattle.std.proofs.lemmas.Bool.{cases_lt, lt-ltb, ne_eqb}
use Rattle.block_disk.specs.View.{Image}
use Rattle.gate_pages.specs.Journal.{pages_of}
use Rattle.page_space.specs.Firsts.{first_page, empty_over}
use Rattle.page_space.specs.Layout.{superblock_page, catalog_page, empty_of, IsSuperblock}
use Rattle.page_space.specs.Spaces.{once, Stands}
use Rattle.page_space.proofs.Counting.{once_low, once_high}
use Rattle.series_book.specs.Books.{IsBook}
use Rattle.catalog_page.specs.Layout.{KeepsLayout}
use Rattle.catalog_page.specs.Places.{records_of}
use Rattle.catalog_page.proofs.Pages.{blank_keeps}
use Rattle.path_repair.specs.Sums.{join_below}
use Rattle.empty_store.specs.Stores.{IsEmptyStore, IsNewStore}
use Rattle.stored_book.specs.Records.{pages_of_trees}
use Rattle.stored_book.specs.Standing.{IsStore, StandsForBook, RecoversTo}
use Rattle.stored_book.proofs.CurrentLemmas.{recovers_new}

no_records : (p : ℕ) → records_of p 0 ≡ 0
unfolding records_of
no_records p = omega arith

no_book : IsBook []
no_book = record {
  few = omega arith;
  all_in_range = λ k d low. absurd (omega (arith, low));
  distinct = λ i j d below low. absurd (omega (arith, low));
}

no_trees : (image : Image) → pages_of_trees image 0 ≡ []
unfolding join_below
no_trees image = refl

pub empty_rules : (count : ℕ) → 62 ≤ count → IsSuperblock count (empty_of count)
empty_rules count low = record {
  total_low = low;
  total_high = omega arith;
  fresh_low = omega arith;
  fresh_high = omega (arith, low);
  head_is = λ some. absurd (some refl);
  chain_high = omega arith;
  none = (λ none. refl, λ none. refl);
  series_high = omega arith;
}

none_in_use : (p : ℕ) → once 17 p ≡ 0
none_in_use p = elim (cases_lt p 17) [
  | inl low ↦ once_low 17 p low
  | inr high ↦ once_high 17 p high
]

pub empty_stands : (count : ℕ) (image : Image) → 62 ≤ count → image 0 ≡ superblock_page (empty_of count)
    → Stands count image (empty_of count) [] []
empty_stands count image low spelled = record {
  spelled = spelled;
  rules = empty_rules count low;
  head_is = refl;
  chain_is = refl;
  linked = tt;
  parted = λ p. sym (none_in_use p);
}

pub empty_store : (count : ℕ) (image : Image) → 62 ≤ count → count < 2 ^ 32 → IsEmptyStore count image → IsStore image (empty_of count) []
empty_store count image low small empty =
    let S : List ℕ → Type 0 = λ taken. Stands count image (empty_of count) taken [] in
    record {
      is_book = no_book;
      small = small;
      series_are = refl;
      catalog = λ p from to.
          let K : List ℕ → ℕ → Type 0 = λ page n. KeepsLayout n 17 page in
          subst (K (image p)) (sym (no_records p)) (subst (λ (l : List ℕ). K l 0) (sym (empty.catalog p from to)) (blank_keeps 17));
      kept = λ id series there. absurd (cc);
      freed = [];
      stands = subst S (sym (no_trees image)) (empty_stands count image low empty.first);
    }

pub empty_book : (count : ℕ) (image : Image) → 62 ≤ count → count < 2 ^ 32 → IsEmptyStore count image → StandsForBook image count []
empty_book count image low small empty = record {
  superblock = empty_of count;
  total_is = refl;
  store = empty_store count image low small empty;
}

pub first_over : (count : ℕ) (image : Image) → IsEmptyStore count (empty_over count image)
first_over count image = record {
  first = ap (λ b. cond b (first_page count 0) (image 0)) (lt-ltb 0 17 (omega arith));
  catalog = λ p from to. ap (λ b. cond b (first_page count p) (image p)) (lt-ltb p 17 to)
      ∙ ap (λ b. cond b (superblock_page (empty_of count)) catalog_page) (ne_eqb p 0 (λ none. omega (arith, none, from)));
}

pub first_book : (count : ℕ) (image : Image) → 62 ≤ count → count < 2 ^ 32 → StandsForBook (empty_over count image) count []
first_book count image low small = empty_book count (empty_over count image) low small (first_over count image)

pub new_recovers : (count : ℕ) (image : Image) → 62 ≤ count → count < 2 ^ 32 → IsNewStore count image → RecoversTo count image count []
new_recovers count image low small new = recovers_new count image count [] new.readable (omega arith)
    (empty_book count (pages_of count image) low small new.store)
