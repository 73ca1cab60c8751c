-- Trees and records stay where their pages stay.
use Rattle.std.proofs.Common.{◌≡◌, ◌≢◌, ℕ, ℤ, ◌<◌, ◌≤◌, List, length, Option, sym, ap, subst, ◌∙◌, arith, inl, inr}
use Rattle.std.proofs.Math.Path.{fun_ext}
use Rattle.std.proofs.lemmas.Bool.Decides.{eqb_tells}
use Rattle.block_disk.specs.View.{Image}
use Rattle.om3_coeff.specs.Keys.{page_levels}
use Rattle.page_space.specs.declared.superblock.Superblock.{Superblock}
use Rattle.page_space.specs.Spaces.{times}
use Rattle.series_book.specs.declared.one_series.Series.{Series}
use Rattle.tree_walk.specs.declared.tree.Tree.{Tree}
use Rattle.tree_walk.specs.Trees.{StandsFor}
use Rattle.catalog_page.specs.Entries.{Entry, entry_in, entry_at}
use Rattle.catalog_page.specs.Fields.{record_bytes}
use Rattle.catalog_page.specs.Layout.{IsRecord, KeepsLayout}
use Rattle.catalog_page.specs.Places.{page_of, number_of, records_of}
use Rattle.catalog_page.proofs.RecordPlaces.{one_series}
use Rattle.path_repair.specs.TreePages.{tree_pages}
use Rattle.path_repair.proofs.TreeLemmas.{pages_frame, tree_frame}
use Rattle.stored_book.specs.Records.{entry, tree_of, pages_of_tree}
use Rattle.stored_book.specs.Standing.{IsKept, IsStore}
use Rattle.stored_book.specs.Changing.{IsSameImage, IsRecordSet}

pub same_image : (old new : Image) (s : Superblock) (book : List Series) → IsSameImage old new → IsStore old s book → IsStore new s book
same_image old new s book same store =
    let P : Image → Type 0 = λ image. IsStore image s book in
    subst P (sym (fun_ext same)) store

-- the record of a series is on a page of the catalog
pub page_low : (id : ℕ) → 1 ≤ page_of id
unfolding page_of
page_low id = omega arith

pub page_high : (id : ℕ) → id < 512 → page_of id < 17
unfolding page_of
page_high id low = omega (arith, low)

pub number_few : (id : ℕ) → number_of id < 32
unfolding number_of
number_few id = omega arith

-- pages stand with a tree where its pages stay
pub standing_frame : (old new : Image) (total : ℕ) (tree : Tree) (list : List (Option ℤ)) → StandsFor old total tree list
    → ((p : ℕ) → 0 < times p (tree_pages old (page_levels tree.slots) tree.root) → new p ≡ old p) → StandsFor new total tree list
standing_frame old new total tree list stands same =
    let levels : page_levels tree.slots ≡ page_levels (length list) = ap page_levels stands.slots in
    record {
      values = stands.values;
      few = stands.few;
      slots = stands.slots;
      root_span = stands.root_span;
      pages = tree_frame old new total list (page_levels (length list)) 0 tree.root stands.pages
          (λ p there. same p (omega (arith, there, ap (λ n. times p (tree_pages old n tree.root)) levels)));
    }

pub kept_frame : (old new : Image) (total : ℕ) (series : Series) (e : Entry) → IsKept old total series e
    → ((p : ℕ) → 0 < times p (tree_pages old (page_levels e.slots) e.root) → new p ≡ old p) → IsKept new total series e
kept_frame old new total series e kept same = record {
  record_is = kept.record_is;
  tree = standing_frame old new total (tree_of e) series.slots kept.tree same;
}

-- a tree has the same pages where its record and its pages stay
pub tree_stays : (old new : Image) (id : ℕ) → entry new id ≡ entry old id → ((p : ℕ) → 0 < times p (pages_of_tree old id) → new p ≡ old p)
    → pages_of_tree new id ≡ pages_of_tree old id
tree_stays old new id says same =
    ap (λ (e : Entry). tree_pages new (page_levels e.slots) e.root) says
    ∙ pages_frame old new (page_levels (entry old id).slots) (entry old id).root same

-- a record stays where another one is set
pub entry_stays : (old new : Image) (id : ℕ) (e : Entry) (c : ℕ) → IsRecordSet old new id e → c ≢ id → entry new c ≡ entry old c
entry_stays old new id e c set other = elim (eqb_tells (page_of c) (page_of id)) [
  | inl is ↦
      ap (λ q. entry_at (new q) (number_of c)) is.1
      ∙ ap entry_in (set.records (number_of c) (number_few c) (λ number. other (one_series c id is.1 number)))
      ∙ ap (λ q. entry_at (old q) (number_of c)) (sym is.1)
  | inr is ↦ ap (λ page. entry_at page (number_of c)) (set.others (page_of c) is.1)
]

-- a page of the catalog keeps its layout while more pages are given out
pub layout_later : (page : List ℕ) (count fresh fresh' : ℕ) → fresh ≤ fresh' → KeepsLayout count fresh page → KeepsLayout count fresh' page
layout_later page count fresh fresh' more keeps = record {
  kind = keeps.kind;
  reserved = keeps.reserved;
  used = λ i low. record_later fresh fresh' (record_bytes page i) more (keeps.used i low);
  unused = keeps.unused;
}
  where
    record_later : (fresh fresh' : ℕ) (bytes : List ℕ) → fresh ≤ fresh' → IsRecord fresh bytes → IsRecord fresh' bytes
    record_later fresh fresh' bytes more is = record {
      used = is.used;
      len = is.len;
      scale = is.scale;
      name = is.name;
      step = is.step;
      start = is.start;
      slots = is.slots;
      root = record { low = is.root.low; high = λ some. omega (arith, is.root.high some, more); none = is.root.none };
      min = is.min;
      max = is.max;
      levels = is.levels;
      spare = is.spare;
    }

pub records_few : (p n : ℕ) → records_of p n ≤ 32
unfolding records_of
records_few p n = omega arith
