-- A page that the nodes of the selected series call damaged.
use Rattle.std.proofs.Common.{◌≡◌, ◌⊎◌, ℕ, ◌<◌, length, sym, subst, arith}
use Rattle.std.proofs.lemmas.Option.{slice_get_within}
use Rattle.block_disk.specs.View.{Image, View}
use Rattle.catalog_page.specs.Entries.{Entry}
use Rattle.gate_pages.specs.declared.pages.Pages.{Ghosts}
use Rattle.om3_coeff.specs.declared.errors.NodeError.TheVariants.{Damaged}
use Rattle.page_space.specs.declared.superblock.Superblock.{Superblock}
use Rattle.retention.specs.Moving.{Looks}
use Rattle.series_catalog.specs.declared.catalog.Catalog.{Catalog}
use Rattle.series_store.proofs.AskLemmas.{there}
use Rattle.series_store.specs.Shown as shown
use Rattle.series_store.specs.declared.store.Store.{Store}
use Rattle.stored_book.specs.Records.{tree_of}
use Rattle.tree_walk.specs.Paths.{IsDamaged}
use Rattle.tree_walk.specs.declared.tree.Tree.{Tree}
use Rattle.series_pair.specs.Damage.{IsBadForChart, IsBadForPair, IsBadOnWay}

-- it is so by the record of the series
module _ {P : Type 0} {g : Ghosts P} where
  pub way_at : (at : Store P g) (x y id page : ℕ) → (id ≡ x) ⊎ (id ≡ y) → shown.IsSound at → id < length (shown.catalog at)
      → shown.Selects at id
      → (shown.nodes at).bad (Damaged page) → IsBadOnWay x y (shown.IsTold at) (shown.total at) (shown.view at) page
  way_at at x y id page own sound low selected bad =
      let one = there (shown.catalog at) id low in
      let image = shown.image at in
      let s = shown.numbers at in
      let E : Entry → Type 0 = λ e. IsDamaged image s.total (tree_of e) page in
      let T : Tree → Type 0 = λ t. IsDamaged image s.total t page in (
        bad.0,
        λ t. record {
          numbers = s;
          keeps = record { spelled = at.space.spelled sound t; rules = at.space.rules };
          so = (
            bad.0,
            record {
              on_way = record {
                id = id;
                there = omega (arith, slice_get_within (shown.catalog at) id one.0 one.1, at.count);
                damaged = subst E (sym (at.told sound t id one.0 one.1)) (subst T (selected one.0 one.1) (bad.1 t));
              };
              own = own;
            },
          );
        },
      )

-- what was bad before a look is so behind it
pub way_later : (told told' : Type 0) (old new under under' : View) (s s' : Superblock) (catalog catalog' : Catalog) (x y total page : ℕ)
    → Looks told told' old new under under' s s' catalog catalog' → IsBadOnWay x y told total old page → IsBadOnWay x y told' total new page
way_later told told' old new under under' s s' catalog catalog' x y total page looks bad =
    let I : Image → Type 0 = λ i. IsBadForPair x y old.size i page in
    let C : ℕ → Type 0 = λ n. IsBadForPair x y n new.image page in
    (bad.0, λ t. subst C (sym looks.size) (subst I (sym (looks.image (looks.was_told t))) (bad.1 (looks.was_told t))))

-- what is bad of a pair is so for a chart
pub chart_bad : (x y count : ℕ) (image : Image) (page : ℕ) → IsBadForPair x y count image page → IsBadForChart count image page
chart_bad x y count image page bad = record { numbers = bad.numbers; keeps = bad.keeps; so = (bad.so.0, bad.so.1.on_way) }
