-- What a store knows of its pages stays while they do.
use Rattle.std.proofs.Common.{◌≡◌, List, sym, ap, subst, ◌∙◌}
use Rattle.block_disk.specs.View.{Image, View}
use Rattle.page_space.specs.declared.superblock.Superblock.{Superblock}
use Rattle.series_catalog.specs.Catalogs.{AreAsTold}
use Rattle.series_catalog.specs.declared.stored_series.StoredSeries.{StoredSeries}
use Rattle.stored_book.specs.Standing.{AreCatalog}
use Rattle.tree_walk.specs.declared.tree.Tree.{Tree}
use Rattle.tree_walk.specs.declared.trail.Trail.{Trail}
use Rattle.tree_walk.specs.PagedNodes.{IsTrail}
use Rattle.tree_walk.specs.Trails.{number_at}
use Rattle.tree_walk.specs.SpaceViews.{space_view}

-- sound pages that tell what they are were so before, and are the same
pub record Stay (told told' : Type 0) (old new : View) : Type 0 where
  pub was_fit : new.fit → old.fit
  pub was_told : told' → told
  pub image : told → new.image ≡ old.image

pub told_on : (told told' : Type 0) (old new : View) (series : List StoredSeries) → Stay told told' old new
    → (old.fit → told → AreAsTold old.image series) → new.fit → told' → AreAsTold new.image series
told_on told told' old new series stay are fit t =
    let was = stay.was_told t in
    let P : Image → Type 0 = λ image. AreAsTold image series in
    subst P (sym (stay.image was)) (are (stay.was_fit fit) was)

pub whole_on : (told told' : Type 0) (old new : View) (s s' : Superblock) → Stay told told' old new → s' ≡ s
    → (old.fit → told → AreCatalog old.image s.fresh s.series) → new.fit → told' → AreCatalog new.image s'.fresh s'.series
whole_on told told' old new s s' stay same are fit t =
    let was = stay.was_told t in
    let P : Image → Type 0 = λ image. AreCatalog image s.fresh s.series in
    let Q : Superblock → Type 0 = λ one. AreCatalog new.image one.fresh one.series in
    subst Q (sym same) (subst P (sym (stay.image was)) (are (stay.was_fit fit) was))

pub trail_on : (told told' : Type 0) (old new : View) (s s' : Superblock) (tree : Tree) (trail : Trail) → Stay told told' old new → s' ≡ s
    → IsTrail told (space_view s old) tree trail → IsTrail told' (space_view s' new) tree trail
trail_on told told' old new s s' tree trail stay same is =
    let P : Superblock → Type 0 = λ one. IsTrail told' (space_view one new) tree trail in
    subst P (sym same) (record {
      held = λ depth within.
          let page = is.held depth within in
          record {
            below = page.below;
            keeps = page.keeps;
            level_is = page.level_is;
            as_told = λ t. page.as_told (stay.was_told t)
                ∙ ap (λ image. image (number_at trail.pages.items depth)) (sym (stay.image (stay.was_told t)));
          };
      leads = is.leads;
    })
