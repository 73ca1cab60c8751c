-- A trail is that of a tree in one way: of the fact there is one proof.
use Rattle.std.specs.Prelude.{ℕ, List, Option, None, Some}
use Rattle.std.proofs.Props.{props}
use Rattle.block_disk.specs.View.{Image}
use Rattle.om3_coeff.specs.declared.key.Key.{Key}
use Rattle.tree_walk.specs.declared.tree.Tree.{Tree}
use Rattle.tree_walk.specs.declared.held_page.HeldPage.{HeldPage}
use Rattle.tree_walk.specs.Trails.{LeadsToAny, IsTrailOf}

leads_prop : (tree : Tree) (pages : List HeldPage) (len : ℕ) (asked : Option Key) → IsProp (LeadsToAny tree pages len asked)
leads_prop tree pages len None = hlevel props
leads_prop tree pages len (Some k) = hlevel props

pub trail_prop : (tells : Type 0) (image : Image) (total : ℕ) (tree : Tree) (pages : List HeldPage) (len : ℕ) (asked : Option Key)
    → IsProp (IsTrailOf tells image total tree pages len asked)
trail_prop tells image total tree pages len asked = hlevel (props, leads_prop)
