-- The way to a key whose node stands in the page of the node of the key asked last.
use Rattle.std.proofs.Common.{◌≡◌, ℕ, ◌+◌, ◌-◌, ◌*◌, ◌/◌, ◌%◌, ◌^◌, ◌<◌, ◌≤◌, List, Option, None, Some, sym, ap, subst, ◌∙◌, arith}
use Rattle.std.specs.Prelude.{IfSome}
use Rattle.std.proofs.lemmas.Nat.{shr-shr}
use Rattle.om3_coeff.specs.declared.key.Key.{Key}
use Rattle.om3_coeff.specs.Keys.{page_levels, height, IsNode}
use Rattle.node_page.specs.Fields.{child_at}
use Rattle.node_page.specs.Places.{page_level, page_index, below_top}
use Rattle.tree_walk.specs.declared.tree.Tree.{Tree}
use Rattle.tree_walk.specs.declared.held_page.HeldPage.{HeldPage}
use Rattle.tree_walk.specs.Holding.{AreNear, IsNear}
use Rattle.tree_walk.specs.Paths.{path_index, path_child}
use Rattle.tree_walk.specs.Trails.{bytes_at, LeadsTo, LeadsToAny}
use Rattle.tree_walk.proofs.PathLemmas.{level_low}

-- a key that is there has its node
pub some_node : (o : Option Key) (k : Key) (top : ℕ) → o ≡ Some k → IfSome o (IsNode top) → IsNode top k
some_node o k top is node = subst (λ (x : Option Key). IfSome x (IsNode top)) is node

pub node_of_any : (tree : Tree) (pages : List HeldPage) (len : ℕ) (last : Option Key) → LeadsToAny tree pages len last
    → IfSome last (IsNode (height tree.slots))
node_of_any tree pages len None leads = tt
node_of_any tree pages len (Some k) leads = leads.node

-- above the page that both keys' nodes stand in, the ways to them are one
near_way : (k last : Key) (p : ℕ) → AreNear last k → page_level k.level < p → path_child last p ≡ path_child k p
unfolding path_child path_index page_index below_top
near_way k last p near deep =
    let own : ℕ = page_level k.level in
    let more : ℕ = 7 * (p - 1 - own) in
    let low : k.level ≤ 7 * own = level_low k.level own (omega arith) in
    let low_last : last.level ≤ 7 * page_level last.level = level_low last.level (page_level last.level) (omega arith) in
    let l : (7 * page_level last.level - last.level) + more ≡ 7 * (p - 1) - last.level = omega (arith, near.0, low_last, deep) in
    let m : (7 * own - k.level) + more ≡ 7 * (p - 1) - k.level = omega (arith, low, deep) in
    ap (λ n. n % 128)
    (ap (λ n. last.index / 2 ^ n) (sym l)
    ∙ sym (shr-shr last.index (7 * page_level last.level - last.level) more)
    ∙ ap (λ n. n / 2 ^ more) (sym near.1)
    ∙ shr-shr k.index (7 * own - k.level) more
    ∙ ap (λ n. k.index / 2 ^ n) m)

near_leads : (tree : Tree) (pages : List HeldPage) (len : ℕ) (k last : Key) → IsNode (height tree.slots) k → AreNear last k
    → LeadsTo tree pages len last → LeadsTo tree pages len k
near_leads tree pages len k last node near leads = record {
  node = node;
  long = omega (arith, near.0, leads.long);
  root = leads.root;
  links = λ depth below.
      let link = leads.links depth (omega (arith, below, near.0)) in
      record {
        is = link.is ∙ ap (child_at (bytes_at pages depth)) (near_way k last (page_levels tree.slots - depth) near (omega (arith, below)));
        there = link.there;
      };
}

pub near_leads_any : (tree : Tree) (pages : List HeldPage) (len : ℕ) (k : Key) (last : Option Key) → IsNode (height tree.slots) k
    → IsNear last k → LeadsToAny tree pages len last → LeadsTo tree pages len k
near_leads_any tree pages len k None node near leads = absurd near
near_leads_any tree pages len k (Some last) node near leads = near_leads tree pages len k last node near leads
