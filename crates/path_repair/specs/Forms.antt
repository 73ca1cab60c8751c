-- A page whose nodes and children are being changed.
use Rattle.std.specs.Prelude.{ℕ, ℤ, ◌≡◌, ◌+◌, ◌*◌, ◌<◌, ◌≤◌, false, List, Option}
use Rattle.block_disk.specs.Blocks.{IsBlock}
use Rattle.om3_coeff.specs.declared.span.Span.{Span}
use Rattle.om3_coeff.specs.Spans.{span}
use Rattle.node_page.specs.Fields.{level_at, child_at, flag_at}
use Rattle.node_page.specs.Layout.{IsKind, IsReserved}
use Rattle.tree_walk.specs.Trees.{top_of_page}

-- what a page of this page level has beside its nodes
pub record IsForm (level total : ℕ) (bytes : List ℕ) : Type 0 where
  pub whole : IsBlock bytes
  pub kind : IsKind bytes
  pub level_is : level_at bytes ≡ level
  pub reserved : IsReserved bytes
  pub spare : (b : ℕ) → 254 ≤ b → b < 256 → flag_at bytes b ≡ false
  pub below : (child : ℕ) → child < 128 → child_at bytes child < total

-- the spans of the 128 parts of a range, which have this page level
abbrev pub AreTops : List (Option ℤ) → ℕ → ℕ → (ℕ → Option Span) → Type 0
AreTops list level index tops = (child : ℕ) → child < 128 → tops child ≡ span list (top_of_page level (128 * index + child))
