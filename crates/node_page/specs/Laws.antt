-- Laws of node pages.
use Rattle.std.specs.Prelude.{◌≡◌, ◌<◌, ℕ, List, slice_index}
use Rattle.block_disk.specs.Blocks.{IsBlock}
use Rattle.node_page.specs.Fields.{level_at, coef_at, child_at}
use Rattle.node_page.specs.Layout.{KeepsLayout}

-- A page that keeps the layout has no byte but its fields.
abbrev pub PagesAreTheirFields : Type 0
PagesAreTheirFields =
    (one other : List ℕ)
    → IsBlock one → IsBlock other → ((k : ℕ) → slice_index one k < 256) → ((k : ℕ) → slice_index other k < 256) → KeepsLayout one
    → KeepsLayout other
    → level_at one ≡ level_at other → ((n : ℕ) → n < 127 → coef_at one n ≡ coef_at other n)
    → ((c : ℕ) → c < 128 → child_at one c ≡ child_at other c)
    → one ≡ other
