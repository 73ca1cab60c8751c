-- Which bytes say what a record says.
use Rattle.std.specs.Prelude.{ℕ, ◌≡◌, ◌+◌, List, length}
use Rattle.om3_coeff.specs.Keys.{page_levels}
use Rattle.catalog_page.specs.Fields.{used_at, length_at, scale_at, name_at, step_at, start_at, slots_at, root_at, min_at, max_at}
use Rattle.catalog_page.specs.Fields.{levels_at}
use Rattle.catalog_page.specs.Entries.{Entry, least_of, greatest_of}
use Rattle.catalog_page.specs.Layout.{IsClear, IsSpare}

pub record Spells (e : Entry) (bytes : List ℕ) : Type 0 where
  pub whole : length bytes ≡ 96
  pub used : used_at bytes ≡ 1
  pub len : length_at bytes ≡ length e.name
  pub scale : scale_at bytes ≡ e.scale
  pub name : name_at bytes ≡ e.name
  pub padded : IsClear bytes (4 + length e.name) 35
  pub step : step_at bytes ≡ e.step
  pub start : start_at bytes ≡ e.start
  pub slots : slots_at bytes ≡ e.slots
  pub root : root_at bytes ≡ e.root
  pub min : min_at bytes ≡ least_of e.span
  pub max : max_at bytes ≡ greatest_of e.span
  pub levels : levels_at bytes ≡ page_levels e.slots
  pub spare : IsSpare bytes
