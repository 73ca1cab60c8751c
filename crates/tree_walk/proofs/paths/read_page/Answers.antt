-- A page that was read is damaged as it stands.
use Rattle.std.proofs.Common.{◌≡◌, ◌∙◌, List, ℕ, length, refl, sym, subst, ap, arith}
use Rattle.block_disk.specs.View.{Image, View}
use Rattle.block_disk.proofs.Blocks.{all_of}
use Rattle.gate_pages.specs.Pages.{Reads}
use Rattle.page_space.specs.declared.superblock.Superblock.{Superblock}
use Rattle.node_page.specs.Fields.{level_at}
use Rattle.node_page.specs.Layout.{KeepsLayout}
use Rattle.tree_walk.specs.Holding.{IsBadPage}
use Rattle.tree_walk.specs.SpaceViews.{space_view}
use Rattle.page_space.specs.Shown as shown
use Rattle.tree_walk.proofs.paths.read_page.Goals as goal

-- a read, on the pages that page 0 tells
reads_shown : (before after : Superblock) (told told' : Type 0) (old new : View) → after ≡ before → Reads told told' old new
    → Reads told told' (space_view before old) (space_view after new)
reads_shown before after told told' old new same reads = record {
  time = record {
    later = reads.time.later;
    past = reads.time.past;
    kept = reads.time.kept;
    here = reads.time.here;
    sent_past = reads.time.sent_past;
    sent_here = reads.time.sent_here;
  };
  told = reads.told;
  was_told = reads.was_told;
  image = reads.image;
  size = ap (λ (one : Superblock). one.total) same;
  beside = reads.beside;
  fit = reads.fit;
  faults = reads.faults;
  reads = reads.reads;
  syncs = reads.syncs;
  writes = reads.writes;
}

pub returns-then-not-is_tree_page-clause-cause : goal.returns-then-not-is_tree_page-clause-cause
returns-then-not-is_tree_page-clause-cause g c = (
  refl,
  λ told.
      let bytes = c.args.page.now.bytes in
      let same : length c.get_tree.new.out ≡ length bytes.items = c.get_tree.auto.out ∙ ap length c.as_mut_slice.ensures.value in
      let P : List ℕ → Type 0 = λ l. IsBadPage l c.args.level in
      subst P (c.in-Ok.ensures.page told) (c.in-Ok.ensures.no_tree c.if-not-is_tree_page.true),
)

pub returns-in_default-clause-reads : goal.returns-in_default-clause-reads
returns-in_default-clause-reads g c =
    let old = c.args.space.now in
    let new = c.get_tree.new.self in
    reads_shown (shown.numbers old) (shown.numbers new) (shown.IsTold old) (shown.IsTold new) (shown.view old)
    (shown.view new) c.get_tree.ensures.superblock c.get_tree.ensures.reads

pub returns-in_default-clause-over : goal.returns-in_default-clause-over
returns-in_default-clause-over g c = record { superblock = c.get_tree.ensures.superblock; goes_on = c.get_tree.ensures.goes_on }

pub returns-in_default-clause-count : goal.returns-in_default-clause-count
returns-in_default-clause-count g c = c.get_tree.ensures.reads.size

pub returns-then-not-is_tree_page-clause-reads : goal.returns-then-not-is_tree_page-clause-reads
returns-then-not-is_tree_page-clause-reads g c =
    let old = c.args.space.now in
    let new = c.get_tree.new.self in
    reads_shown (shown.numbers old) (shown.numbers new) (shown.IsTold old) (shown.IsTold new) (shown.view old)
    (shown.view new) c.get_tree.ensures.superblock c.get_tree.ensures.reads

pub returns-then-not-is_tree_page-clause-over : goal.returns-then-not-is_tree_page-clause-over
returns-then-not-is_tree_page-clause-over g c = record { superblock = c.get_tree.ensures.superblock; goes_on = c.get_tree.ensures.goes_on }

pub returns-then-not-is_tree_page-clause-count : goal.returns-then-not-is_tree_page-clause-count
returns-then-not-is_tree_page-clause-count g c = c.get_tree.ensures.reads.size

pub returns-clause-reads : goal.returns-clause-reads
returns-clause-reads g c =
    let old = c.args.space.now in
    let new = c.get_tree.new.self in
    reads_shown (shown.numbers old) (shown.numbers new) (shown.IsTold old) (shown.IsTold new) (shown.view old)
    (shown.view new) c.get_tree.ensures.superblock c.get_tree.ensures.reads

pub returns-clause-over : goal.returns-clause-over
returns-clause-over g c = record { superblock = c.get_tree.ensures.superblock; goes_on = c.get_tree.ensures.goes_on }

pub returns-clause-count : goal.returns-clause-count
returns-clause-count g c = c.get_tree.ensures.reads.size

pub returns-clause-held : goal.returns-clause-held
returns-clause-held g c =
    let bytes = c.args.page.now.bytes in
    let same : length c.get_tree.new.out ≡ length bytes.items = c.get_tree.auto.out ∙ ap length c.as_mut_slice.ensures.value in
    let page = all_of c.get_tree.new.out bytes.items bytes.len same bytes.ok.0 in
    let is = c.in-Ok.ensures.tree c.if-not-is_tree_page.false in
    record {
      below = omega (arith, c.requires.number, ap (λ (one : Superblock). one.total) c.get_tree.ensures.superblock);
      keeps = subst (λ (l : List ℕ). KeepsLayout l) (sym page) is.keeps;
      level_is = subst (λ (l : List ℕ). level_at l ≡ c.args.level) (sym page) is.level_is;
      as_told = λ told.
          let was = c.get_tree.ensures.reads.was_told told in
          page ∙ c.in-Ok.ensures.page was ∙ sym (ap (λ (pages : Image). pages c.args.number) (c.get_tree.ensures.reads.image was));
    }

pub returns-clause-quiet : goal.returns-clause-quiet
returns-clause-quiet g c = c.in-Ok.ensures.quiet

pub returns-then-not-is_tree_page-clause-quiet_err : goal.returns-then-not-is_tree_page-clause-quiet_err
returns-then-not-is_tree_page-clause-quiet_err g c = λ other. c.in-Ok.ensures.quiet
