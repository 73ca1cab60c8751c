use Rattle.std.proofs.Common.{◌≡◌, ◌<◌, ℕ, List, refl, sym, ap, subst, arith}
use Rattle.block_disk.specs.View.{Image}
use Rattle.node_page.specs.Fields.{child_at}
use Rattle.page_space.specs.declared.superblock.Superblock.{Superblock}
use Rattle.page_space.specs.Transactions.{left_by}
use Rattle.tree_walk.specs.Trees.{HoldsNodes}
use Rattle.path_repair.specs.declared.errors.RepairError.TheVariants.{DiskFault}
use Rattle.path_repair.proofs.FormLemmas.{ok_no_err}
use Rattle.path_repair.proofs.SpaceLemmas.{moved_read}
use Rattle.page_space.specs.Shown as shown
use Rattle.path_repair.proofs.reading.read_page.Goals as goal

pub returns-clause-tops : goal.returns-clause-tops
returns-clause-tops g c = λ base list below told is slots holds top.
    let R : Image → Type 0 = λ image. c.read.new.out ≡ left_by c.args.txn.now image c.args.root.page in
    let read : c.read.new.out ≡ left_by c.args.txn.now base c.args.root.page = subst R told.are (c.in-Ok.ensures.page told.are_told) in
    let H : List ℕ → Type 0 = λ page. HoldsNodes list c.args.at.level c.args.at.index page in
    c.spread.ensures.tops list below c.args.at.index is slots (subst H (sym read) holds) top

pub returns-clause-sound : goal.returns-clause-sound
returns-clause-sound g c = λ base list below told is slots holds top some children.
    let R : Image → Type 0 = λ image. c.read.new.out ≡ left_by c.args.txn.now image c.args.root.page in
    let read : c.read.new.out ≡ left_by c.args.txn.now base c.args.root.page = subst R told.are (c.in-Ok.ensures.page told.are_told) in
    let H : List ℕ → Type 0 = λ page. HoldsNodes list c.args.at.level c.args.at.index page in
    let C : List ℕ → Type 0 = λ page. (child : ℕ) → child < 128 → child_at page child < (shown.total c.args.space.now) in
    let within = subst C (sym read) children in
    let same : c.read.new.self.superblock ≡ (shown.numbers c.args.space.now) = c.read.ensures.superblock in
    ok_no_err c.spread.result (λ e. e ≡ DiskFault) (c.spread.ensures.sound list below c.args.at.index is slots
    (subst H (sym read) holds) top some (λ child low. omega (
      arith,
      within child low,
      c.total.ensures.total,
      ap (λ (one : Superblock). one.total) same,
    )))

pub returns-in_default-clause-moved : goal.returns-in_default-clause-moved
returns-in_default-clause-moved g c =
    moved_read (shown.IsTold c.args.space.now) (shown.IsTold c.read.new.self) (shown.view c.args.space.now) (shown.view c.read.new.self)
    (shown.under c.args.space.now) (shown.under c.read.new.self) (shown.numbers c.args.space.now)
    (shown.numbers c.read.new.self) c.args.txn.now c.args.txn.now c.read.ensures.reads c.read.ensures.goes_on c.read.ensures.superblock
    refl

pub returns-clause-moved : goal.returns-clause-moved
returns-clause-moved g c =
    moved_read (shown.IsTold c.args.space.now) (shown.IsTold c.read.new.self) (shown.view c.args.space.now) (shown.view c.read.new.self)
    (shown.under c.args.space.now) (shown.under c.read.new.self) (shown.numbers c.args.space.now)
    (shown.numbers c.read.new.self) c.args.txn.now c.args.txn.now c.read.ensures.reads c.read.ensures.goes_on c.read.ensures.superblock
    refl
