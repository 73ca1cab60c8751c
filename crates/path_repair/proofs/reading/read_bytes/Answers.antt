use Rattle.std.proofs.Common.{◌≡◌, ◌<◌, ℕ, List, refl, sym, ap, subst, arith, ◌∙◌}
use Rattle.block_disk.specs.View.{Image}
use Rattle.node_page.specs.Fields.{child_at, level_at}
use Rattle.node_page.specs.Layout.{KeepsLayout}
use Rattle.page_space.specs.declared.superblock.Superblock.{Superblock}
use Rattle.page_space.specs.Transactions.{left_by}
use Rattle.path_repair.proofs.SpaceLemmas.{moved_read}
use Rattle.page_space.specs.Shown as shown
use Rattle.path_repair.proofs.reading.read_bytes.Goals as goal

pub returns-then-not-is_page-clause-sound : goal.returns-then-not-is_page-clause-sound
returns-then-not-is_page-clause-sound g c = λ base told keeps level_is children.
    let R : Image → Type 0 = λ image. c.read.new.out ≡ left_by c.args.txn.now image c.args.page in
    let read : c.read.new.out ≡ left_by c.args.txn.now base c.args.page = subst R told.are (c.in-Ok.ensures.page told.are_told) in
    let K : List ℕ → Type 0 = λ page. KeepsLayout page in
    let C : List ℕ → Type 0 = λ page. (child : ℕ) → child < 128 → child_at page child < (shown.total c.args.space.now) in
    let within = subst C (sym read) children in
    let same : c.read.new.self.superblock ≡ (shown.numbers c.args.space.now) = c.read.ensures.superblock in
    let yes_is = c.if-not-is_page.ensures.sound (subst K (sym read) keeps) (ap (λ b. level_at b) read
    ∙ level_is) (λ child low. omega (arith, within child low, c.total.ensures.total, ap (λ (one : Superblock). one.total) same)) in
    absurd (grind (arith, yes_is))

pub returns-in_default-clause-moved : goal.returns-in_default-clause-moved
returns-in_default-clause-moved g c =
    moved_read (shown.IsTold c.args.space.now) (shown.IsTold c.read.new.self) (shown.view c.args.space.now) (shown.view c.read.new.self)
    (shown.under c.args.space.now) (shown.under c.read.new.self) (shown.numbers c.args.space.now)
    (shown.numbers c.read.new.self) c.args.txn.now c.args.txn.now c.read.ensures.reads c.read.ensures.goes_on c.read.ensures.superblock
    refl

pub returns-then-not-is_page-clause-moved : goal.returns-then-not-is_page-clause-moved
returns-then-not-is_page-clause-moved g c =
    moved_read (shown.IsTold c.args.space.now) (shown.IsTold c.read.new.self) (shown.view c.args.space.now) (shown.view c.read.new.self)
    (shown.under c.args.space.now) (shown.under c.read.new.self) (shown.numbers c.args.space.now)
    (shown.numbers c.read.new.self) c.args.txn.now c.args.txn.now c.read.ensures.reads c.read.ensures.goes_on c.read.ensures.superblock
    refl

pub returns-clause-moved : goal.returns-clause-moved
returns-clause-moved g c =
    moved_read (shown.IsTold c.args.space.now) (shown.IsTold c.read.new.self) (shown.view c.args.space.now) (shown.view c.read.new.self)
    (shown.under c.args.space.now) (shown.under c.read.new.self) (shown.numbers c.args.space.now)
    (shown.numbers c.read.new.self) c.args.txn.now c.args.txn.now c.read.ensures.reads c.read.ensures.goes_on c.read.ensures.superblock
    refl
