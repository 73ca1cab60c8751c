use Rattle.std.proofs.Common.{◌≡◌, ◌⊎◌, true, sym, subst, arith, inl, inr, ◌∙◌}
use Rattle.page_space.specs.Transactions.{left_by}
use Rattle.tree_walk.proofs.StepLemmas.{error_so}
use Rattle.path_repair.specs.Costs.{is_new_root}
use Rattle.path_repair.proofs.SeenLemmas.{sound_at, seen_read, seen_new}
use Rattle.path_repair.proofs.counting.look.Goals.{else-page-ne0-via-then-page-ne0+else-not-is_new_root, else-page-ne0-via-else-page-ne0}
use Rattle.path_repair.specs.declared.errors.RepairError.{RepairError}
use Rattle.path_repair.specs.Damage.{IsUnfitBelow}
use Rattle.path_repair.specs.Keeping.{look_most, root_level}
use Rattle.path_repair.proofs.MoveLemmas.{moved_more, moved_none}
use Rattle.path_repair.proofs.DamageLemmas.{unfit_here}
use Rattle.path_repair.proofs.ReadLemmas.{look_page}
use Rattle.page_space.specs.Shown as shown
use Rattle.path_repair.proofs.counting.look.Goals as goal

pub returns-in_err-read_bytes-clause-only_faults : goal.returns-in_err-read_bytes-clause-only_faults
returns-in_err-read_bytes-clause-only_faults g c = λ base list below told is rooted.
    let sound = sound_at (left_by c.args.txn.now base)
    (shown.total c.args.space.now) list c.args.at.height c.args.at.level below c.args.at.index c.args.page is c.if-page-ne0.true
    (sym c.if-not-is_new_root.ensures) (omega (arith, c.requires.page)) rooted in
    error_so _ _ c.from_residual.result c.from_residual.ensures.1
    (λ e same. same ∙ c.in_err-read_bytes.ensures.sound base told sound.keeps sound.level_is sound.below)

pub returns-then-not-is_new_root-clause-seen : goal.returns-then-not-is_new_root-clause-seen
returns-then-not-is_new_root-clause-seen g c = λ base list below told is rooted.
    seen_read (left_by c.args.txn.now base) (shown.total c.args.space.now) list c.args.at.height c.args.at.level below c.args.at.index
    c.args.page c.read_bytes.new.bytes is c.if-page-ne0.true (sym c.if-not-is_new_root.ensures) rooted
    (c.in_ok-read_bytes.ensures.bytes base told)

pub returns-clause-seen : goal.returns-clause-seen
returns-clause-seen g c = λ base list below told is rooted.
    let new : (c.args.page ≡ 0) ⊎ (is_new_root c.args.at.height c.args.at.level c.args.at.index ≡ true) = elim c.else-page-ne0.branch [
      | else-page-ne0-via-then-page-ne0+else-not-is_new_root w ↦ inr (sym w.if-not-is_new_root.ensures)
      | else-page-ne0-via-else-page-ne0 w ↦ inl w.if-page-ne0.false
    ] in
    seen_new (left_by c.args.txn.now base) (shown.total c.args.space.now) list c.args.at.height c.args.at.level below c.args.at.index
    c.args.page c.start_bytes.new.bytes is new rooted c.start_bytes.ensures.first c.start_bytes.ensures.none

pub returns-in_err-read_bytes-clause-moved : goal.returns-in_err-read_bytes-clause-moved
returns-in_err-read_bytes-clause-moved g c =
    let one = look_page c.args.at.height c.args.at.level c.args.at.index c.args.page c.if-page-ne0.true
    (sym c.if-not-is_new_root.ensures) in
    moved_more 1 (look_most c.args.at.height c.args.at.level c.args.at.index c.args.page) 0 0 (shown.IsTold c.args.space.now)
    (shown.IsTold c.read_bytes.new.space) (shown.view c.args.space.now) (shown.view c.read_bytes.new.space)
    (shown.under c.args.space.now) (shown.under c.read_bytes.new.space) (shown.numbers c.args.space.now)
    (shown.numbers c.read_bytes.new.space) c.args.txn.now c.args.txn.now (omega (arith, one)) (omega arith) c.read_bytes.ensures.moved

pub returns-then-not-is_new_root-clause-moved : goal.returns-then-not-is_new_root-clause-moved
returns-then-not-is_new_root-clause-moved g c =
    let one = look_page c.args.at.height c.args.at.level c.args.at.index c.args.page c.if-page-ne0.true
    (sym c.if-not-is_new_root.ensures) in
    moved_more 1 (look_most c.args.at.height c.args.at.level c.args.at.index c.args.page) 0 0 (shown.IsTold c.args.space.now)
    (shown.IsTold c.read_bytes.new.space) (shown.view c.args.space.now) (shown.view c.read_bytes.new.space)
    (shown.under c.args.space.now) (shown.under c.read_bytes.new.space) (shown.numbers c.args.space.now)
    (shown.numbers c.read_bytes.new.space) c.args.txn.now c.args.txn.now (omega (arith, one)) (omega arith) c.read_bytes.ensures.moved

pub returns-in_err-read_bytes-clause-unfit : goal.returns-in_err-read_bytes-clause-unfit
returns-in_err-read_bytes-clause-unfit g c = λ base below told is.
    let U : RepairError → Type 0 = λ e. IsUnfitBelow (left_by c.args.txn.now base) c.args.txn.now.superblock.fresh
    (shown.total c.args.space.now) (root_level c.args.at.height c.args.at.level c.args.at.index) c.args.page e in
    error_so _ U c.from_residual.result c.from_residual.ensures.1
    (λ e same. subst U (sym same) (unfit_here (left_by c.args.txn.now base) c.args.txn.now.superblock.fresh
    (shown.total c.args.space.now) c.args.at.height c.args.at.level below c.args.at.index c.args.page c.in_err-read_bytes.field-0.0 is
    c.if-page-ne0.true (sym c.if-not-is_new_root.ensures) (c.in_err-read_bytes.ensures.unfit base told)))

pub returns-then-not-is_new_root-clause-as_told : goal.returns-then-not-is_new_root-clause-as_told
returns-then-not-is_new_root-clause-as_told g c = λ base told some old. c.in_ok-read_bytes.ensures.bytes base told

pub returns-clause-moved : goal.returns-clause-moved
returns-clause-moved g c =
    moved_more 0 (look_most c.args.at.height c.args.at.level c.args.at.index c.args.page) 0 0 (shown.IsTold c.args.space.now)
    (shown.IsTold c.args.space.now) (shown.view c.args.space.now) (shown.view c.args.space.now) (shown.under c.args.space.now)
    (shown.under c.args.space.now) (shown.numbers c.args.space.now) (shown.numbers c.args.space.now) c.args.txn.now c.args.txn.now
    (omega arith) (omega arith) (moved_none (shown.IsTold c.args.space.now) (shown.view c.args.space.now) (shown.under c.args.space.now)
    (shown.numbers c.args.space.now) c.args.txn.now)

pub returns-then-not-is_new_root-clause-opened : goal.returns-then-not-is_new_root-clause-opened
returns-then-not-is_new_root-clause-opened g c =
    inl (record {
      some = c.if-page-ne0.true;
      old = sym c.if-not-is_new_root.ensures;
      keeps = c.in_ok-read_bytes.ensures.keeps;
      level_is = c.in_ok-read_bytes.ensures.form.level_is;
    })

pub returns-clause-opened : goal.returns-clause-opened
returns-clause-opened g c =
    let new : (c.args.page ≡ 0) ⊎ (is_new_root c.args.at.height c.args.at.level c.args.at.index ≡ true) = elim c.else-page-ne0.branch [
      | else-page-ne0-via-then-page-ne0+else-not-is_new_root w ↦ inr (sym w.if-not-is_new_root.ensures)
      | else-page-ne0-via-else-page-ne0 w ↦ inl w.if-page-ne0.false
    ] in
    inr (record { why = new; first = c.start_bytes.ensures.first; none = c.start_bytes.ensures.none })
