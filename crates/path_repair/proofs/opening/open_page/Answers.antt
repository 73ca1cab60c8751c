use Rattle.std.proofs.Common.{◌≡◌, ◌⊎◌, ◌+◌, ◌++◌, true, sym, subst, arith, inl, inr, ◌∙◌}
use Rattle.page_space.specs.Transactions.{left_by}
use Rattle.page_spans.specs.Heaps.{span_at}
use Rattle.path_repair.specs.TreePages.{tree_pages, low}
use Rattle.tree_walk.proofs.StepLemmas.{error_so}
use Rattle.path_repair.specs.Costs.{is_new_root}
use Rattle.path_repair.proofs.OpenLemmas.{open_read_at, open_new_at, readable_at, room_at}
use Rattle.path_repair.proofs.opening.open_page.Goals.{else-root-ne0-via-then-root-ne0+else-not-is_new_root}
use Rattle.path_repair.proofs.opening.open_page.Goals.{else-root-ne0-via-else-root-ne0}
use Rattle.path_repair.specs.declared.errors.RepairError.{RepairError}
use Rattle.path_repair.specs.Damage.{IsDamage}
use Rattle.path_repair.specs.Keeping.{root_level}
use Rattle.path_repair.specs.Apart.{NamesDamaged, and_tree}
use Rattle.path_repair.proofs.DamageLemmas.{damage_here}
use Rattle.path_repair.proofs.StoredLemmas.{apart_read, sound_read, apart_new, stored_here, stored_link}
use Rattle.page_space.specs.Shown as shown
use Rattle.path_repair.proofs.opening.open_page.Goals as goal

pub returns-in_err-read_page-clause-only_faults : goal.returns-in_err-read_page-clause-only_faults
returns-in_err-read_page-clause-only_faults g c = λ base count list list' others below told is slots placed gives.
    let readable = readable_at count (left_by c.args.txn.now base) c.args.txn.now.superblock list list' c.args.at.height c.args.at.level
    below c.args.at.index c.args.root.page c.args.root.span others
    is c.if-root-ne0.true (sym c.if-not-is_new_root.ensures) (omega (arith, c.requires.total, c.requires.page)) placed in
    error_so _ _ c.from_residual.result c.from_residual.ensures.1
    (λ e same. same ∙ c.in_err-read_page.ensures.sound base list below told is slots readable.nodes readable.top_is readable.some
    (λ child within. omega (arith, readable.below child within, c.requires.total)))

pub returns-then-not-is_new_root-clause-part : goal.returns-then-not-is_new_root-clause-part
returns-then-not-is_new_root-clause-part g c = λ base count list list' others below told is slots placed gives.
    open_read_at count (left_by c.args.txn.now base) c.args.txn.now.superblock list list' c.args.at.height c.args.at.level below
    c.args.at.index c.args.root.page c.args.root.span
    (λ child. span_at c.read_page.new.spans (127 + child)) others c.read_page.new.bytes
    is c.if-root-ne0.true (sym c.if-not-is_new_root.ensures) placed (c.in_ok-read_page.ensures.bytes base told)
    (c.in_ok-read_page.ensures.tops base list below told is slots)

pub returns-in_err-number-clause-only_faults : goal.returns-in_err-number-clause-only_faults
returns-in_err-number-clause-only_faults g c = λ base count list list' others below told is slots placed gives.
    let new : (c.args.root.page ≡ 0) ⊎ (is_new_root c.args.at.height c.args.at.level c.args.at.index ≡ true) = elim c.else-root-ne0.branch [
      | else-root-ne0-via-then-root-ne0+else-not-is_new_root w ↦ inr (sym w.if-not-is_new_root.ensures)
      | else-root-ne0-via-else-root-ne0 w ↦ inl w.if-root-ne0.false
    ] in
    error_so _ _ c.from_residual-in_err-number.result c.from_residual-in_err-number.ensures.1
    (λ e same. same ∙ c.in_err-number.ensures.sound base count
    (tree_pages (left_by c.args.txn.now base) (low c.args.at.height c.args.at.level) c.args.root.page ++ others) placed.freed told
    placed.stands
    (room_at count (left_by c.args.txn.now base) c.args.txn.now.superblock list list' c.args.at.height c.args.at.level below c.args.at.index
    c.args.root.page c.args.root.span others is placed new gives))

pub returns-clause-part : goal.returns-clause-part
returns-clause-part g c = λ base count list list' others below told is slots placed gives.
    let new : (c.args.root.page ≡ 0) ⊎ (is_new_root c.args.at.height c.args.at.level c.args.at.index ≡ true) = elim c.else-root-ne0.branch [
      | else-root-ne0-via-then-root-ne0+else-not-is_new_root w ↦ inr (sym w.if-not-is_new_root.ensures)
      | else-root-ne0-via-else-root-ne0 w ↦ inl w.if-root-ne0.false
    ] in
    open_new_at count (left_by c.args.txn.now base)
    (left_by c.take.new.txn base) c.args.txn.now.superblock c.take.new.txn.superblock list list' c.args.at.height c.args.at.level below
    c.args.at.index c.args.root.page c.in_ok-number.number c.args.root.span
    (λ child. span_at c.start.new.spans (127 + child)) others c.start.new.bytes
    is placed new gives c.take.ensures.moved.total (c.in_ok-number.ensures.taken base count
    (tree_pages (left_by c.args.txn.now base) (low c.args.at.height c.args.at.level) c.args.root.page ++ others) placed.freed told
    placed.stands)
    c.start.ensures.first c.start.ensures.none c.start.ensures.top c.start.ensures.no_tops

pub returns-in_err-read_page-clause-damaged : goal.returns-in_err-read_page-clause-damaged
returns-in_err-read_page-clause-damaged g c = λ base below told is.
    let image = left_by c.args.txn.now base in
    let s = c.args.txn.now.superblock in
    let D : RepairError → Type 0 = λ e. IsDamage image s.fresh s
    (root_level c.args.at.height c.args.at.level c.args.at.index) c.args.root.page c.args.root.span e in
    error_so _ D c.from_residual.result c.from_residual.ensures.1
    (λ e same. subst D (sym same) (damage_here image s.fresh s c.args.at.height c.args.at.level below c.args.at.index c.args.root.page
    (shown.total c.args.space.now) c.args.root.span c.in_err-read_page.field-0.0 is (sym c.requires.total) c.if-root-ne0.true
    (sym c.if-not-is_new_root.ensures) (c.in_err-read_page.ensures.bad base told)))

pub returns-clause-own : goal.returns-clause-own
returns-clause-own g c = λ base told. c.in_ok-number.ensures.own base c.args.at.level told

pub returns-in_err-read_page-clause-broken : goal.returns-in_err-read_page-clause-broken
returns-in_err-read_page-clause-broken g c = λ below is base fits stored from mine kept told apart.
    let D : RepairError → Type 0 = λ e. NamesDamaged stored from (shown.total c.args.space.now)
    (root_level c.args.at.height c.args.at.level c.args.at.index) c.args.root.page c.args.root.span e in
    error_so _ D c.from_residual.result c.from_residual.ensures.1
    (λ e same. subst D (sym same) (stored_here stored (left_by c.args.txn.now base) from c.args.txn.now.superblock
    (shown.total c.args.space.now) c.args.at.height c.args.at.level below c.args.at.index c.args.root.page c.args.root.span mine kept
    c.in_err-read_page.field-0.0
    is c.if-root-ne0.true (sym c.if-not-is_new_root.ensures) apart (c.in_err-read_page.ensures.bad base told)))

pub returns-then-not-is_new_root-clause-apart : goal.returns-then-not-is_new_root-clause-apart
returns-then-not-is_new_root-clause-apart g c = λ below is base fits stored from mine kept told apart.
    apart_read stored (left_by c.args.txn.now base) from c.args.txn.now.superblock c.args.at.height c.args.at.level below c.args.at.index
    c.args.root.page c.read_page.new.bytes mine kept
    is c.if-root-ne0.true (sym c.if-not-is_new_root.ensures) (c.in_ok-read_page.ensures.bytes base told)
    (sound_read (shown.total c.args.space.now) c.args.txn.now.superblock.total c.args.at.level c.read_page.new.bytes
    (left_by c.args.txn.now base c.args.root.page)
    (c.in_ok-read_page.ensures.bytes base told) c.requires.total c.in_ok-read_page.ensures.keeps c.in_ok-read_page.ensures.form) apart

pub returns-in_err-number-clause-broken : goal.returns-in_err-number-clause-broken
returns-in_err-number-clause-broken g c = λ below is base fits stored from mine kept told apart.
    let D : RepairError → Type 0 = λ e. NamesDamaged stored from (shown.total c.args.space.now)
    (root_level c.args.at.height c.args.at.level c.args.at.index) c.args.root.page c.args.root.span e in
    error_so _ D c.from_residual-in_err-number.result c.from_residual-in_err-number.ensures.1
    (λ e same. subst D (sym same) (stored_link stored from (shown.total c.args.space.now)
    (root_level c.args.at.height c.args.at.level c.args.at.index) c.args.root.page c.args.root.span c.in_err-number.field-0.0
    (c.in_err-number.ensures.broken base fits stored from mine
    (and_tree fits stored c.args.at.height c.args.at.level c.args.at.index c.args.root.page kept) told apart)))

pub returns-clause-apart : goal.returns-clause-apart
returns-clause-apart g c = λ below is base fits stored from mine kept told apart.
    let new : (c.args.root.page ≡ 0) ⊎ (is_new_root c.args.at.height c.args.at.level c.args.at.index ≡ true) = elim c.else-root-ne0.branch [
      | else-root-ne0-via-then-root-ne0+else-not-is_new_root w ↦ inr (sym w.if-not-is_new_root.ensures)
      | else-root-ne0-via-else-root-ne0 w ↦ inl w.if-root-ne0.false
    ] in
    apart_new stored (left_by c.take.new.txn base) from c.take.new.txn.superblock c.args.at.height c.args.at.level below c.args.at.index
    c.args.root.page c.in_ok-number.number c.start.new.bytes mine kept
    is (record { why = new; first = c.start.ensures.first; none = c.start.ensures.none })
    (c.in_ok-number.ensures.apart base fits stored from mine
    (and_tree fits stored c.args.at.height c.args.at.level c.args.at.index c.args.root.page kept) told apart)

pub returns-in_err-read_page-clause-moved : goal.returns-in_err-read_page-clause-moved
returns-in_err-read_page-clause-moved g c = c.read_page.ensures.moved

pub returns-then-not-is_new_root-clause-moved : goal.returns-then-not-is_new_root-clause-moved
returns-then-not-is_new_root-clause-moved g c = c.read_page.ensures.moved

pub returns-in_err-number-clause-moved : goal.returns-in_err-number-clause-moved
returns-in_err-number-clause-moved g c = c.take.ensures.moved

pub returns-clause-moved : goal.returns-clause-moved
returns-clause-moved g c = c.take.ensures.moved

pub returns-then-not-is_new_root-clause-opened : goal.returns-then-not-is_new_root-clause-opened
returns-then-not-is_new_root-clause-opened g c =
    inl (
      record {
        some = c.if-root-ne0.true;
        old = sym c.if-not-is_new_root.ensures;
        keeps = c.in_ok-read_page.ensures.keeps;
        level_is = c.in_ok-read_page.ensures.form.level_is;
      },
      c.in_ok-read_page.ensures.below,
    )

pub returns-clause-opened : goal.returns-clause-opened
returns-clause-opened g c =
    let new : (c.args.root.page ≡ 0) ⊎ (is_new_root c.args.at.height c.args.at.level c.args.at.index ≡ true) = elim c.else-root-ne0.branch [
      | else-root-ne0-via-then-root-ne0+else-not-is_new_root w ↦ inr (sym w.if-not-is_new_root.ensures)
      | else-root-ne0-via-else-root-ne0 w ↦ inl w.if-root-ne0.false
    ] in
    inr (record { why = new; first = c.start.ensures.first; none = c.start.ensures.none }, c.start.ensures.top)
