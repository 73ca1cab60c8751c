use Rattle.std.proofs.Common.{◌≡◌, ◌≤◌, ◌+◌, ◌*◌, ◌^◌, ℕ, [], refl, sym, ap, subst, arith, ◌∙◌}
use Rattle.om3_coeff.specs.Keys.{page_levels, first_slot, end_slot}
use Rattle.om3_coeff.proofs.KeyLemmas.{height_covers}
use Rattle.path_repair.specs.Changes.{AreSame}
use Rattle.path_repair.proofs.StillLemmas.{lists_equal}
use Rattle.page_space.specs.Transactions.{left_by}
use Rattle.tree_walk.proofs.StepLemmas.{error_so}
use Rattle.tree_walk.specs.Trees.{top_of_page}
use Rattle.path_repair.specs.Costs.{touch}
use Rattle.path_repair.specs.Standing.{IsPlaced, IsRepaired}
use Rattle.path_repair.specs.declared.errors.RepairError.{RepairError}
use Rattle.path_repair.specs.Damage.{IsDamage}
use Rattle.path_repair.specs.Keeping.{root_level}
use Rattle.path_repair.proofs.CallLemmas.{same_touch, clear_puts}
use Rattle.path_repair.specs.Edits.{BlamesStored}
use Rattle.path_repair.proofs.DamageLemmas.{root_top}
use Rattle.path_repair.proofs.StoredLemmas.{stored_call, apart_call}
use Rattle.path_repair.proofs.EditLemmas.{top_small, lists_of, cleared_for, cleared_fewer, edited_for}
use Rattle.path_repair.proofs.MoveLemmas.{moved_more}
use Rattle.page_space.specs.Shown as shown
use Rattle.path_repair.proofs.calls.clear_run.Goals as goal

pub repair-requires-clause-small : goal.repair-requires-clause-small
repair-requires-clause-small g c =
    let levels_is : c.page_levels-levels.result ≡ page_levels c.args.tree.slots = c.page_levels-levels.ensures.levels in
    subst (λ l. end_slot (top_of_page l 0) ≤ 2 ^ 35) (sym levels_is) (top_small c.args.tree.slots)

pub repair-requires-clause-room : goal.repair-requires-clause-room
repair-requires-clause-room g c =
    let levels_is : c.page_levels-levels.result ≡ page_levels c.args.tree.slots = c.page_levels-levels.ensures.levels in
    let cost : touch c.args.slot (c.args.slot + c.args.count) c.page_levels-levels.result c.page_levels-levels.result 0 ≡ touch c.args.slot
    (c.args.slot + c.args.count) (page_levels c.args.tree.slots)
    (page_levels c.args.tree.slots) 0 = ap (λ l. touch c.args.slot (c.args.slot + c.args.count) l l 0) levels_is in
    omega (arith, cost, c.requires.room)

pub returns-in_err-next-clause-moved : goal.returns-in_err-next-clause-moved
returns-in_err-next-clause-moved g c =
    let levels_is : c.page_levels-levels.result ≡ page_levels c.args.tree.slots = c.page_levels-levels.ensures.levels in
    let cost : touch c.args.slot (c.args.slot + c.args.count) c.page_levels-levels.result c.page_levels-levels.result 0 ≡ touch c.args.slot
    (c.args.slot + c.args.count) (page_levels c.args.tree.slots)
    (page_levels c.args.tree.slots) 0 = ap (λ l. touch c.args.slot (c.args.slot + c.args.count) l l 0) levels_is in
    moved_more (touch c.args.slot (c.args.slot + c.args.count) c.page_levels-levels.result c.page_levels-levels.result 0)
    (1 * touch c.args.slot (c.args.slot + c.args.count) (page_levels c.args.tree.slots) (page_levels c.args.tree.slots) 0)
    (touch c.args.slot (c.args.slot + c.args.count) c.page_levels-levels.result c.page_levels-levels.result 0)
    (touch c.args.slot (c.args.slot + c.args.count) (page_levels c.args.tree.slots) (page_levels c.args.tree.slots) 0)
    (shown.IsTold c.args.space.now) (shown.IsTold c.repair.new.space) (shown.view c.args.space.now) (shown.view c.repair.new.space)
    (shown.under c.args.space.now) (shown.under c.repair.new.space) (shown.numbers c.args.space.now)
    (shown.numbers c.repair.new.space) c.args.txn.now c.repair.new.txn (omega (arith, cost))
    (omega (arith, cost)) c.repair.ensures.moved

pub returns-in_err-next-clause-errors : goal.returns-in_err-next-clause-errors
returns-in_err-next-clause-errors g c = λ base size list list' others told holds edited.
    let levels_is : c.page_levels-levels.result ≡ page_levels c.args.tree.slots = c.page_levels-levels.ensures.levels in
    let lists = lists_of c.args.slot (c.args.slot + c.args.count) c.args.tree.slots [] list list' edited in
    let place = cleared_for size (left_by c.args.txn.now base) c.args.txn.now.superblock c.args.tree c.args.slot
    (c.args.slot + c.args.count) list list' others holds edited c.requires.few
    (cleared_fewer c.args.slot (c.args.slot + c.args.count) list list' edited.slots_are) in
    let P : ℕ → Type 0 = λ l. IsPlaced size (left_by c.args.txn.now base) c.args.txn.now.superblock list list' l l 0 c.args.tree.root
    c.args.tree.span others in
    let placed = subst P (sym levels_is) place in
    error_so _ _ c.from_residual.result c.from_residual.ensures.1 (λ e same. same
    ∙ c.in_err-next.ensures.only_faults base size list list' others told lists placed)

pub returns-clause-moved : goal.returns-clause-moved
returns-clause-moved g c =
    let levels_is : c.page_levels-levels.result ≡ page_levels c.args.tree.slots = c.page_levels-levels.ensures.levels in
    let cost : touch c.args.slot (c.args.slot + c.args.count) c.page_levels-levels.result c.page_levels-levels.result 0 ≡ touch c.args.slot
    (c.args.slot + c.args.count) (page_levels c.args.tree.slots)
    (page_levels c.args.tree.slots) 0 = ap (λ l. touch c.args.slot (c.args.slot + c.args.count) l l 0) levels_is in
    moved_more (touch c.args.slot (c.args.slot + c.args.count) c.page_levels-levels.result c.page_levels-levels.result 0)
    (1 * touch c.args.slot (c.args.slot + c.args.count) (page_levels c.args.tree.slots) (page_levels c.args.tree.slots) 0)
    (touch c.args.slot (c.args.slot + c.args.count) c.page_levels-levels.result c.page_levels-levels.result 0)
    (touch c.args.slot (c.args.slot + c.args.count) (page_levels c.args.tree.slots) (page_levels c.args.tree.slots) 0)
    (shown.IsTold c.args.space.now) (shown.IsTold c.repair.new.space) (shown.view c.args.space.now) (shown.view c.repair.new.space)
    (shown.under c.args.space.now) (shown.under c.repair.new.space) (shown.numbers c.args.space.now)
    (shown.numbers c.repair.new.space) c.args.txn.now c.repair.new.txn (omega (arith, cost))
    (omega (arith, cost)) c.repair.ensures.moved

pub returns-clause-edited : goal.returns-clause-edited
returns-clause-edited g c = λ base size list list' others told holds edited.
    let levels_is : c.page_levels-levels.result ≡ page_levels c.args.tree.slots = c.page_levels-levels.ensures.levels in
    let lists = lists_of c.args.slot (c.args.slot + c.args.count) c.args.tree.slots [] list list' edited in
    let place = cleared_for size (left_by c.args.txn.now base) c.args.txn.now.superblock c.args.tree c.args.slot
    (c.args.slot + c.args.count) list list' others holds edited c.requires.few
    (cleared_fewer c.args.slot (c.args.slot + c.args.count) list list' edited.slots_are) in
    let P : ℕ → Type 0 = λ l. IsPlaced size (left_by c.args.txn.now base) c.args.txn.now.superblock list list' l l 0 c.args.tree.root
    c.args.tree.span others in
    let placed = subst P (sym levels_is) place in
    let done = c.in_ok-next.ensures.repaired base size list list' others told lists placed in
    edited_for size (left_by c.args.txn.now base) (left_by c.repair.new.txn base) c.repair.new.txn.superblock c.args.slot
    (c.args.slot + c.args.count) c.args.tree.slots c.in_ok-next.next.page c.in_ok-next.next.span _ [] list list' others edited
    c.requires.few (subst (λ l. IsRepaired size (left_by c.args.txn.now base)
    (left_by c.repair.new.txn base) c.repair.new.txn.superblock list' l 0 c.in_ok-next.next.page c.in_ok-next.next.span others)
    levels_is done) refl refl refl

pub returns-in_err-next-clause-few_puts : goal.returns-in_err-next-clause-few_puts
returns-in_err-next-clause-few_puts g c = λ few.
    let levels_is : c.page_levels-levels.result ≡ page_levels c.args.tree.slots = c.page_levels-levels.ensures.levels in
    let cost : touch c.args.slot (c.args.slot + c.args.count) c.page_levels-levels.result c.page_levels-levels.result 0 ≡ touch c.args.slot
    (c.args.slot + c.args.count) (page_levels c.args.tree.slots) (page_levels c.args.tree.slots) 0 = same_touch c.args.slot
    (c.args.slot + c.args.count) (page_levels c.args.tree.slots)
    (page_levels c.args.tree.slots) c.page_levels-levels.result c.page_levels-levels.result levels_is levels_is in
    omega (arith, c.repair.ensures.moved.held, cost, clear_puts c.args.slot c.args.count c.args.tree.slots few)

pub returns-clause-few_puts : goal.returns-clause-few_puts
returns-clause-few_puts g c = λ few.
    let levels_is : c.page_levels-levels.result ≡ page_levels c.args.tree.slots = c.page_levels-levels.ensures.levels in
    let cost : touch c.args.slot (c.args.slot + c.args.count) c.page_levels-levels.result c.page_levels-levels.result 0 ≡ touch c.args.slot
    (c.args.slot + c.args.count) (page_levels c.args.tree.slots) (page_levels c.args.tree.slots) 0 = same_touch c.args.slot
    (c.args.slot + c.args.count) (page_levels c.args.tree.slots)
    (page_levels c.args.tree.slots) c.page_levels-levels.result c.page_levels-levels.result levels_is levels_is in
    omega (arith, c.repair.ensures.moved.held, cost, clear_puts c.args.slot c.args.count c.args.tree.slots few)

pub returns-in_err-next-clause-damaged : goal.returns-in_err-next-clause-damaged
returns-in_err-next-clause-damaged g c = λ base told.
    let levels_is : c.page_levels-levels.result ≡ page_levels c.args.tree.slots = c.page_levels-levels.ensures.levels in
    let root_is : root_level c.page_levels-levels.result c.page_levels-levels.result 0 ≡ page_levels c.args.tree.slots = root_top
    c.page_levels-levels.result c.page_levels-levels.result (omega arith) ∙ levels_is in
    let L : ℕ → Type 0 = λ l. IsDamage (left_by c.repair.new.txn base) c.args.txn.now.superblock.fresh c.repair.new.txn.superblock l
    c.args.tree.root c.args.tree.span c.in_err-next.field-0.0 in
    let D : RepairError → Type 0 = λ e. IsDamage (left_by c.repair.new.txn base) c.args.txn.now.superblock.fresh c.repair.new.txn.superblock
    (page_levels c.args.tree.slots) c.args.tree.root c.args.tree.span e in
    error_so _ D c.from_residual.result c.from_residual.ensures.1
    (λ e same. subst D (sym same) (subst L root_is (c.in_err-next.ensures.damaged base told)))

pub returns-in_err-next-clause-stored : goal.returns-in_err-next-clause-stored
returns-in_err-next-clause-stored g c = λ base told.
    let levels_is : c.page_levels-levels.result ≡ page_levels c.args.tree.slots = c.page_levels-levels.ensures.levels in
    let root_is : root_level c.page_levels-levels.result c.page_levels-levels.result 0 ≡ page_levels c.args.tree.slots = root_top
    c.page_levels-levels.result c.page_levels-levels.result (omega arith) ∙ levels_is in
    let image = left_by c.args.txn.now base in
    let s = c.args.txn.now.superblock in
    let D : RepairError → Type 0 = λ e. BlamesStored c.args.txn.now base c.args.tree e in
    error_so _ D c.from_residual.result c.from_residual.ensures.1
    (λ e same. subst D (sym same) (λ fits tells apart. stored_call image s (shown.total c.args.space.now) s.total
    (root_level c.page_levels-levels.result c.page_levels-levels.result 0)
    (page_levels c.args.tree.slots) c.args.tree.root c.args.tree.span c.in_err-next.field-0.0 (sym c.requires.total) root_is
    (c.in_err-next.ensures.broken base fits image s (λ p. 0) (λ p. 0) told
    (apart_call fits image s c.page_levels-levels.result c.page_levels-levels.result
    (page_levels c.args.tree.slots) c.args.tree.root root_is tells apart))))

pub returns-clause-same : goal.returns-clause-same
returns-clause-same g c = λ unchanged base size list list' others told holds edited.
    let levels_is : c.page_levels-levels.result ≡ page_levels c.args.tree.slots = c.page_levels-levels.ensures.levels in
    let lists = lists_of c.args.slot (c.args.slot + c.args.count) c.args.tree.slots [] list list' edited in
    let place = cleared_for size (left_by c.args.txn.now base) c.args.txn.now.superblock c.args.tree c.args.slot
    (c.args.slot + c.args.count) list list' others holds edited c.requires.few
    (cleared_fewer c.args.slot (c.args.slot + c.args.count) list list' edited.slots_are) in
    let P : ℕ → Type 0 = λ l. IsPlaced size (left_by c.args.txn.now base) c.args.txn.now.superblock list list' l l 0 c.args.tree.root
    c.args.tree.span others in
    let placed = subst P (sym levels_is) place in
    let S : ℕ → Type 0 = λ l. AreSame list list' (first_slot (top_of_page l 0)) (end_slot (top_of_page l 0)) in
    let same = subst S levels_is (c.in_ok-next.ensures.same unchanged base size list list' others told lists placed) in
    lists_equal list list' (end_slot (top_of_page (page_levels c.args.tree.slots) 0))
    (omega (arith, holds.is_tree.slots, height_covers c.args.tree.slots c.requires.few)) (edited.length_is
    ∙ holds.is_tree.slots) (λ i low high. same i (omega arith) high)

pub returns-clause-idle : goal.returns-clause-idle
returns-clause-idle g c = λ unchanged base size list list' others told holds edited equal.
    let levels_is : c.page_levels-levels.result ≡ page_levels c.args.tree.slots = c.page_levels-levels.ensures.levels in
    let lists = lists_of c.args.slot (c.args.slot + c.args.count) c.args.tree.slots [] list list' edited in
    let place = cleared_for size (left_by c.args.txn.now base) c.args.txn.now.superblock c.args.tree c.args.slot
    (c.args.slot + c.args.count) list list' others holds edited c.requires.few
    (cleared_fewer c.args.slot (c.args.slot + c.args.count) list list' edited.slots_are) in
    let P : ℕ → Type 0 = λ l. IsPlaced size (left_by c.args.txn.now base) c.args.txn.now.superblock list list' l l 0 c.args.tree.root
    c.args.tree.span others in
    let placed = subst P (sym levels_is) place in
    c.in_ok-next.ensures.idle unchanged base size list list' others told lists placed (omega arith) equal
