use Rattle.std.proofs.Common.{◌≡◌, ◌≤◌, ◌+◌, ◌^◌, ℕ, length, refl, sym, ap, subst, arith, inl, ◌∙◌}
use Rattle.om3_coeff.specs.Keys.{page_levels, first_slot, end_slot}
use Rattle.om3_coeff.proofs.KeyLemmas.{height_covers}
use Rattle.path_repair.specs.Changes.{AreSame}
use Rattle.path_repair.proofs.StillLemmas.{lists_equal}
use Rattle.page_space.specs.declared.superblock.Superblock.{Superblock}
use Rattle.page_space.specs.Transactions.{left_by}
use Rattle.page_space.specs.Layout.{in_use}
use Rattle.tree_walk.proofs.StepLemmas.{error_so}
use Rattle.tree_walk.specs.Trees.{top_of_page}
use Rattle.path_repair.specs.Costs.{touch}
use Rattle.path_repair.specs.TreePages.{tree_pages, low, page_count, IsRooted}
use Rattle.path_repair.specs.Standing.{IsCause, IsPlaced, IsRepaired}
use Rattle.path_repair.specs.declared.errors.RepairError.{RepairError}
use Rattle.path_repair.specs.Damage.{IsDamage}
use Rattle.path_repair.specs.Keeping.{count_most, root_level}
use Rattle.path_repair.proofs.CallLemmas.{same_touch, first_reads}
use Rattle.path_repair.specs.Edits.{BlamesStored}
use Rattle.path_repair.proofs.DamageLemmas.{root_top, unfit_damage}
use Rattle.path_repair.proofs.StoredLemmas.{stored_first, stored_call, apart_call}
use Rattle.path_repair.proofs.EditLemmas.{levels_more, top_small, root_for, lists_of, placed_for, edited_for, full_for, disk_error}
use Rattle.path_repair.proofs.MoveLemmas.{moved_then, moved_more, told_on}
use Rattle.path_repair.specs.Repairs as repairs
use Rattle.page_space.specs.Shown as shown
use Rattle.path_repair.proofs.calls.fill.Goals as goal

pub new_pages-requires-clause-small : goal.new_pages-requires-clause-small
new_pages-requires-clause-small g c =
    let height_is : c.page_levels-height.result ≡ page_levels c.args.tree.slots = c.page_levels-height.ensures.levels in
    let level_is : c.page_levels-level.result ≡ page_levels c.args.len = c.page_levels-level.ensures.levels in
    subst (λ l. end_slot (top_of_page l 0) ≤ 2 ^ 35) (sym level_is) (top_small c.args.len)

pub new_pages-requires-clause-room : goal.new_pages-requires-clause-room
new_pages-requires-clause-room g c =
    let height_is : c.page_levels-height.result ≡ page_levels c.args.tree.slots = c.page_levels-height.ensures.levels in
    let level_is : c.page_levels-level.result ≡ page_levels c.args.len = c.page_levels-level.ensures.levels in
    let cost : touch c.args.slots.first c.args.slots.end c.page_levels-height.result c.page_levels-level.result 0 ≡ touch c.args.slots.first
    c.args.slots.end (page_levels c.args.tree.slots)
    (page_levels c.args.len) 0 = ap (λ h. touch c.args.slots.first c.args.slots.end h c.page_levels-level.result 0) height_is
    ∙ ap (λ l. touch c.args.slots.first c.args.slots.end (page_levels c.args.tree.slots) l 0) level_is in
    omega (arith, cost, c.requires.room)

pub returns-in_err-more-clause-moved : goal.returns-in_err-more-clause-moved
returns-in_err-more-clause-moved g c =
    let height_is : c.page_levels-height.result ≡ page_levels c.args.tree.slots = c.page_levels-height.ensures.levels in
    let level_is : c.page_levels-level.result ≡ page_levels c.args.len = c.page_levels-level.ensures.levels in
    let few : count_most c.args.tree.root c.args.slots.first c.args.slots.end c.page_levels-height.result c.page_levels-level.result
    0 ≤ touch c.args.slots.first c.args.slots.end (page_levels c.args.tree.slots)
    (page_levels c.args.tree.slots) 0 = first_reads c.args.tree.root c.args.slots.first c.args.slots.end (page_levels c.args.tree.slots)
    (page_levels c.args.len) c.page_levels-height.result c.page_levels-level.result height_is level_is
    (levels_more c.args.tree.slots c.args.len c.requires.longer) in
    moved_more (count_most c.args.tree.root c.args.slots.first c.args.slots.end c.page_levels-height.result c.page_levels-level.result 0)
    (touch c.args.slots.first c.args.slots.end (page_levels c.args.tree.slots)
    (page_levels c.args.tree.slots) 0 + touch c.args.slots.first c.args.slots.end (page_levels c.args.tree.slots)
    (page_levels c.args.len) 0) 0 (touch c.args.slots.first c.args.slots.end (page_levels c.args.tree.slots) (page_levels c.args.len) 0)
    (shown.IsTold c.args.space.now) (shown.IsTold c.new_pages.new.space) (shown.view c.args.space.now)
    (shown.view c.new_pages.new.space) (shown.under c.args.space.now) (shown.under c.new_pages.new.space)
    (shown.numbers c.args.space.now) (shown.numbers c.new_pages.new.space) c.args.txn.now c.args.txn.now (omega (arith, few))
    (omega arith) c.new_pages.ensures.moved

pub returns-then-needed-have-clause-moved : goal.returns-then-needed-have-clause-moved
returns-then-needed-have-clause-moved g c =
    let height_is : c.page_levels-height.result ≡ page_levels c.args.tree.slots = c.page_levels-height.ensures.levels in
    let level_is : c.page_levels-level.result ≡ page_levels c.args.len = c.page_levels-level.ensures.levels in
    let few : count_most c.args.tree.root c.args.slots.first c.args.slots.end c.page_levels-height.result c.page_levels-level.result
    0 ≤ touch c.args.slots.first c.args.slots.end (page_levels c.args.tree.slots)
    (page_levels c.args.tree.slots) 0 = first_reads c.args.tree.root c.args.slots.first c.args.slots.end (page_levels c.args.tree.slots)
    (page_levels c.args.len) c.page_levels-height.result c.page_levels-level.result height_is level_is
    (levels_more c.args.tree.slots c.args.len c.requires.longer) in
    moved_more (count_most c.args.tree.root c.args.slots.first c.args.slots.end c.page_levels-height.result c.page_levels-level.result 0)
    (touch c.args.slots.first c.args.slots.end (page_levels c.args.tree.slots)
    (page_levels c.args.tree.slots) 0 + touch c.args.slots.first c.args.slots.end (page_levels c.args.tree.slots)
    (page_levels c.args.len) 0) 0 (touch c.args.slots.first c.args.slots.end (page_levels c.args.tree.slots) (page_levels c.args.len) 0)
    (shown.IsTold c.args.space.now) (shown.IsTold c.new_pages.new.space) (shown.view c.args.space.now)
    (shown.view c.new_pages.new.space) (shown.under c.args.space.now) (shown.under c.new_pages.new.space)
    (shown.numbers c.args.space.now) (shown.numbers c.new_pages.new.space) c.args.txn.now c.args.txn.now (omega (arith, few))
    (omega arith) c.new_pages.ensures.moved

pub returns-in_err-more-clause-errors : goal.returns-in_err-more-clause-errors
returns-in_err-more-clause-errors g c = λ base count list list' others told holds edited.
    let height_is : c.page_levels-height.result ≡ page_levels c.args.tree.slots = c.page_levels-height.ensures.levels in
    let level_is : c.page_levels-level.result ≡ page_levels c.args.len = c.page_levels-level.ensures.levels in
    let root_is = root_for (left_by c.args.txn.now base) c.args.txn.now.superblock.total c.args.tree list c.args.len holds.is_tree
    c.requires.longer c.requires.few_new in
    let RH : ℕ → Type 0 = λ h. IsRooted (left_by c.args.txn.now base) c.args.txn.now.superblock.total list h
    (page_levels c.args.len) 0 c.args.tree.root in
    let RL : ℕ → Type 0 = λ l. IsRooted (left_by c.args.txn.now base) c.args.txn.now.superblock.total list c.page_levels-height.result l 0
    c.args.tree.root in
    let RT : ℕ → Type 0 = λ t. IsRooted (left_by c.args.txn.now base) t list c.page_levels-height.result c.page_levels-level.result 0
    c.args.tree.root in
    let rooted = subst RT c.requires.total (subst RL (sym level_is) (subst RH (sym height_is) root_is)) in
    let lists = lists_of c.args.slots.first c.args.slots.end c.args.len c.args.values.now list list' edited in
    error_so _ _ c.from_residual.result c.from_residual.ensures.1
    (λ e same. disk_error c.args.txn.now _ list list' e (same
    ∙ c.in_err-more.ensures.only_faults base list list' told lists c.requires.fills rooted))

pub returns-then-needed-have-clause-errors : goal.returns-then-needed-have-clause-errors
returns-then-needed-have-clause-errors g c = λ base count list list' others told holds edited.
    let height_is : c.page_levels-height.result ≡ page_levels c.args.tree.slots = c.page_levels-height.ensures.levels in
    let level_is : c.page_levels-level.result ≡ page_levels c.args.len = c.page_levels-level.ensures.levels in
    let root_is = root_for (left_by c.args.txn.now base) c.args.txn.now.superblock.total c.args.tree list c.args.len holds.is_tree
    c.requires.longer c.requires.few_new in
    let RH : ℕ → Type 0 = λ h. IsRooted (left_by c.args.txn.now base) c.args.txn.now.superblock.total list h
    (page_levels c.args.len) 0 c.args.tree.root in
    let RL : ℕ → Type 0 = λ l. IsRooted (left_by c.args.txn.now base) c.args.txn.now.superblock.total list c.page_levels-height.result l 0
    c.args.tree.root in
    let RT : ℕ → Type 0 = λ t. IsRooted (left_by c.args.txn.now base) t list c.page_levels-height.result c.page_levels-level.result 0
    c.args.tree.root in
    let rooted = subst RT c.requires.total (subst RL (sym level_is) (subst RH (sym height_is) root_is)) in
    let lists = lists_of c.args.slots.first c.args.slots.end c.args.len c.args.values.now list list' edited in
    let CH : ℕ → Type 0 = λ h. c.in_ok-more.more + length
    (tree_pages (left_by c.args.txn.now base) (low h c.page_levels-level.result) c.args.tree.root) ≡ page_count list'
    c.page_levels-level.result 0 in
    let CL : ℕ → Type 0 = λ l. c.in_ok-more.more + length
    (tree_pages (left_by c.args.txn.now base) (low (page_levels c.args.tree.slots) l) c.args.tree.root) ≡ page_count list' l 0 in
    let counted = subst CL level_is (subst CH height_is (c.in_ok-more.ensures.counts base list list' told lists c.requires.fills rooted)) in
    let used : c.from.result ≡ in_use c.args.txn.now.superblock = c.from.ensures ∙ c.used.ensures.used in (
      full_for count (left_by c.args.txn.now base) c.args.txn.now.superblock c.args.tree c.args.slots.first c.args.slots.end c.args.len
          c.in_ok-more.more (c.from.result + c.in_ok-more.more) c.from-have.result c.args.values.now list list' others holds edited
          c.requires.longer counted
          (omega (arith, used)) (omega (
            arith,
            c.from-have.ensures,
            c.total.ensures.total,
            c.requires.total,
            ap (λ (s : Superblock). s.total) c.new_pages.ensures.moved.over.superblock,
          )) c.if-needed-have.true,
      refl,
    )

pub repair-requires-clause-small : goal.repair-requires-clause-small
repair-requires-clause-small g c =
    let height_is : c.page_levels-height.result ≡ page_levels c.args.tree.slots = c.page_levels-height.ensures.levels in
    let level_is : c.page_levels-level.result ≡ page_levels c.args.len = c.page_levels-level.ensures.levels in
    subst (λ l. end_slot (top_of_page l 0) ≤ 2 ^ 35) (sym level_is) (top_small c.args.len)

pub repair-requires-clause-room : goal.repair-requires-clause-room
repair-requires-clause-room g c =
    let height_is : c.page_levels-height.result ≡ page_levels c.args.tree.slots = c.page_levels-height.ensures.levels in
    let level_is : c.page_levels-level.result ≡ page_levels c.args.len = c.page_levels-level.ensures.levels in
    let cost : touch c.args.slots.first c.args.slots.end c.page_levels-height.result c.page_levels-level.result 0 ≡ touch c.args.slots.first
    c.args.slots.end (page_levels c.args.tree.slots)
    (page_levels c.args.len) 0 = ap (λ h. touch c.args.slots.first c.args.slots.end h c.page_levels-level.result 0) height_is
    ∙ ap (λ l. touch c.args.slots.first c.args.slots.end (page_levels c.args.tree.slots) l 0) level_is in
    omega (arith, cost, c.requires.room)

pub returns-in_err-next-clause-moved : goal.returns-in_err-next-clause-moved
returns-in_err-next-clause-moved g c =
    let height_is : c.page_levels-height.result ≡ page_levels c.args.tree.slots = c.page_levels-height.ensures.levels in
    let level_is : c.page_levels-level.result ≡ page_levels c.args.len = c.page_levels-level.ensures.levels in
    let few : count_most c.args.tree.root c.args.slots.first c.args.slots.end c.page_levels-height.result c.page_levels-level.result
    0 ≤ touch c.args.slots.first c.args.slots.end (page_levels c.args.tree.slots)
    (page_levels c.args.tree.slots) 0 = first_reads c.args.tree.root c.args.slots.first c.args.slots.end (page_levels c.args.tree.slots)
    (page_levels c.args.len) c.page_levels-height.result c.page_levels-level.result height_is level_is
    (levels_more c.args.tree.slots c.args.len c.requires.longer) in
    let cost : touch c.args.slots.first c.args.slots.end c.page_levels-height.result c.page_levels-level.result 0 ≡ touch c.args.slots.first
    c.args.slots.end (page_levels c.args.tree.slots) (page_levels c.args.len) 0 = same_touch c.args.slots.first c.args.slots.end
    (page_levels c.args.tree.slots) (page_levels c.args.len) c.page_levels-height.result c.page_levels-level.result height_is level_is
    in
    moved_more (count_most c.args.tree.root c.args.slots.first c.args.slots.end c.page_levels-height.result c.page_levels-level.result
    0 + touch c.args.slots.first c.args.slots.end c.page_levels-height.result c.page_levels-level.result 0)
    (touch c.args.slots.first c.args.slots.end (page_levels c.args.tree.slots)
    (page_levels c.args.tree.slots) 0 + touch c.args.slots.first c.args.slots.end (page_levels c.args.tree.slots)
    (page_levels c.args.len) 0) (0 + touch c.args.slots.first c.args.slots.end c.page_levels-height.result c.page_levels-level.result 0)
    (touch c.args.slots.first c.args.slots.end (page_levels c.args.tree.slots) (page_levels c.args.len) 0)
    (shown.IsTold c.args.space.now) (shown.IsTold c.repair.new.space) (shown.view c.args.space.now) (shown.view c.repair.new.space)
    (shown.under c.args.space.now) (shown.under c.repair.new.space) (shown.numbers c.args.space.now)
    (shown.numbers c.repair.new.space) c.args.txn.now c.repair.new.txn
    (omega (arith, few, cost)) (omega (arith, cost))
    (moved_then (count_most c.args.tree.root c.args.slots.first c.args.slots.end c.page_levels-height.result c.page_levels-level.result 0)
    (touch c.args.slots.first c.args.slots.end c.page_levels-height.result c.page_levels-level.result 0) 0
    (touch c.args.slots.first c.args.slots.end c.page_levels-height.result c.page_levels-level.result 0) (shown.IsTold c.args.space.now)
    (shown.IsTold c.new_pages.new.space) (shown.IsTold c.repair.new.space) (shown.view c.args.space.now)
    (shown.view c.new_pages.new.space) (shown.view c.repair.new.space) (shown.under c.args.space.now)
    (shown.under c.new_pages.new.space) (shown.under c.repair.new.space) (shown.numbers c.args.space.now)
    (shown.numbers c.new_pages.new.space) (shown.numbers c.repair.new.space) c.args.txn.now c.args.txn.now c.repair.new.txn
    c.new_pages.ensures.moved c.repair.ensures.moved)

pub returns-in_err-next-clause-errors : goal.returns-in_err-next-clause-errors
returns-in_err-next-clause-errors g c = λ base count list list' others told holds edited.
    let height_is : c.page_levels-height.result ≡ page_levels c.args.tree.slots = c.page_levels-height.ensures.levels in
    let level_is : c.page_levels-level.result ≡ page_levels c.args.len = c.page_levels-level.ensures.levels in
    let root_is = root_for (left_by c.args.txn.now base) c.args.txn.now.superblock.total c.args.tree list c.args.len holds.is_tree
    c.requires.longer c.requires.few_new in
    let RH : ℕ → Type 0 = λ h. IsRooted (left_by c.args.txn.now base) c.args.txn.now.superblock.total list h
    (page_levels c.args.len) 0 c.args.tree.root in
    let RL : ℕ → Type 0 = λ l. IsRooted (left_by c.args.txn.now base) c.args.txn.now.superblock.total list c.page_levels-height.result l 0
    c.args.tree.root in
    let RT : ℕ → Type 0 = λ t. IsRooted (left_by c.args.txn.now base) t list c.page_levels-height.result c.page_levels-level.result 0
    c.args.tree.root in
    let rooted = subst RT c.requires.total (subst RL (sym level_is) (subst RH (sym height_is) root_is)) in
    let lists = lists_of c.args.slots.first c.args.slots.end c.args.len c.args.values.now list list' edited in
    let CH : ℕ → Type 0 = λ h. c.in_ok-more.more + length
    (tree_pages (left_by c.args.txn.now base) (low h c.page_levels-level.result) c.args.tree.root) ≡ page_count list'
    c.page_levels-level.result 0 in
    let CL : ℕ → Type 0 = λ l. c.in_ok-more.more + length
    (tree_pages (left_by c.args.txn.now base) (low (page_levels c.args.tree.slots) l) c.args.tree.root) ≡ page_count list' l 0 in
    let counted = subst CL level_is (subst CH height_is (c.in_ok-more.ensures.counts base list list' told lists c.requires.fills rooted)) in
    let used : c.from.result ≡ in_use c.args.txn.now.superblock = c.from.ensures ∙ c.used.ensures.used in
    let room : in_use c.args.txn.now.superblock + c.in_ok-more.more ≤ c.args.txn.now.superblock.total = omega (
      arith,
      c.if-needed-have.false,
      used,
      c.from-have.ensures,
      c.total.ensures.total,
      c.requires.total,
      ap (λ (s : Superblock). s.total) c.new_pages.ensures.moved.over.superblock,
    ) in
    let place = placed_for count (left_by c.args.txn.now base) c.args.txn.now.superblock c.args.tree c.args.slots.first c.args.slots.end
    c.args.len c.in_ok-more.more c.args.values.now list list' others holds edited c.requires.longer c.requires.few_new c.requires.fills
    counted room in
    let PH : ℕ → Type 0 = λ h. IsPlaced count (left_by c.args.txn.now base) c.args.txn.now.superblock list list' h
    (page_levels c.args.len) 0 c.args.tree.root c.args.tree.span others in
    let PL : ℕ → Type 0 = λ l. IsPlaced count (left_by c.args.txn.now base) c.args.txn.now.superblock list list' c.page_levels-height.result
    l 0 c.args.tree.root c.args.tree.span others in
    let placed = subst PL (sym level_is) (subst PH (sym height_is) place) in
    let told' = told_on (count_most c.args.tree.root c.args.slots.first c.args.slots.end c.page_levels-height.result
    c.page_levels-level.result 0) (shown.IsTold c.args.space.now) (shown.IsTold c.new_pages.new.space) (shown.view c.args.space.now)
    (shown.view c.new_pages.new.space) base c.new_pages.ensures.moved.reads told in
    error_so _ _ c.from_residual-in_err-next.result c.from_residual-in_err-next.ensures.1
    (λ e same. disk_error c.args.txn.now _ list list' e (same
    ∙ c.in_err-next.ensures.only_faults base count list list' others told' lists placed))

pub returns-clause-moved : goal.returns-clause-moved
returns-clause-moved g c =
    let height_is : c.page_levels-height.result ≡ page_levels c.args.tree.slots = c.page_levels-height.ensures.levels in
    let level_is : c.page_levels-level.result ≡ page_levels c.args.len = c.page_levels-level.ensures.levels in
    let few : count_most c.args.tree.root c.args.slots.first c.args.slots.end c.page_levels-height.result c.page_levels-level.result
    0 ≤ touch c.args.slots.first c.args.slots.end (page_levels c.args.tree.slots)
    (page_levels c.args.tree.slots) 0 = first_reads c.args.tree.root c.args.slots.first c.args.slots.end (page_levels c.args.tree.slots)
    (page_levels c.args.len) c.page_levels-height.result c.page_levels-level.result height_is level_is
    (levels_more c.args.tree.slots c.args.len c.requires.longer) in
    let cost : touch c.args.slots.first c.args.slots.end c.page_levels-height.result c.page_levels-level.result 0 ≡ touch c.args.slots.first
    c.args.slots.end (page_levels c.args.tree.slots) (page_levels c.args.len) 0 = same_touch c.args.slots.first c.args.slots.end
    (page_levels c.args.tree.slots) (page_levels c.args.len) c.page_levels-height.result c.page_levels-level.result height_is level_is
    in
    moved_more (count_most c.args.tree.root c.args.slots.first c.args.slots.end c.page_levels-height.result c.page_levels-level.result
    0 + touch c.args.slots.first c.args.slots.end c.page_levels-height.result c.page_levels-level.result 0)
    (touch c.args.slots.first c.args.slots.end (page_levels c.args.tree.slots)
    (page_levels c.args.tree.slots) 0 + touch c.args.slots.first c.args.slots.end (page_levels c.args.tree.slots)
    (page_levels c.args.len) 0) (0 + touch c.args.slots.first c.args.slots.end c.page_levels-height.result c.page_levels-level.result 0)
    (touch c.args.slots.first c.args.slots.end (page_levels c.args.tree.slots) (page_levels c.args.len) 0)
    (shown.IsTold c.args.space.now) (shown.IsTold c.repair.new.space) (shown.view c.args.space.now) (shown.view c.repair.new.space)
    (shown.under c.args.space.now) (shown.under c.repair.new.space) (shown.numbers c.args.space.now)
    (shown.numbers c.repair.new.space) c.args.txn.now c.repair.new.txn
    (omega (arith, few, cost)) (omega (arith, cost))
    (moved_then (count_most c.args.tree.root c.args.slots.first c.args.slots.end c.page_levels-height.result c.page_levels-level.result 0)
    (touch c.args.slots.first c.args.slots.end c.page_levels-height.result c.page_levels-level.result 0) 0
    (touch c.args.slots.first c.args.slots.end c.page_levels-height.result c.page_levels-level.result 0) (shown.IsTold c.args.space.now)
    (shown.IsTold c.new_pages.new.space) (shown.IsTold c.repair.new.space) (shown.view c.args.space.now)
    (shown.view c.new_pages.new.space) (shown.view c.repair.new.space) (shown.under c.args.space.now)
    (shown.under c.new_pages.new.space) (shown.under c.repair.new.space) (shown.numbers c.args.space.now)
    (shown.numbers c.new_pages.new.space) (shown.numbers c.repair.new.space) c.args.txn.now c.args.txn.now c.repair.new.txn
    c.new_pages.ensures.moved c.repair.ensures.moved)

pub returns-clause-edited : goal.returns-clause-edited
returns-clause-edited g c = λ base count list list' others told holds edited.
    let height_is : c.page_levels-height.result ≡ page_levels c.args.tree.slots = c.page_levels-height.ensures.levels in
    let level_is : c.page_levels-level.result ≡ page_levels c.args.len = c.page_levels-level.ensures.levels in
    let root_is = root_for (left_by c.args.txn.now base) c.args.txn.now.superblock.total c.args.tree list c.args.len holds.is_tree
    c.requires.longer c.requires.few_new in
    let RH : ℕ → Type 0 = λ h. IsRooted (left_by c.args.txn.now base) c.args.txn.now.superblock.total list h
    (page_levels c.args.len) 0 c.args.tree.root in
    let RL : ℕ → Type 0 = λ l. IsRooted (left_by c.args.txn.now base) c.args.txn.now.superblock.total list c.page_levels-height.result l 0
    c.args.tree.root in
    let RT : ℕ → Type 0 = λ t. IsRooted (left_by c.args.txn.now base) t list c.page_levels-height.result c.page_levels-level.result 0
    c.args.tree.root in
    let rooted = subst RT c.requires.total (subst RL (sym level_is) (subst RH (sym height_is) root_is)) in
    let lists = lists_of c.args.slots.first c.args.slots.end c.args.len c.args.values.now list list' edited in
    let CH : ℕ → Type 0 = λ h. c.in_ok-more.more + length
    (tree_pages (left_by c.args.txn.now base) (low h c.page_levels-level.result) c.args.tree.root) ≡ page_count list'
    c.page_levels-level.result 0 in
    let CL : ℕ → Type 0 = λ l. c.in_ok-more.more + length
    (tree_pages (left_by c.args.txn.now base) (low (page_levels c.args.tree.slots) l) c.args.tree.root) ≡ page_count list' l 0 in
    let counted = subst CL level_is (subst CH height_is (c.in_ok-more.ensures.counts base list list' told lists c.requires.fills rooted)) in
    let used : c.from.result ≡ in_use c.args.txn.now.superblock = c.from.ensures ∙ c.used.ensures.used in
    let room : in_use c.args.txn.now.superblock + c.in_ok-more.more ≤ c.args.txn.now.superblock.total = omega (
      arith,
      c.if-needed-have.false,
      used,
      c.from-have.ensures,
      c.total.ensures.total,
      c.requires.total,
      ap (λ (s : Superblock). s.total) c.new_pages.ensures.moved.over.superblock,
    ) in
    let place = placed_for count (left_by c.args.txn.now base) c.args.txn.now.superblock c.args.tree c.args.slots.first c.args.slots.end
    c.args.len c.in_ok-more.more c.args.values.now list list' others holds edited c.requires.longer c.requires.few_new c.requires.fills
    counted room in
    let PH : ℕ → Type 0 = λ h. IsPlaced count (left_by c.args.txn.now base) c.args.txn.now.superblock list list' h
    (page_levels c.args.len) 0 c.args.tree.root c.args.tree.span others in
    let PL : ℕ → Type 0 = λ l. IsPlaced count (left_by c.args.txn.now base) c.args.txn.now.superblock list list' c.page_levels-height.result
    l 0 c.args.tree.root c.args.tree.span others in
    let placed = subst PL (sym level_is) (subst PH (sym height_is) place) in
    let told' = told_on (count_most c.args.tree.root c.args.slots.first c.args.slots.end c.page_levels-height.result
    c.page_levels-level.result 0) (shown.IsTold c.args.space.now) (shown.IsTold c.new_pages.new.space) (shown.view c.args.space.now)
    (shown.view c.new_pages.new.space) base c.new_pages.ensures.moved.reads told in
    let done = c.in_ok-next.ensures.repaired base count list list' others told' lists placed in
    edited_for count (left_by c.args.txn.now base) (left_by c.repair.new.txn base) c.repair.new.txn.superblock c.args.slots.first
    c.args.slots.end c.args.len c.in_ok-next.next.page c.in_ok-next.next.span _ c.args.values.now list list' others edited
    c.requires.few_new (subst (λ l. IsRepaired count (left_by c.args.txn.now base)
    (left_by c.repair.new.txn base) c.repair.new.txn.superblock list' l 0 c.in_ok-next.next.page c.in_ok-next.next.span others) level_is
    done) refl refl refl

pub returns-in_err-more-clause-damaged : goal.returns-in_err-more-clause-damaged
returns-in_err-more-clause-damaged g c = λ base told.
    let height_is : c.page_levels-height.result ≡ page_levels c.args.tree.slots = c.page_levels-height.ensures.levels in
    let level_is : c.page_levels-level.result ≡ page_levels c.args.len = c.page_levels-level.ensures.levels in
    let root_is : root_level c.page_levels-height.result c.page_levels-level.result 0 ≡ page_levels c.args.tree.slots
    = root_top c.page_levels-height.result c.page_levels-level.result
    (omega (arith, height_is, level_is, levels_more c.args.tree.slots c.args.len c.requires.longer)) ∙ height_is in
    let image = left_by c.args.txn.now base in
    let s = c.args.txn.now.superblock in
    let D : RepairError → Type 0 = λ e. IsDamage image s.fresh s (page_levels c.args.tree.slots) c.args.tree.root c.args.tree.span e in
    error_so _ D c.from_residual.result c.from_residual.ensures.1
    (λ e same. subst D (sym same) (unfit_damage image (shown.total c.args.space.now)
    (root_level c.page_levels-height.result c.page_levels-level.result 0)
    (page_levels c.args.tree.slots) c.args.tree.root s c.args.tree.span c.in_err-more.field-0.0 (sym c.requires.total) root_is
    (c.in_err-more.ensures.unfit base told)))

pub returns-in_err-next-clause-damaged : goal.returns-in_err-next-clause-damaged
returns-in_err-next-clause-damaged g c = λ base told.
    let height_is : c.page_levels-height.result ≡ page_levels c.args.tree.slots = c.page_levels-height.ensures.levels in
    let level_is : c.page_levels-level.result ≡ page_levels c.args.len = c.page_levels-level.ensures.levels in
    let root_is : root_level c.page_levels-height.result c.page_levels-level.result 0 ≡ page_levels c.args.tree.slots
    = root_top c.page_levels-height.result c.page_levels-level.result
    (omega (arith, height_is, level_is, levels_more c.args.tree.slots c.args.len c.requires.longer)) ∙ height_is in
    let told' = told_on (count_most c.args.tree.root c.args.slots.first c.args.slots.end c.page_levels-height.result
    c.page_levels-level.result 0) (shown.IsTold c.args.space.now) (shown.IsTold c.new_pages.new.space) (shown.view c.args.space.now)
    (shown.view c.new_pages.new.space) base c.new_pages.ensures.moved.reads told in
    let L : ℕ → Type 0 = λ l. IsDamage (left_by c.repair.new.txn base) c.args.txn.now.superblock.fresh c.repair.new.txn.superblock l
    c.args.tree.root c.args.tree.span c.in_err-next.field-0.0 in
    let D : RepairError → Type 0 = λ e. IsDamage (left_by c.repair.new.txn base) c.args.txn.now.superblock.fresh c.repair.new.txn.superblock
    (page_levels c.args.tree.slots) c.args.tree.root c.args.tree.span e in
    error_so _ D c.from_residual-in_err-next.result c.from_residual-in_err-next.ensures.1
    (λ e same. subst D (sym same) (subst L root_is (c.in_err-next.ensures.damaged base told')))

pub returns-in_err-more-clause-stored : goal.returns-in_err-more-clause-stored
returns-in_err-more-clause-stored g c = λ base told.
    let height_is : c.page_levels-height.result ≡ page_levels c.args.tree.slots = c.page_levels-height.ensures.levels in
    let level_is : c.page_levels-level.result ≡ page_levels c.args.len = c.page_levels-level.ensures.levels in
    let root_is : root_level c.page_levels-height.result c.page_levels-level.result 0 ≡ page_levels c.args.tree.slots
    = root_top c.page_levels-height.result c.page_levels-level.result
    (omega (arith, height_is, level_is, levels_more c.args.tree.slots c.args.len c.requires.longer)) ∙ height_is in
    let image = left_by c.args.txn.now base in
    let s = c.args.txn.now.superblock in
    let D : RepairError → Type 0 = λ e. BlamesStored c.args.txn.now base c.args.tree e in
    error_so _ D c.from_residual.result c.from_residual.ensures.1
    (λ e same. subst D (sym same) (λ fits tells apart. stored_first image s (shown.total c.args.space.now) s.total
    (root_level c.page_levels-height.result c.page_levels-level.result 0)
    (page_levels c.args.tree.slots) c.args.tree.root c.args.tree.span c.in_err-more.field-0.0 (sym c.requires.total) root_is
    (c.in_err-more.ensures.unfit base told)))

pub returns-in_err-next-clause-stored : goal.returns-in_err-next-clause-stored
returns-in_err-next-clause-stored g c = λ base told.
    let height_is : c.page_levels-height.result ≡ page_levels c.args.tree.slots = c.page_levels-height.ensures.levels in
    let level_is : c.page_levels-level.result ≡ page_levels c.args.len = c.page_levels-level.ensures.levels in
    let root_is : root_level c.page_levels-height.result c.page_levels-level.result 0 ≡ page_levels c.args.tree.slots
    = root_top c.page_levels-height.result c.page_levels-level.result
    (omega (arith, height_is, level_is, levels_more c.args.tree.slots c.args.len c.requires.longer)) ∙ height_is in
    let told' = told_on (count_most c.args.tree.root c.args.slots.first c.args.slots.end c.page_levels-height.result
    c.page_levels-level.result 0) (shown.IsTold c.args.space.now) (shown.IsTold c.new_pages.new.space) (shown.view c.args.space.now)
    (shown.view c.new_pages.new.space) base c.new_pages.ensures.moved.reads told in
    let image = left_by c.args.txn.now base in
    let s = c.args.txn.now.superblock in
    let total_is : shown.total c.new_pages.new.space ≡ s.total = ap (λ (one : Superblock). one.total)
    c.new_pages.ensures.moved.over.superblock ∙ sym c.requires.total in
    let D : RepairError → Type 0 = λ e. BlamesStored c.args.txn.now base c.args.tree e in
    error_so _ D c.from_residual-in_err-next.result c.from_residual-in_err-next.ensures.1
    (λ e same. subst D (sym same) (λ fits tells apart. stored_call image s (shown.total c.new_pages.new.space) s.total
    (root_level c.page_levels-height.result c.page_levels-level.result 0)
    (page_levels c.args.tree.slots) c.args.tree.root c.args.tree.span c.in_err-next.field-0.0 total_is root_is
    (c.in_err-next.ensures.broken base fits image s (λ p. 0) (λ p. 0) told'
    (apart_call fits image s c.page_levels-height.result c.page_levels-level.result
    (page_levels c.args.tree.slots) c.args.tree.root root_is tells apart))))

pub returns-clause-same : goal.returns-clause-same
returns-clause-same g c = λ unchanged base count list list' others told holds edited lengths.
    let height_is : c.page_levels-height.result ≡ page_levels c.args.tree.slots = c.page_levels-height.ensures.levels in
    let level_is : c.page_levels-level.result ≡ page_levels c.args.len = c.page_levels-level.ensures.levels in
    let root_is = root_for (left_by c.args.txn.now base) c.args.txn.now.superblock.total c.args.tree list c.args.len holds.is_tree
    c.requires.longer c.requires.few_new in
    let RH : ℕ → Type 0 = λ h. IsRooted (left_by c.args.txn.now base) c.args.txn.now.superblock.total list h
    (page_levels c.args.len) 0 c.args.tree.root in
    let RL : ℕ → Type 0 = λ l. IsRooted (left_by c.args.txn.now base) c.args.txn.now.superblock.total list c.page_levels-height.result l 0
    c.args.tree.root in
    let RT : ℕ → Type 0 = λ t. IsRooted (left_by c.args.txn.now base) t list c.page_levels-height.result c.page_levels-level.result 0
    c.args.tree.root in
    let rooted = subst RT c.requires.total (subst RL (sym level_is) (subst RH (sym height_is) root_is)) in
    let lists = lists_of c.args.slots.first c.args.slots.end c.args.len c.args.values.now list list' edited in
    let CH : ℕ → Type 0 = λ h. c.in_ok-more.more + length
    (tree_pages (left_by c.args.txn.now base) (low h c.page_levels-level.result) c.args.tree.root) ≡ page_count list'
    c.page_levels-level.result 0 in
    let CL : ℕ → Type 0 = λ l. c.in_ok-more.more + length
    (tree_pages (left_by c.args.txn.now base) (low (page_levels c.args.tree.slots) l) c.args.tree.root) ≡ page_count list' l 0 in
    let counted = subst CL level_is (subst CH height_is (c.in_ok-more.ensures.counts base list list' told lists c.requires.fills rooted)) in
    let used : c.from.result ≡ in_use c.args.txn.now.superblock = c.from.ensures ∙ c.used.ensures.used in
    let room : in_use c.args.txn.now.superblock + c.in_ok-more.more ≤ c.args.txn.now.superblock.total = omega (
      arith,
      c.if-needed-have.false,
      used,
      c.from-have.ensures,
      c.total.ensures.total,
      c.requires.total,
      ap (λ (s : Superblock). s.total) c.new_pages.ensures.moved.over.superblock,
    ) in
    let place = placed_for count (left_by c.args.txn.now base) c.args.txn.now.superblock c.args.tree c.args.slots.first c.args.slots.end
    c.args.len c.in_ok-more.more c.args.values.now list list' others holds edited c.requires.longer c.requires.few_new c.requires.fills
    counted room in
    let PH : ℕ → Type 0 = λ h. IsPlaced count (left_by c.args.txn.now base) c.args.txn.now.superblock list list' h
    (page_levels c.args.len) 0 c.args.tree.root c.args.tree.span others in
    let PL : ℕ → Type 0 = λ l. IsPlaced count (left_by c.args.txn.now base) c.args.txn.now.superblock list list' c.page_levels-height.result
    l 0 c.args.tree.root c.args.tree.span others in
    let placed = subst PL (sym level_is) (subst PH (sym height_is) place) in
    let told' = told_on (count_most c.args.tree.root c.args.slots.first c.args.slots.end c.page_levels-height.result
    c.page_levels-level.result 0) (shown.IsTold c.args.space.now) (shown.IsTold c.new_pages.new.space) (shown.view c.args.space.now)
    (shown.view c.new_pages.new.space) base c.new_pages.ensures.moved.reads told in
    let S : ℕ → Type 0 = λ l. AreSame list list' (first_slot (top_of_page l 0)) (end_slot (top_of_page l 0)) in
    let same = subst S level_is (c.in_ok-next.ensures.same unchanged base count list list' others told' lists placed) in
    lists_equal list list' (end_slot (top_of_page (page_levels c.args.len) 0))
    (omega (arith, holds.is_tree.slots, c.requires.longer, height_covers c.args.len c.requires.few_new)) lengths
    (λ i low high. same i (omega arith) high)

pub returns-clause-idle : goal.returns-clause-idle
returns-clause-idle g c = λ unchanged base count list list' others told holds edited equal.
    let height_is : c.page_levels-height.result ≡ page_levels c.args.tree.slots = c.page_levels-height.ensures.levels in
    let level_is : c.page_levels-level.result ≡ page_levels c.args.len = c.page_levels-level.ensures.levels in
    let root_is = root_for (left_by c.args.txn.now base) c.args.txn.now.superblock.total c.args.tree list c.args.len holds.is_tree
    c.requires.longer c.requires.few_new in
    let RH : ℕ → Type 0 = λ h. IsRooted (left_by c.args.txn.now base) c.args.txn.now.superblock.total list h
    (page_levels c.args.len) 0 c.args.tree.root in
    let RL : ℕ → Type 0 = λ l. IsRooted (left_by c.args.txn.now base) c.args.txn.now.superblock.total list c.page_levels-height.result l 0
    c.args.tree.root in
    let RT : ℕ → Type 0 = λ t. IsRooted (left_by c.args.txn.now base) t list c.page_levels-height.result c.page_levels-level.result 0
    c.args.tree.root in
    let rooted = subst RT c.requires.total (subst RL (sym level_is) (subst RH (sym height_is) root_is)) in
    let lists = lists_of c.args.slots.first c.args.slots.end c.args.len c.args.values.now list list' edited in
    let CH : ℕ → Type 0 = λ h. c.in_ok-more.more + length
    (tree_pages (left_by c.args.txn.now base) (low h c.page_levels-level.result) c.args.tree.root) ≡ page_count list'
    c.page_levels-level.result 0 in
    let CL : ℕ → Type 0 = λ l. c.in_ok-more.more + length
    (tree_pages (left_by c.args.txn.now base) (low (page_levels c.args.tree.slots) l) c.args.tree.root) ≡ page_count list' l 0 in
    let counted = subst CL level_is (subst CH height_is (c.in_ok-more.ensures.counts base list list' told lists c.requires.fills rooted)) in
    let used : c.from.result ≡ in_use c.args.txn.now.superblock = c.from.ensures ∙ c.used.ensures.used in
    let room : in_use c.args.txn.now.superblock + c.in_ok-more.more ≤ c.args.txn.now.superblock.total = omega (
      arith,
      c.if-needed-have.false,
      used,
      c.from-have.ensures,
      c.total.ensures.total,
      c.requires.total,
      ap (λ (s : Superblock). s.total) c.new_pages.ensures.moved.over.superblock,
    ) in
    let place = placed_for count (left_by c.args.txn.now base) c.args.txn.now.superblock c.args.tree c.args.slots.first c.args.slots.end
    c.args.len c.in_ok-more.more c.args.values.now list list' others holds edited c.requires.longer c.requires.few_new c.requires.fills
    counted room in
    let PH : ℕ → Type 0 = λ h. IsPlaced count (left_by c.args.txn.now base) c.args.txn.now.superblock list list' h
    (page_levels c.args.len) 0 c.args.tree.root c.args.tree.span others in
    let PL : ℕ → Type 0 = λ l. IsPlaced count (left_by c.args.txn.now base) c.args.txn.now.superblock list list' c.page_levels-height.result
    l 0 c.args.tree.root c.args.tree.span others in
    let placed = subst PL (sym level_is) (subst PH (sym height_is) place) in
    let told' = told_on (count_most c.args.tree.root c.args.slots.first c.args.slots.end c.page_levels-height.result
    c.page_levels-level.result 0) (shown.IsTold c.args.space.now) (shown.IsTold c.new_pages.new.space) (shown.view c.args.space.now)
    (shown.view c.new_pages.new.space) base c.new_pages.ensures.moved.reads told in
    let few : c.args.len ≤ c.args.tree.slots = omega (arith, edited.length_is, ap (λ l. length l) equal, holds.is_tree.slots) in
    c.in_ok-next.ensures.idle unchanged base count list list' others told' lists placed
    (omega (arith, height_is, level_is, levels_more c.args.len c.args.tree.slots few)) equal

pub returns-in_err-more-clause-cause : goal.returns-in_err-more-clause-cause
returns-in_err-more-clause-cause g c =
    let E : RepairError → Type 0 = λ e. repairs.Explains e c.args.space.now c.new_pages.new.space in
    error_so _ E c.from_residual.result c.from_residual.ensures.1 (λ e same. subst E (sym same) c.in_err-more.ensures.cause)

pub returns-in_err-more-clause-quiet_err : goal.returns-in_err-more-clause-quiet_err
returns-in_err-more-clause-quiet_err g c =
    error_so _ _ c.from_residual.result c.from_residual.ensures.1
    (λ e same other. c.in_err-more.ensures.quiet_err (λ is. other (same ∙ is)))

pub returns-then-needed-have-clause-cause : goal.returns-then-needed-have-clause-cause
returns-then-needed-have-clause-cause g c =
    let have_is : c.from-have.result ≡ shown.total c.args.space.now = c.from-have.ensures ∙ c.total.ensures.total
    ∙ ap (λ (s : Superblock). s.total) c.new_pages.ensures.moved.over.superblock in
    (have_is, omega (arith, have_is, c.if-needed-have.true))

pub returns-in_err-next-clause-cause : goal.returns-in_err-next-clause-cause
returns-in_err-next-clause-cause g c =
    let T : ℕ → Type 0 = λ total. IsCause total c.in_err-next.field-0.0 (shown.view c.new_pages.new.space).faults
    (shown.view c.repair.new.space).faults in
    let F : ℕ → Type 0 = λ faults. IsCause (shown.total c.args.space.now) c.in_err-next.field-0.0 faults
    (shown.view c.repair.new.space).faults in
    let E : RepairError → Type 0 = λ e. repairs.Explains e c.args.space.now c.repair.new.space in
    error_so _ E c.from_residual-in_err-next.result c.from_residual-in_err-next.ensures.1
    (λ e same. subst E (sym same) (subst F c.in_ok-more.ensures.quiet
    (subst T (ap (λ (s : Superblock). s.total) c.new_pages.ensures.moved.over.superblock) c.in_err-next.ensures.cause)))

pub returns-in_err-next-clause-quiet_err : goal.returns-in_err-next-clause-quiet_err
returns-in_err-next-clause-quiet_err g c =
    error_so _ _ c.from_residual-in_err-next.result c.from_residual-in_err-next.ensures.1
    (λ e same other. c.in_err-next.ensures.quiet_err (λ is. other (same ∙ is)) ∙ c.in_ok-more.ensures.quiet)

pub returns-clause-quiet : goal.returns-clause-quiet
returns-clause-quiet g c = c.in_ok-next.ensures.quiet ∙ c.in_ok-more.ensures.quiet

pub returns-in_err-more-clause-catalog : goal.returns-in_err-more-clause-catalog
returns-in_err-more-clause-catalog g c = λ base told p some low other. refl

pub returns-then-needed-have-clause-catalog : goal.returns-then-needed-have-clause-catalog
returns-then-needed-have-clause-catalog g c = λ base told p some low other. refl

pub returns-in_err-next-clause-catalog : goal.returns-in_err-next-clause-catalog
returns-in_err-next-clause-catalog g c = λ base told p some low other.
    c.repair.ensures.spares base (told_on (count_most c.args.tree.root c.args.slots.first c.args.slots.end c.page_levels-height.result
    c.page_levels-level.result 0) (shown.IsTold c.args.space.now) (shown.IsTold c.new_pages.new.space) (shown.view c.args.space.now)
    (shown.view c.new_pages.new.space) base c.new_pages.ensures.moved.reads told) p some (inl (low, other))

pub returns-clause-catalog : goal.returns-clause-catalog
returns-clause-catalog g c = λ base told p some low other.
    c.repair.ensures.spares base (told_on (count_most c.args.tree.root c.args.slots.first c.args.slots.end c.page_levels-height.result
    c.page_levels-level.result 0) (shown.IsTold c.args.space.now) (shown.IsTold c.new_pages.new.space) (shown.view c.args.space.now)
    (shown.view c.new_pages.new.space) base c.new_pages.ensures.moved.reads told) p some (inl (low, other))
