use Rattle.std.proofs.Common.{rules, ◌≡◌, ◌+◌, ◌-◌, ◌^◌, ℕ, suc, refl, sym, ap, subst, arith, ◌∙◌}
use Rattle.page_space.specs.declared.superblock.Superblock.{Superblock}
use Rattle.page_space.specs.Transactions.{left_by}
use Rattle.node_page.specs.Fields.{child_at}
use Rattle.tree_walk.proofs.StepLemmas.{error_so}
use Rattle.path_repair.proofs.MoveLemmas.{moved_more, moved_none, told_on, touch_level, child_small}
use Rattle.path_repair.proofs.RepairLemmas.{passed_below}
use Rattle.path_repair.proofs.SeenLemmas.{IsCounting, slots_count, settled_count, apart_count, passed_stored, count_start, count_on}
use Rattle.path_repair.proofs.SeenLemmas.{count_child, count_end, count_moved, count_room}
use Rattle.path_repair.specs.declared.errors.RepairError.{RepairError}
use Rattle.path_repair.specs.Damage.{IsUnfitBelow}
use Rattle.path_repair.specs.Keeping.{look_most, count_most, root_level}
use Rattle.path_repair.proofs.DamageLemmas.{unfit_up}
use Rattle.path_repair.proofs.ReadLemmas.{counted_below, look_less, look_children}
use Rattle.path_repair.specs.Standing.{IsCause}
use Rattle.path_repair.specs.Repairs as repairs
use Rattle.page_space.specs.Shown as shown
use Rattle.path_repair.proofs.counting.+new_pages.Goals as goal

pub returns-then-at-eq0-clause-counts : goal.returns-then-at-eq0-clause-counts
returns-then-at-eq0-clause-counts g t c = λ base list list' told lists fills rooted.
    slots_count (left_by c.args.txn.now base) list' c.args.at.height c.args.at.level c.args.at.index c.args.page c.if-at-eq0.true

pub returns-then-is_settled-clause-counts : goal.returns-then-is_settled-clause-counts
returns-then-is_settled-clause-counts g t c = λ base list list' told lists fills rooted.
    let is : c.args.at.level ≡ suc (c.args.at.level - 1) = omega (arith, c.if-at-eq0.false) in
    omega (
      arith,
      settled_count (left_by c.args.txn.now base)
          (shown.total c.args.space.now) c.args.slots.first c.args.slots.end c.args.values.now list list' c.args.at.height c.args.at.level
          (c.args.at.level - 1) c.args.at.index c.args.page is lists rooted (c.if-is_settled.ensures.settled refl),
    )

pub returns-in_err-pages-clause-moved : goal.returns-in_err-pages-clause-moved
returns-in_err-pages-clause-moved g t c =
    let is : c.args.at.level ≡ suc (c.args.at.level - 1) = omega (arith, c.if-at-eq0.false) in
    let less = look_less c.args.slots.first c.args.slots.end c.args.at.height c.args.at.level
    (c.args.at.level - 1) c.args.at.index c.args.page is (c.if-is_settled.ensures.unsettled refl).passed in
    moved_more (look_most c.args.at.height c.args.at.level c.args.at.index c.args.page)
    (count_most c.args.page c.args.slots.first c.args.slots.end c.args.at.height c.args.at.level c.args.at.index) 0 0
    (shown.IsTold c.args.space.now) (shown.IsTold c.look.new.space) (shown.view c.args.space.now) (shown.view c.look.new.space)
    (shown.under c.args.space.now) (shown.under c.look.new.space) (shown.numbers c.args.space.now)
    (shown.numbers c.look.new.space) c.args.txn.now c.args.txn.now less (omega arith) c.look.ensures.moved

pub returns-in_err-pages-clause-unfit : goal.returns-in_err-pages-clause-unfit
returns-in_err-pages-clause-unfit g t c = λ base told.
    let is : c.args.at.level ≡ suc (c.args.at.level - 1) = omega (arith, c.if-at-eq0.false) in
    let U : RepairError → Type 0 = λ e. IsUnfitBelow (left_by c.args.txn.now base) c.args.txn.now.superblock.fresh
    (shown.total c.args.space.now) (root_level c.args.at.height c.args.at.level c.args.at.index) c.args.page e in
    error_so _ U c.from_residual.result c.from_residual.ensures.1
    (λ e same. subst U (sym same) (c.in_err-pages.ensures.unfit base (c.args.at.level - 1) told is))

pub returns-in_err-pages-clause-only_faults : goal.returns-in_err-pages-clause-only_faults
returns-in_err-pages-clause-only_faults g t c = λ base list list' told lists fills rooted.
    let is : c.args.at.level ≡ suc (c.args.at.level - 1) = omega (arith, c.if-at-eq0.false) in
    error_so _ _ c.from_residual.result c.from_residual.ensures.1
    (λ e same. same ∙ c.in_err-pages.ensures.only_faults base list (c.args.at.level - 1) told is rooted)

pub loop-child-init : goal.loop-child-init
loop-child-init g t c = (
  count_start (shown.IsTold c.args.space.now) (shown.IsTold c.look.new.space) (shown.view c.args.space.now) (shown.view c.look.new.space)
      (shown.under c.args.space.now) (shown.under c.look.new.space) (shown.numbers c.args.space.now)
      (shown.numbers c.look.new.space) c.args.txn.now c.args.slots.first c.args.slots.end c.args.values.now c.args.at.height
      c.args.at.level (c.args.at.level - 1) c.args.at.index c.args.page c.look.new.bytes c.in_ok-pages.pages c.look.ensures.moved
      c.in_ok-pages.ensures.few,
  c.in_ok-pages.ensures.quiet,
)

pub new_pages-requires : goal.new_pages-requires
new_pages-requires g t c κs within =
    let depth : (c.args.at.level - 1) + 1 ≡ c.args.at.level = omega (arith, c.if-at-eq0.false) in
    let whole = touch_level c.args.slots.first c.args.slots.end c.args.at.height c.args.at.level (c.args.at.level - 1) c.args.at.index depth
    (c.if-is_settled.ensures.unsettled refl).passed in
    let child_level : c.child-below.result.level ≡ c.args.at.level - 1 = omega (arith, c.child-below.ensures.level) in
    let way = c.loop-child.invariant.0 in (
      omega (arith, c.child-below.ensures.level),
      (
        search rules,
        (
          way.moved.reads.fit c.requires.sound,
          (
            omega (arith, c.child-below.ensures.level, c.requires.level),
            (
              child_small c.args.at.level c.child-below.result.level c.args.at.index c.loop-child.child c.child-below.result.index
                  (2 ^ 35) c.child-below.ensures.level c.child-below.ensures.index c.loop-child-test.true c.requires.small,
              (
                omega (
                  arith,
                  c.child_of.ensures,
                  c.in_ok-pages.ensures.form.below c.loop-child.child c.loop-child-test.true,
                  ap (λ (s : Superblock). s.total) way.moved.over.superblock,
                ),
                omega (
                  arith,
                  count_room c.args.slots.first c.args.slots.end c.args.at.height c.args.at.level
                      (c.args.at.level - 1) c.args.at.index c.loop-child.child c.child-below.result.height c.child-below.result.level
                      c.child-below.result.index c.loop-child-test.true c.child-below.ensures.height child_level c.child-below.ensures.index
                      whole c.requires.room,
                ),
              ),
            ),
          ),
        ),
      ),
    )

pub returns-in_err-more-clause-moved : goal.returns-in_err-more-clause-moved
returns-in_err-more-clause-moved g t c =
    let is : c.args.at.level ≡ suc (c.args.at.level - 1) = omega (arith, c.if-at-eq0.false) in
    let child_level : c.child-below.result.level ≡ c.args.at.level - 1 = omega (arith, c.child-below.ensures.level) in
    let most = look_children c.args.slots.first c.args.slots.end c.args.at.height c.args.at.level
    (c.args.at.level - 1) c.args.at.index c.args.page c.look.new.bytes is
    (c.if-is_settled.ensures.unsettled refl).passed c.in_ok-pages.ensures.opened in
    count_moved (shown.IsTold c.args.space.now) (shown.IsTold c.loop-child.space) (shown.IsTold c.new_pages.new.space)
    (shown.view c.args.space.now) (shown.view c.loop-child.space) (shown.view c.new_pages.new.space) (shown.under c.args.space.now)
    (shown.under c.loop-child.space) (shown.under c.new_pages.new.space) (shown.numbers c.args.space.now)
    (shown.numbers c.loop-child.space) (shown.numbers c.new_pages.new.space) c.args.txn.now c.args.slots.first c.args.slots.end
    c.args.values.now c.args.at.height c.args.at.level
    (c.args.at.level - 1) c.args.at.index c.args.page c.look.new.bytes c.in_ok-pages.pages c.loop-child.pages c.loop-child.child
    c.child-below.result.height c.child-below.result.level c.child-below.result.index c.child_of.result
    c.loop-child.invariant.0 c.loop-child-test.true c.child-below.ensures.height child_level c.child-below.ensures.index c.child_of.ensures
    c.new_pages.ensures.moved most

pub returns-in_err-more-clause-unfit : goal.returns-in_err-more-clause-unfit
returns-in_err-more-clause-unfit g t c = λ base told.
    let is : c.args.at.level ≡ suc (c.args.at.level - 1) = omega (arith, c.if-at-eq0.false) in
    let child_level : c.child-below.result.level ≡ c.args.at.level - 1 = omega (arith, c.child-below.ensures.level) in
    let way = c.loop-child.invariant.0 in
    let image = left_by c.args.txn.now base in
    let total_is : (shown.total c.loop-child.space) ≡ (shown.total c.args.space.now) = ap (λ (s : Superblock). s.total)
    way.moved.over.superblock in
    let T : ℕ → Type 0 = λ n. IsUnfitBelow image c.args.txn.now.superblock.fresh n
    (root_level c.child-below.result.height c.child-below.result.level c.child-below.result.index) c.child_of.result
    c.in_err-more.field-0.0 in
    let U : RepairError → Type 0 = λ e. IsUnfitBelow image c.args.txn.now.superblock.fresh (shown.total c.args.space.now)
    (root_level c.args.at.height c.args.at.level c.args.at.index) c.args.page e in
    error_so _ U c.from_residual-in_err-more.result c.from_residual-in_err-more.ensures.1
    (λ e same. subst U (sym same)
    (unfit_up image c.args.txn.now.superblock.fresh (shown.total c.args.space.now) c.args.at.height c.args.at.level
    (c.args.at.level - 1) c.args.at.index c.loop-child.child c.child-below.result.height c.child-below.result.level
    c.child-below.result.index c.args.page c.child_of.result c.look.new.bytes c.in_err-more.field-0.0 is c.loop-child-test.true
    c.child-below.ensures.height child_level c.child-below.ensures.index c.child_of.ensures
    c.in_ok-pages.ensures.opened (c.in_ok-pages.ensures.as_told base told)
    (subst T total_is (c.in_err-more.ensures.unfit base
    (told_on (look_most c.args.at.height c.args.at.level c.args.at.index c.args.page + counted_below c.look.new.bytes c.args.slots.first
    c.args.slots.end c.args.at.height (c.args.at.level - 1) c.args.at.index c.loop-child.child) (shown.IsTold c.args.space.now)
    (shown.IsTold c.loop-child.space) (shown.view c.args.space.now) (shown.view c.loop-child.space) base way.moved.reads told)))))

pub returns-in_err-more-clause-only_faults : goal.returns-in_err-more-clause-only_faults
returns-in_err-more-clause-only_faults g t c = λ base list list' told lists fills rooted.
    let is : c.args.at.level ≡ suc (c.args.at.level - 1) = omega (arith, c.if-at-eq0.false) in
    let child_level : c.child-below.result.level ≡ c.args.at.level - 1 = omega (arith, c.child-below.ensures.level) in
    let way = c.loop-child.invariant.0 in
    error_so _ _ c.from_residual-in_err-more.result c.from_residual-in_err-more.ensures.1
    (λ e same. same ∙ c.in_err-more.ensures.only_faults base list list'
    (told_on (look_most c.args.at.height c.args.at.level c.args.at.index c.args.page + counted_below c.look.new.bytes c.args.slots.first
    c.args.slots.end c.args.at.height (c.args.at.level - 1) c.args.at.index c.loop-child.child) (shown.IsTold c.args.space.now)
    (shown.IsTold c.loop-child.space) (shown.view c.args.space.now) (shown.view c.loop-child.space) base way.moved.reads told) lists
    fills
    (count_child (shown.IsTold c.args.space.now) (shown.IsTold c.loop-child.space) (shown.view c.args.space.now)
    (shown.view c.loop-child.space) (shown.under c.args.space.now) (shown.under c.loop-child.space) (shown.numbers c.args.space.now)
    (shown.numbers c.loop-child.space) c.args.txn.now c.args.slots.first c.args.slots.end c.args.values.now c.args.at.height
    c.args.at.level (c.args.at.level - 1) c.args.at.index c.args.page c.look.new.bytes c.in_ok-pages.pages c.loop-child.pages
    c.loop-child.child c.child-below.result.height c.child-below.result.level c.child-below.result.index c.child_of.result way
    c.loop-child-test.true c.child-below.ensures.height child_level c.child-below.ensures.index c.child_of.ensures base list
    (c.in_ok-pages.ensures.seen base list (c.args.at.level - 1) told is rooted)))

pub is_apart-requires-clause-small : goal.is_apart-requires-clause-small
is_apart-requires-clause-small g t c =
    omega (
      arith,
      child_small c.args.at.level c.child-below.result.level c.args.at.index c.loop-child.child c.child-below.result.index
          (2 ^ 35) c.child-below.ensures.level c.child-below.ensures.index c.loop-child-test.true c.requires.small,
    )

pub loop-child-preserved-then-is_apart : goal.loop-child-preserved-then-is_apart
loop-child-preserved-then-is_apart g t c =
    let is : c.args.at.level ≡ suc (c.args.at.level - 1) = omega (arith, c.if-at-eq0.false) in
    let child_level : c.child-below.result.level ≡ c.args.at.level - 1 = omega (arith, c.child-below.ensures.level) in
    let untouched = c.if-is_apart.ensures.untouched refl in
    let no_root = c.if-is_apart.ensures.no_root refl in
    let page = child_at c.look.new.bytes c.loop-child.child in
    let most = count_most page c.args.slots.first c.args.slots.end c.child-below.result.height c.child-below.result.level
    c.child-below.result.index in
    let N : ℕ → Type 0 = λ n. IsCounting (shown.IsTold c.args.space.now) (shown.IsTold c.loop-child.space) (shown.view c.args.space.now)
    (shown.view c.loop-child.space) (shown.under c.args.space.now) (shown.under c.loop-child.space) (shown.numbers c.args.space.now)
    (shown.numbers c.loop-child.space) c.args.txn.now c.args.slots.first c.args.slots.end c.args.values.now c.args.at.height
    c.args.at.level (c.args.at.level - 1) c.args.at.index c.args.page c.look.new.bytes c.in_ok-pages.pages n (c.loop-child.child + 1) in
    let none : c.loop-child.pages + 0 ≡ c.loop-child.pages = omega arith in (
      subst N none
          (count_on (shown.IsTold c.args.space.now) (shown.IsTold c.loop-child.space) (shown.IsTold c.loop-child.space)
          (shown.view c.args.space.now) (shown.view c.loop-child.space) (shown.view c.loop-child.space) (shown.under c.args.space.now)
          (shown.under c.loop-child.space) (shown.under c.loop-child.space) (shown.numbers c.args.space.now)
          (shown.numbers c.loop-child.space) (shown.numbers c.loop-child.space) c.args.txn.now c.args.slots.first c.args.slots.end
          c.args.values.now c.args.at.height c.args.at.level
          (c.args.at.level - 1) c.args.at.index c.args.page c.look.new.bytes c.in_ok-pages.pages c.loop-child.pages 0 c.loop-child.child
          c.child-below.result.height c.child-below.result.level c.child-below.result.index page
          c.loop-child.invariant.0 c.loop-child-test.true c.child-below.ensures.height child_level c.child-below.ensures.index refl
          (moved_more 0 most 0 0 (shown.IsTold c.loop-child.space) (shown.IsTold c.loop-child.space) (shown.view c.loop-child.space)
          (shown.view c.loop-child.space) (shown.under c.loop-child.space) (shown.under c.loop-child.space)
          (shown.numbers c.loop-child.space) (shown.numbers c.loop-child.space) c.args.txn.now c.args.txn.now (omega arith)
          (omega arith)
          (moved_none (shown.IsTold c.loop-child.space) (shown.view c.loop-child.space) (shown.under c.loop-child.space)
          (shown.numbers c.loop-child.space) c.args.txn.now))
          (omega arith)
          (λ base list list' told lists fills rooted. apart_count (left_by c.args.txn.now base)
          (shown.total c.loop-child.space) c.args.slots.first c.args.slots.end c.args.values.now list list' c.child-below.result.height
          c.child-below.result.level c.child-below.result.index page lists rooted untouched no_root)
          (λ base list told rooted. c.in_ok-pages.ensures.seen base list (c.args.at.level - 1) told is rooted)),
      c.loop-child.invariant.1,
    )

pub loop-child-preserved : goal.loop-child-preserved
loop-child-preserved g t c =
    let is : c.args.at.level ≡ suc (c.args.at.level - 1) = omega (arith, c.if-at-eq0.false) in
    let child_level : c.child-below.result.level ≡ c.args.at.level - 1 = omega (arith, c.child-below.ensures.level) in (
      count_on (shown.IsTold c.args.space.now) (shown.IsTold c.loop-child.space) (shown.IsTold c.new_pages.new.space)
          (shown.view c.args.space.now) (shown.view c.loop-child.space) (shown.view c.new_pages.new.space) (shown.under c.args.space.now)
          (shown.under c.loop-child.space) (shown.under c.new_pages.new.space) (shown.numbers c.args.space.now)
          (shown.numbers c.loop-child.space) (shown.numbers c.new_pages.new.space) c.args.txn.now c.args.slots.first c.args.slots.end
          c.args.values.now c.args.at.height c.args.at.level
          (c.args.at.level - 1) c.args.at.index c.args.page c.look.new.bytes c.in_ok-pages.pages c.loop-child.pages c.in_ok-more.more
          c.loop-child.child c.child-below.result.height c.child-below.result.level c.child-below.result.index c.child_of.result
          c.loop-child.invariant.0 c.loop-child-test.true c.child-below.ensures.height child_level c.child-below.ensures.index
          c.child_of.ensures c.new_pages.ensures.moved c.in_ok-more.ensures.few
          (λ base list list' told lists fills rooted. c.in_ok-more.ensures.counts base list list' told lists fills rooted)
          (λ base list told rooted. c.in_ok-pages.ensures.seen base list (c.args.at.level - 1) told is rooted),
      c.in_ok-more.ensures.quiet ∙ c.loop-child.invariant.1,
    )

pub returns-clause-moved : goal.returns-clause-moved
returns-clause-moved g t c =
    let is : c.args.at.level ≡ suc (c.args.at.level - 1) = omega (arith, c.if-at-eq0.false) in
    let end : c.loop-child.child ≡ 128 = omega (arith, c.loop-child-test.false, c.loop-child.auto.child-end) in
    let most = look_children c.args.slots.first c.args.slots.end c.args.at.height c.args.at.level
    (c.args.at.level - 1) c.args.at.index c.args.page c.look.new.bytes is
    (c.if-is_settled.ensures.unsettled refl).passed c.in_ok-pages.ensures.opened in
    moved_more (look_most c.args.at.height c.args.at.level c.args.at.index c.args.page + counted_below c.look.new.bytes c.args.slots.first
    c.args.slots.end c.args.at.height (c.args.at.level - 1) c.args.at.index c.loop-child.child)
    (count_most c.args.page c.args.slots.first c.args.slots.end c.args.at.height c.args.at.level c.args.at.index) 0 0
    (shown.IsTold c.args.space.now) (shown.IsTold c.loop-child.space) (shown.view c.args.space.now) (shown.view c.loop-child.space)
    (shown.under c.args.space.now) (shown.under c.loop-child.space) (shown.numbers c.args.space.now)
    (shown.numbers c.loop-child.space) c.args.txn.now c.args.txn.now
    (omega (
      arith,
      most,
      ap (λ n. counted_below c.look.new.bytes c.args.slots.first c.args.slots.end c.args.at.height
          (c.args.at.level - 1) c.args.at.index n) end,
    )) (omega arith) c.loop-child.invariant.0.moved

pub returns-clause-few : goal.returns-clause-few
returns-clause-few g t c =
    let depth : (c.args.at.level - 1) + 1 ≡ c.args.at.level = omega (arith, c.if-at-eq0.false) in
    let whole = touch_level c.args.slots.first c.args.slots.end c.args.at.height c.args.at.level (c.args.at.level - 1) c.args.at.index depth
    (c.if-is_settled.ensures.unsettled refl).passed in
    let end : c.loop-child.child ≡ 128 = omega (arith, c.loop-child-test.false, c.loop-child.auto.child-end) in
    omega (
      arith,
      c.loop-child.invariant.0.few,
      whole,
      ap (λ n. passed_below c.args.slots.first c.args.slots.end c.args.at.height (c.args.at.level - 1) c.args.at.index n) end,
    )

pub returns-clause-counts : goal.returns-clause-counts
returns-clause-counts g t c = λ base list list' told lists fills rooted.
    let is : c.args.at.level ≡ suc (c.args.at.level - 1) = omega (arith, c.if-at-eq0.false) in
    let end : c.loop-child.child ≡ 128 = omega (arith, c.loop-child-test.false, c.loop-child.auto.child-end) in
    count_end (left_by c.args.txn.now base) (shown.total c.args.space.now) c.args.slots.first c.args.slots.end c.args.values.now list list'
    c.args.at.height c.args.at.level (c.args.at.level - 1) c.args.at.index c.args.page c.look.new.bytes c.in_ok-pages.pages
    c.loop-child.pages c.loop-child.child is end
    (c.loop-child.invariant.0.counts base list list' told lists fills rooted)
    (c.in_ok-pages.ensures.seen base list (c.args.at.level - 1) told is rooted)
    (passed_stored (left_by c.args.txn.now base) (shown.total c.args.space.now) c.args.slots.first c.args.slots.end c.args.values.now list
    list' c.args.at.height c.args.at.level (c.args.at.level - 1) c.args.at.index c.args.page is lists fills rooted
    (c.if-is_settled.ensures.unsettled refl))

pub overflow_add-pages : goal.overflow_add-pages
overflow_add-pages g t c =
    let depth : (c.args.at.level - 1) + 1 ≡ c.args.at.level = omega (arith, c.if-at-eq0.false) in
    let whole = touch_level c.args.slots.first c.args.slots.end c.args.at.height c.args.at.level (c.args.at.level - 1) c.args.at.index depth
    (c.if-is_settled.ensures.unsettled refl).passed in
    let child_level : c.child-below.result.level ≡ c.args.at.level - 1 = omega (arith, c.child-below.ensures.level) in
    omega (
      arith,
      c.loop-child.invariant.0.few,
      c.in_ok-more.ensures.few,
      count_room c.args.slots.first c.args.slots.end c.args.at.height c.args.at.level
          (c.args.at.level - 1) c.args.at.index c.loop-child.child c.child-below.result.height c.child-below.result.level
          c.child-below.result.index c.loop-child-test.true c.child-below.ensures.height child_level c.child-below.ensures.index whole
          c.requires.room,
    )

pub returns-in_err-more-clause-quiet_err : goal.returns-in_err-more-clause-quiet_err
returns-in_err-more-clause-quiet_err g t c =
    error_so _ _ c.from_residual-in_err-more.result c.from_residual-in_err-more.ensures.1
    (λ e same other. c.in_err-more.ensures.quiet_err (λ is. other (same ∙ is)) ∙ c.loop-child.invariant.1)

pub returns-clause-quiet : goal.returns-clause-quiet
returns-clause-quiet g t c = c.loop-child.invariant.1

pub returns-then-at-eq0-clause-moved : goal.returns-then-at-eq0-clause-moved
returns-then-at-eq0-clause-moved g t c =
    let most = count_most c.args.page c.args.slots.first c.args.slots.end c.args.at.height c.args.at.level c.args.at.index in
    moved_more 0 most 0 0 (shown.IsTold c.args.space.now) (shown.IsTold c.args.space.now) (shown.view c.args.space.now)
    (shown.view c.args.space.now) (shown.under c.args.space.now) (shown.under c.args.space.now) (shown.numbers c.args.space.now)
    (shown.numbers c.args.space.now) c.args.txn.now c.args.txn.now (omega arith) (omega arith)
    (moved_none (shown.IsTold c.args.space.now) (shown.view c.args.space.now) (shown.under c.args.space.now)
    (shown.numbers c.args.space.now) c.args.txn.now)

pub returns-then-is_settled-clause-moved : goal.returns-then-is_settled-clause-moved
returns-then-is_settled-clause-moved g t c =
    let most = count_most c.args.page c.args.slots.first c.args.slots.end c.args.at.height c.args.at.level c.args.at.index in
    moved_more 0 most 0 0 (shown.IsTold c.args.space.now) (shown.IsTold c.args.space.now) (shown.view c.args.space.now)
    (shown.view c.args.space.now) (shown.under c.args.space.now) (shown.under c.args.space.now) (shown.numbers c.args.space.now)
    (shown.numbers c.args.space.now) c.args.txn.now c.args.txn.now (omega arith) (omega arith)
    (moved_none (shown.IsTold c.args.space.now) (shown.view c.args.space.now) (shown.under c.args.space.now)
    (shown.numbers c.args.space.now) c.args.txn.now)

pub returns-in_err-pages-clause-cause : goal.returns-in_err-pages-clause-cause
returns-in_err-pages-clause-cause g t c =
    let E : RepairError → Type 0 = λ e. repairs.Explains e c.args.space.now c.look.new.space in
    error_so _ E c.from_residual.result c.from_residual.ensures.1 (λ e same. subst E (sym same) c.in_err-pages.ensures.cause)

pub returns-in_err-pages-clause-quiet_err : goal.returns-in_err-pages-clause-quiet_err
returns-in_err-pages-clause-quiet_err g t c =
    error_so _ _ c.from_residual.result c.from_residual.ensures.1
    (λ e same other. c.in_err-pages.ensures.quiet_err (λ is. other (same ∙ is)))

pub returns-in_err-more-clause-cause : goal.returns-in_err-more-clause-cause
returns-in_err-more-clause-cause g t c =
    let T : ℕ → Type 0 = λ total. IsCause total c.in_err-more.field-0.0 (shown.view c.loop-child.space).faults
    (shown.view c.new_pages.new.space).faults in
    let F : ℕ → Type 0 = λ faults. IsCause (shown.total c.args.space.now) c.in_err-more.field-0.0 faults
    (shown.view c.new_pages.new.space).faults in
    let E : RepairError → Type 0 = λ e. repairs.Explains e c.args.space.now c.new_pages.new.space in
    error_so _ E c.from_residual-in_err-more.result c.from_residual-in_err-more.ensures.1
    (λ e same. subst E (sym same) (subst F c.loop-child.invariant.1
    (subst T (ap (λ (s : Superblock). s.total) c.loop-child.invariant.0.moved.over.superblock) c.in_err-more.ensures.cause)))
