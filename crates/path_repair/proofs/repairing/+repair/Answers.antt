use Rattle.std.proofs.Common.{rules, ◌≡◌, ◌<◌, ◌+◌, ◌-◌, ◌^◌, ◌++◌, ◌∷◌, ℕ, suc, true, false, refl, sym, ap, subst, arith, ◌∙◌}
use Rattle.page_space.specs.declared.superblock.Superblock.{Superblock}
use Rattle.page_space.specs.Transactions.{left_by}
use Rattle.page_space.specs.declared.txn.Txn.{Txn}
use Rattle.node_page.specs.Fields.{child_at}
use Rattle.page_spans.specs.Heaps.{span_at}
use Rattle.tree_walk.proofs.StepLemmas.{error_so}
use Rattle.path_repair.specs.Costs.{touch}
use Rattle.path_repair.specs.Standing.{IsCause, IsPartWay, IsRepaired}
use Rattle.path_repair.proofs.StayLemmas.{settled_at, slot_repaired_at, apart_repaired, untouched as untouched_range}
use Rattle.path_repair.proofs.StillLemmas.{settled_same, slot_same, slot_idle, still_start, still_on, still_same, still_repaired}
use Rattle.path_repair.proofs.StillLemmas.{moved_still}
use Rattle.path_repair.proofs.MoveLemmas.{moved_more, moved_none, told_on, touch_level, child_small}
use Rattle.path_repair.proofs.PartLemmas.{rest}
use Rattle.path_repair.proofs.RepairLemmas.{way_start, way_child, way_on, way_moved, way_room, way_end, way_last, gives, passed_below}
use Rattle.path_repair.specs.declared.errors.RepairError.{RepairError}
use Rattle.path_repair.specs.Damage.{IsDamage}
use Rattle.path_repair.specs.Keeping.{Spares, root_level}
use Rattle.path_repair.specs.Apart.{StandsApart, NamesDamaged, and_page, and_children}
use Rattle.path_repair.proofs.ApartLemmas.{apart_settled}
use Rattle.path_repair.proofs.StoredLemmas.{apart_child, apart_end, stored_up}
use Rattle.path_repair.proofs.KeepLemmas.{spares_up}
use Rattle.path_repair.proofs.SpareLemmas.{first_spares, none_spares, spare_start, spare_child, spare_on, spare_damage, spare_end, new_root}
use Rattle.path_repair.specs.Repairs as repairs
use Rattle.page_space.specs.Shown as shown
use Rattle.path_repair.proofs.repairing.+repair.Goals as goal

pub returns-then-at-eq0-clause-repaired : goal.returns-then-at-eq0-clause-repaired
returns-then-at-eq0-clause-repaired g t c = λ base count list list' others told lists placed.
    slot_repaired_at count (left_by c.args.txn.now base) c.args.txn.now.superblock c.args.slots.first c.args.slots.end c.args.values.now
    list list' c.args.at.height c.args.at.level c.args.at.index c.args.root.page c.args.root.span c.slot_after-span.result others
    c.if-at-eq0.true lists placed c.slot_after-span.ensures.span

pub returns-then-is_settled-clause-repaired : goal.returns-then-is_settled-clause-repaired
returns-then-is_settled-clause-repaired g t c = λ base count list list' others told lists placed.
    let is : c.args.at.level ≡ suc (c.args.at.level - 1) = omega (arith, c.if-at-eq0.false) in
    settled_at count (left_by c.args.txn.now base) c.args.txn.now.superblock c.args.slots.first c.args.slots.end c.args.values.now list
    list' c.args.at.height c.args.at.level (c.args.at.level - 1) c.args.at.index c.args.root.page c.args.root.span others
    is lists placed (c.if-is_settled.ensures.settled refl)

pub returns-in_err-number-clause-moved : goal.returns-in_err-number-clause-moved
returns-in_err-number-clause-moved g t c =
    let depth : (c.args.at.level - 1) + 1 ≡ c.args.at.level = omega (arith, c.if-at-eq0.false) in
    let whole = touch_level c.args.slots.first c.args.slots.end c.args.at.height c.args.at.level (c.args.at.level - 1) c.args.at.index depth
    (c.if-is_settled.ensures.unsettled refl).passed in
    moved_more 1 (touch c.args.slots.first c.args.slots.end c.args.at.height c.args.at.level c.args.at.index) 0
    (touch c.args.slots.first c.args.slots.end c.args.at.height c.args.at.level c.args.at.index) (shown.IsTold c.args.space.now)
    (shown.IsTold c.open_page.new.space) (shown.view c.args.space.now) (shown.view c.open_page.new.space) (shown.under c.args.space.now)
    (shown.under c.open_page.new.space) (shown.numbers c.args.space.now)
    (shown.numbers c.open_page.new.space) c.args.txn.now c.open_page.new.txn
    (omega (arith, whole)) (omega arith) c.open_page.ensures.moved

pub returns-in_err-number-clause-only_faults : goal.returns-in_err-number-clause-only_faults
returns-in_err-number-clause-only_faults g t c = λ base count list list' others told lists placed.
    let is : c.args.at.level ≡ suc (c.args.at.level - 1) = omega (arith, c.if-at-eq0.false) in
    error_so _ _ c.from_residual.result c.from_residual.ensures.1
    (λ e same. same ∙ c.in_err-number.ensures.only_faults base count list list' others (c.args.at.level - 1) told is lists.old_values placed
    (λ none. gives c.args.slots.first c.args.slots.end c.args.values.now list list' c.args.at.level c.args.at.index lists
    ((c.if-is_settled.ensures.unsettled refl).something none)))

pub loop-child-init : goal.loop-child-init
loop-child-init g t c =
    let is : c.args.at.level ≡ suc (c.args.at.level - 1) = omega (arith, c.if-at-eq0.false) in (
      way_start (shown.IsTold c.args.space.now) (shown.IsTold c.open_page.new.space) (shown.view c.args.space.now)
          (shown.view c.open_page.new.space) (shown.under c.args.space.now) (shown.under c.open_page.new.space)
          (shown.numbers c.args.space.now) (shown.numbers c.open_page.new.space) c.args.txn.now c.open_page.new.txn c.args.slots.first
          c.args.slots.end c.args.values.now c.args.at.height c.args.at.level
          (c.args.at.level - 1) c.args.at.index c.args.root.page c.args.root.span c.in_ok-number.number c.open_page.new.bytes
          (span_at c.open_page.new.spans)
          c.open_page.ensures.moved c.in_ok-number.ensures.form
          (λ base count list list' others told lists placed. c.in_ok-number.ensures.part base count list list' others
          (c.args.at.level - 1) told is lists.old_values placed
          (λ none. gives c.args.slots.first c.args.slots.end c.args.values.now list list' c.args.at.level c.args.at.index lists
          ((c.if-is_settled.ensures.unsettled refl).something none))),
      (
        spare_start (shown.IsTold c.args.space.now) (shown.view c.args.space.now) c.args.txn.now c.open_page.new.txn
            (c.args.at.level - 1) c.open_page.new.bytes (span_at c.open_page.new.spans) c.open_page.ensures.first,
        (
          c.in_ok-number.ensures.apart (c.args.at.level - 1) is,
          (
            still_start (shown.IsTold c.args.space.now)
                (shown.view c.args.space.now) c.args.txn.now c.open_page.new.txn c.args.slots.first c.args.slots.end c.args.values.now
                c.args.at.height c.args.at.level (c.args.at.level - 1) c.args.at.index c.args.root.page c.args.root.span
                c.is_new-is_changed.result
                is c.is_new-is_changed.ensures.old c.is_new-is_changed.ensures.new c.open_page.ensures.read
                (c.if-is_settled.ensures.unsettled refl).something,
            c.in_ok-number.ensures.quiet,
          ),
        ),
      ),
    )

pub repair-requires : goal.repair-requires
repair-requires g t c κs within =
    let depth : (c.args.at.level - 1) + 1 ≡ c.args.at.level = omega (arith, c.if-at-eq0.false) in
    let whole = touch_level c.args.slots.first c.args.slots.end c.args.at.height c.args.at.level (c.args.at.level - 1) c.args.at.index depth
    (c.if-is_settled.ensures.unsettled refl).passed in
    let child_level : c.child-below.result.level ≡ c.args.at.level - 1 = omega (arith, c.child-below.ensures.level) in
    let way = c.loop-child.invariant.0 in (
      omega (arith, c.child-below.ensures.level),
      (
        search rules,
        (
          way.moved.reads.fit c.requires.sound,
          (
            omega (arith, way.moved.total, c.requires.total, ap (λ (s : Superblock). s.total) way.moved.over.superblock),
            (
              omega (arith, c.child-below.ensures.level, c.requires.level),
              (
                child_small c.args.at.level c.child-below.result.level c.args.at.index c.loop-child.child c.child-below.result.index
                    (2 ^ 35) c.child-below.ensures.level c.child-below.ensures.index c.loop-child-test.true c.requires.small,
                (
                  omega (
                    arith,
                    c.child_root-old.ensures.page,
                    way.form.below c.loop-child.child c.loop-child-test.true,
                    ap (λ (s : Superblock). s.total) way.moved.over.superblock,
                  ),
                  (
                    c.child_root-old.ensures.proper,
                    (
                      c.requires.values,
                      way_room (shown.IsTold c.args.space.now) (shown.IsTold c.loop-child.space) (shown.view c.args.space.now)
                          (shown.view c.loop-child.space) (shown.under c.args.space.now) (shown.under c.loop-child.space)
                          (shown.numbers c.args.space.now)
                          (shown.numbers c.loop-child.space) c.args.txn.now c.loop-child.txn c.args.slots.first c.args.slots.end
                          c.args.values.now c.args.at.height c.args.at.level
                          (c.args.at.level - 1) c.args.at.index c.args.root.page c.args.root.span c.in_ok-number.number c.loop-child.bytes
                          (span_at c.loop-child.spans) c.loop-child.child c.child-below.result.height c.child-below.result.level
                          c.child-below.result.index
                          way c.loop-child-test.true c.child-below.ensures.height child_level c.child-below.ensures.index whole
                          c.requires.room,
                    ),
                  ),
                ),
              ),
            ),
          ),
        ),
      ),
    )

pub returns-in_err-next-clause-moved : goal.returns-in_err-next-clause-moved
returns-in_err-next-clause-moved g t c =
    let depth : (c.args.at.level - 1) + 1 ≡ c.args.at.level = omega (arith, c.if-at-eq0.false) in
    let whole = touch_level c.args.slots.first c.args.slots.end c.args.at.height c.args.at.level (c.args.at.level - 1) c.args.at.index depth
    (c.if-is_settled.ensures.unsettled refl).passed in
    let child_level : c.child-below.result.level ≡ c.args.at.level - 1 = omega (arith, c.child-below.ensures.level) in
    way_moved (shown.IsTold c.args.space.now) (shown.IsTold c.loop-child.space) (shown.IsTold c.repair.new.space)
    (shown.view c.args.space.now) (shown.view c.loop-child.space) (shown.view c.repair.new.space) (shown.under c.args.space.now)
    (shown.under c.loop-child.space) (shown.under c.repair.new.space) (shown.numbers c.args.space.now)
    (shown.numbers c.loop-child.space) (shown.numbers c.repair.new.space) c.args.txn.now c.loop-child.txn c.repair.new.txn
    c.args.slots.first c.args.slots.end c.args.values.now c.args.at.height c.args.at.level
    (c.args.at.level - 1) c.args.at.index c.args.root.page c.args.root.span c.in_ok-number.number c.loop-child.bytes
    (span_at c.loop-child.spans) c.loop-child.child c.child-below.result.height c.child-below.result.level c.child-below.result.index
    c.loop-child.invariant.0 c.loop-child-test.true c.child-below.ensures.height child_level c.child-below.ensures.index
    c.repair.ensures.moved whole

pub returns-in_err-next-clause-only_faults : goal.returns-in_err-next-clause-only_faults
returns-in_err-next-clause-only_faults g t c = λ base count list list' others told lists placed.
    let child_level : c.child-below.result.level ≡ c.args.at.level - 1 = omega (arith, c.child-below.ensures.level) in
    let way = c.loop-child.invariant.0 in
    error_so _ _ c.from_residual-in_err-next.result c.from_residual-in_err-next.ensures.1
    (λ e same. same ∙ c.in_err-next.ensures.only_faults base count list list'
    (c.in_ok-number.number ∷ (rest (left_by c.loop-child.txn base) c.args.at.height
    (c.args.at.level - 1) c.loop-child.bytes c.loop-child.child ++ others))
    (told_on (1 + passed_below c.args.slots.first c.args.slots.end c.args.at.height
    (c.args.at.level - 1) c.args.at.index c.loop-child.child) (shown.IsTold c.args.space.now) (shown.IsTold c.loop-child.space)
    (shown.view c.args.space.now) (shown.view c.loop-child.space) base way.moved.reads told) lists
    (way_child (shown.IsTold c.args.space.now) (shown.IsTold c.loop-child.space) (shown.view c.args.space.now)
    (shown.view c.loop-child.space) (shown.under c.args.space.now) (shown.under c.loop-child.space) (shown.numbers c.args.space.now)
    (shown.numbers c.loop-child.space) c.args.txn.now c.loop-child.txn c.args.slots.first c.args.slots.end c.args.values.now
    c.args.at.height c.args.at.level (c.args.at.level - 1) c.args.at.index c.args.root.page c.args.root.span c.in_ok-number.number
    c.loop-child.bytes (span_at c.loop-child.spans) c.loop-child.child c.child-below.result.height c.child-below.result.level
    c.child-below.result.index c.child_root-old.result.page c.child_root-old.result.span
    way c.loop-child-test.true c.child-below.ensures.height child_level c.child-below.ensures.index c.child_root-old.ensures.page
    c.child_root-old.ensures.span base count list list' others told lists placed))

pub is_apart-requires-clause-small : goal.is_apart-requires-clause-small
is_apart-requires-clause-small g t c =
    omega (
      arith,
      child_small c.args.at.level c.child-below.result.level c.args.at.index c.loop-child.child c.child-below.result.index
          (2 ^ 35) c.child-below.ensures.level c.child-below.ensures.index c.loop-child-test.true c.requires.small,
    )

pub loop-child-preserved-then-is_apart : goal.loop-child-preserved-then-is_apart
loop-child-preserved-then-is_apart g t c =
    let child_level : c.child-below.result.level ≡ c.args.at.level - 1 = omega (arith, c.child-below.ensures.level) in
    let untouched = c.if-is_apart.ensures.untouched refl in
    let no_root = c.if-is_apart.ensures.no_root refl in
    let page = child_at c.loop-child.bytes c.loop-child.child in
    let top = span_at c.loop-child.spans (127 + c.loop-child.child) in
    let cost = touch c.args.slots.first c.args.slots.end c.child-below.result.height c.child-below.result.level c.child-below.result.index
    in
    let page_is : child_at c.loop-child.bytes c.loop-child.child ≡ child_at c.open_page.new.bytes
    c.loop-child.child = c.loop-child.invariant.1.0.children c.loop-child.child (omega arith) in (
      way_on (shown.IsTold c.args.space.now) (shown.IsTold c.loop-child.space) (shown.IsTold c.loop-child.space)
          (shown.view c.args.space.now) (shown.view c.loop-child.space) (shown.view c.loop-child.space) (shown.under c.args.space.now)
          (shown.under c.loop-child.space) (shown.under c.loop-child.space) (shown.numbers c.args.space.now)
          (shown.numbers c.loop-child.space) (shown.numbers c.loop-child.space) c.args.txn.now c.loop-child.txn c.loop-child.txn
          c.args.slots.first c.args.slots.end c.args.values.now c.args.at.height c.args.at.level
          (c.args.at.level - 1) c.args.at.index c.args.root.page c.args.root.span c.in_ok-number.number c.loop-child.bytes
          c.loop-child.bytes (span_at c.loop-child.spans)
          (span_at c.loop-child.spans) c.loop-child.child c.child-below.result.height c.child-below.result.level c.child-below.result.index
          page page top top
          c.loop-child.invariant.0 c.loop-child-test.true c.child-below.ensures.height child_level c.child-below.ensures.index refl refl
          (moved_more 0 cost 0 cost (shown.IsTold c.loop-child.space) (shown.IsTold c.loop-child.space) (shown.view c.loop-child.space)
          (shown.view c.loop-child.space) (shown.under c.loop-child.space) (shown.under c.loop-child.space)
          (shown.numbers c.loop-child.space) (shown.numbers c.loop-child.space) c.loop-child.txn c.loop-child.txn (omega arith)
          (omega arith)
          (moved_none (shown.IsTold c.loop-child.space) (shown.view c.loop-child.space) (shown.under c.loop-child.space)
          (shown.numbers c.loop-child.space) c.loop-child.txn))
          (λ base count list list' others told lists placed. apart_repaired count
          (left_by c.loop-child.txn base) c.loop-child.txn.superblock c.args.slots.first c.args.slots.end c.args.values.now list list'
          c.child-below.result.height c.child-below.result.level c.child-below.result.index page top others lists untouched no_root
          placed)
          c.loop-child.invariant.0.form refl (λ n other. refl) refl (λ n other. refl),
      (
        spare_on (shown.IsTold c.args.space.now) (shown.view c.args.space.now) c.args.txn.now c.open_page.new.txn c.loop-child.txn
            c.loop-child.txn (c.args.at.level - 1) c.child-below.result.level c.open_page.new.bytes c.loop-child.bytes c.loop-child.bytes
            (span_at c.open_page.new.spans) (span_at c.loop-child.spans)
            (span_at c.loop-child.spans) c.loop-child.child c.loop-child.invariant.1.0 child_level c.loop-child.invariant.0.moved.fresh
            (omega arith)
            (λ base at. none_spares c.loop-child.txn base c.child-below.result.level) (λ n other. refl) (λ n other. refl),
        (
          λ base fits stored from mine kept at apart. apart_settled stored
              (left_by c.loop-child.txn base) from c.loop-child.txn.superblock c.child-below.result.height c.child-below.result.level
              c.child-below.result.index page (and_page c.in_ok-number.number mine)
              (and_children fits stored c.args.at.height (c.args.at.level - 1) c.args.at.index c.open_page.new.bytes
              (c.loop-child.child + 1) kept)
              (apart_child stored (left_by c.loop-child.txn base) from c.loop-child.txn.superblock c.args.at.height
              (c.args.at.level - 1) c.args.at.index c.loop-child.child c.child-below.result.height c.child-below.result.level
              c.child-below.result.index page c.open_page.new.bytes (and_page c.in_ok-number.number mine) kept
              c.loop-child-test.true c.child-below.ensures.height child_level c.child-below.ensures.index page_is
              (c.loop-child.invariant.1.1.0 base fits stored from mine kept at apart)),
          (
            still_on (shown.IsTold c.args.space.now) (shown.IsTold c.loop-child.space) (shown.view c.args.space.now)
                (shown.view c.loop-child.space) (shown.under c.args.space.now) (shown.under c.loop-child.space)
                (shown.numbers c.args.space.now) (shown.numbers c.loop-child.space) c.args.txn.now c.loop-child.txn c.loop-child.txn
                c.args.slots.first c.args.slots.end c.args.values.now c.args.at.height c.args.at.level
                (c.args.at.level - 1) c.args.at.index c.args.root.page c.args.root.span c.in_ok-number.number c.loop-child.bytes
                (span_at c.loop-child.spans) c.loop-child.child c.child-below.result.height c.child-below.result.level
                c.child-below.result.index page top c.loop-child.is_changed c.loop-child.is_changed
                c.loop-child.invariant.0 c.loop-child-test.true
                (omega (arith, c.if-at-eq0.false)) c.child-below.ensures.height child_level c.child-below.ensures.index refl refl
                c.loop-child.invariant.1.1.1.0 (λ no. no) (λ no. refl)
                (λ no base count list list' others told lists placed.
                untouched_range c.args.slots.first c.args.slots.end c.args.values.now list list' c.child-below.result.level
                c.child-below.result.index lists.changed untouched)
                (λ no base count list list' others told lists placed fits equal. no),
            c.loop-child.invariant.1.1.1.1,
          ),
        ),
      ),
    )

pub loop-child-preserved : goal.loop-child-preserved
loop-child-preserved g t c =
    let child_level : c.child-below.result.level ≡ c.args.at.level - 1 = omega (arith, c.child-below.ensures.level) in
    let page_is : c.child_root-old.result.page ≡ child_at c.open_page.new.bytes c.loop-child.child = c.child_root-old.ensures.page
    ∙ c.loop-child.invariant.1.0.children c.loop-child.child (omega arith) in (
      way_on (shown.IsTold c.args.space.now) (shown.IsTold c.loop-child.space) (shown.IsTold c.repair.new.space)
          (shown.view c.args.space.now) (shown.view c.loop-child.space) (shown.view c.repair.new.space) (shown.under c.args.space.now)
          (shown.under c.loop-child.space) (shown.under c.repair.new.space) (shown.numbers c.args.space.now)
          (shown.numbers c.loop-child.space) (shown.numbers c.repair.new.space) c.args.txn.now c.loop-child.txn c.repair.new.txn
          c.args.slots.first c.args.slots.end c.args.values.now c.args.at.height c.args.at.level
          (c.args.at.level - 1) c.args.at.index c.args.root.page c.args.root.span c.in_ok-number.number c.loop-child.bytes
          c.set_root.new.bytes (span_at c.loop-child.spans)
          (span_at c.set_root.new.spans) c.loop-child.child c.child-below.result.height c.child-below.result.level
          c.child-below.result.index c.child_root-old.result.page c.in_ok-next.next.page c.child_root-old.result.span c.in_ok-next.next.span
          c.loop-child.invariant.0 c.loop-child-test.true c.child-below.ensures.height child_level c.child-below.ensures.index
          c.child_root-old.ensures.page c.child_root-old.ensures.span c.repair.ensures.moved
          (λ base count list list' others told lists placed. c.in_ok-next.ensures.repaired base count list list' others told lists placed)
          (c.set_root.ensures.form c.args.at.level (shown.total c.args.space.now) c.loop-child.invariant.0.form
          (let page : c.in_ok-next.next.page < (shown.total c.loop-child.space) = c.in_ok-next.ensures.page in
          omega (arith, page, ap (λ (s : Superblock). s.total) c.loop-child.invariant.0.moved.over.superblock)))
          c.set_root.ensures.page c.set_root.ensures.pages c.set_root.ensures.span c.set_root.ensures.spans,
      (
        spare_on (shown.IsTold c.args.space.now) (shown.view c.args.space.now) c.args.txn.now c.open_page.new.txn c.loop-child.txn
            c.repair.new.txn (c.args.at.level - 1) c.child-below.result.level c.open_page.new.bytes c.loop-child.bytes c.set_root.new.bytes
            (span_at c.open_page.new.spans) (span_at c.loop-child.spans)
            (span_at c.set_root.new.spans) c.loop-child.child c.loop-child.invariant.1.0 child_level c.loop-child.invariant.0.moved.fresh
            c.repair.ensures.moved.fresh
            (λ base at. c.repair.ensures.spares base
            (told_on (1 + passed_below c.args.slots.first c.args.slots.end c.args.at.height
            (c.args.at.level - 1) c.args.at.index c.loop-child.child) (shown.IsTold c.args.space.now) (shown.IsTold c.loop-child.space)
            (shown.view c.args.space.now) (shown.view c.loop-child.space) base c.loop-child.invariant.0.moved.reads at))
            c.set_root.ensures.pages c.set_root.ensures.spans,
        (
          λ base fits stored from mine kept at apart. c.in_ok-next.ensures.apart base fits stored from (and_page c.in_ok-number.number mine)
              (and_children fits stored c.args.at.height (c.args.at.level - 1) c.args.at.index c.open_page.new.bytes
              (c.loop-child.child + 1) kept)
              (told_on (1 + passed_below c.args.slots.first c.args.slots.end c.args.at.height
              (c.args.at.level - 1) c.args.at.index c.loop-child.child) (shown.IsTold c.args.space.now)
              (shown.IsTold c.loop-child.space) (shown.view c.args.space.now)
              (shown.view c.loop-child.space) base c.loop-child.invariant.0.moved.reads at)
              (apart_child stored (left_by c.loop-child.txn base) from c.loop-child.txn.superblock c.args.at.height
              (c.args.at.level - 1) c.args.at.index c.loop-child.child c.child-below.result.height c.child-below.result.level
              c.child-below.result.index c.child_root-old.result.page c.open_page.new.bytes (and_page c.in_ok-number.number mine) kept
              c.loop-child-test.true c.child-below.ensures.height child_level c.child-below.ensures.index page_is
              (c.loop-child.invariant.1.1.0 base fits stored from mine kept at apart)),
          (
            still_on (shown.IsTold c.args.space.now) (shown.IsTold c.loop-child.space) (shown.view c.args.space.now)
                (shown.view c.loop-child.space) (shown.under c.args.space.now) (shown.under c.loop-child.space)
                (shown.numbers c.args.space.now) (shown.numbers c.loop-child.space) c.args.txn.now c.loop-child.txn c.repair.new.txn
                c.args.slots.first c.args.slots.end c.args.values.now c.args.at.height c.args.at.level
                (c.args.at.level - 1) c.args.at.index c.args.root.page c.args.root.span c.in_ok-number.number c.loop-child.bytes
                (span_at c.loop-child.spans) c.loop-child.child c.child-below.result.height c.child-below.result.level
                c.child-below.result.index c.child_root-old.result.page c.child_root-old.result.span c.loop-child.is_changed
                c.repair.new.changed
                c.loop-child.invariant.0 c.loop-child-test.true
                (omega (arith, c.if-at-eq0.false)) c.child-below.ensures.height child_level c.child-below.ensures.index
                c.child_root-old.ensures.page c.child_root-old.ensures.span c.loop-child.invariant.1.1.1.0 c.repair.ensures.was
                c.in_ok-next.ensures.kept c.in_ok-next.ensures.same c.in_ok-next.ensures.idle,
            c.in_ok-next.ensures.quiet ∙ c.loop-child.invariant.1.1.1.1,
          ),
        ),
      ),
    )

pub close_page-requires-clause-room : goal.close_page-requires-clause-room
close_page-requires-clause-room g t c =
    let depth : (c.args.at.level - 1) + 1 ≡ c.args.at.level = omega (arith, c.if-at-eq0.false) in
    let whole = touch_level c.args.slots.first c.args.slots.end c.args.at.height c.args.at.level (c.args.at.level - 1) c.args.at.index depth
    (c.if-is_settled.ensures.unsettled refl).passed in
    way_last (shown.IsTold c.args.space.now) (shown.IsTold c.loop-child.space) (shown.view c.args.space.now) (shown.view c.loop-child.space)
    (shown.under c.args.space.now) (shown.under c.loop-child.space) (shown.numbers c.args.space.now)
    (shown.numbers c.loop-child.space) c.args.txn.now c.loop-child.txn c.args.slots.first c.args.slots.end c.args.values.now
    c.args.at.height c.args.at.level (c.args.at.level - 1) c.args.at.index c.args.root.page c.args.root.span c.in_ok-number.number
    c.loop-child.bytes (span_at c.loop-child.spans) c.loop-child.child c.loop-child.invariant.0
    (omega (arith, c.loop-child-test.false, c.loop-child.auto.child-end)) whole c.requires.room

pub returns-clause-moved : goal.returns-clause-moved
returns-clause-moved g t c =
    let depth : (c.args.at.level - 1) + 1 ≡ c.args.at.level = omega (arith, c.if-at-eq0.false) in
    let whole = touch_level c.args.slots.first c.args.slots.end c.args.at.height c.args.at.level (c.args.at.level - 1) c.args.at.index depth
    (c.if-is_settled.ensures.unsettled refl).passed in
    way_end (shown.IsTold c.args.space.now) (shown.IsTold c.loop-child.space) (shown.IsTold c.close_page.new.space)
    (shown.view c.args.space.now) (shown.view c.loop-child.space) (shown.view c.close_page.new.space) (shown.under c.args.space.now)
    (shown.under c.loop-child.space) (shown.under c.close_page.new.space) (shown.numbers c.args.space.now)
    (shown.numbers c.loop-child.space) (shown.numbers c.close_page.new.space) c.args.txn.now c.loop-child.txn c.close_page.new.txn
    c.args.slots.first c.args.slots.end c.args.values.now c.args.at.height c.args.at.level
    (c.args.at.level - 1) c.args.at.index c.args.root.page c.args.root.span c.in_ok-number.number c.loop-child.bytes
    (span_at c.loop-child.spans) c.loop-child.child c.loop-child.invariant.0
    (omega (arith, c.loop-child-test.false, c.loop-child.auto.child-end)) c.close_page.ensures.moved whole

pub returns-clause-repaired : goal.returns-clause-repaired
returns-clause-repaired g t c = λ base count list list' others told lists placed.
    let is : c.args.at.level ≡ suc (c.args.at.level - 1) = omega (arith, c.if-at-eq0.false) in
    let end : c.loop-child.child ≡ 128 = omega (arith, c.loop-child-test.false, c.loop-child.auto.child-end) in
    let P : ℕ → Type 0 = λ i. IsPartWay count (left_by c.args.txn.now base)
    (left_by c.loop-child.txn base) c.loop-child.txn.superblock list list' c.args.at.height
    (c.args.at.level - 1) c.args.at.index c.in_ok-number.number c.loop-child.bytes
    (λ child. span_at c.loop-child.spans (127 + child)) i others in
    c.close_page.ensures.repaired base (left_by c.args.txn.now base) count list list' others (c.args.at.level - 1) is lists.new_values
    (subst P end (c.loop-child.invariant.0.part base count list list' others told lists placed))

pub returns-then-at-eq0-clause-spares : goal.returns-then-at-eq0-clause-spares
returns-then-at-eq0-clause-spares g t c = λ base at. none_spares c.args.txn.now base c.args.at.level

pub returns-then-is_settled-clause-spares : goal.returns-then-is_settled-clause-spares
returns-then-is_settled-clause-spares g t c = λ base at. none_spares c.args.txn.now base c.args.at.level

pub returns-in_err-number-clause-spares : goal.returns-in_err-number-clause-spares
returns-in_err-number-clause-spares g t c = λ base at.
    first_spares c.args.txn.now c.open_page.new.txn base c.args.at.level c.open_page.ensures.first

pub returns-in_err-number-clause-damaged : goal.returns-in_err-number-clause-damaged
returns-in_err-number-clause-damaged g t c = λ base at.
    let is : c.args.at.level ≡ suc (c.args.at.level - 1) = omega (arith, c.if-at-eq0.false) in
    let D : RepairError → Type 0 = λ e. IsDamage (left_by c.open_page.new.txn base) c.args.txn.now.superblock.fresh
    c.open_page.new.txn.superblock (root_level c.args.at.height c.args.at.level c.args.at.index) c.args.root.page c.args.root.span e in
    error_so _ D c.from_residual.result c.from_residual.ensures.1
    (λ e same. subst D (sym same) (c.in_err-number.ensures.damaged base (c.args.at.level - 1) at is))

pub returns-in_err-next-clause-spares : goal.returns-in_err-next-clause-spares
returns-in_err-next-clause-spares g t c = λ base at.
    let child_level : c.child-below.result.level ≡ c.args.at.level - 1 = omega (arith, c.child-below.ensures.level) in
    spares_up (c.args.at.level - 1) c.args.at.level c.args.txn.now.superblock.fresh c.repair.new.txn.superblock.fresh
    (left_by c.args.txn.now base) (left_by c.repair.new.txn base) (omega arith)
    (spare_child (shown.IsTold c.args.space.now) (shown.view c.args.space.now) c.args.txn.now c.open_page.new.txn c.loop-child.txn
    c.repair.new.txn (c.args.at.level - 1) c.child-below.result.level c.open_page.new.bytes c.loop-child.bytes
    (span_at c.open_page.new.spans) (span_at c.loop-child.spans) c.loop-child.child c.loop-child.invariant.1.0 child_level
    c.loop-child.invariant.0.moved.fresh c.repair.ensures.moved.fresh base at
    (c.repair.ensures.spares base (told_on (1 + passed_below c.args.slots.first c.args.slots.end c.args.at.height
    (c.args.at.level - 1) c.args.at.index c.loop-child.child) (shown.IsTold c.args.space.now) (shown.IsTold c.loop-child.space)
    (shown.view c.args.space.now) (shown.view c.loop-child.space) base c.loop-child.invariant.0.moved.reads at)))

pub returns-in_err-next-clause-damaged : goal.returns-in_err-next-clause-damaged
returns-in_err-next-clause-damaged g t c = λ base at.
    let is : c.args.at.level ≡ suc (c.args.at.level - 1) = omega (arith, c.if-at-eq0.false) in
    let child_level : c.child-below.result.level ≡ c.args.at.level - 1 = omega (arith, c.child-below.ensures.level) in
    let told = told_on (1 + passed_below c.args.slots.first c.args.slots.end c.args.at.height
    (c.args.at.level - 1) c.args.at.index c.loop-child.child) (shown.IsTold c.args.space.now) (shown.IsTold c.loop-child.space)
    (shown.view c.args.space.now) (shown.view c.loop-child.space) base c.loop-child.invariant.0.moved.reads at in
    let D : RepairError → Type 0 = λ e. IsDamage (left_by c.repair.new.txn base) c.args.txn.now.superblock.fresh c.repair.new.txn.superblock
    (root_level c.args.at.height c.args.at.level c.args.at.index) c.args.root.page c.args.root.span e in
    error_so _ D c.from_residual-in_err-next.result c.from_residual-in_err-next.ensures.1
    (λ e same. subst D (sym same)
    (spare_damage (shown.IsTold c.args.space.now) (shown.view c.args.space.now) c.args.txn.now c.open_page.new.txn c.loop-child.txn
    c.repair.new.txn c.args.at.height c.args.at.level
    (c.args.at.level - 1) c.args.at.index c.args.root.page c.child-below.result.height c.child-below.result.level
    c.child-below.result.index c.child_root-old.result.page c.args.root.span c.child_root-old.result.span c.open_page.new.bytes
    c.loop-child.bytes (span_at c.open_page.new.spans) (span_at c.loop-child.spans) c.loop-child.child c.in_err-next.field-0.0
    c.loop-child.invariant.1.0 is c.loop-child-test.true c.child-below.ensures.height child_level c.child-below.ensures.index
    c.child_root-old.ensures.page c.child_root-old.ensures.span c.loop-child.invariant.0.moved.fresh c.repair.ensures.moved.fresh
    c.in_ok-number.ensures.opened base at (c.in_ok-number.ensures.as_told base at) (c.repair.ensures.spares base told)
    (c.in_err-next.ensures.damaged base told)))

pub returns-clause-root : goal.returns-clause-root
returns-clause-root g t c =
    new_root c.open_page.new.txn.superblock.fresh c.close_page.new.txn.superblock.fresh c.args.root.page c.in_ok-number.number
    c.close_page.result.page (omega (arith, c.loop-child.invariant.1.0.fresh, c.close_page.ensures.moved.fresh))
    c.in_ok-number.ensures.root c.close_page.ensures.root

pub returns-clause-matched : goal.returns-clause-matched
returns-clause-matched g t c = λ some was. c.close_page.ensures.matched

pub returns-clause-spares : goal.returns-clause-spares
returns-clause-spares g t c = λ base at.
    spare_end (shown.IsTold c.args.space.now) (shown.view c.args.space.now) c.args.txn.now c.open_page.new.txn c.loop-child.txn
    c.close_page.new.txn c.args.at.level (c.args.at.level - 1) c.in_ok-number.number c.open_page.new.bytes c.loop-child.bytes
    (span_at c.open_page.new.spans) (span_at c.loop-child.spans) c.loop-child.child c.loop-child.invariant.1.0 (omega arith)
    (omega (arith, c.loop-child.invariant.1.0.fresh, c.close_page.ensures.moved.fresh)) c.close_page.ensures.moved.fresh base at
    (c.in_ok-number.ensures.own base at) c.close_page.ensures.others

pub returns-then-at-eq0-clause-apart : goal.returns-then-at-eq0-clause-apart
returns-then-at-eq0-clause-apart g t c = λ base fits stored from mine kept at apart.
    apart_settled stored (left_by c.args.txn.now base) from c.args.txn.now.superblock c.args.at.height c.args.at.level c.args.at.index
    c.args.root.page mine kept apart

pub returns-then-is_settled-clause-apart : goal.returns-then-is_settled-clause-apart
returns-then-is_settled-clause-apart g t c = λ base fits stored from mine kept at apart.
    apart_settled stored (left_by c.args.txn.now base) from c.args.txn.now.superblock c.args.at.height c.args.at.level c.args.at.index
    c.args.root.page mine kept apart

pub returns-in_err-number-clause-broken : goal.returns-in_err-number-clause-broken
returns-in_err-number-clause-broken g t c = λ base fits stored from mine kept at apart.
    let is : c.args.at.level ≡ suc (c.args.at.level - 1) = omega (arith, c.if-at-eq0.false) in
    let D : RepairError → Type 0 = λ e. NamesDamaged stored from (shown.total c.args.space.now)
    (root_level c.args.at.height c.args.at.level c.args.at.index) c.args.root.page c.args.root.span e in
    error_so _ D c.from_residual.result c.from_residual.ensures.1
    (λ e same. subst D (sym same) (c.in_err-number.ensures.broken (c.args.at.level - 1) is base fits stored from mine kept at apart))

pub returns-in_err-next-clause-broken : goal.returns-in_err-next-clause-broken
returns-in_err-next-clause-broken g t c = λ base fits stored from mine kept at apart.
    let is : c.args.at.level ≡ suc (c.args.at.level - 1) = omega (arith, c.if-at-eq0.false) in
    let child_level : c.child-below.result.level ≡ c.args.at.level - 1 = omega (arith, c.child-below.ensures.level) in
    let page_is : c.child_root-old.result.page ≡ child_at c.open_page.new.bytes c.loop-child.child = c.child_root-old.ensures.page
    ∙ c.loop-child.invariant.1.0.children c.loop-child.child (omega arith) in
    let top_is : c.child_root-old.result.span ≡ span_at c.open_page.new.spans (127 + c.loop-child.child) = c.child_root-old.ensures.span
    ∙ c.loop-child.invariant.1.0.tops c.loop-child.child (omega arith) in
    let told = told_on (1 + passed_below c.args.slots.first c.args.slots.end c.args.at.height
    (c.args.at.level - 1) c.args.at.index c.loop-child.child) (shown.IsTold c.args.space.now) (shown.IsTold c.loop-child.space)
    (shown.view c.args.space.now) (shown.view c.loop-child.space) base c.loop-child.invariant.0.moved.reads at in
    let D : RepairError → Type 0 = λ e. NamesDamaged stored from (shown.total c.args.space.now)
    (root_level c.args.at.height c.args.at.level c.args.at.index) c.args.root.page c.args.root.span e in
    let T : ℕ → Type 0 = λ n. NamesDamaged stored from n
    (root_level c.child-below.result.height c.child-below.result.level c.child-below.result.index) c.child_root-old.result.page
    c.child_root-old.result.span c.in_err-next.field-0.0 in
    let total_is : shown.total c.loop-child.space ≡ shown.total c.args.space.now = ap (λ (s : Superblock). s.total)
    c.loop-child.invariant.0.moved.over.superblock in
    let bad = c.in_err-next.ensures.broken base fits stored from (and_page c.in_ok-number.number mine)
    (and_children fits stored c.args.at.height (c.args.at.level - 1) c.args.at.index c.open_page.new.bytes
    (c.loop-child.child + 1) kept) told
    (apart_child stored (left_by c.loop-child.txn base) from c.loop-child.txn.superblock c.args.at.height
    (c.args.at.level - 1) c.args.at.index c.loop-child.child c.child-below.result.height c.child-below.result.level
    c.child-below.result.index c.child_root-old.result.page c.open_page.new.bytes (and_page c.in_ok-number.number mine) kept
    c.loop-child-test.true c.child-below.ensures.height child_level c.child-below.ensures.index page_is
    (c.loop-child.invariant.1.1.0 base fits stored from mine kept at apart)) in
    error_so _ D c.from_residual-in_err-next.result c.from_residual-in_err-next.ensures.1
    (λ e same. subst D (sym same)
    (stored_up stored (left_by c.args.txn.now base) from c.args.txn.now.superblock
    (shown.total c.args.space.now) c.args.at.height c.args.at.level
    (c.args.at.level - 1) c.args.at.index c.loop-child.child c.child-below.result.height c.child-below.result.level
    c.child-below.result.index c.args.root.page c.child_root-old.result.page c.args.root.span c.child_root-old.result.span
    c.open_page.new.bytes (span_at c.open_page.new.spans) mine kept c.in_err-next.field-0.0
    is c.loop-child-test.true c.child-below.ensures.height child_level c.child-below.ensures.index page_is top_is
    c.in_ok-number.ensures.opened (c.in_ok-number.ensures.as_told base at) apart (subst T total_is bad)))

pub returns-clause-apart : goal.returns-clause-apart
returns-clause-apart g t c = λ base fits stored from mine kept at apart.
    c.close_page.ensures.apart fits base stored from mine kept
    (apart_end stored (left_by c.loop-child.txn base) from c.loop-child.txn.superblock c.args.at.height
    (c.args.at.level - 1) c.args.at.index c.loop-child.child c.open_page.new.bytes (and_page c.in_ok-number.number mine) kept
    (c.loop-child.invariant.1.1.0 base fits stored from mine kept at apart))

pub returns-then-at-eq0-clause-same : goal.returns-then-at-eq0-clause-same
returns-then-at-eq0-clause-same g t c = λ unchanged base count list list' others told lists placed.
    slot_same count (left_by c.args.txn.now base) c.args.txn.now.superblock c.args.slots.first c.args.slots.end c.args.values.now list list'
    c.args.at.height c.args.at.level c.args.at.index c.args.root.page c.args.root.span c.slot_after-span.result others
    c.if-at-eq0.true lists placed c.slot_after-span.ensures.span (c.note_change.ensures.same unchanged)

pub returns-then-at-eq0-clause-idle : goal.returns-then-at-eq0-clause-idle
returns-then-at-eq0-clause-idle g t c = λ unchanged base count list list' others told lists placed fits equal.
    c.note_change.ensures.idle unchanged
    (slot_idle count (left_by c.args.txn.now base) c.args.txn.now.superblock c.args.slots.first c.args.slots.end c.args.values.now list
    list' c.args.at.height c.args.at.level c.args.at.index c.args.root.page c.args.root.span c.slot_after-span.result others
    c.if-at-eq0.true lists placed c.slot_after-span.ensures.span equal)

pub returns-then-is_settled-clause-same : goal.returns-then-is_settled-clause-same
returns-then-is_settled-clause-same g t c = λ unchanged base count list list' others told lists placed.
    let is : c.args.at.level ≡ suc (c.args.at.level - 1) = omega (arith, c.if-at-eq0.false) in
    settled_same count (left_by c.args.txn.now base) c.args.txn.now.superblock c.args.slots.first c.args.slots.end c.args.values.now list
    list' c.args.at.height c.args.at.level (c.args.at.level - 1) c.args.at.index c.args.root.page c.args.root.span others
    is lists placed (c.if-is_settled.ensures.settled refl)

pub returns-then-not-is_changed-clause-moved : goal.returns-then-not-is_changed-clause-moved
returns-then-not-is_changed-clause-moved g t c =
    let depth : (c.args.at.level - 1) + 1 ≡ c.args.at.level = omega (arith, c.if-at-eq0.false) in
    let whole = touch_level c.args.slots.first c.args.slots.end c.args.at.height c.args.at.level (c.args.at.level - 1) c.args.at.index depth
    (c.if-is_settled.ensures.unsettled refl).passed in
    moved_still (shown.IsTold c.args.space.now) (shown.IsTold c.loop-child.space) (shown.view c.args.space.now)
    (shown.view c.loop-child.space) (shown.under c.args.space.now) (shown.under c.loop-child.space) (shown.numbers c.args.space.now)
    (shown.numbers c.loop-child.space) c.args.txn.now c.loop-child.txn c.args.slots.first c.args.slots.end c.args.values.now
    c.args.at.height c.args.at.level (c.args.at.level - 1) c.args.at.index c.args.root.page c.args.root.span c.in_ok-number.number
    c.loop-child.bytes (span_at c.loop-child.spans) c.loop-child.child
    c.loop-child.invariant.0 (omega (arith, c.loop-child-test.false, c.loop-child.auto.child-end)) whole

pub returns-then-not-is_changed-clause-apart : goal.returns-then-not-is_changed-clause-apart
returns-then-not-is_changed-clause-apart g t c = λ base fits stored from mine kept at apart.
    let P : Txn → Type 0 = λ txn. StandsApart fits stored (left_by txn base) from txn.superblock mine kept in
    subst P (sym (c.loop-child.invariant.1.1.1.0.kept c.if-not-is_changed.true))
    (apart_settled stored (left_by c.args.txn.now base) from c.args.txn.now.superblock c.args.at.height c.args.at.level c.args.at.index
    c.args.root.page mine kept apart)

pub returns-then-not-is_changed-clause-repaired : goal.returns-then-not-is_changed-clause-repaired
returns-then-not-is_changed-clause-repaired g t c = λ base count list list' others told lists placed.
    let is : c.args.at.level ≡ suc (c.args.at.level - 1) = omega (arith, c.if-at-eq0.false) in
    let end : c.loop-child.child ≡ 128 = omega (arith, c.loop-child-test.false, c.loop-child.auto.child-end) in
    let still = c.loop-child.invariant.1.1.1.0 in
    let old = still.old_page c.if-not-is_changed.true in
    let P : Txn → Type 0 = λ txn. IsRepaired count (left_by c.args.txn.now base)
    (left_by txn base) txn.superblock list' c.args.at.level c.args.at.index c.args.root.page c.args.root.span others in
    subst P (sym (still.kept c.if-not-is_changed.true))
    (still_repaired count (left_by c.args.txn.now base) c.args.txn.now.superblock list list' c.args.at.height c.args.at.level
    c.args.at.index c.args.root.page c.args.root.span others old.0 old.1
    (still_same (shown.IsTold c.args.space.now) (shown.view c.args.space.now) c.args.txn.now c.loop-child.txn c.args.slots.first
    c.args.slots.end c.args.values.now c.args.at.height c.args.at.level
    (c.args.at.level - 1) c.args.at.index c.args.root.page c.args.root.span c.loop-child.is_changed c.loop-child.child is end
    c.if-not-is_changed.true still base count list list' others told lists placed)
    placed)

pub returns-then-not-is_changed-clause-same : goal.returns-then-not-is_changed-clause-same
returns-then-not-is_changed-clause-same g t c = λ unchanged.
    let is : c.args.at.level ≡ suc (c.args.at.level - 1) = omega (arith, c.if-at-eq0.false) in
    let end : c.loop-child.child ≡ 128 = omega (arith, c.loop-child-test.false, c.loop-child.auto.child-end) in
    still_same (shown.IsTold c.args.space.now) (shown.view c.args.space.now) c.args.txn.now c.loop-child.txn c.args.slots.first
    c.args.slots.end c.args.values.now c.args.at.height c.args.at.level
    (c.args.at.level - 1) c.args.at.index c.args.root.page c.args.root.span c.loop-child.is_changed c.loop-child.child is end
    c.if-not-is_changed.true c.loop-child.invariant.1.1.1.0

pub returns-clause-idle : goal.returns-clause-idle
returns-clause-idle g t c = λ unchanged base count list list' others told lists placed fits equal.
    absurd (let no_more : c.loop-child.is_changed ≡ false = c.loop-child.invariant.1.1.1.0.idle base count list list' others told lists
    placed fits equal in let yes : c.loop-child.is_changed ≡ true = c.if-not-is_changed.false in cc (no_more, yes))

pub returns-in_err-next-clause-quiet_err : goal.returns-in_err-next-clause-quiet_err
returns-in_err-next-clause-quiet_err g t c =
    error_so _ _ c.from_residual-in_err-next.result c.from_residual-in_err-next.ensures.1
    (λ e same other. c.in_err-next.ensures.quiet_err (λ is. other (same ∙ is)) ∙ c.loop-child.invariant.1.1.1.1)

pub returns-clause-quiet : goal.returns-clause-quiet
returns-clause-quiet g t c = ap (λ s. (shown.view s).faults) c.close_page.ensures.same ∙ c.loop-child.invariant.1.1.1.1

pub returns-then-at-eq0-clause-moved : goal.returns-then-at-eq0-clause-moved
returns-then-at-eq0-clause-moved g t c =
    let cost = touch c.args.slots.first c.args.slots.end c.args.at.height c.args.at.level c.args.at.index in
    moved_more 0 cost 0 cost (shown.IsTold c.args.space.now) (shown.IsTold c.args.space.now) (shown.view c.args.space.now)
    (shown.view c.args.space.now) (shown.under c.args.space.now) (shown.under c.args.space.now) (shown.numbers c.args.space.now)
    (shown.numbers c.args.space.now) c.args.txn.now c.args.txn.now (omega arith) (omega arith)
    (moved_none (shown.IsTold c.args.space.now) (shown.view c.args.space.now) (shown.under c.args.space.now)
    (shown.numbers c.args.space.now) c.args.txn.now)

pub returns-then-is_settled-clause-moved : goal.returns-then-is_settled-clause-moved
returns-then-is_settled-clause-moved g t c =
    let cost = touch c.args.slots.first c.args.slots.end c.args.at.height c.args.at.level c.args.at.index in
    moved_more 0 cost 0 cost (shown.IsTold c.args.space.now) (shown.IsTold c.args.space.now) (shown.view c.args.space.now)
    (shown.view c.args.space.now) (shown.under c.args.space.now) (shown.under c.args.space.now) (shown.numbers c.args.space.now)
    (shown.numbers c.args.space.now) c.args.txn.now c.args.txn.now (omega arith) (omega arith)
    (moved_none (shown.IsTold c.args.space.now) (shown.view c.args.space.now) (shown.under c.args.space.now)
    (shown.numbers c.args.space.now) c.args.txn.now)

pub returns-in_err-number-clause-cause : goal.returns-in_err-number-clause-cause
returns-in_err-number-clause-cause g t c =
    let E : RepairError → Type 0 = λ e. repairs.Explains e c.args.space.now c.open_page.new.space in
    error_so _ E c.from_residual.result c.from_residual.ensures.1 (λ e same. subst E (sym same) c.in_err-number.ensures.cause)

pub returns-in_err-number-clause-quiet_err : goal.returns-in_err-number-clause-quiet_err
returns-in_err-number-clause-quiet_err g t c =
    error_so _ _ c.from_residual.result c.from_residual.ensures.1
    (λ e same other. c.in_err-number.ensures.quiet_err (λ is. other (same ∙ is)))

pub returns-in_err-next-clause-cause : goal.returns-in_err-next-clause-cause
returns-in_err-next-clause-cause g t c =
    let T : ℕ → Type 0 = λ total. IsCause total c.in_err-next.field-0.0 (shown.view c.loop-child.space).faults
    (shown.view c.repair.new.space).faults in
    let F : ℕ → Type 0 = λ faults. IsCause (shown.total c.args.space.now) c.in_err-next.field-0.0 faults
    (shown.view c.repair.new.space).faults in
    let E : RepairError → Type 0 = λ e. repairs.Explains e c.args.space.now c.repair.new.space in
    error_so _ E c.from_residual-in_err-next.result c.from_residual-in_err-next.ensures.1
    (λ e same. subst E (sym same) (subst F c.loop-child.invariant.1.1.1.1
    (subst T (ap (λ (s : Superblock). s.total) c.loop-child.invariant.0.moved.over.superblock) c.in_err-next.ensures.cause)))

pub returns-then-not-is_changed-clause-quiet : goal.returns-then-not-is_changed-clause-quiet
returns-then-not-is_changed-clause-quiet g t c = c.loop-child.invariant.1.1.1.1

pub returns-then-not-is_changed-clause-spares : goal.returns-then-not-is_changed-clause-spares
returns-then-not-is_changed-clause-spares g t c = λ base at.
    let P : Txn → Type 0 = λ txn. Spares c.args.at.level c.args.txn.now.superblock.fresh txn.superblock.fresh (left_by c.args.txn.now base)
    (left_by txn base) in
    subst P (sym (c.loop-child.invariant.1.1.1.0.kept c.if-not-is_changed.true)) (none_spares c.args.txn.now base c.args.at.level)
