use Rattle.std.proofs.Common.{rules, refl, ℕ, ◌≡◌, ◌-◌, ◌<◌, ◌≤◌, suc, is_some, Option, Some, sym, ap, subst, arith, ◌∙◌}
use Rattle.om3_coeff.specs.declared.span.Span.{Span}
use Rattle.node_page.specs.Layout.{has_child}
use Rattle.page_space.specs.declared.superblock.Superblock.{Superblock}
use Rattle.page_spans.specs.Heaps.{span_at}
use Rattle.path_repair.specs.Damage.{AreBelow}
use Rattle.om3_coeff.specs.Spans.{span}
use Rattle.tree_walk.specs.Trees.{top_of_page, IsTree}
use Rattle.tree_walk.proofs.StepLemmas.{error_so}
use Rattle.series_store.specs.Counting.{NamesWithin, IsTreeCause}
use Rattle.series_store.specs.declared.errors.StoreError.{StoreError}
use Rattle.series_store.proofs.LookLemmas.{looks_then}
use Rattle.series_store.proofs.ValueLemmas.{no_values, one_value, all_parts, values_fit}
use Rattle.series_store.proofs.TreeCountLemmas.{is_there, page_cause, slot_cause, child_cause, parts_hold, never_bad, near_index, near_here}
use Rattle.series_store.proofs.TreeCountLemmas.{part_slot, sound_none, sound_slot, child_matched, nodes_of, children_below, child_stands}
use Rattle.series_store.proofs.TreeCountLemmas.{count_start, count_on, read_one_page, read_some, read_all, sound_end}
use Rattle.series_store.proofs.counting.+count_values.Goals as goal

pub returns-in_default-clause-counts : goal.returns-in_default-clause-counts
returns-in_default-clause-counts g t c = λ list told slots long tree top.
    sym (no_values list c.args.level c.args.index (sym top ∙ c.in_default.is))

pub returns-in_default-clause-reads : goal.returns-in_default-clause-reads
returns-in_default-clause-reads g t c = λ told. record { low = omega arith; high = omega arith }

pub returns-in_default-clause-whole : goal.returns-in_default-clause-whole
returns-in_default-clause-whole g t c = λ told. sound_none
    (g.P.Pages.view c.args.space.now.pages).image c.args.space.now.superblock.total c.args.slots c.args.level c.args.index c.args.page
    c.args.top c.requires.matched c.in_default.is

pub returns-then-level-eq0-clause-counts : goal.returns-then-level-eq0-clause-counts
returns-then-level-eq0-clause-counts g t c = λ list told slots long tree top.
    one_value list c.args.level c.args.index c.in-Some.span c.if-level-eq0.true (sym c.in-Some.is ∙ top)

pub returns-then-level-eq0-clause-reads : goal.returns-then-level-eq0-clause-reads
returns-then-level-eq0-clause-reads g t c = λ told. record { low = omega arith; high = omega arith }

pub returns-then-level-eq0-clause-whole : goal.returns-then-level-eq0-clause-whole
returns-then-level-eq0-clause-whole g t c = λ told. sound_slot
    (g.P.Pages.view c.args.space.now.pages).image c.args.space.now.superblock.total c.args.slots c.args.level c.args.index c.args.page
    c.args.top c.if-level-eq0.true (c.requires.slot c.if-level-eq0.true)

pub returns-in_err-read_page-clause-cause : goal.returns-in_err-read_page-clause-cause
returns-in_err-read_page-clause-cause g t c =
    let is : c.args.level ≡ suc (c.args.level - 1) = omega (arith, c.if-level-eq0.false) in
    let some = is_there c.args.page c.args.top c.in-Some.span (c.requires.matched (omega (arith, is))) c.in-Some.is in
    let U : StoreError → Type 0 = λ e. IsTreeCause e (g.P.Pages.told c.args.space.now.pages) (g.P.Pages.view c.args.space.now.pages)
    (g.P.Pages.view c.read_page.new.space.pages) c.args.space.now.superblock.total c.args.slots c.args.level c.args.index c.args.page
    c.args.top in
    let T : Option Span → Type 0 = λ top. IsTreeCause c.in_err-read_page.field-0.0 (g.P.Pages.told c.args.space.now.pages)
    (g.P.Pages.view c.args.space.now.pages) (g.P.Pages.view c.read_page.new.space.pages) c.args.space.now.superblock.total c.args.slots
    c.args.level c.args.index c.args.page top in
    error_so _ U c.from_residual.result c.from_residual.ensures.1
    (λ e same. subst U (sym same) (subst T (sym c.in-Some.is)
    (page_cause c.in_err-read_page.field-0.0 (g.P.Pages.told c.args.space.now.pages) (g.P.Pages.view c.args.space.now.pages)
    (g.P.Pages.view c.read_page.new.space.pages) c.args.space.now.superblock.total c.args.slots c.args.level
    (c.args.level - 1) c.args.index c.args.page (Some c.in-Some.span) is some c.in_err-read_page.ensures.cause)))

pub returns-in_err-read_page-clause-stands : goal.returns-in_err-read_page-clause-stands
returns-in_err-read_page-clause-stands g t c = λ list told slots long tree top.
    let is : c.args.level ≡ suc (c.args.level - 1) = omega (arith, c.if-level-eq0.false) in
    let some = is_there c.args.page c.args.top c.in-Some.span (c.requires.matched (omega (arith, is))) c.in-Some.is in
    let low : 0 < c.args.space.now.superblock.total = omega (arith, c.args.space.now.rules.total_low) in
    error_so _ _ c.from_residual.result c.from_residual.ensures.1
    (λ e same. same ∙ c.in_err-read_page.ensures.stands list (c.args.level - 1) c.args.index told is slots
    (nodes_of (g.P.Pages.view c.args.space.now.pages).image c.args.space.now.superblock.total list c.args.level
    (c.args.level - 1) c.args.index c.args.page is some tree) (sym c.in-Some.is ∙ top)
    (children_below (g.P.Pages.view c.args.space.now.pages).image c.args.space.now.superblock.total list c.args.level
    (c.args.level - 1) c.args.index c.args.page low is some tree))

pub returns-in_err-read_page-clause-reads : goal.returns-in_err-read_page-clause-reads
returns-in_err-read_page-clause-reads g t c = λ told.
    let is : c.args.level ≡ suc (c.args.level - 1) = omega (arith, c.if-level-eq0.false) in
    let some = is_there c.args.page c.args.top c.in-Some.span (c.requires.matched (omega (arith, is))) c.in-Some.is in
    read_one_page (g.P.Pages.view c.args.space.now.pages) (g.P.Pages.view c.read_page.new.space.pages) c.args.level
    (c.args.level - 1) c.args.page is some c.read_page.ensures.reads

pub are_slots-requires : goal.are_slots-requires
are_slots-requires g t c = record { near = near_index c.args.index c.args.level c.if-level-eq0.false c.requires.near }

pub returns-then-not-are_slots-clause-cause : goal.returns-then-not-are_slots-clause-cause
returns-then-not-are_slots-clause-cause g t c = λ told.
    let is : c.args.level ≡ suc (c.args.level - 1) = omega (arith, c.if-level-eq0.false) in
    let some = is_there c.args.page c.args.top c.in-Some.span (c.requires.matched (omega (arith, is))) c.in-Some.is in
    let A : Option Span → Type 0 = λ s. AreBelow s c.read_page.new.bytes (span_at c.read_page.new.spans) in
    slot_cause (g.P.Pages.view c.args.space.now.pages).image c.args.space.now.superblock.total c.args.slots c.args.level
    (c.args.level - 1) c.args.index c.args.page c.args.top c.read_page.new.bytes (span_at c.read_page.new.spans) is some
    (c.in_ok-read_page.ensures.bytes told)
    (subst A (sym c.in-Some.is) c.in_ok-read_page.ensures.below) (c.if-not-are_slots.ensures.lowest refl)
    (c.if-not-are_slots.ensures.bad refl)

pub returns-then-not-are_slots-clause-stands : goal.returns-then-not-are_slots-clause-stands
returns-then-not-are_slots-clause-stands g t c = λ list told slots long tree top.
    let is : c.args.level ≡ suc (c.args.level - 1) = omega (arith, c.if-level-eq0.false) in
    let some = is_there c.args.page c.args.top c.in-Some.span (c.requires.matched (omega (arith, is))) c.in-Some.is in
    let tops = c.in_ok-read_page.ensures.tops list (c.args.level - 1) c.args.index told is slots
    (nodes_of (g.P.Pages.view c.args.space.now.pages).image c.args.space.now.superblock.total list c.args.level
    (c.args.level - 1) c.args.index c.args.page is some tree) (sym c.in-Some.is ∙ top) in
    absurd (never_bad c.args.slots c.args.index (span_at c.read_page.new.spans)
    (parts_hold list c.args.slots c.args.level (c.args.level - 1) c.args.index (span_at c.read_page.new.spans) long is
    (c.if-not-are_slots.ensures.lowest refl) tops) (c.if-not-are_slots.ensures.bad refl))

pub returns-then-not-are_slots-clause-reads : goal.returns-then-not-are_slots-clause-reads
returns-then-not-are_slots-clause-reads g t c = λ told.
    let is : c.args.level ≡ suc (c.args.level - 1) = omega (arith, c.if-level-eq0.false) in
    let some = is_there c.args.page c.args.top c.in-Some.span (c.requires.matched (omega (arith, is))) c.in-Some.is in
    read_one_page (g.P.Pages.view c.args.space.now.pages) (g.P.Pages.view c.read_page.new.space.pages) c.args.level
    (c.args.level - 1) c.args.page is some c.read_page.ensures.reads

pub part_of-requires : goal.part_of-requires
part_of-requires g t c = record { near = near_index c.args.index c.args.level c.if-level-eq0.false c.requires.near }

pub loop-child-init : goal.loop-child-init
loop-child-init g t c = (
  count_start (g.P.Pages.told c.args.space.now.pages) (g.P.Pages.told c.read_page.new.space.pages)
      (g.P.Pages.view c.args.space.now.pages) (g.P.Pages.view c.read_page.new.space.pages) (g.P.Pages.under c.args.space.now.pages)
      (g.P.Pages.under c.read_page.new.space.pages) c.args.space.now.superblock c.read_page.new.space.superblock c.args.slots c.args.level
      (c.args.level - 1) c.args.index c.args.page c.args.top c.read_page.new.bytes
      (span_at c.read_page.new.spans) c.read_page.ensures.looks c.read_page.ensures.reads.high,
  c.in_ok-read_page.ensures.quiet,
)

pub count_values-requires : goal.count_values-requires
count_values-requires g t c κs within =
    let way = c.loop-child.invariant.0 in (
      omega (arith, c.if-level-eq0.false),
      (
        search rules,
        (
          way.looks.kept.fit c.requires.sound,
          (
            omega (arith, c.requires.level),
            (
              omega (
                arith,
                c.child_of-under.ensures,
                c.in_ok-read_page.ensures.sound.below c.loop-child.child c.loop-child-test.true,
                ap (λ (s : Superblock). s.total) way.looks.over.superblock,
              ),
              (
                c.leaf-part.ensures.proper,
                (
                  λ high.
                      let H : Option Span → Type 0 = λ s. has_child c.read_page.new.bytes c.loop-child.child ≡ is_some s in
                      let has : H c.leaf-part.result = subst H (sym c.leaf-part.ensures.span)
                      (c.in_ok-read_page.ensures.children c.loop-child.child c.loop-child-test.true) in
                      child_matched c.args.space.now.superblock.total c.args.level c.loop-child.child c.child_of-under.result
                      c.read_page.new.bytes c.leaf-part.result c.in_ok-read_page.ensures.sound
                      (omega (arith, high)) c.loop-child-test.true c.child_of-under.ensures has,
                  (
                    near_here c.args.index c.part_of.result c.args.level (c.args.level - 1) c.loop-child.child c.part_of.ensures
                        (omega (arith, c.if-level-eq0.false)) c.loop-child-test.true c.requires.near,
                    λ lowest. part_slot c.args.slots c.args.index c.part_of.result c.loop-child.child c.leaf-part.result
                        (span_at c.read_page.new.spans) c.part_of.ensures c.leaf-part.ensures.span c.loop-child-test.true
                        (c.if-not-are_slots.ensures.parts refl (omega (arith, lowest, c.if-level-eq0.false))),
                  ),
                ),
              ),
            ),
          ),
        ),
      ),
    )

pub returns-in_err-more-clause-looks : goal.returns-in_err-more-clause-looks
returns-in_err-more-clause-looks g t c =
    looks_then (g.P.Pages.told c.args.space.now.pages) (g.P.Pages.told c.loop-child.space.pages)
    (g.P.Pages.told c.count_values.new.space.pages) (g.P.Pages.view c.args.space.now.pages) (g.P.Pages.view c.loop-child.space.pages)
    (g.P.Pages.view c.count_values.new.space.pages) (g.P.Pages.under c.args.space.now.pages) (g.P.Pages.under c.loop-child.space.pages)
    (g.P.Pages.under c.count_values.new.space.pages) c.args.space.now.superblock c.loop-child.space.superblock
    c.count_values.new.space.superblock c.loop-child.invariant.0.looks c.count_values.ensures.looks

pub returns-in_err-more-clause-cause : goal.returns-in_err-more-clause-cause
returns-in_err-more-clause-cause g t c =
    let is : c.args.level ≡ suc (c.args.level - 1) = omega (arith, c.if-level-eq0.false) in
    let some = is_there c.args.page c.args.top c.in-Some.span (c.requires.matched (omega (arith, is))) c.in-Some.is in
    let A : Option Span → Type 0 = λ s. AreBelow s c.read_page.new.bytes (span_at c.read_page.new.spans) in
    let split : A c.args.top = subst A (sym c.in-Some.is) c.in_ok-read_page.ensures.below in
    let way = c.loop-child.invariant.0 in
    let U : StoreError → Type 0 = λ e. IsTreeCause e (g.P.Pages.told c.args.space.now.pages) (g.P.Pages.view c.args.space.now.pages)
    (g.P.Pages.view c.count_values.new.space.pages) c.args.space.now.superblock.total c.args.slots c.args.level c.args.index c.args.page
    c.args.top in
    error_so _ U c.from_residual-in_err-more.result c.from_residual-in_err-more.ensures.1
    (λ e same. subst U (sym same) (child_cause c.in_err-more.field-0.0 (g.P.Pages.told c.args.space.now.pages)
    (g.P.Pages.told c.loop-child.space.pages) (g.P.Pages.view c.args.space.now.pages) (g.P.Pages.view c.loop-child.space.pages)
    (g.P.Pages.view c.count_values.new.space.pages) c.args.space.now.superblock.total c.loop-child.space.superblock.total c.args.slots
    c.args.level (c.args.level - 1) c.args.index c.part_of.result c.args.page c.child_of-under.result c.loop-child.child c.args.top
    c.leaf-part.result c.read_page.new.bytes (span_at c.read_page.new.spans)
    c.part_of.ensures way.looks.kept c.loop-child.invariant.1
    (ap (λ (s : Superblock). s.total) way.looks.over.superblock) is some c.loop-child-test.true c.child_of-under.ensures
    c.leaf-part.ensures.span c.in_ok-read_page.ensures.bytes split c.in_err-more.ensures.cause))

pub returns-in_err-more-clause-stands : goal.returns-in_err-more-clause-stands
returns-in_err-more-clause-stands g t c = λ list told slots long tree top.
    let is : c.args.level ≡ suc (c.args.level - 1) = omega (arith, c.if-level-eq0.false) in
    let some = is_there c.args.page c.args.top c.in-Some.span (c.requires.matched (omega (arith, is))) c.in-Some.is in
    let way = c.loop-child.invariant.0 in
    let below = child_stands (g.P.Pages.view c.args.space.now.pages).image
    (g.P.Pages.view c.loop-child.space.pages).image c.args.space.now.superblock.total c.loop-child.space.superblock.total list
    c.args.level (c.args.level - 1) c.args.index c.args.page c.child_of-under.result c.loop-child.child c.leaf-part.result
    c.read_page.new.bytes (span_at c.read_page.new.spans)
    (way.looks.kept.image told) (ap (λ (s : Superblock). s.total) way.looks.over.superblock) is some c.loop-child-test.true
    c.child_of-under.ensures c.leaf-part.ensures.span (c.in_ok-read_page.ensures.bytes told)
    (c.in_ok-read_page.ensures.tops list (c.args.level - 1) c.args.index told is slots
    (nodes_of (g.P.Pages.view c.args.space.now.pages).image c.args.space.now.superblock.total list c.args.level
    (c.args.level - 1) c.args.index c.args.page is some tree) (sym c.in-Some.is ∙ top)) tree in
    let T : ℕ → Type 0 = λ i. IsTree (g.P.Pages.view c.loop-child.space.pages).image c.loop-child.space.superblock.total list
    (c.args.level - 1) i c.child_of-under.result in
    let S : ℕ → Type 0 = λ i. c.leaf-part.result ≡ span list (top_of_page (c.args.level - 1) i) in
    error_so _ _ c.from_residual-in_err-more.result c.from_residual-in_err-more.ensures.1
    (λ e same. same ∙ c.in_err-more.ensures.stands list (way.looks.kept.told told) slots long (subst T (sym c.part_of.ensures) below.tree)
    (subst S (sym c.part_of.ensures) below.top_is))

pub returns-in_err-more-clause-reads : goal.returns-in_err-more-clause-reads
returns-in_err-more-clause-reads g t c = λ told.
    let is : c.args.level ≡ suc (c.args.level - 1) = omega (arith, c.if-level-eq0.false) in
    let some = is_there c.args.page c.args.top c.in-Some.span (c.requires.matched (omega (arith, is))) c.in-Some.is in
    read_some (g.P.Pages.told c.args.space.now.pages) (g.P.Pages.told c.loop-child.space.pages)
    (g.P.Pages.told c.count_values.new.space.pages) (g.P.Pages.view c.args.space.now.pages) (g.P.Pages.view c.loop-child.space.pages)
    (g.P.Pages.view c.count_values.new.space.pages) (g.P.Pages.under c.args.space.now.pages) (g.P.Pages.under c.loop-child.space.pages)
    (g.P.Pages.under c.count_values.new.space.pages) c.args.space.now.superblock c.loop-child.space.superblock
    c.count_values.new.space.superblock c.args.slots c.args.level
    (c.args.level - 1) c.args.index c.args.page c.child_of-under.result c.args.top c.read_page.new.bytes
    (span_at c.read_page.new.spans) c.loop-child.values c.loop-child.child
    c.loop-child.invariant.0 c.count_values.ensures.looks is some c.loop-child-test.true c.child_of-under.ensures
    c.in_ok-read_page.ensures.bytes c.count_values.ensures.reads told

pub overflow_add-values : goal.overflow_add-values
overflow_add-values g t c =
    let low : c.args.level - 1 ≤ 4 = omega (arith, c.requires.level) in
    omega (
      arith,
      values_fit c.loop-child.values c.in_ok-more.more c.loop-child.child
          (c.args.level - 1) c.loop-child-test.true low c.loop-child.invariant.0.few c.in_ok-more.ensures.few,
    )

pub loop-child-preserved : goal.loop-child-preserved
loop-child-preserved g t c =
    let is : c.args.level ≡ suc (c.args.level - 1) = omega (arith, c.if-level-eq0.false) in
    let some = is_there c.args.page c.args.top c.in-Some.span (c.requires.matched (omega (arith, is))) c.in-Some.is in (
      count_on (g.P.Pages.told c.args.space.now.pages) (g.P.Pages.told c.loop-child.space.pages)
          (g.P.Pages.told c.count_values.new.space.pages) (g.P.Pages.view c.args.space.now.pages) (g.P.Pages.view c.loop-child.space.pages)
          (g.P.Pages.view c.count_values.new.space.pages) (g.P.Pages.under c.args.space.now.pages)
          (g.P.Pages.under c.loop-child.space.pages)
          (g.P.Pages.under c.count_values.new.space.pages) c.args.space.now.superblock c.loop-child.space.superblock
          c.count_values.new.space.superblock c.args.slots c.args.level
          (c.args.level - 1) c.args.index c.part_of.result c.args.page c.child_of-under.result c.args.top c.leaf-part.result
          c.read_page.new.bytes (span_at c.read_page.new.spans) c.loop-child.values c.in_ok-more.more c.loop-child.child
          c.part_of.ensures c.loop-child.invariant.0 is some c.loop-child-test.true c.child_of-under.ensures c.leaf-part.ensures.span
          c.in_ok-read_page.ensures.bytes
          (λ list told slots long tree top. c.in_ok-read_page.ensures.tops list (c.args.level - 1) c.args.index told is slots
          (nodes_of (g.P.Pages.view c.args.space.now.pages).image c.args.space.now.superblock.total list c.args.level
          (c.args.level - 1) c.args.index c.args.page is some tree) (sym c.in-Some.is ∙ top))
          c.count_values.ensures.looks c.in_ok-more.ensures.few
          (λ list told slots long tree top. c.in_ok-more.ensures.counts list told slots long tree top)
          (λ told. c.count_values.ensures.reads told)
          (λ told. c.in_ok-more.ensures.whole told),
      c.in_ok-more.ensures.quiet ∙ c.loop-child.invariant.1,
    )

pub returns-clause-counts : goal.returns-clause-counts
returns-clause-counts g t c = λ list told slots long tree top.
    let is : c.args.level ≡ suc (c.args.level - 1) = omega (arith, c.if-level-eq0.false) in
    let end : c.loop-child.child ≡ 128 = omega (arith, c.loop-child-test.false, c.loop-child.auto.child-end) in
    all_parts list c.args.level (c.args.level - 1) c.args.index c.loop-child.values c.loop-child.child is end
    (c.loop-child.invariant.0.counts list told slots long tree top)

pub returns-clause-reads : goal.returns-clause-reads
returns-clause-reads g t c = λ told.
    let is : c.args.level ≡ suc (c.args.level - 1) = omega (arith, c.if-level-eq0.false) in
    let some = is_there c.args.page c.args.top c.in-Some.span (c.requires.matched (omega (arith, is))) c.in-Some.is in
    let end : c.loop-child.child ≡ 128 = omega (arith, c.loop-child-test.false, c.loop-child.auto.child-end) in
    read_all (g.P.Pages.told c.args.space.now.pages) (g.P.Pages.told c.loop-child.space.pages) (g.P.Pages.view c.args.space.now.pages)
    (g.P.Pages.view c.loop-child.space.pages) (g.P.Pages.under c.args.space.now.pages)
    (g.P.Pages.under c.loop-child.space.pages) c.args.space.now.superblock c.loop-child.space.superblock c.args.slots c.args.level
    (c.args.level - 1) c.args.index c.args.page c.args.top c.read_page.new.bytes
    (span_at c.read_page.new.spans) c.loop-child.values c.loop-child.child
    c.loop-child.invariant.0 is some end c.in_ok-read_page.ensures.bytes told

pub returns-clause-whole : goal.returns-clause-whole
returns-clause-whole g t c = λ told.
    let is : c.args.level ≡ suc (c.args.level - 1) = omega (arith, c.if-level-eq0.false) in
    let some = is_there c.args.page c.args.top c.in-Some.span (c.requires.matched (omega (arith, is))) c.in-Some.is in
    let A : Option Span → Type 0 = λ s. AreBelow s c.read_page.new.bytes (span_at c.read_page.new.spans) in
    let split : A c.args.top = subst A (sym c.in-Some.is) c.in_ok-read_page.ensures.below in
    sound_end (g.P.Pages.view c.args.space.now.pages).image c.args.space.now.superblock.total c.args.slots c.args.level
    (c.args.level - 1) c.args.index c.args.page c.loop-child.child c.args.top c.read_page.new.bytes
    (span_at c.read_page.new.spans) is some c.loop-child-test.false
    (c.in_ok-read_page.ensures.bytes told) c.in_ok-read_page.ensures.sound split (c.loop-child.invariant.0.whole told)

pub returns-in_err-read_page-clause-within : goal.returns-in_err-read_page-clause-within
returns-in_err-read_page-clause-within g t c =
    let W : StoreError → Type 0 = λ e. NamesWithin c.args.space.now.superblock.total e in
    error_so _ W c.from_residual.result c.from_residual.ensures.1 (λ e same. subst W (sym same) c.in_err-read_page.ensures.within)

pub returns-in_err-more-clause-within : goal.returns-in_err-more-clause-within
returns-in_err-more-clause-within g t c =
    let W : StoreError → Type 0 = λ e. NamesWithin c.args.space.now.superblock.total e in
    let N : ℕ → Type 0 = λ n. NamesWithin n c.in_err-more.field-0.0 in
    error_so _ W c.from_residual-in_err-more.result c.from_residual-in_err-more.ensures.1
    (λ e same. subst W (sym same) (subst N (ap (λ (s : Superblock). s.total) c.loop-child.invariant.0.looks.over.superblock)
    c.in_err-more.ensures.within))

pub returns-in_err-more-clause-quiet_err : goal.returns-in_err-more-clause-quiet_err
returns-in_err-more-clause-quiet_err g t c =
    error_so _ _ c.from_residual-in_err-more.result c.from_residual-in_err-more.ensures.1
    (λ e same other. c.in_err-more.ensures.quiet_err (λ is. other (same ∙ is)) ∙ c.loop-child.invariant.1)

pub returns-clause-quiet : goal.returns-clause-quiet
returns-clause-quiet g t c = c.loop-child.invariant.1
