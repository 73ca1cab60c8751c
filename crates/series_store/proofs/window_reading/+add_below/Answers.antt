use Rattle.std.proofs.Common.{rules, ◌≡◌, ◌-◌, ◌<◌, suc, is_some, Option, Some, sym, ap, subst, arith, inl, ◌∙◌}
use Rattle.om3_coeff.specs.declared.span.Span.{Span}
use Rattle.om3_coeff.specs.Keys.{first_slot, end_slot}
use Rattle.om3_coeff.specs.Spans.{IsProper, IsProperIfAny}
use Rattle.node_page.specs.Layout.{has_child}
use Rattle.page_space.specs.declared.superblock.Superblock.{Superblock}
use Rattle.page_spans.specs.Heaps.{span_at}
use Rattle.path_repair.specs.Damage.{AreBelow as AreSpansBelow}
use Rattle.tree_walk.specs.Trees.{top_of_page}
use Rattle.tree_walk.proofs.StepLemmas.{error_so}
use Rattle.series_book.specs.declared.limits.TheConstants.{MOST_SLOTS}
use Rattle.series_store.specs.Opening.{IsOutside}
use Rattle.series_store.specs.WindowReading.{IsTreeWindowCause}
use Rattle.series_store.specs.declared.errors.StoreError.{StoreError}
use Rattle.series_store.proofs.LookLemmas.{looks_then}
use Rattle.series_store.proofs.TreeCountLemmas.{is_there, child_matched, nodes_of, children_below}
use Rattle.series_store.proofs.SendLemmas.{part_order, child_range}
use Rattle.series_store.proofs.WindowLemmas.{below_silent, some_silent, slot_none, not_met}
use Rattle.series_store.proofs.ReadingLemmas.{read_start, read_on, read_one_page, read_some, read_end, page_window_cause}
use Rattle.series_store.proofs.ReadingLemmas.{child_window_cause, memory_cause, memory_outside, child_outside, value_on, value_some}
use Rattle.series_store.proofs.window_reading.+add_below.Goals as goal

pub returns-in_default-clause-some : goal.returns-in_default-clause-some
returns-in_default-clause-some g t c = λ are.
    some_silent c.args.from c.args.to (first_slot (top_of_page c.args.level c.args.index))
    (end_slot (top_of_page c.args.level c.args.index)) c.args.values.now (part_order c.args.level c.args.index) are

pub returns-in_default-clause-values : goal.returns-in_default-clause-values
returns-in_default-clause-values g t c = λ list told slots tree top are.
    below_silent list c.args.from c.args.to (first_slot (top_of_page c.args.level c.args.index))
    (end_slot (top_of_page c.args.level c.args.index)) c.args.values.now (part_order c.args.level c.args.index)
    (λ i low high here below. slot_none list c.args.level c.args.index (sym top ∙ c.in_default.is) i low high) are

pub returns-then-not-meets-clause-some : goal.returns-then-not-meets-clause-some
returns-then-not-meets-clause-some g t c = λ are.
    some_silent c.args.from c.args.to (first_slot (top_of_page c.args.level c.args.index))
    (end_slot (top_of_page c.args.level c.args.index)) c.args.values.now (part_order c.args.level c.args.index) are

pub returns-then-not-meets-clause-values : goal.returns-then-not-meets-clause-values
returns-then-not-meets-clause-values g t c = λ list told slots tree top are.
    below_silent list c.args.from c.args.to (first_slot (top_of_page c.args.level c.args.index))
    (end_slot (top_of_page c.args.level c.args.index)) c.args.values.now (part_order c.args.level c.args.index)
    (λ i low high here below. absurd (not_met c.args.from c.args.to c.args.level c.args.index (sym c.meets.ensures
    ∙ c.if-not-meets.true) i low high here below)) are

pub returns-then-level-eq0-clause-some : goal.returns-then-level-eq0-clause-some
returns-then-level-eq0-clause-some g t c = λ are.
    let I : Option Span → Type 0 = λ s. IsProperIfAny s in
    let proper : IsProper c.in-Some.span = subst I c.in-Some.is c.requires.proper in
    value_some c.args.from c.args.to c.args.level c.args.index c.in-Some.span c.args.values.now c.add_slot.new.values c.add_slot.result
    c.if-level-eq0.true (sym c.meets.ensures ∙ c.if-not-meets.false) proper.low c.add_slot.ensures.added are

pub returns-then-level-eq0-clause-values : goal.returns-then-level-eq0-clause-values
returns-then-level-eq0-clause-values g t c = λ list told slots tree top are.
    value_on list c.args.from c.args.to c.args.level c.args.index c.in-Some.span c.args.values.now c.add_slot.new.values c.add_slot.result
    c.if-level-eq0.true (sym c.meets.ensures ∙ c.if-not-meets.false) (sym c.in-Some.is ∙ top) c.add_slot.ensures.added are

pub returns-then-level-eq0-clause-stands : goal.returns-then-level-eq0-clause-stands
returns-then-level-eq0-clause-stands g t c = λ list told slots tree top. memory_outside c.add_slot.result c.add_slot.ensures.memory

pub returns-then-level-eq0-clause-cause : goal.returns-then-level-eq0-clause-cause
returns-then-level-eq0-clause-cause g t c =
    memory_cause c.add_slot.result (g.P.Pages.told c.args.space.now.pages) (g.P.Pages.view c.args.space.now.pages)
    (g.P.Pages.view c.args.space.now.pages) c.args.space.now.superblock.total c.args.level c.args.page c.args.top
    c.add_slot.ensures.memory

pub returns-in_err-read_page-clause-cause : goal.returns-in_err-read_page-clause-cause
returns-in_err-read_page-clause-cause g t c =
    let is : c.args.level ≡ suc (c.args.level - 1) = omega (arith, c.if-level-eq0.false) in
    let some = is_there c.args.page c.args.top c.in-Some.span (c.requires.matched (omega (arith, is))) c.in-Some.is in
    let U : StoreError → Type 0 = λ e. IsTreeWindowCause e (g.P.Pages.told c.args.space.now.pages) (g.P.Pages.view c.args.space.now.pages)
    (g.P.Pages.view c.read_page.new.space.pages) c.args.space.now.superblock.total c.args.level c.args.page c.args.top in
    let T : Option Span → Type 0 = λ top. IsTreeWindowCause c.in_err-read_page.field-0.0 (g.P.Pages.told c.args.space.now.pages)
    (g.P.Pages.view c.args.space.now.pages) (g.P.Pages.view c.read_page.new.space.pages) c.args.space.now.superblock.total c.args.level
    c.args.page top in
    error_so _ U c.from_residual.result c.from_residual.ensures.1
    (λ e same. subst U (sym same) (subst T (sym c.in-Some.is)
    (page_window_cause c.in_err-read_page.field-0.0 (g.P.Pages.told c.args.space.now.pages) (g.P.Pages.view c.args.space.now.pages)
    (g.P.Pages.view c.read_page.new.space.pages) c.args.space.now.superblock.total c.args.level (c.args.level - 1) c.args.page
    (Some c.in-Some.span) is some c.requires.page c.in_err-read_page.ensures.cause)))

pub returns-in_err-read_page-clause-stands : goal.returns-in_err-read_page-clause-stands
returns-in_err-read_page-clause-stands g t c = λ list told slots tree top.
    let is : c.args.level ≡ suc (c.args.level - 1) = omega (arith, c.if-level-eq0.false) in
    let some = is_there c.args.page c.args.top c.in-Some.span (c.requires.matched (omega (arith, is))) c.in-Some.is in
    let low : 0 < c.args.space.now.superblock.total = omega (arith, c.args.space.now.rules.total_low) in
    error_so _ IsOutside c.from_residual.result c.from_residual.ensures.1
    (λ e same. inl (same ∙ c.in_err-read_page.ensures.stands list (c.args.level - 1) c.args.index told is slots
    (nodes_of (g.P.Pages.view c.args.space.now.pages).image c.args.space.now.superblock.total list c.args.level
    (c.args.level - 1) c.args.index c.args.page is some tree) (sym c.in-Some.is ∙ top)
    (children_below (g.P.Pages.view c.args.space.now.pages).image c.args.space.now.superblock.total list c.args.level
    (c.args.level - 1) c.args.index c.args.page low is some tree)))

pub returns-in_err-read_page-clause-reads : goal.returns-in_err-read_page-clause-reads
returns-in_err-read_page-clause-reads g t c =
    let is : c.args.level ≡ suc (c.args.level - 1) = omega (arith, c.if-level-eq0.false) in
    read_one_page (g.P.Pages.view c.args.space.now.pages) (g.P.Pages.view c.read_page.new.space.pages) c.args.from c.args.to c.args.level
    (c.args.level - 1) c.args.index is (sym c.meets.ensures ∙ c.if-not-meets.false) c.read_page.ensures.one_read

pub returns-in_err-read_page-clause-quiet_err : goal.returns-in_err-read_page-clause-quiet_err
returns-in_err-read_page-clause-quiet_err g t c =
    error_so _ _ c.from_residual.result c.from_residual.ensures.1
    (λ e same other. c.in_err-read_page.ensures.quiet_err (λ is. other (same ∙ is)))

pub loop-child-init : goal.loop-child-init
loop-child-init g t c =
    let is : c.args.level ≡ suc (c.args.level - 1) = omega (arith, c.if-level-eq0.false) in (
      read_start (g.P.Pages.told c.args.space.now.pages) (g.P.Pages.told c.read_page.new.space.pages)
          (g.P.Pages.view c.args.space.now.pages)
          (g.P.Pages.view c.read_page.new.space.pages) (g.P.Pages.under c.args.space.now.pages)
          (g.P.Pages.under c.read_page.new.space.pages) c.args.space.now.superblock c.read_page.new.space.superblock c.args.from c.args.to
          c.args.level (c.args.level - 1) c.args.index c.args.page c.args.top c.args.values.now is c.read_page.ensures.looks
          c.read_page.ensures.one_read,
      c.in_ok-read_page.ensures.quiet,
    )

pub add_below-requires : goal.add_below-requires
add_below-requires g t c κs within =
    let is : c.args.level ≡ suc (c.args.level - 1) = omega (arith, c.if-level-eq0.false) in
    let way = c.loop-child.invariant.0 in (
      omega (arith, c.if-level-eq0.false),
      (
        search rules,
        (
          way.looks.kept.fit c.requires.sound,
          (
            omega (arith, c.requires.level),
            (
              child_range c.args.level (c.args.level - 1) c.args.index c.loop-child.child MOST_SLOTS is c.loop-child-test.true
                  c.requires.range,
              (
                omega (
                  arith,
                  c.child_of-under.ensures,
                  c.in_ok-read_page.ensures.sound.below c.loop-child.child c.loop-child-test.true,
                  ap (λ (s : Superblock). s.total) way.looks.over.superblock,
                ),
                (
                  c.leaf-part.ensures.proper,
                  λ high.
                      let H : Option Span → Type 0 = λ s. has_child c.read_page.new.bytes c.loop-child.child ≡ is_some s in
                      let has : H c.leaf-part.result = subst H (sym c.leaf-part.ensures.span)
                      (c.in_ok-read_page.ensures.children c.loop-child.child c.loop-child-test.true) in
                      child_matched c.args.space.now.superblock.total c.args.level c.loop-child.child c.child_of-under.result
                      c.read_page.new.bytes c.leaf-part.result c.in_ok-read_page.ensures.sound
                      (omega (arith, high)) c.loop-child-test.true c.child_of-under.ensures has,
                ),
              ),
            ),
          ),
        ),
      ),
    )

pub returns-in_err-add_below-clause-looks : goal.returns-in_err-add_below-clause-looks
returns-in_err-add_below-clause-looks g t c =
    looks_then (g.P.Pages.told c.args.space.now.pages) (g.P.Pages.told c.loop-child.space.pages)
    (g.P.Pages.told c.add_below.new.space.pages) (g.P.Pages.view c.args.space.now.pages) (g.P.Pages.view c.loop-child.space.pages)
    (g.P.Pages.view c.add_below.new.space.pages) (g.P.Pages.under c.args.space.now.pages) (g.P.Pages.under c.loop-child.space.pages)
    (g.P.Pages.under c.add_below.new.space.pages) c.args.space.now.superblock c.loop-child.space.superblock
    c.add_below.new.space.superblock c.loop-child.invariant.0.looks c.add_below.ensures.looks

pub returns-in_err-add_below-clause-reads : goal.returns-in_err-add_below-clause-reads
returns-in_err-add_below-clause-reads g t c =
    let is : c.args.level ≡ suc (c.args.level - 1) = omega (arith, c.if-level-eq0.false) in
    read_some (g.P.Pages.told c.args.space.now.pages) (g.P.Pages.told c.loop-child.space.pages) (g.P.Pages.view c.args.space.now.pages)
    (g.P.Pages.view c.loop-child.space.pages) (g.P.Pages.view c.add_below.new.space.pages) (g.P.Pages.under c.args.space.now.pages)
    (g.P.Pages.under c.loop-child.space.pages) c.args.space.now.superblock c.loop-child.space.superblock c.args.from c.args.to
    c.args.level (c.args.level - 1) c.args.index c.args.page c.args.top c.args.values.now c.loop-child.values c.loop-child.child
    c.loop-child.invariant.0 is (sym c.meets.ensures ∙ c.if-not-meets.false) c.loop-child-test.true c.add_below.ensures.reads

pub returns-in_err-add_below-clause-cause : goal.returns-in_err-add_below-clause-cause
returns-in_err-add_below-clause-cause g t c =
    let is : c.args.level ≡ suc (c.args.level - 1) = omega (arith, c.if-level-eq0.false) in
    let some = is_there c.args.page c.args.top c.in-Some.span (c.requires.matched (omega (arith, is))) c.in-Some.is in
    let A : Option Span → Type 0 = λ s. AreSpansBelow s c.read_page.new.bytes (span_at c.read_page.new.spans) in
    let split : A c.args.top = subst A (sym c.in-Some.is) c.in_ok-read_page.ensures.below in
    let U : StoreError → Type 0 = λ e. IsTreeWindowCause e (g.P.Pages.told c.args.space.now.pages) (g.P.Pages.view c.args.space.now.pages)
    (g.P.Pages.view c.add_below.new.space.pages) c.args.space.now.superblock.total c.args.level c.args.page c.args.top in
    error_so _ U c.from_residual-in_err-add_below.result c.from_residual-in_err-add_below.ensures.1
    (λ e same. subst U (sym same) (child_window_cause c.in_err-add_below.field-0.0 (g.P.Pages.told c.args.space.now.pages)
    (g.P.Pages.told c.loop-child.space.pages) (g.P.Pages.view c.args.space.now.pages) (g.P.Pages.view c.loop-child.space.pages)
    (g.P.Pages.view c.add_below.new.space.pages) (g.P.Pages.under c.args.space.now.pages)
    (g.P.Pages.under c.loop-child.space.pages) c.args.space.now.superblock c.loop-child.space.superblock c.args.level
    (c.args.level - 1) c.args.page c.child_of-under.result c.loop-child.child c.args.top c.leaf-part.result c.read_page.new.bytes
    (span_at c.read_page.new.spans)
    c.loop-child.invariant.0.looks c.loop-child.invariant.1 is some c.loop-child-test.true c.child_of-under.ensures c.leaf-part.ensures.span
    c.in_ok-read_page.ensures.bytes split c.in_err-add_below.ensures.cause))

pub returns-in_err-add_below-clause-stands : goal.returns-in_err-add_below-clause-stands
returns-in_err-add_below-clause-stands g t c = λ list told slots tree top.
    let is : c.args.level ≡ suc (c.args.level - 1) = omega (arith, c.if-level-eq0.false) in
    let some = is_there c.args.page c.args.top c.in-Some.span (c.requires.matched (omega (arith, is))) c.in-Some.is in
    error_so _ IsOutside c.from_residual-in_err-add_below.result c.from_residual-in_err-add_below.ensures.1
    (λ e same. subst IsOutside (sym same) (child_outside (g.P.Pages.view c.args.space.now.pages) (g.P.Pages.view c.loop-child.space.pages)
    (g.P.Pages.told c.args.space.now.pages) (g.P.Pages.told c.loop-child.space.pages) (g.P.Pages.under c.args.space.now.pages)
    (g.P.Pages.under c.loop-child.space.pages) c.args.space.now.superblock c.loop-child.space.superblock c.args.from c.args.to
    c.args.level (c.args.level - 1) c.args.index c.args.page c.child_of-under.result c.loop-child.child c.args.top c.leaf-part.result
    c.read_page.new.bytes (span_at c.read_page.new.spans) c.args.values.now c.loop-child.values c.in_err-add_below.field-0.0 list
    c.loop-child.invariant.0 is some c.loop-child-test.true c.child_of-under.ensures c.leaf-part.ensures.span
    (c.in_ok-read_page.ensures.bytes told)
    (c.in_ok-read_page.ensures.tops list (c.args.level - 1) c.args.index told is slots
    (nodes_of (g.P.Pages.view c.args.space.now.pages).image c.args.space.now.superblock.total list c.args.level
    (c.args.level - 1) c.args.index c.args.page is some tree) (sym c.in-Some.is ∙ top)) told slots tree
    c.in_err-add_below.ensures.stands))

pub returns-in_err-add_below-clause-quiet_err : goal.returns-in_err-add_below-clause-quiet_err
returns-in_err-add_below-clause-quiet_err g t c =
    error_so _ _ c.from_residual-in_err-add_below.result c.from_residual-in_err-add_below.ensures.1
    (λ e same other. c.in_err-add_below.ensures.quiet_err (λ is. other (same ∙ is)) ∙ c.loop-child.invariant.1)

pub loop-child-preserved : goal.loop-child-preserved
loop-child-preserved g t c =
    let is : c.args.level ≡ suc (c.args.level - 1) = omega (arith, c.if-level-eq0.false) in
    let some = is_there c.args.page c.args.top c.in-Some.span (c.requires.matched (omega (arith, is))) c.in-Some.is in (
      read_on (g.P.Pages.told c.args.space.now.pages) (g.P.Pages.told c.loop-child.space.pages) (g.P.Pages.told c.add_below.new.space.pages)
          (g.P.Pages.view c.args.space.now.pages) (g.P.Pages.view c.loop-child.space.pages) (g.P.Pages.view c.add_below.new.space.pages)
          (g.P.Pages.under c.args.space.now.pages) (g.P.Pages.under c.loop-child.space.pages)
          (g.P.Pages.under c.add_below.new.space.pages) c.args.space.now.superblock c.loop-child.space.superblock
          c.add_below.new.space.superblock c.args.from c.args.to c.args.level
          (c.args.level - 1) c.args.index c.args.page c.child_of-under.result c.loop-child.child c.args.top c.leaf-part.result
          c.read_page.new.bytes (span_at c.read_page.new.spans) c.args.values.now c.loop-child.values c.add_below.new.values
          c.loop-child.invariant.0 is some c.loop-child-test.true c.child_of-under.ensures c.leaf-part.ensures.span
          c.in_ok-read_page.ensures.bytes
          (λ list told slots tree top. (c.in_ok-read_page.ensures.tops list (c.args.level - 1) c.args.index told is slots
          (nodes_of (g.P.Pages.view c.args.space.now.pages).image c.args.space.now.superblock.total list c.args.level
          (c.args.level - 1) c.args.index c.args.page is some tree) (sym c.in-Some.is ∙ top)))
          c.add_below.ensures.looks c.add_below.ensures.reads c.in_ok-add_below.ensures.some c.in_ok-add_below.ensures.values,
      c.in_ok-add_below.ensures.quiet ∙ c.loop-child.invariant.1,
    )

pub returns : goal.returns
returns g t c =
    let is : c.args.level ≡ suc (c.args.level - 1) = omega (arith, c.if-level-eq0.false) in
    let end : c.loop-child.child ≡ 128 = omega (arith, c.loop-child-test.false, c.loop-child.auto.child-end) in
    let done = read_end (g.P.Pages.told c.args.space.now.pages) (g.P.Pages.told c.loop-child.space.pages)
    (g.P.Pages.view c.args.space.now.pages) (g.P.Pages.view c.loop-child.space.pages) (g.P.Pages.under c.args.space.now.pages)
    (g.P.Pages.under c.loop-child.space.pages) c.args.space.now.superblock c.loop-child.space.superblock c.args.from c.args.to
    c.args.level (c.args.level - 1) c.args.index c.args.page c.args.top c.args.values.now c.loop-child.values c.loop-child.child
    c.loop-child.invariant.0 is (sym c.meets.ensures ∙ c.if-not-meets.false) end in
    record {
      looks = c.loop-child.invariant.0.looks;
      reads = done.reads;
      some = done.some;
      values = done.values_are;
      stands = λ list told slots tree top. tt;
      cause = tt;
      quiet = c.loop-child.invariant.1;
      quiet_err = tt;
    }
