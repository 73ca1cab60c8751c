use Rattle.std.proofs.Common.{rules, ◌≡◌, ◌-◌, ◌<◌, suc, is_some, Option, Some, List, ◌++◌, ℕ, ℤ, to_z, of_z, w64, sym, ap, subst, arith}
use Rattle.std.proofs.Common.{◌∙◌}
use Rattle.block_disk.specs.View.{Beside}
use Rattle.om3_coeff.specs.declared.span.Span.{Span}
use Rattle.om3_coeff.specs.Keys.{first_slot, end_slot}
use Rattle.om3_coeff.specs.Spans.{IsProper, IsProperIfAny}
use Rattle.node_page.specs.Layout.{has_child}
use Rattle.page_space.specs.declared.superblock.Superblock.{Superblock}
use Rattle.page_spans.specs.Heaps.{span_at}
use Rattle.path_repair.specs.Damage.{AreBelow}
use Rattle.path_repair.specs.TreePages.{count_where}
use Rattle.tree_walk.specs.Trees.{top_of_page}
use Rattle.tree_walk.proofs.StepLemmas.{error_so}
use Rattle.series_book.specs.declared.limits.TheConstants.{MOST_SLOTS}
use Rattle.series_store.specs.Sending.{HasUnfitFrom, IsCut, is_said_in, said, first_said, IsGiven, GivesBy, IsNoDamage, IsSendCause}
use Rattle.series_store.specs.Sending.{send_error_of}
use Rattle.series_store.specs.declared.send_errors.SendError.{SendError}
use Rattle.series_store.proofs.AskLemmas.{start_same}
use Rattle.series_store.proofs.TreeCountLemmas.{is_there, child_matched, child_stands, nodes_of, children_below}
use Rattle.series_store.specs.WhereFit.{IsFitPage}
use Rattle.series_store.proofs.CutLemmas.{child_cut, near_index, page_cut, text_cut_by}
use Rattle.series_store.proofs.FitLemmas.{fits_read, nodes_fit}
use Rattle.series_store.proofs.SendLemmas.{is_said, said_here, slot_there, by_as, part_silent, said_none, said_silent, part_order}
use Rattle.series_store.proofs.SendLemmas.{part_value, no_damage_by, value_cause_by, page_send_cause, child_send_cause, sends_looks}
use Rattle.series_store.proofs.SendLemmas.{sends_none, sends_then, send_start, send_on, child_range, stops_by, none_by, fault_only}
use Rattle.series_store.proofs.SendLemmas.{send_end, error_is}
use Rattle.series_store.proofs.sending.+send_below.Goals as goal

pub returns-in_default-clause-part : goal.returns-in_default-clause-part
returns-in_default-clause-part g t c = λ list told slots tree top.
    part_silent (said (first_said c.args.slots (g.T.Texts.text c.args.texts.now)) list) (first_slot (top_of_page c.args.level c.args.index))
    (end_slot (top_of_page c.args.level c.args.index))
    (count_where (is_said_in (g.T.Texts.may_be_said c.args.texts.now) c.args.slots list) c.args.level c.args.index)
    (g.P.Pages.view c.args.space.now.pages) c.args.out.now.items (part_order c.args.level c.args.index)
    (said_none (first_said c.args.slots (g.T.Texts.text c.args.texts.now)) list c.args.level c.args.index (sym top ∙ c.in_default.is))

pub returns-then-not-may_say-clause-part : goal.returns-then-not-may_say-clause-part
returns-then-not-may_say-clause-part g t c = λ list told slots tree top.
    part_silent (said (first_said c.args.slots (g.T.Texts.text c.args.texts.now)) list) (first_slot (top_of_page c.args.level c.args.index))
    (end_slot (top_of_page c.args.level c.args.index))
    (count_where (is_said_in (g.T.Texts.may_be_said c.args.texts.now) c.args.slots list) c.args.level c.args.index)
    (g.P.Pages.view c.args.space.now.pages) c.args.out.now.items (part_order c.args.level c.args.index)
    (said_silent (first_said c.args.slots (g.T.Texts.text c.args.texts.now)) list (first_slot (top_of_page c.args.level c.args.index))
    (end_slot (top_of_page c.args.level c.args.index)) (c.may_say.ensures.silent c.if-not-may_say.true))

pub send_value-requires : goal.send_value-requires
send_value-requires g t c = omega (
  arith,
  slot_there c.args.level c.args.index c.args.slots c.if-level-eq0.true
      (c.may_say.ensures.within c.if-not-may_say.false),
  c.requires.slots,
)

pub returns-then-level-eq0-clause-cause : goal.returns-then-level-eq0-clause-cause
returns-then-level-eq0-clause-cause g t c =
    value_cause_by c.send_value.result (g.P.Pages.told c.args.space.now.pages) (g.P.Pages.view c.args.space.now.pages)
    (g.P.Pages.view c.send_value.new.space.pages) c.args.space.now.superblock.total c.args.level c.args.page c.args.top
    c.send_value.ensures.cause

pub returns-then-level-eq0-clause-part : goal.returns-then-level-eq0-clause-part
returns-then-level-eq0-clause-part g t c = λ list told slots tree top.
    let I : Option Span → Type 0 = λ s. IsProperIfAny s in
    let proper : IsProper c.in-Some.span = subst I c.in-Some.is c.requires.proper in
    let V : ℤ → Type 0 = λ v. (text : List ℕ) (before : Option (List ℕ))
    → IsGiven text before (g.P.Pages.view c.args.space.now.pages).beside.sent c.args.out.now.items
    → GivesBy c.send_value.result (text ++ first_said c.args.slots (g.T.Texts.text c.args.texts.now) c.args.index v) before
    (g.P.Pages.view c.send_value.new.space.pages).beside.sent c.send_value.new.out.items in
    part_value (first_said c.args.slots (g.T.Texts.text c.args.texts.now)) list
    (count_where (is_said_in (g.T.Texts.may_be_said c.args.texts.now) c.args.slots list) c.args.level c.args.index) c.args.level
    c.args.index c.in-Some.span (g.P.Pages.view c.args.space.now.pages)
    (g.P.Pages.view c.send_value.new.space.pages) c.args.out.now.items c.send_value.new.out.items c.send_value.result
    c.if-level-eq0.true (sym c.in-Some.is ∙ top) c.send_value.ensures.reads
    (subst V (start_same c.in-Some.span.min proper.low) (λ text before given.
    by_as c.send_value.result _ _ c.send_value.new.out.items before (g.P.Pages.view c.send_value.new.space.pages).beside.sent
    (ap (λ l. text ++ l) (sym (is_said c.args.slots (g.T.Texts.text c.args.texts.now) c.args.index
    (to_z w64 (of_z w64 c.in-Some.span.min)) (slot_there c.args.level c.args.index c.args.slots c.if-level-eq0.true
    (c.may_say.ensures.within c.if-not-may_say.false)))))
    (c.send_value.ensures.gives text before given)))

pub returns-then-level-eq0-clause-no_damage : goal.returns-then-level-eq0-clause-no_damage
returns-then-level-eq0-clause-no_damage g t c = λ list told slots tree top.
    no_damage_by c.send_value.result (g.P.Pages.view c.args.space.now.pages)
    (g.P.Pages.view c.send_value.new.space.pages) c.send_value.ensures.cause

pub returns-in_err-read_page-clause-cause : goal.returns-in_err-read_page-clause-cause
returns-in_err-read_page-clause-cause g t c =
    let is : c.args.level ≡ suc (c.args.level - 1) = omega (arith, c.if-level-eq0.false) in
    let some = is_there c.args.page c.args.top c.in-Some.span (c.requires.matched (omega (arith, is))) c.in-Some.is in
    let U : SendError → Type 0 = λ e. IsSendCause e (g.P.Pages.told c.args.space.now.pages) (g.P.Pages.view c.args.space.now.pages)
    (g.P.Pages.view c.read_page.new.space.pages) c.args.space.now.superblock.total c.args.level c.args.page c.args.top in
    let T : Option Span → Type 0 = λ top. IsSendCause (send_error_of c.in_err-read_page.field-0.0) (g.P.Pages.told c.args.space.now.pages)
    (g.P.Pages.view c.args.space.now.pages) (g.P.Pages.view c.read_page.new.space.pages) c.args.space.now.superblock.total c.args.level
    c.args.page top in
    error_so _ U c.from_residual.result c.from_residual.ensures.1
    (λ e same. subst U (sym same) (subst T (sym c.in-Some.is)
    (page_send_cause c.in_err-read_page.field-0.0 (g.P.Pages.told c.args.space.now.pages) (g.P.Pages.view c.args.space.now.pages)
    (g.P.Pages.view c.read_page.new.space.pages) c.args.space.now.superblock.total c.args.level (c.args.level - 1) c.args.page
    (Some c.in-Some.span) is some c.requires.page c.in_err-read_page.ensures.cause)))

pub returns-in_err-read_page-clause-part : goal.returns-in_err-read_page-clause-part
returns-in_err-read_page-clause-part g t c = λ list told slots tree top.
    let is : c.args.level ≡ suc (c.args.level - 1) = omega (arith, c.if-level-eq0.false) in
    none_by (is_said_in (g.T.Texts.may_be_said c.args.texts.now) c.args.slots) _ (send_error_of c.in_err-read_page.field-0.0)
    (said (first_said c.args.slots (g.T.Texts.text c.args.texts.now)) list) list c.args.level (c.args.level - 1) c.args.index
    (g.P.Pages.view c.args.space.now.pages) (g.P.Pages.view c.read_page.new.space.pages) c.args.out.now.items is
    (said_here (g.T.Texts.may_be_said c.args.texts.now) c.args.slots list c.args.level c.args.index c.in-Some.span (sym c.in-Some.is
    ∙ top) (sym c.may_say.ensures.may ∙ c.if-not-may_say.false)) c.read_page.ensures.looks.kept.beside c.read_page.ensures.one_read
    c.from_residual.ensures.1

pub returns-in_err-read_page-clause-no_damage : goal.returns-in_err-read_page-clause-no_damage
returns-in_err-read_page-clause-no_damage g t c = λ list told slots tree top.
    let is : c.args.level ≡ suc (c.args.level - 1) = omega (arith, c.if-level-eq0.false) in
    let some = is_there c.args.page c.args.top c.in-Some.span (c.requires.matched (omega (arith, is))) c.in-Some.is in
    let low : 0 < c.args.space.now.superblock.total = omega (arith, c.args.space.now.rules.total_low) in
    let fault = c.in_err-read_page.ensures.stands list (c.args.level - 1) c.args.index told is slots
    (nodes_of (g.P.Pages.view c.args.space.now.pages).image c.args.space.now.superblock.total list c.args.level
    (c.args.level - 1) c.args.index c.args.page is some tree) (sym c.in-Some.is
    ∙ top) (children_below (g.P.Pages.view c.args.space.now.pages).image c.args.space.now.superblock.total list c.args.level
    (c.args.level - 1) c.args.index c.args.page low is some tree) in
    error_so _ IsNoDamage c.from_residual.result c.from_residual.ensures.1
    (λ e same. fault_only e c.in_err-read_page.field-0.0 same fault)

pub loop-child-init : goal.loop-child-init
loop-child-init g t c =
    let is : c.args.level ≡ suc (c.args.level - 1) = omega (arith, c.if-level-eq0.false) in (
      send_start (is_said_in (g.T.Texts.may_be_said c.args.texts.now) c.args.slots) (g.P.Pages.told c.args.space.now.pages)
          (g.P.Pages.told c.read_page.new.space.pages) (g.P.Pages.view c.args.space.now.pages) (g.P.Pages.view c.read_page.new.space.pages)
          (g.P.Pages.under c.args.space.now.pages) (g.P.Pages.under c.read_page.new.space.pages) c.args.space.now.superblock
          c.read_page.new.space.superblock (first_said c.args.slots (g.T.Texts.text c.args.texts.now)) c.args.level
          (c.args.level - 1) c.args.index c.args.page c.args.top c.args.out.now.items is c.read_page.ensures.looks
          c.read_page.ensures.one_read c.requires.few,
      c.in_ok-read_page.ensures.quiet,
      ap (λ (b : Beside). b.send_faults) c.read_page.ensures.looks.kept.beside,
    )

pub send_below-requires : goal.send_below-requires
send_below-requires g t c κs within =
    let is : c.args.level ≡ suc (c.args.level - 1) = omega (arith, c.if-level-eq0.false) in
    let way = c.loop-child.invariant.0 in (
      omega (arith, c.if-level-eq0.false),
      (
        search rules,
        (
          search rules,
          (
            way.sends.fit c.requires.sound,
            (
              omega (arith, c.requires.level),
              (
                child_range c.args.level (c.args.level - 1) c.args.index c.loop-child.child MOST_SLOTS is c.loop-child-test.true
                    c.requires.range,
                (
                  c.requires.slots,
                  (
                    omega (
                      arith,
                      c.child_of-under.ensures,
                      c.in_ok-read_page.ensures.sound.below c.loop-child.child c.loop-child-test.true,
                      ap (λ (s : Superblock). s.total) way.sends.superblock,
                    ),
                    (
                      c.leaf-part.ensures.proper,
                      (
                        λ high.
                            let H : Option Span → Type 0 = λ s. has_child c.read_page.new.bytes c.loop-child.child ≡ is_some s in
                            let has : H c.leaf-part.result = subst H (sym c.leaf-part.ensures.span)
                            (c.in_ok-read_page.ensures.children c.loop-child.child c.loop-child-test.true) in
                            child_matched c.args.space.now.superblock.total c.args.level c.loop-child.child c.child_of-under.result
                            c.read_page.new.bytes c.leaf-part.result c.in_ok-read_page.ensures.sound
                            (omega (arith, high)) c.loop-child-test.true c.child_of-under.ensures has,
                        way.few,
                      ),
                    ),
                  ),
                ),
              ),
            ),
          ),
        ),
      ),
    )

pub returns-in_err-send_below-clause-sends : goal.returns-in_err-send_below-clause-sends
returns-in_err-send_below-clause-sends g t c =
    sends_then (g.P.Pages.told c.args.space.now.pages) (g.P.Pages.told c.loop-child.space.pages)
    (g.P.Pages.told c.send_below.new.space.pages) (g.P.Pages.view c.args.space.now.pages) (g.P.Pages.view c.loop-child.space.pages)
    (g.P.Pages.view c.send_below.new.space.pages) (g.P.Pages.under c.args.space.now.pages) (g.P.Pages.under c.loop-child.space.pages)
    (g.P.Pages.under c.send_below.new.space.pages) c.args.space.now.superblock c.loop-child.space.superblock
    c.send_below.new.space.superblock c.loop-child.invariant.0.sends c.send_below.ensures.sends

pub returns-in_err-send_below-clause-cause : goal.returns-in_err-send_below-clause-cause
returns-in_err-send_below-clause-cause g t c =
    let is : c.args.level ≡ suc (c.args.level - 1) = omega (arith, c.if-level-eq0.false) in
    let some = is_there c.args.page c.args.top c.in-Some.span (c.requires.matched (omega (arith, is))) c.in-Some.is in
    let A : Option Span → Type 0 = λ s. AreBelow s c.read_page.new.bytes (span_at c.read_page.new.spans) in
    let split : A c.args.top = subst A (sym c.in-Some.is) c.in_ok-read_page.ensures.below in
    let U : SendError → Type 0 = λ e. IsSendCause e (g.P.Pages.told c.args.space.now.pages) (g.P.Pages.view c.args.space.now.pages)
    (g.P.Pages.view c.send_below.new.space.pages) c.args.space.now.superblock.total c.args.level c.args.page c.args.top in
    error_so _ U c.from_residual-in_err-send_below.result c.from_residual-in_err-send_below.ensures.1
    (λ e same. subst U (sym same) (child_send_cause c.in_err-send_below.field-0.0 (g.P.Pages.told c.args.space.now.pages)
    (g.P.Pages.told c.loop-child.space.pages) (g.P.Pages.view c.args.space.now.pages) (g.P.Pages.view c.loop-child.space.pages)
    (g.P.Pages.view c.send_below.new.space.pages) (g.P.Pages.under c.args.space.now.pages)
    (g.P.Pages.under c.loop-child.space.pages) c.args.space.now.superblock c.loop-child.space.superblock c.args.level
    (c.args.level - 1) c.args.page c.child_of-under.result c.loop-child.child c.args.top c.leaf-part.result c.read_page.new.bytes
    (span_at c.read_page.new.spans)
    c.loop-child.invariant.0.sends c.loop-child.invariant.1 c.loop-child.invariant.2 is some c.loop-child-test.true c.child_of-under.ensures
    c.leaf-part.ensures.span c.in_ok-read_page.ensures.bytes split c.in_err-send_below.ensures.cause))

pub returns-in_err-send_below-clause-part : goal.returns-in_err-send_below-clause-part
returns-in_err-send_below-clause-part g t c = λ list told slots tree top.
    let is : c.args.level ≡ suc (c.args.level - 1) = omega (arith, c.if-level-eq0.false) in
    let some = is_there c.args.page c.args.top c.in-Some.span (c.requires.matched (omega (arith, is))) c.in-Some.is in
    let fit : g.P.Pages.told c.args.space.now.pages
    → IsFitPage c.args.space.now.superblock.total c.args.level c.args.top ((g.P.Pages.view c.args.space.now.pages).image c.args.page) =
    λ t. fits_read (g.P.Pages.view c.args.space.now.pages).image c.args.space.now.superblock.total c.args.level c.args.page c.args.top
    c.in-Some.span c.read_page.new.bytes (span_at c.read_page.new.spans) c.in-Some.is
    (c.in_ok-read_page.ensures.bytes t) c.in_ok-read_page.ensures.sound c.in_ok-read_page.ensures.below in
    stops_by (is_said_in (g.T.Texts.may_be_said c.args.texts.now) c.args.slots) c.from_residual-in_err-send_below.result
    c.in_err-send_below.field-0.0 (g.P.Pages.told c.args.space.now.pages) (g.P.Pages.told c.loop-child.space.pages)
    (g.P.Pages.view c.args.space.now.pages) (g.P.Pages.view c.loop-child.space.pages) (g.P.Pages.view c.send_below.new.space.pages)
    (g.P.Pages.under c.args.space.now.pages) (g.P.Pages.under c.loop-child.space.pages) c.args.space.now.superblock
    c.loop-child.space.superblock (first_said c.args.slots (g.T.Texts.text c.args.texts.now)) c.args.level
    (c.args.level - 1) c.args.index c.args.page c.child_of-under.result c.loop-child.child c.args.top c.leaf-part.result
    c.read_page.new.bytes (span_at c.read_page.new.spans) c.args.out.now.items c.loop-child.out.items c.send_below.new.out.items list
    c.from_residual-in_err-send_below.ensures.1
    c.loop-child.invariant.0 is some c.loop-child-test.true c.child_of-under.ensures c.leaf-part.ensures.span
    c.in_ok-read_page.ensures.bytes fit
    (c.in_ok-read_page.ensures.tops list (c.args.level - 1) c.args.index told is slots
    (nodes_fit (g.P.Pages.view c.args.space.now.pages).image c.args.space.now.superblock.total list c.args.level
    (c.args.level - 1) c.args.index c.args.page c.args.top is some top (fit told) tree) (sym c.in-Some.is ∙ top)) told slots tree top
    (said_here (g.T.Texts.may_be_said c.args.texts.now) c.args.slots list c.args.level c.args.index c.in-Some.span (sym c.in-Some.is
    ∙ top) (sym c.may_say.ensures.may ∙ c.if-not-may_say.false))
    c.in_err-send_below.ensures.part

pub returns-in_err-send_below-clause-no_damage : goal.returns-in_err-send_below-clause-no_damage
returns-in_err-send_below-clause-no_damage g t c = λ list told slots tree top.
    let is : c.args.level ≡ suc (c.args.level - 1) = omega (arith, c.if-level-eq0.false) in
    let some = is_there c.args.page c.args.top c.in-Some.span (c.requires.matched (omega (arith, is))) c.in-Some.is in
    let way = c.loop-child.invariant.0 in
    let tops = c.in_ok-read_page.ensures.tops list (c.args.level - 1) c.args.index told is slots
    (nodes_of (g.P.Pages.view c.args.space.now.pages).image c.args.space.now.superblock.total list c.args.level
    (c.args.level - 1) c.args.index c.args.page is some tree) (sym c.in-Some.is ∙ top) in
    let stands = child_stands (g.P.Pages.view c.args.space.now.pages).image
    (g.P.Pages.view c.loop-child.space.pages).image c.args.space.now.superblock.total c.loop-child.space.superblock.total list
    c.args.level (c.args.level - 1) c.args.index c.args.page c.child_of-under.result c.loop-child.child c.leaf-part.result
    c.read_page.new.bytes (span_at c.read_page.new.spans)
    (way.sends.image told) (ap (λ (x : Superblock). x.total) way.sends.superblock) is some c.loop-child-test.true c.child_of-under.ensures
    c.leaf-part.ensures.span (c.in_ok-read_page.ensures.bytes told) tops tree in
    error_so _ IsNoDamage c.from_residual-in_err-send_below.result c.from_residual-in_err-send_below.ensures.1
    (λ e same. subst IsNoDamage (sym same) (c.in_err-send_below.ensures.no_damage list
    (way.sends.told told) slots stands.tree stands.top_is))

pub loop-child-preserved : goal.loop-child-preserved
loop-child-preserved g t c =
    let is : c.args.level ≡ suc (c.args.level - 1) = omega (arith, c.if-level-eq0.false) in
    let some = is_there c.args.page c.args.top c.in-Some.span (c.requires.matched (omega (arith, is))) c.in-Some.is in
    let fit : g.P.Pages.told c.args.space.now.pages
    → IsFitPage c.args.space.now.superblock.total c.args.level c.args.top ((g.P.Pages.view c.args.space.now.pages).image c.args.page) =
    λ t. fits_read (g.P.Pages.view c.args.space.now.pages).image c.args.space.now.superblock.total c.args.level c.args.page c.args.top
    c.in-Some.span c.read_page.new.bytes (span_at c.read_page.new.spans) c.in-Some.is
    (c.in_ok-read_page.ensures.bytes t) c.in_ok-read_page.ensures.sound c.in_ok-read_page.ensures.below in (
      send_on (is_said_in (g.T.Texts.may_be_said c.args.texts.now) c.args.slots) (g.P.Pages.told c.args.space.now.pages)
          (g.P.Pages.told c.loop-child.space.pages) (g.P.Pages.told c.send_below.new.space.pages) (g.P.Pages.view c.args.space.now.pages)
          (g.P.Pages.view c.loop-child.space.pages) (g.P.Pages.view c.send_below.new.space.pages) (g.P.Pages.under c.args.space.now.pages)
          (g.P.Pages.under c.loop-child.space.pages)
          (g.P.Pages.under c.send_below.new.space.pages) c.args.space.now.superblock c.loop-child.space.superblock
          c.send_below.new.space.superblock (first_said c.args.slots (g.T.Texts.text c.args.texts.now)) c.args.level
          (c.args.level - 1) c.args.index c.args.page c.child_of-under.result c.loop-child.child c.args.top c.leaf-part.result
          c.read_page.new.bytes (span_at c.read_page.new.spans) c.args.out.now.items c.loop-child.out.items c.send_below.new.out.items
          c.loop-child.invariant.0 is some c.loop-child-test.true c.child_of-under.ensures c.leaf-part.ensures.span
          c.in_ok-read_page.ensures.bytes fit
          (λ list told slots tree top. (c.in_ok-read_page.ensures.tops list (c.args.level - 1) c.args.index told is slots
          (nodes_fit (g.P.Pages.view c.args.space.now.pages).image c.args.space.now.superblock.total list c.args.level
          (c.args.level - 1) c.args.index c.args.page c.args.top is some top (fit told) tree) (sym c.in-Some.is ∙ top)))
          c.send_below.ensures.sends c.in_ok-send_below.ensures.few c.in_ok-send_below.ensures.part,
      c.in_ok-send_below.ensures.quiet ∙ c.loop-child.invariant.1,
      c.in_ok-send_below.ensures.quiet_sends (λ is. cc) ∙ c.loop-child.invariant.2,
    )

pub returns-clause-part : goal.returns-clause-part
returns-clause-part g t c = λ list told slots tree top.
    let is : c.args.level ≡ suc (c.args.level - 1) = omega (arith, c.if-level-eq0.false) in
    let end : c.loop-child.child ≡ 128 = omega (arith, c.loop-child-test.false, c.loop-child.auto.child-end) in
    send_end (is_said_in (g.T.Texts.may_be_said c.args.texts.now) c.args.slots) (g.P.Pages.told c.args.space.now.pages)
    (g.P.Pages.told c.loop-child.space.pages) (g.P.Pages.view c.args.space.now.pages) (g.P.Pages.view c.loop-child.space.pages)
    (g.P.Pages.under c.args.space.now.pages) (g.P.Pages.under c.loop-child.space.pages) c.args.space.now.superblock
    c.loop-child.space.superblock (first_said c.args.slots (g.T.Texts.text c.args.texts.now)) c.args.level
    (c.args.level - 1) c.args.index c.args.page c.loop-child.child c.args.top c.args.out.now.items c.loop-child.out.items list
    c.loop-child.invariant.0 is end told slots tree top
    (said_here (g.T.Texts.may_be_said c.args.texts.now) c.args.slots list c.args.level c.args.index c.in-Some.span (sym c.in-Some.is
    ∙ top) (sym c.may_say.ensures.may ∙ c.if-not-may_say.false))

pub returns-in_err-read_page-clause-quiet_err : goal.returns-in_err-read_page-clause-quiet_err
returns-in_err-read_page-clause-quiet_err g t c =
    error_so _ _ c.from_residual.result c.from_residual.ensures.1
    (λ e same other. c.in_err-read_page.ensures.quiet_err (λ is. other (same ∙ ap send_error_of is)))

pub returns-in_err-send_below-clause-quiet_err : goal.returns-in_err-send_below-clause-quiet_err
returns-in_err-send_below-clause-quiet_err g t c =
    error_so _ _ c.from_residual-in_err-send_below.result c.from_residual-in_err-send_below.ensures.1
    (λ e same other. c.in_err-send_below.ensures.quiet_err (λ is. other (same ∙ is)) ∙ c.loop-child.invariant.1)

pub returns-clause-quiet : goal.returns-clause-quiet
returns-clause-quiet g t c = c.loop-child.invariant.1

pub returns-in_err-read_page-clause-quiet_sends : goal.returns-in_err-read_page-clause-quiet_sends
returns-in_err-read_page-clause-quiet_sends g t c = λ other. ap (λ (b : Beside). b.send_faults) c.read_page.ensures.looks.kept.beside

pub returns-in_err-send_below-clause-quiet_sends : goal.returns-in_err-send_below-clause-quiet_sends
returns-in_err-send_below-clause-quiet_sends g t c = λ other.
    c.in_err-send_below.ensures.quiet_sends (λ is. other
    (error_is c.from_residual-in_err-send_below.result c.in_err-send_below.field-0.0 c.from_residual-in_err-send_below.ensures.1 ∙ is))
    ∙ c.loop-child.invariant.2

pub returns-clause-quiet_sends : goal.returns-clause-quiet_sends
returns-clause-quiet_sends g t c = λ other. c.loop-child.invariant.2

pub returns-in_default-clause-sends : goal.returns-in_default-clause-sends
returns-in_default-clause-sends g t c = sends_none _ _ _ _

pub returns-then-not-may_say-clause-sends : goal.returns-then-not-may_say-clause-sends
returns-then-not-may_say-clause-sends g t c = sends_none _ _ _ _

pub returns-in_err-read_page-clause-sends : goal.returns-in_err-read_page-clause-sends
returns-in_err-read_page-clause-sends g t c = sends_looks _ _ _ _ _ _ _ _ c.read_page.ensures.looks

pub returns-then-level-eq0-clause-sends : goal.returns-then-level-eq0-clause-sends
returns-then-level-eq0-clause-sends g t c = c.send_value.ensures.sends

pub returns-then-level-eq0-clause-quiet_sends : goal.returns-then-level-eq0-clause-quiet_sends
returns-then-level-eq0-clause-quiet_sends g t c = c.send_value.ensures.quiet_sends

pub returns-clause-sends : goal.returns-clause-sends
returns-clause-sends g t c = c.loop-child.invariant.0.sends

pub returns-clause-few : goal.returns-clause-few
returns-clause-few g t c = c.loop-child.invariant.0.few

-- what is sent before a damaged page
pub returns-then-level-eq0-clause-cut : goal.returns-then-level-eq0-clause-cut
returns-then-level-eq0-clause-cut g t c = λ list told slots tree top.
    text_cut_by c.send_value.result (HasUnfitFrom (g.P.Pages.view c.args.space.now.pages).image c.args.space.now.superblock.total
    c.args.level c.args.index c.args.page c.args.top) (said (first_said c.args.slots (g.T.Texts.text c.args.texts.now)) list)
    (first_slot (top_of_page c.args.level c.args.index)) (g.P.Pages.view c.args.space.now.pages).beside.sent
    (g.P.Pages.view c.send_value.new.space.pages).beside.sent c.args.out.now.items c.send_value.new.out.items
    (g.P.Pages.view c.args.space.now.pages) (g.P.Pages.view c.send_value.new.space.pages) c.send_value.ensures.cause

pub returns-in_err-read_page-clause-cut : goal.returns-in_err-read_page-clause-cut
returns-in_err-read_page-clause-cut g t c = λ list told slots tree top.
    let is : c.args.level ≡ suc (c.args.level - 1) = omega (arith, c.if-level-eq0.false) in
    let some = is_there c.args.page c.args.top c.in-Some.span (c.requires.matched (omega (arith, is))) c.in-Some.is in
    let new = g.P.Pages.view c.read_page.new.space.pages in
    let P : Option Span → Type 0 = λ s. IsCut (send_error_of c.in_err-read_page.field-0.0)
    (HasUnfitFrom (g.P.Pages.view c.args.space.now.pages).image c.args.space.now.superblock.total c.args.level c.args.index c.args.page
    s) (said (first_said c.args.slots (g.T.Texts.text c.args.texts.now)) list) (first_slot (top_of_page c.args.level c.args.index))
    (g.P.Pages.view c.args.space.now.pages).beside.sent new.beside.sent c.args.out.now.items c.args.out.now.items in
    let U : SendError → Type 0 = λ e. IsCut e (HasUnfitFrom
    (g.P.Pages.view c.args.space.now.pages).image c.args.space.now.superblock.total c.args.level c.args.index c.args.page c.args.top)
    (said (first_said c.args.slots (g.T.Texts.text c.args.texts.now)) list) (first_slot (top_of_page c.args.level c.args.index))
    (g.P.Pages.view c.args.space.now.pages).beside.sent new.beside.sent c.args.out.now.items c.args.out.now.items in
    error_so _ U c.from_residual.result c.from_residual.ensures.1
    (λ e same. subst U (sym same) (subst P (sym c.in-Some.is)
    (page_cut c.in_err-read_page.field-0.0 (g.P.Pages.told c.args.space.now.pages)
    (g.P.Pages.view c.args.space.now.pages) new c.args.space.now.superblock.total c.args.level
    (c.args.level - 1) c.args.index c.args.page (Some c.in-Some.span)
    (said (first_said c.args.slots (g.T.Texts.text c.args.texts.now)) list) c.args.out.now.items told is some
    c.in_err-read_page.ensures.cause c.read_page.ensures.looks.kept.beside)))

pub returns-in_err-send_below-clause-cut : goal.returns-in_err-send_below-clause-cut
returns-in_err-send_below-clause-cut g t c = λ list told slots tree top.
    let is : c.args.level ≡ suc (c.args.level - 1) = omega (arith, c.if-level-eq0.false) in
    let some = is_there c.args.page c.args.top c.in-Some.span (c.requires.matched (omega (arith, is))) c.in-Some.is in
    let A : Option Span → Type 0 = λ s. AreBelow s c.read_page.new.bytes (span_at c.read_page.new.spans) in
    let split : A c.args.top = subst A (sym c.in-Some.is) c.in_ok-read_page.ensures.below in
    let fit : g.P.Pages.told c.args.space.now.pages
    → IsFitPage c.args.space.now.superblock.total c.args.level c.args.top ((g.P.Pages.view c.args.space.now.pages).image c.args.page) =
    λ t. fits_read (g.P.Pages.view c.args.space.now.pages).image c.args.space.now.superblock.total c.args.level c.args.page c.args.top
    c.in-Some.span c.read_page.new.bytes (span_at c.read_page.new.spans) c.in-Some.is
    (c.in_ok-read_page.ensures.bytes t) c.in_ok-read_page.ensures.sound c.in_ok-read_page.ensures.below in
    let U : SendError → Type 0 = λ e. IsCut e (HasUnfitFrom
    (g.P.Pages.view c.args.space.now.pages).image c.args.space.now.superblock.total c.args.level c.args.index c.args.page c.args.top)
    (said (first_said c.args.slots (g.T.Texts.text c.args.texts.now)) list) (first_slot (top_of_page c.args.level c.args.index))
    (g.P.Pages.view c.args.space.now.pages).beside.sent
    (g.P.Pages.view c.send_below.new.space.pages).beside.sent c.args.out.now.items c.send_below.new.out.items in
    error_so _ U c.from_residual-in_err-send_below.result c.from_residual-in_err-send_below.ensures.1
    (λ e same. subst U (sym same) (child_cut (is_said_in (g.T.Texts.may_be_said c.args.texts.now) c.args.slots)
    c.in_err-send_below.field-0.0 (g.P.Pages.told c.args.space.now.pages) (g.P.Pages.told c.loop-child.space.pages)
    (g.P.Pages.view c.args.space.now.pages) (g.P.Pages.view c.loop-child.space.pages) (g.P.Pages.view c.send_below.new.space.pages)
    (g.P.Pages.under c.args.space.now.pages) (g.P.Pages.under c.loop-child.space.pages) c.args.space.now.superblock
    c.loop-child.space.superblock (first_said c.args.slots (g.T.Texts.text c.args.texts.now)) c.args.level
    (c.args.level - 1) c.args.index c.args.page c.child_of-under.result c.loop-child.child c.args.top c.leaf-part.result
    c.read_page.new.bytes (span_at c.read_page.new.spans) c.args.out.now.items c.loop-child.out.items c.send_below.new.out.items list
    c.loop-child.invariant.0 is some c.loop-child-test.true c.child_of-under.ensures c.leaf-part.ensures.span
    c.in_ok-read_page.ensures.bytes split fit
    (c.in_ok-read_page.ensures.tops list (c.args.level - 1) c.args.index told is slots
    (nodes_fit (g.P.Pages.view c.args.space.now.pages).image c.args.space.now.superblock.total list c.args.level
    (c.args.level - 1) c.args.index c.args.page c.args.top is some top (fit told) tree) (sym c.in-Some.is ∙ top)) told slots tree top
    c.in_err-send_below.ensures.cut))

pub overflow_mul-at : goal.overflow_mul-at
overflow_mul-at g t c = omega (arith, near_index c.args.level c.args.index c.requires.range)

pub overflow_add-at : goal.overflow_add-at
overflow_add-at g t c = omega (arith, near_index c.args.level c.args.index c.requires.range, c.loop-child-test.true)
