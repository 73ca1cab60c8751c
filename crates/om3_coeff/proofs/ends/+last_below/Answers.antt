use Rattle.std.proofs.Common.{rules, arith, ℕ, ℤ, ◌≤◌, ◌+◌, ◌∙◌, subst, refl, inr}
use Rattle.std.proofs.lemmas.Result.{IfOk-weaker, IfErr-weaker}
use Rattle.std.specs.Prelude.{Option, IfSome, IfNone, IsSome, max, min}
use Rattle.om3_coeff.specs.declared.key.Key.{Key}
use Rattle.om3_coeff.specs.declared.span.Span.{Span}
use Rattle.om3_coeff.specs.Keys.{first_slot, end_slot, left_of, right_of}
use Rattle.om3_coeff.specs.View.{Agrees, HasCause, StaysSame}
use Rattle.om3_coeff.specs.Walks.{IsLastStored, IsReached, IsSlotIn, StaysBelow, most_cut}
use Rattle.om3_coeff.proofs.WalkLemmas.{key_small, go_to, ask_at, ask_right, after_right, still_agrees, both_below_back_at, left_follows_at}
use Rattle.om3_coeff.proofs.CauseLemmas.{passed_on, later_cause}
use Rattle.om3_coeff.proofs.EndLemmas.{are_halves, ok_both, clear_none, clear_outside, not_within, is_here, last_here, slot_here}
use Rattle.om3_coeff.proofs.EndLemmas.{last_in_right, slot_in_right, slots_in_left, last_after_right, found_left, if_none, reads_right}
use Rattle.om3_coeff.proofs.EndLemmas.{reads_then_left, none_reads_back}
use Rattle.om3_coeff.proofs.ends.+last_below.Goals as goal

pub returns-in_default-clause-list : goal.returns-in_default-clause-list
returns-in_default-clause-list g t c = λ list agrees.
    clear_none (g.N.Nodes.view c.args.nodes.now) list c.args.key c.args.span c.args.a c.args.b agrees c.requires.reached c.in_default.is

pub place_of-requires : goal.place_of-requires
place_of-requires g t c = key_small (g.N.Nodes.view c.args.nodes.now).slots c.args.key c.requires.reached.key

pub left-requires-clause-fits : goal.left-requires-clause-fits
left-requires-clause-fits g t c = key_small (g.N.Nodes.view c.args.nodes.now).slots c.args.key c.requires.reached.key

pub right-requires-clause-fits : goal.right-requires-clause-fits
right-requires-clause-fits g t c = key_small (g.N.Nodes.view c.args.nodes.now).slots c.args.key c.requires.reached.key

pub returns-then-key-eq0-clause-list : goal.returns-then-key-eq0-clause-list
returns-then-key-eq0-clause-list g t c = λ list agrees.
    last_here (g.N.Nodes.view c.args.nodes.now) list c.args.key c.args.span c.in-Some.span c.args.a c.args.b agrees c.requires.reached
    c.in-Some.is (omega (arith, c.if-key-eq0.true))
    (is_here c.args.a c.args.b c.args.key c.place_of.result
    (omega (arith, c.if-key-eq0.true)) c.in_default-place_of.not-Outside c.place_of.ensures)

pub returns-then-key-eq0-clause-slot : goal.returns-then-key-eq0-clause-slot
returns-then-key-eq0-clause-slot g t c =
    slot_here (g.N.Nodes.view c.args.nodes.now) c.args.key c.args.span c.in-Some.span c.args.a c.args.b c.requires.reached c.in-Some.is
    (is_here c.args.a c.args.b c.args.key c.place_of.result
    (omega (arith, c.if-key-eq0.true)) c.in_default-place_of.not-Outside c.place_of.ensures)

pub returns-in_err-found-clause-reads : goal.returns-in_err-found-clause-reads
returns-in_err-found-clause-reads g t c =
    reads_right c.args.a c.args.b c.args.key (left_of c.args.key) c.right.result c.place_of.result _ _ _
    (omega (arith, c.if-key-eq0.false)) c.in_default-place_of.not-Outside c.place_of.ensures refl c.right.ensures
    (c.in_ok-left.ensures.one_read c.requires.follows) c.in_err-found.ensures.reads

pub returns-in-Some-2-clause-list : goal.returns-in-Some-2-clause-list
returns-in-Some-2-clause-list g t c = λ list agrees.
    let same : StaysSame (g.N.Nodes.view c.args.nodes.now)
    (g.N.Nodes.view c.ask.new.nodes) = g.met.N.Nodes.keeps_same c.args.nodes.now c.ask.new.nodes c.in_ok-left.ensures.kept in
    let P : Option (ℕ × ℤ) → Type 0 = λ found. IsLastStored list (max c.args.a (first_slot c.right.result))
    (min c.args.b (end_slot c.right.result)) found in
    last_in_right list c.args.a c.args.b c.args.key (left_of c.args.key) c.right.result c.in-Some-2.found
    (are_halves c.args.key (left_of c.args.key) c.right.result (omega (arith, c.if-key-eq0.false)) refl c.right.ensures)
    (subst P c.in-Some-2.is (c.in_ok-found.ensures.list list
    (still_agrees (g.N.Nodes.view c.args.nodes.now) (g.N.Nodes.view c.ask.new.nodes) list same agrees)))

pub returns-in-Some-2-clause-slot : goal.returns-in-Some-2-clause-slot
returns-in-Some-2-clause-slot g t c =
    let P : Option (ℕ × ℤ) → Type 0 = λ found. IfSome found
    (IsSlotIn (max c.args.a (first_slot c.right.result)) (min c.args.b (end_slot c.right.result))) in
    slot_in_right c.args.a c.args.b c.args.key (left_of c.args.key) c.right.result c.in-Some-2.found
    (are_halves c.args.key (left_of c.args.key) c.right.result (omega (arith, c.if-key-eq0.false)) refl c.right.ensures)
    (subst P c.in-Some-2.is c.in_ok-found.ensures.slot)

pub returns-in-Some-2-clause-below : goal.returns-in-Some-2-clause-below
returns-in-Some-2-clause-below g t c =
    let P : Key → Type 0 = λ half. StaysBelow half (g.N.Nodes.view c.ask.new.nodes).asked (g.N.Nodes.view c.last_below.new.nodes).asked in
    inr (after_right c.args.key (g.N.Nodes.view c.ask.new.nodes).asked (g.N.Nodes.view c.last_below.new.nodes).asked
    (omega (arith, c.if-key-eq0.false)) c.in_ok-left.ensures.asked (subst P c.right.ensures c.in_ok-found.ensures.below))

pub returns-in-Some-2-clause-reads : goal.returns-in-Some-2-clause-reads
returns-in-Some-2-clause-reads g t c =
    reads_right c.args.a c.args.b c.args.key (left_of c.args.key) c.right.result c.place_of.result _ _ _
    (omega (arith, c.if-key-eq0.false)) c.in_default-place_of.not-Outside c.place_of.ensures refl c.right.ensures
    (c.in_ok-left.ensures.one_read c.requires.follows) c.in_ok-found.ensures.reads

pub returns-in-None-clause-list : goal.returns-in-None-clause-list
returns-in-None-clause-list g t c = λ list agrees.
    let same : StaysSame (g.N.Nodes.view c.args.nodes.now)
    (g.N.Nodes.view c.ask.new.nodes) = g.met.N.Nodes.keeps_same c.args.nodes.now c.ask.new.nodes c.in_ok-left.ensures.kept in
    let walked : StaysSame (g.N.Nodes.view c.ask.new.nodes)
    (g.N.Nodes.view c.last_below.new.nodes) = g.met.N.Nodes.keeps_same c.ask.new.nodes c.last_below.new.nodes c.in_ok-found.ensures.kept
    in
    let then : Agrees (g.N.Nodes.view c.ask.new.nodes) list = still_agrees (g.N.Nodes.view c.args.nodes.now)
    (g.N.Nodes.view c.ask.new.nodes) list same agrees in
    let later : Agrees (g.N.Nodes.view c.last_below.new.nodes) list = still_agrees (g.N.Nodes.view c.ask.new.nodes)
    (g.N.Nodes.view c.last_below.new.nodes) list walked then in
    let P : Option (ℕ × ℤ) → Type 0 = λ found. IsLastStored list (max c.args.a (first_slot c.right.result))
    (min c.args.b (end_slot c.right.result)) found in
    IfOk-weaker c.last_below-in-None.result
    (IsLastStored list (max c.args.a (first_slot c.left.result)) (min c.args.b (end_slot c.left.result)))
    (IsLastStored list (max c.args.a (first_slot c.args.key)) (min c.args.b (end_slot c.args.key)))
    (λ found. last_after_right list c.args.a c.args.b c.args.key c.left.result c.right.result found
    (are_halves c.args.key c.left.result c.right.result (omega (arith, c.if-key-eq0.false)) c.left.ensures c.right.ensures)
    (subst P c.in-None.is (c.in_ok-found.ensures.list list then)))
    (c.last_below-in-None.ensures.list list later)

pub returns-in-None-clause-slot : goal.returns-in-None-clause-slot
returns-in-None-clause-slot g t c =
    IfOk-weaker c.last_below-in-None.result
    (λ found. IfSome found (IsSlotIn (max c.args.a (first_slot c.left.result)) (min c.args.b (end_slot c.left.result))))
    (λ found. IfSome found (IsSlotIn (max c.args.a (first_slot c.args.key)) (min c.args.b (end_slot c.args.key))))
    (λ found. slots_in_left c.args.a c.args.b c.args.key c.left.result c.right.result found
    (are_halves c.args.key c.left.result c.right.result (omega (arith, c.if-key-eq0.false)) c.left.ensures c.right.ensures))
    c.last_below-in-None.ensures.slot

pub returns-in-None-clause-below : goal.returns-in-None-clause-below
returns-in-None-clause-below g t c =
    IfOk-weaker c.last_below-in-None.result
    (λ found. StaysBelow c.left.result (g.N.Nodes.view c.last_below.new.nodes).asked (g.N.Nodes.view c.last_below-in-None.new.nodes).asked)
    (λ found. StaysBelow c.args.key (g.N.Nodes.view c.args.nodes.now).asked (g.N.Nodes.view c.last_below-in-None.new.nodes).asked)
    (λ found. both_below_back_at c.args.key c.left.result c.right.result (g.N.Nodes.view c.args.nodes.now).asked
    (g.N.Nodes.view c.ask.new.nodes).asked (g.N.Nodes.view c.last_below.new.nodes).asked
    (g.N.Nodes.view c.last_below-in-None.new.nodes).asked (omega (arith, c.if-key-eq0.false)) c.left.ensures c.right.ensures
    c.in_ok-left.ensures.asked c.in_ok-found.ensures.below)
    c.last_below-in-None.ensures.below

pub returns-in-None-clause-reads : goal.returns-in-None-clause-reads
returns-in-None-clause-reads g t c =
    reads_then_left c.args.a c.args.b c.args.key c.left.result c.right.result c.place_of.result _ _ _ _
    (omega (arith, c.if-key-eq0.false)) c.in_default-place_of.not-Outside c.place_of.ensures c.left.ensures c.right.ensures
    (c.in_ok-left.ensures.one_read c.requires.follows)
    (if_none c.in_ok-found.field-0 c.in-None.is c.in_ok-found.ensures.none) c.last_below-in-None.ensures.reads

pub returns-in-None-clause-some : goal.returns-in-None-clause-some
returns-in-None-clause-some g t c =
    IfOk-weaker c.last_below-in-None.result
    (λ found. IsSome c.in_ok-left.left → c.args.a ≤ first_slot c.left.result → end_slot c.left.result ≤ c.args.b → IsSome found)
    (λ found. IsSome c.args.span → c.args.a ≤ first_slot c.args.key → end_slot c.args.key ≤ c.args.b → IsSome found)
    (λ found in_second some.
    found_left c.args.a c.args.b c.args.key c.left.result c.right.result c.in_ok-left.left c.in_ok-left.right c.in-Some.span
    c.in_ok-found.field-0 found
    (are_halves c.args.key c.left.result c.right.result (omega (arith, c.if-key-eq0.false)) c.left.ensures c.right.ensures)
    c.in_ok-left.ensures.whole c.in-None.is c.in_ok-found.ensures.some in_second)
    c.last_below-in-None.ensures.some

pub returns-in-None-clause-none : goal.returns-in-None-clause-none
returns-in-None-clause-none g t c =
    ok_both c.last_below-in-None.result
    (λ found. IsSome c.in_ok-left.left → c.args.a ≤ first_slot c.left.result → end_slot c.left.result ≤ c.args.b → IsSome found)
    (λ found. IfNone found ((g.N.Nodes.view c.last_below-in-None.new.nodes).reads ≤ (g.N.Nodes.view c.last_below.new.nodes).reads + most_cut
    c.args.a c.args.b c.left.result))
    (λ found. IfNone found ((g.N.Nodes.view c.last_below-in-None.new.nodes).reads ≤ (g.N.Nodes.view c.args.nodes.now).reads + most_cut
    c.args.a c.args.b c.args.key))
    (λ found in_second below.
    none_reads_back c.args.a c.args.b c.args.key c.left.result c.right.result c.place_of.result found _ _ _ _
    c.in_default-place_of.not-Outside c.place_of.ensures c.left.ensures c.right.ensures
    (c.in_ok-left.ensures.one_read c.requires.follows) (if_none c.in_ok-found.field-0 c.in-None.is c.in_ok-found.ensures.none)
    (found_left c.args.a c.args.b c.args.key c.left.result c.right.result c.in_ok-left.left c.in_ok-left.right c.in-Some.span
    c.in_ok-found.field-0 found
    (are_halves c.args.key c.left.result c.right.result (omega (arith, c.if-key-eq0.false)) c.left.ensures c.right.ensures)
    c.in_ok-left.ensures.whole c.in-None.is c.in_ok-found.ensures.some in_second)
    below)
    c.last_below-in-None.ensures.some c.last_below-in-None.ensures.none

pub last_below-requires : goal.last_below-requires
last_below-requires g t c κs within =
    let low : 1 ≤ c.args.key.level = omega (arith, c.if-key-eq0.false) in
    let same : StaysSame (g.N.Nodes.view c.args.nodes.now)
    (g.N.Nodes.view c.ask.new.nodes) = g.met.N.Nodes.keeps_same c.args.nodes.now c.ask.new.nodes c.in_ok-left.ensures.kept in (
      search rules,
      (
        search rules,
        (
          c.in_ok-left.ensures.fit,
          (
            go_to (g.N.Nodes.view c.args.nodes.now) (g.N.Nodes.view c.ask.new.nodes) c.right.result
                (right_of c.args.key) c.in_ok-left.right c.right.ensures same c.in_ok-left.ensures.right,
            ask_at (g.N.Nodes.view c.ask.new.nodes) c.right.result (right_of c.args.key) c.right.ensures
                (ask_right (g.N.Nodes.view c.ask.new.nodes) c.args.key low c.in_ok-left.ensures.asked),
          ),
        ),
      ),
    )

pub last_below-requires-in-None : goal.last_below-requires-in-None
last_below-requires-in-None g t c κs within =
    let low : 1 ≤ c.args.key.level = omega (arith, c.if-key-eq0.false) in
    let same : StaysSame (g.N.Nodes.view c.args.nodes.now) (g.N.Nodes.view c.last_below.new.nodes) =
    g.met.N.Nodes.keeps_same c.args.nodes.now c.last_below.new.nodes
    (g.met.N.Nodes.keeps_on c.args.nodes.now c.ask.new.nodes c.last_below.new.nodes c.in_ok-left.ensures.kept c.in_ok-found.ensures.kept) in (
      search rules,
      (
        search rules,
        (
          c.in_ok-found.ensures.fit,
          (
            go_to (g.N.Nodes.view c.args.nodes.now) (g.N.Nodes.view c.last_below.new.nodes) c.left.result
                (left_of c.args.key) c.in_ok-left.left c.left.ensures same c.in_ok-left.ensures.left,
            left_follows_at (g.N.Nodes.view c.last_below.new.nodes) c.args.key c.left.result c.right.result
                (g.N.Nodes.view c.ask.new.nodes).asked low c.left.ensures c.right.ensures c.in_ok-left.ensures.asked
                c.in_ok-found.ensures.below,
          ),
        ),
      ),
    )

pub returns-in_err-found-clause-kept : goal.returns-in_err-found-clause-kept
returns-in_err-found-clause-kept g t c = g.met.N.Nodes.keeps_on c.args.nodes.now c.ask.new.nodes c.last_below.new.nodes
    c.in_ok-left.ensures.kept c.in_err-found.ensures.kept

pub returns-in_err-found-clause-faults : goal.returns-in_err-found-clause-faults
returns-in_err-found-clause-faults g t c = omega (arith, c.in_ok-left.ensures.faults, c.in_err-found.ensures.faults)

pub returns-in_err-found-clause-cause : goal.returns-in_err-found-clause-cause
returns-in_err-found-clause-cause g t c =
    let same = g.met.N.Nodes.keeps_same c.args.nodes.now c.ask.new.nodes c.in_ok-left.ensures.kept in
    passed_on c.from_residual-in_err-found.result c.in_err-found.field-0.0
    (HasCause (g.N.Nodes.view c.args.nodes.now) (g.N.Nodes.view c.last_below.new.nodes)) c.from_residual-in_err-found.ensures.1
    (later_cause (g.N.Nodes.view c.args.nodes.now) (g.N.Nodes.view c.ask.new.nodes)
    (g.N.Nodes.view c.last_below.new.nodes) c.in_err-found.field-0.0 same c.in_ok-left.ensures.quiet c.in_err-found.ensures.cause)

pub returns-in-Some-2-clause-kept : goal.returns-in-Some-2-clause-kept
returns-in-Some-2-clause-kept g t c = g.met.N.Nodes.keeps_on c.args.nodes.now c.ask.new.nodes c.last_below.new.nodes
    c.in_ok-left.ensures.kept c.in_ok-found.ensures.kept

pub returns-in-Some-2-clause-faults : goal.returns-in-Some-2-clause-faults
returns-in-Some-2-clause-faults g t c = omega (arith, c.in_ok-left.ensures.faults, c.in_ok-found.ensures.faults)

pub returns-in-None-clause-kept : goal.returns-in-None-clause-kept
returns-in-None-clause-kept g t c =
    g.met.N.Nodes.keeps_on c.args.nodes.now c.last_below.new.nodes c.last_below-in-None.new.nodes
    (g.met.N.Nodes.keeps_on c.args.nodes.now c.ask.new.nodes c.last_below.new.nodes c.in_ok-left.ensures.kept c.in_ok-found.ensures.kept)
    c.last_below-in-None.ensures.kept

pub returns-in-None-clause-faults : goal.returns-in-None-clause-faults
returns-in-None-clause-faults g t c = omega (
  arith,
  c.in_ok-left.ensures.faults,
  c.in_ok-found.ensures.faults,
  c.last_below-in-None.ensures.faults,
)

pub returns-in-None-clause-cause : goal.returns-in-None-clause-cause
returns-in-None-clause-cause g t c =
    let same = g.met.N.Nodes.keeps_same c.args.nodes.now c.last_below.new.nodes
    (g.met.N.Nodes.keeps_on c.args.nodes.now c.ask.new.nodes c.last_below.new.nodes c.in_ok-left.ensures.kept c.in_ok-found.ensures.kept) in
    IfErr-weaker c.last_below-in-None.result (HasCause (g.N.Nodes.view c.last_below.new.nodes)
    (g.N.Nodes.view c.last_below-in-None.new.nodes))
    (HasCause (g.N.Nodes.view c.args.nodes.now) (g.N.Nodes.view c.last_below-in-None.new.nodes))
    (λ e. later_cause (g.N.Nodes.view c.args.nodes.now) (g.N.Nodes.view c.last_below.new.nodes)
    (g.N.Nodes.view c.last_below-in-None.new.nodes) e same (c.in_ok-found.ensures.quiet ∙ c.in_ok-left.ensures.quiet))
    c.last_below-in-None.ensures.cause

pub returns-in-Outside-clause-list : goal.returns-in-Outside-clause-list
returns-in-Outside-clause-list g t c = λ list agrees. clear_outside list c.args.a c.args.b c.args.key c.in-Outside.ensures

pub returns-in-Outside-clause-some : goal.returns-in-Outside-clause-some
returns-in-Outside-clause-some g t c = λ some from to. absurd (not_within c.args.a c.args.b c.args.key c.in-Outside.ensures from to)

pub ask-requires-clause-key : goal.ask-requires-clause-key
ask-requires-clause-key g t c = record {
  low = omega (arith, c.if-key-eq0.false);
  high = c.requires.reached.key.high;
  within = c.requires.reached.key.within;
}

pub ask-requires-clause-reached : goal.ask-requires-clause-reached
ask-requires-clause-reached g t c =
    let P : Option Span → Type 0 = λ span. IsReached (g.N.Nodes.view c.args.nodes.now) c.args.key span in
    subst P c.in-Some.is c.requires.reached

pub returns-in_err-left-clause-reads : goal.returns-in_err-left-clause-reads
returns-in_err-left-clause-reads g t c = omega (arith, c.in_err-left.ensures.one_read c.requires.follows, c.if-key-eq0.false)
