use Rattle.std.proofs.Common.{rules, arith, refl, ◌*◌, ◌≤◌, ◌∙◌, ap}
use Rattle.std.proofs.lemmas.Int.{ints}
use Rattle.std.proofs.lemmas.Result.{IfErr-weaker}
use Rattle.om3_coeff.specs.Keys.{left_of, right_of}
use Rattle.om3_coeff.specs.View.{Agrees, HasCause, StaysSame}
use Rattle.om3_coeff.proofs.WalkLemmas.{ask_at, ask_left, both_below_at, go_to, key_small, right_follows_at, still_agrees}
use Rattle.om3_coeff.proofs.CauseLemmas.{passed_on, later_cause}
use Rattle.om3_coeff.specs.Keys.{end_slot}
use Rattle.om3_coeff.specs.Walks.{StaysBelow}
use Rattle.derived_chart.specs.Slots.{AreReadBelow}
use Rattle.derived_chart.specs.Reads.{slots_in}
use Rattle.derived_chart.proofs.ReadLemmas.{slots_part, some_in, walk_both, walk_left, walk_once}
use Rattle.derived_chart.proofs.SlotLemmas.{read_missing, read_apart, slot_end, slot_first, read_here, here_values, read_left, read_middle}
use Rattle.derived_chart.proofs.SlotLemmas.{read_right, on_ok}
use Rattle.derived_chart.proofs.slots.+read_below.Goals as goal

pub returns-in_default-clause-list : goal.returns-in_default-clause-list
returns-in_default-clause-list g t c = λ list agrees read.
    read_missing (g.N.Nodes.view c.args.nodes.now) list c.args.key c.args.span c.args.base.now c.args.count c.args.slots.now c.in_default.is
    agrees c.requires.reached read

pub is_apart-requires-clause-small : goal.is_apart-requires-clause-small
is_apart-requires-clause-small g t c = key_small (g.N.Nodes.view c.args.nodes.now).slots c.args.key c.requires.reached.key

pub returns-then-is_apart-clause-list : goal.returns-then-is_apart-clause-list
returns-then-is_apart-clause-list g t c = λ list agrees read.
    read_apart list c.args.key c.args.base.now c.args.count c.args.slots.now (c.is_apart.ensures.yes c.if-is_apart.true) read

pub returns-then-key-eq0-clause-list : goal.returns-then-key-eq0-clause-list
returns-then-key-eq0-clause-list g t c = λ list agrees read.
    read_here (g.N.Nodes.view c.args.nodes.now) list c.args.key c.args.span c.in-Some.span c.args.base.now c.args.count c.args.slots.now
    c.put.new.slots c.in-Some.is
    (omega (arith, c.if-key-eq0.true)) (c.is_apart.ensures.no c.if-is_apart.false) c.put.ensures.put agrees c.requires.reached read

pub returns-then-key-eq0-clause-values : goal.returns-then-key-eq0-clause-values
returns-then-key-eq0-clause-values g t c = here_values
    (g.N.Nodes.view c.args.nodes.now) c.args.key c.args.span c.in-Some.span c.args.base.now c.args.slots.now c.put.new.slots c.in-Some.is
    c.requires.reached c.put.ensures.put

pub left-requires-clause-fits : goal.left-requires-clause-fits
left-requires-clause-fits g t c = key_small (g.N.Nodes.view c.args.nodes.now).slots c.args.key c.requires.reached.key

pub right-requires-clause-fits : goal.right-requires-clause-fits
right-requires-clause-fits g t c = key_small (g.N.Nodes.view c.args.nodes.now).slots c.args.key c.requires.reached.key

pub read_below-requires : goal.read_below-requires
read_below-requires g t c κs within =
    let same : StaysSame (g.N.Nodes.view c.args.nodes.now) (g.N.Nodes.view c.ask.new.nodes) =
    g.met.N.Nodes.keeps_same c.args.nodes.now c.ask.new.nodes c.in_ok-left.ensures.kept in (
      search rules,
      (
        search rules,
        (
          c.in_ok-left.ensures.fit,
          (
            go_to (g.N.Nodes.view c.args.nodes.now) (g.N.Nodes.view c.ask.new.nodes) c.left.result
                (left_of c.args.key) c.in_ok-left.left c.left.ensures same c.in_ok-left.ensures.left,
            (
              ask_at (g.N.Nodes.view c.ask.new.nodes) c.left.result (left_of c.args.key) c.left.ensures
                  (ask_left (g.N.Nodes.view c.ask.new.nodes) c.args.key (omega (arith, c.if-key-eq0.false)) c.in_ok-left.ensures.asked),
              (c.requires.some, (c.requires.few, (c.requires.base, c.requires.room))),
            ),
          ),
        ),
      ),
    )

pub read_below-requires-2 : goal.read_below-requires-2
read_below-requires-2 g t c κs within =
    let same : StaysSame (g.N.Nodes.view c.args.nodes.now) (g.N.Nodes.view c.read_below.new.nodes) =
    g.met.N.Nodes.keeps_same c.args.nodes.now c.read_below.new.nodes
    (g.met.N.Nodes.keeps_on c.args.nodes.now c.ask.new.nodes c.read_below.new.nodes c.in_ok-left.ensures.kept
    c.in_ok-read_below.ensures.kept) in (
      search rules,
      (
        search rules,
        (
          c.in_ok-read_below.ensures.fit,
          (
            go_to (g.N.Nodes.view c.args.nodes.now) (g.N.Nodes.view c.read_below.new.nodes) c.right.result
                (right_of c.args.key) c.in_ok-left.right c.right.ensures same c.in_ok-left.ensures.right,
            (
              right_follows_at (g.N.Nodes.view c.read_below.new.nodes) c.args.key c.left.result c.right.result
                  (g.N.Nodes.view c.ask.new.nodes).asked
                  (omega (arith, c.if-key-eq0.false)) c.left.ensures c.right.ensures c.in_ok-left.ensures.asked
                  c.in_ok-read_below.ensures.below,
              (c.requires.some, (c.requires.few, (c.requires.base, omega (arith, c.requires.room, c.in_ok-read_below.ensures.room)))),
            ),
          ),
        ),
      ),
    )

pub returns-clause-list : goal.returns-clause-list
returns-clause-list g t c = λ list agrees read.
    let low : 1 ≤ c.args.key.level = omega (arith, c.if-key-eq0.false) in
    let asked : StaysSame (g.N.Nodes.view c.args.nodes.now) (g.N.Nodes.view c.ask.new.nodes) =
    g.met.N.Nodes.keeps_same c.args.nodes.now c.ask.new.nodes c.in_ok-left.ensures.kept in
    let walked : StaysSame (g.N.Nodes.view c.ask.new.nodes) (g.N.Nodes.view c.read_below.new.nodes) =
    g.met.N.Nodes.keeps_same c.ask.new.nodes c.read_below.new.nodes c.in_ok-read_below.ensures.kept in
    let then : Agrees (g.N.Nodes.view c.ask.new.nodes) list =
    still_agrees (g.N.Nodes.view c.args.nodes.now) (g.N.Nodes.view c.ask.new.nodes) list asked agrees in
    let later : Agrees (g.N.Nodes.view c.read_below.new.nodes) list =
    still_agrees (g.N.Nodes.view c.ask.new.nodes) (g.N.Nodes.view c.read_below.new.nodes) list walked then in
    on_ok c.read_below-2.result (AreReadBelow list c.args.base.now c.args.count (end_slot c.right.result) c.read_below-2.new.slots)
    (AreReadBelow list c.args.base.now c.args.count (end_slot c.args.key) c.read_below-2.new.slots)
    (read_right list c.args.base.now c.args.count c.args.key c.right.result c.read_below-2.new.slots low c.right.ensures)
    (c.read_below-2.ensures.list list later
    (read_middle list c.args.base.now c.args.count c.args.key c.left.result c.right.result c.read_below.new.slots c.left.ensures
    c.right.ensures
    (c.in_ok-read_below.ensures.list list then
    (read_left list c.args.base.now c.args.count c.args.key c.left.result c.args.slots.now low c.left.ensures read))))

pub put-requires-clause-low : goal.put-requires-clause-low
put-requires-clause-low g t c = omega (
  arith,
  ints,
  slot_end c.args.key (omega (arith, c.if-key-eq0.true)),
  (c.is_apart.ensures.no c.if-is_apart.false).0,
)

pub put-requires-clause-high : goal.put-requires-clause-high
put-requires-clause-high g t c = omega (
  arith,
  ints,
  slot_first c.args.key (omega (arith, c.if-key-eq0.true)),
  (c.is_apart.ensures.no c.if-is_apart.false).1,
)

pub returns-in_err-read_below-clause-kept : goal.returns-in_err-read_below-clause-kept
returns-in_err-read_below-clause-kept g t c = g.met.N.Nodes.keeps_on c.args.nodes.now c.ask.new.nodes c.read_below.new.nodes
    c.in_ok-left.ensures.kept c.in_err-read_below.ensures.kept

pub returns-in_err-read_below-clause-faults : goal.returns-in_err-read_below-clause-faults
returns-in_err-read_below-clause-faults g t c = omega (arith, c.in_ok-left.ensures.faults, c.in_err-read_below.ensures.faults)

pub returns-in_err-read_below-clause-cause : goal.returns-in_err-read_below-clause-cause
returns-in_err-read_below-clause-cause g t c =
    let same = g.met.N.Nodes.keeps_same c.args.nodes.now c.ask.new.nodes c.in_ok-left.ensures.kept in
    passed_on c.from_residual-in_err-read_below.result c.in_err-read_below.field-0.0
    (HasCause (g.N.Nodes.view c.args.nodes.now) (g.N.Nodes.view c.read_below.new.nodes)) c.from_residual-in_err-read_below.ensures.1
    (later_cause (g.N.Nodes.view c.args.nodes.now) (g.N.Nodes.view c.ask.new.nodes)
    (g.N.Nodes.view c.read_below.new.nodes) c.in_err-read_below.field-0.0 same c.in_ok-left.ensures.quiet
    c.in_err-read_below.ensures.cause)

pub returns-clause-values : goal.returns-clause-values
returns-clause-values g t c = λ has. c.read_below-2.ensures.values (c.in_ok-read_below.ensures.values has)

pub returns-clause-room : goal.returns-clause-room
returns-clause-room g t c = c.read_below-2.ensures.room ∙ c.in_ok-read_below.ensures.room

pub returns-clause-kept : goal.returns-clause-kept
returns-clause-kept g t c =
    g.met.N.Nodes.keeps_on c.args.nodes.now c.read_below.new.nodes c.read_below-2.new.nodes
    (g.met.N.Nodes.keeps_on c.args.nodes.now c.ask.new.nodes c.read_below.new.nodes c.in_ok-left.ensures.kept
    c.in_ok-read_below.ensures.kept) c.read_below-2.ensures.kept

pub returns-clause-faults : goal.returns-clause-faults
returns-clause-faults g t c = omega (arith, c.in_ok-left.ensures.faults, c.in_ok-read_below.ensures.faults, c.read_below-2.ensures.faults)

pub returns-clause-cause : goal.returns-clause-cause
returns-clause-cause g t c =
    let same = g.met.N.Nodes.keeps_same c.args.nodes.now c.read_below.new.nodes
    (g.met.N.Nodes.keeps_on c.args.nodes.now c.ask.new.nodes c.read_below.new.nodes c.in_ok-left.ensures.kept
    c.in_ok-read_below.ensures.kept) in
    IfErr-weaker c.read_below-2.result (HasCause (g.N.Nodes.view c.read_below.new.nodes) (g.N.Nodes.view c.read_below-2.new.nodes))
    (HasCause (g.N.Nodes.view c.args.nodes.now) (g.N.Nodes.view c.read_below-2.new.nodes))
    (λ e. later_cause (g.N.Nodes.view c.args.nodes.now) (g.N.Nodes.view c.read_below.new.nodes)
    (g.N.Nodes.view c.read_below-2.new.nodes) e same (c.in_ok-read_below.ensures.quiet ∙ c.in_ok-left.ensures.quiet))
    c.read_below-2.ensures.cause

pub returns-clause-below : goal.returns-clause-below
returns-clause-below g t c =
    on_ok c.read_below-2.result (StaysBelow c.right.result (g.N.Nodes.view c.read_below.new.nodes).asked
    (g.N.Nodes.view c.read_below-2.new.nodes).asked)
    (StaysBelow c.args.key (g.N.Nodes.view c.args.nodes.now).asked (g.N.Nodes.view c.read_below-2.new.nodes).asked)
    (both_below_at c.args.key c.left.result c.right.result _ _ _ _
    (omega (arith, c.if-key-eq0.false)) c.left.ensures c.right.ensures c.in_ok-left.ensures.asked c.in_ok-read_below.ensures.below)
    c.read_below-2.ensures.below

pub returns-in_err-left-clause-reads : goal.returns-in_err-left-clause-reads
returns-in_err-left-clause-reads g t c = λ from starts.
    let low : 1 ≤ c.args.key.level = omega (arith, c.if-key-eq0.false) in
    walk_once c.args.key.level (slots_in from c.args.count c.args.key) _ _ low
    (some_in c.args.base.now c.args.count from c.args.key low c.requires.some (c.is_apart.ensures.no c.if-is_apart.false) starts)
    (c.in_err-left.ensures.one_read c.requires.follows)

pub returns-in_err-read_below-clause-reads : goal.returns-in_err-read_below-clause-reads
returns-in_err-read_below-clause-reads g t c = λ from starts.
    let low : 1 ≤ c.args.key.level = omega (arith, c.if-key-eq0.false) in
    let some = some_in c.args.base.now c.args.count from c.args.key low c.requires.some
    (c.is_apart.ensures.no c.if-is_apart.false) starts in
    walk_left c.args.key.level c.left.result.level (slots_in from c.args.count c.args.key) (slots_in from c.args.count c.left.result)
    (slots_in from c.args.count (right_of c.args.key)) _ _ _ (omega (arith, low, ap (λ k. k.level) c.left.ensures)) some
    (slots_part from c.args.count c.args.key c.left.result (right_of c.args.key) low c.left.ensures refl)
    (c.in_ok-left.ensures.one_read c.requires.follows) (c.in_err-read_below.ensures.reads from starts)

pub returns-clause-reads : goal.returns-clause-reads
returns-clause-reads g t c = λ from starts.
    let low : 1 ≤ c.args.key.level = omega (arith, c.if-key-eq0.false) in
    let some = some_in c.args.base.now c.args.count from c.args.key low c.requires.some
    (c.is_apart.ensures.no c.if-is_apart.false) starts in
    let second = c.read_below-2.ensures.reads from starts in
    walk_both c.args.key.level c.left.result.level (slots_in from c.args.count c.args.key) (slots_in from c.args.count c.left.result)
    (slots_in from c.args.count c.right.result) _ _ _ _ (omega (arith, low, ap (λ k. k.level) c.left.ensures)) some
    (slots_part from c.args.count c.args.key c.left.result c.right.result low c.left.ensures c.right.ensures)
    (c.in_ok-left.ensures.one_read c.requires.follows) (c.in_ok-read_below.ensures.reads from starts)
    (omega (
      arith,
      second,
      ap (λ k. k.level * slots_in from c.args.count c.right.result) c.right.ensures,
      ap (λ k. k.level * slots_in from c.args.count c.right.result) c.left.ensures,
    ))
