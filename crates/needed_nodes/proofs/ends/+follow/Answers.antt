use Rattle.std.proofs.Common.{Bool, true, false, ◌≡◌, rules, ◌≤◌, ◌∙◌, ap, w64, arith}
use Rattle.std.proofs.Math.Nat.{le_trans, le-add_right}
use Rattle.std.proofs.lemmas.Int.{to_z-of_z}
use Rattle.om3_coeff.specs.Keys.{left_of, right_of}
use Rattle.om3_coeff.specs.View.{StaysSame}
use Rattle.om3_coeff.proofs.WalkLemmas.{key_small, ask_at, ask_left, right_follows_at}
use Rattle.needed_nodes.specs.declared.window.Window.{Window}
use Rattle.needed_nodes.specs.declared.scan_of.ScanOf.TheVariants.{Node, NoMemory}
use Rattle.needed_nodes.specs.Ends.{slot_values}
use Rattle.needed_nodes.proofs.ServeLaws.{ready_as, ready_at, ready_on}
use Rattle.needed_nodes.proofs.StepLaws.{cause_earlier, err_cause}
use Rattle.needed_nodes.proofs.EndLaws.{follows_none, follows_unsought, follows_slot, follows_flat, follows_halves, may_hold_left}
use Rattle.needed_nodes.proofs.EndLaws.{may_hold_right, inside_left, inside_right, end_reads_asked, end_reads_first, end_reads_both}
use Rattle.needed_nodes.proofs.EndLaws.{far_asked, far_first, far_both, sought_wanted_as}
use Rattle.needed_nodes.proofs.ends.+follow.Goals as goal

true_false : (b : Bool) → b ≡ true → b ≡ false → ⊥
true_false b h g = cc

pub returns-in_default-clause-found : goal.returns-in_default-clause-found
returns-in_default-clause-found g t c =
    follows_none _ c.args.window.now c.args.column c.args.key c.args.span c.args.sought _ _ c.in_default.is c.requires.ready
    c.nothing.ensures.first c.nothing.ensures.last

pub returns-then-is_nothing-clause-found : goal.returns-then-is_nothing-clause-found
returns-then-is_nothing-clause-found g t c =
    follows_unsought _ c.args.window.now c.args.column c.args.key c.args.span c.args.sought _ _
    (c.is_nothing.ensures.none c.if-is_nothing.true) c.nothing-then-is_nothing.ensures.first c.nothing-then-is_nothing.ensures.last

pub returns-then-key-eq0-clause-found : goal.returns-then-key-eq0-clause-found
returns-then-key-eq0-clause-found g t c =
    follows_slot _ c.args.window.now c.args.column c.args.key c.in-Some.span c.args.span c.args.sought _ _ c.in-Some.is c.requires.ready
    c.if-key-eq0.true
    (c.of_slot.ensures ∙ ap (slot_values c.args.sought) (to_z-of_z w64 c.in-Some.span.min (search rules)))

pub returns-then-is_flat-clause-found : goal.returns-then-is_flat-clause-found
returns-then-is_flat-clause-found g t c =
    follows_flat c.flat_keys_hold_flat_keys.ensures.below c.flat_keys_hold_flat_keys.ensures.value _ c.args.window.now c.args.column
    c.args.key c.in-Some.span c.args.span c.args.sought _ _ c.in-Some.is c.requires.ready
    (c.is_flat.ensures.0 c.if-is_flat.true)
    (c.of_slot-then-is_flat.ensures ∙ ap (slot_values c.args.sought) (to_z-of_z w64 c.in-Some.span.min (search rules)))

pub ask-requires-clause-ready : goal.ask-requires-clause-ready
ask-requires-clause-ready g t c =
    ready_as _ c.args.window.now c.args.key c.args.span _ c.in-Some.is c.requires.ready

pub ask-requires-clause-low : goal.ask-requires-clause-low
ask-requires-clause-low g t c =
    omega (arith, c.if-key-eq0.false)

pub ask-requires-clause-wanted : goal.ask-requires-clause-wanted
ask-requires-clause-wanted g t c =
    sought_wanted_as _ c.args.window.now c.args.column c.args.key c.in-Some.span c.args.span c.args.sought c.in-Some.is c.requires.ready
    (omega (arith, c.if-key-eq0.false)) c.requires.inside
    (λ flat. true_false c.is_flat.result (c.is_flat.ensures.1 flat) c.if-is_flat.false)
    (c.is_nothing.ensures.some c.if-is_nothing.false) c.requires.clear

pub left-requires-clause-low : goal.left-requires-clause-low
left-requires-clause-low g t c =
    omega (arith, c.if-key-eq0.false)

pub left-requires-clause-fits : goal.left-requires-clause-fits
left-requires-clause-fits g t c =
    key_small c.args.window.now.axis.slots c.args.key c.requires.ready.key

pub right-requires-clause-low : goal.right-requires-clause-low
right-requires-clause-low g t c =
    omega (arith, c.if-key-eq0.false)

pub right-requires-clause-fits : goal.right-requires-clause-fits
right-requires-clause-fits g t c =
    key_small c.args.window.now.axis.slots c.args.key c.requires.ready.key

pub follow-requires : goal.follow-requires
follow-requires g t c κs within =
    let w : Window = c.args.window.now in
    let low : 1 ≤ c.args.key.level = omega (arith, c.if-key-eq0.false) in
    let asked : StaysSame (g.N.Nodes.view c.args.nodes.now) (g.N.Nodes.view c.ask.new.nodes) =
    g.met.N.Nodes.keeps_same c.args.nodes.now c.ask.new.nodes c.in_ok-node.ensures.kept in (
      search rules,
      (
        search rules,
        (
          ready_at _ w (left_of c.args.key) c.left.result _ c.left.ensures c.in_ok-node.ensures.left,
          (
            inside_left w c.args.column c.args.key c.left.result low c.left.ensures c.requires.inside,
            may_hold_left _ _ w c.args.column c.args.key c.left.result c.args.span c.args.sought c.in_left.result c.in_ok-node.node.right
                c.left.ensures c.in_left.ensures
                c.requires.ready low asked c.in_ok-node.ensures.right c.requires.clear,
          ),
        ),
      ),
    )

pub follow-requires-2 : goal.follow-requires-2
follow-requires-2 g t c κs within =
    let w : Window = c.args.window.now in
    let low : 1 ≤ c.args.key.level = omega (arith, c.if-key-eq0.false) in
    let asked : StaysSame (g.N.Nodes.view c.args.nodes.now) (g.N.Nodes.view c.ask.new.nodes) =
    g.met.N.Nodes.keeps_same c.args.nodes.now c.ask.new.nodes c.in_ok-node.ensures.kept in
    let went : StaysSame (g.N.Nodes.view c.ask.new.nodes) (g.N.Nodes.view c.follow.new.nodes) =
    g.met.N.Nodes.keeps_same c.ask.new.nodes c.follow.new.nodes c.in_ok-front.ensures.kept in
    let both : StaysSame (g.N.Nodes.view c.args.nodes.now) (g.N.Nodes.view c.follow.new.nodes) =
    g.met.N.Nodes.keeps_same c.args.nodes.now c.follow.new.nodes
    (g.met.N.Nodes.keeps_on c.args.nodes.now c.ask.new.nodes c.follow.new.nodes c.in_ok-node.ensures.kept c.in_ok-front.ensures.kept) in (
      search rules,
      (
        search rules,
        (
          ready_on _ _ w (right_of c.args.key) c.right.result _ c.right.ensures went c.in_ok-front.ensures.fit c.in_ok-node.ensures.right,
          (
            inside_right w c.args.column c.args.key c.right.result low c.right.ensures c.requires.inside,
            may_hold_right _ _ _ w c.args.column c.args.key c.right.result c.args.span c.args.sought c.in_right.result
                c.in_ok-node.node.left c.right.ensures c.in_right.ensures
                c.requires.ready low asked both c.in_ok-node.ensures.left c.requires.clear,
          ),
        ),
      ),
    )

pub returns-in_err-node-clause-few_reads : goal.returns-in_err-node-clause-few_reads
returns-in_err-node-clause-few_reads g t c =
    λ may. end_reads_asked c.args.key c.args.sought c.in-Some.span _ _ c.args.span c.in-Some.is (omega (arith, c.if-key-eq0.false))
    (c.is_nothing.ensures.some c.if-is_nothing.false) (c.in_err-node.ensures.one_read may)

pub returns-in_err-node-clause-reads : goal.returns-in_err-node-clause-reads
returns-in_err-node-clause-reads g t c =
    far_asked c.args.key c.args.sought c.in-Some.span _ _ _ c.args.span c.in-Some.is (omega (arith, c.if-key-eq0.false))
    (c.is_nothing.ensures.some c.if-is_nothing.false) c.in_err-node.ensures.reads

pub returns-in_err-node-clause-cause : goal.returns-in_err-node-clause-cause
returns-in_err-node-clause-cause g t c =
    err_cause _ _ (Node c.in_err-node.field-0.0) c.from_residual.ensures.1 (c.in_err-node.ensures.cause, c.in_err-node.ensures.named)

pub returns-in_err-push-clause-few_reads : goal.returns-in_err-push-clause-few_reads
returns-in_err-push-clause-few_reads g t c =
    λ may. end_reads_asked c.args.key c.args.sought c.in-Some.span _ _ c.args.span c.in-Some.is (omega (arith, c.if-key-eq0.false))
    (c.is_nothing.ensures.some c.if-is_nothing.false) (c.in_ok-node.ensures.one_read may)

pub returns-in_err-push-clause-reads : goal.returns-in_err-push-clause-reads
returns-in_err-push-clause-reads g t c =
    far_asked c.args.key c.args.sought c.in-Some.span _ _ _ c.args.span c.in-Some.is (omega (arith, c.if-key-eq0.false))
    (c.is_nothing.ensures.some c.if-is_nothing.false) c.in_ok-node.ensures.reads

pub returns-in_err-push-clause-cause : goal.returns-in_err-push-clause-cause
returns-in_err-push-clause-cause g t c =
    err_cause _ _ NoMemory c.from_residual-in_err-push.ensures.1 tt

pub returns-in_err-front-clause-few_reads : goal.returns-in_err-front-clause-few_reads
returns-in_err-front-clause-few_reads g t c =
    λ may. end_reads_first c.args.key c.left.result c.args.sought c.in_left.result c.in-Some.span c.in_ok-node.node.left
    c.in_ok-node.node.right _ _ _ c.args.span c.in-Some.is (omega (arith, c.if-key-eq0.false)) c.left.ensures c.in_left.ensures
    (c.is_nothing.ensures.some c.if-is_nothing.false) c.in_ok-node.ensures.whole (c.in_ok-node.ensures.one_read may)
    (c.in_err-front.ensures.few_reads (ask_at (g.N.Nodes.view c.ask.new.nodes) c.left.result (left_of c.args.key) c.left.ensures
    (ask_left (g.N.Nodes.view c.ask.new.nodes) c.args.key (omega (arith, c.if-key-eq0.false)) c.in_ok-node.ensures.asked)))

pub returns-in_err-front-clause-reads : goal.returns-in_err-front-clause-reads
returns-in_err-front-clause-reads g t c =
    far_first c.args.key c.left.result c.args.sought c.in_left.result c.in-Some.span c.in_ok-node.node.left c.in_ok-node.node.right _ _ _ _
    c.args.span c.in-Some.is (omega (arith, c.if-key-eq0.false)) c.left.ensures c.in_left.ensures
    (c.is_nothing.ensures.some c.if-is_nothing.false) c.in_ok-node.ensures.whole c.in_ok-node.ensures.reads
    (c.in_err-front.ensures.few_reads (ask_at (g.N.Nodes.view c.ask.new.nodes) c.left.result (left_of c.args.key) c.left.ensures
    (ask_left (g.N.Nodes.view c.ask.new.nodes) c.args.key (omega (arith, c.if-key-eq0.false)) c.in_ok-node.ensures.asked)))

pub returns-in_err-front-clause-cause : goal.returns-in_err-front-clause-cause
returns-in_err-front-clause-cause g t c =
    err_cause _ _ c.in_err-front.field-0.0 c.from_residual-in_err-front.ensures.1
    (cause_earlier (g.N.Nodes.view c.args.nodes.now) (g.N.Nodes.view c.ask.new.nodes)
    (g.N.Nodes.view c.follow.new.nodes) c.args.window.now c.in_err-front.field-0.0
    (g.met.N.Nodes.keeps_same c.args.nodes.now c.ask.new.nodes c.in_ok-node.ensures.kept) c.in_ok-node.ensures.quiet
    c.in_err-front.ensures.cause)

pub returns-in_err-back-clause-few_reads : goal.returns-in_err-back-clause-few_reads
returns-in_err-back-clause-few_reads g t c =
    λ may. end_reads_both c.args.key c.left.result c.right.result c.args.sought c.in_left.result c.in_right.result c.in-Some.span
    c.in_ok-node.node.left c.in_ok-node.node.right _ _ _ _ c.args.span c.in-Some.is
    (omega (arith, c.if-key-eq0.false)) c.left.ensures c.right.ensures c.in_left.ensures c.in_right.ensures
    (c.is_nothing.ensures.some c.if-is_nothing.false) c.in_ok-node.ensures.whole (c.in_ok-node.ensures.one_read may)
    (c.in_ok-front.ensures.few_reads (ask_at (g.N.Nodes.view c.ask.new.nodes) c.left.result (left_of c.args.key) c.left.ensures
    (ask_left (g.N.Nodes.view c.ask.new.nodes) c.args.key (omega (arith, c.if-key-eq0.false)) c.in_ok-node.ensures.asked)))
    (c.in_err-back.ensures.few_reads (right_follows_at (g.N.Nodes.view c.follow.new.nodes) c.args.key c.left.result c.right.result
    (g.N.Nodes.view c.ask.new.nodes).asked (omega (arith, c.if-key-eq0.false)) c.left.ensures c.right.ensures c.in_ok-node.ensures.asked
    c.in_ok-front.ensures.found.below))

pub returns-in_err-back-clause-reads : goal.returns-in_err-back-clause-reads
returns-in_err-back-clause-reads g t c =
    far_both c.args.key c.left.result c.right.result c.args.sought c.in_left.result c.in_right.result c.in-Some.span c.in_ok-node.node.left
    c.in_ok-node.node.right _ _ _ _ _ c.args.span c.in-Some.is
    (omega (arith, c.if-key-eq0.false)) c.left.ensures c.right.ensures c.in_left.ensures c.in_right.ensures
    (c.is_nothing.ensures.some c.if-is_nothing.false) c.in_ok-node.ensures.whole c.in_ok-node.ensures.reads
    (c.in_ok-front.ensures.few_reads (ask_at (g.N.Nodes.view c.ask.new.nodes) c.left.result (left_of c.args.key) c.left.ensures
    (ask_left (g.N.Nodes.view c.ask.new.nodes) c.args.key (omega (arith, c.if-key-eq0.false)) c.in_ok-node.ensures.asked)))
    (c.in_err-back.ensures.few_reads (right_follows_at (g.N.Nodes.view c.follow.new.nodes) c.args.key c.left.result c.right.result
    (g.N.Nodes.view c.ask.new.nodes).asked (omega (arith, c.if-key-eq0.false)) c.left.ensures c.right.ensures c.in_ok-node.ensures.asked
    c.in_ok-front.ensures.found.below))

pub returns-in_err-back-clause-cause : goal.returns-in_err-back-clause-cause
returns-in_err-back-clause-cause g t c =
    err_cause _ _ c.in_err-back.field-0.0 c.from_residual-in_err-back.ensures.1
    (cause_earlier (g.N.Nodes.view c.args.nodes.now) (g.N.Nodes.view c.follow.new.nodes)
    (g.N.Nodes.view c.follow-2.new.nodes) c.args.window.now c.in_err-back.field-0.0
    (g.met.N.Nodes.keeps_same c.args.nodes.now c.follow.new.nodes
    (g.met.N.Nodes.keeps_on c.args.nodes.now c.ask.new.nodes c.follow.new.nodes c.in_ok-node.ensures.kept c.in_ok-front.ensures.kept))
    (c.in_ok-front.ensures.quiet ∙ c.in_ok-node.ensures.quiet) c.in_err-back.ensures.cause)

pub returns-clause-few_reads : goal.returns-clause-few_reads
returns-clause-few_reads g t c =
    λ may. end_reads_both c.args.key c.left.result c.right.result c.args.sought c.in_left.result c.in_right.result c.in-Some.span
    c.in_ok-node.node.left c.in_ok-node.node.right _ _ _ _ c.args.span c.in-Some.is
    (omega (arith, c.if-key-eq0.false)) c.left.ensures c.right.ensures c.in_left.ensures c.in_right.ensures
    (c.is_nothing.ensures.some c.if-is_nothing.false) c.in_ok-node.ensures.whole (c.in_ok-node.ensures.one_read may)
    (c.in_ok-front.ensures.few_reads (ask_at (g.N.Nodes.view c.ask.new.nodes) c.left.result (left_of c.args.key) c.left.ensures
    (ask_left (g.N.Nodes.view c.ask.new.nodes) c.args.key (omega (arith, c.if-key-eq0.false)) c.in_ok-node.ensures.asked)))
    (c.in_ok-back.ensures.few_reads (right_follows_at (g.N.Nodes.view c.follow.new.nodes) c.args.key c.left.result c.right.result
    (g.N.Nodes.view c.ask.new.nodes).asked (omega (arith, c.if-key-eq0.false)) c.left.ensures c.right.ensures c.in_ok-node.ensures.asked
    c.in_ok-front.ensures.found.below))

pub returns-clause-reads : goal.returns-clause-reads
returns-clause-reads g t c =
    far_both c.args.key c.left.result c.right.result c.args.sought c.in_left.result c.in_right.result c.in-Some.span c.in_ok-node.node.left
    c.in_ok-node.node.right _ _ _ _ _ c.args.span c.in-Some.is
    (omega (arith, c.if-key-eq0.false)) c.left.ensures c.right.ensures c.in_left.ensures c.in_right.ensures
    (c.is_nothing.ensures.some c.if-is_nothing.false) c.in_ok-node.ensures.whole c.in_ok-node.ensures.reads
    (c.in_ok-front.ensures.few_reads (ask_at (g.N.Nodes.view c.ask.new.nodes) c.left.result (left_of c.args.key) c.left.ensures
    (ask_left (g.N.Nodes.view c.ask.new.nodes) c.args.key (omega (arith, c.if-key-eq0.false)) c.in_ok-node.ensures.asked)))
    (c.in_ok-back.ensures.few_reads (right_follows_at (g.N.Nodes.view c.follow.new.nodes) c.args.key c.left.result c.right.result
    (g.N.Nodes.view c.ask.new.nodes).asked (omega (arith, c.if-key-eq0.false)) c.left.ensures c.right.ensures c.in_ok-node.ensures.asked
    c.in_ok-front.ensures.found.below))

pub returns-clause-found : goal.returns-clause-found
returns-clause-found g t c =
    follows_halves _ _ _ _ c.args.window.now c.args.column c.args.key c.left.result c.right.result c.in-Some.span c.args.span c.args.sought
    c.in_left.result c.in_right.result
    c.in_ok-node.node.left c.in_ok-node.node.right c.in_ok-node.node.coef _ _ _ _ c.in_ok-front.front c.in_ok-back.back _
    c.left.ensures c.right.ensures c.in_left.ensures c.in_right.ensures c.in-Some.is c.requires.ready
    (omega (arith, c.if-key-eq0.false)) c.requires.inside
    (λ flat. true_false c.is_flat.result (c.is_flat.ensures.1 flat) c.if-is_flat.false)
    (c.is_nothing.ensures.some c.if-is_nothing.false) c.requires.clear
    c.in_ok-node.ensures.whole c.in_ok-node.ensures.asked
    (g.met.N.Nodes.keeps_same c.args.nodes.now c.ask.new.nodes c.in_ok-node.ensures.kept) c.in_ok-node.ensures.left
    c.in_ok-node.ensures.right
    c.in_ok-node.ensures.told c.in_ok-node.ensures.splits c.in_ok-push.ensures.items
    c.in_ok-front.ensures.found (g.met.N.Nodes.keeps_same c.args.nodes.now c.follow.new.nodes
    (g.met.N.Nodes.keeps_on c.args.nodes.now c.ask.new.nodes c.follow.new.nodes c.in_ok-node.ensures.kept c.in_ok-front.ensures.kept))
    c.in_ok-back.ensures.found c.of_halves.ensures

pub returns-in_err-back-clause-kept : goal.returns-in_err-back-clause-kept
returns-in_err-back-clause-kept g t c =
    g.met.N.Nodes.keeps_on c.args.nodes.now c.follow.new.nodes c.follow-2.new.nodes
    (g.met.N.Nodes.keeps_on c.args.nodes.now c.ask.new.nodes c.follow.new.nodes c.in_ok-node.ensures.kept c.in_ok-front.ensures.kept)
    c.in_err-back.ensures.kept

pub returns-clause-kept : goal.returns-clause-kept
returns-clause-kept g t c =
    g.met.N.Nodes.keeps_on c.args.nodes.now c.follow.new.nodes c.follow-2.new.nodes
    (g.met.N.Nodes.keeps_on c.args.nodes.now c.ask.new.nodes c.follow.new.nodes c.in_ok-node.ensures.kept c.in_ok-front.ensures.kept)
    c.in_ok-back.ensures.kept

pub returns-in_err-node-clause-quiet_err : goal.returns-in_err-node-clause-quiet_err
returns-in_err-node-clause-quiet_err g t c =
    err_cause _ _ (Node c.in_err-node.field-0.0) c.from_residual.ensures.1
    (λ ne. c.in_err-node.ensures.quiet_err (λ same. ne (ap Node same)))

pub returns-in_err-push-clause-quiet_err : goal.returns-in_err-push-clause-quiet_err
returns-in_err-push-clause-quiet_err g t c =
    err_cause _ _ NoMemory c.from_residual-in_err-push.ensures.1 (λ _. c.in_ok-node.ensures.quiet)

pub returns-in_err-front-clause-quiet_err : goal.returns-in_err-front-clause-quiet_err
returns-in_err-front-clause-quiet_err g t c =
    err_cause _ _ c.in_err-front.field-0.0 c.from_residual-in_err-front.ensures.1 (λ ne. c.in_err-front.ensures.quiet_err ne
    ∙ c.in_ok-node.ensures.quiet)

pub returns-in_err-back-clause-quiet_err : goal.returns-in_err-back-clause-quiet_err
returns-in_err-back-clause-quiet_err g t c =
    err_cause _ _ c.in_err-back.field-0.0 c.from_residual-in_err-back.ensures.1
    (λ ne. c.in_err-back.ensures.quiet_err ne ∙ (c.in_ok-front.ensures.quiet ∙ c.in_ok-node.ensures.quiet))

pub returns-clause-quiet : goal.returns-clause-quiet
returns-clause-quiet g t c =
    c.in_ok-back.ensures.quiet ∙ (c.in_ok-front.ensures.quiet ∙ c.in_ok-node.ensures.quiet)

pub returns-in_err-front-clause-kept : goal.returns-in_err-front-clause-kept
returns-in_err-front-clause-kept g t c =
    g.met.N.Nodes.keeps_on c.args.nodes.now c.ask.new.nodes c.follow.new.nodes c.in_ok-node.ensures.kept c.in_err-front.ensures.kept

pub returns-in_err-front-clause-faults : goal.returns-in_err-front-clause-faults
returns-in_err-front-clause-faults g t c =
    le_trans c.in_ok-node.ensures.faults c.in_err-front.ensures.faults

pub returns-in_err-back-clause-faults : goal.returns-in_err-back-clause-faults
returns-in_err-back-clause-faults g t c =
    le_trans c.in_ok-node.ensures.faults (le_trans c.in_ok-front.ensures.faults c.in_err-back.ensures.faults)

pub returns-clause-faults : goal.returns-clause-faults
returns-clause-faults g t c =
    le_trans c.in_ok-node.ensures.faults (le_trans c.in_ok-front.ensures.faults c.in_ok-back.ensures.faults)

pub returns-in_default-clause-few_reads : goal.returns-in_default-clause-few_reads
returns-in_default-clause-few_reads g t c = λ may. le-add_right _ _

pub returns-in_default-clause-reads : goal.returns-in_default-clause-reads
returns-in_default-clause-reads g t c = le_trans (le-add_right _ _) (le-add_right _ _)

pub returns-then-is_nothing-clause-few_reads : goal.returns-then-is_nothing-clause-few_reads
returns-then-is_nothing-clause-few_reads g t c = λ may. le-add_right _ _

pub returns-then-is_nothing-clause-reads : goal.returns-then-is_nothing-clause-reads
returns-then-is_nothing-clause-reads g t c = le_trans (le-add_right _ _) (le-add_right _ _)

pub returns-then-key-eq0-clause-few_reads : goal.returns-then-key-eq0-clause-few_reads
returns-then-key-eq0-clause-few_reads g t c = λ may. le-add_right _ _

pub returns-then-key-eq0-clause-reads : goal.returns-then-key-eq0-clause-reads
returns-then-key-eq0-clause-reads g t c = le_trans (le-add_right _ _) (le-add_right _ _)

pub returns-then-is_flat-clause-few_reads : goal.returns-then-is_flat-clause-few_reads
returns-then-is_flat-clause-few_reads g t c = λ may. le-add_right _ _

pub returns-then-is_flat-clause-reads : goal.returns-then-is_flat-clause-reads
returns-then-is_flat-clause-reads g t c = le_trans (le-add_right _ _) (le-add_right _ _)
