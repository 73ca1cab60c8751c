use Rattle.std.proofs.Common.{rules, ◌≤◌, ◌∙◌, ap, arith}
use Rattle.std.proofs.Math.Nat.{le_trans, le-add_right}
use Rattle.om3_coeff.specs.Keys.{left_of, right_of}
use Rattle.om3_coeff.specs.View.{StaysSame}
use Rattle.om3_coeff.proofs.WalkLemmas.{key_small, ask_at, ask_left, right_follows_at}
use Rattle.needed_nodes.proofs.ServeLaws.{ready_as, ready_at, ready_on}
use Rattle.needed_nodes.specs.declared.window.Window.{Window}
use Rattle.needed_nodes.specs.declared.scan_of.ScanOf.TheVariants.{Node, NoMemory}
use Rattle.needed_nodes.proofs.StepLaws.{cause_earlier, err_cause}
use Rattle.needed_nodes.proofs.RankLaws.{ranks_at}
use Rattle.needed_nodes.proofs.FindLaws.{cut_low, cut_wanted_as, top_left, top_right, finds_none, finds_outside, finds_inside, finds_halves}
use Rattle.needed_nodes.proofs.FindLaws.{reads_asked, reads_first, reads_both}
use Rattle.needed_nodes.proofs.finding.+find_blocks.Goals as goal

pub returns-in_default-clause-found : goal.returns-in_default-clause-found
returns-in_default-clause-found g t c = finds_none _ c.args.window.now c.args.key c.args.span _ _ c.in_default.is c.requires.ready

pub returns-in-Outside-clause-found : goal.returns-in-Outside-clause-found
returns-in-Outside-clause-found g t c = finds_outside _ c.args.window.now c.args.key _ _ (c.in-Outside.ensures c.args.key c.requires.ranked)

pub returns-in-Within-clause-found : goal.returns-in-Within-clause-found
returns-in-Within-clause-found g t c =
    finds_inside _ c.args.window.now c.in-Within.column c.args.key c.in-Some.span c.args.span _ c.args.table.now _ c.in-Some.is
    c.requires.ready c.requires.top
    (c.in-Within.ensures c.args.key c.requires.ranked) c.requires.sized c.enter.ensures

pub ranks_of_halves-requires-clause-low : goal.ranks_of_halves-requires-clause-low
ranks_of_halves-requires-clause-low g t c = cut_low c.args.window.now c.args.key (c.in-Cut.ensures c.args.key c.requires.ranked)

pub ranks_of_halves-requires-clause-fits : goal.ranks_of_halves-requires-clause-fits
ranks_of_halves-requires-clause-fits g t c = key_small c.args.window.now.axis.slots c.args.key c.requires.ready.key

pub enter-requires : goal.enter-requires
enter-requires g t c = let own = c.in-Within.ensures c.args.key c.requires.ranked in omega (arith, own.shown, c.requires.sized)

pub ask-requires-clause-ready : goal.ask-requires-clause-ready
ask-requires-clause-ready g t c = ready_as _ c.args.window.now c.args.key c.args.span _ c.in-Some.is c.requires.ready

pub ask-requires-clause-low : goal.ask-requires-clause-low
ask-requires-clause-low g t c = cut_low c.args.window.now c.args.key (c.in-Cut.ensures c.args.key c.requires.ranked)

pub ask-requires-clause-wanted : goal.ask-requires-clause-wanted
ask-requires-clause-wanted g t c = cut_wanted_as _ c.args.window.now c.args.key c.in-Some.span c.args.span c.in-Some.is c.requires.ready
    (c.in-Cut.ensures c.args.key c.requires.ranked)

pub left-requires-clause-low : goal.left-requires-clause-low
left-requires-clause-low g t c = cut_low c.args.window.now c.args.key (c.in-Cut.ensures c.args.key c.requires.ranked)

pub left-requires-clause-fits : goal.left-requires-clause-fits
left-requires-clause-fits g t c = key_small c.args.window.now.axis.slots c.args.key c.requires.ready.key

pub right-requires-clause-low : goal.right-requires-clause-low
right-requires-clause-low g t c = cut_low c.args.window.now c.args.key (c.in-Cut.ensures c.args.key c.requires.ranked)

pub right-requires-clause-fits : goal.right-requires-clause-fits
right-requires-clause-fits g t c = key_small c.args.window.now.axis.slots c.args.key c.requires.ready.key

pub find_blocks-requires : goal.find_blocks-requires
find_blocks-requires g t c κs within =
    let w : Window = c.args.window.now in
    let low : 1 ≤ c.args.key.level = cut_low w c.args.key (c.in-Cut.ensures c.args.key c.requires.ranked) in (
      search rules,
      (
        search rules,
        (
          ready_at _ w (left_of c.args.key) c.left.result _ c.left.ensures c.in_ok-node-in-Cut.ensures.left,
          (
            ask_at (g.N.Nodes.view c.ask.new.nodes) c.left.result (left_of c.args.key) c.left.ensures
                (ask_left (g.N.Nodes.view c.ask.new.nodes) c.args.key low c.in_ok-node-in-Cut.ensures.asked),
            (
              top_left w c.args.key c.left.result low c.left.ensures (c.in-Cut.ensures c.args.key c.requires.ranked),
              (
                c.requires.sized,
                ranks_at w (left_of c.args.key) c.left.result c.ranks_of_halves.result.0 c.left.ensures
                    c.ranks_of_halves.ensures.left,
              ),
            ),
          ),
        ),
      ),
    )

pub find_blocks-requires-in-Cut : goal.find_blocks-requires-in-Cut
find_blocks-requires-in-Cut g t c κs within =
    let w : Window = c.args.window.now in
    let low : 1 ≤ c.args.key.level = cut_low w c.args.key (c.in-Cut.ensures c.args.key c.requires.ranked) in
    let same : StaysSame (g.N.Nodes.view c.ask.new.nodes) (g.N.Nodes.view c.find_blocks.new.nodes) =
    g.met.N.Nodes.keeps_same c.ask.new.nodes c.find_blocks.new.nodes c.in_ok-find_blocks-in-Cut.ensures.kept in (
      search rules,
      (
        search rules,
        (
          ready_on _ _ w (right_of c.args.key) c.right.result _ c.right.ensures same c.in_ok-find_blocks-in-Cut.ensures.fit
              c.in_ok-node-in-Cut.ensures.right,
          (
            right_follows_at (g.N.Nodes.view c.find_blocks.new.nodes) c.args.key c.left.result c.right.result
                (g.N.Nodes.view c.ask.new.nodes).asked low c.left.ensures c.right.ensures
                c.in_ok-node-in-Cut.ensures.asked c.in_ok-find_blocks-in-Cut.ensures.found.below,
            (
              top_right w c.args.key c.right.result low c.right.ensures (c.in-Cut.ensures c.args.key c.requires.ranked),
              (
                search rules,
                ranks_at w (right_of c.args.key) c.right.result c.ranks_of_halves.result.1 c.right.ensures
                    c.ranks_of_halves.ensures.right,
              ),
            ),
          ),
        ),
      ),
    )

pub returns-in_err-node-in-Cut-clause-cause : goal.returns-in_err-node-in-Cut-clause-cause
returns-in_err-node-in-Cut-clause-cause g t c =
    err_cause _ _ (Node c.in_err-node-in-Cut.field-0.0) c.from_residual.ensures.1 (
      c.in_err-node-in-Cut.ensures.cause,
      c.in_err-node-in-Cut.ensures.named,
    )

pub returns-in_err-push-in-Cut-clause-cause : goal.returns-in_err-push-in-Cut-clause-cause
returns-in_err-push-in-Cut-clause-cause g t c = err_cause _ _ NoMemory c.from_residual-in_err-push-in-Cut.ensures.1 tt

pub returns-in_err-find_blocks-in-Cut-clause-cause : goal.returns-in_err-find_blocks-in-Cut-clause-cause
returns-in_err-find_blocks-in-Cut-clause-cause g t c =
    err_cause _ _ c.in_err-find_blocks-in-Cut.field-0.0 c.from_residual-in_err-find_blocks-in-Cut.ensures.1
    (cause_earlier (g.N.Nodes.view c.args.nodes.now) (g.N.Nodes.view c.ask.new.nodes)
    (g.N.Nodes.view c.find_blocks.new.nodes) c.args.window.now c.in_err-find_blocks-in-Cut.field-0.0
    (g.met.N.Nodes.keeps_same c.args.nodes.now c.ask.new.nodes c.in_ok-node-in-Cut.ensures.kept)
    c.in_ok-node-in-Cut.ensures.quiet c.in_err-find_blocks-in-Cut.ensures.cause)

pub returns-in_err-find_blocks-in-Cut-2-clause-cause : goal.returns-in_err-find_blocks-in-Cut-2-clause-cause
returns-in_err-find_blocks-in-Cut-2-clause-cause g t c =
    err_cause _ _ c.in_err-find_blocks-in-Cut-2.field-0.0 c.from_residual-in_err-find_blocks-in-Cut-2.ensures.1
    (cause_earlier (g.N.Nodes.view c.args.nodes.now) (g.N.Nodes.view c.find_blocks.new.nodes)
    (g.N.Nodes.view c.find_blocks-in-Cut.new.nodes) c.args.window.now c.in_err-find_blocks-in-Cut-2.field-0.0
    (g.met.N.Nodes.keeps_same c.args.nodes.now c.find_blocks.new.nodes
    (g.met.N.Nodes.keeps_on c.args.nodes.now c.ask.new.nodes c.find_blocks.new.nodes c.in_ok-node-in-Cut.ensures.kept
    c.in_ok-find_blocks-in-Cut.ensures.kept))
    (c.in_ok-find_blocks-in-Cut.ensures.quiet ∙ c.in_ok-node-in-Cut.ensures.quiet) c.in_err-find_blocks-in-Cut-2.ensures.cause)

pub returns-in_err-node-in-Cut-clause-reads : goal.returns-in_err-node-in-Cut-clause-reads
returns-in_err-node-in-Cut-clause-reads g t c =
    reads_asked c.args.window.now c.args.key _ _ (c.in-Cut.ensures c.args.key c.requires.ranked)
    (c.in_err-node-in-Cut.ensures.one_read c.requires.follows)

pub returns-in_err-push-in-Cut-clause-reads : goal.returns-in_err-push-in-Cut-clause-reads
returns-in_err-push-in-Cut-clause-reads g t c =
    reads_asked c.args.window.now c.args.key _ _ (c.in-Cut.ensures c.args.key c.requires.ranked)
    (c.in_ok-node-in-Cut.ensures.one_read c.requires.follows)

pub returns-in_err-find_blocks-in-Cut-clause-reads : goal.returns-in_err-find_blocks-in-Cut-clause-reads
returns-in_err-find_blocks-in-Cut-clause-reads g t c =
    reads_first c.args.window.now c.args.key c.left.result _ _ _ (c.in-Cut.ensures c.args.key c.requires.ranked) c.left.ensures
    (c.in_ok-node-in-Cut.ensures.one_read c.requires.follows)
    c.in_err-find_blocks-in-Cut.ensures.reads

pub returns-in_err-find_blocks-in-Cut-2-clause-reads : goal.returns-in_err-find_blocks-in-Cut-2-clause-reads
returns-in_err-find_blocks-in-Cut-2-clause-reads g t c =
    reads_both c.args.window.now c.args.key c.left.result c.right.result _ _ _ _
    (c.in-Cut.ensures c.args.key c.requires.ranked) c.left.ensures c.right.ensures
    (c.in_ok-node-in-Cut.ensures.one_read c.requires.follows) c.in_ok-find_blocks-in-Cut.ensures.reads
    c.in_err-find_blocks-in-Cut-2.ensures.reads

pub returns-in_ok-find_blocks-in-Cut-2-clause-reads : goal.returns-in_ok-find_blocks-in-Cut-2-clause-reads
returns-in_ok-find_blocks-in-Cut-2-clause-reads g t c =
    reads_both c.args.window.now c.args.key c.left.result c.right.result _ _ _ _
    (c.in-Cut.ensures c.args.key c.requires.ranked) c.left.ensures c.right.ensures
    (c.in_ok-node-in-Cut.ensures.one_read c.requires.follows) c.in_ok-find_blocks-in-Cut.ensures.reads
    c.in_ok-find_blocks-in-Cut-2.ensures.reads

pub returns-in_ok-find_blocks-in-Cut-2-clause-found : goal.returns-in_ok-find_blocks-in-Cut-2-clause-found
returns-in_ok-find_blocks-in-Cut-2-clause-found g t c =
    finds_halves _ _ _ _ c.args.window.now c.args.key c.left.result c.right.result c.in-Some.span c.args.span c.in_ok-node-in-Cut.node.coef
    _ _ _ _ _ _ _
    c.left.ensures c.right.ensures (c.in-Cut.ensures c.args.key c.requires.ranked) c.in-Some.is c.requires.ready
    c.in_ok-node-in-Cut.ensures.told c.in_ok-node-in-Cut.ensures.splits
    c.in_ok-push-in-Cut.ensures.items c.in_ok-node-in-Cut.ensures.asked
    (g.met.N.Nodes.keeps_same c.args.nodes.now c.ask.new.nodes c.in_ok-node-in-Cut.ensures.kept) c.in_ok-find_blocks-in-Cut.ensures.found
    (g.met.N.Nodes.keeps_same c.args.nodes.now c.find_blocks.new.nodes
    (g.met.N.Nodes.keeps_on c.args.nodes.now c.ask.new.nodes c.find_blocks.new.nodes c.in_ok-node-in-Cut.ensures.kept
    c.in_ok-find_blocks-in-Cut.ensures.kept)) c.in_ok-find_blocks-in-Cut-2.ensures.found

pub returns-in_err-node-in-Cut-clause-quiet_err : goal.returns-in_err-node-in-Cut-clause-quiet_err
returns-in_err-node-in-Cut-clause-quiet_err g t c =
    err_cause _ _ (Node c.in_err-node-in-Cut.field-0.0) c.from_residual.ensures.1
    (λ ne. c.in_err-node-in-Cut.ensures.quiet_err (λ same. ne (ap Node same)))

pub returns-in_err-push-in-Cut-clause-quiet_err : goal.returns-in_err-push-in-Cut-clause-quiet_err
returns-in_err-push-in-Cut-clause-quiet_err g t c =
    err_cause _ _ NoMemory c.from_residual-in_err-push-in-Cut.ensures.1 (λ _. c.in_ok-node-in-Cut.ensures.quiet)

pub returns-in_err-find_blocks-in-Cut-clause-quiet_err : goal.returns-in_err-find_blocks-in-Cut-clause-quiet_err
returns-in_err-find_blocks-in-Cut-clause-quiet_err g t c =
    err_cause _ _ c.in_err-find_blocks-in-Cut.field-0.0 c.from_residual-in_err-find_blocks-in-Cut.ensures.1
    (λ ne. c.in_err-find_blocks-in-Cut.ensures.quiet_err ne ∙ c.in_ok-node-in-Cut.ensures.quiet)

pub returns-in_err-find_blocks-in-Cut-2-clause-quiet_err : goal.returns-in_err-find_blocks-in-Cut-2-clause-quiet_err
returns-in_err-find_blocks-in-Cut-2-clause-quiet_err g t c =
    err_cause _ _ c.in_err-find_blocks-in-Cut-2.field-0.0 c.from_residual-in_err-find_blocks-in-Cut-2.ensures.1
    (λ ne. c.in_err-find_blocks-in-Cut-2.ensures.quiet_err ne
    ∙ (c.in_ok-find_blocks-in-Cut.ensures.quiet ∙ c.in_ok-node-in-Cut.ensures.quiet))

pub returns-in_ok-find_blocks-in-Cut-2-clause-quiet : goal.returns-in_ok-find_blocks-in-Cut-2-clause-quiet
returns-in_ok-find_blocks-in-Cut-2-clause-quiet g t c =
    c.in_ok-find_blocks-in-Cut-2.ensures.quiet ∙ (c.in_ok-find_blocks-in-Cut.ensures.quiet ∙ c.in_ok-node-in-Cut.ensures.quiet)

pub returns-in_err-find_blocks-in-Cut-clause-kept : goal.returns-in_err-find_blocks-in-Cut-clause-kept
returns-in_err-find_blocks-in-Cut-clause-kept g t c =
    g.met.N.Nodes.keeps_on c.args.nodes.now c.ask.new.nodes c.find_blocks.new.nodes c.in_ok-node-in-Cut.ensures.kept
    c.in_err-find_blocks-in-Cut.ensures.kept

pub returns-in_err-find_blocks-in-Cut-2-clause-kept : goal.returns-in_err-find_blocks-in-Cut-2-clause-kept
returns-in_err-find_blocks-in-Cut-2-clause-kept g t c =
    g.met.N.Nodes.keeps_on c.args.nodes.now c.find_blocks.new.nodes c.find_blocks-in-Cut.new.nodes
    (g.met.N.Nodes.keeps_on c.args.nodes.now c.ask.new.nodes c.find_blocks.new.nodes c.in_ok-node-in-Cut.ensures.kept
    c.in_ok-find_blocks-in-Cut.ensures.kept) c.in_err-find_blocks-in-Cut-2.ensures.kept

pub returns-in_err-find_blocks-in-Cut-2-clause-faults : goal.returns-in_err-find_blocks-in-Cut-2-clause-faults
returns-in_err-find_blocks-in-Cut-2-clause-faults g t c =
    le_trans c.in_ok-node-in-Cut.ensures.faults (le_trans c.in_ok-find_blocks-in-Cut.ensures.faults
    c.in_err-find_blocks-in-Cut-2.ensures.faults)

pub returns-in_ok-find_blocks-in-Cut-2-clause-kept : goal.returns-in_ok-find_blocks-in-Cut-2-clause-kept
returns-in_ok-find_blocks-in-Cut-2-clause-kept g t c =
    g.met.N.Nodes.keeps_on c.args.nodes.now c.find_blocks.new.nodes c.find_blocks-in-Cut.new.nodes
    (g.met.N.Nodes.keeps_on c.args.nodes.now c.ask.new.nodes c.find_blocks.new.nodes c.in_ok-node-in-Cut.ensures.kept
    c.in_ok-find_blocks-in-Cut.ensures.kept) c.in_ok-find_blocks-in-Cut-2.ensures.kept

pub returns-in_ok-find_blocks-in-Cut-2-clause-faults : goal.returns-in_ok-find_blocks-in-Cut-2-clause-faults
returns-in_ok-find_blocks-in-Cut-2-clause-faults g t c =
    le_trans c.in_ok-node-in-Cut.ensures.faults (le_trans c.in_ok-find_blocks-in-Cut.ensures.faults
    c.in_ok-find_blocks-in-Cut-2.ensures.faults)

pub returns-in_err-find_blocks-in-Cut-clause-faults : goal.returns-in_err-find_blocks-in-Cut-clause-faults
returns-in_err-find_blocks-in-Cut-clause-faults g t c =
    le_trans c.in_ok-node-in-Cut.ensures.faults c.in_err-find_blocks-in-Cut.ensures.faults

pub returns-in_default-clause-reads : goal.returns-in_default-clause-reads
returns-in_default-clause-reads g t c = le-add_right _ _

pub returns-in-Outside-clause-reads : goal.returns-in-Outside-clause-reads
returns-in-Outside-clause-reads g t c = le-add_right _ _

pub returns-in-Within-clause-reads : goal.returns-in-Within-clause-reads
returns-in-Within-clause-reads g t c = le-add_right _ _
