use Rattle.std.proofs.Common.{rules, arith, refl, ◌≤◌, ◌∙◌}
use Rattle.std.proofs.Math.Nat.{le_trans}
use Rattle.om3_coeff.specs.Keys.{left_of, right_of}
use Rattle.om3_coeff.specs.View.{Agrees, StaysSame, HasCause}
use Rattle.om3_coeff.proofs.WalkLemmas.{key_small, go_to, ask_at, ask_left, still_agrees, both_below_at, right_follows_at}
use Rattle.filter_scan.proofs.AskLaws.{whole_asks, reads_once, reads_first, reads_both}
use Rattle.filter_scan.proofs.EndLaws.{cause_before, err_cause}
use Rattle.filter_scan.proofs.FillLaws.{fills_missing, fills_slot, fills_nothing, fills_whole, fills_left, fills_middle, fills_right}
use Rattle.filter_scan.proofs.TableLaws.{shown_more}
use Rattle.filter_scan.proofs.walking.+fill_below.Goals as goal

pub returns-in_default-clause-list : goal.returns-in_default-clause-list
returns-in_default-clause-list g t c = λ list agrees h.
    fills_missing (g.N.Nodes.view c.args.nodes.now) c.args.scan.now c.args.filter.now list c.args.key c.args.span c.args.table.now
    c.in_default.is agrees c.requires.reached h

pub returns-then-key-eq0-clause-list : goal.returns-then-key-eq0-clause-list
returns-then-key-eq0-clause-list g t c = λ list agrees h.
    fills_slot (g.N.Nodes.view c.args.nodes.now) c.args.scan.now c.args.filter.now list c.args.key c.args.span c.in-Some.span
    c.args.table.now c.fill_slot.new.table c.in-Some.is
    (omega (arith, c.if-key-eq0.true)) c.requires.sized c.fill_slot.ensures.slot agrees c.requires.reached h

pub share_of-requires-clause-small : goal.share_of-requires-clause-small
share_of-requires-clause-small g t c = key_small (g.N.Nodes.view c.args.nodes.now).slots c.args.key c.requires.reached.key

pub left-requires-clause-fits : goal.left-requires-clause-fits
left-requires-clause-fits g t c = key_small (g.N.Nodes.view c.args.nodes.now).slots c.args.key c.requires.reached.key

pub right-requires-clause-fits : goal.right-requires-clause-fits
right-requires-clause-fits g t c = key_small (g.N.Nodes.view c.args.nodes.now).slots c.args.key c.requires.reached.key

pub returns-in-Nothing-clause-list : goal.returns-in-Nothing-clause-list
returns-in-Nothing-clause-list g t c = λ list agrees h.
    fills_nothing (g.N.Nodes.view c.args.nodes.now) c.args.scan.now c.args.filter.now list c.args.key c.args.span c.in-Some.span
    c.args.table.now c.in-Some.is c.in-Nothing.ensures agrees
    c.requires.reached h

pub returns-in_ok-row-in-Everything-clause-list : goal.returns-in_ok-row-in-Everything-clause-list
returns-in_ok-row-in-Everything-clause-list g t c = λ list agrees h.
    fills_whole (g.N.Nodes.view c.args.nodes.now) c.args.scan.now c.args.filter.now list c.args.key c.args.span c.in-Some.span
    c.in-Everything.column c.args.table.now c.add_row.new.table
    c.in_ok-row-in-Everything.row c.in-Some.is c.in-Everything.ensures c.in_ok-row-in-Everything.ensures.shown.column c.requires.sized
    c.add_row.ensures agrees c.requires.reached
    (c.in_ok-row-in-Everything.ensures.list list agrees) h

pub returns-in_ok-row-in-Everything-clause-shown : goal.returns-in_ok-row-in-Everything-clause-shown
returns-in_ok-row-in-Everything-clause-shown g t c =
    shown_more c.in-Everything.column c.args.table.now c.add_row.new.table c.in_ok-row-in-Everything.row
    (omega (arith, c.requires.sized, c.in-Everything.ensures.inside.drawn))
    c.in_ok-row-in-Everything.ensures.shown c.add_row.ensures

pub fill_below-requires : goal.fill_below-requires
fill_below-requires g t c κs within =
    let low : 1 ≤ c.args.key.level = omega (arith, c.if-key-eq0.false) in
    let same : StaysSame (g.N.Nodes.view c.args.nodes.now) (g.N.Nodes.view c.ask.new.nodes) =
    g.met.N.Nodes.keeps_same c.args.nodes.now c.ask.new.nodes c.in_ok-left-in-Part.ensures.kept in (
      search rules,
      (
        search rules,
        (
          c.in_ok-left-in-Part.ensures.fit,
          (
            go_to (g.N.Nodes.view c.args.nodes.now) (g.N.Nodes.view c.ask.new.nodes) c.left.result
                (left_of c.args.key) c.in_ok-left-in-Part.left c.left.ensures same c.in_ok-left-in-Part.ensures.left,
            (
              ask_at (g.N.Nodes.view c.ask.new.nodes) c.left.result (left_of c.args.key) c.left.ensures
                  (ask_left (g.N.Nodes.view c.ask.new.nodes) c.args.key low c.in_ok-left-in-Part.ensures.asked),
              c.requires.sized,
            ),
          ),
        ),
      ),
    )

pub fill_below-requires-in-Part : goal.fill_below-requires-in-Part
fill_below-requires-in-Part g t c κs within =
    let low : 1 ≤ c.args.key.level = omega (arith, c.if-key-eq0.false) in
    let same : StaysSame (g.N.Nodes.view c.args.nodes.now) (g.N.Nodes.view c.fill_below.new.nodes) =
    g.met.N.Nodes.keeps_same c.args.nodes.now c.fill_below.new.nodes
    (g.met.N.Nodes.keeps_on c.args.nodes.now c.ask.new.nodes c.fill_below.new.nodes c.in_ok-left-in-Part.ensures.kept
    c.in_ok-fill_below-in-Part.ensures.kept) in (
      search rules,
      (
        search rules,
        (
          c.in_ok-fill_below-in-Part.ensures.fit,
          (
            go_to (g.N.Nodes.view c.args.nodes.now) (g.N.Nodes.view c.fill_below.new.nodes) c.right.result
                (right_of c.args.key) c.in_ok-left-in-Part.right c.right.ensures same c.in_ok-left-in-Part.ensures.right,
            (
              right_follows_at (g.N.Nodes.view c.fill_below.new.nodes) c.args.key c.left.result c.right.result
                  (g.N.Nodes.view c.ask.new.nodes).asked low c.left.ensures c.right.ensures
                  c.in_ok-left-in-Part.ensures.asked c.in_ok-fill_below-in-Part.ensures.below,
              search rules,
            ),
          ),
        ),
      ),
    )

pub returns-in_err-fill_below-in-Part-2-clause-kept : goal.returns-in_err-fill_below-in-Part-2-clause-kept
returns-in_err-fill_below-in-Part-2-clause-kept g t c =
    g.met.N.Nodes.keeps_on c.args.nodes.now c.fill_below.new.nodes c.fill_below-in-Part.new.nodes
    (g.met.N.Nodes.keeps_on c.args.nodes.now c.ask.new.nodes c.fill_below.new.nodes c.in_ok-left-in-Part.ensures.kept
    c.in_ok-fill_below-in-Part.ensures.kept)
    c.in_err-fill_below-in-Part-2.ensures.kept

pub returns-in_err-fill_below-in-Part-2-clause-cause : goal.returns-in_err-fill_below-in-Part-2-clause-cause
returns-in_err-fill_below-in-Part-2-clause-cause g t c =
    err_cause (HasCause (g.N.Nodes.view c.args.nodes.now) (g.N.Nodes.view c.fill_below-in-Part.new.nodes))
    c.from_residual-in_err-fill_below-in-Part-2.result
    c.in_err-fill_below-in-Part-2.field-0.0 c.from_residual-in_err-fill_below-in-Part-2.ensures.1
    (cause_before (g.N.Nodes.view c.args.nodes.now) (g.N.Nodes.view c.fill_below.new.nodes)
    (g.N.Nodes.view c.fill_below-in-Part.new.nodes) c.in_err-fill_below-in-Part-2.field-0.0
    (g.met.N.Nodes.keeps_same c.args.nodes.now c.fill_below.new.nodes
    (g.met.N.Nodes.keeps_on c.args.nodes.now c.ask.new.nodes c.fill_below.new.nodes c.in_ok-left-in-Part.ensures.kept
    c.in_ok-fill_below-in-Part.ensures.kept))
    (c.in_ok-fill_below-in-Part.ensures.quiet ∙ c.in_ok-left-in-Part.ensures.quiet) c.in_err-fill_below-in-Part-2.ensures.cause)

pub returns-in_ok-fill_below-in-Part-2-clause-kept : goal.returns-in_ok-fill_below-in-Part-2-clause-kept
returns-in_ok-fill_below-in-Part-2-clause-kept g t c =
    g.met.N.Nodes.keeps_on c.args.nodes.now c.fill_below.new.nodes c.fill_below-in-Part.new.nodes
    (g.met.N.Nodes.keeps_on c.args.nodes.now c.ask.new.nodes c.fill_below.new.nodes c.in_ok-left-in-Part.ensures.kept
    c.in_ok-fill_below-in-Part.ensures.kept)
    c.in_ok-fill_below-in-Part-2.ensures.kept

pub returns-in_ok-fill_below-in-Part-2-clause-below : goal.returns-in_ok-fill_below-in-Part-2-clause-below
returns-in_ok-fill_below-in-Part-2-clause-below g t c =
    both_below_at c.args.key c.left.result c.right.result _ _ _ _ (omega (arith, c.if-key-eq0.false)) c.left.ensures c.right.ensures
    c.in_ok-left-in-Part.ensures.asked c.in_ok-fill_below-in-Part.ensures.below c.in_ok-fill_below-in-Part-2.ensures.below

pub returns-in_ok-fill_below-in-Part-2-clause-list : goal.returns-in_ok-fill_below-in-Part-2-clause-list
returns-in_ok-fill_below-in-Part-2-clause-list g t c = λ list agrees h.
    let low : 1 ≤ c.args.key.level = omega (arith, c.if-key-eq0.false) in
    let asked : StaysSame (g.N.Nodes.view c.args.nodes.now) (g.N.Nodes.view c.ask.new.nodes) =
    g.met.N.Nodes.keeps_same c.args.nodes.now c.ask.new.nodes c.in_ok-left-in-Part.ensures.kept in
    let walked : StaysSame (g.N.Nodes.view c.ask.new.nodes) (g.N.Nodes.view c.fill_below.new.nodes) =
    g.met.N.Nodes.keeps_same c.ask.new.nodes c.fill_below.new.nodes c.in_ok-fill_below-in-Part.ensures.kept in
    let then : Agrees (g.N.Nodes.view c.ask.new.nodes) list =
    still_agrees (g.N.Nodes.view c.args.nodes.now) (g.N.Nodes.view c.ask.new.nodes) list asked agrees in
    let later : Agrees (g.N.Nodes.view c.fill_below.new.nodes) list =
    still_agrees (g.N.Nodes.view c.ask.new.nodes) (g.N.Nodes.view c.fill_below.new.nodes) list walked then in
    fills_right c.args.scan.now c.args.filter.now list c.args.key c.right.result c.fill_below-in-Part.new.table low c.right.ensures
    (c.in_ok-fill_below-in-Part-2.ensures.list list later
    (fills_middle c.args.scan.now c.args.filter.now list c.args.key c.left.result c.right.result c.fill_below.new.table low c.left.ensures
    c.right.ensures
    (c.in_ok-fill_below-in-Part.ensures.list list then
    (fills_left c.args.scan.now c.args.filter.now list c.args.key c.left.result c.args.table.now low c.left.ensures h))))

pub returns-in_err-row-in-Everything-clause-reads : goal.returns-in_err-row-in-Everything-clause-reads
returns-in_err-row-in-Everything-clause-reads g t c =
    whole_asks c.args.scan.now c.args.key c.in-Everything.column _ _ c.in-Everything.ensures.inside c.in_err-row-in-Everything.ensures.reads

pub returns-in_ok-row-in-Everything-clause-reads : goal.returns-in_ok-row-in-Everything-clause-reads
returns-in_ok-row-in-Everything-clause-reads g t c =
    whole_asks c.args.scan.now c.args.key c.in-Everything.column _ _ c.in-Everything.ensures.inside c.in_ok-row-in-Everything.ensures.reads

pub returns-in_err-left-in-Part-clause-reads : goal.returns-in_err-left-in-Part-clause-reads
returns-in_err-left-in-Part-clause-reads g t c =
    reads_once c.args.scan.now c.args.key (left_of c.args.key) (right_of c.args.key) _ _
    (omega (arith, c.if-key-eq0.false)) c.in-Part.ensures refl refl (c.in_err-left-in-Part.ensures.one_read c.requires.follows)

pub returns-in_err-fill_below-in-Part-clause-reads : goal.returns-in_err-fill_below-in-Part-clause-reads
returns-in_err-fill_below-in-Part-clause-reads g t c =
    reads_first c.args.scan.now c.args.key c.left.result (right_of c.args.key) _ _ _
    (omega (arith, c.if-key-eq0.false)) c.in-Part.ensures c.left.ensures refl
    (c.in_ok-left-in-Part.ensures.one_read c.requires.follows) c.in_err-fill_below-in-Part.ensures.reads

pub returns-in_err-fill_below-in-Part-2-clause-reads : goal.returns-in_err-fill_below-in-Part-2-clause-reads
returns-in_err-fill_below-in-Part-2-clause-reads g t c =
    reads_both c.args.scan.now c.args.key c.left.result c.right.result _ _ _ _
    (omega (arith, c.if-key-eq0.false)) c.in-Part.ensures c.left.ensures c.right.ensures
    (c.in_ok-left-in-Part.ensures.one_read c.requires.follows) c.in_ok-fill_below-in-Part.ensures.reads
    c.in_err-fill_below-in-Part-2.ensures.reads

pub returns-in_ok-fill_below-in-Part-2-clause-reads : goal.returns-in_ok-fill_below-in-Part-2-clause-reads
returns-in_ok-fill_below-in-Part-2-clause-reads g t c =
    reads_both c.args.scan.now c.args.key c.left.result c.right.result _ _ _ _
    (omega (arith, c.if-key-eq0.false)) c.in-Part.ensures c.left.ensures c.right.ensures
    (c.in_ok-left-in-Part.ensures.one_read c.requires.follows) c.in_ok-fill_below-in-Part.ensures.reads
    c.in_ok-fill_below-in-Part-2.ensures.reads

pub returns-in_err-row-in-Everything-clause-cause : goal.returns-in_err-row-in-Everything-clause-cause
returns-in_err-row-in-Everything-clause-cause g t c =
    err_cause _ _ c.in_err-row-in-Everything.field-0.0 c.from_residual.ensures.1 c.in_err-row-in-Everything.ensures.cause

pub returns-in_err-row-in-Everything-clause-quiet_err : goal.returns-in_err-row-in-Everything-clause-quiet_err
returns-in_err-row-in-Everything-clause-quiet_err g t c =
    err_cause _ _ c.in_err-row-in-Everything.field-0.0 c.from_residual.ensures.1 c.in_err-row-in-Everything.ensures.quiet_err

pub returns-in_err-left-in-Part-clause-cause : goal.returns-in_err-left-in-Part-clause-cause
returns-in_err-left-in-Part-clause-cause g t c =
    err_cause _ _ c.in_err-left-in-Part.field-0.0 c.from_residual-in_err-left-in-Part.ensures.1 c.in_err-left-in-Part.ensures.cause

pub returns-in_err-left-in-Part-clause-quiet_err : goal.returns-in_err-left-in-Part-clause-quiet_err
returns-in_err-left-in-Part-clause-quiet_err g t c =
    err_cause _ _ c.in_err-left-in-Part.field-0.0 c.from_residual-in_err-left-in-Part.ensures.1 c.in_err-left-in-Part.ensures.quiet_err

pub returns-in_err-fill_below-in-Part-clause-kept : goal.returns-in_err-fill_below-in-Part-clause-kept
returns-in_err-fill_below-in-Part-clause-kept g t c =
    g.met.N.Nodes.keeps_on c.args.nodes.now c.ask.new.nodes c.fill_below.new.nodes c.in_ok-left-in-Part.ensures.kept
    c.in_err-fill_below-in-Part.ensures.kept

pub returns-in_err-fill_below-in-Part-clause-faults : goal.returns-in_err-fill_below-in-Part-clause-faults
returns-in_err-fill_below-in-Part-clause-faults g t c =
    le_trans c.in_ok-left-in-Part.ensures.faults c.in_err-fill_below-in-Part.ensures.faults

pub returns-in_err-fill_below-in-Part-clause-cause : goal.returns-in_err-fill_below-in-Part-clause-cause
returns-in_err-fill_below-in-Part-clause-cause g t c =
    err_cause _ _ c.in_err-fill_below-in-Part.field-0.0 c.from_residual-in_err-fill_below-in-Part.ensures.1
    (cause_before (g.N.Nodes.view c.args.nodes.now) (g.N.Nodes.view c.ask.new.nodes)
    (g.N.Nodes.view c.fill_below.new.nodes) c.in_err-fill_below-in-Part.field-0.0
    (g.met.N.Nodes.keeps_same c.args.nodes.now c.ask.new.nodes c.in_ok-left-in-Part.ensures.kept) c.in_ok-left-in-Part.ensures.quiet
    c.in_err-fill_below-in-Part.ensures.cause)

pub returns-in_err-fill_below-in-Part-clause-quiet_err : goal.returns-in_err-fill_below-in-Part-clause-quiet_err
returns-in_err-fill_below-in-Part-clause-quiet_err g t c =
    err_cause _ _ c.in_err-fill_below-in-Part.field-0.0 c.from_residual-in_err-fill_below-in-Part.ensures.1
    (λ ne. c.in_err-fill_below-in-Part.ensures.quiet_err ne ∙ c.in_ok-left-in-Part.ensures.quiet)

pub returns-in_err-fill_below-in-Part-2-clause-faults : goal.returns-in_err-fill_below-in-Part-2-clause-faults
returns-in_err-fill_below-in-Part-2-clause-faults g t c =
    le_trans c.in_ok-left-in-Part.ensures.faults (le_trans c.in_ok-fill_below-in-Part.ensures.faults
    c.in_err-fill_below-in-Part-2.ensures.faults)

pub returns-in_err-fill_below-in-Part-2-clause-quiet_err : goal.returns-in_err-fill_below-in-Part-2-clause-quiet_err
returns-in_err-fill_below-in-Part-2-clause-quiet_err g t c =
    err_cause _ _ c.in_err-fill_below-in-Part-2.field-0.0 c.from_residual-in_err-fill_below-in-Part-2.ensures.1
    (λ ne. c.in_err-fill_below-in-Part-2.ensures.quiet_err ne
    ∙ (c.in_ok-fill_below-in-Part.ensures.quiet ∙ c.in_ok-left-in-Part.ensures.quiet))

pub returns-in_ok-fill_below-in-Part-2-clause-faults : goal.returns-in_ok-fill_below-in-Part-2-clause-faults
returns-in_ok-fill_below-in-Part-2-clause-faults g t c =
    le_trans c.in_ok-left-in-Part.ensures.faults (le_trans c.in_ok-fill_below-in-Part.ensures.faults
    c.in_ok-fill_below-in-Part-2.ensures.faults)

pub returns-in_ok-fill_below-in-Part-2-clause-quiet : goal.returns-in_ok-fill_below-in-Part-2-clause-quiet
returns-in_ok-fill_below-in-Part-2-clause-quiet g t c =
    c.in_ok-fill_below-in-Part-2.ensures.quiet ∙ (c.in_ok-fill_below-in-Part.ensures.quiet ∙ c.in_ok-left-in-Part.ensures.quiet)

pub returns-in_ok-fill_below-in-Part-2-clause-shown : goal.returns-in_ok-fill_below-in-Part-2-clause-shown
returns-in_ok-fill_below-in-Part-2-clause-shown g t c = λ h. c.in_ok-fill_below-in-Part-2.ensures.shown
    (c.in_ok-fill_below-in-Part.ensures.shown h)
