use Rattle.std.proofs.Common.{List, ◌*◌, length, arith, subst, sym, ap, ◌∙◌, ◌≡◌}
use Rattle.om3_coeff.specs.Keys.{top_key, height}
use Rattle.om3_coeff.proofs.WalkLemmas.{at_top}
use Rattle.m4_groups.specs.declared.row.Row.{Row}
use Rattle.filter_scan.specs.Answers.{HasRows}
use Rattle.filter_scan.proofs.AskLaws.{top_asks}
use Rattle.filter_scan.proofs.PointLaws.{has_rows}
use Rattle.filter_scan.proofs.rows.rows_by_table.Goals as goal

pub fill_below-requires-clause-reached : goal.fill_below-requires-clause-reached
fill_below-requires-clause-reached g c =
    at_top (g.N.Nodes.view c.args.nodes.now) c.top_key-top.result c.root-root.result c.slots.result c.slots.ensures.slots
    c.root-root.ensures.root
    (c.root-root.ensures.proper c.requires.fit) c.top_key-top.ensures

pub returns-clause-found : goal.returns-clause-found
returns-clause-found g c =
    let P : List Row → Type 0 = λ rows. HasRows (g.N.Nodes.view c.args.nodes.now) c.args.scan.now c.args.filter.now rows in
    let same : length c.fill_below.new.table ≡ length c.args.table.now = omega arith in
    subst P (sym c.in_ok-rows_in.ensures)
    (has_rows (g.N.Nodes.view c.args.nodes.now) c.args.scan.now c.args.filter.now c.top_key-top.result c.args.table.now
    c.fill_below.new.table
    (c.top_key-top.ensures ∙ ap top_key c.slots.ensures.slots) c.requires.sized same c.requires.empty c.in_ok-fill_below.ensures.list
    c.in_ok-fill_below.ensures.shown)

pub returns-in_err-fill_below-clause-reads : goal.returns-in_err-fill_below-clause-reads
returns-in_err-fill_below-clause-reads g c =
    omega (
      arith,
      top_asks c.args.scan.now c.slots.result (g.N.Nodes.view c.args.nodes.now).slots _ _ c.top_key-top.result c.slots.ensures.slots
          c.top_key-top.ensures c.in_err-fill_below.ensures.reads,
      ap (λ n. 2 * height n) c.requires.slots,
    )

pub returns-in_err-rows_in-clause-reads : goal.returns-in_err-rows_in-clause-reads
returns-in_err-rows_in-clause-reads g c =
    omega (
      arith,
      top_asks c.args.scan.now c.slots.result (g.N.Nodes.view c.args.nodes.now).slots _ _ c.top_key-top.result c.slots.ensures.slots
          c.top_key-top.ensures c.in_ok-fill_below.ensures.reads,
      ap (λ n. 2 * height n) c.requires.slots,
    )

pub returns-clause-reads : goal.returns-clause-reads
returns-clause-reads g c =
    omega (
      arith,
      top_asks c.args.scan.now c.slots.result (g.N.Nodes.view c.args.nodes.now).slots _ _ c.top_key-top.result c.slots.ensures.slots
          c.top_key-top.ensures c.in_ok-fill_below.ensures.reads,
      ap (λ n. 2 * height n) c.requires.slots,
    )
