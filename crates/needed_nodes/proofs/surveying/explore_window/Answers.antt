use Rattle.std.proofs.Common.{◌∙◌}
use Rattle.std.proofs.lemmas.Result.{IfOk-weaker, IfErr-weaker}
use Rattle.om3_coeff.specs.View.{StaysSame}
use Rattle.om3_coeff.proofs.WalkLemmas.{key_small}
use Rattle.needed_nodes.proofs.ServeLaws.{serves_earlier, serves_list_earlier}
use Rattle.needed_nodes.proofs.StepLaws.{cause_earlier, err_cause}
use Rattle.needed_nodes.proofs.ExploreLaws.{top_ready, top_follows, top_topmost, found_blocks, found_ends, found_spans, reads_found}
use Rattle.needed_nodes.proofs.ExploreLaws.{reads_all, explores_window}
use Rattle.needed_nodes.proofs.surveying.explore_window.Goals as goal

pub top_key-top-requires : goal.top_key-top-requires
top_key-top-requires g c = c.slots.ensures.few c.requires.fit

pub ranks_of-ranks-requires : goal.ranks_of-ranks-requires
ranks_of-ranks-requires g c =
    let ready = top_ready (g.N.Nodes.view c.args.nodes.now) c.args.window.now c.top_key-top.result c.root-root.result c.slots.result
    c.requires.fit c.requires.slots c.slots.ensures.slots c.top_key-top.ensures
    c.root-root.ensures.root (c.root-root.ensures.proper c.requires.fit) in
    key_small c.args.window.now.axis.slots c.top_key-top.result ready.key

pub find_blocks-requires-clause-ready : goal.find_blocks-requires-clause-ready
find_blocks-requires-clause-ready g c =
    top_ready (g.N.Nodes.view c.args.nodes.now) c.args.window.now c.top_key-top.result c.root-root.result c.slots.result c.requires.fit
    c.requires.slots c.slots.ensures.slots c.top_key-top.ensures
    c.root-root.ensures.root (c.root-root.ensures.proper c.requires.fit)

pub find_blocks-requires-clause-follows : goal.find_blocks-requires-clause-follows
find_blocks-requires-clause-follows g c = top_follows
    (g.N.Nodes.view c.args.nodes.now) c.top_key-top.result c.slots.result c.slots.ensures.slots c.top_key-top.ensures

pub find_blocks-requires-clause-top : goal.find_blocks-requires-clause-top
find_blocks-requires-clause-top g c =
    top_topmost (g.N.Nodes.view c.args.nodes.now) c.args.window.now c.top_key-top.result c.slots.result c.requires.slots
    c.slots.ensures.slots c.top_key-top.ensures

pub returns-in_err-find_blocks-clause-reads : goal.returns-in_err-find_blocks-clause-reads
returns-in_err-find_blocks-clause-reads g c =
    reads_found (g.N.Nodes.view c.args.nodes.now) c.args.window.now c.top_key-top.result c.slots.result
    (g.N.Nodes.view c.args.nodes.now).reads (g.N.Nodes.view c.find_blocks.new.nodes).reads
    c.requires.slots c.slots.ensures.slots c.top_key-top.ensures c.in_err-find_blocks.ensures.reads

pub returns-in_err-find_blocks-clause-cause : goal.returns-in_err-find_blocks-clause-cause
returns-in_err-find_blocks-clause-cause g c = err_cause _ _ c.in_err-find_blocks.field-0.0 c.from_residual.ensures.1
    c.in_err-find_blocks.ensures.cause

pub rows_of_columns-requires-clause-slots : goal.rows_of_columns-requires-clause-slots
rows_of_columns-requires-clause-slots g c =
    let same : StaysSame (g.N.Nodes.view c.args.nodes.now) (g.N.Nodes.view c.find_blocks.new.nodes) =
    g.met.N.Nodes.keeps_same c.args.nodes.now c.find_blocks.new.nodes c.in_ok-find_blocks.ensures.kept in
    same.slots ∙ c.requires.slots

pub rows_of_columns-requires-clause-held : goal.rows_of_columns-requires-clause-held
rows_of_columns-requires-clause-held g c =
    found_blocks (g.N.Nodes.view c.args.nodes.now) c.args.window.now c.top_key-top.result c.slots.result c.args.table.now
    c.find_blocks.new.table c.requires.slots c.slots.ensures.slots
    c.top_key-top.ensures c.requires.sized c.requires.empty c.in_ok-find_blocks.ensures.found.blocks

pub rows_of_columns-requires-clause-ends : goal.rows_of_columns-requires-clause-ends
rows_of_columns-requires-clause-ends g c = λ S served.
    let same : StaysSame (g.N.Nodes.view c.args.nodes.now) (g.N.Nodes.view c.find_blocks.new.nodes) =
    g.met.N.Nodes.keeps_same c.args.nodes.now c.find_blocks.new.nodes c.in_ok-find_blocks.ensures.kept in
    found_ends (g.N.Nodes.view c.args.nodes.now) S c.args.window.now c.top_key-top.result c.slots.result c.args.table.now
    c.find_blocks.new.table c.requires.slots c.slots.ensures.slots
    (c.slots.ensures.few c.requires.fit) c.top_key-top.ensures c.requires.sized c.requires.empty
    (c.in_ok-find_blocks.ensures.found.ends S (serves_earlier (g.N.Nodes.view c.args.nodes.now) _ c.args.window.now S same served))

pub rows_of_columns-requires-clause-spans : goal.rows_of_columns-requires-clause-spans
rows_of_columns-requires-clause-spans g c = λ list served.
    let same : StaysSame (g.N.Nodes.view c.args.nodes.now) (g.N.Nodes.view c.find_blocks.new.nodes) =
    g.met.N.Nodes.keeps_same c.args.nodes.now c.find_blocks.new.nodes c.in_ok-find_blocks.ensures.kept in
    found_spans (g.N.Nodes.view c.args.nodes.now) list c.args.window.now c.top_key-top.result c.slots.result c.args.table.now
    c.find_blocks.new.table c.requires.slots c.slots.ensures.slots
    (c.slots.ensures.few c.requires.fit) c.top_key-top.ensures c.requires.sized c.requires.empty
    (c.in_ok-find_blocks.ensures.found.spans list (serves_list_earlier
    (g.N.Nodes.view c.args.nodes.now) _ c.args.window.now list same served))

pub returns-clause-found : goal.returns-clause-found
returns-clause-found g c =
    IfOk-weaker c.rows_of_columns.result _ _
    (λ rows h. explores_window (g.N.Nodes.view c.args.nodes.now)
    (g.N.Nodes.view c.find_blocks.new.nodes) c.args.window.now c.top_key-top.result c.slots.result _ _ _ rows.items
    c.requires.slots c.slots.ensures.slots c.top_key-top.ensures
    (g.met.N.Nodes.keeps_same c.args.nodes.now c.find_blocks.new.nodes c.in_ok-find_blocks.ensures.kept)
    c.in_ok-find_blocks.ensures.found.cuts h)
    c.rows_of_columns.ensures.found

pub returns-clause-kept : goal.returns-clause-kept
returns-clause-kept g c =
    g.met.N.Nodes.keeps_on c.args.nodes.now c.find_blocks.new.nodes c.rows_of_columns.new.nodes c.in_ok-find_blocks.ensures.kept
    c.rows_of_columns.ensures.kept

pub returns-clause-reads : goal.returns-clause-reads
returns-clause-reads g c =
    reads_all (g.N.Nodes.view c.args.nodes.now) c.args.window.now c.top_key-top.result c.slots.result
    (g.N.Nodes.view c.args.nodes.now).reads (g.N.Nodes.view c.find_blocks.new.nodes).reads
    (g.N.Nodes.view c.rows_of_columns.new.nodes).reads c.requires.slots c.slots.ensures.slots c.top_key-top.ensures
    c.in_ok-find_blocks.ensures.reads c.rows_of_columns.ensures.reads

pub returns-clause-cause : goal.returns-clause-cause
returns-clause-cause g c =
    IfErr-weaker c.rows_of_columns.result _ _
    (λ e h. cause_earlier (g.N.Nodes.view c.args.nodes.now) (g.N.Nodes.view c.find_blocks.new.nodes)
    (g.N.Nodes.view c.rows_of_columns.new.nodes) c.args.window.now e
    (g.met.N.Nodes.keeps_same c.args.nodes.now c.find_blocks.new.nodes c.in_ok-find_blocks.ensures.kept) c.in_ok-find_blocks.ensures.quiet
    h)
    c.rows_of_columns.ensures.cause
