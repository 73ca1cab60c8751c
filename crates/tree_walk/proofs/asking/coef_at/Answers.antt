use Rattle.std.proofs.Common.{◌≡◌, ◌<◌, ◌∙◌, ℕ, List, Option, None, length, refl, sym, subst, arith}
use Rattle.block_disk.specs.View.{View}
use Rattle.om3_coeff.specs.declared.key.Key.{Key}
use Rattle.om3_coeff.specs.declared.errors.NodeError.{NodeError}
use Rattle.node_page.specs.Layout.{KeepsLayout}
use Rattle.tree_walk.specs.declared.tree.Tree.{Tree}
use Rattle.tree_walk.specs.declared.trail.Trail.{Trail}
use Rattle.tree_walk.specs.Holding.{IsCauseOf, KeptWalking}
use Rattle.tree_walk.specs.PagedNodes.{Ground, IsFit, IsTrail, Keeps}
use Rattle.tree_walk.specs.SpaceViews.{StaysOn}
use Rattle.tree_walk.specs.Trails.{LeadsToAny}
use Rattle.tree_walk.proofs.TrailLemmas.{number_is, bytes_are}
use Rattle.tree_walk.proofs.StepLemmas.{error_so}
use Rattle.tree_walk.proofs.AskLemmas.{end_keeps, end_coef, end_told, end_bad, end_way, path_cause, path_way, splits_none}
use Rattle.tree_walk.specs.Walk as walk
use Rattle.page_space.specs.Shown as shown
use Rattle.tree_walk.proofs.asking.coef_at.Goals as goal

-- what the way keeps, an ask keeps
way_keeps : (old new : Ground) → KeptWalking old.told new.told old.view new.view → StaysOn old.superblock new.superblock old.under new.under
    → new.count ≡ old.count → new.tree ≡ old.tree → Keeps old new
way_keeps old new kept over count tree = record {
  tree = tree;
  superblock = over.superblock;
  goes_on = over.goes_on;
  time = kept.time;
  told = kept.told;
  was_told = kept.was_told;
  image = kept.image;
  size = kept.size;
  count = count;
  beside = kept.beside;
  fit = kept.fit;
  syncs = kept.syncs;
  writes = kept.writes;
}

-- the nodes may be asked again, with another trail
fit_still : (told told' : Type 0) (old new : View) (tree : Tree) (trail trail' : Trail) → KeptWalking told told' old new
    → IsFit told old tree trail → IsTrail told' new tree trail' → IsFit told' new tree trail'
fit_still told told' old new tree trail trail' kept fit is = record {
  sound = kept.fit fit.sound;
  few = fit.few;
  root = omega (arith, fit.root, kept.size);
  proper = fit.proper;
  trail_is = is;
}

leads_none : (tree : Tree) (trail : Trail) (asked : Option Key) → asked ≡ None → LeadsToAny tree trail.pages.items trail.len asked
leads_none tree trail asked is = subst (λ (a : Option Key). LeadsToAny tree trail.pages.items trail.len a) (sym is) tt

pub returns-in_err-depth-clause-fit : goal.returns-in_err-depth-clause-fit
returns-in_err-depth-clause-fit g c =
    let trail = c.reach.new.trail in
    fit_still (shown.IsTold c.args.space.now) (shown.IsTold c.reach.new.space) (walk.pages c.args.space.now)
    (walk.pages c.reach.new.space) c.args.tree c.args.trail.now trail c.reach.ensures.kept c.requires.fit
    (record { held = c.reach.ensures.held; leads = leads_none c.args.tree trail trail.asked c.reach.ensures.asked })

pub returns-then-is_err-clause-fit : goal.returns-then-is_err-clause-fit
returns-then-is_err-clause-fit g c =
    let trail = c.reach.new.trail in
    fit_still (shown.IsTold c.args.space.now) (shown.IsTold c.reach.new.space) (walk.pages c.args.space.now)
    (walk.pages c.reach.new.space) c.args.tree c.args.trail.now trail c.reach.ensures.kept c.requires.fit
    (record { held = c.reach.ensures.held; leads = leads_none c.args.tree trail trail.asked c.reach.ensures.asked })

pub returns-in_err-depth-clause-kept : goal.returns-in_err-depth-clause-kept
returns-in_err-depth-clause-kept g c = way_keeps (walk.under c.args.space.now c.args.tree)
    (walk.under c.reach.new.space c.args.tree) c.reach.ensures.kept c.reach.ensures.over c.reach.ensures.count refl

pub returns-in_err-depth-clause-faults : goal.returns-in_err-depth-clause-faults
returns-in_err-depth-clause-faults g c = c.reach.ensures.kept.faults

pub returns-in_err-depth-clause-reads : goal.returns-in_err-depth-clause-reads
returns-in_err-depth-clause-reads g c = c.reach.ensures.reads

pub returns-then-is_err-clause-kept : goal.returns-then-is_err-clause-kept
returns-then-is_err-clause-kept g c = way_keeps (walk.under c.args.space.now c.args.tree)
    (walk.under c.reach.new.space c.args.tree) c.reach.ensures.kept c.reach.ensures.over c.reach.ensures.count refl

pub returns-then-is_err-clause-faults : goal.returns-then-is_err-clause-faults
returns-then-is_err-clause-faults g c = c.reach.ensures.kept.faults

pub returns-then-is_err-clause-reads : goal.returns-then-is_err-clause-reads
returns-then-is_err-clause-reads g c = c.reach.ensures.reads

pub returns-clause-kept : goal.returns-clause-kept
returns-clause-kept g c = way_keeps (walk.under c.args.space.now c.args.tree)
    (walk.under c.reach.new.space c.args.tree) c.reach.ensures.kept c.reach.ensures.over c.reach.ensures.count refl

pub returns-clause-faults : goal.returns-clause-faults
returns-clause-faults g c = c.reach.ensures.kept.faults

pub returns-clause-reads : goal.returns-clause-reads
returns-clause-reads g c = c.reach.ensures.reads

pub returns-in_err-depth-clause-cause : goal.returns-in_err-depth-clause-cause
returns-in_err-depth-clause-cause g c =
    let C : NodeError → Type 0 = λ e. IsCauseOf (shown.IsTold c.args.space.now) (walk.pages c.args.space.now)
    (walk.pages c.reach.new.space) c.args.tree c.args.key e in
    error_so _ _ c.from_residual.result c.from_residual.ensures.1
    (λ e is. path_cause (walk.under c.args.space.now c.args.tree)
    (walk.under c.reach.new.space c.args.tree) c.args.trail.now c.reach.new.trail c.args.key c.args.span e c.requires.key
    c.requires.seen
    (subst C (sym is) c.in_err-depth.ensures.cause))

pub returns-in_err-depth-clause-damaged : goal.returns-in_err-depth-clause-damaged
returns-in_err-depth-clause-damaged g c =
    let C : NodeError → Type 0 = λ e. IsCauseOf (shown.IsTold c.args.space.now) (walk.pages c.args.space.now)
    (walk.pages c.reach.new.space) c.args.tree c.args.key e in
    error_so _ _ c.from_residual.result c.from_residual.ensures.1
    (λ e is. path_way (shown.IsTold c.args.space.now) (walk.pages c.args.space.now)
    (walk.pages c.reach.new.space) c.args.tree c.args.key c.args.span e c.requires.key c.requires.seen
    (subst C (sym is) c.in_err-depth.ensures.cause))

pub of-requires-clause-keeps : goal.of-requires-clause-keeps
of-requires-clause-keeps g c =
    let trail = c.reach.new.trail in
    let depth = c.in_ok-depth.depth in
    let page = c.index-page.result.now in
    let bytes = bytes_are trail.pages.items depth page
    (omega (arith, trail.room, trail.few, c.in_ok-depth.ensures.depth, c.in_ok-depth.ensures.leads.long)) c.index-page.ensures in
    let P : List ℕ → Type 0 = λ b. KeepsLayout b in
    subst P (bytes ∙ sym c.as_slice.ensures.value)
    (end_keeps (shown.IsTold c.reach.new.space) (walk.pages c.reach.new.space).image
    (walk.pages c.reach.new.space).size c.args.tree trail.pages.items trail.len c.args.key depth c.reach.ensures.held
    c.in_ok-depth.ensures.leads c.in_ok-depth.ensures.depth)

pub returns-then-is_err-clause-one_read : goal.returns-then-is_err-clause-one_read
returns-then-is_err-clause-one_read g c = c.reach.ensures.one_read

pub returns-then-is_err-clause-cause : goal.returns-then-is_err-clause-cause
returns-then-is_err-clause-cause g c =
    let trail = c.reach.new.trail in
    let depth = c.in_ok-depth.depth in
    let page = c.index-page.result.now in
    let within : depth < length trail.pages.items = omega (
      arith,
      trail.room,
      trail.few,
      c.in_ok-depth.ensures.depth,
      c.in_ok-depth.ensures.leads.long,
    ) in
    let bytes = bytes_are trail.pages.items depth page within c.index-page.ensures in
    let coef = end_coef trail.pages.items depth c.args.key c.coef_at-coef.result c.node_number.result c.of.result.bytes.now
    c.as_slice.result.now page.bytes.items
    c.coef_at-coef.ensures.coef c.of.ensures.bytes c.as_slice.ensures.value bytes c.node_number.ensures.node in
    let held = c.reach.ensures.held depth (omega (arith, c.in_ok-depth.ensures.depth, c.in_ok-depth.ensures.leads.long)) in (
      omega (arith, held.below, number_is trail.pages.items depth page within c.index-page.ensures, c.reach.ensures.kept.size),
      end_bad (shown.IsTold c.args.space.now) (shown.IsTold c.reach.new.space) (walk.pages c.args.space.now)
          (walk.pages c.reach.new.space) c.args.tree trail.pages.items trail.len c.args.key c.args.span depth page.number
          c.coef_at-coef.result c.reach.ensures.kept c.reach.ensures.held
          c.in_ok-depth.ensures.leads c.in_ok-depth.ensures.depth c.requires.seen
          (number_is trail.pages.items depth page within c.index-page.ensures) coef
          (splits_none c.split.result c.args.span c.coef_at-coef.result (sym c.is_err.ensures.value
          ∙ c.if-is_err.true) c.split.ensures.none),
    )

pub returns-then-is_err-clause-damaged : goal.returns-then-is_err-clause-damaged
returns-then-is_err-clause-damaged g c =
    let trail = c.reach.new.trail in
    let depth = c.in_ok-depth.depth in
    let page = c.index-page.result.now in
    let within : depth < length trail.pages.items = omega (
      arith,
      trail.room,
      trail.few,
      c.in_ok-depth.ensures.depth,
      c.in_ok-depth.ensures.leads.long,
    ) in
    let bytes = bytes_are trail.pages.items depth page within c.index-page.ensures in
    let coef = end_coef trail.pages.items depth c.args.key c.coef_at-coef.result c.node_number.result c.of.result.bytes.now
    c.as_slice.result.now page.bytes.items
    c.coef_at-coef.ensures.coef c.of.ensures.bytes c.as_slice.ensures.value bytes c.node_number.ensures.node in
    end_way (shown.IsTold c.args.space.now) (shown.IsTold c.reach.new.space) (walk.pages c.args.space.now)
    (walk.pages c.reach.new.space) c.args.tree trail.pages.items trail.len c.args.key c.args.span depth page.number
    c.coef_at-coef.result c.reach.ensures.kept c.reach.ensures.held
    c.in_ok-depth.ensures.leads c.in_ok-depth.ensures.depth (number_is trail.pages.items depth page within c.index-page.ensures) coef
    (splits_none c.split.result c.args.span c.coef_at-coef.result (sym c.is_err.ensures.value ∙ c.if-is_err.true) c.split.ensures.none)

pub returns-clause-told : goal.returns-clause-told
returns-clause-told g c =
    let trail = c.reach.new.trail in
    let depth = c.in_ok-depth.depth in
    let page = c.index-page.result.now in
    let bytes = bytes_are trail.pages.items depth page
    (omega (arith, trail.room, trail.few, c.in_ok-depth.ensures.depth, c.in_ok-depth.ensures.leads.long)) c.index-page.ensures in
    let coef = end_coef trail.pages.items depth c.args.key c.coef_at-coef.result c.node_number.result c.of.result.bytes.now
    c.as_slice.result.now page.bytes.items
    c.coef_at-coef.ensures.coef c.of.ensures.bytes c.as_slice.ensures.value bytes c.node_number.ensures.node in
    end_told (shown.IsTold c.args.space.now) (shown.IsTold c.reach.new.space) (walk.pages c.args.space.now)
    (walk.pages c.reach.new.space) c.args.tree trail.pages.items trail.len c.args.key depth c.coef_at-coef.result c.reach.ensures.kept
    c.reach.ensures.held
    c.in_ok-depth.ensures.leads c.in_ok-depth.ensures.depth coef

pub returns-clause-one_read : goal.returns-clause-one_read
returns-clause-one_read g c = c.reach.ensures.one_read
