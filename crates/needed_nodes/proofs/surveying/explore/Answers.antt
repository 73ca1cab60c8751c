use Rattle.std.proofs.Common.{◌≡◌, ◌∙◌, List, length, ap, sym, subst, w64, rules, arith}
use Rattle.std.proofs.lemmas.Int.{to_z-of_z}
use Rattle.std.specs.Prelude.{Option, None, All}
use Rattle.needed_nodes.specs.declared.blocks.Blocks.{Blocks}
use Rattle.needed_nodes.proofs.StepLaws.{err_cause}
use Rattle.needed_nodes.proofs.ExploreLaws.{explores_as, explores_nothing, cause_for, reads_for}
use Rattle.needed_nodes.proofs.surveying.explore.Goals as goal

pub returns-in_default-clause-found : goal.returns-in_default-clause-found
returns-in_default-clause-found g c =
    explores_nothing (g.N.Nodes.view c.args.nodes.now) c.args.axis c.args.grid c.args.lo c.args.hi _ _ c.requires.slots c.new.ensures.items
    c.new-in_default.ensures.items c.in_default.ensures.none

pub explore_window-requires-clause-slots : goal.explore_window-requires-clause-slots
explore_window-requires-clause-slots g c =
    sym c.requires.slots ∙ ap (λ a. a.slots) (sym c.in-Some.ensures.axis)

pub explore_window-requires-clause-sized : goal.explore_window-requires-clause-sized
explore_window-requires-clause-sized g c =
    ap length c.deref_mut.ensures.value ∙ c.in_ok-table.ensures.sized ∙ c.w-2.ensures.value ∙ ap (λ g. g.w) (sym c.in-Some.ensures.grid)

pub explore_window-requires-clause-empty : goal.explore_window-requires-clause-empty
explore_window-requires-clause-empty g c =
    let P : List (Option Blocks) → Type 0 = λ t. All (λ entry. entry ≡ None) t in
    subst P (sym c.deref_mut.ensures.value) c.in_ok-table.ensures.empty

pub returns-in_err-rows-clause-cause : goal.returns-in_err-rows-clause-cause
returns-in_err-rows-clause-cause g c =
    err_cause _ _ c.in_err-rows.field-0.0 c.from_residual-in_err-rows.ensures.1
    (cause_for (g.N.Nodes.view c.args.nodes.now) (g.N.Nodes.view c.explore_window.new.nodes) c.in-Some.window c.args.axis c.args.grid
    c.args.lo c.args.hi c.in_err-rows.field-0.0 c.in-Some.ensures.axis c.in-Some.ensures.grid (c.in-Some.ensures.lo
    ∙ to_z-of_z w64 c.args.lo (search rules)) (c.in-Some.ensures.hi
    ∙ to_z-of_z w64 c.args.hi (search rules)) c.in_err-rows.ensures.cause)

pub returns-in_err-rows-clause-reads : goal.returns-in_err-rows-clause-reads
returns-in_err-rows-clause-reads g c =
    reads_for c.in-Some.window c.args.axis c.args.grid (g.N.Nodes.view c.args.nodes.now).reads
    (g.N.Nodes.view c.explore_window.new.nodes).reads c.in-Some.ensures.axis c.in-Some.ensures.grid c.in_err-rows.ensures.reads

pub returns-clause-reads : goal.returns-clause-reads
returns-clause-reads g c =
    reads_for c.in-Some.window c.args.axis c.args.grid (g.N.Nodes.view c.args.nodes.now).reads
    (g.N.Nodes.view c.explore_window.new.nodes).reads c.in-Some.ensures.axis c.in-Some.ensures.grid c.in_ok-rows.ensures.reads

pub returns-clause-found : goal.returns-clause-found
returns-clause-found g c =
    explores_as c.wanted_keys_are_needed.ensures.same
    (g.N.Nodes.view c.args.nodes.now) c.in-Some.window c.args.axis c.args.grid c.args.lo c.args.hi _ _ c.in_ok-rows.rows.items
    c.in-Some.ensures.axis c.in-Some.ensures.grid (c.in-Some.ensures.lo ∙ to_z-of_z w64 c.args.lo (search rules)) (c.in-Some.ensures.hi
    ∙ to_z-of_z w64 c.args.hi (search rules)) c.requires.slots
    c.in_ok-keys.ensures.items c.in_ok-rows.ensures.found

pub of-requires : goal.of-requires
of-requires g c = grind arith

pub returns-in_err-table : goal.returns-in_err-table
returns-in_err-table g c = grind arith
