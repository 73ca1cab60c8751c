use Rattle.std.proofs.Common.{◌≡◌, ◌<◌, ℕ, List, Some, sym, ap, subst, arith, ◌∙◌}
use Rattle.node_page.specs.Fields.{child_at}
use Rattle.page_space.specs.declared.superblock.Superblock.{Superblock}
use Rattle.tree_walk.specs.Trees.{HoldsNodes}
use Rattle.path_repair.proofs.FormLemmas.{ok_no_err}
use Rattle.series_store.specs.declared.errors.StoreError.TheVariants.{DiskFault}
use Rattle.series_store.proofs.LookLemmas.{looks_read}
use Rattle.series_store.proofs.TreeCountLemmas.{read_cause, sound_total, within_here}
use Rattle.series_store.proofs.counting.read_page.Goals as goal

pub returns-clause-looks : goal.returns-clause-looks
returns-clause-looks g c =
    looks_read (g.P.Pages.told c.args.space.now.pages) (g.P.Pages.told c.get.new.self.pages) (g.P.Pages.view c.args.space.now.pages)
    (g.P.Pages.view c.get.new.self.pages) (g.P.Pages.under c.args.space.now.pages)
    (g.P.Pages.under c.get.new.self.pages) c.args.space.now.superblock c.get.new.self.superblock
    c.get.ensures.reads c.get.ensures.superblock c.get.ensures.goes_on

pub returns-clause-cause : goal.returns-clause-cause
returns-clause-cause g c =
    read_cause c.spread.result (g.P.Pages.told c.args.space.now.pages) (g.P.Pages.view c.args.space.now.pages)
    (g.P.Pages.view c.get.new.self.pages) c.args.space.now.superblock.total c.total.result c.args.level c.args.page
    (Some c.args.top) c.get.new.out
    (c.total.ensures.total ∙ ap (λ (s : Superblock). s.total) c.get.ensures.superblock) c.in-Ok.ensures.page c.spread.ensures.damaged
    c.spread.ensures.bad

pub returns-clause-sound : goal.returns-clause-sound
returns-clause-sound g c =
    sound_total c.spread.result c.args.space.now.superblock.total c.total.result c.args.level c.get.new.out
    (c.total.ensures.total ∙ ap (λ (s : Superblock). s.total) c.get.ensures.superblock) c.spread.ensures.sound

pub returns-clause-tops : goal.returns-clause-tops
returns-clause-tops g c = λ list under index told is slots holds top.
    let read = c.in-Ok.ensures.page told in
    let H : List ℕ → Type 0 = λ page. HoldsNodes list c.args.level index page in
    c.spread.ensures.tops list under index is slots (subst H (sym read) holds) top

pub returns-clause-stands : goal.returns-clause-stands
returns-clause-stands g c = λ list under index told is slots holds top children.
    let read = c.in-Ok.ensures.page told in
    let H : List ℕ → Type 0 = λ page. HoldsNodes list c.args.level index page in
    let C : List ℕ → Type 0 = λ page. (child : ℕ) → child < 128 → child_at page child < c.args.space.now.superblock.total in
    let within = subst C (sym read) children in
    ok_no_err c.spread.result (λ e. e ≡ DiskFault) (c.spread.ensures.stands list under index is slots (subst H (sym read) holds) top
    (λ child low. omega (
      arith,
      within child low,
      c.total.ensures.total,
      ap (λ (one : Superblock). one.total) c.get.ensures.superblock,
    )))

pub returns-clause-within : goal.returns-clause-within
returns-clause-within g c = within_here c.spread.result c.args.space.now.superblock.total c.args.page c.requires.page
    c.spread.ensures.damaged
