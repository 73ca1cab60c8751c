use Rattle.std.proofs.Common.{Ok, Err, refl, sym, subst, arith, ◌∙◌}
use Rattle.path_repair.proofs.EditLemmas.{levels_few}
use Rattle.tree_walk.proofs.StepLemmas.{error_so}
use Rattle.om3_coeff.specs.Keys.{page_levels}
use Rattle.series_store.specs.Sending.{HasUnfitFrom, IsNoDamage, IsTextCause, SendsCut}
use Rattle.series_store.proofs.CutLemmas.{text_sent_cut, text_sent_cut_by, tree_cut}
use Rattle.series_store.specs.declared.send_errors.SendError.{SendError}
use Rattle.series_store.specs.declared.send_errors.SendError.TheVariants.{Damaged}
use Rattle.series_store.proofs.SendLemmas.{no_damage_by, sends_then, text_cause_then}
use Rattle.series_store.proofs.SeriesSendLemmas.{root_range, tree_sent, tree_sound, sent_at_end, part_at_end, part_at_damage, part_on_error}
use Rattle.series_store.proofs.SeriesSendLemmas.{so_on_error}
use Rattle.series_store.proofs.value_sending.send_tree.Goals as goal

pub send_below-requires-clause-level : goal.send_below-requires-clause-level
send_below-requires-clause-level g c = omega (arith, c.page_levels-levels.ensures.levels, levels_few c.args.tree.slots)

pub send_below-requires-clause-range : goal.send_below-requires-clause-range
send_below-requires-clause-range g c = root_range c.page_levels-levels.result
    (omega (arith, c.page_levels-levels.ensures.levels, levels_few c.args.tree.slots))

pub returns-in-Err-clause-part : goal.returns-in-Err-clause-part
returns-in-Err-clause-part g c = λ list told stands.
    part_on_error (g.T.Texts.may_be_said c.args.texts.now)
    (g.T.Texts.text c.args.texts.now) list c.args.out.now.items c.send_below.new.out.items (g.P.Pages.view c.args.space.now.pages)
    (g.P.Pages.view c.send_below.new.space.pages) (Err c.in-Err.error) c.in-Err.error refl
    (tree_sent (g.T.Texts.may_be_said c.args.texts.now) (g.T.Texts.text c.args.texts.now) list
    (g.P.Pages.view c.args.space.now.pages).image c.args.space.now.superblock.total c.page_levels-levels.result c.args.tree
    c.args.out.now.items c.send_below.new.out.items (g.P.Pages.view c.args.space.now.pages)
    (g.P.Pages.view c.send_below.new.space.pages) (Err c.in-Err.error) c.page_levels-levels.ensures.levels c.requires.few_slots stands
    (λ list slots tree top. c.in-Err.ensures.part list told slots tree top))

pub returns-in-Err-clause-reads : goal.returns-in-Err-clause-reads
returns-in-Err-clause-reads g c = λ list told stands.
    (tree_sent (g.T.Texts.may_be_said c.args.texts.now) (g.T.Texts.text c.args.texts.now) list
    (g.P.Pages.view c.args.space.now.pages).image c.args.space.now.superblock.total c.page_levels-levels.result c.args.tree
    c.args.out.now.items c.send_below.new.out.items (g.P.Pages.view c.args.space.now.pages)
    (g.P.Pages.view c.send_below.new.space.pages) (Err c.in-Err.error) c.page_levels-levels.ensures.levels c.requires.few_slots stands
    (λ list slots tree top. c.in-Err.ensures.part list told slots tree top)).reads

pub returns-in-Ok-clause-sent : goal.returns-in-Ok-clause-sent
returns-in-Ok-clause-sent g c = λ list told stands.
    sent_at_end (g.T.Texts.may_be_said c.args.texts.now)
    (g.T.Texts.text c.args.texts.now) list c.args.out.now.items c.send_below.new.out.items c.send_waiting.new.out.items
    (g.P.Pages.view c.args.space.now.pages) (g.P.Pages.view c.send_below.new.space.pages)
    (g.P.Pages.view c.send_waiting.new.space.pages) c.send_waiting.result
    (tree_sent (g.T.Texts.may_be_said c.args.texts.now) (g.T.Texts.text c.args.texts.now) list
    (g.P.Pages.view c.args.space.now.pages).image c.args.space.now.superblock.total c.page_levels-levels.result c.args.tree
    c.args.out.now.items c.send_below.new.out.items (g.P.Pages.view c.args.space.now.pages)
    (g.P.Pages.view c.send_below.new.space.pages) (Ok tt) c.page_levels-levels.ensures.levels c.requires.few_slots stands
    (λ list slots tree top. c.in-Ok.ensures.part list told slots tree top)) c.send_waiting.ensures.gives c.send_waiting.ensures.none

pub returns-in-Ok-clause-part : goal.returns-in-Ok-clause-part
returns-in-Ok-clause-part g c = λ list told stands.
    part_at_end (g.T.Texts.may_be_said c.args.texts.now)
    (g.T.Texts.text c.args.texts.now) list c.args.out.now.items c.send_below.new.out.items c.send_waiting.new.out.items
    (g.P.Pages.view c.args.space.now.pages) (g.P.Pages.view c.send_below.new.space.pages)
    (g.P.Pages.view c.send_waiting.new.space.pages) c.send_waiting.result
    (tree_sent (g.T.Texts.may_be_said c.args.texts.now) (g.T.Texts.text c.args.texts.now) list
    (g.P.Pages.view c.args.space.now.pages).image c.args.space.now.superblock.total c.page_levels-levels.result c.args.tree
    c.args.out.now.items c.send_below.new.out.items (g.P.Pages.view c.args.space.now.pages)
    (g.P.Pages.view c.send_below.new.space.pages) (Ok tt) c.page_levels-levels.ensures.levels c.requires.few_slots stands
    (λ list slots tree top. c.in-Ok.ensures.part list told slots tree top)) c.send_waiting.ensures.gives

pub returns-in-Ok-clause-reads : goal.returns-in-Ok-clause-reads
returns-in-Ok-clause-reads g c = λ list told stands.
    omega (
      arith,
      (tree_sent (g.T.Texts.may_be_said c.args.texts.now) (g.T.Texts.text c.args.texts.now) list
          (g.P.Pages.view c.args.space.now.pages).image c.args.space.now.superblock.total c.page_levels-levels.result c.args.tree
          c.args.out.now.items c.send_below.new.out.items (g.P.Pages.view c.args.space.now.pages)
          (g.P.Pages.view c.send_below.new.space.pages) (Ok tt) c.page_levels-levels.ensures.levels c.requires.few_slots stands
          (λ list slots tree top. c.in-Ok.ensures.part list told slots tree top)).reads,
      c.send_waiting.ensures.reads,
    )

pub returns-in-Ok-clause-sends : goal.returns-in-Ok-clause-sends
returns-in-Ok-clause-sends g c = sends_then _ _ _ _ _ _ _ _ _ _ _ _ c.send_below.ensures.sends c.send_waiting.ensures.sends

pub returns-in_err-send_waiting-in-Err-Damaged-clause-sends : goal.returns-in_err-send_waiting-in-Err-Damaged-clause-sends
returns-in_err-send_waiting-in-Err-Damaged-clause-sends g c = sends_then _ _ _ _ _ _ _ _ _ _ _ _ c.send_below.ensures.sends
    c.send_waiting-in-Err-Damaged.ensures.sends

pub returns-in_ok-send_waiting-in-Err-Damaged-clause-sends : goal.returns-in_ok-send_waiting-in-Err-Damaged-clause-sends
returns-in_ok-send_waiting-in-Err-Damaged-clause-sends g c = sends_then _ _ _ _ _ _ _ _ _ _ _ _ c.send_below.ensures.sends
    c.send_waiting-in-Err-Damaged.ensures.sends

pub returns-in-Ok-clause-cause : goal.returns-in-Ok-clause-cause
returns-in-Ok-clause-cause g c =
    let view = g.P.Pages.view in
    let mid = c.send_below.new.space in
    text_cause_then c.send_waiting.result _ _ (view mid.pages) _ _ _ _ _
    (c.in-Ok.ensures.quiet_sends (λ is. cc)) c.send_waiting.ensures.cause

pub returns-in_err-send_waiting-in-Err-Damaged-clause-cause : goal.returns-in_err-send_waiting-in-Err-Damaged-clause-cause
returns-in_err-send_waiting-in-Err-Damaged-clause-cause g c =
    let view = g.P.Pages.view in
    let mid = c.send_below.new.space in
    let new = c.send_waiting-in-Err-Damaged.new.space in
    let T : SendError → Type 0 = λ e. IsTextCause e (view mid.pages) (view new.pages) in
    text_cause_then c.from_residual.result _ _ (view mid.pages) _ _ _ _ _ (c.in-Err-Damaged.ensures.quiet_sends (λ is. cc))
    (error_so _ T c.from_residual.result c.from_residual.ensures.1
    (λ e same. subst T (sym same) c.in_err-send_waiting-in-Err-Damaged.ensures.cause))

pub returns-in-Ok-clause-quiet_sends : goal.returns-in-Ok-clause-quiet_sends
returns-in-Ok-clause-quiet_sends g c = λ other. c.send_waiting.ensures.quiet_sends other ∙ c.in-Ok.ensures.quiet_sends (λ is. cc)

-- where a page was damaged
pub returns-in_err-send_waiting-in-Err-Damaged-clause-part : goal.returns-in_err-send_waiting-in-Err-Damaged-clause-part
returns-in_err-send_waiting-in-Err-Damaged-clause-part g c = λ list told stands.
    so_on_error c.from_residual.result
    (part_at_damage (g.T.Texts.may_be_said c.args.texts.now)
    (g.T.Texts.text c.args.texts.now) list c.args.out.now.items c.send_below.new.out.items c.send_waiting-in-Err-Damaged.new.out.items
    (g.P.Pages.view c.args.space.now.pages) (g.P.Pages.view c.send_below.new.space.pages)
    (g.P.Pages.view c.send_waiting-in-Err-Damaged.new.space.pages) c.in-Err-Damaged.field-0 c.in-Err-Damaged.page
    c.send_waiting-in-Err-Damaged.result c.in-Err-Damaged.field-0-is
    (tree_sent (g.T.Texts.may_be_said c.args.texts.now) (g.T.Texts.text c.args.texts.now) list
    (g.P.Pages.view c.args.space.now.pages).image c.args.space.now.superblock.total c.page_levels-levels.result c.args.tree
    c.args.out.now.items c.send_below.new.out.items (g.P.Pages.view c.args.space.now.pages)
    (g.P.Pages.view c.send_below.new.space.pages)
    (Err c.in-Err-Damaged.field-0) c.page_levels-levels.ensures.levels c.requires.few_slots stands
    (λ list slots tree top. c.in-Err-Damaged.ensures.part list told slots tree top)) c.send_waiting-in-Err-Damaged.ensures.gives)

pub returns-in_ok-send_waiting-in-Err-Damaged-clause-part : goal.returns-in_ok-send_waiting-in-Err-Damaged-clause-part
returns-in_ok-send_waiting-in-Err-Damaged-clause-part g c = λ list told stands.
    part_at_damage (g.T.Texts.may_be_said c.args.texts.now)
    (g.T.Texts.text c.args.texts.now) list c.args.out.now.items c.send_below.new.out.items c.send_waiting-in-Err-Damaged.new.out.items
    (g.P.Pages.view c.args.space.now.pages) (g.P.Pages.view c.send_below.new.space.pages)
    (g.P.Pages.view c.send_waiting-in-Err-Damaged.new.space.pages) c.in-Err-Damaged.field-0 c.in-Err-Damaged.page
    c.send_waiting-in-Err-Damaged.result c.in-Err-Damaged.field-0-is
    (tree_sent (g.T.Texts.may_be_said c.args.texts.now) (g.T.Texts.text c.args.texts.now) list
    (g.P.Pages.view c.args.space.now.pages).image c.args.space.now.superblock.total c.page_levels-levels.result c.args.tree
    c.args.out.now.items c.send_below.new.out.items (g.P.Pages.view c.args.space.now.pages)
    (g.P.Pages.view c.send_below.new.space.pages)
    (Err c.in-Err-Damaged.field-0) c.page_levels-levels.ensures.levels c.requires.few_slots stands
    (λ list slots tree top. c.in-Err-Damaged.ensures.part list told slots tree top)) c.send_waiting-in-Err-Damaged.ensures.gives

pub returns-in_err-send_waiting-in-Err-Damaged-clause-reads : goal.returns-in_err-send_waiting-in-Err-Damaged-clause-reads
returns-in_err-send_waiting-in-Err-Damaged-clause-reads g c = λ list told stands.
    omega (
      arith,
      (tree_sent (g.T.Texts.may_be_said c.args.texts.now) (g.T.Texts.text c.args.texts.now) list
          (g.P.Pages.view c.args.space.now.pages).image c.args.space.now.superblock.total c.page_levels-levels.result c.args.tree
          c.args.out.now.items c.send_below.new.out.items (g.P.Pages.view c.args.space.now.pages)
          (g.P.Pages.view c.send_below.new.space.pages)
          (Err c.in-Err-Damaged.field-0) c.page_levels-levels.ensures.levels c.requires.few_slots stands
          (λ list slots tree top. c.in-Err-Damaged.ensures.part list told slots tree top)).reads,
      c.send_waiting-in-Err-Damaged.ensures.reads,
    )

pub returns-in_ok-send_waiting-in-Err-Damaged-clause-reads : goal.returns-in_ok-send_waiting-in-Err-Damaged-clause-reads
returns-in_ok-send_waiting-in-Err-Damaged-clause-reads g c = λ list told stands.
    omega (
      arith,
      (tree_sent (g.T.Texts.may_be_said c.args.texts.now) (g.T.Texts.text c.args.texts.now) list
          (g.P.Pages.view c.args.space.now.pages).image c.args.space.now.superblock.total c.page_levels-levels.result c.args.tree
          c.args.out.now.items c.send_below.new.out.items (g.P.Pages.view c.args.space.now.pages)
          (g.P.Pages.view c.send_below.new.space.pages)
          (Err c.in-Err-Damaged.field-0) c.page_levels-levels.ensures.levels c.requires.few_slots stands
          (λ list slots tree top. c.in-Err-Damaged.ensures.part list told slots tree top)).reads,
      c.send_waiting-in-Err-Damaged.ensures.reads,
    )

-- no page is damaged where the tree stands for a list
pub returns-in-Err-clause-no_damage : goal.returns-in-Err-clause-no_damage
returns-in-Err-clause-no_damage g c = λ list told stands.
    tree_sound (g.P.Pages.view c.args.space.now.pages).image c.args.space.now.superblock.total c.page_levels-levels.result c.args.tree list
    c.in-Err.error c.page_levels-levels.ensures.levels stands
    (λ list slots tree top. c.in-Err.ensures.no_damage list told slots tree top)

pub returns-in-Ok-clause-no_damage : goal.returns-in-Ok-clause-no_damage
returns-in-Ok-clause-no_damage g c = λ list told stands. no_damage_by c.send_waiting.result (g.P.Pages.view c.send_below.new.space.pages)
    (g.P.Pages.view c.send_waiting.new.space.pages) c.send_waiting.ensures.cause

pub returns-in_err-send_waiting-in-Err-Damaged-clause-no_damage : goal.returns-in_err-send_waiting-in-Err-Damaged-clause-no_damage
returns-in_err-send_waiting-in-Err-Damaged-clause-no_damage g c = λ list told stands.
    let none : IsNoDamage (Damaged c.in-Err-Damaged.page) = subst IsNoDamage c.in-Err-Damaged.field-0-is
    (tree_sound (g.P.Pages.view c.args.space.now.pages).image c.args.space.now.superblock.total c.page_levels-levels.result c.args.tree
    list c.in-Err-Damaged.field-0 c.page_levels-levels.ensures.levels stands
    (λ list slots tree top. c.in-Err-Damaged.ensures.no_damage list told slots tree top)) in
    absurd none

pub returns-in_ok-send_waiting-in-Err-Damaged-clause-no_damage : goal.returns-in_ok-send_waiting-in-Err-Damaged-clause-no_damage
returns-in_ok-send_waiting-in-Err-Damaged-clause-no_damage g c = λ list told stands.
    subst IsNoDamage c.in-Err-Damaged.field-0-is (tree_sound
    (g.P.Pages.view c.args.space.now.pages).image c.args.space.now.superblock.total c.page_levels-levels.result c.args.tree list
    c.in-Err-Damaged.field-0 c.page_levels-levels.ensures.levels stands
    (λ list slots tree top. c.in-Err-Damaged.ensures.no_damage list told slots tree top))

-- what was sent before a damaged page
pub returns-in-Ok-clause-cut : goal.returns-in-Ok-clause-cut
returns-in-Ok-clause-cut g c = λ list told stands.
    text_sent_cut_by c.send_waiting.result (HasUnfitFrom (g.P.Pages.view c.args.space.now.pages).image c.args.space.now.superblock.total
    (page_levels c.args.tree.slots) 0 c.args.tree.root c.args.tree.span) (g.T.Texts.text c.args.texts.now) list c.args.out.now.items
    (g.P.Pages.view c.args.space.now.pages).beside.sent (g.P.Pages.view c.send_waiting.new.space.pages).beside.sent
    (g.P.Pages.view c.send_below.new.space.pages) (g.P.Pages.view c.send_waiting.new.space.pages) c.send_waiting.ensures.cause

pub returns-in_err-send_waiting-in-Err-Damaged-clause-cut : goal.returns-in_err-send_waiting-in-Err-Damaged-clause-cut
returns-in_err-send_waiting-in-Err-Damaged-clause-cut g c = λ list told stands.
    let U : SendError → Type 0 = λ e. SendsCut e (HasUnfitFrom
    (g.P.Pages.view c.args.space.now.pages).image c.args.space.now.superblock.total
    (page_levels c.args.tree.slots) 0 c.args.tree.root c.args.tree.span) (g.T.Texts.text c.args.texts.now) list c.args.out.now.items
    (g.P.Pages.view c.args.space.now.pages).beside.sent (g.P.Pages.view c.send_waiting-in-Err-Damaged.new.space.pages).beside.sent in
    error_so _ U c.from_residual.result c.from_residual.ensures.1
    (λ e same. subst U (sym same) (text_sent_cut c.in_err-send_waiting-in-Err-Damaged.field-0.0
    (HasUnfitFrom (g.P.Pages.view c.args.space.now.pages).image c.args.space.now.superblock.total
    (page_levels c.args.tree.slots) 0 c.args.tree.root c.args.tree.span) (g.T.Texts.text c.args.texts.now) list c.args.out.now.items
    (g.P.Pages.view c.args.space.now.pages).beside.sent (g.P.Pages.view c.send_waiting-in-Err-Damaged.new.space.pages).beside.sent
    (g.P.Pages.view c.send_below.new.space.pages)
    (g.P.Pages.view c.send_waiting-in-Err-Damaged.new.space.pages) c.in_err-send_waiting-in-Err-Damaged.ensures.cause))

pub returns-in_ok-send_waiting-in-Err-Damaged-clause-cut : goal.returns-in_ok-send_waiting-in-Err-Damaged-clause-cut
returns-in_ok-send_waiting-in-Err-Damaged-clause-cut g c = λ list told stands.
    tree_cut (g.T.Texts.text c.args.texts.now) list
    (g.P.Pages.view c.args.space.now.pages).image c.args.space.now.superblock.total c.page_levels-levels.result c.in-Err-Damaged.field-0
    c.in-Err-Damaged.page c.args.tree c.args.out.now.items c.send_below.new.out.items c.send_waiting-in-Err-Damaged.new.out.items
    (g.P.Pages.view c.args.space.now.pages).beside.sent (g.P.Pages.view c.send_below.new.space.pages).beside.sent
    (g.P.Pages.view c.send_waiting-in-Err-Damaged.new.space.pages).beside.sent
    c.in-Err-Damaged.field-0-is c.page_levels-levels.ensures.levels stands
    (λ list slots tree top. c.in-Err-Damaged.ensures.cut list told slots tree top) c.in_ok-send_waiting-in-Err-Damaged.ensures.gives
    c.in_ok-send_waiting-in-Err-Damaged.ensures.none
