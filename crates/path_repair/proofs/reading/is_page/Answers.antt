use Rattle.std.proofs.Common.{◌<◌, ℕ, List, sym, ap, subst, inl, inr, ◌∙◌}
use Rattle.node_page.specs.Fields.{level_at, child_at}
use Rattle.tree_walk.specs.Paths.{NamesBeyond}
use Rattle.path_repair.proofs.FormLemmas.{kept_form, unkept}
use Rattle.path_repair.proofs.reading.is_page.Goals as goal

pub returns-then-level-clause-form : goal.returns-then-level-clause-form
returns-then-level-clause-form c = λ yes.
    kept_form c.args.level c.args.total c.in-Ok.page.bytes.now c.args.bytes.now c.in-Ok.ensures.bytes c.requires.whole c.in-Ok.ensures.keeps
    (sym c.level.ensures.level ∙ c.if-level.true) (c.names_within.ensures.within yes)

pub returns-then-level-clause-sound : goal.returns-then-level-clause-sound
returns-then-level-clause-sound c = λ keeps level_is children.
    let P : List ℕ → Type 0 = λ page. (child : ℕ) → child < 128 → child_at page child < c.args.total in
    c.names_within.ensures.all (subst P (sym c.in-Ok.ensures.bytes) children)

pub returns-then-level-clause-unfit : goal.returns-then-level-clause-unfit
returns-then-level-clause-unfit c = λ no.
    let P : List ℕ → Type 0 = λ page. NamesBeyond c.args.total page in
    inr (subst P c.in-Ok.ensures.bytes (c.names_within.ensures.beyond no))

pub returns-else-level-clause-sound : goal.returns-else-level-clause-sound
returns-else-level-clause-sound c = λ keeps level_is children. absurd
    (c.if-level.false (c.level.ensures.level ∙ ap (λ b. level_at b) c.in-Ok.ensures.bytes ∙ level_is))

pub returns-else-level-clause-unfit : goal.returns-else-level-clause-unfit
returns-else-level-clause-unfit c = λ no. inl (inr (λ is. c.if-level.false (c.level.ensures.level
    ∙ ap (λ b. level_at b) c.in-Ok.ensures.bytes ∙ is)))

pub returns-in_default-clause-sound : goal.returns-in_default-clause-sound
returns-in_default-clause-sound c = λ keeps level_is children. absurd
    (unkept c.in_default.field-0 c.args.bytes.now c.in_default.ensures.bad keeps)

pub returns-in_default-clause-unfit : goal.returns-in_default-clause-unfit
returns-in_default-clause-unfit c = λ no. inl (inl (unkept c.in_default.field-0 c.args.bytes.now c.in_default.ensures.bad))
