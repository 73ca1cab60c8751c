use Rattle.std.proofs.Common.{◌<◌, ℕ, List, sym, ap, subst, refl, arith, inl, inr, ◌∙◌}
use Rattle.node_page.specs.Fields.{level_at, child_at, coef_at}
use Rattle.tree_walk.specs.Paths.{NamesBeyond}
use Rattle.page_spans.specs.Heaps.{span_at, IsSplit}
use Rattle.page_spans.specs.Lists.{AreNodesOf}
use Rattle.path_repair.proofs.FormLemmas.{kept_form, tops_of, never_err, not_err, unkept}
use Rattle.path_repair.proofs.reading.spread.Goals.{then-level-via-then-level, then-level-via-else-level+then-not-names_within}
use Rattle.path_repair.proofs.reading.spread.Goals as goal

pub returns-then-level-clause-sound : goal.returns-then-level-clause-sound
returns-then-level-clause-sound c = λ list below index is slots holds top some children. elim c.then-level.branch [
  | then-level-via-then-level w ↦ absurd (w.if-level.true (c.level.ensures.level ∙ ap (λ b. level_at b) c.in-Ok.ensures.bytes
      ∙ holds.level_is))
  | then-level-via-else-level+then-not-names_within w ↦
      let P : List ℕ → Type 0 = λ page. (child : ℕ) → child < 128 → child_at page child < c.args.total in
      w.if-not-names_within.ensures.all (subst P (sym c.in-Ok.ensures.bytes) children)
]

pub returns-then-is_err-clause-sound : goal.returns-then-is_err-clause-sound
returns-then-is_err-clause-sound c = λ list below index is slots holds top some children.
    let P : List ℕ → Type 0 = λ page. AreNodesOf list c.args.level index page in
    absurd (never_err c.spread.result (c.spread.ensures.split list c.args.level index slots (omega (arith, is))
    (subst P (sym c.in-Ok.ensures.bytes) holds.nodes) (sym c.in-Some.is ∙ top)) c.if-is_err.ensures.value)

pub returns-clause-form : goal.returns-clause-form
returns-clause-form c =
    kept_form c.args.level c.args.total c.in-Ok.page.bytes.now c.args.bytes.now c.in-Ok.ensures.bytes c.requires.whole c.in-Ok.ensures.keeps
    (sym c.level.ensures.level ∙ c.if-level.false) (c.if-not-names_within.ensures.within refl)

pub returns-clause-tops : goal.returns-clause-tops
returns-clause-tops c = λ list below index is slots holds top.
    let P : List ℕ → Type 0 = λ page. AreNodesOf list c.args.level index page in
    tops_of list c.args.level below index (span_at c.spread.new.self) is
    (c.spread.ensures.leaves list c.args.level index slots (omega (arith, is)) (subst P (sym c.in-Ok.ensures.bytes) holds.nodes)
    (sym c.in-Some.is ∙ top))

pub returns-then-level-clause-bad : goal.returns-then-level-clause-bad
returns-then-level-clause-bad c = elim c.then-level.branch [
  | then-level-via-then-level w ↦ inl (inl (inr (λ is. w.if-level.true (c.level.ensures.level ∙ ap (λ b. level_at b) c.in-Ok.ensures.bytes
      ∙ is))))
  | then-level-via-else-level+then-not-names_within w ↦
      let P : List ℕ → Type 0 = λ page. NamesBeyond c.args.total page in
      inl (inr (subst P c.in-Ok.ensures.bytes (w.if-not-names_within.ensures.beyond refl)))
]

pub returns-clause-below : goal.returns-clause-below
returns-clause-below c =
    let P : List ℕ → Type 0 = λ page. (n : ℕ) → n < 127 → IsSplit (span_at c.spread.new.self) (coef_at page) n in
    record {
      top_is = c.spread.ensures.top ∙ sym c.in-Some.is;
      split = subst P c.in-Ok.ensures.bytes (not_err c.spread.result
          (P c.in-Ok.page.bytes.now) c.spread.ensures.splits c.if-is_err.ensures.value);
    }

pub returns-in_default-new-clause-sound : goal.returns-in_default-new-clause-sound
returns-in_default-new-clause-sound c = λ list below index is slots holds top some children. absurd
    (unkept c.in_default-new.field-0 c.args.bytes.now c.in_default-new.ensures.bad holds.keeps)

pub returns-in_default-new-clause-bad : goal.returns-in_default-new-clause-bad
returns-in_default-new-clause-bad c = inl (inl (inl (unkept c.in_default-new.field-0 c.args.bytes.now c.in_default-new.ensures.bad)))
