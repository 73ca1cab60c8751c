use Rattle.std.proofs.Common.{◌≡◌, ◌+◌, ◌<◌, ℕ, List, is_some, sym, ap, subst, refl, arith, inl, inr, ◌∙◌}
use Rattle.node_page.specs.Fields.{level_at, child_at, coef_at}
use Rattle.node_page.specs.Layout.{has_child}
use Rattle.tree_walk.specs.Paths.{NamesBeyond}
use Rattle.page_spans.specs.Heaps.{span_at, IsSplit}
use Rattle.page_spans.specs.Lists.{AreNodesOf}
use Rattle.path_repair.proofs.FormLemmas.{tops_of, never_err, not_err}
use Rattle.series_store.proofs.counting.spread.Goals.{then-level-via-then-level, then-level-via-else-level+then-not-names_within}
use Rattle.series_store.proofs.counting.spread.Goals as goal

pub returns-then-level-clause-bad : goal.returns-then-level-clause-bad
returns-then-level-clause-bad c = elim c.then-level.branch [
  | then-level-via-then-level w ↦ inl (inl (inr (λ is. w.if-level.true (c.level.ensures.level ∙ ap (λ b. level_at b) c.in-Ok.ensures.bytes
      ∙ is))))
  | then-level-via-else-level+then-not-names_within w ↦
      let P : List ℕ → Type 0 = λ page. NamesBeyond c.args.total page in
      inl (inr (subst P c.in-Ok.ensures.bytes (w.if-not-names_within.ensures.beyond refl)))
]

pub returns-then-level-clause-stands : goal.returns-then-level-clause-stands
returns-then-level-clause-stands c = λ list under index is slots holds top children. elim c.then-level.branch [
  | then-level-via-then-level w ↦ absurd (w.if-level.true (c.level.ensures.level ∙ ap (λ b. level_at b) c.in-Ok.ensures.bytes
      ∙ holds.level_is))
  | then-level-via-else-level+then-not-names_within w ↦
      let P : List ℕ → Type 0 = λ page. (child : ℕ) → child < 128 → child_at page child < c.args.total in
      w.if-not-names_within.ensures.all (subst P (sym c.in-Ok.ensures.bytes) children)
]

pub returns-then-is_err-clause-stands : goal.returns-then-is_err-clause-stands
returns-then-is_err-clause-stands c = λ list under index is slots holds top children.
    let P : List ℕ → Type 0 = λ page. AreNodesOf list c.args.level index page in
    absurd (never_err c.spread.result (c.spread.ensures.split list c.args.level index slots (omega (arith, is))
    (subst P (sym c.in-Ok.ensures.bytes) holds.nodes) top) c.if-is_err.ensures.value)

pub returns-clause-sound : goal.returns-clause-sound
returns-clause-sound c =
    let P : List ℕ → Type 0 = λ page. (child : ℕ) → child < 128 → child_at page child < c.args.total in
    record {
      keeps = c.in-Ok.ensures.keeps;
      level_is = ap (λ b. level_at b) (sym c.in-Ok.ensures.bytes) ∙ sym c.level.ensures.level ∙ c.if-level.false;
      below = subst P c.in-Ok.ensures.bytes (c.if-not-names_within.ensures.within refl);
    }

pub returns-clause-below : goal.returns-clause-below
returns-clause-below c =
    let P : List ℕ → Type 0 = λ page. (n : ℕ) → n < 127 → IsSplit (span_at c.spread.new.self) (coef_at page) n in
    record {
      top_is = c.spread.ensures.top;
      split = subst P c.in-Ok.ensures.bytes (not_err c.spread.result
          (P c.in-Ok.view.bytes.now) c.spread.ensures.splits c.if-is_err.ensures.value);
    }

pub returns-clause-children : goal.returns-clause-children
returns-clause-children c =
    let P : List ℕ → Type 0 = λ page. (child : ℕ) → child < 128
    → has_child page child ≡ is_some (span_at c.spread.new.self (127 + child)) in
    subst P c.in-Ok.ensures.bytes (not_err c.spread.result (P c.in-Ok.view.bytes.now) c.spread.ensures.children c.if-is_err.ensures.value)

pub returns-clause-tops : goal.returns-clause-tops
returns-clause-tops c = λ list under index is slots holds top.
    let P : List ℕ → Type 0 = λ page. AreNodesOf list c.args.level index page in
    tops_of list c.args.level under index (span_at c.spread.new.self) is
    (c.spread.ensures.leaves list c.args.level index slots (omega (arith, is)) (subst P (sym c.in-Ok.ensures.bytes) holds.nodes) top)
