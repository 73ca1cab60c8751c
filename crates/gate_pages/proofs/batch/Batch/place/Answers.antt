use Rattle.std.proofs.Common.{◌≡◌, ◌∙◌, ◌≢◌, ℕ, [], get_or, sym, subst, arith, inl, inr}
use Rattle.std.proofs.lemmas.Bool.{cases_lt}
use Rattle.gate_pages.specs.Entries.{entries}
use Rattle.gate_pages.proofs.BatchLemmas.{number_at}
use Rattle.gate_pages.proofs.batch.Batch.place.Goals as goal

pub loop-at-preserved : goal.loop-at-preserved
loop-at-preserved c =
    let self = c.args.self.now in
    let at = c.loop-at.at in
    let here = number_at self.len self.pages.items at c.index.result.now c.loop-at-test.true
    (omega (arith, self.within, self.room)) c.index.ensures in
    record {
      within = omega (arith, c.loop-at-test.true);
      before = λ k below. elim (cases_lt k at) [
        | inl less ↦ c.loop-at.invariant.before k less
        | inr more ↦
            let same : at ≡ k = omega (arith, below, more) in
            let P : ℕ → Type 0 = λ n. (get_or (entries self) n (0, [])).0 ≢ c.args.p in
            subst P same (λ is. c.if-index-p.false (sym here ∙ is))
      ];
    }
