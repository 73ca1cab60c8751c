use Rattle.std.proofs.Common.{◌≡◌, ℕ, ◌≤◌, ◌<◌, [], get_or, length, false, IsTrue, rules, refl, subst, arith, inl, inr}
use Rattle.std.proofs.lemmas.Bool.{cases_lt}
use Rattle.gate_pages.specs.Entries.{entries}
use Rattle.gate_pages.proofs.BatchLemmas.{number_at, length_entries, below_at}
use Rattle.gate_pages.proofs.Puts.{pages_below}
use Rattle.gate_pages.proofs.batch.Batch.fits.Goals as goal

nothing : IsTrue false → ⊥
nothing = λ nope. search rules

pub returns-then-index-count : goal.returns-then-index-count
returns-then-index-count c =
    let self = c.args.self.now in
    let i = c.loop-i.i in
    let within : self.len ≤ length self.pages.items = omega (arith, self.within, self.room) in
    let here = number_at self.len self.pages.items i c.index.result.now c.loop-i-test.true within c.index.ensures in (
      λ nope. absurd (nothing nope),
      λ all. absurd (omega (
        arith,
        below_at c.args.count (entries self) i (omega (arith, c.loop-i-test.true, length_entries self.len self.pages.items within)) all,
        here,
        c.if-index-count.true,
      )),
    )

pub loop-i-preserved : goal.loop-i-preserved
loop-i-preserved c =
    let self = c.args.self.now in
    let i = c.loop-i.i in
    let within : self.len ≤ length self.pages.items = omega (arith, self.within, self.room) in
    let here = number_at self.len self.pages.items i c.index.result.now c.loop-i-test.true within c.index.ensures in
    record {
      below = λ k low. elim (cases_lt k i) [
        | inl less ↦ c.loop-i.invariant.below k less
        | inr more ↦
            let same : i ≡ k = omega (arith, low, more) in
            let P : ℕ → Type 0 = λ n. (get_or (entries self) n (0, [])).0 < c.args.count in
            subst P same (omega (arith, here, c.if-index-count.false))
      ];
    }

pub returns : goal.returns
returns c =
    let self = c.args.self.now in
    let within : self.len ≤ length self.pages.items = omega (arith, self.within, self.room) in (
      λ yes_all. pages_below c.args.count (entries self)
          (λ at below. c.loop-i.invariant.below at (omega (
            arith,
            below,
            c.loop-i-test.false,
            length_entries self.len self.pages.items within,
          ))),
      λ all. refl,
    )
