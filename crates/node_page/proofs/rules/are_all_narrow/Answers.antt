use Rattle.std.proofs.Common.{◌≡◌, ◌+◌, ◌*◌, ℕ, inl, inr, subst, arith}
use Rattle.std.proofs.lemmas.Bool.{cases_lt}
use Rattle.std.proofs.lemmas.Nat.{le_or_l, le_or_r}
use Rattle.whole_number.specs.Range.{IsTime}
use Rattle.node_page.specs.Fields.{signed_at}
use Rattle.node_page.proofs.rules.are_all_narrow.Goals as goal

pub loop-place-preserved : goal.loop-place-preserved
loop-place-preserved c = record {
  so_far = λ place low few. elim (cases_lt place c.loop-place.place) [
    | inl before ↦ c.loop-place.invariant.so_far place before (omega (arith, few, le_or_l c.loop-place.all c.raised_at-all.result))
    | inr here ↦
        let same : c.loop-place.place ≡ place = omega (arith, low, here) in
        let P : ℕ → Type 0 = λ n. IsTime (signed_at c.args.page.now (40 + 8 * n)) in
        subst P same (c.raised_at-all.ensures (omega (arith, few, le_or_r c.loop-place.all c.raised_at-all.result)))
  ];
}
