use Rattle.std.proofs.Common.{rules, ◌≡◌, ◌*◌, ◌∙◌, ◌+ℤ◌, ℤ, pos, arith, sym, ap, subst, FitsSigned, w64}
use Rattle.std.proofs.lemmas.Int.{to_z-of_z}
use Rattle.whole_number.specs.Range.{IsTime}
use Rattle.series_store.proofs.AskLemmas.{start_same}
use Rattle.host_reports.proofs.FrameLemmas.{far_time}
use Rattle.host_reports.proofs.values.time_left.Goals as goal

pub returns-clause-far : goal.returns-clause-far
returns-clause-far c =
    let fits : FitsSigned w64 c.slot_time.result = search rules in
    let is : c.slot_time.result ≡ c.args.start +ℤ pos (c.args.end * c.args.step) = c.slot_time.ensures
    ∙ ap (λ (s : ℤ). s +ℤ pos (c.args.end * c.args.step)) (start_same c.args.start c.requires.near) in
    subst IsTime (sym (to_z-of_z w64 c.slot_time.result fits ∙ is))
    (far_time c.args.start (c.args.end * c.args.step) c.requires.near
    (c.slots_stand_in_time.ensures c.args.start c.args.step c.args.slots c.args.end c.requires.last
    (omega (arith, c.requires.within, c.if-end-to.false))))
