use Rattle.std.proofs.Common.{◌≡◌, ℕ, ◌≤◌, List, ◌∙◌, ap}
use Rattle.std.specs.List.Sorted.{IsStrictlyIncreasing}
use Rattle.std.proofs.lemmas.List.Kept.{IsStrictlyIncreasing-filter}
use Rattle.std.proofs.lemmas.List.Elements.{All-filter, filter_passes}
use Rattle.live_view.specs.Numbers.{ArePositive}
use Rattle.live_view.specs.Sessions.{HaveViews, has_view, viewed_among}
use Rattle.live_view.proofs.NumberLemmas.{so-too}
use Rattle.live_view.specs.Following.{AreAmong}
use Rattle.live_view.proofs.CanLemmas.{viewed-among}
use Rattle.live_view.proofs.live.Live.push_to_all.Goals as goal

pub invariant_of-self : goal.invariant_of-self
invariant_of-self g c =
    let sessions = g.S.Stepper.sessions c.args.self.now.stepper in
    let followed : List ℕ = c.args.self.now.followed.items in
    let copied : c.in_ok-followed.followed.items ≡ followed = c.in_ok-followed.ensures ∙ c.deref.ensures.value in
    let pushed : List ℕ = viewed_among sessions followed in
    let queued : c.viewed_among.result.items ≡ pushed = c.viewed_among.ensures ∙ ap (viewed_among sessions) copied in
    record {
      rising = c.args.self.now.rising;
      few = c.args.self.now.few;
      opened = c.args.self.now.opened;
      named = c.args.self.now.named;
      queue = so-too IsStrictlyIncreasing pushed c.viewed_among.result.items queued
          (IsStrictlyIncreasing-filter (λ n. has_view n sessions) followed c.args.self.now.rising);
      viewed = so-too (HaveViews sessions) pushed c.viewed_among.result.items queued (filter_passes (λ n. has_view n sessions) followed);
      queued = so-too ArePositive pushed c.viewed_among.result.items queued
          (All-filter (λ n. has_view n sessions) (λ n. 1 ≤ n) followed c.args.self.now.named);
      able = c.args.self.now.able;
      among = so-too (AreAmong followed) pushed c.viewed_among.result.items queued (viewed-among sessions followed);
    }
