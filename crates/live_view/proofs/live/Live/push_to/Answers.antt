use Rattle.std.proofs.Common.{◌≡◌, ℕ, ◌≤◌, List, ◌∙◌, ap}
use Rattle.std.specs.List.Sorted.{IsStrictlyIncreasing}
use Rattle.live_view.specs.Numbers.{ArePositive}
use Rattle.live_view.specs.Replies.{followers}
use Rattle.live_view.specs.Sessions.{HaveViews}
use Rattle.live_view.proofs.NumberLemmas.{so-too}
use Rattle.live_view.proofs.PassingLemmas.{followers-rise, followers-viewed, followers-all}
use Rattle.live_view.specs.Following.{AreAmong}
use Rattle.live_view.proofs.CanLemmas.{own-among}
use Rattle.live_view.proofs.live.Live.push_to.Goals as goal

pub invariant_of-self : goal.invariant_of-self
invariant_of-self g c =
    let sessions = g.S.Stepper.sessions c.args.self.now.stepper in
    let followed : List ℕ = c.args.self.now.followed.items in
    let copied : c.in_ok-followed.followed.items ≡ followed = c.in_ok-followed.ensures ∙ c.deref.ensures.value in
    let series = c.series_id-series.result in
    let pushed : List ℕ = followers series sessions followed in
    let queued : c.followers.result.items ≡ pushed = c.followers.ensures ∙ ap (followers series sessions) copied in
    record {
      rising = c.args.self.now.rising;
      few = c.args.self.now.few;
      opened = c.args.self.now.opened;
      named = c.args.self.now.named;
      queue = so-too IsStrictlyIncreasing pushed c.followers.result.items queued
          (followers-rise series sessions followed c.args.self.now.rising);
      viewed = so-too (HaveViews sessions) pushed c.followers.result.items queued (followers-viewed series sessions followed);
      queued = so-too ArePositive pushed c.followers.result.items queued
          (followers-all (λ n. 1 ≤ n) series sessions followed c.args.self.now.named);
      able = c.args.self.now.able;
      among = so-too (AreAmong followed) pushed c.followers.result.items queued (own-among series sessions followed);
    }
