use Rattle.std.proofs.Common.{◌≡◌, ℕ, ◌≤◌, List, [], length, ◌∙◌, ap}
use Rattle.std.specs.List.Sorted.{IsStrictlyIncreasing}
use Rattle.std.proofs.lemmas.List.Kept.{IsStrictlyIncreasing-filter}
use Rattle.std.proofs.lemmas.List.Elements.{All-filter, filter_passes}
use Rattle.zoom_session.specs.Sessions.{is_open}
use Rattle.live_view.specs.Replies.{ended, still_followed, followers}
use Rattle.live_view.specs.Numbers.{ArePositive}
use Rattle.live_view.specs.Sessions.{AreOpen, HaveViews, open_among}
use Rattle.live_view.proofs.NumberLemmas.{so-too, some-few}
use Rattle.live_view.proofs.PassingLemmas.{still-rises, still-few, still-all, passed-open, followers-rise, followers-viewed, followers-all}
use Rattle.live_view.proofs.PassingLemmas.{none-viewed}
use Rattle.live_view.specs.Following.{AreAble}
use Rattle.live_view.proofs.CanLemmas.{able-all, among-so, can-all, followers-among, goes-means, none-among, open-can, still-can}
use Rattle.live_view.proofs.live.Live.step_other.Goals as goal

pub invariant_of-self : goal.invariant_of-self
invariant_of-self g c =
    let old = g.S.Stepper.sessions c.args.self.now.stepper in
    let new = g.S.Stepper.sessions c.step_line.new.self in
    let followed : List ℕ = c.args.self.now.followed.items in
    let meaning = c.in_ok-meaning.meaning in
    let left : List ℕ = still_followed (ended meaning c.in-Ok.frame) followed in
    let is : c.end_following.new.followed.items ≡ left = c.end_following.ensures ∙ ap (λ e. still_followed e followed) c.ended.ensures in
    let copied : c.in_ok-followed.followed.items ≡ followed = c.in_ok-followed.ensures ∙ c.deref.ensures.value in
    let series = c.changed-series.result in
    let pushed : List ℕ = followers series new followed in
    let queued : c.followers.result.items ≡ pushed = c.followers.ensures ∙ ap (followers series new) copied in
    record {
      rising = so-too IsStrictlyIncreasing left c.end_following.new.followed.items is
          (still-rises (ended meaning c.in-Ok.frame) followed c.args.self.now.rising);
      few = so-too (λ l. length l ≤ 16) left c.end_following.new.followed.items is
          (still-few (ended meaning c.in-Ok.frame) followed c.args.self.now.few);
      opened = so-too (AreOpen new) left c.end_following.new.followed.items is
          (passed-open meaning c.in-Ok.frame old new followed c.in-Ok.ensures.opens c.args.self.now.opened);
      named = so-too ArePositive left c.end_following.new.followed.items is
          (still-all (λ n. 1 ≤ n) (ended meaning c.in-Ok.frame) followed c.args.self.now.named);
      queue = so-too IsStrictlyIncreasing pushed c.followers.result.items queued
          (followers-rise series new followed c.args.self.now.rising);
      viewed = so-too (HaveViews new) pushed c.followers.result.items queued (followers-viewed series new followed);
      queued = so-too ArePositive pushed c.followers.result.items queued
          (followers-all (λ n. 1 ≤ n) series new followed c.args.self.now.named);
      able = so-too (AreAble new) left c.end_following.new.followed.items is
          (able-all new left (still-can (ended meaning c.in-Ok.frame) followed old new
          (goes-means meaning _ c.in-Ok.frame old new c.in_ok-meaning.ensures c.in-Ok.ensures.goes)
          (can-all old followed c.args.self.now.able)));
      among = among-so left c.end_following.new.followed.items pushed c.followers.result.items is queued
          (followers-among (g.S.Stepper.names c.step_line.new.self) meaning c.in-Ok.frame series new followed c.changed-series.ensures);
    }

pub invariant_of-self-in-Err : goal.invariant_of-self-in-Err
invariant_of-self-in-Err g c =
    let old = g.S.Stepper.sessions c.args.self.now.stepper in
    let new = g.S.Stepper.sessions c.step_line.new.self in
    let followed : List ℕ = c.args.self.now.followed.items in
    let left : List ℕ = open_among new followed in
    record {
      rising = so-too IsStrictlyIncreasing left c.keep_open.new.numbers.items c.keep_open.ensures
          (IsStrictlyIncreasing-filter (λ n. is_open n new) followed c.args.self.now.rising);
      few = so-too (λ l. length l ≤ 16) left c.keep_open.new.numbers.items c.keep_open.ensures
          (some-few (λ n. is_open n new) followed c.args.self.now.few);
      opened = so-too (AreOpen new) left c.keep_open.new.numbers.items c.keep_open.ensures (filter_passes (λ n. is_open n new) followed);
      named = so-too ArePositive left c.keep_open.new.numbers.items c.keep_open.ensures
          (All-filter (λ n. is_open n new) (λ n. 1 ≤ n) followed c.args.self.now.named);
      queue = c.args.self.now.queue;
      viewed = so-too (HaveViews new) [] c.args.self.now.pending.items c.requires.idle (none-viewed new);
      queued = c.args.self.now.queued;
      able = so-too (AreAble new) left c.keep_open.new.numbers.items c.keep_open.ensures
          (able-all new left (open-can followed old new c.in-Err.ensures.lost (can-all old followed c.args.self.now.able)));
      among = none-among c.keep_open.new.numbers.items c.args.self.now.pending.items c.requires.idle;
    }
