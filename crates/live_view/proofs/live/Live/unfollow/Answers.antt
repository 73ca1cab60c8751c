use Rattle.std.proofs.Common.{ℕ, ◌≤◌, List, length, not}
use Rattle.std.specs.Prelude.{IsTrue, ◌==◌}
use Rattle.std.specs.List.Sorted.{IsStrictlyIncreasing}
use Rattle.std.proofs.lemmas.List.Elements.{All-filter}
use Rattle.zoom_session.specs.Sessions.{is_open}
use Rattle.live_view.specs.Numbers.{without_number, ArePositive}
use Rattle.live_view.specs.Sessions.{AreOpen}
use Rattle.live_view.proofs.NumberLemmas.{so-too, some-few, without-rises}
use Rattle.live_view.specs.Following.{AreAble, can_follow}
use Rattle.live_view.proofs.CanLemmas.{none-among}
use Rattle.live_view.proofs.live.Live.unfollow.Goals as goal

pub invariant_of-self : goal.invariant_of-self
invariant_of-self g c =
    let sessions = g.S.Stepper.sessions c.args.self.now.stepper in
    let followed : List ℕ = c.args.self.now.followed.items in
    let left : List ℕ = without_number c.args.session followed in
    record {
      rising = so-too IsStrictlyIncreasing left c.take_out.new.numbers.items c.take_out.ensures
          (without-rises c.args.session followed c.args.self.now.rising);
      few = so-too (λ l. length l ≤ 16) left c.take_out.new.numbers.items c.take_out.ensures
          (some-few (λ m. not (m == c.args.session)) followed c.args.self.now.few);
      opened = so-too (AreOpen sessions) left c.take_out.new.numbers.items c.take_out.ensures
          (All-filter (λ m. not (m == c.args.session)) (λ n. IsTrue (is_open n sessions)) followed c.args.self.now.opened);
      named = so-too ArePositive left c.take_out.new.numbers.items c.take_out.ensures
          (All-filter (λ m. not (m == c.args.session)) (λ n. 1 ≤ n) followed c.args.self.now.named);
      queue = c.args.self.now.queue;
      viewed = c.args.self.now.viewed;
      queued = c.args.self.now.queued;
      able = so-too (AreAble sessions) left c.take_out.new.numbers.items c.take_out.ensures
          (All-filter (λ m. not (m == c.args.session)) (λ n. IsTrue (can_follow n sessions)) followed c.args.self.now.able);
      among = none-among c.take_out.new.numbers.items c.args.self.now.pending.items c.requires.idle;
    }
