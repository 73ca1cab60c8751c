use Rattle.std.proofs.Common.{◌≡◌, ℕ, ◌≤◌, List, [], ◌∙◌, ap, sym, subst}
use Rattle.std.specs.List.Sorted.{IsStrictlyIncreasing}
use Rattle.zoom_session.specs.declared.session.Session.{Session}
use Rattle.live_view.specs.Groups.{followers_of}
use Rattle.live_view.specs.Numbers.{ArePositive}
use Rattle.live_view.specs.Sessions.{AreOpen, HaveViews}
use Rattle.live_view.proofs.GroupLemmas.{group-rises, group-viewed, group-all}
use Rattle.live_view.proofs.NumberLemmas.{so-too}
use Rattle.live_view.proofs.PassingLemmas.{none-viewed}
use Rattle.live_view.specs.Following.{AreAble, AreAmong}
use Rattle.live_view.proofs.CanLemmas.{group-among}
use Rattle.live_view.proofs.live.Live.step_edits.Goals as goal

pub invariant_of-self-in-Ok : goal.invariant_of-self-in-Ok
invariant_of-self-in-Ok g c =
    let old = g.S.Stepper.sessions c.args.self.now.stepper in
    let new = g.S.Stepper.sessions c.step_edits.new.self in
    let followed : List ℕ = c.args.self.now.followed.items in
    let to = c.in_ok-pushed-in-Ok.ensures in
    let pushed : List ℕ = followers_of to.series new followed in
    let is : c.in_ok-pushed-in-Ok.pushed.items ≡ pushed = to.pushed_to ∙ ap (followers_of to.series new) c.deref.ensures.value in
    let O : List Session → Type 0 = λ ss. AreOpen ss followed in
    let C : List Session → Type 0 = λ ss. AreAble ss followed in
    record {
      rising = c.args.self.now.rising;
      few = c.args.self.now.few;
      opened = subst O (sym c.step_edits.ensures.same_sessions) c.args.self.now.opened;
      named = c.args.self.now.named;
      queue = so-too IsStrictlyIncreasing pushed c.in_ok-pushed-in-Ok.pushed.items is
          (group-rises to.series new followed c.args.self.now.rising);
      viewed = so-too (HaveViews new) pushed c.in_ok-pushed-in-Ok.pushed.items is (group-viewed to.series new followed);
      queued = so-too ArePositive pushed c.in_ok-pushed-in-Ok.pushed.items is
          (group-all (λ n. 1 ≤ n) to.series new followed c.args.self.now.named);
      able = subst C (sym c.step_edits.ensures.same_sessions) c.args.self.now.able;
      among = so-too (AreAmong followed) pushed c.in_ok-pushed-in-Ok.pushed.items is (group-among to.series new followed);
    }

pub invariant_of-self : goal.invariant_of-self
invariant_of-self g c =
    let new = g.S.Stepper.sessions c.step_edits.new.self in
    let O : List Session → Type 0 = λ ss. AreOpen ss c.args.self.now.followed.items in
    let C : List Session → Type 0 = λ ss. AreAble ss c.args.self.now.followed.items in
    record {
      rising = c.args.self.now.rising;
      few = c.args.self.now.few;
      opened = subst O (sym c.step_edits.ensures.same_sessions) c.args.self.now.opened;
      named = c.args.self.now.named;
      queue = c.args.self.now.queue;
      viewed = so-too (HaveViews new) [] c.args.self.now.pending.items c.requires.idle (none-viewed new);
      queued = c.args.self.now.queued;
      able = subst C (sym c.step_edits.ensures.same_sessions) c.args.self.now.able;
      among = c.args.self.now.among;
    }
