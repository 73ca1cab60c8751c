use Rattle.std.proofs.Common.{List, sym, subst}
use Rattle.zoom_session.specs.declared.session.Session.{Session}
use Rattle.live_view.specs.Sessions.{AreOpen, HaveViews}
use Rattle.live_view.specs.Following.{AreAble}
use Rattle.live_view.proofs.live.Live.with_stepper.Goals as goal

pub invariant_of-self : goal.invariant_of-self
invariant_of-self g c =
    let O : List Session → Type 0 = λ ss. AreOpen ss c.args.self.now.followed.items in
    let V : List Session → Type 0 = λ ss. HaveViews ss c.args.self.now.pending.items in
    let C : List Session → Type 0 = λ ss. AreAble ss c.args.self.now.followed.items in
    record {
      rising = c.args.self.now.rising;
      few = c.args.self.now.few;
      opened = subst O (sym c.work.ensures.same_sessions) c.args.self.now.opened;
      named = c.args.self.now.named;
      queue = c.args.self.now.queue;
      viewed = subst V (sym c.work.ensures.same_sessions) c.args.self.now.viewed;
      queued = c.args.self.now.queued;
      able = subst C (sym c.work.ensures.same_sessions) c.args.self.now.able;
      among = c.args.self.now.among;
    }
