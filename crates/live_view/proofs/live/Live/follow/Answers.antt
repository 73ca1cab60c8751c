use Rattle.std.proofs.Common.{◌≡◌, ℕ, ◌≤◌, List, length, ◌∙◌, ap}
use Rattle.std.specs.Prelude.{IsTrue}
use Rattle.std.specs.List.Sorted.{IsStrictlyIncreasing}
use Rattle.zoom_session.specs.Sessions.{is_open}
use Rattle.live_view.specs.Numbers.{with_number, ArePositive}
use Rattle.live_view.specs.Sessions.{AreOpen}
use Rattle.live_view.proofs.NumberLemmas.{so-too, with-rises, with-all}
use Rattle.live_view.proofs.OpenLemmas.{live-open, open-few}
use Rattle.live_view.specs.Following.{AreAble, CanFollow}
use Rattle.live_view.proofs.CanLemmas.{able-all, can-all, live-can, none-among}
use Rattle.live_view.proofs.live.Live.follow.Goals as goal

pub invariant_of-self : goal.invariant_of-self
invariant_of-self g c =
    let sessions = g.S.Stepper.sessions c.args.self.now.stepper in
    let followed : List ℕ = c.args.self.now.followed.items in
    let all : List ℕ = with_number c.args.session followed in
    let is : c.in_ok-self.field-0.items ≡ all = c.in_ok-self.ensures ∙ ap (with_number c.args.session) c.deref.ensures.value in
    let here : IsTrue (is_open c.args.session sessions) = live-open c.args.session c.in-Live.session c.in-Live.on
    c.reply_to_follow-reply.result sessions c.reply_to_follow-reply.ensures.reply c.in-Live.is in
    let can : CanFollow sessions c.args.session = live-can c.args.session c.in-Live.session c.in-Live.on c.reply_to_follow-reply.result
    sessions c.reply_to_follow-reply.ensures.reply c.in-Live.is in
    let rising : IsStrictlyIncreasing all = with-rises c.args.session followed c.args.self.now.rising in
    let opened : AreOpen sessions all = with-all (λ n. IsTrue (is_open n sessions)) c.args.session followed here c.args.self.now.opened in
    record {
      rising = so-too IsStrictlyIncreasing all c.in_ok-self.field-0.items is rising;
      few = so-too (λ l. length l ≤ 16) all c.in_ok-self.field-0.items is
          (open-few sessions all c.reply_to_follow-reply.ensures.valid opened rising);
      opened = so-too (AreOpen sessions) all c.in_ok-self.field-0.items is opened;
      named = so-too ArePositive all c.in_ok-self.field-0.items is
          (with-all (λ n. 1 ≤ n) c.args.session followed c.requires.number.low c.args.self.now.named);
      queue = c.args.self.now.queue;
      viewed = c.args.self.now.viewed;
      queued = c.args.self.now.queued;
      able = so-too (AreAble sessions) all c.in_ok-self.field-0.items is
          (able-all sessions all (with-all (CanFollow sessions) c.args.session followed can
          (can-all sessions followed c.args.self.now.able)));
      among = none-among c.in_ok-self.field-0.items c.args.self.now.pending.items c.requires.idle;
    }
