use Rattle.std.proofs.Common.{ℕ, ◌≤◌, List, None, Result, length, subst, arith}
use Rattle.chart_frames.specs.declared.frame.Frame.{Frame}
use Rattle.std.specs.Prelude.{Contains, IsTrue, nat_eq}
use Rattle.std.specs.Set.{is_member}
use Rattle.std.specs.List.Sorted.{IsStrictlyIncreasing}
use Rattle.std.proofs.lemmas.List.Kept.{IsStrictlyIncreasing-filter}
use Rattle.std.proofs.lemmas.List.Elements.{All-contains, All-filter, filter_passes}
use Rattle.zoom_session.specs.Sessions.{is_open}
use Rattle.live_view.specs.Numbers.{ArePositive}
use Rattle.live_view.specs.Sessions.{AreOpen, open_among}
use Rattle.live_view.proofs.NumberLemmas.{so-too, some-few, rest-rises, rest-all, first-of-all, first_of}
use Rattle.live_view.proofs.OpenLemmas.{open-alike, views-stay}
use Rattle.live_view.specs.Following.{AreAble, AreAmong, CanFollow}
use Rattle.live_view.proofs.CanLemmas.{able-all, among-all, can-all, in-all, open-can, rest-among, still-can}
use Rattle.live_view.proofs.live.Live.push.Goals as goal

pub invariant_of-self : goal.invariant_of-self
invariant_of-self g c =
    let old = g.S.Stepper.sessions c.args.self.now.stepper in
    let new = g.S.Stepper.sessions c.repeat.new.self in
    let rest : List ℕ = c.remove-session.new.self.items in
    let first = first_of c.args.self.now.pending.items rest c.remove-session.result
    (omega (arith, c.remove-session.ensures.len)) c.remove-session.ensures.value c.remove-session.ensures.items in
    record {
      rising = c.args.self.now.rising;
      few = c.args.self.now.few;
      opened = open-alike old new c.args.self.now.followed.items c.in-Ok.ensures.same_open c.args.self.now.opened;
      named = c.args.self.now.named;
      queue = rest-rises c.remove-session.result c.args.self.now.pending.items rest first c.args.self.now.queue;
      viewed = views-stay old new c.args.self.now.pending.items rest c.remove-session.result c.args.self.now.queue first
          c.repeat.ensures.others c.args.self.now.viewed;
      queued = rest-all (λ n. 1 ≤ n) c.remove-session.result c.args.self.now.pending.items rest first c.args.self.now.queued;
      able = able-all new c.args.self.now.followed.items
          (still-can None c.args.self.now.followed.items old new c.in-Ok.ensures.goes
          (can-all old c.args.self.now.followed.items c.args.self.now.able));
      among = rest-all (λ n. IsTrue (is_member nat_eq c.args.self.now.followed.items n)) c.remove-session.result
          c.args.self.now.pending.items rest first c.args.self.now.among;
    }

pub invariant_of-self-in-Err : goal.invariant_of-self-in-Err
invariant_of-self-in-Err g c =
    let old = g.S.Stepper.sessions c.args.self.now.stepper in
    let new = g.S.Stepper.sessions c.repeat.new.self in
    let rest : List ℕ = c.remove-session.new.self.items in
    let first = first_of c.args.self.now.pending.items rest c.remove-session.result
    (omega (arith, c.remove-session.ensures.len)) c.remove-session.ensures.value c.remove-session.ensures.items in
    let followed : List ℕ = c.args.self.now.followed.items in
    let left : List ℕ = open_among new followed in
    record {
      rising = so-too IsStrictlyIncreasing left c.keep_open.new.numbers.items c.keep_open.ensures
          (IsStrictlyIncreasing-filter (λ n. is_open n new) followed c.args.self.now.rising);
      few = so-too (λ l. length l ≤ 16) left c.keep_open.new.numbers.items c.keep_open.ensures
          (some-few (λ n. is_open n new) followed c.args.self.now.few);
      opened = so-too (AreOpen new) left c.keep_open.new.numbers.items c.keep_open.ensures (filter_passes (λ n. is_open n new) followed);
      named = so-too ArePositive left c.keep_open.new.numbers.items c.keep_open.ensures
          (All-filter (λ n. is_open n new) (λ n. 1 ≤ n) followed c.args.self.now.named);
      queue = rest-rises c.remove-session.result c.args.self.now.pending.items rest first c.args.self.now.queue;
      viewed = views-stay old new c.args.self.now.pending.items rest c.remove-session.result c.args.self.now.queue first
          c.repeat.ensures.others c.args.self.now.viewed;
      queued = rest-all (λ n. 1 ≤ n) c.remove-session.result c.args.self.now.pending.items rest first c.args.self.now.queued;
      able = so-too (AreAble new) left c.keep_open.new.numbers.items c.keep_open.ensures
          (able-all new left (open-can followed old new c.in-Err.ensures.lost (can-all old followed c.args.self.now.able)));
      among = so-too (λ l. AreAmong l rest) left c.keep_open.new.numbers.items c.keep_open.ensures
          (among-all left rest (rest-among old new followed c.args.self.now.pending.items rest c.remove-session.result c.args.self.now.queue
          first c.repeat.ensures.others
          (can-all old followed c.args.self.now.able) (in-all followed c.args.self.now.pending.items c.args.self.now.among)));
    }

pub repeat-requires-clause-number : goal.repeat-requires-clause-number
repeat-requires-clause-number g c =
    let rest : List ℕ = c.remove-session.new.self.items in
    let first = first_of c.args.self.now.pending.items rest c.remove-session.result
    (omega (arith, c.remove-session.ensures.len)) c.remove-session.ensures.value c.remove-session.ensures.items in
    first-of-all (λ n. 1 ≤ n) c.remove-session.result c.args.self.now.pending.items rest first c.args.self.now.queued

pub returns-in-Ok-clause-shows : goal.returns-in-Ok-clause-shows
returns-in-Ok-clause-shows g c =
    let followed : List ℕ = c.args.self.now.followed.items in
    let old = g.S.Stepper.sessions c.args.self.now.stepper in
    let rest : List ℕ = c.remove-session.new.self.items in
    let first = first_of c.args.self.now.pending.items rest c.remove-session.result
    (omega (arith, c.remove-session.ensures.len)) c.remove-session.ensures.value c.remove-session.ensures.items in
    let here : Contains followed c.remove-session.result = first-of-all
    (Contains followed) c.remove-session.result c.args.self.now.pending.items rest first
    (in-all followed c.args.self.now.pending.items c.args.self.now.among) in
    record {
      session = c.remove-session.result;
      among = here;
      shows = c.in-Ok.ensures.shows (All-contains (CanFollow old) followed c.remove-session.result
          (can-all old followed c.args.self.now.able) here);
    }

pub returns-in-Err-clause-fails : goal.returns-in-Err-clause-fails
returns-in-Err-clause-fails g c =
    let followed : List ℕ = c.args.self.now.followed.items in
    let rest : List ℕ = c.remove-session.new.self.items in
    let first = first_of c.args.self.now.pending.items rest c.remove-session.result
    (omega (arith, c.remove-session.ensures.len)) c.remove-session.ensures.value c.remove-session.ensures.items in
    let R : Result Frame _ → Type 0 = λ r. g.S.Stepper.repeats c.args.self.now.stepper c.remove-session.result r c.repeat.new.self in
    record {
      repeated = record { session = c.remove-session.result; first = first; repeat = subst R c.in-Err.is c.repeat.ensures.reply };
      among = first-of-all (Contains followed) c.remove-session.result c.args.self.now.pending.items rest first
          (in-all followed c.args.self.now.pending.items c.args.self.now.among);
      followed_now = c.keep_open.ensures;
    }
