use Rattle.std.proofs.Common.{refl, subst}
use Rattle.chart_service.specs.declared.failure.ServiceError.{ServiceError}
use Rattle.live_view.specs.Live as follows
use Rattle.live_view.specs.declared.errors.LiveFault.{LiveFault}
use Rattle.live_service.proofs.Facts.{pushed, push_failed, none_so, none_failed}
use Rattle.live_service.proofs.PushLemmas.{push_after}
use Rattle.live_service.proofs.answering.push.Goals as goal

pub returns-in-Ok : goal.returns-in-Ok
returns-in-Ok g c =
    let made = c.in-Ok.ensures in
    let facts = pushed (record {
      answers = λ old line r new x. x;
      repeats = λ old session r new x. x;
      names = λ it name id x. x;
      sessions = λ it. refl;
    }) c.in-Ok.pushed c.args.live.now c.push.new.self made.unchanged made.pushes in
    record {
      none = none_so c.push.result c.in-Ok.pushed (follows.IsIdle c.args.live.now) c.in-Ok.is c.push.ensures.none;
      same = made.unchanged;
      fewer = facts.fewer;
      reply = facts.reply;
      standing = facts.standing;
      reads = facts.reads;
      may = facts.may;
      opens = facts.opens;
      lasts = facts.lasts;
      blames = facts.blames;
      shows = made.shows;
      followed = push_after c.in-Ok.pushed c.args.live.now c.push.new.self made.unchanged made.pushes;
      fits = made.fits;
      moments = facts.moments;
      unchanged = facts.unchanged;
      disk = facts.disk;
      faults = facts.faults;
      bad = facts.bad;
      steps = facts.steps;
      goes_on = facts.goes_on;
      sound = made.fit;
      total = facts.total;
    }

pub returns-in-Err-Stepper : goal.returns-in-Err-Stepper
returns-in-Err-Stepper g c =
    let F : LiveFault ServiceError → Type 0 = λ f. follows.PushFails f c.args.live.now c.push.new.self in
    let fails = subst F c.in-Err-Stepper.field-0-is c.in-Err-Stepper.ensures.fails in
    let facts = push_failed (record {
      answers = λ old line r new x. x;
      repeats = λ old session r new x. x;
      names = λ it name id x. x;
      sessions = λ it. refl;
    }) c.in-Err-Stepper.error c.args.live.now c.push.new.self fails in
    record {
      none = none_failed c.push.result c.in-Err-Stepper.field-0 c.in-Err-Stepper.error
          (follows.IsIdle c.args.live.now) c.in-Err-Stepper.is c.push.ensures.none;
      same = tt;
      fewer = facts.fewer;
      reply = facts.reply;
      standing = facts.standing;
      reads = facts.reads;
      may = facts.may;
      opens = facts.opens;
      lasts = facts.lasts;
      blames = facts.blames;
      shows = tt;
      followed = tt;
      fits = tt;
      moments = facts.moments;
      unchanged = facts.unchanged;
      disk = facts.disk;
      faults = facts.faults;
      bad = facts.bad;
      steps = facts.steps;
      goes_on = facts.goes_on;
      sound = tt;
      total = facts.total;
    }

pub returns-in-Err-NoMemory : goal.returns-in-Err-NoMemory
returns-in-Err-NoMemory g c =
    let F : LiveFault ServiceError → Type 0 = λ f. follows.PushFails f c.args.live.now c.push.new.self in
    absurd (subst F c.in-Err-NoMemory.field-0-is c.in-Err-NoMemory.ensures.fails)
