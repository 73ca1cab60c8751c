use Rattle.std.proofs.Common.{refl, subst, ◌∙◌}
use Rattle.chart_service.specs.declared.failure.ServiceError.{ServiceError}
use Rattle.live_view.specs.Live as follows
use Rattle.live_view.specs.Lines.{live_line}
use Rattle.live_view.specs.declared.errors.LiveFault.{LiveFault}
use Rattle.live_service.proofs.Facts.{line_answered, line_failed, line_lacks}
use Rattle.live_service.proofs.PushLemmas.{line_after}
use Rattle.live_service.proofs.answering.step_line.Goals as goal

pub returns-in-Ok : goal.returns-in-Ok
returns-in-Ok g c =
    let fit = c.in-Ok.ensures.fit in
    let facts = line_answered (record {
      answers = λ old line r new x. x;
      repeats = λ old session r new x. x;
      names = λ it name id x. x;
      sessions = λ it. refl;
    }) (live_line c.args.line.now) c.args.line.now c.in-Ok.frame c.args.live.now c.step_line.new.self refl fit
    c.in-Ok.ensures.fits c.in-Ok.ensures.reply in
    record {
      reply = facts.reply;
      standing = facts.standing;
      moments = facts.moments;
      reads = facts.reads;
      may = facts.may;
      opens = facts.opens;
      lasts = facts.lasts;
      blames = facts.blames;
      followed = line_after (live_line c.args.line.now) c.args.line.now c.in-Ok.frame c.args.live.now c.step_line.new.self refl facts.may
          c.in-Ok.ensures.reply;
      fits = c.in-Ok.ensures.fits;
      unchanged = facts.unchanged;
      idle = facts.idle;
      ended = tt;
      disk = facts.disk;
      faults = facts.faults;
      bad = facts.bad;
      steps = facts.steps;
      goes_on = facts.goes_on;
      sound = fit;
      total = facts.total;
    }

pub returns-in-Err-Stepper : goal.returns-in-Err-Stepper
returns-in-Err-Stepper g c =
    let F : LiveFault ServiceError → Type 0 = λ f. follows.Fails c.args.line.now f c.args.live.now c.step_line.new.self in
    let fails = subst F c.in-Err-Stepper.field-0-is c.in-Err-Stepper.ensures.fails in
    let facts = line_failed (record {
      answers = λ old line r new x. x;
      repeats = λ old session r new x. x;
      names = λ it name id x. x;
      sessions = λ it. refl;
    }) c.args.line.now c.in-Err-Stepper.error c.args.live.now c.step_line.new.self fails in
    record {
      reply = facts.reply;
      standing = facts.standing;
      moments = facts.moments;
      reads = facts.reads;
      may = facts.may;
      opens = facts.opens;
      lasts = facts.lasts;
      blames = facts.blames;
      followed = tt;
      fits = tt;
      unchanged = facts.unchanged;
      idle = facts.idle;
      ended = fails.idle;
      disk = facts.disk;
      faults = facts.faults;
      bad = facts.bad;
      steps = facts.steps;
      goes_on = facts.goes_on;
      sound = tt;
      total = facts.total;
    }

pub returns-in-Err-NoMemory : goal.returns-in-Err-NoMemory
returns-in-Err-NoMemory g c =
    let F : LiveFault ServiceError → Type 0 = λ f. follows.Fails c.args.line.now f c.args.live.now c.step_line.new.self in
    let stays = subst F c.in-Err-NoMemory.field-0-is c.in-Err-NoMemory.ensures.fails in
    let facts = line_lacks c.args.line.now c.args.live.now c.step_line.new.self stays in
    record {
      reply = facts.reply;
      standing = facts.standing;
      moments = facts.moments;
      reads = facts.reads;
      may = facts.may;
      opens = facts.opens;
      lasts = facts.lasts;
      blames = facts.blames;
      followed = tt;
      fits = tt;
      unchanged = facts.unchanged;
      idle = facts.idle;
      ended = stays.pending_same ∙ c.requires.idle;
      disk = facts.disk;
      faults = facts.faults;
      bad = facts.bad;
      steps = facts.steps;
      goes_on = facts.goes_on;
      sound = tt;
      total = facts.total;
    }
