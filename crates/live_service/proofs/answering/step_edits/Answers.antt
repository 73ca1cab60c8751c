use Rattle.std.proofs.Common.{Err, refl, ap, subst, inr}
use Rattle.chart_service.specs.Stepping.{state_of}
use Rattle.chart_service.specs.declared.failure.ServiceError.{ServiceError}
use Rattle.live_view.specs.Live as follows
use Rattle.live_view.specs.declared.errors.LiveFault.{LiveFault}
use Rattle.live_service.specs.Shown as its
use Rattle.live_service.proofs.Grouping.{group_facts, group_replied, some_of}
use Rattle.live_service.proofs.Replying.{lacks_no_disk, never_fails, same_error}
use Rattle.live_service.proofs.answering.step_edits.Goals as goal

pub returns-in-Ok : goal.returns-in-Ok
returns-in-Ok g c =
    let old = c.args.live.now in
    let new = c.step_edits.new.self in
    let edits = c.args.edits.now in
    let e = c.in-Ok.ensures in
    let done = e.reply.done in
    let facts = group_facts edits old new done.does in
    record {
      reply = group_replied (record { answers = λ a l f b x. x; loses = λ a l e b x. x; names = λ it name id x. x; sessions = λ it. refl })
          edits c.in-Ok.frames.items old new e.fit e.reply;
      standing = λ total book told stands. tt;
      left = λ total book told stands other. some_of edits
          (state_of book total old.stepper.service.sessions) old.followed.items old.pending.items (its.view new).image
          (done.left total book told stands);
      moments = facts.moments;
      reads = facts.reads;
      syncs = facts.syncs;
      each = e.each;
      fits = e.fits;
      replies = done.replies;
      ended = tt;
      sessions = facts.sessions;
      followed = e.reply.followed_same;
      disk = λ is. absurd (never_fails _ c.in-Ok.frames _ is);
      faults = done.faults;
      bad = tt;
      blames = tt;
      moves = facts.moves;
      goes_on = facts.goes_on;
      sound = λ other. e.fit;
      total = facts.total;
    }

pub returns-in-Err-Stepper : goal.returns-in-Err-Stepper
returns-in-Err-Stepper g c =
    let old = c.args.live.now in
    let new = c.step_edits.new.self in
    let edits = c.args.edits.now in
    let error = c.in-Err-Stepper.error in
    let F : LiveFault ServiceError → Type 0 = λ f. follows.EditsFail edits f old new in
    let fails = subst F c.in-Err-Stepper.field-0-is c.in-Err-Stepper.ensures.fails in
    let lost = fails.failed in
    let facts = group_facts edits old new lost.does in
    record {
      reply = λ total book told stands. tt;
      standing = lost.standing;
      left = λ total book told stands other. some_of edits
          (state_of book total old.stepper.service.sessions) old.followed.items old.pending.items (its.view new).image
          (lost.left total book told stands (λ is. other (ap Err is)));
      moments = facts.moments;
      reads = facts.reads;
      syncs = facts.syncs;
      each = tt;
      fits = tt;
      replies = tt;
      ended = fails.idle;
      sessions = facts.sessions;
      followed = fails.followed_same;
      disk = λ is. lost.disk (same_error _ error _ is);
      faults = lost.faults;
      bad = lost.bad;
      blames = lost.blames;
      moves = facts.moves;
      goes_on = facts.goes_on;
      sound = λ other. lost.sound (λ is. other (ap Err is));
      total = facts.total;
    }

pub returns-in-Err-NoMemory : goal.returns-in-Err-NoMemory
returns-in-Err-NoMemory g c =
    let old = c.args.live.now in
    let new = c.step_edits.new.self in
    let edits = c.args.edits.now in
    let F : LiveFault ServiceError → Type 0 = λ f. follows.EditsFail edits f old new in
    let untold = subst F c.in-Err-NoMemory.field-0-is c.in-Err-NoMemory.ensures.fails in
    let done = untold.done in
    let facts = group_facts edits old new done.does in
    record {
      reply = λ total book told stands. tt;
      standing = λ total book told stands. inr refl;
      left = λ total book told stands other. some_of edits
          (state_of book total old.stepper.service.sessions) old.followed.items old.pending.items (its.view new).image
          (done.left total book told stands);
      moments = facts.moments;
      reads = facts.reads;
      syncs = facts.syncs;
      each = tt;
      fits = tt;
      replies = tt;
      ended = untold.idle;
      sessions = facts.sessions;
      followed = untold.followed_same;
      disk = λ is. absurd (lacks_no_disk _ is);
      faults = done.faults;
      bad = tt;
      blames = tt;
      moves = facts.moves;
      goes_on = facts.goes_on;
      sound = λ other. untold.fit;
      total = facts.total;
    }
