use Rattle.host_sweeps.proofs.StepLemmas.{step_done, step_failed, step_untold}
use Rattle.host_sweeps.proofs.steps.sweep_step.Goals as goal

pub returns-in-Ok-push_behind : goal.returns-in-Ok-push_behind
returns-in-Ok-push_behind g c =
    let old = c.args.live.now in
    let mid = c.with_stepper.new.self in
    let new = c.push_behind.new.live in
    let made = c.in-Ok.ensures in
    let facts = step_done c.args.rule.now c.in-Ok.swept c.swept_frame.result old mid new c.swept_frame.ensures.frame
    c.swept_frame.ensures.fits made.followed made.does c.in-Ok-push_behind.ensures.pushes in
    record {
      reply = facts.reply;
      standing = facts.standing;
      left = facts.left;
      moments = facts.moments;
      commits = facts.commits;
      within = facts.within;
      tells = facts.tells;
      reads = facts.reads;
      fits = c.swept_frame.ensures.fits;
      ended = facts.ended;
      sessions = facts.sessions;
      followed = facts.followed;
      disk = facts.disk;
      faults = facts.faults;
      bad = facts.bad;
      carries = facts.carries;
      sound = facts.sound;
    }

pub returns-in-Err-push_behind : goal.returns-in-Err-push_behind
returns-in-Err-push_behind g c =
    let old = c.args.live.now in
    let mid = c.with_stepper.new.self in
    let new = c.push_behind.new.live in
    let made = c.in-Ok.ensures in
    let facts = step_untold c.args.rule.now c.in-Ok.swept old mid new c.requires.idle made.followed made.pending made.does
    c.in-Err-push_behind.ensures.unchanged in
    record {
      reply = facts.reply;
      standing = facts.standing;
      left = facts.left;
      moments = facts.moments;
      commits = facts.commits;
      within = facts.within;
      tells = facts.tells;
      reads = facts.reads;
      fits = tt;
      ended = facts.ended;
      sessions = facts.sessions;
      followed = facts.followed;
      disk = facts.disk;
      faults = facts.faults;
      bad = facts.bad;
      carries = facts.carries;
      sound = facts.sound;
    }

pub returns-in-Err : goal.returns-in-Err
returns-in-Err g c =
    let old = c.args.live.now in
    let new = c.with_stepper.new.self in
    let made = c.in-Err.ensures in
    let facts = step_failed c.args.rule.now c.in-Err.error c.error_reply.result old new c.error_reply.ensures.reply
    c.error_reply.ensures.fits c.requires.idle made.followed made.pending made.does in
    record {
      reply = facts.reply;
      standing = facts.standing;
      left = facts.left;
      moments = facts.moments;
      commits = facts.commits;
      within = facts.within;
      tells = facts.tells;
      reads = facts.reads;
      fits = c.error_reply.ensures.fits;
      ended = facts.ended;
      sessions = facts.sessions;
      followed = facts.followed;
      disk = facts.disk;
      faults = facts.faults;
      bad = facts.bad;
      carries = facts.carries;
      sound = facts.sound;
    }
