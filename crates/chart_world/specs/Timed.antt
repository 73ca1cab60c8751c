-- What the calls of a disk, takes and sends do to a world in memory.
use Rattle.std.proofs.Common.{◌≡◌, ℕ, ◌-◌, ◌≤◌, List, length, refl, sym, subst, arith, ◌∙◌}
use Rattle.block_disk.specs.View.{Image, View, Beside, Now, Passes, Moves, DiskKept, Only}
use Rattle.block_disk.specs.MemDisk.{alone}
use Rattle.block_disk.proofs.Passing.{Between}
use Rattle.chart_world.specs.Sends.{sends_by, DatedBy, timed}
use Rattle.chart_world.specs.SentOn.{SentOn}
use Rattle.chart_world.specs.declared.sent_log.Sent.{Sent}
use Rattle.chart_world.specs.SendMoments.{dated, sends_done, bytes_done, disk_moment, now_is, sent_is}

-- a later moment of the disk leaves the dates
pub dated_later : (clock clock' : ℕ) (log : List Sent) → clock ≤ clock' → DatedBy clock log → DatedBy clock' log
dated_later clock clock' log later all k d below = omega (arith, all k d below, later)

-- the images of now are those of the disk
pub now_disk : (disk : View) (log : List Sent) (others : Beside) (image : Image) → DatedBy disk.clock log
    → Now (timed disk log others) image → Now disk image
now_disk disk log others image all left = let P : ℕ → Type 0 = λ n. disk.crash n image in subst P (now_is disk.clock log all) left

pub now_world : (disk : View) (log : List Sent) (others : Beside) (image : Image) → DatedBy disk.clock log → Now disk image
    → Now (timed disk log others) image
now_world disk log others image all left = let P : ℕ → Type 0 = λ n. disk.crash n image in subst P (sym (now_is disk.clock log all)) left

-- a call of the disk
pub moves_timed : (touched : ℕ → Type 0) (reads syncs writes : ℕ) (disk disk' : View) (log : List Sent) (others : Beside)
    → DatedBy disk.clock log → Moves touched reads syncs writes disk disk'
    → Moves touched reads syncs writes (timed disk log others) (timed disk' log others)
moves_timed touched reads syncs writes disk disk' log others all moves =
    let all' = dated_later disk.clock disk'.clock log moves.time.later all in
    let sends = length log in
    record {
      time = record {
        later = omega (arith, moves.time.later);
        past = λ time image within left. moves.time.past (time - sends_by log time) image
            (disk_moment disk.clock log time (dated disk.clock log all) within) left;
        kept = λ time image within left. moves.time.kept (time - sends_by log time) image
            (disk_moment disk.clock log time (dated disk.clock log all) within) left;
        here = λ time image after upto left.
            let done = sends_done disk.clock log time (dated disk.clock log all) (omega (arith, after)) in
            let torn = moves.time.here (time - sends_by log time) image (omega (arith, done, after)) (omega (arith, done, upto)) left in
            record { from = torn.from; was = now_world disk log others torn.from all torn.was; same = torn.same };
        sent_past = λ time within. refl;
        sent_here = λ time after upto. bytes_done disk.clock 0 log time (dated disk.clock log all) (omega (arith, after))
            ∙ sym (sent_is disk.clock log all);
      };
      honest = λ was. now_world disk' log others disk'.image all' (moves.honest (now_disk disk log others disk.image all was));
      was_honest = λ is. now_world disk log others disk.image all (moves.was_honest (now_disk disk' log others disk'.image all' is));
      off = λ honest. moves.off (now_disk disk log others disk.image all honest);
      size = moves.size;
      beside = refl;
      fit = moves.fit;
      faults = moves.faults;
      reads = moves.reads;
      syncs = moves.syncs;
      writes = moves.writes;
    }

-- after a sync
pub only_timed : (disk : View) (log : List Sent) (others : Beside) → DatedBy disk.clock log → Only disk.image (Now disk)
    → Only disk.image (Now (timed disk log others))
only_timed disk log others all only other left = only other (now_disk disk log others other all left)

-- what is beside the disk doesn't touch it
pub kept_timed : {D : Type 0} (view : D → View) (old new : D) (log log' : List Sent) (others others' : Beside) → new ≡ old
    → DatedBy (view old).clock log → DatedBy (view new).clock log' → DiskKept (timed (view old) log others) (timed (view new) log' others')
kept_timed {D} view old new log log' others others' same all all' =
    let P : D → Type 0 = λ d. DatedBy (view d).clock log' → DiskKept (timed (view old) log others) (timed (view d) log' others') in
    subst P (sym same) (λ dates. record {
      now = λ image left. now_world (view old) log' others' image dates (now_disk (view old) log others image all left);
      size = refl;
      image = refl;
      faults = refl;
      reads = refl;
      syncs = refl;
      writes = refl;
      fit = λ fit. fit;
    }) all'

-- no moment at all
pub quiet_timed : {D : Type 0} (view : D → View) (old new : D) (log log' : List Sent) (others others' : Beside) (images : Image
    → Type 0) (sent : ℕ → Type 0) → new ≡ old → log' ≡ log
    → Passes (timed (view old) log others) (timed (view new) log' others') images sent
quiet_timed {D} view old new log log' others others' images sent same same_log =
    let P : D → Type 0 = λ d. Passes (timed (view old) log others) (timed (view d) log' others') images sent in
    let Q : List Sent → Type 0 = λ l. Passes (timed (view old) log others) (timed (view old) l others') images sent in
    subst P (sym same) (subst Q (sym same_log) (record {
      later = omega arith;
      past = λ time image within left. left;
      kept = λ time image within left. left;
      here = λ time image low high left. absurd (omega (arith, low, high));
      sent_past = λ time within. refl;
      sent_here = λ time low high. absurd (omega (arith, low, high));
    }))

-- sends in a row, whatever stands beside
pub sends_timed : (old new : View) (log log' : List Sent) (others others' : Beside) (most : ℕ)
    → SentOn most (timed old log alone) (timed new log' alone)
    → Passes (timed old log others) (timed new log' others') (Now (timed old log others))
    (Between (timed old log others) (timed new log' others'))
sends_timed old new log log' others others' most sent = record {
  later = sent.time.later;
  past = sent.time.past;
  kept = sent.time.kept;
  here = sent.time.here;
  sent_past = sent.time.sent_past;
  sent_here = sent.time.sent_here;
}
