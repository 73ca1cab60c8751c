-- Takes and sends in a row leave the disk.
use Rattle.std.proofs.Common.{◌≡◌, ◌∙◌, inl, inr, refl, ap, arith}
use Rattle.std.proofs.lemmas.Bool.{cases_lt}
use Rattle.block_disk.specs.View.{View, Now, sent_now, DiskKept, Passes}
use Rattle.block_disk.proofs.Passing.{Between, passes_none, passes_weaker, sends_then_sends}
use Rattle.draw_command.specs.Alone.{StaysAlone}

pub stays_none : (at : View) → StaysAlone at at
stays_none at = record {
  kept = record {
    now = λ image left. left;
    size = refl;
    image = refl;
    faults = refl;
    reads = refl;
    syncs = refl;
    writes = refl;
    fit = λ fit. fit;
  };
  time = passes_none at (Now at) (Between at at);
}

-- a send
pub stays_sent : (old new : View) → DiskKept old new → Passes old new (Now old) (Between old new) → StaysAlone old new
stays_sent old new kept time = record { kept = kept; time = time }

-- a take sends no byte
taken_sent : (old new : View) → Passes old new (Now old) (λ count. count ≡ sent_now old) → sent_now new ≡ sent_now old
taken_sent old new passes = elim (cases_lt old.clock new.clock) [
  | inl moved ↦ passes.sent_here new.clock moved (omega arith)
  | inr stood ↦
      let same : new.clock ≡ old.clock = omega (arith, stood, passes.later) in
      passes.sent_past new.clock stood ∙ ap (λ time. old.sent_by time) same
]

-- a take
pub stays_taken : (old new : View) → DiskKept old new → Passes old new (Now old) (λ count. count ≡ sent_now old) → StaysAlone old new
stays_taken old new kept time =
    let none = taken_sent old new time in
    record {
      kept = kept;
      time =
          passes_weaker old new (Now old) (Now old) (λ count. count ≡ sent_now old) (Between old new) (λ image left. left)
          (λ count same. (omega (arith, same), omega (arith, same, none))) time;
    }

-- then others
pub stays_then : (old mid new : View) → StaysAlone old mid → StaysAlone mid new → StaysAlone old new
stays_then old mid new first second = record {
  kept = record {
    now = λ image left. second.kept.now image (first.kept.now image left);
    size = second.kept.size ∙ first.kept.size;
    image = second.kept.image ∙ first.kept.image;
    faults = second.kept.faults ∙ first.kept.faults;
    reads = second.kept.reads ∙ first.kept.reads;
    syncs = second.kept.syncs ∙ first.kept.syncs;
    writes = second.kept.writes ∙ first.kept.writes;
    fit = λ fit. second.kept.fit (first.kept.fit fit);
  };
  time = sends_then_sends old mid new first.time second.time;
}
