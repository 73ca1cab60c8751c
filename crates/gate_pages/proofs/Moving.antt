-- Calls of a disk in a row, and the moments that they pass.
use Rattle.std.proofs.Common.{◌≡◌, ℕ, ◌+◌, ◌≤◌, refl, sym, ap, subst, arith, inl, inr, ◌∙◌}
use Rattle.std.proofs.lemmas.Bool.{cases_lt}
use Rattle.std.proofs.Math.Path.{fun_ext}
use Rattle.block_disk.specs.View.{Image, View, Now, Honest, sent_now, Only, SameOff, TornOff, Passes, Rises, Moves, Nowhere}
use Rattle.block_disk.proofs.Passing.{passes_weaker, passes_then}
use Rattle.gate_pages.specs.Pages.{Quiet}

-- no byte was sent on the way
pub sent_same : (old new : View) (images : Image → Type 0) → Passes old new images (Quiet old) → sent_now new ≡ sent_now old
sent_same old new images passes = elim (cases_lt old.clock new.clock) [
  | inl moved ↦ passes.sent_here new.clock moved (omega arith)
  | inr stood ↦
      let same : new.clock ≡ old.clock = omega (arith, stood, passes.later) in
      passes.sent_past new.clock stood ∙ ap (λ time. old.sent_by time) same
]

-- one stretch of time after another
pub time_then : (old mid new : View) (images : Image → Type 0) → Passes old mid images (Quiet old) → Passes mid new images (Quiet mid)
    → Passes old new images (Quiet old)
time_then old mid new images first second =
    passes_then old mid new images (Quiet old) first
    (passes_weaker mid new images images (Quiet mid) (Quiet old) (λ image left. left) (λ count quiet. quiet
    ∙ sent_same old mid images first) second)

-- what may be left after a call is what might be left before it, but at the blocks that it touched
pub moves_now : (touched : ℕ → Type 0) (reads syncs writes : ℕ) (old new : View) (image : Image) → Moves touched reads syncs writes old new
    → Now new image → TornOff touched (Now old) image
moves_now touched reads syncs writes old new image moves left = elim (cases_lt old.clock new.clock) [
  | inl moved ↦ moves.time.here new.clock image moved (omega arith) left
  | inr stood ↦
      let same : new.clock ≡ old.clock = omega (arith, stood, moves.time.later) in
      let P : ℕ → Type 0 = λ time. old.crash time image in
      record { from = image; was = subst P same (moves.time.past new.clock image stood left); same = λ number free. refl }
]

rises_then : (first second old mid new : ℕ) → Rises first old mid → Rises second mid new → Rises (first + second) old new
rises_then first second old mid new one two = record { low = omega (arith, one.low, two.low); high = omega (arith, one.high, two.high) }

rises_weaker : (most more old new : ℕ) → most ≤ more → Rises most old new → Rises more old new
rises_weaker most more old new within one = record { low = one.low; high = omega (arith, one.high, within) }

-- calls in a row
pub moves_then : (touched : ℕ → Type 0) (reads syncs writes reads' syncs' writes' : ℕ) (old mid new : View)
    → Moves touched reads syncs writes old mid → Moves touched reads' syncs' writes' mid new
    → Moves touched (reads + reads') (syncs + syncs') (writes + writes') old new
moves_then touched reads syncs writes reads' syncs' writes' old mid new first second =
    let torn : (image : Image) → TornOff touched (Now mid) image → TornOff touched (Now old) image =
    λ image left.
    let back = moves_now touched reads syncs writes old mid left.from first left.was in
    record { from = back.from; was = back.was; same = λ number free. left.same number free ∙ back.same number free } in
    record {
      time = time_then old mid new (TornOff touched (Now old)) first.time
          (passes_weaker mid new (TornOff touched (Now mid)) (TornOff touched (Now old)) (Quiet mid) (Quiet mid) torn
          (λ count quiet. quiet) second.time);
      honest = λ honest. second.honest (first.honest honest);
      was_honest = λ honest. first.was_honest (second.was_honest honest);
      off = λ honest number free. second.off (first.honest honest) number free ∙ first.off honest number free;
      size = second.size ∙ first.size;
      beside = second.beside ∙ first.beside;
      fit = λ fit. second.fit (first.fit fit);
      faults = omega (arith, first.faults, second.faults);
      reads = rises_then reads reads' old.reads mid.reads new.reads first.reads second.reads;
      syncs = rises_then syncs syncs' old.syncs mid.syncs new.syncs first.syncs second.syncs;
      writes = rises_then writes writes' old.writes mid.writes new.writes first.writes second.writes;
    }

-- fewer blocks and fewer calls
pub moves_weaker : (touched touched' : ℕ → Type 0) (reads syncs writes reads' syncs' writes' : ℕ) (old new : View)
    → ((number : ℕ) → touched number → touched' number) → reads ≤ reads' → syncs ≤ syncs' → writes ≤ writes'
    → Moves touched reads syncs writes old new → Moves touched' reads' syncs' writes' old new
moves_weaker touched touched' reads syncs writes reads' syncs' writes' old new more more_reads more_syncs more_writes moves = record {
  time = passes_weaker old new (TornOff touched (Now old)) (TornOff touched' (Now old)) (Quiet old) (Quiet old)
      (λ image torn. record {
        from = torn.from;
        was = torn.was;
        same = λ number free. torn.same number (λ in_less. free (more number in_less));
      })
      (λ count quiet. quiet) moves.time;
  honest = moves.honest;
  was_honest = moves.was_honest;
  off = λ honest number free. moves.off honest number (λ in_less. free (more number in_less));
  size = moves.size;
  beside = moves.beside;
  fit = moves.fit;
  faults = moves.faults;
  reads = rises_weaker reads reads' old.reads new.reads more_reads moves.reads;
  syncs = rises_weaker syncs syncs' old.syncs new.syncs more_syncs moves.syncs;
  writes = rises_weaker writes writes' old.writes new.writes more_writes moves.writes;
}

-- calls in a row, told of more blocks and more calls
pub moves_on : {touched touched' touched'' : ℕ → Type 0} {reads syncs writes reads' syncs' writes' reads'' syncs'' writes'' : ℕ}
    {old mid new : View}
    → ((number : ℕ) → touched number → touched'' number) → ((number : ℕ) → touched' number → touched'' number)
    → reads + reads' ≤ reads'' → syncs + syncs' ≤ syncs'' → writes + writes' ≤ writes''
    → Moves touched reads syncs writes old mid → Moves touched' reads' syncs' writes' mid new
    → Moves touched'' reads'' syncs'' writes'' old new
moves_on {touched} {touched'} {touched''} {reads} {syncs} {writes} {reads'} {syncs'} {writes'} {reads''} {syncs''} {writes''} {old} {mid}
    {new} more more' few_reads few_syncs few_writes first second =
    moves_weaker touched'' touched'' (reads + reads') (syncs + syncs') (writes + writes') reads'' syncs'' writes'' old new
    (λ number is. is) few_reads few_syncs few_writes
    (moves_then touched'' reads syncs writes reads' syncs' writes' old mid new
    (moves_weaker touched touched'' reads syncs writes reads syncs writes old mid more (omega arith) (omega arith) (omega arith) first)
    (moves_weaker touched' touched'' reads' syncs' writes' reads' syncs' writes' mid new more' (omega arith) (omega arith)
    (omega arith) second))

-- calls with a sync behind them
pub moves_synced : {touched : ℕ → Type 0} {reads writes : ℕ} {old mid new : View} → Moves touched reads 0 writes old mid
    → Moves Nowhere 0 1 0 mid new → Moves touched reads 1 writes old new
moves_synced first second = moves_on (λ number is. is) (λ number nothing. absurd nothing) (omega arith) (omega arith)
    (omega arith) first second

-- fewer blocks and fewer calls, where the facts tell which
pub moves_among : {touched touched' : ℕ → Type 0} {reads syncs writes reads' syncs' writes' : ℕ} {old new : View}
    → ((number : ℕ) → touched number → touched' number) → reads ≤ reads' → syncs ≤ syncs' → writes ≤ writes'
    → Moves touched reads syncs writes old new → Moves touched' reads' syncs' writes' old new
moves_among {touched} {touched'} {reads} {syncs} {writes} {reads'} {syncs'} {writes'} {old} {new} more few_reads few_syncs few_writes
    moves =
    moves_weaker touched touched' reads syncs writes reads' syncs' writes' old new more few_reads few_syncs few_writes moves

-- no call at all
pub moves_none : (touched : ℕ → Type 0) (reads syncs writes : ℕ) (at : View) → Moves touched reads syncs writes at at
moves_none touched reads syncs writes at = record {
  time = record {
    later = omega arith;
    past = λ time image within left. left;
    kept = λ time image within left. left;
    here = λ time image low high left. absurd (omega (arith, low, high));
    sent_past = λ time within. refl;
    sent_here = λ time low high. absurd (omega (arith, low, high));
  };
  honest = λ honest. honest;
  was_honest = λ honest. honest;
  off = λ honest number free. refl;
  size = refl;
  beside = refl;
  fit = λ fit. fit;
  faults = omega arith;
  reads = record { low = omega arith; high = omega arith };
  syncs = record { low = omega arith; high = omega arith };
  writes = record { low = omega arith; high = omega arith };
}

-- where nothing is touched the image stays
pub untouched : (reads syncs writes : ℕ) (old new : View) → Moves Nowhere reads syncs writes old new → Honest old → new.image ≡ old.image
untouched reads syncs writes old new moves honest = fun_ext (λ number. moves.off honest number (λ no_block. no_block))

pub nothing_torn : (images : Image → Type 0) (image : Image) → TornOff Nowhere images image → images image
nothing_torn images image torn =
    let same : image ≡ torn.from = fun_ext (λ number. torn.same number (λ no_block. no_block)) in
    subst images (sym same) torn.was

-- one of the images that may be left is the one that reads give
pub honest_by : (view : View) (image : Image) → Only view.image (Now view) → Now view image → Honest view
honest_by view image only left = subst (Now view) (only image left) left

-- at each moment of calls on a disk at rest there is the image that it had, but at the blocks that they touch
pub moments_from : (touched : ℕ → Type 0) (reads syncs writes : ℕ) (old new : View) (images : Image → Type 0)
    → Moves touched reads syncs writes old new → Only old.image (Now old)
    → ((image : Image) → SameOff touched old.image image → Honest old → images image) → Passes old new images (Quiet old)
moments_from touched reads syncs writes old new images moves only at_each =
    passes_weaker old new (TornOff touched (Now old)) images (Quiet old) (Quiet old)
    (λ image torn.
    let is = only torn.from torn.was in
    let same : SameOff touched old.image image = λ number free. torn.same number free ∙ ap (λ (i : Image). i number) is in
    at_each image same (honest_by old torn.from only torn.was))
    (λ count quiet. quiet) moves.time

-- nothing is pending, and what reads give has this property
pub record Rests (property : Image → Type 0) (view : View) : Type 0 where
  pub only : Only view.image (Now view)
  pub is : Honest view → property view.image

-- calls that end with nothing pending
pub rested : (touched : ℕ → Type 0) (reads syncs writes : ℕ) (old new : View) (property : Image → Type 0)
    → Moves touched reads syncs writes old new → Only new.image (Now new) → (Honest old → property new.image) → Rests property new
rested touched reads syncs writes old new property moves only holds = record { only = only; is = λ honest. holds (moves.was_honest honest) }
