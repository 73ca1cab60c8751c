-- An opening that asked for the size first.
use Rattle.std.proofs.Common.{◌≡◌, ℕ, false, inl, inr, sym, subst, arith, ◌∙◌}
use Rattle.block_disk.specs.View.{Image, View, Moves, Nowhere, Passes}
use Rattle.block_disk.proofs.Passing.{passes_weaker}
use Rattle.gate_pages.specs.GatePages.{HasClosedGate, IsBroken, StandsAsBefore}
use Rattle.gate_pages.specs.Journal.{is_open, page_count}
use Rattle.gate_pages.specs.Openings.{Explains, Leaves}
use Rattle.gate_pages.specs.Pages.{Quiet}
use Rattle.gate_pages.specs.declared.errors.OpenCause.{OpenCause}
use Rattle.gate_pages.specs.declared.errors.OpenCause.TheVariants.{DiskFault, TooSmall, BadDirectory, NoMemory}
use Rattle.gate_pages.proofs.Moving.{moves_then, time_then, untouched}
use Rattle.gate_pages.proofs.Replaying.{stands_quiet, stands_back}

module _ (old mid new : View) (asked : Moves Nowhere 0 0 0 old mid) where
  broken_size : (image : Image) → IsBroken (page_count mid.size) image → IsBroken (page_count old.size) image
  broken_size image broken = let P : ℕ → Type 0 = λ n. IsBroken (page_count n) image in subst P asked.size broken

  pub explains_back : mid.faults ≡ old.faults → (cause : OpenCause) → Explains cause mid new → Explains cause old new
  explains_back same DiskFault (inl risen) = inl (omega (arith, risen, same))
  explains_back same DiskFault (inr last) = inr (omega (arith, last.0, same), last.1 ∙ same)
  explains_back same (TooSmall size) is = (is.0 ∙ asked.size, is.1)
  explains_back same BadDirectory is = (
    omega (arith, is.0, asked.size),
    λ honest.
        let P : Image → Type 0 = λ i. IsBroken (page_count old.size) i in
        subst P (untouched 0 0 0 old mid asked honest) (broken_size mid.image (is.1 (asked.honest honest))),
  )
  explains_back same NoMemory is = tt

  pub leaves_back : (cause : OpenCause) → Leaves cause mid new → Leaves cause old new
  leaves_back DiskFault is = tt
  leaves_back (TooSmall size) moves = moves_then Nowhere 0 0 0 0 0 0 old mid new asked moves
  leaves_back BadDirectory left = record {
    moves = moves_then Nowhere 0 0 0 2 1 0 old mid new asked left.moves;
    broken = λ image is. broken_size image (left.broken image is);
  }
  leaves_back NoMemory is = tt

  -- a gate that is closed stays so, and what comes after leaves it unwritten
  pub unwritten_back : (HasClosedGate mid → Moves Nowhere 1 1 0 mid new) → HasClosedGate old → Moves Nowhere 1 1 0 old new
  unwritten_back unwritten closed =
      let P : Image → Type 0 = λ i. is_open (i 0) ≡ false in
      moves_then Nowhere 0 0 0 1 1 0 old mid new asked
      (unwritten (record {
        honest = asked.honest closed.honest;
        gate = subst P (sym (untouched 0 0 0 old mid asked closed.honest)) closed.gate;
      }))

  -- the moments of what comes after
  pub moments_back : (count : ℕ) → Passes mid new (StandsAsBefore count mid) (Quiet mid)
      → Passes old new (StandsAsBefore count old) (Quiet old)
  moments_back count passes =
      time_then old mid new (StandsAsBefore count old) (stands_quiet count 0 0 0 old mid asked)
      (passes_weaker mid new (StandsAsBefore count mid) (StandsAsBefore count old) (Quiet mid) (Quiet mid)
      (λ image stands. stands_back count 0 0 0 old mid image asked stands) (λ sent quiet. quiet) passes)

-- the number of pages as it was told
pub counted_moments : (count count' : ℕ) (old new : View) → count ≡ count' → Passes old new (StandsAsBefore count old) (Quiet old)
    → Passes old new (StandsAsBefore count' old) (Quiet old)
counted_moments count count' old new same passes = let P : ℕ → Type 0 = λ n. Passes old new (StandsAsBefore n old) (Quiet old) in
    subst P same passes
