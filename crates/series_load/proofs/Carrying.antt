-- Calls in a row.
use Rattle.std.proofs.Common.{◌≡◌, ◌∙◌, ℕ, refl, inl, inr, arith}
use Rattle.block_disk.specs.Counts.{HasRisen}
use Rattle.block_disk.specs.View.{View}
use Rattle.gate_pages.specs.GateLaws.{goes_none, goes_then}
use Rattle.series_load.specs.Steps.{Carries}

pub carries_none : (told : Type 0) (at under : View) (total count : ℕ) → Carries told told at at under under total total count count
carries_none told at under total count = record {
  is_told = λ says. says;
  was_told = λ says. says;
  size = refl;
  beside = refl;
  faults = omega arith;
  goes_on = goes_none under;
  total_is = refl;
  more = omega arith;
}

pub carries_then : (told told' told'' : Type 0) (old mid new under under' under'' : View) (total total' total'' count count' count'' : ℕ)
    → Carries told told' old mid under under' total total' count count'
    → Carries told' told'' mid new under' under'' total' total'' count' count''
    → Carries told told'' old new under under'' total total'' count count''
carries_then told told' told'' old mid new under under' under'' total total' total'' count count' count'' first second = record {
  is_told = λ says. second.is_told (first.is_told says);
  was_told = λ says. first.was_told (second.was_told says);
  size = second.size ∙ first.size;
  beside = second.beside ∙ first.beside;
  faults = omega (arith, first.faults, second.faults);
  goes_on = goes_then under under' under'' first.goes_on second.goes_on;
  total_is = second.total_is ∙ first.total_is;
  more = omega (arith, first.more, second.more);
}

risen_more : (old mid new : ℕ) → mid ≡ old → HasRisen mid new → HasRisen old new
risen_more old mid new same (inl risen) = inl (omega (arith, same, risen))
risen_more old mid new same (inr last) = inr (omega (arith, same, last.0), last.1 ∙ same)
