-- Moments in a row.
use Rattle.std.proofs.Common.{◌≡◌, ℕ, ◌≤◌, inl, inr, sym, subst, arith}
use Rattle.std.proofs.lemmas.Bool.{cases_lt}
use Rattle.block_disk.specs.View.{Image, View, Now, Passes, sent_now}
use Rattle.gate_pages.specs.Pages.{GoesOn}
use Rattle.gate_pages.specs.GateLaws.{goes_by, goes_none, goes_then}
use Rattle.chart_service.specs.Moments.{Since, Through}

-- no time at all
pub through_none : (at : View) (IsSo : Image → ℕ → Type 0) → Through at at IsSo
through_none at IsSo = record { goes = goes_none at; here = λ time image low high left. absurd (omega (arith, low, high)) }

pub since_none : (at : View) (IsSo : Image → ℕ → Type 0) → ((image : Image) → Now at image → IsSo image (sent_now at)) → Since at at IsSo
since_none at IsSo now = record {
  goes = goes_none at;
  here = λ time image low high left.
      let same : time ≡ at.clock = omega (arith, low, high) in
      let P : ℕ → Type 0 = λ t. at.crash t image in
      let Q : ℕ → Type 0 = λ t. IsSo image (at.sent_by t) in
      subst Q (sym same) (now image (subst P same left));
}

-- what calls leave and send at each moment
pub through_by : (old new : View) (images : Image → Type 0) (sent : ℕ → Type 0) (IsSo : Image → ℕ → Type 0) → Passes old new images sent
    → ((image : Image) (count : ℕ) → images image → sent count → IsSo image count) → Through old new IsSo
through_by old new images sent IsSo passes more = record {
  goes = goes_by old new images sent passes;
  here = λ time image low high left. more image (new.sent_by time) (passes.here time image low high left) (passes.sent_here time low high);
}

-- the same moments, in other words
pub through_so : (old new : View) (IsSo AreSo : Image → ℕ → Type 0) → ((image : Image) (count : ℕ) → IsSo image count → AreSo image count)
    → Through old new IsSo → Through old new AreSo
through_so old new IsSo AreSo more through = record {
  goes = through.goes;
  here = λ time image low high left. more image (new.sent_by time) (through.here time image low high left);
}

pub since_so : (old new : View) (IsSo AreSo : Image → ℕ → Type 0) → ((image : Image) (count : ℕ) → IsSo image count → AreSo image count)
    → Since old new IsSo → Since old new AreSo
since_so old new IsSo AreSo more since = record {
  goes = since.goes;
  here = λ time image low high left. more image (new.sent_by time) (since.here time image low high left);
}

-- without the first of them
pub since_later : (old new : View) (IsSo : Image → ℕ → Type 0) → Since old new IsSo → Through old new IsSo
since_later old new IsSo since = record {
  goes = since.goes;
  here = λ time image low high left. since.here time image (omega (arith, low)) high left;
}

-- what is so at a moment that later calls leave behind
moved : (mid new : View) (IsSo : Image → ℕ → Type 0) → GoesOn mid new → (time : ℕ) (image : Image) → time ≤ mid.clock
    → IsSo image (mid.sent_by time) → IsSo image (new.sent_by time)
moved mid new IsSo goes time image within is = let P : ℕ → Type 0 = λ n. IsSo image n in subst P (sym (goes.sent_past time within)) is

-- moments, and then others
pub through_then : (old mid new : View) (IsSo : Image → ℕ → Type 0) → Through old mid IsSo → Through mid new IsSo → Through old new IsSo
through_then old mid new IsSo first second = record {
  goes = goes_then old mid new first.goes second.goes;
  here = λ time image low high left. elim (cases_lt mid.clock time) [
    | inl late ↦ second.here time image late high left
    | inr early ↦ moved mid new IsSo second.goes time image early (first.here time image low early (second.goes.past time image early left))
  ];
}

pub since_then : (old mid new : View) (IsSo : Image → ℕ → Type 0) → Since old mid IsSo → Through mid new IsSo → Since old new IsSo
since_then old mid new IsSo first second = record {
  goes = goes_then old mid new first.goes second.goes;
  here = λ time image low high left. elim (cases_lt mid.clock time) [
    | inl late ↦ second.here time image late high left
    | inr early ↦ moved mid new IsSo second.goes time image early (first.here time image low early (second.goes.past time image early left))
  ];
}

pub since_both : (old mid new : View) (IsSo : Image → ℕ → Type 0) → Since old mid IsSo → Since mid new IsSo → Since old new IsSo
since_both old mid new IsSo first second = since_then old mid new IsSo first (since_later mid new IsSo second)
