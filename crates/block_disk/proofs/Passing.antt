-- How time goes on over calls in a row.
use Rattle.std.proofs.Common.{◌≡◌, ℕ, ◌≤◌, refl, sym, ap, subst, arith, inl, inr, ◌∙◌}
use Rattle.std.proofs.lemmas.Bool.{cases_lt}
use Rattle.block_disk.specs.View.{Image, View, Now, sent_now, Passes}

-- a number lies between the numbers of bytes sent at two moments
abbrev pub Between : View → View → ℕ → Type 0
Between old new count = (sent_now old ≤ count) × (count ≤ sent_now new)

-- no time at all
pub passes_none : (at : View) (images : Image → Type 0) (sent : ℕ → Type 0) → Passes at at images sent
passes_none at images sent = record {
  later = omega arith;
  past = λ time image within left. left;
  kept = λ time image within left. left;
  here = λ time image low high left. absurd (omega (arith, low, high));
  sent_past = λ time within. refl;
  sent_here = λ time low high. absurd (omega (arith, low, high));
}

-- what is said of the moments may be weaker
pub passes_weaker : (old new : View) (images images' : Image → Type 0) (sent sent' : ℕ → Type 0)
    → ((image : Image) → images image → images' image) → ((count : ℕ) → sent count → sent' count) → Passes old new images sent
    → Passes old new images' sent'
passes_weaker old new images images' sent sent' more more_sent passes = record {
  later = passes.later;
  past = passes.past;
  kept = passes.kept;
  here = λ time image low high left. more image (passes.here time image low high left);
  sent_past = passes.sent_past;
  sent_here = λ time low high. more_sent (new.sent_by time) (passes.sent_here time low high);
}

-- one call after another
pub passes_then : (old mid new : View) (images : Image → Type 0) (sent : ℕ → Type 0) → Passes old mid images sent
    → Passes mid new images sent → Passes old new images sent
passes_then old mid new images sent first second = record {
  later = omega (arith, first.later, second.later);
  past = λ time image within left. first.past time image within (second.past time image (omega (arith, within, first.later)) left);
  kept = λ time image within left. second.kept time image (omega (arith, within, first.later)) (first.kept time image within left);
  here = λ time image low high left. elim (cases_lt mid.clock time) [
    | inl late ↦ second.here time image late high left
    | inr early ↦ first.here time image low early (second.past time image early left)
  ];
  sent_past = λ time within. second.sent_past time (omega (arith, within, first.later)) ∙ first.sent_past time within;
  sent_here = λ time low high. elim (cases_lt mid.clock time) [
    | inl late ↦ second.sent_here time late high
    | inr early ↦ subst sent (sym (second.sent_past time early)) (first.sent_here time low early)
  ];
}

-- what may be left now might have been left then, where the images are those of then
pub now_back : (old new : View) (sent : ℕ → Type 0) → Passes old new (Now old) sent → (image : Image) → Now new image → Now old image
now_back old new sent passes image left = elim (cases_lt old.clock new.clock) [
  | inl moved ↦ passes.here new.clock image moved (omega arith) left
  | inr stood ↦
      let same : new.clock ≡ old.clock = omega (arith, stood, passes.later) in
      let P : ℕ → Type 0 = λ time. old.crash time image in
      subst P same (passes.past new.clock image stood left)
]

-- the number of bytes sent doesn't fall where it lies between
pub sent_rises : (old new : View) (images : Image → Type 0) → Passes old new images (Between old new) → sent_now old ≤ sent_now new
sent_rises old new images passes = elim (cases_lt old.clock new.clock) [
  | inl moved ↦ (passes.sent_here new.clock moved (omega arith)).0
  | inr stood ↦
      let same : new.clock ≡ old.clock = omega (arith, stood, passes.later) in
      let equal : sent_now new ≡ sent_now old = passes.sent_past new.clock stood ∙ ap (λ time. old.sent_by time) same in
      omega (arith, equal)
]

-- sends in a row
pub sends_then_sends : (old mid new : View) → Passes old mid (Now old) (Between old mid) → Passes mid new (Now mid) (Between mid new)
    → Passes old new (Now old) (Between old new)
sends_then_sends old mid new first second =
    let low = sent_rises old mid (Now old) first in
    let high = sent_rises mid new (Now mid) second in
    passes_then old mid new (Now old) (Between old new)
    (passes_weaker old mid (Now old) (Now old) (Between old mid) (Between old new) (λ image left. left)
    (λ count between. (between.0, omega (arith, between.1, high))) first)
    (passes_weaker mid new (Now mid) (Now old) (Between mid new) (Between old new) (now_back old mid (Between old mid) first)
    (λ count between. (omega (arith, between.0, low), between.1)) second)
