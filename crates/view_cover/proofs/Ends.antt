-- The last and the first of the lowest keys below a key.
use Rattle.std.proofs.Common.{ℕ, zero, suc, ◌≡◌, ◌%◌, ◌<◌, ◌≤◌, ◌⊎◌, inl, inr, Option, None, Some, refl, sym, ap, ◌∙◌, subst, arith}
use Rattle.std.proofs.lemmas.Bool.{cases_lt, cases_eq}
use Rattle.om3_coeff.specs.declared.key.Key.{Key}
use Rattle.om3_coeff.specs.declared.span.Span.{Span}
use Rattle.om3_coeff.specs.Keys.{first_slot, end_slot, left_of, right_of, parent_of, IsKey, IsAtOrAbove}
use Rattle.om3_coeff.proofs.KeyLemmas.{left_first, right_end, even_half, odd_half}
use Rattle.view_keys.specs.Ranges.{IsInRange}
use Rattle.view_keys.proofs.Ranging.{above-in_range, shared-above, first-in_range}
use Rattle.view_cover.specs.Scene.{Scene, known_in, IsSeen}
use Rattle.view_cover.specs.Front.{IsLowest}
use Rattle.view_cover.proofs.Spans.{Basis, not-known, not-empty}
use Rattle.view_cover.proofs.Trees.{peak, above-same, above-trans, level-same, seen-above, left-key, right-key, left-parent, right-parent}
use Rattle.view_cover.proofs.Trees.{left-above, right-above}
use Rattle.view_cover.proofs.Fronts.{lowest-slot}

pub some-slots : (k : Key) → first_slot k < end_slot k
some-slots k = (first-in_range k).to

pub middle-is : (k : Key) → end_slot (left_of k) ≡ first_slot (right_of k)
middle-is k = refl

-- a key is seen, or isn't
known-cases : (o : Option (Option Span)) → ((s : Span) × (o ≡ Some (Some s))) ⊎ ((s : Span) → o ≡ Some (Some s) → ⊥)
known-cases None = inr (λ s h. not-known h)
known-cases (Some None) = inr (λ s h. not-empty h)
known-cases (Some (Some s)) = inl (s, refl)

seen-cases : (scene : Scene) (k : Key) → IsKey (peak scene) k → ((s : Span) × IsSeen scene k s) ⊎ ((s : Span) → IsSeen scene k s → ⊥)
seen-cases scene k key =
    elim (known-cases (known_in scene k)) [
      | inl found ↦ inl (found.0, record { key = key; span = found.1 })
      | inr none ↦ inr (λ (s : Span) (h : IsSeen scene k s). none s h.span)
    ]

-- a seen key without seen halves is one of the lowest
lowest-bare : (scene : Scene) (k : Key) (s : Span) → IsSeen scene k s → ((a : Span) → IsSeen scene (left_of k) a → ⊥)
    → ((b : Span) → IsSeen scene (right_of k) b → ⊥) → IsLowest scene k s
lowest-bare scene k s seen left right = record {
  seen = seen;
  no_half = λ h t up half_seen. elim (cases_eq (h.index % 2) 0) [
    | inl even ↦ left t (subst (λ (b : Key). IsSeen scene b t) (sym (even_half h even) ∙ ap left_of up) half_seen)
    | inr odd ↦ right t (subst (λ (b : Key). IsSeen scene b t) (sym (odd_half h (omega (arith, odd))) ∙ ap right_of up) half_seen)
  ];
}

-- a key below another one lies below one of its halves
pub below-half : (k n : Key) → n.level < k.level → IsAtOrAbove k n → IsAtOrAbove (left_of k) n ⊎ IsAtOrAbove (right_of k) n
below-half k n strict above =
    let r : IsInRange k (first_slot n) = above-in_range k n (first_slot n) above (first-in_range n) in
    let low : 1 ≤ k.level = omega (arith, strict) in
    elim (cases_lt (first_slot n) (end_slot (left_of k))) [
      | inl left ↦ inl (shared-above (left_of k) n (first_slot n) (omega (arith, strict))
          (record { from = omega (arith, r.from, left_first k low); to = left }) (first-in_range n))
      | inr right ↦ inr (shared-above (right_of k) n (first_slot n) (omega (arith, strict))
          (record { from = right; to = omega (arith, r.to, right_end k low) }) (first-in_range n))
    ]

-- so does a lowest key, where a half is seen
pub in-halves : (scene : Scene) (k n : Key) (t : Span) → IsLowest scene n t → IsAtOrAbove k n → (h : Key) (a : Span) → parent_of h ≡ k
    → IsSeen scene h a
    → IsAtOrAbove (left_of k) n ⊎ IsAtOrAbove (right_of k) n
in-halves scene k n t low above h a up seen =
    elim (cases_lt n.level k.level) [
      | inl under ↦ below-half k n under above
      | inr same ↦ absurd (low.no_half h a (up ∙ level-same k n above same) seen)
    ]

-- the last of the lowest keys at or below a key, and the first one
pub record HasLast (scene : Scene) (k : Key) : Type 0 where
  pub key : Key
  pub span : Span
  pub lowest : IsLowest scene key span
  pub above : IsAtOrAbove k key
  pub none : (n : Key) (t : Span) → IsLowest scene n t → IsAtOrAbove k n → end_slot key ≤ first_slot n → ⊥

pub record HasFirst (scene : Scene) (k : Key) : Type 0 where
  pub key : Key
  pub span : Span
  pub lowest : IsLowest scene key span
  pub above : IsAtOrAbove k key
  pub none : (n : Key) (t : Span) → IsLowest scene n t → IsAtOrAbove k n → end_slot n ≤ first_slot key → ⊥

last-itself : Basis → (scene : Scene) (k : Key) (s : Span) → IsLowest scene k s → HasLast scene k
last-itself by scene k s low = record {
  key = k;
  span = s;
  lowest = low;
  above = above-same k;
  none = λ n t n_low above behind. absurd (omega (arith, behind, by.last k n above, some-slots n));
}

first-itself : Basis → (scene : Scene) (k : Key) (s : Span) → IsLowest scene k s → HasFirst scene k
first-itself by scene k s low = record {
  key = k;
  span = s;
  lowest = low;
  above = above-same k;
  none = λ n t n_low above before. absurd (omega (arith, before, by.first k n above, some-slots n));
}

last-right : Basis → (scene : Scene) (k : Key) (b : Span) → 1 ≤ k.level → IsSeen scene (right_of k) b → HasLast scene (right_of k)
    → HasLast scene k
last-right by scene k b low seen f = record {
  key = f.key;
  span = f.span;
  lowest = f.lowest;
  above = above-trans k (right_of k) f.key (right-above k low) f.above;
  none = λ n t n_low above behind. elim (in-halves scene k n t n_low above (right_of k) b (right-parent k low) seen) [
    | inl left ↦ absurd (omega (
      arith,
      behind,
      by.last (left_of k) n left,
      some-slots n,
      middle-is k,
      by.first (right_of k) f.key f.above,
      some-slots f.key,
    ))
    | inr right ↦ f.none n t n_low right behind
  ];
}

last-left : Basis → (scene : Scene) (k : Key) (a : Span) → 1 ≤ k.level → IsSeen scene k a → ((b : Span) → IsSeen scene (right_of k) b → ⊥)
    → (s : Span) → IsSeen scene (left_of k) s
    → HasLast scene (left_of k) → HasLast scene k
last-left by scene k a low top_seen bare s seen f = record {
  key = f.key;
  span = f.span;
  lowest = f.lowest;
  above = above-trans k (left_of k) f.key (left-above k low) f.above;
  none = λ n t n_low above behind. elim (in-halves scene k n t n_low above (left_of k) s (left-parent k low) seen) [
    | inl left ↦ f.none n t n_low left behind
    | inr right ↦ (let up = seen-above by scene (right_of k) n t (omega (arith, top_seen.key.high)) right n_low.seen in bare up.0 up.1)
  ];
}

first-left : Basis → (scene : Scene) (k : Key) (a : Span) → 1 ≤ k.level → IsSeen scene (left_of k) a → HasFirst scene (left_of k)
    → HasFirst scene k
first-left by scene k a low seen f = record {
  key = f.key;
  span = f.span;
  lowest = f.lowest;
  above = above-trans k (left_of k) f.key (left-above k low) f.above;
  none = λ n t n_low above before. elim (in-halves scene k n t n_low above (left_of k) a (left-parent k low) seen) [
    | inl left ↦ f.none n t n_low left before
    | inr right ↦ absurd (omega (
      arith,
      before,
      by.first (right_of k) n right,
      some-slots n,
      middle-is k,
      by.last (left_of k) f.key f.above,
      some-slots f.key,
    ))
  ];
}

first-right : Basis → (scene : Scene) (k : Key) (a : Span) → 1 ≤ k.level → IsSeen scene k a → ((b : Span) → IsSeen scene (left_of k) b → ⊥)
    → (s : Span) → IsSeen scene (right_of k) s
    → HasFirst scene (right_of k) → HasFirst scene k
first-right by scene k a low top_seen bare s seen f = record {
  key = f.key;
  span = f.span;
  lowest = f.lowest;
  above = above-trans k (right_of k) f.key (right-above k low) f.above;
  none = λ n t n_low above before. elim (in-halves scene k n t n_low above (right_of k) s (right-parent k low) seen) [
    | inr right ↦ f.none n t n_low right before
    | inl left ↦ (let up = seen-above by scene (left_of k) n t (omega (arith, top_seen.key.high)) left n_low.seen in bare up.0 up.1)
  ];
}

last-in : Basis → (scene : Scene) (n : ℕ) (k : Key) (s : Span) → k.level ≤ n → IsSeen scene k s → HasLast scene k
last-in by scene zero k s few seen = last-itself by scene k s (lowest-slot scene k s seen (omega (arith, few)))
last-in by scene (suc n) k s few seen =
    elim (cases_lt k.level 1) [
      | inl none ↦ last-itself by scene k s (lowest-slot scene k s seen (omega (arith, none)))
      | inr low ↦ elim (seen-cases scene (right_of k) (right-key (peak scene) k seen.key low)) [
        | inl b ↦ last-right by scene k b.0 low b.1 (last-in by scene n (right_of k) b.0 (omega (arith, few, low)) b.1)
        | inr right ↦ elim (seen-cases scene (left_of k) (left-key (peak scene) k seen.key low)) [
          | inl a ↦ last-left by scene k s low seen right a.0 a.1 (last-in by scene n (left_of k) a.0 (omega (arith, few, low)) a.1)
          | inr left ↦ last-itself by scene k s (lowest-bare scene k s seen left right)
        ]
      ]
    ]

first-in : Basis → (scene : Scene) (n : ℕ) (k : Key) (s : Span) → k.level ≤ n → IsSeen scene k s → HasFirst scene k
first-in by scene zero k s few seen = first-itself by scene k s (lowest-slot scene k s seen (omega (arith, few)))
first-in by scene (suc n) k s few seen =
    elim (cases_lt k.level 1) [
      | inl none ↦ first-itself by scene k s (lowest-slot scene k s seen (omega (arith, none)))
      | inr low ↦ elim (seen-cases scene (left_of k) (left-key (peak scene) k seen.key low)) [
        | inl a ↦ first-left by scene k a.0 low a.1 (first-in by scene n (left_of k) a.0 (omega (arith, few, low)) a.1)
        | inr left ↦ elim (seen-cases scene (right_of k) (right-key (peak scene) k seen.key low)) [
          | inl b ↦ first-right by scene k s low seen left b.0 b.1 (first-in by scene n (right_of k) b.0 (omega (arith, few, low)) b.1)
          | inr right ↦ first-itself by scene k s (lowest-bare scene k s seen left right)
        ]
      ]
    ]

pub last-of : Basis → (scene : Scene) (k : Key) (s : Span) → IsSeen scene k s → HasLast scene k
last-of by scene k s seen = last-in by scene k.level k s (omega arith) seen

pub first-of : Basis → (scene : Scene) (k : Key) (s : Span) → IsSeen scene k s → HasFirst scene k
first-of by scene k s seen = first-in by scene k.level k s (omega arith) seen
