-- What holds of views that are followed.
use Rattle.std.proofs.Common.{◌≡◌, ℕ, ◌+◌, ◌*◌, ◌≤◌, Bool, true, ◌&&◌, Option, None, Some, ap, ◌∙◌, subst, inl, inr, arith}
use Rattle.std.specs.Prelude.{nat_lt, is_none, if◌then◌else◌}
use Rattle.std.proofs.Math.Nat.{mul-le-mul_left}
use Rattle.std.proofs.lemmas.Bool.{cases_lt}
use Rattle.std.proofs.lemmas.Bool.Decides.{nat_tests}
use Rattle.zoom_session.specs.declared.view_spec.ViewSpec.{ViewSpec}
use Rattle.chart_frames.specs.declared.frame.Frame.TheVariants.{Live}
use Rattle.live_view.specs.Replies.{follow_view, live_bound, too_large}

-- a view that is too large isn't followed
not-followed : (n bound cache : ℕ) (unfiltered large : Bool) → unfiltered ≡ true → large ≡ true
    → (if unfiltered && large then too_large bound cache else Live n true) ≡ Live n true → ⊥
not-followed n bound cache unfiltered large one two live =
    let P : Bool → Type 0 = λ b. (if b then too_large bound cache else Live n true) ≡ Live n true in
    let test : (unfiltered && large) ≡ true = ap (λ b. b && large) one ∙ two in
    let clash : too_large bound cache ≡ Live n true = subst P test live in
    cc

-- the bound of a followed view without a filter is within the cache
pub bound-fits : (n cache : ℕ) (last : Option ViewSpec) (view : ViewSpec) → follow_view n cache last ≡ Live n true → last ≡ Some view
    → view.filter ≡ None
    → live_bound view.grid.w ≤ cache
bound-fits n cache last view live is unfiltered =
    let P : Option ViewSpec → Type 0 = λ l. follow_view n cache l ≡ Live n true in
    elim (cases_lt cache (live_bound view.grid.w)) [
      | inl large ↦ let test : nat_lt cache (live_bound view.grid.w) ≡ true = grind (arith, nat_tests) in
          absurd (not-followed n (live_bound view.grid.w) cache (is_none view.filter) (nat_lt cache (live_bound view.grid.w))
          (ap is_none unfiltered) test (subst P is live))
      | inr fits ↦ fits
    ]

-- so many keys on so many levels are within it
pub keys-fit : (keys w v levels cache : ℕ) → keys ≤ (3 * w + 1) * levels → levels ≤ 35 → w ≡ v → live_bound v ≤ cache → keys ≤ cache
keys-fit keys w v levels cache few low same fits =
    let more : (3 * w + 1) * levels ≤ (3 * w + 1) * 35 = mul-le-mul_left (3 * w + 1) low in
    omega (arith, few, more, fits, same)
