-- What asks of the nodes over sent and held coefficients keep, and that it stays so.
use Rattle.std.proofs.Common.{ℕ, ◌≡◌, List, Option, refl, sym, ap, ap₂, ◌∙◌, subst}
use Rattle.om3_coeff.specs.declared.key.Key.{Key}
use Rattle.om3_coeff.specs.declared.coef.Coef.{Coef}
use Rattle.om3_coeff.specs.declared.span.Span.{Span}
use Rattle.om3_coeff.specs.declared.errors.NodeError.{NodeError}
use Rattle.om3_coeff.specs.View.{StaysSame}
use Rattle.coefficient_cache.specs.Caches.{Cache}
use Rattle.view_keys.specs.Wanted.{Seen}
use Rattle.chart_client.specs.declared.held_nodes.HeldNodes.{HeldNodes}
use Rattle.chart_client.specs.HeldNodes.{held_told, held_view, seen_of, usable, IsHeldError, Stays}

pub stays_itself : (nodes : HeldNodes) → Stays nodes nodes
stays_itself nodes = record { series = refl; sent = refl; cache = refl; slots = refl; root = refl }

pub stays_on : (old between new : HeldNodes) → Stays old between → Stays between new → Stays old new
stays_on old between new before after = record {
  series = after.series ∙ before.series;
  sent = after.sent ∙ before.sent;
  cache = after.cache ∙ before.cache;
  slots = after.slots ∙ before.slots;
  root = after.root ∙ before.root;
}

same_told : (old new : HeldNodes) → Stays old new
    → held_told new.series new.sent.now new.cache.now ≡ held_told old.series old.sent.now old.cache.now
same_told old new s =
    ap (λ (x : ℕ). held_told x new.sent.now new.cache.now) s.series
    ∙ ap (λ (x : List (Key × Coef)). held_told old.series x new.cache.now) s.sent
    ∙ ap (λ (x : Cache). held_told old.series old.sent.now x) s.cache

pub same_seen : (old new : HeldNodes) → Stays old new → seen_of new ≡ seen_of old
same_seen old new s = ap₂ (λ (r : Option Span) (t : Key → Option Coef). let seen : Seen = record { root = r; told = t } in
    seen) s.root (same_told old new s)

same_error : (old new : HeldNodes) → Stays old new → (e : NodeError)
    → IsHeldError (seen_of new) new.slots e ≡ IsHeldError (seen_of old) old.slots e
same_error old new s e = ap₂ (λ (seen : Seen) (slots : ℕ). IsHeldError seen slots e) (same_seen old new s) s.slots

same_usable : (old new : HeldNodes) → Stays old new → usable (seen_of new) new.slots ≡ usable (seen_of old) old.slots
same_usable old new s = ap₂ (λ (seen : Seen) (slots : ℕ). usable seen slots) (same_seen old new s) s.slots

pub stays_same : (old new : HeldNodes) → Stays old new → StaysSame (held_view old) (held_view new)
stays_same old new s = record {
  slots = s.slots;
  root = s.root;
  tells = λ told. told;
  has_told = λ told. told;
  told = λ told. same_usable old new s;
  bad = λ e h. subst (λ (t : Type 0). t) (sym (same_error old new s e)) h;
  was_bad = λ e h. subst (λ (t : Type 0). t) (same_error old new s e) h;
}
