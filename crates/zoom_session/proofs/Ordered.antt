-- What is sent of needed keys: in order, and no more than they are.
use Rattle.std.proofs.Common.{◌≡◌, ℕ, ◌≤◌, Bool, true, false, List, [], ◌∷◌, length, ap, sym, subst, arith}
use Rattle.std.specs.Prelude.{All, cond, not}
use Rattle.std.specs.List.{filter}
use Rattle.std.proofs.lemmas.List.Elements.{All-filter}
use Rattle.std.proofs.lemmas.List.Sums.{length-filter, count_by-le-length}
use Rattle.om3_coeff.specs.declared.key.Key.{Key}
use Rattle.om3_coeff.specs.declared.coef.Coef.{Coef}
use Rattle.view_keys.specs.Listed.{ComesBefore, AreInOrder}
use Rattle.coefficient_cache.specs.declared.series_key.SeriesKey.{SeriesKey}
use Rattle.coefficient_cache.specs.Caches.{IsCapacity}
use Rattle.coefficient_cache.specs.Pairs.{series_key, holds}
use Rattle.coefficient_cache.specs.Views.{to_send}
use Rattle.needed_nodes.specs.Answers.{IsEntry}
use Rattle.zoom_session.specs.Planned.{Plan, IsInBounds}
use Rattle.zoom_session.specs.Plans.{IsPlan, HasEntries}
use Rattle.zoom_session.specs.declared.session.Session.{Session}

pub order-filter : (p : Key × Coef → Bool) (es : List (Key × Coef)) → AreInOrder es → AreInOrder (filter p es)
order-filter p [] order = order
order-filter p (e ∷ es) order = elim (p e) as (λ b. AreInOrder (cond b (e ∷ filter p es) (filter p es))) [
  | true ↦ (All-filter p (λ later. ComesBefore e.0 later.0) es order.0, order-filter p es order.1)
  | false ↦ order-filter p es order.1
]

-- a plan's lists have the entries of the needed keys
pub entries_so : (session : Session) (series slots : ℕ) (plan : Plan) → AreInOrder plan.needed → All (IsEntry slots) plan.needed
    → IsPlan session series plan → HasEntries slots plan
entries_so session series slots plan order entries planned = record {
  order = order;
  needed = entries;
  send_order = subst AreInOrder (sym planned.send) (order-filter _ plan.needed order);
  send = subst (All (IsEntry slots)) (sym planned.send) (All-filter _ (IsEntry slots) plan.needed entries);
}

-- what is sent is no longer than what is needed
pub fewer_sent : (pairs : List (SeriesKey × Coef)) (series : ℕ) (needed : List (Key × Coef))
    → length (to_send pairs series needed) ≤ length needed
fewer_sent pairs series needed =
    let is_sent : Key × Coef → Bool = λ e. not (holds pairs (series_key series e.0, e.1)) in
    omega (arith, length-filter is_sent needed, count_by-le-length is_sent needed)

pub bounds_so : (pairs : List (SeriesKey × Coef)) (series capacity : ℕ) (needed send : List (Key × Coef)) → AreInOrder needed
    → send ≡ to_send pairs series needed → length needed ≤ capacity → IsCapacity capacity
    → IsInBounds (record { needed = needed; send = send })
bounds_so pairs series capacity needed send order sent room size = record {
  order = order;
  few = omega (arith, room, size.1);
  fewer = omega (arith, room, size.1, ap length sent, fewer_sent pairs series needed);
}
