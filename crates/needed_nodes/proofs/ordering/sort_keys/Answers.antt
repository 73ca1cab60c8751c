use Rattle.std.proofs.Common.{◌≡◌, List, rules, sym, subst}
use Rattle.std.specs.Prelude.{IsPermutation}
use Rattle.std.proofs.lemmas.Result.{on_ok_weaker}
use Rattle.std.proofs.lemmas.List.Sorted.{IsNonDecreasingBy-from_sort_by_key, IsPermutation-trans}
use Rattle.om3_coeff.specs.declared.key.Key.{Key}
use Rattle.om3_coeff.specs.declared.coef.Coef.{Coef}
use Rattle.needed_nodes.specs.Ordering.{order_number}
use Rattle.needed_nodes.proofs.OrderLaws.{sorted_in_order}
use Rattle.needed_nodes.proofs.ordering.sort_keys.Goals as goal

-- keys that stand by levels, which are put in order and joined, are the keys
moved : (keys one two all sorted : List (Key × Coef)) → IsPermutation keys one → IsPermutation one two → all ≡ two
    → IsPermutation all sorted → IsPermutation keys sorted
moved keys one two all sorted first second same last =
    let P : List (Key × Coef) → Type 0 = λ l. IsPermutation one l in
    IsPermutation-trans keys all sorted (IsPermutation-trans keys one all first (subst P (sym same) second)) last

pub returns-clause-same : goal.returns-clause-same
returns-clause-same c = moved c.args.keys.now.items _ _ c.in_ok-keys.field-0.items c.sort_by_key.new.self.items
    (search rules) c.in_ok-sort_levels.ensures (search rules) c.sort_by_key.ensures.permutation

pub returns-clause-order : goal.returns-clause-order
returns-clause-order c =
    on_ok_weaker c.sort_by_key.result
    (λ sorted. sorted_in_order c.args.keys.now.items c.sort_by_key.new.self.items c.requires.small c.requires.apart
    (moved c.args.keys.now.items _ _ c.in_ok-keys.field-0.items c.sort_by_key.new.self.items (search rules) c.in_ok-sort_levels.ensures
    (search rules) c.sort_by_key.ensures.permutation)
    (IsNonDecreasingBy-from_sort_by_key (λ (e : Key × Coef). order_number e.0) _ sorted (λ a r q k. search rules)))
    c.sort_by_key.ensures.sorted
