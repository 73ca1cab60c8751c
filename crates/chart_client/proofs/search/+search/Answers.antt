use Rattle.std.proofs.Common.{Bool, true, false, ℕ, ◌≡◌, ◌<◌, ◌∙◌, sym, ap, subst, arith, rules}
use Rattle.std.specs.Prelude.{Option, Some}
use Rattle.om3_coeff.specs.declared.key.Key.{Key}
use Rattle.om3_coeff.specs.declared.span.Span.{Span}
use Rattle.om3_coeff.specs.Keys.{first_slot, end_slot}
use Rattle.om3_coeff.proofs.WalkLemmas.{key_small}
use Rattle.view_keys.specs.Flat.{IsFlat}
use Rattle.view_keys.specs.Wanted.{Seen}
use Rattle.chart_client.specs.HeldNodes.{seen_of, told_view}
use Rattle.chart_client.specs.Searching.{IsBetween, IsSettled, IsAmong, Finds}
use Rattle.chart_client.specs.declared.search.End.TheVariants.{Stuck}
use Rattle.chart_client.proofs.Searched.{AreWays, are_ways, none_found, slot_found, settled_found, settled_by, settled_is, stuck_found}
use Rattle.chart_client.proofs.Searched.{near_found, far_found}
use Rattle.chart_client.proofs.Unknown.{shown}
use Rattle.chart_client.proofs.search.+search.Goals as goal

pub returns-in_default : goal.returns-in_default
returns-in_default t c =
    none_found (seen_of c.args.nodes.now) c.args.nodes.now.slots
    (IsFlat c.args.scope.range.lo c.args.scope.range.hi c.args.scope.grid.h) c.args.side c.args.scope.from c.args.scope.to
    c.args.half.key c.requires.reached.key.high
    (c.requires.reached.known tt ∙ ap (λ (s : Option Span). Some s) c.in_default.is)

true_false : (b : Bool) → b ≡ true → b ≡ false → ⊥
true_false b h g = cc

pub returns-then-key-eq0 : goal.returns-then-key-eq0
returns-then-key-eq0 t c =
    slot_found (seen_of c.args.nodes.now) c.args.nodes.now.slots
    (IsFlat c.args.scope.range.lo c.args.scope.range.hi c.args.scope.grid.h) c.args.side c.args.scope.from c.args.scope.to
    c.args.half.key c.in-Some.span
    c.if-key-eq0.true (c.requires.reached.known tt ∙ ap (λ (s : Option Span). Some s) c.in-Some.is)
    (omega (arith, c.if-end-scope.false, c.end.ensures)) (omega (arith, c.if-scope-first.false, c.first.ensures))

pub returns-then-is_settled : goal.returns-then-is_settled
returns-then-is_settled t c =
    settled_found c.seen_keys_have_an_open_slot.ensures (seen_of c.args.nodes.now) c.args.nodes.now.slots
    (IsFlat c.args.scope.range.lo c.args.scope.range.hi c.args.scope.grid.h) c.args.side c.args.scope.from c.args.scope.to
    c.args.half.key
    (settled_by (seen_of c.args.nodes.now) c.args.nodes.now.slots
    (IsFlat c.args.scope.range.lo c.args.scope.range.hi c.args.scope.grid.h) c.args.scope.from c.args.scope.to c.args.half.key
    c.in-Some.span
    c.requires.reached.key.high (c.requires.reached.known tt
    ∙ ap (λ (s : Option Span). Some s) c.in-Some.is) (c.is_settled.ensures.0 c.if-is_settled.true))

pub is_settled-requires-clause-fits : goal.is_settled-requires-clause-fits
is_settled-requires-clause-fits t c = key_small c.args.nodes.now.slots c.args.half.key c.requires.reached.key

pub end-requires : goal.end-requires
end-requires t c = key_small c.args.nodes.now.slots c.args.half.key c.requires.reached.key

pub first-requires : goal.first-requires
first-requires t c = key_small c.args.nodes.now.slots c.args.half.key c.requires.reached.key

pub returns-in-Err : goal.returns-in-Err
returns-in-Err t c =
    let seen : Seen = seen_of c.args.nodes.now in
    let slots : ℕ = c.args.nodes.now.slots in
    let is : c.in-Err.failure.key ≡ c.args.half.key = c.in-Err.ensures.named in
    let shown_so : shown seen slots c.args.half.key ≡ Some (Some c.in-Some.span) =
    c.requires.reached.known tt ∙ ap (λ (s : Option Span). Some s) c.in-Some.is in
    let unsettled : IsSettled seen slots (IsFlat c.args.scope.range.lo c.args.scope.range.hi c.args.scope.grid.h)
    (IsBetween c.args.scope.from c.args.scope.to) c.in-Err.failure.key → ⊥ =
    (λ settled. true_false c.is_settled.result
    (c.is_settled.ensures.1
    (settled_is seen slots (IsFlat c.args.scope.range.lo c.args.scope.range.hi c.args.scope.grid.h) c.args.scope.from c.args.scope.to
    c.args.half.key c.in-Some.span shown_so
    (subst (λ (k : Key). IsSettled seen slots (IsFlat c.args.scope.range.lo c.args.scope.range.hi c.args.scope.grid.h)
    (IsBetween c.args.scope.from c.args.scope.to) k) is settled)))
    c.if-is_settled.false) in
    let low : c.args.scope.from < end_slot c.args.half.key = omega (arith, c.if-end-scope.false, c.end.ensures) in
    let high : first_slot c.args.half.key < c.args.scope.to = omega (arith, c.if-scope-first.false, c.first.ensures) in
    subst (λ (k : Key). Finds seen slots (IsFlat c.args.scope.range.lo c.args.scope.range.hi c.args.scope.grid.h)
    (IsBetween c.args.scope.from c.args.scope.to) (IsAmong k c.args.scope.from c.args.scope.to) c.args.side (Stuck c.in-Err.failure)) is
    (stuck_found seen slots (IsFlat c.args.scope.range.lo c.args.scope.range.hi c.args.scope.grid.h) c.args.side c.args.scope.from
    c.args.scope.to c.in-Err.failure c.in-Err.ensures.fails unsettled c.requires.some
    (subst (λ (k : Key). c.args.scope.from < end_slot k) (sym is) low) (subst (λ (k : Key). first_slot k < c.args.scope.to) (sym is) high))

pub halves_from-requires-clause-fits : goal.halves_from-requires-clause-fits
halves_from-requires-clause-fits t c = key_small c.args.nodes.now.slots c.args.half.key c.requires.reached.key

pub search-requires : goal.search-requires
search-requires t c =
    let ways : AreWays (told_view c.args.nodes.now) c.args.side c.args.half.key c.halves_from.result.0 c.halves_from.result.1 =
    are_ways (told_view c.args.nodes.now) c.args.side c.args.half.key c.in-Ok.halves.0 c.in-Ok.halves.1 c.halves_from.result.0
    c.halves_from.result.1 (omega (arith, c.if-key-eq0.false))
    c.halves_from.ensures.near c.halves_from.ensures.far c.in-Ok.ensures.left c.in-Ok.ensures.right in
    let less : c.halves_from.result.0.key.level < c.args.half.key.level = ways.near_lower in (
      search rules,
      (c.requires.fit, (ways.near, (c.requires.some, c.requires.order))),
    )

pub search-requires-in-Nowhere : goal.search-requires-in-Nowhere
search-requires-in-Nowhere t c =
    let ways : AreWays (told_view c.args.nodes.now) c.args.side c.args.half.key c.halves_from.result.0 c.halves_from.result.1 =
    are_ways (told_view c.args.nodes.now) c.args.side c.args.half.key c.in-Ok.halves.0 c.in-Ok.halves.1 c.halves_from.result.0
    c.halves_from.result.1 (omega (arith, c.if-key-eq0.false))
    c.halves_from.ensures.near c.halves_from.ensures.far c.in-Ok.ensures.left c.in-Ok.ensures.right in
    let less : c.halves_from.result.1.key.level < c.args.half.key.level = ways.far_lower in (
      search rules,
      (c.requires.fit, (ways.far, (c.requires.some, c.requires.order))),
    )

pub returns-in-Nowhere : goal.returns-in-Nowhere
returns-in-Nowhere t c =
    let seen : Seen = seen_of c.args.nodes.now in
    let slots : ℕ = c.args.nodes.now.slots in
    let ways : AreWays (told_view c.args.nodes.now) c.args.side c.args.half.key c.halves_from.result.0 c.halves_from.result.1 =
    are_ways (told_view c.args.nodes.now) c.args.side c.args.half.key c.in-Ok.halves.0 c.in-Ok.halves.1 c.halves_from.result.0
    c.halves_from.result.1 (omega (arith, c.if-key-eq0.false))
    c.halves_from.ensures.near c.halves_from.ensures.far c.in-Ok.ensures.left c.in-Ok.ensures.right in
    far_found seen slots (IsFlat c.args.scope.range.lo c.args.scope.range.hi c.args.scope.grid.h) c.args.side c.args.scope.from
    c.args.scope.to c.args.half.key c.halves_from.result.0.key c.halves_from.result.1.key c.search-in-Nowhere.result ways.halves
    c.in-Nowhere.ensures c.search-in-Nowhere.ensures

pub returns-in_default-search : goal.returns-in_default-search
returns-in_default-search t c =
    let seen : Seen = seen_of c.args.nodes.now in
    let slots : ℕ = c.args.nodes.now.slots in
    let ways : AreWays (told_view c.args.nodes.now) c.args.side c.args.half.key c.halves_from.result.0 c.halves_from.result.1 =
    are_ways (told_view c.args.nodes.now) c.args.side c.args.half.key c.in-Ok.halves.0 c.in-Ok.halves.1 c.halves_from.result.0
    c.halves_from.result.1 (omega (arith, c.if-key-eq0.false))
    c.halves_from.ensures.near c.halves_from.ensures.far c.in-Ok.ensures.left c.in-Ok.ensures.right in
    near_found seen slots (IsFlat c.args.scope.range.lo c.args.scope.range.hi c.args.scope.grid.h) c.args.side c.args.scope.from
    c.args.scope.to c.args.half.key c.halves_from.result.0.key c.halves_from.result.1.key c.search.result ways.halves
    c.search.ensures c.in_default-search.not-Nowhere
