use Rattle.std.proofs.Common.{◌≡◌, ◌∙◌, ◌-◌, ◌++◌, ℕ, Bool, List, Option, length, take, reverse, sym, ap, subst}
use Rattle.om3_coeff.specs.declared.key.Key.{Key}
use Rattle.om3_coeff.specs.declared.coef.Coef.{Coef}
use Rattle.coefficient_cache.specs.declared.series_key.SeriesKey.{SeriesKey}
use Rattle.coefficient_cache.specs.Pairs.{in_series}
use Rattle.coefficient_cache.specs.Views.{hits, others, are_new}
use Rattle.coefficient_cache.specs.Puts.{shown, located, AreStored, HasKeys, IsInLine, held_of, put_in}
use Rattle.coefficient_cache.proofs.Fronts.{alike-set, renews-front}
use Rattle.coefficient_cache.proofs.Found.{stored-alike}
use Rattle.coefficient_cache.proofs.Kept.{valid}
use Rattle.coefficient_cache.proofs.InLine.{line-begin, line-keys, line-flags, renewed-line}
use Rattle.coefficient_cache.proofs.pair_list.PairList.renew_in_line.Goals as goal

pub invariant_of-self : goal.invariant_of-self
invariant_of-self c =
    let ps = c.self.inside.puts.items in
    let needed : List (Key × Coef) = c.args.needed.now in
    let flags : List Bool = c.in_ok-is_in_line.is_new.items in
    let line : IsInLine ps c.self.inside.numbers.entries c.line_start-start.result c.args.series needed flags =
    subst (λ (l : List (Option (SeriesKey × Coef))).
    IsInLine l c.self.inside.numbers.entries c.line_start-start.result c.args.series needed flags) c.as_slice-puts.ensures.value
    (c.in_ok-is_in_line.ensures c.if-not-is_in_line.false) in
    let held : List (Key × Coef) = held_of needed flags in
    let keys : HasKeys ps c.args.series held = line-keys ps c.self.inside.numbers.entries c.line_start-start.result c.args.series needed
    flags line in
    let begin : c.line_start-start.result ≡ length ps - length held = line-begin ps c.self.inside.numbers.entries c.line_start-start.result
    c.args.series needed flags line in
    let set : c.set_in_line.new.puts.items ≡ take (length ps - length held) ps ++ put_in c.args.series held =
    c.set_in_line.ensures
    ∙ ap (λ (n : ℕ). take n ps ++ put_in c.args.series (held_of needed c.deref.result.now)) begin
    ∙ ap (λ (l : List Bool). take (length ps - length held) ps ++ put_in c.args.series (held_of needed l)) c.deref.ensures.value in
    subst (λ (l : List (Option (SeriesKey × Coef))).
    AreStored l c.self.inside.owners.items c.self.inside.places.items c.self.inside.numbers.entries c.self.inside.start
    c.self.inside.capacity) (sym set)
    (stored-alike ps (take (length ps - length held) ps ++ put_in c.args.series held) c.self.inside.owners.items c.self.inside.places.items
    c.self.inside.numbers.entries c.self.inside.start c.self.inside.capacity c.self.invariant
    (alike-set ps c.args.series held keys))

pub returns-clause-hits : goal.returns-clause-hits
returns-clause-hits c = λ _.
    let ps = c.self.inside.puts.items in
    let needed : List (Key × Coef) = c.args.needed.now in
    let flags : List Bool = c.in_ok-is_in_line.is_new.items in
    let line : IsInLine ps c.self.inside.numbers.entries c.line_start-start.result c.args.series needed flags =
    subst (λ (l : List (Option (SeriesKey × Coef))).
    IsInLine l c.self.inside.numbers.entries c.line_start-start.result c.args.series needed flags) c.as_slice-puts.ensures.value
    (c.in_ok-is_in_line.ensures c.if-not-is_in_line.false) in
    let held : List (Key × Coef) = held_of needed flags in
    let keys : HasKeys ps c.args.series held = line-keys ps c.self.inside.numbers.entries c.line_start-start.result c.args.series needed
    flags line in
    let begin : c.line_start-start.result ≡ length ps - length held = line-begin ps c.self.inside.numbers.entries c.line_start-start.result
    c.args.series needed flags line in
    let set : c.set_in_line.new.puts.items ≡ take (length ps - length held) ps ++ put_in c.args.series held =
    c.set_in_line.ensures
    ∙ ap (λ (n : ℕ). take n ps ++ put_in c.args.series (held_of needed c.deref.result.now)) begin
    ∙ ap (λ (l : List Bool). take (length ps - length held) ps ++ put_in c.args.series (held_of needed l)) c.deref.ensures.value in
    let all : List (SeriesKey × Coef) = in_series c.args.series needed in
    ap (λ (l : List (Option (SeriesKey × Coef))). reverse (shown l)) set
    ∙ renewed-line (reverse (shown ps)) (reverse (shown (take (length ps - length held) ps ++ put_in c.args.series held))) c.args.series
    needed flags
    (valid ps (located c.self.inside.places.items c.self.inside.numbers.entries) c.self.inside.start c.self.inside.capacity
    c.self.invariant.kept).distinct
    (renews-front ps c.args.series held keys)
    (line-flags ps c.self.inside.owners.items c.self.inside.places.items c.self.inside.numbers.entries c.self.inside.start
    c.self.inside.capacity c.line_start-start.result c.args.series needed flags c.self.invariant line)
    ∙ (λ i. reverse (hits (c.self.view_is i).pairs all) ++ others (c.self.view_is i).pairs all)

pub returns-clause-news : goal.returns-clause-news
returns-clause-news c = λ _.
    let ps = c.self.inside.puts.items in
    let needed : List (Key × Coef) = c.args.needed.now in
    let flags : List Bool = c.in_ok-is_in_line.is_new.items in
    let line : IsInLine ps c.self.inside.numbers.entries c.line_start-start.result c.args.series needed flags =
    subst (λ (l : List (Option (SeriesKey × Coef))).
    IsInLine l c.self.inside.numbers.entries c.line_start-start.result c.args.series needed flags) c.as_slice-puts.ensures.value
    (c.in_ok-is_in_line.ensures c.if-not-is_in_line.false) in
    line-flags ps c.self.inside.owners.items c.self.inside.places.items c.self.inside.numbers.entries c.self.inside.start
    c.self.inside.capacity c.line_start-start.result c.args.series needed flags c.self.invariant line
    ∙ (λ i. are_new (c.self.view_is i).pairs (in_series c.args.series needed))
