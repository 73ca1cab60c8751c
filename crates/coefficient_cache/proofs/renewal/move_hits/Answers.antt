use Rattle.std.proofs.Common.{◌≡◌, ◌∙◌, refl, sym, ap, ◌++◌, ◌==◌, Bool, true, List, [], length, reverse, append-nil}
use Rattle.std.proofs.lemmas.List.{nil_from_length}
use Rattle.std.proofs.lemmas.Bool.Decides.{Decides-eqb}
use Rattle.om3_coeff.specs.declared.coef.Coef.{Coef}
use Rattle.coefficient_cache.specs.declared.series_key.SeriesKey.{SeriesKey}
use Rattle.coefficient_cache.specs.Pairs.{in_series}
use Rattle.coefficient_cache.specs.Views.{hits, others, are_new}
use Rattle.coefficient_cache.proofs.Empty.{no-hits, all-new}
use Rattle.coefficient_cache.proofs.Steps.{hits-step, flags-step}
use Rattle.coefficient_cache.proofs.Moves.{others-none}
use Rattle.coefficient_cache.proofs.renewal.move_hits.Goals as goal

empty : (es : List (SeriesKey × Coef)) (r : Bool) → r ≡ true → r ≡ (length es == 0) → es ≡ []
empty es r is told = nil_from_length es ((Decides-eqb (length es) 0).0 (sym told ∙ is))

pub loop-key-init : goal.loop-key-init
loop-key-init c = record {
  moved = sym (others-none c.args.list.now.pairs);
  flags = c.in_ok-is_new.ensures.items;
  capacity = refl;
}

pub loop-key-preserved : goal.loop-key-preserved
loop-key-preserved c =
    let was = c.loop-key.invariant in let turn = c.in_ok-is_there.ensures in record {
      moved = hits-step c.args.series c.args.needed.now c.loop-key.key-index _ c.requires c.loop-key-test.true c.args.list.now.pairs
          c.loop-key.list c.new.result _ c.len-length.ensures.valid.distinct was.moved c.new.ensures turn.pairs;
      flags = c.in_ok-push.ensures.items ∙ flags-step c.args.series c.args.needed.now c.loop-key.key-index _ c.requires c.loop-key-test.true
          c.args.list.now.pairs c.loop-key.list c.new.result c.in_ok-is_there.is_there c.loop-key.is_new.items was.moved c.new.ensures
          turn.there was.flags;
      capacity = turn.capacity ∙ was.capacity;
    }

pub returns-then-is_empty-clause-hits : goal.returns-then-is_empty-clause-hits
returns-then-is_empty-clause-hits c =
    let all = in_series c.args.series c.args.needed.now in
    let none : c.args.list.now.pairs ≡ [] = empty c.args.list.now.pairs c.is_empty.result c.if-is_empty.true c.is_empty.ensures in
    none ∙ ap reverse (sym (no-hits all)) ∙ sym (append-nil (reverse (hits [] all)))
    ∙ ap (λ l. reverse (hits l all) ++ others l all) (sym none)

pub returns-then-is_empty-clause-news : goal.returns-then-is_empty-clause-news
returns-then-is_empty-clause-news c =
    let all = in_series c.args.series c.args.needed.now in
    let none : c.args.list.now.pairs ≡ [] = empty c.args.list.now.pairs c.is_empty.result c.if-is_empty.true c.is_empty.ensures in
    c.in_ok-all_new.ensures.items_if_clones_equal (λ y same. same)
    ∙ all-new c.args.series c.args.needed.now
    ∙ ap (λ l. are_new l all) (sym none)
