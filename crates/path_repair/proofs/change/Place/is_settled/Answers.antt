use Rattle.std.proofs.Common.{◌≡◌, ◌||◌, Bool, true, false, not, refl, sym, ap}
use Rattle.path_repair.specs.Costs.{is_new_root}
use Rattle.path_repair.proofs.StayLemmas.{new_touched}
use Rattle.path_repair.proofs.change.Place.is_settled.Goals as goal

true_of : (b : Bool) → not b ≡ false → b ≡ true
true_of true is = refl
true_of false is = sym is

pub returns-then-page-eq0-clause-unsettled : goal.returns-then-page-eq0-clause-unsettled
returns-then-page-eq0-clause-unsettled c is =
    let new = c.has_new.ensures.some (true_of c.has_new.result is) in
    record {
      something = λ none. new;
      passed = ap (λ b. b || is_new_root c.args.self.height c.args.self.level c.args.self.index)
          (new_touched c.args.slots.first c.args.slots.end c.args.values.now c.args.self.level c.args.self.index new);
    }
