use Rattle.std.proofs.Common.{◌+◌, ◌*◌, FitsSigned, ◌∙◌, inr, arith, rules}
use Rattle.std.specs.Int.{w64}
use Rattle.std.proofs.lemmas.Int.{to_z-of_z}
use Rattle.node_page.proofs.Coefs.{CoefSteps, NumberSet, number_moved, coef_is_set, others_stay, spare_stay, rest_stay}
use Rattle.node_page.proofs.Puts.{child_same}
use Rattle.node_page.proofs.setting.set_coef.Goals as goal

pub returns : goal.returns
returns c =
    let node = c.args.node in
    let coef = c.args.coef in
    let at = 40 + 16 * c.from.result in
    let b0 = c.args.bytes.now in
    let b1 = c.set_flag.new.bytes in
    let b2 = c.set_flag-2.new.bytes in
    let b3 = c.set_difference.new.bytes in
    let b4 = c.set_difference-2.new.bytes in
    let fits : FitsSigned w64 coef.dmin = search rules in
    let fits' : FitsSigned w64 coef.dmax = search rules in
    let least : NumberSet b2 b3 at coef.dmin =
    record { is = c.set_difference.ensures.set ∙ to_z-of_z w64 coef.dmin fits; rest = c.set_difference.ensures.rest } in
    let greatest : NumberSet b3 b4 (at + 8) coef.dmax =
    record { is = c.set_difference-2.ensures.set ∙ to_z-of_z w64 coef.dmax fits'; rest = c.set_difference-2.ensures.rest } in
    let steps : CoefSteps b0 b1 b2 b3 b4 node coef = record {
      low = c.requires.node;
      left = record { is = c.set_flag.ensures.flag; others = c.set_flag.ensures.others; rest = c.set_flag.ensures.rest };
      right = record { is = c.set_flag-2.ensures.flag; others = c.set_flag-2.ensures.others; rest = c.set_flag-2.ensures.rest };
      least = number_moved b2 b3 at (40 + 16 * node) coef.dmin (omega arith) least;
      greatest = number_moved b3 b4 (at + 8) (40 + 16 * node + 8) coef.dmax (omega arith) greatest;
    } in
    record {
      whole = c.set_difference-2.ensures.whole;
      coef = coef_is_set b0 b1 b2 b3 b4 node coef steps;
      others = others_stay b0 b1 b2 b3 b4 node coef steps;
      children = λ child few. child_same child b0 b4 few (λ k from to. rest_stay b0 b1 b2 b3 b4 node coef steps k (inr from));
      spare = spare_stay b0 b1 b2 b3 b4 node coef steps;
      rest = rest_stay b0 b1 b2 b3 b4 node coef steps;
    }
