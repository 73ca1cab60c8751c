use Rattle.std.proofs.Common.{◌-◌, ◌∙◌, ap, sym, arith}
use Rattle.om3_coeff.specs.Keys.{end_slot, first_slot}
use Rattle.om3_coeff.proofs.KeyLemmas.{left_first, right_end}
use Rattle.needed_nodes.specs.Ranks.{rank}
use Rattle.needed_nodes.proofs.window.Window.ranks_of_halves.Goals as goal

pub first-middle-requires : goal.first-middle-requires
first-middle-requires c = omega (arith, ap end_slot c.right.ensures, right_end c.args.key c.requires.low, c.requires.fits)

pub returns-clause-left : goal.returns-clause-left
returns-clause-left c =
    let w = c.args.self.now in
    let middle = c.first-middle.ensures ∙ ap first_slot c.right.ensures in record {
      first = c.requires.ranks.first ∙ sym (ap (rank w) (left_first c.args.key c.requires.low));
      last = c.rank.ensures ∙ ap (λ n. rank w (n - 1)) middle;
    }

pub returns-clause-right : goal.returns-clause-right
returns-clause-right c =
    let w = c.args.self.now in
    let middle = c.first-middle.ensures ∙ ap first_slot c.right.ensures in record {
      first = c.rank-2.ensures ∙ ap (rank w) middle;
      last = c.requires.ranks.last ∙ sym (ap (λ n. rank w (n - 1)) (right_end c.args.key c.requires.low));
    }
