use Rattle.std.proofs.Common.{◌∙◌, sym, arith, w64, rules}
use Rattle.std.proofs.lemmas.Int.{to_z-of_z}
use Rattle.needed_nodes.proofs.RankLaws.{rank_before, rank_behind}
use Rattle.needed_nodes.proofs.Times.{rank_at}
use Rattle.needed_nodes.proofs.window.Window.rank.Goals as goal

pub returns-then-slot-self : goal.returns-then-slot-self
returns-then-slot-self c = sym (rank_before c.args.self.now c.args.slot c.if-slot-self.true)

pub returns-then-self-slot : goal.returns-then-self-slot
returns-then-self-slot c = omega (arith, c.w.ensures.value, rank_behind c.args.self.now c.args.slot c.if-self-slot.true)

pub returns : goal.returns
returns c =
    rank_at c.args.self.now c.args.slot c.column_of.result _ c.if-slot-self.false c.if-self-slot.false
    (to_z-of_z w64 c.time_of.result (search rules) ∙ c.time_of.ensures.time) c.column_of.ensures.value
