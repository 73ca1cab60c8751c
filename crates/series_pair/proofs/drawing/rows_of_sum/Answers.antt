use Rattle.std.proofs.Common.{rules}
use Rattle.series_pair.proofs.ChartLemmas.{answer_of, reads_of}
use Rattle.series_pair.proofs.drawing.rows_of_sum.Goals as goal

pub returns-clause-answer : goal.returns-clause-answer
returns-clause-answer g c =
    answer_of c.args.store.now c.new-pair.result c.args.x c.args.y c.args.sum.shift c.args.sum.a c.args.sum.b c.args.grid
    c.rows_of_pair.result c.new-pair.ensures.space c.new-pair.ensures.first c.new-pair.ensures.second c.rows_of_pair.ensures.answer

pub returns-clause-reads : goal.returns-clause-reads
returns-clause-reads g c = λ total book told stands one other first second from to start stop.
    let few = reads_of c.args.store.now c.new-pair.result c.args.x c.args.y c.args.grid _ c.new-pair.ensures.space c.new-pair.ensures.first
    c.new-pair.ensures.second c.rows_of_pair.ensures.reads total book told stands one other first second from to start stop in
    search (rules, few)
