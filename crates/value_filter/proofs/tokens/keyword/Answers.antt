use Rattle.value_filter.proofs.Keywords.{past-1, this-1, past-2, this-2, past-3, this-3, past-4, this-4, past-5, this-5, past-6, this-6}
use Rattle.value_filter.proofs.Keywords.{past-7, this-7, past-8, this-8, past-9, this-9, past-10, this-10, past-11, this-11, past-12}
use Rattle.value_filter.proofs.Keywords.{this-12, past-13, this-13, none-13}
use Rattle.value_filter.proofs.tokens.keyword.Goals as goal

pub returns-then-eq : goal.returns-then-eq
returns-then-eq c =
    this-1 _ _ c.as_slice.ensures c.if-eq.ensures

pub returns-then-eq-2 : goal.returns-then-eq-2
returns-then-eq-2 c =
    past-1 _ _ _ c.as_slice.ensures c.if-eq.ensures
    (this-2 _ _ c.as_slice-else-eq.ensures c.if-eq-2.ensures)

pub returns-then-eq-3 : goal.returns-then-eq-3
returns-then-eq-3 c =
    past-1 _ _ _ c.as_slice.ensures c.if-eq.ensures
    (past-2 _ _ _ c.as_slice-else-eq.ensures c.if-eq-2.ensures
    (this-3 _ _ c.as_slice-else-eq-2.ensures c.if-eq-3.ensures))

pub returns-then-eq-4 : goal.returns-then-eq-4
returns-then-eq-4 c =
    past-1 _ _ _ c.as_slice.ensures c.if-eq.ensures
    (past-2 _ _ _ c.as_slice-else-eq.ensures c.if-eq-2.ensures
    (past-3 _ _ _ c.as_slice-else-eq-2.ensures c.if-eq-3.ensures
    (this-4 _ _ c.as_slice-else-eq-3.ensures c.if-eq-4.ensures)))

pub returns-then-eq-5 : goal.returns-then-eq-5
returns-then-eq-5 c =
    past-1 _ _ _ c.as_slice.ensures c.if-eq.ensures
    (past-2 _ _ _ c.as_slice-else-eq.ensures c.if-eq-2.ensures
    (past-3 _ _ _ c.as_slice-else-eq-2.ensures c.if-eq-3.ensures
    (past-4 _ _ _ c.as_slice-else-eq-3.ensures c.if-eq-4.ensures
    (this-5 _ _ c.as_slice-else-eq-4.ensures c.if-eq-5.ensures))))

pub returns-then-eq-6 : goal.returns-then-eq-6
returns-then-eq-6 c =
    past-1 _ _ _ c.as_slice.ensures c.if-eq.ensures
    (past-2 _ _ _ c.as_slice-else-eq.ensures c.if-eq-2.ensures
    (past-3 _ _ _ c.as_slice-else-eq-2.ensures c.if-eq-3.ensures
    (past-4 _ _ _ c.as_slice-else-eq-3.ensures c.if-eq-4.ensures
    (past-5 _ _ _ c.as_slice-else-eq-4.ensures c.if-eq-5.ensures
    (this-6 _ _ c.as_slice-else-eq-5.ensures c.if-eq-6.ensures)))))

pub returns-then-eq-7 : goal.returns-then-eq-7
returns-then-eq-7 c =
    past-1 _ _ _ c.as_slice.ensures c.if-eq.ensures
    (past-2 _ _ _ c.as_slice-else-eq.ensures c.if-eq-2.ensures
    (past-3 _ _ _ c.as_slice-else-eq-2.ensures c.if-eq-3.ensures
    (past-4 _ _ _ c.as_slice-else-eq-3.ensures c.if-eq-4.ensures
    (past-5 _ _ _ c.as_slice-else-eq-4.ensures c.if-eq-5.ensures
    (past-6 _ _ _ c.as_slice-else-eq-5.ensures c.if-eq-6.ensures
    (this-7 _ _ c.as_slice-else-eq-6.ensures c.if-eq-7.ensures))))))

pub returns-then-eq-8 : goal.returns-then-eq-8
returns-then-eq-8 c =
    past-1 _ _ _ c.as_slice.ensures c.if-eq.ensures
    (past-2 _ _ _ c.as_slice-else-eq.ensures c.if-eq-2.ensures
    (past-3 _ _ _ c.as_slice-else-eq-2.ensures c.if-eq-3.ensures
    (past-4 _ _ _ c.as_slice-else-eq-3.ensures c.if-eq-4.ensures
    (past-5 _ _ _ c.as_slice-else-eq-4.ensures c.if-eq-5.ensures
    (past-6 _ _ _ c.as_slice-else-eq-5.ensures c.if-eq-6.ensures
    (past-7 _ _ _ c.as_slice-else-eq-6.ensures c.if-eq-7.ensures
    (this-8 _ _ c.as_slice-else-eq-7.ensures c.if-eq-8.ensures)))))))

pub returns-then-eq-9 : goal.returns-then-eq-9
returns-then-eq-9 c =
    past-1 _ _ _ c.as_slice.ensures c.if-eq.ensures
    (past-2 _ _ _ c.as_slice-else-eq.ensures c.if-eq-2.ensures
    (past-3 _ _ _ c.as_slice-else-eq-2.ensures c.if-eq-3.ensures
    (past-4 _ _ _ c.as_slice-else-eq-3.ensures c.if-eq-4.ensures
    (past-5 _ _ _ c.as_slice-else-eq-4.ensures c.if-eq-5.ensures
    (past-6 _ _ _ c.as_slice-else-eq-5.ensures c.if-eq-6.ensures
    (past-7 _ _ _ c.as_slice-else-eq-6.ensures c.if-eq-7.ensures
    (past-8 _ _ _ c.as_slice-else-eq-7.ensures c.if-eq-8.ensures
    (this-9 _ _ c.as_slice-else-eq-8.ensures c.if-eq-9.ensures))))))))

pub returns-then-eq-10 : goal.returns-then-eq-10
returns-then-eq-10 c =
    past-1 _ _ _ c.as_slice.ensures c.if-eq.ensures
    (past-2 _ _ _ c.as_slice-else-eq.ensures c.if-eq-2.ensures
    (past-3 _ _ _ c.as_slice-else-eq-2.ensures c.if-eq-3.ensures
    (past-4 _ _ _ c.as_slice-else-eq-3.ensures c.if-eq-4.ensures
    (past-5 _ _ _ c.as_slice-else-eq-4.ensures c.if-eq-5.ensures
    (past-6 _ _ _ c.as_slice-else-eq-5.ensures c.if-eq-6.ensures
    (past-7 _ _ _ c.as_slice-else-eq-6.ensures c.if-eq-7.ensures
    (past-8 _ _ _ c.as_slice-else-eq-7.ensures c.if-eq-8.ensures
    (past-9 _ _ _ c.as_slice-else-eq-8.ensures c.if-eq-9.ensures
    (this-10 _ _ c.as_slice-else-eq-9.ensures c.if-eq-10.ensures)))))))))

pub returns-then-eq-11 : goal.returns-then-eq-11
returns-then-eq-11 c =
    past-1 _ _ _ c.as_slice.ensures c.if-eq.ensures
    (past-2 _ _ _ c.as_slice-else-eq.ensures c.if-eq-2.ensures
    (past-3 _ _ _ c.as_slice-else-eq-2.ensures c.if-eq-3.ensures
    (past-4 _ _ _ c.as_slice-else-eq-3.ensures c.if-eq-4.ensures
    (past-5 _ _ _ c.as_slice-else-eq-4.ensures c.if-eq-5.ensures
    (past-6 _ _ _ c.as_slice-else-eq-5.ensures c.if-eq-6.ensures
    (past-7 _ _ _ c.as_slice-else-eq-6.ensures c.if-eq-7.ensures
    (past-8 _ _ _ c.as_slice-else-eq-7.ensures c.if-eq-8.ensures
    (past-9 _ _ _ c.as_slice-else-eq-8.ensures c.if-eq-9.ensures
    (past-10 _ _ _ c.as_slice-else-eq-9.ensures c.if-eq-10.ensures
    (this-11 _ _ c.as_slice-else-eq-10.ensures c.if-eq-11.ensures))))))))))

pub returns-then-eq-12 : goal.returns-then-eq-12
returns-then-eq-12 c =
    past-1 _ _ _ c.as_slice.ensures c.if-eq.ensures
    (past-2 _ _ _ c.as_slice-else-eq.ensures c.if-eq-2.ensures
    (past-3 _ _ _ c.as_slice-else-eq-2.ensures c.if-eq-3.ensures
    (past-4 _ _ _ c.as_slice-else-eq-3.ensures c.if-eq-4.ensures
    (past-5 _ _ _ c.as_slice-else-eq-4.ensures c.if-eq-5.ensures
    (past-6 _ _ _ c.as_slice-else-eq-5.ensures c.if-eq-6.ensures
    (past-7 _ _ _ c.as_slice-else-eq-6.ensures c.if-eq-7.ensures
    (past-8 _ _ _ c.as_slice-else-eq-7.ensures c.if-eq-8.ensures
    (past-9 _ _ _ c.as_slice-else-eq-8.ensures c.if-eq-9.ensures
    (past-10 _ _ _ c.as_slice-else-eq-9.ensures c.if-eq-10.ensures
    (past-11 _ _ _ c.as_slice-else-eq-10.ensures c.if-eq-11.ensures
    (this-12 _ _ c.as_slice-else-eq-11.ensures c.if-eq-12.ensures)))))))))))

pub returns-then-eq-13 : goal.returns-then-eq-13
returns-then-eq-13 c =
    past-1 _ _ _ c.as_slice.ensures c.if-eq.ensures
    (past-2 _ _ _ c.as_slice-else-eq.ensures c.if-eq-2.ensures
    (past-3 _ _ _ c.as_slice-else-eq-2.ensures c.if-eq-3.ensures
    (past-4 _ _ _ c.as_slice-else-eq-3.ensures c.if-eq-4.ensures
    (past-5 _ _ _ c.as_slice-else-eq-4.ensures c.if-eq-5.ensures
    (past-6 _ _ _ c.as_slice-else-eq-5.ensures c.if-eq-6.ensures
    (past-7 _ _ _ c.as_slice-else-eq-6.ensures c.if-eq-7.ensures
    (past-8 _ _ _ c.as_slice-else-eq-7.ensures c.if-eq-8.ensures
    (past-9 _ _ _ c.as_slice-else-eq-8.ensures c.if-eq-9.ensures
    (past-10 _ _ _ c.as_slice-else-eq-9.ensures c.if-eq-10.ensures
    (past-11 _ _ _ c.as_slice-else-eq-10.ensures c.if-eq-11.ensures
    (past-12 _ _ _ c.as_slice-else-eq-11.ensures c.if-eq-12.ensures
    (this-13 _ _ c.as_slice-else-eq-12.ensures c.if-eq-13.ensures))))))))))))

pub returns-else-eq-13 : goal.returns-else-eq-13
returns-else-eq-13 c =
    past-1 _ _ _ c.as_slice.ensures c.if-eq.ensures
    (past-2 _ _ _ c.as_slice-else-eq.ensures c.if-eq-2.ensures
    (past-3 _ _ _ c.as_slice-else-eq-2.ensures c.if-eq-3.ensures
    (past-4 _ _ _ c.as_slice-else-eq-3.ensures c.if-eq-4.ensures
    (past-5 _ _ _ c.as_slice-else-eq-4.ensures c.if-eq-5.ensures
    (past-6 _ _ _ c.as_slice-else-eq-5.ensures c.if-eq-6.ensures
    (past-7 _ _ _ c.as_slice-else-eq-6.ensures c.if-eq-7.ensures
    (past-8 _ _ _ c.as_slice-else-eq-7.ensures c.if-eq-8.ensures
    (past-9 _ _ _ c.as_slice-else-eq-8.ensures c.if-eq-9.ensures
    (past-10 _ _ _ c.as_slice-else-eq-9.ensures c.if-eq-10.ensures
    (past-11 _ _ _ c.as_slice-else-eq-10.ensures c.if-eq-11.ensures
    (past-12 _ _ _ c.as_slice-else-eq-11.ensures c.if-eq-12.ensures
    (past-13 _ _ _ c.as_slice-else-eq-12.ensures c.if-eq-13.ensures
    (none-13 c.args.piece.now)))))))))))))
