use Rattle.std.proofs.Common.{arith}
use Rattle.page_space.proofs.Writing.{read_some, read_none, are_zeros, no_zeros}
use Rattle.page_space.proofs.superblock.Superblock.read.Goals as goal

pub returns-then-not-all_zero-clause-none : goal.returns-then-not-all_zero-clause-none
returns-then-not-all_zero-clause-none c =
    read_none _ _ _ _ _ _ _ _ _ _ _ c.word_at-total.ensures.parts c.word_at-fresh.ensures.parts c.word_at-head.ensures.parts
    c.word_at-chain.ensures.parts c.word_at-series.ensures.parts
    (no_zeros _ 4068 _ c.all_zero.ensures (omega (arith, c.requires)) c.if-not-all_zero.true)

pub returns-clause-read : goal.returns-clause-read
returns-clause-read c =
    read_some _ _ _ _ _ _ _ c.word_at-total.ensures.parts c.word_at-fresh.ensures.parts c.word_at-head.ensures.parts
    c.word_at-chain.ensures.parts c.word_at-series.ensures.parts
    (are_zeros _ 4068 _ c.all_zero.ensures (omega (arith, c.requires)) c.if-not-all_zero.false)
