use Rattle.std.proofs.Common.{◌∙◌, ℕ, List, length, ap, arith}
use Rattle.std.proofs.lemmas.Result.{IfOk-from_err}
use Rattle.block_disk.specs.MemDisk.{blocks_of}
use Rattle.block_disk.specs.Record.{call_fits}
use Rattle.block_disk.proofs.Tears.{tears_step, tears_none, tears_all, all_at}
use Rattle.block_disk.proofs.tear.tear_all.Goals as goal

pub loop-call-preserved : goal.loop-call-preserved
loop-call-preserved c = record {
  torn = tears_step c.args.tear c.args.calls.now c.loop-call.call-index c.call-item.result (blocks_of c.args.old.now)
      (blocks_of c.args.new.now) (blocks_of c.loop-call.left.items)
      (blocks_of c.tear_call.new.left.items) c.loop-call-test.true c.call-item.is c.loop-call.invariant.torn c.in_ok-tear_call.ensures.torn;
  len = c.tear_call.ensures.len ∙ c.loop-call.invariant.len;
}

pub returns-in_err-left-clause-torn : goal.returns-in_err-left-clause-torn
returns-in_err-left-clause-torn c = IfOk-from_err c.from_residual.result _ c.from_residual.ensures.0

pub returns-in_err-left-clause-len : goal.returns-in_err-left-clause-len
returns-in_err-left-clause-len c = IfOk-from_err c.from_residual.result _ c.from_residual.ensures.0

pub loop-call-init : goal.loop-call-init
loop-call-init c = record {
  torn = tears_none c.args.tear (blocks_of c.args.old.now) c.args.new.now c.in_ok-left.left.items c.in_ok-left.ensures.items;
  len = ap (λ (bytes : List ℕ). length bytes) c.in_ok-left.ensures.items;
}

pub tear_call-requires-clause-fits : goal.tear_call-requires-clause-fits
tear_call-requires-clause-fits c =
    all_at (call_fits c.args.blocks) c.args.calls.now c.loop-call.call-index c.call-item.result c.loop-call-test.true c.call-item.is
    c.requires.fits

pub tear_call-requires-clause-within : goal.tear_call-requires-clause-within
tear_call-requires-clause-within c = omega (arith, c.requires.new_within, c.loop-call.invariant.len)

pub tear_call-requires-clause-old_within : goal.tear_call-requires-clause-old_within
tear_call-requires-clause-old_within c = c.requires.old_within

pub tear_call-requires-clause-new_within : goal.tear_call-requires-clause-new_within
tear_call-requires-clause-new_within c = c.requires.new_within

pub returns-in_err-tear_call-clause-torn : goal.returns-in_err-tear_call-clause-torn
returns-in_err-tear_call-clause-torn c = IfOk-from_err c.from_residual-in_err-tear_call.result _ c.from_residual-in_err-tear_call.ensures.0

pub returns-in_err-tear_call-clause-len : goal.returns-in_err-tear_call-clause-len
returns-in_err-tear_call-clause-len c = IfOk-from_err c.from_residual-in_err-tear_call.result _ c.from_residual-in_err-tear_call.ensures.0

pub returns-clause-torn : goal.returns-clause-torn
returns-clause-torn c =
    tears_all c.args.tear c.args.calls.now c.loop-call.call-index (blocks_of c.args.old.now) (blocks_of c.args.new.now)
    (blocks_of c.loop-call.left.items) c.loop-call-test.false c.loop-call.invariant.torn

pub returns-clause-len : goal.returns-clause-len
returns-clause-len c = c.loop-call.invariant.len
