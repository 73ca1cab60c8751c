use Rattle.std.proofs.lemmas.Result.{err_from_is_err_and}
use Rattle.std.proofs.Common.{refl, ◌∙◌, inl, inr, arith}
use Rattle.block_disk.specs.View.{Nowhere, At}
use Rattle.gate_pages.proofs.Moving.{moves_then, moves_weaker, moves_among}
use Rattle.gate_pages.proofs.opening.formatted.Goals as goal

pub returns-in-Ok-clause-moves : goal.returns-in-Ok-clause-moves
returns-in-Ok-clause-moves g c =
    let view = g.D.Disk.view in
    moves_then (At 0) 0 0 0 0 1 1 (view c.args.disk.now) (view c.pages_on.new.disk) (view c.shut.new.disk)
    (moves_weaker Nowhere (At 0) 0 0 0 0 0 0 (view c.args.disk.now) (view c.pages_on.new.disk) (λ number nothing. absurd nothing)
    (omega arith) (omega arith) (omega arith) c.pages_on.ensures.moves) c.shut.ensures.moves

pub returns-in-Err-clause-moves : goal.returns-in-Err-clause-moves
returns-in-Err-clause-moves g c =
    let view = g.D.Disk.view in
    moves_then (At 0) 0 0 0 0 1 1 (view c.args.disk.now) (view c.pages_on.new.disk) (view c.shut.new.disk)
    (moves_weaker Nowhere (At 0) 0 0 0 0 0 0 (view c.args.disk.now) (view c.pages_on.new.disk) (λ number nothing. absurd nothing)
    (omega arith) (omega arith) (omega arith) c.pages_on.ensures.moves) c.shut.ensures.moves

pub returns-in-Err-clause-cause : goal.returns-in-Err-clause-cause
returns-in-Err-clause-cause g c = elim c.in-Err.ensures.cause [
  | inl risen ↦ inl (omega (arith, risen, c.in_ok-count.ensures.quiet))
  | inr last ↦ inr (omega (arith, last.0, c.in_ok-count.ensures.quiet), last.1 ∙ c.in_ok-count.ensures.quiet)
]

pub returns-in_err-count-clause-moves : goal.returns-in_err-count-clause-moves
returns-in_err-count-clause-moves g c = moves_among (λ number nothing. absurd nothing) (omega arith) (omega arith)
    (omega arith) c.pages_on.ensures.moves

pub returns-in_err-count-clause-no_memory : goal.returns-in_err-count-clause-no_memory
returns-in_err-count-clause-no_memory g c =
    let p = err_from_is_err_and c.from_residual-in_err-count.result c.from_residual-in_err-count.ensures.1 in
    rw (p.1, p.2) c.in_err-count.ensures.no_memory

pub returns-in_err-count-clause-quiet_err : goal.returns-in_err-count-clause-quiet_err
returns-in_err-count-clause-quiet_err g c =
    let p = err_from_is_err_and c.from_residual-in_err-count.result c.from_residual-in_err-count.ensures.1 in
    rw (p.1, p.2) c.in_err-count.ensures.quiet_err

pub returns-in_err-buffer-clause-cause : goal.returns-in_err-buffer-clause-cause
returns-in_err-buffer-clause-cause g c =
    let p = err_from_is_err_and c.from_residual.result c.from_residual.ensures.1 in
    rw (p.1, p.2) tt

pub returns-in_err-buffer-clause-left : goal.returns-in_err-buffer-clause-left
returns-in_err-buffer-clause-left g c =
    let p = err_from_is_err_and c.from_residual.result c.from_residual.ensures.1 in
    rw (p.1, p.2) tt

pub returns-in_err-buffer-clause-quiet_err : goal.returns-in_err-buffer-clause-quiet_err
returns-in_err-buffer-clause-quiet_err g c =
    let p = err_from_is_err_and c.from_residual.result c.from_residual.ensures.1 in
    rw (p.1, p.2) (λ _. refl)

pub returns-in_err-buffer-clause-no_memory : goal.returns-in_err-buffer-clause-no_memory
returns-in_err-buffer-clause-no_memory g c =
    let p = err_from_is_err_and c.from_residual.result c.from_residual.ensures.1 in
    rw (p.1, p.2) (λ _. refl)

pub returns-in_err-count-clause-cause : goal.returns-in_err-count-clause-cause
returns-in_err-count-clause-cause g c =
    let p = err_from_is_err_and c.from_residual-in_err-count.result c.from_residual-in_err-count.ensures.1 in
    rw (p.1, p.2) c.in_err-count.ensures.cause

pub returns-in_err-count-clause-left : goal.returns-in_err-count-clause-left
returns-in_err-count-clause-left g c =
    let p = err_from_is_err_and c.from_residual-in_err-count.result c.from_residual-in_err-count.ensures.1 in
    rw (p.1, p.2) c.in_err-count.ensures.left
