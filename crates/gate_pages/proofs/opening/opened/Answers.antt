use Rattle.std.proofs.lemmas.Result.{err_from_is_err_and}
use Rattle.gate_pages.proofs.Replaying.{stands_quiet}
use Rattle.std.proofs.Common.{refl, ◌∙◌, ap, arith}
use Rattle.block_disk.specs.View.{Nowhere}
use Rattle.gate_pages.specs.Journal.{page_count, pages_of}
use Rattle.gate_pages.specs.Steps.{Anywhere}
use Rattle.gate_pages.proofs.Moving.{moves_then, moves_weaker, untouched, moves_among}
use Rattle.gate_pages.proofs.OpeningLemmas.{explains_back, leaves_back, unwritten_back, moments_back, counted_moments}
use Rattle.gate_pages.proofs.opening.opened.Goals as goal

pub returns-in-Err-clause-cause : goal.returns-in-Err-clause-cause
returns-in-Err-clause-cause g c =
    let view = g.D.Disk.view in
    explains_back (view c.args.disk.now) (view c.pages_on.new.disk)
    (view c.recover.new.disk) c.pages_on.ensures.moves c.in_ok-count.ensures.quiet c.in-Err.cause c.in-Err.ensures.cause

pub returns-in-Err-clause-left : goal.returns-in-Err-clause-left
returns-in-Err-clause-left g c =
    let view = g.D.Disk.view in
    leaves_back (view c.args.disk.now) (view c.pages_on.new.disk)
    (view c.recover.new.disk) c.pages_on.ensures.moves c.in-Err.cause c.in-Err.ensures.left

pub returns-in-Err-clause-moments : goal.returns-in-Err-clause-moments
returns-in-Err-clause-moments g c =
    let view = g.D.Disk.view in
    let count = c.in_ok-count.count in
    counted_moments count (page_count (view c.args.disk.now).size) (view c.args.disk.now)
    (view c.recover.new.disk) c.in_ok-count.ensures.count
    (moments_back (view c.args.disk.now) (view c.pages_on.new.disk)
    (view c.recover.new.disk) c.pages_on.ensures.moves count c.recover.ensures.moments)

pub returns-in-Err-clause-moves : goal.returns-in-Err-clause-moves
returns-in-Err-clause-moves g c =
    let view = g.D.Disk.view in
    moves_then Anywhere 0 0 0 66 3 65 (view c.args.disk.now) (view c.pages_on.new.disk) (view c.recover.new.disk)
    (moves_weaker Nowhere Anywhere 0 0 0 0 0 0 (view c.args.disk.now) (view c.pages_on.new.disk) (λ number nothing. tt) (omega arith)
    (omega arith) (omega arith) c.pages_on.ensures.moves) c.recover.ensures.moves

pub returns-in-Ok-clause-moments : goal.returns-in-Ok-clause-moments
returns-in-Ok-clause-moments g c =
    let view = g.D.Disk.view in
    let count = c.in_ok-count.count in
    counted_moments count (page_count (view c.args.disk.now).size) (view c.args.disk.now)
    (view c.recover.new.disk) c.in_ok-count.ensures.count
    (moments_back (view c.args.disk.now) (view c.pages_on.new.disk)
    (view c.recover.new.disk) c.pages_on.ensures.moves count c.recover.ensures.moments)

pub returns-in-Ok-clause-moves : goal.returns-in-Ok-clause-moves
returns-in-Ok-clause-moves g c =
    let view = g.D.Disk.view in
    moves_then Anywhere 0 0 0 66 3 65 (view c.args.disk.now) (view c.pages_on.new.disk) (view c.recover.new.disk)
    (moves_weaker Nowhere Anywhere 0 0 0 0 0 0 (view c.args.disk.now) (view c.pages_on.new.disk) (λ number nothing. tt) (omega arith)
    (omega arith) (omega arith) c.pages_on.ensures.moves) c.recover.ensures.moves

pub returns-in-Ok-clause-pages : goal.returns-in-Ok-clause-pages
returns-in-Ok-clause-pages g c honest =
    let view = g.D.Disk.view in
    let asked = c.pages_on.ensures.moves in
    c.in-Ok.ensures.pages (asked.honest honest)
    ∙ ap (λ image. pages_of c.in_ok-count.count image) (untouched 0 0 0 (view c.args.disk.now) (view c.pages_on.new.disk) asked honest)

pub returns-in_err-count-clause-moves : goal.returns-in_err-count-clause-moves
returns-in_err-count-clause-moves g c = moves_among (λ number nothing. tt) (omega arith) (omega arith)
    (omega arith) c.pages_on.ensures.moves

pub returns-in_err-count-clause-moments : goal.returns-in_err-count-clause-moments
returns-in_err-count-clause-moments g c =
    let view = g.D.Disk.view in
    stands_quiet (page_count (view c.args.disk.now).size) 0 0 0 (view c.args.disk.now) (view c.pages_on.new.disk) c.pages_on.ensures.moves

pub returns-in_err-count-clause-unwritten : goal.returns-in_err-count-clause-unwritten
returns-in_err-count-clause-unwritten g c = λ closed. moves_among (λ number nothing. nothing) (omega arith) (omega arith)
    (omega arith) c.pages_on.ensures.moves

pub returns-in-Ok-clause-unwritten : goal.returns-in-Ok-clause-unwritten
returns-in-Ok-clause-unwritten g c =
    let view = g.D.Disk.view in
    unwritten_back (view c.args.disk.now) (view c.pages_on.new.disk)
    (view c.recover.new.disk) c.pages_on.ensures.moves c.recover.ensures.unwritten

pub returns-in-Err-clause-unwritten : goal.returns-in-Err-clause-unwritten
returns-in-Err-clause-unwritten g c =
    let view = g.D.Disk.view in
    unwritten_back (view c.args.disk.now) (view c.pages_on.new.disk)
    (view c.recover.new.disk) c.pages_on.ensures.moves c.recover.ensures.unwritten

pub returns-in_err-count-clause-no_memory : goal.returns-in_err-count-clause-no_memory
returns-in_err-count-clause-no_memory g c =
    let p = err_from_is_err_and c.from_residual-in_err-count.result c.from_residual-in_err-count.ensures.1 in
    rw (p.1, p.2) c.in_err-count.ensures.no_memory

pub returns-in_err-count-clause-quiet_err : goal.returns-in_err-count-clause-quiet_err
returns-in_err-count-clause-quiet_err g c =
    let p = err_from_is_err_and c.from_residual-in_err-count.result c.from_residual-in_err-count.ensures.1 in
    rw (p.1, p.2) c.in_err-count.ensures.quiet_err

pub returns-in_err-buffer-clause-cause : goal.returns-in_err-buffer-clause-cause
returns-in_err-buffer-clause-cause g c =
    let p = err_from_is_err_and c.from_residual.result c.from_residual.ensures.1 in
    rw (p.1, p.2) tt

pub returns-in_err-buffer-clause-left : goal.returns-in_err-buffer-clause-left
returns-in_err-buffer-clause-left g c =
    let p = err_from_is_err_and c.from_residual.result c.from_residual.ensures.1 in
    rw (p.1, p.2) tt

pub returns-in_err-buffer-clause-quiet_err : goal.returns-in_err-buffer-clause-quiet_err
returns-in_err-buffer-clause-quiet_err g c =
    let p = err_from_is_err_and c.from_residual.result c.from_residual.ensures.1 in
    rw (p.1, p.2) (λ _. refl)

pub returns-in_err-buffer-clause-no_memory : goal.returns-in_err-buffer-clause-no_memory
returns-in_err-buffer-clause-no_memory g c =
    let p = err_from_is_err_and c.from_residual.result c.from_residual.ensures.1 in
    rw (p.1, p.2) (λ _. refl)

pub returns-in_err-count-clause-cause : goal.returns-in_err-count-clause-cause
returns-in_err-count-clause-cause g c =
    let p = err_from_is_err_and c.from_residual-in_err-count.result c.from_residual-in_err-count.ensures.1 in
    rw (p.1, p.2) c.in_err-count.ensures.cause

pub returns-in_err-count-clause-left : goal.returns-in_err-count-clause-left
returns-in_err-count-clause-left g c =
    let p = err_from_is_err_and c.from_residual-in_err-count.result c.from_residual-in_err-count.ensures.1 in
    rw (p.1, p.2) c.in_err-count.ensures.left
