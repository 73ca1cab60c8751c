use Rattle.std.proofs.Common.{refl, ◌≡◌, ◌∙◌, ◌≤◌, ◌+◌, ℕ, List, length, Some, ap, sym, subst, arith, option_map, Option, IfSome, IsTrue}
use Rattle.std.proofs.lemmas.Result.{err_from_is_err_and}
use Rattle.arrayvec.specs.ArrayVec.{ArrayVec}
use Rattle.block_disk.specs.View.{View, Honest, Moves, Nowhere}
use Rattle.block_disk.proofs.Passing.{passes_weaker}
use Rattle.gate_pages.specs.Batch.{is_one_of, all_below}
use Rattle.gate_pages.specs.GatePages.{StandsAsBefore}
use Rattle.gate_pages.specs.Journal.{directory, pages_of}
use Rattle.gate_pages.specs.Pages.{Quiet}
use Rattle.gate_pages.specs.Steps.{Anywhere}
use Rattle.gate_pages.proofs.Moving.{moves_then, moves_weaker, time_then, untouched}
use Rattle.gate_pages.proofs.Puts.{below_from_all}
use Rattle.gate_pages.proofs.Replaying.{stands_quiet, stands_back}
use Rattle.gate_pages.proofs.recovery.recover.Goals as goal

abbrev Numbers : Type 0
Numbers = ArrayVec ℕ

-- calls that touch nothing are among those of a recovery
quiet_moves : (reads syncs : ℕ) (old new : View) → reads ≤ 66 → syncs ≤ 3 → Moves Nowhere reads syncs 0 old new
    → Moves Anywhere 66 3 65 old new
quiet_moves reads syncs old new few_reads few_syncs moves =
    moves_weaker Nowhere Anywhere reads syncs 0 66 3 65 old new (λ number nothing. tt) few_reads few_syncs (omega arith) moves

-- so are those before a replay, with the replay
replay_moves : (n : ℕ) (old mid new : View) → n ≤ 64 → Moves Nowhere 2 1 0 old mid → Moves Anywhere n 2 (n + 1) mid new
    → Moves Anywhere 66 3 65 old new
replay_moves n old mid new few before moves =
    moves_then Anywhere 2 1 0 64 2 65 old mid new
    (moves_weaker Nowhere Anywhere 2 1 0 2 1 0 old mid (λ number nothing. tt) (omega arith) (omega arith) (omega arith) before)
    (moves_weaker Anywhere Anywhere n 2 (n + 1) 64 2 65 mid new (λ number any. any) few (omega arith) (omega arith) moves)

pub replay-requires-clause-within : goal.replay-requires-clause-within
replay-requires-clause-within g c n is =
    let count = c.args.count in
    let F : Option Numbers → Type 0 = λ o. IfSome o (λ v. IsTrue (all_below count v.items)) in
    let below = subst F c.in-Some.is c.directory.ensures.below in
    let P : List ℕ → Type 0 = λ l. IsTrue (is_one_of l n) in
    let less = below_from_all count c.in-Some.numbers.items n below (subst P c.as_slice.ensures.value is) in
    omega (
      arith,
      less,
      c.requires.count,
      c.requires.large,
      c.sync.ensures.moves.size,
      c.read_block.ensures.moves.size,
      c.read_block-2.ensures.moves.size,
    )

pub returns-in_err-read_block-clause-moments : goal.returns-in_err-read_block-clause-moments
returns-in_err-read_block-clause-moments g c =
    let view = g.D.Disk.view in
    let count = c.args.count in
    let view0 = view c.args.disk.now in
    let view1 = view c.sync.new.self in
    let view2 = view c.read_block.new.self in
    let quiet2 = moves_then Nowhere 0 1 0 1 0 0 view0 view1 view2 c.sync.ensures.moves c.read_block.ensures.moves in
    stands_quiet count 1 1 0 view0 view2 quiet2

pub returns-then-buffer-ne-OPEN-clause-moments : goal.returns-then-buffer-ne-OPEN-clause-moments
returns-then-buffer-ne-OPEN-clause-moments g c =
    let view = g.D.Disk.view in
    let count = c.args.count in
    let view0 = view c.args.disk.now in
    let view1 = view c.sync.new.self in
    let view2 = view c.read_block.new.self in
    let quiet2 = moves_then Nowhere 0 1 0 1 0 0 view0 view1 view2 c.sync.ensures.moves c.read_block.ensures.moves in
    stands_quiet count 1 1 0 view0 view2 quiet2

pub returns-in_err-read_block-2-clause-moments : goal.returns-in_err-read_block-2-clause-moments
returns-in_err-read_block-2-clause-moments g c =
    let view = g.D.Disk.view in
    let count = c.args.count in
    let view0 = view c.args.disk.now in
    let view1 = view c.sync.new.self in
    let view2 = view c.read_block.new.self in
    let quiet2 = moves_then Nowhere 0 1 0 1 0 0 view0 view1 view2 c.sync.ensures.moves c.read_block.ensures.moves in
    let view3 = view c.read_block-2.new.self in
    let quiet3 = moves_then Nowhere 1 1 0 1 0 0 view0 view2 view3 quiet2 c.read_block-2.ensures.moves in
    stands_quiet count 2 1 0 view0 view3 quiet3

pub returns-in_default-clause-moments : goal.returns-in_default-clause-moments
returns-in_default-clause-moments g c =
    let view = g.D.Disk.view in
    let count = c.args.count in
    let view0 = view c.args.disk.now in
    let view1 = view c.sync.new.self in
    let view2 = view c.read_block.new.self in
    let quiet2 = moves_then Nowhere 0 1 0 1 0 0 view0 view1 view2 c.sync.ensures.moves c.read_block.ensures.moves in
    let view3 = view c.read_block-2.new.self in
    let quiet3 = moves_then Nowhere 1 1 0 1 0 0 view0 view2 view3 quiet2 c.read_block-2.ensures.moves in
    stands_quiet count 2 1 0 view0 view3 quiet3

pub returns-in_err-replay-clause-moments : goal.returns-in_err-replay-clause-moments
returns-in_err-replay-clause-moments g c =
    let view = g.D.Disk.view in
    let count = c.args.count in
    let view0 = view c.args.disk.now in
    let view1 = view c.sync.new.self in
    let view2 = view c.read_block.new.self in
    let quiet2 = moves_then Nowhere 0 1 0 1 0 0 view0 view1 view2 c.sync.ensures.moves c.read_block.ensures.moves in
    let view3 = view c.read_block-2.new.self in
    let quiet3 = moves_then Nowhere 1 1 0 1 0 0 view0 view2 view3 quiet2 c.read_block-2.ensures.moves in
    let listed = λ (honest : Honest view3).
    let honest2 = c.read_block-2.ensures.moves.was_honest honest in
    let found : option_map (λ (v : Numbers). v.items) c.directory.result ≡ Some c.as_slice.result.now =
    ap (λ o. option_map (λ (v : Numbers). v.items) o) c.in-Some.is ∙ ap (λ (l : List ℕ). Some l) (sym c.as_slice.ensures.value) in
    ap (λ block. directory count block) (c.read_block-2.ensures.moves.off honest2 1 (λ nothing. nothing)
    ∙ sym (c.in_ok-read_block-2.ensures.bytes honest2))
    ∙ sym c.directory.ensures.directory ∙ found in
    let view4 = view c.replay.new.disk in
    time_then view0 view3 view4 (StandsAsBefore count view0) (stands_quiet count 2 1 0 view0 view3 quiet3)
    (passes_weaker view3 view4 (StandsAsBefore count view3) (StandsAsBefore count view0) (Quiet view3) (Quiet view3)
    (λ image stands. stands_back count 2 1 0 view0 view3 image quiet3 stands) (λ sent quiet. quiet)
    (c.replay.ensures.moments count listed))

pub returns-clause-moments : goal.returns-clause-moments
returns-clause-moments g c =
    let view = g.D.Disk.view in
    let count = c.args.count in
    let view0 = view c.args.disk.now in
    let view1 = view c.sync.new.self in
    let view2 = view c.read_block.new.self in
    let quiet2 = moves_then Nowhere 0 1 0 1 0 0 view0 view1 view2 c.sync.ensures.moves c.read_block.ensures.moves in
    let view3 = view c.read_block-2.new.self in
    let quiet3 = moves_then Nowhere 1 1 0 1 0 0 view0 view2 view3 quiet2 c.read_block-2.ensures.moves in
    let listed = λ (honest : Honest view3).
    let honest2 = c.read_block-2.ensures.moves.was_honest honest in
    let found : option_map (λ (v : Numbers). v.items) c.directory.result ≡ Some c.as_slice.result.now =
    ap (λ o. option_map (λ (v : Numbers). v.items) o) c.in-Some.is ∙ ap (λ (l : List ℕ). Some l) (sym c.as_slice.ensures.value) in
    ap (λ block. directory count block) (c.read_block-2.ensures.moves.off honest2 1 (λ nothing. nothing)
    ∙ sym (c.in_ok-read_block-2.ensures.bytes honest2))
    ∙ sym c.directory.ensures.directory ∙ found in
    let view4 = view c.replay.new.disk in
    time_then view0 view3 view4 (StandsAsBefore count view0) (stands_quiet count 2 1 0 view0 view3 quiet3)
    (passes_weaker view3 view4 (StandsAsBefore count view3) (StandsAsBefore count view0) (Quiet view3) (Quiet view3)
    (λ image stands. stands_back count 2 1 0 view0 view3 image quiet3 stands) (λ sent quiet. quiet)
    (c.replay.ensures.moments count listed))

pub returns-clause-pages : goal.returns-clause-pages
returns-clause-pages g c honest =
    let view = g.D.Disk.view in
    let count = c.args.count in
    let view0 = view c.args.disk.now in
    let view1 = view c.sync.new.self in
    let view2 = view c.read_block.new.self in
    let quiet2 = moves_then Nowhere 0 1 0 1 0 0 view0 view1 view2 c.sync.ensures.moves c.read_block.ensures.moves in
    let view3 = view c.read_block-2.new.self in
    let quiet3 = moves_then Nowhere 1 1 0 1 0 0 view0 view2 view3 quiet2 c.read_block-2.ensures.moves in
    let listed = λ (honest : Honest view3).
    let honest2 = c.read_block-2.ensures.moves.was_honest honest in
    let found : option_map (λ (v : Numbers). v.items) c.directory.result ≡ Some c.as_slice.result.now =
    ap (λ o. option_map (λ (v : Numbers). v.items) o) c.in-Some.is ∙ ap (λ (l : List ℕ). Some l) (sym c.as_slice.ensures.value) in
    ap (λ block. directory count block) (c.read_block-2.ensures.moves.off honest2 1 (λ nothing. nothing)
    ∙ sym (c.in_ok-read_block-2.ensures.bytes honest2))
    ∙ sym c.directory.ensures.directory ∙ found in
    let honest3 = quiet3.honest honest in
    c.in_ok-replay.ensures.done count honest3 (listed honest3)
    ∙ ap (λ image. pages_of count image) (untouched 2 1 0 view0 view3 quiet3 honest)

pub returns-in_err-sync-clause-moves : goal.returns-in_err-sync-clause-moves
returns-in_err-sync-clause-moves g c =
    let view = g.D.Disk.view in
    quiet_moves 0 1 (view c.args.disk.now) (view c.sync.new.self) (omega arith) (omega arith) c.sync.ensures.moves

pub returns-in_err-read_block-clause-moves : goal.returns-in_err-read_block-clause-moves
returns-in_err-read_block-clause-moves g c =
    let view = g.D.Disk.view in
    let view0 = view c.args.disk.now in
    let view1 = view c.sync.new.self in
    let view2 = view c.read_block.new.self in
    let quiet2 = moves_then Nowhere 0 1 0 1 0 0 view0 view1 view2 c.sync.ensures.moves c.read_block.ensures.moves in
    quiet_moves 1 1 view0 view2 (omega arith) (omega arith) quiet2

pub returns-then-buffer-ne-OPEN-clause-moves : goal.returns-then-buffer-ne-OPEN-clause-moves
returns-then-buffer-ne-OPEN-clause-moves g c =
    let view = g.D.Disk.view in
    let view0 = view c.args.disk.now in
    let view1 = view c.sync.new.self in
    let view2 = view c.read_block.new.self in
    let quiet2 = moves_then Nowhere 0 1 0 1 0 0 view0 view1 view2 c.sync.ensures.moves c.read_block.ensures.moves in
    quiet_moves 1 1 view0 view2 (omega arith) (omega arith) quiet2

pub returns-in_err-read_block-2-clause-moves : goal.returns-in_err-read_block-2-clause-moves
returns-in_err-read_block-2-clause-moves g c =
    let view = g.D.Disk.view in
    let view0 = view c.args.disk.now in
    let view1 = view c.sync.new.self in
    let view2 = view c.read_block.new.self in
    let quiet2 = moves_then Nowhere 0 1 0 1 0 0 view0 view1 view2 c.sync.ensures.moves c.read_block.ensures.moves in
    let view3 = view c.read_block-2.new.self in
    let quiet3 = moves_then Nowhere 1 1 0 1 0 0 view0 view2 view3 quiet2 c.read_block-2.ensures.moves in
    quiet_moves 2 1 view0 view3 (omega arith) (omega arith) quiet3

pub returns-in_default-clause-moves : goal.returns-in_default-clause-moves
returns-in_default-clause-moves g c =
    let view = g.D.Disk.view in
    let view0 = view c.args.disk.now in
    let view1 = view c.sync.new.self in
    let view2 = view c.read_block.new.self in
    let quiet2 = moves_then Nowhere 0 1 0 1 0 0 view0 view1 view2 c.sync.ensures.moves c.read_block.ensures.moves in
    let view3 = view c.read_block-2.new.self in
    let quiet3 = moves_then Nowhere 1 1 0 1 0 0 view0 view2 view3 quiet2 c.read_block-2.ensures.moves in
    quiet_moves 2 1 view0 view3 (omega arith) (omega arith) quiet3

pub returns-in_err-replay-clause-moves : goal.returns-in_err-replay-clause-moves
returns-in_err-replay-clause-moves g c =
    let view = g.D.Disk.view in
    let view0 = view c.args.disk.now in
    let view1 = view c.sync.new.self in
    let view2 = view c.read_block.new.self in
    let quiet2 = moves_then Nowhere 0 1 0 1 0 0 view0 view1 view2 c.sync.ensures.moves c.read_block.ensures.moves in
    let view3 = view c.read_block-2.new.self in
    let quiet3 = moves_then Nowhere 1 1 0 1 0 0 view0 view2 view3 quiet2 c.read_block-2.ensures.moves in
    let F : Option Numbers → Type 0 = λ o. IfSome o (λ v. length v.items ≤ 64) in
    let few : length c.in-Some.numbers.items ≤ 64 = subst F c.in-Some.is c.directory.ensures.few in
    let same = ap (λ (ns : List ℕ). length ns) c.as_slice.ensures.value in
    replay_moves (length c.as_slice.result.now) view0 view3 (view c.replay.new.disk)
    (omega (arith, few, same)) quiet3 c.replay.ensures.moves

pub returns-clause-moves : goal.returns-clause-moves
returns-clause-moves g c =
    let view = g.D.Disk.view in
    let view0 = view c.args.disk.now in
    let view1 = view c.sync.new.self in
    let view2 = view c.read_block.new.self in
    let quiet2 = moves_then Nowhere 0 1 0 1 0 0 view0 view1 view2 c.sync.ensures.moves c.read_block.ensures.moves in
    let view3 = view c.read_block-2.new.self in
    let quiet3 = moves_then Nowhere 1 1 0 1 0 0 view0 view2 view3 quiet2 c.read_block-2.ensures.moves in
    let F : Option Numbers → Type 0 = λ o. IfSome o (λ v. length v.items ≤ 64) in
    let few : length c.in-Some.numbers.items ≤ 64 = subst F c.in-Some.is c.directory.ensures.few in
    let same = ap (λ (ns : List ℕ). length ns) c.as_slice.ensures.value in
    replay_moves (length c.as_slice.result.now) view0 view3 (view c.replay.new.disk)
    (omega (arith, few, same)) quiet3 c.replay.ensures.moves

pub returns-in_err-sync-clause-left : goal.returns-in_err-sync-clause-left
returns-in_err-sync-clause-left g c =
    let err = err_from_is_err_and c.from_residual.result c.from_residual.ensures.1 in
    rw (err.1, err.2) tt

pub returns-in_err-sync-clause-quiet_err : goal.returns-in_err-sync-clause-quiet_err
returns-in_err-sync-clause-quiet_err g c =
    let err = err_from_is_err_and c.from_residual.result c.from_residual.ensures.1 in
    rw (err.1, err.2) (λ no. absurd (no refl))

pub returns-in_err-sync-clause-no_memory : goal.returns-in_err-sync-clause-no_memory
returns-in_err-sync-clause-no_memory g c =
    let err = err_from_is_err_and c.from_residual.result c.from_residual.ensures.1 in
    rw (err.1, err.2) (λ is. absurd (cc (is)))

pub returns-in_err-read_block-clause-left : goal.returns-in_err-read_block-clause-left
returns-in_err-read_block-clause-left g c =
    let err = err_from_is_err_and c.from_residual-in_err-read_block.result c.from_residual-in_err-read_block.ensures.1 in
    rw (err.1, err.2) tt

pub returns-in_err-read_block-clause-quiet_err : goal.returns-in_err-read_block-clause-quiet_err
returns-in_err-read_block-clause-quiet_err g c =
    let err = err_from_is_err_and c.from_residual-in_err-read_block.result c.from_residual-in_err-read_block.ensures.1 in
    rw (err.1, err.2) (λ no. absurd (no refl))

pub returns-in_err-read_block-clause-no_memory : goal.returns-in_err-read_block-clause-no_memory
returns-in_err-read_block-clause-no_memory g c =
    let err = err_from_is_err_and c.from_residual-in_err-read_block.result c.from_residual-in_err-read_block.ensures.1 in
    rw (err.1, err.2) (λ is. absurd (cc (is)))

pub returns-in_err-read_block-2-clause-left : goal.returns-in_err-read_block-2-clause-left
returns-in_err-read_block-2-clause-left g c =
    let err = err_from_is_err_and c.from_residual-in_err-read_block-2.result c.from_residual-in_err-read_block-2.ensures.1 in
    rw (err.1, err.2) tt

pub returns-in_err-read_block-2-clause-quiet_err : goal.returns-in_err-read_block-2-clause-quiet_err
returns-in_err-read_block-2-clause-quiet_err g c =
    let err = err_from_is_err_and c.from_residual-in_err-read_block-2.result c.from_residual-in_err-read_block-2.ensures.1 in
    rw (err.1, err.2) (λ no. absurd (no refl))

pub returns-in_err-read_block-2-clause-no_memory : goal.returns-in_err-read_block-2-clause-no_memory
returns-in_err-read_block-2-clause-no_memory g c =
    let err = err_from_is_err_and c.from_residual-in_err-read_block-2.result c.from_residual-in_err-read_block-2.ensures.1 in
    rw (err.1, err.2) (λ is. absurd (cc (is)))

pub returns-in_err-replay-clause-left : goal.returns-in_err-replay-clause-left
returns-in_err-replay-clause-left g c =
    let err = err_from_is_err_and c.from_residual-in_err-replay.result c.from_residual-in_err-replay.ensures.1 in
    rw (err.1, err.2) tt

pub returns-in_err-replay-clause-quiet_err : goal.returns-in_err-replay-clause-quiet_err
returns-in_err-replay-clause-quiet_err g c =
    let err = err_from_is_err_and c.from_residual-in_err-replay.result c.from_residual-in_err-replay.ensures.1 in
    rw (err.1, err.2) (λ no. absurd (no refl))

pub returns-in_err-replay-clause-no_memory : goal.returns-in_err-replay-clause-no_memory
returns-in_err-replay-clause-no_memory g c =
    let err = err_from_is_err_and c.from_residual-in_err-replay.result c.from_residual-in_err-replay.ensures.1 in
    rw (err.1, err.2) (λ is. absurd (cc (is)))

pub returns-in_err-read_block-clause-unwritten : goal.returns-in_err-read_block-clause-unwritten
returns-in_err-read_block-clause-unwritten g c _ =
    let view = g.D.Disk.view in
    moves_then Nowhere 0 1 0 1 0 0 (view c.args.disk.now) (view c.sync.new.self)
    (view c.read_block.new.self) c.sync.ensures.moves c.read_block.ensures.moves

pub returns-then-buffer-ne-OPEN-clause-unwritten : goal.returns-then-buffer-ne-OPEN-clause-unwritten
returns-then-buffer-ne-OPEN-clause-unwritten g c _ =
    let view = g.D.Disk.view in
    moves_then Nowhere 0 1 0 1 0 0 (view c.args.disk.now) (view c.sync.new.self)
    (view c.read_block.new.self) c.sync.ensures.moves c.read_block.ensures.moves

pub returns-in_err-sync-clause-unwritten : goal.returns-in_err-sync-clause-unwritten
returns-in_err-sync-clause-unwritten g c _ =
    let view = g.D.Disk.view in
    moves_weaker Nowhere Nowhere 0 1 0 1 1 0 (view c.args.disk.now) (view c.sync.new.self) (λ number is. is) (omega arith) (omega arith)
    (omega arith) c.sync.ensures.moves
