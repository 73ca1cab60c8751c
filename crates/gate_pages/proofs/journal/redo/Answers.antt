use Rattle.std.proofs.Common.{◌+◌, ◌*◌, length, inl, inr, arith}
use Rattle.block_disk.specs.View.{Image, Honest, At}
use Rattle.gate_pages.specs.Batch.{numbers, put_all}
use Rattle.gate_pages.specs.Entries.{entries}
use Rattle.gate_pages.specs.Journal.{home}
use Rattle.gate_pages.specs.Steps.{Anywhere, IsJournal, IsHome}
use Rattle.gate_pages.proofs.BatchLemmas.{few_entries}
use Rattle.gate_pages.proofs.Moving.{moves_weaker}
use Rattle.gate_pages.proofs.Puts.{all_below_from}
use Rattle.gate_pages.proofs.States.{Gives}
use Rattle.gate_pages.proofs.Redoing.{way, Moment, possible, stage_time, stage_way, gate_time, gate_way, home_time, home_way, close_time}
use Rattle.gate_pages.proofs.Redoing.{close_way}
use Rattle.gate_pages.proofs.journal.redo.Goals as goal

pub returns-in_err-stage-clause-moves : goal.returns-in_err-stage-clause-moves
returns-in_err-stage-clause-moves g c =
    let view = g.D.Disk.view in
    let batch = entries c.args.batch.now in
    let many = length batch in
    let view0 = view c.args.disk.now in
    let view1 = view c.stage.new.disk in
    let moves1 = moves_weaker IsJournal Anywhere 0 1 (many + 1) 0 1 (many + 1) view0 view1 (λ number is. tt) (omega arith) (omega arith)
    (omega arith) c.stage.ensures.moves in
    moves_weaker Anywhere Anywhere 0 1 (many + 1) 0 4 (2 * many + 3) view0 view1 (λ number is. is) (omega arith) (omega arith)
    (omega arith) moves1

pub returns-in_err-stage-clause-moments : goal.returns-in_err-stage-clause-moments
returns-in_err-stage-clause-moments g c count below =
    let view = g.D.Disk.view in
    let batch = entries c.args.batch.now in
    let few = few_entries c.args.batch.now.len c.args.batch.now.pages.items c.args.batch.now.within in
    let many = length batch in
    let view0 = view c.args.disk.now in
    let view1 = view c.stage.new.disk in
    stage_time count batch view0 c.requires.closed 0 1 (many + 1) view1 c.stage.ensures.moves

pub returns-in_err-set_gate-clause-moves : goal.returns-in_err-set_gate-clause-moves
returns-in_err-set_gate-clause-moves g c =
    let view = g.D.Disk.view in
    let batch = entries c.args.batch.now in
    let many = length batch in
    let view0 = view c.args.disk.now in
    let view1 = view c.stage.new.disk in
    let view2 = view c.set_gate.new.disk in
    let moves1 = moves_weaker IsJournal Anywhere 0 1 (many + 1) 0 1 (many + 1) view0 view1 (λ number is. tt) (omega arith) (omega arith)
    (omega arith) c.stage.ensures.moves in
    let moves2 = way (At 0) 0 1 (many + 1) 0 1 1 view0 view1 view2 moves1 c.set_gate.ensures.moves in
    moves_weaker Anywhere Anywhere (0 + 0) (1 + 1) ((many + 1) + 1) 0 4 (2 * many + 3) view0 view2 (λ number is. is) (omega arith)
    (omega arith) (omega arith) moves2

pub returns-in_err-set_gate-clause-moments : goal.returns-in_err-set_gate-clause-moments
returns-in_err-set_gate-clause-moments g c count below =
    let view = g.D.Disk.view in
    let batch = entries c.args.batch.now in
    let few = few_entries c.args.batch.now.len c.args.batch.now.pages.items c.args.batch.now.within in
    let many = length batch in
    let view0 = view c.args.disk.now in
    let view1 = view c.stage.new.disk in
    let view2 = view c.set_gate.new.disk in
    let after = λ (image : Image) (honest : Honest view0) (gives : Gives count image (put_all batch (home view0.image))).
    possible count batch view0 c.requires.closed image honest gives.readable (inr gives.stands) in
    let before = λ (image : Image) (honest : Honest view0) (gives : Gives count image (home view0.image)).
    possible count batch view0 c.requires.closed image honest gives.readable (inl gives.stands) in
    let at1 = stage_way count batch view0 c.requires.closed few
    (many + 1) view1 below c.stage.ensures.moves c.in_ok-stage.ensures.durable c.in_ok-stage.ensures.holds in
    gate_time count batch few view0 (Moment count batch view0)
    (home view0.image) after before 0 1 1 view1 view2 at1 c.set_gate.ensures.moves

pub returns-in_err-bring_home-clause-moves : goal.returns-in_err-bring_home-clause-moves
returns-in_err-bring_home-clause-moves g c =
    let view = g.D.Disk.view in
    let batch = entries c.args.batch.now in
    let many = length batch in
    let view0 = view c.args.disk.now in
    let view1 = view c.stage.new.disk in
    let view2 = view c.set_gate.new.disk in
    let view3 = view c.bring_home.new.disk in
    let moves1 = moves_weaker IsJournal Anywhere 0 1 (many + 1) 0 1 (many + 1) view0 view1 (λ number is. tt) (omega arith) (omega arith)
    (omega arith) c.stage.ensures.moves in
    let moves2 = way (At 0) 0 1 (many + 1) 0 1 1 view0 view1 view2 moves1 c.set_gate.ensures.moves in
    let moves3 = way (IsHome (numbers batch)) (0 + 0) (1 + 1)
    ((many + 1) + 1) 0 1 many view0 view2 view3 moves2 c.bring_home.ensures.moves in
    moves_weaker Anywhere Anywhere ((0 + 0) + 0) ((1 + 1) + 1) (((many + 1) + 1) + many) 0 4 (2 * many + 3) view0 view3 (λ number is. is)
    (omega arith) (omega arith) (omega arith) moves3

pub returns-in_err-bring_home-clause-moments : goal.returns-in_err-bring_home-clause-moments
returns-in_err-bring_home-clause-moments g c count below =
    let view = g.D.Disk.view in
    let batch = entries c.args.batch.now in
    let few = few_entries c.args.batch.now.len c.args.batch.now.pages.items c.args.batch.now.within in
    let many = length batch in
    let view0 = view c.args.disk.now in
    let view1 = view c.stage.new.disk in
    let view2 = view c.set_gate.new.disk in
    let view3 = view c.bring_home.new.disk in
    let after = λ (image : Image) (honest : Honest view0) (gives : Gives count image (put_all batch (home view0.image))).
    possible count batch view0 c.requires.closed image honest gives.readable (inr gives.stands) in
    let before = λ (image : Image) (honest : Honest view0) (gives : Gives count image (home view0.image)).
    possible count batch view0 c.requires.closed image honest gives.readable (inl gives.stands) in
    let at1 = stage_way count batch view0 c.requires.closed few
    (many + 1) view1 below c.stage.ensures.moves c.in_ok-stage.ensures.durable c.in_ok-stage.ensures.holds in
    let at2 = gate_way count batch few view0 (Moment count batch view0)
    (home view0.image) after before view1 view2 at1 c.set_gate.ensures.moves c.in_ok-set_gate.ensures.durable
    c.in_ok-set_gate.ensures.gate in
    home_time count batch few view0 (Moment count batch view0) (home view0.image) after 0 1 many view2 view3 at2 c.bring_home.ensures.moves

pub returns-in_err-set_gate-2-clause-moves : goal.returns-in_err-set_gate-2-clause-moves
returns-in_err-set_gate-2-clause-moves g c =
    let view = g.D.Disk.view in
    let batch = entries c.args.batch.now in
    let many = length batch in
    let view0 = view c.args.disk.now in
    let view1 = view c.stage.new.disk in
    let view2 = view c.set_gate.new.disk in
    let view3 = view c.bring_home.new.disk in
    let view4 = view c.set_gate-2.new.disk in
    let moves1 = moves_weaker IsJournal Anywhere 0 1 (many + 1) 0 1 (many + 1) view0 view1 (λ number is. tt) (omega arith) (omega arith)
    (omega arith) c.stage.ensures.moves in
    let moves2 = way (At 0) 0 1 (many + 1) 0 1 1 view0 view1 view2 moves1 c.set_gate.ensures.moves in
    let moves3 = way (IsHome (numbers batch)) (0 + 0) (1 + 1)
    ((many + 1) + 1) 0 1 many view0 view2 view3 moves2 c.bring_home.ensures.moves in
    let moves4 = way (At 0) ((0 + 0) + 0) ((1 + 1) + 1)
    (((many + 1) + 1) + many) 0 1 1 view0 view3 view4 moves3 c.set_gate-2.ensures.moves in
    moves_weaker Anywhere Anywhere (((0 + 0) + 0) + 0) (((1 + 1) + 1) + 1) ((((many + 1) + 1) + many) + 1) 0 4 (2 * many + 3) view0 view4
    (λ number is. is) (omega arith) (omega arith) (omega arith) moves4

pub returns-in_err-set_gate-2-clause-moments : goal.returns-in_err-set_gate-2-clause-moments
returns-in_err-set_gate-2-clause-moments g c count below =
    let view = g.D.Disk.view in
    let batch = entries c.args.batch.now in
    let few = few_entries c.args.batch.now.len c.args.batch.now.pages.items c.args.batch.now.within in
    let many = length batch in
    let view0 = view c.args.disk.now in
    let view1 = view c.stage.new.disk in
    let view2 = view c.set_gate.new.disk in
    let view3 = view c.bring_home.new.disk in
    let view4 = view c.set_gate-2.new.disk in
    let after = λ (image : Image) (honest : Honest view0) (gives : Gives count image (put_all batch (home view0.image))).
    possible count batch view0 c.requires.closed image honest gives.readable (inr gives.stands) in
    let before = λ (image : Image) (honest : Honest view0) (gives : Gives count image (home view0.image)).
    possible count batch view0 c.requires.closed image honest gives.readable (inl gives.stands) in
    let at1 = stage_way count batch view0 c.requires.closed few
    (many + 1) view1 below c.stage.ensures.moves c.in_ok-stage.ensures.durable c.in_ok-stage.ensures.holds in
    let at2 = gate_way count batch few view0 (Moment count batch view0)
    (home view0.image) after before view1 view2 at1 c.set_gate.ensures.moves c.in_ok-set_gate.ensures.durable
    c.in_ok-set_gate.ensures.gate in
    let at3 = home_way count batch few view0 (Moment count batch view0)
    (home view0.image) after 0 many view2 view3 at2 c.bring_home.ensures.moves c.in_ok-bring_home.ensures.durable
    c.in_ok-bring_home.ensures.home in
    close_time count batch few view0 (Moment count batch view0) (home view0.image) after 0 1 1 view3 view4 at3 c.set_gate-2.ensures.moves

pub returns-clause-moves : goal.returns-clause-moves
returns-clause-moves g c =
    let view = g.D.Disk.view in
    let batch = entries c.args.batch.now in
    let many = length batch in
    let view0 = view c.args.disk.now in
    let view1 = view c.stage.new.disk in
    let view2 = view c.set_gate.new.disk in
    let view3 = view c.bring_home.new.disk in
    let view4 = view c.set_gate-2.new.disk in
    let moves1 = moves_weaker IsJournal Anywhere 0 1 (many + 1) 0 1 (many + 1) view0 view1 (λ number is. tt) (omega arith) (omega arith)
    (omega arith) c.stage.ensures.moves in
    let moves2 = way (At 0) 0 1 (many + 1) 0 1 1 view0 view1 view2 moves1 c.set_gate.ensures.moves in
    let moves3 = way (IsHome (numbers batch)) (0 + 0) (1 + 1)
    ((many + 1) + 1) 0 1 many view0 view2 view3 moves2 c.bring_home.ensures.moves in
    let moves4 = way (At 0) ((0 + 0) + 0) ((1 + 1) + 1)
    (((many + 1) + 1) + many) 0 1 1 view0 view3 view4 moves3 c.set_gate-2.ensures.moves in
    moves_weaker Anywhere Anywhere (((0 + 0) + 0) + 0) (((1 + 1) + 1) + 1) ((((many + 1) + 1) + many) + 1) 0 4 (2 * many + 3) view0 view4
    (λ number is. is) (omega arith) (omega arith) (omega arith) moves4

pub returns-clause-moments : goal.returns-clause-moments
returns-clause-moments g c count below =
    let view = g.D.Disk.view in
    let batch = entries c.args.batch.now in
    let few = few_entries c.args.batch.now.len c.args.batch.now.pages.items c.args.batch.now.within in
    let many = length batch in
    let view0 = view c.args.disk.now in
    let view1 = view c.stage.new.disk in
    let view2 = view c.set_gate.new.disk in
    let view3 = view c.bring_home.new.disk in
    let view4 = view c.set_gate-2.new.disk in
    let after = λ (image : Image) (honest : Honest view0) (gives : Gives count image (put_all batch (home view0.image))).
    possible count batch view0 c.requires.closed image honest gives.readable (inr gives.stands) in
    let before = λ (image : Image) (honest : Honest view0) (gives : Gives count image (home view0.image)).
    possible count batch view0 c.requires.closed image honest gives.readable (inl gives.stands) in
    let at1 = stage_way count batch view0 c.requires.closed few
    (many + 1) view1 below c.stage.ensures.moves c.in_ok-stage.ensures.durable c.in_ok-stage.ensures.holds in
    let at2 = gate_way count batch few view0 (Moment count batch view0)
    (home view0.image) after before view1 view2 at1 c.set_gate.ensures.moves c.in_ok-set_gate.ensures.durable
    c.in_ok-set_gate.ensures.gate in
    let at3 = home_way count batch few view0 (Moment count batch view0)
    (home view0.image) after 0 many view2 view3 at2 c.bring_home.ensures.moves c.in_ok-bring_home.ensures.durable
    c.in_ok-bring_home.ensures.home in
    let at4 = close_way count batch few view0 (Moment count batch view0)
    (home view0.image) after view3 view4 at3 c.set_gate-2.ensures.moves c.in_ok-set_gate-2.ensures.durable
    c.in_ok-set_gate-2.ensures.gate in
    at4.time

pub returns-clause-done : goal.returns-clause-done
returns-clause-done g c honest =
    let view = g.D.Disk.view in
    let batch = entries c.args.batch.now in
    let few = few_entries c.args.batch.now.len c.args.batch.now.pages.items c.args.batch.now.within in
    let many = length batch in
    let view0 = view c.args.disk.now in
    let view1 = view c.stage.new.disk in
    let view2 = view c.set_gate.new.disk in
    let view3 = view c.bring_home.new.disk in
    let view4 = view c.set_gate-2.new.disk in
    let count = view0.size in
    let below = all_below_from count (numbers batch) (λ n is. omega (arith, c.requires.within n is)) in
    let after = λ (image : Image) (honest : Honest view0) (gives : Gives count image (put_all batch (home view0.image))).
    possible count batch view0 c.requires.closed image honest gives.readable (inr gives.stands) in
    let before = λ (image : Image) (honest : Honest view0) (gives : Gives count image (home view0.image)).
    possible count batch view0 c.requires.closed image honest gives.readable (inl gives.stands) in
    let at1 = stage_way count batch view0 c.requires.closed few
    (many + 1) view1 below c.stage.ensures.moves c.in_ok-stage.ensures.durable c.in_ok-stage.ensures.holds in
    let at2 = gate_way count batch few view0 (Moment count batch view0)
    (home view0.image) after before view1 view2 at1 c.set_gate.ensures.moves c.in_ok-set_gate.ensures.durable
    c.in_ok-set_gate.ensures.gate in
    let at3 = home_way count batch few view0 (Moment count batch view0)
    (home view0.image) after 0 many view2 view3 at2 c.bring_home.ensures.moves c.in_ok-bring_home.ensures.durable
    c.in_ok-bring_home.ensures.home in
    let at4 = close_way count batch few view0 (Moment count batch view0)
    (home view0.image) after view3 view4 at3 c.set_gate-2.ensures.moves c.in_ok-set_gate-2.ensures.durable
    c.in_ok-set_gate-2.ensures.gate in
    let moves1 = moves_weaker IsJournal Anywhere 0 1 (many + 1) 0 1 (many + 1) view0 view1 (λ number is. tt) (omega arith) (omega arith)
    (omega arith) c.stage.ensures.moves in
    let moves2 = way (At 0) 0 1 (many + 1) 0 1 1 view0 view1 view2 moves1 c.set_gate.ensures.moves in
    let moves3 = way (IsHome (numbers batch)) (0 + 0) (1 + 1)
    ((many + 1) + 1) 0 1 many view0 view2 view3 moves2 c.bring_home.ensures.moves in
    let moves4 = way (At 0) ((0 + 0) + 0) ((1 + 1) + 1)
    (((many + 1) + 1) + many) 0 1 1 view0 view3 view4 moves3 c.set_gate-2.ensures.moves in
    (at4.rests.is (moves4.honest honest)).lies
