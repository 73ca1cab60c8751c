use Rattle.std.proofs.Common.{◌∙◌, ◌+◌, ◌≤◌, length, sym, arith}
use Rattle.block_disk.specs.View.{At}
use Rattle.gate_pages.specs.Batch.{numbers}
use Rattle.gate_pages.specs.GatePages.{StandsAsBefore}
use Rattle.gate_pages.specs.Journal.{home, images}
use Rattle.gate_pages.specs.Steps.{Anywhere, IsHome}
use Rattle.gate_pages.proofs.Moving.{moves_weaker}
use Rattle.gate_pages.proofs.Redoing.{way, home_time, home_way, close_time, close_way}
use Rattle.gate_pages.proofs.Replaying.{told, after, begun, same_homes}
use Rattle.gate_pages.proofs.States.{length_images}
use Rattle.gate_pages.proofs.recovery.replay.Goals as goal

pub returns-in_err-copy_home-clause-moments : goal.returns-in_err-copy_home-clause-moments
returns-in_err-copy_home-clause-moments g c count listed =
    let view = g.D.Disk.view in
    let ns = c.args.numbers.now in
    let many = length ns in
    let view0 = view c.args.disk.now in
    let batch = images ns 2 view0.image in
    let few : length batch ≤ 64 = omega (arith, length_images ns 2 view0.image, c.requires.few) in
    let view1 = view c.copy_home.new.disk in
    let copied = same_homes ns view0.image many 1 many view0 view1 c.copy_home.ensures.moves in
    let from = after count ns view0 c.requires.opened listed few in
    let at0 = begun count ns view0 c.requires.opened listed few c.requires.only in
    home_time count batch few view0 (StandsAsBefore count view0) (home view0.image) from many 1 many view0 view1 at0 copied

pub returns-in_err-set_gate-clause-moments : goal.returns-in_err-set_gate-clause-moments
returns-in_err-set_gate-clause-moments g c count listed =
    let view = g.D.Disk.view in
    let ns = c.args.numbers.now in
    let many = length ns in
    let view0 = view c.args.disk.now in
    let batch = images ns 2 view0.image in
    let few : length batch ≤ 64 = omega (arith, length_images ns 2 view0.image, c.requires.few) in
    let view1 = view c.copy_home.new.disk in
    let copied = same_homes ns view0.image many 1 many view0 view1 c.copy_home.ensures.moves in
    let view2 = view c.set_gate.new.disk in
    let from = after count ns view0 c.requires.opened listed few in
    let at0 = begun count ns view0 c.requires.opened listed few c.requires.only in
    let at1 = home_way count batch few view0 (StandsAsBefore count view0)
    (home view0.image) from many many view0 view1 at0 copied c.in_ok-copy_home.ensures.durable c.in_ok-copy_home.ensures.home in
    close_time count batch few view0 (StandsAsBefore count view0) (home view0.image) from 0 1 1 view1 view2 at1 c.set_gate.ensures.moves

pub returns-clause-moments : goal.returns-clause-moments
returns-clause-moments g c count listed =
    let view = g.D.Disk.view in
    let ns = c.args.numbers.now in
    let many = length ns in
    let view0 = view c.args.disk.now in
    let batch = images ns 2 view0.image in
    let few : length batch ≤ 64 = omega (arith, length_images ns 2 view0.image, c.requires.few) in
    let view1 = view c.copy_home.new.disk in
    let copied = same_homes ns view0.image many 1 many view0 view1 c.copy_home.ensures.moves in
    let view2 = view c.set_gate.new.disk in
    let from = after count ns view0 c.requires.opened listed few in
    let at0 = begun count ns view0 c.requires.opened listed few c.requires.only in
    let at1 = home_way count batch few view0 (StandsAsBefore count view0)
    (home view0.image) from many many view0 view1 at0 copied c.in_ok-copy_home.ensures.durable c.in_ok-copy_home.ensures.home in
    let at2 = close_way count batch few view0 (StandsAsBefore count view0)
    (home view0.image) from view1 view2 at1 c.set_gate.ensures.moves c.in_ok-set_gate.ensures.durable c.in_ok-set_gate.ensures.gate in
    at2.time

pub returns-clause-done : goal.returns-clause-done
returns-clause-done g c count honest listed =
    let view = g.D.Disk.view in
    let ns = c.args.numbers.now in
    let many = length ns in
    let view0 = view c.args.disk.now in
    let batch = images ns 2 view0.image in
    let few : length batch ≤ 64 = omega (arith, length_images ns 2 view0.image, c.requires.few) in
    let view1 = view c.copy_home.new.disk in
    let copied = same_homes ns view0.image many 1 many view0 view1 c.copy_home.ensures.moves in
    let view2 = view c.set_gate.new.disk in
    let from = after count ns view0 c.requires.opened (λ any. listed) few in
    let at0 = begun count ns view0 c.requires.opened (λ any. listed) few c.requires.only in
    let at1 = home_way count batch few view0 (StandsAsBefore count view0)
    (home view0.image) from many many view0 view1 at0 copied c.in_ok-copy_home.ensures.durable c.in_ok-copy_home.ensures.home in
    let at2 = close_way count batch few view0 (StandsAsBefore count view0)
    (home view0.image) from view1 view2 at1 c.set_gate.ensures.moves c.in_ok-set_gate.ensures.durable c.in_ok-set_gate.ensures.gate in
    let moves1 = moves_weaker (IsHome (numbers batch)) Anywhere many 1 many many 1 many view0 view1 (λ number is. tt) (omega arith)
    (omega arith) (omega arith) copied in
    let moves2 = way (At 0) many 1 many 0 1 1 view0 view1 view2 moves1 c.set_gate.ensures.moves in
    (at2.rests.is (moves2.honest honest)).lies ∙ sym (told count ns view0 c.requires.opened (λ any. listed) few honest).stands

pub returns-clause-moves : goal.returns-clause-moves
returns-clause-moves g c =
    let view = g.D.Disk.view in
    let ns = c.args.numbers.now in
    let many = length ns in
    let view0 = view c.args.disk.now in
    let batch = images ns 2 view0.image in
    let view1 = view c.copy_home.new.disk in
    let copied = same_homes ns view0.image many 1 many view0 view1 c.copy_home.ensures.moves in
    let view2 = view c.set_gate.new.disk in
    let moves1 = moves_weaker (IsHome (numbers batch)) Anywhere many 1 many many 1 many view0 view1 (λ number is. tt) (omega arith)
    (omega arith) (omega arith) copied in
    let moves2 = way (At 0) many 1 many 0 1 1 view0 view1 view2 moves1 c.set_gate.ensures.moves in
    moves_weaker Anywhere Anywhere (many + 0) (1 + 1) (many + 1) many 2 (many + 1) view0 view2 (λ number is. is) (omega arith) (omega arith)
    (omega arith) moves2
