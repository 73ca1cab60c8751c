use Rattle.std.proofs.Common.{◌∙◌, ℕ, ◌+◌, ◌<◌, [], get_or, length, ap, sym, subst, arith, IsTrue}
use Rattle.block_disk.specs.View.{At}
use Rattle.gate_pages.specs.Batch.{Entry, numbers, is_one_of}
use Rattle.gate_pages.specs.Entries.{entries}
use Rattle.gate_pages.specs.Journal.{home}
use Rattle.gate_pages.specs.Steps.{IsHome}
use Rattle.gate_pages.proofs.Homes.{home_step, is_home}
use Rattle.gate_pages.proofs.Moving.{moves_then, moves_weaker}
use Rattle.gate_pages.proofs.Puts.{one_of_at}
use Rattle.gate_pages.proofs.journal.write_pages.Goals as goal

pub overflow_add-page : goal.overflow_add-page
overflow_add-page g c =
    let batch = entries c.args.batch.now in
    let i = c.loop-i.i in
    let below : i < length batch = omega (arith, c.loop-i-test.true, c.len-i-end.ensures.len) in
    let within = c.requires.within (get_or batch i (0, [])).0 (one_of_at batch i below) in
    omega (arith, ap (λ (e : Entry). e.0) c.page-page.ensures, within)

pub write_block-requires-clause-no_in_size : goal.write_block-requires-clause-no_in_size
write_block-requires-clause-no_in_size g c =
    let batch = entries c.args.batch.now in
    let i = c.loop-i.i in
    let below : i < length batch = omega (arith, c.loop-i-test.true, c.len-i-end.ensures.len) in
    let within = c.requires.within (get_or batch i (0, [])).0 (one_of_at batch i below) in
    omega (arith, ap (λ (e : Entry). e.0) c.page-page.ensures, within, c.loop-i.invariant.moves.size)

pub returns-in_err-write_block-clause-moves : goal.returns-in_err-write_block-clause-moves
returns-in_err-write_block-clause-moves g c =
    let view = g.D.Disk.view in
    let batch = entries c.args.batch.now in
    let i = c.loop-i.i in
    let n = c.page-page.result.now.number in
    let below : i < length batch = omega (arith, c.loop-i-test.true, c.len-i-end.ensures.len) in
    let P : ℕ → Type 0 = λ m. IsTrue (is_one_of (numbers batch) m) in
    let here = subst P (sym (ap (λ (e : Entry). e.0) c.page-page.ensures)) (one_of_at batch i below) in
    let one = moves_weaker (At (66 + n)) (IsHome (numbers batch)) 0 0 1 0 0 1 (view c.loop-i.disk) (view c.write_block.new.self)
    (λ number at. is_home (numbers batch) n number here at) (omega arith) (omega arith) (omega arith) c.write_block.ensures.moves in
    moves_weaker (IsHome (numbers batch)) (IsHome (numbers batch)) (0 + 0) (0 + 0) (i + 1) 0 0 (length batch) (view c.args.disk.now)
    (view c.write_block.new.self) (λ number is. is) (omega arith) (omega arith) (omega (arith, below))
    (moves_then (IsHome (numbers batch)) 0 0 i 0 0 1 (view c.args.disk.now) (view c.loop-i.disk)
    (view c.write_block.new.self) c.loop-i.invariant.moves one)

pub loop-i-preserved : goal.loop-i-preserved
loop-i-preserved g c =
    let view = g.D.Disk.view in
    let batch = entries c.args.batch.now in
    let i = c.loop-i.i in
    let n = c.page-page.result.now.number in
    let page = c.page-page.result.now.bytes.items in
    let below : i < length batch = omega (arith, c.loop-i-test.true, c.len-i-end.ensures.len) in
    let P : ℕ → Type 0 = λ m. IsTrue (is_one_of (numbers batch) m) in
    let here = subst P (sym (ap (λ (e : Entry). e.0) c.page-page.ensures)) (one_of_at batch i below) in
    let one = moves_weaker (At (66 + n)) (IsHome (numbers batch)) 0 0 1 0 0 1 (view c.loop-i.disk) (view c.write_block.new.self)
    (λ number at. is_home (numbers batch) n number here at) (omega arith) (omega arith) (omega arith) c.write_block.ensures.moves in
    record {
      moves = moves_then (IsHome (numbers batch)) 0 0 i 0 0 1 (view c.args.disk.now) (view c.loop-i.disk)
          (view c.write_block.new.self) c.loop-i.invariant.moves one;
      lies = λ honest.
          let mid = c.loop-i.invariant.moves.honest honest in
          home_step batch i n page (home (view c.args.disk.now).image) (view c.loop-i.disk).image
          (view c.write_block.new.self).image below c.args.batch.now.distinct (sym c.page-page.ensures)
          (c.loop-i.invariant.lies honest)
          (c.in_ok-write_block.ensures.written mid ∙ c.as_slice.ensures.value)
          (c.write_block.ensures.moves.off mid);
      same = c.in_ok-write_block.ensures.quiet ∙ c.loop-i.invariant.same;
    }
