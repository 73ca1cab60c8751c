use Rattle.std.proofs.Common.{◌≡◌, ◌∙◌, ℕ, ◌+◌, ◌<◌, List, get_or, length, ap, sym, subst, arith, IsTrue}
use Rattle.std.proofs.lemmas.List.{take_all}
use Rattle.block_disk.specs.View.{Nowhere, At}
use Rattle.gate_pages.specs.Batch.{Entry, is_distinct, put_all}
use Rattle.gate_pages.specs.Journal.{home, images}
use Rattle.gate_pages.specs.Steps.{IsHome}
use Rattle.gate_pages.proofs.Directories.{image_at}
use Rattle.gate_pages.proofs.Homes.{home_step, home_read, is_home, one_of_numbers}
use Rattle.gate_pages.proofs.Moving.{moves_then, moves_weaker, moves_among, moves_on}
use Rattle.gate_pages.proofs.States.{numbers_images, length_images}
use Rattle.gate_pages.proofs.recovery.copy_images.Goals as goal

pub overflow_add-number : goal.overflow_add-number
overflow_add-number g c =
    let i = c.loop-i.i in
    let within = c.requires.within (get_or c.args.numbers.now i 0) (one_of_numbers c.args.numbers.now i c.loop-i-test.true) in
    omega (arith, within)

pub write_block-requires-clause-no_in_size : goal.write_block-requires-clause-no_in_size
write_block-requires-clause-no_in_size g c =
    let i = c.loop-i.i in
    let within = c.requires.within (get_or c.args.numbers.now i 0) (one_of_numbers c.args.numbers.now i c.loop-i-test.true) in
    omega (arith, within, c.loop-i.invariant.moves.size, c.read_block.ensures.moves.size)

pub returns-in_err-write_block-clause-moves : goal.returns-in_err-write_block-clause-moves
returns-in_err-write_block-clause-moves g c =
    let view = g.D.Disk.view in
    let ns = c.args.numbers.now in
    let i = c.loop-i.i in
    let n = get_or ns i 0 in
    let touched = IsHome ns in
    let start = view c.args.disk.now in
    let old = view c.loop-i.disk in
    let mid = view c.read_block.new.self in
    let new = view c.write_block.new.self in
    let read = moves_weaker Nowhere touched 1 0 0 1 0 0 old mid (λ number nothing. absurd nothing) (omega arith) (omega arith)
    (omega arith) c.read_block.ensures.moves in
    let written = moves_weaker (At (66 + n)) touched 0 0 1 0 0 1 mid new
    (λ number at. is_home ns n number (one_of_numbers ns i c.loop-i-test.true) at) (omega arith) (omega arith)
    (omega arith) c.write_block.ensures.moves in
    moves_weaker touched touched (i + 1 + 0) (0 + 0 + 0) (i + 0 + 1) (length ns) 0 (length ns) start new (λ number is. is)
    (omega (arith, c.loop-i-test.true)) (omega arith) (omega (arith, c.loop-i-test.true))
    (moves_then touched (i + 1) (0 + 0) (i + 0) 0 0 1 start mid new
    (moves_then touched i 0 i 1 0 0 start old mid c.loop-i.invariant.moves read) written)

pub loop-i-preserved : goal.loop-i-preserved
loop-i-preserved g c =
    let view = g.D.Disk.view in
    let ns = c.args.numbers.now in
    let i = c.loop-i.i in
    let n = get_or ns i 0 in
    let touched = IsHome ns in
    let start = view c.args.disk.now in
    let old = view c.loop-i.disk in
    let mid = view c.read_block.new.self in
    let new = view c.write_block.new.self in
    let batch = images ns 2 start.image in
    let below : i < length ns = c.loop-i-test.true in
    let in_batch : i < length batch = omega (arith, below, length_images ns 2 start.image) in
    let P : List ℕ → Type 0 = λ l. IsTrue (is_distinct l) in
    let distinct = subst P (sym (numbers_images ns 2 start.image)) c.requires.distinct in
    let read = moves_weaker Nowhere touched 1 0 0 1 0 0 old mid (λ number nothing. absurd nothing) (omega arith) (omega arith)
    (omega arith) c.read_block.ensures.moves in
    let written = moves_weaker (At (66 + n)) touched 0 0 1 0 0 1 mid new (λ number at. is_home ns n number (one_of_numbers ns i below) at)
    (omega arith) (omega arith) (omega arith) c.write_block.ensures.moves in
    record {
      moves = moves_weaker touched touched (i + 1 + 0) (0 + 0 + 0) (i + 0 + 1) (i + 1) 0 (i + 1) start new (λ number is. is) (omega arith)
          (omega arith) (omega arith)
          (moves_then touched (i + 1) (0 + 0) (i + 0) 0 0 1 start mid new
          (moves_then touched i 0 i 1 0 0 start old mid c.loop-i.invariant.moves read) written);
      lies = λ honest.
          let old_honest = c.loop-i.invariant.moves.honest honest in
          let mid_honest = c.read_block.ensures.moves.honest old_honest in
          let image = start.image (2 + i) in
          let kept : mid.image (2 + i) ≡ image =
          c.read_block.ensures.moves.off old_honest (2 + i) (λ nothing. nothing)
          ∙ c.loop-i.invariant.moves.off honest (2 + i) (λ is. absurd (omega (arith, is.0, below, c.requires.few))) in
          let page : new.image (66 + n) ≡ image =
          c.in_ok-write_block.ensures.written mid_honest
          ∙ c.in_ok-read_block.ensures.bytes old_honest
          ∙ c.loop-i.invariant.moves.off honest (2 + i) (λ is. absurd (omega (arith, is.0, below, c.requires.few))) in
          home_step batch i n image (home start.image) mid.image new.image in_batch distinct (image_at ns 2 start.image i below)
          (home_read old.image mid.image (c.read_block.ensures.moves.off old_honest) ∙ c.loop-i.invariant.lies honest)
          page
          (c.write_block.ensures.moves.off mid_honest);
      whole = c.read_block.auto.out ∙ c.loop-i.invariant.whole;
      same = c.in_ok-write_block.ensures.quiet ∙ c.in_ok-read_block.ensures.quiet ∙ c.loop-i.invariant.same;
    }

pub returns-clause-home : goal.returns-clause-home
returns-clause-home g c honest =
    let ns = c.args.numbers.now in
    let start = g.D.Disk.view c.args.disk.now in
    c.loop-i.invariant.lies honest
    ∙ ap (λ (l : List Entry). put_all l (home start.image))
    (take_all c.loop-i.i (images ns 2 start.image) (omega (arith, c.loop-i-test.false, length_images ns 2 start.image)))

pub returns-in_err-read_block-clause-moves : goal.returns-in_err-read_block-clause-moves
returns-in_err-read_block-clause-moves g c = moves_on (λ number is. is) (λ number nothing. absurd nothing)
    (omega (arith, c.loop-i-test.true)) (omega arith)
    (omega (arith, c.loop-i-test.true)) c.loop-i.invariant.moves c.read_block.ensures.moves

pub returns-clause-moves : goal.returns-clause-moves
returns-clause-moves g c = moves_among (λ number is. is) (omega (arith, c.loop-i.auto.i-end)) (omega arith)
    (omega (arith, c.loop-i.auto.i-end)) c.loop-i.invariant.moves
