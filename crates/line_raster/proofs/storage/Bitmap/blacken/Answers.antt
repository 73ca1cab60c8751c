use Rattle.std.proofs.Common.{◌≡◌, ◌≤◌, ◌+◌, ◌*◌, ◌-◌, length, replicate, true, ap, ◌∙◌, arith}
use Rattle.std.proofs.lemmas.List.{with_items_is}
use Rattle.line_raster.proofs.CellLemmas.{filled, part_within, part_filled, length-put_mid}
use Rattle.line_raster.proofs.storage.Bitmap.blacken.Goals as goal

pub returns : goal.returns
returns c =
    let start : c.from.result * c.from-2.result ≡ c.args.x * c.self.inside.height = λ t. c.from.ensures t * c.from-2.ensures t in
    let from = c.from.result * c.from-2.result + c.from-3.result in
    let count = c.from.result * c.from-2.result + c.from-4.result - from in
    let is_from : from ≡ c.args.x * c.self.inside.height + c.args.low = λ t. start t + c.from-3.ensures t in
    let is_count : count ≡ c.args.end - c.args.low = omega (arith, c.from-3.ensures, c.from-4.ensures) in
    let is_before = c.deref_mut.ensures.value in
    let same_h = ap (λ d. d.h) c.self.view_is in
    let same_w = ap (λ d. d.w) c.self.view_is in
    let within : from + count ≤ length c.deref_mut.result.now =
    omega (
      arith,
      ap length is_before,
      c.self.invariant.cells,
      part_within c.self.inside.width c.self.inside.height c.args.x c.args.low c.args.end from count
          (omega (arith, same_w, c.requires.column)) c.requires.order (omega (arith, same_h, c.requires.rows)) is_from is_count,
    ) in
    let is_written : c.fill.new.self ≡ replicate count true = part_filled from count c.deref_mut.result.now _ within
    (c.fill.ensures.after (λ y e. e)) in
    filled _ _ c.args.x c.args.low c.args.end from count c.self.inside.cells.items c.deref_mut.result.now c.fill.new.self _ c.args.self.now
    c.self.view_is c.self.invariant.cells
    is_before is_written
    (with_items_is c.self.inside.cells _ (length-put_mid from count c.deref_mut.result.now c.fill.new.self within is_written
    ∙ c.deref_mut.ensures.len))
    c.requires.column c.requires.order c.requires.rows is_from is_count
