use Rattle.std.proofs.Common.{suc, ◌≡◌, ◌-◌, ◌∙◌, length, ap, sym, SFits, w64, arith, set}
use Rattle.std.proofs.lemmas.Int.{to_z-of_z}
use Rattle.m4_groups.proofs.Ends.{put_last-own}
use Rattle.m4_groups.proofs.groups.extend_last.Goals as goal

pub returns : goal.returns
returns c column last =
    let fits : SFits w64 c.args.v = c.ranges.v in
    let count : length c.args.rows.now.items ≡ suc (c.len-last.result - 1) = omega (arith) in
    ap (set c.args.rows.now.items (c.len-last.result - 1)) (simp to_z-of_z at c.extend.ensures)
    ∙ sym (put_last-own c.args.rows.now.items (c.len-last.result - 1) column c.args.v c.index_mut.result.now count c.index_mut.ensures.value
    last)
