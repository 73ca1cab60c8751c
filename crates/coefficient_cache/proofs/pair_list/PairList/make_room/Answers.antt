use Rattle.std.proofs.Common.{◌-◌, ◌∙◌, length, take, ap, sym, arith}
use Rattle.std.proofs.lemmas.List.{length-take, take_all}
use Rattle.coefficient_cache.proofs.pair_list.PairList.make_room.Goals as goal

pub returns-then-len-capacity-clause-pairs : goal.returns-then-len-capacity-clause-pairs
returns-then-len-capacity-clause-pairs c =
    sym (take_all (c.args.self.now.capacity - 1) c.args.self.now.pairs
    (omega (arith, c.if-len-capacity.true, c.len.ensures.len, c.capacity.ensures.value)))

pub returns-clause-pairs : goal.returns-clause-pairs
returns-clause-pairs c =
    c.drop_last.ensures.pairs
    ∙ ap (λ n. take (n - 1) c.args.self.now.pairs) (omega (
      arith,
      c.if-len-capacity.false,
      c.len.ensures.len,
      c.len.ensures.valid.within,
      c.capacity.ensures.value,
    ))

pub returns-clause-room : goal.returns-clause-room
returns-clause-room c =
    omega (
      arith,
      ap length c.drop_last.ensures.pairs,
      length-take (length c.args.self.now.pairs - 1) c.args.self.now.pairs,
      c.drop_last.ensures.capacity,
      c.len.ensures.limit.0,
      c.len.ensures.valid.within,
      c.len.ensures.len,
    )
