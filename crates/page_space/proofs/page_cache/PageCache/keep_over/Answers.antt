use Rattle.std.proofs.Common.{◌∙◌, ◌++◌, Some, None, length, take, drop, set, get_or, refl, sym, ap, arith}
use Rattle.std.proofs.lemmas.List.{length-set}
use Rattle.block_disk.proofs.Blocks.{all_of}
use Rattle.block_disk.specs.MemDisk.{blocks_of, put}
use Rattle.page_space.specs.Copies.{copies_at}
use Rattle.page_space.specs.declared.page_cache.Kept.{Kept}
use Rattle.page_space.proofs.Caching.{place_below, put_over}
use Rattle.page_space.proofs.Marking.{marked_over}
use Rattle.page_space.proofs.Placing.{filled_same, kept_over, kept_there}
use Rattle.page_space.proofs.page_cache.PageCache.keep_over.Goals as goal

pub invariant_of-self-clause-many : goal.invariant_of-self-clause-many
invariant_of-self-clause-many c = length-set c.args.self.now.places.items c.args.at
    (Some (record { page = c.args.p; copy = c.args.copy; level = 0 })) ∙ c.args.self.now.many

pub invariant_of-self-clause-whole : goal.invariant_of-self-clause-whole
invariant_of-self-clause-whole c =
    let self = c.args.self.now in
    let bytes = self.bytes in
    let kept : Kept = record { page = c.args.p; copy = c.args.copy; level = 0 } in
    let all = all_of c.put_block.new.bytes bytes.items bytes.len (c.put_block.ensures.len
    ∙ ap length c.as_mut_slice.ensures.value) bytes.ok.0 in
    let old = kept_there (get_or self.places.items c.args.at None) c.requires.some in
    omega (
      arith,
      ap length all,
      c.put_block.ensures.len,
      ap length c.as_mut_slice.ensures.value,
      self.whole,
      filled_same self.places.items c.args.at old.0 kept (omega (arith, c.requires.place, place_below c.args.p, self.many)) old.1,
    )

pub invariant_of-self-clause-kept : goal.invariant_of-self-clause-kept
invariant_of-self-clause-kept c =
    let self = c.args.self.now in
    let old = kept_there (get_or self.places.items c.args.at None) c.requires.some in
    kept_over self.places.items c.args.at old.0 (record { page = c.args.p; copy = c.args.copy; level = 0 })
    (omega (arith, c.requires.place, place_below c.args.p, self.many)) old.1 (sym (c.requires.kept old.0 old.1)) self.kept

pub returns : goal.returns
returns c q =
    let self = c.args.self.now in
    let bytes = self.bytes in
    let new = c.put_block.new.bytes in
    let p = c.args.p in
    let page = c.args.bytes.now in
    let kept : Kept = record { page = p; copy = c.args.copy; level = 0 } in
    let old = kept_there (get_or self.places.items c.args.at None) c.requires.some in
    let same = c.requires.kept old.0 old.1 in
    let all = all_of new bytes.items bytes.len (c.put_block.ensures.len ∙ ap length c.as_mut_slice.ensures.value) bytes.ok.0 in
    let block =
    ap (λ l. blocks_of l) all
    ∙ c.put_block.ensures.put
    ∙ ap (λ l. put c.from.result page (blocks_of l)) c.as_mut_slice.ensures.value
    ∙ ap (λ k. put k page (blocks_of bytes.items)) (c.from.ensures ∙ sym same) in
    let bytes' = take bytes.len (new ++ drop (length new) bytes.items) in
    ap (λ k. copies_at (set self.places.items k (Some kept)) bytes' q) c.requires.place
    ∙ put_over self.places.items bytes.items bytes' page p old.0 kept self.many self.kept
    (ap (λ k. get_or self.places.items k None) (sym c.requires.place) ∙ old.1) refl (sym same) block q

pub invariant_of-self-clause-marked : goal.invariant_of-self-clause-marked
invariant_of-self-clause-marked c =
    let self = c.args.self.now in
    let bytes = self.bytes in
    let new = c.put_block.new.bytes in
    let page = c.args.bytes.now in
    let kept : Kept = record { page = c.args.p; copy = c.args.copy; level = 0 } in
    let old = kept_there (get_or self.places.items c.args.at None) c.requires.some in
    let same = c.requires.kept old.0 old.1 in
    let all = all_of new bytes.items bytes.len (c.put_block.ensures.len ∙ ap length c.as_mut_slice.ensures.value) bytes.ok.0 in
    let block =
    ap (λ l. blocks_of l) all
    ∙ c.put_block.ensures.put
    ∙ ap (λ l. put c.from.result page (blocks_of l)) c.as_mut_slice.ensures.value
    ∙ ap (λ k. put k page (blocks_of bytes.items)) (c.from.ensures ∙ sym same) in
    marked_over self.places.items bytes.items (take bytes.len (new ++ drop (length new) bytes.items)) page c.args.at old.0 kept
    (omega (arith, c.requires.place, place_below c.args.p, self.many)) self.kept old.1 refl block self.marked
