use Rattle.std.proofs.Common.{◌≡◌, ◌∙◌, ◌+◌, ◌-◌, ◌*◌, take, drop, length, get_or, Some, None, sym, ap, arith}
use Rattle.std.proofs.lemmas.List.{get_or_default}
use Rattle.block_disk.specs.Blocks.{block_size}
use Rattle.block_disk.specs.MemDisk.{blocks_of}
use Rattle.page_space.specs.Copies.{place}
use Rattle.page_space.proofs.Caching.{copy_found}
use Rattle.page_space.proofs.page_cache.PageCache.get.Goals as goal

pub slice_bounds-result-end : goal.slice_bounds-result-end
slice_bounds-result-end c =
    let self = c.args.self.now in
    let number : get_or self.places.items c.place.result None ≡ Some c.in_ok-kept.kept =
    get_or_default self.places.items c.place.result None c.index.result.now (omega (arith, c.place.ensures.within, self.many))
    ∙ sym c.index.ensures ∙ c.in_ok-kept.was in
    omega (
      arith,
      self.kept.within c.place.result c.in_ok-kept.kept number,
      self.whole,
      ap length c.as_slice-bytes.ensures.value,
      c.from-start.ensures,
    )

pub returns-clause-copy : goal.returns-clause-copy
returns-clause-copy c =
    let self = c.args.self.now in
    let p = c.args.p in
    let start = block_size * c.from-start.result in
    let sum : start + block_size - start ≡ block_size = omega arith in
    let number : get_or self.places.items c.place.result None ≡ Some c.in_ok-kept.kept =
    get_or_default self.places.items c.place.result None c.index.result.now (omega (arith, c.place.ensures.within, self.many))
    ∙ sym c.index.ensures ∙ c.in_ok-kept.was in
    ap (λ n. Some (take n (drop start c.as_slice-bytes.result.now))) sum
    ∙ ap (λ l. Some (take block_size (drop start l))) c.as_slice-bytes.ensures.value
    ∙ ap (λ k. Some (blocks_of self.bytes.items k)) c.from-start.ensures
    ∙ copy_found (get_or self.places.items (place p) None) self.bytes.items c.in_ok-kept.kept p
    (ap (λ k. get_or self.places.items k None) (sym c.place.ensures.place) ∙ number) c.if-kept-p.false
