use Rattle.std.proofs.Common.{◌≡◌, ◌∙◌, get_or, Some, None, refl, sym, ap, arith}
use Rattle.std.proofs.lemmas.List.{get_or_default, length-set}
use Rattle.block_disk.specs.MemDisk.{blocks_of}
use Rattle.page_space.specs.Copies.{place}
use Rattle.page_space.specs.declared.page_cache.Kept.{Kept}
use Rattle.page_space.proofs.Caching.{copy_found}
use Rattle.page_space.proofs.Marking.{marked_more, copies_stay}
use Rattle.page_space.proofs.Placing.{filled_same, kept_over}
use Rattle.page_space.proofs.page_cache.PageCache.note.Goals as goal

pub invariant_of-self-clause-many : goal.invariant_of-self-clause-many
invariant_of-self-clause-many c =
    let kept = c.in-Some.kept in
    length-set c.args.self.now.places.items c.place-at.result (Some (record { page = kept.page; copy = kept.copy; level = c.args.level }))
    ∙ c.args.self.now.many

pub invariant_of-self-clause-whole : goal.invariant_of-self-clause-whole
invariant_of-self-clause-whole c =
    let self = c.args.self.now in
    let old = c.in-Some.kept in
    let kept : Kept = record { page = old.page; copy = old.copy; level = c.args.level } in
    let number : get_or self.places.items c.place-at.result None ≡ Some old =
    get_or_default self.places.items c.place-at.result None c.index.result.now (omega (arith, c.place-at.ensures.within, self.many))
    ∙ sym c.index.ensures ∙ c.in-Some.is in
    omega (
      arith,
      self.whole,
      filled_same self.places.items c.place-at.result old kept
          (omega (arith, c.place-at.ensures.within, self.many)) number,
    )

pub invariant_of-self-clause-kept : goal.invariant_of-self-clause-kept
invariant_of-self-clause-kept c =
    let self = c.args.self.now in
    let old = c.in-Some.kept in
    let kept : Kept = record { page = old.page; copy = old.copy; level = c.args.level } in
    let number : get_or self.places.items c.place-at.result None ≡ Some old =
    get_or_default self.places.items c.place-at.result None c.index.result.now (omega (arith, c.place-at.ensures.within, self.many))
    ∙ sym c.index.ensures ∙ c.in-Some.is in
    kept_over self.places.items c.place-at.result old kept (omega (arith, c.place-at.ensures.within, self.many)) number refl self.kept

pub invariant_of-self-clause-marked : goal.invariant_of-self-clause-marked
invariant_of-self-clause-marked c =
    let self = c.args.self.now in
    let p = c.args.p in
    let old = c.in-Some.kept in
    let kept : Kept = record { page = old.page; copy = old.copy; level = c.args.level } in
    let number : get_or self.places.items c.place-at.result None ≡ Some old =
    get_or_default self.places.items c.place-at.result None c.index.result.now (omega (arith, c.place-at.ensures.within, self.many))
    ∙ sym c.index.ensures ∙ c.in-Some.is in
    let here : get_or self.places.items (place p) None ≡ Some old = ap (λ k. get_or self.places.items k None) (sym c.place-at.ensures.place)
    ∙ number in
    marked_more self.places.items self.bytes.items c.place-at.result kept (omega (arith, c.place-at.ensures.within, self.many))
    (λ some. c.requires (blocks_of self.bytes.items old.copy)
    (sym (copy_found (get_or self.places.items (place p) None) self.bytes.items old p here c.if-kept-p.false)))
    self.marked

pub returns : goal.returns
returns c = λ q.
    let self = c.args.self.now in
    let old = c.in-Some.kept in
    let kept : Kept = record { page = old.page; copy = old.copy; level = c.args.level } in
    let number : get_or self.places.items c.place-at.result None ≡ Some old =
    get_or_default self.places.items c.place-at.result None c.index.result.now (omega (arith, c.place-at.ensures.within, self.many))
    ∙ sym c.index.ensures ∙ c.in-Some.is in
    copies_stay self.places.items self.bytes.items c.place-at.result old kept
    (omega (arith, c.place-at.ensures.within, self.many)) number refl refl q
