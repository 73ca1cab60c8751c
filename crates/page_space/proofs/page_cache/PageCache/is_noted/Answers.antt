use Rattle.std.proofs.Common.{◌≡◌, ◌∙◌, get_or, Some, None, sym, ap, arith}
use Rattle.std.proofs.lemmas.Bool.{eqb-true}
use Rattle.std.proofs.lemmas.List.{get_or_default}
use Rattle.page_space.specs.Copies.{place}
use Rattle.page_space.proofs.Caching.{copy_found}
use Rattle.page_space.proofs.Marking.{noted}
use Rattle.page_space.proofs.page_cache.PageCache.is_noted.Goals as goal

pub returns-then-kept-p : goal.returns-then-kept-p
returns-then-kept-p c = λ same copy held.
    let self = c.args.self.now in
    let p = c.args.p in
    let number : get_or self.places.items c.place.result None ≡ Some c.in-Some.kept =
    get_or_default self.places.items c.place.result None c.index.result.now (omega (arith, c.place.ensures.within, self.many))
    ∙ sym c.index.ensures ∙ c.in-Some.is in
    let here : get_or self.places.items (place p) None ≡ Some c.in-Some.kept = ap (λ k. get_or self.places.items k None)
    (sym c.place.ensures.place) ∙ number in
    noted (get_or self.places.items (place p) None) self.bytes.items c.in-Some.kept p c.args.level copy
    (self.marked (place p) c.in-Some.kept here)
    (copy_found (get_or self.places.items (place p) None) self.bytes.items c.in-Some.kept p here c.if-kept-p.true)
    held (eqb-true c.in-Some.kept.level c.args.level same) (λ none. omega (arith, none, c.requires))
