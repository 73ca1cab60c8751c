use Rattle.std.proofs.Common.{◌≡◌, ◌∙◌, ◌++◌, ◌/◌, ℕ, List, Some, length, set, refl, sym, ap, subst, arith}
use Rattle.std.proofs.lemmas.List.{length-set, length-append}
use Rattle.page_space.specs.Copies.{copies_at}
use Rattle.page_space.specs.Marks.{AreMarked}
use Rattle.page_space.specs.Places.{filled}
use Rattle.page_space.specs.declared.page_cache.Kept.{Kept}
use Rattle.page_space.proofs.Caching.{place_below, put_first}
use Rattle.page_space.proofs.Marking.{marked_first}
use Rattle.page_space.proofs.Placing.{filled_less, filled_more, kept_first}
use Rattle.page_space.proofs.page_cache.PageCache.keep_first.Goals as goal

pub overflow_cast-copy : goal.overflow_cast-copy
overflow_cast-copy c =
    let self = c.args.self.now in
    let less = filled_less self.places.items c.args.at (omega (arith, c.requires.place, place_below c.args.p, self.many)) c.requires.none in
    omega (arith, less, self.many, self.whole, c.len.ensures, self.bytes.ok.0)

pub unreachable-requires : goal.unreachable-requires
unreachable-requires c =
    let self = c.args.self.now in
    let less = filled_less self.places.items c.args.at (omega (arith, c.requires.place, place_below c.args.p, self.many)) c.requires.none in
    omega (arith, less, self.many, self.whole, self.room, self.bytes.ok.0, c.requires.whole, c.in_default.ensures.full)

pub invariant_of-self-clause-many : goal.invariant_of-self-clause-many
invariant_of-self-clause-many c = length-set c.args.self.now.places.items c.args.at
    (Some (record { page = c.args.p; copy = c.len.result / 4096; level = 0 })) ∙ c.args.self.now.many

pub invariant_of-self-clause-whole : goal.invariant_of-self-clause-whole
invariant_of-self-clause-whole c =
    let self = c.args.self.now in
    let more = filled_more self.places.items c.args.at (record { page = c.args.p; copy = c.len.result / 4096; level = 0 })
    (omega (arith, c.requires.place, place_below c.args.p, self.many)) c.requires.none in
    omega (arith, more, self.whole, c.requires.whole, ap length c.in-Ok.ensures.items, length-append self.bytes.items c.args.bytes.now)

pub invariant_of-self-clause-kept : goal.invariant_of-self-clause-kept
invariant_of-self-clause-kept c =
    let self = c.args.self.now in
    let last : c.len.result / 4096 ≡ filled self.places.items = omega (arith, self.whole, c.len.ensures, self.bytes.ok.0) in
    kept_first self.places.items c.args.at (record { page = c.args.p; copy = c.len.result / 4096; level = 0 })
    (omega (arith, c.requires.place, place_below c.args.p, self.many)) c.requires.none last self.kept

pub returns : goal.returns
returns c q =
    let self = c.args.self.now in
    let p = c.args.p in
    let page = c.args.bytes.now in
    let kept : Kept = record { page = p; copy = c.len.result / 4096; level = 0 } in
    let last : c.len.result / 4096 ≡ filled self.places.items = omega (arith, self.whole, c.len.ensures, self.bytes.ok.0) in
    ap (λ l. copies_at (set self.places.items c.args.at (Some kept)) l q) c.in-Ok.ensures.items
    ∙ ap (λ k. copies_at (set self.places.items k (Some kept)) (self.bytes.items ++ page) q) c.requires.place
    ∙ put_first self.places.items self.bytes.items page p kept self.many self.kept self.whole c.requires.whole refl last q

pub invariant_of-self-clause-marked : goal.invariant_of-self-clause-marked
invariant_of-self-clause-marked c =
    let self = c.args.self.now in
    let kept : Kept = record { page = c.args.p; copy = c.len.result / 4096; level = 0 } in
    let P : List ℕ → Type 0 = λ l. AreMarked (set self.places.items c.args.at (Some kept)) l in
    subst P (sym c.in-Ok.ensures.items)
    (marked_first self.places.items self.bytes.items c.args.bytes.now c.args.at kept
    (omega (arith, c.requires.place, place_below c.args.p, self.many)) self.kept self.whole refl self.marked)
