-- Where no place holds a page, no page is held.
use Rattle.std.proofs.Common.{◌≡◌, ◌∙◌, ℕ, ◌<◌, List, Option, None, get_or, length, ap, rules, arith}
use Rattle.std.specs.Prelude.{replicate}
use Rattle.std.proofs.lemmas.List.{get_or-replicate}
use Rattle.page_space.specs.Copies.{place, copy_at, copies_at}
use Rattle.page_space.specs.declared.page_cache.Kept.{Kept}
use Rattle.page_space.specs.Places.{filled}
use Rattle.page_space.proofs.Caching.{place_below, empty_at}
use Rattle.page_space.proofs.Marking.{marked_none}
use Rattle.page_space.proofs.Placing.{filled_none, kept_none}
use Rattle.page_space.proofs.page_cache.PageCache.new.Goals as goal

none_held : (places : List (Option Kept)) (bytes : List ℕ) (n p : ℕ) → places ≡ replicate n None → place p < n
    → copies_at places bytes p ≡ None
none_held places bytes n p empty below =
    ap (λ l. copy_at (get_or l (place p) None) bytes p) empty
    ∙ ap (λ o. copy_at o bytes p) (get_or-replicate n (place p) None None below)

pub returns : goal.returns
returns c p = none_held c.in_ok-places.places.items c.in_ok-bytes.bytes.items 4096 p
    (c.in_ok-places.ensures.items_if_clones_equal (λ y same. search rules)) (place_below p)

pub invariant_of-result-clause-whole : goal.invariant_of-result-clause-whole
invariant_of-result-clause-whole c =
    let empty : c.in_ok-places.places.items ≡ replicate 4096 None = c.in_ok-places.ensures.items_if_clones_equal (λ y same. search rules) in
    omega (arith, ap length c.in_ok-bytes.ensures.items, ap filled empty, filled_none 4096)

pub invariant_of-result-clause-kept : goal.invariant_of-result-clause-kept
invariant_of-result-clause-kept c =
    let empty : c.in_ok-places.places.items ≡ replicate 4096 None = c.in_ok-places.ensures.items_if_clones_equal (λ y same. search rules) in
    kept_none c.in_ok-places.places.items (λ at. ap (λ l. get_or l at None) empty ∙ empty_at 4096 at)

pub invariant_of-result-clause-marked : goal.invariant_of-result-clause-marked
invariant_of-result-clause-marked c =
    let empty : c.in_ok-places.places.items ≡ replicate 4096 None = c.in_ok-places.ensures.items_if_clones_equal (λ y same. search rules) in
    marked_none c.in_ok-places.places.items c.in_ok-bytes.bytes.items (λ at. ap (λ l. get_or l at None) empty ∙ empty_at 4096 at)
