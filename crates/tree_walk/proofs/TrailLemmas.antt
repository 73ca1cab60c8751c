-- The pages of a trail.
use Rattle.std.proofs.Common.{◌≡◌, ℕ, ◌<◌, List, [], set, get_or, length, sym, ap, ◌∙◌, arith}
use Rattle.std.proofs.lemmas.List.{get_or-map, length-set, get_or-set_same, get_or-set_other}
use Rattle.block_disk.specs.View.{View}
use Rattle.tree_walk.specs.declared.tree.Tree.{Tree}
use Rattle.tree_walk.specs.declared.trail.Trail.{Trail}
use Rattle.tree_walk.specs.declared.held_page.HeldPage.{HeldPage}
use Rattle.tree_walk.specs.Trails.{number_at, bytes_at, IsTrailOfAny}
use Rattle.tree_walk.specs.PagedNodes.{IsTrail}

-- a page of a trail, as the code has it
pub number_is : (pages : List HeldPage) (at : ℕ) (page : HeldPage) → at < length pages → page ≡ get_or pages at page
    → number_at pages at ≡ page.number
unfolding number_at
number_is pages at page within is =
    get_or-map (λ (page : HeldPage). page.number) pages at page 0 within ∙ ap (λ (page : HeldPage). page.number) (sym is)

pub bytes_are : (pages : List HeldPage) (at : ℕ) (page : HeldPage) → at < length pages → page ≡ get_or pages at page
    → bytes_at pages at ≡ page.bytes.items
unfolding bytes_at
bytes_are pages at page within is =
    get_or-map (λ (page : HeldPage). page.bytes.items) pages at page [] within ∙ ap (λ (page : HeldPage). page.bytes.items) (sym is)

-- a page in the place of another
pub number_set : (pages : List HeldPage) (at : ℕ) (page : HeldPage) → at < length pages → number_at (set pages at page) at ≡ page.number
number_set pages at page within =
    number_is (set pages at page) at page (omega (arith, length-set pages at page, within))
    (sym (get_or-set_same pages at page page within))

pub bytes_set : (pages : List HeldPage) (at : ℕ) (page : HeldPage) → at < length pages → bytes_at (set pages at page) at ≡ page.bytes.items
bytes_set pages at page within =
    bytes_are (set pages at page) at page (omega (arith, length-set pages at page, within))
    (sym (get_or-set_same pages at page page within))

pub number_other : (pages : List HeldPage) (at other : ℕ) (page : HeldPage) → at < length pages → other < at
    → number_at (set pages at page) other ≡ number_at pages other
unfolding number_at
number_other pages at other page within less =
    get_or-map (λ (page : HeldPage). page.number) (set pages at page) other page 0 (omega (arith, length-set pages at page, within, less))
    ∙ ap (λ (page : HeldPage). page.number) (get_or-set_other pages at other page page (λ same. absurd (omega (arith, same, less))))
    ∙ sym (get_or-map (λ (page : HeldPage). page.number) pages other page 0 (omega (arith, within, less)))

pub bytes_other : (pages : List HeldPage) (at other : ℕ) (page : HeldPage) → at < length pages → other < at
    → bytes_at (set pages at page) other ≡ bytes_at pages other
unfolding bytes_at
bytes_other pages at other page within less =
    get_or-map (λ (page : HeldPage). page.bytes.items) (set pages at page) other page []
    (omega (arith, length-set pages at page, within, less))
    ∙ ap (λ (page : HeldPage). page.bytes.items) (get_or-set_other pages at other page page (λ same. absurd (omega (arith, same, less))))
    ∙ sym (get_or-map (λ (page : HeldPage). page.bytes.items) pages other page [] (omega (arith, within, less)))

-- an empty trail is one of any tree over any pages
pub any_trail : (tells : Type 0) (pages : View) (tree : Tree) (trail : Trail) → IsTrailOfAny trail.pages.items trail.len trail.asked
    → IsTrail tells pages tree trail
any_trail tells pages tree trail any =
    let one = any pages.image pages.size tree in
    record {
      held = λ depth within.
          let held = one.held depth within in
          record { below = held.below; keeps = held.keeps; level_is = held.level_is; as_told = λ told. held.as_told tt };
      leads = one.leads;
    }
