-- Pages stand for one book.
use Rattle.std.proofs.Common.{◌≡◌, ℕ, ℤ, ◌+◌, ◌-◌, ◌*◌, ◌^◌, ◌<◌, List, length, get_or, Option, None, Some, refl, sym, ap, ap₂, subst, ◌∙◌}
use Rattle.std.proofs.Common.{arith}
use Rattle.std.proofs.lemmas.List.{same_lists}
use Rattle.std.proofs.lemmas.Option.{same_Some, slice_get-get_or}
use Rattle.block_disk.specs.View.{Image}
use Rattle.om3_coeff.specs.declared.key.Key.{Key}
use Rattle.om3_coeff.specs.declared.span.Span.{Span}
use Rattle.om3_coeff.specs.Keys.{height, IsKey}
use Rattle.om3_coeff.specs.Known.{known}
use Rattle.om3_coeff.specs.Spans.{span_of_slot, span_over, span}
use Rattle.om3_coeff.proofs.KeyLemmas.{height_covers}
use Rattle.om3_coeff.proofs.KnownLemmas.{known_spans}
use Rattle.page_space.specs.declared.superblock.Superblock.{Superblock}
use Rattle.series_book.specs.declared.one_series.Series.{Series}
use Rattle.tree_walk.specs.declared.tree.Tree.{Tree}
use Rattle.tree_walk.specs.Paths.{told_by_pages}
use Rattle.tree_walk.specs.Trees.{StandsFor}
use Rattle.tree_walk.proofs.StandingLemmas.{standing_told}
use Rattle.catalog_page.specs.Entries.{Entry}
use Rattle.path_repair.specs.Changes.{value_of, slot_at}
use Rattle.path_repair.proofs.ListLemmas.{slot_span}
use Rattle.stored_book.specs.Records.{entry, tree_of}
use Rattle.stored_book.specs.Standing.{IsKept, IsStore, StandsForBook, book_pages, RecoversTo}
use Rattle.stored_book.proofs.NumberLemmas.{one_superblock}

one_slot : (x y : Option ℤ) → span_of_slot x ≡ span_of_slot y → x ≡ y
one_slot None None same = refl
one_slot None (Some b) same = absurd (cc)
one_slot (Some a) None same = absurd (cc)
one_slot (Some a) (Some b) same =
    let one : Span = record { min = a; max = a } in
    let other : Span = record { min = b; max = b } in
    ap (λ (v : ℤ). Some v) (ap (λ (s : Span). s.min) (same_Some one other same))

abbrev pub slot_key : ℕ → Key
slot_key i = record { level = 0; index = i }

pub slot_key_span : (list : List (Option ℤ)) (i : ℕ) → span list (slot_key i) ≡ span_of_slot (slot_at list i)
slot_key_span list i =
    let one : 2 ^ 0 ≡ 1 = refl in
    ap₂ (λ a b. span_over list a b) (omega (arith, ap (λ w. i * w) one)) (omega (arith, ap (λ w. (i + 1) * w) one)) ∙ slot_span list i

-- what the pages tell of a slot is its span
pub told_slot : (image : Image) (total : ℕ) (tree : Tree) (list : List (Option ℤ)) (i : ℕ) → StandsFor image total tree list
    → i < length list
    → known tree.span (told_by_pages image tree) (height tree.slots) (slot_key i) ≡ Some (span list (slot_key i))
told_slot image total tree list i stands within =
    let whole : height (length list) - 0 ≡ height (length list) = omega arith in
    let W : ℕ → Type 0 = λ n. i < 2 ^ n in
    let key : IsKey (height (length list)) (slot_key i) = record {
      high = omega arith;
      within = subst W (sym whole) (omega (arith, within, height_covers (length list) stands.few));
    } in
    ap (λ n. known tree.span (told_by_pages image tree) (height n) (slot_key i)) stands.slots
    ∙ known_spans tree.span (told_by_pages image tree) list (slot_key i) stands.values stands.root_span key
    (λ w node low above some. standing_told image total tree list w stands node some)

pub slot_is : (list : List (Option ℤ)) (i : ℕ) (d : Option ℤ) → i < length list → slot_at list i ≡ get_or list i d
unfolding slot_at
slot_is list i d within = ap (λ x. value_of x) (slice_get-get_or list i d within)

-- pages and a tree stand for one list
pub one_list : (image : Image) (total : ℕ) (tree : Tree) (list list' : List (Option ℤ)) → StandsFor image total tree list
    → StandsFor image total tree list' → list' ≡ list
one_list image total tree list list' stands stands' =
    let long : length list' ≡ length list = sym stands'.slots ∙ stands.slots in
    same_lists list' list long (λ i d within'.
    let within : i < length list = omega (arith, within', long) in
    let spans : span list' (slot_key i) ≡ span list (slot_key i) =
    same_Some (span list' (slot_key i)) (span list (slot_key i)) (sym (told_slot image total tree list' i stands' within')
    ∙ told_slot image total tree list i stands within) in
    let slots : slot_at list' i ≡ slot_at list i =
    one_slot (slot_at list' i) (slot_at list i) (sym (slot_key_span list' i) ∙ spans ∙ slot_key_span list i) in
    sym (slot_is list' i d within') ∙ slots ∙ slot_is list i d within)

abbrev of : List ℕ → ℤ → ℕ → ℕ → List (Option ℤ) → Series
of name start step scale slots = record { name = name; start = start; step = step; scale = scale; slots = slots }

pub equal : (a b : Series) → a.name ≡ b.name → a.start ≡ b.start → a.step ≡ b.step → a.scale ≡ b.scale → a.slots ≡ b.slots → a ≡ b
equal a b n t p s l =
    ap (λ x. of x a.start a.step a.scale a.slots) n
    ∙ ap (λ x. of b.name x a.step a.scale a.slots) t
    ∙ ap (λ x. of b.name b.start x a.scale a.slots) p
    ∙ ap (λ x. of b.name b.start b.step x a.slots) s
    ∙ ap (λ x. of b.name b.start b.step b.scale x) l

-- a record and its pages are those of one series
pub one_series : (image : Image) (total : ℕ) (e : Entry) (a b : Series) → IsKept image total a e → IsKept image total b e → b ≡ a
one_series image total e a b is is' =
    equal b a
    (sym is'.record_is.name ∙ is.record_is.name)
    (sym is'.record_is.start ∙ is.record_is.start)
    (sym is'.record_is.step ∙ is.record_is.step)
    (sym is'.record_is.scale ∙ is.record_is.scale)
    (one_list image total (tree_of e) a.slots b.slots is.tree is'.tree)

one_stored : (image : Image) (s : Superblock) (book book' : List Series) → IsStore image s book → IsStore image s book' → book' ≡ book
one_stored image s book book' store store' =
    let long : length book' ≡ length book = sym store'.series_are ∙ store.series_are in
    same_lists book' book long (λ k d within'.
    let within : k < length book = omega (arith, within', long) in
    one_series image s.total (entry image k) (get_or book k d) (get_or book' k d)
    (store.kept k (get_or book k d) (slice_get-get_or book k d within))
    (store'.kept k (get_or book' k d) (slice_get-get_or book' k d within')))

pub one_book : (image : Image) (total total' : ℕ) (book book' : List Series) → StandsForBook image total book
    → StandsForBook image total' book' → book' ≡ book
one_book image total total' book book' stands stands' =
    let same : stands'.superblock ≡ stands.superblock = one_superblock image stands.superblock stands'.superblock book book' stands.store
    stands'.store in
    let P : Superblock → Type 0 = λ s. IsStore image s book' in
    one_stored image stands.superblock book book' stands.store (subst P same stands'.store)

pub one_total : (image : Image) (total total' : ℕ) (book book' : List Series) → StandsForBook image total book
    → StandsForBook image total' book' → total' ≡ total
one_total image total total' book book' stands stands' =
    sym stands'.total_is
    ∙ ap (λ (s : Superblock). s.total) (one_superblock image stands.superblock stands'.superblock book book' stands.store stands'.store)
    ∙ stands.total_is

pub recovered_total : (count : ℕ) (image : Image) (total total' : ℕ) (book book' : List Series) → RecoversTo count image total book
    → RecoversTo count image total' book' → total' ≡ total
recovered_total count image total total' book book' is is' = one_total (book_pages count image) total total' book book' is.stands is'.stands

pub recovered_book : (count : ℕ) (image : Image) (total total' : ℕ) (book book' : List Series) → RecoversTo count image total book
    → RecoversTo count image total' book' → book' ≡ book
recovered_book count image total total' book book' is is' = one_book (book_pages count image) total total' book book' is.stands is'.stands
