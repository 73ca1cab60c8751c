-- What becomes of a disk.
use Rattle.std.proofs.Common.{◌≡◌, ℕ, ◌≤◌, ◌⊎◌, Bool, cond, None, List, ◌∷◌, length, get_or, refl, sym, ap, subst, arith, inl, inr, ◌∙◌}
use Rattle.std.proofs.lemmas.Bool.{cases_lt}
use Rattle.block_disk.specs.View.{Image, View, Now, Honest, Passes, Moves, Nowhere, sent_now}
use Rattle.block_disk.proofs.Passing.{passes_weaker}
use Rattle.gate_pages.specs.GateLaws.{goes_by, goes_then}
use Rattle.gate_pages.specs.GatePages.{PagesOf, IsBroken, IsReadable, StandsAsBefore, pages_view}
use Rattle.gate_pages.specs.Journal.{home, directory, replayed, pages_of}
use Rattle.gate_pages.specs.Pages.{Quiet, GoesOn}
use Rattle.gate_pages.proofs.Moving.{nothing_torn, sent_same}
use Rattle.page_space.specs.declared.superblock.Superblock.{Superblock}
use Rattle.page_space.specs.Layout.{HasMagic, superblock_page, empty_of}
use Rattle.empty_store.specs.Kept.{LeavesOld, Stays}
use Rattle.empty_store.specs.Stores.{IsEmptyStore, BeforeOrNew, LeavesNew, Makes}

-- the images of the moments so far stand as before
pub stood : (count : ℕ) (old mid : View) → Passes old mid (StandsAsBefore count old) (Quiet old) → (at : ℕ) (image : Image) → old.clock ≤ at
    → at ≤ mid.clock → mid.crash at image → StandsAsBefore count old image
stood count old mid passes at image low high left = elim (cases_lt old.clock at) [
  | inl moved ↦ passes.here at image moved high left
  | inr stands ↦
      let same : at ≡ old.clock = omega (arith, low, stands) in
      let P : ℕ → Type 0 = λ time. old.crash time image in
      record { from = image; was = subst P same (passes.past at image stands left); same = refl; readable = λ is. is }
]

pub sent_so : (old mid : View) (images : Image → Type 0) → Passes old mid images (Quiet old) → (at : ℕ) → old.clock ≤ at → at ≤ mid.clock
    → mid.sent_by at ≡ sent_now old
sent_so old mid images passes at low high = elim (cases_lt old.clock at) [
  | inl moved ↦ passes.sent_here at moved high
  | inr stands ↦
      let same : at ≡ old.clock = omega (arith, low, stands) in
      passes.sent_past at stands ∙ ap (λ time. old.sent_by time) same
]

-- page 0 of a store begins with the magic
pub marked : (s : Superblock) → HasMagic (superblock_page s)
marked s = unfold superblock_page in refl

first_byte : (page : List ℕ) → HasMagic page → get_or page 0 0 ≡ 67
first_byte page magic = ap (λ (l : List ℕ). get_or l 0 0) magic

longer : (page : List ℕ) (byte : ℕ) → (byte ∷ page ≡ page) → ⊥
longer page byte same = omega (arith, ap length same)

-- The journal of an image that may be left can be read: else its pages might be any.
module _ (count : ℕ) (crash : Image → Type 0) (base : Image) (at_each : (pages : Image) → PagesOf count crash pages → (pages ≡ base)
    ⊎ IsEmptyStore count pages) (image : Image) (left : crash image) where
  pub left_readable : IsReadable count image
  left_readable broken =
      let odd : Image = λ page. 1 ∷ base page in
      elim (at_each odd (record { from = image; was = left; same = λ readable. absurd (readable broken) })) [
        | inl same ↦ longer (base 0) 1 (ap (λ (i : Image). i 0) same)
        | inr store ↦
            let byte : 1 ≡ 67 = ap (λ (l : List ℕ). get_or l 0 0) store.first
            ∙ first_byte (superblock_page (empty_of count)) (marked (empty_of count)) in
            omega (arith, byte)
      ]

  pub left_pages : (pages_of count image ≡ base) ⊎ IsEmptyStore count (pages_of count image)
  left_pages = at_each (pages_of count image) (record { from = image; was = left; same = λ readable. refl })

  pub left_so : (old : View) → Honest old → base ≡ pages_of count old.image → BeforeOrNew count old image
  left_so old honest same = elim left_pages [
    | inl before ↦ inl (record { from = old.image; was = honest; same = before ∙ same; readable = λ any. left_readable })
    | inr store ↦ inr (record { readable = left_readable; store = store })
  ]

-- where the journal can't be read, an image stands for the pages as they lie
pub broken_home : (count n : ℕ) (image : Image) → count ≡ n → IsBroken n image → pages_of count image ≡ home image
broken_home count n image same broken =
    let P : ℕ → Type 0 = λ m. directory m (image 1) ≡ None in
    let none : directory count (image 1) ≡ None = subst P (sym same) broken.layout in
    ap (λ b. cond b (replayed (directory count (image 1)) image) (home image)) broken.gate
    ∙ ap (λ o. replayed o image) none

-- An opening, and a store made behind it. The pages know how many they are.
pub leaves_made : (n count count' : ℕ) (sound sound' : Bool) (old mid new : View) → count ≡ n → count' ≡ count → Honest old
    → Passes old mid (StandsAsBefore n old) (Quiet old) → pages_of count mid.image ≡ pages_of count old.image
    → Makes (pages_view count sound mid) (pages_view count' sound' new) → GoesOn mid new → LeavesNew n old new
leaves_made n count count' sound sound' old mid new counted same_count honest passes same makes goes =
    let P : ℕ → Type 0 = λ m. Makes (pages_view m sound mid) (pages_view n sound' new) in
    let Q : ℕ → Type 0 = λ m. Makes (pages_view count sound mid) (pages_view m sound' new) in
    let S : ℕ → Type 0 = λ m. pages_of m mid.image ≡ pages_of m old.image in
    let made = subst P counted (subst Q (same_count ∙ counted) makes) in
    record {
      goes_on = goes_then old mid new (goes_by old mid (StandsAsBefore n old) (Quiet old) passes) goes;
      images = λ at image low high left. elim (cases_lt mid.clock at) [
        | inl late ↦ left_so n (new.crash at) (pages_of n mid.image)
            (λ pages found. made.here at pages late high found) image left old honest (subst S counted same)
        | inr early ↦ inl (stood n old mid passes at image low early (goes.past at image early left))
      ];
      sent = λ at low high. elim (cases_lt mid.clock at) [
        | inl late ↦ made.sent_here at late high ∙ sent_same old mid (StandsAsBefore n old) passes
        | inr early ↦ made.sent_past at early ∙ sent_so old mid (StandsAsBefore n old) passes at low early
      ];
    }

-- An opening, and pages that stay behind it.
pub kept_made : (n count count' : ℕ) (sound sound' : Bool) (old mid new : View) → count ≡ n → count' ≡ count → Honest old
    → Passes old mid (StandsAsBefore n old) (Quiet old) → pages_of count mid.image ≡ pages_of count old.image
    → Stays (pages_view count sound mid) (pages_view count' sound' new) → GoesOn mid new → LeavesOld n old new
kept_made n count count' sound sound' old mid new counted same_count honest passes same stays goes =
    let P : ℕ → Type 0 = λ m. Stays (pages_view m sound mid) (pages_view n sound' new) in
    let Q : ℕ → Type 0 = λ m. Stays (pages_view count sound mid) (pages_view m sound' new) in
    let S : ℕ → Type 0 = λ m. pages_of m mid.image ≡ pages_of m old.image in
    let kept = subst P counted (subst Q (same_count ∙ counted) stays) in
    λ at image low high left. elim (cases_lt mid.clock at) [
      | inl late ↦ record {
        from = old.image;
        was = honest;
        same = kept.here at (pages_of n image) late high (record { from = image; was = left; same = λ readable. refl })
            ∙ subst S counted same;
        readable = λ any. left_readable n (new.crash at) (pages_of n mid.image)
            (λ pages found. inl (kept.here at pages late high found)) image left;
      }
      | inr early ↦ stood n old mid passes at image low early (goes.past at image early left)
    ]

-- calls that touch nothing, and what comes after them
module _ (count reads syncs writes : ℕ) (old mid : View) (quiet : Moves Nowhere reads syncs writes old mid) where
  quiet_time : Passes old mid (StandsAsBefore count old) (Quiet old)
  quiet_time =
      passes_weaker old mid _ (StandsAsBefore count old) (Quiet old) (Quiet old)
      (λ image torn. record { from = image; was = nothing_torn (Now old) image torn; same = refl; readable = λ is. is })
      (λ sent same. same) quiet.time

  back : (image : Image) → StandsAsBefore count mid image → StandsAsBefore count old image
  back image stands =
      let was = stood count old mid quiet_time mid.clock stands.from quiet.time.later (omega arith) stands.was in
      record { from = was.from; was = was.was; same = stands.same ∙ was.same; readable = λ is. stands.readable (was.readable is) }

  pub leaves_back : (new : View) → LeavesNew count mid new → LeavesNew count old new
  leaves_back new leaves = record {
    goes_on = goes_then old mid new (goes_by old mid (StandsAsBefore count old) (Quiet old) quiet_time) leaves.goes_on;
    images = λ at image low high left. elim (cases_lt at mid.clock) [
      | inl early ↦ inl (stood count old mid quiet_time at image low (omega (arith, early))
          (leaves.goes_on.past at image (omega (arith, early)) left))
      | inr late ↦ elim (leaves.images at image late high left) [
        | inl stands ↦ inl (back image stands)
        | inr store ↦ inr store
      ]
    ];
    sent = λ at low high. elim (cases_lt at mid.clock) [
      | inl early ↦ leaves.goes_on.sent_past at (omega (arith, early))
          ∙ sent_so old mid (StandsAsBefore count old) quiet_time at low (omega (arith, early))
      | inr late ↦ leaves.sent at late high ∙ sent_same old mid (StandsAsBefore count old) quiet_time
    ];
  }
