-- A page that is damaged below a child is so below its page, as the pages are stored.
use Rattle.std.proofs.Common.{◌≡◌, ◌≢◌, ℕ, zero, suc, ◌+◌, ◌*◌, ◌<◌, ◌≤◌, ◌⊎◌, Bool, true, false, cond, List, [], ◌∷◌, Option, refl, sym}
use Rattle.std.proofs.Common.{ap, subst, arith, inl, inr, ◌∙◌}
use Rattle.std.proofs.lemmas.Bool.{cases_lt}
use Rattle.block_disk.specs.View.{Image, View}
use Rattle.om3_coeff.specs.declared.span.Span.{Span}
use Rattle.node_page.specs.Fields.{child_at, level_at}
use Rattle.node_page.specs.Layout.{KeepsLayout}
use Rattle.page_space.specs.declared.superblock.Superblock.{Superblock}
use Rattle.page_space.specs.declared.txn.Txn.{Txn}
use Rattle.page_space.specs.Spaces.{times}
use Rattle.page_space.specs.Transactions.{left_by}
use Rattle.path_repair.specs.declared.errors.RepairError.{RepairError}
use Rattle.path_repair.specs.declared.errors.RepairError.TheVariants.{Full, DiskFault, Damaged, NoMemory}
use Rattle.path_repair.specs.Apart.{TellsUnfit, AreApart, StandsApart, reached_pages, HasWrongPage, HasWrongNode, IsDamagedPage}
use Rattle.path_repair.specs.Apart.{NamesDamaged, NamesLink, and_page, and_tree, and_children}
use Rattle.path_repair.specs.Costs.{is_new_root}
use Rattle.path_repair.specs.Damage.{IsUnfit, IsBadAt, IsUnsplitPage, AreBelow, HasUnfit, IsUnfitBelow}
use Rattle.path_repair.specs.Keeping.{IsNew, IsOpened, IsAsTold, root_level}
use Rattle.path_repair.specs.Sums.{sum_below, join_below}
use Rattle.path_repair.specs.Standing.{AreTold}
use Rattle.path_repair.specs.Forms.{IsForm}
use Rattle.path_repair.proofs.ApartLemmas.{apart_on, apart_start, child_times, children_first, children_next, page_times}
use Rattle.path_repair.proofs.DamageLemmas.{root_here, root_lower, root_child, root_first}
use Rattle.path_repair.proofs.SumLemmas.{sum_same, sum_swap, times_join}
use Rattle.page_space.proofs.Counting.{times_here}
use Rattle.std.proofs.lemmas.Bool.{ne_eqb, eq-eqb}

-- ---- the pages of a tree that is opened

-- the pages below one that fits
abbrev fitting : (ℕ → ℕ → Bool) → Image → ℕ → List ℕ → ℕ → List ℕ
fitting fits image level bytes child = reached_pages fits image level (child_at bytes child)

reached_none : (fits : ℕ → ℕ → Bool) (image : Image) (level page : ℕ) → page ≡ 0 → reached_pages fits image level page ≡ []
unfolding reached_pages
reached_none fits image zero page none = refl
reached_none fits image (suc level) page none = ap (λ b. cond b []
    (page ∷ cond (fits (suc level) page) (join_below (fitting fits image level (image page)) 128) [])) (eq-eqb page 0 none)

reached_own : (fits : ℕ → ℕ → Bool) (image : Image) (level page : ℕ) → page ≢ 0
    → reached_pages fits image (suc level) page ≡ page ∷ cond (fits (suc level) page)
    (join_below (fitting fits image level (image page)) 128) []
unfolding reached_pages
reached_own fits image level page some = ap (λ b. cond b []
    (page ∷ cond (fits (suc level) page) (join_below (fitting fits image level (image page)) 128) [])) (ne_eqb page 0 some)

reached_fit : (fits : ℕ → ℕ → Bool) (image : Image) (level page : ℕ) → page ≢ 0 → fits (suc level) page ≡ true
    → reached_pages fits image (suc level) page ≡ page ∷ join_below (fitting fits image level (image page)) 128
reached_fit fits image level page some fit = reached_own fits image level page some
    ∙ ap (λ b. page ∷ cond b (join_below (fitting fits image level (image page)) 128) []) fit

reached_page : (fits : ℕ → ℕ → Bool) (image : Image) (level page : ℕ) → page ≢ 0
    → 0 < times page (reached_pages fits image (suc level) page)
reached_page fits image level page some =
    omega (
      arith,
      ap (λ l. times page l) (reached_own fits image level page some),
      times_here page page (cond (fits (suc level) page) (join_below (fitting fits image level (image page)) 128) []) refl,
    )

-- a page that isn't unfit fits
must_fit : (fits : ℕ → ℕ → Bool) (image : Image) (total level page : ℕ) → TellsUnfit image total fits
    → (IsUnfit total level (image page) → ⊥) → fits level page ≡ true
must_fit fits image total level page tells sound = either (fits level page) (λ none. sound (tells level page none))
  where
    either : (b : Bool) → (b ≡ false → ⊥) → b ≡ true
    either true none = refl
    either false none = absurd (none refl)

-- a page that was read as one of this level isn't unfit
pub sound_read : (total total' level : ℕ) (bytes page : List ℕ) → bytes ≡ page → total' ≡ total → KeepsLayout bytes
    → IsForm level total bytes → IsUnfit total' level page → ⊥
sound_read total total' level bytes page same total_is keeps form unfit =
    let U : List ℕ → Type 0 = λ b. IsUnfit total' level b in
    elim (subst U (sym same) unfit) [
      | inl bad ↦ elim bad [ inl broken ↦ broken keeps | inr other ↦ other form.level_is ]
      | inr names ↦ omega (arith, names.beyond, form.below names.child names.within, total_is)
    ]

-- the page itself is as it was stored
pub root_same : {fits : ℕ → ℕ → Bool} (stored image : Image) (from s : Superblock) (height level below_level index page : ℕ) (mine kept : ℕ
    → ℕ) → level ≡ suc below_level → page ≢ 0 → is_new_root height level index ≡ false
    → StandsApart fits stored image from s mine (and_tree fits stored height level index page kept) → image page ≡ stored page
root_same {fits} stored image from s height level below_level index page mine kept is some old apart =
    let root_is : root_level height level index ≡ suc below_level = root_here height level index old ∙ is in
    apart.same page (omega (
      arith,
      reached_page fits stored below_level page some,
      ap (λ l. times page (reached_pages fits stored l page)) root_is,
    ))

-- the pages of a tree are its root's and those of the children
tree_times : (fits : ℕ → ℕ → Bool) (stored : Image) (height below_level index page : ℕ) (bytes : List ℕ) (kept : ℕ → ℕ) (p : ℕ) → page ≢ 0
    → is_new_root height (suc below_level) index ≡ false → bytes ≡ stored page → fits (suc below_level) page ≡ true
    → and_tree fits stored height (suc below_level) index page kept p ≡ times p
    (page ∷ []) + and_children fits stored height below_level index bytes 0 kept p
tree_times fits stored height below_level index page bytes kept p some old read fit =
    let here = fitting fits stored below_level (stored page) in
    let own : times p (reached_pages fits stored (root_level height (suc below_level) index) page) ≡ times p (page ∷ join_below here 128) =
    ap (λ l. times p (reached_pages fits stored l page)) (root_here height (suc below_level) index old)
    ∙ ap (λ l. times p l) (reached_fit fits stored below_level page some fit) in
    let each = sum_same (λ c. times p (here c)) (child_times fits stored height below_level index bytes p) 128 (λ c low.
    ap (λ b. times p (reached_pages fits stored below_level (child_at b c))) (sym read)
    ∙ ap (λ l. times p (reached_pages fits stored l (child_at bytes c))) (sym (root_child height below_level index c old))) in
    omega (
      arith,
      own,
      page_times p page (join_below here 128),
      times_join p here 128,
      each,
      children_first fits stored height below_level index bytes kept p,
    )

opened_read : {fits : ℕ → ℕ → Bool} (stored image : Image) (from s : Superblock) (height below_level index page : ℕ) (bytes : List ℕ)
    (mine kept : ℕ → ℕ) → page ≢ 0 → is_new_root height (suc below_level) index ≡ false → bytes ≡ stored page
    → fits (suc below_level) page ≡ true
    → StandsApart fits stored image from s mine (and_tree fits stored height (suc below_level) index page kept)
    → StandsApart fits stored image from s (and_page page mine) (and_children fits stored height below_level index bytes 0 kept)
opened_read {fits} stored image from s height below_level index page bytes mine kept some old read fit apart =
    let whole : (p : ℕ) → and_tree fits stored height (suc below_level) index page kept p ≡ times p
    (page ∷ []) + and_children fits stored height below_level index bytes 0 kept p = λ p.
    tree_times fits stored height below_level index page bytes kept p some old read fit in
    apart_on stored image from s mine (and_page page mine) (and_tree fits stored height (suc below_level) index page kept)
    (and_children fits stored height below_level index bytes 0 kept)
    (λ p. omega (arith, whole p)) (λ p there. omega (arith, whole p, there)) apart

pub apart_read : {fits : ℕ → ℕ → Bool} (stored image : Image) (from s : Superblock) (height level below_level index page : ℕ)
    (bytes : List ℕ) (mine kept : ℕ → ℕ) → level ≡ suc below_level → page ≢ 0 → is_new_root height level index ≡ false → bytes ≡ image page
    → (IsUnfit s.total level (image page) → ⊥)
    → StandsApart fits stored image from s mine (and_tree fits stored height level index page kept)
    → StandsApart fits stored image from s (and_page page mine) (and_children fits stored height below_level index bytes 0 kept)
apart_read {fits} stored image from s height level below_level index page bytes mine kept is some old read sound apart =
    let same = root_same stored image from s height level below_level index page mine kept is some old apart in
    let N : ℕ → Type 0 = λ l. is_new_root height l index ≡ false in
    let A : ℕ → Type 0 = λ l. StandsApart fits stored image from s mine (and_tree fits stored height l index page kept) in
    let F : ℕ → Type 0 = λ l. fits l page ≡ true in
    let U : List ℕ → Type 0 = λ b. IsUnfit s.total level b → ⊥ in
    opened_read stored image from s height below_level index page bytes mine kept some (subst N is old) (read
    ∙ same) (subst F is (must_fit fits stored s.total level page apart.tells (subst U same sound))) (subst A is apart)

sum_zero : (n : ℕ) → sum_below (λ c. 0) n ≡ 0
unfolding sum_below
sum_zero zero = refl
sum_zero (suc n) = omega (arith, sum_zero n)

sum_first : (f : ℕ → ℕ) (n : ℕ) → ((c : ℕ) → 0 < c → c < suc n → f c ≡ 0) → sum_below f (suc n) ≡ f 0
sum_first f n none =
    let swap = sum_swap f (λ c. 0) 0 (suc n) (omega arith) (λ c low other. sym (none c (positive c other) low)) in
    omega (arith, swap, sum_zero (suc n))
  where
    positive : (c : ℕ) → c ≢ 0 → 0 < c
    positive zero some = absurd (some refl)
    positive (suc c) some = omega arith

none_times : (fits : ℕ → ℕ → Bool) (stored : Image) (level page p : ℕ) → page ≡ 0 → times p (reached_pages fits stored level page) ≡ 0
none_times fits stored level page p none = ap (λ l. times p l) (reached_none fits stored level page none)

new_times : (fits : ℕ → ℕ → Bool) (stored : Image) (height below_level index page : ℕ) (bytes : List ℕ) (kept : ℕ → ℕ) (p : ℕ)
    → IsNew height (suc below_level) index page bytes
    → and_tree fits stored height (suc below_level) index page kept p ≡ and_children fits stored height below_level index bytes 0 kept p
new_times fits stored height below_level index page bytes kept p new =
    let f = child_times fits stored height below_level index bytes p in
    let alone = sum_first f 127 (λ c later within. none_times fits stored (root_level height below_level (128 * index + c))
    (child_at bytes c) p (new.none c later within)) in
    let first : f 0 ≡ times p (reached_pages fits stored (root_level height below_level (128 * index + 0)) page) = ap (λ q. times p
    (reached_pages fits stored (root_level height below_level (128 * index + 0)) q)) new.first in
    let same : times p (reached_pages fits stored (root_level height below_level (128 * index + 0)) page) ≡ times p
    (reached_pages fits stored (root_level height (suc below_level) index) page) = elim new.why [
      | inl none ↦ none_times fits stored (root_level height below_level (128 * index + 0)) page p none
          ∙ sym (none_times fits stored (root_level height (suc below_level) index) page p none)
      | inr root ↦ ap (λ l. times p (reached_pages fits stored l page)) (root_first height below_level index root
          ∙ sym (root_lower height (suc below_level) index root))
    ] in
    omega (arith, alone, first, same, children_first fits stored height below_level index bytes kept p)

pub apart_new : {fits : ℕ → ℕ → Bool} (stored image : Image) (from s : Superblock) (height level below_level index page number : ℕ)
    (bytes : List ℕ) (mine kept : ℕ → ℕ) → level ≡ suc below_level → IsNew height level index page bytes
    → StandsApart fits stored image from s (and_page number mine) (and_tree fits stored height level index page kept)
    → StandsApart fits stored image from s (and_page number mine) (and_children fits stored height below_level index bytes 0 kept)
apart_new {fits} stored image from s height level below_level index page number bytes mine kept is new apart =
    let N : ℕ → Type 0 = λ l. IsNew height l index page bytes in
    let A : ℕ → Type 0 = λ l. StandsApart fits stored image from s (and_page number mine) (and_tree fits stored height l index page kept) in
    let whole : (p : ℕ) → and_tree fits stored height
    (suc below_level) index page kept p ≡ and_children fits stored height below_level index bytes 0 kept p = λ p.
    new_times fits stored height below_level index page bytes kept p (subst N is new) in
    apart_on stored image from s (and_page number mine) (and_page number mine)
    (and_tree fits stored height (suc below_level) index page kept) (and_children fits stored height below_level index bytes 0 kept)
    (λ p. omega (arith, whole p)) (λ p there. omega (arith, whole p, there)) (subst A is apart)

-- the next child
pub apart_child : {fits : ℕ → ℕ → Bool} (stored image : Image) (from s : Superblock)
    (height below_level index child child_height child_level child_index child_page : ℕ) (bytes : List ℕ) (mine kept : ℕ → ℕ) → child < 128
    → child_height ≡ height → child_level ≡ below_level → child_index ≡ 128 * index + child → child_page ≡ child_at bytes child
    → StandsApart fits stored image from s mine (and_children fits stored height below_level index bytes child kept)
    → StandsApart fits stored image from s mine (and_tree fits stored child_height child_level child_index child_page
    (and_children fits stored height below_level index bytes (child + 1) kept))
apart_child {fits} stored image from s height below_level index child child_height child_level child_index child_page bytes mine kept within
    is_height is_level is_index is_page apart =
    let root_is : root_level child_height child_level child_index ≡ root_level height below_level
    (128 * index + child) = ap (λ h. root_level h child_level child_index) is_height
    ∙ ap (λ l. root_level height l child_index) is_level ∙ ap (λ q. root_level height below_level q) is_index in
    let own : (p : ℕ) → times p (reached_pages fits stored (root_level child_height child_level child_index) child_page) ≡ child_times fits
    stored height below_level index bytes p child =
    λ p. ap (λ l. times p (reached_pages fits stored l child_page)) root_is
    ∙ ap (λ q. times p (reached_pages fits stored (root_level height below_level (128 * index + child)) q)) is_page in
    apart_on stored image from s mine mine (and_children fits stored height below_level index bytes child kept)
    (and_tree fits stored child_height child_level child_index child_page
    (and_children fits stored height below_level index bytes (child + 1) kept))
    (λ p. omega (arith, own p, children_next fits stored height below_level index bytes child kept p within))
    (λ p there. omega (arith, own p, children_next fits stored height below_level index bytes child kept p within, there)) apart

-- all are changed
pub apart_end : {fits : ℕ → ℕ → Bool} (stored image : Image) (from s : Superblock) (height below_level index child : ℕ) (bytes : List ℕ)
    (mine kept : ℕ → ℕ) → StandsApart fits stored image from s mine (and_children fits stored height below_level index bytes child kept)
    → StandsApart fits stored image from s mine kept
apart_end {fits} stored image from s height below_level index child bytes mine kept apart =
    apart_on stored image from s mine mine (and_children fits stored height below_level index bytes child kept) kept (λ p. omega arith)
    (λ p there. omega (arith, there)) apart

-- The children below i are changed: the pages of the others, and those left alone, are as they were stored.
abbrev pub IsLeaving : Type 0 → View → Txn → Txn → ℕ → ℕ → ℕ → ℕ → ℕ → ℕ → List ℕ → ℕ → Type 0
IsLeaving told old t t' height level below_level index page number bytes i =
    (base : Image) (fits : ℕ → ℕ → Bool) (stored : Image) (from : Superblock) (mine kept : ℕ → ℕ) → AreTold told old base
    → StandsApart fits stored (left_by t base) from t.superblock mine (and_tree fits stored height level index page kept)
    → StandsApart fits stored (left_by t' base) from t'.superblock (and_page number mine)
    (and_children fits stored height below_level index bytes i kept)

-- ---- which page is damaged

wrong_none : (image : Image) (total level at : ℕ) → HasWrongPage image total level 0 at → ⊥
wrong_none image total zero at bad = bad
wrong_none image total (suc level) at bad = bad.0 refl

node_none : (image : Image) (level at : ℕ) (top : Option Span) → HasWrongNode image level 0 top at → ⊥
node_none image zero at top bad = bad
node_none image (suc level) at top bad = bad.0 refl

damaged_none : (image : Image) (s : Superblock) (total level level' page at : ℕ) (top top' : Option Span)
    → IsDamagedPage image s total level 0 top at → IsDamagedPage image s total level' page top' at
damaged_none image s total level level' page at top top' (inl bad) = absurd (wrong_none image total level at bad)
damaged_none image s total level level' page at top top' (inr (inl bad)) = absurd (node_none image level at top bad)
damaged_none image s total level level' page at top top' (inr (inr bad)) = inr (inr bad)

damaged_read : (image : Image) (s : Superblock) (total below_level page child at : ℕ) (top : Option Span) (spans : ℕ → Option Span)
    → page ≢ 0 → KeepsLayout (image page) → level_at (image page) ≡ suc below_level → AreBelow top (image page) spans → child < 128
    → IsDamagedPage image s total below_level (child_at (image page) child) (spans (127 + child)) at
    → IsDamagedPage image s total (suc below_level) page top at
damaged_read image s total below_level page child at top spans some keeps level_is are_below within (inl bad) = inl (
  some,
  inr (keeps, level_is, child, within, bad),
)
damaged_read image s total below_level page child at top spans some keeps level_is are_below within (inr (inl bad)) = inr
    (inl (some, inr (keeps, level_is, spans, are_below, child, within, bad)))
damaged_read image s total below_level page child at top spans some keeps level_is are_below within (inr (inr bad)) = inr (inr bad)

damaged_new : (image : Image) (s : Superblock) (total height below_level index child page at : ℕ) (top : Option Span) (bytes : List ℕ)
    (spans : ℕ → Option Span) → IsNew height (suc below_level) index page bytes → spans 127 ≡ top → child < 128
    → IsDamagedPage image s total (root_level height below_level (128 * index + child)) (child_at bytes child) (spans (127 + child)) at
    → IsDamagedPage image s total (root_level height (suc below_level) index) page top at
damaged_new image s total height below_level index child page at top bytes spans new top_is within bad = elim (cases_lt 0 child) [
  | inl later ↦
      let P : ℕ → Type 0 = λ p. IsDamagedPage image s total (root_level height below_level (128 * index + child)) p
      (spans (127 + child)) at in
      damaged_none image s total (root_level height below_level (128 * index + child)) (root_level height (suc below_level) index) page at
      (spans (127 + child)) top (subst P (new.none child later within) bad)
  | inr first ↦
      let is : child ≡ 0 = omega (arith, first) in
      let C : ℕ → Type 0 = λ c. IsDamagedPage image s total (root_level height below_level (128 * index + c)) (child_at bytes c)
      (spans (127 + c)) at in
      let P : ℕ → Type 0 = λ p. IsDamagedPage image s total (root_level height below_level (128 * index + 0)) p (spans 127) at in
      let T : Option Span → Type 0 = λ t. IsDamagedPage image s total (root_level height below_level (128 * index + 0)) page t at in
      let here = subst T top_is (subst P new.first (subst C is bad)) in
      elim new.why [
        | inl none ↦
            let N : ℕ → Type 0 = λ p. IsDamagedPage image s total (root_level height below_level (128 * index + 0)) p top at in
            damaged_none image s total (root_level height below_level (128 * index + 0))
            (root_level height (suc below_level) index) page at top top (subst N none here)
        | inr root ↦
            let L : ℕ → Type 0 = λ l. IsDamagedPage image s total l page top at in
            subst L (root_first height below_level index root ∙ sym (root_lower height (suc below_level) index root)) here
      ]
]

damaged_up : (stored image : Image) (s : Superblock) (total height below_level index child page at : ℕ) (top : Option Span) (bytes : List ℕ)
    (spans : ℕ → Option Span) → child < 128 → IsOpened height (suc below_level) index page top bytes spans
    → (page ≢ 0 → is_new_root height (suc below_level) index ≡ false → bytes ≡ stored page)
    → IsDamagedPage stored s total (root_level height below_level (128 * index + child)) (child_at bytes child) (spans (127 + child)) at
    → IsDamagedPage stored s total (root_level height (suc below_level) index) page top at
damaged_up stored image s total height below_level index child page at top bytes spans within (inl opened) told bad =
    let read = opened.0 in
    let is : bytes ≡ stored page = told read.some read.old in
    let L : ℕ → Type 0 = λ l. IsDamagedPage stored s total l (child_at bytes child) (spans (127 + child)) at in
    let B : List ℕ → Type 0 = λ b. IsDamagedPage stored s total below_level (child_at b child) (spans (127 + child)) at in
    let U : ℕ → Type 0 = λ l. IsDamagedPage stored s total l page top at in
    let K : List ℕ → Type 0 = λ b. KeepsLayout b in
    let A : List ℕ → Type 0 = λ b. AreBelow top b spans in
    subst U (sym (root_here height (suc below_level) index read.old))
    (damaged_read stored s total below_level page child at top spans read.some (subst K is read.keeps) (sym (ap (λ b. level_at b) is)
    ∙ read.level_is) (subst A is opened.1) within
    (subst B is (subst L (root_child height below_level index child read.old) bad)))
damaged_up stored image s total height below_level index child page at top bytes spans within
    (inr opened) told bad = damaged_new stored s total height below_level index child page at top bytes spans opened.0 opened.1 within bad

-- a page that is damaged below a child is so below its page
pub stored_up : {fits : ℕ → ℕ → Bool} (stored image : Image) (from s : Superblock)
    (total height level below_level index child child_height child_level child_index page child_page : ℕ) (top child_top : Option Span)
    (bytes : List ℕ) (spans : ℕ → Option Span) (mine kept : ℕ → ℕ) (e : RepairError)
    → level ≡ suc below_level → child < 128 → child_height ≡ height → child_level ≡ below_level → child_index ≡ 128 * index + child
    → child_page ≡ child_at bytes child → child_top ≡ spans (127 + child)
    → IsOpened height level index page top bytes spans → IsAsTold image height level index page bytes
    → StandsApart fits stored image from s mine (and_tree fits stored height level index page kept)
    → NamesDamaged stored from total (root_level child_height child_level child_index) child_page child_top e
    → NamesDamaged stored from total (root_level height level index) page top e
stored_up {fits} stored image from s total height level below_level index child child_height child_level child_index page child_page top
    child_top bytes spans mine kept (Full needed have) is within is_height is_level is_index is_page is_top opened told apart bad = tt
stored_up {fits} stored image from s total height level below_level index child child_height child_level child_index page child_page top
    child_top bytes spans mine kept DiskFault is within is_height is_level is_index is_page is_top opened told apart bad = tt
stored_up {fits} stored image from s total height level below_level index child child_height child_level child_index page child_page top
    child_top bytes spans mine kept (Damaged at) is within is_height is_level is_index is_page is_top opened told apart bad =
    let O : ℕ → Type 0 = λ l. IsOpened height l index page top bytes spans in
    let A : ℕ → Type 0 = λ l. page ≢ 0 → is_new_root height l index ≡ false → bytes ≡ stored page in
    let as_stored : A level = λ some old. told some old
    ∙ root_same stored image from s height level below_level index page mine kept is some old apart in
    let U : ℕ → Type 0 = λ l. IsDamagedPage stored from total (root_level height l index) page top at in
    let root_is : root_level child_height child_level child_index ≡ root_level height below_level
    (128 * index + child) = ap (λ h. root_level h child_level child_index) is_height
    ∙ ap (λ l. root_level height l child_index) is_level ∙ ap (λ q. root_level height below_level q) is_index in
    let L : ℕ → Type 0 = λ l. IsDamagedPage stored from total l child_page child_top at in
    let G : ℕ → Type 0 = λ p. IsDamagedPage stored from total (root_level height below_level (128 * index + child)) p child_top at in
    let T : Option Span → Type 0 = λ t. IsDamagedPage stored from total (root_level height below_level (128 * index + child))
    (child_at bytes child) t at in
    subst U (sym is) (damaged_up stored image from total height below_level index child page at top bytes spans within (subst O is opened)
    (subst A is as_stored) (subst T is_top (subst G is_page (subst L root_is bad))))
stored_up {fits} stored image from s total height level below_level index child child_height child_level child_index page child_page top
    child_top bytes spans mine kept NoMemory is within is_height is_level is_index is_page is_top opened told apart bad = tt

-- the page of a place is damaged itself
pub stored_here : {fits : ℕ → ℕ → Bool} (stored image : Image) (from s : Superblock) (total height level below_level index page : ℕ)
    (top : Option Span) (mine kept : ℕ → ℕ) (e : RepairError) → level ≡ suc below_level → page ≢ 0 → is_new_root height level index ≡ false
    → StandsApart fits stored image from s mine (and_tree fits stored height level index page kept) → IsBadAt image total level page top e
    → NamesDamaged stored from total (root_level height level index) page top e
stored_here {fits} stored image from s total height level below_level index page top mine kept (Full needed have) is some old apart bad = tt
stored_here {fits} stored image from s total height level below_level index page top mine kept DiskFault is some old apart bad = tt
stored_here {fits} stored image from s total height level below_level index page top mine kept (Damaged at) is some old apart bad =
    let same = root_same stored image from s height level below_level index page mine kept is some old apart in
    let U : ℕ → Type 0 = λ l. IsDamagedPage stored from total l page top at in
    let B : ℕ → Type 0 = λ l. IsUnfit total l (stored page) ⊎ IsUnsplitPage top (stored page) in
    let I : List ℕ → Type 0 = λ b. IsUnfit total level b ⊎ IsUnsplitPage top b in
    subst U (sym (root_here height level index old ∙ is)) (elim (subst B is (subst I same bad.1)) [
      | inl unfit ↦ inl (some, inl (bad.0, unfit))
      | inr unsplit ↦ inr (inl (some, inl (bad.0, unsplit)))
    ])
stored_here {fits} stored image from s total height level below_level index page top mine kept NoMemory is some old apart bad = tt

-- or no page could be taken
pub stored_link : (stored : Image) (from : Superblock) (total level page : ℕ) (top : Option Span) (e : RepairError)
    → NamesLink stored from e → NamesDamaged stored from total level page top e
stored_link stored from total level page top (Full needed have) bad = tt
stored_link stored from total level page top DiskFault bad = tt
stored_link stored from total level page top (Damaged at) bad = inr (inr bad)
stored_link stored from total level page top NoMemory bad = tt

-- what the first pass finds is so as stored
unfit_stored : (image : Image) (fresh total level page at : ℕ) → HasUnfit image fresh fresh total level page at
    → HasWrongPage image total level page at
unfit_stored image fresh total zero page at bad = bad
unfit_stored image fresh total (suc level) page at (inl bad) = (bad.0, inl (bad.1, bad.2))
unfit_stored image fresh total (suc level) page at (inr (bytes, child, above, within, bad)) =
    let is : bytes ≡ image page = above.same (either page fresh) in
    let K : List ℕ → Type 0 = λ b. KeepsLayout b in
    let B : List ℕ → Type 0 = λ b. HasWrongPage image total level (child_at b child) at in (
      above.some,
      inr (
        subst K is above.keeps,
        sym (ap (λ b. level_at b) is) ∙ above.level_is,
        child,
        within,
        subst B is (unfit_stored image fresh total level (child_at bytes child) at bad),
      ),
    )
  where
    either : (page fresh : ℕ) → (page < fresh) ⊎ (fresh ≤ page)
    either page fresh = cases_lt page fresh

pub stored_first : (image : Image) (s : Superblock) (total total' level level' page : ℕ) (top : Option Span) (e : RepairError)
    → total ≡ total' → level ≡ level' → IsUnfitBelow image s.fresh total level page e → NamesDamaged image s total' level' page top e
stored_first image s total total' level level' page top (Full needed have) same is bad = tt
stored_first image s total total' level level' page top DiskFault same is bad = tt
stored_first image s total total' level level' page top (Damaged at) same is bad =
    let T : ℕ → Type 0 = λ n. HasWrongPage image n level page at in
    let L : ℕ → Type 0 = λ l. HasWrongPage image total' l page at in
    inl (subst L is (subst T same (unfit_stored image s.fresh total level page at bad)))
stored_first image s total total' level level' page top NoMemory same is bad = tt

-- ---- before the change

pub apart_call : (fits : ℕ → ℕ → Bool) (image : Image) (s : Superblock) (height level root page : ℕ) → root_level height level 0 ≡ root
    → TellsUnfit image s.total fits → AreApart image s (reached_pages fits image root page)
    → StandsApart fits image image s s (λ p. 0) (and_tree fits image height level 0 page (λ p. 0))
apart_call fits image s height level root page root_is tells apart =
    let same : (p : ℕ) → times p (reached_pages fits image (root_level height level 0) page) ≡ times p
    (reached_pages fits image root page) = λ p. ap (λ l. times p (reached_pages fits image l page)) root_is in
    apart_on image image s s (λ p. 0) (λ p. 0) (λ p. times p (reached_pages fits image root page))
    (and_tree fits image height level 0 page (λ p. 0)) (λ p. omega (arith, same p)) (λ p there. omega (arith, same p, there))
    (apart_start fits image s (reached_pages fits image root page) tells apart)

pub stored_call : (image : Image) (s : Superblock) (total total' level level' page : ℕ) (top : Option Span) (e : RepairError)
    → total ≡ total' → level ≡ level' → NamesDamaged image s total level page top e → NamesDamaged image s total' level' page top e
stored_call image s total total' level level' page top e same is bad =
    let T : ℕ → Type 0 = λ n. NamesDamaged image s n level page top e in
    let L : ℕ → Type 0 = λ l. NamesDamaged image s total' l page top e in
    subst L is (subst T same bad)
