-- What is sent before a damaged page.
use Rattle.std.proofs.Common.{◌≡◌, ◌≢◌, ℕ, ℤ, zero, suc, ◌+◌, ◌*◌, ◌^◌, ◌<◌, ◌≤◌, List, [], ◌++◌, length, Bool, Option, refl, sym, ap}
use Rattle.std.proofs.Common.{subst, arith, inl, inr, ◌∙◌}
use Rattle.std.specs.Prelude.{Result, Ok, Err, IfErr}
use Rattle.std.proofs.Math.Nat.{pow-le-pow_right}
use Rattle.std.proofs.lemmas.Bool.{cases_lt}
use Rattle.block_disk.specs.Streams.{sent_after}
use Rattle.block_disk.specs.View.{Beside, Image, View}
use Rattle.catalog_page.specs.Entries.{Entry}
use Rattle.om3_coeff.specs.declared.span.Span.{Span}
use Rattle.om3_coeff.specs.Keys.{first_slot, end_slot, page_levels}
use Rattle.om3_coeff.specs.Spans.{AreSlots, span}
use Rattle.node_page.specs.Fields.{child_at}
use Rattle.page_space.specs.declared.superblock.Superblock.{Superblock}
use Rattle.path_repair.specs.Damage.{AreBelow}
use Rattle.path_repair.specs.Forms.{AreTops}
use Rattle.path_repair.specs.Changes.{slot_at}
use Rattle.path_repair.specs.Sums.{join_below}
use Rattle.series_book.specs.declared.limits.TheConstants.{MOST_SLOTS}
use Rattle.series_catalog.specs.Catalogs.{entry_of}
use Rattle.series_catalog.specs.declared.stored_series.StoredSeries.{StoredSeries}
use Rattle.stored_book.specs.Records.{entry}
use Rattle.tree_walk.specs.declared.tree.Tree.{Tree}
use Rattle.tree_walk.specs.Trees.{top_of_page}
use Rattle.series_store.specs.Counting.{IsBadFor, IsPageCause}
use Rattle.series_store.specs.Sending.{CutsSeries, first_said, HasUnfitFrom, IsCut, IsGiven, IsTextCause, said, send_error_of, SendsCut}
use Rattle.series_store.specs.Sending.{SentBefore}
use Rattle.series_store.specs.WhereFit.{IsFitPage, IsTreeWhereFit, StandsWhereFit}
use Rattle.series_store.specs.declared.errors.StoreError.{StoreError}
use Rattle.series_store.specs.declared.errors.StoreError.TheVariants as store
use Rattle.series_store.specs.declared.send_errors.SendError.{SendError}
use Rattle.series_store.specs.declared.send_errors.SendError.TheVariants.{SendFault, DiskFault, Damaged, NoMemory}
use Rattle.series_store.proofs.FitLemmas.{child_fits, root_fits}
use Rattle.series_store.proofs.SendLemmas.{given_as, join_alike, slot_said, IsSending}
use Rattle.series_store.proofs.SeriesSendLemmas.{all_waits, given_all, past_end}

-- the index of a page is less than the slots that there may be
low_index : (index p most : ℕ) → 1 ≤ p → (index + 1) * p ≤ most → index < most
low_index index zero most some few = absurd (omega (arith, some))
low_index index (suc p) most some few = omega (arith, few)

pub near_index : (level index : ℕ) → end_slot (top_of_page level index) ≤ MOST_SLOTS → index < MOST_SLOTS
near_index level index range =
    let some : 0 < 2 = omega arith in
    let low : 0 ≤ 7 * level = omega arith in
    low_index index (2 ^ (7 * level)) MOST_SLOTS (pow-le-pow_right some low) range

-- the text of a value names no damaged page
text_cut : (e : SendError) (unfit : ℕ → ℕ → Type 0) (saying : ℕ
    → List ℕ) (first : ℕ) (sent now : Option (List ℕ)) (w w' : List ℕ) (old new : View) → IsTextCause e old new
    → IsCut e unfit saying first sent now w w'
text_cut SendFault unfit saying first sent now w w' old new cause = tt
text_cut DiskFault unfit saying first sent now w w' old new cause = absurd cause
text_cut (Damaged page) unfit saying first sent now w w' old new cause = absurd cause
text_cut NoMemory unfit saying first sent now w w' old new cause = tt

pub text_cut_by : (r : Result (Unit {0}) SendError) (unfit : ℕ → ℕ → Type 0) (saying : ℕ
    → List ℕ) (first : ℕ) (sent now : Option (List ℕ)) (w w' : List ℕ) (old new : View) → IfErr r (λ e. IsTextCause e old new)
    → IfErr r (λ e. IsCut e unfit saying first sent now w w')
text_cut_by (Ok done) unfit saying first sent now w w' old new cause = tt
text_cut_by (Err e) unfit saying first sent now w w' old new cause = text_cut e unfit saying first sent now w w' old new cause

-- before a page that wasn't read all that was said is given
pub page_cut : (error : StoreError) (told : Type 0) (old new : View) (total level below index page : ℕ) (top : Option Span) (saying : ℕ
    → List ℕ) (w : List ℕ) → told → level ≡ suc below → page ≢ 0 → IsPageCause error told old new total level page top
    → new.beside ≡ old.beside
    → IsCut (send_error_of error) (HasUnfitFrom old.image total level index page top) saying
    (first_slot (top_of_page level index)) old.beside.sent new.beside.sent w w
page_cut (store.Refused refusal) told old new total level below index page top saying w t is some cause same = tt
page_cut store.NotAStore told old new total level below index page top saying w t is some cause same = tt
page_cut store.DiskFault told old new total level below index page top saying w t is some cause same = tt
page_cut (store.Damaged at) told old new total level below index page top saying w t is some cause same =
    let first : ℕ = first_slot (top_of_page level index) in
    let U : ℕ → Type 0 = λ l. HasUnfitFrom old.image total l index page top at (first_slot (top_of_page l index)) in
    let B : ℕ → Type 0 = λ l. IsBadFor total l top (old.image page) in
    record {
      slot = first;
      from = subst U (sym is) (inl (some, cause.0, refl, subst B is (cause.1 t)));
      gives = λ front before given. given_as (front ++ join_below saying first)
          (front ++ join_below saying first) w before old.beside.sent new.beside.sent refl (ap (λ (b : Beside). b.sent) same) given;
    }
page_cut store.NoMemory told old new total level below index page top saying w t is some cause same = tt

-- a page that is unfit below a child is so below its page
unfit_from : (old mid : Image) (total total' level below index page number child at slot : ℕ) (top part : Option Span) (bytes : List ℕ)
    (spans : ℕ → Option Span) → mid ≡ old → total' ≡ total → level ≡ suc below → page ≢ 0 → child < 128
    → number ≡ child_at bytes child → part ≡ spans (127 + child) → bytes ≡ old page → AreBelow top bytes spans
    → HasUnfitFrom mid total' below (128 * index + child) number part at slot → HasUnfitFrom old total level index page top at slot
unfit_from old mid total total' level below index page number child at slot top part bytes spans same same_total is some within is_child
    is_part read split bad =
    let i : ℕ = 128 * index + child in
    let P : ℕ → Type 0 = λ l. HasUnfitFrom old total l index page top at slot in
    let I : Image → Type 0 = λ image. HasUnfitFrom image total' below i number part at slot in
    let T : ℕ → Type 0 = λ n. HasUnfitFrom old n below i number part at slot in
    let N : ℕ → Type 0 = λ n. HasUnfitFrom old total below i n part at slot in
    let S : Option Span → Type 0 = λ s. HasUnfitFrom old total below i (child_at bytes child) s at slot in
    let B : List ℕ → Type 0 = λ b. HasUnfitFrom old total below i (child_at b child) (spans (127 + child)) at slot in
    let A : List ℕ → Type 0 = λ b. AreBelow top b spans in
    subst P (sym is) (inr (
      some,
      spans,
      child,
      subst A read split,
      within,
      subst B read (subst S is_part (subst N is_child (subst T same_total (subst I same bad)))),
    ))

-- before a page below a child all is given that is said below the children before it, and below that one
child_cut_of : (has : List (Option ℤ) → ℕ → ℕ → Bool) (e : SendError) (told told' : Type 0) (old mid new under under' : View)
    (s s' : Superblock) (text : ℕ → ℤ → List ℕ) (level below index page number child : ℕ) (top part : Option Span) (bytes : List ℕ)
    (spans : ℕ → Option Span) (waiting waits later : List ℕ) (list : List (Option ℤ))
    → IsSending has told told' old mid under under' s s' text level below index page top waiting waits child → level ≡ suc below → page ≢ 0
    → child < 128 → number ≡ child_at bytes child → part ≡ spans (127 + child) → bytes ≡ old.image page → AreBelow top bytes spans
    → told → AreSlots list → IsTreeWhereFit old.image s.total list level index page → top ≡ span list (top_of_page level index)
    → IsCut e (HasUnfitFrom mid.image s'.total below (128 * index + child) number part) (said text list)
    (first_slot (top_of_page below (128 * index + child))) mid.beside.sent new.beside.sent waits later
    → IsCut e (HasUnfitFrom old.image s.total level index page top) (said text list)
    (first_slot (top_of_page level index)) old.beside.sent new.beside.sent waiting later
child_cut_of has SendFault told told' old mid new under under' s s' text level below index page number child top part bytes spans waiting
    waits later list way is some within is_child is_part read split t slots tree top_is cut = tt
child_cut_of has DiskFault told told' old mid new under under' s s' text level below index page number child top part bytes spans waiting
    waits later list way is some within is_child is_part read split t slots tree top_is cut = tt
child_cut_of has (Damaged at) told told' old mid new under under' s s' text level below index page number child top part bytes spans waiting
    waits later list way is some within is_child is_part read split t slots tree top_is cut = record {
      slot = cut.slot;
      from = unfit_from old.image mid.image s.total s'.total level below index page number child at cut.slot top part bytes spans
          (way.sends.image t) (ap (λ (x : Superblock). x.total) way.sends.superblock) is some within is_child is_part read split cut.from;
      gives = λ front before given. cut.gives front before ((way.part list t slots tree top_is).gives front before given);
    }
child_cut_of has NoMemory told told' old mid new under under' s s' text level below index page number child top part bytes spans waiting
    waits later list way is some within is_child is_part read split t slots tree top_is cut = tt

pub child_cut : (has : List (Option ℤ) → ℕ → ℕ → Bool) (e : SendError) (told told' : Type 0) (old mid new under under' : View)
    (s s' : Superblock) (text : ℕ → ℤ → List ℕ) (level below index page number child : ℕ) (top part : Option Span) (bytes : List ℕ)
    (spans : ℕ → Option Span) (waiting waits later : List ℕ) (list : List (Option ℤ))
    → IsSending has told told' old mid under under' s s' text level below index page top waiting waits child → level ≡ suc below → page ≢ 0
    → child < 128 → number ≡ child_at bytes child → part ≡ spans (127 + child) → (told → bytes ≡ old.image page)
    → AreBelow top bytes spans → (told → IsFitPage s.total level top (old.image page))
    → AreTops list below index (λ c. spans (127 + c)) → told → AreSlots list → IsTreeWhereFit old.image s.total list level index page
    → top ≡ span list (top_of_page level index)
    → ((list : List (Option ℤ)) → told' → AreSlots list → IsTreeWhereFit mid.image s'.total list below (128 * index + child) number
    → part ≡ span list (top_of_page below (128 * index + child))
    → IsCut e (HasUnfitFrom mid.image s'.total below (128 * index + child) number part) (said text list)
    (first_slot (top_of_page below (128 * index + child))) mid.beside.sent new.beside.sent waits later)
    → IsCut e (HasUnfitFrom old.image s.total level index page top) (said text list)
    (first_slot (top_of_page level index)) old.beside.sent new.beside.sent waiting later
child_cut has e told told' old mid new under under' s s' text level below index page number child top part bytes spans waiting waits later
    list way is some within is_child is_part read split fit tops t slots tree top_is cut =
    let stands = child_fits old.image mid.image s.total s'.total list level below index page number child top part bytes spans
    (way.sends.image t) (ap (λ (x : Superblock). x.total) way.sends.superblock) is some within is_child is_part (read t)
    (fit t) tops top_is tree in
    child_cut_of has e told told' old mid new under under' s s' text level below index page number child top part bytes spans waiting waits
    later list way is some within is_child is_part (read t) split t slots tree top_is
    (cut list (way.sends.told t) slots stands.tree stands.top_is)

-- ---- a tree

-- what is said of a tree's slots is said of the first so many
first_alike : (slots : ℕ) (text : ℕ → ℤ → List ℕ) (list : List (Option ℤ)) (i : ℕ) → length list ≤ slots
    → said (first_said slots text) list i ≡ said text list i
first_alike slots text list i few = elim (cases_lt i slots) [
  | inl within ↦ slot_said slots text i (slot_at list i) within
  | inr past ↦ past_end (first_said slots text) list i (omega (arith, few, past)) ∙ sym (past_end text list i (omega (arith, few, past)))
]

-- Where a page of a tree is damaged and what waits is sent, the texts of the slots before it were sent.
pub tree_cut : (text : ℕ → ℤ → List ℕ) (list : List (Option ℤ)) (image : Image) (total levels : ℕ) (e : SendError) (page : ℕ) (tree : Tree)
    (front waits later : List ℕ) (before mid now : Option (List ℕ)) → e ≡ Damaged page → levels ≡ page_levels tree.slots
    → StandsWhereFit image total tree list
    → ((list : List (Option ℤ)) → AreSlots list → IsTreeWhereFit image total list levels 0 tree.root
    → tree.span ≡ span list (top_of_page levels 0)
    → IsCut e (HasUnfitFrom image total levels 0 tree.root tree.span) (said (first_said tree.slots text) list)
    (first_slot (top_of_page levels 0)) before mid front waits)
    → ((t : List ℕ) (from : Option (List ℕ)) → IsGiven t from mid waits → IsGiven t from now later) → later ≡ []
    → SentBefore (HasUnfitFrom image total (page_levels tree.slots) 0 tree.root tree.span page) text list front before now
tree_cut text list image total levels e page tree front waits later before mid now damaged is stands cut gives none =
    let root = root_fits image total tree list levels is stands in
    let saying = said (first_said tree.slots text) list in
    let C : SendError → Type 0 = λ x. IsCut x (HasUnfitFrom image total levels 0 tree.root tree.span) saying
    (first_slot (top_of_page levels 0)) before mid front waits in
    let at = subst C damaged (cut list stands.values root.pages root.top_is) in
    let given : IsGiven (front ++ join_below saying at.slot) before mid waits = at.gives front before
    (all_waits saying (2 ^ (7 * levels)) front before) in
    let whole : now ≡ sent_after (front ++ join_below saying at.slot) before = given_all
    (front ++ join_below saying at.slot) before now later (gives (front ++ join_below saying at.slot) before given) none in
    let U : ℕ → Type 0 = λ l. HasUnfitFrom image total l 0 tree.root tree.span page at.slot in
    record {
      slot = at.slot;
      from = subst U is at.from;
      sent = whole ∙ ap (λ l. sent_after (front ++ l) before)
          (join_alike saying (said text list) at.slot (λ i within. first_alike tree.slots text list i (omega (arith, stands.slots))));
    }

-- a failed send is no damage
pub text_sent_cut : (e : SendError) (unfit : ℕ → ℕ → Type 0) (text : ℕ → ℤ
    → List ℕ) (list : List (Option ℤ)) (front : List ℕ) (before now : Option (List ℕ)) (old new : View) → IsTextCause e old new
    → SendsCut e unfit text list front before now
text_sent_cut SendFault unfit text list front before now old new cause = tt
text_sent_cut DiskFault unfit text list front before now old new cause = absurd cause
text_sent_cut (Damaged page) unfit text list front before now old new cause = absurd cause
text_sent_cut NoMemory unfit text list front before now old new cause = tt

pub text_sent_cut_by : (r : Result (Unit {0}) SendError) (unfit : ℕ → ℕ → Type 0) (text : ℕ → ℤ
    → List ℕ) (list : List (Option ℤ)) (front : List ℕ) (before now : Option (List ℕ)) (old new : View)
    → IfErr r (λ e. IsTextCause e old new) → IfErr r (λ e. SendsCut e unfit text list front before now)
text_sent_cut_by (Ok done) unfit text list front before now old new cause = tt
text_sent_cut_by (Err e) unfit text list front before now old new cause = text_sent_cut e unfit text list front before now old new cause

-- an error that isn't damage
pub other_cut : (e : SendError) (unfit : ℕ → ℕ → Type 0) (text : ℕ → ℤ
    → List ℕ) (list : List (Option ℤ)) (front : List ℕ) (before now : Option (List ℕ)) → ((page : ℕ) → e ≡ Damaged page → ⊥)
    → SendsCut e unfit text list front before now
other_cut SendFault unfit text list front before now other = tt
other_cut DiskFault unfit text list front before now other = tt
other_cut (Damaged page) unfit text list front before now other = absurd (other page refl)
other_cut NoMemory unfit text list front before now other = tt

-- so it is by the record of a series, and by what the stream tells
cut_told : (e : SendError) (image : Image) (total id : ℕ) (one : StoredSeries) (text : ℕ → ℤ
    → List ℕ) (list : List (Option ℤ)) (front : List ℕ) (before before' now now' : Option (List ℕ)) → entry image id ≡ entry_of one
    → before ≡ before' → now ≡ now'
    → SendsCut e (HasUnfitFrom image total (page_levels one.tree.slots) 0 one.tree.root one.tree.span) text list front before now
    → CutsSeries e image total id text list front before' now'
cut_told e image total id one text list front before before' now now' told same same' cut =
    let E : Entry → Type 0 = λ x. SendsCut e (HasUnfitFrom image total (page_levels x.slots) 0 x.root x.span) text list front before' now'
    in
    let P : Option (List ℕ) → Type 0 = λ o. SendsCut e
    (HasUnfitFrom image total (page_levels one.tree.slots) 0 one.tree.root one.tree.span) text list front o now' in
    let Q : Option (List ℕ) → Type 0 = λ o. SendsCut e
    (HasUnfitFrom image total (page_levels one.tree.slots) 0 one.tree.root one.tree.span) text list front before o in
    subst E (sym told) (subst P same (subst Q same' cut))

pub cut_told_by : (r : Result (Unit {0}) SendError) (image : Image) (total id : ℕ) (one : StoredSeries) (text : ℕ → ℤ
    → List ℕ) (list : List (Option ℤ)) (front : List ℕ) (before before' now now' : Option (List ℕ)) → entry image id ≡ entry_of one
    → before ≡ before' → now ≡ now'
    → IfErr r (λ e. SendsCut e (HasUnfitFrom image total (page_levels one.tree.slots) 0 one.tree.root one.tree.span) text list front before
    now) → IfErr r (λ e. CutsSeries e image total id text list front before' now')
cut_told_by (Ok done) image total id one text list front before before' now now' told same same' cut = tt
cut_told_by (Err e) image total id one text list front before before' now now' told same same' cut = cut_told e image total id one text list
    front before before' now now' told same same' cut
