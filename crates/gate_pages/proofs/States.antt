-- What a crash makes of the blocks in each step of a commit and of a recovery.
use Rattle.std.proofs.Common.{◌≡◌, ℕ, suc, ◌+◌, ◌-◌, ◌<◌, ◌≤◌, ◌⊎◌, Bool, true, false, cond, List, [], ◌∷◌, length, Some, None, refl, sym}
use Rattle.std.proofs.Common.{ap, subst, arith, inl, inr, ◌∙◌, IsTrue, rules}
use Rattle.std.proofs.lemmas.List.{length-map}
use Rattle.std.proofs.Math.Path.{fun_ext}
use Rattle.block_disk.specs.View.{Image, SameOff, At}
use Rattle.gate_pages.specs.Batch.{Entry, put_all, numbers, is_one_of}
use Rattle.gate_pages.specs.Journal.{home, is_open, directory, images, replayed, pages_of}
use Rattle.gate_pages.specs.GateLaws.{closed_readable}
use Rattle.gate_pages.specs.GatePages.{IsReadable}
use Rattle.gate_pages.specs.Pages.{BeforeOrAfter}
use Rattle.gate_pages.specs.Steps.{IsJournal, IsHome}
use Rattle.gate_pages.proofs.Puts.{put_twice, put_same, not_one_of}

not_both : (b : Bool) → b ≡ false → IsTrue b → ⊥
not_both true = λ nope is. search rules
not_both false = λ nope is. search rules

-- with a closed gate the pages are as they lie
pub closed_pages : (count : ℕ) (image : Image) → is_open (image 0) ≡ false → pages_of count image ≡ home image
closed_pages count image shut = ap (λ b. cond b (replayed (directory count (image 1)) image) (home image)) shut

-- an image stands for these pages, and its journal can be read
pub record Gives (count : ℕ) (image pages : Image) : Type 0 where
  pub readable : IsReadable count image
  pub stands : pages_of count image ≡ pages

pub gives_same : (count : ℕ) (image pages pages' : Image) → Gives count image pages → pages ≡ pages' → Gives count image pages'
gives_same count image pages pages' gives same = subst (Gives count image) same gives

pub closed_gives : (count : ℕ) (image : Image) → is_open (image 0) ≡ false → Gives count image (home image)
closed_gives count image shut = record { readable = closed_readable count image shut; stands = closed_pages count image shut }

some_is_none : (count : ℕ) (image : Image) (ns : List ℕ) → directory count (image 1) ≡ Some ns → IsReadable count image
some_is_none count image ns is broken = let both : Some ns ≡ None = sym is ∙ broken.layout in cc

-- with an open gate they are replayed
pub open_gives : (count : ℕ) (image : Image) (ns : List ℕ) → is_open (image 0) ≡ true → directory count (image 1) ≡ Some ns
    → Gives count image (replayed (Some ns) image)
open_gives count image ns is_opened is = record {
  readable = some_is_none count image ns is;
  stands = ap (λ b. cond b (replayed (directory count (image 1)) image) (home image)) is_opened ∙ ap (λ o. replayed o image) is;
}

-- the images of the journal are those of the same blocks
pub images_same : (ns : List ℕ) (block : ℕ) (image image' : Image)
    → ((number : ℕ) → block ≤ number → number < block + length ns → image' number ≡ image number)
    → images ns block image' ≡ images ns block image
images_same [] block image image' same = refl
images_same (n ∷ ns) block image image' same =
    ap (λ (page : List ℕ). (n, page) ∷ images ns (block + 1) image') (same block (omega arith) (omega arith))
    ∙ ap (λ (l : List Entry). (n, image block) ∷ l)
    (images_same ns (block + 1) image image' (λ number low high. same number (omega (arith, low)) (omega (arith, high))))

pub numbers_images : (ns : List ℕ) (block : ℕ) (image : Image) → numbers (images ns block image) ≡ ns
numbers_images [] block image = refl
numbers_images (n ∷ ns) block image = ap (λ (l : List ℕ). n ∷ l) (numbers_images ns (block + 1) image)

pub length_images : (ns : List ℕ) (block : ℕ) (image : Image) → length (images ns block image) ≡ length ns
length_images [] block image = refl
length_images (n ∷ ns) block image = ap suc (length_images ns (block + 1) image)

-- the journal holds a batch, and the pages lie so
pub record Staged (count : ℕ) (batch : List Entry) (pages image : Image) : Type 0 where
  pub listed : directory count (image 1) ≡ Some (numbers batch)
  pub images_are : images (numbers batch) 2 image ≡ batch
  pub lies : home image ≡ pages

module _ (count : ℕ) (batch : List Entry) (few : length batch ≤ 64) where
  -- the journal and the pages stay where their blocks do
  pub staged_kept : (pages pages' image image' : Image) → Staged count batch pages image
      → ((number : ℕ) → 1 ≤ number → number < 66 → image' number ≡ image number) → home image' ≡ pages' → Staged count batch pages' image'
  staged_kept pages pages' image image' staged same lies = record {
    listed = ap (λ block. directory count block) (same 1 (omega arith) (omega arith)) ∙ staged.listed;
    images_are = images_same (numbers batch) 2 image image'
        (λ number low high. same number (omega (arith, low)) (omega (arith, high, few, length-map batch (λ (entry : Entry). entry.0))))
        ∙ staged.images_are;
    lies = lies;
  }

  -- with an open gate
  pub staged_open : (pages image : Image) → Staged count batch pages image → is_open (image 0) ≡ true
      → Gives count image (put_all batch pages)
  staged_open pages image staged is_opened =
      gives_same count image (replayed (Some (numbers batch)) image) (put_all batch pages)
      (open_gives count image (numbers batch) is_opened staged.listed)
      (ap (λ (l : List Entry). put_all l (home image)) staged.images_are ∙ ap (λ (i : Image). put_all batch i) staged.lies)

  home_gate : (pages image image' : Image) → Staged count batch pages image → SameOff (At 0) image image' → home image' ≡ pages
  home_gate pages image image' staged same = fun_ext (λ page. same (page + 66) (λ is. absurd (omega (arith, is)))) ∙ staged.lies

  pub staged_gate : (pages image image' : Image) → Staged count batch pages image → SameOff (At 0) image image'
      → Staged count batch pages image'
  staged_gate pages image image' staged same =
      staged_kept pages pages image image' staged (λ number low high. same number (λ is. absurd (omega (arith, is, low))))
      (home_gate pages image image' staged same)

  -- while the gate is written
  pub in_gate : (pages image image' : Image) → Staged count batch pages image → SameOff (At 0) image image'
      → Gives count image' pages ⊎ Gives count image' (put_all batch pages)
  in_gate pages image image' staged same = by (is_open (image' 0)) refl
    where
      by : (is_opened : Bool) → is_open (image' 0) ≡ is_opened → Gives count image' pages ⊎ Gives count image' (put_all batch pages)
      by false shut = inl (gives_same count image' (home image') pages (closed_gives count image' shut)
          (home_gate pages image image' staged same))
      by true is_opened = inr (staged_open pages image' (staged_gate pages image image' staged same) is_opened)

  -- while the gate is written behind pages that have the batch already
  pub in_closing : (pages image image' : Image) → Staged count batch (put_all batch pages) image → SameOff (At 0) image image'
      → Gives count image' (put_all batch pages)
  in_closing pages image image' staged same = elim (in_gate (put_all batch pages) image image' staged same) [
    | inl before ↦ before
    | inr after ↦ gives_same count image' (put_all batch (put_all batch pages)) (put_all batch pages) after (put_twice batch pages)
  ]

  -- while the pages are written home
  pub put_torn : (image image' : Image) → SameOff (IsHome (numbers batch)) image image'
      → put_all batch (home image') ≡ put_all batch (home image)
  put_torn image image' same = put_same batch (home image) (home image') (λ page none. same (page + 66) (λ is.
      let back : page + 66 - 66 ≡ page = omega arith in
      let P : ℕ → Type 0 = λ n. IsTrue (is_one_of (numbers batch) n) in
      not_both (is_one_of (numbers batch) page) (not_one_of batch page none) (subst P back is.1)))

  pub staged_home : (pages pages' image image' : Image) → Staged count batch pages image → SameOff (IsHome (numbers batch)) image image'
      → home image' ≡ pages' → Staged count batch pages' image'
  staged_home pages pages' image image' staged same lies =
      staged_kept pages pages' image image' staged (λ number low high. same number (λ is. absurd (omega (arith, is.0, high)))) lies

  pub gate_kept : (image image' : Image) → SameOff (IsHome (numbers batch)) image image' → is_open (image' 0) ≡ is_open (image 0)
  gate_kept image image' same = ap is_open (same 0 (λ is. absurd (omega (arith, is.0))))

  pub in_home : (pages image image' : Image) → Staged count batch pages image → is_open (image 0) ≡ true
      → SameOff (IsHome (numbers batch)) image image' → Gives count image' (put_all batch pages)
  in_home pages image image' staged is_opened same =
      gives_same count image' (put_all batch (home image')) (put_all batch pages)
      (staged_open (home image') image' (staged_home pages (home image') image image' staged same refl) (gate_kept image image' same
      ∙ is_opened))
      (put_torn image image' same ∙ ap (λ (i : Image). put_all batch i) staged.lies)

-- while the journal is written
pub in_stage : (count : ℕ) (image image' : Image) → is_open (image 0) ≡ false → SameOff IsJournal image image'
    → Gives count image' (home image)
in_stage count image image' shut same =
    gives_same count image' (home image') (home image)
    (closed_gives count image' (ap is_open (same 0 (λ is. absurd (omega (arith, is.0)))) ∙ shut))
    (fun_ext (λ page. same (page + 66) (λ is. absurd (omega (arith, is.1)))))

pub stage_home : (image image' : Image) → SameOff IsJournal image image' → home image' ≡ home image
stage_home image image' same = fun_ext (λ page. same (page + 66) (λ is. absurd (omega (arith, is.1))))

pub before_or_after : (batch : List Entry) (pages pages' image : Image) → pages' ≡ pages → BeforeOrAfter batch pages image
    → BeforeOrAfter batch pages' image
before_or_after batch pages pages' image same which = let P : Image → Type 0 = λ i. BeforeOrAfter batch i image in subst P (sym same) which
