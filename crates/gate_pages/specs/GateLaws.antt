-- What is known of pages by what is known of their disk.
use Rattle.std.proofs.Common.{◌≡◌, ℕ, arith, Bool, true, false, refl, sym, ap, subst, ◌∙◌}
use Rattle.block_disk.specs.View.{Image, View, Now, Honest, Only, Passes, DiskKept}
use Rattle.block_disk.proofs.Passing.{now_back}
use Rattle.gate_pages.specs.GatePages.{PagesOf, IsReadable, IsClosed, pages_view}
use Rattle.gate_pages.specs.Journal.{is_open, pages_of}
use Rattle.gate_pages.specs.Pages.{GoesOn}

-- a closed gate hides no journal
pub closed_readable : (count : ℕ) (image : Image) → is_open (image 0) ≡ false → IsReadable count image
closed_readable count image shut broken = let both : true ≡ false = sym broken.gate ∙ shut in cc

-- on a disk at rest a crash leaves the pages
pub gate_rests : (count : ℕ) (disk : View) → IsClosed disk → (pages : Image) → PagesOf count (Now disk) pages
    → pages ≡ pages_of count disk.image
gate_rests count disk closed pages left =
    let is = closed.only left.from left.was in
    let readable = closed_readable count disk.image (closed.gate (subst (Now disk) is left.was)) in
    left.same (subst (IsReadable count) (sym is) readable) ∙ ap (λ image. pages_of count image) is

-- and where it leaves some, reads give them
pub gate_tells : (count : ℕ) (disk : View) → Only disk.image (Now disk) → {pages : Image} → PagesOf count (Now disk) pages → Honest disk
gate_tells count disk only left = subst (Now disk) (only left.from left.was) left.was

-- no time at all
pub goes_none : (at : View) → GoesOn at at
goes_none at = record {
  later = omega arith;
  past = λ time image within left. left;
  kept = λ time image within left. left;
  sent_past = λ time within. refl;
}

-- calls whose moments are known
pub goes_by : (old new : View) (images : Image → Type 0) (sent : ℕ → Type 0) → Passes old new images sent → GoesOn old new
goes_by old new images sent passes = record { later = passes.later; past = passes.past; kept = passes.kept; sent_past = passes.sent_past }

-- one call after another
pub goes_then : (old mid new : View) → GoesOn old mid → GoesOn mid new → GoesOn old new
goes_then old mid new first second = record {
  later = omega (arith, first.later, second.later);
  past = λ time image within left. first.past time image within (second.past time image (omega (arith, within, first.later)) left);
  kept = λ time image within left. second.kept time image (omega (arith, within, first.later)) (first.kept time image within left);
  sent_past = λ time within. second.sent_past time (omega (arith, within, first.later)) ∙ first.sent_past time within;
}

-- what leaves the disk leaves the pages
pub kept_pages : (count count' : ℕ) (sound sound' : Bool) (old new : View) → count' ≡ count → sound' ≡ sound → DiskKept old new
    → DiskKept (pages_view count sound old) (pages_view count' sound' new)
kept_pages count count' sound sound' old new same same_sound kept =
    let P : ℕ → Type 0 = λ n. DiskKept (pages_view count sound old) (pages_view n sound' new) in
    let Q : Bool → Type 0 = λ b. DiskKept (pages_view count sound old) (pages_view count b new) in
    subst P (sym same) (subst Q (sym same_sound) (record {
      now = λ pages left. record { from = left.from; was = kept.now left.from left.was; same = left.same };
      size = refl;
      image = ap (λ image. pages_of count image) kept.image;
      faults = kept.faults;
      reads = kept.reads;
      syncs = kept.syncs;
      writes = kept.writes;
      fit = λ fit. fit;
    }))

-- reads still give what is there
pub kept_told : (old new : View) → DiskKept old new → Honest old → Honest new
kept_told old new kept honest = subst (Now new) (sym kept.image) (kept.now old.image honest)

pub kept_was_told : (old new : View) (sent : ℕ → Type 0) → DiskKept old new → Passes old new (Now old) sent → Honest new → Honest old
kept_was_told old new sent kept passes honest = now_back old new sent passes old.image (subst (Now new) kept.image honest)

-- the moments of a disk are moments of its pages
pub passes_pages : (count count' : ℕ) (sound sound' : Bool) (old new : View) (sent : ℕ → Type 0) → count' ≡ count
    → Passes old new (Now old) sent → Passes (pages_view count sound old) (pages_view count' sound' new) (PagesOf count (Now old)) sent
passes_pages count count' sound sound' old new sent same passes =
    let P : ℕ → Type 0 = λ n. Passes (pages_view count sound old) (pages_view n sound' new) (PagesOf count (Now old)) sent in
    subst P (sym same) (record {
      later = passes.later;
      past = λ time pages within left. record { from = left.from; was = passes.past time left.from within left.was; same = left.same };
      kept = λ time pages within left. record { from = left.from; was = passes.kept time left.from within left.was; same = left.same };
      here = λ time pages low high left. record { from = left.from; was = passes.here time left.from low high left.was; same = left.same };
      sent_past = passes.sent_past;
      sent_here = passes.sent_here;
    })

pub pages_passes : (count : ℕ) (sound sound' : Bool) (old new : View) (images : Image → Type 0) (sent : ℕ → Type 0)
    → Passes old new (λ image. IsReadable count image × images (pages_of count image)) sent
    → Passes (pages_view count sound old) (pages_view count sound' new) images sent
pages_passes count sound sound' old new images sent passes = record {
  later = passes.later;
  past = λ time pages within left. record { from = left.from; was = passes.past time left.from within left.was; same = left.same };
  kept = λ time pages within left. record { from = left.from; was = passes.kept time left.from within left.was; same = left.same };
  here = λ time pages low high left.
      let found = passes.here time left.from low high left.was in
      subst images (sym (left.same found.0)) found.1;
  sent_past = passes.sent_past;
  sent_here = passes.sent_here;
}
