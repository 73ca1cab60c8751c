-- The moments of a recovery.
use Rattle.std.proofs.Common.{◌≡◌, ℕ, ◌≤◌, true, List, length, Some, refl, sym, ap, subst, ◌∙◌}
use Rattle.block_disk.specs.View.{Image, View, Now, Honest, Only, Passes, Moves, Nowhere}
use Rattle.block_disk.proofs.Passing.{passes_none, passes_weaker}
use Rattle.gate_pages.specs.Batch.{put_all, numbers}
use Rattle.gate_pages.specs.GatePages.{StandsAsBefore}
use Rattle.gate_pages.specs.Journal.{home, is_open, directory, images}
use Rattle.gate_pages.specs.Pages.{Quiet}
use Rattle.gate_pages.specs.Steps.{IsHome}
use Rattle.gate_pages.proofs.Moving.{moves_now, nothing_torn}
use Rattle.gate_pages.proofs.Redoing.{Way, Opened}
use Rattle.gate_pages.proofs.States.{Staged, Gives, staged_open, numbers_images}

module _ (count : ℕ) (ns : List ℕ) (start : View) (is_opened : Honest start → is_open (start.image 0) ≡ true) (listed : Honest start
    → directory count (start.image 1) ≡ Some ns) where
  staged : Honest start → Staged count (images ns 2 start.image) (home start.image) start.image
  staged honest =
      let same = numbers_images ns 2 start.image in
      record {
        listed = listed honest ∙ ap (λ (l : List ℕ). Some l) (sym same);
        images_are = ap (λ l. images l 2 start.image) same;
        lies = refl;
      }

  pub told : (few : length (images ns 2 start.image) ≤ 64) → Honest start
      → Gives count start.image (put_all (images ns 2 start.image) (home start.image))
  told few honest = staged_open count (images ns 2 start.image) few (home start.image) start.image (staged honest) (is_opened honest)

  pub after : (few : length (images ns 2 start.image) ≤ 64) (image : Image) → Honest start
      → Gives count image (put_all (images ns 2 start.image) (home start.image)) → StandsAsBefore count start image
  after few image honest gives =
      record { from = start.image; was = honest; same = gives.stands ∙ sym (told few honest).stands; readable = λ any. gives.readable }

  pub begun : (few : length (images ns 2 start.image) ≤ 64) → Only start.image (Now start)
      → Way count (images ns 2 start.image) few start (StandsAsBefore count start) (home start.image)
      (Opened count (images ns 2 start.image) (home start.image)) start
  begun few only = record {
    time = passes_none start (StandsAsBefore count start) (Quiet start);
    back = λ honest. honest;
    rests = record { only = only; is = λ honest. record { staged = staged honest; gate = is_opened honest } };
  }

-- the blocks of the pages are those of the batch's numbers
pub same_homes : (ns : List ℕ) (image : Image) (reads syncs writes : ℕ) (old new : View) → Moves (IsHome ns) reads syncs writes old new
    → Moves (IsHome (numbers (images ns 2 image))) reads syncs writes old new
same_homes ns image reads syncs writes old new moves =
    let P : List ℕ → Type 0 = λ l. Moves (IsHome l) reads syncs writes old new in
    subst P (sym (numbers_images ns 2 image)) moves

-- calls that touch nothing leave the pages
pub stands_quiet : (count reads syncs writes : ℕ) (old new : View) → Moves Nowhere reads syncs writes old new
    → Passes old new (StandsAsBefore count old) (Quiet old)
stands_quiet count reads syncs writes old new moves =
    passes_weaker old new _ (StandsAsBefore count old) (Quiet old) (Quiet old)
    (λ image torn. record { from = image; was = nothing_torn (Now old) image torn; same = refl; readable = λ is. is })
    (λ sent quiet. quiet) moves.time

-- and what stood as after them stood as before them
pub stands_back : (count reads syncs writes : ℕ) (old mid : View) (image : Image) → Moves Nowhere reads syncs writes old mid
    → StandsAsBefore count mid image → StandsAsBefore count old image
stands_back count reads syncs writes old mid image moves stands = record {
  from = stands.from;
  was = nothing_torn (Now old) stands.from (moves_now Nowhere reads syncs writes old mid stands.from moves stands.was);
  same = stands.same;
  readable = stands.readable;
}
