-- Takes and sends in a row leave the book that the disk holds.
use Rattle.std.proofs.Common.{◌≡◌, ℕ, inl, inr, subst, arith}
use Rattle.std.proofs.lemmas.Bool.{cases_lt}
use Rattle.block_disk.specs.View.{View, Now}
use Rattle.block_disk.proofs.Passing.{Between, now_back}
use Rattle.gate_pages.specs.GateLaws.{goes_by, kept_told}
use Rattle.gate_pages.specs.Journal.{page_count}
use Rattle.stored_book.specs.Standing.{RecoversTo}
use Rattle.disk_store.specs.Held.{HoldsBook}
use Rattle.store_commands.specs.Books.{HoldsAgain, LeavesSame, OfBook}
use Rattle.chart_service.specs.Moments.{Since}
use Rattle.chart_service.specs.MomentLaws.{since_so}
use Rattle.draw_command.specs.Alone.{StaysAlone}

-- at each moment a crash leaves what it might have left at the start
alone_since : (old new : View) → StaysAlone old new → Since old new (λ image sent. Now old image)
alone_since old new alone = record {
  goes = goes_by old new (Now old) (Between old new) alone.time;
  here = λ at image low high left. elim (cases_lt old.clock at) [
    | inl late ↦ alone.time.here at image late high left
    | inr early ↦
        let same : at ≡ old.clock = omega (arith, low, early) in
        let P : ℕ → Type 0 = λ t. old.crash t image in
        subst P same (alone.time.past at image early left)
  ];
}

pub alone_leaves : (old new : View) → StaysAlone old new → LeavesSame (page_count old.size) old new
alone_leaves old new alone = λ total book holds.
    since_so old new (λ image sent. Now old image) (λ image sent. RecoversTo (page_count old.size) image total book)
    (λ image sent left. holds.images image left) (alone_since old new alone)

-- and the disk holds the book afterwards
pub alone_keeps : (old new : View) → StaysAlone old new
    → OfBook (page_count old.size) old (λ total book. HoldsBook (page_count old.size) total book new)
alone_keeps old new alone = λ total book holds. record {
  honest = kept_told old new alone.kept holds.honest;
  images = λ image left. holds.images image (now_back old new (Between old new) alone.time image left);
}

pub alone_holds : (old new : View) → StaysAlone old new → HoldsAgain (page_count old.size) old new
alone_holds old new alone = λ total book holds. (book, alone_keeps old new alone total book holds)
