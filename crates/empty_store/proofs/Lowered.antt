-- What is known of pages, of their disk.
use Rattle.std.proofs.Common.{◌≡◌, ℕ, Result, Ok, Err, IfErr, sym, ap, subst, ◌∙◌}
use Rattle.block_disk.specs.declared.back.Back.{Back}
use Rattle.block_disk.specs.declared.disk.Disk.{Ghosts}
use Rattle.gate_pages.specs.declared.gate_pages.GatePages.{GatePages}
use Rattle.block_disk.specs.View.{Image, View, Honest, Moves, Nowhere}
use Rattle.gate_pages.specs.Journal.{page_count, pages_of}
use Rattle.gate_pages.proofs.Moving.{untouched}
use Rattle.empty_store.specs.Causes.{given, lowered}
use Rattle.empty_store.specs.Stores.{KeepsPages}
use Rattle.empty_store.specs.declared.errors.InitCause.{InitCause}
use Rattle.empty_store.specs.declared.errors.InitCause.TheVariants.{NoMemory}

pub given_of : {D : Type 0} {disk : Ghosts D} (made : Result (GatePages D disk) (Back (GatePages D disk) InitCause))
    (result : Result D (Back D InitCause)) → result ≡ lowered made → (given made).disk ≡ given result
given_of (Ok pages) result is = ap given (sym is)
given_of (Err back) result is = ap given (sym is)

-- calls that touch nothing come before
pub kept_back : (reads syncs writes : ℕ) (old mid new : View) → Moves Nowhere reads syncs writes old mid → KeepsPages mid new
    → KeepsPages old new
kept_back reads syncs writes old mid new moves kept = λ honest.
    ap (λ n. pages_of (page_count n) new.image) (sym moves.size)
    ∙ kept (moves.honest honest)
    ∙ ap (λ n. pages_of (page_count n) mid.image) moves.size
    ∙ ap (λ (image : Image). pages_of (page_count old.size) image) (untouched reads syncs writes old mid moves honest)

-- where pages stay for want of memory, so do those of the disk
pub kept_lowered : {D : Type 0} {disk : Ghosts D} (old : View) (mid : GatePages D disk)
    (made : Result (GatePages D disk) (Back (GatePages D disk) InitCause)) (result : Result D (Back D InitCause)) → result ≡ lowered made
    → mid.count ≡ page_count old.size → (given made).count ≡ mid.count → (Honest old → Honest (disk.view mid.disk))
    → (Honest old → pages_of mid.count (disk.view mid.disk).image ≡ pages_of mid.count old.image)
    → IfErr made (λ back. back.cause ≡ NoMemory → Honest (disk.view mid.disk)
    → pages_of back.value.count (disk.view back.value.disk).image ≡ pages_of mid.count (disk.view mid.disk).image)
    → IfErr result (λ back. back.cause ≡ NoMemory → KeepsPages old (disk.view back.value))
kept_lowered {D} {disk} old mid (Ok pages) result is count_is same honest stood kept =
    let R : Result D (Back D InitCause) → Type 0 = λ r. IfErr r (λ back. back.cause ≡ NoMemory → KeepsPages old (disk.view back.value)) in
    subst R (sym is) tt
kept_lowered {D} {disk} old mid (Err back) result is count_is same honest stood kept =
    let R : Result D (Back D InitCause) → Type 0 = λ r. IfErr r (λ back. back.cause ≡ NoMemory → KeepsPages old (disk.view back.value)) in
    subst R (sym is) (λ none told.
    ap (λ n. pages_of n (disk.view back.value.disk).image) (sym (same ∙ count_is))
    ∙ kept none (honest told)
    ∙ stood told
    ∙ ap (λ n. pages_of n old.image) count_is)

-- pages that were handed back as they were given are what they were
pub memory_kept : {D : Type 0} {disk : Ghosts D} (mid : GatePages D disk)
    (made : Result (GatePages D disk) (Back (GatePages D disk) InitCause)) → IfErr made (λ back. back.cause ≡ NoMemory → back.value ≡ mid)
    → IfErr made (λ back. back.cause ≡ NoMemory → Honest (disk.view mid.disk)
    → pages_of back.value.count (disk.view back.value.disk).image ≡ pages_of mid.count (disk.view mid.disk).image)
memory_kept {D} {disk} mid (Ok pages) same = tt
memory_kept {D} {disk} mid (Err back) same = λ none told.
    ap (λ (pages : GatePages D disk). pages_of pages.count (disk.view pages.disk).image) (same none)
