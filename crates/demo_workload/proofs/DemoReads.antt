-- How many blocks a demo reads over a store, by what its requests read.
use Rattle.std.proofs.Common.{ℕ, ◌≡◌, ◌≤◌, ◌+◌, List, subst, arith}
use Rattle.block_disk.specs.View.{Honest, View}
use Rattle.gate_pages.specs.Journal.{page_count, pages_of}
use Rattle.request_lines.specs.declared.requests.Request.{Request}
use Rattle.series_book.specs.declared.one_series.Series.{Series}
use Rattle.disk_store.specs.Openings.{Opens}
use Rattle.stored_book.specs.Standing.{StandsForBook}
use Rattle.store_commands.specs.Books.{OfBook}
use Rattle.store_commands.proofs.Held.{RestsNew, held, stands_held}
use Rattle.demo_workload.specs.Reading.{ReadsDemo, ReadsRequests, most_reads}
use Rattle.demo_workload.specs.Workload.{workload}
use Rattle.demo_workload.proofs.FewReads.{workload_reads}

-- no request was answered
pub few_none : (requests : List Request) (count : ℕ) (at : View) → ReadsRequests requests count at at
few_none requests count at = λ total book holds. omega arith

-- what is read where the pages stand for a book is read where the disk holds it
pub few_over : (requests : List Request) (count : ℕ) (old new : View) → RestsNew count old
    → ((total : ℕ) (book : List Series) → Honest old → StandsForBook (pages_of count old.image) total book
    → new.reads ≤ old.reads + most_reads requests) → ReadsRequests requests count old new
few_over requests count old new rests few = λ total book holds. few total book holds.honest (stands_held count total book old rests holds)

-- no more than an opening
pub reads_opening : (rounds : ℕ) (old new : View) → Opens (page_count old.size) old new
    → OfBook (page_count old.size) old (λ total book. ReadsDemo rounds old new)
reads_opening rounds old new opens = λ total book holds. omega (arith, opens.reads.high)

-- and requests behind it
pub reads_behind : (seed rounds count : ℕ) (old mid new : View) → count ≡ page_count old.size → Opens (page_count old.size) old mid
    → ReadsRequests (workload seed rounds) count mid new
    → OfBook (page_count old.size) old (λ total book. ReadsDemo rounds old new)
reads_behind seed rounds count old mid new counted opens few = λ total book holds.
    let C : ℕ → Type 0 = λ n. ReadsRequests (workload seed rounds) n mid new in
    let read : new.reads ≤ mid.reads + most_reads (workload seed rounds) = subst C counted few total book
    (held old mid opens total book holds) in
    omega (arith, opens.reads.high, read, workload_reads seed rounds)
