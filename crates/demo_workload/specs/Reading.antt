-- How many blocks the requests of a workload read.
use Rattle.std.specs.Prelude.{ℕ, ◌+◌, ◌*◌, ◌/◌, ◌≤◌, List, [], ◌∷◌}
use Rattle.block_disk.specs.View.{View}
use Rattle.request_lines.specs.declared.requests.Request.{Request}
use Rattle.request_lines.specs.declared.requests.Request.TheVariants.{Edit, Open, View as ViewRequest, Zoom, Pan, Close}
use Rattle.store_commands.specs.Books.{OfBook}

-- the most blocks that an edit reads
abbrev pub edit_reads : ℕ
edit_reads = 96

-- and that a view on 640 columns without a filter reads, whatever its series stores: a tree has at most 35 levels
abbrev pub view_reads : ℕ
view_reads = (4 * 640 + 4) * 35

-- the most blocks that a request of a workload reads, whose views have 640 columns and no filter
abbrev pub most_of : Request → ℕ
most_of (Edit edit) = edit_reads
most_of (Open number cache) = 0
most_of (ViewRequest number name w h t0 t1 word text) = view_reads
most_of (Zoom number t0 t1) = view_reads
most_of (Pan number by) = view_reads
most_of (Close number) = 0

-- and requests
abbrev pub most_reads : List Request → ℕ
most_reads [] = 0
most_reads (request ∷ later) = most_of request + most_reads later

-- so few blocks are read where the disk holds a book
abbrev pub ReadsRequests : List Request → ℕ → View → View → Type 0
ReadsRequests requests count old new = OfBook count old (λ total book. new.reads ≤ old.reads + most_reads requests)

-- Behind an opening, which reads at most 200 blocks, the series is created, each round appends, each fourth one sets a slot
-- and each eighth one views.
abbrev pub ReadsDemo : ℕ → View → View → Type 0
ReadsDemo rounds old new = new.reads ≤ old.reads + 200 + edit_reads * (1 + rounds + rounds / 4) + view_reads * (rounds / 8)
