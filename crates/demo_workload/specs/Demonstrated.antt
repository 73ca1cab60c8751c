-- How the workload of a seed ends over the disk's store.
use Rattle.std.specs.Prelude.{◌≡◌, ℕ, ◌+◌, ◌*◌, ◌<◌, ◌≤◌, List, ◌++◌, Option}
use Rattle.block_disk.specs.Counts.{HasRisen}
use Rattle.block_disk.specs.Streams.{sent_after}
use Rattle.block_disk.specs.View.{Honest, Image, View, sent_now}
use Rattle.chart_client.specs.declared.errors.ClientError.TheVariants as client
use Rattle.chart_frames.specs.declared.frame.Frame.{Frame}
use Rattle.gate_pages.specs.GatePages.{IsReadable}
use Rattle.gate_pages.specs.Journal.{page_count}
use Rattle.gate_pages.specs.Pages.{GoesOn}
use Rattle.request_lines.specs.declared.requests.Request.{Request}
use Rattle.stored_book.specs.Damage.{IsBadForRequest}
use Rattle.stored_book.specs.Standing.{StandsForBook, KeepsOldStore, book_pages}
use Rattle.chart_service.specs.Moments.{Since}
use Rattle.chart_service.specs.State.{State}
use Rattle.demo_workload.specs.declared.summaries.Summary.{Summary}
use Rattle.demo_workload.specs.Ending.{MeetsKey}
use Rattle.demo_workload.specs.Reading.{ReadsDemo}
use Rattle.demo_workload.specs.Replying.{AnswersEach, Summarizes, IsPartWay}
use Rattle.demo_workload.specs.Summaries.{summary_line}
use Rattle.demo_workload.specs.Workload.{workload}
use Rattle.run_ends.specs.Statuses.{block_of}
use Rattle.run_ends.specs.declared.ending.End.{End}
use Rattle.run_ends.specs.declared.ending.End.TheVariants.{Done, NoMemory, SendFault, DamagedPage, Missing, BadCoefficient}
use Rattle.store_commands.specs.Damaged.{IsDamagedLater}
use Rattle.store_commands.specs.Unopened.{IsUnopenedEnd}
use Rattle.store_commands.specs.Books.{OfBook, FromBook, Never, SendsPartOf, begun}

-- all requests were answered, and their summary was sent
pub record SendsSummary (requests : List Request) (start state : State) (before now : Option (List ℕ)) : Type 0 where
  pub summary : Summary
  pub sums : Summarizes requests start state summary
  pub sent : now ≡ sent_after (summary_line summary) before

-- the same, of which the first bytes were sent
pub record SendsSummaryPart (requests : List Request) (start state : State) (before now : Option (List ℕ)) : Type 0 where
  pub summary : Summary
  pub sums : Summarizes requests start state summary
  pub sent : SendsPartOf (summary_line summary) before now

-- some first requests were answered
pub record AnswersFirst (requests : List Request) (start state : State) : Type 0 where
  pub first : List Request
  pub rest : List Request
  pub split : requests ≡ first ++ rest
  pub frames : List Frame
  pub answered : AnswersEach start first frames state

-- The image recovers to the book behind some first requests; once a byte of the summary was sent, behind all.
pub record IsAheadDemo (requests : List Request) (count total : ℕ) (start : State) (from : ℕ) (image : Image) (sent : ℕ) : Type 0 where
  pub readable : IsReadable count image
  pub within : total ≤ count
  pub old : KeepsOldStore count image
  pub some : IsPartWay requests total start (book_pages count image)
  pub all : from < sent → (frames : List Frame) × (state : State) × AnswersEach start requests frames state
      × StandsForBook (book_pages count image) total state.book

-- at each moment from old to new a crash leaves such an image
abbrev pub LeavesDemo : List Request → ℕ → View → View → Type 0
LeavesDemo requests count old new = OfBook count old
    (λ total book. Since old new (IsAheadDemo requests count total (begun total book) (sent_now old)))

-- Behind an opening each request is one commit at most, of at most 42 pages. A workload has two requests, and three for each
-- round at most.
pub record CostsDemo (rounds : ℕ) (old new : View) : Type 0 where
  pub syncs : new.syncs ≤ old.syncs + 7 + 4 * (3 * rounds + 2)
  pub writes : new.writes ≤ old.writes + 102 + 87 * (3 * rounds + 2)

-- What the workload did and sent, and why it ended.
abbrev pub IsDemoEnd : End → ℕ → ℕ → View → View → Option (List ℕ) → Option (List ℕ) → ℕ → ℕ → Type 0
IsDemoEnd Done seed rounds old new before now sends sends_now =
    FromBook (page_count old.size) old new (λ start state. SendsSummary (workload seed rounds) start state before now)
IsDemoEnd NoMemory seed rounds old new before now sends sends_now =
    FromBook (page_count old.size) old new (AnswersFirst (workload seed rounds)) × (now ≡ before)
IsDemoEnd SendFault seed rounds old new before now sends sends_now =
    HasRisen sends sends_now × FromBook (page_count old.size) old new
    (λ start state. SendsSummaryPart (workload seed rounds) start state before now)
IsDemoEnd (DamagedPage page) seed rounds old new before now sends sends_now =
    IsDamagedLater IsBadForRequest (page_count old.size) new (block_of page) × Never (page_count old.size) old × (now ≡ before)
IsDemoEnd (Missing number) seed rounds old new before now sends sends_now =
    Never (page_count old.size) old × MeetsKey client.Missing number × (now ≡ before)
IsDemoEnd (BadCoefficient number) seed rounds old new before now sends sends_now =
    Never (page_count old.size) old × MeetsKey client.BadCoefficient number × (now ≡ before)
IsDemoEnd end seed rounds old new before now sends sends_now = IsUnopenedEnd end old new × (now ≡ before)

-- the same, and what it left
pub record DemoEnds (seed rounds : ℕ) (old new : View) (before now : Option (List ℕ)) (sends sends_now : ℕ) (end : End) : Type 0 where
  pub is : IsDemoEnd end seed rounds old new before now sends sends_now
  pub crash : LeavesDemo (workload seed rounds) (page_count old.size) old new
  pub costs : CostsDemo rounds old new
  pub reads : OfBook (page_count old.size) old (λ total book. ReadsDemo rounds old new)
  -- reads give what a crash may leave, where they did
  pub honest : Honest old → Honest new
  pub goes_on : GoesOn old new
