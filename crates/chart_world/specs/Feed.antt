-- What was taken of the input and isn't passed, and a line that was put together from several pieces.
use Rattle.std.specs.Prelude.{ℕ, ◌-◌, ◌≡◌, ◌≢◌, List, [], Contains, length, take, slice_range}
use Rattle.std.specs.List.{before_first}
use Rattle.chart_world.specs.Lines.{is_line_feed}
use Rattle.chart_world.specs.declared.feed.Feed.{Feed}

-- the pending bytes
abbrev pub pending_of : Feed → List ℕ
pending_of feed = slice_range feed.bytes.items feed.start feed.end

-- how many bytes were passed
abbrev pub given_of : Feed → ℕ
given_of feed = feed.taken - (feed.end - feed.start)

-- the next line is pending, up to its line feed, which is within the limit
abbrev pub HasLine : Feed → Type 0
HasLine feed = Contains (take (feed.limit - given_of feed) (pending_of feed)) 10

-- There is a first line. It has this length, and its front is in the spill.
pub record Gathered (size : ℕ) (spill bytes : List ℕ) : Type 0 where
  pub some : bytes ≢ []
  pub count : size ≡ length (before_first is_line_feed bytes)
  pub front : spill ≡ take 8192 (before_first is_line_feed bytes)
