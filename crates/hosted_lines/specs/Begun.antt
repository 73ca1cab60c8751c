-- How the lines of a store begin.
use Rattle.std.specs.Prelude.{ℕ, List, []}
use Rattle.live_service.specs.LiveReplies.{LiveState}
use Rattle.live_service.specs.Shown.{live_of}
use Rattle.series_book.specs.declared.one_series.Series.{Series}
use Rattle.store_commands.specs.Books.{begun}

-- with the book that the disk holds, no session, and so no one that follows
abbrev pub begun_live : ℕ → List Series → LiveState
begun_live total book = live_of (begun total book) [] []
