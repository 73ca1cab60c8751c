use Rattle.std.specs.Prelude.{ℕ}
use Rattle.series_book.specs.declared.refusal_numbers.TheConstants.{LINE_TOO_LONG, BAD_LINE, BAD_FILTER, UNKNOWN_SESSION, SESSION_OPEN}
use Rattle.series_book.specs.declared.refusal_numbers.TheConstants.{TOO_MANY_SESSIONS, BAD_CACHE}
use Rattle.series_book.specs.declared.refusal_numbers.TheConstants.{UNKNOWN_SERIES, SERIES_EXISTS, TOO_MANY_SERIES, OFF_GRID, BEFORE_START}
use Rattle.series_book.specs.declared.refusal_numbers.TheConstants.{VALUE_TOO_LARGE, RANGE_TOO_LONG}
use Rattle.series_book.specs.declared.refusal_numbers.TheConstants.{SERIES_FULL, NO_VIEW, BAD_WINDOW, BAD_CANVAS, BAD_RANGE, VIEW_TOO_LARGE}
use Rattle.series_book.specs.declared.refusal_numbers.TheConstants.{FULL}
use Rattle.series_book.specs.declared.refusals.Refusal.{Refusal}
use Rattle.series_book.specs.declared.refusals.Refusal.TheVariants.{LineTooLong, BadLine, BadFilter, UnknownSession, SessionOpen}
use Rattle.series_book.specs.declared.refusals.Refusal.TheVariants.{TooManySessions, BadCache, UnknownSeries, SeriesExists, TooManySeries}
use Rattle.series_book.specs.declared.refusals.Refusal.TheVariants.{OffGrid, BeforeStart, ValueTooLarge, RangeTooLong, SeriesFull, NoView}
use Rattle.series_book.specs.declared.refusals.Refusal.TheVariants.{BadWindow, BadCanvas, BadRange, ViewTooLarge, Full}

-- the number of a refusal
abbrev pub number_of : Refusal → ℕ
number_of LineTooLong = LINE_TOO_LONG
number_of (BadLine at) = BAD_LINE
number_of (BadFilter at) = BAD_FILTER
number_of UnknownSession = UNKNOWN_SESSION
number_of SessionOpen = SESSION_OPEN
number_of TooManySessions = TOO_MANY_SESSIONS
number_of BadCache = BAD_CACHE
number_of UnknownSeries = UNKNOWN_SERIES
number_of SeriesExists = SERIES_EXISTS
number_of TooManySeries = TOO_MANY_SERIES
number_of OffGrid = OFF_GRID
number_of BeforeStart = BEFORE_START
number_of ValueTooLarge = VALUE_TOO_LARGE
number_of RangeTooLong = RANGE_TOO_LONG
number_of SeriesFull = SERIES_FULL
number_of NoView = NO_VIEW
number_of BadWindow = BAD_WINDOW
number_of BadCanvas = BAD_CANVAS
number_of BadRange = BAD_RANGE
number_of (ViewTooLarge needed cache) = VIEW_TOO_LARGE
number_of (Full needed have) = FULL

-- the two numbers that a refusal carries, and zeros where it carries none
abbrev pub pair_of : Refusal → ℕ × ℕ
pair_of LineTooLong = (0, 0)
pair_of (BadLine at) = (at, 0)
pair_of (BadFilter at) = (at, 0)
pair_of UnknownSession = (0, 0)
pair_of SessionOpen = (0, 0)
pair_of TooManySessions = (0, 0)
pair_of BadCache = (0, 0)
pair_of UnknownSeries = (0, 0)
pair_of SeriesExists = (0, 0)
pair_of TooManySeries = (0, 0)
pair_of OffGrid = (0, 0)
pair_of BeforeStart = (0, 0)
pair_of ValueTooLarge = (0, 0)
pair_of RangeTooLong = (0, 0)
pair_of SeriesFull = (0, 0)
pair_of NoView = (0, 0)
pair_of BadWindow = (0, 0)
pair_of BadCanvas = (0, 0)
pair_of BadRange = (0, 0)
pair_of (ViewTooLarge needed cache) = (needed, cache)
pair_of (Full needed have) = (needed, have)
