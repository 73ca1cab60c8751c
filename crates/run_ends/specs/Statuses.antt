-- The table of statuses: the code and the place of each end.
use Rattle.std.specs.Prelude.{ℕ, ◌+◌, ◌*◌, ◌^◌}
use Rattle.run_ends.specs.declared.ending.End.{End}
use Rattle.run_ends.specs.declared.ending.End.TheVariants.{Done, WrongWords, NoMemory, ReadFault, SendFault, DiskFault, DamagedBlock}
use Rattle.run_ends.specs.declared.ending.End.TheVariants.{DamagedPage}
use Rattle.run_ends.specs.declared.ending.End.TheVariants.{BadInput, InputTooLong, TooMuch, Missing, BadCoefficient, TooSmall, IsStore}
use Rattle.run_ends.specs.declared.ending.End.TheVariants.{UnknownSeries, Refused, UnknownSession, RefusedLine, NoSeries}
use Rattle.run_ends.specs.declared.status.Status.{Status}
use Rattle.series_book.specs.declared.refusal_numbers.TheConstants.{UNKNOWN_SERIES}

abbrev pub status : ℕ → ℕ → Status
status code place = record { code = code; place = place }

-- the block of a page of the store
abbrev pub block_of : ℕ → ℕ
block_of page = 66 + page

-- the place of a refusal: the offset of the line, and the refusal's number
abbrev pub refused_at : ℕ → ℕ → ℕ
refused_at at refusal = 256 * at + refusal

-- the table
abbrev pub status_of : End → Status
status_of Done = status 0 0
status_of (WrongWords word) = status 2 word
status_of NoMemory = status 3 0
status_of ReadFault = status 4 0
status_of SendFault = status 5 0
status_of DiskFault = status 6 0
status_of (DamagedBlock block) = status 7 block
status_of (DamagedPage page) = status 7 (block_of page)
status_of (BadInput at) = status 8 at
status_of InputTooLong = status 9 (2 ^ 32)
status_of (TooMuch most) = status 9 most
status_of (Missing key) = status 10 key
status_of (BadCoefficient key) = status 11 key
status_of (TooSmall blocks) = status 12 blocks
status_of IsStore = status 13 (block_of 0)
status_of UnknownSeries = status 14 UNKNOWN_SERIES
status_of (Refused at refusal) = status 14 (refused_at at refusal)
status_of (UnknownSession session) = status 15 session
status_of (RefusedLine at refusal) = status 16 (refused_at at refusal)
status_of (NoSeries at) = status 17 at

-- the code of an end, and its place
abbrev pub code_of : End → ℕ
code_of end = (status_of end).code

abbrev pub place_of : End → ℕ
place_of end = (status_of end).place
