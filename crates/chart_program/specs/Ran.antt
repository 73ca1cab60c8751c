-- What a run of a command does.
use Rattle.std.specs.Prelude.{◌≡◌, ◌≢◌, ℕ, ◌<◌, ◌≤◌, ◌^◌, ◌⊎◌, List, [], ◌∷◌, length, Contains, get_or, Option, None, Some, IfSome, codes}
use Rattle.std.specs.Prelude.{String, map, string_bytes, ⊤}
use Rattle.block_disk.specs.View.{View, DiskKept, Honest}
use Rattle.gate_pages.specs.Journal.{page_count}
use Rattle.empty_store.specs.declared.errors.InitCause.{InitCause}
use Rattle.empty_store.specs.declared.errors.InitCause.TheVariants as init
use Rattle.empty_store.specs.Stores.{HasStore}
use Rattle.om3_coeff.specs.declared.key.Key.{Key}
use Rattle.chart_frames.specs.Frames.{key_number}
use Rattle.chart_client.specs.declared.errors.ClientError.TheVariants as client
use Rattle.gate_pages.specs.Pages.{GoesOn}
use Rattle.block_disk.specs.Counts.{HasRisen}
use Rattle.disk_store.specs.Held.{HoldsBook}
use Rattle.program_words.specs.declared.words.Command.{Command}
use Rattle.program_words.specs.declared.words.Command.TheVariants.{Plot, Load, Demo, Run, Serve, Draw, Init, Check, ListSeries, Export}
use Rattle.program_words.specs.declared.words.Command.TheVariants.{Retain, Cover, Live, Host, Derive}
use Rattle.draw_command.specs.declared.draw_end.DrawEnd.TheVariants as draw_end
use Rattle.program_words.specs.CommandLine.{plain_words}
use Rattle.program_words.specs.Words.{AreCommand, ByCommand, Spells}
use Rattle.run_ends.specs.declared.ending.End.{End}
use Rattle.run_ends.specs.declared.ending.End.TheVariants as ends
use Rattle.run_ends.specs.declared.status.Status.{Status}
use Rattle.store_commands.specs.Traffic.{Traffic}
use Rattle.store_commands.specs.Away.{IsTurnedAway}
use Rattle.chart_program.specs.Host.{HostsAll, HostsLines, HostsPart, HostsSome, HostsTaken, HostsWithin}
use Rattle.chart_program.specs.Slots.{FirstBad, HasTooMany, IsTooLong, StoppedBefore, most_slots}
use Rattle.chart_program.specs.Plotted.{SendsPlot, SendsFront}
use Rattle.chart_program.specs.Served.{Faults, faults_of, AreTexts, Spelled, AnswersAll, AnswersFront, AnswersTaken, AnswersWithin}
use Rattle.chart_program.specs.Served.{AnswersSome, AnswersLines, LeavesBooks, ReadsServing, SyncsServing, RejectsNext}
use Rattle.store_commands.specs.Books.{FromBook, HoldsAgain, Never, LeavesSame}
use Rattle.store_commands.specs.Loaded.{Unnamed, LoadsAll, LoadsAndSendsPart, LoadsSome, LoadsToBad, LoadsTaken, LoadsWithin, RefusesSet}
use Rattle.store_commands.specs.Loaded.{LeavesLoads, LeavesUnnamed}
use Rattle.store_commands.specs.Checked.{SendsCounts, SendsCountsPart, IsBadForCheck, ReadsStore}
use Rattle.store_commands.specs.Listed.{SendsList, SendsListPart, ReadsOpening}
use Rattle.store_commands.specs.Exported.{ExportsAll, ExportsPart, HasNone, IsBadForExport, ReadsSeries}
use Rattle.demo_workload.specs.Demonstrated.{SendsSummary, SendsSummaryPart, AnswersFirst, LeavesDemo}
use Rattle.demo_workload.specs.Ending.{MeetsError}
use Rattle.demo_workload.specs.Workload.{workload}
use Rattle.stored_book.specs.Damage.{IsBadForEdit, IsBadForRequest}
use Rattle.retain_command.specs.Retained.{LeavesSwept, RetainsAll, RetainsLines, RetainsPart, RetainsSome, RetainsTaken, RetainsToBad}
use Rattle.retain_command.specs.Retained.{RetainsToUnknown, RetainsWithin}
use Rattle.host_command.specs.Ended.{CostsHosting, LeavesHosted}
use Rattle.hosted_lines.specs.HostCauses.{IsBadForHost}
use Rattle.hosted_lines.specs.Input.{most_bytes}
use Rattle.live_command.specs.Ended.{LeavesLived, LivesAll, LivesLines, LivesPart, LivesSome, LivesTaken, LivesWithin, ReadsLiving}
use Rattle.live_command.specs.Ended.{SyncsLiving}
use Rattle.derive_command.specs.Derived.{IsBadForChart, DerivesAll, DerivesFirst, DerivesPart, DerivesTaken, DerivesToBad, DerivesToRefused}
use Rattle.derive_command.specs.Derived.{DerivesWithin}
use Rattle.store_commands.specs.Damaged.{IsDamagedAtFirst, IsDamagedPlace}
use Rattle.chart_program.specs.CommandStatuses.{codes_of, IsOverStore, TakesNone, Bars}
use Rattle.draw_command.specs.Draws.{DrawsAll, DrawsTaken, DrawsWithin, IsCut, StopsAtFrame}
pub use Rattle.chart_program.specs.Commands.{HasOperands, IsUnread}
pub use Rattle.chart_program.specs.Course.{StandsOn}
pub use Rattle.chart_program.specs.Derive.{AreDerived}
pub use Rattle.chart_program.specs.Draw.{IsFrames}
pub use Rattle.chart_program.specs.Export.{HoldsNamed}
pub use Rattle.chart_program.specs.Init.{IsFree, LeavesMade, MakesStore}
pub use Rattle.chart_program.specs.Load.{AreReadings}
pub use Rattle.chart_program.specs.Plot.{IsSlots}
pub use Rattle.chart_program.specs.Replies.{AreReplies, CoversReplies, DrawsReplies, IsOfReplies}
pub use Rattle.chart_program.specs.Retain.{AreRetained}
pub use Rattle.chart_program.specs.Serve.{AreLines}

-- The words are those of a command, and where the input is told this is so of the command, of the disk before and now, of
-- the input, and of what was sent before and now.
abbrev pub ForCommand : {Z W : Type 0} → List (String Z) → (W → View) → (W → Option (List ℕ)) → (W → Option (List ℕ)) → W → W
    → (Command → View → View → List ℕ → Option (List ℕ) → Option (List ℕ) → Type 0) → Type 0
ForCommand words view left sent old new IsSo = ByCommand words
    (λ command. IfSome (left old) (λ input. IsSo command (view old) (view new) input (sent old) (sent new)))

-- over a disk that is too small for a store each command over one is turned away
abbrev pub IsAwayFor : View → Status → Command → Option (List ℕ) → Option (List ℕ) → Option (List ℕ) → Option (List ℕ) → Type 0
IsAwayFor old end command left left' before now = IsOverStore command → old.size < 128 → IsTurnedAway left left' before now end.code

-- this is so of the command whose words they are, and of the bytes left and sent before and now
abbrev pub ForStreams : {Z W : Type 0} → List (String Z) → (W → Option (List ℕ)) → (W → Option (List ℕ)) → W → W
    → (Command → Option (List ℕ) → Option (List ℕ) → Option (List ℕ) → Option (List ℕ) → Type 0) → Type 0
ForStreams words left sent old new IsSo = ByCommand words (λ command. IsSo command (left old) (left new) (sent old) (sent new))

-- the first words of the commands that send before they end
abbrev pub stream_words : List (List ℕ)
stream_words =
    codes "run" ∷ codes "serve" ∷ codes "draw" ∷ codes "export" ∷ codes "retain" ∷ codes "cover" ∷ codes "live" ∷ codes "host" ∷ codes
    "derive" ∷ []

-- the words begin with one of these
abbrev pub BeginStream : List (List ℕ) → Type 0
BeginStream words = Contains stream_words (get_or words 0 [])

-- The command's output for this input was sent, the whole of it; `init` sends nothing. The clauses on the serving commands
-- speak of the book that the disk holds, and of the one that it holds then.
abbrev pub SendsAll : Command → View → View → List ℕ → Option (List ℕ) → Option (List ℕ) → Type 0
SendsAll (Plot w h) old new input before now = SendsPlot w h input before now
SendsAll Run old new input before now = AnswersAll AreTexts (page_count old.size) old new input before now
SendsAll Serve old new input before now = AnswersAll Spelled (page_count old.size) old new input before now
SendsAll Draw old new input before now = DrawsAll None input before now
SendsAll Init old new input before now = now ≡ before
SendsAll (Load name) old new input before now = LoadsAll name (page_count old.size) old new input before now
SendsAll (Demo seed rounds) old new input before now = FromBook (page_count old.size) old new
    (λ start state. SendsSummary (workload seed rounds) start state before now)
SendsAll Check old new input before now = SendsCounts (page_count old.size) old before now
SendsAll ListSeries old new input before now = SendsList (page_count old.size) old before now
SendsAll (Export name window) old new input before now = ExportsAll name window (page_count old.size) old before now
SendsAll Retain old new input before now = RetainsAll (page_count old.size) old new input before now
SendsAll (Cover every) old new input before now = DrawsAll (Some every) input before now
SendsAll Live old new input before now = LivesAll (page_count old.size) old new input before now
SendsAll Host old new input before now = HostsAll (page_count old.size) old new input before now
SendsAll Derive old new input before now = DerivesAll (page_count old.size) old input before now

-- the first bytes of the command's output for this input were sent
abbrev pub SendsPart : Command → View → View → List ℕ → Option (List ℕ) → Option (List ℕ) → Type 0
SendsPart (Plot w h) old new input before now = SendsFront w h input before now
SendsPart Run old new input before now = AnswersFront AreTexts (page_count old.size) old new input before now
SendsPart Serve old new input before now = AnswersFront Spelled (page_count old.size) old new input before now
SendsPart Draw old new input before now = StopsAtFrame None input before now draw_end.SendFault
SendsPart Init old new input before now = ⊥
SendsPart (Load name) old new input before now = LoadsAndSendsPart name (page_count old.size) old new input before now
SendsPart (Demo seed rounds) old new input before now = FromBook (page_count old.size) old new
    (λ start state. SendsSummaryPart (workload seed rounds) start state before now)
SendsPart Check old new input before now = SendsCountsPart (page_count old.size) old before now
SendsPart ListSeries old new input before now = SendsListPart (page_count old.size) old before now
SendsPart (Export name window) old new input before now = ExportsPart name window (page_count old.size) old before now
SendsPart Retain old new input before now = RetainsPart (page_count old.size) old new input before now
SendsPart (Cover every) old new input before now = StopsAtFrame (Some every) input before now draw_end.SendFault
SendsPart Live old new input before now = LivesPart (page_count old.size) old new input before now
SendsPart Host old new input before now = HostsPart (page_count old.size) old new input before now
SendsPart Derive old new input before now = DerivesPart (page_count old.size) old input before now

-- A take failed, where these bytes were left. A plot has sent nothing, a serving command what answers the
-- lines whose line feeds were taken, `draw` the pictures of the frames taken, and `cover` these and their covers.
abbrev pub StopsBefore : Command → View → View → List ℕ → Option (List ℕ) → Option (List ℕ) → List ℕ → Type 0
StopsBefore (Plot w h) old new input before now bytes = StoppedBefore input bytes
StopsBefore Run old new input before now bytes = AnswersTaken AreTexts (page_count old.size) old new input bytes before now
StopsBefore Serve old new input before now bytes = AnswersTaken Spelled (page_count old.size) old new input bytes before now
StopsBefore Draw old new input before now bytes = DrawsTaken None input bytes before now
StopsBefore Init old new input before now bytes = ⊥
StopsBefore (Load name) old new input before now bytes = LoadsTaken name (page_count old.size) old new input bytes
StopsBefore (Demo seed rounds) old new input before now bytes = ⊥
StopsBefore Check old new input before now bytes = ⊥
StopsBefore ListSeries old new input before now bytes = ⊥
StopsBefore (Export name window) old new input before now bytes = ⊥
StopsBefore Retain old new input before now bytes = RetainsTaken (page_count old.size) old new input (Some bytes) before now
StopsBefore (Cover every) old new input before now bytes = DrawsTaken (Some every) input bytes before now
StopsBefore Live old new input before now bytes = LivesTaken (page_count old.size) old new input (Some bytes) before now
StopsBefore Host old new input before now bytes = HostsTaken (page_count old.size) old new input (Some bytes) before now
StopsBefore Derive old new input before now bytes = DerivesTaken (page_count old.size) old input (Some bytes) before now

-- the same, where the bytes left are told
abbrev pub StopsWith : Option (List ℕ) → Command → View → View → List ℕ → Option (List ℕ) → Option (List ℕ) → Type 0
StopsWith left command old new input before now = IfSome left (StopsBefore command old new input before now)

-- There was no memory. A plot has sent nothing, a serving command what answers some first lines, `draw` the pictures of
-- some first frames, `cover` these with their covers and some first covers of the next one, and an export a front of its text.
abbrev pub IsCutShort : Command → View → View → List ℕ → Option (List ℕ) → Option (List ℕ) → Type 0
IsCutShort (Plot w h) old new input before now = now ≡ before
IsCutShort Run old new input before now = AnswersSome AreTexts (page_count old.size) old new input before now
IsCutShort Serve old new input before now = AnswersSome Spelled (page_count old.size) old new input before now
IsCutShort Draw old new input before now = StopsAtFrame None input before now draw_end.NoMemory
IsCutShort Init old new input before now = now ≡ before
IsCutShort (Load name) old new input before now = LoadsSome name (page_count old.size) old new input
IsCutShort (Demo seed rounds) old new input before now = FromBook (page_count old.size) old new (AnswersFirst (workload seed rounds))
IsCutShort Check old new input before now = now ≡ before
IsCutShort ListSeries old new input before now = now ≡ before
IsCutShort (Export name window) old new input before now = ExportsPart name window (page_count old.size) old before now
IsCutShort Retain old new input before now = RetainsSome (page_count old.size) old new input before now
IsCutShort (Cover every) old new input before now = StopsAtFrame (Some every) input before now draw_end.NoMemory
IsCutShort Live old new input before now = LivesSome (page_count old.size) old new input before now
IsCutShort Host old new input before now = HostsSome (page_count old.size) old new input before now
IsCutShort Derive old new input before now = DerivesFirst (page_count old.size) old input before now

-- A call of the disk failed. `init` has sent nothing, a serving command what answers some first lines, and an export a
-- front of its text.
abbrev pub StopsAtDisk : Command → View → List ℕ → Option (List ℕ) → Option (List ℕ) → Type 0
StopsAtDisk (Plot w h) old input before now = ⊥
StopsAtDisk Run old input before now = AnswersLines AreTexts (page_count old.size) old input before now
StopsAtDisk Serve old input before now = AnswersLines Spelled (page_count old.size) old input before now
StopsAtDisk Draw old input before now = ⊥
StopsAtDisk Init old input before now = now ≡ before
StopsAtDisk (Load name) old input before now = now ≡ before
StopsAtDisk (Demo seed rounds) old input before now = now ≡ before
StopsAtDisk Check old input before now = now ≡ before
StopsAtDisk ListSeries old input before now = now ≡ before
StopsAtDisk (Export name window) old input before now = ExportsPart name window (page_count old.size) old before now
StopsAtDisk Retain old input before now = RetainsLines (page_count old.size) old input before now
StopsAtDisk (Cover every) old input before now = ⊥
StopsAtDisk Live old input before now = LivesLines (page_count old.size) old input before now
StopsAtDisk Host old input before now = HostsLines (page_count old.size) old input before now
StopsAtDisk Derive old input before now = DerivesFirst (page_count old.size) old input before now

-- The line or the field at this place is the first that isn't in the command's grammar, or the input ends there
-- within a frame; a serving command answers each line. `draw` has sent the pictures of the frames before, and `cover`
-- these and their covers.
abbrev pub IsBadInput : Command → View → View → List ℕ → ℕ → Option (List ℕ) → Option (List ℕ) → Type 0
IsBadInput (Plot w h) old new input place before now = FirstBad input place
IsBadInput Draw old new input place before now = IsCut None input place before now
    ⊎ StopsAtFrame None input before now (draw_end.BadFrame place)
IsBadInput (Load name) old new input place before now = LoadsToBad name (page_count old.size) old new input place
IsBadInput Retain old new input place before now = RetainsToBad (page_count old.size) old new input place before now
IsBadInput (Cover every) old new input place before now = IsCut (Some every) input place before now
    ⊎ StopsAtFrame (Some every) input before now (draw_end.BadFrame place)
IsBadInput Derive old new input place before now = DerivesToBad (page_count old.size) old input place before now
IsBadInput command old new input place before now = ⊥

-- A frame's first wanted key that can't be used has no coefficient. That never comes for a `run` whose disk holds a book.
abbrev pub Lacks : Command → View → List ℕ → ℕ → Option (List ℕ) → Option (List ℕ) → Type 0
Lacks Draw old input place before now = (key : Key) × (place ≡ key_number key) × StopsAtFrame None input before now (draw_end.Missing key)
Lacks (Cover every) old input place before now = (key : Key) × (place ≡ key_number key)
    × StopsAtFrame (Some every) input before now (draw_end.Missing key)
Lacks Run old input place before now = Never (page_count old.size) old
    × ((key : Key) × (place ≡ key_number key) × RejectsNext (client.Missing key) before now)
Lacks (Demo seed rounds) old input place before now = Never (page_count old.size) old
    × ((key : Key) × (place ≡ key_number key) × MeetsError (client.Missing key))
Lacks command old input place before now = ⊥

-- a frame's first wanted key that can't be used has one that doesn't fit
abbrev pub Misfits : Command → View → List ℕ → ℕ → Option (List ℕ) → Option (List ℕ) → Type 0
Misfits Draw old input place before now = (key : Key) × (place ≡ key_number key)
    × StopsAtFrame None input before now (draw_end.BadCoefficient key)
Misfits (Cover every) old input place before now = (key : Key) × (place ≡ key_number key)
    × StopsAtFrame (Some every) input before now (draw_end.BadCoefficient key)
Misfits Run old input place before now = Never (page_count old.size) old
    × ((key : Key) × (place ≡ key_number key) × RejectsNext (client.BadCoefficient key) before now)
Misfits (Demo seed rounds) old input place before now = Never (page_count old.size) old
    × ((key : Key) × (place ≡ key_number key) × MeetsError (client.BadCoefficient key))
Misfits command old input place before now = ⊥

-- a frame names this session, which isn't open
abbrev pub NamesUnopened : Command → View → List ℕ → ℕ → Option (List ℕ) → Option (List ℕ) → Type 0
NamesUnopened Draw old input place before now = StopsAtFrame None input before now (draw_end.UnknownSession place)
NamesUnopened (Cover every) old input place before now = StopsAtFrame (Some every) input before now (draw_end.UnknownSession place)
NamesUnopened command old input place before now = ⊥

-- What a command leaves of the disk. A plot, `draw` and `cover` leave it alone, for the others but `init` time goes on.
abbrev pub LeavesDisk : Command → View → View → Type 0
LeavesDisk (Plot w h) old new = DiskKept old new
LeavesDisk Draw old new = DiskKept old new
LeavesDisk Init old new = LeavesMade old new
LeavesDisk (Cover every) old new = DiskKept old new
LeavesDisk command old new = GoesOn old new

-- What a crash leaves at each moment of a serving command: a book with each edit whose answer was sent whole by then, and
-- with at most 64 edits more. `init`, `check`, `plot`, `draw` and `cover` leave the book as it is.
abbrev pub Leaves : Command → List ℕ → View → View → Type 0
Leaves Run input old new = LeavesBooks AreTexts (page_count old.size) input old new
Leaves Serve input old new = LeavesBooks Spelled (page_count old.size) input old new
Leaves (Load name) input old new = LeavesLoads name (page_count old.size) input old new × LeavesUnnamed name (page_count old.size) old new
Leaves (Demo seed rounds) input old new = LeavesDemo (workload seed rounds) (page_count old.size) old new
Leaves Retain input old new = LeavesSwept (page_count old.size) input old new
Leaves Live input old new = LeavesLived (page_count old.size) input old new
Leaves Host input old new = LeavesHosted (page_count old.size) input old new
Leaves command input old new = LeavesSame (page_count old.size) old new

-- the same where the bytes sent before are told, of which the moments speak
abbrev pub LeavesTold : Command → View → View → List ℕ → Option (List ℕ) → Option (List ℕ) → Type 0
LeavesTold command old new input before now = IfSome before (λ bytes. Leaves command input old new)

-- where the disk of a command held a book, it holds one again
abbrev pub HoldsNow : Command → View → View → List ℕ → Option (List ℕ) → Option (List ℕ) → Type 0
HoldsNow command old new input before now = HoldsAgain (page_count old.size) old new

-- a block was found damaged: at the opening, or a page by a request, by a set of a load or by a check
abbrev pub IsDamaged : Command → View → View → ℕ → Type 0
IsDamaged Run old new place = IsDamagedPlace IsBadForRequest old new place
IsDamaged Serve old new place = IsDamagedPlace IsBadForRequest old new place
IsDamaged (Load name) old new place = IsDamagedPlace IsBadForEdit old new place
IsDamaged (Demo seed rounds) old new place = IsDamagedPlace IsBadForRequest old new place
IsDamaged Check old new place = IsDamagedPlace IsBadForCheck old old place
IsDamaged ListSeries old new place = IsDamagedAtFirst old place
IsDamaged (Export name window) old new place = IsDamagedPlace (IsBadForExport name) old old place
IsDamaged Retain old new place = IsDamagedPlace IsBadForRequest old new place
IsDamaged Live old new place = IsDamagedPlace IsBadForRequest old new place
IsDamaged Host old new place = IsDamagedPlace IsBadForHost old new place
IsDamaged Derive old new place = IsDamagedPlace IsBadForChart old new place
IsDamaged command old new place = ⊥

-- which never comes where the disk of a serving command holds a book
abbrev pub IsUndamaged : Command → View → Type 0
IsUndamaged (Plot w h) old = ⊥
IsUndamaged Draw old = ⊥
IsUndamaged Init old = ⊥
IsUndamaged (Cover every) old = ⊥
IsUndamaged command old = Never (page_count old.size) old

-- the end where no store was made
abbrev pub init_end : InitCause → End
init_end init.NoMemory = ends.NoMemory
init_end init.DiskFault = ends.DiskFault
init_end (init.TooSmall blocks) = ends.TooSmall blocks
init_end init.IsStore = ends.IsStore

-- why `init` ended, and what it made
abbrev pub IsInitEnd : End → View → View → Type 0
IsInitEnd ends.Done old new = MakesStore old new
IsInitEnd ends.NoMemory old new = ⊤
IsInitEnd ends.DiskFault old new = HasRisen old.faults new.faults
IsInitEnd (ends.TooSmall blocks) old new = (blocks ≡ old.size) × (old.size < 128)
IsInitEnd ends.IsStore old new = (128 ≤ old.size) × (Honest old → HasStore (page_count old.size) old.image)
IsInitEnd end old new = ⊥

-- the command did what it does to the disk
abbrev pub IsMade : Command → View → View → Type 0
IsMade Init old new = MakesStore old new
IsMade command old new = ⊤

-- the disk has too few blocks for a store: this many
abbrev pub IsTooSmall : Command → View → ℕ → Type 0
IsTooSmall (Plot w h) old place = ⊥
IsTooSmall Draw old place = ⊥
IsTooSmall (Cover every) old place = ⊥
IsTooSmall command old place = (place ≡ old.size) × (old.size < 128)

-- there is a store already, in whose page 0 this block is
abbrev pub IsThere : Command → View → ℕ → Type 0
IsThere Init old place = (place ≡ 66) × ((128 ≤ old.size) × (Honest old → HasStore (page_count old.size) old.image))
IsThere command old place = ⊥

-- there is more input than a plot takes: a slot too many, or bytes past 2^32
abbrev pub HasTooMuch : List ℕ → ℕ → Type 0
HasTooMuch input place = ((place ≡ most_slots) × HasTooMany input) ⊎ ((place ≡ 2 ^ 32) × IsTooLong input)

-- there is more input than the command takes
abbrev pub IsTooMuch : Command → View → View → List ℕ → ℕ → Option (List ℕ) → Option (List ℕ) → Type 0
IsTooMuch (Plot w h) old new input place before now = HasTooMuch input place
IsTooMuch Run old new input place before now = (place ≡ 2 ^ 32) × (2 ^ 32 < length input)
    × AnswersWithin AreTexts (page_count old.size) old new input before now
IsTooMuch Serve old new input place before now = (place ≡ 2 ^ 32) × (2 ^ 32 < length input)
    × AnswersWithin Spelled (page_count old.size) old new input before now
IsTooMuch Draw old new input place before now = (place ≡ 2 ^ 32) × DrawsWithin None input before now
IsTooMuch Init old new input place before now = ⊥
IsTooMuch (Load name) old new input place before now = (place ≡ 2 ^ 32) × (2 ^ 32 < length input)
    × LoadsWithin name (page_count old.size) old new input
IsTooMuch (Demo seed rounds) old new input place before now = ⊥
IsTooMuch Check old new input place before now = ⊥
IsTooMuch ListSeries old new input place before now = ⊥
IsTooMuch (Export name window) old new input place before now = ⊥
IsTooMuch Retain old new input place before now = (place ≡ 2 ^ 32) × (2 ^ 32 < length input)
    × RetainsWithin (page_count old.size) old new input before now
IsTooMuch (Cover every) old new input place before now = (place ≡ 2 ^ 32) × DrawsWithin (Some every) input before now
IsTooMuch Live old new input place before now = (place ≡ 2 ^ 32) × (2 ^ 32 < length input)
    × LivesWithin (page_count old.size) old new input before now
IsTooMuch Host old new input place before now = (place ≡ most_bytes) × (most_bytes < length input)
    × HostsWithin (page_count old.size) old new input before now
IsTooMuch Derive old new input place before now = (place ≡ 2 ^ 32) × (2 ^ 32 < length input)
    × DerivesWithin (page_count old.size) old input before now

-- A line, which begins at this place, names a series that isn't there. The lines before it were swept and answered.
abbrev pub IsUnknown : Command → View → View → List ℕ → ℕ → Option (List ℕ) → Option (List ℕ) → Type 0
IsUnknown Retain old new input place before now = RetainsToUnknown (page_count old.size) old new input place before now
IsUnknown command old new input place before now = ⊥

-- A line is refused: the place is 256 times its offset and the number of the refusal. The answers to the lines before it were sent.
abbrev pub IsRefusedLine : Command → View → List ℕ → ℕ → Option (List ℕ) → Option (List ℕ) → Type 0
IsRefusedLine Derive old input place before now = DerivesToRefused (page_count old.size) old input place before now
IsRefusedLine command old input place before now = ⊥

-- a set is refused, or there is no series of the name: then no input was taken and the book stays
abbrev pub IsRefused : Command → View → View → List ℕ → Option (List ℕ) → ℕ → Type 0
IsRefused (Load name) old new input left place =
    RefusesSet name (page_count old.size) old new input place
    × Unnamed (page_count old.size) old name (λ total book. (place ≡ 8) × (left ≡ Some input)
    × HoldsBook (page_count old.size) total book new)
IsRefused (Export name window) old new input left place = (place ≡ 8) × HasNone (page_count old.size) old name
IsRefused command old new input left place = ⊥

-- the same, by the bytes left and the place; nothing was sent
abbrev pub IsRefusedWith : Option (List ℕ) → ℕ → Command → View → View → List ℕ → Option (List ℕ) → Option (List ℕ) → Type 0
IsRefusedWith left place command old new input before now = (now ≡ before) × IsRefused command old new input left place

-- a series of no such name has its code, unless a call of the disk fails or there is no memory
abbrev pub TellsUnnamed : Command → View → ℕ → Type 0
TellsUnnamed (Load name) old code = Unnamed (page_count old.size) old name (λ total book. Contains (3 ∷ 6 ∷ 14 ∷ []) code)
TellsUnnamed (Export name window) old code = Unnamed (page_count old.size) old name (λ total book. Contains (3 ∷ 6 ∷ 14 ∷ []) code)
TellsUnnamed command old code = ⊤

-- A list reads at most the blocks that an opening reads, an export beside these each page of its series' tree once, and a check
-- each page of the store.
abbrev pub ReadsFew : Command → View → View → Type 0
ReadsFew ListSeries old new = ReadsOpening old new
ReadsFew Check old new = ReadsStore (page_count old.size) old new
ReadsFew (Export name window) old new = ReadsSeries name (page_count old.size) old new
ReadsFew command old new = ⊤

-- Where lines are served, blocks are read by the opening and by the lines alone; of the other commands nothing is said here.
abbrev pub ReadsByInput : Command → View → View → List ℕ → Option (List ℕ) → Option (List ℕ) → Type 0
ReadsByInput Run old new input before now = ReadsServing old new input
ReadsByInput Serve old new input before now = ReadsServing old new input
ReadsByInput Live old new input before now = ReadsLiving old new input
ReadsByInput Host old new input before now = CostsHosting old new input
ReadsByInput command old new input before now = ⊤

-- and so the disk is synced
abbrev pub SyncsByInput : Command → View → View → List ℕ → Option (List ℕ) → Option (List ℕ) → Type 0
SyncsByInput Run old new input before now = SyncsServing old new input
SyncsByInput Serve old new input before now = SyncsServing old new input
SyncsByInput Live old new input before now = SyncsLiving old new input
SyncsByInput Host old new input before now = CostsHosting old new input
SyncsByInput command old new input before now = ⊤

-- The input is no more than the command takes, and was read to its end, where this is left; `init`, `demo`, `check`, `list` and
-- `export` take none.
abbrev pub IsWithin : Command → Option (List ℕ) → List ℕ → Type 0
IsWithin Init left input = ⊤
IsWithin (Demo seed rounds) left input = ⊤
IsWithin Check left input = ⊤
IsWithin ListSeries left input = ⊤
IsWithin (Export name window) left input = ⊤
IsWithin Host left input = (length input ≤ most_bytes) × (left ≡ Some [])
IsWithin command left input = (length input ≤ 2 ^ 32) × (left ≡ Some [])

-- the input is in the grammar of a command that takes one, and no more than it takes
abbrev pub IsInput : Command → View → View → List ℕ → Type 0
IsInput (Plot w h) old new input = IsSlots input
IsInput Run old new input = AreLines old new input
IsInput Serve old new input = AreLines old new input
IsInput Draw old new input = IsFrames input
IsInput Init old new input = ⊥
IsInput (Load name) old new input = AreReadings name old new input
IsInput (Demo seed rounds) old new input = StandsOn old new
IsInput Check old new input = StandsOn old new
IsInput ListSeries old new input = StandsOn old new
IsInput (Export name window) old new input = HoldsNamed name old new
IsInput Retain old new input = AreRetained old new input
IsInput (Cover every) old new input = IsFrames input
IsInput Live old new input = AreLines old new input
IsInput Host old new input = AreLines old new input
IsInput Derive old new input = AreDerived old new input

-- The words are those of a command, the input is told, and it is good for each command whose words they are.
pub record HasGoodInput {Z : Type 0} (words : List (String Z)) (left : Option (List ℕ)) (IsGood : Command → List ℕ → Type 0) : Type 0 where
  pub command : AreCommand words
  pub input : List ℕ
  pub told : left ≡ Some input
  pub good : (command : Command) → Spells command (plain_words (map string_bytes words)) → IsGood command input

-- the codes that come with good input: done, no memory, and a fault of the input or of the output
abbrev pub of_done : List ℕ
of_done = 0 ∷ 3 ∷ 4 ∷ 5 ∷ []

-- the same of the input of a command that draws covers
abbrev pub IsCoverOfReplies : Command → List ℕ → Type 0
IsCoverOfReplies (Cover every) input = IsOfReplies input
IsCoverOfReplies command input = ⊥

-- a command that draws covers draws the book so
abbrev pub CoversBook : Command → View → View → List ℕ → Option (List ℕ) → Option (List ℕ) → Type 0
CoversBook (Cover every) old new input before now = CoversReplies every input before now
CoversBook command old new input before now = ⊤

-- ---- the end of a command

-- a command that sends before it ends
abbrev pub IsStreaming : Command → Type 0
IsStreaming Run = ⊤
IsStreaming Serve = ⊤
IsStreaming Draw = ⊤
IsStreaming (Export name window) = ⊤
IsStreaming Retain = ⊤
IsStreaming (Cover every) = ⊤
IsStreaming Live = ⊤
IsStreaming Host = ⊤
IsStreaming Derive = ⊤
IsStreaming command = ⊥

-- What a command did, sent and left, and why it ended, by the status: the clauses of the program's call, of one command.
pub record CommandEnds (command : Command) (old new : View) (left left' before now : Option (List ℕ)) (faults : Faults)
    (code place : ℕ) : Type 0 where
  pub codes : Contains (0 ∷ 3 ∷ 4 ∷ 5 ∷ 6 ∷ 7 ∷ 8 ∷ 9 ∷ 10 ∷ 11 ∷ 12 ∷ 13 ∷ 14 ∷ 15 ∷ 16 ∷ 17 ∷ []) code
  pub own : Contains (codes_of command) code
  pub away : IsOverStore command → old.size < 128 → IsTurnedAway left left' before now code
  pub untaken : TakesNone command → left' ≡ left
  pub bars : code ≡ 7 → Bars command old new left left' before now place
  pub reads : ReadsFew command old new
  pub reads_lines : IfSome left (λ input. ReadsByInput command old new input before now)
  pub syncs : IfSome left (λ input. SyncsByInput command old new input before now)
  pub unsent : code ≡ 14 → now ≡ before
  pub read : code ≡ 4 → HasRisen faults.reads faults.reads_now
  pub stopped : code ≡ 4 → IfSome left (λ input. IfSome left' (StopsBefore command old new input before now))
  pub send : code ≡ 5 → HasRisen faults.sends faults.sends_now
  pub bad : code ≡ 8 → IfSome left (λ input. IsBadInput command old new input place before now)
  pub much : code ≡ 9 → IfSome left (λ input. IsTooMuch command old new input place before now)
  pub missing : code ≡ 10 → IfSome left (λ input. Lacks command old input place before now)
  pub misfit : code ≡ 11 → IfSome left (λ input. Misfits command old input place before now)
  pub unopened : code ≡ 15 → IfSome left (λ input. NamesUnopened command old input place before now)
  pub memory : code ≡ 3 → IfSome left (λ input. IsCutShort command old new input before now)
  pub within : code ≡ 0 → IfSome left (IsWithin command left')
  pub fault : code ≡ 6 → HasRisen old.faults new.faults
  pub faulted : code ≡ 6 → IfSome left (λ input. StopsAtDisk command old input before now)
  pub damaged : code ≡ 7 → IsDamaged command old new place
  pub undamaged : code ≡ 7 → IfSome left (λ input. IsUndamaged command old)
  pub small : code ≡ 12 → IsTooSmall command old place
  pub there : code ≡ 13 → IsThere command old place
  pub refused : code ≡ 14 → IfSome left (λ input. IsRefused command old new input left' place)
  pub unnamed : TellsUnnamed command old code
  pub unknown : code ≡ 17 → IfSome left (λ input. IsUnknown command old new input place before now)
  pub refused_line : code ≡ 16 → IfSome left (λ input. IsRefusedLine command old input place before now)
  pub zero_place : Contains (0 ∷ 3 ∷ 4 ∷ 5 ∷ 6 ∷ []) code → place ≡ 0
  pub done : code ≡ 0 → IfSome left (λ input. SendsAll command old new input before now)
  pub part : code ≡ 5 → IfSome left (λ input. SendsPart command old new input before now)
  pub nothing : code ≢ 0 → code ≢ 5 → (IsStreaming command → ⊥) → now ≡ before
  pub pictures : code ≡ 0 → command ≡ Draw → IfSome left (λ input. DrawsReplies input before now)
  pub holds : code ≢ 6 → IfSome left (λ input. HoldsAgain (page_count old.size) old new)
  pub crash : IfSome left (λ input. LeavesTold command old new input before now)
  pub disk : LeavesDisk command old new
  pub honest : Honest old → Honest new
  pub made : code ≡ 0 → IsMade command old new
  pub complete : IfSome left (λ input. IsInput command old new input → Contains of_done code)
  pub drawn : command ≡ Draw → IfSome left (λ input. IsOfReplies input → Contains of_done code)
  pub ready : command ≡ Init → IsFree old → (HasRisen old.faults new.faults → ⊥) → (code ≡ 0) ⊎ (code ≡ 3)

-- the same by the status, and by what passed through the streams
abbrev pub EndsCommand : Command → View → View → Traffic → Status → Type 0
EndsCommand command old new t end =
    CommandEnds command old new t.left t.left_now t.sent t.sent_now (faults_of t.reads t.reads_now t.sends t.sends_now) end.code end.place
