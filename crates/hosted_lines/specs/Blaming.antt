-- What is sent for lines before one of them, or a push, calls a page damaged, whatever the pages are.
use Rattle.std.specs.Prelude.{ℕ, ◌≡◌, ◌<◌, ◌⊎◌, List, [], ◌∷◌, ◌++◌, All, Option, None, Some, IfSome, ⊤}
use Rattle.block_disk.specs.Streams.{sent_after}
use Rattle.block_disk.specs.View.{Honest, Image, View}
use Rattle.block_disk.specs.declared.streams.Streams.{Ghosts as StreamGhosts}
use Rattle.block_disk.specs.declared.streams.Streams as streams
use Rattle.chart_frames.specs.Frames.{Fits}
use Rattle.chart_frames.specs.declared.frame.Frame.{Frame}
use Rattle.chart_service.specs.Blaming.{Blames}
use Rattle.chart_service.specs.LastShown.{IsLastIn}
use Rattle.chart_service.specs.Naming.{NameOpened}
use Rattle.chart_service.specs.Serving.{told}
use Rattle.chart_service.specs.Shown as shown
use Rattle.chart_service.specs.Stepping.{IsBadPage}
use Rattle.chart_service.specs.declared.failure.ServiceError.{ServiceError}
use Rattle.gate_pages.specs.declared.pages.Pages.{Ghosts}
use Rattle.host_lines.specs.Grammar.{host_line}
use Rattle.host_lines.specs.declared.asked.HostLine.{HostLine}
use Rattle.host_lines.specs.declared.asked.HostLine.TheVariants.{List as ListLine, Values, Sum, Sweep, Bad, Other}
use Rattle.live_service.specs.Blaming.{PushBlames}
use Rattle.live_service.specs.Kinds.{MayAnswerBy}
use Rattle.live_service.specs.Pushing.{FollowedBy}
use Rattle.live_service.specs.Shown as its
use Rattle.live_service.specs.declared.stepper.ServiceStepper.{ServiceStepper}
use Rattle.live_view.specs.declared.live.Live.{Live}
use Rattle.live_view.specs.declared.stepper.Stepper.{Ghosts as StepperGhosts}
use Rattle.run_ends.specs.declared.ending.End.{End}
use Rattle.run_ends.specs.declared.ending.End.TheVariants.{DamagedPage}
use Rattle.series_pair.specs.Damage.{IsBadForChart}
use Rattle.stored_book.specs.Standing.{book_pages}
use Rattle.store_commands.specs.Exported.{IsBadForExport}
use Rattle.hosted_lines.specs.Answers.{AreSentBy, Sends, ShownLast, Watched, watched}
use Rattle.hosted_lines.specs.Lives.{Event, lines_in, spelled}
use Rattle.hosted_lines.specs.Shown.{pages}

-- which page a line may blame, by the series that the sessions show last, and whether reads give what the pages are
abbrev pub BlamesBy : Type 1
BlamesBy = Option (List ℕ) → (ℕ → ℕ → Type 0) → Type 0 → ℕ → Image → ℕ → Type 0

-- Which page a line of a host may blame, by what it asks of the host alone: of values one of the tree of the series that it
-- names, of a sum one on the way to a key, and of a step one that an edit or a look may. The list and a bad line blame none.
abbrev pub BlamesAlone : HostLine → List ℕ → (ℕ → ℕ → Type 0) → Type 0 → ℕ → Image → ℕ → Type 0
BlamesAlone ListLine text last is_told count image page = ⊥
BlamesAlone (Values name t0 t1) text last is_told count image page = (page < count) × (is_told → IsBadForExport name count image page)
BlamesAlone (Sum session request) text last is_told count image page = (page < count) × (is_told → IsBadForChart count image page)
BlamesAlone (Sweep rule) text last is_told count image page = IsBadPage is_told count image page
BlamesAlone (Bad at) text last is_told count image page = ⊥
BlamesAlone Other text last is_told count image page = Blames (Some text) last is_told count image page

-- and by its text, where it isn't too long
abbrev pub BlamesHost : BlamesBy
BlamesHost None last is_told count image page = ⊥
BlamesHost (Some text) last is_told count image page = BlamesAlone (host_line text) text last is_told count image page

-- the first of the lines does
abbrev pub FirstBlames : BlamesBy → List (Option (List ℕ)) → (ℕ → ℕ → Type 0) → Type 0 → ℕ → Image → ℕ → Type 0
FirstBlames By [] last is_told count image page = ⊥
FirstBlames By (line ∷ later) last is_told count image page = By line last is_told count image page

-- it blames the page, or a push to a session does that is followed
abbrev pub NextBlames : BlamesBy → List (Option (List ℕ)) → List ℕ → (ℕ → ℕ → Type 0) → Type 0 → ℕ → Image → ℕ → Type 0
NextBlames By lines followed last is_told count image page =
    FirstBlames By lines last is_told count image page ⊎ PushBlames followed last is_told count image page

-- Some first of the lines are answered, with pushes, and so much was sent; then the next one blames the page, or a push does.
pub record BlamesFirst (May : MayAnswerBy) (after : FollowedBy) (By : BlamesBy) (lines : List (Option (List ℕ))) (old : Watched)
    (before now : Option (List ℕ)) (is_told : Type 0) (count : ℕ) (image : Image) (page : ℕ) : Type 0 where
  pub first : List (Option (List ℕ))
  pub later : List (Option (List ℕ))
  pub split : lines ≡ first ++ later
  pub at : Watched
  pub sends : Sends May after first old at before now
  pub blames : NextBlames By later at.followed (IsLastIn at.sessions) is_told count image page

-- nothing was shown
abbrev pub none_shown : ℕ → ℕ → Type 0
none_shown n id = ⊥

-- The spellings of frames were sent, of which one answers each of some first lines of the input that aren't empty, in order, and
-- all others are pushes: each shows a view of a session that is followed then. The fields of each meet their rules, and it names
-- sessions that those before it opened. Then the next line blames the page, or a push to a session that is followed then does, by
-- the series that the sessions were shown last.
pub record BlamesNext (May : MayAnswerBy) (after : FollowedBy) (By : BlamesBy) (input : List ℕ) (before now : Option (List ℕ))
    (is_told : Type 0) (count : ℕ) (image : Image) (page : ℕ) : Type 0 where
  pub events : List Event
  pub later : List (Option (List ℕ))
  pub lines_are : told input ≡ lines_in events ++ later
  pub frames : List Frame
  pub fits : All Fits frames
  pub followed : List ℕ
  pub are_sent : AreSentBy May after events [] frames followed
  pub named : NameOpened frames
  pub sent : now ≡ sent_after (spelled frames) before
  pub blames : NextBlames By later followed (ShownLast none_shown events frames) is_told count image page

-- this is so of a page that an end calls damaged
abbrev pub OfDamaged : (ℕ → Type 0) → End → Type 0
OfDamaged IsSo (DamagedPage page) = IsSo page
OfDamaged IsSo end = ⊤

-- the same of the pages of a disk as it is then, where the input is told
abbrev pub BlamesOnDisk : MayAnswerBy → FollowedBy → BlamesBy → ℕ → View → Option (List ℕ) → Option (List ℕ) → Option (List ℕ) → End
    → Type 0
BlamesOnDisk May after By count disk input before now end = OfDamaged (λ page.
    IfSome input (λ bytes. BlamesNext May after By bytes before now (Honest disk) count (book_pages count disk.image) page)) end

module _ {P : Type 0} {g : Ghosts P} {h : StepperGhosts (ServiceStepper P g) ServiceError} {beside : StreamGhosts (ServiceStepper P g)}
  where
    -- what a call did for lines, where its end calls a page damaged
    abbrev pub BlamesFor : streams.Ghosts P → MayAnswerBy → FollowedBy → BlamesBy → List (Option (List ℕ))
        → Live (ServiceStepper P g) ServiceError h beside
        → Live (ServiceStepper P g) ServiceError h beside → End → Type 0
    BlamesFor told May after By lines old new end =
        OfDamaged (BlamesFirst May after By lines (watched old) (told.sent (pages old)) (told.sent (pages new))
        (shown.IsTold (its.service new))
        (its.view new).size (its.view new).image) end

    -- and for the lines of the input, where that is told
    abbrev pub BlamesInput : streams.Ghosts P → MayAnswerBy → FollowedBy → BlamesBy → Live (ServiceStepper P g) ServiceError h beside
        → Live (ServiceStepper P g) ServiceError h beside → End → Type 0
    BlamesInput at May after By old new end = OfDamaged (λ page. IfSome (at.left (pages old)) (λ input.
        BlamesFirst May after By (told input) (watched old) (at.sent (pages old)) (at.sent (pages new)) (shown.IsTold (its.service new))
        (its.view new).size (its.view new).image page)) end
