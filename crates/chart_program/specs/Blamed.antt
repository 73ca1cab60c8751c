-- Which line of the input calls a page damaged, whatever the disk holds.
use Rattle.std.specs.Prelude.{◌≡◌, ℕ, List, [], ◌∷◌, ◌++◌, All, Option, IfSome, ⊤}
use Rattle.block_disk.specs.Streams.{sent_after}
use Rattle.block_disk.specs.View.{Honest, Image, View}
use Rattle.block_disk.specs.declared.disk.Disk.{Ghosts as DiskGhosts}
use Rattle.chart_frames.specs.Frames.{Fits}
use Rattle.chart_frames.specs.declared.frame.Frame.{Frame}
use Rattle.chart_service.specs.Blaming.{Blames}
use Rattle.chart_service.specs.Kinds.{MayAnswerAll}
use Rattle.chart_service.specs.LastShown.{IsLastIn, LastShown}
use Rattle.chart_service.specs.Naming.{NameOpen, NameOpened}
use Rattle.chart_service.specs.Serving.{told}
use Rattle.chart_service.specs.Shown as service
use Rattle.chart_service.specs.declared.failure.ServeEnd.TheVariants as serve_end
use Rattle.chart_service.specs.declared.service.Service.{Service}
use Rattle.gate_pages.specs.Journal.{page_count}
use Rattle.gate_pages.specs.Shown as gate
use Rattle.gate_pages.specs.declared.gate_pages.GatePages.{GatePages}
use Rattle.gate_pages.specs.declared.pages.Pages.{Ghosts}
use Rattle.run_ends.specs.declared.ending.End.{End}
use Rattle.run_ends.specs.declared.ending.End.TheVariants.{DamagedPage}
use Rattle.stored_book.specs.Standing.{book_pages}
use Rattle.zoom_session.specs.Sessions.{is_open}
use Rattle.zoom_session.specs.declared.session.Session.{Session}
use Rattle.chart_program.specs.Course.{Course, OfInput, count}
use Rattle.chart_program.specs.LineAnswers.{IsSentOf}
use Rattle.chart_program.specs.Runs.{AreShown, Gives}
use Rattle.chart_program.specs.declared.lines_end.LinesEnd.{LinesEnd}
use Rattle.chart_program.specs.declared.lines_end.LinesEnd.TheVariants as lines_end
use Rattle.chart_program.specs.declared.run_end.RunEnd.{RunEnd}
use Rattle.chart_program.specs.declared.run_end.RunEnd.TheVariants as run_end

-- no session shows a series at first
abbrev pub NoneShown : ℕ → ℕ → Type 0
NoneShown n id = ⊥

-- As many frames as there are first lines, of those of the input that aren't empty, answered these in order, and what was sent is
-- of these frames. The next line blames the page: it spells a request that reads pages, and finds this one damaged, by what the
-- pages say and by the series that its session was shown last.
pub record BlamesNext (IsSent : IsSentOf) (told_now : Type 0) (count : ℕ) (image : Image) (page : ℕ) (input : List ℕ)
    (before now : Option (List ℕ)) : Type 0 where
  pub front : List (Option (List ℕ))
  pub line : Option (List ℕ)
  pub behind : List (Option (List ℕ))
  pub lines_are : told input ≡ front ++ line ∷ behind
  pub frames : List Frame
  pub fits : All Fits frames
  pub answers : MayAnswerAll front frames
  pub named : NameOpened frames
  pub bytes : List ℕ
  pub is_sent : IsSent frames bytes
  pub sent : now ≡ sent_after bytes before
  pub blames : Blames line (LastShown NoneShown front frames) told_now count image page

-- the same of the pages that a disk holds: what they say is so where its reads give what a crash may leave
abbrev pub BlamesOn : IsSentOf → ℕ → View → ℕ → List ℕ → Option (List ℕ) → Option (List ℕ) → Type 0
BlamesOn IsSent count disk page input before now =
    BlamesNext IsSent (Honest disk) count (book_pages count disk.image) page input before now

-- by how the serving of lines ended, where the input is told
abbrev pub RunBlames : IsSentOf → ℕ → View → Option (List ℕ) → Option (List ℕ) → Option (List ℕ) → RunEnd → Type 0
RunBlames IsSent count disk left before now (run_end.Serve serve_end.ReadFault) = ⊤
RunBlames IsSent count disk left before now (run_end.Serve serve_end.SendFault) = ⊤
RunBlames IsSent count disk left before now (run_end.Serve serve_end.DiskFault) = ⊤
RunBlames IsSent count disk left before now (run_end.Serve (serve_end.Damaged page)) =
    IfSome left (λ input. BlamesOn IsSent count disk page input before now)
RunBlames IsSent count disk left before now (run_end.Serve serve_end.InputTooLong) = ⊤
RunBlames IsSent count disk left before now (run_end.Serve serve_end.NoMemory) = ⊤
RunBlames IsSent count disk left before now (run_end.Show e) = ⊤

-- over the pages of an open store on a world
abbrev pub PagesBlamed : {W : Type 0} {disk : DiskGhosts W} → IsSentOf → (W → View) → GatePages W disk → W → Option (List ℕ)
    → Option (List ℕ)
    → Option (List ℕ) → RunEnd → Type 0
PagesBlamed IsSent view pages new left before now end = RunBlames IsSent (gate.count pages) (view new) left before now end

-- where the store is opened first
abbrev pub WorldBlames : IsSentOf → View → View → Option (List ℕ) → Option (List ℕ) → Option (List ℕ) → LinesEnd → Type 0
WorldBlames IsSent old new left before now (lines_end.Opening cause) = ⊤
WorldBlames IsSent old new left before now (lines_end.Answering end) = RunBlames IsSent (page_count old.size) new left before now end

-- and by how the command ended
abbrev pub IsBlamed : IsSentOf → Course → End → Type 0
IsBlamed IsSent c (DamagedPage page) = OfInput c (λ input. BlamesOn IsSent (count c) c.new page input c.sent c.sent_now)
IsBlamed IsSent c end = ⊤

-- Frames were given to `show` one behind the other for some first lines of the input, and the texts of what they showed were
-- sent. The next line blames the page.
pub record ShowsBlamed {V : Type 0} (gives : Gives V) (old new : V) (own : List Session) (input : List ℕ)
    (before now : Option (List ℕ)) (told_now : Type 0) (count : ℕ) (image : Image) (page : ℕ) : Type 0 where
  pub front : List (Option (List ℕ))
  pub line : Option (List ℕ)
  pub behind : List (Option (List ℕ))
  pub lines_are : told input ≡ front ++ line ∷ behind
  pub frames : List Frame
  pub fits : All Fits frames
  pub answers : MayAnswerAll front frames
  pub named : NameOpen (λ n. is_open n own) frames
  pub text : List ℕ
  pub shown : AreShown gives old new [] frames text
  pub sent : now ≡ sent_after text before
  pub blames : Blames line (LastShown (IsLastIn own) front frames) told_now count image page

-- the same by the end of a run
abbrev pub ShowBlames : {V : Type 0} → Gives V → V → V → List Session → Option (List ℕ) → Option (List ℕ) → Option (List ℕ) → Type 0
    → ℕ → Image → RunEnd → Type 0
ShowBlames gives old new own left before now told_now count image (run_end.Serve serve_end.ReadFault) = ⊤
ShowBlames gives old new own left before now told_now count image (run_end.Serve serve_end.SendFault) = ⊤
ShowBlames gives old new own left before now told_now count image (run_end.Serve serve_end.DiskFault) = ⊤
ShowBlames gives old new own left before now told_now count image (run_end.Serve (serve_end.Damaged page)) =
    IfSome left (λ input. ShowsBlamed gives old new own input before now told_now count image page)
ShowBlames gives old new own left before now told_now count image (run_end.Serve serve_end.InputTooLong) = ⊤
ShowBlames gives old new own left before now told_now count image (run_end.Serve serve_end.NoMemory) = ⊤
ShowBlames gives old new own left before now told_now count image (run_end.Show e) = ⊤

-- and of a service
module _ {P V : Type 0} {g : Ghosts P} (left sent : P → Option (List ℕ)) (gives : Gives V) where
  abbrev pub ShowBlamesOf : V → V → Service P g → Service P g → RunEnd → Type 0
  ShowBlamesOf shown shown' old new end =
      ShowBlames gives shown shown' (service.sessions old) (left (service.pages old)) (sent (service.pages old)) (sent (service.pages new))
      (service.IsTold new) (service.view new).size (service.image new) end
