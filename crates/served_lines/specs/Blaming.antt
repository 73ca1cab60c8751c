-- Which line of an input calls a page damaged, whatever the pages are.
use Rattle.std.specs.Prelude.{ℕ, List, Option, IfSome, flat_map, All, ◌≡◌, ◌∷◌, ◌++◌, ⊤}
use Rattle.block_disk.specs.Streams.{sent_after}
use Rattle.block_disk.specs.View.{Image}
use Rattle.chart_frames.specs.Frames.{Fits, spelling}
use Rattle.chart_frames.specs.declared.frame.Frame.{Frame}
use Rattle.gate_pages.specs.declared.pages.Pages.{Ghosts}
use Rattle.zoom_session.specs.Sessions.{is_open}
use Rattle.zoom_session.specs.declared.session.Session.{Session}
use Rattle.chart_service.specs.Blaming.{Blames, BlamesNext}
use Rattle.chart_service.specs.Kinds.{MayAnswerAll}
use Rattle.chart_service.specs.LastShown.{IsLastIn, LastShown}
use Rattle.chart_service.specs.Making.{Makes}
use Rattle.chart_service.specs.Naming.{NameOpen}
use Rattle.chart_service.specs.Serving.{told}
use Rattle.chart_service.specs.Shown as shown
use Rattle.chart_service.specs.declared.failure.AnswerEnd.{AnswerEnd}
use Rattle.chart_service.specs.declared.failure.AnswerEnd.TheVariants.{Serve, Reply}
use Rattle.chart_service.specs.declared.failure.ServeEnd.{ServeEnd}
use Rattle.chart_service.specs.declared.failure.ServeEnd.TheVariants.{ReadFault, SendFault, DiskFault, Damaged, InputTooLong, NoMemory}
use Rattle.chart_service.specs.declared.service.Service.{Service}

-- Where an end calls a page damaged, the line behind the answered ones blames it, if the input is told.
abbrev pub BlamesTold : {S F : Type 0} → Makes S F → S → S → List Session → Option (List ℕ) → Option (List ℕ) → Option (List ℕ) → Type 0
    → ℕ → Image → AnswerEnd F → Type 0
BlamesTold makes kept kept' own input before now told_now count image (Serve ReadFault) = ⊤
BlamesTold makes kept kept' own input before now told_now count image (Serve SendFault) = ⊤
BlamesTold makes kept kept' own input before now told_now count image (Serve DiskFault) = ⊤
BlamesTold makes kept kept' own input before now told_now count image (Serve (Damaged page)) =
    IfSome input (λ bytes. BlamesNext makes kept kept' own bytes before now told_now count image page)
BlamesTold makes kept kept' own input before now told_now count image (Serve InputTooLong) = ⊤
BlamesTold makes kept kept' own input before now told_now count image (Serve NoMemory) = ⊤
BlamesTold makes kept kept' own input before now told_now count image (Reply e) = ⊤

-- The spellings of frames were sent, one for each of some first lines of the input that aren't empty. The next line blames the
-- page, by the series that the sessions were shown last.
pub record SendsBlamed (own : List Session) (input : List ℕ) (before now : Option (List ℕ)) (told_now : Type 0) (count : ℕ)
    (image : Image) (page : ℕ) : Type 0 where
  pub front : List (Option (List ℕ))
  pub line : Option (List ℕ)
  pub behind : List (Option (List ℕ))
  pub lines_are : told input ≡ front ++ line ∷ behind
  pub frames : List Frame
  pub fits : All Fits frames
  pub answers : MayAnswerAll front frames
  pub named : NameOpen (λ n. is_open n own) frames
  pub sent : now ≡ sent_after (flat_map spelling frames) before
  pub blames : Blames line (LastShown (IsLastIn own) front frames) told_now count image page

-- the same of the end of a serving
abbrev pub ServeBlames : List Session → Option (List ℕ) → Option (List ℕ) → Option (List ℕ) → Type 0 → ℕ → Image → ServeEnd → Type 0
ServeBlames own input before now told_now count image ReadFault = ⊤
ServeBlames own input before now told_now count image SendFault = ⊤
ServeBlames own input before now told_now count image DiskFault = ⊤
ServeBlames own input before now told_now count image (Damaged page) =
    IfSome input (λ bytes. SendsBlamed own bytes before now told_now count image page)
ServeBlames own input before now told_now count image InputTooLong = ⊤
ServeBlames own input before now told_now count image NoMemory = ⊤

module _ {P : Type 0} {g : Ghosts P} (left sent : P → Option (List ℕ)) where
  abbrev pub BlamesOf : {S F : Type 0} → Makes S F → S → S → Service P g → Service P g → AnswerEnd F → Type 0
  BlamesOf makes kept kept' old new end =
      BlamesTold makes kept kept' (shown.sessions old) (left (shown.pages old)) (sent (shown.pages old)) (sent (shown.pages new))
      (shown.IsTold new) (shown.view new).size (shown.image new) end

  abbrev pub ServeBlamesOf : Service P g → Service P g → ServeEnd → Type 0
  ServeBlamesOf old new end =
      ServeBlames (shown.sessions old) (left (shown.pages old)) (sent (shown.pages old)) (sent (shown.pages new)) (shown.IsTold new)
      (shown.view new).size (shown.image new) end
