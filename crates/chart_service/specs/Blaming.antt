-- Which page a line calls damaged, by what page 0 and the catalog of an image say, whatever the pages are.
use Rattle.std.specs.Prelude.{ℕ, ◌≡◌, ◌<◌, List, [], ◌∷◌, ◌++◌, All, Option, None, Some, Result, Ok, Err, ⊤}
use Rattle.block_disk.specs.Streams.{sent_after}
use Rattle.block_disk.specs.View.{Image}
use Rattle.chart_frames.specs.Frames.{Fits}
use Rattle.chart_frames.specs.declared.frame.Frame.{Frame}
use Rattle.gate_pages.specs.declared.pages.Pages.{Ghosts}
use Rattle.page_space.specs.declared.superblock.Superblock.{Superblock}
use Rattle.request_lines.specs.declared.requests.Request.{Request}
use Rattle.request_lines.specs.declared.requests.Request.TheVariants.{Edit as EditRequest, Open, View as ViewRequest, Zoom, Pan, Close}
use Rattle.request_lines.specs.Requests.{read_line}
use Rattle.stored_book.specs.Damage.{IsDamagedOnce, SaysNumbers}
use Rattle.stored_book.specs.Records.{entry, tree_of}
use Rattle.tree_walk.specs.Paths.{IsDamaged}
use Rattle.zoom_session.specs.Sessions.{is_open}
use Rattle.zoom_session.specs.declared.session.Session.{Session}
use Rattle.chart_service.specs.Kinds.{MayAnswerAll}
use Rattle.chart_service.specs.LastShown.{IsLastIn, LastShown, LastsBehind}
use Rattle.chart_service.specs.Making.{Makes, AreMade}
use Rattle.chart_service.specs.Naming.{Gives, NameOpen}
use Rattle.chart_service.specs.Serving.{told}
use Rattle.chart_service.specs.Shown as shown
use Rattle.chart_service.specs.declared.failure.AnswerEnd.{AnswerEnd}
use Rattle.chart_service.specs.declared.failure.AnswerEnd.TheVariants.{Serve, Reply}
use Rattle.chart_service.specs.declared.failure.ServeEnd.TheVariants.{ReadFault, SendFault, DiskFault, Damaged, InputTooLong, NoMemory}
use Rattle.chart_service.specs.declared.failure.ServiceError.{ServiceError}
use Rattle.chart_service.specs.declared.failure.ServiceError.TheVariants as step
use Rattle.chart_service.specs.declared.service.Service.{Service}

-- the page is damaged, and on the way to a key of the tree that the record of such a series names
pub record IsDamagedOf (IsShown : ℕ → Type 0) (image : Image) (s : Superblock) (page : ℕ) : Type 0 where
  pub id : ℕ
  pub there : id < s.series
  pub shown : IsShown id
  pub damaged : IsDamaged image s.total (tree_of (entry image id)) page

-- Which page a request finds damaged: a view one of a series with its name, a zoom or a pan one of the series that its session
-- shows last, and an edit one where no page is used twice. The others read none.
abbrev pub FindsDamaged : Request → (ℕ → ℕ → Type 0) → Image → Superblock → ℕ → Type 0
FindsDamaged (EditRequest edit) last image s page = IsDamagedOnce image s page
FindsDamaged (Open number cache) last image s page = ⊥
FindsDamaged (ViewRequest number name w h t0 t1 word text) last image s page =
    IsDamagedOf (λ id. (entry image id).name ≡ name) image s page
FindsDamaged (Zoom number t0 t1) last image s page = IsDamagedOf (last number) image s page
FindsDamaged (Pan number by) last image s page = IsDamagedOf (last number) image s page
FindsDamaged (Close number) last image s page = ⊥

-- the request reads pages
abbrev pub ReadsPages : Request → Type 0
ReadsPages (EditRequest edit) = ⊤
ReadsPages (Open number cache) = ⊥
ReadsPages (ViewRequest number name w h t0 t1 word text) = ⊤
ReadsPages (Zoom number t0 t1) = ⊤
ReadsPages (Pan number by) = ⊤
ReadsPages (Close number) = ⊥

-- A request that reads pages blames this one: it is one of so many, and where reads give what the pages are it is below the
-- total that page 0 says, and the request finds it damaged.
pub record BlamesFor (request : Request) (last : ℕ → ℕ → Type 0) (told : Type 0) (count : ℕ) (image : Image) (page : ℕ) : Type 0 where
  pub reads : ReadsPages request
  pub within : page < count
  pub found : told → SaysNumbers count image (λ s. (page < s.total) × FindsDamaged request last image s page)

-- the same of what a line is read as, and of a line
abbrev pub BlamesRead : Result Request ℕ → (ℕ → ℕ → Type 0) → Type 0 → ℕ → Image → ℕ → Type 0
BlamesRead (Err at) last told count image page = ⊥
BlamesRead (Ok request) last told count image page = BlamesFor request last told count image page

abbrev pub Blames : Option (List ℕ) → (ℕ → ℕ → Type 0) → Type 0 → ℕ → Image → ℕ → Type 0
Blames None last told count image page = ⊥
Blames (Some text) last told count image page = BlamesRead (read_line text) last told count image page

-- where an error calls a page damaged, the request blames it
abbrev pub RequestBlames : Request → (ℕ → ℕ → Type 0) → Type 0 → ℕ → Image → ServiceError → Type 0
RequestBlames request last told count image step.DiskFault = ⊤
RequestBlames request last told count image (step.Damaged page) = BlamesFor request last told count image page
RequestBlames request last told count image step.NoMemory = ⊤

-- and so does the line
abbrev pub LineBlames : Option (List ℕ) → (ℕ → ℕ → Type 0) → Type 0 → ℕ → Image → ServiceError → Type 0
LineBlames line last told count image step.DiskFault = ⊤
LineBlames line last told count image (step.Damaged page) = Blames line last told count image page
LineBlames line last told count image step.NoMemory = ⊤

-- such frames were given to the lines, and the last views of the sessions are of the series that they showed
pub record GivesLast {S F : Type 0} (makes : Makes S F) (lines : List (Option (List ℕ))) (kept last : S) (own sessions : List Session)
    (before now : Option (List ℕ)) : Type 0 where
  pub gives : Gives makes lines kept last (λ n. is_open n own) (λ n. is_open n sessions) before now
  pub lasts : LastsBehind lines gives.frames own sessions

-- such frames were given to some first of the lines, and the next one blames the page
pub record GivesBlamed {S F : Type 0} (makes : Makes S F) (lines : List (Option (List ℕ))) (kept kept' : S) (own : List Session)
    (before now : Option (List ℕ)) (told : Type 0) (count : ℕ) (image : Image) (page : ℕ) : Type 0 where
  pub front : List (Option (List ℕ))
  pub line : Option (List ℕ)
  pub behind : List (Option (List ℕ))
  pub split : lines ≡ front ++ line ∷ behind
  pub sessions : List Session
  pub gives : GivesLast makes front kept kept' own sessions before now
  pub blames : Blames line (IsLastIn sessions) told count image page

-- where an end calls a page damaged
abbrev pub BlamesEnd : {S F : Type 0} → Makes S F → List (Option (List ℕ)) → S → S → List Session → Option (List ℕ) → Option (List ℕ)
    → Type 0 → ℕ → Image → AnswerEnd F → Type 0
BlamesEnd makes lines kept kept' own before now told count image (Serve ReadFault) = ⊤
BlamesEnd makes lines kept kept' own before now told count image (Serve SendFault) = ⊤
BlamesEnd makes lines kept kept' own before now told count image (Serve DiskFault) = ⊤
BlamesEnd makes lines kept kept' own before now told count image (Serve (Damaged page)) =
    GivesBlamed makes lines kept kept' own before now told count image page
BlamesEnd makes lines kept kept' own before now told count image (Serve InputTooLong) = ⊤
BlamesEnd makes lines kept kept' own before now told count image (Serve NoMemory) = ⊤
BlamesEnd makes lines kept kept' own before now told count image (Reply e) = ⊤

-- and by what is answered
abbrev pub BlamesBy : {T S F : Type 0} → Makes S F → List (Option (List ℕ)) → S → S → List Session → List Session → Option (List ℕ)
    → Option (List ℕ) → Type 0 → ℕ → Image → Result T (AnswerEnd F) → Type 0
BlamesBy makes lines kept kept' own sessions before now told count image
    (Ok done) = GivesLast makes lines kept kept' own sessions before now
BlamesBy makes lines kept kept' own sessions before now told count image (Err end) =
    BlamesEnd makes lines kept kept' own before now told count image end

-- Such frames were given to some first of the input's lines that aren't empty, and their bytes were sent. The next line blames the
-- page, by the series that the sessions were shown last.
pub record BlamesNext {S F : Type 0} (makes : Makes S F) (kept kept' : S) (own : List Session) (input : List ℕ)
    (before now : Option (List ℕ)) (told_now : Type 0) (count : ℕ) (image : Image) (page : ℕ) : Type 0 where
  pub front : List (Option (List ℕ))
  pub line : Option (List ℕ)
  pub behind : List (Option (List ℕ))
  pub lines_are : told input ≡ front ++ line ∷ behind
  pub frames : List Frame
  pub fits : All Fits frames
  pub answers : MayAnswerAll front frames
  pub named : NameOpen (λ n. is_open n own) frames
  pub text : List ℕ
  pub made : AreMade makes kept kept' [] frames text
  pub sent : now ≡ sent_after text before
  pub blames : Blames line (LastShown (IsLastIn own) front frames) told_now count image page

module _ {P T S F : Type 0} {g : Ghosts P} (sent : P → Option (List ℕ)) (makes : Makes S F) where
  -- the same of a service
  abbrev pub BlamesSo : List (Option (List ℕ)) → S → S → Service P g → Service P g → Result T (AnswerEnd F) → Type 0
  BlamesSo lines kept kept' old new result =
      BlamesBy makes lines kept kept' (shown.sessions old) (shown.sessions new) (sent (shown.pages old)) (sent (shown.pages new))
      (shown.IsTold new) (shown.view new).size (shown.image new) result
