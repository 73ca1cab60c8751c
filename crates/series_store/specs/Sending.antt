-- What is sent of the values of a series.
use Rattle.std.specs.Prelude.{ℕ, zero, suc, ℤ, ◌≡◌, ◌≢◌, ◌+◌, ◌*◌, ◌<◌, ◌≤◌, ◌⊎◌, ◌&&◌, Bool, nat_lt, min, if◌then◌else◌, List, [], ◌++◌}
use Rattle.std.specs.Prelude.{length, Option, None, Some, Result, Ok, Err, IfErr, ⊤}
use Rattle.block_disk.specs.Counts.{HasRisen}
use Rattle.block_disk.specs.Streams.{sent_after}
use Rattle.block_disk.specs.View.{Image, View, Now, sent_now, Passes}
use Rattle.gate_pages.specs.Pages.{GoesOn}
use Rattle.gate_pages.specs.declared.pages.Pages.{Ghosts}
use Rattle.om3_coeff.specs.declared.span.Span.{Span}
use Rattle.om3_coeff.specs.Keys.{end_slot, first_slot, page_levels}
use Rattle.om3_coeff.specs.Spans.{AreSlots, span}
use Rattle.page_space.specs.Shown as spaces
use Rattle.page_space.specs.declared.space.Space.{Space}
use Rattle.page_space.specs.declared.superblock.Superblock.{Superblock}
use Rattle.node_page.specs.Fields.{child_at}
use Rattle.path_repair.specs.Changes.{slot_at}
use Rattle.path_repair.specs.Damage.{AreBelow}
use Rattle.path_repair.specs.Sums.{join_below}
use Rattle.path_repair.specs.TreePages.{count_where, is_stored}
use Rattle.stored_book.specs.Records.{entry}
use Rattle.tree_walk.specs.Trees.{IsTree, top_of_page}
use Rattle.tree_walk.specs.declared.tree.Tree.{Tree}
use Rattle.series_store.specs.Counting.{IsBadFor}
use Rattle.series_store.specs.Shown as shown
use Rattle.series_store.specs.WhereFit.{IsTreeWhereFit}
use Rattle.series_store.specs.declared.errors.StoreError.{StoreError}
use Rattle.series_store.specs.declared.errors.StoreError.TheVariants as store
use Rattle.series_store.specs.declared.send_errors.SendError.{SendError}
use Rattle.series_store.specs.declared.send_errors.SendError.TheVariants.{SendFault, DiskFault, Damaged, NoMemory}
use Rattle.series_store.specs.declared.store.Store.{Store}

-- what is said of a slot: the text of its value; nothing where it holds none
abbrev pub said_of : (ℕ → ℤ → List ℕ) → ℕ → Option ℤ → List ℕ
said_of text slot None = []
said_of text slot (Some value) = text slot value

-- the same of a slot of a list
abbrev pub said : (ℕ → ℤ → List ℕ) → List (Option ℤ) → ℕ → List ℕ
said text list slot = said_of text slot (slot_at list slot)

-- the texts of all values of a list, in the order of their slots
abbrev pub texts_of : (ℕ → ℤ → List ℕ) → List (Option ℤ) → List ℕ
texts_of text list = join_below (said text list) (length list)

-- what is said of the first so many slots, and nothing of the others
abbrev pub first_said : ℕ → (ℕ → ℤ → List ℕ) → ℕ → ℤ → List ℕ
first_said slots text slot value = if nat_lt slot slots then text slot value else []

-- something may be said of the first so many slots that are in the range of the page of this page level and index
abbrev pub may_be_said_in : (ℕ → ℕ → Bool) → ℕ → ℕ → ℕ → Bool
may_be_said_in may slots level index =
    nat_lt (first_slot (top_of_page level index)) slots
    && may (first_slot (top_of_page level index)) (min (end_slot (top_of_page level index)) slots)

-- and one of them holds a value
abbrev pub is_said_in : (ℕ → ℕ → Bool) → ℕ → List (Option ℤ) → ℕ → ℕ → Bool
is_said_in may slots list level index = is_stored list level index && may_be_said_in may slots level index

-- how many pages the tree of a list has in whose range a slot holds a value, and something may be said of slots
abbrev pub pages_said : (ℕ → ℕ → Bool) → List (Option ℤ) → ℕ
pages_said may list = count_where (is_said_in may (length list) list) (page_levels (length list)) 0

-- nothing is said of the slots from first on and below end
abbrev pub IsSilent : (ℕ → ℤ → List ℕ) → ℕ → ℕ → Type 0
IsSilent text first end = (slot : ℕ) (value : ℤ) → first ≤ slot → slot < end → text slot value ≡ []

-- a front of the text was sent behind what was sent before, and the rest of it waits
pub record IsGiven (text : List ℕ) (before now : Option (List ℕ)) (waiting : List ℕ) : Type 0 where
  pub done : List ℕ
  pub split : text ≡ done ++ waiting
  pub sent : now ≡ sent_after done before

-- what is left of a text after an error: where a page was damaged it begins with what waits
abbrev pub IsLeft : SendError → List ℕ → List ℕ → Type 0
IsLeft SendFault waiting rest = ⊤
IsLeft DiskFault waiting rest = ⊤
IsLeft (Damaged page) waiting rest = (more : List ℕ) × (rest ≡ waiting ++ more)
IsLeft NoMemory waiting rest = ⊤

-- after an error a front of it was sent, and the rest may be lost
abbrev pub GivesBy : Result (Unit {0}) SendError → List ℕ → Option (List ℕ) → Option (List ℕ) → List ℕ → Type 0
GivesBy (Ok done) text before now waiting = IsGiven text before now waiting
GivesBy (Err e) text before now waiting = (rest : List ℕ) × IsLeft e waiting rest × IsGiven text before now rest

-- pages are read and bytes are sent, and nothing else changes
pub record Sends (told_old told_new : Type 0) (old new under_old under_new : View) (before after : Superblock) : Type 0 where
  pub time : Passes old new (Now old) (λ count. (sent_now old ≤ count) × (count ≤ sent_now new))
  pub told : told_old → told_new
  pub was_told : told_new → told_old
  pub image : told_old → new.image ≡ old.image
  pub size : new.size ≡ old.size
  pub fit : old.fit → new.fit
  pub faults : old.faults ≤ new.faults
  pub reads : old.reads ≤ new.reads
  pub syncs : new.syncs ≡ old.syncs
  pub writes : new.writes ≡ old.writes
  pub left : new.beside.left ≡ old.beside.left
  pub read_faults : new.beside.read_faults ≡ old.beside.read_faults
  pub send_faults : old.beside.send_faults ≤ new.beside.send_faults
  pub pieces : new.beside.pieces ≡ old.beside.pieces
  pub superblock : after ≡ before
  pub goes_on : GoesOn under_old under_new

-- why the text of a value wasn't sent
abbrev pub IsTextCause : SendError → View → View → Type 0
IsTextCause SendFault old new = HasRisen old.beside.send_faults new.beside.send_faults
IsTextCause DiskFault old new = ⊥
IsTextCause (Damaged page) old new = ⊥
IsTextCause NoMemory old new = Unit {0}

-- of the tree below a page of this page level, whose top has this span, this page is unfit for its place
abbrev pub HasUnfitPage : Image → ℕ → ℕ → ℕ → Option Span → ℕ → Type 0
HasUnfitPage image total zero page top at = ⊥
HasUnfitPage image total (suc level) page top at =
    ((page ≢ 0) × (at ≡ page) × IsBadFor total (suc level) top (image page))
    ⊎ ((page ≢ 0) × (spans : ℕ → Option Span) × (child : ℕ) × AreBelow top (image page) spans × (child < 128)
    × HasUnfitPage image total level (child_at (image page) child) (spans (127 + child)) at)

-- the same of a page with this index, where the range of the unfit one begins with this slot
abbrev pub HasUnfitFrom : Image → ℕ → ℕ → ℕ → ℕ → Option Span → ℕ → ℕ → Type 0
HasUnfitFrom image total zero index page top at slot = ⊥
HasUnfitFrom image total (suc level) index page top at slot =
    ((page ≢ 0) × (at ≡ page) × (slot ≡ first_slot (top_of_page (suc level) index)) × IsBadFor total (suc level) top (image page))
    ⊎ ((page ≢ 0) × (spans : ℕ → Option Span) × (child : ℕ) × AreBelow top (image page) spans × (child < 128)
    × HasUnfitFrom image total level (128 * index + child) (child_at (image page) child) (spans (127 + child)) at slot)

-- what is said of the slots from first on and below this one is given behind what is said of those before them
pub record GivesBefore (unfit : ℕ → Type 0) (saying : ℕ
    → List ℕ) (first : ℕ) (sent now : Option (List ℕ)) (waiting waits : List ℕ) : Type 0 where
  pub slot : ℕ
  pub from : unfit slot
  pub gives : (front : List ℕ) (before : Option (List ℕ)) → IsGiven (front ++ join_below saying first) before sent waiting
      → IsGiven (front ++ join_below saying slot) before now waits

-- so it is, where a page is damaged, of the slots before its range
abbrev pub IsCut : SendError → (ℕ → ℕ → Type 0) → (ℕ → List ℕ) → ℕ → Option (List ℕ) → Option (List ℕ) → List ℕ → List ℕ → Type 0
IsCut SendFault unfit saying first sent now waiting waits = ⊤
IsCut DiskFault unfit saying first sent now waiting waits = ⊤
IsCut (Damaged page) unfit saying first sent now waiting waits = GivesBefore (unfit page) saying first sent now waiting waits
IsCut NoMemory unfit saying first sent now waiting waits = ⊤

-- the texts of the values in the slots before a damaged page's were sent behind this one, and nothing else
pub record SentBefore (unfit : ℕ → Type 0) (text : ℕ → ℤ
    → List ℕ) (list : List (Option ℤ)) (front : List ℕ) (before now : Option (List ℕ)) : Type 0 where
  pub slot : ℕ
  pub from : unfit slot
  pub sent : now ≡ sent_after (front ++ join_below (said text list) slot) before

-- so it is where a tree's values were sent up to a damaged page
abbrev pub SendsCut : SendError → (ℕ → ℕ → Type 0) → (ℕ → ℤ → List ℕ) → List (Option ℤ) → List ℕ → Option (List ℕ) → Option (List ℕ)
    → Type 0
SendsCut SendFault unfit text list front before now = ⊤
SendsCut DiskFault unfit text list front before now = ⊤
SendsCut (Damaged page) unfit text list front before now = SentBefore (unfit page) text list front before now
SendsCut NoMemory unfit text list front before now = ⊤

-- why not all values of the tree below a page of this page level were sent; a page that is named is below the total
abbrev pub IsSendCause : SendError → Type 0 → View → View → ℕ → ℕ → ℕ → Option Span → Type 0
IsSendCause SendFault told old new total level page top = HasRisen old.beside.send_faults new.beside.send_faults
IsSendCause DiskFault told old new total level page top = HasRisen old.faults new.faults
IsSendCause (Damaged at) told old new total level page top = (at < total) × (told → HasUnfitPage old.image total level page top at)
IsSendCause NoMemory told old new total level page top = Unit {0}

-- the same of the tree that the record of the series of this id names
abbrev pub IsSeriesCause : SendError → Type 0 → Superblock → ℕ → View → View → Type 0
IsSeriesCause e told s id old new = IsSendCause e told old new s.total (page_levels (entry old.image id).slots) (entry old.image id).root
    (entry old.image id).span

-- of the tree that the record of this id names, this page is unfit for its place, and its range begins with this slot
abbrev pub IsUnfitIn : Image → ℕ → ℕ → ℕ → ℕ → Type 0
IsUnfitIn image total id page slot = HasUnfitFrom image total (page_levels (entry image id).slots) 0 (entry image id).root
    (entry image id).span page slot

-- where a page of it is damaged, the texts of the values before its slots were sent
abbrev pub CutsSeries : SendError → Image → ℕ → ℕ → (ℕ → ℤ → List ℕ) → List (Option ℤ) → List ℕ → Option (List ℕ) → Option (List ℕ) → Type 0
CutsSeries e image total id text list front before now =
    SendsCut e (IsUnfitIn image total id) text list front before now

-- no page was damaged
abbrev pub IsNoDamage : SendError → Type 0
IsNoDamage SendFault = ⊤
IsNoDamage DiskFault = ⊤
IsNoDamage (Damaged page) = ⊥
IsNoDamage NoMemory = ⊤

-- what an error of a page is where values are sent; the others come from no reading of a page
abbrev pub send_error_of : StoreError → SendError
send_error_of (store.Refused refusal) = NoMemory
send_error_of store.NotAStore = NoMemory
send_error_of store.DiskFault = DiskFault
send_error_of (store.Damaged page) = Damaged page
send_error_of store.NoMemory = NoMemory

-- What is said of the slots from first on and below end is given behind what is said of those before them, by at
-- most so many reads.
pub record SendsPart (saying : ℕ → List ℕ) (first end pages : ℕ) (old new : View) (waiting waits : List ℕ)
    (result : Result (Unit {0}) SendError) : Type 0 where
  pub reads : new.reads ≤ old.reads + pages
  pub gives : (front : List ℕ) (before : Option (List ℕ)) → IsGiven (front ++ join_below saying first) before old.beside.sent waiting
      → GivesBy result (front ++ join_below saying end) before new.beside.sent waits

module _ {P : Type 0} {g : Ghosts P} where
  -- the same of a space
  abbrev pub SendsBy : Space P g → Space P g → Type 0
  SendsBy old new =
      Sends (spaces.IsTold old) (spaces.IsTold new) (spaces.view old) (spaces.view new) (spaces.under old) (spaces.under new)
      (spaces.numbers old) (spaces.numbers new)

  -- a text of which a front was sent, and the rest waited, is made longer so: more of it was sent, and the rest waits
  abbrev pub GivesMore : (List ℕ → List ℕ) → Result (Unit {0}) SendError → Space P g → Space P g → List ℕ → List ℕ → Type 0
  GivesMore more result old new waiting waits =
      (text : List ℕ) (before : Option (List ℕ)) → IsGiven text before (spaces.view old).beside.sent waiting
      → GivesBy result (more text) before (spaces.view new).beside.sent waits

  -- so of the list that the tree below a page of this page level and index stands for, whose top has this span
  abbrev pub ForListBelow : Space P g → ℕ → ℕ → ℕ → Option Span → (List (Option ℤ) → Type 0) → Type 0
  ForListBelow it level index page top IsSo =
      (list : List (Option ℤ)) → spaces.IsTold it → AreSlots list → IsTree (spaces.image it) (spaces.total it) list level index page
      → top ≡ span list (top_of_page level index)
      → IsSo list

  -- so of each list for which it stands where its pages fit
  abbrev pub ForFitBelow : Space P g → ℕ → ℕ → ℕ → Option Span → (List (Option ℤ) → Type 0) → Type 0
  ForFitBelow it level index page top IsSo =
      (list : List (Option ℤ)) → spaces.IsTold it → AreSlots list → IsTreeWhereFit (spaces.image it) (spaces.total it) list level index page
      → top ≡ span list (top_of_page level index)
      → IsSo list

  -- why not all values of a tree were sent
  abbrev pub IsCauseOf : Tree → Space P g → Space P g → SendError → Type 0
  IsCauseOf tree old new e = IsSendCause e (spaces.IsTold old) (spaces.view old) (spaces.view new) (spaces.total old)
      (page_levels tree.slots) tree.root tree.span

  -- what is said of the values of a list below a page is given behind what waited
  abbrev pub SendsBelow : (ℕ → ℤ → List ℕ) → (ℕ → ℕ → Bool) → ℕ → ℕ → ℕ → Space P g → Space P g → List ℕ → List ℕ
      → Result (Unit {0}) SendError → List (Option ℤ) → Type 0
  SendsBelow text may slots level index old new waiting waits result list =
      SendsPart (said text list) (first_slot (top_of_page level index)) (end_slot (top_of_page level index))
      (count_where (is_said_in may slots list) level index) (spaces.view old) (spaces.view new) waiting waits result

  -- and where a page below is damaged, what is said of the slots before it
  abbrev pub CutsBelow : (ℕ → ℤ → List ℕ) → ℕ → ℕ → ℕ → Option Span → Space P g → Space P g → List ℕ → List ℕ → Result (Unit {0}) SendError
      → List (Option ℤ) → Type 0
  CutsBelow text level index page top old new waiting waits result list =
      IfErr result (λ e. IsCut e (HasUnfitFrom (spaces.image old) (spaces.total old) level index page top) (said text list)
      (first_slot (top_of_page level index)) (spaces.view old).beside.sent (spaces.view new).beside.sent waiting waits)

  -- the same of a store: what a crash may leave stays at each moment, and so does what is left of the input
  abbrev pub SendsOn : Store P g → Store P g → Type 0
  SendsOn old new =
      Sends (shown.IsTold old) (shown.IsTold new) (shown.view old) (shown.view new) (shown.under old) (shown.under new) (shown.numbers old)
      (shown.numbers new)
