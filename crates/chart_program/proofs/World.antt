-- What a serving command does to its world, by what it does over a store.
use Rattle.std.proofs.Common.{◌≡◌, ℕ, ◌≤◌, List, [], Option, Some, None, Result, Ok, Err, IfSome, refl, sym, ap, subst, arith, inl, inr}
use Rattle.std.proofs.Common.{◌∙◌}
use Rattle.std.proofs.lemmas.Bool.{cases_lt}
use Rattle.block_disk.specs.View.{Image, View, Honest, sent_now}
use Rattle.block_disk.specs.SentLaws.{sent_none}
use Rattle.chart_world.specs.LineLaws.{told_so}
use Rattle.chart_client.specs.declared.errors.ClientError.TheVariants as client
use Rattle.gate_pages.specs.GateLaws.{goes_then}
use Rattle.gate_pages.specs.Journal.{page_count}
use Rattle.series_book.specs.declared.one_series.Series.{Series}
use Rattle.disk_store.specs.Held.{HoldsBook}
use Rattle.disk_store.specs.Openings.{Opens, Prevents, IsOutside}
use Rattle.disk_store.specs.declared.causes.OpeningCause.{OpeningCause}
use Rattle.disk_store.specs.declared.causes.OpeningCause.TheVariants as opening
use Rattle.disk_store.proofs.Opened.{opens_goes, opens_quiet, opens_sent, opens_recover}
use Rattle.stored_book.specs.Standing.{RecoversTo}
use Rattle.chart_service.specs.State.{State}
use Rattle.chart_service.specs.Serving.{told, SendsFirst}
use Rattle.chart_service.specs.declared.failure.ServeEnd.TheVariants as serve_end
use Rattle.chart_service.specs.Telling.{told_none}
use Rattle.chart_service.proofs.DiskKept.{risen_since}
use Rattle.chart_program.specs.declared.lines_end.LinesEnd.{LinesEnd}
use Rattle.chart_program.specs.declared.lines_end.LinesEnd.TheVariants as lines_end
use Rattle.chart_program.specs.declared.run_end.RunEnd.{RunEnd}
use Rattle.chart_program.specs.declared.run_end.RunEnd.TheVariants as run_end
use Rattle.chart_program.proofs.Counts.{reads_opened, reads_unopened, syncs_opened, syncs_unopened}
use Rattle.chart_program.specs.Served.{Says, Faults, faults_of, AnswersAll, AnswersTaken, AnswersSome, AnswersLines, EndsLines, IsAheadOn}
use Rattle.chart_program.specs.Served.{LeavesBooks, IsLinesCause, ServesLines, EndsOpening, ServesWorld, in_world}
use Rattle.store_commands.specs.Books.{begun, HoldsAgain}
use Rattle.store_commands.proofs.HoldsAgain.{again_opened}
use Rattle.store_commands.proofs.Held.{held}

-- ---- before the first line

-- nothing is said to no lines
abbrev pub SaysNothing : Says → Type 0
SaysNothing IsText = (start : State) → IsText start (told []) [] []

pub first_none : (IsText : Says) (input : List ℕ) (start : State) (before : Option (List ℕ)) → SaysNothing IsText
    → SendsFirst (IsText start) input input start start before before
first_none IsText input start before none = record {
  front = [];
  begins = record { split = refl; whole = inl (inl refl) };
  early = omega arith;
  text = [];
  answers = record { frames = []; replied = told_none start; texts = none start };
  sent = sent_none before;
}

pub some_none : (IsText : Says) (count : ℕ) (old new : View) (input : List ℕ) (before : Option (List ℕ)) → SaysNothing IsText
    → ((total : ℕ) (book : List Series) → HoldsBook count total book old → HoldsBook count total book new)
    → AnswersSome IsText count old new input before before
some_none IsText count old new input before none kept = λ total book holds. (
  begun total book,
  record {
    rest = input;
    between = begun total book;
    first = first_none IsText input (begun total book) before none;
    state = inl (refl, refl);
  },
  kept total book holds,
)

lines_none_sent : (IsText : Says) (count : ℕ) (old : View) (input : List ℕ) (before : Option (List ℕ)) → SaysNothing IsText
    → AnswersLines IsText count old input before before
lines_none_sent IsText count old input before none = λ total book holds.
    record { rest = input; between = begun total book; first = first_none IsText input (begun total book) before none }

-- an image of the book at the start
pub ahead_none : (IsText : Says) (input : List ℕ) (count total : ℕ) (book : List Series) (from : ℕ) (image : Image) (sent : ℕ)
    → SaysNothing IsText → RecoversTo count image total book → sent ≡ from
    → IsAheadOn (IsText (begun total book)) input count total (begun total book) from image sent
ahead_none IsText input count total book from image sent none is same = record {
  readable = is.readable;
  within = is.within;
  old = is.old;
  ahead = record {
    front = [];
    rest = input;
    begins = record { split = refl; whole = inl (inl refl) };
    between = begun total book;
    text = [];
    answers = record { frames = []; replied = told_none (begun total book); texts = none (begun total book) };
    total_is = refl;
    state = inl (is.stands, omega (arith, same));
  };
}

-- ---- an opening, and what comes after it

-- at each moment of an opening
opened_at : (IsText : Says) (input : List ℕ) (old mid : View) (total : ℕ) (book : List Series) → SaysNothing IsText
    → Opens (page_count old.size) old mid → HoldsBook (page_count old.size) total book old → (at : ℕ) (image : Image) → old.clock ≤ at
    → at ≤ mid.clock → mid.crash at image
    → IsAheadOn (IsText (begun total book)) input (page_count old.size) total (begun total book) (sent_now old) image (mid.sent_by at)
opened_at IsText input old mid total book none opens holds at image low high left =
    let count = page_count old.size in
    ahead_none IsText input count total book (sent_now old) image (mid.sent_by at) none
    (opens_recover count total book old mid holds opens at image low high left) (opens_sent count old mid opens at low high)

pub opened_leaves : (IsText : Says) (input : List ℕ) (old mid : View) → SaysNothing IsText → Opens (page_count old.size) old mid
    → LeavesBooks IsText (page_count old.size) input old mid
opened_leaves IsText input old mid none opens = λ total book holds. record {
  goes = opens_goes (page_count old.size) old mid opens;
  here = λ at image low high left. opened_at IsText input old mid total book none opens holds at image low high left;
}

leaves_on : (IsText : Says) (input : List ℕ) (old mid new : View) → SaysNothing IsText → Opens (page_count old.size) old mid
    → LeavesBooks IsText (page_count old.size) input mid new → LeavesBooks IsText (page_count old.size) input old new
leaves_on IsText input old mid new none opens leaves = λ total book holds.
    let count = page_count old.size in
    let since = leaves total book (held old mid opens total book holds) in
    let same : sent_now mid ≡ sent_now old = opens_quiet count old mid opens in
    record {
      goes = goes_then old mid new (opens_goes count old mid opens) since.goes;
      here = λ at image low high left. elim (cases_lt mid.clock at) [
        | inl late ↦
            let P : ℕ → Type 0 = λ from. IsAheadOn (IsText (begun total book)) input count total (begun total book) from image
            (new.sent_by at) in
            subst P same (since.here at image (omega (arith, late)) high left)
        | inr early ↦
            let Q : ℕ → Type 0 = λ sent. IsAheadOn (IsText (begun total book)) input count total (begun total book)
            (sent_now old) image sent in
            subst Q (sym (since.goes.sent_past at early))
            (opened_at IsText input old mid total book none opens holds at image low early (since.goes.past at image early left))
      ];
    }

ends_on : (IsText : Says) (old mid new : View) (input : List ℕ) (left before now : Option (List ℕ)) (end : RunEnd)
    → Opens (page_count old.size) old mid → EndsLines IsText (page_count old.size) mid new input left before now end
    → EndsLines IsText (page_count old.size) old new input left before now end
ends_on IsText old mid new input left before now (run_end.Serve serve_end.ReadFault) opens ends =
    told_so (λ bytes. AnswersTaken IsText (page_count old.size) mid new input bytes before now)
    (λ bytes. AnswersTaken IsText (page_count old.size) old new input bytes before now) left
    (λ bytes taken total book holds. taken total book (held old mid opens total book holds)) ends
ends_on IsText old mid new input left before now (run_end.Serve serve_end.SendFault) opens ends = λ total book holds. ends total book
    (held old mid opens total book holds)
ends_on IsText old mid new input left before now (run_end.Serve serve_end.DiskFault) opens ends = λ total book holds. ends total book
    (held old mid opens total book holds)
ends_on IsText old mid new input left before now (run_end.Serve (serve_end.Damaged page)) opens ends = λ total book holds. ends total book
    (held old mid opens total book holds)
ends_on IsText old mid new input left before now (run_end.Serve serve_end.InputTooLong) opens ends = λ total book holds. ends total book
    (held old mid opens total book holds)
ends_on IsText old mid new input left before now (run_end.Serve serve_end.NoMemory) opens ends = λ total book holds. ends total book
    (held old mid opens total book holds)
ends_on IsText old mid new input left before now (run_end.Show client.NoMemory) opens ends = λ total book holds. ends total book
    (held old mid opens total book holds)
ends_on IsText old mid new input left before now (run_end.Show (client.Missing key)) opens ends = λ total book holds. ends total book
    (held old mid opens total book holds)
ends_on IsText old mid new input left before now (run_end.Show (client.BadCoefficient key)) opens ends = λ total book holds. ends total book
    (held old mid opens total book holds)
ends_on IsText old mid new input left before now (run_end.Show (client.UnknownSession number)) opens ends = λ total book holds.
    ends total book (held old mid opens total book holds)

cause_on : (CanShow : Type 0) (count : ℕ) (old mid new : View) (before now : Option (List ℕ)) (faults : Faults) (end : RunEnd)
    → mid.faults ≡ old.faults → IsLinesCause CanShow count mid new before now faults end
    → IsLinesCause CanShow count old new before now faults end
cause_on CanShow count old mid new before now faults (run_end.Serve serve_end.ReadFault) same is = is
cause_on CanShow count old mid new before now faults (run_end.Serve serve_end.SendFault) same is = is
cause_on CanShow count old mid new before now faults
    (run_end.Serve serve_end.DiskFault) same is = risen_since old.faults mid.faults new.faults same is
cause_on CanShow count old mid new before now faults (run_end.Serve (serve_end.Damaged page)) same is = is
cause_on CanShow count old mid new before now faults (run_end.Serve serve_end.InputTooLong) same is = is
cause_on CanShow count old mid new before now faults (run_end.Serve serve_end.NoMemory) same is = is
cause_on CanShow count old mid new before now faults (run_end.Show (client.Missing key)) same is = is
cause_on CanShow count old mid new before now faults (run_end.Show (client.BadCoefficient key)) same is = is
cause_on CanShow count old mid new before now faults (run_end.Show (client.UnknownSession number)) same is = is
cause_on CanShow count old mid new before now faults (run_end.Show client.NoMemory) same is = is

crash_on : (IsText : Says) (left before : Option (List ℕ)) (old mid new : View) → SaysNothing IsText → Opens (page_count old.size) old mid
    → IfSome left (λ input. IfSome before (λ bytes. LeavesBooks IsText (page_count old.size) input mid new))
    → IfSome left (λ input. IfSome before (λ bytes. LeavesBooks IsText (page_count old.size) input old new))
crash_on IsText None before old mid new none opens leaves = tt
crash_on IsText (Some input) None old mid new none opens leaves = tt
crash_on IsText (Some input) (Some bytes) old mid new none opens leaves = leaves_on IsText input old mid new none opens leaves

again_on : (left : Option (List ℕ)) (old mid new : View) → Opens (page_count old.size) old mid
    → IfSome left (λ input. HoldsAgain (page_count old.size) mid new) → IfSome left (λ input. HoldsAgain (page_count old.size) old new)
again_on left old mid new opens = told_so (λ input. HoldsAgain (page_count old.size) mid new)
    (λ input. HoldsAgain (page_count old.size) old new) left
    (λ input again total book holds. again total book (held old mid opens total book holds))

-- lines were served over the store that was opened
serves_on : {T : Type 0} (IsText : Says) (CanShow : Type 0) (old mid new : View) (left left' before now : Option (List ℕ)) (faults : Faults)
    (answer : Result T RunEnd) → SaysNothing IsText → Opens (page_count old.size) old mid → mid.faults ≡ old.faults
    → ServesLines IsText CanShow (page_count old.size) mid new left left' before now faults answer
    → ServesWorld IsText CanShow old new left left' before now faults (in_world answer)
serves_on {T} IsText CanShow old mid new left left' before now faults (Ok done) none opens quiet s = record {
  done = told_so (λ input. AnswersAll IsText (page_count old.size) mid new input before now)
      (λ input. AnswersAll IsText (page_count old.size) old new input before now) left
      (λ input all total book holds. all total book (held old mid opens total book holds)) s.done;
  within = s.within;
  long = λ is. cc;
  ends = tt;
  crash = crash_on IsText left before old mid new none opens s.crash;
  cause = tt;
  holds = λ other. again_on left old mid new opens (s.holds (λ e. cc));
  reads = reads_opened left old mid new opens s.reads;
  syncs = syncs_opened left old mid new opens s.syncs;
  honest = λ h. s.honest (opens.honest h);
  goes_on = goes_then old mid new (opens_goes (page_count old.size) old mid opens) s.goes_on;
}
serves_on {T} IsText CanShow old mid new left left' before now faults (Err end) none opens quiet s = record {
  done = tt;
  within = tt;
  long = λ is. s.long (let same : end ≡ run_end.Serve serve_end.InputTooLong = cc in ap Err same);
  ends = told_so (λ input. EndsLines IsText (page_count old.size) mid new input left' before now end)
      (λ input. EndsLines IsText (page_count old.size) old new input left' before now end) left
      (λ input ends. ends_on IsText old mid new input left' before now end opens ends) s.ends;
  crash = crash_on IsText left before old mid new none opens s.crash;
  cause = cause_on CanShow (page_count old.size) old mid new before now faults end quiet s.cause;
  holds = λ other. again_on left old mid new opens (s.holds (λ e. other (ap (λ (r : Result T RunEnd). in_world r) e)));
  reads = reads_opened left old mid new opens s.reads;
  syncs = syncs_opened left old mid new opens s.syncs;
  honest = λ h. s.honest (opens.honest h);
  goes_on = goes_then old mid new (opens_goes (page_count old.size) old mid opens) s.goes_on;
}

-- the same, where equals stand for equals
pub serves_opened : {T : Type 0} (IsText : Says) (CanShow : Type 0) (count : ℕ) (old mid new : View)
    (left first_left left' before first_before now : Option (List ℕ)) (faults first_faults : Faults) (answer : Result T RunEnd)
    (answer' : Result T LinesEnd) → SaysNothing IsText → Opens (page_count old.size) old mid → mid.faults ≡ old.faults
    → count ≡ page_count old.size → left ≡ first_left → before ≡ first_before → faults ≡ first_faults → answer' ≡ in_world answer
    → ServesLines IsText CanShow count mid new left left' before now faults answer
    → ServesWorld IsText CanShow old new first_left left' first_before now first_faults answer'
serves_opened {T} IsText CanShow count old mid new left first_left left' before first_before now faults first_faults answer answer' none
    opens quiet counted same_left same_before same_faults same_answer s =
    let C : ℕ → Type 0 = λ c. ServesLines IsText CanShow c mid new left left' before now faults answer in
    let L : Option (List ℕ) → Type 0 = λ l. ServesWorld IsText CanShow old new l left' before now faults (in_world answer) in
    let B : Option (List ℕ) → Type 0 = λ b. ServesWorld IsText CanShow old new first_left left' b now faults (in_world answer) in
    let F : Faults → Type 0 = λ f. ServesWorld IsText CanShow old new first_left left' first_before now f (in_world answer) in
    let A : Result T LinesEnd → Type 0 = λ a. ServesWorld IsText CanShow old new first_left left' first_before now first_faults a in
    subst A (sym same_answer) (subst F same_faults (subst B same_before
    (subst L same_left (serves_on IsText CanShow old mid new left left' before now faults answer none opens quiet
    (subst C counted s)))))

-- ---- no store was opened

never_damaged : (block : ℕ) → IsOutside (opening.Damaged block) → ⊥
never_damaged block (inl same) = cc
never_damaged block (inr same) = cc

ends_opening : (IsText : Says) (old new : View) (input : List ℕ) (before : Option (List ℕ)) (cause : OpeningCause) → SaysNothing IsText
    → Opens (page_count old.size) old new
    → ((total : ℕ) (book : List Series) → Honest old → RecoversTo (page_count old.size) old.image total book → IsOutside cause)
    → EndsOpening IsText old new input before before cause
ends_opening IsText old new input before (opening.TooSmall size) none opens a_store = refl
ends_opening IsText old new input before (opening.Damaged block) none opens a_store =
    (λ total book holds. never_damaged block (a_store total book holds.honest (holds.images old.image holds.honest)), refl)
ends_opening IsText old new input before opening.DiskFault none opens a_store = lines_none_sent IsText
    (page_count old.size) old input before none
ends_opening IsText old new input before opening.NoMemory none opens a_store = some_none IsText
    (page_count old.size) old new input before none (held old new opens)

opening_at : {T : Type 0} (IsText : Says) (CanShow : Type 0) (old new : View) (left left' before : Option (List ℕ)) (faults : Faults)
    (cause : OpeningCause) → SaysNothing IsText → Opens (page_count old.size) old new → Prevents cause old new
    → ((total : ℕ) (book : List Series) → Honest old → RecoversTo (page_count old.size) old.image total book → IsOutside cause)
    → ServesWorld {T = T} IsText CanShow old new left left' before before faults (Err (lines_end.Opening cause))
opening_at IsText CanShow old new left left' before faults cause none opens prevents a_store = record {
  done = tt;
  within = tt;
  long = λ is. cc;
  ends = elim left as (λ o. IfSome o (λ input. EndsOpening IsText old new input before before cause)) [
    | None ↦ tt
    | Some input ↦ ends_opening IsText old new input before cause none opens a_store
  ];
  crash = elim left as (λ o. IfSome o (λ input. IfSome before (λ bytes. LeavesBooks IsText (page_count old.size) input old new))) [
    | None ↦ tt
    | Some input ↦ elim before as (λ b. IfSome b (λ bytes. LeavesBooks IsText (page_count old.size) input old new))
        [ None ↦ tt | Some bytes ↦ opened_leaves IsText input old new none opens ]
  ];
  cause = prevents;
  holds = λ other. elim left as (λ o. IfSome o (λ input. HoldsAgain (page_count old.size) old new)) [
    | None ↦ tt
    | Some input ↦ again_opened old new opens
  ];
  reads = reads_unopened left old new opens;
  syncs = syncs_unopened left old new opens;
  honest = opens.honest;
  goes_on = opens_goes (page_count old.size) old new opens;
}

pub serves_not : {T : Type 0} (IsText : Says) (CanShow : Type 0) (old new : View) (left left' before now : Option (List ℕ))
    (faults : Faults) (cause : OpeningCause) → SaysNothing IsText → Opens (page_count old.size) old new → Prevents cause old new
    → ((total : ℕ) (book : List Series) → Honest old → RecoversTo (page_count old.size) old.image total book → IsOutside cause)
    → now ≡ before → ServesWorld {T = T} IsText CanShow old new left left' before now faults (Err (lines_end.Opening cause))
serves_not {T} IsText CanShow old new left left' before now faults cause none opens prevents a_store same =
    let P : Option (List ℕ) → Type 0 = λ b. ServesWorld {T = T} IsText CanShow old new left left' before b faults
    (Err (lines_end.Opening cause)) in
    subst P (sym same) (opening_at {T = T} IsText CanShow old new left left' before faults cause none opens prevents a_store)

pub same_faults : (reads reads' reads_now sends sends' sends_now : ℕ) → reads ≡ reads' → sends ≡ sends'
    → faults_of reads reads_now sends sends_now ≡ faults_of reads' reads_now sends' sends_now
same_faults reads reads' reads_now sends sends' sends_now one two = ap (λ r. faults_of r reads_now sends sends_now) one
    ∙ ap (λ s. faults_of reads' reads_now s sends_now) two
