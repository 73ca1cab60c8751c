-- Books outlive their runs.
use Rattle.std.proofs.Common.{◌≡◌, ℕ, List, [], ◌∷◌, ◌++◌, Option, None, Some, IfSome, refl, sym, subst, inl, inr}
use Rattle.block_disk.specs.View.{Image, View}
use Rattle.gate_pages.specs.Journal.{page_count}
use Rattle.series_book.specs.declared.one_series.Series.{Series}
use Rattle.series_book.specs.Edits.{id_of}
use Rattle.disk_store.specs.Held.{HoldsBook}
use Rattle.stored_book.specs.Standing.{StandsForBook, book_pages, RecoversTo}
use Rattle.series_load.specs.Sets.{IsNamed, Loads}
use Rattle.program_words.specs.declared.words.Command.{Command}
use Rattle.program_words.specs.declared.words.Command.TheVariants.{Plot, Load, Demo, Run, Serve, Draw, Init, Check, ListSeries, Export}
use Rattle.program_words.specs.declared.words.Command.TheVariants.{Retain, Cover, Live, Host, Derive}
use Rattle.store_commands.specs.Books.{begun}
use Rattle.store_commands.proofs.HoldsAgain.{series_there}
use Rattle.store_commands.specs.Loaded.{IsAheadLoad}
use Rattle.demo_workload.specs.Demonstrated.{IsAheadDemo}
use Rattle.demo_workload.specs.Workload.{workload}
use Rattle.chart_program.specs.HostLines.{LeavesHostLines}
use Rattle.chart_program.proofs.HostRuns.{host_left, host_left_amid}
use Rattle.chart_program.specs.Lives.{Life, AreLives, IsLife, IsLived, BeginsOn, IsLeftAt, LeavesFrom, IsAfterLines, IsAfterSets}
use Rattle.chart_program.specs.Lives.{IsAfterRequests, Outlives, AreBooks, life_of}
use Rattle.chart_program.specs.Ran.{Leaves, LeavesTold}
use Rattle.chart_program.specs.Served.{Says, Spelled, AreTexts, IsAheadOn}
use Rattle.retain_command.specs.Sweeping.{IsAhead as IsAheadBy}
use Rattle.hosted_lines.specs.Running.{IsAhead as IsAheadHosted}
use Rattle.hosted_lines.specs.Begun.{begun_live}
use Rattle.live_command.specs.Running.{IsAhead as IsAheadLive}

-- ---- a run is a life

pub begun_holds : (count total : ℕ) (book : List Series) (begins : Image) (old : View) → BeginsOn begins old
    → RecoversTo count begins total book → HoldsBook count total book old
begun_holds count total book begins old b recovers =
    let P : Image → Type 0 = λ i. RecoversTo count i total book in
    record { honest = b.honest; images = λ image left. subst P (sym (b.only image left)) recovers }

pub run_lives : (command : Command) (input : List ℕ) (old new : View) (begins left : Image) (at : ℕ) → BeginsOn begins old
    → Leaves command input old new → IsLeftAt old new at left → IsLife (page_count old.size) (life_of command input begins old new at left)
run_lives (Plot w h) input old new begins left at b leaves is = λ total book recovers.
    (leaves total book (begun_holds (page_count old.size) total book begins old b recovers)).here at left is.0 is.1.0 is.1.1
run_lives Draw input old new begins left at b leaves is = λ total book recovers.
    (leaves total book (begun_holds (page_count old.size) total book begins old b recovers)).here at left is.0 is.1.0 is.1.1
run_lives Init input old new begins left at b leaves is = λ total book recovers.
    (leaves total book (begun_holds (page_count old.size) total book begins old b recovers)).here at left is.0 is.1.0 is.1.1
run_lives Run input old new begins left at b leaves is = λ total book recovers.
    (leaves total book (begun_holds (page_count old.size) total book begins old b recovers)).here at left is.0 is.1.0 is.1.1
run_lives Serve input old new begins left at b leaves is = λ total book recovers.
    (leaves total book (begun_holds (page_count old.size) total book begins old b recovers)).here at left is.0 is.1.0 is.1.1
run_lives (Load name) input old new begins left at b leaves is = λ total book recovers.
    let holds = begun_holds (page_count old.size) total book begins old b recovers in (
      (λ series named. (leaves.0 total book holds series named).here at left is.0 is.1.0 is.1.1),
      (λ none. (leaves.1 total book holds none).here at left is.0 is.1.0 is.1.1),
    )
run_lives (Demo seed rounds) input old new begins left at b leaves is = λ total book recovers.
    (leaves total book (begun_holds (page_count old.size) total book begins old b recovers)).here at left is.0 is.1.0 is.1.1
run_lives Check input old new begins left at b leaves is = λ total book recovers.
    (leaves total book (begun_holds (page_count old.size) total book begins old b recovers)).here at left is.0 is.1.0 is.1.1
run_lives ListSeries input old new begins left at b leaves is = λ total book recovers.
    (leaves total book (begun_holds (page_count old.size) total book begins old b recovers)).here at left is.0 is.1.0 is.1.1
run_lives (Export name window) input old new begins left at b leaves is = λ total book recovers.
    (leaves total book (begun_holds (page_count old.size) total book begins old b recovers)).here at left is.0 is.1.0 is.1.1
run_lives Retain input old new begins left at b leaves is = λ total book recovers.
    (leaves total book (begun_holds (page_count old.size) total book begins old b recovers)).here at left is.0 is.1.0 is.1.1
run_lives (Cover every) input old new begins left at b leaves is = λ total book recovers.
    (leaves total book (begun_holds (page_count old.size) total book begins old b recovers)).here at left is.0 is.1.0 is.1.1
run_lives Live input old new begins left at b leaves is = λ total book recovers.
    (leaves total book (begun_holds (page_count old.size) total book begins old b recovers)).here at left is.0 is.1.0 is.1.1
run_lives Host input old new begins left at b leaves is = λ total book recovers.
    (leaves total book (begun_holds (page_count old.size) total book begins old b recovers)).here at left is.0 is.1.0 is.1.1
run_lives Derive input old new begins left at b leaves is = λ total book recovers.
    (leaves total book (begun_holds (page_count old.size) total book begins old b recovers)).here at left is.0 is.1.0 is.1.1

-- where the input and what was sent are told
pub lives_told : (command : Command) (old new : View) (left before now : Option (List ℕ))
    → IfSome left (λ input. LeavesTold command old new input before now) → IfSome left (λ input. IsLived command old new input before now)
lives_told command old new None before now leaves = tt
lives_told command old new (Some input) None now leaves = tt
lives_told command old new (Some input) (Some bytes) now leaves = λ begins crashed at b is.
    run_lives command input old new begins crashed at b leaves is

-- ---- what one life leaves

abbrev pub OneBook : Type 0
OneBook = (image : Image) (total total' : ℕ) (book book' : List Series) → StandsForBook image total book → StandsForBook image total' book'
    → book' ≡ book

abbrev pub Left : Command → List ℕ → ℕ → ℕ → List Series → ℕ → Image → ℕ → Type 0
Left command input count total book from left sent = (next : List Series) × Outlives command input total book next from sent
    × RecoversTo count left total next

left_lines : (IsText : Says) (input : List ℕ) (count total : ℕ) (book : List Series) (from : ℕ) (left : Image) (sent : ℕ)
    → IsAheadOn (IsText (begun total book)) input count total (begun total book) from left sent
    → (next : List Series) × IsAfterLines (IsText (begun total book)) input total book next from sent × RecoversTo count left total next
left_lines IsText input count total book from left sent is =
    let a = is.ahead in
    elim a.state [
      | inl here ↦ (
        a.between.book,
        record {
          front = a.front;
          rest = a.rest;
          begins_with = a.begins;
          between = a.between;
          text = a.text;
          answers = a.answers;
          state = inl (refl, here.1);
        },
        record { readable = is.readable; within = is.within; old = is.old; stands = here.0 },
      )
      | inr next ↦ (
        next.after.book,
        record {
          front = a.front;
          rest = a.rest;
          begins_with = a.begins;
          between = a.between;
          text = a.text;
          answers = a.answers;
          state = inr (next.after, next.next, refl, next.sent);
        },
        record { readable = is.readable; within = is.within; old = is.old; stands = next.stands },
      )
    ]

left_sets : OneBook → (name input : List ℕ) (count total : ℕ) (book : List Series) (series : Series) (from : ℕ) (left : Image) (sent : ℕ)
    → IsNamed book name series → IsAheadLoad count total name book series input from left sent
    → (next : List Series) × IsAfterSets total name input book next from sent × RecoversTo count left total next
left_sets one name input count total book series from left sent named is =
    let after = is.some.after in (
      after.new,
      record {
        series = series;
        named = named;
        runs = is.some.runs;
        first = is.some.first;
        loads = after.loads;
        all = λ more.
            let whole = (is.all more).1 in
            let same = one (book_pages count left) total total after.new whole.after.new after.stands whole.after.stands in
            let P : List Series → Type 0 = λ b. Loads total name book whole.runs b in
            record { rows = whole.rows; reads = whole.reads; runs = whole.runs; all = whole.all; loads = subst P same whole.after.loads };
      },
      record { readable = is.readable; within = is.within; old = is.old; stands = after.stands },
    )

left_requests : OneBook → (seed rounds count total : ℕ) (book : List Series) (from : ℕ) (left : Image) (sent : ℕ)
    → IsAheadDemo (workload seed rounds) count total (begun total book) from left sent
    → (next : List Series) × IsAfterRequests seed rounds total book next from sent × RecoversTo count left total next
left_requests one seed rounds count total book from left sent is =
    let p = is.some in (
      p.new.book,
      record {
        state = p.new;
        some = record { first = p.first; rest = p.rest; split = p.split; frames = p.frames; answered = p.answered };
        new_is = refl;
        all = λ more.
            let whole = is.all more in
            (whole.0, whole.1, whole.2, one (book_pages count left) total total whole.1.book p.new.book whole.3 p.stands);
      },
      record { readable = is.readable; within = is.within; old = is.old; stands = p.stands },
    )

left_load : OneBook → (name input : List ℕ) (count total : ℕ) (book : List Series) (from : ℕ) (left : Image) (sent : ℕ)
    → LeavesFrom (Load name) input count total book from left sent → Left (Load name) input count total book from left sent
left_load one name input count total book from left sent leaves =
    (elim (id_of name book) as (λ o. id_of name book ≡ o → Left (Load name) input count total book from left sent) [
      | None ↦ λ none. (book, inr (none, refl), leaves.1 none)
      | Some id ↦ λ is.
          let there = series_there book name id is in
          let named : IsNamed book name there.0 = record { id = id; id_is = is; there = there.1 } in
          let after = left_sets one name input count total book there.0 from left sent named (leaves.0 there.0 named) in
          (after.0, inl after.1, after.2)
    ]) refl

-- some lines were answered, and some pushes made
left_lived : (input : List ℕ) (count total : ℕ) (book : List Series) (from : ℕ) (left : Image) (sent : ℕ)
    → IsAheadLive (λ after. RecoversTo count left total after) input (begun_live total book) from sent
    → (next : List Series) × IsAheadLive (λ after. next ≡ after) input (begun_live total book) from sent × RecoversTo count left total next
left_lived input count total book from left sent is = (
  is.state.state.book,
  record {
    shown = is.shown;
    more = is.more;
    few = is.few;
    state = is.state;
    first = is.first;
    there = refl;
    low = is.low;
    high = is.high;
  },
  is.there,
)

-- so where edits are done together, and by what the lines say and ask
left_hosted : (input : List ℕ) (count total : ℕ) (book : List Series) (from : ℕ) (left : Image) (sent : ℕ)
    → IsAheadHosted (λ after. RecoversTo count left total after) input (begun_live total book) from sent
    → (next : List Series)
    × (LeavesHostLines total book input next × IsAheadHosted (λ after. next ≡ after) input (begun_live total book) from sent)
    × RecoversTo count left total next
left_hosted input count total book from left sent is = elim is.there [
  | inl here ↦ (
    is.state.state.book,
    (
      host_left input total book (is.shown ++ is.more) is.state is.first,
      record {
        shown = is.shown;
        more = is.more;
        few = is.few;
        state = is.state;
        first = is.first;
        there = inl refl;
        low = is.low;
        high = is.high;
      },
    ),
    here,
  )
  | inr amid ↦ (
    _,
    (
      host_left_amid input total book (is.shown ++ is.more) is.state is.first amid.line amid.later amid.rule amid.done amid.lines_are
          amid.asks,
      record {
        shown = is.shown;
        more = is.more;
        few = is.few;
        state = is.state;
        first = is.first;
        there = inr (record {
          none = amid.none;
          idle = amid.idle;
          line = amid.line;
          later = amid.later;
          lines_are = amid.lines_are;
          rule = amid.rule;
          asks = amid.asks;
          done = amid.done;
          few = amid.few;
          there = refl;
        });
        low = is.low;
        high = is.high;
      },
    ),
    amid.there,
  )
]

-- some lines were swept, and some first clears of the next one done
left_swept : (input : List ℕ) (count total : ℕ) (book : List Series) (from : ℕ) (left : Image) (sent : ℕ)
    → IsAheadBy (λ after. RecoversTo count left total after) total book input from sent
    → (next : List Series) × IsAheadBy (λ after. next ≡ after) total book input from sent × RecoversTo count left total next
left_swept input count total book from left sent is = elim is.state [
  | inl here ↦ (_, record { first = is.first; state = inl (refl, here.1) }, here.0)
  | inr next ↦ (
    _,
    record {
      first = is.first;
      state = inr
          (record {
            rule = next.rule;
            next = next.next;
            done = next.done;
            few = next.few;
            there = refl;
            low = next.low;
            high = next.high;
            all = next.all;
          });
    },
    next.there,
  )
]

pub left_by : OneBook → (command : Command) (input : List ℕ) (count total : ℕ) (book : List Series) (from : ℕ) (left : Image) (sent : ℕ)
    → LeavesFrom command input count total book from left sent
    → Left command input count total book from left sent
left_by one (Plot w h) input count total book from left sent leaves = (book, refl, leaves)
left_by one Draw input count total book from left sent leaves = (book, refl, leaves)
left_by one (Cover every) input count total book from left sent leaves = (book, refl, leaves)
left_by one Init input count total book from left sent leaves = (book, refl, leaves)
left_by one Run input count total book from left sent leaves = left_lines AreTexts input count total book from left sent leaves
left_by one Serve input count total book from left sent leaves = left_lines Spelled input count total book from left sent leaves
left_by one (Load name) input count total book from left sent leaves = left_load one name input count total book from left sent leaves
left_by one (Demo seed rounds) input count total book from left sent leaves = left_requests one seed rounds count total book from left sent
    leaves
left_by one Check input count total book from left sent leaves = (book, refl, leaves)
left_by one ListSeries input count total book from left sent leaves = (book, refl, leaves)
left_by one (Export name window) input count total book from left sent leaves = (book, refl, leaves)
left_by one Retain input count total book from left sent leaves = left_swept input count total book from left sent leaves
left_by one Live input count total book from left sent leaves = left_lived input count total book from left sent leaves
left_by one Host input count total book from left sent leaves = left_hosted input count total book from left sent leaves
left_by one Derive input count total book from left sent leaves = (book, refl, leaves)

-- ---- lives in a row

pub lives_left : OneBook → (count total : ℕ) (book : List Series) (image : Image) (lives : List Life) → AreLives count image lives
    → RecoversTo count image total book → AreBooks count total book lives
lives_left one count total book image [] are recovers = tt
lives_left one count total book image (life ∷ lives) are recovers =
    let P : Image → Type 0 = λ i. RecoversTo count i total book in
    let start = subst P (sym are.0) recovers in
    let left = left_by one life.command life.input count total book life.from life.left life.sent (are.1 total book start) in
    (start, (left.0, left.1, left.2, lives_left one count total left.0 life.left lives are.2 left.2))
