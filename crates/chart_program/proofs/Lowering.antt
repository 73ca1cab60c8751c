-- What is done over a store on a disk, in the words of the disk.
use Rattle.std.proofs.Common.{◌≡◌, ℕ, ◌≤◌, Bool, List, [], Option, Some, None, IfSome, refl, sym, subst, inl, inr}
use Rattle.block_disk.specs.View.{Image, View, Honest, sent_now}
use Rattle.chart_client.specs.Showing.{ScreenGives}
use Rattle.chart_client.specs.declared.errors.ClientError.TheVariants as client
use Rattle.chart_client.specs.declared.holding.Holding.{Holding}
use Rattle.gate_pages.specs.GatePages.{IsClosed, PagesOf, pages_view}
use Rattle.gate_pages.specs.Journal.{pages_of}
use Rattle.gate_pages.specs.Pages.{GoesOn}
use Rattle.series_book.specs.declared.one_series.Series.{Series}
use Rattle.disk_store.specs.Held.{HoldsBook}
use Rattle.disk_store.proofs.Lowered.{lowered_readable, lowered_is}
use Rattle.stored_book.specs.Standing.{StandsForBook}
use Rattle.stored_book.proofs.CurrentLemmas.{book_current, book_keeps}
use Rattle.zoom_session.specs.declared.session.Session.{Session}
use Rattle.chart_service.specs.State.{State, IsSound}
use Rattle.chart_service.specs.Moments.{Since, IsAhead}
use Rattle.chart_service.specs.Serving.{AreSpelled, SendsFrontOf, SendsTaken, SendsWithin, SendsSome, EndsServe}
use Rattle.chart_service.specs.Stepping.{StandsAfter, state_of}
use Rattle.chart_service.specs.declared.failure.ServeEnd.{ServeEnd}
use Rattle.chart_service.specs.declared.failure.ServeEnd.TheVariants as serve_end
use Rattle.chart_program.specs.declared.run_end.RunEnd.{RunEnd}
use Rattle.chart_program.specs.declared.run_end.RunEnd.TheVariants as run_end
use Rattle.chart_program.specs.Runs.{EndsRunAt, EndsRun}
use Rattle.chart_program.specs.Served.{Says, Spelled, AreTexts, EndsServing, EndsLines, IsAheadOn, LeavesBooks}
use Rattle.store_commands.specs.Books.{begun, OfBook, FromBook, HoldsAgain, Never}
use Rattle.store_commands.proofs.Held.{within_held, held_after, from_book}
use Rattle.chart_service.specs.Answering.{Telling}
use Rattle.chart_service.proofs.Sending.{stands_on}
use Rattle.chart_program.proofs.Telling.{OneFrame, AllDraw, OneLacks, EndsTexts, texts_end, texts_lines}

-- Calls over the pages of a disk, which is at rest afterwards.
module _ (count count' : ℕ) (old new : View) (same : count' ≡ count) (told : Honest old → Honest new) where
  -- the ends of a serving
  pub serve_ends : (sessions : List Session) (input : List ℕ) (left before now : Option (List ℕ)) (end : ServeEnd)
      → ((end ≡ serve_end.DiskFault → ⊥) → IsClosed new)
      → OfBook count old (λ total book. EndsServe input (begun total book) (pages_of count' new.image) sessions left before now end)
      → EndsServing Spelled count old new input left before now end
  serve_ends sessions input None before now serve_end.ReadFault closed ends = tt
  serve_ends sessions input (Some bytes) before now serve_end.ReadFault closed ends = from_book count count' old new same told sessions
      (λ start state. SendsTaken AreSpelled input bytes start state before now) (closed (λ e. cc)) ends
  serve_ends sessions input left before now serve_end.SendFault closed ends = from_book count count' old new same told sessions
      (λ start state. SendsFrontOf AreSpelled input start state before now) (closed (λ e. cc)) ends
  serve_ends sessions input left before now serve_end.DiskFault closed ends = ends
  serve_ends sessions input left before now (serve_end.Damaged page) closed ends = ends
  serve_ends sessions input left before now serve_end.InputTooLong closed ends = from_book count count' old new same told sessions
      (λ start state. SendsWithin AreSpelled input start state before now) (closed (λ e. cc)) ends
  serve_ends sessions input left before now serve_end.NoMemory closed ends = from_book count count' old new same told sessions
      (λ start state. SendsSome AreSpelled input start state before now) (closed (λ e. cc)) ends

  -- unless a call of the disk failed, the disk holds a book again
  again_after : (sessions : List Session) (P : ℕ → List Series → State → Type 0) → IsClosed new
      → OfBook count old (λ total book. StandsAfter total (pages_of count' new.image) sessions (P total book)) → HoldsAgain count old new
  again_after sessions P closed all = λ total book holds.
      let there = held_after count count' old new same told total sessions (P total book) closed (told holds.honest)
      (within_held count total book old holds) (all total book holds) in
      (there.0.book, there.2)

  pub serve_again : (sessions : List Session) (input : List ℕ) (left before now : Option (List ℕ)) (end : ServeEnd)
      → ((end ≡ serve_end.DiskFault → ⊥) → IsClosed new) → (end ≡ serve_end.DiskFault → ⊥)
      → OfBook count old (λ total book. EndsServe input (begun total book) (pages_of count' new.image) sessions left before now end)
      → HoldsAgain count old new
  serve_again sessions input left before now serve_end.ReadFault closed other ends = again_after sessions _ (closed other) ends
  serve_again sessions input left before now serve_end.SendFault closed other ends = again_after sessions _ (closed other) ends
  serve_again sessions input left before now serve_end.DiskFault closed other ends = absurd (other refl)
  serve_again sessions input left before now (serve_end.Damaged page) closed other ends = λ total book holds. absurd (ends total book holds)
  serve_again sessions input left before now serve_end.InputTooLong closed other ends = again_after sessions _ (closed other) ends
  serve_again sessions input left before now serve_end.NoMemory closed other ends = again_after sessions _ (closed other) ends

  pub run_again : (h : List Holding) (sessions : List Session) (o left before now : Option (List ℕ)) (end : RunEnd)
      → ((end ≡ run_end.Serve serve_end.DiskFault → ⊥) → IsClosed new) → (end ≡ run_end.Serve serve_end.DiskFault → ⊥)
      → OfBook count old (λ total book. EndsRun ScreenGives [] h o (begun total book)
      (pages_of count' new.image) sessions left before now end) → HoldsAgain count old new
  run_again h sessions o left before now (run_end.Serve serve_end.ReadFault) closed other ends = again_after sessions _ (closed other) ends
  run_again h sessions o left before now (run_end.Serve serve_end.SendFault) closed other ends = again_after sessions _ (closed other) ends
  run_again h sessions o left before now (run_end.Serve serve_end.DiskFault) closed other ends = absurd (other refl)
  run_again h sessions o left before now (run_end.Serve (serve_end.Damaged page)) closed other ends = λ total book holds. absurd
      (ends total book holds)
  run_again h sessions o left before now (run_end.Serve serve_end.InputTooLong) closed other ends = again_after sessions _
      (closed other) ends
  run_again h sessions o left before now (run_end.Serve serve_end.NoMemory) closed other ends = again_after sessions _ (closed other) ends
  run_again h sessions o left before now (run_end.Show e) closed other ends = again_after sessions _ (closed other) ends

  -- the ends of a run over a screen, in the words of its texts
  module _ (one : OneFrame) (draws : AllDraw) (lacks : OneLacks) (sound : (total : ℕ) (book : List Series) → HoldsBook count total book old
      → IsSound (begun total book)) (h : List Holding) (sessions : List Session) where
    ends_from : (input : List ℕ) (left before now : Option (List ℕ)) (end : RunEnd) (Done : State → State → Type 0) → IsClosed new
        → ((start state : State) → EndsTexts input start state left before now end → Done start state)
        → OfBook count old (λ total book. StandsAfter total (pages_of count' new.image) sessions
        (λ state. EndsRunAt ScreenGives [] h input (begun total book) state left before now end)) → FromBook count old new Done
    ends_from input left before now end Done closed more all =
        from_book count count' old new same told sessions Done closed (λ total book holds.
        stands_on total (pages_of count' new.image) (pages_of count' new.image) sessions sessions
        (λ state. EndsRunAt ScreenGives [] h input (begun total book) state left before now end)
        (λ state. Done (begun total book) state) refl refl
        (λ state is. more (begun total book) state (texts_end one draws lacks (begun total book) refl
        (sound total book holds) input state h left before now end is)) (all total book holds))

    ends_never : (input : List ℕ) (left before now : Option (List ℕ)) (end : RunEnd)
        → ((start state : State) → EndsTexts input start state left before now end → ⊥)
        → OfBook count old (λ total book. StandsAfter total (pages_of count' new.image) sessions
        (λ state. EndsRunAt ScreenGives [] h input (begun total book) state left before now end)) → Never count old
    ends_never input left before now end never all = λ total book holds.
        let after = all total book holds in
        never (begun total book) (state_of after.book total sessions)
        (texts_end one draws lacks (begun total book) refl (sound total book holds) input
        (state_of after.book total sessions) h left before now end after.so)

    pub text_ends : (input : List ℕ) (left before now : Option (List ℕ)) (end : RunEnd)
        → ((end ≡ run_end.Serve serve_end.DiskFault → ⊥) → IsClosed new)
        → OfBook count old (λ total book. EndsRun ScreenGives [] h (Some input) (begun total book)
        (pages_of count' new.image) sessions left before now end) → EndsLines AreTexts count old new input left before now end
    text_ends input None before now (run_end.Serve serve_end.ReadFault) closed ends = tt
    text_ends input (Some bytes) before now (run_end.Serve serve_end.ReadFault) closed ends =
        ends_from input (Some bytes) before now (run_end.Serve serve_end.ReadFault)
        (λ start state. SendsTaken (AreTexts start) input bytes start state before now) (closed (λ e. cc)) (λ start state is. is) ends
    text_ends input left before now (run_end.Serve serve_end.SendFault) closed ends =
        ends_from input left before now (run_end.Serve serve_end.SendFault)
        (λ start state. SendsFrontOf (AreTexts start) input start state before now) (closed (λ e. cc)) (λ start state is. is) ends
    text_ends input left before now (run_end.Serve serve_end.DiskFault) closed ends = λ total book holds.
        let lines = ends total book holds in
        texts_lines one draws (begun total book) refl (sound total book holds) input lines.0 before now lines.1
    text_ends input left before now (run_end.Serve (serve_end.Damaged page)) closed ends = ends
    text_ends input left before now (run_end.Serve serve_end.InputTooLong) closed ends =
        ends_from input left before now (run_end.Serve serve_end.InputTooLong)
        (λ start state. SendsWithin (AreTexts start) input start state before now) (closed (λ e. cc)) (λ start state is. is) ends
    text_ends input left before now (run_end.Serve serve_end.NoMemory) closed ends =
        ends_from input left before now (run_end.Serve serve_end.NoMemory)
        (λ start state. SendsSome (AreTexts start) input start state before now) (closed (λ e. cc)) (λ start state is. is) ends
    text_ends input left before now (run_end.Show client.NoMemory) closed ends =
        ends_from input left before now (run_end.Show client.NoMemory)
        (λ start state. SendsSome (AreTexts start) input start state before now) (closed (λ e. cc)) (λ start state is. is) ends
    text_ends input left before now (run_end.Show (client.Missing key)) closed ends = ends_never input left before now
        (run_end.Show (client.Missing key)) (λ start state is. is) ends
    text_ends input left before now (run_end.Show (client.BadCoefficient key)) closed ends = ends_never input left before now
        (run_end.Show (client.BadCoefficient key)) (λ start state is. is) ends
    text_ends input left before now (run_end.Show (client.UnknownSession number)) closed ends = ends_never input left before now
        (run_end.Show (client.UnknownSession number)) (λ start state is. is) ends

-- ---- what a crash leaves

ahead_book : (T : Telling) (input : List ℕ) (total : ℕ) (start : State) (from : ℕ) (image : Image) (sent : ℕ)
    → IsAhead T input total start from image sent → (book : List Series) × StandsForBook image total book
ahead_book T input total start from image sent is = elim is.state [
  | inl here ↦ (is.between.book, here.0)
  | inr next ↦ (next.after.book, next.stands)
]

pub ahead_on : (T : Telling) (input : List ℕ) (count total : ℕ) (start : State) (from : ℕ) (crash : Image → Type 0) (sent : ℕ)
    → total ≤ count → ((pages : Image) → PagesOf count crash pages → IsAhead T input total start from pages sent)
    → (image : Image) → crash image → IsAheadOn T input count total start from image sent
ahead_on T input count total start from crash sent within all image left =
    let Q : Image → Type 0 = λ pages. IsAhead T input total start from pages sent in
    let total_of : (pages : Image) → Q pages → ℕ = λ pages is. total in
    let book_of : (pages : Image) → Q pages → List Series = λ pages is. (ahead_book T input total start from pages sent is).0 in
    let stand : (pages : Image) (is : Q pages) → StandsForBook pages (total_of pages is) (book_of pages is) = λ pages is.
    (ahead_book T input total start from pages sent is).1 in
    let here = lowered_is count crash Q total_of book_of stand all image left in
    let stands = stand (pages_of count image) here in
    record {
      readable = lowered_readable count crash Q total_of book_of stand all image left;
      within = within;
      old = book_keeps count image total (book_of (pages_of count image) here) stands;
      ahead = subst Q (sym (book_current (pages_of count image) total (book_of (pages_of count image) here) stands)) here;
    }

pub leaves_lowered : (IsText : Says) (count count' : ℕ) (sound sound' : Bool) (old new : View) (input : List ℕ) → count' ≡ count
    → GoesOn old new
    → OfBook count old (λ total book. Since (pages_view count sound old) (pages_view count' sound' new)
    (IsAhead (IsText (begun total book)) input total (begun total book) (sent_now (pages_view count sound old))))
    → LeavesBooks IsText count input old new
leaves_lowered IsText count count' sound sound' old new input same goes all = λ total book holds.
    let since = all total book holds in
    record {
      goes = goes;
      here = λ at image low high left.
          let P : ℕ → Type 0 = λ c. (pages : Image) → PagesOf c (new.crash at) pages
          → IsAhead (IsText (begun total book)) input total (begun total book) (sent_now old) pages (new.sent_by at) in
          let each : P count' = λ pages found. since.here at pages low high found in
          ahead_on (IsText (begun total book)) input count total (begun total book) (sent_now old) (new.crash at) (new.sent_by at)
          (within_held count total book old holds) (subst P same each) image left;
    }

-- what holds of all books holds where the input and what was sent are told
pub crash_for : (o before : Option (List ℕ)) (Pre : ℕ → List Series → Type 0) (X : ℕ → List Series → List ℕ → Type 0)
    → ((total : ℕ) (book : List Series) → Pre total book → IfSome o (λ input. IfSome before (λ bytes. X total book input)))
    → IfSome o (λ input. IfSome before (λ bytes. (total : ℕ) (book : List Series) → Pre total book → X total book input))
crash_for None before Pre X all = tt
crash_for (Some input) None Pre X all = tt
crash_for (Some input) (Some bytes) Pre X all = all
