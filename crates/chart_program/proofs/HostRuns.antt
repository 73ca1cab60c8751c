-- The book behind the lines of `host`.
use Rattle.std.specs.Prelude.{codes, if◌then◌else◌, nat_lt, ◌||◌, ◌-◌}
use Rattle.std.specs.Str.{bytes_eq}
use Rattle.std.specs.List.{list_any}
use Rattle.std.proofs.Common.{◌≡◌, ℕ, ◌+◌, Bool, true, false, inl, inr, List, [], ◌∷◌, ◌++◌, length, map, take, Option, None, Some, Ok}
use Rattle.std.proofs.Common.{refl, ap, sym, subst, ◌∙◌, arith}
use Rattle.std.proofs.lemmas.List.{take_all}
use Rattle.std.proofs.lemmas.List.Folds.{list_any-append}
use Rattle.std.proofs.lemmas.Slice.Eq.{bytes_eq-Decides}
use Rattle.chart_frames.specs.declared.frame.Frame.{Frame}
use Rattle.chart_service.specs.EditGroups.{RepliesToEdits, SpellEdits, SpellsEdit}
use Rattle.chart_service.specs.State.{State}
use Rattle.chart_service.specs.Replies.{RepliesTo}
use Rattle.chart_service.specs.Serving.{told}
use Rattle.host_lines.specs.Grammar.{host_line, places_fault, rule_fault, rule_named, sum_named, sum_places, tokens_ask, unless}
use Rattle.host_lines.specs.Grammar.{values_named, values_places}
use Rattle.host_lines.specs.declared.asked.HostLine.{HostLine}
use Rattle.host_lines.specs.declared.asked.HostLine.TheVariants.{List as ListLine, Values, Sum, Sweep, Bad, Other}
use Rattle.host_replies.specs.Replies.{Reported}
use Rattle.host_sweeps.specs.Sweeping.{SweepReplied, most_clears, step_clears}
use Rattle.hosted_lines.specs.Hosts.{AnswersLine, DoesGroup, Event, Happens, InRow, IsPassed, Reports, Sweeps, answer, clears_asked, group}
use Rattle.hosted_lines.specs.Hosts.{lines_in, push, report, sweep}
use Rattle.hosted_lines.specs.Running.{FirstLines}
use Rattle.live_service.specs.LiveReplies.{LiveState}
use Rattle.hosted_lines.specs.Begun.{begun_live}
use Rattle.request_lines.specs.Grammar.{kind_of, fault_of}
use Rattle.request_lines.specs.Requests.{read_line}
use Rattle.request_lines.specs.Tokens.{tokens}
use Rattle.request_lines.specs.declared.requests.Request.{Request}
use Rattle.request_lines.specs.declared.requests.Request.TheVariants.{Edit as EditRequest}
use Rattle.retention.specs.declared.rule.Rule.{Rule}
use Rattle.retention.specs.declared.rule.Rule.TheVariants.{Before, Last, Free}
use Rattle.retention.specs.Sweeps.{NamesNone, at_id, clears_if, slots_before, sweeps, sweeps_some}
use Rattle.series_book.specs.declared.edits.Edit.{Edit}
use Rattle.series_book.specs.declared.one_series.Series.{Series}
use Rattle.series_book.specs.EditLists.{after_edits}
use Rattle.served_fronts.specs.Books.{Line, ok_of, said_by, after_request, after_line, after_lines}
use Rattle.served_fronts.specs.Headline.{LeavesLines}
use Rattle.served_fronts.specs.Laws.{LinesSayWhatIsRead}
use Rattle.served_fronts.proofs.Books.{by_request}
use Rattle.served_fronts.proofs.Keeping.{told_join}
use Rattle.store_commands.specs.Books.{begun}
use Rattle.chart_program.specs.HostLines.{LeavesHostLines, after_all_hosted, after_hosted, asks_sweep, clears_of, first_clears, is_sweep}
use Rattle.chart_program.proofs.LiveRuns.{SaysNone, by_live, by_push}

-- ---- a line that asks something of the host says no request

list_none : (others : List (List ℕ)) → SaysNone (codes "list" ∷ others)
unfolding kind_of
list_none others end = refl

values_none : (others : List (List ℕ)) → SaysNone (codes "values" ∷ others)
unfolding kind_of
values_none others end = refl

sum_none : (others : List (List ℕ)) → SaysNone (codes "sum" ∷ others)
unfolding kind_of
sum_none others end = refl

sweep_none : (others : List (List ℕ)) → SaysNone (codes "sweep" ∷ others)
unfolding kind_of
sweep_none others end = refl

-- where the word is this one, or it is asked for another way
other_word : (word this : List ℕ) (others : List (List ℕ)) (asked later : HostLine) → SaysNone (this ∷ others)
    → ((later ≡ Other → ⊥) → SaysNone (word ∷ others)) → ((if bytes_eq word this then asked else later) ≡ Other → ⊥)
    → SaysNone (word ∷ others)
other_word word this others asked later none behind asks =
    let P : List ℕ → Type 0 = λ w. SaysNone (w ∷ others) in
    (elim (bytes_eq word this) as (λ b. bytes_eq word this ≡ b → ((if b then asked else later) ≡ Other → ⊥) → SaysNone (word ∷ others)) [
      | true ↦ λ is h. subst P (sym ((bytes_eq-Decides word this).0 is)) none
      | false ↦ λ other h. behind h
    ]) refl asks

words_ask : (end : ℕ) (words : List (List ℕ)) → (tokens_ask end words ≡ Other → ⊥) → SaysNone words
words_ask end [] asks = absurd (asks refl)
words_ask end (word ∷ others) asks =
    let at : ℕ = length word + 1 in
    let lists : HostLine = unless (places_fault end [] others at) ListLine in
    let values : HostLine = unless (places_fault end values_places others at) (values_named others) in
    let sums : HostLine = unless (places_fault end sum_places others at) (sum_named others) in
    let swept : HostLine = unless (rule_fault end others at) (rule_named others) in
    let in_sweep : HostLine = if bytes_eq word (codes "sweep") then swept else Other in
    let in_sum : HostLine = if bytes_eq word (codes "sum") then sums else in_sweep in
    let in_values : HostLine = if bytes_eq word (codes "values") then values else in_sum in
    other_word word (codes "list") others lists in_values (list_none others)
    (other_word word (codes "values") others values in_sum (values_none others)
    (other_word word (codes "sum") others sums in_sweep (sum_none others)
    (other_word word (codes "sweep") others swept Other (sweep_none others) (λ never. absurd (never refl))))) asks

says_none : (text : List ℕ) → (host_line text ≡ Other → ⊥) → said_by (Some text) ≡ None
unfolding host_line read_line fault_of
says_none text asks =
    (elim (nat_lt 8192 (length text)) as (λ b. ((if b then Other else tokens_ask (length text) (tokens text)) ≡ Other → ⊥)
    → said_by (Some text) ≡ None) [
      | true ↦ λ h. absurd (h refl)
      | false ↦ λ h. words_ask (length text) (tokens text) h (length text)
    ]) asks

-- so it leaves the book, but for the clears that it asks for
unsaid : (total : ℕ) (book : List Series) (text : List ℕ) → (host_line text ≡ Other → ⊥) → after_line total book (Some text) ≡ book
unsaid total book text asks = ap (after_request total book) (says_none text asks)

-- ---- the book behind an event

-- the book of the new state is that after the lines, and its total stays
abbrev Follows : List Line → LiveState → LiveState → Type 0
Follows lines old new =
    (new.state.book ≡ after_all_hosted old.state.total old.state.book lines) × (new.state.total ≡ old.state.total)

stays : (old new : LiveState) → new.state ≡ old.state → Follows [] old new
stays old new same = (ap (λ s. s.book) same, ap (λ s. s.total) same)

no_clears : (total : ℕ) (book : List Series) (line : Line) → clears_of total book line ≡ []
    → after_hosted total book line ≡ after_line total book line
no_clears total book line none = ap (after_edits total (after_line total book line)) none

passed_clears : (total : ℕ) (book : List Series) (line : Line) → IsPassed line → clears_of total book line ≡ []
passed_clears total book None passed = refl
passed_clears total book (Some text) passed = ap (λ asked. clears_asked asked (begun total book)) passed

answered : (line : Line) (frames : List Frame) (old new : LiveState) → AnswersLine line frames old new → Follows (line ∷ []) old new
answered line frames old new a =
    let here = by_live line a.frame old new a.replied in
    let total = old.state.total in
    (here.0 ∙ sym (no_clears total old.state.book line (passed_clears total old.state.book line a.passed)), here.1)

-- a report is no request, and no sweep
record IsReport (asked : HostLine) : Type 0 where
  pub asks : asked ≡ Other → ⊥
  pub clears : (state : State) → clears_asked asked state ≡ []

is_report : (asked : HostLine) (frame : Frame) (state : State) → Reported asked frame state → IsReport asked
is_report ListLine frame state tells = record { asks = λ never. cc; clears = λ state. refl }
is_report (Values name t0 t1) frame state tells = record { asks = λ never. cc; clears = λ state. refl }
is_report (Sum session request) frame state tells = record { asks = λ never. cc; clears = λ state. refl }
is_report (Sweep rule) frame state tells = absurd tells
is_report (Bad at) frame state tells = record { asks = λ never. cc; clears = λ state. refl }
is_report Other frame state tells = absurd tells

reported : (text : List ℕ) (frames : List Frame) (old new : LiveState) → Reports text frames old new → Follows (Some text ∷ []) old new
reported text frames old new r =
    let is = is_report (host_line text) r.frame old.state r.reported in
    let total = old.state.total in
    let book = old.state.book in (
      ap (λ s. s.state.book) r.same ∙ sym (no_clears total book (Some text) (is.clears (begun total book))
          ∙ unsaid total book text is.asks),
      ap (λ s. s.state.total) r.same,
    )

-- a rule that names a series that isn't there makes no clear
none_swept : (total : ℕ) (book : List Series) (rule : Rule) → NamesNone book rule → sweeps total book rule ≡ []
none_swept total book (Before name time) none = ap (λ o. clears_if name (at_id book o) (λ series. slots_before series time)) none
none_swept total book (Last name count) none = ap (λ o. clears_if name (at_id book o) (λ series. length series.slots - count)) none
none_swept total book (Free pages) none = absurd none

stepped_book : (rule : Rule) (frame : Frame) (old new : LiveState) → SweepReplied rule frame old new
    → (new.state.book ≡ after_edits old.state.total old.state.book (sweeps_some old.state.total old.state.book rule most_clears))
    × (new.state.total ≡ old.state.total)
stepped_book rule frame old new replied = elim replied.0 [
  | inl refuses ↦ (
    ap (λ s. s.book) refuses.state_same
        ∙ sym (ap (λ cs. after_edits old.state.total old.state.book (take most_clears cs))
        (none_swept old.state.total old.state.book rule refuses.none)),
    ap (λ s. s.total) refuses.state_same,
  )
  | inr does ↦ (ap (λ s. s.book) does.state_is, ap (λ s. s.total) does.state_is)
]

not_other : (text : List ℕ) (rule : Rule) → host_line text ≡ Sweep rule → host_line text ≡ Other → ⊥
not_other text rule is other = let never : ◌≡◌ {A = HostLine} (Sweep rule) Other = sym is ∙ other in cc

swept : (text : List ℕ) (frames : List Frame) (old new : LiveState) → Sweeps text frames old new → Follows (Some text ∷ []) old new
swept text frames old new s =
    let total = old.state.total in
    let book = old.state.book in
    let here = stepped_book s.rule s.frame old new s.replied in
    let clears : clears_of total book (Some text) ≡ sweeps_some total book s.rule most_clears =
    ap (λ asked. clears_asked asked (begun total book)) s.asks in (
      here.0 ∙ sym (ap (after_edits total (after_line total book (Some text))) clears
          ∙ ap (λ b. after_edits total b (sweeps_some total book s.rule most_clears))
          (unsaid total book text (not_other text s.rule s.asks))),
      here.1,
    )

-- ---- edits that are done together

some_none : {request : Request} → ◌≡◌ {A = Option Request} (Some request) None → ⊥
some_none is = cc

-- a line that says a request asks for no clears
said_clears : (asked : HostLine) (text : List ℕ) (request : Request) → host_line text ≡ asked → said_by (Some text) ≡ Some request
    → (state : State) → clears_asked asked state ≡ []
said_clears ListLine text request is said state = refl
said_clears (Values name t0 t1) text request is said state = refl
said_clears (Sum session sum) text request is said state = refl
said_clears (Sweep rule) text request is said state = absurd (some_none (sym said ∙ says_none text (not_other text rule is)))
said_clears (Bad at) text request is said state = refl
said_clears Other text request is said state = refl

edit_done : (line : Line) (edit : Edit) (frame : Frame) (old new : State) → SpellsEdit line edit
    → RepliesTo (Ok (EditRequest edit)) frame old new
    → (new.book ≡ after_hosted old.total old.book line) × (new.total ≡ old.total)
edit_done None edit frame old new spells replied = absurd spells
edit_done (Some []) edit frame old new spells replied = absurd spells
edit_done (Some (byte ∷ bytes)) edit frame old new spells replied =
    let text = byte ∷ bytes in
    let here = by_request old new frame (Ok (EditRequest edit)) replied in
    let said : said_by (Some text) ≡ Some (EditRequest edit) = ap ok_of spells in
    let other : clears_of old.total old.book (Some text) ≡ [] =
    said_clears (host_line text) text (EditRequest edit) refl said (begun old.total old.book) in
    (here.0 ∙ sym (no_clears old.total old.book (Some text) other ∙ ap (after_request old.total old.book) said), here.1)

edits_done : (lines : List Line) (edits : List Edit) (frames : List Frame) (old new : State) → SpellEdits lines edits
    → RepliesToEdits edits frames old new → (new.book ≡ after_all_hosted old.total old.book lines) × (new.total ≡ old.total)
edits_done [] [] [] old new spell replied = (ap (λ s. s.book) replied, ap (λ s. s.total) replied)
edits_done [] [] (frame ∷ frames) old new spell replied = absurd replied
edits_done [] (edit ∷ edits) frames old new spell replied = absurd spell
edits_done (line ∷ lines) [] frames old new spell replied = absurd spell
edits_done (line ∷ lines) (edit ∷ edits) [] old new spell replied = absurd replied
edits_done (line ∷ lines) (edit ∷ edits) (frame ∷ frames) old new spell replied =
    let here = edit_done line edit frame old replied.0 spell.0 replied.1.0 in
    let later = edits_done lines edits frames replied.0 new spell.1 replied.2 in (
      later.0 ∙ ap (λ t. after_all_hosted t replied.0.book lines) here.1 ∙ ap (λ b. after_all_hosted old.total b lines) here.0,
      later.1 ∙ here.1,
    )

grouped : (lines : List Line) (frames : List Frame) (old new : LiveState) → DoesGroup lines frames old new → Follows lines old new
grouped lines frames old new g = edits_done lines g.edits frames old.state new.state g.spell g.replied.replied

-- ---- the book behind events

join_lines : (front rest : List Line) (total : ℕ) (book : List Series)
    → after_all_hosted total book (front ++ rest) ≡ after_all_hosted total (after_all_hosted total book front) rest
join_lines [] rest total book = refl
join_lines (line ∷ front) rest total book = join_lines front rest total (after_hosted total book line)

joined : (front rest : List Line) (old between new : LiveState) → Follows front old between → Follows rest between new
    → Follows (front ++ rest) old new
joined front rest old between new first later = (
  later.0 ∙ ap (λ t. after_all_hosted t between.state.book rest) first.1 ∙ ap (λ b. after_all_hosted old.state.total b rest) first.0
      ∙ sym (join_lines front rest old.state.total old.state.book),
  later.1 ∙ first.1,
)

events_follow : (events : List Event) (frames : List Frame) (old new : LiveState) → InRow Happens old events frames new
    → Follows (lines_in events) old new
events_follow [] frames old new is = (ap (λ s. s.state.book) is.1, ap (λ s. s.state.total) is.1)
events_follow (answer line ∷ later) frames old new is =
    joined (line ∷ []) (lines_in later) old is.between new (answered line is.first old is.between is.happens)
    (events_follow later is.more is.between new is.later)
events_follow (report text ∷ later) frames old new is =
    joined (Some text ∷ []) (lines_in later) old is.between new (reported text is.first old is.between is.happens)
    (events_follow later is.more is.between new is.later)
events_follow (sweep text ∷ later) frames old new is =
    joined (Some text ∷ []) (lines_in later) old is.between new (swept text is.first old is.between is.happens)
    (events_follow later is.more is.between new is.later)
events_follow (group lines ∷ later) frames old new is =
    joined lines (lines_in later) old is.between new (grouped lines is.first old is.between is.happens)
    (events_follow later is.more is.between new is.later)
events_follow (push ∷ later) frames old new is =
    joined [] (lines_in later) old is.between new (by_push is.happens.frame old is.between is.happens.pushed)
    (events_follow later is.more is.between new is.later)

first_follow : (input : List ℕ) (frames : List Frame) (old new : LiveState) (first : FirstLines input frames old new)
    → Follows (told first.front) old new
first_follow input frames old new first =
    let F : List Line → Type 0 = λ lines. Follows lines old new in
    subst F first.hosted.lines_are (events_follow first.hosted.events frames old new first.hosted.happened)

-- ---- what lines leave

-- the first ones of none
take_none : (n : ℕ) → ◌≡◌ {A = List Edit} (take n []) []
take_none n = take_all n [] (omega arith)

-- all events are over
pub host_left : (input : List ℕ) (total : ℕ) (book : List Series) (frames : List Frame) (state : LiveState)
    → FirstLines input frames (begun_live total book) state → LeavesHostLines total book input state.state.book
host_left input total book frames state first =
    let follows = first_follow input frames (begun_live total book) state first in
    record {
      lines = told first.front;
      later = told first.rest;
      split = told_join input first.front first.rest first.begins;
      between = state.state.book;
      between_is = follows.0;
      done = 0;
      next_is = refl;
    }

-- some clears are done that the first of the lines behind them asks for
pub host_left_amid : (input : List ℕ) (total : ℕ) (book : List Series) (frames : List Frame) (state : LiveState)
    (first : FirstLines input frames (begun_live total book) state) (line : List ℕ) (later : List Line) (rule : Rule) (done : ℕ)
    → told first.rest ≡ Some line ∷ later → host_line line ≡ Sweep rule
    → LeavesHostLines total book input (after_edits state.state.total state.state.book (take done (step_clears state.state rule)))
host_left_amid input total book frames state first line later rule done lines_are asks =
    let follows = first_follow input frames (begun_live total book) state first in
    let between = state.state.book in
    let clears : first_clears total between (told first.rest) ≡ sweeps_some total between rule most_clears =
    ap (first_clears total between) lines_are ∙ ap (λ asked. clears_asked asked (begun total between)) asks in
    record {
      lines = told first.front;
      later = told first.rest;
      split = told_join input first.front first.rest first.begins;
      between = between;
      between_is = follows.0;
      done = done;
      next_is = ap (λ t. after_edits t between (take done (sweeps_some t between rule most_clears))) follows.1
          ∙ sym (ap (λ cs. after_edits total between (take done cs)) clears);
    }

-- ---- where no line asks for a sweep

quiet_clears : (asked : HostLine) (state : State) → is_sweep asked ≡ false → clears_asked asked state ≡ []
quiet_clears ListLine state quiet = refl
quiet_clears (Values name t0 t1) state quiet = refl
quiet_clears (Sum session request) state quiet = refl
quiet_clears (Sweep rule) state quiet = absurd (grind (arith, quiet))
quiet_clears (Bad at) state quiet = refl
quiet_clears Other state quiet = refl

quiet_line : (total : ℕ) (book : List Series) (line : Line) → asks_sweep line ≡ false → clears_of total book line ≡ []
quiet_line total book None quiet = refl
quiet_line total book (Some text) quiet = quiet_clears (host_line text) (begun total book) quiet

neither : (a b : Bool) → (a || b) ≡ false → (a ≡ false) × (b ≡ false)
neither false b is = (refl, is)
neither true b is = absurd (grind (arith, is))

quiet_lines : (lines : List Line) (total : ℕ) (book : List Series) → list_any asks_sweep lines ≡ false
    → after_all_hosted total book lines ≡ after_lines total book lines
quiet_lines [] total book quiet = refl
quiet_lines (line ∷ later) total book quiet =
    let none = neither (asks_sweep line) (list_any asks_sweep later) quiet in
    ap (λ b. after_all_hosted total b later) (no_clears total book line (quiet_line total book line none.0))
    ∙ quiet_lines later total (after_line total book line) none.1

quiet_first : (later : List Line) (total : ℕ) (book : List Series) (done : ℕ) → list_any asks_sweep later ≡ false
    → after_edits total book (take done (first_clears total book later)) ≡ book
quiet_first [] total book done quiet = ap (after_edits total book) (take_none done)
quiet_first (line ∷ later) total book done quiet =
    let none = neither (asks_sweep line) (list_any asks_sweep later) quiet in
    ap (λ cs. after_edits total book (take done cs)) (quiet_line total book line none.0) ∙ ap (after_edits total book) (take_none done)

pub quiet_left : LinesSayWhatIsRead → (total : ℕ) (book : List Series) (input : List ℕ) (next : List Series)
    → list_any asks_sweep (told input) ≡ false → LeavesHostLines total book input next → LeavesLines total book input next
quiet_left reads total book input next quiet left =
    let none = neither (list_any asks_sweep left.lines) (list_any asks_sweep left.later)
    (sym (list_any-append asks_sweep left.lines left.later) ∙ sym (ap (list_any asks_sweep) left.split) ∙ quiet) in
    record {
      lines = left.lines;
      later = left.later;
      split = left.split;
      requests = map said_by left.lines;
      said = reads left.lines;
      next_is = left.next_is ∙ quiet_first left.later total left.between left.done none.1 ∙ left.between_is
          ∙ quiet_lines left.lines total book none.0;
    }
