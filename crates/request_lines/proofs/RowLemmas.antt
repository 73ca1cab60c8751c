use Rattle.std.proofs.Common.{◌≡◌, ℕ, ℤ, ◌+◌, ◌<◌, List, [], ◌∷◌, ◌++◌, map, length, drop, Option, Some, None, Result, Ok, Err, refl, sym}
use Rattle.std.proofs.Common.{ap, ◌∙◌, subst, arith}
use Rattle.std.specs.Result.{IsErrAnd, IfOk, IfErr}
use Rattle.std.proofs.lemmas.Result.{err_from_is_err_and}
use Rattle.series_book.specs.declared.edits.Edit.TheVariants.{Create, Append, Set, Clear}
use Rattle.request_lines.specs.declared.places.Place.{Place}
use Rattle.request_lines.specs.declared.places.Place.TheVariants.{Name, Start, Step, Scale, Integer, Natural, Session, Range}
use Rattle.request_lines.specs.declared.line_kinds.LineKind.{LineKind}
use Rattle.request_lines.specs.declared.line_errors.LineError.{LineError}
use Rattle.request_lines.specs.declared.line_errors.LineError.TheVariants.{BadLine, NoMemory}
use Rattle.request_lines.specs.declared.ranges.RangeWord.{RangeWord}
use Rattle.request_lines.specs.declared.requests.Request.{Request}
use Rattle.request_lines.specs.declared.requests.Request.TheVariants.{Edit as EditRequest, Open, View, Zoom, Pan, Close}
use Rattle.whole_number.specs.Numbers.{natural_value, integer_value}
use Rattle.request_lines.specs.Ranges.{range_of}
use Rattle.request_lines.specs.Tokens.{tokens, Cursor, tokens_left, next_token, past_token}
use Rattle.request_lines.specs.Grammar.{Ending, kind_of, form_of, fault, tokens_fault, fault_of, Takes, Misses, MissesEnd}
use Rattle.request_lines.specs.Requests.{value_of, create_of, append_of, set_of, clear_of, open_of, view_of, filter_of, zoom_of, pan_of}
use Rattle.request_lines.specs.Requests.{close_of, request_of, named, Reads, IsRequest, RefusesLine, read_line, ReadsAs}
use Rattle.request_lines.proofs.TokenLemmas.{tokens_left-within, tokens_left-there, tokens_left-none, joined-left}
use Rattle.request_lines.proofs.GrammarLemmas.{fault-takes, misses-fault}

-- a reader took tokens for these places, one after another
abbrev pub Passed : List Place → Cursor → Cursor → Type 0
Passed [] start cursor = start ≡ cursor
Passed (place ∷ places) start cursor = (middle : Cursor) × Takes place start middle × Passed places middle cursor

-- the places that were passed have no fault
pub passed-fault : (end : ℕ) (passed places : List Place) (ending : Ending) (start cursor : Cursor) → Passed passed start cursor
    → fault end (passed ++ places) ending (tokens_left start) start.at ≡ fault end places ending (tokens_left cursor) cursor.at
passed-fault end [] places ending start cursor same = ap (λ (c : Cursor). fault end places ending (tokens_left c) c.at) same
passed-fault end (place ∷ passed) places ending start cursor taken =
    fault-takes end place (passed ++ places) ending start taken.0 taken.1
    ∙ passed-fault end passed places ending taken.0 cursor taken.2

-- a reader stays on its line
pub passed-line : (passed : List Place) (start cursor : Cursor) → Passed passed start cursor → cursor.line ≡ start.line
passed-line [] start cursor same = ap (λ (c : Cursor). c.line) (sym same)
passed-line (place ∷ passed) start cursor taken =
    passed-line passed taken.0 cursor taken.2 ∙ ap (λ (c : Cursor). c.line) taken.1.past

-- a token that is missing or wrong after some places
pub reads-misses : (kind : LineKind) (passed : List Place) (place : Place) (places : List Place) (start cursor : Cursor) (error : LineError)
    → (form_of kind).places ≡ passed ++ place ∷ places → Passed passed start cursor → Misses place cursor error
    → Reads kind start (Err error)
reads-misses kind passed place places start cursor (BadLine bad) form taken misses =
    ap (λ ps. fault (length start.line) ps (form_of kind).ending (tokens_left start) start.at) form
    ∙ passed-fault (length start.line) passed (place ∷ places) (form_of kind).ending start cursor taken
    ∙ ap (λ line. fault (length line) (place ∷ places) (form_of kind).ending (tokens_left cursor) cursor.at)
    (sym (passed-line passed start cursor taken))
    ∙ misses-fault place places (form_of kind).ending cursor bad misses
reads-misses kind passed place places start cursor NoMemory form taken misses = tt

-- tokens that don't end a line so
pub reads-misses_end : (kind : LineKind) (passed : List Place) (ending : Ending) (start cursor : Cursor) (error : LineError)
    → (form_of kind).places ≡ passed ++ [] → (form_of kind).ending ≡ ending → Passed passed start cursor → MissesEnd ending cursor error
    → Reads kind start (Err error)
reads-misses_end kind passed ending start cursor (BadLine bad) form form_ending taken misses =
    ap (λ ps. fault (length start.line) ps (form_of kind).ending (tokens_left start) start.at) form
    ∙ passed-fault (length start.line) passed [] (form_of kind).ending start cursor taken
    ∙ ap (λ line. fault (length line) [] (form_of kind).ending (tokens_left cursor) cursor.at) (sym (passed-line passed start cursor taken))
    ∙ ap (λ e. fault (length cursor.line) [] e (tokens_left cursor) cursor.at) form_ending
    ∙ misses
reads-misses_end kind passed ending start cursor NoMemory form form_ending taken misses = tt

-- the exit of a `?`
pub reads-exit : (kind : LineKind) (start : Cursor) (r : Result Request LineError) (error : LineError)
    → IsErrAnd r (λ e. e ≡ error) → Reads kind start (Err error) → Reads kind start r
reads-exit kind start r error is reads =
    let p = err_from_is_err_and r is in
    let P : Result Request LineError → Type 0 = λ r. Reads kind start r in
    subst P (sym (p.1 ∙ ap Err p.2)) reads

-- the tokens of a reader that took one
pub takes-tokens : (place : Place) (old new : Cursor) → Takes place old new → tokens_left old ≡ next_token old ∷ tokens_left new
takes-tokens place old new takes = rw (tokens_left-there old takes.there, takes.past) refl

-- the filter's text where no token is left after the range
pub no_filter : (cursor : Cursor) → length cursor.line < cursor.at → None ≡ filter_of (tokens_left cursor)
unfolding filter_of
no_filter cursor past = rw (tokens_left-none cursor past) refl

-- and where the word stands there
pub some_filter : (place : Place) (old new : Cursor) (text rest : List ℕ) → Takes place old new → rest ≡ drop new.at new.line → text ≡ rest
    → Some text ≡ filter_of (tokens_left old)
unfolding filter_of
some_filter place old new text rest takes rest_is text_is =
    rw (takes-tokens place old new takes) (ap Some (text_is ∙ rest_is ∙ sym (joined-left new)))

-- the request that the tokens after `create` name, as the code reads it
pub create_is : (c0 c1 c2 c3 c4 : Cursor) (name : List ℕ) (start begun : ℤ) (step scale : ℕ)
    → Takes Name c0 c1 → Takes Start c1 c2 → Takes Step c2 c3 → Takes Scale c3 c4 → tokens_left c4 ≡ []
    → name ≡ next_token c0 → start ≡ integer_value (next_token c1) → begun ≡ start
    → step ≡ natural_value (next_token c2) → scale ≡ natural_value (next_token c3)
    → create_of (tokens_left c0) ≡ Some (EditRequest (Create name begun step scale))
unfolding create_of
create_is c0 c1 c2 c3 c4 name start begun step scale t0 t1 t2 t3 none name_is start_is begun_is step_is scale_is =
    rw (
      takes-tokens Name c0 c1 t0,
      takes-tokens Start c1 c2 t1,
      takes-tokens Step c2 c3 t2,
      takes-tokens Scale c3 c4 t3,
      none,
      begun_is,
      name_is,
      start_is,
      step_is,
      scale_is,
    ) refl

-- the same after `append`
pub append_is : (c0 c1 : Cursor) (name : List ℕ) (values : List (Option ℤ)) → Takes Name c0 c1
    → name ≡ next_token c0 → values ≡ map value_of (tokens_left c1)
    → append_of (tokens_left c0) ≡ Some (EditRequest (Append name values))
unfolding append_of
append_is c0 c1 name values t0 name_is values_are = rw (takes-tokens Name c0 c1 t0, name_is, values_are) refl

-- the same after `set`
pub set_is : (c0 c1 c2 : Cursor) (name : List ℕ) (time told : ℤ) (values : List (Option ℤ)) → Takes Name c0 c1 → Takes Integer c1 c2
    → name ≡ next_token c0 → time ≡ integer_value (next_token c1) → told ≡ time → values ≡ map value_of (tokens_left c2)
    → set_of (tokens_left c0) ≡ Some (EditRequest (Set name told values))
unfolding set_of
set_is c0 c1 c2 name time told values t0 t1 name_is time_is told_is values_are =
    rw (takes-tokens Name c0 c1 t0, takes-tokens Integer c1 c2 t1, told_is, name_is, time_is, values_are) refl

-- the same after `clear`
pub clear_is : (c0 c1 c2 c3 : Cursor) (name : List ℕ) (time told : ℤ) (count : ℕ)
    → Takes Name c0 c1 → Takes Integer c1 c2 → Takes Natural c2 c3 → tokens_left c3 ≡ []
    → name ≡ next_token c0 → time ≡ integer_value (next_token c1) → told ≡ time → count ≡ natural_value (next_token c2)
    → clear_of (tokens_left c0) ≡ Some (EditRequest (Clear name told count))
unfolding clear_of
clear_is c0 c1 c2 c3 name time told count t0 t1 t2 none name_is time_is told_is count_is =
    rw (
      takes-tokens Name c0 c1 t0,
      takes-tokens Integer c1 c2 t1,
      takes-tokens Natural c2 c3 t2,
      none,
      told_is,
      name_is,
      time_is,
      count_is,
    ) refl

-- the same after `zoom`
pub zoom_is : (c0 c1 c2 c3 : Cursor) (session : ℕ) (t0 told0 t1 told1 : ℤ)
    → Takes Session c0 c1 → Takes Integer c1 c2 → Takes Integer c2 c3 → tokens_left c3 ≡ []
    → session ≡ natural_value (next_token c0) → t0 ≡ integer_value (next_token c1) → told0 ≡ t0 → t1 ≡ integer_value (next_token c2)
    → told1 ≡ t1
    → zoom_of (tokens_left c0) ≡ Some (Zoom session told0 told1)
unfolding zoom_of
zoom_is c0 c1 c2 c3 session t0 told0 t1 told1 k0 k1 k2 none session_is t0_is told0_is t1_is told1_is =
    rw (
      takes-tokens Session c0 c1 k0,
      takes-tokens Integer c1 c2 k1,
      takes-tokens Integer c2 c3 k2,
      none,
      told0_is,
      told1_is,
      session_is,
      t0_is,
      t1_is,
    ) refl

-- the same after `pan`
pub pan_is : (c0 c1 c2 : Cursor) (session : ℕ) (by told : ℤ)
    → Takes Session c0 c1 → Takes Integer c1 c2 → tokens_left c2 ≡ []
    → session ≡ natural_value (next_token c0) → by ≡ integer_value (next_token c1) → told ≡ by
    → pan_of (tokens_left c0) ≡ Some (Pan session told)
unfolding pan_of
pan_is c0 c1 c2 session by told k0 k1 none session_is by_is told_is =
    rw (takes-tokens Session c0 c1 k0, takes-tokens Integer c1 c2 k1, none, told_is, session_is, by_is) refl

-- the same after `close`
pub close_is : (c0 c1 : Cursor) (session : ℕ) → Takes Session c0 c1 → tokens_left c1 ≡ [] → session ≡ natural_value (next_token c0)
    → close_of (tokens_left c0) ≡ Some (Close session)
unfolding close_of
close_is c0 c1 session k0 none session_is = rw (takes-tokens Session c0 c1 k0, none, session_is) refl

-- the same after `open`, without a cache
pub open_alone : (c0 c1 : Cursor) (session : ℕ) → Takes Session c0 c1 → length c1.line < c1.at → session ≡ natural_value (next_token c0)
    → open_of (tokens_left c0) ≡ Some (Open session None)
unfolding open_of
open_alone c0 c1 session t0 past session_is = rw (takes-tokens Session c0 c1 t0, tokens_left-none c1 past, session_is) refl

-- the same after `open`, with a cache
pub open_sized : (c0 c1 c2 : Cursor) (session cache : ℕ) → Takes Session c0 c1 → Takes Natural c1 c2 → tokens_left c2 ≡ []
    → session ≡ natural_value (next_token c0) → cache ≡ natural_value (next_token c1)
    → open_of (tokens_left c0) ≡ Some (Open session (Some cache))
unfolding open_of
open_sized c0 c1 c2 session cache t0 t1 none session_is cache_is =
    rw (takes-tokens Session c0 c1 t0, takes-tokens Natural c1 c2 t1, none, session_is, cache_is) refl

-- the same after `view`
pub view_is : (c0 c1 c2 c3 c4 c5 c6 c7 : Cursor) (session : ℕ) (name : List ℕ) (w h : ℕ) (t0 t0' t1 t1' : ℤ) (range : RangeWord)
    (filter : Option (List ℕ))
    → Takes Session c0 c1 → Takes Name c1 c2 → Takes Natural c2 c3 → Takes Natural c3 c4 → Takes Integer c4 c5 → Takes Integer c5 c6
    → Takes Range c6 c7 → filter ≡ filter_of (tokens_left c7)
    → session ≡ natural_value (next_token c0) → name ≡ next_token c1 → w ≡ natural_value (next_token c2) → h ≡ natural_value (next_token c3)
    → t0 ≡ integer_value (next_token c4) → t0' ≡ t0 → t1 ≡ integer_value (next_token c5) → t1' ≡ t1 → range ≡ range_of (next_token c6)
    → view_of (tokens_left c0) ≡ Some (View session name w h t0' t1' range filter)
unfolding view_of
view_is c0 c1 c2 c3 c4 c5 c6 c7 session name w h t0 t0' t1 t1' range filter s0 s1 s2 s3 s4 s5 s6 filter_is session_is name_is w_is h_is
    t0_is t0_told t1_is t1_told range_is =
    rw (
      takes-tokens Session c0 c1 s0,
      takes-tokens Name c1 c2 s1,
      takes-tokens Natural c2 c3 s2,
      takes-tokens Natural c3 c4 s3,
      takes-tokens Integer c4 c5 s4,
      takes-tokens Integer c5 c6 s5,
      takes-tokens Range c6 c7 s6,
      filter_is,
      session_is,
      name_is,
      w_is,
      h_is,
      t0_told,
      t0_is,
      t1_told,
      t1_is,
      range_is,
    ) refl

-- tokens that end a line after some places
pub passed-ends : (passed : List Place) (ending : Ending) (start cursor : Cursor) → Passed passed start cursor
    → fault (length cursor.line) [] ending (tokens_left cursor) cursor.at ≡ None
    → fault (length start.line) (passed ++ []) ending (tokens_left start) start.at ≡ None
passed-ends passed ending start cursor taken ends =
    passed-fault (length start.line) passed [] ending start cursor taken
    ∙ ap (λ line. fault (length line) [] ending (tokens_left cursor) cursor.at) (sym (passed-line passed start cursor taken))
    ∙ ends

-- a line at its first token
abbrev pub line_start : List ℕ → Cursor
line_start line = record { line = line; at = 0 }

-- the tokens of a line are its first word and those after it
tokens-line : (line : List ℕ) → tokens line ≡ next_token (line_start line) ∷ tokens_left (past_token (line_start line))
tokens-line line = sym (tokens_left-within line 0 (omega arith)) ∙ tokens_left-there (line_start line) (omega arith)

-- the fault of a line of a kind
fault_of-kind : (line : List ℕ) (kind : LineKind) → kind_of (next_token (line_start line)) ≡ Some kind
    → fault_of line ≡ fault (length line) (form_of kind).places (form_of kind).ending (tokens_left (past_token (line_start line)))
    (past_token (line_start line)).at
unfolding fault_of
fault_of-kind line kind is =
    let first : 0 + length (next_token (line_start line)) + 1 ≡ length (next_token (line_start line)) + 1 = omega arith in
    rw (tokens-line line, is, first) refl

-- the request of a line of a kind
named-kind : (line : List ℕ) (kind : LineKind) → kind_of (next_token (line_start line)) ≡ Some kind
    → named (tokens line) ≡ request_of kind (tokens_left (past_token (line_start line)))
named-kind line kind is = rw (tokens-line line, is) refl

-- what is read after the first word is what the line spells
pub line-reads : (line : List ℕ) (kind : LineKind) (r : Result Request LineError) → kind_of (next_token (line_start line)) ≡ Some kind
    → Reads kind (past_token (line_start line)) r
    → IfOk r (IsRequest line) × IfErr r (RefusesLine line) × ReadsAs (read_line line) r
unfolding read_line
line-reads line kind (Ok request) is reads =
    let no_fault' : fault_of line ≡ None = fault_of-kind line kind is ∙ reads.0 in
    let named' : named (tokens line) ≡ Some request = named-kind line kind is ∙ reads.1 in
    (record { no_fault = no_fault'; named_so = named' }, tt, rw (no_fault', named') refl)
line-reads line kind (Err (BadLine at)) is reads =
    let fault' : fault_of line ≡ Some at = fault_of-kind line kind is ∙ reads in
    (tt, fault', rw fault' refl)
line-reads line kind (Err NoMemory) is reads = (tt, tt, tt)

-- a first word that begins no line
pub line-unknown : (line : List ℕ) → kind_of (next_token (line_start line)) ≡ None → (fault_of line ≡ Some 0) × (read_line line ≡ Err 0)
unfolding fault_of read_line
line-unknown line is =
    let fault' : tokens_fault (length line) (tokens line) ≡ Some 0 = rw (tokens-line line, is) refl in
    (fault', rw fault' refl)
