-- How often the lines of an input have synced so far.
use Rattle.std.proofs.Common.{◌≡◌, ◌⊎◌, ◌≤◌, ◌<◌, ◌+◌, ◌*◌, ◌-◌, ◌/◌, ◌^◌, arith, ℕ, List, [], ◌∷◌, ◌++◌, length, zero, suc, take, drop}
use Rattle.std.proofs.Common.{Option, None, Some, Result, Ok, Err, IfSome, refl, ap, sym, subst, inl, inr, ◌∙◌, length-append, append_assoc}
use Rattle.std.specs.Prelude.{OnOk}
use Rattle.std.specs.List.{filter}
use Rattle.std.proofs.Math.Nat.{div-mul-le_self, le-div_iff_mul-le}
use Rattle.std.proofs.Math.Seq.{take-add}
use Rattle.std.proofs.lemmas.List.{append-nil, take-append-drop, length-drop, length-map, length-take}
use Rattle.block_disk.specs.View.{Image, View, DiskKept}
use Rattle.chart_world.specs.Fronts.{says, IsWhole}
use Rattle.chart_world.specs.LineLaws.{lines_none, lines_joined}
use Rattle.chart_world.specs.Lines.{lines}
use Rattle.chart_frames.specs.declared.frame.Frame.{Frame}
use Rattle.request_lines.specs.declared.requests.Request.{Request}
use Rattle.request_lines.specs.declared.requests.Request.TheVariants.{Edit as EditRequest, Open, View as ViewRequest, Zoom, Pan, Close}
use Rattle.request_lines.specs.Grammar.{fault_of, kind_of}
use Rattle.request_lines.specs.Requests.{read_line}
use Rattle.series_book.specs.declared.edits.Edit.{Edit}
use Rattle.series_book.specs.declared.one_series.Series.{Series}
use Rattle.series_book.specs.declared.refusals.Refusal.{Refusal}
use Rattle.series_book.specs.EditLists.{after_edits, book_behind, edits_give}
use Rattle.series_book.specs.Edits.{Edited, apply}
use Rattle.series_store.specs.Groups.{AreMany, weight}
use Rattle.series_store.specs.Results.{IsUnchanged}
use Rattle.chart_service.specs.EditGroups.{DoesSome, RepliesToEdits, SpellsEdit, SpellEdits, frame_of, frames_of}
use Rattle.chart_service.specs.Replies.{Edits, line_text}
use Rattle.chart_service.specs.Serving.{told}
use Rattle.chart_service.specs.State.{State}
use Rattle.chart_service.specs.Syncing.{FirstLinesSyncLess, SyncsLines, edit_asked, edit_of, edit_read, edits_of, group_syncs}

-- ---- the edits of lines

-- an empty line spells none
pub empty_line : edit_of (Some []) ≡ []
unfolding read_line fault_of kind_of
empty_line = refl

pub no_text : (line : List ℕ) → length line ≡ 0 → edit_of (Some line) ≡ []
no_text [] none = empty_line
no_text (b ∷ bs) none = absurd (omega (arith, none))

pub edits_joined : (first later : List (Option (List ℕ))) → edits_of (first ++ later) ≡ edits_of first ++ edits_of later
edits_joined [] later = refl
edits_joined (line ∷ lines) later = ap (λ e. edit_of line ++ e) (edits_joined lines later)
    ∙ sym (append_assoc (edit_of line) (edits_of lines) (edits_of later))

-- lines that say nothing spell none
pub edits_told : (all : List (Option (List ℕ))) → edits_of (filter says all) ≡ edits_of all
edits_told [] = refl
edits_told (None ∷ later) = edits_told later
edits_told (Some [] ∷ later) = edits_told later ∙ ap (λ e. e ++ edits_of later) (sym empty_line)
edits_told (Some (b ∷ bs) ∷ later) = ap (λ e. edit_of (Some (b ∷ bs)) ++ e) (edits_told later)

pub told_less : (all : List (Option (List ℕ))) → length (filter says all) ≤ length all
told_less [] = omega arith
told_less (None ∷ later) = omega (arith, told_less later)
told_less (Some [] ∷ later) = omega (arith, told_less later)
told_less (Some (b ∷ bs) ∷ later) = omega (arith, told_less later)

pub spelled_edit : (line : Option (List ℕ)) (edit : Edit) → SpellsEdit line edit → edit_of line ≡ edit ∷ []
spelled_edit None edit spells = absurd spells
spelled_edit (Some []) edit spells = absurd spells
spelled_edit (Some (b ∷ bs)) edit spells = ap edit_read spells

pub spelled_edits : (all : List (Option (List ℕ))) (edits : List Edit) → SpellEdits all edits → edits_of all ≡ edits
spelled_edits [] [] spells = refl
spelled_edits [] (e ∷ es) spells = absurd spells
spelled_edits (l ∷ ls) [] spells = absurd spells
spelled_edits (l ∷ ls) (e ∷ es) spells = ap (λ x. x ++ edits_of ls) (spelled_edit l e spells.0)
    ∙ ap (λ x. e ∷ x) (spelled_edits ls es spells.1)

pub weight_joined : (total : ℕ) (book : List Series) (first later : List Edit)
    → weight total book (first ++ later) ≡ weight total book first + weight total (after_edits total book first) later
weight_joined total book [] later = omega arith
weight_joined total book (e ∷ es) later = omega (arith, weight_joined total (book_behind book (apply book total e)) es later)

-- an edit leaves the book that it gives
edit_book : (given : Result Edited Refusal) (frame : Frame) (old new : State) → Edits given frame old new
    → (new.book ≡ book_behind old.book given) × (new.total ≡ old.total)
edit_book (Ok edited) frame old new is = (ap (λ (s : State). s.book) is.1, ap (λ (s : State). s.total) is.1)
edit_book (Err refusal) frame old new is = (ap (λ (s : State). s.book) is.state, ap (λ (s : State). s.total) is.state)

pub replied_book : (edits : List Edit) (frames : List Frame) (old new : State) → RepliesToEdits edits frames old new
    → new.book ≡ after_edits old.total old.book edits
replied_book [] [] old new replied = ap (λ (s : State). s.book) replied
replied_book [] (f ∷ fs) old new replied = absurd replied
replied_book (e ∷ es) [] old new replied = absurd replied
replied_book (e ∷ es) (f ∷ fs) old new replied =
    let one = edit_book (apply old.book old.total e) f old replied.0 replied.1.0 in
    replied_book es fs replied.0 new replied.2 ∙ ap (λ b. after_edits replied.0.total b es) one.0
    ∙ ap (λ t. after_edits t (book_behind old.book (apply old.book old.total e)) es) one.1

-- what holds anyway holds after Ok
pub always_ok : {T E : Type 0} (r : Result T E) (P : Type 0) → P → OnOk r P
always_ok (Ok t) P p = p
always_ok (Err e) P p = tt

-- what commits nothing, where the pages stay behind it
pub unchanged_kept : (told : Type 0) (old mid new : View) → IsUnchanged told old mid → DiskKept mid new → IsUnchanged told old new
unchanged_kept told old mid new u k = record {
  image = λ t. k.image ∙ u.image t;
  fit = λ f. k.fit (u.fit f);
  syncs = k.syncs ∙ u.syncs;
  writes = k.writes ∙ u.writes;
}

-- a request that a line spells which spells no edit
pub no_edit : (line : List ℕ) (request : Request) → line_text line ≡ Some line → read_line line ≡ Ok request → edit_of (line_text line) ≡ []
    → edit_asked request ≡ []
no_edit line request short is none = sym (ap edit_of short ∙ ap edit_read is) ∙ none

-- it is none that asks for an edit
pub asks_one : (request : Request) (edit : Edit) → request ≡ EditRequest edit → edit_asked request ≡ [] → ⊥
asks_one request edit is none = let one : edit ∷ [] ≡ [] = sym (ap edit_asked is) ∙ none in cc (one)

-- ---- edits that are done together

divided : (n k m : ℕ) → 0 < k → n * k ≤ m → n ≤ m / k
divided n k m some most = (le-div_iff_mul-le some).1 most

-- so many times a commit was filled, beside that of the last edits
pub record GroupSynced (total : ℕ) (book : List Series) (edits : List Edit) (done from count : ℕ) : Type 0 where
  pub turns : ℕ
  pub few : count ≤ from + 4 * turns
  pub filled : done < length edits → 22 * turns ≤ weight total book (take done edits)
  pub most : 22 * turns ≤ 22 + weight total book edits

pub group_none : (total : ℕ) (book : List Series) (edits : List Edit) (frames : List Frame) (from : ℕ) → frames ≡ []
    → GroupSynced total book edits (length frames) from from
group_none total book edits [] from none = record { turns = 0; few = omega arith; filled = λ more. omega arith; most = omega arith }
group_none total book edits (f ∷ fs) from none = cc (none)

first_weight : (total : ℕ) (book : List Series) (edits : List Edit) (count : ℕ)
    → weight total book (take count edits) ≤ weight total book edits
first_weight total book edits count =
    omega (arith, weight_joined total book (take count edits) (drop count edits), ap (weight total book) (take-append-drop count edits))

pub group_more : (total : ℕ) (book : List Series) (edits : List Edit) (done covered now from count count' : ℕ) → done < length edits
    → now ≡ done + covered → covered ≤ length (drop done edits)
    → AreMany total (after_edits total book (take done edits)) (drop done edits) covered → count' ≤ count + 4
    → GroupSynced total book edits done from count → GroupSynced total book edits now from count'
group_more total book edits done covered now from count count' more behind within many most g =
    let filled = g.filled more in
    let front : take now edits ≡ take done edits ++ take covered (drop done edits) = ap (λ n. take n edits) behind
    ∙ take-add done covered edits in
    let sum = weight_joined total book (take done edits) (take covered (drop done edits)) in
    record {
      turns = g.turns + 1;
      few = omega (arith, g.few, most);
      filled = λ later. elim many [
        | inl all ↦ absurd (omega (arith, later, behind, all, length-drop done edits))
        | inr full ↦ omega (arith, full, filled, sum, ap (weight total book) front)
      ];
      most = omega (arith, filled, first_weight total book edits done);
    }

given_length : (total : ℕ) (book : List Series) (edits : List Edit) → length (edits_give total book edits) ≡ length edits
given_length total book [] = refl
given_length total book (edit ∷ edits) = omega (arith, given_length total (book_behind book (apply book total edit)) edits)

-- behind some edits more
pub group_next : (total : ℕ) (book : List Series) (edits : List Edit) (before now : List Frame) (image : Image) (from count count' : ℕ)
    → length before < length edits → DoesSome total (after_edits total book (take (length before) edits))
    (drop (length before) edits) before now image → count' ≤ count + 4
    → GroupSynced total book edits (length before) from count → GroupSynced total book edits (length now) from count'
group_next total book edits before now image from count count' more does most g =
    let tail = drop (length before) edits in
    let given = edits_give total (after_edits total book (take (length before) edits)) (take does.covered tail) in
    let sum : length now ≡ length before + does.covered = omega (
      arith,
      ap length does.frames_are,
      length-append before (frames_of given),
      length-map given frame_of,
      given_length total (after_edits total book (take (length before) edits)) (take does.covered tail),
      length-take does.covered tail,
      does.within,
    ) in
    group_more total book edits (length before) does.covered (length now) from count count' more sum does.within does.many most g

pub group_end : (total : ℕ) (book : List Series) (edits : List Edit) (done from count : ℕ) → GroupSynced total book edits done from count
    → count ≤ from + group_syncs total book edits
group_end total book edits done from count g =
    let s = weight total book edits in
    elim (none_or_one g.turns) [
      | inl none ↦ omega (arith, g.few, none)
      | inr some ↦ omega (arith, g.few, some.1, divided some.0 22 s (omega arith) (omega (arith, g.most, some.1)))
    ]
  where
    none_or_one : (n : ℕ) → (n ≡ 0) ⊎ ((m : ℕ) × (n ≡ m + 1))
    none_or_one zero = inl refl
    none_or_one (suc m) = inr (m, omega arith)

pub group_stop : (total : ℕ) (book : List Series) (edits : List Edit) (done from count count' : ℕ) → done < length edits
    → count' ≤ count + 4 → GroupSynced total book edits done from count → count' ≤ from + group_syncs total book edits
group_stop total book edits done from count count' more most g =
    let s = weight total book edits in
    omega (arith, g.few, most, divided g.turns 22 s (omega arith) (omega (arith, g.filled more, first_weight total book edits done)))

-- ---- the lines of an input

-- where no line was given
pub sync_none : (o : Option (List ℕ)) (total : ℕ) (book : List Series) (count pieces : ℕ)
    → IfSome o (λ input. pieces < 2 ^ 64 - 1 → SyncsLines input total book (pieces - pieces) count count)
sync_none None total book count pieces = tt
sync_none (Some input) total book count pieces =
    let C : List (Option (List ℕ)) → Type 0 = λ l. length l ≡ 0 + length (edits_of l) in
    λ small. record {
      front = [];
      rest = input;
      begins = record { split = refl; whole = inl (inl refl) };
      others = 0;
      counted = subst C (sym lines_none) refl;
      few = omega arith;
    }

-- ---- all of the input

asked_few : (request : Request) → length (edit_asked request) ≤ 1
asked_few (EditRequest edit) = omega arith
asked_few (Open number cache) = omega arith
asked_few (ViewRequest number name w h t0 t1 word text) = omega arith
asked_few (Zoom number t0 t1) = omega arith
asked_few (Pan number by) = omega arith
asked_few (Close number) = omega arith

read_few : (read : Result Request ℕ) → length (edit_read read) ≤ 1
read_few (Err at) = omega arith
read_few (Ok request) = asked_few request

edit_few : (line : Option (List ℕ)) → length (edit_of line) ≤ 1
edit_few None = omega arith
edit_few (Some text) = read_few (read_line text)

edits_few : (all : List (Option (List ℕ))) → length (edits_of all) ≤ length all
edits_few [] = omega arith
edits_few (line ∷ later) = omega (arith, edits_few later, edit_few line, length-append (edit_of line) (edits_of later))

-- the lines of all bytes, where the first of them are whole lines or there are no others
lines_of_both : (front rest : List ℕ) → IsWhole front ⊎ (rest ≡ []) → lines (front ++ rest) ≡ lines front ++ lines rest
lines_of_both front rest (inl whole) = lines_joined front rest whole
lines_of_both front rest (inr none) = ap (λ r. lines (front ++ r)) none ∙ ap lines (append-nil front) ∙ sym (append-nil (lines front))
    ∙ ap (λ l. lines front ++ l) (sym (ap lines none ∙ lines_none))

pub less_synced : FirstLinesSyncLess
less_synced input total book pieces from to others s counted =
    let here = edits_of (lines s.front) in
    let there = edits_of (lines s.rest) in
    let all : lines input ≡ lines s.front ++ lines s.rest = ap lines s.begins.split ∙ lines_of_both s.front s.rest s.begins.whole in
    let edits : edits_of (lines input) ≡ here ++ there = ap edits_of all ∙ edits_joined (lines s.front) (lines s.rest) in
    let more = length-append here there in
    let heavier = weight_joined total book here there in
    let few = divided (length here / 64) 64 (length (edits_of (lines input))) (omega arith)
    (omega (arith, div-mul-le_self (length here) 64, ap length edits, more)) in
    let light = divided (weight total book here / 22) 22 (weight total book (edits_of (lines input))) (omega arith)
    (omega (arith, div-mul-le_self (weight total book here) 22, ap (weight total book) edits, heavier)) in
    omega (
      arith,
      s.few,
      few,
      light,
      s.counted,
      counted,
      ap length all,
      length-append (lines s.front) (lines s.rest),
      ap length edits,
      more,
      edits_few (lines s.rest),
    )
