-- How a list ends.
use Rattle.std.proofs.Common.{◌≡◌, ℕ, ℤ, zero, suc, ◌+◌, ◌<◌, ◌≤◌, List, [], ◌∷◌, ◌++◌, Option, Some, None, Result, Ok, Err, Vec, IfOk}
use Rattle.std.proofs.Common.{length, refl, sym, ap, subst, arith, ◌∙◌}
use Rattle.std.specs.Prelude.{flat_map, take, slice_get}
use Rattle.std.proofs.lemmas.List.{append_assoc, append-nil, take_all}
use Rattle.block_disk.specs.View.{Honest, Image, View, Now, sent_now}
use Rattle.catalog_page.specs.Entries.{Entry}
use Rattle.gate_pages.specs.GateLaws.{goes_by, goes_then, kept_told}
use Rattle.gate_pages.specs.Journal.{page_count, pages_of}
use Rattle.page_space.specs.Layout.{Keeps}
use Rattle.page_space.specs.declared.superblock.Superblock.{Superblock}
use Rattle.reading_lines.specs.Lines.{series_line}
use Rattle.run_ends.specs.declared.ending.End.{End}
use Rattle.run_ends.specs.declared.ending.End.TheVariants.{Done, NoMemory, SendFault}
use Rattle.series_book.specs.Axes.{IsAxisOf}
use Rattle.series_book.specs.declared.axis.Axis.{Axis}
use Rattle.series_book.specs.declared.one_series.Series.{Series}
use Rattle.disk_store.proofs.Opened.{few_then}
use Rattle.disk_store.specs.Openings.{Opens}
use Rattle.disk_store.specs.declared.causes.OpeningCause.{OpeningCause}
use Rattle.disk_store.specs.declared.causes.OpeningCause.TheVariants as opening
use Rattle.stored_book.specs.Damage.{SaysNumbers}
use Rattle.stored_book.specs.Records.{entry}
use Rattle.stored_book.specs.Standing.{RecoversTo, book_pages}
use Rattle.store_commands.specs.Books.{OfBook}
use Rattle.store_commands.specs.Listed.{IsListEnd, ListEnds, axis_of, entry_line, line_of, list_text}
use Rattle.store_commands.specs.Sending.{IsSent, SendsText}
use Rattle.store_commands.specs.Status.{opening_end}
use Rattle.store_commands.specs.Unopened.{IsUnopenedEnd}
use Rattle.store_commands.proofs.Held.{held, holds_sent}
use Rattle.store_commands.proofs.Moments.{opened_since, opened_goes, opened_quiet, since_sent}
use Rattle.store_commands.proofs.Unopened.{unopened_end}
use Rattle.store_commands.proofs.WorldLemmas.{IsUnopened}

-- what isn't opened isn't done
opening_done : (cause : OpeningCause) → opening_end cause ≡ Done → ⊥
opening_done (opening.TooSmall size) is = cc
opening_done (opening.Damaged block) is = cc
opening_done opening.DiskFault is = cc
opening_done opening.NoMemory is = cc

-- no store was opened
pub unlisted : (old new : View) (left left' before now : Option (List ℕ)) (sends sends_now : ℕ) (cause : OpeningCause) (end : End)
    → IsUnopened old new left left' before now cause → end ≡ opening_end cause
    → ListEnds old new before now sends sends_now end
unlisted old new left left' before now sends sends_now cause end u same = record {
  is =
      let P : End → Type 0 = λ e. IsListEnd e old new before now sends sends_now in
      subst P (sym same) (by cause (unopened_end old new left left' before now cause u));
  records = λ is. absurd (opening_done cause (sym same ∙ is));
  crash = opened_since old new u.opens;
  holds = held old new u.opens;
  reads = u.opens.reads.high;
  few = u.opens.few;
  honest = u.opens.honest;
  goes_on = opened_goes old new u.opens;
}
  where
    by : (cause : OpeningCause) → IsUnopenedEnd (opening_end cause) old new × (now ≡ before)
        → IsListEnd (opening_end cause) old new before now sends sends_now
    by opening.NoMemory is = is
    by cause is = is

-- the text that was made, if there was memory
abbrev pub text_in : {E Z : Type 0} → Result (Vec ℕ Z) E → List ℕ
text_in (Ok text) = text.items
text_in (Err e) = []

pub made_is : {E Z : Type 0} (made : Result (Vec ℕ Z) E) → IfOk made (λ text. text.items ≡ text_in made)
made_is (Ok text) = refl
made_is (Err e) = tt

-- what was sent of the lines
lines_sent : (old new : View) (text : List ℕ) (before now : Option (List ℕ)) (sends sends_now : ℕ) (end : End)
    → IsSent end text before now sends sends_now → OfBook (page_count old.size) old
    (λ total book. IsSent end (list_text book) before now sends sends_now)
    → IsListEnd end old new before now sends sends_now
lines_sent old new text before now sends sends_now Done is books = books
lines_sent old new text before now sends sends_now NoMemory is books = (tt, is)
lines_sent old new text before now sends sends_now SendFault is books = (is.0, λ total book holds. (books total book holds).1)
lines_sent old new text before now sends sends_now end is books = absurd is

-- these are what the records say that page 0 counts
abbrev pub ListsEntries : ℕ → View → List Entry → Type 0
ListsEntries count disk entries =
    SaysNumbers count (book_pages count disk.image) (λ s. (length entries ≡ s.series)
    × ((id : ℕ) (e : Entry) → slice_get entries id ≡ Some e → e ≡ entry (book_pages count disk.image) id))

-- by the pages of the store that was opened
pub lists_entries : (count n : ℕ) (old mid : View) (s : Superblock) (entries : List Entry) → count ≡ n → (Honest old → Honest mid)
    → (Honest old → pages_of count mid.image ≡ book_pages count old.image) → (Honest mid → Keeps count s (pages_of count mid.image 0))
    → length entries ≡ s.series
    → (Honest mid → (id : ℕ) (e : Entry) → slice_get entries id ≡ Some e → e ≡ entry (pages_of count mid.image) id) → Honest old
    → ListsEntries n old entries
lists_entries count n old mid s entries counted told pages keeps long each honest =
    let I : Image → Type 0 = λ image. SaysNumbers count image (λ s. (length entries ≡ s.series)
    × ((id : ℕ) (e : Entry) → slice_get entries id ≡ Some e → e ≡ entry image id)) in
    let N : ℕ → Type 0 = λ k. ListsEntries k old entries in
    subst N counted (subst I (pages honest) (record { numbers = s; keeps = keeps (told honest); so = (long, each (told honest)) }))

-- a store was opened, and its lines were sent
pub listed : (old mid new : View) (before mid_before now : Option (List ℕ)) (sends mid_sends sends_now : ℕ) (end : End) (text : List ℕ)
    → Opens (page_count old.size) old mid → mid_before ≡ before → mid_sends ≡ sends
    → SendsText text mid new mid_before now mid_sends sends_now end
    → OfBook (page_count old.size) old (λ total book. SendsText (list_text book) mid new mid_before now mid_sends sends_now end)
    → (entries : List Entry) → SendsText (flat_map entry_line entries) mid new mid_before now mid_sends sends_now end
    → (Honest old → ListsEntries (page_count old.size) old entries) → ListEnds old new before now sends sends_now end
listed old mid new before mid_before now sends mid_sends sends_now end text opens same same_sends sent book_sent entries entries_sent are =
    let B : Option (List ℕ) → Type 0 = λ b. ListEnds old new b now mid_sends sends_now end in
    let S : ℕ → Type 0 = λ n. ListEnds old new before now n sends_now end in
    let all : ListEnds old new mid_before now mid_sends sends_now end = record {
      is = lines_sent old new text mid_before now mid_sends sends_now end sent.is (λ total book holds. (book_sent total book holds).is);
      records = λ is honest.
          let S : End → Type 0 = λ e. IsSent e (flat_map entry_line entries) mid_before now mid_sends sends_now in
          let numbers = are honest in
          record {
            numbers = numbers.numbers;
            keeps = numbers.keeps;
            so = record { entries = entries; count = numbers.so.0; each = numbers.so.1; sent = subst S is entries_sent.is };
          };
      crash = λ total book holds.
          since_sent (λ image count. RecoversTo (page_count old.size) image total book) old mid new sent.time (opened_quiet old mid opens)
          (λ image count left low. (held old mid opens total book holds).images image left)
          (opened_since old mid opens total book holds);
      holds = λ total book holds.
          holds_sent (page_count old.size) total book mid new (λ count. (sent_now mid ≤ count)
          × (count ≤ sent_now new)) sent.kept sent.time (held old mid opens total book holds);
      reads = omega (arith, opens.reads.high, sent.kept.reads);
      few = few_then (page_count old.size) old mid new opens.few sent.kept.syncs sent.kept.writes;
      honest = λ h. kept_told mid new sent.kept (opens.honest h);
      goes_on = goes_then old mid new (opened_goes old mid opens)
          (goes_by mid new (Now mid) (λ count. (sent_now mid ≤ count) × (count ≤ sent_now new)) sent.time);
    } in
    subst S same_sends (subst B same all)

-- ---- the lines of the first series of a book

pub list_more : (book : List Series) (id : ℕ) (series : Series) → slice_get book id ≡ Some series
    → list_text (take (suc id) book) ≡ list_text (take id book) ++ line_of series
list_more [] id series there = cc
list_more (one ∷ book) zero series there =
    let same : one ≡ series = cc in
    append-nil (line_of one) ∙ ap line_of same
list_more (one ∷ book) (suc id) series there =
    ap (λ l. line_of one ++ l) (list_more book id series there)
    ∙ sym (append_assoc (line_of one) (list_text (take id book)) (line_of series))

axis_is : (series : Series) (axis : Axis) → IsAxisOf series axis → axis ≡ axis_of series
axis_is series axis is =
    let A : ℤ → Type 0 = λ x. axis ≡ record { start = x; step = axis.step; slots = axis.slots } in
    let B : ℕ → Type 0 = λ x. axis ≡ record { start = series.start; step = x; slots = axis.slots } in
    let C : ℕ → Type 0 = λ x. axis ≡ record { start = series.start; step = series.step; slots = x } in
    subst C is.slots (subst B is.step (subst A is.start refl))

-- the line of what is told of a series is that of the series
told_line : (series : Series) (name : List ℕ) (axis : Axis) (scale : ℕ) → name ≡ series.name → IsAxisOf series axis → scale ≡ series.scale
    → series_line name axis scale ≡ line_of series
told_line series name axis scale named is scaled =
    ap (λ (n : List ℕ). series_line n axis scale) named ∙ ap (λ (a : Axis). series_line series.name a scale) (axis_is series axis is)
    ∙ ap (λ (p : ℕ). series_line series.name (axis_of series) p) scaled

pub list_step : (book : List Series) (id : ℕ) (text next name : List ℕ) (axis : Axis) (scale : ℕ) (series : Series)
    → slice_get book id ≡ Some series → name ≡ series.name → IsAxisOf series axis → scale ≡ series.scale
    → text ≡ list_text (take id book) → next ≡ text ++ series_line name axis scale → next ≡ list_text (take (id + 1) book)
list_step book id text next name axis scale series there named is scaled before more =
    let P : ℕ → Type 0 = λ n. next ≡ list_text (take n book) in
    let one : suc id ≡ id + 1 = omega arith in
    subst P one
    (more ∙ ap (λ (l : List ℕ). l ++ series_line name axis scale) before
    ∙ ap (λ (l : List ℕ). list_text (take id book) ++ l) (told_line series name axis scale named is scaled)
    ∙ sym (list_more book id series there))

pub list_whole : (book : List Series) (id : ℕ) (text : List ℕ) → length book ≤ id → text ≡ list_text (take id book) → text ≡ list_text book
list_whole book id text long are = are ∙ ap list_text (take_all id book long)

-- there is a series of each id below their number
pub no_none : (book : List Series) (id : ℕ) → id < length book → slice_get book id ≡ None → ⊥
no_none [] id low none = omega (arith, low)
no_none (one ∷ book) zero low none = cc
no_none (one ∷ book) (suc id) low none = no_none book id (omega (arith, low)) none

-- ---- the lines of some first records

lines_more : {X : Type 0} (line : X → List ℕ) (xs : List X) (id : ℕ) (x : X) → slice_get xs id ≡ Some x
    → flat_map line (take (suc id) xs) ≡ flat_map line (take id xs) ++ line x
lines_more line [] id x at = cc
lines_more line (y ∷ xs) zero x at = let same : y ≡ x = cc in append-nil (line y) ∙ ap line same
lines_more line (y ∷ xs) (suc id) x at = ap (λ l. line y ++ l) (lines_more line xs id x at)
    ∙ sym (append_assoc (line y) (flat_map line (take id xs)) (line x))

-- the line of what is told of a record
record_line : (e : Entry) (name : List ℕ) (axis : Axis) (scale : ℕ) → name ≡ e.name → axis.start ≡ e.start → axis.step ≡ e.step
    → axis.slots ≡ e.slots → scale ≡ e.scale → series_line name axis scale ≡ entry_line e
record_line e name axis scale named start step slots scaled =
    λ i. series_line (named i) (record { start = start i; step = step i; slots = slots i }) (scaled i)

pub records_step : (entries : List Entry) (id : ℕ) (text next name : List ℕ) (axis : Axis) (scale : ℕ) (e : Entry)
    → slice_get entries id ≡ Some e → name ≡ e.name → axis.start ≡ e.start → axis.step ≡ e.step → axis.slots ≡ e.slots → scale ≡ e.scale
    → text ≡ flat_map entry_line (take id entries) → next ≡ text ++ series_line name axis scale
    → next ≡ flat_map entry_line (take (id + 1) entries)
records_step entries id text next name axis scale e at named start step slots scaled before more =
    let P : ℕ → Type 0 = λ n. next ≡ flat_map entry_line (take n entries) in
    let one : suc id ≡ id + 1 = omega arith in
    subst P one
    (more ∙ ap (λ (l : List ℕ). l ++ series_line name axis scale) before
    ∙ ap (λ (l : List ℕ). flat_map entry_line (take id entries) ++ l) (record_line e name axis scale named start step slots scaled)
    ∙ sym (lines_more entry_line entries id e at))

pub records_whole : (entries : List Entry) (id : ℕ) (text : List ℕ) → length entries ≤ id → text ≡ flat_map entry_line (take id entries)
    → text ≡ flat_map entry_line entries
records_whole entries id text long are = are ∙ ap (λ (l : List Entry). flat_map entry_line l) (take_all id entries long)
