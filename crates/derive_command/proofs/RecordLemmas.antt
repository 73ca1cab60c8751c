-- What is answered by the catalog in memory is so by the records of the disk.
use Rattle.std.proofs.Common.{◌≡◌, ◌∙◌, ℕ, ◌≤◌, List, [], ◌∷◌, length, Option, sym, subst, inl, inr, arith}
use Rattle.std.proofs.lemmas.Option.{slice_get_within}
use Rattle.block_disk.specs.View.{Honest, Image, View}
use Rattle.chart_grid.specs.declared.axis.Axis.{Axis}
use Rattle.gate_pages.specs.Journal.{pages_of}
use Rattle.page_space.specs.Layout.{Keeps}
use Rattle.page_space.specs.declared.superblock.Superblock.{Superblock}
use Rattle.run_ends.specs.declared.ending.End.{End}
use Rattle.run_ends.specs.declared.ending.End.TheVariants as ends
use Rattle.series_catalog.specs.Catalogs.{AreAsTold}
use Rattle.series_catalog.specs.declared.stored_series.StoredSeries.{StoredSeries}
use Rattle.series_pair.specs.Derived.{times_of}
use Rattle.series_store.proofs.NameLemmas.{no_record}
use Rattle.series_store.specs.Asking.{LacksName}
use Rattle.store_commands.proofs.Damages.{lacks_record}
use Rattle.store_commands.proofs.Held.{RestsNew}
use Rattle.store_commands.specs.Lacking.{LacksRecord}
use Rattle.store_commands.specs.Sides.{Side}
use Rattle.stored_book.specs.Damage.{SaysNumbers}
use Rattle.derive_command.specs.Answers.{Answering, AnswersLine}
use Rattle.derive_command.specs.Catalogs.{AreOffGrid, AreOnGrid, HasTwo, HasTwoIn, IsBadOf, IsDrawable, IsRefusedBy, SaysTwo, times_at}
use Rattle.derive_command.specs.Catalogs.{by_disk, by_memory, in_memory, on_disk}
use Rattle.derive_command.specs.Lines.{AreAnswers, DrawsFirst, EndsAnyhow, EndsSo, FirstLines}
use Rattle.derive_command.specs.declared.derive_refusal.DeriveRefusal.{DeriveRefusal}
use Rattle.derive_command.specs.declared.derive_refusal.DeriveRefusal.TheVariants as refusal
use Rattle.derive_command.specs.declared.request.Request.{Request}

-- ---- what is answered so is answered by another, too

pub record SaysMore (by to : Answering) : Type 0 where
  pub answers : (r : Request) (text : List ℕ) → by.answers r text → to.answers r text
  pub refuses : (r : Request) (why : DeriveRefusal) → by.refuses r why → to.refuses r why
  pub damages : (r : Request) (page : ℕ) → by.damages r page → to.damages r page

module _ (by to : Answering) (more : SaysMore by to) where
  line_to : (line : Option (List ℕ)) (text : List ℕ) → AnswersLine by.answers line text → AnswersLine to.answers line text
  line_to line text is = record { request = is.request; says_it = is.says_it; answer = more.answers is.request text is.answer }

  are_to : (lines : List (Option (List ℕ))) (text : List ℕ) → AreAnswers by.answers lines text → AreAnswers to.answers lines text
  are_to [] text none = none
  are_to (line ∷ lines) text (first, rest, is, others, whole) = (first, rest, line_to line first is, are_to lines rest others, whole)

  module _ (input : List ℕ) where
    abbrev firsts_to : FirstLines by.answers input → FirstLines to.answers input
    firsts_to f = record { front = f.front; rest = f.rest; begins = f.begins; early = f.early; text = f.text; are = are_to _ f.text f.are }

    module _ (left before now : Option (List ℕ)) where
      abbrev drawn_to : DrawsFirst by input before now → DrawsFirst to input before now
      drawn_to d = record { first = firsts_to d.first; sent = d.sent }

      pub ends_to : (end : End) → EndsSo by input left before now end → EndsSo to input left before now end
      ends_to ends.Done is = record { text = is.text; answers = are_to _ is.text is.answers; sent = is.sent }
      ends_to ends.NoMemory is = drawn_to is
      ends_to ends.ReadFault is = record { drawn = drawn_to is.drawn; whole = is.whole; behind = is.behind }
      ends_to ends.SendFault is = record {
        first = firsts_to is.first;
        line = is.line;
        next = is.next;
        text = is.text;
        answer = line_to is.line is.text is.answer;
        between = is.between;
        sent = is.sent;
        part = is.part;
      }
      ends_to ends.DiskFault is = drawn_to is
      ends_to (ends.DamagedPage page) is = record {
        drawn = drawn_to is.drawn;
        line = is.line;
        next = is.next;
        damages = record {
          request = is.damages.request;
          says_it = is.damages.says_it;
          damaged = more.damages is.damages.request page is.damages.damaged;
        };
      }
      ends_to (ends.BadInput at) is = record {
        drawn = drawn_to is.drawn;
        line = is.line;
        next = is.next;
        some = is.some;
        none = is.none;
        at_is = is.at_is;
      }
      ends_to ends.InputTooLong is = record { drawn = drawn_to is.drawn; unended = is.unended; past = is.past }
      ends_to (ends.RefusedLine at number) is = record {
        why = is.why;
        number_is = is.number_is;
        draws = record {
          drawn = drawn_to is.draws.drawn;
          line = is.draws.line;
          next = is.draws.next;
          refuses = record {
            request = is.draws.refuses.request;
            says_it = is.draws.refuses.says_it;
            refused = more.refuses is.draws.refuses.request is.why is.draws.refuses.refused;
          };
          at_is = is.draws.at_is;
        };
      }
      ends_to end is = absurd is

      pub ends_anyhow : (end : End) → EndsSo by input left before now end → EndsAnyhow to input left before now end
      ends_anyhow (ends.DamagedBlock block) is = absurd is
      ends_anyhow (ends.TooSmall blocks) is = absurd is
      ends_anyhow end is = ends_to end is

-- ---- the records of a disk

module _ (count : ℕ) (new : View) (at : Side) (catalog : List StoredSeries) (s : Superblock) (rests : RestsNew count new)
    (counted : length catalog ≡ s.series)
    (keeps : Honest new → Keeps count s (pages_of count new.image 0)) (told : Honest new → AreAsTold (pages_of count new.image) catalog)
    (few : at.total ≤ count)
    (same : (first second : List ℕ) (page : ℕ) → (at.told → IsBadOf at.view.size at.view.image first second page) → Honest new
    → IsBadOf count (pages_of count new.image) first second page) where
  lacks_on : (name : List ℕ) → LacksName catalog name → LacksRecord count new name
  lacks_on name lacks = lacks_record count new s name rests keeps
      (λ honest. no_record (pages_of count new.image) s catalog name counted (told honest) lacks)

  two_on : (AreSo : Axis → Axis → Type 0) (first second : List ℕ) → HasTwoIn AreSo catalog first second
      → SaysTwo AreSo count new first second
  two_on AreSo first second two = λ honest.
      let P : Image → Type 0 = λ image. SaysNumbers count image (HasTwo AreSo image first second) in
      let pages = pages_of count new.image in
      let x = told honest two.x two.one two.x_at in
      let y = told honest two.y two.other two.y_at in
      let x_times : times_at pages two.x ≡ times_of two.one = λ i. record { start = (x i).start; step = (x i).step; slots = (x i).slots } in
      let y_times : times_at pages two.y ≡ times_of two.other = λ i. record {
        start = (y i).start;
        step = (y i).step;
        slots = (y i).slots;
      } in
      let X : Axis → Type 0 = λ a. AreSo a (times_of two.other) in
      let Y : Axis → Type 0 = λ a. AreSo (times_at pages two.x) a in
      subst P (sym (rests.current honest)) (record {
        numbers = s;
        keeps = keeps honest;
        so = record {
          x = two.x;
          y = two.y;
          x_there = omega (arith, slice_get_within catalog two.x two.one two.x_at, counted);
          y_there = omega (arith, slice_get_within catalog two.y two.other two.y_at, counted);
          x_named = (λ i. (x i).name) ∙ two.x_named;
          y_named = (λ i. (y i).name) ∙ two.y_named;
          so = subst Y (sym y_times) (subst X (sym x_times) two.so);
        };
      })

  drawable_on : (r : Request) → IsDrawable (HasTwoIn AreOnGrid catalog) r → IsDrawable (SaysTwo AreOnGrid count new) r
  drawable_on r is = record { named = two_on AreOnGrid r.first r.second is.named; grid = is.grid; grid_is = is.grid_is }

  refused_on : (r : Request) (why : DeriveRefusal) → IsRefusedBy (in_memory catalog) r why → IsRefusedBy (on_disk count new) r why
  refused_on r refusal.UnknownSeries (inl lacks) = inl (lacks_on r.first lacks)
  refused_on r refusal.UnknownSeries (inr lacks) = inr (lacks_on r.second lacks)
  refused_on r refusal.NotOneGrid is = two_on AreOffGrid r.first r.second is
  refused_on r refusal.BadWindow (named, bad) = (two_on AreOnGrid r.first r.second named, bad)
  refused_on r refusal.BadCanvas (named, window, bad) = (two_on AreOnGrid r.first r.second named, window, bad)
  refused_on r refusal.BadRange (named, window, wide, high, bad) = (two_on AreOnGrid r.first r.second named, window, wide, high, bad)
  refused_on r refusal.TooLarge is = drawable_on r is

  pub says_more : SaysMore (by_memory catalog at) (by_disk count new)
  says_more = record {
    answers = λ r text is. record {
      drawable = drawable_on r is.drawable;
      canvas = is.canvas;
      width = is.width;
      height = is.height;
      text_is = is.text_is;
    };
    refuses = refused_on;
    damages = λ r page is.
        let P : Image → Type 0 = λ image. IsBadOf count image r.first r.second page in (
          drawable_on r is.0,
          (
            omega (arith, is.1.0, few),
            λ honest. subst P (sym (rests.current honest)) (same r.first r.second page is.1.1 honest),
          ),
        );
  }
