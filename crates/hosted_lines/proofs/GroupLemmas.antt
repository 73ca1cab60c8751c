-- A group of edits is done, and its replies are sent.
use Rattle.std.proofs.Common.{◌≡◌, ◌≢◌, ◌∙◌, ℕ, ◌+◌, ◌*◌, ◌≤◌, List, [], ◌∷◌, ◌++◌, length, Option, Result, Err, ap, sym, subst, inl, inr}
use Rattle.std.proofs.Common.{arith, length-append}
use Rattle.std.specs.Prelude.{OnOk, IfErr}
use Rattle.std.proofs.lemmas.List.{append-nil}
use Rattle.block_disk.specs.Streams.{sent_after}
use Rattle.block_disk.specs.View.{Image, View, DiskKept, Now, Only, Passes, sent_now}
use Rattle.block_disk.specs.SentLaws.{sent_none}
use Rattle.chart_frames.specs.declared.frame.Frame.{Frame}
use Rattle.chart_service.specs.EditGroups.{SpellEdits}
use Rattle.chart_service.specs.MomentLaws.{through_by}
use Rattle.chart_service.specs.Moments.{Through}
use Rattle.chart_service.specs.Serving.{most_ahead}
use Rattle.chart_service.specs.State.{IsSound}
use Rattle.chart_service.specs.Stepping.{IsOutside, state_of}
use Rattle.chart_service.specs.Syncing.{group_syncs}
use Rattle.chart_service.specs.declared.failure.ServiceError.{ServiceError}
use Rattle.chart_service.specs.declared.failure.ServiceError.TheVariants as step
use Rattle.gate_pages.specs.Pages.{Quiet}
use Rattle.live_service.specs.LiveReplies.{GroupReplied, LiveState}
use Rattle.live_service.specs.Shown.{DoesSome}
use Rattle.run_ends.specs.declared.ending.End.{End}
use Rattle.series_book.specs.declared.edits.Edit.{Edit}
use Rattle.series_book.specs.declared.one_series.Series.{Series}
use Rattle.stored_book.specs.Standing.{StandsForBook}
use Rattle.hosted_lines.specs.Doing.{Held, held_with, step_end}
use Rattle.hosted_lines.specs.Hosting.{Begun, DoesHost, FramesStop, HostMoment, HostStop}
use Rattle.hosted_lines.specs.Hosts.{Costs, DoesGroup, Happens, group, lines_in}
use Rattle.hosted_lines.specs.Lives.{spelled}
use Rattle.chart_service.proofs.SyncLemmas.{spelled_edits}
use Rattle.hosted_lines.proofs.FaultLemmas.{told_any}
use Rattle.hosted_lines.proofs.HostLemmas.{begun_none}
use Rattle.hosted_lines.proofs.MadeLemmas.{made_failed, made_sends}
use Rattle.hosted_lines.proofs.RowLemmas.{row_one}
use Rattle.hosted_lines.proofs.SpelledLemmas.{replied_length, spell_first, spelled_length}

-- the lines of a group
one_group : (lines rest : List (Option (List ℕ))) → lines ++ rest ≡ lines_in (group lines ∷ []) ++ rest
one_group lines rest = ap (λ l. l ++ rest) (sym (append-nil lines))

module _ (lines : List (Option (List ℕ))) (edits : List Edit) (total : ℕ) (book : List Series) (held : Held)
    (spell : SpellEdits lines edits) (few : length edits ≤ most_ahead) (idle : held.pending ≡ []) where
  abbrev old : LiveState
  old = held_with total book held

  few_lines : length lines ≤ most_ahead
  few_lines = omega (arith, few, spelled_length lines edits spell)

  few_frames : (frames : List Frame) (new : LiveState) → GroupReplied edits frames old new → length frames ≤ most_ahead
  few_frames frames new replied = omega (arith, few, replied_length edits frames old.state new.state replied.replied)

  group_happens : (frames : List Frame) (new : LiveState) → GroupReplied edits frames old new → DoesGroup lines frames old new
  group_happens frames new replied = record { edits = edits; spell = spell; few = few_lines; idle = idle; replied = replied }

  -- ---- some first edits are done

  record SomeBegun (image : Image) : Type 0 where
    pub frames : List Frame
    pub few_are : length frames ≤ most_ahead
    pub after : LiveState
    pub begun : Begun lines frames old after
    pub stands : StandsForBook image total after.state.book

  some_begun : (image : Image) → DoesSome edits old image → SomeBegun image
  some_begun image d =
      let S : List Edit → Type 0 = λ l. SpellEdits lines l in
      let first = spell_first lines d.first d.later (subst S d.edits_are spell) in
      let fewer : length d.first ≤ most_ahead = omega (arith, few, ap length d.edits_are, length-append d.first d.later) in
      record {
        frames = d.frames;
        few_are = omega (arith, fewer, replied_length d.first d.frames old.state d.after.state d.replied.replied);
        after = d.after;
        begun = record {
          events = group first.front ∷ [];
          rest = first.rest;
          split = first.lines_are ∙ one_group first.front first.rest;
          happened = row_one Happens old d.after (group first.front) d.frames (record {
            edits = d.first;
            spell = first.spell;
            few = omega (arith, fewer, spelled_length first.front d.first first.spell);
            idle = idle;
            replied = d.replied;
          });
        };
        stands = d.stands;
      }

  some_moment : (from : ℕ) (image : Image) (count : ℕ) → DoesSome edits old image → count ≡ from
      → HostMoment lines total old from image count
  some_moment from image count d same =
      let some = some_begun image d in
      record {
        shown = [];
        more = some.frames;
        few = some.few_are;
        state = some.after;
        begun = some.begun;
        stands = inl some.stands;
        low = omega (arith, same);
        high = omega (arith, same);
      }

  -- while they are done
  pub group_moments : (view mid : View) → Passes view mid (DoesSome edits old) (Quiet view)
      → Through view mid (HostMoment lines total old (sent_now view))
  group_moments view mid passes =
      through_by view mid (DoesSome edits old) (Quiet view) (HostMoment lines total old (sent_now view)) passes
      (λ image count left quiet. some_moment (sent_now view) image count left quiet)

  -- ---- they aren't answered

  group_stops : (error : ServiceError) (image : Image) (before now : Option (List ℕ)) → IsOutside error
      → (error ≢ step.DiskFault → DoesSome edits old image) → now ≡ before → HostStop lines total old image before now (step_end error)
  group_stops step.DiskFault image before now outside left unsent =
      record { frames = []; state = old; begun = begun_none lines old; sent = unsent ∙ sent_none before }
  group_stops (step.Damaged page) image before now outside left unsent = elim outside [
    | inl fault ↦ absurd (cc (fault))
    | inr none ↦ absurd (cc (none))
  ]
  group_stops step.NoMemory image before now outside left unsent =
      let some = some_begun image (left (λ is. cc)) in
      record {
        shown = [];
        more = some.frames;
        few = some.few_are;
        state = some.after;
        begun = some.begun;
        stands = inl some.stands;
        sent = unsent ∙ sent_none before;
      }

  group_costs : (reads reads' syncs syncs' : ℕ) → reads' ≤ reads + 96 * length edits → syncs' ≤ syncs + group_syncs total book edits
      → Costs (group lines) old reads reads' syncs syncs'
  group_costs reads reads' syncs syncs' read synced = record {
    reads_few = omega (arith, read, spelled_length lines edits spell);
    syncs_few = let E : List Edit → Type 0 = λ l. syncs' ≤ syncs + group_syncs total book l in
        subst E (sym (spelled_edits lines edits spell)) synced;
  }

  -- they failed
  pub group_unmade : {T : Type 0} (error : ServiceError) (end : End) (held' : Held) (view mid : View) (before now : Option (List ℕ))
      → end ≡ step_end error → IsOutside error → (error ≢ step.DiskFault → DoesSome edits old mid.image) → now ≡ before
      → Passes view mid (DoesSome edits old) (Quiet view) → mid.reads ≤ view.reads + 96 * length edits
      → mid.syncs ≤ view.syncs + group_syncs total book edits
      → DoesHost {T = T} 1 lines total old (Err end) view mid held' before now
  group_unmade {T} error end held' view mid before now is outside left unsent passes read synced =
      let P : End → Type 0 = λ e. HostStop lines total old mid.image before now e in
      record {
        done = tt;
        stops = subst P (sym is) (group_stops error mid.image before now outside left unsent);
        moments = told_any (group_moments view mid passes) before;
        cost = made_failed lines (group lines) (append-nil lines) total old view.reads mid.reads view.syncs mid.syncs
            (group_costs view.reads mid.reads view.syncs mid.syncs read synced) 1;
      }

  -- ---- their replies are sent

  pub group_sends : {T : Type 0} (frames : List Frame) (held' held'' : Held) → held'' ≡ held' → (book' : List Series)
      → GroupReplied edits frames old (held_with total book' held') → IsSound (state_of book' total held'.sessions)
      → (view mid new : View) (before between now : Option (List ℕ)) → StandsForBook mid.image total book'
      → Passes view mid (DoesSome edits old) (Quiet view) → sent_now mid ≡ sent_now view → between ≡ before
      → mid.reads ≤ view.reads + 96 * length edits → mid.syncs ≤ view.syncs + group_syncs total book edits → DiskKept mid new
      → (result : Result T End) → OnOk result (now ≡ sent_after (spelled frames) between) → IfErr result (FramesStop frames between now)
      → Only mid.image (Now mid) → Passes mid new (Now mid) (λ count. (sent_now mid ≤ count) × (count ≤ sent_now new))
      → sent_now new ≤ sent_now mid + length (spelled frames)
      → DoesHost 1 lines total old result view new held'' before now
  group_sends {T} frames held' held'' same book' replied sound view mid new before between now stands passes quiet unsent read synced kept
      result whole stops only sends most =
      made_sends lines (group lines) (append-nil lines) total old frames
      (few_frames frames (held_with total book' held') replied) held' held'' same book'
      (group_happens frames (held_with total book' held') replied) sound view mid new before between now stands
      (group_moments view mid passes) quiet unsent (group_costs view.reads mid.reads view.syncs mid.syncs read synced) kept result whole
      stops only sends most
