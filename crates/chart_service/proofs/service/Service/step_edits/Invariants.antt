use Rattle.std.proofs.Common.{◌≡◌, ◌+◌, ◌*◌, ◌-◌, ◌≤◌, ℕ, List, All, length}
use Rattle.block_disk.specs.View.{Passes}
use Rattle.chart_frames.specs.Frames.{Fits}
use Rattle.gate_pages.specs.Pages.{GoesOn, Quiet}
use Rattle.series_book.specs.declared.one_series.Series.{Series}
use Rattle.series_store.specs.Groups.{ChangeNone}
use Rattle.series_store.specs.Results.{CommitsNone}
use Rattle.stored_book.specs.Standing.{StandsForBook}
use Rattle.chart_service.specs.EditGroups.{IsAfterSome, IsEditReply}
use Rattle.chart_service.specs.Shown as shown
use Rattle.chart_service.specs.Stepping.{GroupSteps}
use Rattle.chart_service.proofs.SyncLemmas.{GroupSynced}
use Rattle.chart_service.proofs.Together.{HasDone}
use Rattle.chart_service.proofs.service.Service.step_edits.Given as goal

-- so many first edits are done as there are frames, and these tell what they gave
abbrev pub invariant-edits : goal.invariant-edits
invariant-edits g l =
    let view = g.P.Pages.view in
    let told = g.P.Pages.told in
    let first = shown.pages l.initial.self in
    let pages = shown.pages l.self in
    record {
      fit : (view pages).fit;
      within : length l.frames.items ≤ length l.edits;
      has : (total : ℕ) (book : List Series) → told first → StandsForBook (view first).image total book
          → HasDone total book l.edits l.frames.items (view pages).image;
      moments : (total : ℕ) (book : List Series) → told first → StandsForBook (view first).image total book
          → Passes (view first) (view pages) (IsAfterSome total book l.edits) (Quiet (view first));
      reads : (total : ℕ) (book : List Series) → told first → StandsForBook (view first).image total book
          → (view pages).reads ≤ (view first).reads + 96 * length l.frames.items;
      idle : (total : ℕ) (book : List Series) → told first → StandsForBook (view first).image total book → ChangeNone total book l.edits
          → CommitsNone (view first) (view pages);
      syncs : (total : ℕ) (book : List Series) → told first → StandsForBook (view first).image total book
          → GroupSynced total book l.edits (length l.frames.items) (view first).syncs (view pages).syncs;
      fits : All Fits l.frames.items;
      replies : All IsEditReply l.frames.items;
      sessions : l.self.sessions ≡ l.initial.self.sessions;
      quiet : (view pages).faults ≡ (view first).faults;
      moves : GroupSteps (told first) (told pages) (view first) (view pages);
      goes_on : GoesOn (g.P.Pages.under first) (g.P.Pages.under pages);
      total : shown.total l.self ≡ shown.total l.initial.self;
    }

abbrev pub decreases-edits : goal.decreases-edits
decreases-edits g l = length l.edits - length l.frames.items
