-- A disk as one side of a run, and the state that a service without sessions begins with.
use Rattle.std.proofs.Common.{◌≡◌, ◌∙◌, ℕ, Bool, List, [], ap}
use Rattle.block_disk.specs.View.{View, Honest}
use Rattle.chart_service.specs.Stepping.{state_of}
use Rattle.gate_pages.specs.GatePages.{pages_view}
use Rattle.hosted_lines.specs.Begun.{begun_live}
use Rattle.hosted_lines.specs.Doing.{Side}
use Rattle.live_service.specs.Shown.{live_of}
use Rattle.series_book.specs.declared.one_series.Series.{Series}
use Rattle.zoom_session.specs.declared.session.Session.{Session}

abbrev pub disk_side : ℕ → Bool → View → ℕ → ℕ → Side
disk_side count sound disk reads sends = record {
  told = Honest disk;
  view = pages_view count sound disk;
  under = disk;
  read_faults = reads;
  send_faults = sends;
}

-- a service without sessions, by which no one is followed
pub begins_so : (total : ℕ) (book : List Series) (sessions : List Session) (followed pending : List ℕ) → sessions ≡ [] → followed ≡ []
    → pending ≡ [] → live_of (state_of book total sessions) followed pending ≡ begun_live total book
begins_so total book sessions followed pending none none_followed none_pending =
    ap (λ s. live_of (state_of book total s) followed pending) none ∙ ap (λ f. live_of (state_of book total []) f pending) none_followed
    ∙ ap (λ p. live_of (state_of book total []) [] p) none_pending
