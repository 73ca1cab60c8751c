-- What a client holds: for each open session a list of coefficients.
use Rattle.std.specs.Prelude.{ℕ, ◌==◌, not, if◌then◌else◌, List, [], ◌∷◌, ◌++◌, filter, Option, None, Some}
use Rattle.om3_coeff.specs.declared.key.Key.{Key}
use Rattle.om3_coeff.specs.declared.span.Span.{Span}
use Rattle.om3_coeff.specs.declared.coef.Coef.{Coef}
use Rattle.chart_grid.specs.declared.axis.Axis.{Axis}
use Rattle.coefficient_cache.specs.Caches.{Cache}
use Rattle.coefficient_cache.specs.Pairs.{series_key, in_series, coefficient_at}
use Rattle.view_keys.specs.Wanted.{Seen}
use Rattle.chart_frames.specs.declared.frame.ViewFrame.{ViewFrame}
use Rattle.chart_client.specs.declared.holding.Holding.{Holding}

-- the holding of the session of this number; there is none where the session isn't open
abbrev pub holding_of : ℕ → List Holding → Option Holding
holding_of number [] = None
holding_of number (h ∷ hs) = if h.number == number then Some h else holding_of number hs

-- the holdings without that of a session
abbrev pub without : ℕ → List Holding → List Holding
without number hs = filter (λ h. not (h.number == number)) hs

-- the holdings with this list for a session that is open
abbrev pub with_cache : ℕ → Cache → List Holding → List Holding
with_cache number cache [] = []
with_cache number cache (h ∷ hs) =
    if h.number == number then record { number = number; cache = cache } ∷ hs else h ∷ with_cache number cache hs

-- the holdings after an opening: an empty list of this size, also where the session was open
abbrev pub opened : ℕ → ℕ → List Holding → List Holding
opened number size hs = without number hs ++ record { number = number; cache = record { pairs = []; capacity = size } } ∷ []

-- the coefficient that a view's frame sends for a key or, where it sends none, that the list holds
abbrev pub told_by : ViewFrame → Cache → Key → Option Coef
told_by view cache key = coefficient_at (in_series view.series view.coefs ++ cache.pairs) (series_key view.series key)

-- the span of all slots of the series, as a view's frame tells it
abbrev pub root_of : ViewFrame → Option Span
root_of view = if view.has == 1 then Some (record { min = view.rmin; max = view.rmax }) else None

-- the times of the series' slots, as a view's frame tells them
abbrev pub axis_of : ViewFrame → Axis
axis_of view = record { start = view.start; step = view.step; slots = view.slots }

-- what is seen of the series: by the root, and by what is sent and held
abbrev pub seen_by : ViewFrame → Cache → Seen
seen_by view cache = record { root = root_of view; told = told_by view cache }
