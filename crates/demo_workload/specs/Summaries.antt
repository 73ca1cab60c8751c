-- The summary of the replies to requests.
use Rattle.std.specs.Prelude.{ℕ, ◌≡◌, ◌*◌, ◌^◌, ◌≤◌, Bool, true, false, List, [], ◌∷◌, length, ◌++◌, sum_by, count_by, Option, None, Some}
use Rattle.std.specs.Prelude.{codes}
use Rattle.std.specs.Fmt.{decimal}
use Rattle.line_raster.specs.Canvas.{Canvas, black_pixels}
use Rattle.chart_frames.specs.declared.frame.Frame.{Frame}
use Rattle.chart_frames.specs.declared.frame.Frame.TheVariants.{Done, Refused, Opened, Closed, View, Rows, Live, Report}
use Rattle.chart_frames.specs.Frames.{spelling}
use Rattle.demo_workload.specs.declared.summaries.Summary.{Summary}

abbrev pub is_done : Frame → Bool
is_done (Done slots) = true
is_done (Refused number a b) = false
is_done (Opened session cache) = false
is_done (Closed session) = false
is_done (View view) = false
is_done (Rows rows) = false
is_done (Live session on) = false
is_done (Report report) = false

abbrev pub is_refused : Frame → Bool
is_refused (Done slots) = false
is_refused (Refused number a b) = true
is_refused (Opened session cache) = false
is_refused (Closed session) = false
is_refused (View view) = false
is_refused (Rows rows) = false
is_refused (Live session on) = false
is_refused (Report report) = false

-- the frame answers a view, with a filter or without one
abbrev pub is_view : Frame → Bool
is_view (Done slots) = false
is_view (Refused number a b) = false
is_view (Opened session cache) = false
is_view (Closed session) = false
is_view (View view) = true
is_view (Rows rows) = true
is_view (Live session on) = false
is_view (Report report) = false

-- the bytes of a frame, where it answers a view
abbrev pub view_bytes : Frame → ℕ
view_bytes (Done slots) = 0
view_bytes (Refused number a b) = 0
view_bytes (Opened session cache) = 0
view_bytes (Closed session) = 0
view_bytes (View view) = length (spelling (View view))
view_bytes (Rows rows) = length (spelling (Rows rows))
view_bytes (Live session on) = 0
view_bytes (Report report) = 0

-- the black pixels of a frame's picture, where it has one
abbrev pub picture_pixels : Option Canvas → ℕ
picture_pixels None = 0
picture_pixels (Some drawing) = black_pixels drawing

-- The summary of frames, one for each request, and of their pictures: the requests, the Done frames, the Refused
-- frames, the answered views, the bytes of their frames, and the black pixels of all pictures.
unfoldable pub summary_of : List Frame → List (Option Canvas) → Summary
summary_of frames pictures = record {
  requests = length frames;
  done = count_by is_done frames;
  refused = count_by is_refused frames;
  views = count_by is_view frames;
  sent = sum_by view_bytes frames;
  black = sum_by picture_pixels pictures;
}

-- a summary has one reply more, with its picture
abbrev pub AddsReply : Frame → Option Canvas → Summary → Summary → Type 0
AddsReply frame picture old new =
    (frames : List Frame) (pictures : List (Option Canvas)) → old ≡ summary_of frames pictures
    → new ≡ summary_of (frames ++ frame ∷ []) (pictures ++ picture ∷ [])

-- the line of a summary
unfoldable pub summary_line : Summary → List ℕ
summary_line s =
    codes "requests " ++ (decimal s.requests ++ (codes " done " ++ (decimal s.done ++ (codes " refused " ++ (decimal s.refused
    ++ (codes " views " ++ (decimal s.views ++ (codes
    " sent " ++ (decimal s.sent ++ (codes " black " ++ (decimal s.black ++ codes "\n")))))))))))

-- A frame has at most 4,194,308 bytes, and a picture at most 2^24 pixels.
pub record IsSmall (s : Summary) : Type 0 where
  pub done : s.done ≤ s.requests
  pub refused : s.refused ≤ s.requests
  pub views : s.views ≤ s.requests
  pub sent : s.sent ≤ 4194308 * s.requests
  pub black : s.black ≤ 2 ^ 24 * s.requests
