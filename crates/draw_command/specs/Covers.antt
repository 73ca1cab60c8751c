-- What is sent for a frame: the covers of a view, where covers are asked for, and the picture.
use Rattle.std.specs.Prelude.{ℕ, ℤ, IsTrue, ◌≡◌, ◌*◌, ◌<◌, ◌≤◌, ◌++◌, List, [], ◌∷◌, length, slice_get, flat_map, Option, None, Some}
use Rattle.line_raster.specs.Canvas.{Canvas, black_at}
use Rattle.pbm_writer.specs.Picture.{picture}
use Rattle.chart_frames.specs.declared.frame.Frame.{Frame}
use Rattle.chart_frames.specs.declared.frame.Frame.TheVariants.{View}
use Rattle.chart_frames.specs.declared.frame.ViewFrame.{ViewFrame}
use Rattle.chart_client.specs.declared.holding.Holding.{Holding}
use Rattle.chart_client.specs.Accepting.{Accepts}
use Rattle.chart_client.specs.Agreeing.{Agrees, IsGridOf}
use Rattle.chart_client.specs.Holdings.{holding_of}
use Rattle.chart_grid.specs.declared.grid.Grid.{Grid}
use Rattle.progressive_view.specs.Covers.{DrawsCover}

-- the bytes of the picture of a drawing
abbrev pub picture_bytes : Option Canvas → List ℕ
picture_bytes None = []
picture_bytes (Some drawing) = picture drawing

-- the drawing is the cover of a view once so many of its coefficients are taken, which aren't all
pub record IsCoverAfter (view : ViewFrame) (holdings : List Holding) (taken : ℕ) (drawing : Canvas) : Type 0 where
  pub some_left : taken < length view.coefs
  pub draws : DrawsCover (record { view = view; holdings = holdings; taken = taken }) drawing

-- the drawings are the covers of a view after 0, every, 2 * every, .. coefficients, as far as they go
abbrev pub AreFirstCovers : ℕ → ViewFrame → List Holding → List Canvas → Type 0
AreFirstCovers every view holdings covers =
    (i : ℕ) (cover : Canvas) → slice_get covers i ≡ Some cover → IsCoverAfter view holdings (i * every) cover

-- and there is one for each of these numbers below that of all coefficients
pub record AreCovers (every : ℕ) (view : ViewFrame) (holdings : List Holding) (covers : List Canvas) : Type 0 where
  pub first : AreFirstCovers every view holdings covers
  pub all : length view.coefs ≤ length covers * every

-- the first covers of a frame, where they are asked for after every so many coefficients: only a view has some
abbrev pub AreFirstCoversOf : Option ℕ → Frame → List Holding → List Canvas → Type 0
AreFirstCoversOf None frame holdings covers = covers ≡ []
AreFirstCoversOf (Some every) (View view) holdings covers = AreFirstCovers every view holdings covers
AreFirstCoversOf (Some every) frame holdings covers = covers ≡ []

-- all covers of a frame
abbrev pub AreCoversOf : Option ℕ → Frame → List Holding → List Canvas → Type 0
AreCoversOf None frame holdings covers = covers ≡ []
AreCoversOf (Some every) (View view) holdings covers = AreCovers every view holdings covers
AreCoversOf (Some every) frame holdings covers = covers ≡ []

-- the client accepts a frame with this drawing, if any, and these bytes are sent for it: its covers, and behind them its picture
pub record SendsFrame (every : Option ℕ) (frame : Frame) (drawing : Option Canvas) (old new : List Holding) (bytes : List ℕ) : Type 0 where
  pub covers : List Canvas
  pub covered : AreCoversOf every frame old covers
  pub accepted : Accepts frame drawing old new
  pub bytes_are : bytes ≡ flat_map picture covers ++ picture_bytes drawing

-- it accepts frames one after the other
abbrev pub SendsFrames : Option ℕ → List Frame → List (Option Canvas) → List Holding → List Holding → List ℕ → Type 0
SendsFrames every [] [] old new bytes = (new ≡ old) × (bytes ≡ [])
SendsFrames every [] (drawing ∷ drawings) old new bytes = ⊥
SendsFrames every (frame ∷ frames) [] old new bytes = ⊥
SendsFrames every (frame ∷ frames) (drawing ∷ drawings) old new bytes =
    (between : List Holding) × (first : List ℕ) × (later : List ℕ) × SendsFrame every frame drawing old between first
    × SendsFrames every frames drawings between new later × (bytes ≡ first ++ later)

-- the list of slots agrees with a view's frame, and with what is held of its session
abbrev pub AgreesWith : ViewFrame → List Holding → List (Option ℤ) → Type 0
AgreesWith view holdings list =
    (holding : Holding) (grid : Grid) → holding_of view.session holdings ≡ Some holding → IsGridOf view grid
    → Agrees view holding.cache grid list

-- of two drawings of a view, the first is black only where the second is
abbrev pub LiesWithin : ViewFrame → Canvas → Canvas → Type 0
LiesWithin view inner outer = (x y : ℕ) → x < view.w → y < view.h → IsTrue (black_at inner x y) → IsTrue (black_at outer x y)
