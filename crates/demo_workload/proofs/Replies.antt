-- Requests that are answered one after the other, and one more behind them.
use Rattle.std.proofs.Common.{ℕ, ◌≡◌, inl, inr, List, [], ◌∷◌, ◌++◌, Option, map, refl, sym, ap, ◌∙◌, subst, append_assoc}
use Rattle.std.proofs.lemmas.List.{append-nil}
use Rattle.block_disk.specs.View.{Image}
use Rattle.line_raster.specs.Canvas.{Canvas}
use Rattle.series_book.specs.declared.one_series.Series.{Series}
use Rattle.request_lines.specs.declared.requests.Request.{Request}
use Rattle.chart_frames.specs.declared.frame.Frame.{Frame}
use Rattle.zoom_session.specs.declared.session.Session.{Session}
use Rattle.chart_client.specs.declared.holding.Holding.{Holding}
use Rattle.chart_client.specs.Accepting.{Accepts}
use Rattle.stored_book.specs.Standing.{StandsForBook}
use Rattle.chart_service.specs.State.{State, IsSound}
use Rattle.chart_service.specs.Stepping.{RepliedTo, StandsAfter, IsBeforeOrAfter, state_of}
use Rattle.drawn_replies.specs.Mirrors.{mirrored, IsPictureOf}
use Rattle.drawn_replies.specs.Pictures.{AcceptsAll}
use Rattle.demo_workload.specs.declared.summaries.Summary.{Summary}
use Rattle.demo_workload.specs.Summaries.{summary_of}
use Rattle.demo_workload.specs.Replying.{AnswersEach, PicturesEach, Summarizes, IsPartWay}
use Rattle.demo_workload.specs.Answering.{AnswersOne, AcceptsOne, HasAccepted, Reaches}

pub answers_more : (requests : List Request) (frames : List Frame) (request : Request) (frame : Frame) (old mid new : State)
    → AnswersEach old requests frames mid → RepliedTo request frame mid new
    → AnswersEach old (requests ++ request ∷ []) (frames ++ frame ∷ []) new
answers_more [] [] request frame old mid new each reply = let P : State → Type 0 = λ s. RepliedTo request frame s new in
    (new, subst P each reply, refl)
answers_more [] (f ∷ fs) request frame old mid new each reply = absurd each
answers_more (r ∷ rs) [] request frame old mid new each reply = absurd each
answers_more (r ∷ rs) (f ∷ fs) request frame old mid new each reply = (
  each.0,
  each.1,
  answers_more rs fs request frame each.0 mid new each.2 reply,
)

first_picture : (frames : List Frame) (pictures : List (Option Canvas)) (request : Request) (frame : Frame) (picture : Option Canvas)
    (old new : State)
    → frames ≡ [] → pictures ≡ [] → RepliedTo request frame old new → IsPictureOf old new frame picture
    → PicturesEach old (request ∷ []) (frames ++ frame ∷ []) (pictures ++ picture ∷ []) new
first_picture frames pictures request frame picture old new none blank reply pictured =
    let P : List Frame → Type 0 = λ fs. PicturesEach old (request ∷ []) (fs ++ frame ∷ []) (pictures ++ picture ∷ []) new in
    let Q : List (Option Canvas) → Type 0 = λ ps. PicturesEach old (request ∷ []) (frame ∷ []) (ps ++ picture ∷ []) new in
    subst P (sym none) (subst Q (sym blank) (new, reply, pictured, (refl, refl, refl)))

pub pictures_more : (requests : List Request) (frames : List Frame) (pictures : List (Option Canvas)) (request : Request) (frame : Frame)
    (picture : Option Canvas)
    (old mid new : State) → PicturesEach old requests frames pictures mid → RepliedTo request frame mid new
    → IsPictureOf mid new frame picture
    → PicturesEach old (requests ++ request ∷ []) (frames ++ frame ∷ []) (pictures ++ picture ∷ []) new
pictures_more [] frames pictures request frame picture old mid new each reply pictured =
    let R : State → Type 0 = λ s. RepliedTo request frame s new in
    let S : State → Type 0 = λ s. IsPictureOf s new frame picture in
    first_picture frames pictures request frame picture old new each.0 each.1 (subst R each.2 reply) (subst S each.2 pictured)
pictures_more (r ∷ rs) [] pictures request frame picture old mid new each reply pictured = absurd each
pictures_more (r ∷ rs) (f ∷ fs) [] request frame picture old mid new each reply pictured = absurd each
pictures_more (r ∷ rs) (f ∷ fs) (p ∷ ps) request frame picture old mid new each reply pictured =
    (each.0, each.1, each.2, pictures_more rs fs ps request frame picture each.0 mid new each.3 reply pictured)

pub pictures_answers : (requests : List Request) (frames : List Frame) (pictures : List (Option Canvas)) (old new : State)
    → PicturesEach old requests frames pictures new → AnswersEach old requests frames new
pictures_answers [] frames pictures old new each = let P : List Frame → Type 0 = λ fs. AnswersEach old [] fs new in
    subst P (sym each.0) each.2
pictures_answers (r ∷ rs) [] pictures old new each = absurd each
pictures_answers (r ∷ rs) (f ∷ fs) [] old new each = absurd each
pictures_answers (r ∷ rs) (f ∷ fs) (p ∷ ps) old new each = (each.0, each.1, pictures_answers rs fs ps each.0 new each.3)

accepts_more : (frames : List Frame) (drawings : List (Option Canvas)) (frame : Frame) (drawing : Option Canvas)
    (old mid new : List Holding)
    → AcceptsAll old frames drawings mid → Accepts frame drawing mid new
    → AcceptsAll old (frames ++ frame ∷ []) (drawings ++ drawing ∷ []) new
accepts_more [] [] frame drawing old mid new all one = let P : List Holding → Type 0 = λ h. Accepts frame drawing h new in
    (new, subst P all one, refl)
accepts_more [] (d ∷ ds) frame drawing old mid new all one = absurd all
accepts_more (f ∷ fs) [] frame drawing old mid new all one = absurd all
accepts_more (f ∷ fs) (d ∷ ds) frame drawing old mid new all one = (all.0, all.1, accepts_more fs ds frame drawing all.0 mid new all.2 one)

pub accepted_more : (old new : List Holding) → HasAccepted old → AcceptsOne old new → HasAccepted new
accepted_more old new all one = record {
  frames = all.frames ++ one.frame ∷ [];
  drawings = all.drawings ++ one.drawing ∷ [];
  accepted = accepts_more all.frames all.drawings one.frame one.drawing [] old new all.accepted one.accepted;
}

pub accepted_none : (holdings : List Holding) → holdings ≡ [] → HasAccepted holdings
accepted_none holdings none = record { frames = []; drawings = []; accepted = none }

-- one more request is answered
pub reaches_more : (requests left : List Request) (request : Request) (total : ℕ) (old : State) (image image' : Image)
    (sessions sessions' : List Session)
    (holdings holdings' : List Holding) (before now : Summary)
    → (r : Reaches requests (request ∷ left) total old image sessions holdings before)
    → StandsAfter total image' sessions' (λ new. AnswersOne request (state_of r.book total sessions) new holdings' before now)
    → Reaches requests left total old image' sessions' holdings' now
reaches_more requests left request total old image image' sessions sessions' holdings holdings' before now r a = record {
  first = r.first ++ request ∷ [];
  split = r.split ∙ sym (append_assoc r.first (request ∷ []) left);
  frames = r.frames ++ a.so.frame ∷ [];
  pictures = r.pictures ++ a.so.picture ∷ [];
  book = a.book;
  replied = pictures_more r.first r.frames r.pictures request a.so.frame a.so.picture old (state_of r.book total sessions)
      (state_of a.book total sessions')
      r.replied a.so.replied a.so.pictured;
  stands = a.stands;
  sound = a.so.replied.2;
  mirrors = a.so.mirrors;
  sums = a.so.sums r.frames r.pictures r.sums;
}

-- the book that the pages stand for now is that behind some first requests
pub reached_part : (requests left : List Request) (total : ℕ) (old : State) (image : Image) (sessions : List Session)
    (holdings : List Holding) (summary : Summary)
    → Reaches requests left total old image sessions holdings summary → IsPartWay requests total old image
reached_part requests left total old image sessions holdings summary r = record {
  first = r.first;
  rest = left;
  split = r.split;
  frames = r.frames;
  new = state_of r.book total sessions;
  answered = pictures_answers r.first r.frames r.pictures old (state_of r.book total sessions) r.replied;
  stands = r.stands;
}

-- and so is that on the way of the next request
pub next_part : (requests left : List Request) (request : Request) (total : ℕ) (old : State) (image image' : Image)
    (sessions : List Session)
    (holdings : List Holding) (summary : Summary) → (r : Reaches requests (request ∷ left) total old image sessions holdings summary)
    → IsBeforeOrAfter (RepliedTo request) total r.book sessions image' → IsPartWay requests total old image'
next_part requests left request total old image image' sessions holdings summary r (inl stands) = record {
  first = r.first;
  rest = request ∷ left;
  split = r.split;
  frames = r.frames;
  new = state_of r.book total sessions;
  answered = pictures_answers r.first r.frames r.pictures old (state_of r.book total sessions) r.replied;
  stands = stands;
}
next_part requests left request total old image image' sessions holdings summary r (inr after) = record {
  first = r.first ++ request ∷ [];
  rest = left;
  split = r.split ∙ sym (append_assoc r.first (request ∷ []) left);
  frames = r.frames ++ after.frame ∷ [];
  new = state_of after.after.book total after.left;
  answered = answers_more r.first r.frames request after.frame old (state_of r.book total sessions)
      (state_of after.after.book total after.left)
      (pictures_answers r.first r.frames r.pictures old (state_of r.book total sessions) r.replied) after.after.so;
  stands = after.after.stands;
}

-- all requests are answered
pub reached_all : (requests left : List Request) (total : ℕ) (old : State) (image : Image) (sessions : List Session)
    (holdings : List Holding) (summary : Summary)
    → left ≡ [] → Reaches requests left total old image sessions holdings summary
    → StandsAfter total image sessions (λ new. Summarizes requests old new summary)
reached_all requests left total old image sessions holdings summary none r =
    let P : List Request → Type 0 = λ l. requests ≡ r.first ++ l in
    let all : requests ≡ r.first = subst P none r.split ∙ append-nil r.first in
    let Q : List Request → Type 0 = λ l. PicturesEach old l r.frames r.pictures (state_of r.book total sessions) in
    record {
      book = r.book;
      stands = r.stands;
      so = record { frames = r.frames; pictures = r.pictures; replied = subst Q (sym all) r.replied; sums = r.sums };
    }

-- before the first request
pub starts : (requests left : List Request) (total : ℕ) (book : List Series) (image : Image) (sessions : List Session)
    (holdings : List Holding) (summary : Summary)
    → left ≡ requests → sessions ≡ [] → holdings ≡ [] → summary ≡ summary_of [] [] → StandsForBook image total book
    → IsSound (state_of book total sessions)
    → Reaches requests left total (state_of book total []) image sessions holdings summary
starts requests left total book image sessions holdings summary all alone none blank stands sound = record {
  first = [];
  split = sym all;
  frames = [];
  pictures = [];
  book = book;
  replied = (refl, refl, ap (λ (s : List Session). state_of book total s) alone);
  stands = stands;
  sound = sound;
  mirrors = none ∙ ap (λ (s : List Session). map mirrored s) (sym alone);
  sums = blank;
}

pub nothing_done : (requests : List Request) (total : ℕ) (book : List Series) (image : Image) → StandsForBook image total book
    → IsPartWay requests total (state_of book total []) image
nothing_done requests total book image stands = record {
  first = [];
  rest = requests;
  split = refl;
  frames = [];
  new = state_of book total [];
  answered = refl;
  stands = stands;
}

-- the next request is this one
pub next_reaches : (requests left behind : List Request) (request : Request) (total : ℕ) (old : State) (image : Image)
    (sessions : List Session) (holdings : List Holding)
    (summary : Summary) → left ≡ request ∷ behind → Reaches requests left total old image sessions holdings summary
    → Reaches requests (request ∷ behind) total old image sessions holdings summary
next_reaches requests left behind request total old image sessions holdings summary is r =
    let P : List Request → Type 0 = λ l. Reaches requests l total old image sessions holdings summary in
    subst P is r
