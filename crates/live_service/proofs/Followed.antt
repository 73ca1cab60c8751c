-- Sessions that can follow go on being able to, and their pushes show views.
use Rattle.std.proofs.Common.{◌≡◌, ◌≢◌, ℕ, ℤ, ◌<◌, ◌≤◌, Bool, true, false, not, ◌==◌, ◌&&◌, if◌then◌else◌, List, [], ◌∷◌, ◌++◌, length}
use Rattle.std.proofs.Common.{get_or, Option, None, Some, Result, Ok, Err, refl, sym, ap, ◌∙◌, subst, inl, inr, arith}
use Rattle.std.specs.Prelude.{All, is_none, nat_lt, slice_get}
use Rattle.std.proofs.lemmas.Bool.{eqb-true, eq-eqb, both_ways}
use Rattle.std.proofs.lemmas.List.Elements.{All-filter, All-weaker, filter_passes}
use Rattle.chart_frames.specs.declared.frame.Frame.{Frame}
use Rattle.chart_frames.specs.declared.frame.Frame.TheVariants.{Done, Refused, Opened, Closed, View as ViewOf, Rows, Live as LiveOf, Report}
use Rattle.chart_grid.specs.declared.axis.Axis.{Axis}
use Rattle.chart_grid.specs.declared.grid.Grid.{Grid}
use Rattle.chart_service.proofs.Others.{viewed_others, without_others}
use Rattle.chart_service.specs.Replies.{Refuses, Edits, Opens, Closes, AnswersBy, ViewsSeries, ViewsId, RepliesToView, RepliesByText, Moves}
use Rattle.chart_service.specs.Replies.{MovesLast, MovesIn, RepliesTo, line_text, cache_of}
use Rattle.chart_service.specs.State.{State}
use Rattle.chart_service.specs.ViewingLaws.{no_window}
use Rattle.chart_service.specs.Viewing.{axis_of, range_spec}
use Rattle.coefficient_cache.specs.Caches.{Cache}
use Rattle.live_service.specs.Following.{FollowsWell, ShowsView}
use Rattle.live_view.specs.Following.{CanFollow}
use Rattle.live_service.specs.LiveReplies.{LiveState, LiveReplied, RepliesTo as LiveTo, AnswersItself, PassesOn, Pushed, changed_in}
use Rattle.live_view.proofs.NumberLemmas.{with-all, rest-all, first-of-all}
use Rattle.live_view.proofs.PassingLemmas.{followers-all}
use Rattle.live_view.specs.Lines.{live_line}
use Rattle.live_view.specs.Meaning.{meaning_of, meaning_in}
use Rattle.live_view.specs.Numbers.{without_number}
use Rattle.live_view.specs.Replies.{too_large, is_too_large, live_bound, follow_view, follow_reply, unfollow_reply, FollowsUnfiltered}
use Rattle.live_view.specs.Replies.{followed_by, ended, still_followed, followers}
use Rattle.live_view.specs.declared.live_lines.LiveLine.{LiveLine}
use Rattle.live_view.specs.declared.live_lines.LiveLine.TheVariants.{Follow, Unfollow, Bad, Other as OtherLine}
use Rattle.live_view.specs.declared.meaning.Meaning.{Meaning}
use Rattle.live_view.specs.declared.meaning.Meaning.TheVariants.{View as ViewMeant, Edit as EditMeant, Other}
use Rattle.om3_coeff.specs.declared.coef.Coef.{Coef}
use Rattle.om3_coeff.specs.declared.key.Key.{Key}
use Rattle.request_lines.specs.Requests.{read_line}
use Rattle.request_lines.specs.declared.ranges.RangeWord.{RangeWord}
use Rattle.request_lines.specs.declared.requests.Request.{Request}
use Rattle.request_lines.specs.declared.requests.Request.TheVariants.{Edit, Open, View, Zoom, Pan, Close}
use Rattle.series_book.specs.Edits.{Edited, apply, id_of}
use Rattle.series_book.specs.declared.one_series.Series.{Series}
use Rattle.series_book.specs.declared.refusals.Refusal.{Refusal}
use Rattle.value_filter.specs.Steps.{postfix}
use Rattle.value_filter.specs.declared.steps.Step.{Step as FilterStep}
use Rattle.zoom_session.specs.Plans.{AreNeeded as NeededBy}
use Rattle.zoom_session.specs.Sessions.{is_open, session_of, last_of, open_refusal, without, viewed, after_view, list_after}
use Rattle.zoom_session.specs.declared.session.Session.{Session}
use Rattle.zoom_session.specs.declared.view_spec.ViewSpec.{ViewSpec}

abbrev Needed : Type 0
Needed = Option (List (Key × Coef))

-- ---- sessions that stay, are opened and are viewed

kept : (n : ℕ) (ss ss' : List Session) → session_of n ss' ≡ session_of n ss → CanFollow ss n → CanFollow ss' n
kept n ss ss' same c = record { session = c.session; there = same ∙ c.there; view = c.view; last = c.last; fits = c.fits }

same_sessions : (n : ℕ) (ss ss' : List Session) → ss' ≡ ss → CanFollow ss n → CanFollow ss' n
same_sessions n ss ss' same c = kept n ss ss' (ap (λ x. session_of n x) same) c

some_same : {X : Type 0} (x y : X) → Some x ≡ Some y → x ≡ y
some_same x y e = cc

none_some : {X : Type 0} (x : X) → ◌≡◌ {A = Option X} None (Some x) → ⊥
none_some x e = cc

found_before : (n : ℕ) (ss more : List Session) (s : Session) → session_of n ss ≡ Some s → session_of n (ss ++ more) ≡ Some s
found_before n [] more s is = absurd (none_some s is)
found_before n (x ∷ xs) more s is =
    (elim (x.number == n) as (λ b. (if b then Some x else session_of n xs) ≡ Some s
    → (if b then Some x else session_of n (xs ++ more)) ≡ Some s) [
      | true ↦ λ e. e
      | false ↦ λ e. found_before n xs more s e
    ]) is

opened_more : (n : ℕ) (ss more : List Session) → CanFollow ss n → CanFollow (ss ++ more) n
opened_more n ss more c = record {
  session = c.session;
  there = found_before n ss more c.session c.there;
  view = c.view;
  last = c.last;
  fits = c.fits;
}

own_at : (n : ℕ) (spec : ViewSpec) (needed : Needed) (x : Session) (xs : List Session) (s : Session)
    → (session_of n xs ≡ Some s → session_of n (viewed n spec needed xs) ≡ Some (after_view spec needed s)) → (here : Bool)
    → (x.number == n) ≡ here
    → session_of n (x ∷ xs) ≡ Some s → session_of n (if here then after_view spec needed x ∷ xs
    else x ∷ viewed n spec needed xs) ≡ Some (after_view spec needed s)
own_at n spec needed x xs s later true e is =
    let same : x ≡ s = some_same x s (sym (ap (λ b. if b then Some x else session_of n xs) e) ∙ is) in
    ap (λ b. if b then Some (after_view spec needed x) else session_of n xs) e ∙ ap (λ y. Some (after_view spec needed y)) same
own_at n spec needed x xs s later false e is =
    ap (λ b. if b then Some x else session_of n (viewed n spec needed xs)) e
    ∙ later (sym (ap (λ b. if b then Some x else session_of n xs) e) ∙ is)

own_viewed : (n : ℕ) (spec : ViewSpec) (needed : Needed) (ss : List Session) (s : Session) → session_of n ss ≡ Some s
    → session_of n (viewed n spec needed ss) ≡ Some (after_view spec needed s)
own_viewed n spec needed [] s is = absurd (none_some s is)
own_viewed n spec needed (x ∷ xs) s is = own_at n spec needed x xs s (own_viewed n spec needed xs s) (x.number == n) refl is

same_capacity : (series : ℕ) (needed : Needed) (cache : Cache) → (list_after series needed cache).capacity ≡ cache.capacity
same_capacity series None cache = refl
same_capacity series (Some needed) cache = refl

fits_so : (spec last : ViewSpec) (capacity cache : ℕ) → spec.grid.w ≡ last.grid.w → spec.filter ≡ last.filter → capacity ≡ cache
    → is_too_large last cache ≡ false → is_too_large spec capacity ≡ false
fits_so spec last capacity cache wide filter_is size fits =
    ap (λ f. is_none f && nat_lt capacity (live_bound spec.grid.w)) filter_is
    ∙ ap (λ w. is_none last.filter && nat_lt capacity (live_bound w)) wide
    ∙ ap (λ c. is_none last.filter && nat_lt c (live_bound last.grid.w)) size ∙ fits

own_again : (n : ℕ) (ss : List Session) (spec last : ViewSpec) (needed : Needed) → last_of (session_of n ss) ≡ Some last
    → spec.grid.w ≡ last.grid.w → spec.filter ≡ last.filter → CanFollow ss n → CanFollow (viewed n spec needed ss) n
own_again n ss spec last needed had wide filter_is c =
    let mine : Some c.view ≡ Some last = sym (ap last_of c.there ∙ c.last) ∙ had in
    let same : c.view ≡ last = some_same c.view last mine in
    record {
      session = after_view spec needed c.session;
      there = own_viewed n spec needed ss c.session c.there;
      view = spec;
      last = refl;
      fits = fits_so spec last (list_after spec.series needed c.session.cache).capacity c.session.cache.capacity wide filter_is
          (same_capacity spec.series needed c.session.cache) (ap (λ v. is_too_large v c.session.cache.capacity) (sym same) ∙ c.fits);
    }

-- a number that isn't another one
other_number : (m n : ℕ) → not (n == m) ≡ true → m ≡ n → ⊥
other_number m n apart same =
    let own : (n == m) ≡ true = eq-eqb n m (sym same) in
    let never : not true ≡ true = sym (ap not own) ∙ apart in
    cc

not_same : (n m : ℕ) → (n == m) ≡ false → n ≢ m
not_same n m is e = both_ways (n == m) is (eq-eqb n m e)

-- a zoom or a pan of a session was answered
again_by : (n m : ℕ) (ss : List Session) (spec last : ViewSpec) (needed : Needed) → last_of (session_of m ss) ≡ Some last
    → spec.grid.w ≡ last.grid.w → spec.filter ≡ last.filter → CanFollow ss n → (test : Bool) → (n == m) ≡ test
    → CanFollow (viewed m spec needed ss) n
again_by n m ss spec last needed had wide filter_is c true test =
    let same : n ≡ m = eqb-true n m test in
    let L : ℕ → Type 0 = λ k. last_of (session_of k ss) ≡ Some last in
    let V : ℕ → Type 0 = λ k. CanFollow (viewed k spec needed ss) n in
    subst V same (own_again n ss spec last needed (subst L (sym same) had) wide filter_is c)
again_by n m ss spec last needed had wide filter_is c false test = kept n ss (viewed m spec needed ss)
    (viewed_others n m spec needed ss (not_same n m test)) c

again : (n m : ℕ) (ss : List Session) (spec last : ViewSpec) (needed : Needed) → last_of (session_of m ss) ≡ Some last
    → spec.grid.w ≡ last.grid.w → spec.filter ≡ last.filter → CanFollow ss n → CanFollow (viewed m spec needed ss) n
again n m ss spec last needed had wide filter_is c = again_by n m ss spec last needed had wide filter_is c (n == m) refl

-- ---- replies

refused_stays : (n : ℕ) (refusal : Refusal) (frame : Frame) (old new : State) → Refuses refusal frame old new → CanFollow old.sessions n
    → CanFollow new.sessions n
refused_stays n refusal frame old new r c = same_sessions n old.sessions new.sessions (ap (λ (s : State). s.sessions) r.state) c

answered_again : (n number : ℕ) (f : Option (List FilterStep)) (series : Series) (spec last : ViewSpec) (frame : Frame) (old new : State)
    → last_of (session_of number old.sessions) ≡ Some last → spec.grid.w ≡ last.grid.w → spec.filter ≡ last.filter
    → AnswersBy f series spec number frame old new → CanFollow old.sessions n → CanFollow new.sessions n
answered_again n number None series spec last frame old new had wide filter_is (inl many) c = refused_stays n _ frame old new many.refuses c
answered_again n number None series spec last frame old new had wide filter_is (inr a) c =
    let sessions : new.sessions ≡ viewed number spec (Some a.needed) old.sessions = ap (λ (s : State). s.sessions) a.state in
    same_sessions n (viewed number spec (Some a.needed) old.sessions) new.sessions sessions
    (again n number old.sessions spec last (Some a.needed) had wide filter_is c)
answered_again n number (Some steps) series spec last frame old new had wide filter_is a c =
    let sessions : new.sessions ≡ viewed number spec None old.sessions = ap (λ (s : State). s.sessions) a.state in
    same_sessions n (viewed number spec None old.sessions) new.sessions sessions
    (again n number old.sessions spec last None had wide filter_is c)

moved_last : (n number : ℕ) (o : Option ViewSpec) (window : ViewSpec → ℤ × ℤ) (frame : Frame) (old new : State)
    → last_of (session_of number old.sessions) ≡ o → MovesLast o number window frame old new → CanFollow old.sessions n
    → CanFollow new.sessions n
moved_last n number None window frame old new had moves c = refused_stays n _ frame old new moves c
moved_last n number (Some last) window frame old new had moves c = elim moves.reply [
  | inl bad ↦ refused_stays n _ frame old new bad.1 c
  | inr good ↦
      let v = good.1 in
      answered_again n number last.filter moves.series
      (record { series = last.series; grid = v.grid; range = last.range; filter = last.filter }) last frame old new had v.canvas.columns
      refl v.view c
]

moved : (n number : ℕ) (o : Option Session) (window : ViewSpec → ℤ × ℤ) (frame : Frame) (old new : State)
    → session_of number old.sessions ≡ o → MovesIn o number window frame old new → CanFollow old.sessions n → CanFollow new.sessions n
moved n number None window frame old new is moves c = refused_stays n _ frame old new moves c
moved n number (Some s) window frame old new is moves c = moved_last n number s.last window frame old new (ap last_of is) moves c

edited : (n : ℕ) (r : Result Edited Refusal) (frame : Frame) (old new : State) → Edits r frame old new → CanFollow old.sessions n
    → CanFollow new.sessions n
edited n (Err refusal) frame old new e c = refused_stays n refusal frame old new e c
edited n (Ok done) frame old new e c = same_sessions n old.sessions new.sessions (ap (λ (s : State). s.sessions) e.1) c

opened : (n : ℕ) (r : Option Refusal) (number cache : ℕ) (frame : Frame) (old new : State) → Opens r number cache frame old new
    → CanFollow old.sessions n → CanFollow new.sessions n
opened n (Some refusal) number cache frame old new o c = refused_stays n refusal frame old new o c
opened n None number cache frame old new o c = same_sessions n _ new.sessions (ap (λ (s : State). s.sessions) o.1)
    (opened_more n old.sessions _ c)

closed : (n : ℕ) (b : Bool) (number : ℕ) (meaning : Meaning) (frame : Frame) (old new : State) → Closes b number frame old new
    → (ended meaning frame ≡ Some n → ⊥) → CanFollow old.sessions n → CanFollow new.sessions n
closed n false number meaning frame old new o goes_on c = refused_stays n _ frame old new o c
closed n true number meaning frame old new o goes_on c =
    let ends : ended meaning frame ≡ Some number = ap (ended meaning) o.0 in
    same_sessions n (without number old.sessions) new.sessions (ap (λ (s : State). s.sessions) o.1)
    (kept n old.sessions (without number old.sessions)
    (without_others n number old.sessions (λ e. goes_on (ends ∙ ap (λ k. Some k) (sym e)))) c)

-- an answered view ends the following of its session
viewed_stays : (n number : ℕ) (spec : ViewSpec) (needed : Needed) (old new : State) → new.sessions ≡ viewed number spec needed old.sessions
    → (number ≡ n → ⊥) → CanFollow old.sessions n → CanFollow new.sessions n
viewed_stays n number spec needed old new is other c =
    same_sessions n (viewed number spec needed old.sessions) new.sessions is
    (kept n old.sessions (viewed number spec needed old.sessions)
    (viewed_others n number spec needed old.sessions (λ e. other (sym e))) c)

answered_anew : (n number : ℕ) (f : Option (List FilterStep)) (series : Series) (spec : ViewSpec) (frame : Frame) (old new : State)
    → (ended ViewMeant frame ≡ Some n → ⊥) → CanFollow old.sessions n → AnswersBy f series spec number frame old new
    → CanFollow new.sessions n
answered_anew n number None series spec frame old new goes_on c (inl many) = refused_stays n _ frame old new many.refuses c
answered_anew n number None series spec frame old new goes_on c (inr a) =
    let ends : ended ViewMeant frame ≡ Some number = ap (λ x. ended ViewMeant x) a.frame_is in
    viewed_stays n number spec (Some a.needed) old new (ap (λ (s : State). s.sessions) a.state) (λ e. goes_on (ends ∙ ap (λ k. Some k) e)) c
answered_anew n number (Some steps) series spec frame old new goes_on c a =
    let ends : ended ViewMeant frame ≡ Some number = ap (λ x. ended ViewMeant x) a.frame_is in
    viewed_stays n number spec None old new (ap (λ (s : State). s.sessions) a.state) (λ e. goes_on (ends ∙ ap (λ k. Some k) e)) c

series_anew : (n number : ℕ) (o : Option Series) (id w h : ℕ) (t0 t1 : ℤ) (word : RangeWord) (f : Option (List FilterStep)) (frame : Frame)
    (old new : State) → (ended ViewMeant frame ≡ Some n → ⊥) → CanFollow old.sessions n
    → ViewsSeries o id number w h t0 t1 word f frame old new → CanFollow new.sessions n
series_anew n number None id w h t0 t1 word f frame old new goes_on c r = refused_stays n _ frame old new r c
series_anew n number (Some series) id w h t0 t1 word f frame old new goes_on c (inl r) = refused_stays n _ frame old new r.1 c
series_anew n number (Some series) id w h t0 t1 word f frame old new goes_on c (inr (inl r)) = refused_stays n _ frame old new r.2 c
series_anew n number (Some series) id w h t0 t1 word f frame old new goes_on c (inr (inr (inl r))) = refused_stays n _ frame old new r.4 c
series_anew n number (Some series) id w h t0 t1 word f frame old new goes_on c (inr (inr (inr r))) =
    answered_anew n number f series (record { series = id; grid = r.4.grid; range = range_spec word; filter = f }) frame old new goes_on c
    r.4.view

id_anew : (n number : ℕ) (o : Option ℕ) (w h : ℕ) (t0 t1 : ℤ) (word : RangeWord) (f : Option (List FilterStep)) (frame : Frame)
    (old new : State) → (ended ViewMeant frame ≡ Some n → ⊥) → CanFollow old.sessions n → ViewsId o number w h t0 t1 word f frame old new
    → CanFollow new.sessions n
id_anew n number None w h t0 t1 word f frame old new goes_on c r = refused_stays n _ frame old new r c
id_anew n number (Some id) w h t0 t1 word f frame old new goes_on c r = series_anew n number
    (slice_get old.book id) id w h t0 t1 word f frame old new goes_on c r

open_anew : (n number : ℕ) (b : Bool) (name : List ℕ) (w h : ℕ) (t0 t1 : ℤ) (word : RangeWord) (f : Option (List FilterStep))
    (frame : Frame) (old new : State) → (ended ViewMeant frame ≡ Some n → ⊥) → CanFollow old.sessions n
    → RepliesToView b number name w h t0 t1 word f frame old new → CanFollow new.sessions n
open_anew n number false name w h t0 t1 word f frame old new goes_on c r = refused_stays n _ frame old new r c
open_anew n number true name w h t0 t1 word f frame old new goes_on c r = id_anew n number
    (id_of name old.book) w h t0 t1 word f frame old new goes_on c r

viewed_anew : (n number : ℕ) (text : Option (List ℕ)) (name : List ℕ) (w h : ℕ) (t0 t1 : ℤ) (word : RangeWord) (frame : Frame)
    (old new : State) → (ended ViewMeant frame ≡ Some n → ⊥) → CanFollow old.sessions n
    → RepliesByText text (λ f. RepliesToView (is_open number old.sessions) number name w h t0 t1 word f frame old new) frame old new
    → CanFollow new.sessions n
viewed_anew n number None name w h t0 t1 word frame old new goes_on c r = open_anew n number
    (is_open number old.sessions) name w h t0 t1 word None frame old new goes_on c r
viewed_anew n number (Some text) name w h t0 t1 word frame old new goes_on c (inl bad) = refused_stays n _ frame old new bad.2 c
viewed_anew n number (Some text) name w h t0 t1 word frame old new goes_on c (inr good) = open_anew n number
    (is_open number old.sessions) name w h t0 t1 word (Some (postfix good.0)) frame old new goes_on c good.2

replied_stays : (n : ℕ) (r : Result Request ℕ) (frame : Frame) (old new : State) → RepliesTo r frame old new
    → (ended (meaning_in r) frame ≡ Some n → ⊥) → CanFollow old.sessions n → CanFollow new.sessions n
replied_stays n (Err at) frame old new r goes_on c = refused_stays n _ frame old new r c
replied_stays n (Ok (Edit edit)) frame old new r goes_on c = edited n (apply old.book old.total edit) frame old new r c
replied_stays n (Ok (Open number cache)) frame old new r goes_on c = opened n (open_refusal old.sessions number (cache_of cache)) number
    (cache_of cache) frame old new r c
replied_stays n (Ok (View number name w h t0 t1 word text)) frame old new r goes_on c = viewed_anew n number text name w h t0 t1 word frame
    old new goes_on c r
replied_stays n (Ok (Zoom number t0 t1)) frame old new r goes_on c = moved n number
    (session_of number old.sessions) _ frame old new refl r c
replied_stays n (Ok (Pan number by)) frame old new r goes_on c = moved n number (session_of number old.sessions) _ frame old new refl r c
replied_stays n (Ok (Close number)) frame old new r goes_on c = closed n (is_open number old.sessions) number
    (meaning_in (Ok (Close number))) frame old new r goes_on c

-- ---- lists of them

-- those whose following goes on
still_kept : (e : Option ℕ) (followed : List ℕ) (ss ss' : List Session) → All (CanFollow ss) followed
    → ((n : ℕ) → (e ≡ Some n → ⊥) → CanFollow ss n → CanFollow ss' n) → All (CanFollow ss') (still_followed e followed)
still_kept None followed ss ss' all keeps = All-weaker (CanFollow ss) (CanFollow ss') (λ n c. keeps n (λ e. none_some n e) c) followed all
still_kept (Some m) followed ss ss' all keeps =
    let left : List ℕ = without_number m followed in
    let can : All (CanFollow ss) left = All-filter (λ n. not (n == m)) (CanFollow ss) followed all in
    let apart : All (λ n. not (n == m) ≡ true) left = filter_passes (λ n. not (n == m)) followed in
    λ k d below. keeps (get_or left k d) (λ e. other_number m (get_or left k d) (apart k d below) (some_same m (get_or left k d) e))
    (can k d below)

followed_view : (n : ℕ) (s : Session) (view : ViewSpec) (ss : List Session) (followed : List ℕ) → session_of n ss ≡ Some s
    → s.last ≡ Some view → All (CanFollow ss) followed → (large : Bool) → is_too_large view s.cache.capacity ≡ large
    → All (CanFollow ss) (followed_by (if large then too_large (live_bound view.grid.w) s.cache.capacity else LiveOf n true) followed)
followed_view n s view ss followed there last all true test = all
followed_view n s view ss followed there last all false test = with-all (CanFollow ss) n followed
    (record { session = s; there = there; view = view; last = last; fits = test }) all

followed_last : (n : ℕ) (s : Session) (ss : List Session) (followed : List ℕ) (last : Option ViewSpec) → session_of n ss ≡ Some s
    → s.last ≡ last → All (CanFollow ss) followed → All (CanFollow ss) (followed_by (follow_view n s.cache.capacity last) followed)
followed_last n s ss followed None there last all = all
followed_last n s ss followed (Some view) there last all = followed_view n s view ss followed there last all
    (is_too_large view s.cache.capacity) refl

followed_more : (n : ℕ) (o : Option Session) (ss : List Session) (followed : List ℕ) → session_of n ss ≡ o → All (CanFollow ss) followed
    → All (CanFollow ss) (followed_by (follow_reply n o) followed)
followed_more n None ss followed there all = all
followed_more n (Some s) ss followed there all = followed_last n s ss followed s.last there refl all

followed_less : (n : ℕ) (b : Bool) (ss : List Session) (followed : List ℕ) → All (CanFollow ss) followed
    → All (CanFollow ss) (followed_by (unfollow_reply n b) followed)
followed_less n false ss followed all = all
followed_less n true ss followed all = All-filter (λ m. not (m == n)) (CanFollow ss) followed all

no_number : (ss : List Session) → All (CanFollow ss) []
no_number ss = λ k d below. absurd (omega (arith, below))

-- those that a frame is pushed to
pushed_can : (meaning : Meaning) (frame : Frame) (book : List Series) (ss : List Session) (followed : List ℕ)
    → All (CanFollow ss) (still_followed (ended meaning frame) followed)
    → All (CanFollow ss) (followers (changed_in book meaning frame) ss followed)
pushed_can ViewMeant frame book ss followed all = no_number ss
pushed_can Other frame book ss followed all = no_number ss
pushed_can (EditMeant name) (Done slots) book ss followed all = followers-all (CanFollow ss)
    (changed_in book (EditMeant name) (Done slots)) ss followed all
pushed_can (EditMeant name) (Refused number a b) book ss followed all = no_number ss
pushed_can (EditMeant name) (Opened session cache) book ss followed all = no_number ss
pushed_can (EditMeant name) (Closed session) book ss followed all = no_number ss
pushed_can (EditMeant name) (ViewOf view) book ss followed all = no_number ss
pushed_can (EditMeant name) (Rows rows) book ss followed all = no_number ss
pushed_can (EditMeant name) (LiveOf session on) book ss followed all = no_number ss
pushed_can (EditMeant name) (Report report) book ss followed all = no_number ss

-- before the first line
pub first_well : (live : LiveState) → live.followed ≡ [] → live.pending ≡ [] → FollowsWell live
first_well live none idle =
    let N : List ℕ → Type 0 = λ l. All (CanFollow live.state.sessions) l in
    record { followed = subst N (sym none) (no_number live.state.sessions); pending = subst N (sym idle) (no_number live.state.sessions) }

-- ---- lines and pushes

all_so : (ss ss' : List Session) (ns ns' : List ℕ) → ss' ≡ ss → ns' ≡ ns → All (CanFollow ss) ns → All (CanFollow ss') ns'
all_so ss ss' ns ns' same is all =
    let S : List Session → Type 0 = λ x. All (CanFollow x) ns' in
    let N : List ℕ → Type 0 = λ l. All (CanFollow ss) l in
    subst S (sym same) (subst N (sym is) all)

itself_well : (reply frame : Frame) (old new : LiveState) → AnswersItself reply frame old new
    → All (CanFollow old.state.sessions) (followed_by reply old.followed) → FollowsWell new
itself_well reply frame old new a all =
    let same : new.state.sessions ≡ old.state.sessions = ap (λ (s : State). s.sessions) a.state in
    record {
      followed = all_so old.state.sessions new.state.sessions (followed_by reply old.followed) new.followed same a.followed_now all;
      pending = all_so old.state.sessions new.state.sessions [] new.pending same a.idle (no_number old.state.sessions);
    }

passed_well : (line : List ℕ) (frame : Frame) (old new : LiveState) → meaning_of line ≡ meaning_in (read_line line) → FollowsWell old
    → PassesOn line frame old new → FollowsWell new
passed_well line frame old new means well p =
    let left : All (CanFollow new.state.sessions) (still_followed (ended (meaning_of line) frame) old.followed) =
    still_kept (ended (meaning_of line) frame) old.followed old.state.sessions new.state.sessions well.followed
    (λ n goes_on c. replied_stays n (read_line line) frame old.state new.state p.replied.0
    (λ e. goes_on (ap (λ m. ended m frame) means ∙ e)) c) in
    record {
      followed = all_so new.state.sessions new.state.sessions
          (still_followed (ended (meaning_of line) frame) old.followed) new.followed refl p.followed_now left;
      pending = all_so new.state.sessions new.state.sessions
          (followers (changed_in new.state.book (meaning_of line) frame) new.state.sessions old.followed) new.pending refl p.pending_now
          (pushed_can (meaning_of line) frame new.state.book new.state.sessions old.followed left);
    }

asked_well : (asked : LiveLine) (line : List ℕ) (frame : Frame) (old new : LiveState) → meaning_of line ≡ meaning_in (read_line line)
    → FollowsWell old → LiveTo asked line frame old new → FollowsWell new
asked_well (Follow n) line frame old new means well a = itself_well _ frame old new a
    (followed_more n (session_of n old.state.sessions) old.state.sessions old.followed refl well.followed)
asked_well (Unfollow n) line frame old new means well a = itself_well _ frame old new a
    (followed_less n (is_open n old.state.sessions) old.state.sessions old.followed well.followed)
asked_well (Bad at) line frame old new means well a = itself_well _ frame old new a well.followed
asked_well OtherLine line frame old new means well a = passed_well line frame old new means well a

line_by : (line : List ℕ) (frame : Frame) (old new : LiveState) (test : Bool) → nat_lt 8192 (length line) ≡ test → FollowsWell old
    → LiveReplied (line_text line) frame old new → FollowsWell new
unfolding meaning_of
line_by line frame old new true test well replied =
    let text : line_text line ≡ None = ap (λ (b : Bool). if b then None else Some line) test in
    let L : Option (List ℕ) → Type 0 = λ o. LiveReplied o frame old new in
    let long = subst L text replied in
    let same : new.state.sessions ≡ old.state.sessions = ap (λ (s : State). s.sessions) long.replied.0.state in
    record {
      followed = all_so old.state.sessions new.state.sessions old.followed new.followed same long.followed_same well.followed;
      pending = all_so old.state.sessions new.state.sessions [] new.pending same long.idle (no_number old.state.sessions);
    }
line_by line frame old new false test well replied =
    let text : line_text line ≡ Some line = ap (λ (b : Bool). if b then None else Some line) test in
    let means : meaning_of line ≡ meaning_in (read_line line) = ap (λ (b : Bool). if b then Other else meaning_in (read_line line)) test in
    let L : Option (List ℕ) → Type 0 = λ o. LiveReplied o frame old new in
    asked_well (live_line line) line frame old new means well (subst L text replied)

-- a line that is answered
pub line_well : (line : List ℕ) (frame : Frame) (old new : LiveState) → FollowsWell old → LiveReplied (line_text line) frame old new
    → FollowsWell new
line_well line frame old new well replied = line_by line frame old new (nat_lt 8192 (length line)) refl well replied

-- a push that is made
pub push_well : (frame : Frame) (old new : LiveState) → FollowsWell old → Pushed frame old new → FollowsWell new
push_well frame old new well p =
    let stays : (ns : List ℕ) → All (CanFollow old.state.sessions) ns → All (CanFollow new.state.sessions) ns = λ ns all.
    All-weaker (CanFollow old.state.sessions) (CanFollow new.state.sessions)
    (λ n c. moved n p.session (session_of p.session old.state.sessions) _ frame old.state new.state refl p.replied.0 c) ns all in
    record {
      followed = all_so new.state.sessions new.state.sessions old.followed new.followed refl p.followed_same
          (stays old.followed well.followed);
      pending = stays new.pending (rest-all (CanFollow old.state.sessions) p.session old.pending new.pending p.first well.pending);
    }

-- ---- a push shows a view

-- where a followed view has no filter, none on as many columns needs more coefficients than its client keeps
abbrev pub Fit : Type 0
Fit = (session : Session) (view : ViewSpec) (list : List (Option ℤ)) (axis : Axis) (grid : Grid) (lo hi : ℤ) (keys : List (Key × Coef))
    → FollowsUnfiltered session view → grid.w ≡ view.grid.w → NeededBy list axis grid lo hi keys → length keys ≤ session.cache.capacity

unfiltered : (session : Session) (view : ViewSpec) → session.last ≡ Some view → view.filter ≡ None
    → is_too_large view session.cache.capacity ≡ false → FollowsUnfiltered session view
unfiltered session view last none fits = record {
  last = last;
  unfiltered = none;
  followed = ap (λ l. follow_view session.number session.cache.capacity l) last
      ∙ ap (λ b. if b then too_large (live_bound view.grid.w) session.cache.capacity else LiveOf session.number true) fits;
}

answered_shows : Fit → (f : Option (List FilterStep)) (series : Series) (spec view : ViewSpec) (number : ℕ) (session : Session)
    (frame : Frame) (old new : State) → session_of number old.sessions ≡ Some session → session.last ≡ Some view → view.filter ≡ f
    → is_too_large view session.cache.capacity ≡ false
    → spec.grid.w ≡ view.grid.w → AnswersBy f series spec number frame old new → ShowsView frame
answered_shows fit None series spec view number session frame old new there last none fits wide (inl many) =
    let same : session ≡ many.session = some_same session many.session (sym there ∙ many.open_is) in
    let S : Session → Type 0 = λ s. s.cache.capacity < length many.needed in
    let few = fit session view series.slots (axis_of series) spec.grid many.range.lo many.range.hi many.needed
    (unfiltered session view last none fits) wide many.are_needed in
    absurd (omega (arith, few, subst S (sym same) many.passes))
answered_shows fit None series spec view number session frame old new there last none fits wide (inr a) = subst ShowsView
    (sym a.frame_is) tt
answered_shows fit (Some steps) series spec view number session frame old new there last none fits wide a = subst ShowsView
    (sym a.frame_is) tt

pub push_shows : Fit → (frame : Frame) (old new : LiveState) → FollowsWell old → Pushed frame old new → ShowsView frame
push_shows fit frame old new well p =
    let c : CanFollow old.state.sessions p.session = first-of-all
    (CanFollow old.state.sessions) p.session old.pending new.pending p.first well.pending in
    let window : ViewSpec → ℤ × ℤ = (λ last. (p.last.grid.t0, p.last.grid.t1)) in
    let M : Option Session → Type 0 = λ o. MovesIn o p.session window frame old.state new.state in
    let L : Option ViewSpec → Type 0 = λ l. MovesLast l p.session window frame old.state new.state in
    let moves : Moves c.view p.session p.last.grid.t0 p.last.grid.t1 frame old.state new.state = subst L c.last
    (subst M c.there p.replied.0) in
    elim moves.reply [
      | inl bad ↦ absurd (no_window p.last.grid.t0 p.last.grid.t1 p.last.grid.window bad.0)
      | inr good ↦
          let v = good.1 in
          answered_shows fit c.view.filter moves.series
          (record { series = c.view.series; grid = v.grid; range = c.view.range; filter = c.view.filter }) c.view p.session c.session
          frame old.state new.state c.there c.last refl c.fits v.canvas.columns v.view
    ]
