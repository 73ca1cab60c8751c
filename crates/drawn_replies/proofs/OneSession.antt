-- A client that is sent the frames of one session alone.
use Rattle.std.proofs.Common.{ℕ, ◌≡◌, inl, inr, Bool, true, false, List, [], ◌∷◌, ◌++◌, map, Option, None, Some, refl, sym, ap, ◌∙◌, subst}
use Rattle.std.specs.List.{filter}
use Rattle.line_raster.specs.Canvas.{Canvas}
use Rattle.zoom_session.specs.Sessions.{is_open, session_of, last_of, fresh_session, without as sessions_without}
use Rattle.chart_client.specs.declared.holding.Holding.{Holding}
use Rattle.chart_frames.specs.declared.frame.Frame.{Frame}
use Rattle.chart_frames.specs.declared.frame.Frame.TheVariants.{Done, Refused, Opened, Closed, View, Rows, Live, Report}
use Rattle.chart_service.specs.State.{State, IsSound}
use Rattle.chart_service.specs.Viewing.{Answers, AnswersRows}
use Rattle.chart_service.specs.Serving.{RepliesToAll}
use Rattle.chart_service.specs.Alone.{only, alone}
use Rattle.chart_service.proofs.Standing.{only_open, only_without, only_more, other_more, other_without, other_viewed, only_session}
use Rattle.chart_service.proofs.Standing.{own_answers, own_rows, alone_sound}
use Rattle.chart_client.specs.declared.errors.ClientError.{ClientError}
use Rattle.chart_client.specs.declared.errors.ClientError.TheVariants.{NoMemory}
use Rattle.chart_client.specs.Accepting.{Accepts, Rejects}
use Rattle.drawn_replies.specs.Mirrors.{mirrored, Mirrors, IsPictureOf}
use Rattle.drawn_replies.specs.Pictures.{AcceptsAll, names, AreOwnPictured, NoneRejected}
use Rattle.drawn_replies.specs.Sent.{FollowsOwn}
use Rattle.drawn_replies.proofs.Agreement.{Laws}
use Rattle.drawn_replies.proofs.Holders.{same-number}
use Rattle.drawn_replies.proofs.Steps.{IsQuiet, OpenStep, CloseStep, ViewStep, RowsStep, Step, step-of}
use Rattle.drawn_replies.proofs.Mirroring.{follows-step}
use Rattle.drawn_replies.proofs.Sending.{AllFollow, follow_one, next, none_rejected}

-- a frame that says nothing of sessions is of none
quiet-unnamed : (n : ℕ) (frame : Frame) → IsQuiet frame → names n frame ≡ false
quiet-unnamed n frame (inl r) = ap (names n) r.3
quiet-unnamed n frame (inr d) = ap (names n) d.1

not-both : (b : Bool) → b ≡ true → b ≡ false → ⊥
not-both b holds fails = cc

-- the step of a frame of the session, where the other sessions aren't
own-open : (n : ℕ) (frame : Frame) (old new : State) → (o : OpenStep frame old new) → o.number ≡ n
    → OpenStep frame (alone n old) (alone n new)
own-open n frame old new o same = record {
  number = n;
  size = o.size;
  is = o.is ∙ ap (λ k. Opened k o.size) same;
  absent = only_open n old.sessions ∙ ap (λ k. is_open k old.sessions) (sym same) ∙ o.absent;
  sessions = ap (only n) o.sessions ∙ ap (λ k. only n (old.sessions ++ fresh_session k o.size ∷ [])) same ∙ only_more n o.size old.sessions;
}

own-close : (n : ℕ) (frame : Frame) (old new : State) → (c : CloseStep frame old new) → c.number ≡ n
    → CloseStep frame (alone n old) (alone n new)
own-close n frame old new c same = record {
  number = n;
  is = c.is ∙ ap (λ k. Closed k) same;
  there = only_open n old.sessions ∙ ap (λ k. is_open k old.sessions) (sym same) ∙ c.there;
  sessions = ap (only n) c.sessions ∙ ap (λ k. only n (sessions_without k old.sessions)) same ∙ only_without n old.sessions;
}

own-view : (n : ℕ) (frame : Frame) (old new : State) → (v : ViewStep frame old new) → v.number ≡ n
    → ViewStep frame (alone n old) (alone n new)
own-view n frame old new v same = record {
  series = v.series;
  spec = v.spec;
  number = n;
  stored = v.stored;
  answers = own_answers n v.series v.spec frame old new (subst (λ k. Answers v.series v.spec k frame old new) same v.answers);
}

own-rows : (n : ℕ) (frame : Frame) (old new : State) → (r : RowsStep frame old new) → r.number ≡ n
    → RowsStep frame (alone n old) (alone n new)
own-rows n frame old new r same = record {
  series = r.series;
  spec = r.spec;
  number = n;
  stored = r.stored;
  answers = own_rows n r.series r.spec frame old new (subst (λ k. AnswersRows r.series r.spec k frame old new) same r.answers);
}

own-step : (n : ℕ) (frame : Frame) (old new : State) → names n frame ≡ true → Step frame old new → Step frame (alone n old) (alone n new)
own-step n frame old new named (inl quiet) = absurd (not-both (names n frame) named (quiet-unnamed n frame quiet.quiet))
own-step n frame old new named (inr (inl o)) = inr (inl
    (own-open n frame old new o (same-number o.number n (ap (names n) (sym o.is) ∙ named))))
own-step n frame old new named (inr (inr (inl c))) = inr
    (inr (inl (own-close n frame old new c (same-number c.number n (ap (names n) (sym c.is) ∙ named)))))
own-step n frame old new named (inr (inr (inr (inl v)))) = inr
    (inr (inr (inl (own-view n frame old new v (same-number v.number n (ap (names n) (sym v.answers.frame_is) ∙ named))))))
own-step n frame old new named (inr (inr (inr (inr r)))) = inr
    (inr (inr (inr (own-rows n frame old new r (same-number r.number n (ap (names n) (sym r.answers.frame_is) ∙ named))))))

-- the step of another frame leaves the session
other-step : (n : ℕ) (frame : Frame) (old new : State) → names n frame ≡ false → Step frame old new
    → only n new.sessions ≡ only n old.sessions
other-step n frame old new other (inl quiet) = ap (only n) quiet.sessions
other-step n frame old new other (inr (inl o)) = ap (only n) o.sessions
    ∙ other_more n o.number o.size old.sessions (ap (names n) (sym o.is) ∙ other)
other-step n frame old new other (inr (inr (inl c))) = ap (only n) c.sessions
    ∙ other_without n c.number old.sessions (ap (names n) (sym c.is) ∙ other)
other-step n frame old new other (inr (inr (inr (inl v)))) =
    ap (λ s. only n s.sessions) v.answers.state
    ∙ other_viewed n v.number v.spec (Some v.answers.needed) old.sessions (ap (names n) (sym v.answers.frame_is) ∙ other)
other-step n frame old new other (inr (inr (inr (inr r)))) =
    ap (λ s. only n s.sessions) r.answers.state
    ∙ other_viewed n r.number r.spec None old.sessions (ap (names n) (sym r.answers.frame_is) ∙ other)

-- the picture of a frame of the session doesn't depend on the other sessions
pub picture-alone : (n : ℕ) (f : Frame) (d : Option Canvas) (old new : State) → names n f ≡ true
    → IsPictureOf (alone n old) (alone n new) f d → IsPictureOf old new f d
picture-alone n (Done slots) d old new named picture = picture
picture-alone n (Refused number a b) d old new named picture = picture
picture-alone n (Opened number size) d old new named picture = picture
picture-alone n (Closed number) d old new named picture = picture
picture-alone n (View view) None old new named picture = picture
picture-alone n (View view) (Some drawing) old new named picture = picture
picture-alone n (Rows rows) None old new named picture = picture
picture-alone n (Rows rows) (Some drawing) old new named picture =
    let is : rows.session ≡ n = same-number rows.session n named in
    record {
      spec = picture.spec;
      answered = ap (λ k. last_of (session_of k new.sessions)) is ∙ ap last_of (sym (only_session n new.sessions))
          ∙ ap (λ k. last_of (session_of k (only n new.sessions))) (sym is) ∙ picture.answered;
      series = picture.series;
      stored = picture.stored;
      shows = picture.shows;
    }
picture-alone n (Live number on) d old new named picture = picture
picture-alone n (Report report) d old new named picture = picture

-- behind a frame of the session
own-mirrors : Laws → (n : ℕ) (f : Frame) (d : Option Canvas) (old between : State) (holdings next : List Holding) → IsSound old
    → names n f ≡ true
    → Step f old between → Mirrors (only n old.sessions) holdings → Accepts f d holdings next
    → Mirrors (only n between.sessions) next × IsPictureOf old between f d
own-mirrors laws n f d old between holdings next sound named step m a =
    let drawn = (follows-step laws f (alone n old) (alone n between) holdings (alone_sound n old sound)
    (own-step n f old between named step) m).0 d next a in
    (drawn.0, picture-alone n f d old between named drawn.1)

-- nothing but want of memory keeps it from a frame of the session
own_lacks : Laws → (n : ℕ) (f : Frame) (old between : State) (h : List Holding) (e : ClientError) → IsSound old → names n f ≡ true
    → Step f old between → Mirrors (only n old.sessions) h → Rejects f e h → e ≡ NoMemory
own_lacks laws n f old between h e sound named step m r =
    (follows-step laws f (alone n old) (alone n between) h (alone_sound n old sound) (own-step n f old between named step) m).1 e r

-- what the client of the session does with the frame of a step
pub own_follows : Laws → (n : ℕ) (f : Frame) (old new : State) → IsSound old → Step f old new → FollowsOwn n f old new
own_follows laws n f old new sound step = record {
  draws = λ named h m d now a. own-mirrors laws n f d old new h now sound named step m a;
  accepts = λ named h m e r. own_lacks laws n f old new h e sound named step m r;
  stays = λ other. other-step n f old new other step;
}

pub follows_own : Laws → (n : ℕ) (lines : List (Option (List ℕ))) (frames : List Frame) (drawings : List (Option Canvas)) (old new : State)
    (holdings now : List Holding) → IsSound old → RepliesToAll old lines frames new → Mirrors (only n old.sessions) holdings
    → AcceptsAll holdings (filter (names n) frames) drawings now
    → AreOwnPictured n old lines frames drawings new × Mirrors (only n new.sessions) now
follows_own laws n [] [] [] old new holdings now sound all m a =
    let P : State → Type 0 = λ s. Mirrors (only n s.sessions) now in
    let Q : List Holding → Type 0 = λ h. Mirrors (only n old.sessions) h in
    ((refl, refl, all), subst P (sym all) (subst Q (sym a) m))
follows_own laws n [] [] (d ∷ ds) old new holdings now sound all m a = absurd a
follows_own laws n [] (f ∷ fs) drawings old new holdings now sound all m a = absurd all
follows_own laws n (l ∷ ls) [] drawings old new holdings now sound all m a = absurd all
follows_own laws n (l ∷ ls) (f ∷ fs) drawings old new holdings now sound all m a =
    let follows = own_follows laws n f old all.0 sound (step-of l f old all.0 all.1.0) in
    let one = next (names n) (only n) f fs old all.0 (IsPictureOf old all.0 f) drawings holdings now follows m a in
    let later = follows_own laws n ls fs one.later all.0 new one.holdings now all.1.2 all.2 one.mirrors one.others in
    ((all.0, all.1.0, one.drawn, one.later, one.drawings_are, one.is, later.0), later.1)

-- ---- no frame of the session is rejected

all_follow : Laws → (n : ℕ) (lines : List (Option (List ℕ))) (frames : List Frame) (old new : State) → IsSound old
    → RepliesToAll old lines frames new
    → AllFollow (names n) (only n) old frames new
all_follow laws n [] [] old new sound all = all
all_follow laws n [] (f ∷ fs) old new sound all = absurd all
all_follow laws n (l ∷ ls) [] old new sound all = absurd all
all_follow laws n (l ∷ ls) (f ∷ fs) old new sound all =
    follow_one (names n) (only n) f fs old all.0 new (IsPictureOf old all.0 f)
    (own_follows laws n f old all.0 sound (step-of l f old all.0 all.1.0))
    (all_follow laws n ls fs all.0 new all.1.2 all.2)

-- a client accepts all frames of the session, from the first one on
pub own_accepted : Laws → (n : ℕ) (lines : List (Option (List ℕ))) (frames : List Frame) (old new : State) → IsSound old → old.sessions ≡ []
    → RepliesToAll old lines frames new → NoneRejected (filter (names n) frames)
own_accepted laws n lines frames old new sound none all = λ front behind frame drawings holdings e is a r.
    none_rejected (names n) (only n) frames front behind frame drawings old new [] holdings e
    (all_follow laws n lines frames old new sound all)
    (ap (λ ss. map mirrored (only n ss)) (sym none)) is a r
