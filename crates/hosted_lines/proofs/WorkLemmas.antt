-- What calls of a host are for its work on lines.
use Rattle.std.proofs.Common.{◌≡◌, ◌∙◌, ℕ, List, [], ◌∷◌, ◌++◌, length, Option, None, Some, Result, Ok, Err, IfSome, refl, ap, sym, subst}
use Rattle.std.proofs.Common.{inl, arith}
use Rattle.std.specs.Prelude.{OnOk, IfErr}
use Rattle.std.proofs.lemmas.List.{append-nil}
use Rattle.block_disk.specs.View.{View, sent_now}
use Rattle.block_disk.specs.SentLaws.{sent_none}
use Rattle.chart_service.specs.EditGroups.{SpellEdits, SpellsEdit}
use Rattle.chart_service.specs.Moments.{Through}
use Rattle.chart_service.specs.Serving.{unless_empty}
use Rattle.chart_service.specs.Syncing.{edit_of, edits_of}
use Rattle.chart_service.specs.State.{IsSound}
use Rattle.chart_service.specs.Stepping.{state_of}
use Rattle.line_runs.specs.Carried.{DoesOne}
use Rattle.line_runs.specs.Given.{Given, Line, Pause, End as EndOf}
use Rattle.line_runs.specs.Moments as runs
use Rattle.run_ends.specs.declared.ending.End.{End}
use Rattle.run_ends.specs.declared.ending.End.TheVariants.{NoMemory}
use Rattle.series_book.specs.declared.edits.Edit.{Edit}
use Rattle.series_book.specs.declared.one_series.Series.{Series}
use Rattle.served_lines.specs.Turning.{lines_of, pauses_of}
use Rattle.hosted_lines.specs.Doing.{Held, held_with}
use Rattle.hosted_lines.specs.Groups.{GroupsBy}
use Rattle.hosted_lines.specs.Hosting.{DoesHost, HostMoment}
use Rattle.hosted_lines.specs.Hosts.{groups_in, lines_in}
use Rattle.hosted_lines.specs.Lives.{spelled}
use Rattle.hosted_lines.specs.Working.{AreTold, Does, Hosted, IsHosted, KeepsNone, Leaves, Stops, Turn, counted_of, live_at}
use Rattle.hosted_lines.proofs.CountLemmas.{by_fewer, by_none}
use Rattle.hosted_lines.proofs.HostLemmas.{begun_none}

-- what holds of the book and the sessions
pub sound_of : {hosted : Hosted} {edits : List Edit} {told : Type 0} {view : View} {held : Held} {before : Option (List ℕ)}
    → IsHosted hosted edits told view held before → IsSound (state_of hosted.book hosted.total held.sessions)
sound_of {hosted} {edits} {told} {view} {held} {before} is = let S : Held
    → Type 0 = λ h. IsSound (state_of hosted.book hosted.total h.sessions) in subst S is.held_is is.sound

-- what stands, in the words of what it stands for
abbrev pub hosted_at : ℕ → List Series → Held → ℕ → ℕ → List (Option (List ℕ)) → Option (List ℕ) → Hosted
hosted_at total book held reads syncs ahead sent =
    record { total = total; book = book; held = held; reads = reads; syncs = syncs; ahead = ahead; sent = sent }

hosted_is : (h : Hosted) (held : Held) (reads syncs : ℕ) (sent : Option (List ℕ)) → h.held ≡ held → h.reads ≡ reads → h.syncs ≡ syncs
    → h.sent ≡ sent → h ≡ hosted_at h.total h.book held reads syncs h.ahead sent
hosted_is h held reads syncs sent one two three four = λ i. hosted_at h.total h.book (one i) (two i) (three i) h.ahead (four i)

pub none_kept : (it : Given) → KeepsNone it []
none_kept (Line at line) = tt
none_kept Pause = refl
none_kept EndOf = tt

module _ (hosted : Hosted) (edits : List Edit) (told : Type 0) (view : View) (held : Held) (before : Option (List ℕ))
    (is : IsHosted hosted edits told view held before) where
  abbrev here : Hosted
  here = hosted_at hosted.total hosted.book held view.reads view.syncs hosted.ahead before

  here_is : hosted ≡ here
  here_is = hosted_is hosted held view.reads view.syncs before is.held_is is.reads_are is.syncs_are is.sent_is

  -- ---- calls that settle what was kept back, and what is given behind it

  module _ (it : Given) (view' : View) (held' : Held) (now : Option (List ℕ)) where
    done_here : (told' : Type 0) → told' → held'.pending ≡ [] → GroupsBy (hosted.ahead ++ lines_of it) 1 (pauses_of it)
        → {T : Type 0} (v : T) → DoesHost {T = T} 1 (hosted.ahead ++ lines_of it) hosted.total (held_with hosted.total hosted.book held)
        (Ok v) view view' held' before now → DoesOne Does (λ h. IsHosted h [] told' view' held' now) here it before now
    done_here told' holds idle by {T} v does =
        let d = does.done in
        record {
          text = spelled d.frames;
          behind = hosted_at hosted.total d.book held' view'.reads view'.syncs [] now;
          done = (
            record {
              events = d.events;
              split = sym d.lines_are ∙ sym (append-nil (lines_in d.events));
              frames = d.frames;
              happened = d.happened;
              groups = by_fewer (hosted.ahead ++ lines_of it) (lines_in d.events) 1 (groups_in d.events)
                  (pauses_of it) d.lines_are d.few by;
              text_is = refl;
              sent_is = d.sent;
              total_is = refl;
            },
            none_kept it,
          );
          stands = record {
            told_so = holds;
            stands = d.stands;
            sound = d.sound;
            held_is = refl;
            idle = idle;
            spell = tt;
            sent_is = refl;
            reads_are = refl;
            syncs_are = refl;
          };
          sent = d.sent;
        }

    pub host_does : (told' : Type 0) → told' → (edits' : List Edit) → edits' ≡ [] → GroupsBy (hosted.ahead ++ lines_of it) 1 (pauses_of it)
        → {T : Type 0} (result : Result T End) → OnOk result (held'.pending ≡ [])
        → DoesHost {T = T} 1 (hosted.ahead ++ lines_of it) hosted.total
        (held_with hosted.total hosted.book held) result view view' held' before now
        → OnOk result (DoesOne Does (λ h. IsHosted h edits' told' view' held' now) hosted it before now)
    host_does told' holds edits' none by {T} (Ok v) idle does =
        let P : Hosted → Type 0 = λ h. DoesOne Does (λ x. IsHosted x edits' told' view' held' now) h it before now in
        let E : List Edit → Type 0 = λ l. DoesOne Does (λ x. IsHosted x l told' view' held' now) here it before now in
        subst P (sym here_is) (subst E (sym none) (done_here told' holds idle by v does))
    host_does told' holds edits' none by {T} (Err end) idle does = tt

    pub host_stops : {T : Type 0} (result : Result T End)
        → DoesHost {T = T} 1 (hosted.ahead ++ lines_of it) hosted.total
        (held_with hosted.total hosted.book held) result view view' held' before now
        → IfErr result (λ end. Stops hosted it view'.image now view'.reads view'.syncs end)
    host_stops {T} (Ok v) does = tt
    host_stops {T} (Err end) does =
        let P : Hosted → Type 0 = λ h. Stops h it view'.image now view'.reads view'.syncs end in
        subst P (sym here_is) (record { why = does.stops; cost = does.cost })

    moments_here : (o : Option (List ℕ)) → AreTold o
        → IfSome o (λ bytes. Through view view' (HostMoment (hosted.ahead ++ lines_of it) hosted.total
        (held_with hosted.total hosted.book held) (sent_now view))) → runs.Through view view' (Leaves here it (sent_now view))
    moments_here None lasts m = absurd lasts
    moments_here (Some bytes) lasts m = record { goes = m.goes; here = m.here }

    pub host_leaves : AreTold hosted.sent → {T : Type 0} (result : Result T End)
        → DoesHost {T = T} 1 (hosted.ahead ++ lines_of it) hosted.total
        (held_with hosted.total hosted.book held) result view view' held' before now
        → runs.Through view view' (Leaves hosted it (sent_now view))
    host_leaves lasts {T} result does =
        let P : Hosted → Type 0 = λ h. runs.Through view view' (Leaves h it (sent_now view)) in
        subst P (sym here_is) (moments_here before (subst AreTold is.sent_is lasts) does.moments)

  -- ---- what is given is kept back, or is nothing

  module _ (it : Given) where
    turn_kept : (ahead : List (Option (List ℕ))) → hosted.ahead ++ lines_of it ≡ ahead
        → Turn here (lines_of it) (pauses_of it) [] (hosted_at hosted.total hosted.book held view.reads view.syncs ahead before)
    turn_kept ahead same = record {
      events = [];
      split = same;
      frames = [];
      happened = (refl, refl);
      groups = by_none (pauses_of it);
      text_is = refl;
      sent_is = sent_none before;
      total_is = refl;
    }

    kept_here : (ahead : List (Option (List ℕ))) (edits' : List Edit) → hosted.ahead ++ lines_of it ≡ ahead → KeepsNone it ahead
        → SpellEdits ahead edits' → DoesOne Does (λ h. IsHosted h edits' told view held before) here it before before
    kept_here ahead edits' same none spell = record {
      text = [];
      behind = hosted_at hosted.total hosted.book held view.reads view.syncs ahead before;
      done = (turn_kept ahead same, none);
      stands = record {
        told_so = is.told_so;
        stands = is.stands;
        sound = sound_of is;
        held_is = refl;
        idle = idle_here;
        spell = spell;
        sent_is = refl;
        reads_are = refl;
        syncs_are = refl;
      };
      sent = sent_none before;
    }
      where
        idle_here : held.pending ≡ []
        idle_here = sym (ap (λ (h : Held). h.pending) is.held_is) ∙ is.idle

    pub host_keeps : (ahead : List (Option (List ℕ))) (edits' : List Edit) → hosted.ahead ++ lines_of it ≡ ahead → KeepsNone it ahead
        → SpellEdits ahead edits' → DoesOne Does (λ h. IsHosted h edits' told view held before) hosted it before before
    host_keeps ahead edits' same none spell =
        let P : Hosted → Type 0 = λ h. DoesOne Does (λ x. IsHosted x edits' told view held before) h it before before in
        subst P (sym here_is) (kept_here ahead edits' same none spell)

    -- there was no memory
    pub host_lacks : Stops hosted it view.image before view.reads view.syncs NoMemory
    host_lacks =
        let P : Hosted → Type 0 = λ h. Stops h it view.image before view.reads view.syncs NoMemory in
        subst P (sym here_is) (record {
          why = record {
            shown = [];
            more = [];
            few = omega arith;
            state = live_at here;
            begun = begun_none (hosted.ahead ++ lines_of it) (live_at here);
            stands = inl is.stands;
            sent = sent_none before;
          };
          cost = record {
            events = [];
            rest = hosted.ahead ++ lines_of it;
            split = refl;
            frames = [];
            state = counted_of here;
            happened = (refl, refl);
            few = omega arith;
            last = inl (refl, refl);
          };
        })

-- a line that spells an edit, and one that is empty
pub line_spells : (line : List ℕ) (edit : Edit) → SpellsEdit (Some line) edit → unless_empty (Some line) ≡ Some line ∷ []
line_spells [] edit spells = absurd spells
line_spells (byte ∷ bytes) edit spells = refl

pub none_said : (line : List ℕ) → length line ≡ 0 → unless_empty (Some line) ≡ []
none_said [] none = refl
none_said (byte ∷ bytes) none = absurd (omega (arith, none))

-- a line that spells no edit
pub no_edits : (line : List ℕ) → edit_of (Some line) ≡ [] → edits_of (unless_empty (Some line)) ≡ []
no_edits [] none = refl
no_edits (byte ∷ bytes) none = ap (λ l. l ++ []) none
