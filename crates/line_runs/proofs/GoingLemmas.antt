-- How much of an input is done, by what is done of the next line.
use Rattle.std.proofs.Common.{◌≡◌, ◌∙◌, ℕ, ◌+◌, ◌-◌, ◌<◌, ◌≤◌, List, [], ◌∷◌, ◌++◌, length, take, drop, Option, Some, None, IfSome, refl}
use Rattle.std.proofs.Common.{ap, sym, subst, arith, inl, inr, length-append}
use Rattle.std.specs.List.{after_first}
use Rattle.std.proofs.lemmas.List.{take-append-drop, append-nil}
use Rattle.block_disk.specs.Streams.{sent_after, left_after}
use Rattle.block_disk.specs.View.{Image, View, Now, Passes, sent_now}
use Rattle.block_disk.specs.SentLaws.{sent_none, sent_more, sent_is}
use Rattle.chart_world.specs.FrontLaws.{Passed, passes}
use Rattle.chart_world.specs.Fronts.{Gives, IsWhole, first_piece}
use Rattle.chart_world.specs.LineLaws.{no_rest, piece_line, told_so}
use Rattle.chart_world.specs.StandsLaws.{told_with, whole_given}
use Rattle.chart_world.specs.Lines.{NoLineFeed, is_line_feed, lines}
use Rattle.chart_world.specs.Reading.{HasLine, Reading, Took, unread, unread_up_to, told_lines, input_length, NoLineIn}
use Rattle.chart_world.specs.declared.line_answer.LineFault.{LineFault}
use Rattle.chart_world.specs.declared.line_answer.LineFault.TheVariants as fault
use Rattle.line_runs.specs.Carried.{DoesOne}
use Rattle.line_runs.specs.CarriedLaws.{done_more, done_none}
use Rattle.line_runs.specs.Given.{AreBeforeWithin, AreFirstWithin, Given, Line, Pause, End, given_lines, unpaused}
use Rattle.line_runs.specs.GivenLaws.{given_more, given_none, unpaused_joined, unpaused_pause}
use Rattle.line_runs.specs.Moments.{Since, Through}
use Rattle.line_runs.specs.MomentLaws.{since_none, since_then, through_by, through_so}
use Rattle.line_runs.specs.Runs.{AreAll, AreTakenWithin, AreUpTo, FewPauses, IsAheadWithin, Runs, StopsSoWithin}
use Rattle.line_runs.specs.Shown.{PausesSo}
use Rattle.line_runs.specs.declared.lines_stop.LinesStop.TheVariants as stop
use Rattle.line_runs.proofs.PauseLemmas.{Counted, Waits, counted_later, counted_line, few_more, few_paused, few_waits, no_feed, none_ready}
use Rattle.line_runs.proofs.PauseLemmas.{paused_waits}

-- as many bytes were sent as are told
abbrev pub CountsSent : Option (List ℕ) → View → Type 0
CountsSent sent at = IfSome sent (λ bytes. sent_now at ≡ length bytes)

any_input : {P : List ℕ → Type 0} → ((input : List ℕ) → P input) → (o : Option (List ℕ)) → IfSome o P
any_input {P} all None = tt
any_input {P} all (Some input) = all input

any_told : {A : Type 0} → A → (o : Option (List ℕ)) → IfSome o (λ bytes. A)
any_told {A} is None = tt
any_told {A} is (Some bytes) = is

-- so many bytes more were sent
sent_so : (text : List ℕ) (before now : Option (List ℕ)) (start mid : View) → CountsSent before start → CountsSent now mid
    → now ≡ sent_after text before → IfSome before (λ bytes. sent_now mid ≡ sent_now start + length text)
sent_so text None now start mid begins counts is = tt
sent_so text (Some bytes) now start mid begins counts is = sent_is bytes text now (sent_now start) (sent_now mid) begins is counts

-- ---- where the input is told

-- these lines end at so many bytes, these bytes are unread, and there were so few pauses
pub record IsAt (limit : ℕ) (given : List Given) (bytes : Option (List ℕ)) (count : ℕ) (AreFew : Type 0) (input : List ℕ) : Type 0 where
  pub first : AreFirstWithin limit input given
  pub told_rest : bytes ≡ Some first.rest
  pub counted : count ≡ length first.front
  pub few : AreFew

-- before the next line is looked for, while the count of pieces went from one to another
abbrev pub Stands : ℕ → Reading → Option (List ℕ) → ℕ → ℕ → List ℕ → List Given → Type 0
Stands limit r left before now input given = IsAt limit given (unread r left) r.given (Counted (unread r left) before now given) input

-- where it stands ready, or the work was paused
abbrev pub Waiting : ℕ → Reading → Option (List ℕ) → ℕ → ℕ → List ℕ → List Given → Type 0
Waiting limit r left before now input given = IsAt limit given (unread r left) r.given (Waits r (unread r left) before now given) input

abbrev none_given : (limit : ℕ) (input : List ℕ) → AreFirstWithin limit input []
none_given limit input = record {
  front = [];
  rest = input;
  begins = record { split = refl; whole = inl (inl refl) };
  early = omega arith;
  given_are = sym given_none;
}

at_first : (limit : ℕ) (o : Option (List ℕ)) (r : Reading) (pieces : ℕ) → r ≡ unread_up_to limit
    → IfSome o (λ input. Stands limit r o pieces pieces input [])
at_first limit None r pieces fresh = tt
at_first limit (Some input) r pieces fresh =
    let P : Reading → Type 0 = λ x. Stands limit x (Some input) pieces pieces input [] in
    subst P (sym fresh)
    (record { first = none_given limit input; told_rest = refl; counted = refl; few = λ small. inl (omega arith) })

-- it stands ready, or the work was paused
module _ (limit : ℕ) (given : List Given) (r : Reading) (left : Option (List ℕ)) (before now now' : ℕ) (later : now ≤ now')
    (input : List ℕ) (is : Stands limit r left before now input given) where
  ready_at : HasLine r → Waiting limit r left before now' input given
  ready_at has = record {
    first = is.first;
    told_rest = is.told_rest;
    counted = is.counted;
    few = inl (has, counted_later (unread r left) before now now' given later is.few);
  }

  paused_at : (HasLine r → ⊥) → Waiting limit r left before now' input (given ++ Pause ∷ [])
  paused_at none = record {
    first = record {
      front = is.first.front;
      rest = is.first.rest;
      begins = is.first.begins;
      early = is.first.early;
      given_are = unpaused_pause given ∙ is.first.given_are;
    };
    told_rest = is.told_rest;
    counted = is.counted;
    few = inr (
      none,
      (record { earlier = given; given_are = refl }, counted_later (unread r left) before now now' given later is.few),
    );
  }

  pub pause_next : AreBeforeWithin limit input given Pause
  pause_next = record { first = is.first; next_is = tt }

  pub few_stands : FewPauses before now' (given ++ Pause ∷ [])
  few_stands = few_paused (unread r left) before now now' given later is.few

-- a step of the reader gives this line, which ends within the limit
module _ (limit : ℕ) (given : List Given) (r r' : Reading) (left left' line : Option (List ℕ)) (gives : Gives r r' left left' line)
    (early : r'.given ≤ limit) (at : ℕ) (at_is : at ≡ r.given) (before now now' now'' : ℕ) (same_pieces : HasLine r → now' ≡ now)
    (took : (HasLine r → ⊥) → Took now now' (unread r' left')) (later : now ≤ now') (further : now' ≤ now'') (input : List ℕ)
    (is : Waiting limit r left before now input given) where
  it_passes : Passed input is.first.front is.first.rest (unread r' left') r'.given line
  it_passes = passes input is.first.front is.first.rest r r' left left' line is.told_rest is.counted is.first.begins gives

  pub line_next : AreBeforeWithin limit input given (Line at line)
  line_next = record {
    first = is.first;
    next_is = (
      at_is ∙ is.counted,
      record {
        later = lines (after_first is_line_feed is.first.rest);
        lines_are = it_passes.lines_are;
        early = omega (arith, early, it_passes.counted, length-append is.first.front (first_piece is.first.rest));
      },
    );
  }

  pub few_line : FewPauses before now'' (given ++ Line at line ∷ [])
  few_line = few_more before now'' given (Line at line) refl
      (few_waits r (unread r left) before now now'' given (omega (arith, later, further)) is.few)

  pub line_at : Stands limit r' left' before now'' input (given ++ Line at line ∷ [])
  line_at =
      let front = is.first.front ++ first_piece is.first.rest in
      let P : ℕ → Type 0 = λ n. unpaused (given ++ Line n line ∷ []) ≡ given_lines front in
      let same : unpaused (given ++ Line (length is.first.front) line ∷ []) ≡ given_lines front =
      unpaused_joined given (Line (length is.first.front) line ∷ [])
      ∙ ap (λ l. l ++ Line (length is.first.front) line ∷ []) is.first.given_are
      ∙ sym (given_more is.first.front (first_piece is.first.rest) line it_passes.whole
      (piece_line is.first.rest line it_passes.lines_are)) in
      record {
        first = record {
          front = front;
          rest = after_first is_line_feed is.first.rest;
          begins = it_passes.begins;
          early = omega (arith, early, it_passes.counted);
          given_are = subst P (sym (at_is ∙ is.counted)) same;
        };
        told_rest = it_passes.told_rest;
        counted = it_passes.counted;
        few = counted_later (unread r' left') before now' now'' (given ++ Line at line ∷ []) further
            (counted_line r (unread r left) (unread r' left') is.first.rest before now now' at line given is.told_rest it_passes.some
            same_pieces took later is.few);
      }

-- no line is left
module _ (limit : ℕ) (given : List Given) (r : Reading) (left : Option (List ℕ)) (before now now' : ℕ) (later : now ≤ now')
    (none : IfSome (told_lines (unread r left)) (λ all. all ≡ [])) (input : List ℕ) (is : Waiting limit r left before now input given) where
  none_left : is.first.rest ≡ []
  none_left =
      let P : Option (List ℕ) → Type 0 = λ b. IfSome (told_lines b) (λ all. all ≡ []) in
      no_rest is.first.rest (subst P is.told_rest none)

  pub end_next : AreBeforeWithin limit input given End
  end_next = record { first = is.first; next_is = none_left }

  pub few_left : FewPauses before now' (given ++ End ∷ [])
  few_left = few_more before now' given End refl (few_waits r (unread r left) before now now' given later is.few)

  pub end_all : AreAll before now' input (given ++ End ∷ [])
  end_all =
      let all : is.first.front ≡ input =
      sym (is.first.begins.split ∙ ap (λ l. is.first.front ++ l) none_left ∙ append-nil is.first.front) in
      record {
        earlier = given;
        given_are = refl;
        lines_are = is.first.given_are ∙ ap given_lines all;
        paused = paused_waits r (unread r left) before now given (none_ready r left is.first.rest is.told_rest none_left) is.few;
        few = few_left;
      }

-- a fault of the input
module _ (limit : ℕ) (given : List Given) (r r' : Reading) (left left' : Option (List ℕ)) (before now now' : ℕ) (later : now ≤ now')
    (counts : r.taken ≡ r.given + length r.pending) (input : List ℕ) (is : Waiting limit r left before now input given) where
  fault_taken : IsWhole (take r.given input) → NoLineIn (r'.taken - r.given) (unread r left) → r.taken ≤ r'.taken
      → left' ≡ left_after (r'.taken - r.given) (unread r left) → AreTakenWithin limit before now' left' input given
  fault_taken whole none forward after =
      let n = r'.taken - r.given in
      let N : Option (List ℕ) → Type 0 = NoLineIn n in
      let Q : Option (List ℕ) → Type 0 = λ l. AreTakenWithin limit before now' l input given in
      let here : left' ≡ Some (drop n is.first.rest) = after ∙ ap (left_after n) is.told_rest in
      let unended = subst N is.told_rest none in
      subst Q (sym here) (record {
        first = is.first;
        whole = whole_given input is.first.front is.first.rest r.given is.first.begins.split is.counted whole;
        behind = record {
          partial = take n is.first.rest;
          taken = sym (take-append-drop n is.first.rest);
          unended = unended;
        };
        paused = paused_waits r (unread r left) before now given
            (no_feed r left is.first.rest n is.told_rest unended (inl (omega (arith, forward, counts)))) is.few;
        few = few_waits r (unread r left) before now now' given later is.few;
      })

  input_past : (l l' : Option (List ℕ)) (rest : List ℕ) → unread r l ≡ Some rest → input_length r'.taken l' ≡ input_length r.taken l
      → limit < r'.taken → limit < r.given + length rest
  input_past None l' rest is_rest sum past = cc (is_rest)
  input_past (Some l) None rest is_rest sum past = cc (sum)
  input_past (Some l) (Some l') rest is_rest sum past =
      let total_is : r'.taken + length l' ≡ r.taken + length l = cc (sum) in
      let here : r.pending ++ l ≡ rest = cc (is_rest) in
      omega (arith, past, total_is, counts, ap length here, length-append r.pending l)

  fault_within : r.limit ≡ limit → NoLineIn (r.limit - r.given) (unread r left) → r.limit < r'.taken
      → input_length r'.taken left' ≡ input_length r.taken left → AreUpTo limit before now' input given
  fault_within limited none past sum =
      let first = is.first in
      let N : Option (List ℕ) → Type 0 = NoLineIn (limit - r.given) in
      let R : ℕ → Type 0 = λ n. NoLineIn (n - r.given) (unread r left) in
      let M : ℕ → Type 0 = λ n. NoLineFeed (take (limit - n) first.rest) in
      let unended = subst N is.told_rest (subst R limited none) in
      record {
        first = first;
        unended = subst M is.counted unended;
        past = omega (
          arith,
          input_past left left' first.rest is.told_rest sum (omega (arith, limited, past)),
          ap length first.begins.split,
          length-append first.front first.rest,
          is.counted,
        );
        paused = paused_waits r (unread r left) before now given
            (no_feed r left first.rest (limit - r.given) is.told_rest unended (inr (omega (arith, limited)))) is.few;
        few = few_waits r (unread r left) before now now' given later is.few;
      }

-- ---- what was done

module _ {State : Type 0} (limit : ℕ) (does : State → Given → List ℕ → State → Type 0) (rests : State → Image → Type 0)
    (leaves : State → Given → ℕ → Image → ℕ → Type 0) (state : State) (o : Option (List ℕ)) where
  -- this was done, and it is so of the input
  abbrev pub Going : (List ℕ → List Given → Type 0) → (State → Type 0) → Option (List ℕ) → Option (List ℕ) → Type 0
  Going AreSo IsNow before now = Runs does state AreSo IsNow o before now

  abbrev pub Ahead : Option (List ℕ) → View → Image → ℕ → Type 0
  Ahead before start = IsAheadWithin limit does rests leaves state o before (sent_now start)

  abbrev pub Lasts : Option (List ℕ) → View → View → Type 0
  Lasts before start at = Since start at (Ahead before start)

  -- before the first line
  pub going_first : (IsNow : State → Type 0) (r : Reading) (pieces : ℕ) (before : Option (List ℕ)) → r ≡ unread_up_to limit → IsNow state
      → Going (Stands limit r o pieces pieces) IsNow before before
  going_first IsNow r pieces before fresh stands =
      record { done = done_none does state; are = at_first limit o r pieces fresh; stands = stands; sent = sent_none before }

  pub lasts_first : (before : Option (List ℕ)) (at : View) → ((image : Image) → Now at image → rests state image) → Lasts before at at
  lasts_first before at now =
      let same : sent_now at ≡ sent_now at + 0 = omega arith in
      since_none at (Ahead before at) (λ image left. record {
        done = done_none does state;
        is = inl (record { are = any_input (none_given limit) o; rests_so = now image left; sent_is = any_told same before });
      })

  -- the work was paused, unless a line stood ready, and then there was a take
  waiting_here : (IsNow IsThen IsTaken : State → Type 0) (r : Reading) (left : Option (List ℕ)) (pieces now now' : ℕ)
      (before sent sent' sent'' : Option (List ℕ)) → now ≤ now' → ((s : State) → IsThen s → IsTaken s) → sent'' ≡ sent'
      → (g : Going (Stands limit r left pieces now) IsNow before sent) → PausesSo r does IsThen g.done.behind sent sent'
      → Going (Waiting limit r left pieces now') IsTaken before sent''
  waiting_here IsNow IsThen IsTaken r left pieces now now' before sent sent' sent'' later more kept g (inl (has, stands, same)) =
      let given = g.done.given in
      record {
        done = g.done;
        are = told_so (λ input. Stands limit r left pieces now input given) (λ input. Waiting limit r left pieces now' input given) o
            (λ input is. ready_at limit given r left pieces now now' later input is has) g.are;
        stands = more g.done.behind stands;
        sent = kept ∙ same ∙ g.sent;
      }
  waiting_here IsNow IsThen IsTaken r left pieces now now' before sent sent' sent'' later more kept g (inr (none, did)) =
      let given = g.done.given in
      record {
        done = done_more does g.done Pause did.text did.behind did.done;
        are = told_so (λ input. Stands limit r left pieces now input given)
            (λ input. Waiting limit r left pieces now' input (given ++ Pause ∷ [])) o
            (λ input is. paused_at limit given r left pieces now now' later input is none) g.are;
        stands = more did.behind did.stands;
        sent = kept ∙ sent_more g.done.text did.text before sent sent' g.sent did.sent;
      }

  pub waiting : (IsNow IsThen IsTaken : State → Type 0) (r : Reading) (left left' : Option (List ℕ)) (pieces now now' : ℕ)
      (before sent sent' sent'' : Option (List ℕ)) → left' ≡ left → now ≤ now' → ((s : State) → IsThen s → IsTaken s) → sent'' ≡ sent'
      → (g : Going (Stands limit r left pieces now) IsNow before sent) → PausesSo r does IsThen g.done.behind sent sent'
      → Going (Waiting limit r left' pieces now') IsTaken before sent''
  waiting IsNow IsThen IsTaken r left left' pieces now now' before sent sent' sent'' same later more kept g paused =
      let G : Option (List ℕ) → Type 0 = λ l. Going (Waiting limit r l pieces now') IsTaken before sent'' in
      subst G (sym same)
      (waiting_here IsNow IsThen IsTaken r left pieces now now' before sent sent' sent'' later more kept g paused)

  module _ (AreSo : List ℕ → List Given → Type 0) (IsNow : State → Type 0) (before now : Option (List ℕ))
      (g : Going AreSo IsNow before now) where
    -- what is so of such an input
    all_so : (P : List ℕ → Type 0) → ((input : List ℕ) → AreSo input g.done.given → P input) → IfSome o P
    all_so P so = told_so (λ input. AreSo input g.done.given) P o so g.are

    -- meanwhile a take
    pub lasts_take : ((input : List ℕ) → AreSo input g.done.given → AreFirstWithin limit input g.done.given) → (start mid taken : View)
        → CountsSent before start → CountsSent now mid → ((image : Image) → Now mid image → rests g.done.behind image)
        → Passes mid taken (Now mid) (λ n. n ≡ sent_now mid) → Lasts before start mid → Lasts before start taken
    lasts_take first start mid taken begins counts quiet time lasts =
        since_then start mid taken (Ahead before start) lasts
        (through_by mid taken (Now mid) (λ n. n ≡ sent_now mid) (Ahead before start) time (λ image n left same.
        let C : ℕ → Type 0 = λ m. IfSome before (λ bytes. m ≡ sent_now start + length g.done.text) in
        record {
          done = g.done;
          is = inl (record {
            are = all_so (λ input. AreFirstWithin limit input g.done.given) first;
            rests_so = quiet image left;
            sent_is = subst C (sym same) (sent_so g.done.text before now start mid begins counts g.sent);
          });
        }))

    -- what is given next was done
    pub going_one : (AreThen : List ℕ → List Given → Type 0) (IsThen : State → Type 0) (next : Given) (later : Option (List ℕ))
        → ((input : List ℕ) → AreSo input g.done.given → AreThen input (g.done.given ++ next ∷ []))
        → DoesOne does IsThen g.done.behind next now later → Going AreThen IsThen before later
    going_one AreThen IsThen next later moves did = record {
      done = done_more does g.done next did.text did.behind did.done;
      are = all_so (λ input. AreThen input (g.done.given ++ next ∷ [])) moves;
      stands = did.stands;
      sent = sent_more g.done.text did.text before now later g.sent did.sent;
    }

    -- it stopped the work
    pub one_stops : {E : Type 0} (stops : State → Given → E → Option (List ℕ) → Type 0) (IsThen : State → Type 0) (next : Given)
        (left' later : Option (List ℕ)) (pieces pieces' : ℕ) (end : E)
        → ((input : List ℕ) → AreSo input g.done.given → AreBeforeWithin limit input g.done.given next)
        → ((input : List ℕ) → AreSo input g.done.given → FewPauses pieces pieces' (g.done.given ++ next ∷ []))
        → stops g.done.behind next end now
        → StopsSoWithin limit does stops IsThen state o left' before later pieces pieces' (stop.Work end)
    one_stops {E} stops IsThen next left' later pieces pieces' end moves few why =
        let Q : Option (List ℕ) → Type 0 = λ sent. stops g.done.behind next end sent in
        record {
          done = g.done;
          next = next;
          are = all_so (λ input. AreBeforeWithin limit input g.done.given next) moves;
          few = all_so (λ input. FewPauses pieces pieces' (g.done.given ++ next ∷ [])) few;
          why = subst Q g.sent why;
        }

    -- what it leaves meanwhile
    pub lasts_one : (next : Given) (start mid new : View) → CountsSent before start → CountsSent now mid
        → ((input : List ℕ) → AreSo input g.done.given → AreBeforeWithin limit input g.done.given next)
        → Through mid new (leaves g.done.behind next (sent_now mid)) → Lasts before start mid → Lasts before start new
    lasts_one next start mid new begins counts moves through lasts =
        since_then start mid new (Ahead before start) lasts
        (through_so mid new (leaves g.done.behind next (sent_now mid)) (Ahead before start) (λ image n is. record {
          done = g.done;
          is = inr (record {
            next = next;
            are = all_so (λ input. AreBeforeWithin limit input g.done.given next) moves;
            begun = sent_now mid;
            begun_is = sent_so g.done.text before now start mid begins counts g.sent;
            leaves_so = is;
          });
        }) through)

  -- at a fault of the input
  pub fault_stops : {E : Type 0} (stops : State → Given → E → Option (List ℕ) → Type 0) (IsNow : State → Type 0)
      (before sent : Option (List ℕ)) (r r' : Reading) (left left' : Option (List ℕ)) (pieces now now' : ℕ) (f : LineFault)
      → r.limit ≡ limit → (f ≡ fault.ReadFault → IfSome o (λ input. IsWhole (take r.given input)))
      → (f ≡ fault.ReadFault → NoLineIn (r'.taken - r.given) (unread r left))
      → (f ≡ fault.InputTooLong → NoLineIn (r.limit - r.given) (unread r left)) → (f ≡ fault.InputTooLong → r.limit < r'.taken)
      → left' ≡ left_after (r'.taken - r.given) (unread r left) → r.taken ≡ r.given + length r.pending → r.taken ≤ r'.taken
      → input_length r'.taken left' ≡ input_length r.taken left → now ≤ now' → Going (Waiting limit r left pieces now) IsNow before sent
      → StopsSoWithin limit does stops IsNow state o left' before sent pieces now' (stop.Fault f)
  fault_stops {E} stops IsNow before sent r r' left left' pieces now now' fault.ReadFault limited whole none_read none_past past after
      counts
      forward sum later g =
      let given = g.done.given in
      record {
        done = g.done;
        are = told_with (λ input. Waiting limit r left pieces now input given) (λ input. IsWhole (take r.given input))
            (λ input. AreTakenWithin limit pieces now' left' input given) o
            (λ input w is. fault_taken limit given r r' left left' pieces now now' later counts input is w (none_read refl) forward after)
            (whole refl) g.are;
        stands = g.stands;
        sent = g.sent;
      }
  fault_stops {E} stops IsNow before sent r r' left left' pieces now now' fault.InputTooLong limited whole none_read none_past past after
      counts
      forward sum later g =
      let given = g.done.given in
      record {
        done = g.done;
        are = told_so (λ input. Waiting limit r left pieces now input given) (λ input. AreUpTo limit pieces now' input given) o
            (λ input is. fault_within limit given r r' left left' pieces now now' later counts input is limited (none_past refl)
            (past refl) sum)
            g.are;
        stands = g.stands;
        sent = g.sent;
      }
