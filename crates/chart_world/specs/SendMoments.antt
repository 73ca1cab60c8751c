-- Moments of sends.
use Rattle.std.proofs.Common.{◌≡◌, ℕ, suc, ◌+◌, ◌-◌, ◌≤◌, ◌<◌, Bool, true, false, cond, ltb, List, [], ◌∷◌, ◌++◌, length, refl, sym, ap}
use Rattle.std.proofs.Common.{subst, arith, ◌∙◌, length-append, zero, get_or}
use Rattle.std.proofs.lemmas.Bool.{lt-ltb, ltb-true, ltb-false, false_from_ne_true}
use Rattle.std.proofs.lemmas.List.Elements.{All-append}
use Rattle.block_disk.specs.View.{View, Now}
use Rattle.block_disk.proofs.Passing.{Between, passes_none}
use Rattle.std.specs.Bool.{OnTrue, OnFalse}
use Rattle.block_disk.specs.MemDisk.{alone}
use Rattle.chart_world.specs.SentOn.{SentOn}
use Rattle.chart_world.specs.Sends.{sends_by, bytes_by, bytes_after, DatedBy, timed}
use Rattle.chart_world.specs.declared.sent_log.Sent.{Sent}

-- the same by recursion
abbrev Dated : ℕ → List Sent → Type 0
Dated clock [] = Unit {0}
Dated clock (sent ∷ later) = (sent.at ≤ clock) × Dated clock later

dated_rest : (clock : ℕ) (sent : Sent) (later : List Sent) → DatedBy clock (sent ∷ later) → DatedBy clock later
dated_rest clock sent later dated k d below = dated (suc k) d (omega (arith, below))

pub dated : (clock : ℕ) (sends : List Sent) → DatedBy clock sends → Dated clock sends
dated clock [] all = tt
dated clock (sent ∷ later) all = (all 0 sent (omega arith), dated clock later (dated_rest clock sent later all))

before : (at time : ℕ) → at < time → ltb at time ≡ true
before at time low = lt-ltb at time low

not_before : (at time : ℕ) → time ≤ at → ltb at time ≡ false
not_before at time high = false_from_ne_true (ltb at time) (λ (is : ltb at time ≡ true). absurd (omega (arith, ltb-true at time is, high)))

-- all sends are done at the last moment and after it
pub sends_done : (clock : ℕ) (sends : List Sent) (time : ℕ) → Dated clock sends → clock + length sends ≤ time
    → sends_by sends time ≡ length sends
sends_done clock [] time all late = refl
sends_done clock (sent ∷ later) time all late =
    ap (λ b. cond b (1 + sends_by later (time - 1)) 0) (before sent.at time (omega (arith, all.0, late)))
    ∙ omega (arith, sends_done clock later (time - 1) all.1 (omega (arith, late)))

pub bytes_done : (clock start : ℕ) (sends : List Sent) (time : ℕ) → Dated clock sends → clock + length sends ≤ time
    → bytes_by start sends time ≡ bytes_after start sends
bytes_done clock start [] time all late = refl
bytes_done clock start (sent ∷ later) time all late =
    ap (λ b. cond b (bytes_by sent.count later (time - 1)) start) (before sent.at time (omega (arith, all.0, late)))
    ∙ bytes_done clock sent.count later (time - 1) all.1 (omega (arith, late))

-- one more send leaves the moments before it
pub sends_more : (clock : ℕ) (sends : List Sent) (more : Sent) (time : ℕ) → more.at ≡ clock → time ≤ clock + length sends
    → sends_by (sends ++ more ∷ []) time ≡ sends_by sends time
sends_more clock [] more time is early = ap (λ b. cond b 1 0) (not_before more.at time (omega (arith, is, early)))
sends_more clock (sent ∷ later) more time is early = by (ltb sent.at time) (λ low. sends_more clock later more (time - 1) is low)
  where
    by : (b : Bool) → (time - 1 ≤ clock + length later → sends_by (later ++ more ∷ []) (time - 1) ≡ sends_by later (time - 1))
        → cond b (1 + sends_by (later ++ more ∷ []) (time - 1)) 0 ≡ cond b (1 + sends_by later (time - 1)) 0
    by true rest = ap (λ n. 1 + n) (rest (omega (arith, early)))
    by false rest = refl

pub bytes_more : (clock start : ℕ) (sends : List Sent) (more : Sent) (time : ℕ) → more.at ≡ clock → time ≤ clock + length sends
    → bytes_by start (sends ++ more ∷ []) time ≡ bytes_by start sends time
bytes_more clock start [] more time is early = ap (λ b. cond b more.count start) (not_before more.at time (omega (arith, is, early)))
bytes_more clock start (sent ∷ later) more time is early = by (ltb sent.at time)
    (λ low. bytes_more clock sent.count later more (time - 1) is low)
  where
    by : (b : Bool) → (time - 1 ≤ clock + length later
        → bytes_by sent.count (later ++ more ∷ []) (time - 1) ≡ bytes_by sent.count later (time - 1))
        → cond b (bytes_by sent.count (later ++ more ∷ []) (time - 1)) start ≡ cond b (bytes_by sent.count later (time - 1)) start
    by true rest = rest (omega (arith, early))
    by false rest = refl

-- a moment of the disk that isn't past its clock
pub disk_moment : (clock : ℕ) (sends : List Sent) (time : ℕ) → Dated clock sends → time ≤ clock + length sends
    → time - sends_by sends time ≤ clock
disk_moment clock [] time all early = omega arith
disk_moment clock (sent ∷ later) time all early = by (ltb sent.at time) refl (λ low. disk_moment clock later (time - 1) all.1 low)
  where
    by : (b : Bool) → ltb sent.at time ≡ b → (time - 1 ≤ clock + length later → time - 1 - sends_by later (time - 1) ≤ clock)
        → time - cond b (1 + sends_by later (time - 1)) 0 ≤ clock
    by true is rest = omega (arith, rest (omega (arith, early)))
    by false is rest = omega (arith, all.0, ltb-false sent.at time is)

pub dated_more : (clock : ℕ) (sends : List Sent) (more : Sent) → DatedBy clock sends → more.at ≡ clock → DatedBy clock (sends ++ more ∷ [])
dated_more clock sends more all is = All-append (λ sent. sent.at ≤ clock) sends (more ∷ []) all (λ k d below. one k d below)
  where
    one : (k : ℕ) (d : Sent) → k < length (more ∷ []) → (get_or (more ∷ []) k d).at ≤ clock
    one zero d below = omega (arith, is)
    one (suc k) d below = absurd (omega (arith, below))

pub bytes_after_more : (start : ℕ) (sends : List Sent) (more : Sent) → bytes_after start (sends ++ more ∷ []) ≡ more.count
bytes_after_more start [] more = refl
bytes_after_more start (sent ∷ later) more = bytes_after_more sent.count later more

-- the moment of the disk that is now
pub now_is : (clock : ℕ) (sends : List Sent) → DatedBy clock sends → clock + length sends - sends_by sends (clock + length sends) ≡ clock
now_is clock sends all = omega (arith, sends_done clock sends (clock + length sends) (dated clock sends all) (omega arith))

-- the bytes that were sent by now
pub sent_is : (clock : ℕ) (sends : List Sent) → DatedBy clock sends → bytes_by 0 sends (clock + length sends) ≡ bytes_after 0 sends
sent_is clock sends all = bytes_done clock 0 sends (clock + length sends) (dated clock sends all) (omega arith)

-- one more send
pub send_one : (disk : View) (sends : List Sent) (more : Sent) (most : ℕ) → DatedBy disk.clock sends → more.at ≡ disk.clock
    → bytes_after 0 sends ≤ more.count → more.count ≤ bytes_after 0 sends + most
    → SentOn most (timed disk sends alone) (timed disk (sends ++ more ∷ []) alone)
send_one disk sends more most all is low high =
    let clock = disk.clock in
    let later = sends ++ more ∷ [] in
    let all' = dated_more clock sends more all is in
    let longer : length later ≡ length sends + 1 = length-append sends (more ∷ []) in
    let old_sent : bytes_by 0 sends (clock + length sends) ≡ bytes_after 0 sends = sent_is clock sends all in
    let new_sent : bytes_by 0 later (clock + length later) ≡ more.count = sent_is clock later all' ∙ bytes_after_more 0 sends more in
    record {
      time = record {
        later = omega (arith, longer);
        past = λ time image within left. let P : ℕ → Type 0 = λ n. disk.crash (time - n) image in
            subst P (sends_more clock sends more time is within) left;
        kept = λ time image within left. let P : ℕ → Type 0 = λ n. disk.crash (time - n) image in
            subst P (sym (sends_more clock sends more time is within)) left;
        here = λ time image after upto left.
            let P : ℕ → Type 0 = λ n. disk.crash n image in
            let done : time - sends_by later time ≡ clock = omega (
              arith,
              sends_done clock later time (dated clock later all') (omega (arith, longer, after)),
              longer,
              after,
              upto,
            ) in
            subst P (done ∙ sym (now_is clock sends all)) left;
        sent_past = λ time within. bytes_more clock 0 sends more time is within;
        sent_here = λ time after upto.
            let here : bytes_by 0 later time ≡ more.count = bytes_done clock 0 later time (dated clock later all')
            (omega (arith, longer, after)) ∙ bytes_after_more 0 sends more in
            (omega (arith, here, old_sent, low), omega (arith, here, new_sent));
      };
      count = omega (arith, old_sent, new_sent, high);
    }

-- no send at all
pub send_none : (disk : View) (sends : List Sent) (most : ℕ) → SentOn most (timed disk sends alone) (timed disk sends alone)
send_none disk sends most = record {
  time = passes_none (timed disk sends alone) (Now (timed disk sends alone))
      (Between (timed disk sends alone) (timed disk sends alone));
  count = omega arith;
}

-- what storing a piece says: whether it was noted, and where it stands
abbrev pub Stored : Bool → ℕ → List Sent → List Sent → List ℕ → Type 0
Stored b at log log' bytes' = OnTrue b ((count : ℕ) × (log' ≡ log ++ record { at = at; count = count } ∷ []) × (count ≡ length bytes'))

pub stored_dated : (b : Bool) (clock at : ℕ) (log log' : List Sent) (bytes' : List ℕ) → Stored b at log log' bytes' → OnFalse b (log' ≡ log)
    → DatedBy clock log → at ≡ clock → DatedBy clock log'
stored_dated true clock at log log' bytes' noted kept all is = let P : List Sent → Type 0 = λ l. DatedBy clock l in
    subst P (sym noted.1) (dated_more clock log (record { at = at; count = noted.0 }) all is)
stored_dated false clock at log log' bytes' noted kept all is = let P : List Sent → Type 0 = λ l. DatedBy clock l in subst P (sym kept) all

pub stored_counted : (b : Bool) (at : ℕ) (log log' : List Sent) (bytes bytes' piece : List ℕ) → bytes' ≡ cond b (bytes ++ piece) bytes
    → Stored b at log log' bytes' → OnFalse b (log' ≡ log) → bytes_after 0 log ≡ length bytes → bytes_after 0 log' ≡ length bytes'
stored_counted true at log log' bytes bytes' piece is noted kept counted = ap (λ l. bytes_after 0 l) noted.1
    ∙ bytes_after_more 0 log (record { at = at; count = noted.0 }) ∙ noted.2
stored_counted false at log log' bytes bytes' piece is noted kept counted = ap (λ l. bytes_after 0 l) kept ∙ counted ∙ ap length (sym is)

pub stored_moments : (b : Bool) (disk : View) (at : ℕ) (log log' : List Sent) (bytes bytes' piece : List ℕ) (most : ℕ)
    → bytes' ≡ cond b (bytes ++ piece) bytes → Stored b at log log' bytes' → OnFalse b (log' ≡ log) → bytes_after 0 log ≡ length bytes
    → DatedBy disk.clock log → at ≡ disk.clock → length piece ≤ most → SentOn most (timed disk log alone) (timed disk log' alone)
stored_moments true disk at log log' bytes bytes' piece most is noted kept counted all now within =
    let P : List Sent → Type 0 = λ l. SentOn most (timed disk log alone) (timed disk l alone) in
    let sum : length bytes' ≡ length bytes + length piece = ap length is ∙ length-append bytes piece in
    subst P (sym noted.1) (send_one disk log (record { at = at; count = noted.0 }) most all now (omega (arith, sum, counted, noted.2))
    (omega (arith, sum, counted, noted.2, within)))
stored_moments false disk at log log' bytes bytes' piece most is noted kept counted all now within =
    let P : List Sent → Type 0 = λ l. SentOn most (timed disk log alone) (timed disk l alone) in
    subst P (sym kept) (send_none disk log most)
