-- One rule is swept and answered, and one line.
use Rattle.std.proofs.Common.{◌≡◌, ◌≢◌, ◌∙◌, ◌↔◌, ℕ, ◌+◌, ◌<◌, ◌≤◌, List, [], length, take, Option, Some, Result, Ok, Err, refl, ap, sym}
use Rattle.std.proofs.Common.{subst, arith, inl, inr}
use Rattle.std.specs.Prelude.{OnOk, IfErr}
use Rattle.std.proofs.lemmas.List.{take_all}
use Rattle.block_disk.specs.Streams.{sent_after}
use Rattle.block_disk.specs.View.{Image, View, DiskKept, Now, Only, Passes, sent_now}
use Rattle.line_runs.specs.MomentLaws.{through_none, through_by, through_so, through_then}
use Rattle.line_runs.specs.Moments.{Through}
use Rattle.gate_pages.proofs.Moving.{sent_same}
use Rattle.gate_pages.specs.Pages.{Quiet}
use Rattle.run_ends.specs.declared.ending.End.{End}
use Rattle.run_ends.specs.declared.ending.End.TheVariants.{NoMemory, SendFault, DiskFault, DamagedPage, BadInput, NoSeries}
use Rattle.series_book.specs.declared.one_series.Series.{Series}
use Rattle.series_book.specs.EditLists.{after_edits}
use Rattle.series_catalog.specs.declared.stored_series.StoredSeries.{StoredSeries}
use Rattle.stored_book.specs.Standing.{StandsForBook}
use Rattle.retention.specs.Damage.{Blames}
use Rattle.retention.specs.Drops.{book_swept}
use Rattle.retention.specs.Moving.{CommitsFew, ReadsFew}
use Rattle.retention.specs.Sweeping.{IsAfterSome, IsSwept, StopsSo}
use Rattle.retention.specs.Sweeps.{LacksNamed, NamesNone, sweeps}
use Rattle.retention.specs.declared.rule.Rule.{Rule}
use Rattle.retention.specs.declared.sweep_error.SweepError.{SweepError}
use Rattle.retention.specs.declared.sweep_error.SweepError.TheVariants as sweep
use Rattle.retention.specs.declared.swept.Swept.{Swept}
use Rattle.retain_command.specs.Answers.{answer, swept_text}
use Rattle.retain_command.specs.Doing.{DoesLine, DoesRule, LineFails, LineMoment, LineSays, LineStops, RuleCosts, RuleFails, RuleMoment}
use Rattle.retain_command.specs.Doing.{RuleStops, SaysSwept, TextStops, Untouched, end_at}
use Rattle.retain_command.specs.Rules.{Spells, SaysNone}

abbrev failed : SweepError → Result Swept SweepError
failed error = Err error

abbrev made : Swept → Result Swept SweepError
made swept = Ok swept

same_error : (one other : SweepError) → failed one ≡ failed other → one ≡ other
same_error one other is = cc

-- a sweep that came to another end names a series that is there
there_ok : (book : List Series) (rule : Rule) (swept : Swept) → (made swept ≡ failed sweep.UnknownSeries) ↔ NamesNone book rule
    → NamesNone book rule → ⊥
there_ok book rule swept unknown none = let is = unknown.1 none in cc

there_err : (book : List Series) (rule : Rule) (error : SweepError) → (failed error ≡ failed sweep.UnknownSeries) ↔ NamesNone book rule
    → error ≢ sweep.UnknownSeries → NamesNone book rule → ⊥
there_err book rule error unknown other none = other (same_error error sweep.UnknownSeries (unknown.1 none))

-- ---- what it costs

-- a text is sent besides
costs_sent : (looks clears : ℕ) (old mid new : View) → DiskKept mid new → RuleCosts looks clears old mid → RuleCosts looks clears old new
costs_sent looks clears old mid new kept costs = record {
  reads = omega (arith, kept.reads, costs.reads);
  syncs = omega (arith, kept.syncs, costs.syncs);
  writes = omega (arith, kept.writes, costs.writes);
}

costs_none : (looks : ℕ) (at : View) → RuleCosts looks 0 at at
costs_none looks at = record { reads = omega arith; syncs = omega arith; writes = omega arith }

-- by what a sweep says
pub costs_of : (clears : ℕ) (old new : View) → ReadsFew clears old new → CommitsFew clears old new → RuleCosts 1 clears old new
costs_of clears old new reads commits = record { reads = reads; syncs = commits.syncs; writes = commits.writes }

-- ---- the clears

-- while clears are done, and no byte is sent
clears_moments : (total : ℕ) (book : List Series) (rule : Rule) (old new : View) → (NamesNone book rule → ⊥)
    → Passes old new (IsAfterSome total book rule) (Quiet old) → Through old new (RuleMoment total book rule (sent_now old))
clears_moments total book rule old new there passes = through_by old new (IsAfterSome total book rule) (Quiet old)
    (RuleMoment total book rule (sent_now old)) passes (λ image count some quiet. record {
      there = there;
      done = some.done;
      few = some.few;
      stands = some.stands;
      low = omega (arith, quiet);
      high = omega (arith, quiet);
      all = λ more. absurd (omega (arith, more, quiet));
    })

still : (total : ℕ) (book : List Series) (rule : Rule) (old new : View) → new ≡ old
    → Through old new (RuleMoment total book rule (sent_now old))
still total book rule old new same = let P : View → Type 0 = λ v. Through old v (RuleMoment total book rule (sent_now old)) in
    subst P (sym same) (through_none old (RuleMoment total book rule (sent_now old)))

-- a sweep that wasn't done to its end
module _ (total : ℕ) (book : List Series) (rule : Rule) (at : ℕ) (old new : View) (before now : Option (List ℕ)) where
  stop_moments : (error : SweepError) → (failed error ≡ failed sweep.UnknownSeries) ↔ NamesNone book rule
      → (failed error ≡ failed sweep.UnknownSeries → new ≡ old) → Passes old new (IsAfterSome total book rule) (Quiet old)
      → Through old new (RuleMoment total book rule (sent_now old))
  stop_moments sweep.UnknownSeries unknown same passes = still total book rule old new (same refl)
  stop_moments sweep.DiskFault unknown same passes = clears_moments total book rule old new
      (there_err book rule sweep.DiskFault unknown (λ is. cc)) passes
  stop_moments (sweep.Damaged page) unknown same passes = clears_moments total book rule old new
      (there_err book rule (sweep.Damaged page) unknown (λ is. cc)) passes
  stop_moments sweep.NoMemory unknown same passes = clears_moments total book rule old new
      (there_err book rule sweep.NoMemory unknown (λ is. cc)) passes

  stop_so : (error : SweepError) → (failed error ≡ failed sweep.UnknownSeries) ↔ NamesNone book rule
      → (failed error ≡ failed sweep.UnknownSeries → new ≡ old) → StandsForBook old.image total book → now ≡ before
      → StopsSo total book rule new.image error → RuleStops total book rule at new.image before now (end_at at error)
  stop_so sweep.UnknownSeries unknown same stands unsent stops =
      let P : View → Type 0 = λ v. StandsForBook v.image total book in
      (refl, record { none = stops; stands = subst P (sym (same refl)) stands; unsent = unsent })
  stop_so sweep.DiskFault unknown same stands unsent stops = unsent
  stop_so (sweep.Damaged page) unknown same stands unsent stops = absurd stops
  stop_so sweep.NoMemory unknown same stands unsent stops = record {
    there = there_err book rule sweep.NoMemory unknown (λ is. cc);
    some = stops;
    unsent = unsent;
  }

  pub rule_stopped : {T : Type 0} (error : SweepError) (end : End) → end ≡ end_at at error
      → (failed error ≡ failed sweep.UnknownSeries) ↔ NamesNone book rule → (failed error ≡ failed sweep.UnknownSeries → new ≡ old)
      → StandsForBook old.image total book → now ≡ before → StopsSo total book rule new.image error
      → Passes old new (IsAfterSome total book rule) (Quiet old)
      → RuleCosts 1 (length (sweeps total book rule)) old new → DoesRule {T = T} total book rule at (Err end) old new before now
  rule_stopped {T} error end is unknown same stands unsent stops passes costs =
      let P : End → Type 0 = λ e. RuleStops total book rule at new.image before now e in
      record {
        costs = costs;
        done = tt;
        stops = subst P (sym is) (stop_so error unknown same stands unsent stops);
        moments = stop_moments error unknown same passes;
      }

-- ---- the answer

-- what is said of a sweep that was done is the answer
said_so : (total : ℕ) (book : List Series) (rule : Rule) (swept : Swept) (image : Image) → IsSwept total book rule swept image
    → swept_text swept.clears swept.used ≡ answer total book rule
said_so total book rule swept image done = (λ i. swept_text (done.clears i) (done.used i))

module _ (total : ℕ) (book : List Series) (rule : Rule) (at : ℕ) (swept : Swept) (old mid new : View) (before between now : Option (List ℕ))
    (there : NamesNone book rule → ⊥) (done : IsSwept total book rule swept mid.image)
    (passes : Passes old mid (IsAfterSome total book rule) (Quiet old)) (unsent : between ≡ before) (kept : DiskKept mid new) where
  stands_still : StandsForBook new.image total (book_swept total book rule)
  stands_still = let P : Image → Type 0 = λ i. StandsForBook i total (book_swept total book rule) in subst P (sym kept.image) done.stands

  sent_moments : (text : List ℕ) → text ≡ answer total book rule → Only mid.image (Now mid)
      → Passes mid new (Now mid) (λ count. (sent_now mid ≤ count) × (count ≤ sent_now new)) → sent_now new ≤ sent_now mid + length text
      → Through old new (RuleMoment total book rule (sent_now old))
  sent_moments text is only sends most =
      let quiet : sent_now mid ≡ sent_now old = sent_same old mid (IsAfterSome total book rule) passes in
      let all : take (length (sweeps total book rule)) (sweeps total book rule) ≡ sweeps total book rule = take_all
      (length (sweeps total book rule)) (sweeps total book rule) (omega arith) in
      let P : Image → Type 0 = λ i. StandsForBook i total
      (after_edits total book (take (length (sweeps total book rule)) (sweeps total book rule))) in
      let Q : Image → Type 0 = λ i. StandsForBook i total (book_swept total book rule) in
      through_then old mid new (RuleMoment total book rule (sent_now old)) (clears_moments total book rule old mid there passes)
      (through_by mid new (Now mid) (λ count. (sent_now mid ≤ count)
      × (count ≤ sent_now new)) (RuleMoment total book rule (sent_now old)) sends (λ image count left sent. record {
        there = there;
        done = length (sweeps total book rule);
        few = omega arith;
        stands = let S : List _ → Type 0 = λ edits. StandsForBook image total (after_edits total book edits) in
            subst S (sym all) (subst Q (sym (only image left)) done.stands);
        low = omega (arith, sent.0, quiet);
        high = omega (arith, sent.1, most, quiet, ap length is);
        all = λ more. refl;
      }))

  text_stops : (text : List ℕ) → text ≡ answer total book rule → (end : End) → TextStops text between now end
      → RuleStops total book rule at new.image before now end
  text_stops text is SendFault stops =
      let P : List ℕ → Type 0 = λ t. Rattle.block_disk.specs.Streams.PartSent t before now in
      let B : Option (List ℕ) → Type 0 = λ b. Rattle.block_disk.specs.Streams.PartSent text b now in
      record { there = there; stands = stands_still; part = subst P is (subst B unsent stops) }
  text_stops text is NoMemory stops =
      let all : take (length (sweeps total book rule)) (sweeps total book rule) ≡ sweeps total book rule = take_all
      (length (sweeps total book rule)) (sweeps total book rule) (omega arith) in
      let S : List _ → Type 0 = λ edits. StandsForBook new.image total (after_edits total book edits) in
      record {
        there = there;
        some = record {
          done = length (sweeps total book rule);
          few = omega arith;
          stands = subst S (sym all) stands_still;
        };
        unsent = stops ∙ unsent;
      }
  text_stops text is end stops = absurd stops

  pub rule_answered : {T : Type 0} (result : Result T End) → OnOk result (now ≡ sent_after (swept_text swept.clears swept.used) between)
      → IfErr result (TextStops (swept_text swept.clears swept.used) between now) → Only mid.image (Now mid)
      → Passes mid new (Now mid) (λ count. (sent_now mid ≤ count) × (count ≤ sent_now new))
      → sent_now new ≤ sent_now mid + length (swept_text swept.clears swept.used)
      → RuleCosts 1 (length (sweeps total book rule)) old mid → DoesRule total book rule at result old new before now
  rule_answered {T} (Ok v) whole stops only sends most costs =
      let is = said_so total book rule swept mid.image done in
      record {
        costs = costs_sent 1 (length (sweeps total book rule)) old mid new kept costs;
        done = record {
          there = there;
          stands = stands_still;
          sent = whole ∙ ap (λ t. sent_after t between) is ∙ ap (sent_after (answer total book rule)) unsent;
        };
        stops = tt;
        moments = sent_moments (swept_text swept.clears swept.used) is only sends most;
      }
  rule_answered {T} (Err end) whole stops only sends most costs =
      let is = said_so total book rule swept mid.image done in
      record {
        costs = costs_sent 1 (length (sweeps total book rule)) old mid new kept costs;
        done = tt;
        stops = text_stops (swept_text swept.clears swept.used) is end stops;
        moments = sent_moments (swept_text swept.clears swept.used) is only sends most;
      }

-- the same by the clause of the sweep
pub swept_there : (book : List Series) (rule : Rule) (swept : Swept) → (made swept ≡ failed sweep.UnknownSeries) ↔ NamesNone book rule
    → NamesNone book rule → ⊥
swept_there = there_ok

-- ---- a line

module _ (total : ℕ) (book : List Series) (text : List ℕ) (at : ℕ) (old new : View) (before now : Option (List ℕ)) where
  -- that is a rule
  rule_stops_line : (rule : Rule) → Spells rule text → (end : End) → RuleStops total book rule at new.image before now end
      → LineStops total book text at new.image before now end
  rule_stops_line rule spells NoMemory stops = inr (rule, spells, stops)
  rule_stops_line rule spells SendFault stops = (rule, spells, stops)
  rule_stops_line rule spells DiskFault stops = stops
  rule_stops_line rule spells (NoSeries place) stops = (rule, spells, stops)
  rule_stops_line rule spells end stops = absurd stops

  line_moments : (rule : Rule) → Spells rule text → Through old new (RuleMoment total book rule (sent_now old))
      → Through old new (LineMoment total book text (sent_now old))
  line_moments rule spells = through_so old new (RuleMoment total book rule (sent_now old)) (LineMoment total book text (sent_now old))
      (λ image count is. (rule, spells, is))

  pub line_of_rule : {T : Type 0} (result : Result T End) (rule : Rule) → Spells rule text
      → DoesRule total book rule at result old new before now → DoesLine total book text at result old new before now
  line_of_rule {T} (Ok v) rule spells does = record {
    most = (length (sweeps total book rule), inr (rule, spells, refl), does.costs);
    done = inr (rule, spells, does.done, does.costs);
    stops = tt;
    moments = line_moments rule spells does.moments;
  }
  line_of_rule {T} (Err end) rule spells does = record {
    most = (length (sweeps total book rule), inr (rule, spells, refl), does.costs);
    done = tt;
    stops = rule_stops_line rule spells end does.stops;
    moments = line_moments rule spells does.moments;
  }

module _ (total : ℕ) (book : List Series) (text : List ℕ) (at : ℕ) (old : View) (before : Option (List ℕ))
    (stands : StandsForBook old.image total book) where
  rests : Untouched total book old.image before before
  rests = record { stands = stands; unsent = refl }

  no_moments : Through old old (LineMoment total book text (sent_now old))
  no_moments = through_none old (LineMoment total book text (sent_now old))

  -- that is empty
  pub line_empty : {T : Type 0} (v : T) → text ≡ [] → DoesLine {T = T} total book text at (Ok v) old old before before
  line_empty {T} v none = record {
    most = (0, inl refl, costs_none 1 old);
    done = inl (none, rests, costs_none 0 old);
    stops = tt;
    moments = no_moments;
  }

  -- that is no rule
  pub line_bad : {T : Type 0} → 0 < length text → SaysNone (Some text)
      → DoesLine {T = T} total book text at (Err (BadInput at)) old old before before
  line_bad {T} some none = record {
    most = (0, inl refl, costs_none 1 old);
    done = tt;
    stops = record { place_is = refl; some = some; none = none; stays = rests };
    moments = no_moments;
  }

  -- for which there was no memory
  pub line_no_memory : {T : Type 0} → DoesLine {T = T} total book text at (Err NoMemory) old old before before
  line_no_memory {T} = record { most = (0, inl refl, costs_none 1 old); done = tt; stops = inl rests; moments = no_moments }

-- ---- whatever the pages are

-- the answer was sent
pub says_so : {T : Type 0} (result : Result T End) (clears used : ℕ) (before between now : Option (List ℕ)) → between ≡ before
    → OnOk result (now ≡ sent_after (swept_text clears used) between) → OnOk result (SaysSwept before now)
says_so {T} (Ok v) clears used before between now same sent = (clears, used, sent ∙ ap (sent_after (swept_text clears used)) same)
says_so {T} (Err end) clears used before between now same sent = tt

text_fails : (rule : Rule) (at : ℕ) (IsBad : Rule → ℕ
    → Type 0) (catalog : List StoredSeries) (clears used : ℕ) (before now : Option (List ℕ)) (end : End)
    → TextStops (swept_text clears used) before now end → RuleFails rule at IsBad catalog before now end
text_fails rule at IsBad catalog clears used before now NoMemory stops = stops
text_fails rule at IsBad catalog clears used before now SendFault stops = (clears, used, stops)
text_fails rule at IsBad catalog clears used before now end stops = absurd stops

-- it wasn't, or not all of it
pub unsent_fails : {T : Type 0} (result : Result T End) (rule : Rule) (at : ℕ) (IsBad : Rule → ℕ
    → Type 0) (catalog : List StoredSeries) (clears used : ℕ)
    (before between now : Option (List ℕ)) → between ≡ before → IfErr result (TextStops (swept_text clears used) between now)
    → IfErr result (RuleFails rule at IsBad catalog before now)
unsent_fails {T} (Ok v) rule at IsBad catalog clears used before between now same stops = tt
unsent_fails {T} (Err end) rule at IsBad catalog clears used before between now same stops =
    let B : Option (List ℕ) → Type 0 = λ b. TextStops (swept_text clears used) b now end in
    text_fails rule at IsBad catalog clears used before now end (subst B same stops)

-- why a rule wasn't swept
pub sweep_fails : (error : SweepError) (rule : Rule) (at : ℕ) (IsBad : Rule → ℕ
    → Type 0) (catalog : List StoredSeries) (before now : Option (List ℕ)) (end : End)
    → end ≡ end_at at error → (failed error ≡ failed sweep.UnknownSeries → LacksNamed catalog rule) → Blames (IsBad rule) error
    → now ≡ before
    → RuleFails rule at IsBad catalog before now end
sweep_fails error rule at IsBad catalog before now end is lacks blames unsent =
    let P : End → Type 0 = λ e. RuleFails rule at IsBad catalog before now e in
    subst P (sym is) (by error lacks blames)
  where
    by : (error : SweepError) → (failed error ≡ failed sweep.UnknownSeries → LacksNamed catalog rule) → Blames (IsBad rule) error
        → RuleFails rule at IsBad catalog before now (end_at at error)
    by sweep.UnknownSeries lacks blames = (refl, lacks refl, unsent)
    by sweep.DiskFault lacks blames = unsent
    by (sweep.Damaged page) lacks blames = (blames, unsent)
    by sweep.NoMemory lacks blames = unsent

-- a line that is a rule
pub rule_says : {T : Type 0} (result : Result T End) (text : List ℕ) (rule : Rule) (before now : Option (List ℕ)) → Spells rule text
    → OnOk result (SaysSwept before now) → OnOk result (LineSays text before now)
rule_says {T} (Ok v) text rule before now spells says = inr (rule, spells, says)
rule_says {T} (Err end) text rule before now spells says = tt

rule_fails_line : (text : List ℕ) (rule : Rule) (at : ℕ) (IsBad : Rule → ℕ
    → Type 0) (catalog : List StoredSeries) (before now : Option (List ℕ)) (end : End)
    → Spells rule text → RuleFails rule at IsBad catalog before now end → LineFails text at IsBad catalog before now end
rule_fails_line text rule at IsBad catalog before now NoMemory spells fails = fails
rule_fails_line text rule at IsBad catalog before now SendFault spells fails = (rule, spells, fails)
rule_fails_line text rule at IsBad catalog before now DiskFault spells fails = (rule, spells, fails)
rule_fails_line text rule at IsBad catalog before now (DamagedPage page) spells fails = (rule, spells, fails)
rule_fails_line text rule at IsBad catalog before now (NoSeries place) spells fails = (rule, spells, fails)
rule_fails_line text rule at IsBad catalog before now end spells fails = absurd fails

pub line_fails : {T : Type 0} (result : Result T End) (text : List ℕ) (rule : Rule) (at : ℕ) (IsBad : Rule → ℕ
    → Type 0) (catalog : List StoredSeries)
    (before now : Option (List ℕ)) → Spells rule text → IfErr result (RuleFails rule at IsBad catalog before now)
    → IfErr result (LineFails text at IsBad catalog before now)
line_fails {T} (Ok v) text rule at IsBad catalog before now spells fails = tt
line_fails {T} (Err end) text rule at IsBad catalog before now spells fails = rule_fails_line text rule at IsBad catalog before now end
    spells fails
