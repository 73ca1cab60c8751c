-- What a line of `retain` does, as a work of lines says it.
use Rattle.std.proofs.Common.{◌≡◌, ◌≢◌, ◌∙◌, ℕ, ◌≤◌, Bool, true, false, List, [], length, Option, None, Some, Result, Ok, Err, refl, ap}
use Rattle.std.proofs.Common.{sym, inl, inr, arith}
use Rattle.std.specs.Prelude.{OnOk, IfErr, ⊤}
use Rattle.block_disk.specs.SentLaws.{sent_none}
use Rattle.block_disk.specs.View.{View}
use Rattle.line_runs.specs.Carried.{DoesOne}
use Rattle.line_runs.specs.Given.{Line}
use Rattle.retention.specs.declared.sweep_error.SweepError.{SweepError}
use Rattle.retention.specs.declared.sweep_error.SweepError.TheVariants as sweep
use Rattle.run_ends.specs.declared.ending.End.{End}
use Rattle.run_ends.specs.declared.ending.End.TheVariants.{BadInput, InputTooLong}
use Rattle.retention.specs.Sweeps.{sweeps}
use Rattle.retention.specs.declared.rule.Rule.{Rule}
use Rattle.series_catalog.specs.declared.stored_series.StoredSeries.{StoredSeries}
use Rattle.retain_command.specs.Answers.{answer, swept_text}
use Rattle.retain_command.specs.Doing.{DoesLine, LineDone, LineFails, LineSays, RuleCosts, end_at}
use Rattle.retain_command.specs.Working.{Costs, Counted, GivenFails, Held, IsHeldIfKnown, LineDoes, LineStopped, counted_more, held_swept}

-- calls of some looks and clears were made since
costs_on : (counted : Counted) (looks clears : ℕ) (old new : View) → looks ≤ 1 → Costs counted old → RuleCosts looks clears old new
    → Costs (counted_more counted clears) new
costs_on counted looks clears old new few was costs = record {
  reads = omega (arith, few, was.reads, costs.reads);
  syncs = omega (arith, was.syncs, costs.syncs);
  writes = omega (arith, was.writes, costs.writes);
}

costs_still : (counted : Counted) (old new : View) → Costs counted old → RuleCosts 0 0 old new → Costs counted new
costs_still counted old new was costs = record {
  reads = omega (arith, was.reads, costs.reads);
  syncs = omega (arith, was.syncs, costs.syncs);
  writes = omega (arith, was.writes, costs.writes);
}

module _ (held : Held) (text : List ℕ) (at : ℕ) (old new : View) (before now : Option (List ℕ)) where
  -- the book is known
  line_known : (Told : Type 0) → Told → Costs held.counted old → LineDone held.total held.book text old new before now
      → DoesOne LineDoes (IsHeldIfKnown Told new) held (Line at (Some text)) before now
  line_known Told told was (inl (none, rests, costs)) = record {
    text = [];
    behind = held;
    done = inl (ap Some none, refl, refl);
    stands = λ known. (told, rests.stands, costs_still held.counted old new was costs);
    sent = rests.unsent ∙ sent_none before;
  }
  line_known Told told was (inr (rule, spells, done, costs)) = record {
    text = answer held.total held.book rule;
    behind = held_swept held rule;
    done = inr (record {
      rule = rule;
      says_it = spells;
      clears = _;
      used = _;
      said = refl;
      there = λ known. done.there;
      text_is = λ known. refl;
      behind_is = refl;
    });
    stands = λ known. (
      told,
      done.stands,
      costs_on held.counted 1 (length (sweeps held.total held.book rule)) old new
          (omega arith) was costs,
    );
    sent = done.sent;
  }

  -- it isn't
  line_said : (Told : Type 0) → (held.known ≡ true → ⊥) → LineSays text before now
      → DoesOne LineDoes (IsHeldIfKnown Told new) held (Line at (Some text)) before now
  line_said Told unknown (inl (none, unsent)) = record {
    text = [];
    behind = held;
    done = inl (ap Some none, refl, refl);
    stands = λ known. absurd (unknown known);
    sent = unsent ∙ sent_none before;
  }
  line_said Told unknown (inr (rule, spells, says)) = record {
    text = swept_text says.0 says.1;
    behind = held_swept held rule;
    done = inr (record {
      rule = rule;
      says_it = spells;
      clears = says.0;
      used = says.1;
      said = refl;
      there = λ known. absurd (unknown known);
      text_is = λ known. absurd (unknown known);
      behind_is = refl;
    });
    stands = λ known. absurd (unknown known);
    sent = says.2;
  }

  pub work_done : {T : Type 0} (Told Told' : Type 0) (result : Result T End) → (Told → Told') → IsHeldIfKnown Told old held
      → (held.known ≡ true → DoesLine held.total held.book text at result old new before now) → OnOk result (LineSays text before now)
      → OnOk result (DoesOne LineDoes (IsHeldIfKnown Told' new) held (Line at (Some text)) before now)
  work_done {T} Told Told' (Err e) more stands does says = tt
  work_done {T} Told Told' (Ok v) more stands does says = by held.known refl
    where
      by : (known : Bool) → held.known ≡ known → DoesOne LineDoes (IsHeldIfKnown Told' new) held (Line at (Some text)) before now
      by true known = line_known Told' (more (stands known).0) (stands known).2 (does known).done
      by false unknown = line_said Told' (λ known. let both : false ≡ true = sym unknown ∙ known in cc) says

  pub work_stops : {T : Type 0} (Told : Type 0) (result : Result T End) (IsBad : Rule → ℕ → Type 0) (catalog : List StoredSeries)
      → IsHeldIfKnown Told old held
      → (held.known ≡ true → DoesLine held.total held.book text at result old new before now)
      → IfErr result (LineFails text at IsBad catalog before now)
      → IfErr result (λ end. (held.known ≡ true → LineStopped held (Line at (Some text)) new before now end)
      × GivenFails (Line at (Some text)) IsBad catalog before now end)
  work_stops {T} Told (Ok v) IsBad catalog stands does fails = tt
  work_stops {T} Told (Err e) IsBad catalog stands does fails = (
    (λ known.
        let did = does known in
        record {
          why = did.stops;
          more = did.most.0;
          next = did.most.1;
          costs = costs_on held.counted 1 did.most.0 old new (omega arith) (stands known).2 did.most.2;
        }),
    fails,
  )

-- a line that is too long
pub long_stops : (Told : Type 0) (held : Held) (at : ℕ) (view : View) (before : Option (List ℕ)) → IsHeldIfKnown Told view held
    → held.known ≡ true → LineStopped held (Line at None) view before before (BadInput at)
long_stops Told held at view before stands known = record {
  why = (refl, record { stands = (stands known).1; unsent = refl });
  more = 0;
  next = refl;
  costs = costs_on held.counted 1 0 view view (omega arith) (stands known).2
      (record { reads = omega arith; syncs = omega arith; writes = omega arith });
}

-- no end of a sweep is the input's length
pub sweep_short : (at : ℕ) (error : SweepError) (end : End) → end ≡ end_at at error → ◌≡◌ {A = Result ⊤ End} (Err end) (Err InputTooLong)
    → ⊥
sweep_short at sweep.UnknownSeries end is same = cc
sweep_short at sweep.DiskFault end is same = cc
sweep_short at (sweep.Damaged page) end is same = cc
sweep_short at sweep.NoMemory end is same = cc

-- a cause of an end that isn't the input's length
pub cause_short : {T : Type 0} (Causes : End → Type 0) (result : Result T End) → IfErr result Causes → (result ≡ Err InputTooLong → ⊥)
    → IfErr result (λ end. Causes end × (end ≢ InputTooLong))
cause_short {T} Causes (Ok done) causes short = tt
cause_short {T} Causes (Err end) causes short = (causes, λ is. short (ap Err is))
