-- How `csv` reads a line without quotes.
use Rattle.std.proofs.Common.{◌≡◌, ℕ, suc, true, false, List, [], ◌∷◌, ◌++◌, Option, None, Some, refl, ap, sym, subst, ◌∙◌, append_assoc}
use Rattle.std.proofs.Common.{arith}
use Rattle.std.specs.List.{AllPass}
use Rattle.std.specs.Prelude.{option_map, option_and_then, if◌then◌else◌, slice_index, ◌≢◌, ◌==◌}
use Rattle.std.proofs.lemmas.Bool.Decides.{nat_tests}
use Rattle.std.proofs.lemmas.List.{append-nil}
use Rattle.csv.specs.Machine.{next_record, step, is_end, fields_after, field_after}
use Rattle.csv.specs.Reading.{default_config, strip_bom, records}
use Rattle.csv.specs.declared.parser.State.{State}
use Rattle.csv.specs.declared.parser.State.TheVariants as st
use Rattle.csv.specs.declared.parser.Action.{Action}
use Rattle.csv.specs.declared.parser.Action.TheVariants as act
use Rattle.csv_load.specs.Fields.{Fields, is_plain, trimmed, trimmed_fields, fields_of_line, pair_of, only_record}
use Rattle.csv_load.proofs.RecordLemmas.{one_record}
use Rattle.csv_load.proofs.RowLemmas.{fields_are}

-- what a byte does, by what the machine says of it
by_step : (s : State) (c : ℕ) (fs : List (List ℕ)) (f rest : List ℕ) (p : State × Action) → step default_config s c ≡ p
    → next_record default_config s fs f (c ∷ rest)
    ≡ (if is_end p.1 then Some (fields_after p.1 fs f, p.0, rest)
    else next_record default_config p.0 (fields_after p.1 fs f) (field_after p.1 c f) rest)
unfolding next_record
by_step s c fs f rest p e =
    ap (λ q. if is_end q.1 then Some (fields_after q.1 fs f, q.0, rest)
    else next_record default_config q.0 (fields_after q.1 fs f) (field_after q.1 c f) rest) e

-- a plain byte joins its field
in_field : (c : ℕ) → is_plain c ≡ true → step default_config st.InField c ≡ (st.InField, act.Copy)
in_field c plain = grind (arith, nat_tests, plain)

starts_field : (c : ℕ) → is_plain c ≡ true → step default_config st.StartField c ≡ (st.InField, act.Copy)
starts_field c plain = grind (arith, nat_tests, plain)

starts_record : (c : ℕ) → is_plain c ≡ true → step default_config st.StartRecord c ≡ (st.InField, act.Copy)
starts_record c plain = grind (arith, nat_tests, plain)

first_plain : (c : ℕ) (cs : List ℕ) → AllPass is_plain (c ∷ cs) → is_plain c ≡ true
first_plain c cs plain = plain 0 0 (omega arith)

others_plain : (c : ℕ) (cs : List ℕ) → AllPass is_plain (c ∷ cs) → AllPass is_plain cs
others_plain c cs plain = λ k d less. plain (suc k) d (omega (arith, less))

copies : (xs rest f : List ℕ) (fs : List (List ℕ)) → AllPass is_plain xs
    → next_record default_config st.InField fs f (xs ++ rest) ≡ next_record default_config st.InField fs (f ++ xs) rest
copies [] rest f fs plain = ap (λ g. next_record default_config st.InField fs g rest) (sym (append-nil f))
copies (c ∷ cs) rest f fs plain =
    by_step st.InField c fs f (cs ++ rest) (st.InField, act.Copy) (in_field c (first_plain c cs plain))
    ∙ copies cs rest (f ++ (c ∷ [])) fs (others_plain c cs plain)
    ∙ ap (λ g. next_record default_config st.InField fs g rest) (append_assoc f (c ∷ []) cs)

-- the field in front of the comma
first_field : (xs rest : List ℕ) → AllPass is_plain xs
    → next_record default_config st.StartRecord [] [] (xs ++ 44 ∷ rest) ≡ next_record default_config st.StartField (xs ∷ []) [] rest
first_field [] rest plain = by_step st.StartRecord 44 [] [] rest (st.StartField, act.EndField) refl
first_field (c ∷ cs) rest plain =
    by_step st.StartRecord c [] [] (cs ++ 44 ∷ rest) (st.InField, act.Copy) (starts_record c (first_plain c cs plain))
    ∙ copies cs (44 ∷ rest) (c ∷ []) [] (others_plain c cs plain)
    ∙ by_step st.InField 44 [] (c ∷ cs) rest (st.StartField, act.EndField) refl

-- the field behind it
last_field : (t xs : List ℕ) → AllPass is_plain xs
    → next_record default_config st.StartField (t ∷ []) [] xs ≡ Some (t ∷ xs ∷ [], st.StartRecord, [])
unfolding next_record
last_field t [] plain = refl
last_field t (c ∷ cs) plain =
    by_step st.StartField c (t ∷ []) [] cs (st.InField, act.Copy) (starts_field c (first_plain c cs plain))
    ∙ ap (next_record default_config st.InField (t ∷ []) (c ∷ [])) (sym (append-nil cs))
    ∙ copies cs [] (c ∷ []) (t ∷ []) (others_plain c cs plain)

-- the same with a carriage return behind it
ended_field : (t xs : List ℕ) → AllPass is_plain xs
    → next_record default_config st.StartField (t ∷ []) [] (xs ++ 13 ∷ []) ≡ Some (t ∷ xs ∷ [], st.AfterCr, [])
ended_field t [] plain = by_step st.StartField 13 (t ∷ []) [] [] (st.AfterCr, act.EndRecord) refl
ended_field t (c ∷ cs) plain =
    by_step st.StartField c (t ∷ []) [] (cs ++ 13 ∷ []) (st.InField, act.Copy) (starts_field c (first_plain c cs plain))
    ∙ copies cs (13 ∷ []) (c ∷ []) (t ∷ []) (others_plain c cs plain)
    ∙ by_step st.InField 13 (t ∷ []) (c ∷ cs) [] (st.AfterCr, act.EndRecord) refl

nothing_left : next_record default_config st.StartRecord [] [] [] ≡ None
unfolding next_record
nothing_left = refl

nothing_behind : next_record default_config st.AfterCr [] [] [] ≡ None
unfolding next_record
nothing_behind = refl

not_mark : (a : ℕ) → a ≢ 0xEF → (a == 0xEF) ≡ false
not_mark a other = grind (arith, nat_tests, other)

-- no mark is dropped where the first byte isn't a mark's
unmarked : (line : List ℕ) → slice_index line 0 ≢ 0xEF → strip_bom line ≡ line
unfolding strip_bom
unmarked [] other = refl
unmarked (a ∷ []) other = refl
unmarked (a ∷ b ∷ []) other = refl
unmarked (a ∷ b ∷ c ∷ rest) other = rw (not_mark a other) refl

pub plain_fields : (time value : List ℕ) → AllPass is_plain time → AllPass is_plain value → slice_index (time ++ 44 ∷ value) 0 ≢ 0xEF
    → fields_of_line (time ++ 44 ∷ value) ≡ Some (record { time = trimmed time; value = trimmed value })
plain_fields time value plain_time plain_value other =
    let line : List ℕ = time ++ 44 ∷ value in
    let same = unmarked line other in
    let first = ap (next_record default_config st.StartRecord [] []) same ∙ first_field time value plain_time
    ∙ last_field time value plain_value in
    let record_is = one_record (strip_bom line) (time ∷ value ∷ [], st.StartRecord, []) first nothing_left in
    fields_are line (time ∷ value ∷ []) time value (trimmed time) (trimmed value) record_is refl refl refl

pub plain_fields_ended : (time value : List ℕ) → AllPass is_plain time → AllPass is_plain value → slice_index (time ++ 44 ∷ value) 0 ≢ 0xEF
    → fields_of_line (time ++ 44 ∷ (value ++ 13 ∷ [])) ≡ Some (record { time = trimmed time; value = trimmed value })
plain_fields_ended time value plain_time plain_value other =
    let line : List ℕ = time ++ 44 ∷ (value ++ 13 ∷ []) in
    let same = unmarked line (front time other) in
    let first = ap (next_record default_config st.StartRecord [] []) same ∙ first_field time (value ++ 13 ∷ []) plain_time
    ∙ ended_field time value plain_value in
    let record_is = one_record (strip_bom line) (time ∷ value ∷ [], st.AfterCr, []) first nothing_behind in
    fields_are line (time ∷ value ∷ []) time value (trimmed time) (trimmed value) record_is refl refl refl
  where
    front : (xs : List ℕ) → slice_index (xs ++ 44 ∷ value) 0 ≢ 0xEF → slice_index (xs ++ 44 ∷ (value ++ 13 ∷ [])) 0 ≢ 0xEF
    front [] other = other
    front (x ∷ xs) other = other

drops_mark : (line : List ℕ) → strip_bom (0xEF ∷ 0xBB ∷ 0xBF ∷ line) ≡ line
unfolding strip_bom
drops_mark line = refl

-- a mark in front of a line is dropped
pub marked_fields : (line : List ℕ) → slice_index line 0 ≢ 0xEF → fields_of_line (0xEF ∷ 0xBB ∷ 0xBF ∷ line) ≡ fields_of_line line
unfolding fields_of_line
marked_fields line other =
    let fields : List ℕ → Option Fields = λ text. option_map trimmed_fields
    (option_and_then pair_of (only_record (records default_config text))) in
    ap fields (drops_mark line ∙ sym (unmarked line other))

-- the fields of such a line, found at its comma
pub plain_line : (line time value : List ℕ) → line ≡ time ++ 44 ∷ value → AllPass is_plain time → AllPass is_plain value
    → slice_index line 0 ≢ 0xEF
    → fields_of_line line ≡ Some (record { time = trimmed time; value = trimmed value })
plain_line line time value is plain_time plain_value other =
    let P : List ℕ → Type 0 = λ l. slice_index l 0 ≢ 0xEF in
    ap fields_of_line is ∙ plain_fields time value plain_time plain_value (subst P is other)
