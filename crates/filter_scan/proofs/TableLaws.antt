-- The rows of a table.
use Rattle.std.proofs.Common.{ℕ, ℤ, zero, suc, ◌≡◌, ◌+◌, ◌<◌, ◌≤ℤ◌, inl, inr, arith, List, [], ◌∷◌, ◌++◌, take, length, get_or, refl, sym}
use Rattle.std.proofs.Common.{◌∙◌, ap, subst, get_or-set_same, get_or-set_other}
use Rattle.std.proofs.lemmas.Int.{ints}
use Rattle.std.proofs.lemmas.Bool.{cases_lt}
use Rattle.std.proofs.lemmas.List.{take_more, get_or_past}
use Rattle.std.proofs.lemmas.List.Elements.{All-nil, All-cons}
use Rattle.std.proofs.lemmas.List.Kept.{AllPairs-cons}
use Rattle.std.proofs.lemmas.Option.{same_Some}
use Rattle.std.specs.Prelude.{Option, Some, None, IfSome, All, Contains, ◌≢◌}
use Rattle.m4_groups.specs.declared.row.Row.{Row}
use Rattle.m4_groups.specs.Rows.{AreRising, columns_of}
use Rattle.m4_groups.proofs.Sets.{AllPairs-none}
use Rattle.m4_groups.proofs.Values.{Contains-here, Contains-later}
use Rattle.whole_number.specs.Range.{IsValue}
use Rattle.needed_nodes.specs.Answers.{IsShownRow}
use Rattle.filter_scan.proofs.Merging.{min_either, max_either, min_low, min_high, max_low, max_high}
use Rattle.filter_scan.specs.Table.{entry, joined, with_row, entries, IsColumnRow, AreShown}

-- a place more
pub entries-push : (xs : List (Option Row)) (o : Option Row) → entries (xs ++ o ∷ []) ≡ entries xs ++ entries (o ∷ [])
entries-push [] None = refl
entries-push [] (Some r) = refl
entries-push (None ∷ xs) o = entries-push xs o
entries-push (Some r ∷ xs) o = ap (λ rs. r ∷ rs) (entries-push xs o)

pub entries_more : (table : List (Option Row)) (i : ℕ) (d : Option Row) (rows later : List Row) → i < length table
    → rows ≡ entries (take i table)
    → later ≡ rows ++ entries (get_or table i d ∷ []) → later ≡ entries (take (i + 1) table)
entries_more table i d rows later short before e =
    e ∙ ap (λ rs. rs ++ entries (get_or table i d ∷ [])) before ∙ sym (entries-push (take i table) (get_or table i d))
    ∙ ap entries (sym (take_more table i d short))

-- what holds of each row
pub entries_each : (P : Row → Type 0) (table : List (Option Row)) → ((c : ℕ) (r : Row) → entry table c ≡ Some r → P r)
    → All P (entries table)
entries_each P [] each = All-nil P
entries_each P (None ∷ table) each = entries_each P table (λ c r e. each (suc c) r e)
entries_each P (Some q ∷ table) each = All-cons P q (entries table) (each 0 q refl) (entries_each P table (λ c r e. each (suc c) r e))

-- the columns rise
rising_from : (n : ℕ) (table : List (Option Row)) → ((c : ℕ) (r : Row) → entry table c ≡ Some r → r.column ≡ n + c)
    → AreRising (entries table)
rising_from n [] at = AllPairs-none (λ r s. r.column < s.column)
rising_from n (None ∷ table) at = rising_from (n + 1) table (λ c r e. (let h : r.column ≡ n + suc c = at (suc c) r e in omega (arith, h)))
rising_from n (Some q ∷ table) at =
    AllPairs-cons (λ r s. r.column < s.column) q (entries table)
    (entries_each (λ s. q.column < s.column) table
    (λ c r e. (let h : r.column ≡ n + suc c = at (suc c) r e in let g : q.column ≡ n + 0 = at 0 q refl in omega (arith, h, g))))
    (rising_from (n + 1) table (λ c r e. (let h : r.column ≡ n + suc c = at (suc c) r e in omega (arith, h))))

pub rows_rise : (table : List (Option Row)) → AreShown table → AreRising (entries table)
rows_rise table h = rising_from 0 table (λ c r e. (let at : r.column ≡ c = (h.each c r e).column in omega (arith, at)))

-- a column that has a row is among their columns
entry_listed : (table : List (Option Row)) (c : ℕ) (r : Row) → entry table c ≡ Some r → Contains (columns_of (entries table)) r.column
entry_listed [] c r e = absurd (cc)
entry_listed (None ∷ table) zero r e = absurd (cc)
entry_listed (None ∷ table) (suc c) r e = entry_listed table c r e
entry_listed (Some q ∷ table) zero r e =
    let P : Row → Type 0 = λ s. Contains (columns_of (q ∷ entries table)) s.column in
    subst P (same_Some q r e) (Contains-here q.column (columns_of (entries table)))
entry_listed (Some q ∷ table) (suc c) r e = Contains-later q.column r.column (columns_of (entries table)) (entry_listed table c r e)

pub listed : (table : List (Option Row)) (c : ℕ) (r : Row) → AreShown table → entry table c ≡ Some r
    → Contains (columns_of (entries table)) c
listed table c r h e =
    let P : ℕ → Type 0 = λ d. Contains (columns_of (entries table)) d in
    subst P (h.each c r e).column (entry_listed table c r e)

-- a row can be shown on the canvas
value_between : (lo v hi : ℤ) → lo ≤ℤ v → v ≤ℤ hi → IsValue lo → IsValue hi → IsValue v
value_between lo v hi a b p q = omega (arith, ints, a, b, p, q)

pub shown_row : (w c : ℕ) (r : Row) → c < w → IsColumnRow c r → IsShownRow w r
shown_row w c r drawn h = record {
  drawable = record {
    column = omega (arith, h.column, drawn);
    order = omega (arith, ints, h.first_low, h.first_high);
    first = value_between r.least r.first r.greatest h.first_low h.first_high h.least h.greatest;
    least = h.least;
    greatest = h.greatest;
    last = value_between r.least r.last r.greatest h.last_low h.last_high h.least h.greatest;
  };
  first_low = h.first_low;
  first_high = h.first_high;
  last_low = h.last_low;
  last_high = h.last_high;
}

entry_short : (table : List (Option Row)) (c : ℕ) (r : Row) → entry table c ≡ Some r → c < length table
entry_short [] c r e = absurd (cc)
entry_short (o ∷ table) zero r e = omega arith
entry_short (o ∷ table) (suc c) r e = (let h : c < length table = entry_short table c r e in omega (arith, h))

pub rows_shown : (w : ℕ) (table : List (Option Row)) → length table ≡ w → AreShown table → All (IsShownRow w) (entries table)
rows_shown w table sized h =
    entries_each (IsShownRow w) table (λ c r e. shown_row w c r (omega (arith, entry_short table c r e, sized)) (h.each c r e))

-- an empty table
pub none_shown : (table : List (Option Row)) → ((c : ℕ) → entry table c ≡ None) → AreShown table
none_shown table none = record { each = λ c r e. absurd (no_row r (sym (none c) ∙ e)) }
  where
    no_row : (r : Row) → None ≡ Some r → ⊥
    no_row r e = absurd (cc)

pub empty_entries : (table : List (Option Row)) (c : ℕ) → All (λ o. o ≡ None) table → entry table c ≡ None
empty_entries table c none =
    elim (cases_lt c (length table)) [
      | inl less ↦ none c None less
      | inr past ↦ get_or_past table c None past
    ]

-- a row behind that of its column
joined_shown : (c : ℕ) (o : Option Row) (r : Row) → IfSome o (IsColumnRow c) → IsColumnRow c r → IsColumnRow c (joined o r)
joined_shown c None r old new = new
joined_shown c (Some q) r old new = record {
  column = new.column;
  least = min_either IsValue q.least r.least old.least new.least;
  greatest = max_either IsValue q.greatest r.greatest old.greatest new.greatest;
  first_low = min_low q.least r.least q.first old.first_low;
  first_high = max_low q.greatest r.greatest q.first old.first_high;
  last_low = min_high q.least r.least r.last new.last_low;
  last_high = max_high q.greatest r.greatest r.last new.last_high;
}

some_shown : (c : ℕ) (o : Option Row) → ((r : Row) → o ≡ Some r → IsColumnRow c r) → IfSome o (IsColumnRow c)
some_shown c None each = tt
some_shown c (Some r) each = each r refl

pub shown_more : (c : ℕ) (old new : List (Option Row)) (r : Row) → c < length old → IsColumnRow c r → new ≡ with_row old r → AreShown old
    → AreShown new
shown_more c old new r short row is h =
    let P : List (Option Row) → Type 0 = AreShown in
    subst P (sym is) (record { each = λ d q e. at d q e })
  where
    own : (d : ℕ) (q : Row) → d ≡ r.column → entry (with_row old r) d ≡ Some q → IsColumnRow d q
    own d q same e =
        let place : r.column ≡ c = row.column in
        let P : Row → Type 0 = λ s. IsColumnRow r.column s in
        let Q : ℕ → Type 0 = λ n. IsColumnRow n q in
        let R : ℕ → Type 0 = λ n. entry (with_row old r) n ≡ Some q in
        let S : ℕ → Type 0 = λ n. IsColumnRow n r in
        subst Q (sym same)
        (subst P
        (same_Some (joined (entry old r.column) r) q
        (sym (get_or-set_same old r.column (Some (joined (entry old r.column) r)) None (omega (arith, place, short))) ∙ subst R same e))
        (joined_shown r.column (entry old r.column) r (some_shown r.column (entry old r.column) (h.each r.column))
        (subst S (sym place) row)))

    other : (d : ℕ) (q : Row) → d ≢ r.column → entry (with_row old r) d ≡ Some q → IsColumnRow d q
    other d q ne e = h.each d q (sym (get_or-set_other old r.column d (Some (joined (entry old r.column) r)) None ne) ∙ e)

    at : (d : ℕ) (q : Row) → entry (with_row old r) d ≡ Some q → IsColumnRow d q
    at d q e =
        elim (cases_lt d r.column) [
          | inl less ↦ other d q (λ same. omega (arith, less, same)) e
          | inr le ↦ elim (cases_lt r.column d) [
            | inl less ↦ other d q (λ same. omega (arith, less, same)) e
            | inr more ↦ own d q (omega (arith, le, more)) e
          ]
        ]
