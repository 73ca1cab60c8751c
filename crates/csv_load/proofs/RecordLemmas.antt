-- The records of a text by the next record, and what a reader's reads say of it.
use Rattle.std.proofs.Common.{◌≡◌, ℕ, suc, Bool, true, false, List, [], ◌∷◌, length, Option, None, Some, refl, ap, subst, ◌∙◌, add-one}
use Rattle.csv.specs.Machine.{Read, next_record}
use Rattle.csv.specs.Reading.{records, records_from, records_next, default_config, NextIs, ReadsNext, ReadRecord, source_of, pending_of}
use Rattle.csv.specs.Reading.{reader_config, reader_state, reader_source}
use Rattle.csv.specs.Records.{field_at}
use Rattle.csv.specs.declared.reader.Reader.{Reader}
use Rattle.csv.specs.declared.parser.Config.{Config}
use Rattle.csv.specs.declared.parser.State.{State}
use Rattle.csv.specs.declared.parser.State.TheVariants as st
use Rattle.csv_load.specs.Fields.{only_record, pair_of}

-- the records of a text are the next one and those behind it
records_is : (xs : List ℕ) → records default_config xs ≡ records_next (records_from default_config (length xs))
    (next_record default_config st.StartRecord [] [] xs)
unfolding records_from
records_is xs = ap (λ n. records_from default_config n st.StartRecord xs) (add-one (length xs))

pub no_record : (xs : List ℕ) → next_record default_config st.StartRecord [] [] xs ≡ None → only_record (records default_config xs) ≡ None
no_record xs none =
    ap only_record (records_is xs)
    ∙ ap (λ o. only_record (records_next (records_from default_config (length xs)) o)) none

-- the records behind the first
behind : (xs : List ℕ) (p : Read) → next_record default_config st.StartRecord [] [] xs ≡ Some p
    → (k : ℕ) × (records default_config xs ≡ p.0 ∷ records_next (records_from default_config k) (next_record default_config p.1 [] [] p.2))
unfolding records_from next_record
behind [] p first = cc
behind (x ∷ rest) p first =
    (length rest, records_is (x ∷ rest) ∙ ap (records_next (records_from default_config (suc (length rest)))) first)

pub one_record : (xs : List ℕ) (p : Read) → next_record default_config st.StartRecord [] [] xs ≡ Some p
    → next_record default_config p.1 [] [] p.2 ≡ None
    → only_record (records default_config xs) ≡ Some p.0
one_record xs p first none =
    let b = behind xs p first in
    ap only_record b.1 ∙ ap (λ o. only_record (p.0 ∷ records_next (records_from default_config b.0) o)) none

pub two_records : (xs : List ℕ) (p q : Read) → next_record default_config st.StartRecord [] [] xs ≡ Some p
    → next_record default_config p.1 [] [] p.2 ≡ Some q
    → only_record (records default_config xs) ≡ None
two_records xs p q first second =
    let b = behind xs p first in
    ap only_record b.1 ∙ ap (λ o. only_record (p.0 ∷ records_next (records_from default_config b.0) o)) second

-- what a read says of the next record
none_next : (o : Option Read) (fields : List (List ℕ)) (s : State) (ys : List ℕ) → NextIs o false fields s ys → o ≡ None
none_next None fields s ys h = refl
none_next (Some p) fields s ys h = cc

some_next : (o : Option Read) (fields : List (List ℕ)) (s : State) (ys : List ℕ) → NextIs o true fields s ys → o ≡ Some (fields, s, ys)
some_next None fields s ys h = cc
some_next (Some (f, t, zs)) fields s ys h = cc

pub reads_none : (cfg : Config) (s s2 : State) (xs : List ℕ) (after : Option (List ℕ)) (fields : List (List ℕ))
    → ReadsNext cfg s (Some xs) after false fields s2
    → next_record cfg s [] [] xs ≡ None
reads_none cfg s s2 xs None fields h = absurd h
reads_none cfg s s2 xs (Some ys) fields h = none_next (next_record cfg s [] [] xs) fields s2 ys h

pub reads_some : (cfg : Config) (s s2 : State) (xs : List ℕ) (after : Option (List ℕ)) (fields : List (List ℕ))
    → ReadsNext cfg s (Some xs) after true fields s2
    → (ys : List ℕ) × (after ≡ Some ys) × (next_record cfg s [] [] xs ≡ Some (fields, s2, ys))
reads_some cfg s s2 xs None fields h = absurd h
reads_some cfg s s2 xs (Some ys) fields h = (ys, refl, some_next (next_record cfg s [] [] xs) fields s2 ys h)

-- the fields of a record of two
pub first_there : (fs : List (List ℕ)) → length fs ≡ 2 → None ≡ field_at fs 0 → ⊥
unfolding field_at
first_there [] two none = cc
first_there (f ∷ fs) two none = cc

pub second_there : (fs : List (List ℕ)) → length fs ≡ 2 → None ≡ field_at fs 1 → ⊥
unfolding field_at
second_there [] two none = cc
second_there (f ∷ []) two none = cc
second_there (f ∷ g ∷ fs) two none = cc

pub pair_is : (fs : List (List ℕ)) (t v : List ℕ) → length fs ≡ 2 → Some t ≡ field_at fs 0 → Some v ≡ field_at fs 1
    → Some (record { time = t; value = v }) ≡ pair_of fs
unfolding field_at
pair_is [] t v two first second = cc
pair_is (f ∷ []) t v two first second = cc
pair_is (f ∷ g ∷ []) t v two first second = cc
pair_is (f ∷ g ∷ h ∷ fs) t v two first second = cc

-- a reader before its first read, with these bytes to read
pub record Starts {R : Type 0} (rem : R → Option (List ℕ)) (a : Reader R) (xs : List ℕ) : Type 0 where
  pub config : reader_config a ≡ default_config
  pub state : reader_state a ≡ st.StartRecord
  pub source : source_of rem a ≡ Some xs

-- what is left after a read is what the next one reads
source_is : {R : Type 0} (rem : R → Option (List ℕ)) (a b : Reader R) (found : Bool) (fields : List (List ℕ))
    → ReadRecord rem a b found fields
    → source_of rem b ≡ pending_of (rem (reader_source b)) b
source_is rem a b found fields r = rw r.1 refl

first_read : {R : Type 0} (rem : R → Option (List ℕ)) (a b : Reader R) (xs : List ℕ) (found : Bool) (fields : List (List ℕ))
    → Starts rem a xs → ReadRecord rem a b found fields
    → ReadsNext default_config st.StartRecord (Some xs) (pending_of (rem (reader_source b)) b) found fields (reader_state b)
first_read rem a b xs found fields starts r =
    let after = pending_of (rem (reader_source b)) b in
    let P : Config → Type 0 = λ x. ReadsNext x (reader_state a) (source_of rem a) after found fields (reader_state b) in
    let Q : State → Type 0 = λ x. ReadsNext default_config x (source_of rem a) after found fields (reader_state b) in
    let S : Option (List ℕ) → Type 0 = λ x. ReadsNext default_config st.StartRecord x after found fields (reader_state b) in
    subst S starts.source (subst Q starts.state (subst P starts.config r.0))

second_read : {R : Type 0} (rem : R → Option (List ℕ)) (a b d : Reader R) (xs ys : List ℕ) (found : Bool) (f g : List (List ℕ))
    → Starts rem a xs → ReadRecord rem a b true f
    → pending_of (rem (reader_source b)) b ≡ Some ys → ReadRecord rem b d found g
    → ReadsNext default_config (reader_state b) (Some ys) (pending_of (rem (reader_source d)) d) found g (reader_state d)
second_read rem a b d xs ys found f g starts one left two =
    let after = pending_of (rem (reader_source d)) d in
    let P : Config → Type 0 = λ x. ReadsNext x (reader_state b) (source_of rem b) after found g (reader_state d) in
    let S : Option (List ℕ) → Type 0 = λ x. ReadsNext default_config (reader_state b) x after found g (reader_state d) in
    subst S (source_is rem a b true f one ∙ left) (subst P (one.2 ∙ starts.config) two.0)

none_read : {R : Type 0} (rem : R → Option (List ℕ)) (a b : Reader R) (xs : List ℕ) (f : List (List ℕ)) → Starts rem a xs
    → ReadRecord rem a b false f
    → only_record (records default_config xs) ≡ None
none_read rem a b xs f starts one =
    no_record xs (reads_none default_config st.StartRecord (reader_state b) xs (pending_of (rem (reader_source b)) b) f
    (first_read rem a b xs false f starts one))

one_read : {R : Type 0} (rem : R → Option (List ℕ)) (a b d : Reader R) (xs : List ℕ) (f g : List (List ℕ)) → Starts rem a xs
    → ReadRecord rem a b true f → ReadRecord rem b d false g
    → only_record (records default_config xs) ≡ Some f
one_read rem a b d xs f g starts one two =
    let some = reads_some default_config st.StartRecord (reader_state b) xs (pending_of (rem (reader_source b)) b) f
    (first_read rem a b xs true f starts one) in
    let none = reads_none default_config (reader_state b) (reader_state d) some.0 (pending_of (rem (reader_source d)) d) g
    (second_read rem a b d xs some.0 false f g starts one some.1 two) in
    one_record xs (f, reader_state b, some.0) some.2 none

two_read : {R : Type 0} (rem : R → Option (List ℕ)) (a b d : Reader R) (xs : List ℕ) (f g : List (List ℕ)) → Starts rem a xs
    → ReadRecord rem a b true f → ReadRecord rem b d true g
    → only_record (records default_config xs) ≡ None
two_read rem a b d xs f g starts one two =
    let some = reads_some default_config st.StartRecord (reader_state b) xs (pending_of (rem (reader_source b)) b) f
    (first_read rem a b xs true f starts one) in
    let more = reads_some default_config (reader_state b) (reader_state d) some.0 (pending_of (rem (reader_source d)) d) g
    (second_read rem a b d xs some.0 true f g starts one some.1 two) in
    two_records xs (f, reader_state b, some.0) (g, reader_state d, more.0) some.2 more.2

-- the same by what the reads answered
pub none_by : {R : Type 0} (rem : R → Option (List ℕ)) (a b : Reader R) (xs : List ℕ) (found : Bool) (f : List (List ℕ)) → Starts rem a xs
    → found ≡ false → ReadRecord rem a b found f
    → only_record (records default_config xs) ≡ None
none_by rem a b xs found f starts is one =
    let P : Bool → Type 0 = λ x. ReadRecord rem a b x f in
    none_read rem a b xs f starts (subst P is one)

pub one_by : {R : Type 0} (rem : R → Option (List ℕ)) (a b d : Reader R) (xs : List ℕ) (found more : Bool) (f g : List (List ℕ))
    → Starts rem a xs
    → found ≡ true → ReadRecord rem a b found f → more ≡ false → ReadRecord rem b d more g
    → only_record (records default_config xs) ≡ Some f
one_by rem a b d xs found more f g starts is one none two =
    let P : Bool → Type 0 = λ x. ReadRecord rem a b x f in
    let Q : Bool → Type 0 = λ x. ReadRecord rem b d x g in
    one_read rem a b d xs f g starts (subst P is one) (subst Q none two)

pub two_by : {R : Type 0} (rem : R → Option (List ℕ)) (a b d : Reader R) (xs : List ℕ) (found more : Bool) (f g : List (List ℕ))
    → Starts rem a xs
    → found ≡ true → ReadRecord rem a b found f → more ≡ true → ReadRecord rem b d more g
    → only_record (records default_config xs) ≡ None
two_by rem a b d xs found more f g starts is one some two =
    let P : Bool → Type 0 = λ x. ReadRecord rem a b x f in
    let Q : Bool → Type 0 = λ x. ReadRecord rem b d x g in
    two_read rem a b d xs f g starts (subst P is one) (subst Q some two)
