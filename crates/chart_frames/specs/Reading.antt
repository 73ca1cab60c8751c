-- Reading a format's fields from the first byte on. Private contracts are stated by it.
use Rattle.std.specs.Prelude.{ℕ, ◌≡◌, List, length, drop, Result, Ok, Err, nat_lt, if◌then◌else◌}
use Rattle.chart_frames.specs.declared.fields.Stop.{Stop}
use Rattle.chart_frames.specs.declared.fields.Stop.TheVariants.{More, Bad}
use Rattle.chart_frames.specs.Format.{Format, stop, field, number_in}

infixl 10 ◌>>=◌
abbrev pub ◌>>=◌ : {A B : Type 0} → Result A Stop → (A → Result B Stop) → Result B Stop
(Ok x) >>= f = f x
(Err e) >>= f = Err e

-- a number and the bytes behind it
abbrev pub number_at : ℕ → List ℕ → Result (ℕ × List ℕ) Stop
number_at size bytes = if nat_lt (length bytes) size then Err More else Ok (number_in size bytes, drop size bytes)

-- The bytes behind the fields; or what is met first: a field that lacks bytes, or one that breaks its
-- rule, with the number of bytes from its first one on.
abbrev pub read : Format → List ℕ → Result (List ℕ) Stop
read stop bytes = Ok bytes
read (field size ok next) bytes = number_at size bytes >>= λ n. if ok n.0 then read (next n.0) n.1 else Err (Bad (length bytes))

-- what a function returned, seen by view, is what reading gives
abbrev pub Gives : {X Y : Type 0} → (X → Y) → Result X Stop → Result Y Stop → Type 0
Gives view (Ok x) found = found ≡ Ok (view x)
Gives view (Err e) found = found ≡ Err e

-- what a function returned: reading all is then reading what follows, or ends with the same fault
abbrev pub Reads : {X Y : Type 0} → Result X Stop → Result Y Stop → (X → Result Y Stop) → Type 0
Reads (Ok x) all follows = all ≡ follows x
Reads (Err e) all follows = all ≡ Err e
