-- Laws of formats, once for all of them.
use Rattle.std.proofs.Common.{◌≡◌, ℕ, ◌+◌, ◌-◌, ◌^◌, ◌<◌, ◌≤◌, Bool, true, false, cond, ltb, List, [], ◌∷◌, ◌++◌, length, drop, Result, Ok}
use Rattle.std.proofs.Common.{Err, refl, inl, inr, sym, ap, subst, ◌∙◌, arith, append_assoc, length-append, length-drop}
use Rattle.std.specs.Bool.{IsTrue}
use Rattle.std.proofs.lemmas.Bool.{cases_lt, le-ltb, lt-ltb}
use Rattle.std.proofs.lemmas.List.{drop_at, get_or-drop}
use Rattle.chart_frames.specs.declared.fields.Stop.{Stop}
use Rattle.chart_frames.specs.declared.fields.Stop.TheVariants.{More, Bad}
use Rattle.chart_frames.specs.Format.{Format, stop, field, number_bytes, number_in, spell, after, Meets, IsEnd, IsFirstBad, Breaks}
use Rattle.chart_frames.specs.Reading.{read}
use Rattle.chart_frames.proofs.Numbers.{IsBytes, length-number_bytes, number_again, number_below, number_stays, number_spelled}

cons_same : (n m : ℕ) (ns ms : List ℕ) → n ≡ m → ns ≡ ms → n ∷ ns ≡ m ∷ ms
cons_same n m ns ms p q = cc

abbrev error_of : Stop → Result (List ℕ) Stop
error_of e = Err e

-- ---- one field

-- a field that has its bytes
pub read_there : (size : ℕ) (ok : ℕ → Bool) (next : ℕ → Format) (bytes : List ℕ) → size ≤ length bytes
    → read (field size ok next) bytes ≡ cond (ok (number_in size bytes)) (read (next (number_in size bytes)) (drop size bytes))
    (Err (Bad (length bytes)))
read_there size ok next bytes long = let e : ltb (length bytes) size ≡ false = le-ltb _ _ long in rw e refl

-- a field that lacks bytes
pub read_short : (size : ℕ) (ok : ℕ → Bool) (next : ℕ → Format) (bytes : List ℕ) → length bytes < size
    → read (field size ok next) bytes ≡ Err More
read_short size ok next bytes short = let e : ltb (length bytes) size ≡ true = lt-ltb _ _ short in rw e refl

-- a field that was written is passed over
pub passed : (size : ℕ) (ok : ℕ → Bool) (next : ℕ → Format) (n : ℕ) (tail : List ℕ) → n < 256 ^ size → IsTrue (ok n)
    → read (field size ok next) (number_bytes size n ++ tail) ≡ read (next n) tail
passed size ok next n tail below holds =
    let len = length-number_bytes size n in
    let long : size ≤ length (number_bytes size n ++ tail) = omega (arith, length-append (number_bytes size n) tail) in
    read_there size ok next (number_bytes size n ++ tail) long
    ∙ ap (λ (k : ℕ). cond (ok k) (read (next k) (drop size (number_bytes size n ++ tail)))
    (Err (Bad (length (number_bytes size n ++ tail))))) (number_again size n tail below)
    ∙ ap (λ (b : Bool). cond b (read (next n) (drop size (number_bytes size n ++ tail))) (Err (Bad (length (number_bytes size n ++ tail)))))
    holds
    ∙ ap (read (next n)) (drop_at (number_bytes size n) tail size len)

-- ---- numbers that meet their rules

-- fields that were written are passed over
pub passed_all : (f : Format) (ns tail : List ℕ) → Meets f ns → read f (spell f ns ++ tail) ≡ read (after f ns) tail
passed_all f [] tail meets = refl
passed_all stop (n ∷ ns) tail meets = absurd meets
passed_all (field size ok next) (n ∷ ns) tail meets =
    ap (read (field size ok next)) (append_assoc (number_bytes size n) (spell (next n) ns) tail)
    ∙ passed size ok next n (spell (next n) ns ++ tail) meets.0 meets.1.0 ∙ passed_all (next n) ns tail meets.1.1

end_reads : (f : Format) (tail : List ℕ) → IsEnd f → read f tail ≡ Ok tail
end_reads stop tail done = refl
end_reads (field size ok next) tail done = absurd done

-- what is spelled whole is read whole
pub read_again : (f : Format) (ns tail : List ℕ) → Meets f ns → IsEnd (after f ns) → read f (spell f ns ++ tail) ≡ Ok tail
read_again f ns tail meets done = passed_all f ns tail meets ∙ end_reads (after f ns) tail done

-- ---- a field that breaks its rule

bad_read : (f : Format) (bytes : List ℕ) → IsFirstBad f bytes → read f bytes ≡ Err (Bad (length bytes))
bad_read stop bytes bad = absurd bad
bad_read (field size ok next) bytes bad =
    read_there size ok next bytes bad.0
    ∙ ap (λ (b : Bool). cond b (read (next (number_in size bytes)) (drop size bytes)) (Err (Bad (length bytes)))) bad.1

-- where a complete field breaks its rule, reading finds it
pub breaks_read : (f : Format) (bytes : List ℕ) (at : ℕ) → Breaks f bytes at
    → (left : ℕ) × (at + left ≡ length bytes) × (read f bytes ≡ Err (Bad left))
breaks_read f bytes at b = (
  length b.rest,
  omega (arith, b.offset, ap length b.begins, length-append (spell f b.numbers) b.rest),
  ap (read f) b.begins ∙ passed_all f b.numbers b.rest b.meets ∙ bad_read (after f b.numbers) b.rest b.bad,
)

-- a field more in front
before_breaks : (size : ℕ) (ok : ℕ → Bool) (next : ℕ → Format) (bytes : List ℕ) (at : ℕ) → IsBytes bytes → size ≤ length bytes
    → IsTrue (ok (number_in size bytes))
    → Breaks (next (number_in size bytes)) (drop size bytes) at → Breaks (field size ok next) bytes (size + at)
before_breaks size ok next bytes at fits long holds b =
    let n = number_in size bytes in
    record {
      numbers = n ∷ b.numbers;
      rest = b.rest;
      meets = (number_below size bytes fits, (holds, b.meets));
      begins = number_spelled size bytes fits long ∙ ap (λ (p : List ℕ). number_bytes size n ++ p) b.begins
          ∙ sym (append_assoc (number_bytes size n) (spell (next n) b.numbers) b.rest);
      offset = omega (arith, b.offset, length-append (number_bytes size n) (spell (next n) b.numbers), length-number_bytes size n);
      bad = b.bad;
    }

IsBytes-drop : (n : ℕ) (bytes : List ℕ) → IsBytes bytes → IsBytes (drop n bytes)
IsBytes-drop n bytes h i = rw get_or-drop (h (n + i))

more_bad : (left : ℕ) → error_of More ≡ error_of (Bad left) → ⊥
more_bad left e = cc

-- where the first field is complete
breaks_there : (size : ℕ) (ok : ℕ → Bool) (next : ℕ → Format) (bytes : List ℕ) (left : ℕ) → IsBytes bytes → size ≤ length bytes
    → (read (next (number_in size bytes)) (drop size bytes) ≡ Err (Bad left)
    → (at : ℕ) × (at + left ≡ length (drop size bytes)) × Breaks (next (number_in size bytes)) (drop size bytes) at)
    → (b : Bool) → ok (number_in size bytes) ≡ b → cond b (read (next (number_in size bytes)) (drop size bytes))
    (Err (Bad (length bytes))) ≡ Err (Bad left)
    → (at : ℕ) × (at + left ≡ length bytes) × Breaks (field size ok next) bytes at
breaks_there size ok next bytes left fits long within true holds e =
    let found = within e in
    (size + found.0, omega (arith, found.1, length-drop size bytes), before_breaks size ok next bytes found.0 fits long holds found.2)
breaks_there size ok next bytes left fits long within false holds e =
    let same : length bytes ≡ left = cc in
    (0, omega (arith, same), record { numbers = []; rest = bytes; meets = tt; begins = refl; offset = refl; bad = (long, holds) })

-- what reading finds is a complete field that breaks its rule
pub read_breaks : (f : Format) (bytes : List ℕ) (left : ℕ) → IsBytes bytes → read f bytes ≡ Err (Bad left)
    → (at : ℕ) × (at + left ≡ length bytes) × Breaks f bytes at
read_breaks stop bytes left fits e = absurd cc
read_breaks (field size ok next) bytes left fits e =
    elim (cases_lt (length bytes) size) [
      | inl short ↦ absurd (more_bad left (sym (read_short size ok next bytes short) ∙ e))
      | inr long ↦ breaks_there size ok next bytes left fits long
          (λ found. read_breaks (next (number_in size bytes)) (drop size bytes) left (IsBytes-drop size bytes fits) found)
          (ok (number_in size bytes)) refl (sym (read_there size ok next bytes long) ∙ e)
    ]

first_bad_stays : (f : Format) (bytes more : List ℕ) → IsFirstBad f bytes → IsFirstBad f (bytes ++ more)
first_bad_stays stop bytes more bad = absurd bad
first_bad_stays (field size ok next) bytes more bad =
    (omega (arith, bad.0, length-append bytes more), ap ok (number_stays size bytes more bad.0) ∙ bad.1)

-- bytes that come later mend nothing
pub breaks_stay : (f : Format) (bytes more : List ℕ) (at : ℕ) → Breaks f bytes at → Breaks f (bytes ++ more) at
breaks_stay f bytes more at b = record {
  numbers = b.numbers;
  rest = b.rest ++ more;
  meets = b.meets;
  begins = ap (λ (p : List ℕ). p ++ more) b.begins ∙ append_assoc (spell f b.numbers) b.rest more;
  offset = b.offset;
  bad = first_bad_stays (after f b.numbers) b.rest more b.bad;
}

-- ---- how many bytes the fields take

-- whatever numbers meet the rules, the fields take so many bytes
abbrev pub Fills : ℕ → Format → Type 0
Fills m stop = m ≡ 0
Fills m (field size ok next) = (size ≤ m) × ((n : ℕ) → IsTrue (ok n) → Fills (m - size) (next n))

-- what a reading says of the number of bytes
abbrev pub Sized : ℕ → ℕ → Result (List ℕ) Stop → Type 0
Sized m have (Ok tail) = have ≡ m + length tail
Sized m have (Err More) = have < m
Sized m have (Err (Bad left)) = Unit {0}

sized_within : (size m have : ℕ) (r : Result (List ℕ) Stop) → size ≤ m → size ≤ have → Sized (m - size) (have - size) r → Sized m have r
sized_within size m have (Ok tail) p q h = omega (arith, h)
sized_within size m have (Err More) p q h = omega (arith, h)
sized_within size m have (Err (Bad left)) p q h = tt

sized_there : (size m : ℕ) (bytes : List ℕ) (r : Result (List ℕ) Stop) (b : Bool) → size ≤ m → size ≤ length bytes
    → (b ≡ true → Sized (m - size) (length bytes - size) r) → Sized m (length bytes) (cond b r (Err (Bad (length bytes))))
sized_there size m bytes r true p q h = sized_within size m (length bytes) r p q (h refl)
sized_there size m bytes r false p q h = tt

pub read_sized : (f : Format) (m : ℕ) (bytes : List ℕ) → Fills m f → Sized m (length bytes) (read f bytes)
read_sized stop m bytes fills = omega (arith, fills)
read_sized (field size ok next) m bytes fills =
    elim (cases_lt (length bytes) size) [
      | inl short ↦ subst (Sized m (length bytes)) (sym (read_short size ok next bytes short)) (omega (arith, fills.0, short))
      | inr long ↦ subst (Sized m (length bytes)) (sym (read_there size ok next bytes long))
          (sized_there size m bytes (read (next (number_in size bytes)) (drop size bytes)) (ok (number_in size bytes)) fills.0 long
          (λ holds. subst (λ (k : ℕ). Sized (m - size) k (read (next (number_in size bytes)) (drop size bytes))) (length-drop size bytes)
          (read_sized (next (number_in size bytes)) (m - size) (drop size bytes) (fills.1 (number_in size bytes) holds))))
    ]

-- ---- one spelling

-- the number and what follows it are known from the bytes
pub same_field : (size n m : ℕ) (x y : List ℕ) → n < 256 ^ size → m < 256 ^ size → number_bytes size n ++ x ≡ number_bytes size m ++ y
    → (n ≡ m) × (x ≡ y)
same_field size n m x y p q e = (
  sym (number_again size n x p) ∙ ap (number_in size) e ∙ number_again size m y q,
  sym (drop_at (number_bytes size n) x size (length-number_bytes size n)) ∙ ap (drop size) e
      ∙ drop_at (number_bytes size m) y size (length-number_bytes size m),
)

-- the numbers and what follows them are known from the bytes
pub one_reading : (f : Format) (ns ms x y : List ℕ) → Meets f ns → Meets f ms → IsEnd (after f ns) → IsEnd (after f ms)
    → spell f ns ++ x ≡ spell f ms ++ y → (ns ≡ ms) × (x ≡ y)
one_reading stop [] [] x y p q s t e = (refl, e)
one_reading stop [] (m ∷ ms) x y p q s t e = absurd q
one_reading stop (n ∷ ns) ms x y p q s t e = absurd p
one_reading (field size ok next) [] ms x y p q s t e = absurd s
one_reading (field size ok next) (n ∷ ns) [] x y p q s t e = absurd t
one_reading (field size ok next) (n ∷ ns) (m ∷ ms) x y p q s t e =
    let regrouped : number_bytes size n ++ (spell (next n) ns ++ x) ≡ number_bytes size m ++ (spell (next m) ms ++ y) =
    sym (append_assoc (number_bytes size n) (spell (next n) ns) x) ∙ e ∙ append_assoc (number_bytes size m) (spell (next m) ms) y in
    let first = same_field size n m (spell (next n) ns ++ x) (spell (next m) ms ++ y) p.0 q.0 regrouped in
    let P : ℕ → Type 0 = λ k. Meets (next k) ms → IsEnd (after (next k) ms) → spell (next n) ns ++ x ≡ spell (next k) ms ++ y → (ns ≡ ms)
    × (x ≡ y) in
    let rest : (ns ≡ ms) × (x ≡ y) = subst P first.0 (λ q' t' e'. one_reading (next n) ns ms x y p.1.1 q' s t' e') q.1.1 t first.1 in
    (cons_same n m ns ms first.0 rest.0, rest.1)

-- ---- spelled in front of what follows

-- numbers by their sizes, and what follows
abbrev pub spell_before : Format → List ℕ → List ℕ → List ℕ
spell_before f [] tail = tail
spell_before stop (n ∷ ns) tail = tail
spell_before (field size ok next) (n ∷ ns) tail = number_bytes size n ++ spell_before (next n) ns tail

pub spelled_before : (f : Format) (ns tail : List ℕ) → spell f ns ++ tail ≡ spell_before f ns tail
spelled_before f [] tail = refl
spelled_before stop (n ∷ ns) tail = refl
spelled_before (field size ok next) (n ∷ ns) tail =
    append_assoc (number_bytes size n) (spell (next n) ns) tail
    ∙ ap (λ (p : List ℕ). number_bytes size n ++ p) (spelled_before (next n) ns tail)
