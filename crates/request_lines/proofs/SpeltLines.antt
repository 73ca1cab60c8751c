-- The lines of requests, kind by kind.
use Rattle.std.proofs.Common.{◌≡◌, ℕ, ℤ, ◌+◌, ◌≤◌, true, false, cond, ◌&&◌, List, [], ◌∷◌, length, map, Option, Some, None, All, refl, sym}
use Rattle.std.proofs.Common.{ap, subst, ◌∙◌, arith, inl, inr}
use Rattle.std.specs.Prelude.{nat_le, unsigned_abs, IsTrue, ◌⊎◌, Result, Ok, Err, IfOk}
use Rattle.request_lines.specs.declared.line_errors.LineError.{LineError}
use Rattle.request_lines.specs.declared.line_errors.LineError.TheVariants.{BadLine, NoMemory}
use Rattle.std.specs.Str.{bytes_eq}
use Rattle.std.specs.Fmt.{decimal, signed_decimal}
use lib.Chars.{codes}
use Rattle.std.proofs.lemmas.Bool.{and_parts, and_from}
use Rattle.std.proofs.lemmas.Bool.Decides.{nat_tests}
use Rattle.std.proofs.lemmas.Slice.Eq.{bytes_eq-Decides}
use Rattle.whole_number.specs.Range.{IsValue}
use Rattle.whole_number.specs.Numbers.{is_natural, natural_value, is_integer, integer_value}
use Rattle.whole_number.proofs.Tests.{natural_spelt, spelt_natural, integer_spelt, spelt_integer}
use Rattle.series_book.specs.Names.{is_name}
use Rattle.series_book.specs.declared.limits.TheConstants.{GREATEST_START, GREATEST_STEP}
use Rattle.series_book.specs.declared.edits.Edit.TheVariants.{Create as CreateEdit, Append as AppendEdit, Set as SetEdit}
use Rattle.series_book.specs.declared.edits.Edit.TheVariants.{Clear as ClearEdit}
use Rattle.request_lines.specs.declared.places.Place.TheVariants.{Name, Start, Step, Scale, Integer, Value, Natural, Session, Range, Where}
use Rattle.request_lines.specs.declared.line_kinds.LineKind.{LineKind}
use Rattle.request_lines.specs.declared.line_kinds.LineKind.TheVariants.{Create, Append, Set, Clear, Open, View, Zoom, Pan, Close}
use Rattle.request_lines.specs.declared.requests.Request.{Request}
use Rattle.request_lines.specs.declared.requests.Request.TheVariants.{Edit as EditRequest, Open as OpenRequest, View as ViewRequest}
use Rattle.request_lines.specs.declared.requests.Request.TheVariants.{Zoom as ZoomRequest, Pan as PanRequest, Close as CloseRequest}
use Rattle.request_lines.specs.Ranges.{is_range}
use Rattle.request_lines.specs.Tokens.{tokens}
use Rattle.request_lines.specs.Grammar.{nothing, at_most_one, one_or_more, any_behind, allows, kind_of, form_of, fault, ending_fault}
use Rattle.request_lines.specs.Grammar.{kind_fault, tokens_fault, fault_of}
use Rattle.request_lines.specs.Requests.{create_of, append_of, set_of, clear_of, open_of, view_of, filter_of, zoom_of, pan_of, close_of}
use Rattle.request_lines.specs.Requests.{request_of, named, kind_request, IsRequest, read_by, read_line, ReadsAs}
use Rattle.request_lines.specs.Spelling.{IsNatural, IsInteger, IsSession, value_text, IsEntry, IsThere, SpellsFilter, SpellsWords, Spells}
use Rattle.request_lines.proofs.NumberLemmas.{digit_natural}
use Rattle.request_lines.proofs.SpeltRanges.{range_words, range_fit}
use Rattle.request_lines.proofs.Spelt.{integer_back, natural_back, first_fits, fits_first, digit_small, digit_back, entries_back}
use Rattle.request_lines.proofs.Spelt.{entries_fit, entries_values, theres_back, theres_fit, theres_values}

some_same : {X : Type 0} (x y : X) → Some x ≡ Some y → x ≡ y
some_same x y e = cc

-- what places allow, in words
start_allowed : (token : List ℕ) → allows Start token ≡ true → (is_integer token ≡ true) × IsValue (integer_value token)
unfolding allows
start_allowed token h =
    let k = and_parts (is_integer token) (nat_le (unsigned_abs (integer_value token)) GREATEST_START) h in
    (k.0, grind (arith, nat_tests, k.1))

step_allowed : (token : List ℕ) → allows Step token ≡ true
    → (is_natural token ≡ true) × (1 ≤ natural_value token) × (natural_value token ≤ GREATEST_STEP)
unfolding allows
step_allowed token h =
    let k = and_parts (is_natural token && nat_le 1 (natural_value token)) (nat_le (natural_value token) GREATEST_STEP) h in
    let j = and_parts (is_natural token) (nat_le 1 (natural_value token)) k.0 in
    (j.0, grind (arith, nat_tests, j.1), grind (arith, nat_tests, k.1))

session_allowed : (token : List ℕ) → allows Session token ≡ true → (is_natural token ≡ true) × IsSession (natural_value token)
unfolding allows
session_allowed token h =
    let k = and_parts (is_natural token && nat_le 1 (natural_value token)) (nat_le (natural_value token) 4294967295) h in
    let j = and_parts (is_natural token) (nat_le 1 (natural_value token)) k.0 in
    (j.0, (grind (arith, nat_tests, j.1), grind (arith, nat_tests, k.1)))

name_allowed : (token : List ℕ) → allows Name token ≡ true → IsTrue (is_name token)
unfolding allows
name_allowed token h = h

integer_allowed : (token : List ℕ) → allows Integer token ≡ true
    → (token ≡ signed_decimal (integer_value token)) × IsInteger (integer_value token)
unfolding allows
integer_allowed token h = integer_spelt token h

natural_allowed : (token : List ℕ) → allows Natural token ≡ true → (token ≡ decimal (natural_value token)) × IsNatural (natural_value token)
unfolding allows
natural_allowed token h = natural_spelt token h

scale_allowed : (token : List ℕ) → allows Scale token ≡ true → (token ≡ decimal (natural_value token)) × (natural_value token ≤ 9)
unfolding allows
scale_allowed token h = ((natural_spelt token (digit_natural token h)).0, digit_small token h)

range_allowed : (token : List ℕ) → allows Range token ≡ true → is_range token ≡ true
unfolding allows
range_allowed token h = h

where_allowed : (token : List ℕ) → allows Where token ≡ true → token ≡ codes "where"
unfolding allows
where_allowed token h = (bytes_eq-Decides token (codes "where")).0 h

-- what follows the first word of a line of each kind
create_words : (end at : ℕ) (others : List (List ℕ)) (r : Request)
    → fault end (form_of Create).places (form_of Create).ending others at ≡ None → create_of others ≡ Some r
    → SpellsWords r (codes "create" ∷ others)
unfolding create_of
create_words end at [] r h e = absurd (cc)
create_words end at (a ∷ []) r h e = absurd (cc)
create_words end at (a ∷ (b ∷ [])) r h e = absurd (cc)
create_words end at (a ∷ (b ∷ (c ∷ []))) r h e = absurd (cc)
create_words end at (a ∷ (b ∷ (c ∷ (d ∷ (x ∷ xs))))) r h e = absurd (cc)
create_words end at (a ∷ (b ∷ (c ∷ (d ∷ [])))) r h e =
    let fa = first_fits end Name (Start ∷ Step ∷ Scale ∷ []) nothing a (b ∷ c ∷ d ∷ []) at h in
    let fb = first_fits end Start (Step ∷ Scale ∷ []) nothing b (c ∷ d ∷ []) _ fa.1 in
    let fc = first_fits end Step (Scale ∷ []) nothing c (d ∷ []) _ fb.1 in
    let fd = first_fits end Scale [] nothing d [] _ fc.1 in
    let start = start_allowed b fb.0 in
    let step = step_allowed c fc.0 in
    let scale = scale_allowed d fd.0 in
    let eb : b ≡ signed_decimal (integer_value b) = (integer_spelt b start.0).0 in
    let ec : c ≡ decimal (natural_value c) = (natural_spelt c step.0).0 in
    let P : Request → Type 0 = λ r. SpellsWords r (codes "create" ∷ a ∷ b ∷ c ∷ d ∷ []) in
    subst P (some_same _ r e) (
      (λ i. codes "create" ∷ a ∷ eb i ∷ ec i ∷ scale.0 i ∷ []),
      name_allowed a fa.0,
      start.1,
      step.1,
      step.2,
      scale.1,
    )

append_words : (end at : ℕ) (others : List (List ℕ)) (r : Request)
    → fault end (form_of Append).places (form_of Append).ending others at ≡ None → append_of others ≡ Some r
    → SpellsWords r (codes "append" ∷ others)
unfolding append_of fault ending_fault
append_words end at [] r h e = absurd (cc)
append_words end at (a ∷ []) r h e = let fa = first_fits end Name [] (one_or_more Value) a [] at h in absurd (some_none fa.1)
  where
    some_none : {n : ℕ} → ◌≡◌ {A = Option ℕ} (Some n) None → ⊥
    some_none e = cc
append_words end at (a ∷ (v ∷ vs)) r h e =
    let fa = first_fits end Name [] (one_or_more Value) a (v ∷ vs) at h in
    let values = entries_back (v ∷ vs) _ fa.1 in
    let P : Request → Type 0 = λ r. SpellsWords r (codes "append" ∷ a ∷ v ∷ vs) in
    subst P (some_same _ r e) ((λ i. codes "append" ∷ a ∷ sym values.0 i), name_allowed a fa.0, omega arith, values.1)

set_words : (end at : ℕ) (others : List (List ℕ)) (r : Request) → fault end (form_of Set).places (form_of Set).ending others at ≡ None
    → set_of others ≡ Some r
    → SpellsWords r (codes "set" ∷ others)
unfolding set_of fault ending_fault
set_words end at [] r h e = absurd (cc)
set_words end at (a ∷ []) r h e = absurd (cc)
set_words end at (a ∷ (b ∷ [])) r h e =
    let fa = first_fits end Name (Integer ∷ []) (one_or_more Integer) a (b ∷ []) at h in
    let fb = first_fits end Integer [] (one_or_more Integer) b [] _ fa.1 in
    absurd (some_none fb.1)
  where
    some_none : {n : ℕ} → ◌≡◌ {A = Option ℕ} (Some n) None → ⊥
    some_none e = cc
set_words end at (a ∷ (b ∷ (v ∷ vs))) r h e =
    let fa = first_fits end Name (Integer ∷ []) (one_or_more Integer) a (b ∷ v ∷ vs) at h in
    let fb = first_fits end Integer [] (one_or_more Integer) b (v ∷ vs) _ fa.1 in
    let time = integer_allowed b fb.0 in
    let values = theres_back (v ∷ vs) _ fb.1 in
    let P : Request → Type 0 = λ r. SpellsWords r (codes "set" ∷ a ∷ b ∷ v ∷ vs) in
    subst P (some_same _ r e) ((λ i. codes "set" ∷ a ∷ time.0 i ∷ sym values.0 i), name_allowed a fa.0, time.1, omega arith, values.1)

clear_words : (end at : ℕ) (others : List (List ℕ)) (r : Request) → fault end (form_of Clear).places (form_of Clear).ending others at ≡ None
    → clear_of others ≡ Some r
    → SpellsWords r (codes "clear" ∷ others)
unfolding clear_of
clear_words end at [] r h e = absurd (cc)
clear_words end at (a ∷ []) r h e = absurd (cc)
clear_words end at (a ∷ (b ∷ [])) r h e = absurd (cc)
clear_words end at (a ∷ (b ∷ (c ∷ (x ∷ xs)))) r h e = absurd (cc)
clear_words end at (a ∷ (b ∷ (c ∷ []))) r h e =
    let fa = first_fits end Name (Integer ∷ Natural ∷ []) nothing a (b ∷ c ∷ []) at h in
    let fb = first_fits end Integer (Natural ∷ []) nothing b (c ∷ []) _ fa.1 in
    let fc = first_fits end Natural [] nothing c [] _ fb.1 in
    let time = integer_allowed b fb.0 in
    let count = natural_allowed c fc.0 in
    let P : Request → Type 0 = λ r. SpellsWords r (codes "clear" ∷ a ∷ b ∷ c ∷ []) in
    subst P (some_same _ r e) ((λ i. codes "clear" ∷ a ∷ time.0 i ∷ count.0 i ∷ []), name_allowed a fa.0, time.1, count.1)

open_words : (end at : ℕ) (others : List (List ℕ)) (r : Request) → fault end (form_of Open).places (form_of Open).ending others at ≡ None
    → open_of others ≡ Some r
    → SpellsWords r (codes "open" ∷ others)
unfolding open_of fault ending_fault
open_words end at [] r h e = absurd (cc)
open_words end at (a ∷ (b ∷ (x ∷ xs))) r h e = absurd (cc)
open_words end at (a ∷ []) r h e =
    let fa = first_fits end Session [] (at_most_one Natural) a [] at h in
    let session = session_allowed a fa.0 in
    let ea = (natural_spelt a session.0).0 in
    let P : Request → Type 0 = λ r. SpellsWords r (codes "open" ∷ a ∷ []) in
    subst P (some_same _ r e) ((λ i. codes "open" ∷ ea i ∷ []), session.1)
open_words end at (a ∷ (b ∷ [])) r h e =
    let fa = first_fits end Session [] (at_most_one Natural) a (b ∷ []) at h in
    let fb = first_fits end Natural [] nothing b [] (at + length a + 1) fa.1 in
    let session = session_allowed a fa.0 in
    let ea = (natural_spelt a session.0).0 in
    let cache = natural_allowed b fb.0 in
    let P : Request → Type 0 = λ r. SpellsWords r (codes "open" ∷ a ∷ b ∷ []) in
    subst P (some_same _ r e) ((λ i. codes "open" ∷ ea i ∷ cache.0 i ∷ []), session.1, cache.1)

filter_words : (end at : ℕ) (others : List (List ℕ)) → fault end [] (any_behind Where) others at ≡ None
    → SpellsFilter (filter_of others) others
unfolding fault ending_fault filter_of
filter_words end at [] h = refl
filter_words end at (word ∷ rest) h =
    elim (allows Where word) as (λ b. allows Where word ≡ b → cond b None (Some at) ≡ None
    → SpellsFilter (filter_of (word ∷ rest)) (word ∷ rest)) [
      | true ↦ λ allowed _. (rest, (λ i. where_allowed word allowed i ∷ rest), refl)
      | false ↦ λ _ e. absurd (cc)
    ] refl h

view_words : (end at : ℕ) (others : List (List ℕ)) (r : Request) → fault end (form_of View).places (form_of View).ending others at ≡ None
    → view_of others ≡ Some r
    → SpellsWords r (codes "view" ∷ others)
unfolding view_of
view_words end at [] r h e = absurd (cc)
view_words end at (a ∷ []) r h e = absurd (cc)
view_words end at (a ∷ (b ∷ [])) r h e = absurd (cc)
view_words end at (a ∷ (b ∷ (c ∷ []))) r h e = absurd (cc)
view_words end at (a ∷ (b ∷ (c ∷ (d ∷ [])))) r h e = absurd (cc)
view_words end at (a ∷ (b ∷ (c ∷ (d ∷ (x ∷ []))))) r h e = absurd (cc)
view_words end at (a ∷ (b ∷ (c ∷ (d ∷ (x ∷ (y ∷ [])))))) r h e = absurd (cc)
view_words end at (a ∷ (b ∷ (c ∷ (d ∷ (x ∷ (y ∷ (z ∷ others))))))) r h e =
    let fa = first_fits end Session (Name ∷ Natural ∷ Natural ∷ Integer ∷ Integer ∷ Range ∷ []) (any_behind Where) a
    (b ∷ c ∷ d ∷ x ∷ y ∷ z ∷ others) at h in
    let fb = first_fits end Name (Natural ∷ Natural ∷ Integer ∷ Integer ∷ Range ∷ []) (any_behind Where) b
    (c ∷ d ∷ x ∷ y ∷ z ∷ others) _ fa.1 in
    let fc = first_fits end Natural (Natural ∷ Integer ∷ Integer ∷ Range ∷ []) (any_behind Where) c (d ∷ x ∷ y ∷ z ∷ others) _ fb.1 in
    let fd = first_fits end Natural (Integer ∷ Integer ∷ Range ∷ []) (any_behind Where) d (x ∷ y ∷ z ∷ others) _ fc.1 in
    let fx = first_fits end Integer (Integer ∷ Range ∷ []) (any_behind Where) x (y ∷ z ∷ others) _ fd.1 in
    let fy = first_fits end Integer (Range ∷ []) (any_behind Where) y (z ∷ others) _ fx.1 in
    let fz = first_fits end Range [] (any_behind Where) z others _ fy.1 in
    let session = session_allowed a fa.0 in
    let ea = (natural_spelt a session.0).0 in
    let w = natural_allowed c fc.0 in
    let k = natural_allowed d fd.0 in
    let t0 = integer_allowed x fx.0 in
    let t1 = integer_allowed y fy.0 in
    let P : Request → Type 0 = λ r. SpellsWords r (codes "view" ∷ a ∷ b ∷ c ∷ d ∷ x ∷ y ∷ z ∷ others) in
    subst P (some_same _ r e) (
      z,
      others,
      (λ i. codes "view" ∷ ea i ∷ b ∷ w.0 i ∷ k.0 i ∷ t0.0 i ∷ t1.0 i ∷ z ∷ others),
      session.1,
      name_allowed b fb.0,
      w.1,
      k.1,
      t0.1,
      t1.1,
      range_words z (range_allowed z fz.0),
      filter_words end _ others fz.1,
    )

zoom_words : (end at : ℕ) (others : List (List ℕ)) (r : Request) → fault end (form_of Zoom).places (form_of Zoom).ending others at ≡ None
    → zoom_of others ≡ Some r
    → SpellsWords r (codes "zoom" ∷ others)
unfolding zoom_of
zoom_words end at [] r h e = absurd (cc)
zoom_words end at (a ∷ []) r h e = absurd (cc)
zoom_words end at (a ∷ (b ∷ [])) r h e = absurd (cc)
zoom_words end at (a ∷ (b ∷ (c ∷ (x ∷ xs)))) r h e = absurd (cc)
zoom_words end at (a ∷ (b ∷ (c ∷ []))) r h e =
    let fa = first_fits end Session (Integer ∷ Integer ∷ []) nothing a (b ∷ c ∷ []) at h in
    let fb = first_fits end Integer (Integer ∷ []) nothing b (c ∷ []) _ fa.1 in
    let fc = first_fits end Integer [] nothing c [] _ fb.1 in
    let session = session_allowed a fa.0 in
    let ea = (natural_spelt a session.0).0 in
    let t0 = integer_allowed b fb.0 in
    let t1 = integer_allowed c fc.0 in
    let P : Request → Type 0 = λ r. SpellsWords r (codes "zoom" ∷ a ∷ b ∷ c ∷ []) in
    subst P (some_same _ r e) ((λ i. codes "zoom" ∷ ea i ∷ t0.0 i ∷ t1.0 i ∷ []), session.1, t0.1, t1.1)

pan_words : (end at : ℕ) (others : List (List ℕ)) (r : Request) → fault end (form_of Pan).places (form_of Pan).ending others at ≡ None
    → pan_of others ≡ Some r
    → SpellsWords r (codes "pan" ∷ others)
unfolding pan_of
pan_words end at [] r h e = absurd (cc)
pan_words end at (a ∷ []) r h e = absurd (cc)
pan_words end at (a ∷ (b ∷ (x ∷ xs))) r h e = absurd (cc)
pan_words end at (a ∷ (b ∷ [])) r h e =
    let fa = first_fits end Session (Integer ∷ []) nothing a (b ∷ []) at h in
    let fb = first_fits end Integer [] nothing b [] _ fa.1 in
    let session = session_allowed a fa.0 in
    let ea = (natural_spelt a session.0).0 in
    let by = integer_allowed b fb.0 in
    let P : Request → Type 0 = λ r. SpellsWords r (codes "pan" ∷ a ∷ b ∷ []) in
    subst P (some_same _ r e) ((λ i. codes "pan" ∷ ea i ∷ by.0 i ∷ []), session.1, by.1)

close_words : (end at : ℕ) (others : List (List ℕ)) (r : Request) → fault end (form_of Close).places (form_of Close).ending others at ≡ None
    → close_of others ≡ Some r
    → SpellsWords r (codes "close" ∷ others)
unfolding close_of
close_words end at [] r h e = absurd (cc)
close_words end at (a ∷ (x ∷ xs)) r h e = absurd (cc)
close_words end at (a ∷ []) r h e =
    let fa = first_fits end Session [] nothing a [] at h in
    let session = session_allowed a fa.0 in
    let ea = (natural_spelt a session.0).0 in
    let P : Request → Type 0 = λ r. SpellsWords r (codes "close" ∷ a ∷ []) in
    subst P (some_same _ r e) ((λ i. codes "close" ∷ ea i ∷ []), session.1)

-- the first word of a line of each kind
abbrev word_of : LineKind → List ℕ
word_of Create = codes "create"
word_of Append = codes "append"
word_of Set = codes "set"
word_of Clear = codes "clear"
word_of Open = codes "open"
word_of View = codes "view"
word_of Zoom = codes "zoom"
word_of Pan = codes "pan"
word_of Close = codes "close"

kind_words : (kind : LineKind) (end at : ℕ) (others : List (List ℕ)) (r : Request)
    → fault end (form_of kind).places (form_of kind).ending others at ≡ None → request_of kind others ≡ Some r
    → SpellsWords r (word_of kind ∷ others)
kind_words Create = create_words
kind_words Append = append_words
kind_words Set = set_words
kind_words Clear = clear_words
kind_words Open = open_words
kind_words View = view_words
kind_words Zoom = zoom_words
kind_words Pan = pan_words
kind_words Close = close_words

pick : (word : List ℕ) (k kind : LineKind) (rest : Option LineKind) → cond (bytes_eq word (word_of k)) (Some k) rest ≡ Some kind
    → (rest ≡ Some kind → word ≡ word_of kind)
    → word ≡ word_of kind
pick word k kind rest h others =
    elim (bytes_eq word (word_of k)) as (λ b. bytes_eq word (word_of k) ≡ b → cond b (Some k) rest ≡ Some kind → word ≡ word_of kind) [
      | true ↦ λ same e. (bytes_eq-Decides word (word_of k)).0 same ∙ ap word_of (some_same k kind e)
      | false ↦ λ _ e. others e
    ] refl h

word_is : (word : List ℕ) (kind : LineKind) → kind_of word ≡ Some kind → word ≡ word_of kind
unfolding kind_of
word_is word kind h =
    pick word Create kind _ h (λ h. pick word Append kind _ h
    (λ h. pick word Set kind _ h (λ h. pick word Clear kind _ h (λ h. pick word Open kind _ h
    (λ h. pick word View kind _ h (λ h. pick word Zoom kind _ h
    (λ h. pick word Pan kind _ h (λ h. pick word Close kind _ h (λ h. absurd (cc))))))))))

line_words : (end : ℕ) (words : List (List ℕ)) (r : Request) → tokens_fault end words ≡ None → named words ≡ Some r → SpellsWords r words
line_words end [] r h e = absurd (cc)
line_words end (word ∷ others) r h e =
    elim (kind_of word) as (λ k. kind_of word ≡ k → kind_fault end k others (length word + 1) ≡ None → kind_request k others ≡ Some r
    → SpellsWords r (word ∷ others)) [
      | None ↦ λ _ f e. absurd (cc)
      | Some kind ↦ λ is f e.
          let P : List ℕ → Type 0 = λ w. SpellsWords r (w ∷ others) in
          subst P (sym (word_is word kind is)) (kind_words kind end (length word + 1) others r f e)
    ] refl h e

pub request_spells : (line : List ℕ) (r : Request) → IsRequest line r → Spells r line
unfolding fault_of
request_spells line r h = line_words (length line) (tokens line) r h.no_fault h.named_so

-- the texts of numbers are what their places allow
allow_name : (name : List ℕ) → IsTrue (is_name name) → allows Name name ≡ true
unfolding allows
allow_name name h = h

allow_integer : (z : ℤ) → IsInteger z → allows Integer (signed_decimal z) ≡ true
unfolding allows
allow_integer z small = spelt_integer (signed_decimal z) z (refl, small)

allow_natural : (n : ℕ) → IsNatural n → allows Natural (decimal n) ≡ true
unfolding allows
allow_natural n small = spelt_natural (decimal n) n (refl, small)

value_integer : (z : ℤ) → IsValue z → IsInteger z
value_integer z small = omega (arith, small)

allow_start : (z : ℤ) → IsValue z → allows Start (signed_decimal z) ≡ true
unfolding allows
allow_start z small =
    let integer : IsInteger z = value_integer z small in
    let P : ℤ → Type 0 = λ y. nat_le (unsigned_abs y) GREATEST_START ≡ true in
    let within : nat_le (unsigned_abs z) GREATEST_START ≡ true = grind (arith, nat_tests, small) in
    and_from (is_integer (signed_decimal z)) (nat_le (unsigned_abs (integer_value (signed_decimal z))) GREATEST_START)
    (spelt_integer (signed_decimal z) z (refl, integer)) (subst P (sym (integer_back z (refl, integer))) within)

between : (n most : ℕ) → IsNatural n → 1 ≤ n → n ≤ most
    → (is_natural (decimal n) && nat_le 1 (natural_value (decimal n)) && nat_le (natural_value (decimal n)) most) ≡ true
between n most small low high =
    let P : ℕ → Type 0 = λ m. nat_le 1 m ≡ true in
    let Q : ℕ → Type 0 = λ m. nat_le m most ≡ true in
    let from : nat_le 1 n ≡ true = grind (arith, nat_tests, low) in
    let to : nat_le n most ≡ true = grind (arith, nat_tests, high) in
    let back : n ≡ natural_value (decimal n) = sym (natural_back n (refl, small)) in
    and_from (is_natural (decimal n) && nat_le 1 (natural_value (decimal n))) (nat_le (natural_value (decimal n)) most)
    (and_from (is_natural (decimal n)) (nat_le 1 (natural_value (decimal n))) (spelt_natural (decimal n) n (refl, small))
    (subst P back from))
    (subst Q back to)

allow_step : (n : ℕ) → 1 ≤ n → n ≤ GREATEST_STEP → allows Step (decimal n) ≡ true
unfolding allows
allow_step n low high = between n GREATEST_STEP (omega (arith, high)) low high

session_small : (n : ℕ) → IsSession n → IsNatural n
session_small n h = omega (arith, h.1)

allow_session : (n : ℕ) → IsSession n → allows Session (decimal n) ≡ true
unfolding allows
allow_session n h = between n 4294967295 (session_small n h) h.0 h.1

allow_scale : (n : ℕ) → n ≤ 9 → allows Scale (decimal n) ≡ true
unfolding allows
allow_scale n small = digit_back n small

allow_range : (token : List ℕ) → is_range token ≡ true → allows Range token ≡ true
unfolding allows
allow_range token h = h

allow_where : allows Where (codes "where") ≡ true
unfolding allows
allow_where = refl

-- the ends of lines
ends : (end at : ℕ) → fault end [] nothing [] at ≡ None
unfolding fault ending_fault
ends end at = refl

open_ends : (end at : ℕ) → fault end [] (at_most_one Natural) [] at ≡ None
unfolding fault ending_fault
open_ends end at = refl

cache_ends : (end : ℕ) (token : List ℕ) (at : ℕ) → allows Natural token ≡ true → fault end [] (at_most_one Natural) (token ∷ []) at ≡ None
unfolding fault ending_fault
cache_ends end token at h = rw h refl

entries_end : (end : ℕ) (values : List (Option ℤ)) → 1 ≤ length values → All IsEntry values → (at : ℕ)
    → fault end [] (one_or_more Value) (map value_text values) at ≡ None
unfolding fault ending_fault
entries_end end [] some all at = absurd (omega (arith, some))
entries_end end (v ∷ values) some all at = entries_fit (v ∷ values) all at

theres_end : (end : ℕ) (values : List (Option ℤ)) → 1 ≤ length values → All IsThere values → (at : ℕ)
    → fault end [] (one_or_more Integer) (map value_text values) at ≡ None
unfolding fault ending_fault
theres_end end [] some all at = absurd (omega (arith, some))
theres_end end (v ∷ values) some all at = theres_fit (v ∷ values) all at

filter_end : (filter : Option (List ℕ)) (others : List (List ℕ)) → SpellsFilter filter others → (end at : ℕ)
    → fault end [] (any_behind Where) others at ≡ None
unfolding fault ending_fault
filter_end None others h end at = let P : List (List ℕ) → Type 0 = λ l. fault end [] (any_behind Where) l at ≡ None in subst P (sym h) refl
filter_end (Some text) others h end at =
    let P : List (List ℕ) → Type 0 = λ l. fault end [] (any_behind Where) l at ≡ None in
    let here : cond (allows Where (codes "where")) None (Some at) ≡ None = rw allow_where refl in
    subst P (sym h.1) here

filter_named : (filter : Option (List ℕ)) (others : List (List ℕ)) → SpellsFilter filter others → filter_of others ≡ filter
unfolding filter_of
filter_named None others h = ap filter_of h
filter_named (Some text) others h = ap filter_of h.1 ∙ ap Some (sym h.2)

-- a line of a kind, from what follows its first word
kind_back : (kind : LineKind) → kind_of (word_of kind) ≡ Some kind
unfolding kind_of
kind_back Create = refl
kind_back Append = refl
kind_back Set = refl
kind_back Clear = refl
kind_back Open = refl
kind_back View = refl
kind_back Zoom = refl
kind_back Pan = refl
kind_back Close = refl

fits : (kind : LineKind) (others words : List (List ℕ)) (r : Request) (end : ℕ) → words ≡ word_of kind ∷ others
    → ((at : ℕ) → fault end (form_of kind).places (form_of kind).ending others at ≡ None) → request_of kind others ≡ Some r
    → (tokens_fault end words ≡ None) × (named words ≡ Some r)
fits kind others words r end is no_fault named_so =
    let P : Option LineKind → Type 0 = λ k. (kind_fault end k others (length (word_of kind) + 1) ≡ None)
    × (kind_request k others ≡ Some r) in
    let Q : List (List ℕ) → Type 0 = λ l. (tokens_fault end l ≡ None) × (named l ≡ Some r) in
    subst Q (sym is) (subst P (sym (kind_back kind)) (no_fault (length (word_of kind) + 1), named_so))

words_fit : (r : Request) (words : List (List ℕ)) (end : ℕ) → SpellsWords r words → (tokens_fault end words ≡ None) × (named words ≡ Some r)
unfolding create_of append_of set_of clear_of open_of view_of zoom_of pan_of close_of
words_fit (EditRequest (CreateEdit name start step scale)) words end h =
    let eb = integer_back start (refl, value_integer start h.2) in
    let ec = natural_back step (refl, omega (arith, h.4)) in
    let ed = natural_back scale (refl, omega (arith, h.5)) in
    fits Create (name ∷ signed_decimal start ∷ decimal step ∷ decimal scale ∷ []) words _ end h.0
    (λ at. fits_first end Name (Start ∷ Step ∷ Scale ∷ []) nothing name _ at (allow_name name h.1)
    (λ at. fits_first end Start (Step ∷ Scale ∷ []) nothing (signed_decimal start) _ at (allow_start start h.2)
    (λ at. fits_first end Step (Scale ∷ []) nothing (decimal step) _ at (allow_step step h.3 h.4)
    (λ at. fits_first end Scale [] nothing (decimal scale) [] at (allow_scale scale h.5) (ends end)))))
    (λ i. Some (EditRequest (CreateEdit name (eb i) (ec i) (ed i))))
words_fit (EditRequest (AppendEdit name values)) words end h =
    let ev = entries_values values h.3 in
    fits Append (name ∷ map value_text values) words _ end h.0
    (λ at. fits_first end Name [] (one_or_more Value) name _ at (allow_name name h.1) (entries_end end values h.2 h.3))
    (λ i. Some (EditRequest (AppendEdit name (ev i))))
words_fit (EditRequest (SetEdit name time values)) words end h =
    let eb = integer_back time (refl, h.2) in
    let ev = theres_values values h.4 in
    fits Set (name ∷ signed_decimal time ∷ map value_text values) words _ end h.0
    (λ at. fits_first end Name (Integer ∷ []) (one_or_more Integer) name _ at (allow_name name h.1)
    (λ at. fits_first end Integer [] (one_or_more Integer) (signed_decimal time) _ at (allow_integer time h.2)
    (theres_end end values h.3 h.4)))
    (λ i. Some (EditRequest (SetEdit name (eb i) (ev i))))
words_fit (EditRequest (ClearEdit name time count)) words end h =
    let eb = integer_back time (refl, h.2) in
    let ec = natural_back count (refl, h.3) in
    fits Clear (name ∷ signed_decimal time ∷ decimal count ∷ []) words _ end h.0
    (λ at. fits_first end Name (Integer ∷ Natural ∷ []) nothing name _ at (allow_name name h.1)
    (λ at. fits_first end Integer (Natural ∷ []) nothing (signed_decimal time) _ at (allow_integer time h.2)
    (λ at. fits_first end Natural [] nothing (decimal count) [] at (allow_natural count h.3) (ends end))))
    (λ i. Some (EditRequest (ClearEdit name (eb i) (ec i))))
words_fit (OpenRequest session None) words end h =
    let ea = natural_back session (refl, session_small session h.1) in
    fits Open (decimal session ∷ []) words _ end h.0
    (λ at. fits_first end Session [] (at_most_one Natural) (decimal session) [] at (allow_session session h.1) (open_ends end))
    (λ i. Some (OpenRequest (ea i) None))
words_fit (OpenRequest session (Some cache)) words end h =
    let ea = natural_back session (refl, session_small session h.1) in
    let ec = natural_back cache (refl, h.2) in
    fits Open (decimal session ∷ decimal cache ∷ []) words _ end h.0
    (λ at. fits_first end Session [] (at_most_one Natural) (decimal session) (decimal cache ∷ []) at (allow_session session h.1)
    (λ at. cache_ends end (decimal cache) at (allow_natural cache h.2)))
    (λ i. Some (OpenRequest (ea i) (Some (ec i))))
words_fit (ViewRequest session name w k t0 t1 range filter) words end h =
    let ea = natural_back session (refl, session_small session h.3) in
    let ew = natural_back w (refl, h.5) in
    let ek = natural_back k (refl, h.6) in
    let e0 = integer_back t0 (refl, h.7) in
    let e1 = integer_back t1 (refl, h.8) in
    let ef = filter_named filter h.1 h.10 in
    let er = range_fit range h.0 h.9 in
    fits View (decimal session ∷ name ∷ decimal w ∷ decimal k ∷ signed_decimal t0 ∷ signed_decimal t1 ∷ h.0 ∷ h.1) words _ end h.2
    (λ at. fits_first end Session (Name ∷ Natural ∷ Natural ∷ Integer ∷ Integer ∷ Range ∷ []) (any_behind Where) (decimal session) _ at
    (allow_session session h.3)
    (λ at. fits_first end Name (Natural ∷ Natural ∷ Integer ∷ Integer ∷ Range ∷ []) (any_behind Where) name _ at (allow_name name h.4)
    (λ at. fits_first end Natural (Natural ∷ Integer ∷ Integer ∷ Range ∷ []) (any_behind Where) (decimal w) _ at (allow_natural w h.5)
    (λ at. fits_first end Natural (Integer ∷ Integer ∷ Range ∷ []) (any_behind Where) (decimal k) _ at (allow_natural k h.6)
    (λ at. fits_first end Integer (Integer ∷ Range ∷ []) (any_behind Where) (signed_decimal t0) _ at (allow_integer t0 h.7)
    (λ at. fits_first end Integer (Range ∷ []) (any_behind Where) (signed_decimal t1) _ at (allow_integer t1 h.8)
    (λ at. fits_first end Range [] (any_behind Where) h.0 h.1 at (allow_range h.0 er.0) (filter_end filter h.1 h.10 end))))))))
    (λ i. Some (ViewRequest (ea i) name (ew i) (ek i) (e0 i) (e1 i) (er.1 i) (ef i)))
words_fit (ZoomRequest session t0 t1) words end h =
    let ea = natural_back session (refl, session_small session h.1) in
    let e0 = integer_back t0 (refl, h.2) in
    let e1 = integer_back t1 (refl, h.3) in
    fits Zoom (decimal session ∷ signed_decimal t0 ∷ signed_decimal t1 ∷ []) words _ end h.0
    (λ at. fits_first end Session (Integer ∷ Integer ∷ []) nothing (decimal session) _ at (allow_session session h.1)
    (λ at. fits_first end Integer (Integer ∷ []) nothing (signed_decimal t0) _ at (allow_integer t0 h.2)
    (λ at. fits_first end Integer [] nothing (signed_decimal t1) [] at (allow_integer t1 h.3) (ends end))))
    (λ i. Some (ZoomRequest (ea i) (e0 i) (e1 i)))
words_fit (PanRequest session by) words end h =
    let ea = natural_back session (refl, session_small session h.1) in
    let eb = integer_back by (refl, h.2) in
    fits Pan (decimal session ∷ signed_decimal by ∷ []) words _ end h.0
    (λ at. fits_first end Session (Integer ∷ []) nothing (decimal session) _ at (allow_session session h.1)
    (λ at. fits_first end Integer [] nothing (signed_decimal by) [] at (allow_integer by h.2) (ends end)))
    (λ i. Some (PanRequest (ea i) (eb i)))
words_fit (CloseRequest session) words end h =
    let ea = natural_back session (refl, session_small session h.1) in
    fits Close (decimal session ∷ []) words _ end h.0
    (λ at. fits_first end Session [] nothing (decimal session) [] at (allow_session session h.1) (ends end))
    (λ i. Some (CloseRequest (ea i)))

pub spells_request : (line : List ℕ) (r : Request) → Spells r line → IsRequest line r
unfolding fault_of
spells_request line r h =
    let k = words_fit r (tokens line) (length line) h in
    record { no_fault = k.0; named_so = k.1 }

pub spells_one : (line : List ℕ) (r s : Request) → Spells r line → Spells s line → r ≡ s
spells_one line r s first second = some_same r s (sym (spells_request line r first).named_so ∙ (spells_request line s second).named_so)

-- what is read of a line that spells a request
pub only_read : (line : List ℕ) (r : Request) (answer : Result Request LineError) → Spells r line → ReadsAs (read_line line) answer
    → (answer ≡ Ok r) ⊎ (answer ≡ Err NoMemory)
unfolding read_line
only_read line r answer spells reads =
    let h = spells_request line r spells in
    let read : read_by (fault_of line) (named (tokens line)) ≡ Ok r = rw (h.no_fault, h.named_so) refl in
    let P : Result Request ℕ → Type 0 = λ reading. ReadsAs reading answer in
    answered r answer (subst P read reads)
  where
    answered : (r : Request) (answer : Result Request LineError) → ReadsAs (Ok r) answer → (answer ≡ Ok r) ⊎ (answer ≡ Err NoMemory)
    answered r (Ok request) e = inl (cc)
    answered r (Err (BadLine at)) e = absurd (cc)
    answered r (Err NoMemory) e = inr refl

pub spelt_so : (line : List ℕ) (answer : Result Request LineError) → IfOk answer (IsRequest line) → IfOk answer (λ r. Spells r line)
spelt_so line (Ok r) h = request_spells line r h
spelt_so line (Err e) h = tt
