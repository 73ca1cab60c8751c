-- Which lines ask the host.
use Rattle.std.proofs.Common.{◌≡◌, ℕ, ℤ, ◌+◌, ◌≤◌, Bool, true, false, List, [], ◌∷◌, length, Option, Some, None, refl, sym, ap, ◌∙◌, subst}
use Rattle.std.proofs.Common.{inl, inr}
use Rattle.std.specs.Prelude.{IsTrue, if◌then◌else◌}
use Rattle.std.specs.Str.{bytes_eq}
use Rattle.std.specs.Fmt.{decimal, signed_decimal}
use lib.Chars.{codes}
use Rattle.std.proofs.lemmas.Bool.{cases_lt}
use Rattle.std.proofs.lemmas.Slice.Eq.{bytes_eq-Decides}
use Rattle.whole_number.specs.Numbers.{natural_value, integer_value}
use Rattle.series_book.specs.Names.{is_name}
use Rattle.request_lines.specs.Spelling.{IsInteger, IsSession}
use Rattle.request_lines.specs.Tokens.{tokens}
use Rattle.retain_command.specs.Rules.{SpellsWords as SpellsRule}
use Rattle.retention.specs.declared.rule.Rule.{Rule}
use Rattle.retention.specs.declared.rule.Rule.TheVariants.{Before, Last, Free}
use Rattle.derive_command.specs.Requests.{SpellsWords as SpellsRequest}
use Rattle.derive_command.specs.declared.request.Request.{Request}
use Rattle.host_lines.specs.declared.asked.HostLine.{HostLine}
use Rattle.host_lines.specs.declared.asked.HostLine.TheVariants.{List as ListLine, Values, Sum, Sweep, Bad, Other}
use Rattle.host_lines.specs.Grammar.{Allow, before_places, free_places, host_line, last_places, places_fault, rule_fault, rule_named}
use Rattle.host_lines.specs.Grammar.{sum_named, sum_places, tokens_ask, unless, values_named, values_places}
use Rattle.host_lines.specs.Spelling.{SpellsList, SpellsSum, SpellsSweep, SpellsValues}
use Rattle.host_lines.proofs.LineLemmas.{line_long, line_short}
use Rattle.host_lines.proofs.NamedLemmas.{rule_is, sum_is}
use Rattle.host_lines.proofs.PlaceLemmas.{allow_fault, factor_fits, fault_allow, fits_factor, fits_integer, fits_name, fits_natural}
use Rattle.host_lines.proofs.PlaceLemmas.{fits_range, fits_session, integer_fits, integer_read, name_fits, natural_fits, range_fits}
use Rattle.host_lines.proofs.PlaceLemmas.{session_fits, session_read}

-- ---- what is asked is spelt

-- the tokens spell what is asked, where it is no fault
abbrev Spelt : HostLine → List (List ℕ) → Type 0
Spelt ListLine words = words ≡ codes "list" ∷ []
Spelt (Values name t0 t1) words = (words ≡ codes "values" ∷ name ∷ signed_decimal t0 ∷ signed_decimal t1 ∷ []) × IsTrue (is_name name)
    × IsInteger t0 × IsInteger t1
Spelt (Sum n request) words = (rest : List (List ℕ)) × (words ≡ codes "sum" ∷ decimal n ∷ rest) × IsSession n × SpellsRequest request rest
Spelt (Sweep rule) words = (rest : List (List ℕ)) × (words ≡ codes "sweep" ∷ rest) × SpellsRule rule rest
Spelt (Bad at) words = Unit {0}
Spelt Other words = Unit {0}

word_is : (word text : List ℕ) → bytes_eq word text ≡ true → word ≡ text
word_is word text same = (bytes_eq-Decides word text).0 same

list_spelt : (end at : ℕ) (word : List ℕ) (others : List (List ℕ)) → word ≡ codes "list"
    → Spelt (unless (places_fault end [] others at) ListLine) (word ∷ others)
unfolding places_fault
list_spelt end at word [] same = ap (λ w. w ∷ []) same
list_spelt end at word (other ∷ others) same = tt

values_so : (word : List ℕ) (others : List (List ℕ)) → word ≡ codes "values" → Allow values_places others
    → Spelt (values_named others) (word ∷ others)
unfolding values_named
values_so word [] same allow = absurd allow
values_so word (a ∷ []) same allow = absurd allow.1
values_so word (a ∷ (b ∷ [])) same allow = absurd allow.1.1
values_so word (a ∷ (b ∷ (c ∷ []))) same allow =
    let first = fits_integer b allow.1.0 in
    let second = fits_integer c allow.1.1.0 in
    ((λ i. same i ∷ a ∷ first.0 i ∷ second.0 i ∷ []), fits_name a allow.0, first.1, second.1)
values_so word (a ∷ (b ∷ (c ∷ (d ∷ others)))) same allow = absurd allow.1.1.1

values_spelt : (end at : ℕ) (word : List ℕ) (others : List (List ℕ)) → word ≡ codes "values"
    → Spelt (unless (places_fault end values_places others at) (values_named others)) (word ∷ others)
values_spelt end at word others same = by (places_fault end values_places others at) refl
  where
    by : (o : Option ℕ) → places_fault end values_places others at ≡ o → Spelt (unless o (values_named others)) (word ∷ others)
    by (Some bad) is = tt
    by None is = values_so word others same (fault_allow end values_places others at is)

sum_so : (word : List ℕ) (others : List (List ℕ)) → word ≡ codes "sum" → Allow sum_places others → Spelt (sum_named others) (word ∷ others)
unfolding sum_named
sum_so word [] same allow = absurd allow
sum_so word (n ∷ []) same allow = absurd allow.1
sum_so word (n ∷ (x ∷ [])) same allow = absurd allow.1.1
sum_so word (n ∷ (x ∷ (y ∷ []))) same allow = absurd allow.1.1.1
sum_so word (n ∷ (x ∷ (y ∷ (a ∷ [])))) same allow = absurd allow.1.1.1.1
sum_so word (n ∷ (x ∷ (y ∷ (a ∷ (b ∷ []))))) same allow = absurd allow.1.1.1.1.1
sum_so word (n ∷ (x ∷ (y ∷ (a ∷ (b ∷ (w ∷ [])))))) same allow = absurd allow.1.1.1.1.1.1
sum_so word (n ∷ (x ∷ (y ∷ (a ∷ (b ∷ (w ∷ (h ∷ []))))))) same allow = absurd allow.1.1.1.1.1.1.1
sum_so word (n ∷ (x ∷ (y ∷ (a ∷ (b ∷ (w ∷ (h ∷ (t0 ∷ [])))))))) same allow = absurd allow.1.1.1.1.1.1.1.1
sum_so word (n ∷ (x ∷ (y ∷ (a ∷ (b ∷ (w ∷ (h ∷ (t0 ∷ (t1 ∷ []))))))))) same allow = absurd allow.1.1.1.1.1.1.1.1.1
sum_so word (n ∷ (x ∷ (y ∷ (a ∷ (b ∷ (w ∷ (h ∷ (t0 ∷ (t1 ∷ (range ∷ (other ∷ others))))))))))) same allow = absurd allow.1.1.1.1.1.1.1.1.1.1
sum_so word (n ∷ (x ∷ (y ∷ (a ∷ (b ∷ (w ∷ (h ∷ (t0 ∷ (t1 ∷ (range ∷ [])))))))))) same allow =
    let number = fits_session n allow.0 in
    let first = fits_factor a allow.1.1.1.0 in
    let second = fits_factor b allow.1.1.1.1.0 in (
      x ∷ y ∷ a ∷ b ∷ w ∷ h ∷ t0 ∷ t1 ∷ range ∷ [],
      (λ i. same i ∷ number.0.0 i ∷ x ∷ y ∷ a ∷ b ∷ w ∷ h ∷ t0 ∷ t1 ∷ range ∷ []),
      number.1,
      record {
        a = a;
        b = b;
        w = w;
        h = h;
        t0 = t0;
        t1 = t1;
        range = range;
        words_are = refl;
        first_is = fits_name x allow.1.0;
        second_is = fits_name y allow.1.1.0;
        a_is = first.0;
        b_is = second.0;
        a_small = first.1;
        b_small = second.1;
        w_is = fits_natural w allow.1.1.1.1.1.0;
        h_is = fits_natural h allow.1.1.1.1.1.1.0;
        t0_is = fits_integer t0 allow.1.1.1.1.1.1.1.0;
        t1_is = fits_integer t1 allow.1.1.1.1.1.1.1.1.0;
        range_is = fits_range range allow.1.1.1.1.1.1.1.1.1.0;
      },
    )

sum_spelt : (end at : ℕ) (word : List ℕ) (others : List (List ℕ)) → word ≡ codes "sum"
    → Spelt (unless (places_fault end sum_places others at) (sum_named others)) (word ∷ others)
sum_spelt end at word others same = by (places_fault end sum_places others at) refl
  where
    by : (o : Option ℕ) → places_fault end sum_places others at ≡ o → Spelt (unless o (sum_named others)) (word ∷ others)
    by (Some bad) is = tt
    by None is = sum_so word others same (fault_allow end sum_places others at is)

-- the words of a rule
before_so : (start word : List ℕ) (others : List (List ℕ)) → start ≡ codes "sweep" → word ≡ codes "before" → Allow before_places others
    → Spelt (rule_named (word ∷ others)) (start ∷ word ∷ others)
unfolding rule_named
before_so start word [] first same allow = absurd allow
before_so start word (name ∷ []) first same allow = absurd allow.1
before_so start word (name ∷ (number ∷ (other ∷ others))) first same allow = absurd allow.1.1
before_so start word (name ∷ (number ∷ [])) first same allow =
    let S : Bool → Type 0 = λ b. Spelt (if b then Sweep (Before name (integer_value number))
    else Sweep (Last name (natural_value number))) (start ∷ word ∷ name ∷ number ∷ []) in
    let test : bytes_eq word (codes "before") ≡ true = (bytes_eq-Decides word (codes "before")).1 same in
    subst S (sym test) (
      word ∷ name ∷ number ∷ [],
      ap (λ w. w ∷ word ∷ name ∷ number ∷ []) first,
      (number, ap (λ w. w ∷ name ∷ number ∷ []) same, fits_name name allow.0, fits_integer number allow.1.0),
    )

last_so : (start word : List ℕ) (others : List (List ℕ)) → start ≡ codes "sweep" → bytes_eq word (codes "before") ≡ false
    → word ≡ codes "last" → Allow last_places others → Spelt (rule_named (word ∷ others)) (start ∷ word ∷ others)
unfolding rule_named
last_so start word [] first test same allow = absurd allow
last_so start word (name ∷ []) first test same allow = absurd allow.1
last_so start word (name ∷ (number ∷ (other ∷ others))) first test same allow = absurd allow.1.1
last_so start word (name ∷ (number ∷ [])) first test same allow =
    let S : Bool → Type 0 = λ b. Spelt (if b then Sweep (Before name (integer_value number))
    else Sweep (Last name (natural_value number))) (start ∷ word ∷ name ∷ number ∷ []) in
    subst S (sym test) (
      word ∷ name ∷ number ∷ [],
      ap (λ w. w ∷ word ∷ name ∷ number ∷ []) first,
      (number, ap (λ w. w ∷ name ∷ number ∷ []) same, fits_name name allow.0, fits_natural number allow.1.0),
    )

free_so : (start word : List ℕ) (others : List (List ℕ)) → start ≡ codes "sweep" → word ≡ codes "free" → Allow free_places others
    → Spelt (rule_named (word ∷ others)) (start ∷ word ∷ others)
unfolding rule_named
free_so start word [] first same allow = absurd allow
free_so start word (number ∷ (other ∷ others)) first same allow = absurd allow.1
free_so start word (number ∷ []) first same allow =
    (word ∷ number ∷ [], ap (λ w. w ∷ word ∷ number ∷ []) first, (number, ap (λ w. w ∷ number ∷ []) same, fits_natural number allow.0))

rule_so : (end at : ℕ) (start : List ℕ) (others : List (List ℕ)) → start ≡ codes "sweep" → rule_fault end others at ≡ None
    → Spelt (rule_named others) (start ∷ others)
unfolding rule_fault
rule_so end at start [] first none = absurd (cc)
rule_so end at start (word ∷ others) first none =
    let k : ℕ = at + length word + 1 in
    let free : Option ℕ = if bytes_eq word (codes "free") then places_fault end free_places others k else Some at in
    let last : Option ℕ = if bytes_eq word (codes "last") then places_fault end last_places others k else free in
    let G : Type 0 = Spelt (rule_named (word ∷ others)) (start ∷ word ∷ others) in
    let at_free : bytes_eq word (codes "before") ≡ false → free ≡ None → G = λ not_before.
    elim (bytes_eq word (codes "free")) as (λ b. bytes_eq word (codes "free") ≡ b
    → (if b then places_fault end free_places others k else Some at) ≡ None → G) [
      | true ↦ λ same is. free_so start word others first (word_is word (codes "free") same) (fault_allow end free_places others k is)
      | false ↦ λ other is. absurd (cc)
    ] refl in
    let at_last : bytes_eq word (codes "before") ≡ false → last ≡ None → G = λ not_before.
    elim (bytes_eq word (codes "last")) as (λ b. bytes_eq word (codes "last") ≡ b
    → (if b then places_fault end last_places others k else free) ≡ None → G) [
      | true ↦ λ same is. last_so start word others first not_before (word_is word (codes "last") same)
          (fault_allow end last_places others k is)
      | false ↦ λ other is. at_free not_before is
    ] refl in
    elim (bytes_eq word (codes "before")) as (λ b. bytes_eq word (codes "before") ≡ b
    → (if b then places_fault end before_places others k else last) ≡ None → G) [
      | true ↦ λ same is. before_so start word others first (word_is word (codes "before") same) (fault_allow end before_places others k is)
      | false ↦ λ other is. at_last other is
    ] refl none

sweep_spelt : (end at : ℕ) (word : List ℕ) (others : List (List ℕ)) → word ≡ codes "sweep"
    → Spelt (unless (rule_fault end others at) (rule_named others)) (word ∷ others)
sweep_spelt end at word others same = by (rule_fault end others at) refl
  where
    by : (o : Option ℕ) → rule_fault end others at ≡ o → Spelt (unless o (rule_named others)) (word ∷ others)
    by (Some bad) is = tt
    by None is = rule_so end at word others same is

tokens_spelt : (end : ℕ) (words : List (List ℕ)) → Spelt (tokens_ask end words) words
tokens_spelt end [] = tt
tokens_spelt end (word ∷ others) =
    let k : ℕ = length word + 1 in
    let sweep : HostLine = if bytes_eq word (codes "sweep") then unless (rule_fault end others k) (rule_named others) else Other in
    let sum : HostLine = if bytes_eq word (codes "sum") then unless (places_fault end sum_places others k) (sum_named others) else sweep in
    let values : HostLine = if bytes_eq word (codes "values") then unless (places_fault end values_places others k) (values_named others)
    else sum in
    let at_sweep : Spelt sweep (word ∷ others) =
    elim (bytes_eq word (codes "sweep")) as (λ b. bytes_eq word (codes "sweep") ≡ b
    → Spelt (if b then unless (rule_fault end others k) (rule_named others) else Other) (word ∷ others)) [
      | true ↦ λ same. sweep_spelt end k word others (word_is word (codes "sweep") same)
      | false ↦ λ other. tt
    ] refl in
    let at_sum : Spelt sum (word ∷ others) =
    elim (bytes_eq word (codes "sum")) as (λ b. bytes_eq word (codes "sum") ≡ b
    → Spelt (if b then unless (places_fault end sum_places others k) (sum_named others) else sweep) (word ∷ others)) [
      | true ↦ λ same. sum_spelt end k word others (word_is word (codes "sum") same)
      | false ↦ λ other. at_sweep
    ] refl in
    let at_values : Spelt values (word ∷ others) =
    elim (bytes_eq word (codes "values")) as (λ b. bytes_eq word (codes "values") ≡ b
    → Spelt (if b then unless (places_fault end values_places others k) (values_named others) else sum) (word ∷ others)) [
      | true ↦ λ same. values_spelt end k word others (word_is word (codes "values") same)
      | false ↦ λ other. at_sum
    ] refl in
    elim (bytes_eq word (codes "list")) as (λ b. bytes_eq word (codes "list") ≡ b
    → Spelt (if b then unless (places_fault end [] others k) ListLine else values) (word ∷ others)) [
      | true ↦ λ same. list_spelt end k word others (word_is word (codes "list") same)
      | false ↦ λ other. at_values
    ] refl

-- the line does, where it is short enough
abbrev Spells : HostLine → List ℕ → Type 0
Spells ListLine line = SpellsList line
Spells (Values name t0 t1) line = SpellsValues name t0 t1 line
Spells (Sum n request) line = SpellsSum n request line
Spells (Sweep rule) line = SpellsSweep rule line
Spells (Bad at) line = Unit {0}
Spells Other line = Unit {0}

of_tokens : (asked : HostLine) (line : List ℕ) → length line ≤ 8192 → Spelt asked (tokens line) → Spells asked line
of_tokens ListLine line short spelt = (short, spelt)
of_tokens (Values name t0 t1) line short spelt = (short, spelt.0, spelt.1, spelt.2, spelt.3)
of_tokens (Sum n request) line short spelt = record {
  short = short;
  words = spelt.0;
  tokens_are = spelt.1;
  session = spelt.2;
  spells = spelt.3;
}
of_tokens (Sweep rule) line short spelt = record { short = short; words = spelt.0; tokens_are = spelt.1; spells = spelt.2 }
of_tokens (Bad at) line short spelt = tt
of_tokens Other line short spelt = tt

pub line_spelt : (line : List ℕ) → Spells (host_line line) line
line_spelt line =
    let S : HostLine → Type 0 = λ asked. Spells asked line in
    elim (cases_lt 8192 (length line)) [
      | inl long ↦ subst S (line_long line long) tt
      | inr short ↦ subst S (sym (line_short line short))
          (of_tokens (tokens_ask (length line) (tokens line)) line short (tokens_spelt (length line) (tokens line)))
    ]

pub spelt_by : (line : List ℕ) (asked : HostLine) → host_line line ≡ asked → Spells asked line
spelt_by line asked is = let S : HostLine → Type 0 = λ it. Spells it line in subst S is (line_spelt line)

-- ---- what is spelt is asked

pub list_back : (line : List ℕ) → SpellsList line → host_line line ≡ ListLine
unfolding places_fault
list_back line s = line_short line s.0 ∙ ap (tokens_ask (length line)) s.1

pub values_back : (line name : List ℕ) (t0 t1 : ℤ) → SpellsValues name t0 t1 line → host_line line ≡ Values name t0 t1
unfolding values_named
values_back line name t0 t1 s =
    let words : List (List ℕ) = name ∷ signed_decimal t0 ∷ signed_decimal t1 ∷ [] in
    let first = integer_read (signed_decimal t0) t0 (refl, s.3) in
    let second = integer_read (signed_decimal t1) t1 (refl, s.4) in
    let none : places_fault (length line) values_places words 7 ≡ None =
    allow_fault (length line) values_places words 7 (
      name_fits name s.2,
      (integer_fits (signed_decimal t0) t0 (refl, s.3), (integer_fits (signed_decimal t1) t1 (refl, s.4), tt)),
    ) in
    line_short line s.0 ∙ ap (tokens_ask (length line)) s.1 ∙ ap (λ o. unless o (values_named words)) none
    ∙ (λ i. Values name (first i) (second i))

pub sum_back : (line : List ℕ) (n : ℕ) (request : Request) → SpellsSum n request line → host_line line ≡ Sum n request
sum_back line n request s =
    let words : List
    (List
    ℕ) = request.first ∷ request.second ∷ s.spells.a ∷ s.spells.b ∷ s.spells.w ∷ s.spells.h ∷ s.spells.t0 ∷ s.spells.t1 ∷ s.spells.range
    ∷ [] in
    let none : places_fault (length line) sum_places (decimal n ∷ s.words) 4 ≡ None =
    ap (λ (ts : List (List ℕ)). places_fault (length line) sum_places (decimal n ∷ ts) 4) s.spells.words_are
    ∙ allow_fault (length line) sum_places (decimal n ∷ words) 4 (
      session_fits n s.session,
      (
        name_fits request.first s.spells.first_is,
        (
          name_fits request.second s.spells.second_is,
          (
            factor_fits s.spells.a request.a s.spells.a_is s.spells.a_small,
            (
              factor_fits s.spells.b request.b s.spells.b_is s.spells.b_small,
              (
                natural_fits s.spells.w request.w s.spells.w_is,
                (
                  natural_fits s.spells.h request.h s.spells.h_is,
                  (
                    integer_fits s.spells.t0 request.t0 s.spells.t0_is,
                    (
                      integer_fits s.spells.t1 request.t1 s.spells.t1_is,
                      (range_fits s.spells.range request.range s.spells.range_is, tt),
                    ),
                  ),
                ),
              ),
            ),
          ),
        ),
      ),
    ) in
    line_short line s.short ∙ ap (tokens_ask (length line)) s.tokens_are ∙ ap (λ o. unless o (sum_named (decimal n ∷ s.words))) none
    ∙ sum_is (decimal n) request s.words s.spells ∙ ap (λ m. Sum m request) (session_read n s.session)

rule_fits : (end at : ℕ) (rule : Rule) (words : List (List ℕ)) → SpellsRule rule words → rule_fault end words at ≡ None
unfolding rule_fault
rule_fits end at (Before name time) words s =
    ap (λ (ts : List (List ℕ)). rule_fault end ts at) s.1
    ∙ allow_fault end before_places (name ∷ s.0 ∷ []) (at + 6 + 1) (name_fits name s.2, (integer_fits s.0 time s.3, tt))
rule_fits end at (Last name count) words s =
    ap (λ (ts : List (List ℕ)). rule_fault end ts at) s.1
    ∙ allow_fault end last_places (name ∷ s.0 ∷ []) (at + 4 + 1) (name_fits name s.2, (natural_fits s.0 count s.3, tt))
rule_fits end at (Free pages) words s =
    ap (λ (ts : List (List ℕ)). rule_fault end ts at) s.1
    ∙ allow_fault end free_places (s.0 ∷ []) (at + 4 + 1) (natural_fits s.0 pages s.2, tt)

pub sweep_back : (line : List ℕ) (rule : Rule) → SpellsSweep rule line → host_line line ≡ Sweep rule
sweep_back line rule s =
    line_short line s.short ∙ ap (tokens_ask (length line)) s.tokens_are
    ∙ ap (λ o. unless o (rule_named s.words)) (rule_fits (length line) 6 rule s.words s.spells) ∙ rule_is rule s.words s.spells
