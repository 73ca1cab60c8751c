-- What words name.
use Rattle.std.proofs.Common.{◌≡◌, ℕ, ℤ, true, List, [], ◌∷◌, sym, ap, ◌∙◌, subst}
use Rattle.std.specs.Prelude.{IsTrue}
use Rattle.whole_number.specs.Numbers.{natural_value, is_integer, integer_value}
use Rattle.whole_number.proofs.Tests.{spelt_integer}
use Rattle.series_book.specs.Names.{is_name}
use Rattle.request_lines.specs.Ranges.{range_of}
use Rattle.request_lines.proofs.SpeltRanges.{range_fit}
use Rattle.retain_command.specs.Rules.{SpellsWords as SpellsRule}
use Rattle.retention.specs.declared.rule.Rule.{Rule}
use Rattle.retention.specs.declared.rule.Rule.TheVariants.{Before, Last, Free}
use Rattle.derive_command.specs.Requests.{SpellsWords as SpellsRequest}
use Rattle.derive_command.specs.declared.request.Request.{Request}
use Rattle.host_lines.specs.declared.asked.HostLine.TheVariants.{Values, Sum, Sweep}
use Rattle.host_lines.specs.Grammar.{Allow, request_named, rule_named, sum_named, values_named, values_places}
use Rattle.host_lines.proofs.PlaceLemmas.{fits_integer, fits_name, integer_read, natural_read}

-- ---- values

-- the three words are a name and two numbers
pub values_parts : (words : List (List ℕ)) (name t0 t1 : List ℕ) → words ≡ name ∷ t0 ∷ t1 ∷ [] → Allow values_places words
    → IsTrue (is_name name) × (is_integer t0 ≡ true) × (is_integer t1 ≡ true)
values_parts words name t0 t1 is allow =
    let A : List (List ℕ) → Type 0 = Allow values_places in
    let fit : Allow values_places (name ∷ t0 ∷ t1 ∷ []) = subst A is allow in (
      fits_name name fit.0,
      spelt_integer t0 (integer_value t0) (fits_integer t0 fit.1.0),
      spelt_integer t1 (integer_value t1) (fits_integer t1 fit.1.1.0),
    )

pub values_are : (words : List (List ℕ)) (name t0 t1 : List ℕ) (y z : ℤ) → words ≡ name ∷ t0 ∷ t1 ∷ [] → y ≡ integer_value t0
    → z ≡ integer_value t1 → Values name y z ≡ values_named words
unfolding values_named
values_are words name t0 t1 y z is first second = (λ i. Values name (first i) (second i)) ∙ sym (ap values_named is)

-- ---- sums

pub sum_is : (session : List ℕ) (request : Request) (words : List (List ℕ)) → SpellsRequest request words
    → sum_named (session ∷ words) ≡ Sum (natural_value session) request
unfolding sum_named
sum_is session request words s =
    let a : integer_value s.a ≡ request.a = integer_read s.a request.a s.a_is in
    let b : integer_value s.b ≡ request.b = integer_read s.b request.b s.b_is in
    let w : natural_value s.w ≡ request.w = natural_read s.w request.w s.w_is in
    let h : natural_value s.h ≡ request.h = natural_read s.h request.h s.h_is in
    let t0 : integer_value s.t0 ≡ request.t0 = integer_read s.t0 request.t0 s.t0_is in
    let t1 : integer_value s.t1 ≡ request.t1 = integer_read s.t1 request.t1 s.t1_is in
    let range : range_of s.range ≡ request.range = (range_fit request.range s.range s.range_is).1 in
    let same : request_named request.first request.second s.a s.b s.w s.h s.t0 s.t1 s.range ≡ request =
    (λ i. record {
      first = request.first;
      second = request.second;
      a = a i;
      b = b i;
      w = w i;
      h = h i;
      t0 = t0 i;
      t1 = t1 i;
      range = range i;
    }) in
    ap (λ (ts : List (List ℕ)). sum_named (session ∷ ts)) s.words_are ∙ ap (Sum (natural_value session)) same

-- ---- rules

pub rule_is : (rule : Rule) (words : List (List ℕ)) → SpellsRule rule words → rule_named words ≡ Sweep rule
unfolding rule_named
rule_is (Before name time) words s = ap rule_named s.1 ∙ ap (λ z. Sweep (Before name z)) (integer_read s.0 time s.3)
rule_is (Last name count) words s = ap rule_named s.1 ∙ ap (λ n. Sweep (Last name n)) (natural_read s.0 count s.3)
rule_is (Free pages) words s = ap rule_named s.1 ∙ ap (λ n. Sweep (Free n)) (natural_read s.0 pages s.2)
