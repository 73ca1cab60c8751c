-- Which lines follow a session, and which end it.
use Rattle.std.proofs.Common.{◌≡◌, ℕ, ◌+◌, ◌≤◌, Bool, true, false, ltb, ◌&&◌, List, [], ◌∷◌, length, None, Some, Result, Ok, Err, refl, sym}
use Rattle.std.proofs.Common.{ap, ◌∙◌, subst, inl, inr, arith}
use Rattle.std.specs.Prelude.{codes, nat_le, if◌then◌else◌, ◌↔◌}
use Rattle.std.specs.Str.{bytes_eq}
use Rattle.std.specs.Fmt.{decimal}
use Rattle.std.proofs.lemmas.Bool.{and_parts, and_from, cases_lt}
use Rattle.std.proofs.lemmas.Bool.Decides.{nat_tests}
use Rattle.std.proofs.lemmas.Slice.Eq.{bytes_eq-Decides}
use Rattle.whole_number.specs.Numbers.{is_natural, natural_value}
use Rattle.whole_number.specs.Spelling.{SpellsNatural}
use Rattle.whole_number.proofs.Tests.{natural_spelt, spelt_natural}
use Rattle.request_lines.specs.declared.places.Place.TheVariants.{Session}
use Rattle.request_lines.specs.Grammar.{allows, fault, ending_fault, fault_of, kind_fault, kind_of, tokens_fault}
use Rattle.request_lines.specs.Requests.{named, read_by, read_line}
use Rattle.request_lines.specs.declared.requests.Request.{Request}
use Rattle.request_lines.specs.Tokens.{tokens}
use Rattle.request_lines.proofs.Spelt.{natural_back}
use Rattle.chart_frames.specs.Frames.{IsSession}
use Rattle.live_view.specs.declared.live_lines.LiveLine.{LiveLine}
use Rattle.live_view.specs.declared.live_lines.LiveLine.TheVariants.{Follow, Unfollow, Other}
use Rattle.live_view.specs.Lines.{number_unless, session_alone, follows, unfollows, tokens_ask, live_line, SpellsWith}
use Rattle.live_view.proofs.LineLemmas.{line-long}

-- the token of a session is its number as it is written
session-written : (token : List ℕ) → allows Session token ≡ true → (token ≡ decimal (natural_value token)) × IsSession (natural_value token)
unfolding allows
session-written token allowed =
    let parts = and_parts (is_natural token && nat_le 1 (natural_value token)) (nat_le (natural_value token) 4294967295) allowed in
    let natural = and_parts (is_natural token) (nat_le 1 (natural_value token)) parts.0 in
    ((natural_spelt token natural.0).0, record { low = grind (arith, nat_tests, natural.1); high = grind (arith, nat_tests, parts.1) })

written : (n : ℕ) → IsSession n → SpellsNatural (decimal n) n
written n session = (refl, omega (arith, session.high))

written-session : (n : ℕ) → IsSession n → allows Session (decimal n) ≡ true
unfolding allows
written-session n session =
    let P : ℕ → Type 0 = λ m. nat_le 1 m ≡ true in
    let Q : ℕ → Type 0 = λ m. nat_le m 4294967295 ≡ true in
    let from : nat_le 1 n ≡ true = grind (arith, nat_tests, session.low) in
    let to : nat_le n 4294967295 ≡ true = grind (arith, nat_tests, session.high) in
    let back : n ≡ natural_value (decimal n) = sym (natural_back n (written n session)) in
    and_from (is_natural (decimal n) && nat_le 1 (natural_value (decimal n))) (nat_le (natural_value (decimal n)) 4294967295)
    (and_from (is_natural (decimal n)) (nat_le 1 (natural_value (decimal n))) (spelt_natural (decimal n) n (written n session))
    (subst P back from))
    (subst Q back to)

abbrev IsAlone : ℕ → List (List ℕ) → Type 0
IsAlone n others = (others ≡ decimal n ∷ []) × IsSession n

-- the only token behind the first word
alone-so : (n : ℕ) (token : List ℕ) → allows Session token ≡ true → natural_value token ≡ n → IsAlone n (token ∷ [])
alone-so n token allowed value =
    let parts = session-written token allowed in
    (ap (λ (t : List ℕ). t ∷ []) (parts.0 ∙ ap decimal value), subst IsSession value parts.1)

alone-spelt : (end at n : ℕ) (others : List (List ℕ)) → session_alone end others at ≡ Ok n → IsAlone n others
unfolding session_alone fault ending_fault
alone-spelt end at n [] h = absurd (cc)
alone-spelt end at n (token ∷ []) h =
    (elim (allows Session token) as (λ b. allows Session token ≡ b → number_unless (if b then None else Some at) (token ∷ []) ≡ Ok n
    → IsAlone n (token ∷ [])) [
      | true ↦ λ allowed is. alone-so n token allowed (cc)
      | false ↦ λ bad is. absurd (cc)
    ]) refl h
alone-spelt end at n (token ∷ (next ∷ rest)) h =
    (elim (allows Session token) as (λ b. number_unless (if b then Some (at + length token + 1) else Some at) (token ∷ (next ∷ rest)) ≡ Ok n
    → IsAlone n (token ∷ (next ∷ rest))) [
      | true ↦ λ is. absurd (cc)
      | false ↦ λ is. absurd (cc)
    ]) h

spelt-alone : (end at n : ℕ) → IsSession n → session_alone end (decimal n ∷ []) at ≡ Ok n
unfolding session_alone fault ending_fault
spelt-alone end at n session = rw (written-session n session) (ap Ok (natural_back n (written n session)))

-- what an answer of the two words says
follows-ok : (answer : Result ℕ ℕ) (n : ℕ) → follows answer ≡ Follow n → answer ≡ Ok n
follows-ok (Ok m) n is = cc
follows-ok (Err at) n is = absurd (cc)

unfollows-ok : (answer : Result ℕ ℕ) (n : ℕ) → unfollows answer ≡ Unfollow n → answer ≡ Ok n
unfollows-ok (Ok m) n is = cc
unfollows-ok (Err at) n is = absurd (cc)

never-follows : (b : Bool) (answer : Result ℕ ℕ) (n : ℕ) → (if b then unfollows answer else Other) ≡ Follow n → ⊥
never-follows true (Ok m) n is = cc
never-follows true (Err at) n is = cc
never-follows false answer n is = cc

never-unfollows : (answer : Result ℕ ℕ) (n : ℕ) → follows answer ≡ Unfollow n → ⊥
never-unfollows (Ok m) n is = cc
never-unfollows (Err at) n is = cc

abbrev AreWith : List ℕ → ℕ → List (List ℕ) → Type 0
AreWith word n ts = (ts ≡ word ∷ decimal n ∷ []) × IsSession n

both-so : (word first : List ℕ) (n : ℕ) (others : List (List ℕ)) → first ≡ word → IsAlone n others → AreWith word n (first ∷ others)
both-so word first n others is alone = ((λ i. is i ∷ alone.0 i), alone.1)

asks-follow : (end n : ℕ) (ts : List (List ℕ)) → tokens_ask end ts ≡ Follow n → AreWith (codes "follow") n ts
asks-follow end n [] h = absurd (cc)
asks-follow end n (word ∷ others) h =
    let answer : Result ℕ ℕ = session_alone end others (length word + 1) in
    (elim (bytes_eq word (codes "follow")) as (λ b. bytes_eq word (codes "follow") ≡ b
    → (if b then follows answer else if bytes_eq word (codes "unfollow") then unfollows answer else Other) ≡ Follow n
    → AreWith (codes "follow") n (word ∷ others)) [
      | true ↦ λ is asks. both-so (codes "follow") word n others ((bytes_eq-Decides word (codes "follow")).0 is)
          (alone-spelt end (length word + 1) n others (follows-ok answer n asks))
      | false ↦ λ other asks. absurd (never-follows (bytes_eq word (codes "unfollow")) answer n asks)
    ]) refl h

asks-unfollow : (end n : ℕ) (ts : List (List ℕ)) → tokens_ask end ts ≡ Unfollow n → AreWith (codes "unfollow") n ts
asks-unfollow end n [] h = absurd (cc)
asks-unfollow end n (word ∷ others) h =
    let answer : Result ℕ ℕ = session_alone end others (length word + 1) in
    (elim (bytes_eq word (codes "follow")) as (λ b. (if b then follows answer else if bytes_eq word (codes "unfollow") then unfollows answer
    else Other) ≡ Unfollow n
    → AreWith (codes "unfollow") n (word ∷ others)) [
      | true ↦ λ asks. absurd (never-unfollows answer n asks)
      | false ↦ (elim (bytes_eq word (codes "unfollow")) as (λ b. bytes_eq word (codes "unfollow") ≡ b
          → (if b then unfollows answer else Other) ≡ Unfollow n
          → AreWith (codes "unfollow") n (word ∷ others)) [
            | true ↦ λ is asks. both-so (codes "unfollow") word n others ((bytes_eq-Decides word (codes "unfollow")).0 is)
                (alone-spelt end (length word + 1) n others (unfollows-ok answer n asks))
            | false ↦ λ other asks. absurd (cc)
          ]) refl
    ]) h

-- a line that isn't too long
asks-short : (line : List ℕ) → length line ≤ 8192 → live_line line ≡ tokens_ask (length line) (tokens line)
unfolding live_line
asks-short line short = let test : ltb 8192 (length line) ≡ false = grind (arith, nat_tests) in rw test refl

-- a line that asks anything isn't too long
not-long : (line : List ℕ) (asked : LiveLine) → live_line line ≡ asked → (Other ≡ asked → ⊥) → length line ≤ 8192
not-long line asked is differs = elim (cases_lt 8192 (length line)) [
  | inl long ↦ absurd (differs (line-long line long ∙ is))
  | inr short ↦ short
]

pub follows-spelt : (line : List ℕ) (n : ℕ) → (live_line line ≡ Follow n) ↔ SpellsWith (codes "follow") n line
follows-spelt line n = (
  (λ is. let short = not-long line (Follow n) is (λ same. cc) in
      let parts = asks-follow (length line) n (tokens line) (sym (asks-short line short) ∙ is) in (short, parts.0, parts.1)),
  (λ spells. asks-short line spells.0 ∙ ap (tokens_ask (length line)) spells.1 ∙ ap follows (spelt-alone (length line) 7 n spells.2)),
)

pub unfollows-spelt : (line : List ℕ) (n : ℕ) → (live_line line ≡ Unfollow n) ↔ SpellsWith (codes "unfollow") n line
unfollows-spelt line n = (
  (λ is. let short = not-long line (Unfollow n) is (λ same. cc) in
      let parts = asks-unfollow (length line) n (tokens line) (sym (asks-short line short) ∙ is) in (short, parts.0, parts.1)),
  (λ spells. asks-short line spells.0 ∙ ap (tokens_ask (length line)) spells.1 ∙ ap unfollows (spelt-alone (length line) 9 n spells.2)),
)

-- ---- lines that spell requests

follow-unknown : kind_of (codes "follow") ≡ None
unfolding kind_of
follow-unknown = refl

unfollow-unknown : kind_of (codes "unfollow") ≡ None
unfolding kind_of
unfollow-unknown = refl

-- a line whose first word is unknown spells no request
never-read : (end : ℕ) (word known : List ℕ) (others : List (List ℕ)) (r : Request) → word ≡ known → kind_of known ≡ None
    → read_by (tokens_fault end (word ∷ others)) (named (word ∷ others)) ≡ Ok r → ⊥
never-read end word known others r same none read =
    let unknown : kind_of word ≡ None = ap kind_of same ∙ none in
    let bad : read_by (tokens_fault end (word ∷ others))
    (named (word ∷ others)) ≡ Err 0 = ap (λ k. read_by (kind_fault end k others (length word + 1)) (named (word ∷ others))) unknown in
    let clash : ◌≡◌ {A = Result Request ℕ} (Err 0) (Ok r) = sym bad ∙ read in
    cc

asks-nothing : (end : ℕ) (ts : List (List ℕ)) (r : Request) → read_by (tokens_fault end ts) (named ts) ≡ Ok r → tokens_ask end ts ≡ Other
asks-nothing end [] r read = refl
asks-nothing end (word ∷ others) r read =
    let answer : Result ℕ ℕ = session_alone end others (length word + 1) in
    (elim (bytes_eq word (codes "follow")) as (λ b. bytes_eq word (codes "follow") ≡ b
    → (if b then follows answer else if bytes_eq word (codes "unfollow") then unfollows answer else Other) ≡ Other) [
      | true ↦ λ is. absurd (never-read end word (codes "follow") others r
          ((bytes_eq-Decides word (codes "follow")).0 is) follow-unknown read)
      | false ↦ λ not. (elim (bytes_eq word (codes "unfollow")) as (λ b. bytes_eq word (codes "unfollow") ≡ b
          → (if b then unfollows answer else Other) ≡ Other) [
            | true ↦ λ is. absurd (never-read end word (codes "unfollow") others r
                ((bytes_eq-Decides word (codes "unfollow")).0 is) unfollow-unknown read)
            | false ↦ λ other. refl
          ]) refl
    ]) refl

pub request-asks-nothing : (line : List ℕ) (r : Request) → read_line line ≡ Ok r → live_line line ≡ Other
unfolding live_line read_line fault_of
request-asks-nothing line r read =
    elim (ltb 8192 (length line)) as (λ b. (if b then Other else tokens_ask (length line) (tokens line)) ≡ Other) [
      | true ↦ refl
      | false ↦ asks-nothing (length line) (tokens line) r read
    ]
