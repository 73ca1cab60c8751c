-- A line that spells a request asks nothing of the host alone.
use Rattle.std.proofs.Common.{◌≡◌, ℕ, ◌+◌, Bool, true, false, ltb, List, [], ◌∷◌, length, None, Result, Ok, Err, refl, sym, ap, ◌∙◌}
use Rattle.std.specs.Prelude.{codes, if◌then◌else◌}
use Rattle.std.specs.Str.{bytes_eq}
use Rattle.std.proofs.lemmas.Slice.Eq.{bytes_eq-Decides}
use Rattle.request_lines.specs.Grammar.{fault_of, kind_fault, kind_of, tokens_fault}
use Rattle.request_lines.specs.Requests.{named, read_by, read_line}
use Rattle.request_lines.specs.declared.requests.Request.{Request}
use Rattle.request_lines.specs.Tokens.{tokens}
use Rattle.host_lines.specs.Grammar.{host_line, places_fault, rule_fault, rule_named, sum_named, sum_places, tokens_ask, unless}
use Rattle.host_lines.specs.Grammar.{values_named, values_places}
use Rattle.host_lines.specs.declared.asked.HostLine.{HostLine}
use Rattle.host_lines.specs.declared.asked.HostLine.TheVariants.{List as ListLine, Other}

-- the words of a host's lines begin no request
list_unknown : kind_of (codes "list") ≡ None
unfolding kind_of
list_unknown = refl

values_unknown : kind_of (codes "values") ≡ None
unfolding kind_of
values_unknown = refl

sum_unknown : kind_of (codes "sum") ≡ None
unfolding kind_of
sum_unknown = refl

sweep_unknown : kind_of (codes "sweep") ≡ None
unfolding kind_of
sweep_unknown = refl

module _ (end : ℕ) (word : List ℕ) (others : List (List ℕ)) (request : Request)
    (reads : read_by (tokens_fault end (word ∷ others)) (named (word ∷ others)) ≡ Ok request) where
  never : (known : List ℕ) → word ≡ known → kind_of known ≡ None → ⊥
  never known same none =
      let unknown : kind_of word ≡ None = ap kind_of same ∙ none in
      let bad : read_by (tokens_fault end (word ∷ others)) (named (word ∷ others)) ≡ Err 0 =
      ap (λ k. read_by (kind_fault end k others (length word + 1)) (named (word ∷ others))) unknown in
      let clash : ◌≡◌ {A = Result Request ℕ} (Err 0) (Ok request) = sym bad ∙ reads in
      cc

  other_word : (known : List ℕ) → kind_of known ≡ None → bytes_eq word known ≡ false
  other_word known none =
      (elim (bytes_eq word known) as (λ (b : Bool). bytes_eq word known ≡ b → b ≡ false) [
        | true ↦ λ is. absurd (never known ((bytes_eq-Decides word known).0 is) none)
        | false ↦ λ is. refl
      ]) refl

  word_asks : tokens_ask end (word ∷ others) ≡ Other
  word_asks =
      let at : ℕ = length word + 1 in
      let sweeps : HostLine = if bytes_eq word (codes "sweep") then unless (rule_fault end others at) (rule_named others) else Other in
      let sums : HostLine = if bytes_eq word (codes "sum") then unless (places_fault end sum_places others at) (sum_named others)
      else sweeps in
      let tells : HostLine = if bytes_eq word (codes "values") then unless (places_fault end values_places others at) (values_named others)
      else sums in
      ap (λ (b : Bool). if b then unless (places_fault end [] others at) ListLine else tells) (other_word (codes "list") list_unknown)
      ∙ ap (λ (b : Bool). if b then unless (places_fault end values_places others at) (values_named others)
      else sums) (other_word (codes "values") values_unknown)
      ∙ ap (λ (b : Bool). if b then unless (places_fault end sum_places others at) (sum_named others)
      else sweeps) (other_word (codes "sum") sum_unknown)
      ∙ ap (λ (b : Bool). if b then unless (rule_fault end others at) (rule_named others)
      else Other) (other_word (codes "sweep") sweep_unknown)

tokens_none : (end : ℕ) (ts : List (List ℕ)) (request : Request) → read_by (tokens_fault end ts) (named ts) ≡ Ok request
    → tokens_ask end ts ≡ Other
tokens_none end [] request reads = refl
tokens_none end (word ∷ others) request reads = word_asks end word others request reads

pub asks_nothing : (line : List ℕ) (request : Request) → read_line line ≡ Ok request → host_line line ≡ Other
unfolding host_line read_line fault_of
asks_nothing line request reads =
    elim (ltb 8192 (length line)) as (λ b. (if b then Other else tokens_ask (length line) (tokens line)) ≡ Other) [
      | true ↦ refl
      | false ↦ tokens_none (length line) (tokens line) request reads
    ]
