-- What lines say is what they are read as.
use Rattle.std.specs.Prelude.{◌↔◌, map}
use Rattle.std.proofs.Common.{◌≡◌, ℕ, suc, List, [], ◌∷◌, length, Option, None, Some, Result, Ok, Err, refl, ap, sym, ◌∙◌}
use Rattle.request_lines.specs.declared.requests.Request.{Request}
use Rattle.request_lines.specs.Grammar.{fault_of}
use Rattle.request_lines.specs.Requests.{IsRequest, named, read_by, read_line}
use Rattle.request_lines.specs.Spelling.{Spells}
use Rattle.request_lines.specs.Tokens.{tokens}
use Rattle.served_fronts.specs.Books.{Line, IsSaid, AreSaid, ok_of, said_by}

-- the law of spelling
pub record Spelling : Type 0 where
  pub spelt : (line : List ℕ) (request : Request) → IsRequest line request ↔ Spells request line
  pub one : (line : List ℕ) (first second : Request) → Spells first line → Spells second line → first ≡ second

read_ok : (o : Option ℕ) (q : Option Request) (request : Request) → read_by o q ≡ Ok request → (o ≡ None) × (q ≡ Some request)
read_ok (Some at) q request is = absurd (let never : read_by (Some at) q ≡ Ok request = is in cc)
read_ok None None request is = absurd (let never : read_by None None ≡ Ok request = is in cc)
read_ok None (Some other) request is = (refl, (let same : other ≡ request = cc in ap Some same))

is_request : (text : List ℕ) (request : Request) → read_line text ≡ Ok request → IsRequest text request
unfolding read_line
is_request text request is =
    let parts = read_ok (fault_of text) (named (tokens text)) request is in
    record { no_fault = parts.0; named_so = parts.1 }

is_read : (text : List ℕ) (request : Request) → IsRequest text request → read_line text ≡ Ok request
unfolding read_line
is_read text request is = ap (λ o. read_by o (named (tokens text))) is.no_fault ∙ ap (read_by None) is.named_so

not_both : (at : ℕ) (request : Request) (r : Result Request ℕ) → r ≡ Err at → r ≡ Ok request → ⊥
not_both at request r bad good = cc

module _ (law : Spelling) where
  by_reading : (text : List ℕ) (r : Result Request ℕ) → read_line text ≡ r → IsSaid (Some text) (ok_of r)
  by_reading text (Ok request) is = (law.spelt text request).0 (is_request text request is)
  by_reading text (Err at) is =
      λ request spells. not_both at request (read_line text) is (is_read text request ((law.spelt text request).1 spells))

  is_said : (line : Line) → IsSaid line (said_by line)
  is_said None = refl
  is_said (Some text) = by_reading text (read_line text) refl

  pub are_said : (lines : List Line) → AreSaid lines (map said_by lines)
  are_said [] = tt
  are_said (l ∷ ls) = (is_said l, are_said ls)

  one_said : (line : Line) (a b : Option Request) → IsSaid line a → IsSaid line b → a ≡ b
  one_said None a b p q = p ∙ sym q
  one_said (Some text) None None p q = refl
  one_said (Some text) None (Some r) p q = absurd (p r q)
  one_said (Some text) (Some r) None p q = absurd (q r p)
  one_said (Some text) (Some r) (Some s) p q = ap Some (law.one text r s p q)

  -- and they say nothing else
  pub all_said : (lines : List Line) (requests : List (Option Request)) → AreSaid lines requests → requests ≡ map said_by lines
  all_said [] [] are = refl
  all_said [] (r ∷ rs) are = absurd are
  all_said (l ∷ ls) [] are = absurd are
  all_said (l ∷ ls) (r ∷ rs) are =
      ap (λ x. x ∷ rs) (one_said l r (said_by l) are.0 (is_said l)) ∙ ap (λ l'. said_by l ∷ l') (all_said ls rs are.1)

pub said_many : (lines : List Line) (requests : List (Option Request)) → AreSaid lines requests → length requests ≡ length lines
said_many [] [] are = refl
said_many [] (r ∷ rs) are = absurd are
said_many (l ∷ ls) [] are = absurd are
said_many (l ∷ ls) (r ∷ rs) are = ap suc (said_many ls rs are.1)
