use Rattle.std.proofs.Common.{◌≡◌, ◌∙◌, ap, ap₂, refl, sym, [], ◌∷◌, Some, None, ℕ, List, ◌++◌, map, codes, Option, option_map, unwrap_or}
use Rattle.std.proofs.Common.{Bor}
use Rattle.std.proofs.lemmas.List.{append-nil}
use Rattle.clap.specs.Words.{found_of}
use Rattle.clap.proofs.WalkLemmas.{first_value-rows, raw_values-rows}
use Rattle.program_words.specs.Found.{listed}
use Rattle.program_words.proofs.reading.list.Goals.{in-Some+in_ok-push, in_default, in-Some-get_strs+in_ok-push_all, in_default-get_strs}
use Rattle.program_words.proofs.reading.list.Goals as goal

abbrev texts_of : List (Bor (List ℕ)) → List (List ℕ)
texts_of words = map (λ word. word.now) words

texts_more : (xs ys : List (Bor (List ℕ))) → texts_of (xs ++ ys) ≡ texts_of xs ++ texts_of ys
texts_more [] ys = refl
texts_more (x ∷ xs) ys = ap (λ (l : List (List ℕ)). x.now ∷ l) (texts_more xs ys)

one : (items start : List (Bor (List ℕ))) (x : Bor (List ℕ)) (o : Option (Bor (List ℕ))) → start ≡ [] → items ≡ start ++ x ∷ [] → o ≡ Some x
    → texts_of items ≡ listed (option_map (λ word. word.now) o)
one items start x o empty is there = rw (there, is, empty) refl

none : (items : List (Bor (List ℕ))) (o : Option (Bor (List ℕ))) → items ≡ [] → o ≡ None
    → texts_of items ≡ listed (option_map (λ word. word.now) o)
none items o empty there = rw (there, empty) refl

many : (items start : List (Bor (List ℕ))) (x : Bor (List (Bor (List ℕ)))) (o : Option (Bor (List (Bor (List ℕ))))) → items ≡ start ++ x.now
    → o ≡ Some x → texts_of items ≡ texts_of start ++ unwrap_or (option_map (λ s. texts_of s.now) o) []
many items start x o is there = rw (there, is) (texts_more start x.now)

no_more : (items start : List (Bor (List ℕ))) (o : Option (Bor (List (Bor (List ℕ))))) → items ≡ start → o ≡ None
    → texts_of items ≡ texts_of start ++ unwrap_or (option_map (λ s. texts_of s.now) o) []
no_more items start o is there = rw (there, is) (sym (append-nil (texts_of start)))

pub returns-clause-words : goal.returns-clause-words
returns-clause-words c =
    let found = found_of c.args.matches.now in
    let first : texts_of c.match-get_str.list.items ≡ listed
    (option_map (λ word. word.now) c.get_str.result) = elim c.match-get_str.branch [
      | in-Some+in_ok-push w ↦ one _ _ w.in-Some.word _ c.new-list.ensures.items (ap (λ l. l.items) w.list-is
          ∙ w.in_ok-push.ensures.items) w.in-Some.is
      | in_default w ↦ none _ _ (ap (λ l. l.items) w.list-is ∙ c.new-list.ensures.items) w.in_default.is
    ] in
    let all : texts_of c.match-get_strs.list.items ≡ texts_of c.match-get_str.list.items ++ unwrap_or
    (option_map (λ s. texts_of s.now) c.get_strs.result) [] = elim c.match-get_strs.branch [
      | in-Some-get_strs+in_ok-push_all w ↦ many _ _ w.in-Some-get_strs.operands _ (ap (λ l. l.items) w.list-is
          ∙ w.in_ok-push_all.ensures.items) w.in-Some-get_strs.is
      | in_default-get_strs w ↦ no_more _ _ _ (ap (λ l. l.items) w.list-is) w.in_default-get_strs.is
    ] in
    all ∙ ap₂ (λ (xs ys : List (List ℕ)). xs ++ ys) (first
    ∙ ap listed (c.get_str.ensures ∙ first_value-rows found (codes "command")))
    (ap (λ (o : Option (List (List ℕ))). unwrap_or o []) (c.get_strs.ensures ∙ raw_values-rows found (codes "operand")))
