-- One word more: whether `clap` refuses it, and where the walk stands then.
use Rattle.std.proofs.Common.{Bool, true, false, List, [], ◌∷◌, ◌++◌, None, ◌≡◌, refl, ap, subst, ◌∙◌}
use Rattle.std.specs.Str.{bytes_eq, IsUtf8}
use Rattle.clap.specs.Lexer.{long_of, short_of}
use Rattle.clap.specs.Walk.{Text, Walk, walked}
use Rattle.clap.specs.Simple.{Shape, built}
use Rattle.clap.specs.Faults.{turn_fault}
use Rattle.clap.proofs.OnLiterals.{clap_on_literals}
use Rattle.program_words.specs.CommandLine.{is_flag}
use Rattle.program_words.proofs.WalkLemmas.{chart, rules, at_none, at_word, at_more, first_trailing, second_trailing, more_trailing}
use Rattle.program_words.proofs.WalkLemmas.{first_plain, second_plain, more_plain}
use Rattle.program_words.proofs.FaultLemmas.{unknown, no_long, no_short, flag_unknown}

abbrev pub shape : Shape
shape = (built chart).top

-- the words behind the first of some words, but the last, and the last
unfoldable pub front_of : Text → List Text → List Text
front_of x [] = []
front_of x (y ∷ ys) = x ∷ front_of y ys

unfoldable pub last_of : Text → List Text → Text
last_of x [] = x
last_of x (y ∷ ys) = last_of y ys

pub front_last : (x : Text) (xs : List Text) → front_of x xs ++ last_of x xs ∷ [] ≡ x ∷ xs
unfolding front_of last_of
front_last x [] = refl
front_last x (y ∷ ys) = ap (λ (l : List Text). x ∷ l) (front_last y ys)

pub front_more : (x : Text) (xs : List Text) (w : Text) → front_of x (xs ++ w ∷ []) ≡ front_of x xs ++ last_of x xs ∷ []
unfolding front_of last_of
front_more x [] w = refl
front_more x (y ∷ ys) w = ap (λ (l : List Text). x ∷ l) (front_more y ys w)

pub last_more : (x : Text) (xs : List Text) (w : Text) → last_of x (xs ++ w ∷ []) ≡ w
unfolding last_of
last_more x [] w = refl
last_more x (y ∷ ys) w = last_more y ys w

-- where the walk stands behind these words
abbrev pub at_read : List Text → Bool → Walk
at_read [] t = at_none t
at_read (c ∷ []) t = at_word c t
at_read (c ∷ x ∷ xs) t = at_more c (front_of x xs) (last_of x xs) t

more_is : (c x : Text) (xs : List Text) (w : Text) (t : Bool)
    → at_more c (front_of x xs ++ last_of x xs ∷ []) w t ≡ at_read (c ∷ x ∷ (xs ++ w ∷ [])) t
more_is c x xs w t =
    let P : List Text → Type 0 = λ front. at_more c front w t ≡ at_read (c ∷ x ∷ (xs ++ w ∷ [])) t in
    let Q : Text → Type 0 = λ last. at_more c (front_of x (xs ++ w ∷ [])) last t ≡ at_read (c ∷ x ∷ (xs ++ w ∷ [])) t in
    subst P (front_more x xs w) (subst Q (last_more x xs w) refl)

-- behind two hyphens each word is taken
pub walked_trailing : (seen : List Text) (w : Text) → walked rules [] (at_read seen true) w ≡ at_read (seen ++ w ∷ []) true
unfolding front_of last_of
walked_trailing [] w = first_trailing w
walked_trailing (c ∷ []) w = second_trailing c w
walked_trailing (c ∷ x ∷ xs) w = more_trailing c (front_of x xs) (last_of x xs) w ∙ more_is c x xs w true

pub walked_plain : (seen : List Text) (w : Text) → bytes_eq w (45 ∷ 45 ∷ []) ≡ false → is_flag w ≡ false
    → walked rules [] (at_read seen false) w ≡ at_read (seen ++ w ∷ []) false
unfolding front_of last_of
walked_plain [] w lone plain = first_plain w lone (no_long w plain) (no_short w plain)
walked_plain (c ∷ []) w lone plain = second_plain c w lone (no_long w plain) (no_short w plain)
walked_plain (c ∷ x ∷ xs) w lone plain = more_plain c (front_of x xs) (last_of x xs) w lone (no_long w plain) (no_short w plain)
    ∙ more_is c x xs w false

pub walked_lone : (seen : List Text) (w : Text) → bytes_eq w (45 ∷ 45 ∷ []) ≡ true
    → walked rules [] (at_read seen false) w ≡ at_read seen true
unfolding clap_on_literals
walked_lone [] w lone = rw lone refl
walked_lone (c ∷ []) w lone = rw lone refl
walked_lone (c ∷ x ∷ xs) w lone = rw lone refl

-- the faults of these
more_free : (c : Text) (os : List Text) (o w : Text) → turn_fault shape [] (at_more c os o true) w ≡ []
unfolding clap_on_literals
more_free c [] o w = refl
more_free c (y ∷ ys) o w = refl

pub trailing_free : (seen : List Text) (w : Text) → turn_fault shape [] (at_read seen true) w ≡ []
unfolding clap_on_literals
trailing_free [] w = refl
trailing_free (c ∷ []) w = refl
trailing_free (c ∷ x ∷ xs) w = more_free c (front_of x xs) (last_of x xs) w

more_plain_free : (c : Text) (os : List Text) (o w : Text) → bytes_eq w (45 ∷ 45 ∷ []) ≡ false → long_of w ≡ None → short_of w ≡ None
    → turn_fault shape [] (at_more c os o false) w ≡ []
unfolding clap_on_literals
more_plain_free c [] o w lone long short = rw (lone, long, short) refl
more_plain_free c (y ∷ ys) o w lone long short = rw (lone, long, short) refl

pub plain_free : (seen : List Text) (w : Text) → bytes_eq w (45 ∷ 45 ∷ []) ≡ false → is_flag w ≡ false
    → turn_fault shape [] (at_read seen false) w ≡ []
unfolding clap_on_literals
plain_free [] w lone plain = rw (lone, no_long w plain, no_short w plain) refl
plain_free (c ∷ []) w lone plain = rw (lone, no_long w plain, no_short w plain) refl
plain_free (c ∷ x ∷ xs) w lone plain = more_plain_free c (front_of x xs) (last_of x xs) w lone (no_long w plain) (no_short w plain)

pub lone_free : (seen : List Text) (w : Text) → bytes_eq w (45 ∷ 45 ∷ []) ≡ true → turn_fault shape [] (at_read seen false) w ≡ []
unfolding clap_on_literals
lone_free [] w lone = rw lone refl
lone_free (c ∷ []) w lone = rw lone refl
lone_free (c ∷ x ∷ xs) w lone = rw lone refl

pub flag_refused : (seen : List Text) (w : Text) → IsUtf8 w → bytes_eq w (45 ∷ 45 ∷ []) ≡ false → is_flag w ≡ true
    → turn_fault shape [] (at_read seen false) w ≡ unknown
flag_refused [] w utf8 lone flagged = rw (lone, flag_unknown w (at_read [] false).held refl utf8 lone flagged) refl
flag_refused (c ∷ []) w utf8 lone flagged = rw (lone, flag_unknown w (at_read (c ∷ []) false).held refl utf8 lone flagged) refl
flag_refused (c ∷ x ∷ xs) w utf8 lone flagged = rw (lone, flag_unknown w (at_read (c ∷ x ∷ xs) false).held refl utf8 lone flagged) refl
