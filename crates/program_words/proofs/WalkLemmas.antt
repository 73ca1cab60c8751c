-- What `clap` makes of words for a command with a required word and a list of operands.
use Rattle.std.proofs.Common.{ℕ, Bool, true, false, List, [], ◌∷◌, ◌++◌, Some, None, ◌≡◌, refl, codes}
use Rattle.std.specs.Str.{bytes_eq}
use Rattle.clap.specs.Lexer.{long_of, short_of}
use Rattle.clap.specs.Walk.{Rule, Row, Text, Walk, walked, nothing_held, reading_by}
use Rattle.clap.specs.Walk.Waiting.{idle, positional}
use Rattle.clap.specs.declared.parser.matches.ValueSource.TheVariants.{CommandLine}
use Rattle.clap.specs.Simple.{App, Shape, new_app, new_rule, with_rule, on_top, is_simple}
use Rattle.clap.specs.Faults.{is_simple_and_free}
use Rattle.clap.specs.declared.builder.action.ArgAction.TheVariants.{Set, Append}
use Rattle.clap.specs.declared.builder.value_parser.ValueParser.TheVariants as vp
use Rattle.clap.proofs.OnLiterals.{clap_on_literals}

abbrev pub word_rule : Rule
word_rule = record (new_rule (codes "command")) { required = true; action = Some Set }

abbrev pub operand_rule : Rule
operand_rule = record (new_rule (codes "operand")) { action = Some Append }

abbrev pub plain_shape : Shape → Shape
plain_shape s = record s { no_binary_name = true; disable_help_flag = true; disable_version_flag = true }

abbrev pub chart : App
chart = with_rule (with_rule (on_top plain_shape (new_app (codes "chart"))) word_rule) operand_rule

-- the rules as they are built: numbered, each with one value
abbrev pub built_rule : ℕ → Rule → Rule
built_rule place rule = record rule {
  index = Some place;
  range = Some (record { start_inclusive = 1; end_inclusive = 1 });
  parser = Some vp.String;
}

abbrev pub rules : List Rule
rules = built_rule 1 word_rule ∷ built_rule 2 operand_rule ∷ []

pub simple : is_simple chart ≡ true
unfolding clap_on_literals
simple = refl

pub simple_and_free : is_simple_and_free chart ≡ true
unfolding clap_on_literals
simple_and_free = refl

-- what is found: the command, and its operands where there are some
abbrev pub row : Text → List Text → Row
row id values = record { id = id; values = values; count = None; source = Some CommandLine; reading = reading_by (built_rule 1 word_rule) }

abbrev pub rows : Text → List Text → List Row
rows c [] = row (codes "command") (c ∷ []) ∷ []
rows c (o ∷ os) = row (codes "command") (c ∷ []) ∷ row (codes "operand") (o ∷ os) ∷ []

-- where the walk stands before the command, behind it, and behind a last operand
abbrev pub at_none : Bool → Walk
at_none t = record { held = nothing_held; waiting = idle; position = 1; is_trailing = t; stopped = None }

abbrev pub at_word : Text → Bool → Walk
at_word c t = record {
  held = record { rows = []; pending = Some (codes "command", c ∷ []); skip = 0 };
  waiting = idle;
  position = 2;
  is_trailing = t;
  stopped = None;
}

abbrev pub at_more : Text → List Text → Text → Bool → Walk
at_more c os last t = record {
  held = record { rows = rows c os; pending = Some (codes "operand", last ∷ []); skip = 0 };
  waiting = positional;
  position = 2;
  is_trailing = t;
  stopped = None;
}

pub first_trailing : (c : Text) → walked rules [] (at_none true) c ≡ at_word c true
unfolding clap_on_literals
first_trailing c = refl

pub second_trailing : (c o : Text) → walked rules [] (at_word c true) o ≡ at_more c [] o true
unfolding clap_on_literals
second_trailing c o = refl

pub more_trailing : (c : Text) (os : List Text) (o last : Text)
    → walked rules [] (at_more c os o true) last ≡ at_more c (os ++ o ∷ []) last true
unfolding clap_on_literals
more_trailing c [] o last = refl
more_trailing c (x ∷ xs) o last = refl

pub first_plain : (c : Text) → bytes_eq c (45 ∷ 45 ∷ []) ≡ false → long_of c ≡ None → short_of c ≡ None
    → walked rules [] (at_none false) c ≡ at_word c false
unfolding clap_on_literals
first_plain c lone long short = rw (lone, long, short) refl

pub second_plain : (c o : Text) → bytes_eq o (45 ∷ 45 ∷ []) ≡ false → long_of o ≡ None → short_of o ≡ None
    → walked rules [] (at_word c false) o ≡ at_more c [] o false
unfolding clap_on_literals
second_plain c o lone long short = rw (lone, long, short) refl

pub more_plain : (c : Text) (os : List Text) (o last : Text) → bytes_eq last (45 ∷ 45 ∷ []) ≡ false → long_of last ≡ None
    → short_of last ≡ None → walked rules [] (at_more c os o false) last ≡ at_more c (os ++ o ∷ []) last false
unfolding clap_on_literals
more_plain c [] o last lone long short = rw (lone, long, short) refl
more_plain c (x ∷ xs) o last lone long short = rw (lone, long, short) refl
