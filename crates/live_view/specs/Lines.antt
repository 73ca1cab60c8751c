-- The lines that follow a session and that end it.
use Rattle.std.specs.Prelude.{◌≡◌, ◌≤◌, ℕ, ◌+◌, nat_lt, if◌then◌else◌, List, [], ◌∷◌, length, ⊤, Option, None, Some, Result, Ok, Err, codes}
use Rattle.std.specs.Str.{bytes_eq}
use Rattle.std.specs.Fmt.{decimal}
use Rattle.whole_number.specs.Numbers.{natural_value}
use Rattle.request_lines.specs.declared.places.Place.TheVariants.{Session}
use Rattle.request_lines.specs.Tokens.{tokens}
use Rattle.request_lines.specs.Grammar.{fault, nothing}
use Rattle.chart_frames.specs.Frames.{IsSession}
use Rattle.live_view.specs.declared.live_lines.LiveLine.{LiveLine}
use Rattle.live_view.specs.declared.live_lines.LiveLine.TheVariants.{Follow, Unfollow, Bad, Other}

-- the number of the first of these tokens, unless a fault is found in them
abbrev pub number_unless : Option ℕ → List (List ℕ) → Result ℕ ℕ
number_unless (Some at) others = Err at
number_unless None [] = Err 0
number_unless None (token ∷ others) = Ok (natural_value token)

-- The session that these tokens name, which begin at an offset of a line and end it: there is one token, the
-- number of a session. Else the offset of the first one that isn't what its place allows, or the line's end.
unfoldable pub session_alone : ℕ → List (List ℕ) → ℕ → Result ℕ ℕ
session_alone end others at = number_unless (fault end (Session ∷ []) nothing others at) others

-- what a line asks that begins with `follow`
abbrev pub follows : Result ℕ ℕ → LiveLine
follows (Ok session) = Follow session
follows (Err at) = Bad at

-- what a line asks that begins with `unfollow`
abbrev pub unfollows : Result ℕ ℕ → LiveLine
unfollows (Ok session) = Unfollow session
unfollows (Err at) = Bad at

-- what these tokens of a line ask
abbrev pub tokens_ask : ℕ → List (List ℕ) → LiveLine
tokens_ask end [] = Other
tokens_ask end (word ∷ others) =
    if bytes_eq word (codes "follow") then follows (session_alone end others (length word + 1))
    else if bytes_eq word (codes "unfollow") then unfollows (session_alone end others (length word + 1))
    else Other

-- what a line asks of live views
unfoldable pub live_line : List ℕ → LiveLine
live_line line = if nat_lt 8192 (length line) then Other else tokens_ask (length line) (tokens line)

-- a session that a line names has a number from 1 to 2^32 - 1
abbrev pub NamesSession : LiveLine → Type 0
NamesSession (Follow session) = IsSession session
NamesSession (Unfollow session) = IsSession session
NamesSession (Bad at) = ⊤
NamesSession Other = ⊤

-- a line of at most 8,192 bytes is this word and the number of a session, with one space between them
abbrev pub SpellsWith : List ℕ → ℕ → List ℕ → Type 0
SpellsWith word n line = (length line ≤ 8192) × (tokens line ≡ word ∷ decimal n ∷ []) × IsSession n
