use Rattle.std.proofs.Common.{◌≡◌, ◌++◌, take}
use Rattle.program_words.proofs.reading.push_all.Given as goal

-- the words so far stand behind the list
abbrev pub invariant-loop-word : goal.invariant-loop-word
invariant-loop-word l = l.list.items ≡ l.initial.list.items ++ take l.word-index l.words
