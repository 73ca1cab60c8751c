use Rattle.std.proofs.Common.{sym, ◌∙◌}
use Rattle.std.specs.Prelude.{map, string_bytes}
use Rattle.program_words.specs.CommandLine.{plain_words}
use Rattle.program_words.proofs.StoreWords.{begins_plain, storeless_of}
use Rattle.program_words.proofs.stores.uses_no_store.Goals as goal

pub returns : goal.returns
returns c command are =
    let words = map string_bytes c.args.words.now in
    c.names_storeless.ensures ∙ sym (begins_plain words) ∙ storeless_of command (plain_words words) are.1
