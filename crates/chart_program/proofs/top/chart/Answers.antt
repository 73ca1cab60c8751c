use Rattle.std.proofs.Common.{ℕ, arith, subst, inl, inr, sym, refl, ◌∙◌, [], ◌∷◌}
use Rattle.chart_world.specs.Faults.{CountsFault}
use Rattle.chart_world.specs.FaultLaws.{counts_none}
use Rattle.store_commands.specs.Faulting.{counts_as}
use Rattle.run_ends.specs.Statuses.{status}
use Rattle.store_commands.specs.Status.{code_fault}
use Rattle.chart_program.specs.Exact.{drawing_codes}
use Rattle.chart_program.proofs.Apart.{apart}
use Rattle.chart_program.proofs.CommandCodes.{never}
use Rattle.chart_program.proofs.ExactRuns.{drawings_told, runs_begun, runs_made}
use Rattle.chart_program.proofs.LivesLemmas.{lives_told}
use Rattle.chart_program.proofs.DrawnBook.{told_good, covers_book}
use Rattle.chart_program.proofs.Codes.{told_both}
use Rattle.chart_program.proofs.Words.{of_command, with_operands, chart_codes, streams, one_init, one_draw, completes, covers_complete}
use Rattle.chart_program.proofs.Words.{good_never, wrong_never, wrong_end}
use Rattle.chart_program.proofs.OneCommand.{by_words}
use Rattle.program_words.specs.declared.words.Command.TheVariants.{Check, Cover, Demo, Derive, Draw, Export, Host, Init, ListSeries, Live}
use Rattle.program_words.specs.declared.words.Command.TheVariants.{Load, Plot, Retain, Run, Serve}
use Rattle.chart_program.proofs.top.chart.Goals as goal

pub returns-in-Err-NoMemory-clause-codes : goal.returns-in-Err-NoMemory-clause-codes
returns-in-Err-NoMemory-clause-codes g c = (2, omega arith, sym c.status_of-in-Err-NoMemory.ensures.code)

pub returns-in-Err-Wrong-clause-ready : goal.returns-in-Err-Wrong-clause-ready
returns-in-Err-Wrong-clause-ready g c = λ own free whole. absurd
    (wrong_never c.in-Err-Wrong.place _ Init own.0 own.1
    (wrong_end c.in-Err-Wrong.field-0 c.in-Err-Wrong.place _ c.in-Err-Wrong.field-0-is c.in-Err-Wrong.ensures.wrong))

pub status_of_command-requires : goal.status_of_command-requires
status_of_command-requires g c = with_operands c.in-Ok.command _ c.in-Ok.ensures.command

pub returns-in-Ok-clause-codes : goal.returns-in-Ok-clause-codes
returns-in-Ok-clause-codes g c =
    let e = c.status_of_command.ensures.ends in
    chart_codes c.status_of_command.result.0.code e.codes

pub returns-in-Ok-clause-read : goal.returns-in-Ok-clause-read
returns-in-Ok-clause-read g c =
    let e = c.status_of_command.ensures.ends in
    e.read

pub returns-in-Ok-clause-send : goal.returns-in-Ok-clause-send
returns-in-Ok-clause-send g c =
    let e = c.status_of_command.ensures.ends in
    e.send

pub returns-in-Ok-clause-fault : goal.returns-in-Ok-clause-fault
returns-in-Ok-clause-fault g c =
    let e = c.status_of_command.ensures.ends in
    e.fault

pub returns-in-Ok-clause-place : goal.returns-in-Ok-clause-place
returns-in-Ok-clause-place g c =
    let e = c.status_of_command.ensures.ends in
    e.zero_place

pub returns-in-Ok-clause-stopped : goal.returns-in-Ok-clause-stopped
returns-in-Ok-clause-stopped g c =
    let e = c.status_of_command.ensures.ends in
    λ is. of_command _ c.in-Ok.command c.in-Ok.command _ refl c.in-Ok.ensures.command (e.stopped is)

pub returns-in-Ok-clause-bad : goal.returns-in-Ok-clause-bad
returns-in-Ok-clause-bad g c =
    let e = c.status_of_command.ensures.ends in
    λ is. of_command _ c.in-Ok.command c.in-Ok.command _ refl c.in-Ok.ensures.command (e.bad is)

pub returns-in-Ok-clause-much : goal.returns-in-Ok-clause-much
returns-in-Ok-clause-much g c =
    let e = c.status_of_command.ensures.ends in
    λ is. of_command _ c.in-Ok.command c.in-Ok.command _ refl c.in-Ok.ensures.command (e.much is)

pub returns-in-Ok-clause-missing : goal.returns-in-Ok-clause-missing
returns-in-Ok-clause-missing g c =
    let e = c.status_of_command.ensures.ends in
    λ is. of_command _ c.in-Ok.command c.in-Ok.command _ refl c.in-Ok.ensures.command (e.missing is)

pub returns-in-Ok-clause-misfit : goal.returns-in-Ok-clause-misfit
returns-in-Ok-clause-misfit g c =
    let e = c.status_of_command.ensures.ends in
    λ is. of_command _ c.in-Ok.command c.in-Ok.command _ refl c.in-Ok.ensures.command (e.misfit is)

pub returns-in-Ok-clause-unopened : goal.returns-in-Ok-clause-unopened
returns-in-Ok-clause-unopened g c =
    let e = c.status_of_command.ensures.ends in
    λ is. of_command _ c.in-Ok.command c.in-Ok.command _ refl c.in-Ok.ensures.command (e.unopened is)

pub returns-in-Ok-clause-honest : goal.returns-in-Ok-clause-honest
returns-in-Ok-clause-honest g c = c.status_of_command.ensures.ends.honest

pub returns-in-Ok-clause-within : goal.returns-in-Ok-clause-within
returns-in-Ok-clause-within g c =
    let e = c.status_of_command.ensures.ends in
    λ is. of_command _ c.in-Ok.command c.in-Ok.command _ refl c.in-Ok.ensures.command (e.within is)

pub returns-in-Ok-clause-faulted : goal.returns-in-Ok-clause-faulted
returns-in-Ok-clause-faulted g c =
    let e = c.status_of_command.ensures.ends in
    λ is. of_command _ c.in-Ok.command c.in-Ok.command _ refl c.in-Ok.ensures.command (e.faulted is)

pub returns-in-Ok-clause-damaged : goal.returns-in-Ok-clause-damaged
returns-in-Ok-clause-damaged g c =
    let e = c.status_of_command.ensures.ends in
    λ is. of_command _ c.in-Ok.command c.in-Ok.command _ refl c.in-Ok.ensures.command (e.damaged is)

pub returns-in-Ok-clause-undamaged : goal.returns-in-Ok-clause-undamaged
returns-in-Ok-clause-undamaged g c =
    let e = c.status_of_command.ensures.ends in
    λ is. of_command _ c.in-Ok.command c.in-Ok.command _ refl c.in-Ok.ensures.command (e.undamaged is)

pub returns-in-Ok-clause-small : goal.returns-in-Ok-clause-small
returns-in-Ok-clause-small g c =
    let e = c.status_of_command.ensures.ends in
    λ is. of_command _ c.in-Ok.command c.in-Ok.command _ refl c.in-Ok.ensures.command (e.small is)

pub returns-in-Ok-clause-there : goal.returns-in-Ok-clause-there
returns-in-Ok-clause-there g c =
    let e = c.status_of_command.ensures.ends in
    λ is. of_command _ c.in-Ok.command c.in-Ok.command _ refl c.in-Ok.ensures.command (e.there is)

pub returns-in-Ok-clause-refused : goal.returns-in-Ok-clause-refused
returns-in-Ok-clause-refused g c =
    let e = c.status_of_command.ensures.ends in
    λ is. of_command _ c.in-Ok.command c.in-Ok.command _ refl c.in-Ok.ensures.command (told_both _ _ _ (e.unsent is) (e.refused is))

pub returns-in-Ok-clause-done : goal.returns-in-Ok-clause-done
returns-in-Ok-clause-done g c =
    let e = c.status_of_command.ensures.ends in
    λ is. of_command _ c.in-Ok.command c.in-Ok.command _ refl c.in-Ok.ensures.command (e.done is)

pub returns-in-Ok-clause-part : goal.returns-in-Ok-clause-part
returns-in-Ok-clause-part g c =
    let e = c.status_of_command.ensures.ends in
    λ is. of_command _ c.in-Ok.command c.in-Ok.command _ refl c.in-Ok.ensures.command (e.part is)

pub returns-in-Ok-clause-made : goal.returns-in-Ok-clause-made
returns-in-Ok-clause-made g c =
    let e = c.status_of_command.ensures.ends in
    λ is. of_command _ c.in-Ok.command c.in-Ok.command _ refl c.in-Ok.ensures.command (e.made is)

pub returns-in-Ok-clause-memory : goal.returns-in-Ok-clause-memory
returns-in-Ok-clause-memory g c =
    let e = c.status_of_command.ensures.ends in
    λ is. inr (of_command _ c.in-Ok.command c.in-Ok.command _ refl c.in-Ok.ensures.command (e.memory is))

pub returns-in-Ok-clause-unnamed : goal.returns-in-Ok-clause-unnamed
returns-in-Ok-clause-unnamed g c =
    let e = c.status_of_command.ensures.ends in
    λ other. inr (of_command _ c.in-Ok.command c.in-Ok.command _ refl c.in-Ok.ensures.command e.unnamed)

pub returns-in-Ok-clause-reads : goal.returns-in-Ok-clause-reads
returns-in-Ok-clause-reads g c =
    let e = c.status_of_command.ensures.ends in
    λ other. inr (of_command _ c.in-Ok.command c.in-Ok.command _ refl c.in-Ok.ensures.command e.reads)

pub returns-in-Ok-clause-reads_lines : goal.returns-in-Ok-clause-reads_lines
returns-in-Ok-clause-reads_lines g c =
    let e = c.status_of_command.ensures.ends in
    λ other. inr (of_command _ c.in-Ok.command c.in-Ok.command _ refl c.in-Ok.ensures.command e.reads_lines)

pub returns-in-Ok-clause-syncs : goal.returns-in-Ok-clause-syncs
returns-in-Ok-clause-syncs g c =
    let e = c.status_of_command.ensures.ends in
    λ other. inr (of_command _ c.in-Ok.command c.in-Ok.command _ refl c.in-Ok.ensures.command e.syncs)

pub returns-in-Ok-clause-crash : goal.returns-in-Ok-clause-crash
returns-in-Ok-clause-crash g c =
    let e = c.status_of_command.ensures.ends in
    λ other. inr (of_command _ c.in-Ok.command c.in-Ok.command _ refl c.in-Ok.ensures.command e.crash)

pub returns-in-Ok-clause-disk : goal.returns-in-Ok-clause-disk
returns-in-Ok-clause-disk g c =
    let e = c.status_of_command.ensures.ends in
    λ other. inr (of_command _ c.in-Ok.command c.in-Ok.command _ refl c.in-Ok.ensures.command e.disk)

pub returns-in-Ok-clause-nothing : goal.returns-in-Ok-clause-nothing
returns-in-Ok-clause-nothing g c =
    let e = c.status_of_command.ensures.ends in
    λ some unsent quiet. e.nothing some unsent (streams c.in-Ok.command _ c.in-Ok.ensures.command quiet)

pub returns-in-Ok-clause-pictures : goal.returns-in-Ok-clause-pictures
returns-in-Ok-clause-pictures g c =
    let e = c.status_of_command.ensures.ends in
    λ is drawn. e.pictures is (one_draw c.in-Ok.command _ c.in-Ok.ensures.command drawn)

pub returns-in-Ok-clause-ready : goal.returns-in-Ok-clause-ready
returns-in-Ok-clause-ready g c =
    let e = c.status_of_command.ensures.ends in
    λ own. e.ready (one_init c.in-Ok.command _ c.in-Ok.ensures.command own.1)

pub returns-in-Ok-clause-complete : goal.returns-in-Ok-clause-complete
returns-in-Ok-clause-complete g c =
    let e = c.status_of_command.ensures.ends in
    completes c.args.words.now _ c.in-Ok.command _ _ _ c.in-Ok.ensures.command e.complete

pub returns-in-Err-Wrong-clause-codes : goal.returns-in-Err-Wrong-clause-codes
returns-in-Err-Wrong-clause-codes g c = (1, omega arith, sym c.status_of.ensures.code)

pub returns-in-Err-Wrong-clause-command : goal.returns-in-Err-Wrong-clause-command
returns-in-Err-Wrong-clause-command g c = λ other more. absurd (other c.status_of.ensures.code)

pub returns-in-Err-Wrong-clause-read : goal.returns-in-Err-Wrong-clause-read
returns-in-Err-Wrong-clause-read g c = λ is. apart (sym c.status_of.ensures.code ∙ is) refl

pub returns-in-Err-Wrong-clause-stopped : goal.returns-in-Err-Wrong-clause-stopped
returns-in-Err-Wrong-clause-stopped g c = λ is. apart (sym c.status_of.ensures.code ∙ is) refl

pub returns-in-Err-Wrong-clause-send : goal.returns-in-Err-Wrong-clause-send
returns-in-Err-Wrong-clause-send g c = λ is. apart (sym c.status_of.ensures.code ∙ is) refl

pub returns-in-Err-Wrong-clause-bad : goal.returns-in-Err-Wrong-clause-bad
returns-in-Err-Wrong-clause-bad g c = λ is. apart (sym c.status_of.ensures.code ∙ is) refl

pub returns-in-Err-Wrong-clause-much : goal.returns-in-Err-Wrong-clause-much
returns-in-Err-Wrong-clause-much g c = λ is. apart (sym c.status_of.ensures.code ∙ is) refl

pub returns-in-Err-Wrong-clause-missing : goal.returns-in-Err-Wrong-clause-missing
returns-in-Err-Wrong-clause-missing g c = λ is. apart (sym c.status_of.ensures.code ∙ is) refl

pub returns-in-Err-Wrong-clause-misfit : goal.returns-in-Err-Wrong-clause-misfit
returns-in-Err-Wrong-clause-misfit g c = λ is. apart (sym c.status_of.ensures.code ∙ is) refl

pub returns-in-Err-Wrong-clause-unopened : goal.returns-in-Err-Wrong-clause-unopened
returns-in-Err-Wrong-clause-unopened g c = λ is. apart (sym c.status_of.ensures.code ∙ is) refl

pub returns-in-Err-Wrong-clause-honest : goal.returns-in-Err-Wrong-clause-honest
returns-in-Err-Wrong-clause-honest g c = λ h. h

pub returns-in-Err-Wrong-clause-within : goal.returns-in-Err-Wrong-clause-within
returns-in-Err-Wrong-clause-within g c = λ is. apart (sym c.status_of.ensures.code ∙ is) refl

pub returns-in-Err-Wrong-clause-fault : goal.returns-in-Err-Wrong-clause-fault
returns-in-Err-Wrong-clause-fault g c = λ is. apart (sym c.status_of.ensures.code ∙ is) refl

pub returns-in-Err-Wrong-clause-faulted : goal.returns-in-Err-Wrong-clause-faulted
returns-in-Err-Wrong-clause-faulted g c = λ is. apart (sym c.status_of.ensures.code ∙ is) refl

pub returns-in-Err-Wrong-clause-damaged : goal.returns-in-Err-Wrong-clause-damaged
returns-in-Err-Wrong-clause-damaged g c = λ is. apart (sym c.status_of.ensures.code ∙ is) refl

pub returns-in-Err-Wrong-clause-undamaged : goal.returns-in-Err-Wrong-clause-undamaged
returns-in-Err-Wrong-clause-undamaged g c = λ is. apart (sym c.status_of.ensures.code ∙ is) refl

pub returns-in-Err-Wrong-clause-small : goal.returns-in-Err-Wrong-clause-small
returns-in-Err-Wrong-clause-small g c = λ is. apart (sym c.status_of.ensures.code ∙ is) refl

pub returns-in-Err-Wrong-clause-there : goal.returns-in-Err-Wrong-clause-there
returns-in-Err-Wrong-clause-there g c = λ is. apart (sym c.status_of.ensures.code ∙ is) refl

pub returns-in-Err-Wrong-clause-refused : goal.returns-in-Err-Wrong-clause-refused
returns-in-Err-Wrong-clause-refused g c = λ is. apart (sym c.status_of.ensures.code ∙ is) refl

pub returns-in-Err-Wrong-clause-done : goal.returns-in-Err-Wrong-clause-done
returns-in-Err-Wrong-clause-done g c = λ is. apart (sym c.status_of.ensures.code ∙ is) refl

pub returns-in-Err-Wrong-clause-part : goal.returns-in-Err-Wrong-clause-part
returns-in-Err-Wrong-clause-part g c = λ is. apart (sym c.status_of.ensures.code ∙ is) refl

pub returns-in-Err-Wrong-clause-made : goal.returns-in-Err-Wrong-clause-made
returns-in-Err-Wrong-clause-made g c = λ is. apart (sym c.status_of.ensures.code ∙ is) refl

pub returns-in-Err-Wrong-clause-memory : goal.returns-in-Err-Wrong-clause-memory
returns-in-Err-Wrong-clause-memory g c = λ is. apart (sym c.status_of.ensures.code ∙ is) refl

pub returns-in-Err-Wrong-clause-unnamed : goal.returns-in-Err-Wrong-clause-unnamed
returns-in-Err-Wrong-clause-unnamed g c = λ other. absurd (other c.status_of.ensures.code)

pub returns-in-Err-Wrong-clause-reads : goal.returns-in-Err-Wrong-clause-reads
returns-in-Err-Wrong-clause-reads g c = λ other. absurd (other c.status_of.ensures.code)

pub returns-in-Err-Wrong-clause-reads_lines : goal.returns-in-Err-Wrong-clause-reads_lines
returns-in-Err-Wrong-clause-reads_lines g c = λ other. absurd (other c.status_of.ensures.code)

pub returns-in-Err-Wrong-clause-syncs : goal.returns-in-Err-Wrong-clause-syncs
returns-in-Err-Wrong-clause-syncs g c = λ other. absurd (other c.status_of.ensures.code)

pub returns-in-Err-Wrong-clause-crash : goal.returns-in-Err-Wrong-clause-crash
returns-in-Err-Wrong-clause-crash g c = λ other. absurd (other c.status_of.ensures.code)

pub returns-in-Err-Wrong-clause-disk : goal.returns-in-Err-Wrong-clause-disk
returns-in-Err-Wrong-clause-disk g c = λ other. absurd (other c.status_of.ensures.code)

pub returns-in-Err-Wrong-clause-place : goal.returns-in-Err-Wrong-clause-place
returns-in-Err-Wrong-clause-place g c = λ zero. absurd (never (0 ∷ 3 ∷ 4 ∷ 5 ∷ 6 ∷ []) _ 2 zero refl c.status_of.ensures.code)

pub returns-in-Err-Wrong-clause-nothing : goal.returns-in-Err-Wrong-clause-nothing
returns-in-Err-Wrong-clause-nothing g c = λ some unsent quiet. refl

pub returns-in-Err-Wrong-clause-pictures : goal.returns-in-Err-Wrong-clause-pictures
returns-in-Err-Wrong-clause-pictures g c = λ is drawn. apart (sym c.status_of.ensures.code ∙ is) refl

pub returns-in-Err-Wrong-clause-untouched : goal.returns-in-Err-Wrong-clause-untouched
returns-in-Err-Wrong-clause-untouched g c = λ is. refl

pub returns-in-Err-NoMemory-clause-wrong : goal.returns-in-Err-NoMemory-clause-wrong
returns-in-Err-NoMemory-clause-wrong g c = λ is. apart (sym c.status_of-in-Err-NoMemory.ensures.code ∙ is) refl

pub returns-in-Err-NoMemory-clause-command : goal.returns-in-Err-NoMemory-clause-command
returns-in-Err-NoMemory-clause-command g c = λ other more. absurd (more c.status_of-in-Err-NoMemory.ensures.code)

pub returns-in-Err-NoMemory-clause-read : goal.returns-in-Err-NoMemory-clause-read
returns-in-Err-NoMemory-clause-read g c = λ is. apart (sym c.status_of-in-Err-NoMemory.ensures.code ∙ is) refl

pub returns-in-Err-NoMemory-clause-stopped : goal.returns-in-Err-NoMemory-clause-stopped
returns-in-Err-NoMemory-clause-stopped g c = λ is. apart (sym c.status_of-in-Err-NoMemory.ensures.code ∙ is) refl

pub returns-in-Err-NoMemory-clause-send : goal.returns-in-Err-NoMemory-clause-send
returns-in-Err-NoMemory-clause-send g c = λ is. apart (sym c.status_of-in-Err-NoMemory.ensures.code ∙ is) refl

pub returns-in-Err-NoMemory-clause-bad : goal.returns-in-Err-NoMemory-clause-bad
returns-in-Err-NoMemory-clause-bad g c = λ is. apart (sym c.status_of-in-Err-NoMemory.ensures.code ∙ is) refl

pub returns-in-Err-NoMemory-clause-much : goal.returns-in-Err-NoMemory-clause-much
returns-in-Err-NoMemory-clause-much g c = λ is. apart (sym c.status_of-in-Err-NoMemory.ensures.code ∙ is) refl

pub returns-in-Err-NoMemory-clause-missing : goal.returns-in-Err-NoMemory-clause-missing
returns-in-Err-NoMemory-clause-missing g c = λ is. apart (sym c.status_of-in-Err-NoMemory.ensures.code ∙ is) refl

pub returns-in-Err-NoMemory-clause-misfit : goal.returns-in-Err-NoMemory-clause-misfit
returns-in-Err-NoMemory-clause-misfit g c = λ is. apart (sym c.status_of-in-Err-NoMemory.ensures.code ∙ is) refl

pub returns-in-Err-NoMemory-clause-unopened : goal.returns-in-Err-NoMemory-clause-unopened
returns-in-Err-NoMemory-clause-unopened g c = λ is. apart (sym c.status_of-in-Err-NoMemory.ensures.code ∙ is) refl

pub returns-in-Err-NoMemory-clause-honest : goal.returns-in-Err-NoMemory-clause-honest
returns-in-Err-NoMemory-clause-honest g c = λ h. h

pub returns-in-Err-NoMemory-clause-within : goal.returns-in-Err-NoMemory-clause-within
returns-in-Err-NoMemory-clause-within g c = λ is. apart (sym c.status_of-in-Err-NoMemory.ensures.code ∙ is) refl

pub returns-in-Err-NoMemory-clause-fault : goal.returns-in-Err-NoMemory-clause-fault
returns-in-Err-NoMemory-clause-fault g c = λ is. apart (sym c.status_of-in-Err-NoMemory.ensures.code ∙ is) refl

pub returns-in-Err-NoMemory-clause-faulted : goal.returns-in-Err-NoMemory-clause-faulted
returns-in-Err-NoMemory-clause-faulted g c = λ is. apart (sym c.status_of-in-Err-NoMemory.ensures.code ∙ is) refl

pub returns-in-Err-NoMemory-clause-damaged : goal.returns-in-Err-NoMemory-clause-damaged
returns-in-Err-NoMemory-clause-damaged g c = λ is. apart (sym c.status_of-in-Err-NoMemory.ensures.code ∙ is) refl

pub returns-in-Err-NoMemory-clause-undamaged : goal.returns-in-Err-NoMemory-clause-undamaged
returns-in-Err-NoMemory-clause-undamaged g c = λ is. apart (sym c.status_of-in-Err-NoMemory.ensures.code ∙ is) refl

pub returns-in-Err-NoMemory-clause-small : goal.returns-in-Err-NoMemory-clause-small
returns-in-Err-NoMemory-clause-small g c = λ is. apart (sym c.status_of-in-Err-NoMemory.ensures.code ∙ is) refl

pub returns-in-Err-NoMemory-clause-there : goal.returns-in-Err-NoMemory-clause-there
returns-in-Err-NoMemory-clause-there g c = λ is. apart (sym c.status_of-in-Err-NoMemory.ensures.code ∙ is) refl

pub returns-in-Err-NoMemory-clause-refused : goal.returns-in-Err-NoMemory-clause-refused
returns-in-Err-NoMemory-clause-refused g c = λ is. apart (sym c.status_of-in-Err-NoMemory.ensures.code ∙ is) refl

pub returns-in-Err-NoMemory-clause-done : goal.returns-in-Err-NoMemory-clause-done
returns-in-Err-NoMemory-clause-done g c = λ is. apart (sym c.status_of-in-Err-NoMemory.ensures.code ∙ is) refl

pub returns-in-Err-NoMemory-clause-part : goal.returns-in-Err-NoMemory-clause-part
returns-in-Err-NoMemory-clause-part g c = λ is. apart (sym c.status_of-in-Err-NoMemory.ensures.code ∙ is) refl

pub returns-in-Err-NoMemory-clause-made : goal.returns-in-Err-NoMemory-clause-made
returns-in-Err-NoMemory-clause-made g c = λ is. apart (sym c.status_of-in-Err-NoMemory.ensures.code ∙ is) refl

pub returns-in-Err-NoMemory-clause-memory : goal.returns-in-Err-NoMemory-clause-memory
returns-in-Err-NoMemory-clause-memory g c = λ is. inl refl

pub returns-in-Err-NoMemory-clause-unnamed : goal.returns-in-Err-NoMemory-clause-unnamed
returns-in-Err-NoMemory-clause-unnamed g c = λ other. inl (c.status_of-in-Err-NoMemory.ensures.code, refl)

pub returns-in-Err-NoMemory-clause-crash : goal.returns-in-Err-NoMemory-clause-crash
returns-in-Err-NoMemory-clause-crash g c = λ other. inl refl

pub returns-in-Err-NoMemory-clause-reads_lines : goal.returns-in-Err-NoMemory-clause-reads_lines
returns-in-Err-NoMemory-clause-reads_lines g c = λ other. inl refl

pub returns-in-Err-NoMemory-clause-syncs : goal.returns-in-Err-NoMemory-clause-syncs
returns-in-Err-NoMemory-clause-syncs g c = λ other. inl refl

pub returns-in-Err-NoMemory-clause-disk : goal.returns-in-Err-NoMemory-clause-disk
returns-in-Err-NoMemory-clause-disk g c = λ other. inl refl

pub returns-in-Err-NoMemory-clause-place : goal.returns-in-Err-NoMemory-clause-place
returns-in-Err-NoMemory-clause-place g c = λ zero. c.status_of-in-Err-NoMemory.ensures.place

pub returns-in-Err-NoMemory-clause-nothing : goal.returns-in-Err-NoMemory-clause-nothing
returns-in-Err-NoMemory-clause-nothing g c = λ some unsent quiet. refl

pub returns-in-Err-NoMemory-clause-pictures : goal.returns-in-Err-NoMemory-clause-pictures
returns-in-Err-NoMemory-clause-pictures g c = λ is drawn. apart (sym c.status_of-in-Err-NoMemory.ensures.code ∙ is) refl

pub returns-in-Err-NoMemory-clause-untouched : goal.returns-in-Err-NoMemory-clause-untouched
returns-in-Err-NoMemory-clause-untouched g c = λ is. refl

pub returns-in-Err-NoMemory-clause-ready : goal.returns-in-Err-NoMemory-clause-ready
returns-in-Err-NoMemory-clause-ready g c = λ own free whole. inr c.status_of-in-Err-NoMemory.ensures.code

pub returns-in-Err-Wrong-clause-complete : goal.returns-in-Err-Wrong-clause-complete
returns-in-Err-Wrong-clause-complete g c = λ given.
    absurd (wrong_never c.in-Err-Wrong.place _ given.command.1.command given.command.0 given.command.1.spells
    (wrong_end c.in-Err-Wrong.field-0 c.in-Err-Wrong.place _ c.in-Err-Wrong.field-0-is c.in-Err-Wrong.ensures.wrong))

pub returns-in-Err-NoMemory-clause-complete : goal.returns-in-Err-NoMemory-clause-complete
returns-in-Err-NoMemory-clause-complete g c = λ given. (1, omega arith, sym c.status_of-in-Err-NoMemory.ensures.code)

pub returns-in-Ok-clause-statuses : goal.returns-in-Ok-clause-statuses
returns-in-Ok-clause-statuses g c =
    let e = c.status_of_command.ensures.ends in
    λ other more. of_command _ c.in-Ok.command c.in-Ok.command _ refl c.in-Ok.ensures.command e.own

pub returns-in-Ok-clause-away : goal.returns-in-Ok-clause-away
returns-in-Ok-clause-away g c =
    let e = c.status_of_command.ensures.ends in
    λ other. inr (of_command _ c.in-Ok.command c.in-Ok.command _ refl c.in-Ok.ensures.command e.away)

pub returns-in-Ok-clause-untaken : goal.returns-in-Ok-clause-untaken
returns-in-Ok-clause-untaken g c =
    let e = c.status_of_command.ensures.ends in
    λ other. inr (of_command _ c.in-Ok.command c.in-Ok.command _ refl c.in-Ok.ensures.command e.untaken)

pub returns-in-Ok-clause-bars : goal.returns-in-Ok-clause-bars
returns-in-Ok-clause-bars g c =
    let e = c.status_of_command.ensures.ends in
    λ is. of_command _ c.in-Ok.command c.in-Ok.command _ refl c.in-Ok.ensures.command (e.bars is)

pub returns-in-Err-Wrong-clause-statuses : goal.returns-in-Err-Wrong-clause-statuses
returns-in-Err-Wrong-clause-statuses g c = λ other more. absurd (other c.status_of.ensures.code)

pub returns-in-Err-Wrong-clause-away : goal.returns-in-Err-Wrong-clause-away
returns-in-Err-Wrong-clause-away g c = λ other. absurd (other c.status_of.ensures.code)

pub returns-in-Err-Wrong-clause-untaken : goal.returns-in-Err-Wrong-clause-untaken
returns-in-Err-Wrong-clause-untaken g c = λ other. absurd (other c.status_of.ensures.code)

pub returns-in-Err-Wrong-clause-bars : goal.returns-in-Err-Wrong-clause-bars
returns-in-Err-Wrong-clause-bars g c = λ is. apart (sym c.status_of.ensures.code ∙ is) refl

pub returns-in-Err-NoMemory-clause-statuses : goal.returns-in-Err-NoMemory-clause-statuses
returns-in-Err-NoMemory-clause-statuses g c = λ other more. absurd (more c.status_of-in-Err-NoMemory.ensures.code)

pub returns-in-Err-NoMemory-clause-away : goal.returns-in-Err-NoMemory-clause-away
returns-in-Err-NoMemory-clause-away g c = λ other. inl (c.status_of-in-Err-NoMemory.ensures.code, refl)

pub returns-in-Err-NoMemory-clause-untaken : goal.returns-in-Err-NoMemory-clause-untaken
returns-in-Err-NoMemory-clause-untaken g c = λ other. inl (c.status_of-in-Err-NoMemory.ensures.code, refl)

pub returns-in-Err-NoMemory-clause-bars : goal.returns-in-Err-NoMemory-clause-bars
returns-in-Err-NoMemory-clause-bars g c = λ is. apart (sym c.status_of-in-Err-NoMemory.ensures.code ∙ is) refl

pub returns-in-Ok-clause-drawn : goal.returns-in-Ok-clause-drawn
returns-in-Ok-clause-drawn g c =
    let e = c.status_of_command.ensures.ends in
    λ own. e.drawn (one_draw c.in-Ok.command _ c.in-Ok.ensures.command own.1)

pub returns-in-Err-Wrong-clause-drawn : goal.returns-in-Err-Wrong-clause-drawn
returns-in-Err-Wrong-clause-drawn g c = λ own. absurd
    (wrong_never c.in-Err-Wrong.place _ Draw own.0 own.1
    (wrong_end c.in-Err-Wrong.field-0 c.in-Err-Wrong.place _ c.in-Err-Wrong.field-0-is c.in-Err-Wrong.ensures.wrong))

pub returns-in-Err-NoMemory-clause-drawn : goal.returns-in-Err-NoMemory-clause-drawn
returns-in-Err-NoMemory-clause-drawn g c = λ own. told_good _ _ (1, omega arith, sym c.status_of-in-Err-NoMemory.ensures.code)

pub returns-in-Ok-clause-holds : goal.returns-in-Ok-clause-holds
returns-in-Ok-clause-holds g c =
    let e = c.status_of_command.ensures.ends in
    λ other more. inr (of_command _ c.in-Ok.command c.in-Ok.command _ refl c.in-Ok.ensures.command (e.holds more))

pub returns-in-Err-Wrong-clause-holds : goal.returns-in-Err-Wrong-clause-holds
returns-in-Err-Wrong-clause-holds g c = λ other. absurd (other c.status_of.ensures.code)

pub returns-in-Err-NoMemory-clause-holds : goal.returns-in-Err-NoMemory-clause-holds
returns-in-Err-NoMemory-clause-holds g c = λ other more. inl refl

pub returns-in-Ok-clause-life : goal.returns-in-Ok-clause-life
returns-in-Ok-clause-life g c =
    let view = g.W.Disk.view in
    let left = g.W.Streams.left in
    let sent = g.W.Streams.sent in
    let old = c.args.world in
    let new = c.status_of_command.result.1 in
    let e = c.status_of_command.ensures.ends in
    λ other. inr (of_command _ c.in-Ok.command c.in-Ok.command _ refl c.in-Ok.ensures.command
    (lives_told c.in-Ok.command (view old) (view new) (left old) (sent old) (sent new) e.crash))

pub returns-in-Err-Wrong-clause-life : goal.returns-in-Err-Wrong-clause-life
returns-in-Err-Wrong-clause-life g c = λ other. absurd (other c.status_of.ensures.code)

pub returns-in-Err-NoMemory-clause-life : goal.returns-in-Err-NoMemory-clause-life
returns-in-Err-NoMemory-clause-life g c = λ other. inl (c.status_of-in-Err-NoMemory.ensures.code, refl)

pub returns-in-Ok-clause-exact : goal.returns-in-Ok-clause-exact
returns-in-Ok-clause-exact g c =
    let view = g.W.Disk.view in
    let left = g.W.Streams.left in
    let sent = g.W.Streams.sent in
    let old = c.args.world in
    let new = c.status_of_command.result.1 in
    let e = c.status_of_command.ensures.ends in
    λ other. inr (of_command _ c.in-Ok.command c.in-Ok.command _ refl c.in-Ok.ensures.command
    (runs_made c.servings_are_exact.ensures c.texts_are_exact.ensures c.lines_say_what_is_read.ensures
    c.pages_stand_for_one_book.ensures.book c.in-Ok.command
    (view old) (view new) (left old) (left new) (sent old) (sent new) _ _ _ e))

pub returns-in-Err-Wrong-clause-exact : goal.returns-in-Err-Wrong-clause-exact
returns-in-Err-Wrong-clause-exact g c = λ other. absurd (other c.status_of.ensures.code)

pub returns-in-Err-NoMemory-clause-exact : goal.returns-in-Err-NoMemory-clause-exact
returns-in-Err-NoMemory-clause-exact g c = λ other. inl (c.status_of-in-Err-NoMemory.ensures.code, refl)

pub returns-in-Ok-clause-begins : goal.returns-in-Ok-clause-begins
returns-in-Ok-clause-begins g c =
    let e = c.status_of_command.ensures.ends in
    λ is. of_command _ c.in-Ok.command c.in-Ok.command _ refl c.in-Ok.ensures.command
    (runs_begun c.empty_stores_have_no_series.ensures.disk c.in-Ok.command _ _ _ _ _ _ _ _ _ e is)

pub returns-in-Err-Wrong-clause-begins : goal.returns-in-Err-Wrong-clause-begins
returns-in-Err-Wrong-clause-begins g c = λ is. apart (sym c.status_of.ensures.code ∙ is) refl

pub returns-in-Err-NoMemory-clause-begins : goal.returns-in-Err-NoMemory-clause-begins
returns-in-Err-NoMemory-clause-begins g c = λ is. apart (sym c.status_of-in-Err-NoMemory.ensures.code ∙ is) refl

pub returns-in-Ok-clause-fronts : goal.returns-in-Ok-clause-fronts
returns-in-Ok-clause-fronts g c =
    let e = c.status_of_command.ensures.ends in
    λ is. of_command _ c.in-Ok.command c.in-Ok.command _ refl c.in-Ok.ensures.command
    (drawings_told c.in-Ok.command _ _ _ _ _ _ _ _ _ e is)

pub returns-in-Err-Wrong-clause-fronts : goal.returns-in-Err-Wrong-clause-fronts
returns-in-Err-Wrong-clause-fronts g c = λ is. absurd (never drawing_codes _ 2 is refl c.status_of.ensures.code)

pub returns-in-Err-NoMemory-clause-fronts : goal.returns-in-Err-NoMemory-clause-fronts
returns-in-Err-NoMemory-clause-fronts g c = λ is. absurd (never drawing_codes _ 3 is refl c.status_of-in-Err-NoMemory.ensures.code)

pub returns-in-Ok-clause-unknown : goal.returns-in-Ok-clause-unknown
returns-in-Ok-clause-unknown g c =
    let e = c.status_of_command.ensures.ends in
    λ is. of_command _ c.in-Ok.command c.in-Ok.command _ refl c.in-Ok.ensures.command (e.unknown is)

pub returns-in-Err-Wrong-clause-unknown : goal.returns-in-Err-Wrong-clause-unknown
returns-in-Err-Wrong-clause-unknown g c = λ is. apart (sym c.status_of.ensures.code ∙ is) refl

pub returns-in-Err-NoMemory-clause-unknown : goal.returns-in-Err-NoMemory-clause-unknown
returns-in-Err-NoMemory-clause-unknown g c = λ is. apart (sym c.status_of-in-Err-NoMemory.ensures.code ∙ is) refl

pub returns-in-Ok-clause-covered : goal.returns-in-Ok-clause-covered
returns-in-Ok-clause-covered g c =
    let e = c.status_of_command.ensures.ends in
    covers_complete c.args.words.now _ c.in-Ok.command _ _ _ c.frames_draw_the_book.ensures.good c.in-Ok.ensures.command e.complete

pub returns-in-Err-Wrong-clause-covered : goal.returns-in-Err-Wrong-clause-covered
returns-in-Err-Wrong-clause-covered g c = λ given.
    good_never c.in-Err-Wrong.place c.args.words.now _ _ _
    (wrong_end c.in-Err-Wrong.field-0 c.in-Err-Wrong.place _ c.in-Err-Wrong.field-0-is c.in-Err-Wrong.ensures.wrong) given

pub returns-in-Err-NoMemory-clause-covered : goal.returns-in-Err-NoMemory-clause-covered
returns-in-Err-NoMemory-clause-covered g c = λ given. (1, omega arith, sym c.status_of-in-Err-NoMemory.ensures.code)

pub returns-in-Ok-clause-covers : goal.returns-in-Ok-clause-covers
returns-in-Ok-clause-covers g c =
    let e = c.status_of_command.ensures.ends in
    λ is. of_command _ c.in-Ok.command c.in-Ok.command _ refl c.in-Ok.ensures.command
    (covers_book c.frames_draw_the_book.ensures.book c.in-Ok.command (g.W.Disk.view c.args.world)
    (g.W.Disk.view c.status_of_command.result.1) (g.W.Streams.left c.args.world) (g.W.Streams.sent c.args.world)
    (g.W.Streams.sent c.status_of_command.result.1) (e.done is))

pub returns-in-Err-Wrong-clause-covers : goal.returns-in-Err-Wrong-clause-covers
returns-in-Err-Wrong-clause-covers g c = λ is. apart (sym c.status_of.ensures.code ∙ is) refl

pub returns-in-Err-NoMemory-clause-covers : goal.returns-in-Err-NoMemory-clause-covers
returns-in-Err-NoMemory-clause-covers g c = λ is. apart (sym c.status_of-in-Err-NoMemory.ensures.code ∙ is) refl

pub returns-in-Ok-clause-refused_line : goal.returns-in-Ok-clause-refused_line
returns-in-Ok-clause-refused_line g c =
    let e = c.status_of_command.ensures.ends in
    λ is. of_command _ c.in-Ok.command c.in-Ok.command _ refl c.in-Ok.ensures.command (e.refused_line is)

pub returns-in-Err-Wrong-clause-refused_line : goal.returns-in-Err-Wrong-clause-refused_line
returns-in-Err-Wrong-clause-refused_line g c = λ is. apart (sym c.status_of.ensures.code ∙ is) refl

pub returns-in-Err-NoMemory-clause-refused_line : goal.returns-in-Err-NoMemory-clause-refused_line
returns-in-Err-NoMemory-clause-refused_line g c = λ is. apart (sym c.status_of-in-Err-NoMemory.ensures.code ∙ is) refl

pub returns-in-Ok-clause-faults : goal.returns-in-Ok-clause-faults
returns-in-Ok-clause-faults g c = c.status_of_command.ensures.faults

pub returns-in-Err-Wrong-clause-faults : goal.returns-in-Err-Wrong-clause-faults
returns-in-Err-Wrong-clause-faults g c =
    let view = g.W.Disk.view c.args.world in
    let P : ℕ → Type 0 = λ code. CountsFault (code_fault code) view view in
    subst P (sym c.status_of.ensures.code) (counts_none view view refl refl refl)

pub returns-in-Err-NoMemory-clause-faults : goal.returns-in-Err-NoMemory-clause-faults
returns-in-Err-NoMemory-clause-faults g c =
    let view = g.W.Disk.view c.args.world in
    counts_as c.status_of-in-Err-NoMemory.result (status 3 0) view view c.status_of-in-Err-NoMemory.ensures.status
    (counts_none view view refl refl refl)

-- ---- the pages

pub returns-in-Ok-clause-plot : goal.returns-in-Ok-clause-plot
returns-in-Ok-clause-plot g c = λ w h own. inr (by_words c.in-Ok.command
    (Plot w h) _ _ _ c.in-Ok.ensures.command own.1 c.status_of_command.ensures.does)

pub returns-in-Err-Wrong-clause-plot : goal.returns-in-Err-Wrong-clause-plot
returns-in-Err-Wrong-clause-plot g c = λ w h own. absurd
    (wrong_never c.in-Err-Wrong.place _ (Plot w h) own.0 own.1
    (wrong_end c.in-Err-Wrong.field-0 c.in-Err-Wrong.place _ c.in-Err-Wrong.field-0-is c.in-Err-Wrong.ensures.wrong))

pub returns-in-Err-NoMemory-clause-plot : goal.returns-in-Err-NoMemory-clause-plot
returns-in-Err-NoMemory-clause-plot g c = λ w h own. inl (c.status_of-in-Err-NoMemory.ensures.code, refl)

pub returns-in-Ok-clause-load : goal.returns-in-Ok-clause-load
returns-in-Ok-clause-load g c = λ name own. inr (by_words c.in-Ok.command
    (Load name) _ _ _ c.in-Ok.ensures.command own.1 c.status_of_command.ensures.does)

pub returns-in-Err-Wrong-clause-load : goal.returns-in-Err-Wrong-clause-load
returns-in-Err-Wrong-clause-load g c = λ name own. absurd
    (wrong_never c.in-Err-Wrong.place _ (Load name) own.0 own.1
    (wrong_end c.in-Err-Wrong.field-0 c.in-Err-Wrong.place _ c.in-Err-Wrong.field-0-is c.in-Err-Wrong.ensures.wrong))

pub returns-in-Err-NoMemory-clause-load : goal.returns-in-Err-NoMemory-clause-load
returns-in-Err-NoMemory-clause-load g c = λ name own. inl (c.status_of-in-Err-NoMemory.ensures.code, refl)

pub returns-in-Ok-clause-demo : goal.returns-in-Ok-clause-demo
returns-in-Ok-clause-demo g c = λ seed rounds own. inr
    (by_words c.in-Ok.command (Demo seed rounds) _ _ _ c.in-Ok.ensures.command own.1 c.status_of_command.ensures.does)

pub returns-in-Err-Wrong-clause-demo : goal.returns-in-Err-Wrong-clause-demo
returns-in-Err-Wrong-clause-demo g c = λ seed rounds own. absurd
    (wrong_never c.in-Err-Wrong.place _ (Demo seed rounds) own.0 own.1
    (wrong_end c.in-Err-Wrong.field-0 c.in-Err-Wrong.place _ c.in-Err-Wrong.field-0-is c.in-Err-Wrong.ensures.wrong))

pub returns-in-Err-NoMemory-clause-demo : goal.returns-in-Err-NoMemory-clause-demo
returns-in-Err-NoMemory-clause-demo g c = λ seed rounds own. inl (c.status_of-in-Err-NoMemory.ensures.code, refl)

pub returns-in-Ok-clause-draw : goal.returns-in-Ok-clause-draw
returns-in-Ok-clause-draw g c = λ own. inr (by_words c.in-Ok.command Draw _ _ _ c.in-Ok.ensures.command own.1
    c.status_of_command.ensures.does)

pub returns-in-Err-Wrong-clause-draw : goal.returns-in-Err-Wrong-clause-draw
returns-in-Err-Wrong-clause-draw g c = λ own. absurd
    (wrong_never c.in-Err-Wrong.place _ Draw own.0 own.1
    (wrong_end c.in-Err-Wrong.field-0 c.in-Err-Wrong.place _ c.in-Err-Wrong.field-0-is c.in-Err-Wrong.ensures.wrong))

pub returns-in-Err-NoMemory-clause-draw : goal.returns-in-Err-NoMemory-clause-draw
returns-in-Err-NoMemory-clause-draw g c = λ own. inl (c.status_of-in-Err-NoMemory.ensures.code, refl)

pub returns-in-Ok-clause-init : goal.returns-in-Ok-clause-init
returns-in-Ok-clause-init g c = λ own. inr (by_words c.in-Ok.command Init _ _ _ c.in-Ok.ensures.command own.1
    c.status_of_command.ensures.does)

pub returns-in-Err-Wrong-clause-init : goal.returns-in-Err-Wrong-clause-init
returns-in-Err-Wrong-clause-init g c = λ own. absurd
    (wrong_never c.in-Err-Wrong.place _ Init own.0 own.1
    (wrong_end c.in-Err-Wrong.field-0 c.in-Err-Wrong.place _ c.in-Err-Wrong.field-0-is c.in-Err-Wrong.ensures.wrong))

pub returns-in-Err-NoMemory-clause-init : goal.returns-in-Err-NoMemory-clause-init
returns-in-Err-NoMemory-clause-init g c = λ own. inl (c.status_of-in-Err-NoMemory.ensures.code, refl)

pub returns-in-Ok-clause-check : goal.returns-in-Ok-clause-check
returns-in-Ok-clause-check g c = λ own. inr (by_words c.in-Ok.command Check _ _ _ c.in-Ok.ensures.command own.1
    c.status_of_command.ensures.does)

pub returns-in-Err-Wrong-clause-check : goal.returns-in-Err-Wrong-clause-check
returns-in-Err-Wrong-clause-check g c = λ own. absurd
    (wrong_never c.in-Err-Wrong.place _ Check own.0 own.1
    (wrong_end c.in-Err-Wrong.field-0 c.in-Err-Wrong.place _ c.in-Err-Wrong.field-0-is c.in-Err-Wrong.ensures.wrong))

pub returns-in-Err-NoMemory-clause-check : goal.returns-in-Err-NoMemory-clause-check
returns-in-Err-NoMemory-clause-check g c = λ own. inl (c.status_of-in-Err-NoMemory.ensures.code, refl)

pub returns-in-Ok-clause-list : goal.returns-in-Ok-clause-list
returns-in-Ok-clause-list g c = λ own. inr (by_words c.in-Ok.command ListSeries _ _ _ c.in-Ok.ensures.command own.1
    c.status_of_command.ensures.does)

pub returns-in-Err-Wrong-clause-list : goal.returns-in-Err-Wrong-clause-list
returns-in-Err-Wrong-clause-list g c = λ own. absurd
    (wrong_never c.in-Err-Wrong.place _ ListSeries own.0 own.1
    (wrong_end c.in-Err-Wrong.field-0 c.in-Err-Wrong.place _ c.in-Err-Wrong.field-0-is c.in-Err-Wrong.ensures.wrong))

pub returns-in-Err-NoMemory-clause-list : goal.returns-in-Err-NoMemory-clause-list
returns-in-Err-NoMemory-clause-list g c = λ own. inl (c.status_of-in-Err-NoMemory.ensures.code, refl)

pub returns-in-Ok-clause-export : goal.returns-in-Ok-clause-export
returns-in-Ok-clause-export g c = λ name window own. inr
    (by_words c.in-Ok.command (Export name window) _ _ _ c.in-Ok.ensures.command own.1 c.status_of_command.ensures.does)

pub returns-in-Err-Wrong-clause-export : goal.returns-in-Err-Wrong-clause-export
returns-in-Err-Wrong-clause-export g c = λ name window own. absurd
    (wrong_never c.in-Err-Wrong.place _ (Export name window) own.0 own.1
    (wrong_end c.in-Err-Wrong.field-0 c.in-Err-Wrong.place _ c.in-Err-Wrong.field-0-is c.in-Err-Wrong.ensures.wrong))

pub returns-in-Err-NoMemory-clause-export : goal.returns-in-Err-NoMemory-clause-export
returns-in-Err-NoMemory-clause-export g c = λ name window own. inl (c.status_of-in-Err-NoMemory.ensures.code, refl)

pub returns-in-Ok-clause-cover : goal.returns-in-Ok-clause-cover
returns-in-Ok-clause-cover g c = λ every own. inr (by_words c.in-Ok.command
    (Cover every) _ _ _ c.in-Ok.ensures.command own.1 c.status_of_command.ensures.does)

pub returns-in-Err-Wrong-clause-cover : goal.returns-in-Err-Wrong-clause-cover
returns-in-Err-Wrong-clause-cover g c = λ every own. absurd
    (wrong_never c.in-Err-Wrong.place _ (Cover every) own.0 own.1
    (wrong_end c.in-Err-Wrong.field-0 c.in-Err-Wrong.place _ c.in-Err-Wrong.field-0-is c.in-Err-Wrong.ensures.wrong))

pub returns-in-Err-NoMemory-clause-cover : goal.returns-in-Err-NoMemory-clause-cover
returns-in-Err-NoMemory-clause-cover g c = λ every own. inl (c.status_of-in-Err-NoMemory.ensures.code, refl)

pub returns-in-Ok-clause-derive : goal.returns-in-Ok-clause-derive
returns-in-Ok-clause-derive g c = λ own. inr (by_words c.in-Ok.command Derive _ _ _ c.in-Ok.ensures.command own.1
    c.status_of_command.ensures.does)

pub returns-in-Err-Wrong-clause-derive : goal.returns-in-Err-Wrong-clause-derive
returns-in-Err-Wrong-clause-derive g c = λ own. absurd
    (wrong_never c.in-Err-Wrong.place _ Derive own.0 own.1
    (wrong_end c.in-Err-Wrong.field-0 c.in-Err-Wrong.place _ c.in-Err-Wrong.field-0-is c.in-Err-Wrong.ensures.wrong))

pub returns-in-Err-NoMemory-clause-derive : goal.returns-in-Err-NoMemory-clause-derive
returns-in-Err-NoMemory-clause-derive g c = λ own. inl (c.status_of-in-Err-NoMemory.ensures.code, refl)

pub returns-in-Ok-clause-retain : goal.returns-in-Ok-clause-retain
returns-in-Ok-clause-retain g c = λ own. inr (by_words c.in-Ok.command Retain _ _ _ c.in-Ok.ensures.command own.1
    c.status_of_command.ensures.does)

pub returns-in-Err-Wrong-clause-retain : goal.returns-in-Err-Wrong-clause-retain
returns-in-Err-Wrong-clause-retain g c = λ own. absurd
    (wrong_never c.in-Err-Wrong.place _ Retain own.0 own.1
    (wrong_end c.in-Err-Wrong.field-0 c.in-Err-Wrong.place _ c.in-Err-Wrong.field-0-is c.in-Err-Wrong.ensures.wrong))

pub returns-in-Err-NoMemory-clause-retain : goal.returns-in-Err-NoMemory-clause-retain
returns-in-Err-NoMemory-clause-retain g c = λ own. inl (c.status_of-in-Err-NoMemory.ensures.code, refl)

pub returns-in-Ok-clause-live : goal.returns-in-Ok-clause-live
returns-in-Ok-clause-live g c = λ own. inr (by_words c.in-Ok.command Live _ _ _ c.in-Ok.ensures.command own.1
    c.status_of_command.ensures.does)

pub returns-in-Ok-clause-host : goal.returns-in-Ok-clause-host
returns-in-Ok-clause-host g c = λ own. inr (by_words c.in-Ok.command Host _ _ _ c.in-Ok.ensures.command own.1
    c.status_of_command.ensures.does)

pub returns-in-Err-Wrong-clause-live : goal.returns-in-Err-Wrong-clause-live
returns-in-Err-Wrong-clause-live g c = λ own. absurd
    (wrong_never c.in-Err-Wrong.place _ Live own.0 own.1
    (wrong_end c.in-Err-Wrong.field-0 c.in-Err-Wrong.place _ c.in-Err-Wrong.field-0-is c.in-Err-Wrong.ensures.wrong))

pub returns-in-Err-Wrong-clause-host : goal.returns-in-Err-Wrong-clause-host
returns-in-Err-Wrong-clause-host g c = λ own. absurd
    (wrong_never c.in-Err-Wrong.place _ Host own.0 own.1
    (wrong_end c.in-Err-Wrong.field-0 c.in-Err-Wrong.place _ c.in-Err-Wrong.field-0-is c.in-Err-Wrong.ensures.wrong))

pub returns-in-Err-NoMemory-clause-live : goal.returns-in-Err-NoMemory-clause-live
returns-in-Err-NoMemory-clause-live g c = λ own. inl (c.status_of-in-Err-NoMemory.ensures.code, refl)

pub returns-in-Err-NoMemory-clause-host : goal.returns-in-Err-NoMemory-clause-host
returns-in-Err-NoMemory-clause-host g c = λ own. inl (c.status_of-in-Err-NoMemory.ensures.code, refl)

pub returns-in-Ok-clause-run : goal.returns-in-Ok-clause-run
returns-in-Ok-clause-run g c = λ own. inr (by_words c.in-Ok.command Run _ _ _ c.in-Ok.ensures.command own.1
    c.status_of_command.ensures.does)

pub returns-in-Err-Wrong-clause-run : goal.returns-in-Err-Wrong-clause-run
returns-in-Err-Wrong-clause-run g c = λ own. absurd
    (wrong_never c.in-Err-Wrong.place _ Run own.0 own.1
    (wrong_end c.in-Err-Wrong.field-0 c.in-Err-Wrong.place _ c.in-Err-Wrong.field-0-is c.in-Err-Wrong.ensures.wrong))

pub returns-in-Err-NoMemory-clause-run : goal.returns-in-Err-NoMemory-clause-run
returns-in-Err-NoMemory-clause-run g c = λ own. inl (c.status_of-in-Err-NoMemory.ensures.code, refl)

pub returns-in-Ok-clause-serve : goal.returns-in-Ok-clause-serve
returns-in-Ok-clause-serve g c = λ own. inr (by_words c.in-Ok.command Serve _ _ _ c.in-Ok.ensures.command own.1
    c.status_of_command.ensures.does)

pub returns-in-Err-Wrong-clause-serve : goal.returns-in-Err-Wrong-clause-serve
returns-in-Err-Wrong-clause-serve g c = λ own. absurd
    (wrong_never c.in-Err-Wrong.place _ Serve own.0 own.1
    (wrong_end c.in-Err-Wrong.field-0 c.in-Err-Wrong.place _ c.in-Err-Wrong.field-0-is c.in-Err-Wrong.ensures.wrong))

pub returns-in-Err-NoMemory-clause-serve : goal.returns-in-Err-NoMemory-clause-serve
returns-in-Err-NoMemory-clause-serve g c = λ own. inl (c.status_of-in-Err-NoMemory.ensures.code, refl)
