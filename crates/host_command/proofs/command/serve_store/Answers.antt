use Rattle.std.proofs.Common.{ℕ, None, refl, sym, subst, ◌∙◌, ◌≡◌}
use Rattle.std.specs.Prelude.{IfSome, IsTrue}
use Rattle.run_ends.specs.Faults.{end_fault}
use Rattle.run_ends.specs.declared.ending.End.TheVariants.{NoMemory, Done}
use Rattle.series_store.specs.Shown as stored
use Rattle.store_commands.specs.Traffic.{traffic}
use Rattle.store_commands.proofs.Stores.{store_disk, store_count, store_sound}
use Rattle.host_command.specs.Ended.{CostsFrom}
use Rattle.host_command.specs.Ending.{Served}
use Rattle.host_command.proofs.DiskLemmas.{costs_untaken, served_none}
use Rattle.chart_world.specs.Faults.{CountsFault}
use Rattle.hosted_lines.specs.Answers.{MayAnswerHost, SendsAnswers, followed_behind}
use Rattle.hosted_lines.specs.Blaming.{BlamesHost, BlamesOnDisk}
use Rattle.host_command.proofs.command.serve_store.Goals as goal

pub serve_service-requires-clause-sound : goal.serve_service-requires-clause-sound
serve_service-requires-clause-sound g c = subst IsTrue
    (sym (store_sound c.in-Ok.service.store c.args.store c.in-Ok.ensures.store)) c.requires

pub returns-in-Ok-clause-serves : goal.returns-in-Ok-clause-serves
returns-in-Ok-clause-serves g c =
    let view = g.W.Disk.view in
    let left = g.W.Streams.left in
    let sent = g.W.Streams.sent in
    let reads = g.W.Streams.read_faults in
    let sends = g.W.Streams.send_faults in
    let store = c.args.store in
    let made = c.in-Ok.service.store in
    let disk = (stored.pages store).disk in
    let new = c.serve_service.result.1 in
    let end = c.serve_service.result.0 in
    let D : g.row.W.Denot → Type 0 = λ d. Served (stored.pages made).count (view d) (view new) (traffic left sent reads sends d new) end in
    let C : ℕ → Type 0 = λ n. Served n (view disk) (view new) (traffic left sent reads sends disk new) end in
    subst C (store_count made store c.in-Ok.ensures.store)
    (subst D (store_disk made store c.in-Ok.ensures.store) c.serve_service.ensures.serves)

pub returns-in-Err-clause-serves : goal.returns-in-Err-clause-serves
returns-in-Err-clause-serves g c =
    let view = g.W.Disk.view in
    let left = g.W.Streams.left in
    let sent = g.W.Streams.sent in
    let reads = g.W.Streams.read_faults in
    let sends = g.W.Streams.send_faults in
    let store = c.args.store in
    let disk = (stored.pages store).disk in
    let back = c.in-Err.field-0.value in
    let D : g.row.W.Denot → Type 0 = λ d. Served (stored.pages store).count (view disk) (view d)
    (traffic left sent reads sends disk d) NoMemory in
    subst D (sym (c.disk_of.ensures.disk ∙ store_disk back store c.in-Err.ensures.back))
    (served_none (stored.pages store).count (view disk) (traffic left sent reads sends disk disk) refl)

pub returns-in-Ok-clause-costs : goal.returns-in-Ok-clause-costs
returns-in-Ok-clause-costs g c =
    let view = g.W.Disk.view in
    let left = g.W.Streams.left in
    let store = c.args.store in
    let made = c.in-Ok.service.store in
    let disk = (stored.pages store).disk in
    let new = c.serve_service.result.1 in
    let D : g.row.W.Denot → Type 0 = λ d. IfSome (left d)
    (λ input. CostsFrom (stored.pages made).count (view d) (view new) input (view d).reads (view d).syncs) in
    let C : ℕ → Type 0 = λ n. IfSome (left disk) (λ input. CostsFrom n (view disk) (view new) input (view disk).reads (view disk).syncs) in
    subst C (store_count made store c.in-Ok.ensures.store)
    (subst D (store_disk made store c.in-Ok.ensures.store) c.serve_service.ensures.costs)

pub returns-in-Err-clause-costs : goal.returns-in-Err-clause-costs
returns-in-Err-clause-costs g c =
    let view = g.W.Disk.view in
    let left = g.W.Streams.left in
    let store = c.args.store in
    let disk = (stored.pages store).disk in
    let back = c.in-Err.field-0.value in
    let D : g.row.W.Denot → Type 0 = λ d. IfSome (left disk)
    (λ input. CostsFrom (stored.pages store).count (view disk) (view d) input (view disk).reads (view disk).syncs) in
    subst D (sym (c.disk_of.ensures.disk ∙ store_disk back store c.in-Err.ensures.back))
    (costs_untaken (stored.pages store).count (view disk) (left disk))

pub returns-in-Ok-clause-faults : goal.returns-in-Ok-clause-faults
returns-in-Ok-clause-faults g c =
    let view = g.W.Disk.view in
    let D : g.row.W.Denot → Type 0 = λ d. CountsFault (end_fault c.serve_service.result.0) (view d) (view c.serve_service.result.1) in
    subst D (store_disk c.in-Ok.service.store c.args.store c.in-Ok.ensures.store) c.serve_service.ensures.faults

pub returns-in-Err-clause-faults : goal.returns-in-Err-clause-faults
returns-in-Err-clause-faults g c =
    let view = g.W.Disk.view in
    let store = c.args.store in
    let D : g.row.W.Denot → Type 0 = λ d. CountsFault None (view (stored.pages store).disk) (view d) in
    subst D (sym (c.disk_of.ensures.disk ∙ store_disk c.in-Err.field-0.value store c.in-Err.ensures.back)) refl

pub returns-in-Ok-clause-answers : goal.returns-in-Ok-clause-answers
returns-in-Ok-clause-answers g c =
    let left = g.W.Streams.left in
    let sent = g.W.Streams.sent in
    let store = c.args.store in
    let made = c.in-Ok.service.store in
    let new = c.serve_service.result.1 in
    let end = c.serve_service.result.0 in
    let D : g.row.W.Denot → Type 0 = λ d. end ≡ Done
    → IfSome (left d) (λ input. SendsAnswers MayAnswerHost followed_behind input (sent d) (sent new)) in
    subst D (store_disk made store c.in-Ok.ensures.store) c.serve_service.ensures.answers

pub returns-in-Ok-clause-blames : goal.returns-in-Ok-clause-blames
returns-in-Ok-clause-blames g c =
    let view = g.W.Disk.view in
    let left = g.W.Streams.left in
    let sent = g.W.Streams.sent in
    let store = c.args.store in
    let made = c.in-Ok.service.store in
    let disk = (stored.pages store).disk in
    let new = c.serve_service.result.1 in
    let end = c.serve_service.result.0 in
    let D : g.row.W.Denot → Type 0 = λ d. BlamesOnDisk MayAnswerHost followed_behind BlamesHost (stored.pages made).count (view new)
    (left d) (sent d) (sent new) end in
    let C : ℕ → Type 0 = λ n. BlamesOnDisk MayAnswerHost followed_behind BlamesHost n (view new) (left disk) (sent disk) (sent new) end in
    subst C (store_count made store c.in-Ok.ensures.store)
    (subst D (store_disk made store c.in-Ok.ensures.store) c.serve_service.ensures.blames)
