use Rattle.std.proofs.Common.{◌≡◌, ◌≢◌, ◌∙◌, ℕ, List, ap, sym, subst}
use Rattle.std.specs.Prelude.{IfSome, IsTrue}
use Rattle.chart_service.specs.Shown as shown
use Rattle.run_ends.specs.Faults.{end_fault}
use Rattle.run_ends.specs.declared.ending.End.TheVariants.{DiskFault, Done}
use Rattle.chart_service.specs.declared.service.Service.{Service}
use Rattle.gate_pages.specs.GatePages.{IsClosed}
use Rattle.live_service.specs.Shown as its
use Rattle.series_book.specs.declared.one_series.Series.{Series}
use Rattle.series_store.specs.Shown as stored
use Rattle.store_commands.proofs.Held.{RestsNew, rests_new}
use Rattle.store_commands.specs.Traffic.{traffic}
use Rattle.store_commands.specs.TrafficLaws.{was_read}
use Rattle.store_commands.proofs.Stores.{store_disk, store_sound}
use Rattle.live_command.specs.Syncs.{SyncsLines}
use Rattle.live_command.specs.Ended.{ReadsFrom}
use Rattle.hosted_lines.specs.Begun.{begun_live}
use Rattle.live_command.specs.Ending.{Served}
use Rattle.live_command.proofs.DiskLemmas.{reads_from, served_by}
use Rattle.hosted_lines.proofs.DiskSides.{begins_so}
use Rattle.live_service.proofs.LiveShown.{begun_service, ended_store}
use Rattle.chart_world.specs.Faults.{CountsFault}
use Rattle.live_service.specs.Kinds.{MayAnswerLive}
use Rattle.hosted_lines.specs.Answers.{SendsAnswers, watched}
use Rattle.chart_service.specs.Blaming.{Blames}
use Rattle.hosted_lines.specs.Blaming.{BlamesOnDisk}
use Rattle.hosted_lines.proofs.AnswersLemmas.{sends_answers}
use Rattle.hosted_lines.proofs.BlameLemmas.{disk_blames, line_current, live_told}
use Rattle.live_service.specs.Pushing.{followed_after}
use Rattle.live_command.proofs.command.serve_service.Goals as goal

pub returns-clause-serves : goal.returns-clause-serves
returns-clause-serves g c =
    let view = g.W.Disk.view in
    let left = g.W.Streams.left in
    let sent = g.W.Streams.sent in
    let reads = g.W.Streams.read_faults in
    let sends = g.W.Streams.send_faults in
    let service = c.args.service in
    let start = c.new-live.result in
    let after = c.serve_live-end.new.live in
    let end = c.serve_live-end.result in
    let made = c.serve_live-end.ensures in
    let pages = shown.pages (its.service start) in
    let end_pages = shown.pages (its.service after) in
    let disk = pages.disk in
    let new = end_pages.disk in
    let store = c.into_store.result in
    let is_service = begun_service start c.new.result service c.new-live.ensures.stepper c.new.ensures in
    let is_store = ended_store after c.into_stepper.result c.into_service-service.result store c.into_stepper.ensures
    c.into_service-service.ensures c.into_store.ensures in
    let same_disk = c.disk_of.ensures.disk ∙ store_disk store (its.service after).store is_store in
    let closed : end ≢ DiskFault → IsClosed (view new) = λ other.
    let P : g.row.W.Denot → Type 0 = λ d. IsClosed (view d) in
    subst P same_disk (c.disk_of.ensures.rests (subst IsTrue (sym (store_sound store (its.service after).store is_store))
    (made.sound other))) in
    let alone = ap (λ (s : Service _ _). s.sessions) is_service ∙ c.requires.alone in
    let begins : (total : ℕ) (book : List Series) → its.state start total book ≡ begun_live total book =
    λ total book. begins_so total book (its.service start).sessions start.followed.items start.pending.items alone c.new-live.ensures.none
    c.new-live.ensures.idle in
    let R : Service _ _ → Type 0 = λ s. RestsNew (shown.pages s).count (view (shown.pages s).disk) in
    let rests : RestsNew pages.count (view disk) = subst R (sym is_service)
    (rests_new (shown.pages service).count (view (shown.pages service).disk) (stored.numbers service.store)
    ((shown.pages service).at_rest c.requires.sound) (service.store.space.spelled c.requires.sound)) in
    let all = served_by pages.count end_pages.count pages.sound end_pages.sound (view disk) (view new)
    (traffic left sent reads sends disk new) made.goes rests (its.state start) begins
    end (λ done. was_read (left disk) (left new) (made.within done) (made.whole done)) made.long made.cause made.ends made.crash closed in
    let D : g.row.W.Denot → Type 0 = λ d. Served pages.count (view disk) (view d) (traffic left sent reads sends disk d) end in
    let S : Service _ _ → Type 0 = λ s. Served (shown.pages s).count (view (shown.pages s).disk) (view c.disk_of.result)
    (traffic left sent reads sends (shown.pages s).disk c.disk_of.result) end in
    subst S is_service (subst D (sym same_disk) all)

pub returns-clause-reads : goal.returns-clause-reads
returns-clause-reads g c =
    let view = g.W.Disk.view in
    let left = g.W.Streams.left in
    let service = c.args.service in
    let start = c.new-live.result in
    let after = c.serve_live-end.new.live in
    let made = c.serve_live-end.ensures in
    let pages = shown.pages (its.service start) in
    let end_pages = shown.pages (its.service after) in
    let disk = pages.disk in
    let new = end_pages.disk in
    let store = c.into_store.result in
    let is_service = begun_service start c.new.result service c.new-live.ensures.stepper c.new.ensures in
    let is_store = ended_store after c.into_stepper.result c.into_service-service.result store c.into_stepper.ensures
    c.into_service-service.ensures c.into_store.ensures in
    let same_disk = c.disk_of.ensures.disk ∙ store_disk store (its.service after).store is_store in
    let alone = ap (λ (s : Service _ _). s.sessions) is_service ∙ c.requires.alone in
    let begins : (total : ℕ) (book : List Series) → its.state start total book ≡ begun_live total book =
    λ total book. begins_so total book (its.service start).sessions start.followed.items start.pending.items alone c.new-live.ensures.none
    c.new-live.ensures.idle in
    let R : Service _ _ → Type 0 = λ s. RestsNew (shown.pages s).count (view (shown.pages s).disk) in
    let rests : RestsNew pages.count (view disk) = subst R (sym is_service)
    (rests_new (shown.pages service).count (view (shown.pages service).disk) (stored.numbers service.store)
    ((shown.pages service).at_rest c.requires.sound) (service.store.space.spelled c.requires.sound)) in
    let D : g.row.W.Denot → Type 0 = λ d. IfSome (left disk)
    (λ input. ReadsFrom pages.count (view disk) (view d) input (view disk).reads) in
    let S : Service _ _ → Type 0 = λ s. IfSome (left (shown.pages s).disk)
    (λ input. ReadsFrom (shown.pages s).count (view (shown.pages s).disk) (view c.disk_of.result) input
    (view (shown.pages s).disk).reads) in
    subst S is_service (subst D (sym same_disk) (reads_from pages.count (view disk) (view new) rests (left disk)
    (its.state start) begins made.reads))

pub returns-clause-syncs : goal.returns-clause-syncs
returns-clause-syncs g c =
    let view = g.W.Disk.view in
    let left = g.W.Streams.left in
    let service = c.args.service in
    let start = c.new-live.result in
    let after = c.serve_live-end.new.live in
    let made = c.serve_live-end.ensures in
    let pages = shown.pages (its.service start) in
    let end_pages = shown.pages (its.service after) in
    let disk = pages.disk in
    let new = end_pages.disk in
    let store = c.into_store.result in
    let is_service = begun_service start c.new.result service c.new-live.ensures.stepper c.new.ensures in
    let is_store = ended_store after c.into_stepper.result c.into_service-service.result store c.into_stepper.ensures
    c.into_service-service.ensures c.into_store.ensures in
    let same_disk = c.disk_of.ensures.disk ∙ store_disk store (its.service after).store is_store in
    let D : g.row.W.Denot → Type 0 = λ d. IfSome (left disk) (λ input. SyncsLines input (view disk).syncs (view d).syncs) in
    let S : Service _ _ → Type 0 = λ s. IfSome (left (shown.pages s).disk)
    (λ input. SyncsLines input (view (shown.pages s).disk).syncs (view c.disk_of.result).syncs) in
    subst S is_service (subst D (sym same_disk) made.syncs)

pub returns-clause-faults : goal.returns-clause-faults
returns-clause-faults g c =
    let view = g.W.Disk.view in
    let service = c.args.service in
    let start = c.new-live.result in
    let after = c.serve_live-end.new.live in
    let fault = end_fault c.serve_live-end.result in
    let store = c.into_store.result in
    let is_service = begun_service start c.new.result service c.new-live.ensures.stepper c.new.ensures in
    let is_store = ended_store after c.into_stepper.result c.into_service-service.result store c.into_stepper.ensures
    c.into_service-service.ensures c.into_store.ensures in
    let same_disk = c.disk_of.ensures.disk ∙ store_disk store (its.service after).store is_store in
    let D : g.row.W.Denot → Type 0 = λ d. CountsFault fault (view (shown.pages (its.service start)).disk) (view d) in
    let S : Service _ _ → Type 0 = λ s. CountsFault fault (view (shown.pages s).disk) (view c.disk_of.result) in
    subst S is_service (subst D (sym same_disk) c.serve_live-end.ensures.faults)

pub returns-clause-answers : goal.returns-clause-answers
returns-clause-answers g c =
    let left = g.W.Streams.left in
    let sent = g.W.Streams.sent in
    let service = c.args.service in
    let start = c.new-live.result in
    let after = c.serve_live-end.new.live in
    let end = c.serve_live-end.result in
    let disk = (shown.pages (its.service start)).disk in
    let new = (shown.pages (its.service after)).disk in
    let store = c.into_store.result in
    let is_service = begun_service start c.new.result service c.new-live.ensures.stepper c.new.ensures in
    let is_store = ended_store after c.into_stepper.result c.into_service-service.result store c.into_stepper.ensures
    c.into_service-service.ensures c.into_store.ensures in
    let same_disk = c.disk_of.ensures.disk ∙ store_disk store (its.service after).store is_store in
    let alone = ap (λ (s : Service _ _). s.sessions) is_service ∙ c.requires.alone in
    let D : g.row.W.Denot → Type 0 = λ d. end ≡ Done
    → IfSome (left disk) (λ input. SendsAnswers MayAnswerLive followed_after input (sent disk) (sent d)) in
    let S : Service _ _ → Type 0 = λ s. end ≡ Done → IfSome (left (shown.pages s).disk)
    (λ input. SendsAnswers MayAnswerLive followed_after input (sent (shown.pages s).disk) (sent c.disk_of.result)) in
    subst S is_service (subst D (sym same_disk)
    (λ done. sends_answers MayAnswerLive followed_after (left disk) (watched start) (watched after) (sent disk)
    (sent new) alone c.new-live.ensures.none (c.serve_live-end.ensures.answers done)))

pub returns-clause-blames : goal.returns-clause-blames
returns-clause-blames g c =
    let view = g.W.Disk.view in
    let left = g.W.Streams.left in
    let sent = g.W.Streams.sent in
    let service = c.args.service in
    let start = c.new-live.result in
    let after = c.serve_live-end.new.live in
    let end = c.serve_live-end.result in
    let disk = (shown.pages (its.service start)).disk in
    let new = (shown.pages (its.service after)).disk in
    let store = c.into_store.result in
    let is_service = begun_service start c.new.result service c.new-live.ensures.stepper c.new.ensures in
    let is_store = ended_store after c.into_stepper.result c.into_service-service.result store c.into_stepper.ensures
    c.into_service-service.ensures c.into_store.ensures in
    let same_disk = c.disk_of.ensures.disk ∙ store_disk store (its.service after).store is_store in
    let alone = ap (λ (s : Service _ _). s.sessions) is_service ∙ c.requires.alone in
    let pages = shown.pages (its.service start) in
    let end_pages = shown.pages (its.service after) in
    let made = c.serve_live-end.ensures in
    let blames = disk_blames MayAnswerLive followed_after Blames line_current pages.count end_pages.count (view new) (left disk) (sent disk)
    (sent new) end made.goes.size
    (live_told (shown.IsTold (its.service after)) (its.view after).size (its.view after).image end (left disk) (watched start) (sent disk)
    (sent new) alone c.new-live.ensures.none made.blames) in
    let D : g.row.W.Denot → Type 0 = λ d. BlamesOnDisk MayAnswerLive followed_after Blames pages.count (view d) (left disk) (sent disk)
    (sent d) end in
    let S : Service _ _ → Type 0 = λ s. BlamesOnDisk MayAnswerLive followed_after Blames (shown.pages s).count (view c.disk_of.result)
    (left (shown.pages s).disk) (sent (shown.pages s).disk) (sent c.disk_of.result) end in
    subst S is_service (subst D (sym same_disk) blames)
