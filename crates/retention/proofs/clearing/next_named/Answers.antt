use Rattle.series_store.proofs.AskLemmas.{there}
use Rattle.retention.proofs.NextLemmas.{id_within, named_next, named_none}
use Rattle.std.proofs.Common.{◌≡◌, subst, sym}
use Rattle.block_disk.specs.View.{Image}
use Rattle.retention.specs.Damage.{Asks, IsBadAt, IsBadForLook}
use Rattle.series_store.specs.Shown as shown
use Rattle.stored_book.specs.Records.{entry}
use Rattle.retention.proofs.DamageLemmas.{bad_named, record_name, result_blames}
use Rattle.retention.proofs.clearing.next_named.Goals as goal

pub returns-in_default-clause-next : goal.returns-in_default-clause-next
returns-in_default-clause-next g c = λ total book told stands.
    named_none total book c.args.rule.now c.args.name.now c.requires.named
    (c.in_default.ensures.info total book c.requires.sound told stands)

pub returns-clause-next : goal.returns-clause-next
returns-clause-next g c = λ total book told stands.
    let found = c.in-Some.ensures.info total book c.requires.sound told stands in
    let one = there book c.in-Some.info.id (id_within c.args.name.now book c.in-Some.info.id found.0) in
    named_next total book c.args.rule.now c.args.name.now c.in-Some.info.id one.0 c.next_of.result stands.store.is_book c.requires.named
    found.0 one.1 (c.next_of.ensures.first total book one.0 told stands one.1)

pub returns-clause-outside : goal.returns-clause-outside
returns-clause-outside g c = λ total book told stands.
    let found = c.in-Some.ensures.info total book c.requires.sound told stands in
    let one = there book c.in-Some.info.id (id_within c.args.name.now book c.in-Some.info.id found.0) in
    c.next_of.ensures.outside total book one.0 told stands one.1

pub returns-clause-blames : goal.returns-clause-blames
returns-clause-blames g c =
    let old = c.args.store.now in
    let new = c.next_of.new.store in
    let looks = c.next_of.ensures.looks in
    let id = c.in-Some.info.id in
    result_blames c.next_of.result (λ page. shown.IsTold new → IsBadAt id (shown.view new).size (shown.image new) page)
    (λ page. shown.IsTold new → IsBadForLook (Asks c.args.rule.now) (shown.view new).size (shown.image new) page)
    (λ page bad told.
    let was = looks.was_told told in
    let N : Image → Type 0 = λ i. (entry i id).name ≡ c.args.name.now in
    bad_named c.args.rule.now c.args.name.now id (shown.view new).size page (shown.image new) c.requires.named
    (subst N (sym (looks.image was)) (record_name old c.args.name.now id c.requires.sound was c.in-Some.ensures.there
    c.in-Some.ensures.named)) (bad told))
    c.next_of.ensures.blames
