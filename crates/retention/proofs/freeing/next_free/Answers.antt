use Rattle.std.proofs.Common.{◌-◌, ◌≤◌, ◌<◌, sym, subst, arith}
use Rattle.block_disk.specs.View.{Image}
use Rattle.series_book.specs.Pages.{pages_of}
use Rattle.stored_book.specs.Standing.{StandsForBook}
use Rattle.retention.specs.Sweeps.{oldest}
use Rattle.series_store.specs.Shown as shown
use Rattle.retention.proofs.Counting.{no_memory_counts}
use Rattle.retention.proofs.FreeLemmas.{free_enough, free_none}
use Rattle.retention.proofs.NextLemmas.{free_result, le_false, le_true, none_kept, some_kept}
use Rattle.retention.proofs.OldestLemmas.{oldest_is}
use Rattle.std.specs.Prelude.{⊤}
use Rattle.retention.specs.Damage.{Asks, IsBadForLook}
use Rattle.retention.specs.declared.rule.Rule.TheVariants.{Free}
use Rattle.retention.proofs.DamageLemmas.{bad_free, blames_by}
use Rattle.retention.proofs.freeing.next_free.Goals as goal

pub returns-then-pages-from-clause-next : goal.returns-then-pages-from-clause-next
returns-then-pages-from-clause-next g c = λ total book told stands.
    let all = c.total.ensures.books total book c.requires.sound told stands in
    let used = c.used.ensures.books total book c.requires.sound told stands in
    let enough : c.args.pages ≤ total - pages_of book = omega (arith, all, used, c.if-pages-from.true, c.from.ensures) in
    free_enough total c.args.pages book (le_true c.args.pages (total - pages_of book) enough)

pub returns-in_default-clause-next : goal.returns-in_default-clause-next
returns-in_default-clause-next g c = λ total book told stands.
    free_none total c.args.pages book (none_kept (oldest book) c.in-Ok.found c.in_default.is
    (c.in-Ok.ensures.oldest total book told stands))

pub returns-clause-next : goal.returns-clause-next
returns-clause-next g c = λ total book told stands.
    let all = c.total.ensures.books total book c.requires.sound told stands in
    let used = c.used.ensures.books total book c.requires.sound told stands in
    let few : total - pages_of book < c.args.pages = omega (arith, all, used, c.if-pages-from.false, c.from.ensures) in
    let it = some_kept (oldest book) c.in-Ok.found c.in-Some.found c.in-Some.is (c.in-Ok.ensures.oldest total book told stands) in
    let S : Image → Type 0 = λ i. StandsForBook i total book in
    let stands' = subst S (sym (c.in-Ok.ensures.looks.image told)) stands in
    free_result total c.args.pages book it.0 c.clear_page.result stands.store.is_book
    (le_false c.args.pages (total - pages_of book) few) it.1
    (c.clear_page.ensures.clear total book (c.in-Ok.ensures.looks.told told) stands' it.0 (oldest_is book it.0 it.1) it.2)

pub returns-clause-faults : goal.returns-clause-faults
returns-clause-faults g c = no_memory_counts c.clear_page.result (shown.view c.args.store.now)
    (shown.view c.oldest.new.store) c.clear_page.ensures.err c.in-Ok.ensures.faults

pub returns-in-Err-clause-blames : goal.returns-in-Err-clause-blames
returns-in-Err-clause-blames g c =
    let new = c.oldest.new.store in
    blames_by c.in-Err.error (λ page. shown.IsTold new → IsBadForLook (λ name. ⊤) (shown.view new).size (shown.image new) page)
    (λ page. shown.IsTold new → IsBadForLook (Asks (Free c.args.pages)) (shown.view new).size (shown.image new) page)
    (λ page bad told. bad_free c.args.pages (shown.view new).size page (shown.image new) (bad told)) c.in-Err.ensures.blames
