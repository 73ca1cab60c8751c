use Rattle.std.proofs.Common.{◌≡◌, None, Some, ap, sym, ◌∙◌}
use Rattle.std.specs.List.{slice_get}
use Rattle.std.proofs.lemmas.Option.{same_Some}
use Rattle.series_book.specs.declared.one_series.Series.{Series}
use Rattle.retention.proofs.NextLemmas.{page_is}
use Rattle.retention.proofs.freeing.clear_page.Goals as goal

pub returns-in_default-clause-clear : goal.returns-in_default-clause-clear
returns-in_default-clause-clear g c = λ total book told stands it oldest_slot kept.
    let none = c.in_default.ensures.books total book c.requires.sound told stands in
    let both : None ≡ Some it.series = sym none ∙ ap (slice_get book) kept.id ∙ oldest_slot.there in
    cc

pub returns-clause-clear : goal.returns-clause-clear
returns-clause-clear g c = λ total book told stands it oldest_slot kept.
    let named = c.in-Some.ensures.books total book c.requires.sound told stands in
    let same : named.series ≡ it.series = same_Some named.series it.series (sym named.there ∙ ap (slice_get book) kept.id
    ∙ oldest_slot.there) in
    ap (λ x. Some x)
    (c.in_ok-clear.ensures.clear it.series kept.axis
    ∙ page_is it c.in-Some.series.name.now c.args.found.slot c.min-end.result c.args.found.axis.slots (named.name
    ∙ ap (λ (s : Series). s.name) same) kept.slot c.min-end.ensures kept.axis.slots)
