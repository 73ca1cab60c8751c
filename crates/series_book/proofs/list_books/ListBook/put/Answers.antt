use Rattle.std.proofs.Common.{◌≡◌, ◌≤◌, ◌+◌, ◌-◌, ap, ◌∙◌, arith}
use Rattle.series_book.specs.Edits.{overwritten}
use Rattle.series_book.specs.Pages.{series_pages, pages_of}
use Rattle.series_book.proofs.BookLemmas.{pages_of-changed, pages_of_few, known_at}
use Rattle.series_book.proofs.list_books.ListBook.put.Goals as goal

-- the count after the change is that of the changed book
changed : (c : goal.After-series_pages-new)
    → (c.series_pages-old.result ≤ c.self.inside.used)
    × (c.self.inside.used - c.series_pages-old.result + c.series_pages-new.result ≡ pages_of c.put.new.self)
changed c =
    pages_of-changed c.self.inside.book c.put.new.self c.args.id c.self.inside.used c.series_pages-old.result c.series_pages-new.result
    c.series-series.result.now c.series.result.now (overwritten c.series-series.result.now.slots c.args.place c.args.run.now)
    c.self.invariant c.series-series.ensures.series
    (known_at _ _ _ c.series-series.ensures.series c.in_ok-displaced.ensures.ok)
    c.series.ensures.series
    (c.series_pages-old.ensures.pages ∙ ap series_pages c.as_slice.ensures)
    (c.series_pages-new.ensures.pages ∙ ap series_pages c.as_slice-2.ensures)

pub overflow_sub-self : goal.overflow_sub-self
overflow_sub-self c = (changed c).0

pub overflow_add-self : goal.overflow_add-self
overflow_add-self c =
    let counted = (changed c).1 in
    omega (arith, counted, pages_of_few c.put.new.self c.series.ensures.book)

pub invariant_of-self-2 : goal.invariant_of-self-2
invariant_of-self-2 c =
    (pages_of-changed c.self.inside.book c.put.new.self c.args.id c.self.inside.used c.series_pages-old.result c.series_pages-new.result
    c.series-series.result.now c.series.result.now (overwritten c.series-series.result.now.slots c.args.place c.args.run.now)
    c.self.invariant c.series-series.ensures.series
    (known_at _ _ _ c.series-series.ensures.series c.in_ok-displaced.ensures.ok)
    c.series.ensures.series
    (c.series_pages-old.ensures.pages ∙ ap series_pages c.as_slice.ensures)
    (c.series_pages-new.ensures.pages ∙ ap series_pages c.as_slice-2.ensures)).1
