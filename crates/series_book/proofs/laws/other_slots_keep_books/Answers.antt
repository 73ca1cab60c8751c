use Rattle.series_book.proofs.LawLemmas.{IsBook-with_slots}
use Rattle.series_book.proofs.laws.other_slots_keep_books.Goals as goal

pub returns : goal.returns
returns c = λ book id series slots is there short last fit. IsBook-with_slots book id series slots is there
    (record { short = short; last = last; fit = fit })
