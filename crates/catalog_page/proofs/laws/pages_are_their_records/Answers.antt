use Rattle.catalog_page.proofs.Pages.{alike_same}
use Rattle.catalog_page.proofs.laws.pages_are_their_records.Goals as goal

pub returns : goal.returns
returns c = λ one other count fresh fresh' whole whole' fits fits' keeps keeps' same.
    alike_same one other count fresh fresh' (record {
      whole = whole;
      whole' = whole';
      fits = fits;
      fits' = fits';
      keeps = keeps;
      keeps' = keeps';
      same = same;
    })
