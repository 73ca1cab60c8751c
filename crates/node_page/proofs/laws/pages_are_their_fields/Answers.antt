use Rattle.node_page.proofs.SameFields.{alike_same}
use Rattle.node_page.proofs.laws.pages_are_their_fields.Goals as goal

pub returns : goal.returns
returns c = λ one other size size' fits fits' keeps keeps' level coefs children.
    alike_same one other (record {
      size = size;
      size' = size';
      fits = fits;
      fits' = fits';
      keeps = keeps;
      keeps' = keeps';
      level = level;
      coefs = coefs;
      children = children;
    })
