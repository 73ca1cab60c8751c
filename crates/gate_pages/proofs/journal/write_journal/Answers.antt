use Rattle.gate_pages.proofs.Moving.{moves_among, moves_on}
use Rattle.std.proofs.Common.{◌∙◌, ◌+◌, ap, arith}
use Rattle.gate_pages.specs.Entries.{entries}
use Rattle.gate_pages.specs.Journal.{directory}
use Rattle.gate_pages.proofs.Directories.{images_from}
use Rattle.gate_pages.proofs.journal.write_journal.Goals as goal

pub returns-clause-holds : goal.returns-clause-holds
returns-clause-holds g c honest =
    let view = g.D.Disk.view in
    let mid = c.write_images.ensures.moves.honest honest in
    record {
      listed = λ count below. ap (λ block. directory count block) (c.in_ok-write_block.ensures.written mid)
          ∙ c.write_directory.ensures count below;
      images_are = images_from (entries c.args.batch.now) 2 (view c.write_block.new.self).image (λ k below.
          c.write_block.ensures.moves.off mid (2 + k) (λ is. absurd (omega (arith, is)))
          ∙ c.in_ok-write_images.ensures.images honest k below);
    }

pub returns-in_err-write_images-clause-moves : goal.returns-in_err-write_images-clause-moves
returns-in_err-write_images-clause-moves g c = moves_among (λ number is. is) (omega arith) (omega arith)
    (omega arith) c.write_images.ensures.moves

pub returns-in_err-write_block-clause-moves : goal.returns-in_err-write_block-clause-moves
returns-in_err-write_block-clause-moves g c = moves_on (λ number is. is) (λ number at. (omega (arith, at), omega (arith, at))) (omega arith)
    (omega arith) (omega arith) c.write_images.ensures.moves c.write_block.ensures.moves

pub returns-clause-moves : goal.returns-clause-moves
returns-clause-moves g c = moves_on (λ number is. is) (λ number at. (omega (arith, at), omega (arith, at))) (omega arith) (omega arith)
    (omega arith) c.write_images.ensures.moves c.write_block.ensures.moves
