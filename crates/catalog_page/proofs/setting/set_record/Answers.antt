use Rattle.std.proofs.Common.{◌≡◌, ◌∙◌, ◌+◌, ◌*◌, ℕ, List, ap, sym, subst, arith}
use Rattle.node_page.specs.Fields.{with_bytes}
use Rattle.catalog_page.specs.Entries.{IsEntry, entry_of, entry_in}
use Rattle.catalog_page.specs.Layout.{IsRecord}
use Rattle.catalog_page.proofs.Spelled.{entry_told}
use Rattle.catalog_page.proofs.Fit.{spelled_record}
use Rattle.catalog_page.proofs.Pages.{IsSet, below_next, set_whole, set_rest, set_itself, set_others, set_keeps}
use Rattle.catalog_page.proofs.setting.set_record.Goals as goal

pub returns : goal.returns
returns c =
    let number = c.args.number in
    let e = entry_of c.args.series.now in
    let part = c.spelling.result in
    let old = c.args.bytes.now in
    let new = c.put.new.bytes in
    let place : 8 + 96 * c.from.result ≡ 8 + 96 * number = omega (arith, c.from.ensures) in
    let is : IsSet number part old new = record {
      small = c.requires.number;
      whole = c.requires.whole;
      size = c.spelling.ensures.whole;
      set = c.put.ensures ∙ ap (λ (n : ℕ). with_bytes old n part) place;
    } in
    let keeps_rules : (fresh : ℕ) → IsEntry fresh e → IsRecord fresh part =
    λ fresh fits. spelled_record fresh e part fits c.requires.rooted c.spelling.ensures in
    let itself = set_itself number part old new is in
    record {
      whole = set_whole number part old new is;
      entry = ap entry_in itself ∙ entry_told e part c.requires.rooted c.spelling.ensures;
      others = set_others number part old new is;
      rest = set_rest number part old new is;
      set = λ fresh fits. subst (λ (l : List ℕ). IsRecord fresh l) (sym itself) (keeps_rules fresh fits);
      kept = λ count fresh within few fits keeps.
          set_keeps number count count fresh part old new is (keeps_rules fresh fits) within few (omega arith) (λ i low other. low) keeps;
      added = λ fresh fits keeps.
          set_keeps number number (number + 1) fresh part old new is (keeps_rules fresh fits) (omega arith)
          (omega (arith, c.requires.number)) (omega arith) (λ i low other. below_next i number low other) keeps;
    }
