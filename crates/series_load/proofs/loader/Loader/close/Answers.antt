use Rattle.series_load.proofs.SetLemmas.{keeps_none, keeps_set, none_items, set_is_edit, some_items}
use Rattle.series_load.proofs.loader.Loader.close.Goals as goal

pub push-requires : goal.push-requires
push-requires c =
    let values = c.args.self.now.run.values in
    record {
      is_edit = set_is_edit c.in_ok-set.set c.args.self.now.name c.args.self.now.run.time values.items c.in_ok-set.ensures.set
          (some_items values.len values.items c.is_empty.result values.ok.0 c.is_empty.ensures c.if-is_empty.false);
    }

pub returns-then-is_empty-clause-keeps : goal.returns-then-is_empty-clause-keeps
returns-then-is_empty-clause-keeps c = λ waiting old keeps.
    let values = c.args.self.now.run.values in
    keeps_none c.args.self.now.name waiting old c.args.self.now.kept c.args.self.now.run
    (none_items values.len values.items c.is_empty.result values.ok.0 c.is_empty.ensures c.if-is_empty.true) keeps

pub returns-clause-keeps : goal.returns-clause-keeps
returns-clause-keeps c = λ waiting old keeps.
    let loader = c.args.self.now in
    let values = loader.run.values in
    keeps_set loader.name waiting old loader.kept _ loader.run _ c.in_ok-set.set
    (some_items values.len values.items c.is_empty.result values.ok.0 c.is_empty.ensures c.if-is_empty.false) keeps
    c.in_ok-set.ensures.set
    c.in_ok-push.ensures.sets c.in_ok-push.ensures.ats c.clear.ensures.items
