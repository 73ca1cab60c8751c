use Rattle.std.proofs.Common.{sym, ◌∙◌}
use Rattle.chart_service.proofs.Keeping.{state_sound}
use Rattle.chart_service.proofs.service.Service.is_sound.Goals as goal

pub returns-clause-state : goal.returns-clause-state
returns-clause-state g c = λ total book fit told stands.
    state_sound _ book total c.args.self.now.sessions stands.store.is_book (sym c.len-count.ensures.count
    ∙ c.len-count.ensures.books total book fit told stands) c.is_open-open.ensures.valid c.args.self.now.views
