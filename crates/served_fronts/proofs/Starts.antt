-- A store begins sound.
use Rattle.std.proofs.Common.{ℕ, List, [], arith}
use Rattle.std.proofs.lemmas.List.Elements.{All-nil}
use Rattle.block_disk.specs.View.{Image}
use Rattle.series_book.specs.declared.one_series.Series.{Series}
use Rattle.series_book.specs.Books.{IsBook}
use Rattle.coefficient_cache.specs.Caches.{IsCapacity}
use Rattle.zoom_session.specs.declared.session.Session.{Session}
use Rattle.chart_service.specs.State.{IsSound, HasViewOf}
use Rattle.chart_service.specs.Stepping.{state_of}
use Rattle.stored_book.specs.Standing.{RecoversTo}

sound : (total : ℕ) (book : List Series) → IsBook book → IsSound (state_of book total [])
sound total book is = record {
  book = is;
  sessions = record {
    distinct = λ i j d low within. absurd (omega (arith, within));
    few = omega arith;
    sizes = All-nil (λ (s : Session). IsCapacity s.cache.capacity);
  };
  views = All-nil (λ (s : Session). HasViewOf book s.last);
}

pub begin_sound : (count total : ℕ) (image : Image) (book : List Series) → RecoversTo count image total book
    → IsSound (state_of book total [])
begin_sound count total image book recovers = sound total book recovers.stands.store.is_book
