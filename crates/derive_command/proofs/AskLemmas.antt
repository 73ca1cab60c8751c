-- What a request asks for over a book.
use Rattle.std.proofs.Common.{◌≡◌, ℕ, ℤ, ◌<◌, List, length, Result, Err, sym, subst}
use Rattle.series_book.specs.declared.one_series.Series.{Series}
use Rattle.series_catalog.specs.declared.stored_series.StoredSeries.{StoredSeries}
use Rattle.series_pair.specs.Derived.{AreShifted, AreShiftedIn, AreUnlikeIn}
use Rattle.series_store.proofs.AskLemmas.{there}
use Rattle.derive_command.specs.Answers.{AreNamed, AreOnOneGrid, IsRefused}
use Rattle.derive_command.specs.Catalogs.{AreOffGrid, AreOnGrid, HasTwoIn, IsRefusedBy, in_memory}
use Rattle.derive_command.specs.Doing.{AreIdsOf, AreNamedIn, IsViewOf, LacksOne}
use Rattle.derive_command.specs.declared.asked.Asked.{Asked}
use Rattle.derive_command.specs.declared.derive_refusal.DeriveRefusal.{DeriveRefusal}
use Rattle.derive_command.specs.declared.derive_refusal.DeriveRefusal.TheVariants as refusal
use Rattle.derive_command.specs.declared.request.Request.{Request}

-- a series isn't there
pub ids_refused : (book : List Series) (r : Request) (why : DeriveRefusal) → AreIdsOf book r (Err why) → IsRefused book r why
ids_refused book r why is = let P : DeriveRefusal → Type 0 = λ e. IsRefused book r e in subst P (sym is.0) is.1

abbrev not_asked : DeriveRefusal → Result Asked DeriveRefusal
not_asked why = Err why

-- and no other refusal is that
pub view_known : (r : Request) (why : DeriveRefusal) → IsViewOf r (Err why) → not_asked why ≡ not_asked refusal.UnknownSeries → ⊥
view_known r refusal.UnknownSeries is same = is
view_known r refusal.NotOneGrid is same = cc
view_known r refusal.BadWindow is same = cc
view_known r refusal.BadCanvas is same = cc
view_known r refusal.BadRange is same = cc
view_known r refusal.TooLarge is same = cc

-- the window, the canvas or the range is bad
pub view_refused : (book : List Series) (r : Request) (x y : ℕ) (shift : ℤ) → AreNamed book r x y → AreShifted book x y shift
    → (why : DeriveRefusal) → IsViewOf r (Err why) → IsRefused book r why
view_refused book r x y shift named shifted why is = by why is
  where
    one : AreOnOneGrid book r
    one = record { x = x; y = y; named = named; shift = shift; shifted = shifted }

    by : (why : DeriveRefusal) → IsViewOf r (Err why) → IsRefused book r why
    by refusal.UnknownSeries is = absurd is
    by refusal.NotOneGrid is = absurd is
    by refusal.BadWindow is = (one, is)
    by refusal.BadCanvas is = (one, is.0, is.1)
    by refusal.BadRange is = (one, is.0, is.1, is.2, is.3)
    by refusal.TooLarge is = absurd is

-- ---- by the catalog that was read

module _ (catalog : List StoredSeries) (r : Request) (x y : ℕ) (named : AreNamedIn catalog r x y) where
  pub on_grid_in : (d : ℤ) → AreShiftedIn catalog x y d → HasTwoIn AreOnGrid catalog r.first r.second
  on_grid_in d on = record {
    x = x;
    y = y;
    one = on.one;
    other = on.other;
    x_at = on.first;
    y_at = on.second;
    x_named = named.first on.one on.first;
    y_named = named.second on.other on.second;
    so = (d, on.shift);
  }

  pub off_grid_in : x < length catalog → y < length catalog → AreUnlikeIn catalog x y → HasTwoIn AreOffGrid catalog r.first r.second
  off_grid_in first second unlike =
      let one = there catalog x first in
      let other = there catalog y second in
      record {
        x = x;
        y = y;
        one = one.0;
        other = other.0;
        x_at = one.1;
        y_at = other.1;
        x_named = named.first one.0 one.1;
        y_named = named.second other.0 other.1;
        so = λ d shift. unlike d (record { one = one.0; other = other.0; first = one.1; second = other.1; shift = shift });
      }

-- a series isn't there
pub lacks_refused : (catalog : List StoredSeries) (r : Request) (why : DeriveRefusal) → why ≡ refusal.UnknownSeries → LacksOne catalog r
    → IsRefusedBy (in_memory catalog) r why
lacks_refused catalog r why is lacks = let P : DeriveRefusal → Type 0 = λ e. IsRefusedBy (in_memory catalog) r e in subst P (sym is) lacks

-- the window, the canvas or the range is bad
pub view_refused_in : (catalog : List StoredSeries) (r : Request) → HasTwoIn AreOnGrid catalog r.first r.second → (why : DeriveRefusal)
    → IsViewOf r (Err why) → IsRefusedBy (in_memory catalog) r why
view_refused_in catalog r one refusal.UnknownSeries is = absurd is
view_refused_in catalog r one refusal.NotOneGrid is = absurd is
view_refused_in catalog r one refusal.BadWindow is = (one, is)
view_refused_in catalog r one refusal.BadCanvas is = (one, is.0, is.1)
view_refused_in catalog r one refusal.BadRange is = (one, is.0, is.1, is.2, is.3)
view_refused_in catalog r one refusal.TooLarge is = absurd is
