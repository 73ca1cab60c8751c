use Rattle.std.proofs.Common.{◌≡◌, ℕ, List, ◌++◌, ◌∙◌, rules}
use Rattle.std.specs.Prelude.{FitsSigned}
use Rattle.std.specs.Int.{w64}
use Rattle.std.proofs.lemmas.Result.{on_ok_weaker}
use Rattle.chart_frames.specs.Format.{number_bytes}
use Rattle.chart_frames.specs.Spelled.{two_before, place_before}
use Rattle.chart_frames.proofs.Writing.{coded, step, two_step}
use Rattle.chart_frames.proofs.encoding.put_place.Goals as goal

pub returns : goal.returns
unfolding place_before
returns c =
    let v = c.args.v.now in
    let i0 = c.args.out.now.items in
    let i1 = c.put_word.new.out.items in
    let i2 = c.put_short.new.out.items in
    let i3 = c.put_short-2.new.out.items in
    let i4 = c.put_short-3.new.out.items in
    let i5 = c.put_two.new.out.items in
    let fits_t0 : FitsSigned w64 v.t0 = search rules in
    let fits_t1 : FitsSigned w64 v.t1 = search rules in
    let P : Type 0 = (rest : List ℕ) → i5 ++ rest ≡ i4 ++ two_before (coded v.t0) (coded v.t1) rest in
    let Q : Type 0 = (tail : List ℕ) → i5 ++ tail ≡ i0 ++ place_before v tail in
    let go : P → Q = λ h tail.
    two_step i5 i4 v.t0 v.t1 (tail) fits_t0 fits_t1 h
    ∙ step i4 i3 (number_bytes 2 v.h) (two_before v.t0 v.t1 (tail)) c.in_ok-put_short-3.ensures
    ∙ step i3 i2 (number_bytes 2 v.w) (number_bytes 2 v.h ++ (two_before v.t0 v.t1 (tail))) c.in_ok-put_short-2.ensures
    ∙ step i2 i1 (number_bytes 2 v.series) (number_bytes 2 v.w ++ (number_bytes 2 v.h ++ (two_before v.t0 v.t1 (tail))))
    c.in_ok-put_short.ensures
    ∙ step i1 i0 (number_bytes 4 v.session) (number_bytes 2
    v.series ++ (number_bytes 2 v.w ++ (number_bytes 2 v.h ++ (two_before v.t0 v.t1 (tail))))) c.in_ok-put_word.ensures in
    on_ok_weaker c.put_two.result go c.put_two.ensures
