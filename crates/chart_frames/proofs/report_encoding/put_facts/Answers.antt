use Rattle.std.proofs.Common.{◌≡◌, ℕ, List, ◌++◌, ◌∙◌, rules}
use Rattle.std.specs.Prelude.{FitsSigned}
use Rattle.std.specs.Int.{w64}
use Rattle.std.proofs.lemmas.Result.{on_ok_weaker}
use Rattle.chart_frames.specs.Format.{number_bytes}
use Rattle.chart_frames.specs.Spelled.{signed_bytes, two_before, facts_before}
use Rattle.chart_frames.proofs.Writing.{coded, step, signed_step, two_step}
use Rattle.chart_frames.proofs.report_encoding.put_facts.Goals as goal

pub returns : goal.returns
unfolding facts_before
returns c =
    let v = c.args.s.now in
    let i0 = c.args.out.now.items in
    let i1 = c.put_byte.new.out.items in
    let i2 = c.put_signed.new.out.items in
    let i3 = c.put_word.new.out.items in
    let i4 = c.put_long.new.out.items in
    let i5 = c.put_byte-2.new.out.items in
    let i6 = c.put_two.new.out.items in
    let fits_start : FitsSigned w64 v.start = search rules in
    let fits_rmin : FitsSigned w64 v.rmin = search rules in
    let fits_rmax : FitsSigned w64 v.rmax = search rules in
    let P : Type 0 = (rest : List ℕ) → i6 ++ rest ≡ i5 ++ two_before (coded v.rmin) (coded v.rmax) rest in
    let Q : Type 0 = (tail : List ℕ) → i6 ++ tail ≡ i0 ++ facts_before v.scale v.start v.step v.slots v.has v.rmin v.rmax tail in
    let go : P → Q = λ h tail.
    two_step i6 i5 v.rmin v.rmax tail fits_rmin fits_rmax h
    ∙ step i5 i4 (number_bytes 1 v.has) (two_before v.rmin v.rmax tail) c.in_ok-put_byte-2.ensures
    ∙ step i4 i3 (number_bytes 8 v.slots) (number_bytes 1 v.has ++ two_before v.rmin v.rmax tail) c.in_ok-put_long.ensures
    ∙ step i3 i2 (number_bytes 4 v.step) (number_bytes 8 v.slots ++ (number_bytes 1 v.has ++ two_before v.rmin v.rmax tail))
    c.in_ok-put_word.ensures
    ∙ signed_step i2 i1 v.start (number_bytes 4 v.step ++ (number_bytes 8
    v.slots ++ (number_bytes 1 v.has ++ two_before v.rmin v.rmax tail))) fits_start c.in_ok-put_signed.ensures
    ∙ step i1 i0 (number_bytes 1 v.scale) (signed_bytes
    v.start ++ (number_bytes 4 v.step ++ (number_bytes 8 v.slots ++ (number_bytes 1 v.has ++ two_before v.rmin v.rmax tail))))
    c.in_ok-put_byte.ensures in
    on_ok_weaker c.put_two.result go c.put_two.ensures
