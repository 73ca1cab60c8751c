use Rattle.std.proofs.Common.{◌≡◌, ℕ, ◌-◌, List, ◌++◌, length, replicate, sym, ap, ◌∙◌, arith, append_assoc}
use Rattle.std.proofs.lemmas.Result.{on_ok_weaker}
use Rattle.chart_frames.specs.Format.{number_bytes}
use Rattle.chart_frames.specs.Spelled.{name_before}
use Rattle.chart_frames.proofs.Names.{name_length, name_padded}
use Rattle.chart_frames.proofs.Writing.{step}
use Rattle.chart_frames.proofs.report_encoding.put_name.Goals as goal

pub overflow_cast-name : goal.overflow_cast-name
overflow_cast-name c = let sizes = name_length c.args.name.now c.requires in omega (arith, sizes.1)

pub overflow_sub-name : goal.overflow_sub-name
overflow_sub-name c = let sizes = name_length c.args.name.now c.requires in omega (arith, sizes.1)

pub returns : goal.returns
unfolding name_before
returns c =
    let name = c.args.name.now in
    let i0 = c.args.out.now.items in
    let i1 = c.put_byte.new.out.items in
    let i2 = c.extend_from_slice.new.self.items in
    let i3 = c.put_blank.new.out.items in
    let blank = replicate (31 - length name) 0 in
    let P : Type 0 = i3 ≡ i2 ++ blank in
    let Q : Type 0 = (tail : List ℕ) → i3 ++ tail ≡ i0 ++ name_before name tail in
    let go : P → Q = λ h tail.
    step i3 i2 blank tail h
    ∙ step i2 i1 name (blank ++ tail) c.in_ok-extend_from_slice.ensures.items
    ∙ step i1 i0 (number_bytes 1 (length name)) (name ++ (blank ++ tail)) c.in_ok-put_byte.ensures
    ∙ ap (λ (p : List ℕ). i0 ++ (number_bytes 1 (length name) ++ p)) (sym (append_assoc name blank tail)
    ∙ ap (λ (p : List ℕ). p ++ tail) (sym (name_padded name c.requires))) in
    on_ok_weaker c.put_blank.result go c.put_blank.ensures
