use Rattle.std.proofs.Common.{ℤ, ◌≡◌, inl, refl, arith, w64, subst}
use Rattle.std.proofs.lemmas.Int.{to_z-of_z}
use Rattle.std.specs.Prelude.{None}
use Rattle.filter_scan.specs.Taken.{IsSlotRow, row_of}
use Rattle.filter_scan.proofs.ShareLaws.{slot_shown}
use Rattle.filter_scan.proofs.TableLaws.{shown_more}
use Rattle.filter_scan.proofs.walking.fill_slot.Goals as goal

pub returns-in-Some-clause-shown : goal.returns-in-Some-clause-shown
returns-in-Some-clause-shown c =
    let P : ℤ → Type 0 = λ z. c.in-Some.row ≡ row_of c.in-Some.row.column z in
    shown_more c.in-Some.row.column c.args.table.now c.add_row.new.table c.in-Some.row
    (omega (arith, c.requires.sized, c.in-Some.ensures.2))
    (slot_shown c.in-Some.row c.args.value (subst P (to_z-of_z w64 c.args.value c.ranges.value) c.in-Some.ensures.1) c.requires.value)
    c.add_row.ensures

pub returns-in_default-clause-slot : goal.returns-in_default-clause-slot
returns-in_default-clause-slot c =
    let P : ℤ → Type 0 = λ z. IsSlotRow c.args.scan.now c.args.filter.now c.args.slot z None in
    inl (subst P (to_z-of_z w64 c.args.value c.ranges.value) c.in_default.ensures, refl)
