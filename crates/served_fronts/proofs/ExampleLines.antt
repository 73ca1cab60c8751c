-- What the lines of the example are read as.
use Rattle.std.proofs.Common.{◌≡◌, pos, [], ◌∷◌, None, Some, Ok, refl}
use Rattle.std.specs.Prelude.{codes}
use Rattle.request_lines.specs.declared.requests.Request.TheVariants.{Edit, Open, View}
use Rattle.request_lines.specs.Requests.{read_line, create_of, append_of, open_of, view_of, filter_of, value_of}
use Rattle.request_lines.specs.Grammar.{allows, kind_of, first_misfit, ending_fault, fault, fault_of}
use Rattle.request_lines.specs.Ranges.{is_fixed, range_of}
use Rattle.whole_number.specs.Numbers.{is_natural, is_integer, integer_value}
use Rattle.series_book.specs.Names.{is_name_byte, is_name}
use Rattle.series_book.specs.declared.edits.Edit.TheVariants.{Create, Append}
use Rattle.request_lines.specs.declared.ranges.RangeWord.TheVariants.{Fixed}
use Rattle.chart_world.specs.Lines.{lines, split_lines}
use Rattle.chart_service.specs.Serving.{told}
use Rattle.served_fronts.specs.Example.{first_input, second_input}

pub first_lines : told first_input ≡ Some (codes "create A 0 4 0") ∷ Some (codes "append A 0 3") ∷ Some (codes "append A 1") ∷ []
unfolding lines split_lines
first_lines = refl

pub second_lines : told second_input ≡ Some (codes "open 1") ∷ Some (codes "view 1 A 8 4 0 8 0..3") ∷ []
unfolding lines split_lines
second_lines = refl

pub read_open : read_line (codes "open 1") ≡ Ok (Open 1 None)
unfolding read_line open_of allows kind_of ending_fault fault fault_of is_natural
read_open = refl

pub read_create : read_line (codes "create A 0 4 0") ≡ Ok (Edit (Create (codes "A") (pos 0) 4 0))
unfolding read_line create_of allows kind_of ending_fault fault fault_of is_natural is_integer integer_value is_name_byte is_name
read_create = refl

pub read_append : read_line (codes "append A 0 3") ≡ Ok (Edit (Append (codes "A") (Some (pos 0) ∷ Some (pos 3) ∷ [])))
unfolding read_line append_of value_of allows kind_of first_misfit ending_fault fault fault_of is_natural is_integer integer_value
    is_name_byte
    is_name
read_append = refl

pub read_one : read_line (codes "append A 1") ≡ Ok (Edit (Append (codes "A") (Some (pos 1) ∷ [])))
unfolding read_line append_of value_of allows kind_of first_misfit ending_fault fault fault_of is_natural is_integer integer_value
    is_name_byte
    is_name
read_one = refl

pub read_view : read_line (codes "view 1 A 8 4 0 8 0..3") ≡ Ok (View 1 (codes "A") 8 4 (pos 0) (pos 8) (Fixed (pos 0) (pos 3)) None)
unfolding read_line view_of filter_of allows kind_of ending_fault fault fault_of is_natural is_integer integer_value is_name_byte is_name
    is_fixed range_of
read_view = refl
