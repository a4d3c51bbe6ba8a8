-- Lines and objects of memory that is printed are of one list of values.
use Rattle.std.proofs.Common.{◌≡◌, ◌∙◌, ℕ, zero, suc, ◌+◌, ◌%◌, ◌^◌, Bool, List, [], ◌∷◌, ◌++◌, refl, sym, ap}
use Rattle.std.specs.List.{flat_map}
use Rattle.std.proofs.lemmas.Grind.{flat_map-append}
use Rattle.c62_op.specs.Word.{sum}
use Rattle.c62_serial.specs.State.{Machine}
use Rattle.c62_command.specs.declared.setting.Setting.{Setting as Given}
use Rattle.c62_command.specs.declared.setting.Setting.TheVariants as given
use Rattle.c62_command.specs.Settings.{bytes_in}
use Rattle.c62_report.specs.Print.{print_lines, value_at}
use Rattle.c62_printing.specs.Printing.{printed as lines_of, prints as all_lines}
use Rattle.c62_json.specs.Document.{array}
use Rattle.c62_json_report.specs.Prints.{printed, prints, values}
use Rattle.c62_json_report.specs.AlikeRows.{TellValues, Value, value_line, value_object}

facts : Machine → (size : ℕ) → (signed : Bool) → (count place : ℕ) → List Value
facts machine size signed zero place = []
facts machine size signed (suc count) place =
    record {
      address = sum machine.base place;
      size = size;
      signed = signed;
      value = value_at machine place size;
    }
    ∷ facts machine size signed count ((place + size) % 2 ^ 32)

lines_told : (machine : Machine) (size : ℕ) (signed : Bool) (count place : ℕ)
    → print_lines machine size signed count place
    ≡ flat_map (value_line machine.base) (facts machine size signed count place)
unfolding print_lines facts
lines_told machine size signed zero place = refl
lines_told machine size signed (suc count) place = rw (lines_told machine size signed count ((place + size) % 2 ^ 32))
    refl

values_told : (machine : Machine) (size : ℕ) (signed : Bool) (count place : ℕ)
    → values machine size signed count place ≡ flat_map value_object (facts machine size signed count place)
unfolding values facts
values_told machine size signed zero place = refl
values_told machine size signed (suc count) place = rw (values_told machine size signed count ((place + size) % 2 ^ 32))
    refl

facts_of : Machine → Given → List Value
facts_of machine (given.Print print) = facts machine (bytes_in print.size) print.signed print.count print.place
facts_of machine _ = []

line_told : (machine : Machine) (setting : Given)
    → lines_of machine setting ≡ flat_map (value_line machine.base) (facts_of machine setting)
unfolding facts_of
line_told machine (given.Print print) = lines_told machine (bytes_in print.size) print.signed print.count print.place
line_told machine (given.Register reg value) = refl
line_told machine (given.Byte place value) = refl
line_told machine (given.Half place value) = refl
line_told machine (given.Word place value) = refl
line_told machine (given.Dump dump) = refl
line_told machine (given.Base base) = refl

value_told : (machine : Machine) (setting : Given)
    → printed machine setting ≡ flat_map value_object (facts_of machine setting)
unfolding facts_of
value_told machine (given.Print print) = values_told machine (bytes_in print.size) print.signed print.count print.place
value_told machine (given.Register reg value) = refl
value_told machine (given.Byte place value) = refl
value_told machine (given.Half place value) = refl
value_told machine (given.Word place value) = refl
value_told machine (given.Dump dump) = refl
value_told machine (given.Base base) = refl

all_facts : Machine → List Given → List Value
all_facts machine settings = flat_map (facts_of machine) settings

-- what each setting tells of its values, all tell of all
whole : {X : Type 0} (machine : Machine) (one : Given → List X) (told : Value → List X)
    → ((setting : Given) → one setting ≡ flat_map told (facts_of machine setting)) → (settings : List Given)
    → flat_map one settings ≡ flat_map told (all_facts machine settings)
unfolding all_facts
whole machine one told each [] = refl
whole machine one told each (setting ∷ settings) =
    ap (λ front. front ++ flat_map one settings) (each setting)
    ∙ ap (λ rest. flat_map told (facts_of machine setting) ++ rest) (whole machine one told each settings)
    ∙ sym (flat_map-append told (facts_of machine setting) (flat_map (facts_of machine) settings))

pub prints_told : (machine : Machine) (settings : List Given)
    → TellValues machine.base (all_lines machine settings) (prints machine settings)
prints_told machine settings = record {
  values = all_facts machine settings;
  lines_are = whole machine (lines_of machine) (value_line machine.base) (line_told machine) settings;
  told_is = ap array (whole machine (printed machine) value_object (value_told machine) settings);
}
