-- Memory that settings ask to print (docs/JSON.md, "Prints").
use Rattle.std.specs.Prelude.{ℕ, zero, suc, ◌+◌, ◌%◌, ◌^◌, Bool, List, [], ◌∷◌, ◌++◌, codes, if◌then◌else◌}
use Rattle.std.specs.Fmt.{signed_decimal}
use Rattle.std.specs.List.{flat_map}
use Rattle.json.specs.Token.{Token, key, number}
use Rattle.c62_op.specs.Word.{sum}
use Rattle.c62_serial.specs.State.{Machine}
use Rattle.c62_command.specs.declared.setting.Setting.{Setting as Given}
use Rattle.c62_command.specs.declared.setting.Setting.TheVariants as given
use Rattle.c62_command.specs.Settings.{bytes_in}
use Rattle.c62_report.specs.Print.{signed_value, value_at}
use Rattle.c62_json.specs.Document.{array, count, object}

-- the low bytes of a value, so many of them, with their sign or without one
abbrev pub value_of : (size : ℕ) → (signed : Bool) → ℕ → Token
value_of size signed value = if signed then number (signed_decimal (signed_value size value)) else count value

-- where a value lies, and how many bytes it has
abbrev pub placed : Machine → (size place : ℕ) → List Token
placed machine size place = key (codes "address") ∷ count (sum machine.base place) ∷ key (codes "size") ∷ count size ∷ []

-- a value in memory, by its address
abbrev pub value : Machine → (size : ℕ) → (signed : Bool) → ℕ → List Token
value machine size signed place =
    object (placed machine size place ++ key (codes "value") ∷ value_of size signed (value_at machine place size) ∷ [])

-- so many values, one behind the other from a place on
unfoldable pub values : Machine → (size : ℕ) → (signed : Bool) → (count place : ℕ) → List Token
values machine size signed zero place = []
values machine size signed (suc count) place =
    value machine size signed place ++ values machine size signed count ((place + size) % 2 ^ 32)

-- those that a setting asks for
abbrev pub printed : Machine → Given → List Token
printed machine (given.Print print) = values machine (bytes_in print.size) print.signed print.count print.place
printed machine _ = []

-- those of all settings, in their order
abbrev pub prints : Machine → List Given → List Token
prints machine settings = array (flat_map (printed machine) settings)
