-- What a table tells of the blocks of a run, its document tells, and the other way round (docs/JSON.md, "The profile"), and the same
-- of values that are printed ("Prints").
use Rattle.std.specs.Prelude.{◌≡◌, ℕ, ◌==◌, Bool, List, [], ◌∷◌, ◌++◌, decimal, codes, Option, if◌then◌else◌}
use Rattle.std.specs.List.{flat_map}
use Rattle.json.specs.Token.{Token, key}
use Rattle.c62_report.specs.Report.{hex, line}
use Rattle.c62_report.specs.Print.{value_text}
use Rattle.c62_profile.specs.Table.{name, percent}
use Rattle.c62_json.specs.Document.{array, count, object}
use Rattle.c62_json_report.specs.Prints.{value_of}
use Rattle.c62_json_report.specs.Profile.{label}

-- ---- blocks

-- a block, how often it was run, what a run takes, what all took, and how many thousandths these are of the whole
pub record Row : Type 0 where
  pub number : ℕ
  pub label : Option (List ℕ)
  pub runs : ℕ
  pub each : ℕ
  pub sum : ℕ
  pub share : ℕ

-- `LOOP 100 8 800 98.5%`
abbrev pub row_line : Row → List ℕ
row_line row =
    name row.number row.label ++ codes " " ++ decimal row.runs ++ codes " " ++ decimal row.each ++ codes " " ++ decimal row.sum
    ++ codes " " ++ percent row.share ++ codes "\n"

-- and its object, where a run of a block takes this
abbrev pub row_object : (taken : List ℕ) → Row → List Token
row_object taken row =
    object (
    key (codes "block") ∷ count row.number
    ∷ key (codes "label") ∷ label row.label
    ∷ key (codes "runs") ∷ count row.runs
    ∷ key taken ∷ count row.each
    ∷ key (codes "sum") ∷ count row.sum
    ∷ key (codes "thousandths") ∷ count row.share ∷ [])

-- the table has a heading with what a run of a block takes, and both have the same rows
pub record TellRows (taken table : List ℕ) (told : List Token) : Type 0 where
  pub rows : List Row
  pub table_is : table ≡ (codes "block runs " ++ taken ++ codes " sum share\n") ++ flat_map row_line rows
  pub told_is : told ≡ array (flat_map (row_object taken) rows)

-- ---- blocks of rows in flight

-- how often the first row was begun, the cycles of all, and how many thousandths these are of the whole
pub record Counted : Type 0 where
  pub runs : ℕ
  pub cycles : ℕ
  pub share : ℕ

-- a block by its first row and its label
pub record FlightRow : Type 0 where
  pub first : ℕ
  pub label : Option (List ℕ)
  pub counted : Counted

abbrev pub counted_text : Counted → List ℕ
counted_text counted =
    codes " " ++ decimal counted.runs ++ codes " " ++ decimal counted.cycles ++ codes " " ++ percent counted.share ++ codes "\n"

-- `L 11 11 55.0%`
abbrev pub flight_line : FlightRow → List ℕ
flight_line row = name row.first row.label ++ counted_text row.counted

abbrev pub counted_members : Counted → List Token
counted_members counted =
    key (codes "runs") ∷ count counted.runs
    ∷ key (codes "cycles") ∷ count counted.cycles
    ∷ key (codes "thousandths") ∷ count counted.share ∷ []

abbrev pub flight_object : FlightRow → List Token
flight_object row =
    object (key (codes "row") ∷ count row.first ∷ key (codes "label") ∷ label row.label ∷ counted_members row.counted)

-- both have the same rows, and the same behind the last
pub record TellFlight (table : List ℕ) (told : List Token) : Type 0 where
  pub rows : List FlightRow
  pub behind : Counted
  pub table_is : table ≡ codes "block runs cycles share\n" ++ flat_map flight_line rows ++ (codes "end" ++ counted_text behind)
  pub told_is : told
      ≡ object ((key (codes "rows") ∷ array (flat_map flight_object rows)) ++ (key (codes "end") ∷ object (counted_members behind)))

-- ---- values

-- a value of so many bytes at an address, with its sign or without one
pub record Value : Type 0 where
  pub address : ℕ
  pub size : ℕ
  pub signed : Bool
  pub value : ℕ

-- `print 0300 0dac`; addresses have four digits where memory begins at 0, else eight
abbrev pub value_line : (base : ℕ) → Value → List ℕ
value_line base value =
    line (codes "print " ++ hex (if base == 0 then 4 else 8) value.address ++ codes " " ++ value_text value.size value.signed value.value)

abbrev pub value_object : Value → List Token
value_object value =
    object (
    key (codes "address") ∷ count value.address
    ∷ key (codes "size") ∷ count value.size
    ∷ key (codes "value") ∷ value_of value.size value.signed value.value ∷ [])

-- both have the same values
pub record TellValues (base : ℕ) (lines : List ℕ) (told : List Token) : Type 0 where
  pub values : List Value
  pub lines_are : lines ≡ flat_map (value_line base) values
  pub told_is : told ≡ array (flat_map value_object values)
