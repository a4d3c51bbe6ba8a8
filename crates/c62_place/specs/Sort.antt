-- What sorts of tokens there are, where the grammar tells them apart (docs/SERIAL_TEXT.md, "Grammar").
use Rattle.std.specs.Prelude.{Bool, true, false, List, map, codes}
use Rattle.c62_token.specs.declared.kind.Kind.{Kind}
use Rattle.c62_token.specs.declared.kind.Kind.TheVariants as kind
use Rattle.c62_token.specs.Kind.{Word, kind_of, read_in}
use Rattle.c62_token.specs.Number.{is_label, spells}
use Rattle.c62_place.specs.declared.sort.Sort.{Sort}
use Rattle.c62_place.specs.declared.sort.Sort.TheVariants.{Comma, Star, Open, Close, Not, Plus, Minus, Increment, Decrement, Register, Number, Label, Colon, Other}
use Rattle.c62_op.specs.declared.set.InstructionSet.{InstructionSet}

-- a name is a label where it may be one, and else it may be a colon
abbrev pub name_sort : Bool → Bool → Sort
name_sort true colon = Label
name_sort false true = Colon
name_sort false false = Other

abbrev pub sort_by : Kind → Sort → Sort
sort_by kind.Comma name = Comma
sort_by kind.Star name = Star
sort_by kind.Open name = Open
sort_by kind.Close name = Close
sort_by kind.Not name = Not
sort_by kind.Plus name = Plus
sort_by kind.Minus name = Minus
sort_by kind.Increment name = Increment
sort_by kind.Decrement name = Decrement
sort_by (kind.Register reg) name = Register
sort_by (kind.Number k) name = Number
sort_by _ name = name

unfoldable pub sort_of : InstructionSet → Word → Sort
sort_of isa word = sort_by (read_in isa (kind_of word)) (name_sort (is_label word) (spells (codes ":") word))

abbrev pub sorts_of : InstructionSet → List Word → List Sort
sorts_of isa words = map (sort_of isa) words

abbrev pub same_sort : Sort → Sort → Bool
same_sort Comma Comma = true
same_sort Star Star = true
same_sort Open Open = true
same_sort Close Close = true
same_sort Not Not = true
same_sort Plus Plus = true
same_sort Minus Minus = true
same_sort Increment Increment = true
same_sort Decrement Decrement = true
same_sort Register Register = true
same_sort Number Number = true
same_sort Label Label = true
same_sort Colon Colon = true
same_sort Other Other = true
same_sort _ _ = false
