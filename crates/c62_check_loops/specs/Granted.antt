-- What is promised of the trips of loops (docs/CHECK.md, "The command").
use Rattle.std.specs.Prelude.{ℕ, zero, suc, ◌+◌, ◌&&◌, ◌||◌, not, nat_le, Bool, false, List, length, slice_get, Option, Some, None, option_map}
use Rattle.std.specs.List.{list_any, position}
use Rattle.std.specs.Str.{bytes_eq}
use Rattle.clap.specs.Words.{Text}
use Rattle.c62_read.specs.Block.{Serial}
use Rattle.c62_read.specs.Program.{label_is}
use Rattle.c62_check_loops.specs.Covered.{is_loop}

-- so many trips are promised of the loop of this label: as many, or more
abbrev pub is_granted_by : (label : Text) → (least : ℕ) → Text × ℕ → Bool
is_granted_by label least trips = bytes_eq trips.0 label && nat_le least trips.1

abbrev pub is_granted : List (Text × ℕ) → (label : Text) → (least : ℕ) → Bool
is_granted all label least = list_any (is_granted_by label least) all

-- As many trips of the loop of this label are sure: where the text sets its counter to a constant, that counts, and else what is promised.
abbrev pub is_enough : List (Text × ℕ) → (label : Text) → (constant : Option ℕ) → (least : ℕ) → Bool
is_enough all label None least = is_granted all label least
is_enough all label (Some trips) least = nat_le least trips

abbrev pub has_label : Option Serial → Text → Bool
has_label None label = false
has_label (Some block) label = label_is label block.label

-- the block of this number is a loop of this label
abbrev pub is_loop_named : List Serial → Text → ℕ → Bool
is_loop_named blocks label number = is_loop blocks number && has_label (slice_get blocks number) label

-- one of so many first blocks is
abbrev pub names_loop : List Serial → Text → ℕ → Bool
names_loop blocks label zero = false
names_loop blocks label (suc number) = names_loop blocks label number || is_loop_named blocks label number

-- the number, from 1, of the first of these promises whose label is that of no loop
abbrev pub first_loopless : List Serial → List (Text × ℕ) → Option ℕ
first_loopless blocks all = option_map (λ k. k + 1) (position (λ trips. not (names_loop blocks trips.0 (length blocks))) all)
