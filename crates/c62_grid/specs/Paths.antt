-- The columns of the cross paths and the data paths (docs/SHOW.md, "The grid"; docs/MACHINE.md, "Packet rules").
use Rattle.std.specs.Prelude.{ℕ, max, ◌==◌, Bool, List, [], ◌∷◌, ◌++◌, codes, decimal, find, count_by, Option, Some, None}
use Rattle.std.specs.List.{flat_map, list_any}
use Rattle.c62_op.specs.declared.register.Side.TheVariants.{A, B}
use Rattle.c62_insn.specs.Spelling.{side_digit}
use Rattle.c62_rules.specs.declared.resource.Resource.{Resource}
use Rattle.c62_rules.specs.declared.resource.Resource.TheVariants.{OnUnit, CrossPath, DataPath, ReadsOf}
use Rattle.c62_rules.specs.Resource.{place_of, taken_by}
use Rattle.c62_packet.specs.declared.placed.Placed.{Placed}
use Rattle.c62_grid.specs.declared.widths.Widths.{Widths}
use Rattle.c62_grid.specs.Words.{right}
use Rattle.c62_grid.specs.Share.{share}

-- 1X 2X T1 T2
abbrev pub all_paths : List Resource
all_paths = CrossPath A ∷ CrossPath B ∷ DataPath A ∷ DataPath B ∷ []

-- 1X is the cross path to the units of side A. Nothing but paths has a column here.
abbrev pub path_name : Resource → List ℕ
path_name (CrossPath side) = side_digit side ++ codes "X"
path_name (DataPath side) = codes "T" ++ side_digit side
path_name (OnUnit _) = []
path_name (ReadsOf _) = []

-- a line finds room, and `100%`
abbrev pub path_width : Widths → ℕ
path_width widths = max widths.line 4

unfoldable pub path_word : Widths → List ℕ → List ℕ
path_word widths word = codes " " ++ right (path_width widths) word

abbrev pub path_names : Widths → List ℕ
path_names widths = flat_map (λ path. path_word widths (path_name path)) all_paths

-- an instruction takes a path of its cycle
abbrev pub takes : Resource → Placed → Bool
takes path p = list_any (λ each. place_of each == place_of path) (taken_by p.insn p.unit)

-- the line of what takes a path, or a point
abbrev pub path_cell : Widths → Option Placed → List ℕ
path_cell widths None = path_word widths (codes ".")
path_cell widths (Some p) = path_word widths (decimal p.line)

-- what of a packet takes each path
abbrev pub path_cells : Widths → List Placed → List ℕ
path_cells widths issued = flat_map (λ path. path_cell widths (find (takes path) issued)) all_paths

-- in how many of 100 cycles a path is taken, and each path
abbrev pub path_use : Widths → ℕ → List Placed → Resource → List ℕ
path_use widths cycles placed path = path_word widths (share (count_by (takes path) placed) cycles)

abbrev pub path_uses : Widths → ℕ → List Placed → List ℕ
path_uses widths cycles placed = flat_map (path_use widths cycles placed) all_paths
