-- What lands behind the cycle of its issue (docs/SHOW.md, "What lands"; SPRU189, "Delay Slots").
use Rattle.std.specs.Prelude.{ℕ, ◌+◌, ◌-◌, ◌==◌, List, [], ◌∷◌, ◌++◌, codes, decimal, if◌then◌else◌}
use Rattle.std.specs.List.{flat_map, range_with_len}
use Rattle.c62_op.specs.declared.register.Reg.{Reg}
use Rattle.c62_op.specs.Name.{register_name}
use Rattle.c62_op.specs.Shape.{delay_of}
use Rattle.c62_insn.specs.Insn.{op_of, register_writes}
use Rattle.c62_packet.specs.declared.placed.Placed.{Placed}
use Rattle.c62_packet.specs.Packed.{is_branching}
use Rattle.c62_grid.specs.declared.landing.Landing.{Landing}
use Rattle.c62_grid.specs.declared.landing.Landed.{Landed}
use Rattle.c62_grid.specs.declared.landing.Landed.TheVariants.{Register, Branch}

-- a write that is issued in this cycle lands so many cycles later, and is told where these are one or more
abbrev pub delayed : ℕ → Reg × ℕ → List Landing
delayed cycle write = if write.1 == 0 then [] else record { what = Register write.0; cycle = cycle + write.1 } ∷ []

-- the last of the delay slots of a branch
abbrev pub branch_landing : Placed → Landing
branch_landing p = record { what = Branch; cycle = p.cycle + delay_of (op_of p.insn) }

-- what lands of an instruction behind the cycle of its issue
unfoldable pub landings_by : Placed → List Landing
landings_by p = flat_map (delayed p.cycle) (register_writes p.insn) ++ (if is_branching p then branch_landing p ∷ [] else [])

-- of a block's instructions, by issue
abbrev pub landings_of : List Placed → List Landing
landings_of placed = flat_map landings_by placed

-- a landing, where it is in this cycle
abbrev pub landed_at : ℕ → Landing → List Landing
landed_at cycle landing = if landing.cycle == cycle then landing ∷ [] else []

-- those that land from one cycle on and before another, by cycle and in a cycle by issue
abbrev pub landed_between : List Landing → ℕ → ℕ → List Landing
landed_between landings first next = flat_map (λ cycle. flat_map (landed_at cycle) landings) (range_with_len first (next - first))

-- `A5`, or `branch`
abbrev pub landed_name : Landed → List ℕ
landed_name (Register reg) = register_name reg
landed_name Branch = codes "branch"

-- `A5 in 4`
unfoldable pub landing_words : Landing → List ℕ
landing_words landing = landed_name landing.what ++ codes " in " ++ decimal landing.cycle

-- `, landing: A5 in 4, branch in 6`, where anything lands
abbrev pub landing_list : List Landing → List ℕ
landing_list [] = []
landing_list (first ∷ others) = codes ", landing: " ++ landing_words first ++ flat_map (λ other. codes ", " ++ landing_words other) others

-- what lands in the cycle of a row
abbrev pub landed_in_row : ℕ → Landing → List ℕ
landed_in_row cycle landing = if landing.cycle == cycle then codes " " ++ landed_name landing.what else []
