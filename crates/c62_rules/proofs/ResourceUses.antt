-- What an instruction takes, resource by resource.
use Rattle.std.proofs.Common.{arith, ◌≡◌, ℕ, ◌+◌, List, [], ◌∷◌, ◌++◌, map, Option, Some, None, Bool, true, false, cond}
use Rattle.std.proofs.Common.{refl, ap}
use Rattle.std.specs.Prelude.{◌&&◌, count_by}
use Rattle.std.proofs.lemmas.List.Sums.{sum_by-cons, sum_by-append}
use Rattle.c62_op.specs.declared.register.Side.{Side}
use Rattle.c62_op.specs.declared.register.Reg.{Reg}
use Rattle.c62_op.specs.declared.register.Unit.{Unit as FunctionalUnit}
use Rattle.c62_op.specs.Takes.{same_reg, same_side, same_unit}
use Rattle.c62_op.specs.Shape.{crosses_to, data_path_of}
use Rattle.c62_insn.specs.declared.insn.Insn.{Insn}
use Rattle.c62_insn.specs.Insn.{operands_of, operand_reads, reads_count}
use Rattle.c62_rules.specs.declared.resource.Resource.{Resource}
use Rattle.c62_rules.specs.declared.resource.Resource.TheVariants.{OnUnit, CrossPath, DataPath, ReadsOf}
use Rattle.c62_rules.specs.Resource.{cross_path_taken, data_path_taken, same_resource}
use Rattle.c62_rules.specs.Capacity.{uses}

-- ---- what an instruction takes, resource by resource

abbrev count : Resource → List Resource → ℕ
count r taken = count_by (λ t. same_resource t r) taken

abbrev pub one : Bool → ℕ
one test = cond test 1 0

first : (r x : Resource) (rest : List Resource) → count r (x ∷ rest) ≡ one (same_resource x r) + count r rest
first r x rest = sum_by-cons (λ t. one (same_resource t r)) x rest

joined : (r : Resource) (xs ys : List Resource) → count r (xs ++ ys) ≡ count r xs + count r ys
joined r xs ys = sum_by-append (λ t. one (same_resource t r)) xs ys

-- of a resource that is no such, none is among these
no-reads : (r : Resource) (regs : List Reg) → ((reg : Reg) → same_resource (ReadsOf reg) r ≡ false)
    → count r (map ReadsOf regs) ≡ 0
no-reads r [] none = refl
no-reads r (reg ∷ regs) none =
    let here : one (same_resource (ReadsOf reg) r) ≡ 0 = ap one (none reg) in
    omega (arith, first r (ReadsOf reg) (map ReadsOf regs), here, no-reads r regs none)

own-reads : (reg : Reg) (regs : List Reg)
    → count (ReadsOf reg) (map ReadsOf regs) ≡ count_by (λ read. same_reg read reg) regs
own-reads reg [] = refl
own-reads reg (r ∷ regs) =
    omega (
      arith,
      first (ReadsOf reg) (ReadsOf r) (map ReadsOf regs),
      sum_by-cons
          (λ (read : Reg). one (same_reg read reg)) r regs,
      own-reads reg regs,
    )

crossed : (r : Resource) (side : Side) (b : Bool)
    → count r (cross_path_taken side b) ≡ one (b && same_resource (CrossPath side) r)
crossed r side true = omega (arith, first r (CrossPath side) [])
crossed r side false = refl

abbrev pub on_path : Resource → Option Side → ℕ
on_path r None = 0
on_path r (Some side) = one (same_resource (DataPath side) r)

accessed : (r : Resource) (path : Option Side) → count r (data_path_taken path) ≡ on_path r path
accessed r None = refl
accessed r (Some side) = omega (arith, first r (DataPath side) [])

-- all of it
parts : (r : Resource) (insn : Insn) (unit : FunctionalUnit)
    → uses r insn unit ≡ one (same_resource (OnUnit unit) r) + one
    (crosses_to unit.side (operands_of insn) && same_resource (CrossPath unit.side) r)
    + on_path r (data_path_of (operands_of insn)) + count r (map ReadsOf (operand_reads insn))
parts r insn unit =
    let cross = cross_path_taken unit.side (crosses_to unit.side (operands_of insn)) in
    let path = data_path_taken (data_path_of (operands_of insn)) in
    let reads = map ReadsOf (operand_reads insn) in
    omega (
      arith,
      joined r (OnUnit unit ∷ cross ++ path) reads,
      joined r (OnUnit unit ∷ cross) path,
      first r (OnUnit unit) cross,
      crossed r unit.side (crosses_to unit.side (operands_of insn)),
      accessed r (data_path_of (operands_of insn)),
    )

off : (b : Bool) → (b && false) ≡ false
off true = refl
off false = refl

-- the table's rows, in the words of the rules
pub uses-unit : (u : FunctionalUnit) (insn : Insn) (unit : FunctionalUnit)
    → uses (OnUnit u) insn unit ≡ one (same_unit unit u)
uses-unit u insn unit =
    let none = no-reads (OnUnit u) (operand_reads insn) (λ reg. refl) in
    let cross : one (crosses_to unit.side (operands_of insn) && false) ≡ 0 = ap one
    (off (crosses_to unit.side (operands_of insn))) in
    omega (arith, parts (OnUnit u) insn unit, none, cross, no_path (data_path_of (operands_of insn)))
  where
    no_path : (path : Option Side) → on_path (OnUnit u) path ≡ 0
    no_path None = refl
    no_path (Some side) = refl

pub uses-cross : (side : Side) (insn : Insn) (unit : FunctionalUnit)
    → uses (CrossPath side) insn unit ≡ one (crosses_to unit.side (operands_of insn) && same_side unit.side side)
uses-cross side insn unit =
    omega (
      arith,
      parts (CrossPath side) insn unit,
      no-reads (CrossPath side) (operand_reads insn) (λ reg. refl),
      no_path (data_path_of (operands_of insn)),
    )
  where
    no_path : (path : Option Side) → on_path (CrossPath side) path ≡ 0
    no_path None = refl
    no_path (Some other) = refl

pub uses-data : (side : Side) (insn : Insn) (unit : FunctionalUnit)
    → uses (DataPath side) insn unit ≡ on_path (DataPath side) (data_path_of (operands_of insn))
uses-data side insn unit =
    let cross : one (crosses_to unit.side (operands_of insn) && false) ≡ 0 = ap one
    (off (crosses_to unit.side (operands_of insn))) in
    omega (arith, parts (DataPath side) insn unit, no-reads (DataPath side) (operand_reads insn) (λ reg. refl), cross)

pub uses-reads : (reg : Reg) (insn : Insn) (unit : FunctionalUnit) → uses (ReadsOf reg) insn unit ≡ reads_count reg insn
uses-reads reg insn unit =
    let cross : one (crosses_to unit.side (operands_of insn) && false) ≡ 0 = ap one
    (off (crosses_to unit.side (operands_of insn))) in
    omega (
      arith,
      parts (ReadsOf reg) insn unit,
      own-reads reg (operand_reads insn),
      cross,
      no_path
          (data_path_of (operands_of insn)),
    )
  where
    no_path : (path : Option Side) → on_path (ReadsOf reg) path ≡ 0
    no_path None = refl
    no_path (Some side) = refl
