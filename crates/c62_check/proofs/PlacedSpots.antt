-- Where a numbering places instructions, and which packets they are.
use Rattle.std.proofs.Common.{arith, ◌≡◌, ℕ, zero, suc, ◌+◌, ◌<◌, ◌≤◌, List, [], ◌∷◌, length, Option, Some, refl, sym}
use Rattle.std.proofs.Common.{ap, subst, ◌∙◌, inl, inr, Bool, true, false, cond}
use Rattle.std.specs.List.{slice_get}
use Rattle.std.specs.Prelude.{IsTrue, IsSome, find, count_by}
use Rattle.std.specs.Option.{option_map_or}
use Rattle.std.proofs.lemmas.Bool.{cases_Bool}
use Rattle.std.proofs.lemmas.Option.{same_Some, none-some, slice_get_within, get_or_from_slice_get}
use Rattle.std.proofs.lemmas.List.Elements.{All-contains}
use Rattle.std.proofs.lemmas.List.Sums.{sum_by-cons}
use Rattle.c62_op.specs.declared.register.Unit.{Unit as FunctionalUnit}
use Rattle.c62_op.specs.declared.operands.Op.{Op}
use Rattle.c62_op.specs.declared.operands.Operands.{Operands}
use Rattle.c62_op.specs.Shape.{delay_of, is_branch}
use Rattle.c62_op.specs.Takes.{takes}
use Rattle.c62_insn.specs.declared.insn.Insn.{Insn}
use Rattle.c62_insn.specs.Insn.{IsSameInsn, op_of, operands_of, unit_of}
use Rattle.c62_insn.proofs.InsnLemmas.{has_written_unit}
use Rattle.c62_rules.specs.PacketRules.{Issue}
use Rattle.c62_rules.specs.Length.{landing_end, last_landing_end, length_of}
use Rattle.c62_read.specs.declared.block.SerialInsn.{SerialInsn}
use Rattle.c62_packet.specs.declared.placed.Placed.{Placed}
use Rattle.c62_packet.specs.Packed.{Packed, IsPacketBlock, HaveOneBranch, is_branching, issue_of, issues_of}
use Rattle.c62_sheet.specs.declared.entry.Spot.{Spot}
use Rattle.c62_sheet.specs.Lawful.{IsAt, spot_at}
use Rattle.c62_sheet.proofs.Landings.{lands_with_delay}
use Rattle.c62_bound.specs.Bound.{taken_in, is_taken}
use Rattle.c62_check.specs.Matched.{AreSame}
use Rattle.c62_check.specs.Least.{spot_of, spots_of}
use Rattle.c62_check.proofs.OneNumbering.{StandsIn}

-- ---- a numbering's spots

-- what stands there
pub record HasPlace (numbered : List Placed) (i : ℕ) (s : Spot) : Type 0 where
  pub own : Placed
  pub at : slice_get numbered i ≡ Some own
  pub cycle : own.cycle ≡ s.cycle
  pub unit : own.unit ≡ s.unit

pub place_of : (numbered : List Placed) (i : ℕ) (s : Spot) → IsAt (spots_of numbered) i s → HasPlace numbered i s
place_of [] i s is = absurd (none-some s is)
place_of (p ∷ numbered) zero s is =
    let same = same_Some (spot_of p) s is in
    record { own = p; at = refl; cycle = ap (λ (r : Spot). r.cycle) same; unit = ap (λ (r : Spot). r.unit) same }
place_of (p ∷ numbered) (suc i) s is =
    let rest = place_of numbered i s is in
    record { own = rest.own; at = rest.at; cycle = rest.cycle; unit = rest.unit }

pub has_spot : (numbered : List Placed) (i : ℕ) → i < length numbered → IsSome (spot_at (spots_of numbered) i)
has_spot [] i lt = absurd (omega (arith, lt))
has_spot (p ∷ numbered) zero lt = refl
has_spot (p ∷ numbered) (suc i) lt = has_spot numbered i (omega (arith, lt))

pub stands_at : (insns : List SerialInsn) (numbered : List Placed) → AreSame insns numbered → (i : ℕ) (p : Placed)
    → slice_get numbered i ≡ Some p → StandsIn insns i p
stands_at [] [] same i p at = absurd (none-some p at)
stands_at [] (q ∷ numbered) same i p at = absurd same
stands_at (e ∷ insns) [] same i p at = absurd same
stands_at (e ∷ insns) (q ∷ numbered) same zero p at =
    record {
      insn = e.insn;
      at = refl;
      same = subst (λ (r : Placed). IsSameInsn e.insn r.insn) (same_Some q p at) same.0;
    }
stands_at (e ∷ insns) (q ∷ numbered) same (suc i) p at =
    let rest = stands_at insns numbered same.1 i p at in
    record { insn = rest.insn; at = rest.at; same = rest.same }

-- ---- the packets

-- the written unit takes the operands
pub written_takes : (insn : Insn) (unit : FunctionalUnit) → unit_of insn ≡ Some unit
    → takes (op_of insn) (operands_of insn) unit ≡ true
written_takes insn unit written =
    let found = has_written_unit insn in
    elim found.2 [
      | inl none ↦ absurd (none-some unit (sym none ∙ written))
      | inr one ↦ subst (λ (u : FunctionalUnit). takes (op_of insn) (operands_of insn) u ≡ true)
          (same_Some found.0 unit (sym one ∙ written)) found.1
    ]

pub taken_by : (block : List Insn) (i : ℕ) (insn other : Insn) (u v : FunctionalUnit) → slice_get block i ≡ Some insn
    → IsSameInsn insn other → v ≡ u
    → takes (op_of other) (operands_of other) v ≡ true → IsTrue (is_taken block i u)
taken_by block i insn other u v at same unit h =
    subst (λ (o : Option Insn). taken_in o u ≡ true) (sym at)
    (ap (λ (op : Op). takes op (operands_of insn) u) same.op
    ∙ (ap (λ (operands : Operands). takes (op_of other) operands u) same.operands
    ∙ (ap (takes (op_of other) (operands_of other)) (sym unit) ∙ h)))

abbrev branches : Issue → Bool
branches p = is_branch (op_of p.insn)

some_branch : (placed : List Placed) (k : ℕ) (p : Placed) → slice_get placed k ≡ Some p → is_branching p ≡ true
    → 1 ≤ count_by is_branching placed
some_branch [] k p at is = absurd (none-some p at)
some_branch (q ∷ placed) zero p at is =
    let sum = sum_by-cons (λ (r : Placed). cond (is_branching r) 1 0) q placed in
    let own : cond (is_branching q) 1 0 ≡ 1 = ap (λ (t : Bool). cond {A = ℕ} t 1 0) (ap is_branching (same_Some q p at)
    ∙ is) in
    omega (arith, sum, own)
some_branch (q ∷ placed) (suc k) p at is =
    let sum = sum_by-cons (λ (r : Placed). cond (is_branching r) 1 0) q placed in
    let rest = some_branch placed k p at is in
    omega (arith, sum, rest)

-- the only branch is found
one_found : (placed : List Placed) (k : ℕ) (p : Placed) → HaveOneBranch placed → slice_get placed k ≡ Some p
    → is_branching p ≡ true
    → find branches (issues_of placed) ≡ Some (issue_of p)
one_found [] k p few at is = absurd (none-some p at)
one_found (q ∷ placed) k p few at is = go (λ m few there. one_found placed m p few there is) (is_branching q) refl k at
  where
    go : ((m : ℕ) → HaveOneBranch placed → slice_get placed m ≡ Some p
        → find branches (issues_of placed) ≡ Some (issue_of p)) → (t : Bool) → is_branching q ≡ t → (k : ℕ)
        → slice_get (q ∷ placed) k ≡ Some p → find branches (issues_of (q ∷ placed)) ≡ Some (issue_of p)
    go later true e zero at =
        ap (λ (t : Bool). cond {A = Option Issue} t (Some (issue_of q)) (find branches (issues_of placed))) e
        ∙ ap (λ (r : Placed). Some (issue_of r)) (same_Some q p at)
    go later true e (suc k) at =
        let sum = sum_by-cons (λ (r : Placed). cond (is_branching r) 1 0) q placed in
        let own : cond (is_branching q) 1 0 ≡ 1 = ap (λ (t : Bool). cond {A = ℕ} t 1 0) e in
        let rest = some_branch placed k p at is in
        absurd (omega (arith, sum, own, rest, few))
    go later false e zero at = absurd (cc (ap is_branching (same_Some q p at), e, is))
    go later false e (suc k) at =
        let sum = sum_by-cons (λ (r : Placed). cond (is_branching r) 1 0) q placed in
        ap (λ (t : Bool). cond {A = Option Issue} t (Some (issue_of q)) (find branches (issues_of placed))) e
        ∙ later k (omega (arith, sum, few)) at

delay_most : (op : Op) → delay_of op ≤ 5
delay_most op = grind arith

-- each delay ends within the length of a packet block
pub delay_ends : (packed : Packed) → IsPacketBlock packed → (k : ℕ) (p : Placed) → slice_get packed.placed k ≡ Some p
    → p.cycle + delay_of (op_of p.insn) + 1 ≤ packed.cycles
delay_ends packed lawful k p at = elim (cases_Bool (is_branching p)) [
  | inl is ↦
      (let found = one_found packed.placed k p lawful.one_branch at is in
      let end : length_of (issues_of packed.placed) ≡ p.cycle + 6 =
      ap (λ (o : Option Issue). option_map_or (λ (b : Issue). b.cycle + 6) o
      (last_landing_end (issues_of packed.placed))) found in
      let own = lawful.own_length in
      let short = delay_most (op_of p.insn) in
      omega (arith, end, own, short))
  | inr none ↦
      (let within = slice_get_within packed.placed k p at in
      let landed : landing_end (issue_of p) ≤ packed.cycles = All-contains
      (λ (q : Placed). landing_end (issue_of q) ≤ packed.cycles) packed.placed p lawful.drained
      (k, within, get_or_from_slice_get packed.placed k p p at) in
      let delay = lands_with_delay p.insn none in
      omega (arith, landed, delay))
]
