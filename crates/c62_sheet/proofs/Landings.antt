-- All that is lawfully placed has landed when its length ends, each instruction by its own delay.
use Rattle.std.proofs.Common.{arith, ◌≡◌, ℕ, zero, suc, ◌+◌, ◌<◌, ◌≤◌, List, [], ◌∷◌, ◌++◌, length, Option, Some, None}
use Rattle.std.proofs.Common.{refl, sym, ap, ◌∙◌, inl, inr, Bool, true, false, cond}
use Rattle.std.specs.Prelude.{slice_get, find, IsTrue, pos, ◌-ℤ◌}
use Rattle.std.specs.Option.{option_map_or}
use Rattle.std.proofs.lemmas.Bool.{cases_eq, cases_Bool}
use Rattle.std.proofs.lemmas.Int.{ints}
use Rattle.std.proofs.lemmas.Option.{none-some, same_Some, slice_get_cases}
use Rattle.c62_op.specs.declared.register.Reg.{Reg}
use Rattle.c62_op.specs.declared.register.Unit.{Unit as FunctionalUnit}
use Rattle.c62_op.specs.declared.operands.Op.{Op}
use Rattle.c62_op.specs.declared.operands.Op.TheVariants.{B as Branch, Stb, Sth, Stw}
use Rattle.c62_op.specs.declared.operands.AddressForm.{AddressForm}
use Rattle.c62_op.specs.declared.operands.Offset.{Offset}
use Rattle.c62_op.specs.declared.operands.Operands.{Operands}
use Rattle.c62_op.specs.declared.operands.Operands.TheVariants.{Three, ConstantFirst, ConstantSecond, Two, Field}
use Rattle.c62_op.specs.declared.operands.Operands.TheVariants.{Constant, Access, Block, Register}
use Rattle.c62_op.specs.Takes.{takes}
use Rattle.c62_insn.specs.declared.insn.Insn.{Insn}
use Rattle.c62_op.specs.Shape.{delay_of, is_branch, is_load, changes_base, writes_of}
use Rattle.c62_insn.specs.Insn.{op_of, operands_of, register_writes, greatest_delay}
use Rattle.c62_rules.specs.PacketRules.{Issue, Issues, IsIssued, issued}
use Rattle.c62_rules.specs.Dependence.{Bounds, BeforeBranch}
use Rattle.c62_rules.specs.Length.{landing_end, last_landing_end}
use Rattle.c62_insn.proofs.InsnLemmas.{has_unit}
use Rattle.c62_depend.specs.Plan.{IsPlan}
use Rattle.c62_sheet.specs.declared.entry.Spot.{Spot}
use Rattle.c62_sheet.specs.Lawful.{Spots, IsAt, spot_at, issue_at, issues, IsLawful}
use Rattle.c62_sheet.specs.Counts.{set_length}
use Rattle.c62_sheet.proofs.IssuesOf.{issued-placement, placement-issued}

-- ---- what an instruction writes

delay_most : (op : Op) → delay_of op ≤ 5
delay_most op = grind arith

-- an access that loads nothing has no delay
no_load : (op : Op) (reg base : Reg) (form : AddressForm) (offset : Offset) (u : FunctionalUnit)
    → takes op (Access reg base form offset) u ≡ true
    → is_load op ≡ false → delay_of op ≡ 0
no_load Stb reg base form offset u h e = refl
no_load Sth reg base form offset u h e = refl
no_load Stw reg base form offset u h e = refl
no_load _ reg base form offset u h e = cc

greatest_behind : (writes more : List (Reg × ℕ)) → greatest_delay more ≤ greatest_delay (writes ++ more)
greatest_behind [] more = omega arith
greatest_behind (w ∷ writes) more = let rest = greatest_behind writes more in omega (arith, rest)

to_branch : (op : Op) (number : ℕ) (u : FunctionalUnit) → takes op (Block number) u ≡ true → is_branch op ≡ true
to_branch Branch number u h = refl
to_branch _ number u h = cc

to_register : (op : Op) (target : Reg) (u : FunctionalUnit) → takes op (Register target) u ≡ true → is_branch op ≡ true
to_register Branch target u h = refl
to_register _ target u h = cc

written_last : (op : Op) (operands : Operands) (u : FunctionalUnit) → takes op operands u ≡ true → is_branch op ≡ false
    → delay_of op ≤ greatest_delay (writes_of op operands)
written_last op (Three a b d) u h e = omega arith
written_last op (ConstantFirst k a d) u h e = omega arith
written_last op (ConstantSecond a k d) u h e = omega arith
written_last op (Two a d) u h e = omega arith
written_last op (Field a k m d) u h e = omega arith
written_last op (Constant k d) u h e = omega arith
written_last op (Access reg base form offset) u h e =
    elim (cases_Bool (is_load op)) [
      | inl loads ↦
          let own : delay_of op ≤ greatest_delay (cond (is_load op) ((reg, delay_of op) ∷ []) []) = rw loads
          (omega arith) in
          let behind = greatest_behind (cond (changes_base form) ((base, 0) ∷ []) [])
          (cond (is_load op) ((reg, delay_of op) ∷ []) []) in
          omega (arith, own, behind)
      | inr none ↦ omega (arith, no_load op reg base form offset u h none)
    ]
written_last op (Block number) u h e = absurd (cc (to_branch op number u h, e))
written_last op (Register target) u h e = absurd (cc (to_register op target u h, e))

-- what is no branch writes with its delay, or has none
pub lands_with_delay : (insn : Insn) → is_branch (op_of insn) ≡ false
    → delay_of (op_of insn) ≤ greatest_delay (register_writes insn)
lands_with_delay insn e = let found = has_unit insn in written_last (op_of insn) (operands_of insn) found.0 found.1 e

-- ---- what is issued

abbrev pub branches : Issue → Bool
branches p = is_branch (op_of p.insn)

lands_last : (issues : Issues) (k : ℕ) (p : Issue) → IsIssued issues k p
    → landing_end p ≤ last_landing_end (issued issues)
lands_last [] k p is = absurd (none-some p is)
lands_last (None ∷ issues) zero p is = absurd (none-some p is)
lands_last (None ∷ issues) (suc k) p is = lands_last issues k p is
lands_last (Some q ∷ issues) zero p is =
    let own : landing_end q ≡ landing_end p = ap landing_end (same_Some q p is) in omega (arith, own)
lands_last (Some q ∷ issues) (suc k) p is = let later = lands_last issues k p is in omega (arith, later)

-- a branch that is issued under some number
pub record IsBranchAt (issues : Issues) (b : Issue) : Type 0 where
  pub number : ℕ
  pub at : IsIssued issues number b
  pub branching : IsTrue (branches b)

later_branch : (first : Option Issue) (issues : Issues) (b : Issue) → IsBranchAt issues b
    → IsBranchAt (first ∷ issues) b
later_branch first issues b w = record { number = suc w.number; at = w.at; branching = w.branching }

pub found_branch : (issues : Issues) (b : Issue) → find branches (issued issues) ≡ Some b → IsBranchAt issues b
found_branch [] b found = absurd (none-some b found)
found_branch (None ∷ issues) b found = later_branch None issues b (found_branch issues b found)
found_branch (Some q ∷ issues) b found = go (λ rest. found_branch issues b rest) (branches q) refl
  where
    go : (find branches (issued issues) ≡ Some b → IsBranchAt issues b) → (t : Bool) → branches q ≡ t
        → IsBranchAt (Some q ∷ issues) b
    go later true e =
        let same : q ≡ b = same_Some q b
        (sym (ap (λ (t : Bool). cond {A = Option Issue} t (Some q) (find branches (issued issues))) e)
        ∙ found) in
        record { number = 0; at = ap (λ (r : Issue). Some r) same; branching = sym (ap branches same) ∙ e }
    go later false e =
        let rest : find branches (issued issues) ≡ Some b = sym
        (ap (λ (t : Bool). cond {A = Option Issue} t (Some q) (find branches (issued issues))) e) ∙ found in
        later_branch (Some q) issues b (later rest)

-- where none is found, what is issued is none
no_branch : (issues : Issues) (k : ℕ) (p : Issue) → find branches (issued issues) ≡ None → IsIssued issues k p
    → branches p ≡ false
no_branch [] k p none is = absurd (none-some p is)
no_branch (None ∷ issues) zero p none is = absurd (none-some p is)
no_branch (None ∷ issues) (suc k) p none is = no_branch issues k p none is
no_branch (Some q ∷ issues) k p none is = go (λ k rest at. no_branch issues k p rest at) (branches q) refl k is
  where
    go : ((k : ℕ) → find branches (issued issues) ≡ None → IsIssued issues k p → branches p ≡ false)
        → (t : Bool) → branches q ≡ t → (k : ℕ) → IsIssued (Some q ∷ issues) k p → branches p ≡ false
    go later true e k is =
        absurd (none-some q (sym none
        ∙ ap (λ (t : Bool). cond {A = Option Issue} t (Some q) (find branches (issued issues))) e))
    go later false e zero is = sym (ap branches (same_Some q p is)) ∙ e
    go later false e (suc k) is =
        later k (sym (ap (λ (t : Bool). cond {A = Option Issue} t (Some q) (find branches (issued issues))) e)
        ∙ none) is

-- ---- what is placed

module _ (block : List Insn) (set : Spots) (plan : IsPlan block) (lawful : IsLawful block set) where
  -- what stands before the branch has landed when that takes effect
  before_branch : (i k : ℕ) (insn branch : Insn) (s t : Spot) → i < k → slice_get block i ≡ Some insn
      → slice_get block k ≡ Some branch
      → IsTrue (is_branch (op_of branch)) → IsAt set i s → IsAt set k t
      → s.cycle + delay_of (op_of insn) + 1 ≤ t.cycle + 6
  before_branch i k insn branch s t lt at_i at_k branching is_i is_k =
      let bounds : Bounds block i k (pos (delay_of (op_of insn)) -ℤ pos 5) = record {
        first = insn;
        second = branch;
        is_first = at_i;
        is_second = at_k;
        before = lt;
        applies = BeforeBranch branching refl;
      } in
      let kept = lawful.delays i k (pos (delay_of (op_of insn)) -ℤ pos 5) s t bounds is_i is_k in
      omega (arith, ints, kept)

  lands_by : (b : Issue) (w : IsBranchAt (issues block set) b) (i : ℕ) (insn : Insn) (s : Spot)
      → slice_get block i ≡ Some insn → IsAt set i s
      → s.cycle + delay_of (op_of insn) + 1 ≤ b.cycle + 6
  lands_by b w i insn s at is =
      let q = issued-placement block set w.number b lawful.sized w.at in
      let cycle : b.cycle ≡ q.spot.cycle = ap (λ (p : Issue). p.cycle) q.is_issue in
      let branching : IsTrue (is_branch (op_of q.insn)) = sym (ap (λ (p : Issue). branches p) q.is_issue)
      ∙ w.branching in
      let last = plan.branch w.number q.insn q.is_insn branching in
      let inside : i < length block = elim ((slice_get_cases block i).1)
      [ inl v ↦ v.1 | inr v ↦ absurd (none-some insn (sym v.1 ∙ at)) ] in
      elim (cases_eq i w.number) [
        | inl e ↦
            (let same : s ≡ q.spot = same_Some s q.spot (sym is ∙ (ap (λ (k : ℕ). spot_at set k) e ∙ q.is_at)) in
            let c : s.cycle ≡ q.spot.cycle = ap (λ (r : Spot). r.cycle) same in
            let short = delay_most (op_of insn) in
            omega (arith, c, cycle, short))
        | inr ne ↦
            (let h = before_branch i w.number insn q.insn s q.spot (omega (arith, ne, inside, last)) at q.is_insn
            branching is q.is_at in
            omega (arith, h, cycle))
      ]

  by_found : (found : Option Issue) → find branches (issued (issues block set)) ≡ found
      → (i : ℕ) (insn : Insn) (s : Spot) → slice_get block i ≡ Some insn → IsAt set i s
      → s.cycle + delay_of (op_of insn) + 1 ≤ option_map_or (λ (b : Issue). b.cycle + 6) found
      (last_landing_end (issued (issues block set)))
  by_found None e i insn s at is =
      let at_i = placement-issued block set i insn s lawful.sized at is in
      let landed = lands_last (issues block set) i (issue_at insn s) at_i in
      let delay = lands_with_delay insn (no_branch (issues block set) i (issue_at insn s) e at_i) in
      omega (arith, landed, delay)
  by_found (Some b) e i insn s at is = lands_by b (found_branch (issues block set) b e) i insn s at is

  -- the delay of each instruction ends within the length
  pub delay_ends : (i : ℕ) (insn : Insn) (s : Spot) → slice_get block i ≡ Some insn → IsAt set i s
      → s.cycle + delay_of (op_of insn) + 1 ≤ set_length block set
  delay_ends i insn s at is = by_found (find branches (issued (issues block set))) refl i insn s at is
