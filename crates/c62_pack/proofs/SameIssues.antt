-- The packet rules and a block's length don't ask which unit is written in an instruction.
use Rattle.std.proofs.Common.{arith, ◌≡◌, ℕ, zero, suc, ◌+◌, ◌≤◌, List, [], ◌∷◌, ◌++◌, map, Option, Some, None, refl}
use Rattle.std.proofs.Common.{sym, ap, ◌∙◌, Bool, true, false, cond, subst, max, inl, inr}
use Rattle.std.specs.Prelude.{sum_by, count_by, find, IsTrue, if◌then◌else◌, ◌==◌}
use Rattle.std.specs.Option.{option_map_or}
use Rattle.std.proofs.lemmas.Option.{none-some, same_Some}
use Rattle.std.proofs.lemmas.List.Sums.{sum_by-cons}
use Rattle.c62_op.specs.declared.register.Reg.{Reg}
use Rattle.c62_op.specs.declared.register.Unit.{Unit as FunctionalUnit}
use Rattle.c62_op.specs.declared.operands.Op.{Op}
use Rattle.c62_op.specs.declared.operands.Operands.{Operands}
use Rattle.c62_op.specs.Shape.{crosses_to, data_path_of, reads_of, writes_of, is_branch}
use Rattle.c62_insn.specs.Insn.{op_of, operands_of, cond_of, register_writes, greatest_delay}
use Rattle.c62_rules.specs.declared.resource.Resource.{Resource}
use Rattle.c62_rules.specs.declared.resource.Resource.TheVariants.{OnUnit, ReadsOf}
use Rattle.c62_rules.specs.Resource.{cross_path_taken, data_path_taken, taken_by, same_resource}
use Rattle.c62_rules.specs.Capacity.{uses_in, used}
use Rattle.c62_rules.specs.PacketRules.{Issue, Issues, IsIssued, LandsIn, MayLandTogether, KeepsPacketRules}
use Rattle.c62_rules.specs.Length.{landing_end, last_landing_end, length_of}

-- the same issue, whichever unit is written
pub record IsSameIssue (p q : Issue) : Type 0 where
  pub op : op_of p.insn ≡ op_of q.insn
  pub operands : operands_of p.insn ≡ operands_of q.insn
  pub cond : cond_of p.insn ≡ cond_of q.insn
  pub cycle : p.cycle ≡ q.cycle
  pub unit : p.unit ≡ q.unit

abbrev pub AreSameOptions : Option Issue → Option Issue → Type 0
AreSameOptions None None = Unit {0}
AreSameOptions (Some p) (Some q) = IsSameIssue p q
AreSameOptions _ _ = ⊥

abbrev pub AreSame : Issues → Issues → Type 0
AreSame [] [] = Unit {0}
AreSame (p ∷ ps) (q ∷ qs) = AreSameOptions p q × AreSame ps qs
AreSame _ _ = ⊥

-- what is issued under a number in the one is in the other
pub record IsMirrored (ps : Issues) (i : ℕ) (q : Issue) : Type 0 where
  pub other : Issue
  pub issued : IsIssued ps i other
  pub same : IsSameIssue other q

of_options : (p q : Option Issue) (r : Issue) → AreSameOptions p q → q ≡ Some r → (s : Issue) × (p ≡ Some s)
    × IsSameIssue s r
of_options None None r same e = absurd (none-some r e)
of_options None (Some q) r same e = absurd same
of_options (Some s) None r same e = absurd same
of_options (Some s) (Some q) r same e = (s, refl, subst (λ (t : Issue). IsSameIssue s t) (same_Some q r e) same)

pub mirrored : (ps qs : Issues) (i : ℕ) (q : Issue) → AreSame ps qs → IsIssued qs i q → IsMirrored ps i q
mirrored [] [] i q same e = absurd (none-some q e)
mirrored [] (r ∷ qs) i q same e = absurd same
mirrored (p ∷ ps) [] i q same e = absurd same
mirrored (p ∷ ps) (r ∷ qs) zero q same e = let found = of_options p r q same.0 e in record
    { other = found.0; issued = found.1; same = found.2 }
mirrored (p ∷ ps) (r ∷ qs) (suc i) q same e =
    let found = mirrored ps qs i q same.1 e in record { other = found.other; issued = found.issued; same = found.same }

-- ---- the rules

-- what an instruction takes, of its operation and operands
abbrev taken_of : Op → Operands → FunctionalUnit → List Resource
taken_of op operands unit =
    OnUnit unit ∷ [] ++ cross_path_taken unit.side (crosses_to unit.side operands) ++ data_path_taken
    (data_path_of operands) ++ map ReadsOf (reads_of op operands)

takes_same : (p q : Issue) → IsSameIssue p q → taken_by p.insn p.unit ≡ taken_by q.insn q.unit
takes_same p q same =
    ap (taken_of (op_of p.insn) (operands_of p.insn)) same.unit
    ∙ (ap (λ (op : Op). taken_of op (operands_of p.insn) q.unit) same.op
    ∙ ap (λ (o : Operands). taken_of (op_of q.insn) o q.unit) same.operands)

uses_same : (cycle : ℕ) (r : Resource) (p q : Option Issue) → AreSameOptions p q → uses_in cycle r p ≡ uses_in cycle r q
uses_same cycle r None None same = refl
uses_same cycle r None (Some q) same = absurd same
uses_same cycle r (Some p) None same = absurd same
uses_same cycle r (Some p) (Some q) same =
    ap (λ (k : ℕ). if k == cycle then count_by (λ taken. same_resource taken r) (taken_by p.insn p.unit) else 0)
    same.cycle
    ∙ ap (λ (taken : List Resource). if q.cycle == cycle then count_by (λ t. same_resource t r) taken else 0)
    (takes_same p q same)

sum_same : (cycle : ℕ) (r : Resource) (ps qs : Issues) → AreSame ps qs → used r cycle ps ≡ used r cycle qs
sum_same cycle r [] [] same = refl
sum_same cycle r [] (q ∷ qs) same = absurd same
sum_same cycle r (p ∷ ps) [] same = absurd same
sum_same cycle r (p ∷ ps) (q ∷ qs) same =
    let head = uses_same cycle r p q same.0 in
    let tail = sum_same cycle r ps qs same.1 in
    omega (arith, sum_by-cons (uses_in cycle r) p ps, sum_by-cons (uses_in cycle r) q qs)

pub writes_same : (p q : Issue) → IsSameIssue p q → register_writes p.insn ≡ register_writes q.insn
writes_same p q same = ap (λ (op : Op). writes_of op (operands_of p.insn)) same.op
    ∙ ap (λ (o : Operands). writes_of (op_of q.insn) o) same.operands

lands_same : (reg : Reg) (cycle : ℕ) (p q : Issue) → IsSameIssue p q → LandsIn q reg cycle → LandsIn p reg cycle
lands_same reg cycle p q same (delay, contains, e) = (
  delay,
  subst (λ (ws : List (Reg × ℕ)). Rattle.std.specs.Prelude.Contains ws (reg, delay)) (sym (writes_same p q same))
      contains,
  ap (λ (k : ℕ). k + delay) same.cycle ∙ e,
)

-- two that may land together may do so whichever units are written
may_same : (ps qs : Issues) → AreSame ps qs → (a b p q : Issue) → IsSameIssue a p → IsSameIssue b q
    → MayLandTogether ps a b → MayLandTogether qs p q
may_same ps qs same a b p q first second may = record {
  one = may.one;
  other = may.other;
  is_one = sym first.cond ∙ may.is_one;
  is_other = sym second.cond ∙ may.is_other;
  same = may.same;
  opposite = may.opposite;
  stays = λ k r t at lands.
      let m = mirrored ps qs k r same at in
      let both = may.stays k m.other t m.issued (lands_same may.one.reg t m.other r m.same lands) in (
        (λ le. subst (λ (n : ℕ). n ≤ t) second.cycle (both.0 (subst (λ (n : ℕ). n ≤ t) (sym first.cycle) le))),
        (λ le. subst (λ (n : ℕ). n ≤ t) first.cycle (both.1 (subst (λ (n : ℕ). n ≤ t) (sym second.cycle) le))),
      );
}

pub rules_same : (ps qs : Issues) → AreSame ps qs → KeepsPacketRules ps → KeepsPacketRules qs
rules_same ps qs same rules = record {
  enough = λ cycle r. omega (arith, sum_same cycle r ps qs same, rules.enough cycle r);
  landing = λ i j p q reg cycle h k lands theirs.
      let a = mirrored ps qs i p same h in
      let b = mirrored ps qs j q same k in
      elim (rules.landing i j a.other b.other reg cycle a.issued b.issued (lands_same reg cycle a.other p a.same lands)
      (lands_same reg cycle b.other q b.same theirs)) [
        | inl same_number ↦ inl same_number
        | inr may ↦ inr (may_same ps qs same a.other b.other p q a.same b.same may)
      ];
}

-- ---- the length

abbrev pub AreSameIssued : List Issue → List Issue → Type 0
AreSameIssued [] [] = Unit {0}
AreSameIssued (p ∷ ps) (q ∷ qs) = IsSameIssue p q × AreSameIssued ps qs
AreSameIssued _ _ = ⊥

pub end_same : (p q : Issue) → IsSameIssue p q → landing_end p ≡ landing_end q
end_same p q same = let e = ap greatest_delay (writes_same p q same) in let c = same.cycle in omega arith

last_same : (ps qs : List Issue) → AreSameIssued ps qs → last_landing_end ps ≡ last_landing_end qs
last_same [] [] same = refl
last_same [] (q ∷ qs) same = absurd same
last_same (p ∷ ps) [] same = absurd same
last_same (p ∷ ps) (q ∷ qs) same = ap (λ (n : ℕ). max n (last_landing_end ps)) (end_same p q same.0)
    ∙ ap (λ (n : ℕ). max (landing_end q) n) (last_same ps qs same.1)

found_same : (ps qs : List Issue) (d e : ℕ) → AreSameIssued ps qs → d ≡ e
    → option_map_or (λ (p : Issue). p.cycle + 6) (find (λ (p : Issue). is_branch (op_of p.insn)) ps) d
    ≡ option_map_or (λ (p : Issue). p.cycle + 6) (find (λ (p : Issue). is_branch (op_of p.insn)) qs) e
found_same [] [] d e same same_end = same_end
found_same [] (q ∷ qs) d e same same_end = absurd same
found_same (p ∷ ps) [] d e same same_end = absurd same
found_same (p ∷ ps) (q ∷ qs) d e same same_end =
    let later = found_same ps qs d e same.1 same_end in
    let g : Option Issue → ℕ → ℕ = λ o n. option_map_or (λ (r : Issue). r.cycle + 6) o n in
    let f : Issue → Bool = λ r. is_branch (op_of r.insn) in
    subst (λ (b : Bool). g (cond (f p) (Some p) (find f ps)) d ≡ g (cond b (Some q) (find f qs)) e)
    (ap is_branch same.0.op)
    (elim (f p) as (λ (b : Bool). g (cond b (Some p) (find f ps)) d ≡ g (cond b (Some q) (find f qs)) e) [
      | true ↦ ap (λ (n : ℕ). n + 6) same.0.cycle
      | false ↦ later
    ])

pub length_same : (ps qs : List Issue) → AreSameIssued ps qs → length_of ps ≡ length_of qs
length_same ps qs same = found_same ps qs (last_landing_end ps) (last_landing_end qs) same (last_same ps qs same)
