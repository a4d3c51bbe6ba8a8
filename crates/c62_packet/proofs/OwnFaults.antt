-- The first fault that one instruction makes beside others.
use Rattle.std.proofs.Common.{arith, ◌≡◌, ℕ, suc, ◌+◌, ◌<◌, List, [], ◌∷◌, ◌++◌, length, Option, Some, None, Bool, true}
use Rattle.std.proofs.Common.{false, refl, sym, ◌∙◌, subst, inl, inr}
use Rattle.std.specs.Prelude.{if◌then◌else◌, find, option_map, Contains, All, MatchOption}
use Rattle.std.proofs.lemmas.Bool.{false≢true}
use Rattle.std.proofs.lemmas.Option.{same_Some, none-some}
use Rattle.std.proofs.lemmas.List.Elements.{All-nil, All-cons, All-contains, All-weaker}
use Rattle.c62_op.specs.declared.register.Reg.{Reg}
use Rattle.c62_op.specs.declared.operands.Op.{Op}
use Rattle.c62_op.specs.declared.operands.Op.TheVariants.{Ldb, Ldbu, Ldh, Ldhu, Ldw}
use Rattle.c62_op.specs.declared.operands.Operands.{Operands}
use Rattle.c62_op.specs.declared.operands.Operands.TheVariants.{Three, ConstantFirst, ConstantSecond, Two, Field}
use Rattle.c62_op.specs.declared.operands.Operands.TheVariants.{Constant, Access, Block, Register}
use Rattle.c62_op.specs.Shape.{is_load, delay_of, changes_base, writes_of}
use Rattle.c62_insn.specs.Insn.{op_of, operands_of, register_writes}
use Rattle.c62_rules.specs.declared.resource.CycleRule.{CycleRule}
use Rattle.c62_rules.specs.Capacity.{AreEnough, IsKept as IsKeptIn, IsFirstBroken}
use Rattle.c62_rules.proofs.Places.{rank-few}
use Rattle.c62_row.specs.declared.row.Row.{Row}
use Rattle.c62_row.specs.declared.row.Uses.{Uses}
use Rattle.c62_row.specs.Row.{AreUses}
use Rattle.c62_row.specs.Issued.{IsRowOf}
use Rattle.c62_row.proofs.Deciding.{decides-cons}
use Rattle.c62_packet.specs.declared.placed.Placed.{Placed}
use Rattle.c62_packet.specs.declared.fault.PacketRule.{PacketRule}
use Rattle.c62_packet.specs.declared.fault.PacketRule.TheVariants.{InCycle, P5}
use Rattle.c62_packet.specs.Packed.{issue_of, issued}
use Rattle.c62_packet.specs.Fault.{rank_of, IsBefore}
use Rattle.c62_packet.specs.Clash.{is_met, landing_beside, broken_by, IsBrokenBeside}
unfoldable use Rattle.c62_packet.proofs.FirstFaults.{Suits, FirstOf}

-- ---- what one instruction breaks

early : (whole : List Placed) (rule : PacketRule) (c : ℕ) (p : Placed) (xs : List Placed) → c < p.cycle
    → Suits whole rule c p xs
unfolding Suits
early whole (InCycle rule) c p xs lt = λ e. absurd (omega (arith, lt, e))
early whole P5 c p xs lt = λ k d within e. absurd (omega (arith, lt, e))

-- the rule that its row tells
told_first : (whole : List Placed) (rule : CycleRule) (p : Placed) (xs : List Placed)
    → IsFirstBroken rule p.cycle (issued (p ∷ xs))
    → FirstOf (λ other c. Suits whole other c p xs) (Some (p.cycle, InCycle rule))
unfolding FirstOf Suits
told_first whole rule p xs first = (
  λ suits. (let few = suits refl first.broken.resource first.broken.of_rule in omega (arith, few, first.broken.over)),
  λ c other is. elim is [
    | inl lower ↦ early whole other c p xs lower
    | inr same ↦ before other c same.1
  ],
)
  where
    before : (other : PacketRule) (c : ℕ) → rank_of other < rank_of (InCycle rule) → Suits whole other c p xs
    before (InCycle other) c lt = λ here. subst (λ (n : ℕ). IsKeptIn other n (issued (p ∷ xs))) here
        (first.first other lt)
    before P5 c lt = absurd (omega (arith, lt, rank-few rule))

-- the delays of the writes rise
Rise : List (Reg × ℕ) → Type 0
Rise [] = Unit {0}
Rise (write ∷ writes) = All (λ next. write.1 < next.1) writes × Rise writes

load_later : (op : Op) → is_load op ≡ true → 0 < delay_of op
load_later Ldb h = omega arith
load_later Ldbu h = omega arith
load_later Ldh h = omega arith
load_later Ldhu h = omega arith
load_later Ldw h = omega arith
load_later _ h = cc

rise_one : (write : Reg × ℕ) → Rise (write ∷ [])
unfolding Rise
rise_one write = (All-nil (λ (next : Reg × ℕ). write.1 < next.1), tt)

rise_access : (changes load : Bool) (base reg : Reg) (delay : ℕ) → (load ≡ true → 0 < delay)
    → Rise ((if changes then (base, 0) ∷ [] else []) ++ (if load then (reg, delay) ∷ [] else []))
unfolding Rise
rise_access true true base reg delay later = (
  All-cons (λ (next : Reg × ℕ). 0 < next.1) (reg, delay) [] (later refl) (All-nil (λ (next : Reg × ℕ). 0 < next.1)),
  rise_one (reg, delay),
)
rise_access true false base reg delay later = rise_one (base, 0)
rise_access false true base reg delay later = rise_one (reg, delay)
rise_access false false base reg delay later = tt

rise : (op : Op) (operands : Operands) → Rise (writes_of op operands)
unfolding Rise
rise op (Three _ _ d) = rise_one (d, delay_of op)
rise op (ConstantFirst _ _ d) = rise_one (d, delay_of op)
rise op (ConstantSecond _ _ d) = rise_one (d, delay_of op)
rise op (Two _ d) = rise_one (d, delay_of op)
rise op (Field _ _ _ d) = rise_one (d, delay_of op)
rise op (Constant _ d) = rise_one (d, delay_of op)
rise op (Access reg base form _) = rise_access (changes_base form) (is_load op) base reg (delay_of op) (load_later op)
rise op (Block _) = tt
rise op (Register _) = tt

-- a write that passes is the first that does, so those of less delay fail
record IsFound (test : Reg × ℕ → Bool) (writes : List (Reg × ℕ)) (write : Reg × ℕ) : Type 0 where
  pub passes : test write ≡ true
  pub is : Contains writes write
  pub less : All (λ other. other.1 < write.1 → test other ≡ false) writes

find_found : (test : Reg × ℕ → Bool) (writes : List (Reg × ℕ)) (write : Reg × ℕ) → Rise writes
    → find test writes ≡ Some write → IsFound test writes write
unfolding Rise
find_found test [] write rises e = absurd (none-some write e)
find_found test (first ∷ writes) write rises e = by_first (test first) refl
    (λ rest. find_found test writes write rises.1 rest)
  where
    by_first : (b : Bool) → test first ≡ b → (find test writes ≡ Some write → IsFound test writes write)
        → IsFound test (first ∷ writes) write
    by_first true h later =
        let same : first ≡ write = same_Some first write (rw h at e) in
        let above : All (λ other. first.1 < other.1) writes = rises.0 in
        subst (IsFound test (first ∷ writes)) same (record {
          passes = h;
          is = (0, omega arith, refl);
          less = All-cons (λ other. other.1 < first.1
              → test other ≡ false) first writes (λ lt. absurd (omega (arith, lt)))
              (All-weaker (λ other. first.1 < other.1) (λ other. other.1 < first.1
              → test other ≡ false) (λ other lt gt. absurd (omega (arith, lt, gt))) writes above);
        })
    by_first false h later =
        let found : IsFound test writes write = later (rw h at e) in
        record {
          passes = found.passes;
          is = (suc found.is.0, (let low : found.is.0 < length writes = found.is.1 in omega arith), found.is.2);
          less = All-cons (λ other. other.1 < write.1 → test other ≡ false) first writes (λ lt. h) found.less;
        }

none_found : (test : Reg × ℕ → Bool) (writes : List (Reg × ℕ)) → find test writes ≡ None
    → All (λ other. test other ≡ false) writes
none_found test [] e = All-nil (λ other. test other ≡ false)
none_found test (first ∷ writes) e = by_first (test first) refl (λ rest. none_found test writes rest)
  where
    by_first : (b : Bool) → test first ≡ b → (find test writes ≡ None → All (λ other. test other ≡ false) writes)
        → All (λ other. test other ≡ false) (first ∷ writes)
    by_first true h later = absurd (none-some first (sym (rw h at e)))
    by_first false h later = All-cons (λ other. test other ≡ false) first writes h (later (rw h at e))

-- the landing that is met first, where of all resources there is enough
landing_first : (whole : List Placed) (p : Placed) (xs : List Placed) (o : Option (Reg × ℕ))
    → find (is_met whole p xs) (register_writes p.insn) ≡ o
    → AreEnough p.cycle (issued (p ∷ xs))
    → FirstOf (λ rule c. Suits whole rule c p xs)
    (option_map (λ cycle. (cycle, P5)) (option_map (λ write. p.cycle + write.1) o))
unfolding FirstOf Suits
landing_first whole p xs None e enough = all
  where
    all : (rule : PacketRule) (c : ℕ) → Suits whole rule c p xs
    all (InCycle rule) c = λ here. subst (λ (n : ℕ). IsKeptIn rule n (issued (p ∷ xs))) here (λ r is. enough r)
    all P5 c = All-weaker (λ (write : Reg × ℕ). is_met whole p xs write ≡ false) (λ (write : Reg
        × ℕ). p.cycle + write.1 ≡ c → is_met whole p xs write ≡ false)
        (λ write fails h. fails) (register_writes p.insn) (none_found (is_met whole p xs) (register_writes p.insn) e)
landing_first whole p xs (Some write) e enough = (fails, before)
  where
    found : IsFound (is_met whole p xs) (register_writes p.insn) write
    found = find_found (is_met whole p xs) (register_writes p.insn) write (rise (op_of p.insn) (operands_of p.insn)) e

    fails : Suits whole P5 (p.cycle + write.1) p xs → ⊥
    fails suits =
        let alone : is_met whole p xs write ≡ false
        = All-contains (λ (other : Reg × ℕ). p.cycle + other.1 ≡ p.cycle + write.1
        → is_met whole p xs other ≡ false) (register_writes p.insn) write suits found.is refl in
        false≢true (sym alone ∙ found.passes)

    in_cycle : (rule : CycleRule) (c : ℕ) → Suits whole (InCycle rule) c p xs
    in_cycle rule c = λ here. subst (λ (n : ℕ). IsKeptIn rule n (issued (p ∷ xs))) here (λ r is. enough r)

    below : (rule : PacketRule) (c : ℕ) → c < p.cycle + write.1 → Suits whole rule c p xs
    below (InCycle rule) c lt = in_cycle rule c
    below P5 c lt = All-weaker (λ (other : Reg × ℕ). other.1 < write.1
        → is_met whole p xs other ≡ false) (λ (other : Reg × ℕ). p.cycle + other.1 ≡ c
        → is_met whole p xs other ≡ false)
        (λ other less h. less (omega (arith, lt, h))) (register_writes p.insn) found.less

    at : (rule : PacketRule) (c : ℕ) → rank_of rule < rank_of P5 → Suits whole rule c p xs
    at (InCycle rule) c lt = in_cycle rule c
    at P5 c lt = absurd (omega (arith, lt))

    before : (cycle : ℕ) (rule : PacketRule) → IsBefore cycle rule (p.cycle + write.1) P5 → Suits whole rule cycle p xs
    before cycle rule is = elim is [
      | inl lower ↦ below rule cycle lower
      | inr same ↦ at rule cycle same.1
    ]

pub first_beside : (row : Row) (own : Uses) (whole : List Placed) (p : Placed) (xs : List Placed) (found : Option (ℕ
    × PacketRule)) → IsRowOf row p.cycle (issued xs)
    → AreUses own p.insn p.unit → IsBrokenBeside row own whole p xs found
    → FirstOf (λ rule c. Suits whole rule c p xs) found
first_beside row own whole p xs found is are beside =
    subst (FirstOf (λ rule c. Suits whole rule c p xs)) (sym beside.is)
    (by_told beside.told (decides-cons row own beside.told (issued xs) (issue_of p) is are beside.tells))
  where
    by_told : (told : Option CycleRule)
        → MatchOption told (AreEnough p.cycle (issued (p ∷ xs))) (λ rule. IsFirstBroken rule p.cycle (issued (p ∷ xs)))
        → FirstOf (λ rule c. Suits whole rule c p xs) (broken_by p.cycle told (landing_beside whole p xs))
    by_told None enough = landing_first whole p xs (find (is_met whole p xs) (register_writes p.insn)) refl enough
    by_told (Some rule) first = told_first whole rule p xs first
