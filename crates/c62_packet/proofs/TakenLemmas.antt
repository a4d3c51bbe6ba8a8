-- What is taken by one more instruction, and as an earlier cycle sees it.
use Rattle.std.proofs.Common.{arith, ◌≡◌, ℕ, ◌+◌, ◌-◌, ◌<◌, ◌≤◌, List, [], ◌∷◌, get_or, Bool, true, false, refl, sym}
use Rattle.std.proofs.Common.{ap, ◌∙◌, subst, inl, inr}
use Rattle.std.specs.Prelude.{◌==◌, ◌||◌, nat_lt, All}
use Rattle.std.specs.List.{list_any}
use Rattle.std.proofs.lemmas.Bool.{cases_lt}
use Rattle.std.proofs.lemmas.Bool.Decides.{nat_tests}
use Rattle.std.proofs.lemmas.Nat.Bits.{bit_at-zero}
use Rattle.std.proofs.lemmas.List.{get_or_default}
use Rattle.std.proofs.lemmas.List.Elements.{All-nil, All-cons, All-contains, All-weaker}
use Rattle.std.proofs.lemmas.List.Folds.{list_any_none}
use Rattle.c62_op.specs.declared.register.Reg.{Reg}
use Rattle.c62_op.specs.Register.{register_index}
use Rattle.c62_insn.specs.declared.insn.Insn.{Insn}
use Rattle.c62_insn.specs.Insn.{register_writes}
use Rattle.c62_insn.proofs.InsnLemmas.{writes_delay}
use Rattle.c62_rules.specs.PacketRules.{Issue, IsIssued}
use Rattle.c62_row.specs.declared.row.Uses.{Uses}
use Rattle.c62_row.specs.Row.{AreUses, IsUnused, IsWith}
use Rattle.c62_row.specs.Issued.{IsRowOf}
use Rattle.c62_row.proofs.Deciding.{row_is_empty, row_of_cons}
use Rattle.c62_packet.specs.declared.placed.Placed.{Placed}
use Rattle.c62_packet.specs.declared.taken.Taken.{Taken}
use Rattle.c62_packet.specs.Packed.{issue_of, issued}
use Rattle.c62_packet.specs.Clash.{is_landing, lands, clashes, is_met}
use Rattle.c62_packet.specs.Landed.{has_register, landed, AreLandingsMore, AreShifted}
use Rattle.c62_packet.specs.Taken.{IsTakenBy}
use Rattle.c62_packet.proofs.PlacedLists.{issued-one, lands-late, all-fail}

-- what no instruction takes, none takes
pub taken-none : (taken : Taken) → IsUnused taken.row
    → ((k : ℕ) (reg : Reg) → k < 5 → landed taken.landings.cycles k reg ≡ false) → IsTakenBy taken []
taken-none taken empty none = record {
  later = All-nil (λ (q : Placed). taken.cycle ≤ q.cycle);
  row = row_is_empty taken.row taken.cycle (issued []) empty
      (λ i p at. let one = issued-one [] i p at in let low : one.there.0 < 0 = one.there.1 in absurd
      (omega (arith, low)));
  landings = λ k reg low. none k reg low;
}

-- ---- an earlier cycle

none_in : (reg : Reg) → has_register 0 reg ≡ false
none_in reg = rw (bit_at-zero (register_index reg)) refl

pub taken-earlier : (taken next : Taken) (rest : List Placed) → next.cycle < taken.cycle → IsUnused next.row
    → AreShifted taken.landings.cycles (taken.cycle - next.cycle) next.landings.cycles → IsTakenBy taken rest
    → IsTakenBy next rest
taken-earlier taken next rest before empty moved is = record {
  later = All-weaker (λ (q : Placed). taken.cycle ≤ q.cycle) (λ (q : Placed). next.cycle ≤ q.cycle)
      (λ q le. omega (arith, le, before)) rest is.later;
  row = row_is_empty next.row next.cycle (issued rest) empty none;
  landings = landings;
}
  where
    none : (i : ℕ) (p : Issue) → IsIssued (issued rest) i p → p.cycle ≡ next.cycle → ⊥
    none i p at now =
        let one = issued-one rest i p at in
        let far : taken.cycle ≤ one.one.cycle = All-contains (λ (q : Placed). taken.cycle ≤ q.cycle) rest one.one
        is.later one.there in
        let same : p.cycle ≡ one.one.cycle = ap (λ (x : Issue). x.cycle) one.is in
        absurd (omega (arith, far, before, now, same))

    gap : ℕ
    gap = taken.cycle - next.cycle

    landings : (k : ℕ) (reg : Reg) → k < 5
        → landed next.landings.cycles k reg ≡ list_any (lands reg (next.cycle + k)) rest
    landings k reg low = elim (cases_lt k gap) [
      | inl near ↦
          let test : nat_lt k gap ≡ true = grind (arith, nat_tests) in
          let none_there : list_any (lands reg (next.cycle + k)) rest ≡ false
          = list_any_none (lands reg (next.cycle + k)) rest
          (All-weaker (λ (q : Placed). taken.cycle ≤ q.cycle)
          (λ (q : Placed). lands reg (next.cycle + k) q ≡ false)
          (λ q le. lands-late reg (next.cycle + k) q (omega (arith, le, near))) rest is.later) in
          moved k reg low ∙ rw (test, none_there) (none_in reg)
      | inr far ↦
          let test : nat_lt k gap ≡ false = grind (arith, nat_tests) in
          let same : taken.cycle + (k - gap) ≡ next.cycle + k = omega (arith, far, before) in
          moved k reg low ∙ rw test (is.landings (k - gap) reg (omega (arith, low))
          ∙ ap (λ (c : ℕ). list_any (lands reg c) rest) same)
    ]

-- ---- one instruction more

same_landing : (from k : ℕ) (reg : Reg) (write : Reg × ℕ)
    → is_landing 0 reg k write ≡ is_landing from reg (from + k) write
same_landing from k reg write = let test : (0 + write.1 == k) ≡ (from + write.1 == from + k) = grind (arith, nat_tests)
    in rw test refl

any_same : (from k : ℕ) (reg : Reg) (writes : List (Reg × ℕ))
    → list_any (is_landing 0 reg k) writes ≡ list_any (is_landing from reg (from + k)) writes
any_same from k reg [] = refl
any_same from k reg (write ∷ writes) = rw (same_landing from k reg write, any_same from k reg writes) refl

or_swap : (a b : Bool) → (a || b) ≡ (b || a)
or_swap true true = refl
or_swap true false = refl
or_swap false true = refl
or_swap false false = refl

pub taken-more : (old new : Taken) (uses : Uses) (p : Placed) (rest : List Placed) → p.cycle ≡ old.cycle
    → new.cycle ≡ old.cycle → AreUses uses p.insn p.unit → IsWith old.row new.row uses
    → AreLandingsMore old.landings.cycles new.landings.cycles (register_writes p.insn) → IsTakenBy old rest
    → IsTakenBy new (p ∷ rest)
taken-more old new uses p rest here same are with more is = record {
  later = All-cons (λ (q : Placed). new.cycle ≤ q.cycle) p rest (omega (arith, here, same))
      (All-weaker (λ (q : Placed). old.cycle ≤ q.cycle) (λ (q : Placed). new.cycle ≤ q.cycle)
      (λ q le. omega (arith, le, same)) rest is.later);
  row = subst (λ (c : ℕ). IsRowOf new.row c (issued (p ∷ rest))) (here ∙ sym same)
      (row_of_cons old.row new.row uses (issue_of p) (issued rest)
      (subst (λ (c : ℕ). IsRowOf old.row c (issued rest)) (sym here) is.row) are with);
  landings = landings;
}
  where
    landings : (k : ℕ) (reg : Reg) → k < 5
        → landed new.landings.cycles k reg ≡ list_any (lands reg (new.cycle + k)) (p ∷ rest)
    landings k reg low =
        let own : list_any (is_landing 0 reg k) (register_writes p.insn) ≡ lands reg (p.cycle + k) p = any_same p.cycle
        k reg (register_writes p.insn) in
        more k reg low ∙ ap (λ (b : Bool). landed old.landings.cycles k reg || b) own
        ∙ ap (λ (b : Bool). b || lands reg (p.cycle + k) p) (is.landings k reg low)
        ∙ or_swap (list_any (lands reg (old.cycle + k)) rest) (lands reg (p.cycle + k) p)
        ∙ ap (λ (c : ℕ). lands reg (c + k) p || list_any (lands reg (old.cycle + k)) rest) here
        ∙ ap (λ (c : ℕ). list_any (lands reg (c + k)) (p ∷ rest)) (sym same)

-- a write lands four cycles later at most
pub writes_near : (insn : Insn) → All (λ (write : Reg × ℕ). write.1 < 5) (register_writes insn)
writes_near insn i d within =
    let write = get_or (register_writes insn) i d in
    let near : write.1 ≤ 4 = writes_delay insn write.0 write.1
    (i, within, get_or_default (register_writes insn) i write d within) in
    omega (arith, near)

-- where nothing lands, nothing clashes
pub not_met : (whole : List Placed) (p : Placed) (others : List Placed) (write : Reg × ℕ)
    → list_any (lands write.0 (p.cycle + write.1)) others ≡ false
    → is_met whole p others write ≡ false
not_met whole p others write none =
    list_any_none (clashes whole p write.0 (p.cycle + write.1)) others
    (All-weaker (λ (q : Placed). lands write.0 (p.cycle + write.1) q ≡ false)
    (λ (q : Placed). clashes whole p write.0 (p.cycle + write.1) q ≡ false)
    (λ q fails. rw fails refl) others (all-fail (lands write.0 (p.cycle + write.1)) others none))
