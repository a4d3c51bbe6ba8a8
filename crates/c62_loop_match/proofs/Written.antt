-- What is written between two places of a path, told while going back from the later one.
use Rattle.std.proofs.Common.{◌≡◌, ℕ, zero, suc, ◌+◌, ◌-◌, ◌<◌, ◌≤◌, Bool, true, false, ◌||◌, List, length, get_or}
use Rattle.std.proofs.Common.{Some, refl, sym, ◌∙◌, ap, subst, ⊎_elim, arith}
use Rattle.std.specs.Prelude.{slice_get}
use Rattle.std.proofs.lemmas.Bool.{cases_lt}
use Rattle.c62_op.specs.declared.register.Reg.{Reg}
use Rattle.c62_insn.specs.declared.insn.Insn.{Insn}
use Rattle.c62_rules.specs.Dependence.{writes_in, is_written_by}
use Rattle.c62_pair.specs.declared.uses.Uses.{Uses}
use Rattle.c62_pair.specs.declared.reg_set.RegSet.{RegSet}
use Rattle.c62_pair.specs.Uses.{insns_in}
use Rattle.c62_pair.specs.RegSet.{reg_in}
use Rattle.c62_depend.proofs.WrittenLemmas.{writes_are}
use Rattle.c62_depend.proofs.Latencies.{insn_at}
use Rattle.std.proofs.lemmas.List.{get_or_default}

written_first : (block : List Insn) (i n : ℕ) (reg : Reg)
    → is_written_by block i (suc n) reg ≡ (writes_in reg (slice_get block i) || is_written_by block (suc i) n reg)
written_first block i zero reg =
    let e : i + 0 ≡ i = omega arith in
    ap (λ k. writes_in reg (slice_get block k)) e ∙ sym (or_false (writes_in reg (slice_get block i)))
  where
    or_false : (b : Bool) → (b || false) ≡ b
    or_false true = refl
    or_false false = refl
written_first block i (suc n) reg =
    let e : i + suc n ≡ suc i + n = omega arith in
    ap (λ b. b || writes_in reg (slice_get block (i + suc n))) (written_first block i n reg)
    ∙ or_assoc (writes_in reg (slice_get block i)) (is_written_by block (suc i) n reg)
    (writes_in reg (slice_get block (i + suc n)))
    ∙ ap (λ k. writes_in reg (slice_get block i) ||
    (is_written_by block (suc i) n reg || writes_in reg (slice_get block k))) e
  where
    or_assoc : (a b c : Bool) → ((a || b) || c) ≡ (a || (b || c))
    or_assoc true b c = refl
    or_assoc false b c = refl

or_swap : (a b : Bool) → (a || b) ≡ (b || a)
or_swap true true = refl
or_swap true false = refl
or_swap false true = refl
or_swap false false = refl

-- these registers are written from i on and before j
pub AreWritten : List Uses → RegSet → ℕ → ℕ → Type 0
AreWritten path written i j = (reg : Reg) → reg_in written reg ≡ is_written_by (insns_in path) i (j - i) reg

pub are_written : (path : List Uses) (written : RegSet) (i j : ℕ)
    → ((reg : Reg) → reg_in written reg ≡ is_written_by (insns_in path) i (j - i) reg) → AreWritten path written i j
unfolding AreWritten
are_written path written i j h = h

pub written_are : (path : List Uses) (written : RegSet) (i j : ℕ) → AreWritten path written i j → (reg : Reg)
    → reg_in written reg ≡ is_written_by (insns_in path) i (j - i) reg
unfolding AreWritten
written_are path written i j h = h

pub none_written : (path : List Uses) (written : RegSet) (j : ℕ) → ((reg : Reg) → reg_in written reg ≡ false)
    → AreWritten path written j j
unfolding AreWritten
none_written path written j empty reg = let e : 0 ≡ j - j = omega arith in empty reg
    ∙ ap (λ n. is_written_by (insns_in path) j n reg) e

pub one_more : (path : List Uses) (written next : RegSet) (i j : ℕ) (u : Uses) → i < j
    → slice_get (insns_in path) i ≡ Some u.insn
    → ((reg : Reg) → reg_in next reg ≡ (reg_in written reg || reg_in u.written reg)) → AreWritten path written (i + 1) j
    → AreWritten path next i j
unfolding AreWritten
one_more path written next i j u before at joined old reg =
    let e : j - i ≡ suc (j - (i + 1)) = omega arith in
    let s : i + 1 ≡ suc i = omega arith in
    joined reg ∙ ap (λ b. b || reg_in u.written reg) (old reg)
    ∙ ap (λ b. is_written_by (insns_in path) (i + 1) (j - (i + 1)) reg || b) (writes_are u reg)
    ∙ or_swap (is_written_by (insns_in path) (i + 1) (j - (i + 1)) reg) (writes_in reg (Some u.insn))
    ∙ ap (λ o. writes_in reg o || is_written_by (insns_in path) (i + 1) (j - (i + 1)) reg) (sym at)
    ∙ ap (λ n. writes_in reg (slice_get (insns_in path) i) || is_written_by (insns_in path) n (j - (i + 1)) reg) s
    ∙ sym (written_first (insns_in path) i (j - (i + 1)) reg) ∙ ap (λ n. is_written_by (insns_in path) i n reg) (sym e)

pub one_back : (path : List Uses) (written next : RegSet) (i j : ℕ) (d : Uses) → 0 < i → i ≤ j → j < length path
    → ((reg : Reg) → reg_in next reg ≡ (reg_in written reg || reg_in (get_or path (i - 1) d).written reg))
    → AreWritten path written i j → AreWritten path next (i - 1) j
one_back path written next i j d some before within joined old =
    let s : i - 1 + 1 ≡ i = omega arith in
    let inside : i - 1 < length path = omega arith in
    one_more path written next (i - 1) j (get_or path (i - 1) d) (omega arith)
    (insn_at path (i - 1) (get_or path (i - 1) d) inside
    (get_or_default path (i - 1) d (get_or path (i - 1) d) inside)) joined
    (subst (λ n. AreWritten path written n j) (sym s) old)

pub one_earlier : (P : ℕ → Type 0) (i j : ℕ) → 0 < i → P (i - 1) → ((k : ℕ) → i ≤ k → k < j → P k) → (k : ℕ) → i - 1 ≤ k
    → k < j → P k
one_earlier P i j some one old k low high =
    ⊎_elim {C = P k} (λ (l : k < i). (let s : i - 1 ≡ k = omega arith in subst P s one)) (λ (l : i ≤ k). old k l high)
    (cases_lt k i)
