-- Of instructions under opposite conditions on a register that keeps its word at most one runs.
use Rattle.std.proofs.Common.{◌≡◌, ◌≢◌, ℕ, zero, suc, ◌<◌, ◌≤◌, Bool, true, not, cond, eqb, List, [], ◌∷◌}
use Rattle.std.proofs.Common.{get_or, set, refl, sym, ◌∙◌, ap, inl, inr, ⊎_elim, arith}
use Rattle.std.specs.Prelude.{Contains, fold}
use Rattle.std.proofs.lemmas.Bool.{cases_lt}
use Rattle.std.proofs.lemmas.List.{get_or-set_other}
use Rattle.c62_op.specs.declared.register.Reg.{Reg}
use Rattle.c62_insn.specs.declared.insn.Insn.{Insn}
use Rattle.c62_insn.specs.Insn.{register_writes}
use Rattle.c62_rules.specs.Exclusive.{IsExclusive}
use Rattle.c62_serial.specs.State.{index_of, word_in, byte_in}
use Rattle.c62_serial.specs.Effect.{runs, act_of}
use Rattle.c62_serial.specs.Serial.{after_write}
use Rattle.c62_meaning.proofs.Lookup.{In, Contains_from_In}
use Rattle.c62_meaning.proofs.Landings.{act_writes}
use Rattle.c62_meaning.proofs.SameRuns.{Numbered, machine_at, serial_act}

-- what writes runs
pub writes_runs : (insn : Insn) (base : ℕ) (word : Reg → ℕ) (byte : ℕ → ℕ) (w : (Reg × ℕ) × ℕ)
    → In w (act_of insn base word byte).writes → runs word insn ≡ true
writes_runs insn base word byte w = grind arith

pub opposite_tests : (a b t : Bool) → a ≢ b → cond a t (not t) ≡ true → cond b t (not t) ≡ true → ⊥
opposite_tests a b t ne e f = grind arith

-- writes elsewhere leave a register as it was
writes_elsewhere : (k : ℕ) (ws : List ((Reg × ℕ) × ℕ)) (rs : List ℕ)
    → ((w : (Reg × ℕ) × ℕ) → In w ws → index_of w.0.0 ≡ k → ⊥)
    → get_or (fold after_write rs ws) k 0 ≡ get_or rs k 0
writes_elsewhere k [] rs h = refl
writes_elsewhere k (w ∷ ws) rs h =
    writes_elsewhere k ws (set rs (index_of w.0.0) w.1) (λ x i. h x (inr i))
    ∙ get_or-set_other rs (index_of w.0.0) k w.1 0 (λ e. h w (inl refl) (sym e))

-- a register that no instruction from i on and before j writes
abbrev pub IsUnwritten : Numbered → ℕ → ℕ → Reg → Type 0
IsUnwritten b i j reg = (k : ℕ) (w : Reg × ℕ) → i ≤ k → k < j → Contains (register_writes (b.entry k).insn) w
    → index_of w.0 ≡ index_of reg → ⊥

-- it holds the same before both
pub word_kept : (b : Numbered) (i j : ℕ) (reg : Reg) → i ≤ j → IsUnwritten b i j reg
    → word_in (machine_at b j) reg ≡ word_in (machine_at b i) reg
word_kept b i zero reg l h = let e : zero ≡ i = omega (arith, l) in ap (λ (k : ℕ). word_in (machine_at b k) reg) e
word_kept b i (suc j) reg l h =
    ⊎_elim {C = word_in (machine_at b (suc j)) reg ≡ word_in (machine_at b i) reg}
    (λ lt. writes_elsewhere (index_of reg) (serial_act b j).writes (machine_at b j).registers
    (λ w m e. h j w.0 (omega (arith, lt)) (omega arith)
    (Contains_from_In w.0 (register_writes (b.entry j).insn)
    (act_writes (b.entry j).insn (machine_at b j).base (word_in (machine_at b j)) (byte_in (machine_at b j)) w m)) e)
    ∙ word_kept b i j reg (omega (arith, lt)) (λ k w low high. h k w low (omega (arith, high))))
    (λ ge. let e : suc j ≡ i = omega (arith, ge, l) in ap (λ (k : ℕ). word_in (machine_at b k) reg) e)
    (cases_lt i (suc j))

-- exclusive instructions do not both run
pub not_both : (b : Numbered) (block : List Insn) (i j : ℕ) → i ≤ j
    → (x : IsExclusive block i j (b.entry i).insn (b.entry j).insn) → IsUnwritten b i j x.one.reg
    → runs (word_in (machine_at b i)) (b.entry i).insn ≡ true → runs (word_in (machine_at b j)) (b.entry j).insn ≡ true
    → ⊥
not_both b block i j l x unwritten first second = grind (
  arith,
  word_kept b i j x.one.reg l unwritten,
  opposite_tests x.one.negated x.other.negated (eqb (word_in (machine_at b i) x.one.reg) 0) x.opposite,
)
