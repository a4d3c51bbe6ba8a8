-- The most that shares ask for, share by share.
use Rattle.std.proofs.Common.{arith, ◌≡◌, ℕ, ◌+◌, ◌^◌, ◌<◌, ◌≤◌, List, refl, sym, ap, ◌∙◌, subst, ⊎_elim}
use Rattle.std.specs.Prelude.{max}
use Rattle.std.proofs.lemmas.Bool.{cases_lt}
use Rattle.c62_op.specs.declared.register.Side.{Side}
use Rattle.c62_op.specs.declared.register.Side.TheVariants.{A, B}
use Rattle.c62_op.specs.declared.register.Reg.{Reg}
use Rattle.c62_op.specs.Register.{first_of}
use Rattle.c62_op.proofs.Registers.{same_register}
use Rattle.c62_insn.specs.declared.insn.Insn.{Insn}
use Rattle.c62_insn.specs.declared.unit_set.UnitSet.{UnitSet}
use Rattle.c62_loop_bound.specs.declared.share.Share.{Share}
use Rattle.c62_loop_bound.specs.declared.share.Share.TheVariants.{Units, CrossPath, DataPath, Reads}
use Rattle.c62_loop_bound.specs.Share.{width_of, cycles_of, AreCovered}
use Rattle.c62_loop_bound.specs.Least.{IsByShare}
use Rattle.c62_loop_bound.specs.Steps.{IsFound, Covers}

module _ (counter : Reg) (body : List Insn) where
  -- the greater of what was found and what a share asks for is found
  pub found_with : (share : Share) (least cycles most : ℕ) → IsFound counter body least → 0 < width_of share
      → cycles ≡ cycles_of counter body share → most ≡ max least cycles → IsFound counter body most
  found_with share least cycles most found some is most_is above =
      ⊎_elim {C = IsByShare counter body most}
      (λ (l : least < cycles). (let e : most ≡ cycles = omega (arith, l, most_is) in
      record { share = share; some = some; is = e ∙ is }))
      (λ (l : cycles ≤ least). (let e : most ≡ least = omega (arith, l, most_is) in
      subst (λ (n : ℕ). IsByShare counter body n) (sym e) (found (omega (arith, e, above)))))
      (cases_lt least cycles)

  -- what covers a share does so with more
  pub covers_more : (share : Share) (least most : ℕ) → Covers counter body share least → least ≤ most
      → Covers counter body share most
  covers_more share least most covers above some = omega (arith, above, covers some)

  -- ---- those of one side

  pub record OnSide (side : Side) (cycles : ℕ) : Type 0 where
    pub cross_path : Covers counter body (CrossPath side) cycles
    pub data_path : Covers counter body (DataPath side) cycles
    pub reads : (reg : Reg) → reg.side ≡ side → Covers counter body (Reads reg) cycles

  path_of : (least most : ℕ) → OnSide A least → OnSide B most → least ≤ most → (side : Side)
      → cycles_of counter body (CrossPath side) ≤ most
  path_of least most a b above A = omega (arith, above, a.cross_path (omega arith))
  path_of least most a b above B = b.cross_path (omega arith)

  data_path_of : (least most : ℕ) → OnSide A least → OnSide B most → least ≤ most → (side : Side)
      → cycles_of counter body (DataPath side) ≤ most
  data_path_of least most a b above A = omega (arith, above, a.data_path (omega arith))
  data_path_of least most a b above B = b.data_path (omega arith)

  reads_of : (least most : ℕ) → OnSide A least → OnSide B most → least ≤ most → (side : Side) (reg : Reg)
      → reg.side ≡ side → cycles_of counter body (Reads reg) ≤ most
  reads_of least most a b above A reg on = omega (arith, above, a.reads reg on (omega arith))
  reads_of least most a b above B reg on = b.reads reg on (omega arith)

  -- all shares are covered where those of units and of both sides are
  pub covered : (units least most : ℕ) → units ≤ least → least ≤ most
      → ((set : UnitSet) → set.0 < 2 ^ 8 → Covers counter body (Units set) units) → OnSide A least → OnSide B most
      → AreCovered counter body most
  covered units least most low above sets a b = record {
    units = λ set few some. omega (arith, low, above, sets set few some);
    cross_paths = λ side. path_of least most a b above side;
    data_paths = λ side. data_path_of least most a b above side;
    reads = λ reg. reads_of least most a b above reg.side reg refl;
  }

-- ---- one more

abbrev set_of : ℕ → UnitSet
set_of n = record { 0 = n }

-- what holds of a set, and of those of lower numbers
pub one_set_more : (P : UnitSet → Type 0) (n : ℕ) (one : UnitSet) → one.0 ≡ n → P one
    → ((set : UnitSet) → set.0 < n → P set) → (set : UnitSet) → set.0 < n + 1 → P set
one_set_more P n one is here old set l =
    ⊎_elim {C = P set} (λ (h : set.0 < n). old set h)
    (λ (h : n ≤ set.0). (let e : one.0 ≡ set.0 = omega (arith, is, h, l) in
    let same : one ≡ set = ap set_of e in subst P same here))
    (cases_lt set.0 n)

-- and of a register
pub one_register_more : (P : Reg → Type 0) (n : ℕ) (one : Reg) → one.number ≡ n → P one
    → ((reg : Reg) → reg.side ≡ one.side → reg.number < n → P reg) → (reg : Reg) → reg.side ≡ one.side
    → reg.number < n + 1 → P reg
one_register_more P n one is here old reg on l =
    ⊎_elim {C = P reg} (λ (h : reg.number < n). old reg on h)
    (λ (h : n ≤ reg.number). (let e : one.number ≡ reg.number = omega (arith, is, h, l) in
    let same : one ≡ reg = same_register one reg (ap (λ (s : Side). first_of s + one.number) (sym on)
    ∙ ap (λ (k : ℕ). first_of reg.side + k) e) in
    subst P same here))
    (cases_lt reg.number n)
