-- Accesses by their places, of constant offsets from one base register.
use Rattle.std.proofs.Common.{◌≡◌, ℕ, ◌*◌, ◌%◌, ◌^◌, List, [], ◌∷◌, ◌++◌, map, Some}
use Rattle.std.proofs.Common.{refl, sym, ◌∙◌, ap, subst, ◌≤◌, arith}
use Rattle.std.specs.Prelude.{slice_index, if◌then◌else◌}
use Rattle.std.proofs.lemmas.Option.{none-some, same_Some}
use Rattle.c62_op.specs.declared.register.Reg.{Reg}
use Rattle.c62_op.specs.declared.operands.Op.{Op}
use Rattle.c62_op.specs.declared.operands.AddressForm.{AddressForm}
use Rattle.c62_op.specs.declared.operands.Offset.TheVariants.{Constant as ByConstant, Register as ByRegister}
use Rattle.c62_op.specs.declared.operands.Operands.{Operands}
use Rattle.c62_op.specs.declared.operands.Operands.TheVariants.{Three, ConstantFirst, ConstantSecond, Two, Field}
use Rattle.c62_op.specs.declared.operands.Operands.TheVariants.{Constant, Access, Block, Register}
use Rattle.c62_op.specs.Word.{word}
use Rattle.c62_op.specs.Shape.{is_store, reads_of}
use Rattle.c62_op.specs.Meaning.{size_of, moved, address_of, base_index, base_after}
use Rattle.c62_insn.specs.declared.insn.Insn.{Insn}
use Rattle.c62_insn.specs.declared.effect.Access.{Access as MemoryAccess}
use Rattle.c62_insn.specs.Insn.{op_of, operands_of, operand_reads}
use Rattle.c62_insn.specs.Effect.{access_of, stored}
use Rattle.c62_rules.specs.Disjoint.{Range, range_of}
use Rattle.c62_rules.proofs.Ranges.{Covers, covers}
use Rattle.c62_serial.specs.Memory.{place_from}
use Rattle.c62_meaning.proofs.Acting.{access_at, unplaced}

-- the place of an address is the address that the place of its base register gives
shifted : (form : AddressForm) (x d base : ℕ)
    → address_of form (place_from base x) (moved form (place_from base x) d) ≡ place_from base
    (address_of form x (moved form x d))
shifted form x d base = grind arith

base_read : (op : Op) (reg base : Reg) (words : Reg → ℕ)
    → slice_index (map words ((if is_store op then reg ∷ [] else []) ++ base ∷ [])) (base_index op) ≡ words base
base_read op reg base words = grind arith

-- registers with the places of what they hold
abbrev places : ℕ → (Reg → ℕ) → Reg → ℕ
places from words reg = place_from from (words reg)

-- with those an access of a constant offset has its place for its address
found : (op : Op) (operands : Operands) (from : ℕ) (words : Reg → ℕ) (range : Range) (raw : MemoryAccess)
    → range_of op operands ≡ Some range → access_of op operands (map words (reads_of op operands)) ≡ Some raw
    → (other : MemoryAccess) × (access_of op operands (map (places from words) (reads_of op operands)) ≡ Some other)
    × (other.address ≡ place_from from raw.address) × (other.size ≡ raw.size)
found op (Access reg base form (ByConstant k)) from words range raw r a =
    let reads : List ℕ = map words (reads_of op (Access reg base form (ByConstant k))) in
    let others : List ℕ = map (places from words) (reads_of op (Access reg base form (ByConstant k))) in
    let x : slice_index reads (base_index op) ≡ words base = base_read op reg base words in
    let y : slice_index others (base_index op) ≡ place_from from (words base) = base_read op reg base
    (places from words) in
    let d : ℕ = (word k * size_of op) % 2 ^ 32 in
    let is : address_of form (slice_index reads (base_index op)) (moved form (slice_index reads (base_index op)) d) ≡
    raw.address = ap (λ (m : MemoryAccess). m.address) (same_Some _ raw a) in (
      record {
        address = address_of form (slice_index others (base_index op)) (base_after op form (ByConstant k) others);
        size = size_of op;
        value = stored op others;
      },
      refl,
      ap (λ (v : ℕ). address_of form v (moved form v d)) y
          ∙ shifted form (words base) d from
          ∙ ap (λ (v : ℕ). place_from from (address_of form v (moved form v d))) (sym x)
          ∙ ap (λ (v : ℕ). place_from from v) is,
      ap (λ (m : MemoryAccess). m.size) (same_Some _ raw a),
    )
found op (Access reg base form (ByRegister offset)) from words range raw r a = absurd (none-some range r)
found op (Three _ _ _) from words range raw r a = absurd (none-some range r)
found op (ConstantFirst _ _ _) from words range raw r a = absurd (none-some range r)
found op (ConstantSecond _ _ _) from words range raw r a = absurd (none-some range r)
found op (Two _ _) from words range raw r a = absurd (none-some range r)
found op (Field _ _ _ _) from words range raw r a = absurd (none-some range r)
found op (Constant _ _) from words range raw r a = absurd (none-some range r)
found op (Block _) from words range raw r a = absurd (none-some range r)
found op (Register _) from words range raw r a = absurd (none-some range r)

-- so it covers its range from the place of its base register
pub placed_covers : (insn : Insn) (from : ℕ) (words : Reg → ℕ) (range : Range) (access : MemoryAccess)
    → range_of (op_of insn) (operands_of insn) ≡ Some range → access_at insn from words ≡ Some access
    → Covers (place_from from (words range.base)) range access
placed_covers insn from words range access is_range is_access =
    let r = unplaced from (access_of (op_of insn) (operands_of insn) (map words (operand_reads insn))) access is_access
    in
    let f = found (op_of insn) (operands_of insn) from words range r.0 is_range r.1 in
    let c : Covers (place_from from (words range.base)) range f.0 = covers insn (places from words) range f.0 is_range
    f.1 in
    let address : f.0.address ≡ access.address = f.2 ∙ ap (λ (m : MemoryAccess). m.address) r.2 in
    let size : f.0.size ≡ access.size = f.3 ∙ ap (λ (m : MemoryAccess). m.size) r.2 in
    record {
      size = sym size ∙ c.size;
      at = λ low. sym address ∙ c.at (subst (λ (v : ℕ). v ≤ 65536) (sym address) low);
      few = c.few;
    }
