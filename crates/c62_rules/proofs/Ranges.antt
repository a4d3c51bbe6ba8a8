-- Where the bytes of an access lie, and when two have none in common.
use Rattle.std.proofs.Common.{◌≡◌, ℕ, ◌+◌, ◌-◌, ◌*◌, ◌%◌, ◌^◌, ◌<◌, ◌≤◌, ℤ, pos, negsuc, ◌≤ℤ◌, Bool, true, false, List}
use Rattle.std.proofs.Common.{[], ◌∷◌, ◌++◌, map, Some, refl, sym, ◌∙◌, ap, subst, ◌⊎◌, inl, inr, ⊎_elim, arith}
use Rattle.std.specs.Prelude.{◌&&◌, ◌||◌, nat_le, slice_index, unsigned_abs, if◌then◌else◌, int_le}
use Rattle.std.proofs.lemmas.Bool.{cases_lt, and_from, and_parts, or_cases, leb-true, le-leb, false≢true}
use Rattle.std.proofs.lemmas.Int.{ints}
use Rattle.std.proofs.lemmas.Option.{none-some, same_Some}
use Rattle.c62_op.specs.declared.register.Reg.{Reg}
use Rattle.c62_op.specs.declared.register.Letter.TheVariants.{D}
use Rattle.c62_op.specs.declared.register.Unit.{Unit as FunctionalUnit}
use Rattle.c62_op.specs.declared.operands.Op.{Op}
use Rattle.c62_op.specs.declared.operands.Op.TheVariants.{Ldb, Ldbu, Ldh, Ldhu, Ldw, Stb, Sth, Stw}
use Rattle.c62_op.specs.declared.operands.AddressForm.{AddressForm}
use Rattle.c62_op.specs.declared.operands.AddressForm.TheVariants.{Plus, Minus, PreIncrement, PreDecrement}
use Rattle.c62_op.specs.declared.operands.AddressForm.TheVariants.{PostIncrement, PostDecrement}
use Rattle.c62_op.specs.declared.operands.Offset.TheVariants.{Constant as ByConstant, Register as ByRegister}
use Rattle.c62_op.specs.declared.operands.Operands.{Operands}
use Rattle.c62_op.specs.declared.operands.Operands.TheVariants.{Three, ConstantFirst, ConstantSecond, Two, Field}
use Rattle.c62_op.specs.declared.operands.Operands.TheVariants.{Constant, Access, Block, Register}
use Rattle.c62_op.specs.Word.{word}
use Rattle.c62_op.specs.Takes.{same_reg, same_letter, takes, in_range}
use Rattle.c62_op.specs.Table.{ucst5, ucst15}
use Rattle.c62_op.specs.Shape.{is_store, reads_of}
use Rattle.c62_op.specs.Meaning.{size_of, moved, address_of, base_index, base_after}
use Rattle.c62_op.proofs.Registers.{same_reg-is, same_reg-refl}
use Rattle.c62_insn.specs.declared.insn.Insn.{Insn}
use Rattle.c62_insn.specs.declared.effect.Access.{Access as MemoryAccess}
use Rattle.c62_insn.specs.Insn.{op_of, operands_of, operand_reads}
use Rattle.c62_insn.specs.Effect.{access_of}
use Rattle.c62_rules.specs.Disjoint.{Range, begin_of, range_of, HasSmallOffset, LiesAtItsRange, ApartShareNothing, IsIn}
use Rattle.c62_rules.specs.Disjoint.{MeetInAByte}
use Rattle.c62_insn.proofs.InsnLemmas.{has_unit}
use Rattle.c62_rules.proofs.Exclusive.{both_true}
use Rattle.c62_rules.proofs.DisjointAccesses.{side_true}

-- ---- where the bytes lie

sizes : (op : Op) → (size_of op ≡ 1) ⊎ ((size_of op ≡ 2) ⊎ (size_of op ≡ 4))
sizes Ldb = inl refl
sizes Ldbu = inl refl
sizes Stb = inl refl
sizes Ldh = inr (inl refl)
sizes Ldhu = inr (inl refl)
sizes Sth = inr (inl refl)
sizes _ = inr (inr refl)

wider : (k : ℤ) → in_range ucst5 k ≡ true → in_range ucst15 k ≡ true
wider (pos n) h =
    let both = and_parts (int_le (pos 0) (pos n)) (int_le (pos n) (pos 31)) h in
    and_from (int_le (pos 0) (pos n)) (int_le (pos n) (pos 32767)) both.0
    (le-leb n 32767 (omega (arith, leb-true n 31 both.1)))
wider (negsuc n) h = cc

-- by either form
fits_either : (k : ℤ) (a b far c d : Bool)
    → ((in_range ucst5 k && a && b) || ((far && in_range ucst15 k && c && d) || false)) ≡ true
    → in_range ucst15 k ≡ true
fits_either k a b far c d h =
    ⊎_elim {C = in_range ucst15 k ≡ true}
    (λ e. wider k (and_parts (in_range ucst5 k) a (and_parts (in_range ucst5 k && a) b e).0).0)
    (λ rest. ⊎_elim {C = in_range ucst15 k ≡ true}
    (λ e. (and_parts far (in_range ucst15 k)
    (and_parts (far && in_range ucst15 k) c (and_parts (far && in_range ucst15 k && c) d e).0).0).1)
    (λ e. absurd (false≢true e))
    (or_cases (far && in_range ucst15 k && c && d) false rest))
    (or_cases (in_range ucst5 k && a && b) ((far && in_range ucst15 k && c && d) || false) h)

offset_fits : (op : Op) (reg base : Reg) (form : AddressForm) (k : ℤ) (unit : FunctionalUnit)
    → takes op (Access reg base form (ByConstant k)) unit ≡ true → in_range ucst15 k ≡ true
offset_fits Ldb reg base form k unit h = fits_either k (same_letter D unit.letter) _ _ (same_letter D unit.letter) _ h
offset_fits Ldbu reg base form k unit h = fits_either k (same_letter D unit.letter) _ _ (same_letter D unit.letter) _ h
offset_fits Ldh reg base form k unit h = fits_either k (same_letter D unit.letter) _ _ (same_letter D unit.letter) _ h
offset_fits Ldhu reg base form k unit h = fits_either k (same_letter D unit.letter) _ _ (same_letter D unit.letter) _ h
offset_fits Ldw reg base form k unit h = fits_either k (same_letter D unit.letter) _ _ (same_letter D unit.letter) _ h
offset_fits Stb reg base form k unit h = fits_either k (same_letter D unit.letter) _ _ (same_letter D unit.letter) _ h
offset_fits Sth reg base form k unit h = fits_either k (same_letter D unit.letter) _ _ (same_letter D unit.letter) _ h
offset_fits Stw reg base form k unit h = fits_either k (same_letter D unit.letter) _ _ (same_letter D unit.letter) _ h
offset_fits _ reg base form k unit h = cc

small : (k : ℤ) → in_range ucst15 k ≡ true → (k ≡ pos (unsigned_abs k)) × (unsigned_abs k ≤ 32767)
small (pos n) h = (refl, leb-true n 32767 (and_parts (int_le (pos 0) (pos n)) (int_le (pos n) (pos 32767)) h).1)
small (negsuc n) h = cc

-- the offset in bytes
distance : (n size : ℕ) → (size ≡ 1) ⊎ ((size ≡ 2) ⊎ (size ≡ 4)) → n ≤ 32767
    → ((word (pos n) * size) % 2 ^ 32 ≡ n * size)
    × (n * size ≤ 131068)
distance n size (inl e) le = subst (λ (s : ℕ). ((word (pos n) * s) % 2 ^ 32 ≡ n * s)
    × (n * s ≤ 131068)) (sym e) (omega (arith, le), omega (arith, le))
distance n size (inr (inl e)) le = subst (λ (s : ℕ). ((word (pos n) * s) % 2 ^ 32 ≡ n * s)
    × (n * s ≤ 131068)) (sym e) (omega (arith, le), omega (arith, le))
distance n size (inr (inr e)) le = subst (λ (s : ℕ). ((word (pos n) * s) % 2 ^ 32 ≡ n * s)
    × (n * s ≤ 131068)) (sym e) (omega (arith, le), omega (arith, le))

-- an offset of an instruction moves an address by 131,068 bytes at most
pub reaches : (insn : Insn) (reg base : Reg) (form : AddressForm) (k : ℤ)
    → operands_of insn ≡ Access reg base form (ByConstant k)
    → (unsigned_abs k * size_of (op_of insn) ≤ 131068) × (size_of (op_of insn) ≤ 4)
reaches insn reg base form k e =
    let unit = has_unit insn in
    let taken : takes (op_of insn) (Access reg base form (ByConstant k)) unit.0 ≡ true = subst
    (λ (o : Operands). takes (op_of insn) o unit.0 ≡ true) e unit.1 in
    let fits = small k (offset_fits (op_of insn) reg base form k unit.0 taken) in
    ((distance (unsigned_abs k) (size_of (op_of insn)) (sizes (op_of insn)) fits.1).1, few (sizes (op_of insn)))
  where
    few : {n : ℕ} → (n ≡ 1) ⊎ ((n ≡ 2) ⊎ (n ≡ 4)) → n ≤ 4
    few (inl e) = omega (arith, e)
    few (inr (inl e)) = omega (arith, e)
    few (inr (inr e)) = omega (arith, e)

-- an address within memory, of the base and the offset
lies : (form : AddressForm) (x d : ℕ) → d ≤ 131068 → address_of form x (moved form x d) ≤ 65536
    → address_of form x (moved form x d) ≡ (x + (2 ^ 32 - 131068) + begin_of form d) % 2 ^ 32
lies Plus x d le low = omega (arith, le, low)
lies Minus x d le low = omega (arith, le, low)
lies PreIncrement x d le low = omega (arith, le, low)
lies PreDecrement x d le low = omega (arith, le, low)
lies PostIncrement x d le low = omega (arith, le, low)
lies PostDecrement x d le low = omega (arith, le, low)

base_read : (op : Op) (reg base : Reg) (form : AddressForm) (k : ℤ) (words : Reg → ℕ)
    → slice_index (map words (reads_of op (Access reg base form (ByConstant k)))) (base_index op) ≡ words base
base_read op reg base form k words = by_store (is_store op)
  where
    by_store : (s : Bool)
        → slice_index (map words ((if s then reg ∷ [] else []) ++ base ∷ [])) (if s then 1 else 0) ≡ words base
    by_store true = refl
    by_store false = refl

-- the access of an instruction with a range covers it
pub record Covers (x : ℕ) (range : Range) (access : MemoryAccess) : Type 0 where
  pub size : access.size ≡ range.size
  pub at : access.address ≤ 65536 → access.address ≡ (x + (2 ^ 32 - 131068) + range.begin) % 2 ^ 32
  pub few : range.begin + range.size ≤ 262140

pub covers : (insn : Insn) (words : Reg → ℕ) (range : Range) (access : MemoryAccess)
    → range_of (op_of insn) (operands_of insn) ≡ Some range
    → access_of (op_of insn) (operands_of insn) (map words (operand_reads insn)) ≡ Some access
    → Covers (words range.base) range access
covers insn words range access is_range is_access = by_operands (op_of insn) (operands_of insn) (has_unit insn).0
    (has_unit insn).1 is_range is_access
  where
    begins : (form : AddressForm) (d size : ℕ) → d ≤ 131068 → (size ≡ 1) ⊎ ((size ≡ 2) ⊎ (size ≡ 4))
        → begin_of form d + size ≤ 262140
    begins Plus d size le (inl e) = omega (arith, le, e)
    begins Plus d size le (inr (inl e)) = omega (arith, le, e)
    begins Plus d size le (inr (inr e)) = omega (arith, le, e)
    begins PreIncrement d size le (inl e) = omega (arith, le, e)
    begins PreIncrement d size le (inr (inl e)) = omega (arith, le, e)
    begins PreIncrement d size le (inr (inr e)) = omega (arith, le, e)
    begins Minus d size le (inl e) = omega (arith, le, e)
    begins Minus d size le (inr (inl e)) = omega (arith, le, e)
    begins Minus d size le (inr (inr e)) = omega (arith, le, e)
    begins PreDecrement d size le (inl e) = omega (arith, le, e)
    begins PreDecrement d size le (inr (inl e)) = omega (arith, le, e)
    begins PreDecrement d size le (inr (inr e)) = omega (arith, le, e)
    begins _ d size le (inl e) = omega (arith, le, e)
    begins _ d size le (inr (inl e)) = omega (arith, le, e)
    begins _ d size le (inr (inr e)) = omega (arith, le, e)

    by_operands : (op : Op) (operands : Operands) (unit : FunctionalUnit) → takes op operands unit ≡ true
        → range_of op operands ≡ Some range
        → access_of op operands (map words (reads_of op operands)) ≡ Some access
        → Covers (words range.base) range access
    by_operands op (Access reg base form (ByConstant k)) unit taken r a =
        let n : ℕ = unsigned_abs k in
        let fits = small k (offset_fits op reg base form k unit taken) in
        let d = distance n (size_of op) (sizes op) fits.1 in
        let reads : List ℕ = map words (reads_of op (Access reg base form (ByConstant k))) in
        let x : slice_index reads (base_index op) ≡ words base = base_read op reg base form k words in
        let moves : base_after op form (ByConstant k) reads ≡ moved form (words base) (n * size_of op)
        = ap (λ (v : ℕ). moved form v ((word k * size_of op) % 2 ^ 32)) x
        ∙ ap (λ (z : ℤ). moved form (words base) ((word z * size_of op) % 2 ^ 32)) fits.0
        ∙ ap (λ (v : ℕ). moved form (words base) v) d.0 in
        let address : address_of form (slice_index reads (base_index op)) (base_after op form (ByConstant k) reads) ≡
        address_of form (words base) (moved form (words base) (n * size_of op))
        = ap (λ (v : ℕ). address_of form v (base_after op form (ByConstant k) reads)) x
        ∙ ap (λ (v : ℕ). address_of form (words base) v) moves in
        let range_is : record { base = base; begin = begin_of form (n * size_of op); size = size_of op } ≡ range =
        same_Some _ range r in
        let made : Covers (words base)
        (record { base = base; begin = begin_of form (n * size_of op); size = size_of op }) access = record {
          size = ap (λ (m : MemoryAccess). m.size) (sym (same_Some _ access a));
          at = λ low.
              let is : access.address ≡ address_of form (words base) (moved form (words base) (n * size_of op))
              = ap (λ (m : MemoryAccess). m.address) (sym (same_Some _ access a)) ∙ address in
              is ∙ lies form (words base) (n * size_of op) d.1 (subst (λ (v : ℕ). v ≤ 65536) is low);
          few = begins form (n * size_of op) (size_of op) d.1 (sizes op);
        } in
        subst (λ (z : Range). Covers (words z.base) z access) range_is made
    by_operands op (Access reg base form (ByRegister offset)) unit taken r a = absurd (none-some range r)
    by_operands op (Three _ _ _) unit taken r a = absurd (none-some range r)
    by_operands op (ConstantFirst _ _ _) unit taken r a = absurd (none-some range r)
    by_operands op (ConstantSecond _ _ _) unit taken r a = absurd (none-some range r)
    by_operands op (Two _ _) unit taken r a = absurd (none-some range r)
    by_operands op (Field _ _ _ _) unit taken r a = absurd (none-some range r)
    by_operands op (Constant _ _) unit taken r a = absurd (none-some range r)
    by_operands op (Block _) unit taken r a = absurd (none-some range r)
    by_operands op (Register _) unit taken r a = absurd (none-some range r)

-- two ranges of one base that do not meet have no byte of memory in common
no_byte : (x b c m n s t a : ℕ) → b + m ≤ 262140 → c + n ≤ 262140 → (b + m ≤ c) ⊎ (c + n ≤ b)
    → s ≡ (x + (2 ^ 32 - 131068) + b) % 2 ^ 32 → t ≡ (x + (2 ^ 32 - 131068) + c) % 2 ^ 32 → s ≤ a → a < s + m → t ≤ a
    → a < t + n → ⊥
no_byte x b c m n s t a one other (inl apart) at_s at_t low high low' high' = omega arith
no_byte x b c m n s t a one other (inr apart) at_s at_t low high low' high' = omega arith

-- bytes of memory that two disjoint accesses cover, where the base is the same before both, are not one
pub apart_bytes : (x : ℕ) (one other : Range) (p q : MemoryAccess) (a : ℕ) → (one.begin + one.size ≤ other.begin)
    ⊎ (other.begin + other.size ≤ one.begin)
    → Covers x one p → Covers x other q → p.address + p.size ≤ 65536 → q.address + q.size ≤ 65536
    → p.address ≤ a → a < p.address + p.size → q.address ≤ a → a < q.address + q.size → ⊥
apart_bytes x one other p q a apart c d fits fits' low high low' high' =
    no_byte x one.begin other.begin one.size other.size p.address q.address a c.few d.few apart
    (c.at (omega (arith, fits))) (d.at (omega (arith, fits')))
    low (omega (arith, high, c.size)) low' (omega (arith, high', d.size))

-- ---- the laws

pub small-offset : (insn : Insn) → HasSmallOffset insn
small-offset insn reg base form k e =
    let unit = has_unit insn in
    let taken : takes (op_of insn) (Access reg base form (ByConstant k)) unit.0 ≡ true = subst
    (λ (o : Operands). takes (op_of insn) o unit.0 ≡ true) e unit.1 in
    let fits = small k (offset_fits (op_of insn) reg base form k unit.0 taken) in (
      subst (λ (z : ℤ). pos 0 ≤ℤ z) (sym fits.0) (omega (arith, ints)),
      subst (λ (z : ℤ). z ≤ℤ pos 32767) (sym fits.0)
          (omega (arith, ints, fits.1)),
    )

pub lies-at-range : (insn : Insn) → LiesAtItsRange insn
lies-at-range insn words range access is_range is_access fits =
    let c = covers insn words range access is_range is_access in (c.at (omega (arith, fits)), c.size)

pub apart-share-nothing : (p q : Insn) → ApartShareNothing p q
apart-share-nothing p q one other words others first second at is_one is_other apart same is_first is_second fits fits'
    mine theirs =
    let tests = and_parts (same_reg one.base other.base)
    (nat_le (one.begin + one.size) other.begin || nat_le (other.begin + other.size) one.begin) apart in
    let sides : (one.begin + one.size ≤ other.begin) ⊎ (other.begin + other.size ≤ one.begin)
    = ⊎_elim {C = (one.begin + one.size ≤ other.begin) ⊎ (other.begin + other.size ≤ one.begin)}
    (λ l. inl (leb-true (one.begin + one.size) other.begin l))
    (λ r. inr (leb-true (other.begin + other.size) one.begin r))
    (or_cases (nat_le (one.begin + one.size) other.begin) (nat_le (other.begin + other.size) one.begin) tests.1) in
    let word : others other.base ≡ words one.base = ap others (sym (same_reg-is one.base other.base tests.0))
    ∙ sym same in
    let c = covers p words one first is_one is_first in
    let d = subst (λ (v : ℕ). Covers v other second) word (covers q others other second is_other is_second) in
    apart_bytes (words one.base) one other first second at sides c d fits fits' mine.0 mine.1 theirs.0 theirs.1

pub meet-in-a-byte : (a b : Range) → MeetInAByte a b
meet-in-a-byte a b same some other apart = by_order (cases_lt a.begin b.begin)
  where
    base : same_reg a.base b.base ≡ true
    base = subst (λ (r : Reg). same_reg a.base r ≡ true) same (same_reg-refl a.base)

    refused : (a.begin + a.size ≤ b.begin) ⊎ (b.begin + b.size ≤ a.begin) → ⊥
    refused sides = false≢true (sym apart ∙ both_true base (side_true a.begin b.begin a.size b.size sides))

    later : b.begin < a.begin + a.size
    later = ⊎_elim {C = b.begin < a.begin + a.size} (λ lt. lt) (λ ge. absurd (refused (inl ge)))
        (cases_lt b.begin (a.begin + a.size))

    sooner : a.begin < b.begin + b.size
    sooner = ⊎_elim {C = a.begin < b.begin + b.size} (λ lt. lt) (λ ge. absurd (refused (inr ge)))
        (cases_lt a.begin (b.begin + b.size))

    by_order : (a.begin < b.begin) ⊎ (b.begin ≤ a.begin) → (at : ℕ) × IsIn a at × IsIn b at
    by_order (inl lt) = (b.begin, (omega (arith, lt), later), (omega arith, omega (arith, other)))
    by_order (inr ge) = (a.begin, (omega arith, omega (arith, some)), (ge, sooner))
