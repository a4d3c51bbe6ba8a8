-- What each operation computes, of the words of its operands (docs/MACHINE.md, "Instruction table" and "Addresses"; SPRU189,
-- "Individual Instruction Descriptions").
use Rattle.std.specs.Prelude.{ℕ, ◌+◌, ◌-◌, ◌*◌, ◌/◌, ◌%◌, ◌^◌, min, pos, ◌+ℤ◌, ◌-ℤ◌, ◌*ℤ◌, int_lt, unsigned_abs, bit_and, bit_or, bit_xor, nat_lt, ◌==◌, if◌then◌else◌, List, slice_index}
use Rattle.std.specs.Int.{cast_signed, w8}
use Rattle.c62_op.specs.declared.operands.Op.{Op}
use Rattle.c62_op.specs.declared.operands.Op.TheVariants.{Add, Sub, And, Or, Xor, Abs, Add2, Sub2, Cmpeq, Cmpgt, Cmplt, Cmpgtu, Cmpltu, Shl, Shr, Shru, Extu, Mvk, Mvklh, Addk, Mpy, Mpyu, Mpyus, Mpysu, Mpyh, Mpyhu, Mpyhl, Mpylh, Addab, Addah, Addaw, Ldb, Ldh}
use Rattle.c62_op.specs.declared.operands.Op.TheVariants.{Ext, Lmbd, Norm, Subc, Sadd, Ssub, Set, Clr, Sshl, Smpy, Smpyh, Smpyhl, Smpylh, Mpylhu, Mpyhlu, Mpyhus, Mpyhsu, Mpyhuls, Mpyhslu, Mpyluhs, Mpylshu, Subab, Subah, Subaw}
use Rattle.c62_op.specs.declared.operands.AddressForm.{AddressForm}
use Rattle.c62_op.specs.declared.operands.AddressForm.TheVariants.{Plus, PreIncrement, PostIncrement, PostDecrement}
use Rattle.c62_op.specs.declared.operands.Offset.{Offset}
use Rattle.c62_op.specs.declared.operands.Offset.TheVariants.{Constant as ByConstant, Register as ByRegister}
use Rattle.c62_op.specs.Word.{word, sg, sg_half, lo, hi, sum, difference, shifted_left, shifted_right, half_sums, half_differences}
use Rattle.c62_op.specs.Word.{saturated, doubled, ones_from, complement, leftmost, redundant_signs, division_step}
use Rattle.c62_op.specs.Table.{row_of, bytes_of}
use Rattle.c62_op.specs.Shape.{is_store}

-- the result of EXT and EXTU: left by k, then right by m, with the sign for EXT; of SET and CLR: the bits from k to m
abbrev pub field_of : Op → ℕ → ℕ → ℕ → ℕ
field_of Extu a k m = shifted_left a k / 2 ^ m
field_of Set a k m = bit_or a (ones_from k m)
field_of Clr a k m = bit_and a (complement (ones_from k m))
field_of _ a k m = shifted_right (shifted_left a k) m

-- the same where a register tells both: k is in its bits 9 to 5, and m in its bits 4 to 0
abbrev pub field_by : Op → ℕ → ℕ → ℕ
field_by op a told = field_of op a (told / 2 ^ 5 % 2 ^ 5) (told % 2 ^ 5)

-- the result of an operation on the words of its operands, constants too, in the order of the table
abbrev pub result_of : Op → ℕ → ℕ → ℕ
result_of Add a b = sum a b
result_of Sub a b = difference a b
result_of And a b = bit_and a b
result_of Or a b = bit_or a b
result_of Xor a b = bit_xor a b
result_of Abs a _ = min (unsigned_abs (sg a)) (2 ^ 31 - 1)
result_of Add2 a b = half_sums a b
result_of Sub2 a b = half_differences a b
result_of Cmpeq a b = if a == b then 1 else 0
result_of Cmpgt a b = if int_lt (sg b) (sg a) then 1 else 0
result_of Cmplt a b = if int_lt (sg a) (sg b) then 1 else 0
result_of Cmpgtu a b = if nat_lt b a then 1 else 0
result_of Cmpltu a b = if nat_lt a b then 1 else 0
result_of Shl a count = shifted_left a (count % 64)
result_of Shr a count = shifted_right a (count % 64)
result_of Shru a count = a / 2 ^ (count % 64)
result_of Mvk k _ = k
result_of Mvklh k d = lo k * 2 ^ 16 + lo d
result_of Addk k d = sum d k
result_of Mpy a b = word (sg_half (lo a) *ℤ sg_half (lo b))
result_of Mpyu a b = lo a * lo b
result_of Mpyus a b = word (pos (lo a) *ℤ sg_half (lo b))
result_of Mpysu a b = word (sg_half (lo a) *ℤ pos (lo b))
result_of Mpyh a b = word (sg_half (hi a) *ℤ sg_half (hi b))
result_of Mpyhu a b = hi a * hi b
result_of Mpyhl a b = word (sg_half (hi a) *ℤ sg_half (lo b))
result_of Mpylh a b = word (sg_half (lo a) *ℤ sg_half (hi b))
result_of Addab a b = sum a b
result_of Addah a b = (a + b * 2) % 2 ^ 32
result_of Addaw a b = (a + b * 4) % 2 ^ 32
result_of Ext a told = field_by Ext a told
result_of Extu a told = field_by Extu a told
result_of Set a told = field_by Set a told
result_of Clr a told = field_by Clr a told
result_of Lmbd a b = leftmost a b
result_of Norm a _ = redundant_signs a
result_of Subc a b = division_step a b
result_of Sadd a b = saturated (sg a +ℤ sg b)
result_of Ssub a b = saturated (sg a -ℤ sg b)
result_of Sshl a count = saturated (sg a *ℤ pos (2 ^ (count % 32)))
result_of Smpy a b = doubled (sg_half (lo a) *ℤ sg_half (lo b))
result_of Smpyh a b = doubled (sg_half (hi a) *ℤ sg_half (hi b))
result_of Smpyhl a b = doubled (sg_half (hi a) *ℤ sg_half (lo b))
result_of Smpylh a b = doubled (sg_half (lo a) *ℤ sg_half (hi b))
result_of Mpylhu a b = lo a * hi b
result_of Mpyhlu a b = hi a * lo b
result_of Mpyhus a b = word (pos (hi a) *ℤ sg_half (hi b))
result_of Mpyhsu a b = word (sg_half (hi a) *ℤ pos (hi b))
result_of Mpyhuls a b = word (pos (hi a) *ℤ sg_half (lo b))
result_of Mpyhslu a b = word (sg_half (hi a) *ℤ pos (lo b))
result_of Mpyluhs a b = word (pos (lo a) *ℤ sg_half (hi b))
result_of Mpylshu a b = word (sg_half (lo a) *ℤ pos (hi b))
result_of Subab a b = difference a b
result_of Subah a b = difference a (b * 2 % 2 ^ 32)
result_of Subaw a b = difference a (b * 4 % 2 ^ 32)
result_of _ _ _ = 0

-- the bytes of an access
abbrev pub size_of : Op → ℕ
size_of op = bytes_of (row_of op).memory

-- the value of an offset: a constant, or the register read after the base
abbrev pub offset_value : Offset → ℕ → ℕ
offset_value (ByConstant k) _ = word k
offset_value (ByRegister _) value = value

-- the base moved by a distance (SPRU189, "Addressing Modes")
abbrev pub moved : AddressForm → ℕ → ℕ → ℕ
moved Plus base distance = sum base distance
moved PreIncrement base distance = sum base distance
moved PostIncrement base distance = sum base distance
moved _ base distance = difference base distance

-- the address, of the base before and after the move
abbrev pub address_of : AddressForm → ℕ → ℕ → ℕ
address_of PostIncrement base after = base
address_of PostDecrement base after = base
address_of _ base after = after

-- the index of the base among the reads
abbrev pub base_index : Op → ℕ
base_index op = if is_store op then 1 else 0

-- the base moved by the offset times the size
abbrev pub base_after : Op → AddressForm → Offset → List ℕ → ℕ
base_after op form offset reads =
    moved form (slice_index reads (base_index op)) ((offset_value offset (slice_index reads (base_index op + 1)) * size_of op) % 2 ^ 32)

-- the low bytes that an access covers
abbrev pub low_bytes_of : Op → ℕ → ℕ
low_bytes_of op v = v % 2 ^ (8 * size_of op)

-- a loaded value, of the bytes read: with its sign for LDB and LDH
abbrev pub loaded_of : Op → ℕ → ℕ
loaded_of Ldb raw = word (cast_signed w8 (raw % 2 ^ 8))
loaded_of Ldh raw = word (sg_half (lo raw))
loaded_of op raw = low_bytes_of op raw
