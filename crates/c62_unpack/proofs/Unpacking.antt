-- The serial block that is found for packets.
use Rattle.std.proofs.Common.{arith, ◌≡◌, ◌∙◌, ℕ, ◌<◌, ◌≤◌, List, [], ◌∷◌, length, drop, get_or, map, Bool, true, false}
use Rattle.std.proofs.Common.{refl, sym, ap}
use Rattle.std.specs.Prelude.{IsPermutation}
use Rattle.std.specs.Bool.{OnTrue}
use Rattle.c62_read.specs.declared.block.SerialInsn.{SerialInsn}
use Rattle.c62_op.specs.Shape.{is_branch}
use Rattle.c62_insn.specs.Insn.{op_of}
use Rattle.c62_read.specs.Block.{Serial, branch_last, operations}
use Rattle.c62_packet.specs.declared.placed.Placed.{Placed}
use Rattle.c62_packet.specs.Packed.{Packed}
use Rattle.c62_check.specs.declared.verdict.Verdict.{Verdict as Answer}
use Rattle.c62_check.specs.declared.verdict.Verdict.TheVariants.{Same, Missing, Extra, TooEarly}
use Rattle.c62_check.specs.Verdict.{IsVerdict, is_same}
use Rattle.c62_check.specs.Schedule.{IsSchedule}
use Rattle.c62_unpack.specs.Unpacked.{IsUnpacked, entry_of}

-- ---- branches

pub alone : (entries : List SerialInsn) → 1 ≤ length entries → length entries < 2
    → branch_last (operations entries) ≡ true
alone [] some few = absurd (omega (arith, some))
alone (entry ∷ []) some few = refl
alone (entry ∷ next ∷ entries) some few = absurd (omega (arith, few))

pub onward : (entries : List SerialInsn) (first : SerialInsn) → first ≡ get_or entries 0 first
    → is_branch (op_of first.insn) ≡ false
    → branch_last (operations (drop 1 entries)) ≡ true → branch_last (operations entries) ≡ true
onward [] first is free rest = refl
onward (entry ∷ []) first is free rest = refl
onward (entry ∷ next ∷ entries) first is free rest =
    let own : is_branch (op_of entry.insn) ≡ false = ap (λ (e : SerialInsn). is_branch (op_of e.insn)) (sym is)
    ∙ free in
    rw own rest

pub weaker : (told : Bool) (P Q : Type 0) → (P → Q) → OnTrue told P → OnTrue told Q
weaker true P Q to p = to p
weaker false P Q to p = tt

-- ---- the block

is_schedule : (block : Serial) (packed : Packed) (verdict : Answer) → IsVerdict block packed verdict
    → is_same verdict ≡ true → IsSchedule block packed
is_schedule block packed Same is same = is
is_schedule block packed (Missing line) is same = absurd cc
is_schedule block packed (Extra line) is same = absurd cc
is_schedule block packed (TooEarly early) is same = absurd cc

pub is_unpacked : (packed : Packed) (block : Serial) (placed : List Placed) (verdict : Answer)
    → block.label ≡ packed.label → block.insns ≡ map entry_of placed
    → IsPermutation packed.placed placed → IsVerdict block packed verdict → is_same verdict ≡ true
    → IsUnpacked packed block placed
is_unpacked packed block placed verdict label insns all is same =
    record { label = label; all = all; insns = insns; schedule = is_schedule block packed verdict is same }
