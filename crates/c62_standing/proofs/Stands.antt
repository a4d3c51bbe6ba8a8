-- What is told of packets as they stand.
use Rattle.std.proofs.Common.{arith, ◌≡◌, ◌∙◌, ℕ, ◌+◌, ◌<◌, List, [], ◌∷◌, ◌++◌, length, take, get_or, Some, sym, ap}
use Rattle.std.proofs.Common.{subst}
use Rattle.std.specs.Prelude.{IsTrue}
use Rattle.std.specs.List.{AllZip}
use Rattle.std.proofs.lemmas.Bool.Decides.{nat_tests}
use Rattle.std.proofs.lemmas.List.{length-map, take_more}
use Rattle.c62_read.specs.declared.block.SerialInsn.{SerialInsn}
use Rattle.c62_read.specs.Block.{Serial, branch_last, is_block, operations}
use Rattle.c62_rules.specs.Length.{length_of}
use Rattle.c62_packet.specs.declared.placed.Placed.{Placed}
use Rattle.c62_packet.specs.Packed.{Packed, IsPacketBlock, issues_of, packed_of}
use Rattle.c62_depend.specs.Plan.{insns_of, IsPlan}
use Rattle.c62_check.specs.Least.{spots_of}
use Rattle.c62_check.proofs.Least.{packets_seated}
use Rattle.c62_show.specs.declared.limits.Limits.{Limits}
use Rattle.c62_show.specs.declared.shown.Shown.{Shown}
use Rattle.c62_show.specs.Limits.{AreLimits}
use Rattle.c62_show.proofs.Heads.{head_is_true}
use Rattle.c62_unpack.specs.Unpacked.{IsUnpacked, entry_of}
use Rattle.c62_standing.specs.Standing.{NoneIsShorter}

is_sound_block : (block : Serial) → IsPlan (insns_of block) → IsTrue (branch_last (operations block.insns))
    → IsTrue (is_block block.insns)
is_sound_block block plan last =
    let few = plan.few in
    let long = length-map block.insns (λ (entry : SerialInsn). entry.insn) in
    grind (arith, nat_tests, few, long, last)

pub none_shorter : (block : Serial) (shown : Shown) (limits : Limits) → shown.limits ≡ Some limits
    → IsPacketBlock shown.packets → AreLimits block limits
    → IsPlan (insns_of block) → NoneIsShorter block shown
none_shorter block shown limits is sound are plan other other_sound schedule =
    let seated = packets_seated block other schedule (is_sound_block block plan schedule.branch_last) other_sound in
    head_is_true block shown (spots_of schedule.numbered) other.cycles sound (rw is are) plan seated

-- packets with their own length
pub same_block : (packed : Packed) → IsPacketBlock packed
    → packed_of packed.label (length_of (issues_of packed.placed)) packed.placed ≡ packed
same_block packed sound = ap (λ n. packed_of packed.label n packed.placed) (sym sound.own_length)

pub sound_again : (packed : Packed) → IsPacketBlock packed
    → IsPacketBlock (packed_of packed.label (length_of (issues_of packed.placed)) packed.placed)
sound_again packed sound = subst IsPacketBlock (sym (same_block packed sound)) sound

-- as many instructions as the block has
pub as_many : (packed : Packed) (block : Serial) (placed : List Placed) → IsUnpacked packed block placed
    → length placed ≡ length block.insns
as_many packed block placed is = sym (length-map placed entry_of) ∙ ap length (sym is.insns)

zip_push : {X Y : Type 0} (R : X → Y → Type 0) (xs : List X) (ys : List Y) (x : X) (y : Y) → AllZip R xs ys → R x y
    → AllZip R (xs ++ x ∷ []) (ys ++ y ∷ [])
zip_push R [] [] x y zip is = (is, tt)
zip_push R [] (z ∷ ys) x y zip is = absurd zip
zip_push R (z ∷ xs) [] x y zip is = absurd zip
zip_push R (z ∷ xs) (w ∷ ys) x y zip is = (zip.0, zip_push R xs ys x y zip.1 is)

pub one_more : {X Y : Type 0} (R : X → Y → Type 0) (xs : List X) (k : ℕ) (x : X) (ys more : List Y) (y : Y)
    → k < length xs → x ≡ get_or xs k x → more ≡ ys ++ y ∷ []
    → AllZip R (take k xs) ys → R x y → AllZip R (take (k + 1) xs) more
one_more R xs k x ys more y inside is more_is zip here =
    let step : take (k + 1) xs ≡ take k xs ++ x ∷ [] = take_more xs k x inside
    ∙ ap (λ d. take k xs ++ d ∷ []) (sym is) in
    rw (step, more_is) (zip_push R (take k xs) ys x y zip here)
