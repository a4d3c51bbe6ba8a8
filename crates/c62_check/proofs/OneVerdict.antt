-- There is one verdict.
use Rattle.std.proofs.Common.{◌≡◌, List, [], ◌∷◌, sym, subst}
use Rattle.std.specs.Prelude.{IsTrue}
use Rattle.c62_serial.proofs.FaultLemmas.{same_rising}
use Rattle.c62_read.specs.Block.{Serial, is_block}
use Rattle.c62_packet.specs.declared.placed.Placed.{Placed}
use Rattle.c62_packet.specs.Packed.{Packed, IsPacketBlock}
use Rattle.c62_depend.specs.Plan.{insns_of}
use Rattle.c62_check.specs.declared.early.Early.{Early}
use Rattle.c62_check.specs.declared.verdict.Verdict.{Verdict as Answer}
use Rattle.c62_check.specs.declared.verdict.Verdict.TheVariants.{Same, Missing, Extra, TooEarly}
use Rattle.c62_check.specs.Early.{AreEarly, numbers_of}
use Rattle.c62_check.specs.Verdict.{ComeEarly, HasOneVerdict, IsSameVerdict, IsVerdict}
use Rattle.c62_check.proofs.Exact.{is_exact}
use Rattle.c62_check.proofs.MissingParts.{one_missing, none_missing, one_extra, none_extra, one_numbering, told_too}
use Rattle.c62_check.proofs.MissingParts.{by_numbers}

-- ---- a verdict

module _ (block : Serial) (packed : Packed) (sound : IsTrue (is_block block.insns)) (lawful : IsPacketBlock packed)
  where
    is_same_too : (other : Answer) → IsVerdict block packed Same → IsVerdict block packed other → other ≡ Same
    is_same_too other same says = (is_exact block packed other sound lawful says).1 (same.numbered, same.numbering)

    two_early : (early others : List Early) → ComeEarly block packed early → ComeEarly block packed others
        → early ≡ others
    two_early early others one other =
        let placed : one.numbered ≡ other.numbered =
        one_numbering packed.placed lawful.rules block.insns one.numbered other.numbered one.are_numbered
        other.are_numbered in
        let also : AreEarly (insns_of block) one.numbered others = subst
        (λ (ps : List Placed). AreEarly (insns_of block) ps others) (sym placed) other.are_early in
        let told = told_too (insns_of block) one.numbered in
        by_numbers (insns_of block) one.numbered early others one.are_early.all also.all
        (same_rising (numbers_of early) (numbers_of others) one.are_early.rising also.rising
        (λ j. (told early others one.are_early also j, told others early also one.are_early j)))

    pub one_verdict_of : (one other : Answer) → IsVerdict block packed one → IsVerdict block packed other
        → IsSameVerdict one other
    one_verdict_of Same Same a b = tt
    one_verdict_of Same (Missing other) a b = absurd (let e = is_same_too (Missing other) a b in cc)
    one_verdict_of Same (Extra other) a b = absurd (let e = is_same_too (Extra other) a b in cc)
    one_verdict_of Same (TooEarly others) a b = absurd (let e = is_same_too (TooEarly others) a b in cc)
    one_verdict_of (Missing line) Same a b = absurd (let e = is_same_too (Missing line) b a in cc)
    one_verdict_of (Extra line) Same a b = absurd (let e = is_same_too (Extra line) b a in cc)
    one_verdict_of (TooEarly early) Same a b = absurd (let e = is_same_too (TooEarly early) b a in cc)
    one_verdict_of (Missing line) (Missing other) a b =
        one_missing packed.placed lawful.rules block.insns line other a b
    one_verdict_of (Missing line) (Extra other) a b = absurd
        (none_missing packed.placed lawful.rules block.insns line b.taken (b.first ∷ b.later) a b.are_taken)
    one_verdict_of (Missing line) (TooEarly others) a b = absurd
        (none_missing packed.placed lawful.rules block.insns line b.numbered [] a b.are_numbered)
    one_verdict_of (Extra line) (Missing other) a b = absurd
        (none_missing packed.placed lawful.rules block.insns other a.taken (a.first ∷ a.later) b a.are_taken)
    one_verdict_of (TooEarly early) (Missing other) a b = absurd
        (none_missing packed.placed lawful.rules block.insns other a.numbered [] b a.are_numbered)
    one_verdict_of (Extra line) (Extra other) a b = one_extra packed.placed lawful.rules block.insns line other a b
    one_verdict_of (Extra line) (TooEarly others) a b = absurd
        (none_extra packed.placed lawful.rules block.insns line b.numbered a b.are_numbered)
    one_verdict_of (TooEarly early) (Extra other) a b = absurd
        (none_extra packed.placed lawful.rules block.insns other a.numbered b a.are_numbered)
    one_verdict_of (TooEarly early) (TooEarly others) a b = two_early early.items others.items a b

pub one_verdict : (block : Serial) (packed : Packed) → HasOneVerdict block packed
one_verdict block packed sound lawful one other a b = one_verdict_of block packed sound lawful one other a b
