-- The direct dependences keep all others.
use Rattle.c62_depend.proofs.Common.{◌≡◌, ℕ, zero, suc, ◌+◌, ◌<◌, ◌≤◌, ℤ, pos, ◌+ℤ◌, ◌≤ℤ◌, Bool, true, false, List}
use Rattle.c62_depend.proofs.Common.{Option, Some, refl, sym, ap, ◌∙◌, subst, arith, ints, nat_tests, ◌||◌, ◌&&◌, not}
use Rattle.c62_depend.proofs.Common.{slice_get, Insn, register_writes, reads_register, IsBound, ReadAfterWrite}
use Rattle.c62_depend.proofs.Common.{WriteAfterRead, WriteAfterWrite, AfterStore, StoreAfterLoad, BeforeBranch}
use Rattle.c62_depend.proofs.Common.{IsLatency, are_disjoint, latency, or_left, or_right}
use Rattle.c62_depend.proofs.Latencies.{latency-is}
use Rattle.c62_depend.proofs.WrittenLemmas.{some_write}
use Rattle.c62_depend.specs.Direct.{is_open, meet_in, are_ordered, is_branch_in, land_behind, meet_openly}
use Rattle.c62_depend.specs.Direct.{direct_before, Chain, IsImplied, DirectOnesBind}
use Rattle.c62_depend.specs.Direct.Chain.{single, longer}
use Rattle.c62_depend.proofs.Plans.{short_is}
unfoldable use Rattle.c62_depend.specs.Direct.{keep_order, is_passed, binds_beside, is_direct}
use Rattle.c62_depend.proofs.Relays.{Relay}
use Rattle.c62_depend.proofs.RegisterRelays.{by_read, by_spared, by_writes, closed_first, closed_second}
use Rattle.c62_depend.proofs.MemoryRelays.{by_passing}
use Rattle.c62_depend.proofs.BranchRelays.{by_landing}

-- ---- all

nothing_of : (a b : Bool) → (a || b) ≡ false → (a ≡ false) × (b ≡ false)
nothing_of true b h = cc
nothing_of false b h = (refl, h)

passed_of : (keeps passed : Bool) → (keeps && not passed) ≡ false → keeps ≡ true → passed ≡ true
passed_of keeps true h k = refl
passed_of true false h k = cc
passed_of false false h k = cc

-- a bound between numbers of which the later does not depend directly on the earlier
pub relayed : (block : List Insn) (i j : ℕ) (p q : Insn) (b : ℤ) → slice_get block i ≡ Some p
    → slice_get block j ≡ Some q → i < j
    → is_direct block i j ≡ false → IsBound block i j p q b → Relay block i j b
unfolding is_direct binds_beside keep_order
relayed block i j p q b at_i at_j before none bound = by_case bound
  where
    behind : Bool
    behind = is_branch_in (slice_get block j) && not (land_behind block i (direct_before block i j))

    ordered : Bool
    ordered = keep_order block i j && not (is_passed block i j)

    parts : (meet_openly block i j (slice_get block i) (slice_get block j) ≡ false) × ((ordered || behind) ≡ false)
    parts = nothing_of (meet_openly block i j (slice_get block i) (slice_get block j)) (ordered || behind) none

    apart : meet_in (is_open block i j) p q ≡ false
    apart = ap (λ (o : Option Insn). meet_openly block i j o (Some q)) (sym at_i)
        ∙ ap (meet_openly block i j (slice_get block i)) (sym at_j) ∙ parts.0

    rest : (ordered ≡ false) × (behind ≡ false)
    rest = nothing_of ordered behind parts.1

    -- an order that the two keep
    passed : are_ordered (Some p) (Some q) ≡ true → are_disjoint block i j ≡ false → is_passed block i j ≡ true
    passed meet free = passed_of (keep_order block i j) (is_passed block i j) rest.0 (rw (free, at_i, at_j, meet) refl)

    by_case : IsBound block i j p q b → Relay block i j b
    by_case (ReadAfterWrite reg delay writes reads e) =
        by_read block i j p q b at_i at_j before reg delay writes reads e
        (closed_first block i j p q b at_i at_j before reg delay apart writes (or_left (reads_register q reg) _ reads))
    by_case (WriteAfterRead reg delay writes reads e) =
        by_spared block i j p q b at_i at_j before reg delay writes reads e
        (closed_second block i j p q b at_i at_j before reg delay apart writes reads)
    by_case (WriteAfterWrite reg first second one other free e) =
        by_writes block i j p q b at_i at_j before reg first second one other e
        (closed_first block i j p q b at_i at_j before reg first apart one
        (or_right (reads_register q reg) _ (some_write reg second (register_writes q) other)))
    by_case (AfterStore store access free e) =
        by_passing block i j b before (passed (grind (arith, nat_tests)) free)
        (λ one other low high is. let first : one ≡ pos 1 = is p at_i store in omega (arith, ints, e))
    by_case (StoreAfterLoad load store free e) =
        by_passing block i j b before (passed (grind (arith, nat_tests)) free)
        (λ one other low high is. omega (arith, ints, e))
    by_case (BeforeBranch is e) =
        by_landing block i j p q b at_i at_j is e
        (passed_of (is_branch_in (slice_get block j)) (land_behind block i (direct_before block i j)) rest.1
        (rw at_j is))

pub relayed_latency : (block : List Insn) (i j : ℕ) (cycles : ℤ) → latency block i j ≡ Some cycles
    → is_direct block i j ≡ false → Relay block i j cycles
relayed_latency block i j cycles e none =
    let known : IsLatency block i j (Some cycles) = subst (IsLatency block i j) e (latency-is block i j) in
    let w = known.applies in
    relayed block i j w.first w.second cycles w.is_first w.is_second w.before none w.applies

-- ---- chains

joined_chains : (block : List Insn) (i k j : ℕ) (one other : ℤ) → Chain block i k one → Chain block k j other
    → (sum : ℤ) × Chain block i j sum × ((one +ℤ other) ≤ℤ sum)
joined_chains block i k j one other first (single _ _ is) =
    (one +ℤ other, longer k j one other first is, omega (arith, ints))
joined_chains block i k j one other first (longer m _ sum cycles second is) =
    let w = joined_chains block i k m one sum first second in
    let low : (one +ℤ sum) ≤ℤ w.0 = w.2 in
    (w.0 +ℤ cycles, longer m j w.0 cycles w.1 is, omega (arith, ints))

-- each dependence over at most so many numbers is implied
implied_within : (block : List Insn) (far i j : ℕ) (cycles : ℤ) → j ≤ i + far → latency block i j ≡ Some cycles
    → IsImplied block i j cycles
implied_within block zero i j cycles near e = absurd (omega (arith, near, (short_is block i j cycles e).before))
implied_within block (suc far) i j cycles near e =
    by_test (λ m n b close is. implied_within block far m n b close is) (is_direct block i j) refl
  where
    by_test : ((m n : ℕ) (b : ℤ) → n ≤ m + far → latency block m n ≡ Some b → IsImplied block m n b) → (t : Bool)
        → is_direct block i j ≡ t
        → IsImplied block i j cycles
    by_test implied true direct = (cycles, single j cycles (record { direct = direct; is = e }), omega (arith, ints))
    by_test implied false none =
        let r = relayed_latency block i j cycles e none in
        let after : i < r.by = r.after in
        let before : r.by < j = r.before in
        let first = implied i r.by r.first (omega arith) r.is_first in
        let second = implied r.by j r.second (omega arith) r.is_second in
        let joined = joined_chains block i r.by j first.0 second.0 first.1 second.1 in
        let enough : cycles ≤ℤ (r.first +ℤ r.second) = r.enough in
        let low : r.first ≤ℤ first.0 = first.2 in
        let high : r.second ≤ℤ second.0 = second.2 in
        let whole : (first.0 +ℤ second.0) ≤ℤ joined.0 = joined.2 in
        (joined.0, joined.1, omega (arith, ints))

pub direct_ones_bind : (block : List Insn) → DirectOnesBind block
direct_ones_bind block i j cycles e = implied_within block j i j cycles (omega arith) e
