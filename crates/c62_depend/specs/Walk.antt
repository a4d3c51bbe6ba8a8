-- The numbers that an instruction depends on directly, part by part.
use Rattle.std.specs.Prelude.{◌≡◌, ℕ, ◌<◌, nat_lt, Bool, true, false, not, ◌&&◌, ◌||◌, List, length, slice_get, slice_index_or, Option, Some, None}
use Rattle.smallvec.specs.SmallVec.{SmallVec}
use Rattle.c62_op.specs.Shape.{is_load, is_store}
use Rattle.c62_insn.specs.declared.insn.Insn.{Insn}
use Rattle.c62_insn.specs.Insn.{op_of}
use Rattle.c62_depend.specs.declared.links.Link.{Link}
use Rattle.c62_depend.specs.declared.number_set.NumberSet.{NumberSet}
use Rattle.c62_pair.specs.declared.uses.Uses.{Uses}
use Rattle.c62_pair.specs.Uses.{insns_in}
use Rattle.c62_depend.specs.NumberSet.{number_in}
use Rattle.c62_depend.specs.Open.{no_numbers}
use Rattle.c62_depend.specs.Lists.{AreLists}
use Rattle.c62_depend.specs.Direct.{keep_order, is_passed, is_branch_in, land_behind, direct_before, is_direct}

-- the set has the numbers before j that a test tells
abbrev pub HasThose : (ℕ → Bool) → ℕ → NumberSet → Type 0
HasThose test j set = (k : ℕ) → number_in set k ≡ (nat_lt k j && test k)

abbrev pub accesses : Option Insn → Bool
accesses None = false
accesses (Some insn) = is_load (op_of insn) || is_store (op_of insn)

-- those that access memory
abbrev pub AreAccesses : List Uses → ℕ → NumberSet → Type 0
AreAccesses uses j set = HasThose (λ k. accesses (slice_get (insns_in uses) k)) j set

-- those that have an order with j
abbrev pub AreOrdered : List Uses → ℕ → NumberSet → Type 0
AreOrdered uses j set = HasThose (λ k. keep_order (insns_in uses) k j) j set

-- the sets have what each of the first numbers has an order with
pub record AreOrders (uses : List Uses) (count : ℕ) (orders : List NumberSet) : Type 0 where
  pub long : length orders ≡ count
  pub each : (k : ℕ) (d : NumberSet) → k < count → AreOrdered uses k (slice_index_or orders k d)

-- the set has what some number of another has in its set
pub record AreJoined (orders : List NumberSet) (found set : NumberSet) : Type 0 where
  pub some : (i : ℕ) → number_in set i ≡ true → (k : ℕ) × (number_in found k ≡ true) × (number_in (slice_index_or orders k no_numbers) i ≡ true)
  pub all : (i k : ℕ) → number_in found k ≡ true → number_in (slice_index_or orders k no_numbers) i ≡ true → number_in set i ≡ true

-- those of them that none between passes
abbrev pub AreUnpassed : List Uses → ℕ → NumberSet → Type 0
AreUnpassed uses j set = HasThose (λ k. keep_order (insns_in uses) k j && not (is_passed (insns_in uses) k j)) j set

-- where j is the branch, those behind which nothing before it lands
abbrev pub AreAwaited : List Uses → ℕ → NumberSet → Type 0
AreAwaited uses j set =
    HasThose (λ k. is_branch_in (slice_get (insns_in uses) j) && not (land_behind (insns_in uses) k (direct_before (insns_in uses) k j))) j set

-- those that j depends on directly
abbrev pub AreDirect : List Uses → ℕ → NumberSet → Type 0
AreDirect uses j set = HasThose (λ k. is_direct (insns_in uses) k j) j set

-- the list of each instruction has what depends on it directly, of the numbers before j
abbrev pub AreLinkedBefore : List Uses → ℕ → List (SmallVec Link) → Type 0
AreLinkedBefore uses j followers = AreLists (λ i. direct_before (insns_in uses) i j) (length uses) followers
