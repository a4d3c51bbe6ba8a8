-- Sets of numbers of instructions.
use Rattle.std.specs.Prelude.{◌≡◌, ℕ, ◌/◌, ◌%◌, ◌<◌, ◌≤◌, ◌==◌, Bool, true, false, slice_index, Option, MatchOption}
use Rattle.std.specs.Int.{bit_at}
use Rattle.c62_read.specs.declared.limits.TheConstants.{MOST_INSTRUCTIONS}
use Rattle.c62_depend.specs.declared.number_set.NumberSet.{NumberSet}

-- whether the number is in the set
abbrev pub number_in : NumberSet → ℕ → Bool
number_in set k = bit_at (slice_index set.words (k / 64)) (k % 64) == 1

-- the least number of the set from this one on
pub record IsLeastFrom (set : NumberSet) (from k : ℕ) : Type 0 where
  pub behind : from ≤ k
  pub within : k < MOST_INSTRUCTIONS
  pub is_in : number_in set k ≡ true
  pub none : (other : ℕ) → from ≤ other → other < k → number_in set other ≡ false

-- that number, or that there is none
abbrev pub IsNext : NumberSet → ℕ → Option ℕ → Type 0
IsNext set from found = MatchOption found ((k : ℕ) → from ≤ k → number_in set k ≡ false) (IsLeastFrom set from)
