-- The cuts of a text above a line.
use Rattle.c62_adopt_back.proofs.Common.{nat_tests, arith, ◌≡◌, ℕ, ◌+◌, ◌<◌, ◌≤◌, List, [], ◌∷◌, Bool, false, nat_le}
use Rattle.c62_adopt_back.proofs.Common.{nat_lt, if◌then◌else◌}
use Rattle.c62_adopt_back.proofs.Common.{is_cut_behind, start_of}
use Rattle.c62_adopt_cut.specs.Cut.{with_cut}

-- from one of these cuts on, the other is the last
pub record AreCuts (start last : ℕ) (cuts : List ℕ) : Type 0 where
  pub starts : (cycle : ℕ) → start ≤ cycle → start_of cycle cuts ≡ (if nat_le last cycle then last else start)
  pub behind : (cycle : ℕ) → is_cut_behind cycle cuts ≡ nat_lt cycle last

pub no_cuts : AreCuts 0 0 []
no_cuts = record { starts = λ cycle le. grind (arith, nat_tests); behind = λ cycle. grind (arith, nat_tests) }

-- a label cuts behind all that
pub cut_by_label : (start last cycle : ℕ) (cuts : List ℕ) → AreCuts start last cuts → start ≤ cycle → last ≤ cycle
    → AreCuts cycle cycle (cycle ∷ cuts)
cut_by_label start last cycle cuts are low late = record {
  starts = λ c le. grind (arith, nat_tests, are.starts c);
  behind = λ c. grind (arith, nat_tests, are.behind c);
}

-- a branch cuts behind its delay slots, where none above it did
pub cut_by_branch : (start cycle : ℕ) (cuts : List ℕ) → AreCuts start start cuts → start ≤ cycle
    → AreCuts start (cycle + 6) (with_cut cycle cuts)
cut_by_branch start cycle cuts are low =
    let free : is_cut_behind cycle cuts ≡ false = grind (arith, nat_tests, are.behind cycle) in
    rw free (record {
      starts = λ c le. grind (arith, nat_tests, are.starts c);
      behind = λ c. grind (arith, nat_tests, are.behind c);
    })

-- the last cut of a block of so many cycles, behind its branch and before it
abbrev pub last_cut : Bool → ℕ → ℕ → ℕ
last_cut branched start cycles = if branched then start + cycles else start

-- in the block's cycles it begins where it does
pub starts_here : (branched : Bool) (start cycles next : ℕ) (cuts : List ℕ)
    → AreCuts start (last_cut branched start cycles) cuts → next < cycles
    → start_of (start + next) cuts ≡ start
starts_here branched start cycles next cuts are below = grind (arith, nat_tests, are.starts (start + next))
