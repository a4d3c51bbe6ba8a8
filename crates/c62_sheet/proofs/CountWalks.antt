-- Walks along the dependences that change the counts of an index.
use Rattle.c62_sheet.proofs.Common.{arith, ◌≡◌, ℕ, ◌+◌, ◌<◌, ◌≤◌, true, List, length}
use Rattle.c62_sheet.proofs.Common.{get_or, Option, None}
use Rattle.c62_sheet.proofs.Common.{take, get_or-set_same}
use Rattle.c62_sheet.proofs.Common.{get_or-set_other, Contains}
use Rattle.c62_sheet.proofs.Common.{is_some, slice_index, slice_set, nat_tests}
use Rattle.c62_sheet.proofs.Common.{get_or_default, sum_by_more, Insn}
use Rattle.c62_sheet.proofs.Common.{Link, short_is, Spot, Spots, spot_at}
use Rattle.c62_sheet.proofs.Common.{IsLast, IsLawful}
use Rattle.c62_sheet.proofs.Common.{times}
use Rattle.c62_sheet.proofs.Common.{IsDirect}
use Rattle.c62_sheet.proofs.Common.{direct_followers, All-get_or, cond}
use Rattle.c62_sheet.proofs.Common.{◌==◌}
use Rattle.c62_sheet.proofs.Common.{sum_by-take-le}
use Rattle.c62_sheet.proofs.Common.{direct_followers_are}
use Rattle.c62_depend.specs.Plan.{IsShort}
use Rattle.c62_sheet.proofs.Founding.{depends_direct, last_directly}

-- ---- walks along the dependences that change the counts

module _ (links : List Link) (old now : List ℕ) (k : ℕ) (d : Link) (lt : k < length links) where
  -- one more of the followers stands at the end of the walk
  pub times-more : (j : ℕ)
      → times j (take (k + 1) links) ≡ times j (take k links) + cond ((get_or links k d).number == j) 1 0
  times-more j = sum_by_more (λ (link : Link). cond (link.number == j) 1 0) links k d lt

  pub times-part : (j : ℕ) → times j (take (k + 1) links) ≤ times j links
  times-part j = sum_by-take-le (λ (link : Link). cond (link.number == j) 1 0) links (k + 1)

  pub lowered_some : ((j : ℕ) → times j links ≤ slice_index old j)
      → ((j : ℕ) → slice_index now j + times j (take k links) ≡ slice_index old j)
      → 1 ≤ slice_index now (get_or links k d).number
  lowered_some enough so_far =
      let j : ℕ = (get_or links k d).number in
      grind (arith, nat_tests, so_far j, enough j, times-more j, times-part j)

  pub raised_room : ((j : ℕ) → slice_index old j + times j links < 65536)
      → ((j : ℕ) → slice_index old j + times j (take k links) ≡ slice_index now j)
      → slice_index now (get_or links k d).number + 1 < 65536
  raised_room room so_far =
      let j : ℕ = (get_or links k d).number in
      grind (arith, nat_tests, so_far j, room j, times-more j, times-part j)

  pub raised_more : (n : ℕ) → n ≡ (get_or links k d).number → n < length now
      → ((j : ℕ) → slice_index old j + times j (take k links) ≡ slice_index now j)
      → (j : ℕ) → slice_index old j + times j (take (k + 1) links) ≡ slice_index
      (slice_set now n (slice_index now n + 1)) j
  raised_more n at within so_far j =
      let here = get_or-set_same now n (slice_index now n + 1) 0 within in
      grind (arith, nat_tests, so_far j, times-more j, here, get_or-set_other now n j (slice_index now n + 1) 0)

-- ---- what depends on a number

module _ (block : List Insn) (i : ℕ) (links : List Link) (is : links ≡ direct_followers block i) where
  pub follower_is : (k : ℕ) (d : Link) → k < length links
      → IsDirect block i (get_or links k d).number (get_or links k d).latency
  follower_is k d lt =
      All-get_or (λ (x : Link). IsDirect block i x.number x.latency) links k d lt
      (rw is (direct_followers_are block i).all)

  pub follower_short : (k : ℕ) (d : Link) → k < length links
      → IsShort block i (get_or links k d).number (get_or links k d).latency
  follower_short k d lt = short_is block i (get_or links k d).number (get_or links k d).latency (follower_is k d lt).is

  pub follower_at : (k : ℕ) (d : Link) → k < length links → (get_or links k d).number < length block
  follower_at k d lt = (follower_short k d lt).within

  -- a placed follower
  pub not_last : (set : Spots) (k n : ℕ) (d : Link) (o : Option Spot) → k < length links → length set ≡ length block
      → n ≡ (get_or links k d).number
      → true ≡ is_some (get_or set n o) → IsLast block set i → ⊥
  not_last set k n d o lt sized at some last =
      let link : Link = get_or links k d in
      let none = last link.number (depends_direct block i link.number (link.latency, follower_is k d lt)) in
      let there = get_or_default set link.number o None (omega (arith, follower_at k d lt, sized)) in
      grind (arith, none, there)

  pub last_from : (set : Spots) (n : ℕ) → IsLawful block set → length links ≤ n
      → ((k : ℕ) (d : Link) → k < n → spot_at set (get_or links k d).number ≡ None) → IsLast block set i
  last_from set n lawful all none = last_directly block set lawful i (λ j l.
      let link : Link = record { number = j; latency = l.0 } in
      let there : Contains links link = rw is ((direct_followers_are block i).each link l.1) in
      let free = none there.0 link (omega (arith, there.1, all)) in
      rw there.2 at free)
