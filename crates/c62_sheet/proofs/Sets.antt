-- Who stands where, after one was placed or taken out.
use Rattle.c62_sheet.proofs.Common.{L, A, arith, ◌≡◌, ◌≢◌, ℕ, ◌<◌, ◌≤◌, length, Option, Some, None, sym, ◌∙◌, ◌⊎◌, take}
use Rattle.c62_sheet.proofs.Common.{get_or-set_same}
use Rattle.c62_sheet.proofs.Common.{get_or-set_other, slice_set, take-set-lt, ext_get_or, take_all, set-set, set-get_or}
use Rattle.c62_sheet.proofs.Common.{get_or_past}
use Rattle.c62_sheet.proofs.Common.{length-replicate, Spot, Spots, IsAt, spot_at, placed, withdrawn, nothing_placed}
use Rattle.c62_sheet.proofs.Common.{get_or-replicate, take-take}

-- a spot, where one is asked for that is not used
abbrev pub any_spot : Spot
any_spot = record { cycle = 0; unit = record { letter = L; side = A } }

pub spot_at-placed_same : (set : Spots) (i : ℕ) (s : Spot) → i < length set → spot_at (placed set i s) i ≡ Some s
spot_at-placed_same set i s lt = get_or-set_same set i (Some s) None lt

pub spot_at-placed_other : (set : Spots) (i j : ℕ) (s : Spot) → j ≢ i → spot_at (placed set i s) j ≡ spot_at set j
spot_at-placed_other set i j s ne = get_or-set_other set i j (Some s) None ne

pub spot_at-withdrawn_same : (set : Spots) (i : ℕ) → i < length set → spot_at (withdrawn set i) i ≡ None
spot_at-withdrawn_same set i lt = get_or-set_same set i None None lt

pub spot_at-withdrawn_other : (set : Spots) (i j : ℕ) → j ≢ i → spot_at (withdrawn set i) j ≡ spot_at set j
spot_at-withdrawn_other set i j ne = get_or-set_other set i j None None ne

pub IsAt-placed : (set : Spots) (i j : ℕ) (s t : Spot) → i < length set → IsAt (placed set i s) j t
    → ((j ≡ i) × (t ≡ s)) ⊎ ((j ≢ i) × IsAt set j t)
IsAt-placed set i j s t lt at = grind (arith, spot_at-placed_same set i s lt, spot_at-placed_other set i j s)

pub IsAt-withdrawn : (set : Spots) (i j : ℕ) (t : Spot) → i < length set → IsAt (withdrawn set i) j t → (j ≢ i)
    × IsAt set j t
IsAt-withdrawn set i j t lt at = grind (arith, spot_at-withdrawn_same set i lt, spot_at-withdrawn_other set i j)

-- what is taken out and placed again is as it was
pub placed-withdrawn : (set : Spots) (i : ℕ) (s : Spot) → IsAt set i s → placed (withdrawn set i) i s ≡ set
placed-withdrawn set i s at = set-set set i None (Some s) ∙ rw (← at) (set-get_or set i None)

-- nothing stands anywhere while nothing is placed
pub nothing_at : (count i : ℕ) → spot_at (nothing_placed count) i ≡ None
nothing_at count i =
    let past = get_or_past (nothing_placed count) i None in
    grind (
      arith,
      get_or-replicate {A = Option Spot} count i None None,
      past,
      length-replicate {A = Option Spot} count
          None,
    )

-- a set of which nothing stands anywhere
pub nothing_is : (set : Spots) (count : ℕ) → length set ≡ count → ((k : ℕ) → k < count → spot_at set k ≡ None)
    → set ≡ nothing_placed count
nothing_is set count sized none =
    ext_get_or None set (nothing_placed count) (sized ∙ sym (length-replicate {A = Option Spot} count None))
    (λ k lt. none k (omega (arith, lt, sized)) ∙ sym (nothing_at count k))

-- a copy from which one is taken out
pub rest-withdrawn : (set rest : Spots) (q n k : ℕ) → take k rest ≡ take k set → length set ≤ k
    → length set ≤ length rest → q < length set → n ≡ q
    → take (length set) (slice_set rest n None) ≡ withdrawn set q
rest-withdrawn set rest q n k same all room within at =
    let whole = take-take (length set) k rest all in
    grind (
      arith,
      take-set-lt (length set) rest q None within,
      whole,
      take-take (length set) k set all,
      take_all
          (length set) set,
    )
