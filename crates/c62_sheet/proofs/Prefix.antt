-- The first numbers of a set.
use Rattle.c62_sheet.proofs.Common.{refl, sym, get_or, Option, arith, ◌≡◌, ℕ, zero, suc, ◌+◌, ◌<◌, ◌≤◌, List, length}
use Rattle.c62_sheet.proofs.Common.{None, ◌∙◌, get_or-set_same}
use Rattle.c62_sheet.proofs.Common.{get_or-set_other, length-set, slice_set, ext_get_or, set-set, set-get_or}
use Rattle.c62_sheet.proofs.Common.{length-replicate, Insn, Spots, spot_at}
use Rattle.c62_sheet.proofs.Common.{withdrawn, nothing_placed, IsLawful, IsLast, get_or_default, Spot, Some, get_or-map}
use Rattle.c62_sheet.proofs.Common.{length-map, map}
use Rattle.c62_sheet.proofs.Sets.{any_spot, nothing_at}
use Rattle.c62_sheet.proofs.Placing.{lawful_withdrawn}

-- of the numbers below i a set has these spots, and of the others nothing
pub record IsUpTo (spots : List Spot) (i : ℕ) (set : Spots) : Type 0 where
  pub sized : length set ≡ length spots
  pub inside : (k : ℕ) (d : Spot) → k < i → spot_at set k ≡ Some (get_or spots k d)
  pub outside : (k : ℕ) → i ≤ k → spot_at set k ≡ None

pub upto_none : (spots : List Spot) (n : ℕ) → n ≡ length spots → IsUpTo spots 0 (nothing_placed n)
upto_none spots n e =
    record {
      sized = length-replicate n None
          ∙ e;
      inside = λ k d lt. absurd (omega (arith, lt));
      outside = λ k le. nothing_at n k;
    }

pub upto_more : (spots : List Spot) (set : Spots) (i n : ℕ) → i < length spots → n ≡ i → IsUpTo spots i set
    → IsUpTo spots (i + 1) (slice_set set i (Some (get_or spots n any_spot)))
upto_more spots set i n within at upto =
    let same = get_or-set_same set i (Some (get_or spots n any_spot)) None (omega (arith, upto.sized)) in
    record {
      sized = length-set set i (Some (get_or spots n any_spot)) ∙ upto.sized;
      inside = λ k d lt.
          grind (
            arith,
            same,
            get_or-set_other set i k (Some (get_or spots n any_spot)) None,
            upto.inside k d,
            get_or_default spots i d any_spot,
          );
      outside = λ k le. grind (arith, get_or-set_other set i k (Some (get_or spots n any_spot)) None, upto.outside k);
    }

pub upto_all : (spots : List Spot) (set : Spots) (i : ℕ) → length spots ≤ i → IsUpTo spots i set → set ≡ map Some spots
upto_all spots set i all upto =
    ext_get_or None set (map Some spots) (upto.sized ∙ sym (length-map spots (λ (s : Spot). Some s)))
    (λ k lt. upto.inside k any_spot (omega (arith, lt, upto.sized))
    ∙ sym (get_or-map Some spots k any_spot None (omega (arith, lt, upto.sized))))

-- where all are lawful, so are the first of them
pub lawful_upto : (block : List Insn) (spots : List Spot) → length spots ≡ length block
    → IsLawful block (map Some spots) → (d i : ℕ) (set : Spots)
    → i + d ≡ length block → IsUpTo spots i set → IsLawful block set
lawful_upto block spots sized lawful zero i set e upto = rw (upto_all spots set i (omega arith) upto) lawful
lawful_upto block spots sized lawful (suc d) i set e upto =
    let stands : Option Spot = Some (get_or spots i any_spot) in
    let upto_next : IsUpTo spots (i + 1) (slice_set set i stands) = upto_more spots set i i (omega arith) refl upto in
    let next = lawful_upto block spots sized lawful d (i + 1) (slice_set set i stands) (omega arith) upto_next in
    let last : IsLast block (slice_set set i stands) i = λ j depends. upto_next.outside j
    (omega (arith, depends.1.before)) in
    let back : withdrawn (slice_set set i stands) i ≡ set = set-set set i stands None
    ∙ rw (← upto.outside i (omega arith)) (set-get_or set i None) in
    rw back at (lawful_withdrawn block (slice_set set i stands) i next (omega arith) last)
