-- Who stands at a spot, where numbers are placed and taken out.
use Rattle.c62_sheet.proofs.Common.{arith, ◌≡◌, ℕ, ◌*◌, ◌<◌, List, length, slice_set, None, refl, sym, ◌∙◌, inl, inr}
use Rattle.c62_sheet.proofs.Common.{cases_eq}
use Rattle.c62_sheet.proofs.Common.{get_or-set_same, get_or-set_other, length-set, get_or-replicate, length-replicate}
use Rattle.c62_sheet.proofs.Common.{none-some, Insn, Spot, Spots, IsAt, spot_at}
use Rattle.c62_sheet.proofs.Common.{placed, withdrawn, nothing_placed, IsLawful, issues, index_of-below, same_index}
use Rattle.std.specs.Prelude.{replicate}
use Rattle.c62_rules.proofs.Capacities.{one-each-unit}
use Rattle.c62_sheet.specs.Standing.{place_of, AreStanding}
use Rattle.c62_sheet.proofs.Used.{insn_at}
use Rattle.c62_sheet.proofs.Victims.{at_in}
use Rattle.c62_sheet.proofs.Sets.{IsAt-placed, IsAt-withdrawn, spot_at-placed_same, nothing_at}
use Rattle.c62_sheet.proofs.IssuesOf.{placement-issued}

-- spots of one place are one
same_place : (s t : Spot) → place_of s ≡ place_of t → (s.cycle ≡ t.cycle) × (s.unit ≡ t.unit)
same_place s t e =
    let low = index_of-below s.unit in
    let other = index_of-below t.unit in
    (omega (arith, e, low, other), same_index s.unit t.unit (omega (arith, e, low, other)))

pub place_within : (s : Spot) (count : ℕ) → s.cycle < 5 * count → place_of s < 40 * count
place_within s count low = omega (arith, low, index_of-below s.unit)

-- one alone stands at a spot of a lawful set
alone : (block : List Insn) (set : Spots) (i j : ℕ) (s t : Spot) → IsLawful block set → IsAt set i s → IsAt set j t
    → place_of s ≡ place_of t → i ≡ j
alone block set i j s t lawful is_s is_t e =
    let v = insn_at block i (at_in block set i s lawful.sized is_s) in
    let w = insn_at block j (at_in block set j t lawful.sized is_t) in
    let same = same_place s t e in
    one-each-unit (issues block set) lawful.rules t.unit i j _ _
    (placement-issued block set i v.0 s lawful.sized v.1 is_s)
    (placement-issued block set j w.0 t lawful.sized w.1 is_t) same.0 same.1 refl

module _ (block : List Insn) (set : Spots) (standing : List ℕ) (i : ℕ) (lt : i < length block)
    (sized : length set ≡ length block)
    (are : AreStanding block set standing) where
  pub standing_placed : (s : Spot) (place : ℕ) → place ≡ place_of s → spot_at set i ≡ None
      → IsLawful block (placed set i s)
      → AreStanding block (placed set i s) (slice_set standing place i)
  standing_placed s place is free lawful =
      let here = spot_at-placed_same set i s (omega (arith, lt, sized)) in
      let low : place < length standing = omega
      (arith, is, are.sized, place_within s (length block) (lawful.within i s here)) in
      record {
        sized = length-set standing place i ∙ are.sized;
        within = λ p in_list. elim (cases_eq p place) [
          | inl e ↦ rw (e, get_or-set_same standing place i 0 low) lt
          | inr ne ↦ rw (get_or-set_other standing place p i 0 ne)
              (are.within p (omega (arith, in_list, length-set standing place i)))
        ];
        each = λ q t at. elim (cases_eq (place_of t) place) [
          | inl e ↦ rw (e, get_or-set_same standing place i 0 low)
              (alone block (placed set i s) i q s t lawful here at (sym is ∙ sym e))
          | inr ne ↦
              elim (IsAt-placed set i q s t (omega (arith, lt, sized)) at) [
                | inl same ↦ absurd (ne (rw same.1 (sym is)))
                | inr old ↦ rw (get_or-set_other standing place (place_of t) i 0 ne) (are.each q t old.1)
              ]
        ];
      }

  pub standing_withdrawn : AreStanding block (withdrawn set i) standing
  standing_withdrawn = record {
    sized = are.sized;
    within = are.within;
    each = λ q t at. are.each q t (IsAt-withdrawn set i q t (omega (arith, lt, sized)) at).1;
  }

pub standing_nothing : (block : List Insn) (set : Spots) (standing : List ℕ) → AreStanding block set standing
    → AreStanding block (nothing_placed (length block)) standing
standing_nothing block set standing are = record {
  sized = are.sized;
  within = are.within;
  each = λ q t at. absurd (none-some t (sym (nothing_at (length block) q) ∙ at));
}

pub standing_first : (block : List Insn) (n : ℕ) → n ≡ 40 * length block
    → AreStanding block (nothing_placed (length block)) (replicate n 0)
standing_first block n e =
    let zero : ℕ = 0 in
    let sized : length (replicate n zero) ≡ n = length-replicate n zero in
    record {
      sized = sized ∙ e;
      within = λ p low. rw (get_or-replicate n p zero zero (omega (arith, low, sized))) (omega (arith, e, low, sized));
      each = λ q t at. absurd (none-some t (sym (nothing_at (length block) q) ∙ at));
    }
