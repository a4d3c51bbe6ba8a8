-- Where as many instructions are issued in some cycles alone as find room there, all others leave these.
use Rattle.std.proofs.Common.{arith, ◌≡◌, ◌≢◌, ℕ, zero, suc, ◌+◌, ◌-◌, ◌<◌, ◌≤◌, List, length, get_or, refl, sym, ap}
use Rattle.std.proofs.Common.{◌∙◌, subst, inl, inr, ◌⊎◌}
use Rattle.std.specs.Prelude.{slice_get, slice_set, Some}
use Rattle.std.proofs.lemmas.Bool.{cases_eq, cases_lt}
use Rattle.std.proofs.lemmas.List.{get_or-set_other, length-set}
use Rattle.std.proofs.lemmas.Option.{slice_get-get_or, slice_get_past, same_Some}
use Rattle.c62_insn.specs.declared.insn.Insn.{Insn}
use Rattle.c62_sheet.specs.declared.entry.Spot.{Spot}
use Rattle.c62_sheet.specs.Lawful.{Spots, IsAt}
use Rattle.c62_sheet.specs.Counts.{HasCount}
use Rattle.c62_bound.specs.Bound.{WaitsFor}
use Rattle.c62_bound.specs.Laws.{IsSeated}
use Rattle.c62_refute.specs.declared.window.Window.{Window as Cycles}
use Rattle.c62_refute.specs.declared.crowd.Stretch.{Stretch as Part}
use Rattle.c62_refute.specs.Window.{IsIn, AreIn, KeepAll}
use Rattle.c62_refute.specs.Crowd.{IsInside, room_in}
use Rattle.c62_bound.proofs.Finding.{AreIssuedWithin, few_wait}
use Rattle.c62_refute.proofs.Holding.{any_window, window_at, at_set}

-- ---- one more is counted

abbrev WithOne : (ℕ → Type 0) → ℕ → ℕ → Type 0
WithOne Is j k = Is k ⊎ (k ≡ j)

as_many_below : (Is : ℕ → Type 0) (j n count : ℕ) → n ≤ j → HasCount Is n count → HasCount (WithOne Is j) n count
as_many_below Is j zero count low has = has
as_many_below Is j (suc n) count low has = elim has [
  | inl w ↦ inl (inl w.0, (w.1.0, w.1.1, as_many_below Is j n w.1.0 (omega (arith, low)) w.1.2))
  | inr w ↦ inr (λ either. other w.0 either, as_many_below Is j n count (omega (arith, low)) w.1)
]
  where
    other : (Is n → ⊥) → WithOne Is j n → ⊥
    other none (inl is) = none is
    other none (inr e) = omega (arith, low, e)

one_more : (Is : ℕ → Type 0) (j n count : ℕ) → j < n → (Is j → ⊥) → HasCount Is n count
    → HasCount (WithOne Is j) n (count + 1)
one_more Is j zero count low none has = absurd (omega (arith, low))
one_more Is j (suc n) count low none has = elim (cases_eq n j) [
  | inl e ↦ elim has [
    | inl w ↦ absurd (none (subst Is e w.0))
    | inr w ↦ inl (inr e, (count, refl, as_many_below Is j n count (omega (arith, e)) w.1))
  ]
  | inr ne ↦ elim has [
    | inl w ↦
        (let rest = one_more Is j n w.1.0 (omega (arith, low, ne)) none w.1.2 in
        let one = w.1.1 in
        inl (inl w.0, (w.1.0 + 1, omega (arith, one), rest)))
    | inr w ↦ inr (λ either. other w.0 ne either, one_more Is j n count (omega (arith, low, ne)) none w.1)
  ]
]
  where
    other : (Is n → ⊥) → n ≢ j → WithOne Is j n → ⊥
    other out ne (inl is) = out is
    other out ne (inr e) = ne e

-- ---- a schedule that the windows hold

module _ (block : List Insn) (set : Spots) (cycles : ℕ) (seated : IsSeated block set cycles) (windows : List Cycles)
    (are : AreIn windows set) (part : Part) where
  extent : ℕ
  extent = part.last - part.first + 1

  inside_within : (j : ℕ) (s : Spot) → IsInside block windows part j → IsAt set j s
      → WaitsFor block part.kind part.side j × (part.first ≤ s.cycle)
      × (s.cycle < part.first + (part.last - part.first + 1))
  inside_within j s inside is =
      let here = are j inside.window s inside.is is in
      let begin = inside.begin in
      let ends = inside.ends in
      (inside.waits, omega (arith, here.0, begin), omega (arith, here.0, here.1, begin, ends))

  pub few_inside : (count : ℕ) → HasCount (IsInside block windows part) (length block) count → count ≤ room_in part
  few_inside count has =
      few_wait block set cycles seated part.kind part.side (IsInside block windows part) part.first
      (part.last - part.first + 1)
      (λ j s low inside is. inside_within j s inside is) count has

  pub leaves : (count j : ℕ) (s : Spot) → HasCount (IsInside block windows part) (length block) count
      → room_in part ≤ count → j < length block
      → WaitsFor block part.kind part.side j → (IsInside block windows part j → ⊥) → IsAt set j s
      → (s.cycle < part.first) ⊎ (part.last < s.cycle)
  leaves count j s has full low waits out is = elim (cases_lt s.cycle part.first) [
    | inl before ↦ inl before
    | inr from ↦ elim (cases_lt part.last s.cycle) [
      | inl behind ↦ inr behind
      | inr to ↦ absurd (too_many from to)
    ]
  ]
    where
      within : part.first ≤ s.cycle → s.cycle ≤ part.last
          → AreIssuedWithin block set cycles seated part.kind part.side (WithOne (IsInside block windows part) j)
          part.first (part.last - part.first + 1)
      within from to k t small (inl inside) at = inside_within k t inside at
      within from to k t small (inr e) at =
          let same : t ≡ s = same_Some t s (sym at ∙ subst (λ (n : ℕ). IsAt set n s) (sym e) is) in
          subst (λ (r : Spot). WaitsFor block part.kind part.side k × (part.first ≤ r.cycle)
          × (r.cycle < part.first + (part.last - part.first + 1))) (sym same)
          (subst (WaitsFor block part.kind part.side) (sym e) waits, from, omega (arith, from, to))

      too_many : part.first ≤ s.cycle → s.cycle ≤ part.last → ⊥
      too_many from to =
          let fits = few_wait block set cycles seated part.kind part.side (WithOne (IsInside block windows part) j)
          part.first (part.last - part.first + 1)
          (within from to) (count + 1) (one_more (IsInside block windows part) j (length block) count low out has) in
          omega (arith, fits, full)

-- ---- one of the others leaves

still_inside : (block : List Insn) (old new : List Cycles) (part : Part) (i : ℕ) → slice_get new i ≡ slice_get old i
    → IsInside block old part i
    → IsInside block new part i
still_inside block old new part i same inside = record {
  waits = inside.waits;
  window = inside.window;
  is = same ∙ inside.is;
  begin = inside.begin;
  ends = inside.ends;
}

pub part_one : (block : List Insn) (old new : List Cycles) (part : Part) (count i : ℕ) (out : Cycles)
    → length new ≡ length block → KeepAll block old new
    → slice_get new i ≡ slice_get old i → HasCount (IsInside block old part) (length block) count → room_in part ≤ count
    → i < length block
    → WaitsFor block part.kind part.side i → (IsInside block new part i → ⊥)
    → ((c : ℕ) → IsIn (get_or new i any_window) c → (c < part.first) ⊎ (part.last < c) → IsIn out c)
    → KeepAll block old (slice_set new i out)
part_one block old new part count i out sized keeps same has full low waits apart fits set cycles seated are j w s at
    is = elim (at_set new i j out w at) [
      | inl v ↦
          (let own : IsAt set i s = subst (λ (k : ℕ). IsAt set k s) v.0 is in
          let window = window_at new i (omega (arith, low, sized)) in
          let here = keeps set cycles seated are i (get_or new i any_window) s window own in
          let gone = leaves block set cycles seated old are part count i s has full low waits
          (λ inside. apart (still_inside block old new part i same inside)) own in
          subst (λ (c : Cycles). IsIn c s.cycle) (sym v.1) (fits s.cycle here gone))
      | inr v ↦ keeps set cycles seated are j w s v.1 is
    ]

pub rest_one : (old new : List Cycles) (i : ℕ) (out : Cycles) → ((k : ℕ) → i ≤ k → slice_get new k ≡ slice_get old k)
    → (k : ℕ) → i + 1 ≤ k → slice_get (slice_set new i out) k ≡ slice_get old k
rest_one old new i out rest k above = elim (cases_lt k (length new)) [
  | inl low ↦
      (slice_get-get_or (slice_set new i out) k any_window (omega (arith, low, length-set new i out))
      ∙ ap Some (get_or-set_other new i k out any_window (λ e. omega (arith, e, above)))
      ∙ sym (slice_get-get_or new k any_window low) ∙ rest k (omega (arith, above)))
  | inr high ↦
      (slice_get_past (slice_set new i out) k (omega (arith, high, length-set new i out))
      ∙ sym (slice_get_past new k (omega (arith, high)))
      ∙ rest k (omega (arith, above)))
]
