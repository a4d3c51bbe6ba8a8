-- The instructions that come too early, gathered one by one.
use Rattle.std.proofs.Common.{arith, ◌≡◌, ℕ, ◌<◌, ◌≤◌, ◌+◌, List, [], ◌∷◌, ◌++◌, length, get_or, sym, ap, subst, ◌∙◌}
use Rattle.std.proofs.Common.{inl, inr, ◌⊎◌}
use Rattle.std.specs.Prelude.{All, Contains}
use Rattle.std.specs.List.Sorted.{IsStrictlyIncreasing}
use Rattle.std.proofs.Math.Seq.{get_or-append_seam}
use Rattle.std.proofs.lemmas.Bool.{cases_lt}
use Rattle.std.proofs.lemmas.Option.{slice_get_within}
use Rattle.std.proofs.lemmas.List.{get_or_append_left, length-append, length-map, map-append}
use Rattle.std.proofs.lemmas.List.Elements.{All-push, Contains-push, Contains-append_left}
use Rattle.c62_insn.specs.declared.insn.Insn.{Insn}
use Rattle.c62_packet.specs.declared.placed.Placed.{Placed}
use Rattle.c62_check.specs.declared.early.Early.{Early}
use Rattle.c62_check.specs.Early.{KeepsAll, IsEarly, numbers_of, AreEarly}

-- of the numbers below this one
pub record AreEarlyBelow (block : List Insn) (placed : List Placed) (count : ℕ) (early : List Early) : Type 0 where
  pub all : All (IsEarly block placed) early
  pub rising : IsStrictlyIncreasing (numbers_of early)
  pub below : (k : ℕ) → k < length (numbers_of early) → get_or (numbers_of early) k 0 < count
  pub others : (j : ℕ) → j < count → Contains (numbers_of early) j ⊎ KeepsAll block placed j

pub none_below : (block : List Insn) (placed : List Placed) (early : List Early) → early ≡ []
    → AreEarlyBelow block placed 0 early
none_below block placed early e = subst (λ (es : List Early). AreEarlyBelow block placed 0 es) (sym e) (record {
  all = λ k d inside. absurd (omega (arith, inside));
  rising = λ k inside. absurd (omega (arith, inside));
  below = λ k inside. absurd (omega (arith, inside));
  others = λ j low. absurd (omega (arith, low));
})

pub rising_push : (xs : List ℕ) (n : ℕ) → IsStrictlyIncreasing xs → ((k : ℕ) → k < length xs → get_or xs k 0 < n)
    → IsStrictlyIncreasing (xs ++ n ∷ [])
rising_push xs n rising below k inside =
    let long = length-append xs (n ∷ []) in
    elim (cases_lt (k + 1) (length xs)) [
      | inl early ↦
          (let one = get_or_append_left xs (n ∷ []) 0 k (omega (arith, early)) in
          let other = get_or_append_left xs (n ∷ []) 0 (k + 1) early in
          let less = rising k early in
          omega (arith, one, other, less))
      | inr late ↦
          (let last : k + 1 ≡ length xs = omega (arith, inside, long, late) in
          let one = get_or_append_left xs (n ∷ []) 0 k (omega (arith, last)) in
          let other : get_or (xs ++ n ∷ []) (k + 1) 0 ≡ n = ap (λ (m : ℕ). get_or (xs ++ n ∷ []) m 0) last
          ∙ get_or-append_seam xs n [] 0 in
          let less = below k (omega (arith, last)) in
          omega (arith, one, other, less))
    ]

pub below_push : (xs : List ℕ) (n : ℕ) → ((k : ℕ) → k < length xs → get_or xs k 0 < n) → (k : ℕ) → k < length (xs ++ n ∷ [])
    → get_or (xs ++ n ∷ []) k 0 < n + 1
below_push xs n below k inside =
    let long = length-append xs (n ∷ []) in
    elim (cases_lt k (length xs)) [
      | inl early ↦
          (let one = get_or_append_left xs (n ∷ []) 0 k early in
          let less = below k early in
          omega (arith, one, less))
      | inr late ↦
          (let last : k ≡ length xs = omega (arith, inside, long, late) in
          let other : get_or (xs ++ n ∷ []) k 0 ≡ n = ap (λ (m : ℕ). get_or (xs ++ n ∷ []) m 0) last
          ∙ get_or-append_seam xs n [] 0 in
          omega (arith, other))
    ]

pub early_next : (block : List Insn) (placed : List Placed) (count : ℕ) (early more : List Early) (each : Early)
    → AreEarlyBelow block placed count early
    → each.number ≡ count → IsEarly block placed each → more ≡ early ++ each ∷ []
    → AreEarlyBelow block placed (count + 1) more
early_next block placed count early more each are number is e =
    let numbers : numbers_of more ≡ numbers_of early ++ count ∷ [] =
    ap numbers_of e ∙ (map-append (λ (x : Early). x.number) early (each ∷ [])
    ∙ ap (λ (n : ℕ). numbers_of early ++ n ∷ []) number) in
    record {
      all = subst (λ (es : List Early). All (IsEarly block placed) es) (sym e)
          (All-push (IsEarly block placed) early each are.all is);
      rising = subst (λ (ns : List ℕ). IsStrictlyIncreasing ns) (sym numbers)
          (rising_push (numbers_of early) count are.rising are.below);
      below = subst (λ (ns : List ℕ). (k : ℕ) → k < length ns
          → get_or ns k 0 < count + 1) (sym numbers) (below_push (numbers_of early) count are.below);
      others = λ j low. elim (cases_lt j count) [
        | inl before ↦ elim (are.others j before) [
          | inl there ↦ inl (subst (λ (ns : List ℕ). Contains ns j) (sym numbers)
              (Contains-append_left (numbers_of early) (count ∷ []) j there))
          | inr keeps ↦ inr keeps
        ]
        | inr after ↦
            (let same : j ≡ count = omega (arith, low, after) in
            inl (subst (λ (ns : List ℕ). Contains ns j) (sym numbers)
            (subst (λ (n : ℕ). Contains (numbers_of early ++ count ∷ []) n) (sym same)
            (Contains-push (numbers_of early) count))))
      ];
    }

pub none_next : (block : List Insn) (placed : List Placed) (count : ℕ) (early : List Early)
    → AreEarlyBelow block placed count early → KeepsAll block placed count
    → AreEarlyBelow block placed (count + 1) early
none_next block placed count early are keeps = record {
  all = are.all;
  rising = are.rising;
  below = λ k inside. (let low = are.below k inside in omega (arith, low));
  others = λ j low. elim (cases_lt j count) [
    | inl before ↦ are.others j before
    | inr after ↦ inr (subst (λ (n : ℕ). KeepsAll block placed n) (omega (arith, low, after)) keeps)
  ];
}

pub all_below : (block : List Insn) (placed : List Placed) (count : ℕ) (early : List Early)
    → AreEarlyBelow block placed count early → length placed ≤ count
    → AreEarly block placed early
all_below block placed count early are end = record {
  all = are.all;
  rising = are.rising;
  others = λ j. elim (cases_lt j count) [
    | inl before ↦ are.others j before
    | inr after ↦
        inr (λ i p q needs at_p at_q is.
        (let inside = slice_get_within placed j q at_q in absurd (omega (arith, inside, end, after))))
  ];
}

-- where none comes too early, all keep their distances
pub all_keep : (block : List Insn) (placed : List Placed) (early : List Early) → AreEarly block placed early
    → length early ≡ 0 → (j : ℕ) → KeepsAll block placed j
all_keep block placed early are none j = elim (are.others j) [
  | inl there ↦
      (let inside = there.1 in
      let long = length-map early (λ (x : Early). x.number) in
      absurd (omega (arith, inside, long, none)))
  | inr keeps ↦ keeps
]
