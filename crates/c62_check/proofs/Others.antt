-- The blocks that differ in their labels.
use Rattle.std.proofs.Common.{arith, ◌≡◌, ℕ, suc, ◌<◌, ◌≤◌, ◌+◌, List, [], ◌∷◌, ◌++◌, length, get_or, Option, Some}
use Rattle.std.proofs.Common.{None, Bor, refl, sym, ap, subst, ◌∙◌, inl, inr, ◌⊎◌}
use Rattle.std.specs.Prelude.{All, Contains, slice_get, option_map, is_some, nat_lt, IfSome}
use Rattle.std.specs.List.Sorted.{IsStrictlyIncreasing}
use Rattle.std.specs.Option.{option_copied}
use Rattle.std.proofs.lemmas.Bool.{cases_lt}
use Rattle.std.proofs.lemmas.Bool.Decides.{nat_tests}
use Rattle.std.proofs.lemmas.List.{length-map}
use Rattle.std.proofs.lemmas.List.Elements.{All-push, Contains-push, Contains-append_left}
use Rattle.std.proofs.lemmas.Option.{none-some, same_Some, slice_get-map, slice_get_past, slice_get_read}
use Rattle.c62_serial.proofs.FaultLemmas.{same_rising}
use Rattle.c62_read.specs.Block.{Serial, labels_in}
use Rattle.c62_packet.specs.Packed.{Packed}
use Rattle.c62_packet.specs.Packets.{labels_of}
use Rattle.c62_check.specs.Lines.{block_line, other_line, other_words}
use Rattle.c62_check.specs.Judged.{AreOthers, IsAlike, IsOther}
use Rattle.c62_check.proofs.Rising.{below_push, rising_push}

-- lists that are the same at all places are the same
pub same_lists : {X : Type 0} (xs ys : List X)
    → ((k : ℕ) → (k < length xs) ⊎ (k < length ys) → slice_get xs k ≡ slice_get ys k) → xs ≡ ys
same_lists [] [] each = refl
same_lists [] (y ∷ ys) each = absurd (none-some y (each 0 (inr (omega arith))))
same_lists (x ∷ xs) [] each = absurd (none-some x (sym (each 0 (inl (omega arith)))))
same_lists {X} (x ∷ xs) (y ∷ ys) each =
    let first : x ≡ y = same_Some x y (each 0 (inl (omega arith))) in
    let rest = same_lists xs ys (λ k inside. each (suc k) (later k inside)) in
    ap (λ (z : X). z ∷ xs) first ∙ ap (λ (zs : List X). y ∷ zs) rest
  where
    later : (k : ℕ) → (k < length xs) ⊎ (k < length ys) → (suc k < suc (length xs)) ⊎ (suc k < suc (length ys))
    later k (inl lt) = inl (omega (arith, lt))
    later k (inr lt) = inr (omega (arith, lt))

-- what `get` tells of a slice
pub got_is : {X : Type 0} (xs : List X) (k : ℕ) (found : Option (Bor X)) → is_some found ≡ nat_lt k (length xs)
    → IfSome found (λ x. x.now ≡ get_or xs k x.now)
    → option_copied found ≡ slice_get xs k
got_is xs k None some value = sym (slice_get_past xs k (grind (arith, nat_tests, some)))
got_is xs k (Some x) some value = sym
    (slice_get_read xs (length xs) k x.now refl (grind (arith, nat_tests, some)) value)

abbrev label_of : Option Packed → Option (Option (List ℕ))
label_of listed = option_map (λ one. one.label) listed

abbrev label_in : Option Serial → Option (Option (List ℕ))
label_in block = option_map (λ other. other.label) block

pub listed_at : (packets : List Packed) (k : ℕ) (listed : Option Packed) → listed ≡ slice_get packets k
    → slice_get (labels_of packets) k ≡ label_of listed
listed_at packets k listed e = slice_get-map (λ (one : Packed). one.label) packets k ∙ ap label_of (sym e)

pub block_at : (blocks : List Serial) (k : ℕ) (block : Option Serial) → block ≡ slice_get blocks k
    → slice_get (labels_in blocks) k ≡ label_in block
block_at blocks k block e = slice_get-map (λ (other : Serial). other.label) blocks k ∙ ap label_in (sym e)

pub labels_at : (blocks : List Serial) (packets : List Packed) (k : ℕ) (listed : Option Packed) (block : Option Serial)
    → listed ≡ slice_get packets k → block ≡ slice_get blocks k
    → label_of listed ≡ label_in block → slice_get (labels_of packets) k ≡ slice_get (labels_in blocks) k
labels_at blocks packets k listed block one other same = listed_at packets k listed one
    ∙ (same ∙ sym (block_at blocks k block other))

pub differ_at : (blocks : List Serial) (packets : List Packed) (k : ℕ) (listed : Option Packed) (block : Option Serial)
    → listed ≡ slice_get packets k → block ≡ slice_get blocks k
    → (label_of listed ≡ label_in block → ⊥) → IsOther blocks packets k
differ_at blocks packets k listed block one other differ same = differ
    (sym (listed_at packets k listed one) ∙ (same ∙ block_at blocks k block other))

-- the line of a block, by what is got of both
pub other_line_is : (program : List Serial) (packets : List Packed) (number : ℕ) (listed : Option Packed)
    (block : Option Serial) → listed ≡ slice_get packets number → block ≡ slice_get program number
    → block_line number (other_words (label_of listed) (label_in block))
    ≡ other_line (labels_of packets) (labels_in program) number
other_line_is program packets number listed block one other =
    ap (λ (l : Option (Option (List ℕ))). block_line number (other_words l (label_in block)))
    (sym (listed_at packets number listed one))
    ∙ ap (λ (l : Option (Option (List ℕ))). block_line number (other_words (slice_get (labels_of packets) number) l))
    (sym (block_at program number block other))

-- ---- the blocks that differ, gathered one by one

-- of the numbers below this one
pub record AreOthersBelow (program : List Serial) (packets : List Packed) (count : ℕ) (others : List ℕ) : Type 0 where
  pub rising : IsStrictlyIncreasing others
  pub below : (k : ℕ) → k < length others → get_or others k 0 < count
  pub differ : All (IsOther program packets) others
  pub all : (number : ℕ) → number < count → Contains others number ⊎ IsAlike program packets number

pub other_next : (program : List Serial) (packets : List Packed) (count : ℕ) (others more : List ℕ)
    → AreOthersBelow program packets count others → IsOther program packets count → more ≡ others ++ count ∷ []
    → AreOthersBelow program packets (count + 1) more
other_next program packets count others more are other e = subst
    (λ (ns : List ℕ). AreOthersBelow program packets (count + 1) ns) (sym e) (record {
      rising = rising_push others count are.rising are.below;
      below = below_push others count are.below;
      differ = All-push (IsOther program packets) others count are.differ other;
      all = λ number low. elim (cases_lt number count) [
        | inl before ↦ elim (are.all number before) [
          | inl there ↦ inl (Contains-append_left others (count ∷ []) number there)
          | inr alike ↦ inr alike
        ]
        | inr after ↦
            (let same : number ≡ count = omega (arith, low, after) in
            inl (subst (λ (n : ℕ). Contains (others ++ count ∷ []) n) (sym same) (Contains-push others count)))
      ];
    })

pub alike_next : (program : List Serial) (packets : List Packed) (count : ℕ) (others : List ℕ)
    → AreOthersBelow program packets count others → IsAlike program packets count
    → AreOthersBelow program packets (count + 1) others
alike_next program packets count others are alike = record {
  rising = are.rising;
  below = λ k inside. (let low = are.below k inside in omega (arith, low));
  differ = are.differ;
  all = λ number low. elim (cases_lt number count) [
    | inl before ↦ are.all number before
    | inr after ↦ inr (subst (IsAlike program packets) (omega (arith, low, after)) alike)
  ];
}

pub all_others : (program : List Serial) (packets : List Packed) (count : ℕ) (others : List ℕ)
    → AreOthersBelow program packets count others → length program ≤ count → length packets ≤ count
    → AreOthers program packets others
all_others program packets count others are few small = record {
  rising = are.rising;
  differ = are.differ;
  all = λ number. elim (cases_lt number count) [
    | inl before ↦ are.all number before
    | inr after ↦
        (let many = length-map packets (λ (one : Packed). one.label) in
        let long = length-map program (λ (other : Serial). other.label) in
        inr (slice_get_past (labels_of packets) number (omega (arith, many, small, after))
        ∙ sym (slice_get_past (labels_in program) number (omega (arith, long, few, after)))))
  ];
}

-- ---- what they say

-- where no block differs the labels are the same
pub same_labels : (program : List Serial) (packets : List Packed) → AreOthers program packets []
    → labels_of packets ≡ labels_in program
same_labels program packets are = same_lists (labels_of packets) (labels_in program)
    (λ k inside. elim (are.all k) [
      | inl there ↦ (let within = there.1 in absurd (omega (arith, within)))
      | inr alike ↦ alike
    ])

contained : (program : List Serial) (packets : List Packed) (ones others : List ℕ) → AreOthers program packets ones
    → AreOthers program packets others → (j : ℕ) → Contains ones j → Contains others j
contained program packets ones others a b j there = elim (b.all j) [
  | inl here ↦ here
  | inr alike ↦
      absurd (subst (IsOther program packets) there.2 (a.differ there.0 j there.1) alike)
]

-- they are determined
pub same_others : (program : List Serial) (packets : List Packed) (ones others : List ℕ)
    → AreOthers program packets ones → AreOthers program packets others → ones ≡ others
same_others program packets ones others a b = same_rising ones others a.rising b.rising
    (λ j. (contained program packets ones others a b j, contained program packets others ones b a j))
