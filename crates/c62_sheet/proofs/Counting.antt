-- How many numbers below a limit are such.
use Rattle.c62_sheet.proofs.Common.{arith, ◌≡◌, ◌≢◌, ℕ, zero, suc, ◌+◌, ◌<◌, ◌≤◌, List, [], ◌∷◌, length, slice_index}
use Rattle.c62_sheet.proofs.Common.{refl, sym, inl, inr, ◌⊎◌}
use Rattle.c62_sheet.proofs.Common.{cases_eq, ◌↔◌, HasCount, Insn, Side, side, Spots, IsReadyOn}
use Rattle.c62_sheet.specs.declared.ready.ReadyLists.{ReadyLists}
use Rattle.c62_sheet.specs.Ready.{IsIn, IsUrgent, AreReady, list_of}

pub count_same : (P Q : ℕ → Type 0) (n c : ℕ) → ((k : ℕ) → k < n → P k ↔ Q k) → HasCount P n c → HasCount Q n c
count_same P Q zero c same count = count
count_same P Q (suc n) c same (inl w) =
    inl (
      (same n (omega arith)).0 w.0,
      (w.1.0, w.1.1, count_same P Q n w.1.0 (λ k lt. same k (omega (arith, lt))) w.1.2),
    )
count_same P Q (suc n) c same (inr w) =
    inr (λ is. w.0 ((same n (omega arith)).1 is), count_same P Q n c (λ k lt. same k (omega (arith, lt))) w.1)

pub count_none : (P : ℕ → Type 0) (n : ℕ) → ((k : ℕ) → P k → ⊥) → HasCount P n 0
count_none P zero none = refl
count_none P (suc n) none = inr (none n, count_none P n none)

-- number i is such too, and no other
pub count_more : (P Q : ℕ → Type 0) (n c i : ℕ) → i < n → (P i → ⊥) → ((k : ℕ) → Q k ↔ (P k ⊎ (k ≡ i))) → HasCount P n c
    → HasCount Q n (c + 1)
count_more P Q zero c i lt out is count = absurd (omega (arith, lt))
count_more P Q (suc n) c i lt out is (inl w) = elim (cases_eq i n) [
  | inl e ↦ absurd (out (rw e w.0))
  | inr ne ↦ inl (
    (is n).1 (inl w.0),
    (w.1.0 + 1, omega (arith, w.1.1), count_more P Q n w.1.0 i (omega (arith, lt, ne)) out is w.1.2),
  )
]
count_more P Q (suc n) c i lt out is (inr w) = elim (cases_eq i n) [
  | inl e ↦ inl (
    (is n).1 (inr (sym e)),
    (c, refl, count_same P Q n c (λ k low. (λ p. (is k).1 (inl p), λ q. only k low e ((is k).0 q))) w.1),
  )
  | inr ne ↦ inr (
    λ q. elim ((is n).0 q) [ inl p ↦ w.0 p | inr e ↦ ne (sym e) ],
    count_more P Q n c i
        (omega (arith, lt, ne)) out is w.1,
  )
]
  where
    only : (k : ℕ) → k < n → i ≡ n → P k ⊎ (k ≡ i) → P k
    only k low e (inl p) = p
    only k low e (inr same) = absurd (omega (arith, low, e, same))

pub count_most : (P : ℕ → Type 0) (n c : ℕ) → HasCount P n c → c ≤ n
count_most P zero c count = omega (arith, count)
count_most P (suc n) c (inl w) = omega (arith, w.1.1, count_most P n w.1.0 w.1.2)
count_most P (suc n) c (inr w) = omega (arith, count_most P n c w.1)

-- where some number is not such
pub count_less : (P : ℕ → Type 0) (n c i : ℕ) → i < n → (P i → ⊥) → HasCount P n c → c < n
count_less P zero c i lt out count = absurd (omega (arith, lt))
count_less P (suc n) c i lt out (inl w) = elim (cases_eq i n) [
  | inl e ↦ absurd (out (rw e w.0))
  | inr ne ↦ omega (arith, w.1.1, count_less P n w.1.0 i (omega (arith, lt, ne)) out w.1.2)
]
count_less P (suc n) c i lt out (inr w) = omega (arith, count_most P n c w.1)

-- ---- the numbers of a list, each once

in_first : (x : ℕ) (xs : List ℕ) (k : ℕ) → IsIn (x ∷ xs) k ↔ (IsIn xs k ⊎ (k ≡ x))
in_first x xs k = (
  λ w. there w.0 w.1 w.2,
  λ w. elim w [
    | inl old ↦ (suc old.0, omega (arith, old.1), old.2)
    | inr e ↦ (0, omega arith, sym e)
  ],
)
  where
    there : (a : ℕ) → a < length (x ∷ xs) → slice_index (x ∷ xs) a ≡ k → IsIn xs k ⊎ (k ≡ x)
    there zero lt is = inr (sym is)
    there (suc a) lt is = inl (a, omega (arith, lt), is)

pub count_in : (n : ℕ) (xs : List ℕ) → ((k : ℕ) → IsIn xs k → k < n)
    → ((a b : ℕ) → a < b → b < length xs → slice_index xs a ≢ slice_index xs b)
    → HasCount (IsIn xs) n (length xs)
count_in n [] within apart = count_none (IsIn []) n (λ k w. omega (arith, w.1))
count_in n (x ∷ xs) within apart =
    let rest = count_in n xs (λ k w. within k ((in_first x xs k).1 (inl w)))
    (λ a b less lt. apart (suc a) (suc b) (omega (arith, less)) (omega (arith, lt))) in
    let more : length (x ∷ xs) ≡ length xs + 1 = omega arith in
    rw more (count_more (IsIn xs) (IsIn (x ∷ xs)) n (length xs) x (within x ((in_first x xs x).1 (inr refl)))
    (λ w. apart 0 (suc w.0) (omega arith) (omega (arith, w.1)) (sym w.2)) (in_first x xs) rest)

pub urgent_count : (block : List Insn) (of : Side) (list : List ℕ) → IsUrgent block of list
    → HasCount (IsIn list) (length block) (length list)
urgent_count block of list urgent = count_in (length block) list urgent.within
    (λ a b less lt. (urgent.ordered a b less lt).0)

-- a number that is not listed finds room
pub room_for : (block : List Insn) (of : Side) (list : List ℕ) (i : ℕ) → IsUrgent block of list → i < length block
    → (IsIn list i → ⊥)
    → length list < length block
room_for block of list i urgent lt absent = count_less (IsIn list) (length block) (length list) i lt absent
    (urgent_count block of list urgent)

-- the ready numbers of a side are those of its list
pub on_side : (block : List Insn) (set : Spots) (lists : ReadyLists) (of : Side) → AreReady block set lists → (k : ℕ)
    → k < length block
    → IsIn (list_of lists of).items k ↔ IsReadyOn block set of k
on_side block set lists of are k lt = (
  λ w.
      let sided : side block k ≡ of = (are.urgent.urgent of).sided k w in
      record { within = lt; ready = (are.ready k lt).0 (rw sided w); sided = sided },
  λ w. rw w.sided at ((are.ready k lt).1 w.ready),
)

pub ready_count : (block : List Insn) (set : Spots) (lists : ReadyLists) (of : Side) → AreReady block set lists
    → HasCount (IsReadyOn block set of) (length block) (length (list_of lists of).items)
ready_count block set lists of are =
    count_same (IsIn (list_of lists of).items) (IsReadyOn block set of) (length block) (length (list_of lists of).items)
    (on_side block set lists of are)
    (urgent_count block of (list_of lists of).items (are.urgent.urgent of))

pub ready_few : (block : List Insn) (set : Spots) (lists : ReadyLists) (of : Side) → AreReady block set lists
    → length (list_of lists of).items ≤ length block
ready_few block set lists of are = count_most _ _ _ (ready_count block set lists of are)
