-- The instructions of rows, each with the cycle in which its row begins.
use Rattle.std.proofs.Common.{◌≡◌, ℕ, zero, suc, ◌+◌, ◌<◌, List, [], ◌∷◌, ◌++◌, length, refl, sym, ◌∙◌, ap, subst, ◌⊎◌}
use Rattle.std.proofs.Common.{inl, inr, ⊎_elim, arith, append-nil, append_assoc}
use Rattle.std.specs.Prelude.{map, slice_index_or}
use Rattle.std.specs.List.{insert}
use Rattle.std.proofs.lemmas.List.Sorted.{Contains-permutation, IsPermutation-insert, IsPermutation-sym}
use Rattle.c62_packet.specs.declared.placed.Placed.{Placed}
use Rattle.c62_meaning.proofs.Lookup.{In, In_from_Contains, Contains_from_In, In-append_left, In-append_right}
use Rattle.c62_meaning.proofs.Lookup.{In-append_cases}
use Rattle.c62_meaning.proofs.Instances.{in_map}
use Rattle.c62_meaning.proofs.CutWords.{from_map}
use Rattle.c62_flight.specs.Text.{Row, no_row}
use Rattle.c62_rows.specs.Rows.{with_insn, with_idle}
use Rattle.c62_exec_back.proofs.Beginnings.{begins, span}

pub record Stood : Type 0 where
  pub cycle : ℕ
  pub placed : Placed

abbrev pub stood_at : ℕ → Placed → Stood
stood_at cycle p = record { cycle = cycle; placed = p }

-- of rows the first of which begins in this cycle
abbrev pub stood_from : ℕ → List Row → List Stood
stood_from start [] = []
stood_from start (row ∷ rows) = map (stood_at start) row.insns ++ stood_from (start + row.idle + 1) rows

pub stood_append : (start : ℕ) (xs ys : List Row)
    → stood_from start (xs ++ ys) ≡ stood_from start xs ++ stood_from (start + span xs) ys
stood_append start [] ys = let e : start ≡ start + 0 = omega arith in ap (λ n. stood_from n ys) e
stood_append start (x ∷ xs) ys =
    let e : start + x.idle + 1 + span xs ≡ start + (x.idle + 1 + span xs) = omega arith in
    ap (λ (zs : List Stood). map (stood_at start) x.insns ++ zs) (stood_append (start + x.idle + 1) xs ys
    ∙ ap (λ n. stood_from (start + x.idle + 1) xs ++ stood_from n ys) e)
    ∙ sym (append_assoc (map (stood_at start) x.insns) (stood_from (start + x.idle + 1) xs)
    (stood_from (start + (x.idle + 1 + span xs)) ys))

-- ---- of a row by its number

pub record IsIn (start : ℕ) (rows : List Row) (x : Stood) : Type 0 where
  pub number : ℕ
  pub inside : number < length rows
  pub when : x.cycle ≡ start + begins rows number
  pub there : In x.placed (slice_index_or rows number no_row).insns

pub stood_in : (start : ℕ) (rows : List Row) (x : Stood) → In x (stood_from start rows) → IsIn start rows x
stood_in start [] x h = absurd h
stood_in start (row ∷ rows) x h = ⊎_elim {C = IsIn start (row ∷ rows) x}
    (λ here. let r = from_map (stood_at start) x row.insns here in
    record {
      number = 0;
      inside = omega arith;
      when = (let e : start ≡ start + 0 = omega arith in sym (ap (λ (y : Stood). y.cycle) r.2) ∙ e);
      there = subst (λ (y : Stood). In y.placed row.insns) r.2 r.1;
    })
    (λ later. let r = stood_in (start + row.idle + 1) rows x later in
    let inside : r.number < length rows = r.inside in
    let e : start + row.idle + 1 + begins rows r.number ≡ start + (row.idle + 1 + begins rows r.number) = omega arith in
    record { number = suc r.number; inside = omega arith; when = r.when ∙ e; there = r.there })
    (In-append_cases x (map (stood_at start) row.insns) (stood_from (start + row.idle + 1) rows) h)

pub stands_in : (start : ℕ) (rows : List Row) (number : ℕ) (p : Placed) → number < length rows
    → In p (slice_index_or rows number no_row).insns
    → In (stood_at (start + begins rows number) p) (stood_from start rows)
stands_in start [] number p inside h = absurd (omega arith)
stands_in start (row ∷ rows) zero p inside h =
    let e : start ≡ start + 0 = omega arith in
    In-append_left (stood_at (start + 0) p) (map (stood_at start) row.insns) (stood_from (start + row.idle + 1) rows)
    (subst (λ n. In (stood_at n p) (map (stood_at start) row.insns)) e (in_map (stood_at start) p row.insns h))
stands_in start (row ∷ rows) (suc number) p inside h =
    let e : start + row.idle + 1 + begins rows number ≡ start + (row.idle + 1 + begins rows number) = omega arith in
    In-append_right (stood_at (start + (row.idle + 1 + begins rows number)) p) (map (stood_at start) row.insns)
    (stood_from (start + row.idle + 1) rows)
    (subst (λ n. In (stood_at n p) (stood_from (start + row.idle + 1) rows)) e
    (stands_in (start + row.idle + 1) rows number p (omega arith) h))

-- ---- one more

inserted : (p q : Placed) (insns : List Placed) (k : ℕ) → In q (insert insns k p) → (q ≡ p) ⊎ In q insns
inserted p q insns k h = cases (In_from_Contains q (p ∷ insns)
    (Contains-permutation (insert insns k p) (p ∷ insns) q
    (IsPermutation-sym (p ∷ insns) (insert insns k p) (IsPermutation-insert insns k p))
    (Contains_from_In q (insert insns k p) h)))
  where
    cases : In q (p ∷ insns) → (q ≡ p) ⊎ In q insns
    cases (inl e) = inl (sym e)
    cases (inr r) = inr r

inserts : (p q : Placed) (insns : List Placed) (k : ℕ) → In q (p ∷ insns) → In q (insert insns k p)
inserts p q insns k h = In_from_Contains q (insert insns k p)
    (Contains-permutation (p ∷ insns) (insert insns k p) q (IsPermutation-insert insns k p)
    (Contains_from_In q (p ∷ insns) h))

abbrev last_row : ℕ → Row → List Stood
last_row start row = map (stood_at start) row.insns ++ []

last_inserted : (start : ℕ) (p : Placed) (row : Row) (x : Stood) → In x (last_row start (with_insn p row))
    → (x ≡ stood_at start p) ⊎ In x (last_row start row)
last_inserted start p row x h = elim (In-append_cases x (map (stood_at start) (with_insn p row).insns) [] h) [
  | inr none ↦ absurd none
  | inl there ↦ (let r = from_map (stood_at start) x (with_insn p row).insns there in elim
      (inserted p r.0 row.insns _ r.1) [
        | inl e ↦ inl (sym r.2 ∙ ap (stood_at start) e)
        | inr old ↦ inr (In-append_left x (map (stood_at start) row.insns) []
            (subst (λ (y : Stood). In y (map (stood_at start) row.insns)) r.2
            (in_map (stood_at start) r.0 row.insns old)))
      ])
]

last_inserts : (start : ℕ) (p : Placed) (row : Row) (x : Stood) → (x ≡ stood_at start p) ⊎ In x (last_row start row)
    → In x (last_row start (with_insn p row))
last_inserts start p row x (inl e) =
    In-append_left x (map (stood_at start) (with_insn p row).insns) []
    (subst (λ (y : Stood). In y (map (stood_at start) (with_insn p row).insns)) (sym e)
    (in_map (stood_at start) p (with_insn p row).insns (inserts p p row.insns _ (inl refl))))
last_inserts start p row x (inr h) = elim (In-append_cases x (map (stood_at start) row.insns) [] h) [
  | inr none ↦ absurd none
  | inl there ↦ (let r = from_map (stood_at start) x row.insns there in
      In-append_left x (map (stood_at start) (with_insn p row).insns) []
      (subst (λ (y : Stood). In y (map (stood_at start) (with_insn p row).insns)) r.2
      (in_map (stood_at start) r.0 (with_insn p row).insns (inserts p r.0 row.insns _ (inr r.1)))))
]

-- ---- the last of rows changes

from_none : (n : ℕ) → 0 + n ≡ n
from_none n = omega arith

pub more_stood : (done : List Row) (p : Placed) (row : Row) (x : Stood)
    → In x (stood_from 0 (done ++ with_insn p row ∷ []))
    → (x ≡ stood_at (span done) p) ⊎ In x (stood_from 0 (done ++ row ∷ []))
more_stood done p row x h =
    let parted = stood_append 0 done (with_insn p row ∷ []) in
    let old = stood_append 0 done (row ∷ []) in
    elim (In-append_cases x (stood_from 0 done) (last_row (0 + span done) (with_insn p row)) (subst (In x) parted h)) [
      | inl there ↦ inr (subst (In x) (sym old)
          (In-append_left x (stood_from 0 done) (last_row (0 + span done) row) there))
      | inr last ↦ elim (last_inserted (0 + span done) p row x last) [
        | inl e ↦ inl (e ∙ ap (λ n. stood_at n p) (from_none (span done)))
        | inr there ↦ inr (subst (In x) (sym old)
            (In-append_right x (stood_from 0 done) (last_row (0 + span done) row) there))
      ]
    ]

pub stood_more : (done : List Row) (p : Placed) (row : Row) (x : Stood) → (x ≡ stood_at (span done) p)
    ⊎ In x (stood_from 0 (done ++ row ∷ []))
    → In x (stood_from 0 (done ++ with_insn p row ∷ []))
stood_more done p row x h =
    let parted = stood_append 0 done (with_insn p row ∷ []) in
    let old = stood_append 0 done (row ∷ []) in
    subst (In x) (sym parted) (elim h [
      | inl e ↦ In-append_right x (stood_from 0 done) (last_row (0 + span done) (with_insn p row))
          (last_inserts (0 + span done) p row x (inl (e ∙ ap (λ n. stood_at n p) (sym (from_none (span done))))))
      | inr own ↦ elim (In-append_cases x (stood_from 0 done) (last_row (0 + span done) row) (subst (In x) old own)) [
        | inl front ↦ In-append_left x (stood_from 0 done) (last_row (0 + span done) (with_insn p row)) front
        | inr last ↦ In-append_right x (stood_from 0 done) (last_row (0 + span done) (with_insn p row))
            (last_inserts (0 + span done) p row x (inr last))
      ]
    ])

pub idle_stood : (done : List Row) (more : ℕ) (row : Row)
    → stood_from 0 (done ++ with_idle more row ∷ []) ≡ stood_from 0 (done ++ row ∷ [])
idle_stood done more row = stood_append 0 done (with_idle more row ∷ []) ∙ sym (stood_append 0 done (row ∷ []))

pub empty_stood : (rows : List Row) → stood_from 0 (rows ++ no_row ∷ []) ≡ stood_from 0 rows
empty_stood rows = stood_append 0 rows (no_row ∷ []) ∙ append-nil (stood_from 0 rows)
