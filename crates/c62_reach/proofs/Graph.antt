-- Marks grow until all parts are marked that are reached.
use Rattle.std.proofs.Common.{◌≡◌, ◌⊎◌, ◌<◌, ◌≤◌, ◌+◌, ◌*◌, ◌∙◌, ℕ, zero, suc, Bool, true, false, List, [], ◌∷◌, ◌++◌}
use Rattle.std.proofs.Common.{length, get_or, set, drop, refl, sym, ap, subst, inl, inr, ⊎_elim, cond, ltb, not, arith}
use Rattle.std.proofs.Common.{length-append, get_or-set_same, get_or-set_other, true≢false}
use Rattle.std.proofs.lemmas.Bool.{and_parts, cases_eq, ltb-true}
use Rattle.std.proofs.lemmas.Bool.Decides.{nat_tests}
use Rattle.std.proofs.lemmas.List.{at_drop_all, at_drop_more, length-set}
use Rattle.c62_reach.specs.Reach.{IsAmong, IsMarked}
use Rattle.c62_reach.specs.Search.{Found, is_new, marked, all_marked}

-- ---- numbers among others

pub among_front : (k : ℕ) (xs ys : List ℕ) → IsAmong k xs → IsAmong k (xs ++ ys)
among_front k [] ys none = absurd none
among_front k (x ∷ xs) ys (inl same) = inl same
among_front k (x ∷ xs) ys (inr later) = inr (among_front k xs ys later)

pub among_last : (k : ℕ) (xs : List ℕ) → IsAmong k (xs ++ k ∷ [])
among_last k [] = inl refl
among_last k (x ∷ xs) = inr (among_last k xs)

pub among_pushed : (k j : ℕ) (xs : List ℕ) → IsAmong k (xs ++ j ∷ []) → IsAmong k xs ⊎ (k ≡ j)
among_pushed k j [] (inl same) = inr same
among_pushed k j [] (inr none) = absurd none
among_pushed k j (x ∷ xs) (inl same) = inl (inl same)
among_pushed k j (x ∷ xs) (inr later) = ⊎_elim (λ (front : IsAmong k xs). inl (inr front)) (λ same. inr same)
    (among_pushed k j xs later)

-- ---- marks

abbrev pub unmarked : List Bool → ℕ
unmarked [] = 0
unmarked (mark ∷ marks) = cond mark 0 1 + unmarked marks

unmarked_set : (marks : List Bool) (k : ℕ) → k < length marks → get_or marks k false ≡ false
    → unmarked (set marks k true) + 1 ≡ unmarked marks
unmarked_set [] k inside new = absurd (omega arith)
unmarked_set (mark ∷ marks) zero inside new = rw new (omega arith)
unmarked_set (mark ∷ marks) (suc k) inside new =
    let one : unmarked (set marks k true) + 1 ≡ unmarked marks = unmarked_set marks k (omega arith) new in
    omega arith

-- More is found: parts that are so. Those that are new wait. The work that is left doesn't grow.
pub record Grows (Is : ℕ → Type 0) (old new : Found) : Type 0 where
  pub len : length new.marks ≡ length old.marks
  pub kept : (k : ℕ) → IsMarked old.marks k → IsMarked new.marks k
  pub only : (k : ℕ) → IsMarked new.marks k → IsMarked old.marks k ⊎ (Is k × IsAmong k new.waiting)
  pub waits : (k : ℕ) → IsAmong k old.waiting → IsAmong k new.waiting
  pub so : (k : ℕ) → IsAmong k new.waiting → IsAmong k old.waiting ⊎ Is k
  pub left : 2 * unmarked new.marks + length new.waiting ≤ 2 * unmarked old.marks + length old.waiting

grown_none : (Is : ℕ → Type 0) (found : Found) → Grows Is found found
grown_none Is found = record {
  len = refl;
  kept = λ k h. h;
  only = λ k h. inl h;
  waits = λ k h. h;
  so = λ k h. inl h;
  left = omega arith;
}

grown_then : (Is One Other : ℕ → Type 0) (a b c : Found) → ((k : ℕ) → One k → Is k) → ((k : ℕ) → Other k → Is k)
    → Grows One a b → Grows Other b c
    → Grows Is a c
grown_then Is One Other a b c first then ab bc = record {
  len = bc.len ∙ ab.len;
  kept = λ k h. bc.kept k (ab.kept k h);
  only = λ k h. ⊎_elim
      (λ (there : IsMarked b.marks k). ⊎_elim (λ (old : IsMarked a.marks k). inl old) (λ (new : One k
      × IsAmong k b.waiting). inr (first k new.0, bc.waits k new.1)) (ab.only k there))
      (λ (new : Other k × IsAmong k c.waiting). inr (then k new.0, new.1)) (bc.only k h);
  waits = λ k h. bc.waits k (ab.waits k h);
  so = λ k h. ⊎_elim
      (λ (there : IsAmong k b.waiting). ⊎_elim (λ (old : IsAmong k a.waiting). inl old)
      (λ (new : One k). inr (first k new)) (ab.so k there))
      (λ (new : Other k). inr (then k new)) (bc.so k h);
  left = omega (arith, ab.left, bc.left);
}

-- ---- one part

abbrev as_marked : ℕ → Found → Found
as_marked k found = record { marks = set found.marks k true; waiting = found.waiting ++ k ∷ [] }

grown_one : (k : ℕ) (found : Found) → is_new k found ≡ true → Grows (λ j. j ≡ k) found (as_marked k found)
grown_one k found new =
    let both = and_parts (ltb k (length found.marks)) (not (get_or found.marks k false)) new in
    let inside : k < length found.marks = ltb-true k (length found.marks) both.0 in
    let unmarked_there : get_or found.marks k false ≡ false = grind (arith, nat_tests, both.1) in
    record {
      len = length-set found.marks k true;
      kept = λ j h. ⊎_elim (λ same. ap (λ (i : ℕ). get_or (set found.marks k true) i false) same
          ∙ get_or-set_same found.marks k true false inside)
          (λ other. get_or-set_other found.marks k j true false other ∙ h) (cases_eq j k);
      only = λ j h. ⊎_elim (λ (same : j ≡ k). inr
          (same, subst (λ (i : ℕ). IsAmong i (found.waiting ++ k ∷ [])) (sym same) (among_last k found.waiting)))
          (λ other. inl (sym (get_or-set_other found.marks k j true false other) ∙ h)) (cases_eq j k);
      waits = λ j h. among_front j found.waiting (k ∷ []) h;
      so = λ j h. among_pushed j k found.waiting h;
      left = omega (arith, unmarked_set found.marks k inside unmarked_there, length-append found.waiting (k ∷ []));
    }

grown_by : (k : ℕ) (found : Found) (b : Bool) → is_new k found ≡ b
    → Grows (λ j. j ≡ k) found (cond b (as_marked k found) found)
grown_by k found true new = grown_one k found new
grown_by k found false old = grown_none (λ j. j ≡ k) found

pub grown_marked : (k : ℕ) (found : Found) → Grows (λ j. j ≡ k) found (marked k found)
grown_marked k found = grown_by k found (is_new k found) refl

marked_by : (k : ℕ) (found : Found) (b : Bool) → is_new k found ≡ b → k < length found.marks
    → IsMarked (cond b (as_marked k found) found).marks k
marked_by k found true new inside = get_or-set_same found.marks k true false inside
marked_by k found false old inside = grind (arith, nat_tests, old, inside)

pub is_marked : (k : ℕ) (found : Found) → k < length found.marks → IsMarked (marked k found).marks k
is_marked k found inside = marked_by k found (is_new k found) refl inside

-- ---- all of some parts

pub grown_all : (numbers : List ℕ) (found : Found) → Grows (λ j. IsAmong j numbers) found (all_marked numbers found)
unfolding all_marked
grown_all [] found = grown_none (λ j. IsAmong j []) found
grown_all (k ∷ numbers) found =
    grown_then (λ j. IsAmong j (k ∷ numbers)) (λ j. j ≡ k) (λ j. IsAmong j numbers) found (marked k found)
    (all_marked numbers (marked k found)) (λ j h. inl h) (λ j h. inr h)
    (grown_marked k found) (grown_all numbers (marked k found))

pub all_are : (numbers : List ℕ) (found : Found) (j : ℕ) → IsAmong j numbers → j < length found.marks
    → IsMarked (all_marked numbers found).marks j
unfolding all_marked
all_are [] found j none inside = absurd none
all_are (k ∷ numbers) found j (inl same) inside =
    (grown_all numbers (marked k found)).kept j
    (subst (IsMarked (marked k found).marks) (sym same)
    (is_marked k found (subst (λ (i : ℕ). i < length found.marks) same inside)))
all_are (k ∷ numbers) found j (inr later) inside =
    all_are numbers (marked k found) j later (subst (λ (n : ℕ). j < n) (sym (grown_marked k found).len) inside)

-- ---- the steps of a loop over them

pub marked_first : (numbers : List ℕ) (i : ℕ) (old new : Found) → i < length numbers
    → new ≡ marked (get_or numbers i 0) old
    → all_marked (drop (i + 1) numbers) new ≡ all_marked (drop i numbers) old
unfolding all_marked
marked_first numbers i old new inside is = rw is
    (sym (at_drop_more (λ (rest : List ℕ). all_marked rest old) numbers i 0 inside))

pub marked_last : (numbers : List ℕ) (i : ℕ) (found : Found) → length numbers ≤ i
    → all_marked (drop i numbers) found ≡ found
unfolding all_marked
marked_last numbers i found past = at_drop_all (λ (rest : List ℕ). all_marked rest found) numbers i past
