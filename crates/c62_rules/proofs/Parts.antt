-- Part of what is issued, and the same under other numbers.
use Rattle.std.proofs.Common.{arith, ◌≡◌, ◌≢◌, ℕ, zero, suc, ◌+◌, ◌<◌, ◌≤◌, [], ◌∷◌, length, map, get_or, set, Option}
use Rattle.std.proofs.Common.{Some, None, refl, sym, ap, ◌∙◌, inl, inr, ◌⊎◌}
use Rattle.std.specs.Prelude.{sum_by, IsPermutation, if◌then◌else◌, ◌==◌}
use Rattle.std.specs.List.{swap}
use Rattle.std.proofs.lemmas.List.{get_or_past, get_or-set_same, get_or-set_other, length-set}
use Rattle.std.proofs.lemmas.List.Edits.{swap_is}
use Rattle.std.proofs.lemmas.List.Sums.{sum_by-set, sum_by-cons}
use Rattle.std.proofs.lemmas.List.Sorted.{IsPermutation-keeps, IsPermutation-map}
use Rattle.std.proofs.lemmas.Option.{none-some}
use Rattle.std.proofs.lemmas.Bool.{cases_lt, cases_eq, eq-eqb, ne_eqb}
use Rattle.c62_rules.specs.PacketRules.{Issue, Issues, IsIssued, issued, MayLandTogether, KeepsPacketRules}
use Rattle.c62_rules.specs.Capacity.{uses_in}
use Rattle.c62_rules.specs.Part.{IsPart}

-- ---- how parts are made

pub part-refl : (issues : Issues) → IsPart issues issues
part-refl issues = record { number = λ i. i; issued = λ i p h. h; apart = λ i j p q h k e. e }

pub part-trans : (a b c : Issues) → IsPart a b → IsPart b c → IsPart a c
part-trans a b c first second = record {
  number = λ i. second.number (first.number i);
  issued = λ i p h. second.issued (first.number i) p (first.issued i p h);
  apart = λ i j p q h k e. first.apart i j p q h k
      (second.apart (first.number i) (first.number j) p q (first.issued i p h) (first.issued j q k) e);
}

-- the first number stays, and the others move as they did
onward : (ℕ → ℕ) → ℕ → ℕ
onward number zero = zero
onward number (suc i) = suc (number i)

-- the first number goes away
backward : (ℕ → ℕ) → ℕ → ℕ
backward number zero = zero
backward number (suc i) = number i

pub part-cons : (o : Option Issue) (issues others : Issues) → IsPart issues others → IsPart (o ∷ issues) (o ∷ others)
unfolding onward
part-cons o issues others part = record { number = onward part.number; issued = is_issued; apart = are_apart }
  where
    is_issued : (i : ℕ) (p : Issue) → IsIssued (o ∷ issues) i p → IsIssued (o ∷ others) (onward part.number i) p
    is_issued zero p h = h
    is_issued (suc i) p h = part.issued i p h

    are_apart : (i j : ℕ) (p q : Issue) → IsIssued (o ∷ issues) i p → IsIssued (o ∷ issues) j q
        → onward part.number i ≡ onward part.number j → i ≡ j
    are_apart zero zero p q h k e = refl
    are_apart zero (suc j) p q h k e = absurd (omega (arith, e))
    are_apart (suc i) zero p q h k e = absurd (omega (arith, e))
    are_apart (suc i) (suc j) p q h k e = ap suc (part.apart i j p q h k (omega (arith, e)))

-- a number under which nothing is issued is left out
pub part-skipped : (issues others : Issues) → IsPart issues others → IsPart (None ∷ issues) others
unfolding backward
part-skipped issues others part = record { number = backward part.number; issued = is_issued; apart = are_apart }
  where
    is_issued : (i : ℕ) (p : Issue) → IsIssued (None ∷ issues) i p → IsIssued others (backward part.number i) p
    is_issued zero p h = absurd (none-some p h)
    is_issued (suc i) p h = part.issued i p h

    are_apart : (i j : ℕ) (p q : Issue) → IsIssued (None ∷ issues) i p → IsIssued (None ∷ issues) j q
        → backward part.number i ≡ backward part.number j → i ≡ j
    are_apart zero j p q h k e = absurd (none-some p h)
    are_apart (suc i) zero p q h k e = absurd (none-some q k)
    are_apart (suc i) (suc j) p q h k e = ap suc (part.apart i j p q h k e)

-- one number more among the others
pub part-later : (o : Option Issue) (issues others : Issues) → IsPart issues others → IsPart issues (o ∷ others)
part-later o issues others part = record {
  number = λ i. suc (part.number i);
  issued = λ i p h. part.issued i p h;
  apart = λ i j p q h k e. part.apart i j p q h k (omega (arith, e));
}

-- what is issued, without the numbers under which nothing is
pub part-issued : (issues : Issues) → IsPart issues (map Some (issued issues))
part-issued [] = part-refl []
part-issued (None ∷ issues) = part-skipped issues (map Some (issued issues)) (part-issued issues)
part-issued (Some p ∷ issues) = part-cons (Some p) issues (map Some (issued issues)) (part-issued issues)

pub issued-part : (issues : Issues) → IsPart (map Some (issued issues)) issues
issued-part [] = part-refl []
issued-part (None ∷ issues) = part-later None (map Some (issued issues)) issues (issued-part issues)
issued-part (Some p ∷ issues) = part-cons (Some p) (map Some (issued issues)) issues (issued-part issues)

-- ---- part of what keeps the rules keeps them

pub issued-within : (issues : Issues) (i : ℕ) (p : Issue) → IsIssued issues i p → i < length issues
issued-within issues i p h = elim (cases_lt i (length issues)) [
  | inl low ↦ low
  | inr high ↦ absurd (none-some p (sym (get_or_past issues i None high) ∙ h))
]

-- the tail of a part, where the first one's number is left out
part-rest : (p : Issue) (issues others : Issues) (part : IsPart (Some p ∷ issues) others)
    → IsPart issues (set others (part.number 0) None)
part-rest p issues others part = record {
  number = λ i. part.number (suc i);
  issued = λ i q h. get_or-set_other others (part.number 0) (part.number (suc i)) None None (other i q h)
      ∙ part.issued (suc i) q h;
  apart = λ i j q r h k e. (let same : suc i ≡ suc j = part.apart (suc i) (suc j) q r h k e in omega (arith, same));
}
  where
    other : (i : ℕ) (q : Issue) → IsIssued issues i q → part.number (suc i) ≢ part.number 0
    other i q h e = let same : suc i ≡ 0 = part.apart (suc i) 0 q p h refl e in omega (arith, same)

-- a sum over what is issued is no greater for a part
pub part-sum : (f : Option Issue → ℕ) → f None ≡ 0 → (issues others : Issues) → IsPart issues others
    → sum_by f issues ≤ sum_by f others
part-sum f none [] others part = omega arith
part-sum f none (None ∷ issues) others part =
    let rest : IsPart issues others = record {
      number = λ i. part.number (suc i);
      issued = λ i p h. part.issued (suc i) p h;
      apart = λ i j p q h k e. (let same : suc i ≡ suc j = part.apart (suc i) (suc j) p q h k e in omega (arith, same));
    } in
    let less : sum_by f issues ≤ sum_by f others = part-sum f none issues others rest in
    let first : sum_by f (None ∷ issues) ≡ f None + sum_by f issues = sum_by-cons f None issues in
    omega (arith, less, first, none)
part-sum f none (Some p ∷ issues) others part =
    let here : get_or others (part.number 0) None ≡ Some p = part.issued 0 p refl in
    let less : sum_by f issues ≤ sum_by f (set others (part.number 0) None) = part-sum f none issues
    (set others (part.number 0) None) (part-rest p issues others part) in
    let gone : sum_by f (set others (part.number 0) None) + f (get_or others (part.number 0) None) ≡ sum_by f others + f
    None =
    sum_by-set f others (part.number 0) None None (issued-within others (part.number 0) p here) in
    let own : f (get_or others (part.number 0) None) ≡ f (Some p) = ap f here in
    let first : sum_by f (Some p ∷ issues) ≡ f (Some p) + sum_by f issues = sum_by-cons f (Some p) issues in
    omega (arith, less, gone, own, first, none)

-- two that may land together among the others may do so in a part
pub part-excused : (issues others : Issues) (part : IsPart issues others) (p q : Issue) → MayLandTogether others p q
    → MayLandTogether issues p q
part-excused issues others part p q may = record {
  one = may.one;
  other = may.other;
  is_one = may.is_one;
  is_other = may.is_other;
  same = may.same;
  opposite = may.opposite;
  stays = λ k r t at lands. may.stays (part.number k) r t (part.issued k r at) lands;
}

pub part-keeps : (issues others : Issues) → IsPart issues others → KeepsPacketRules others → KeepsPacketRules issues
part-keeps issues others part keeps = record {
  enough = λ cycle r. omega (arith, part-sum (uses_in cycle r) refl issues others part, keeps.enough cycle r);
  landing = λ i j p q reg cycle h k first second.
      elim (keeps.landing (part.number i) (part.number j) p q reg cycle (part.issued i p h) (part.issued j q k) first
      second) [
        | inl same ↦ inl (part.apart i j p q h k same)
        | inr may ↦ inr (part-excused issues others part p q may)
      ];
}

-- ---- any order

-- where a number goes when i and j are exchanged
exchanged : ℕ → ℕ → ℕ → ℕ
exchanged i j k = if k == j then i else if k == i then j else k

pub record IsExchange (i j k to : ℕ) : Type 0 where
  pub cases : ((k ≡ j) × (to ≡ i)) ⊎ (((k ≢ j) × (k ≡ i) × (to ≡ j)) ⊎ ((k ≢ j) × (k ≢ i) × (to ≡ k)))

exchange-cases : (i j k : ℕ) → IsExchange i j k (exchanged i j k)
unfolding exchanged
exchange-cases i j k = record { cases = found }
  where
    found : ((k ≡ j) × (exchanged i j k ≡ i))
        ⊎ (((k ≢ j) × (k ≡ i) × (exchanged i j k ≡ j)) ⊎ ((k ≢ j) × (k ≢ i) × (exchanged i j k ≡ k)))
    found = elim (cases_eq k j) [
      | inl second ↦ inl (second, rw (eq-eqb k j second) refl)
      | inr other ↦ elim (cases_eq k i) [
        | inl first ↦ inr (inl (other, first, rw (ne_eqb k j other, eq-eqb k i first) refl))
        | inr neither ↦ inr (inr (other, neither, rw (ne_eqb k j other, ne_eqb k i neither) refl))
      ]
    ]

-- different numbers go to different ones
exchange-apart : (i j k m a b : ℕ) → IsExchange i j k a → IsExchange i j m b → a ≡ b → k ≡ m
exchange-apart i j k m a b first second e = elim first.cases [
  | inl x ↦ elim second.cases [
    | inl y ↦ omega (arith, x.0, y.0)
    | inr rest ↦ elim rest [
      | inl y ↦ absurd (y.0 (omega (arith, x.1, y.1, y.2, e)))
      | inr y ↦ absurd (y.1 (omega (arith, x.1, y.2, e)))
    ]
  ]
  | inr left ↦ elim left [
    | inl x ↦ elim second.cases [
      | inl y ↦ absurd (x.0 (omega (arith, x.1, x.2, y.1, e)))
      | inr rest ↦ elim rest [
        | inl y ↦ omega (arith, x.1, y.1)
        | inr y ↦ absurd (y.0 (omega (arith, x.2, y.2, e)))
      ]
    ]
    | inr x ↦ elim second.cases [
      | inl y ↦ absurd (x.1 (omega (arith, x.2, y.1, e)))
      | inr rest ↦ elim rest [
        | inl y ↦ absurd (x.0 (omega (arith, x.2, y.2, e)))
        | inr y ↦ omega (arith, x.2, y.2, e)
      ]
    ]
  ]
]

pub part-swapped : (issues : Issues) (i j : ℕ) → i < length issues → j < length issues → IsPart (swap issues i j) issues
part-swapped issues i j low below = record {
  number = exchanged i j;
  issued = is_issued;
  apart = λ k m p q h g e. exchange-apart i j k m (exchanged i j k) (exchanged i j m) (exchange-cases i j k)
      (exchange-cases i j m) e;
}
  where
    inner : Issues
    inner = set issues i (get_or issues j None)

    second : j < length inner
    second = omega (arith, below, length-set issues i (get_or issues j None))

    whole : set inner j (get_or issues i None) ≡ swap issues i j
    whole = swap_is issues i j None low below

    found : (k to : ℕ) → IsExchange i j k to
        → get_or (set inner j (get_or issues i None)) k None ≡ get_or issues to None
    found k to exchange = elim exchange.cases [
      | inl x ↦ ap (λ (n : ℕ). get_or (set inner j (get_or issues i None)) n None) x.0
          ∙ get_or-set_same inner j (get_or issues i None) None second
          ∙ ap (λ (n : ℕ). get_or issues n None) (sym x.1)
      | inr rest ↦ elim rest [
        | inl x ↦ get_or-set_other inner j k (get_or issues i None) None x.0 ∙ ap (λ (n : ℕ). get_or inner n None) x.1
            ∙ get_or-set_same issues i (get_or issues j None) None low ∙ ap (λ (n : ℕ). get_or issues n None) (sym x.2)
        | inr x ↦ get_or-set_other inner j k (get_or issues i None) None x.0
            ∙ get_or-set_other issues i k (get_or issues j None) None x.1
            ∙ ap (λ (n : ℕ). get_or issues n None) (sym x.2)
      ]
    ]

    is_issued : (k : ℕ) (p : Issue) → IsIssued (swap issues i j) k p → IsIssued issues (exchanged i j k) p
    is_issued k p h = sym (found k (exchanged i j k) (exchange-cases i j k))
        ∙ ap (λ (xs : Issues). get_or xs k None) whole ∙ h

-- a list in another order
pub part-permuted : (issues others : Issues) → IsPermutation issues others → IsPart others issues
part-permuted issues others =
    IsPermutation-keeps issues (λ xs. IsPart xs issues) (part-refl issues)
    (λ xs i j low below part. part-trans (swap xs i j) xs issues (part-swapped xs i j low below) part) others

pub any-order-part : (issues others : Issues) → IsPermutation (issued issues) (issued others) → IsPart others issues
any-order-part issues others same =
    part-trans others (map Some (issued others)) issues (part-issued others)
    (part-trans (map Some (issued others)) (map Some (issued issues)) issues
    (part-permuted (map Some (issued issues)) (map Some (issued others))
    (IsPermutation-map Some (issued issues) (issued others) same))
    (issued-part issues))

pub any-order-keeps : (issues others : Issues) → IsPermutation (issued issues) (issued others) → KeepsPacketRules issues
    → KeepsPacketRules others
any-order-keeps issues others same = part-keeps others issues (any-order-part issues others same)

-- one issue less
pub part-without : (issues : Issues) (i : ℕ) → IsPart (set issues i None) issues
part-without issues i = record {
  number = λ k. k;
  issued = is_issued;
  apart = λ k m p q h g e. e;
}
  where
    is_issued : (k : ℕ) (p : Issue) → IsIssued (set issues i None) k p → IsIssued issues k p
    is_issued k p h = elim (cases_eq k i) [
      | inl same ↦ absurd (none-some p (sym (gone k same) ∙ h))
      | inr other ↦ sym (get_or-set_other issues i k None None other) ∙ h
    ]
      where
        gone : (n : ℕ) → n ≡ i → get_or (set issues i None) n None ≡ None
        gone n same = ap (λ (m : ℕ). get_or (set issues i None) m None) same ∙ elim (cases_lt i (length issues)) [
          | inl low ↦ get_or-set_same issues i None None low
          | inr high ↦ get_or_past (set issues i None) i None (omega (arith, high, length-set issues i None))
        ]
