-- The greatest of some bounds.
use Rattle.c62_depend.proofs.Common.{◌≡◌, zero, suc, ℤ, ◌≤ℤ◌, Bool, true, false, List, [], ◌∷◌, Option, Some, None}
use Rattle.c62_depend.proofs.Common.{refl, sym, ap, subst, arith, inl}
use Rattle.c62_depend.proofs.Common.{inr, ◌⊎◌, cond, not, Contains, MatchOption, fold, int_lt, int_max, ints, clamps}
use Rattle.c62_depend.proofs.Common.{greater, greatest_by}
use Rattle.c62_depend.proofs.Common.{cases_Bool}

-- of the whole numbers such as P says: the greatest, or none where there is none
abbrev pub IsGreatest : (ℤ → Type 0) → Option ℤ → Type 0
IsGreatest P o = MatchOption o ((b : ℤ) → P b → ⊥) (λ m. P m × ((b : ℤ) → P b → b ≤ℤ m))

-- one number alone, or none
pub IsGreatest-is : (o : Option ℤ) → IsGreatest (λ b. o ≡ Some b) o
IsGreatest-is None = λ b e. cc
IsGreatest-is (Some m) = (refl, λ b e. (let same : m ≡ b = cc in omega (arith, ints)))

pub IsGreatest-same : (P Q : ℤ → Type 0) (o : Option ℤ) → IsGreatest P o → ((b : ℤ) → P b → Q b) → ((b : ℤ) → Q b → P b)
    → IsGreatest Q o
IsGreatest-same P Q None g into out = λ b q. g b (out b q)
IsGreatest-same P Q (Some m) g into out = (into m g.0, λ b q. g.1 b (out b q))

-- there is one greatest
pub IsGreatest-one : (P : ℤ → Type 0) (a b : Option ℤ) → IsGreatest P a → IsGreatest P b → a ≡ b
IsGreatest-one P None None ga gb = refl
IsGreatest-one P None (Some y) ga gb = absurd (ga y gb.0)
IsGreatest-one P (Some x) None ga gb = absurd (gb x ga.0)
IsGreatest-one P (Some x) (Some y) ga gb =
    (let same : x ≡ y = omega (arith, ints, gb.1 x ga.0, ga.1 y gb.0) in ap Some same)

int_max-either : (x y : ℤ) → (int_max x y ≡ x) ⊎ (int_max x y ≡ y)
int_max-either x y = elim (cases_Bool (int_lt y x)) [ inl less ↦ inl (rw less refl) | inr more ↦ inr (rw more refl) ]

-- the greatest of two kinds
pub IsGreatest-greater : (P Q : ℤ → Type 0) (a b : Option ℤ) → IsGreatest P a → IsGreatest Q b
    → IsGreatest (λ z. P z ⊎ Q z) (greater a b)
IsGreatest-greater P Q None None ga gb = λ z r. elim r [ inl p ↦ ga z p | inr q ↦ gb z q ]
IsGreatest-greater P Q None (Some y) ga gb = (inr gb.0, λ z r. elim r [ inl p ↦ absurd (ga z p) | inr q ↦ gb.1 z q ])
IsGreatest-greater P Q (Some x) None ga gb = (inl ga.0, λ z r. elim r [ inl p ↦ ga.1 z p | inr q ↦ absurd (gb z q) ])
IsGreatest-greater P Q (Some x) (Some y) ga gb = (
  elim (int_max-either x y) [ inl e ↦ inl (subst P (sym e) ga.0) | inr e ↦ inr (subst Q (sym e) gb.0) ],
  λ z r. elim r [
    | inl p ↦ (let h : z ≤ℤ x = ga.1 z p in omega (arith, ints, clamps))
    | inr q ↦ (let h : z ≤ℤ y = gb.1 z q in omega (arith, ints, clamps))
  ],
)

-- the greatest of two kinds that a test tells apart
abbrev pub OfEither : (Bool → ℤ → Type 0) → ℤ → Type 0
OfEither P b = (t : Bool) × P t b

pub IsGreatest-either : (P : Bool → ℤ → Type 0) (first : Bool) (a b : Option ℤ) → IsGreatest (P first) a
    → IsGreatest (P (not first)) b
    → IsGreatest (OfEither P) (greater a b)
IsGreatest-either P first a b ga gb =
    IsGreatest-same (λ z. P first z
    ⊎ P (not first) z) (OfEither P) (greater a b) (IsGreatest-greater (P first) (P (not first)) a b ga gb)
    (λ z r. elim r [ inl p ↦ (first, p) | inr q ↦ (not first, q) ]) (λ z w. either first w.0 z w.1)
  where
    either : (first t : Bool) (z : ℤ) → P t z → P first z ⊎ P (not first) z
    either true true z p = inl p
    either true false z p = inr p
    either false true z p = inr p
    either false false z p = inl p

-- numbers that are given under tests
pub IsGreatest-tests : (t : Bool → Bool) (x : Bool → ℤ) (first : Bool) (a b : ℤ) → a ≡ x first → b ≡ x (not first)
    → IsGreatest (OfEither (λ kind z. (t kind ≡ true) × (z ≡ x kind)))
    (greater (cond (t first) (Some a) None) (cond (t (not first)) (Some b) None))
IsGreatest-tests t x first a b is_a is_b =
    IsGreatest-either (λ kind z. (t kind ≡ true)
    × (z ≡ x kind)) first (cond (t first) (Some a) None) (cond (t (not first)) (Some b) None)
    (tested (t first) a (x first) is_a) (tested (t (not first)) b (x (not first)) is_b)
  where
    tested : (t : Bool) (x y : ℤ) → x ≡ y → IsGreatest (λ z. (t ≡ true) × (z ≡ y)) (cond t (Some x) None)
    tested true x y e = ((refl, e), λ z w. (let same : z ≡ y = w.1 in omega (arith, ints)))
    tested false x y e = λ z w. (let clash : false ≡ true = w.0 in cc)

-- what holds of some element of a list
abbrev pub OfSome : {X : Type 0} → (X → ℤ → Type 0) → List X → ℤ → Type 0
OfSome {X} P xs b = (x : X) × Contains xs x × P x b

-- what f gives for some element
abbrev pub IsGiven : {X : Type 0} → (X → Option ℤ) → List X → ℤ → Type 0
IsGiven f = OfSome (λ x b. f x ≡ Some b)

of_some : {X : Type 0} (P : X → ℤ → Type 0) (x : X) (xs : List X) (b : ℤ) → P x b ⊎ OfSome P xs b → OfSome P (x ∷ xs) b
of_some P x xs b (inl p) = (x, (0, omega arith, refl), p)
of_some P x xs b (inr (y, (k, lt, e), p)) = (y, (suc k, omega arith, e), p)

first_or_later : {X : Type 0} (P : X → ℤ → Type 0) (x : X) (xs : List X) (b : ℤ) → OfSome P (x ∷ xs) b → P x b
    ⊎ OfSome P xs b
first_or_later {X} P x xs b (y, (zero, lt, e), p) = inl (subst (λ (z : X). P z b) (sym e) p)
first_or_later P x xs b (y, (suc k, lt, e), p) = inr (y, (k, omega arith, e), p)

greatest_more : {X : Type 0} (P : X → ℤ → Type 0) (f : X → Option ℤ) → ((x : X) → IsGreatest (P x) (f x))
    → (Q : ℤ → Type 0) (most : Option ℤ) (xs : List X)
    → IsGreatest Q most → IsGreatest (λ b. Q b ⊎ OfSome P xs b) (fold (λ a x. greater a (f x)) most xs)
greatest_more P f each Q most [] g =
    IsGreatest-same Q (λ b. Q b
    ⊎ OfSome P [] b) most g (λ b q. inl q) (λ b r. elim r [ inl q ↦ q | inr w ↦ absurd (omega (arith, w.1.1)) ])
greatest_more P f each Q most (x ∷ xs) g =
    IsGreatest-same (λ b. (Q b ⊎ P x b) ⊎ OfSome P xs b) (λ b. Q b ⊎ OfSome P (x ∷ xs) b) _
    (greatest_more P f each (λ b. Q b
    ⊎ P x b) (greater most (f x)) xs (IsGreatest-greater Q (P x) most (f x) g (each x)))
    (λ b r. elim r [
      | inl q ↦ elim q [ inl h ↦ inl h | inr p ↦ inr (of_some P x xs b (inl p)) ]
      | inr w ↦ inr (of_some P x xs b (inr w))
    ])
    (λ b r. elim r [
      | inl q ↦ inl (inl q)
      | inr w ↦ elim (first_or_later P x xs b w) [ inl p ↦ inl (inr p) | inr v ↦ inr v ]
    ])

-- the greatest over a list, where f tells the greatest of each element
pub IsGreatest-over : {X : Type 0} (P : X → ℤ → Type 0) (f : X → Option ℤ) (xs : List X)
    → ((x : X) → IsGreatest (P x) (f x))
    → IsGreatest (OfSome P xs) (greatest_by f xs)
IsGreatest-over P f xs each =
    IsGreatest-same (λ b. ⊥ ⊎ OfSome P xs b) (OfSome P xs) _ (greatest_more P f each (λ b. ⊥) None xs (λ b p. p))
    (λ b r. elim r [ inl p ↦ absurd p | inr w ↦ w ]) (λ b w. inr w)

pub IsGreatest-greatest_by : {X : Type 0} (f : X → Option ℤ) (xs : List X)
    → IsGreatest (IsGiven f xs) (greatest_by f xs)
IsGreatest-greatest_by f xs = IsGreatest-over (λ x b. f x ≡ Some b) f xs (λ x. IsGreatest-is (f x))
