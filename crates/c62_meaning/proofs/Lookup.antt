-- Lookups: the last write in a list, and the one of greatest time, are one where the list is in the order of time.
use Rattle.std.proofs.Common.{◌≡◌, ℕ, suc, length, ◌<◌, ◌≤◌, cond, eqb, List, [], ◌∷◌, ◌++◌, Some}
use Rattle.std.proofs.Common.{None, refl, ◌∙◌, ◌⊎◌, inl, inr, ⊎_elim, arith}
use Rattle.std.proofs.lemmas.Bool.{le-ltb}
use Rattle.std.proofs.lemmas.Bool.{cond-false, and_right}
use Rattle.std.specs.List.{flat_map, Contains}
use Rattle.c62_meaning.specs.Landing.{Landing, latest, value_or}

abbrev pub In : {X : Type 0} → X → List X → Type 0
In x [] = ⊥
In x (y ∷ ys) = (y ≡ x) ⊎ In x ys

pub In_from_Contains : {X : Type 0} → (x : X) (xs : List X) → Contains xs x → In x xs
In_from_Contains x [] (k, l, e) = absurd (omega arith)
In_from_Contains x (y ∷ ys) h = grind (arith, In_from_Contains x ys)

pub Contains_from_In : {X : Type 0} → (x : X) (xs : List X) → In x xs → Contains xs x
Contains_from_In x [] h = absurd h
Contains_from_In x (y ∷ ys) (inl e) = (0, omega arith, e)
Contains_from_In x (y ∷ ys) (inr h) = let r = Contains_from_In x ys h in let l : r.0 < length ys = r.1 in
    (suc r.0, omega arith, r.2)

pub In-append_left : {X : Type 0} → (x : X) (xs ys : List X) → In x xs → In x (xs ++ ys)
In-append_left x [] ys h = absurd h
In-append_left x (y ∷ xs) ys h = grind (arith, In-append_left x xs ys)

pub In-append_right : {X : Type 0} → (x : X) (xs ys : List X) → In x ys → In x (xs ++ ys)
In-append_right x [] ys h = h
In-append_right x (y ∷ xs) ys h = inr (In-append_right x xs ys h)

pub In-append_cases : {X : Type 0} → (x : X) (xs ys : List X) → In x (xs ++ ys) → In x xs ⊎ In x ys
In-append_cases x [] ys h = inr h
In-append_cases x (y ∷ xs) ys h = grind (arith, In-append_cases x xs ys)

pub In-flat_map : {X Y : Type 0} → (f : X → List Y) (y : Y) (x : X) (xs : List X) → In x xs → In y (f x)
    → In y (flat_map f xs)
In-flat_map f y x [] h k = absurd h
In-flat_map f y x (z ∷ xs) h k = grind (arith, In-flat_map f y x xs, In-append_left, In-append_right)

pub from_In-flat_map : {X Y : Type 0} → (f : X → List Y) (y : Y) (xs : List X) → In y (flat_map f xs) → (x : X)
    × In x xs × In y (f x)
from_In-flat_map f y [] h = absurd h
from_In-flat_map f y (z ∷ xs) h = grind (arith, from_In-flat_map f y xs, In-append_cases y (f z) (flat_map f xs) h)

-- w is the landing at this cell before t of the greatest time
pub record IsLatest (cell t : ℕ) (ls : List Landing) (w : Landing) : Type 0 where
  pub inside : In w ls
  pub here : w.cell ≡ cell
  pub early : w.time < t
  pub last : (v : Landing) → In v ls → v.cell ≡ cell → v.time < t → v.time ≤ w.time

abbrev pub NoneBefore : ℕ → ℕ → List Landing → Type 0
NoneBefore cell t ls = (v : Landing) → In v ls → v.cell ≡ cell → v.time < t → ⊥

abbrev pub LatestCases : ℕ → ℕ → List Landing → Type 0
LatestCases cell t ls = (NoneBefore cell t ls × (latest cell t ls ≡ None))
    ⊎ ((w : Landing) × IsLatest cell t ls w × (latest cell t ls ≡ Some w))

pub latest_cases : (cell t : ℕ) (ls : List Landing) → LatestCases cell t ls
latest_cases cell t [] = inl ((λ v h p l. h), refl)
latest_cases cell t (x ∷ xs) = grind (arith, latest_cases cell t xs)

-- the value that the writes leave at a cell
abbrev pub last_value : ℕ → List Landing → ℕ → ℕ
last_value cell [] old = old
last_value cell (w ∷ ws) old = last_value cell ws (cond (eqb w.cell cell) w.value old)

-- the writes of this cell come in the order of time
abbrev pub InOrder : ℕ → List Landing → Type 0
InOrder cell [] = Unit {0}
InOrder cell (w ∷ ws) = ((v : Landing) → In v ws → w.cell ≡ cell → v.cell ≡ cell → w.time < v.time) × InOrder cell ws

pub record IsLast (cell : ℕ) (ls : List Landing) (w : Landing) : Type 0 where
  pub inside : In w ls
  pub here : w.cell ≡ cell
  pub last : (v : Landing) → In v ls → v.cell ≡ cell → (v.time < w.time) ⊎ (v ≡ w)

abbrev pub LastCases : ℕ → List Landing → ℕ → Type 0
LastCases cell ls old = (((v : Landing) → In v ls → v.cell ≡ cell → ⊥) × (last_value cell ls old ≡ old))
    ⊎ ((w : Landing) × IsLast cell ls w × (last_value cell ls old ≡ w.value))

last_cases : (cell : ℕ) (ls : List Landing) (old : ℕ) → InOrder cell ls → LastCases cell ls old
last_cases cell [] old o = inl ((λ v h p. h), refl)
last_cases cell (x ∷ xs) old o = grind (arith, last_cases cell xs x.value o.1, last_cases cell xs old o.1)

-- Of writes `ls` in serial order, and landings `ms` of which those before t are the same ones, the greatest is the
-- last.
pub record IsSeen (cell t : ℕ) (ls ms : List Landing) : Type 0 where
  pub in_order : InOrder cell ls
  pub in_time : (w : Landing) → In w ls → w.cell ≡ cell → w.time < t
  pub landed : (w : Landing) → In w ls → w.cell ≡ cell → w.time < t → In w ms
  pub no_other : (w : Landing) → In w ms → w.cell ≡ cell → w.time < t → In w ls

pub latest_is_last : (cell t : ℕ) (ls ms : List Landing) (old : ℕ) → IsSeen cell t ls ms
    → value_or (latest cell t ms) old ≡ last_value cell ls old
latest_is_last cell t ls ms old s = grind (arith, latest_cases cell t ms, last_cases cell ls old s.in_order)

pub last_value-append : (cell : ℕ) (ls ms : List Landing) (old : ℕ)
    → last_value cell (ls ++ ms) old ≡ last_value cell ms (last_value cell ls old)
last_value-append cell [] ms old = refl
last_value-append cell (x ∷ xs) ms old = last_value-append cell xs ms (cond (eqb x.cell cell) x.value old)

pub InOrder-append : (cell : ℕ) (ls ms : List Landing) → InOrder cell ls → InOrder cell ms
    → ((v w : Landing) → In v ls → In w ms → v.cell ≡ cell → w.cell ≡ cell → v.time < w.time)
    → InOrder cell (ls ++ ms)
InOrder-append cell [] ms o p h = p
InOrder-append cell (x ∷ xs) ms o p h = (
  (λ v k a b. ⊎_elim (λ c. o.0 v c a b) (λ c. h x v (inl refl) c a b) (In-append_cases v xs ms k)),
  InOrder-append cell xs ms o.1 p (λ v w a b. h v w (inr a) b),
)

-- A lookup sees only the landings before t.
pub latest-append : (cell t : ℕ) (ls ms ns : List Landing) → latest cell t ms ≡ latest cell t ns
    → latest cell t (ls ++ ms) ≡ latest cell t (ls ++ ns)
latest-append cell t [] ms ns e = e
latest-append cell t (x ∷ xs) ms ns e = grind (arith, latest-append cell t xs ms ns e)

pub latest-late : (cell t : ℕ) (ls ms : List Landing) → ((w : Landing) → In w ls → t ≤ w.time)
    → latest cell t (ls ++ ms) ≡ latest cell t ms
latest-late cell t [] ms h = refl
latest-late cell t (x ∷ xs) ms h =
    cond-false _ _ _ (and_right _ _ (le-ltb _ _ (h x (inl refl)))) ∙ latest-late cell t xs ms (λ w k. h w (inr k))
