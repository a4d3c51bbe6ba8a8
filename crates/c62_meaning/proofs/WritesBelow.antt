-- The writes of the instructions below a number, one after the other.
use Rattle.std.proofs.Common.{◌≡◌, ℕ, zero, suc, ◌<◌, ◌≤◌, List, [], ◌++◌, ⊎_elim, arith}
use Rattle.std.proofs.lemmas.Bool.{cases_lt}
use Rattle.c62_meaning.specs.Landing.{Landing, value_before}
use Rattle.c62_meaning.proofs.Lookup.{In, In-append_left, In-append_right, In-append_cases, last_value, InOrder}
use Rattle.c62_meaning.proofs.Lookup.{InOrder-append, latest_is_last}

abbrev pub upto : (ℕ → List Landing) → ℕ → List Landing
upto f zero = []
upto f (suc i) = upto f i ++ f i

pub from_In-upto : (f : ℕ → List Landing) (i : ℕ) (w : Landing) → In w (upto f i) → (j : ℕ) × (j < i) × In w (f j)
from_In-upto f zero w h = absurd h
from_In-upto f (suc i) w h = grind (arith, from_In-upto f i w, In-append_cases w)

pub In-upto : (f : ℕ → List Landing) (i j : ℕ) (w : Landing) → j < i → In w (f j) → In w (upto f i)
In-upto f zero j w l h = absurd (omega arith)
In-upto f (suc i) j w l h = grind (arith, In-upto f i j w, In-append_right w, In-append_left w)

-- The writes of one cell, of instructions in serial order, come in the order of time.
pub record AreOrdered (f : ℕ → List Landing) (n cell : ℕ) : Type 0 where
  pub own : (j : ℕ) → j < n → InOrder cell (f j)
  pub ordered : (j k : ℕ) (v w : Landing) → j < k → k < n → In v (f j) → In w (f k) → v.cell ≡ cell → w.cell ≡ cell
      → v.time < w.time

pub InOrder-upto : (f : ℕ → List Landing) (n cell i : ℕ) → AreOrdered f n cell → i ≤ n → InOrder cell (upto f i)
InOrder-upto f n cell zero o l = tt
InOrder-upto f n cell (suc i) o l =
    InOrder-append cell (upto f i) (f i) (InOrder-upto f n cell i o (omega arith)) (o.own i (omega arith))
    (λ v w a b p q. let r = from_In-upto f i v a in o.ordered r.0 i v w r.1 (omega arith) r.2 b p q)

-- What a reader at the number i and the time t can see: the writes before it have landed, and those from it on have
-- not.
pub record IsReadAt (f : ℕ → List Landing) (n cell i t : ℕ) : Type 0 where
  pub below : i ≤ n
  pub before : (j : ℕ) (w : Landing) → j < i → In w (f j) → w.cell ≡ cell → w.time < t
  pub after : (j : ℕ) (w : Landing) → i ≤ j → j < n → In w (f j) → w.cell ≡ cell → t ≤ w.time

-- The landings `ms` before t are those of f.
pub record AreThose (f : ℕ → List Landing) (n t : ℕ) (ms : List Landing) : Type 0 where
  pub there : (j : ℕ) (w : Landing) → j < n → In w (f j) → w.time < t → In w ms
  pub no_other : (w : Landing) → In w ms → w.time < t → (j : ℕ) × (j < n) × In w (f j)

pub lookup : (f : ℕ → List Landing) (n cell i t : ℕ) (ms : List Landing) (old : ℕ) → AreOrdered f n cell
    → IsReadAt f n cell i t → AreThose f n t ms → value_before cell t ms old ≡ last_value cell (upto f i) old
lookup f n cell i t ms old o r a = latest_is_last cell t (upto f i) ms old (record {
  in_order = InOrder-upto f n cell i o r.below;
  in_time = λ w h p. let s = from_In-upto f i w h in r.before s.0 w s.1 s.2 p;
  landed = λ w h p l. let s = from_In-upto f i w h in let k : s.0 < i = s.1 in let b : i ≤ n = r.below in a.there s.0 w
      (omega arith) s.2 l;
  no_other = λ w h p l. seen w p l (a.no_other w h l);
})
  where
    seen : (w : Landing) → w.cell ≡ cell → w.time < t → (j : ℕ) × (j < n) × In w (f j) → In w (upto f i)
    seen w p l (j, k, h) =
        ⊎_elim
        (λ lt. In-upto f i j w lt h)
        (λ ge. let late : t ≤ w.time = r.after j w ge k h p in absurd (omega arith))
        (cases_lt j i)
