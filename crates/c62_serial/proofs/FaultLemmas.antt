-- A line joins rising lines, which are told by their members.
use Rattle.std.proofs.Common.{◌≡◌, ◌⊎◌, ℕ, zero, suc, ◌+◌, ◌<◌, ◌≤◌, Bool, true, false, List, [], ◌∷◌, ◌++◌, length}
use Rattle.std.proofs.Common.{take, drop, refl, inl, inr, ◌∙◌, sym, subst, cond, ap, arith, Some, Result, Ok, Err}
use Rattle.std.proofs.Common.{get_or, add-one}
use Rattle.std.specs.Prelude.{◌↔◌, All, Contains, filter, nat_lt, slice_get, slice_index_or, insert}
use Rattle.std.specs.Ordering.{nat_cmp}
use Rattle.std.specs.List.Sorted.{IsStrictlyIncreasing, IsBinarySearchResult}
use Rattle.std.proofs.lemmas.Bool.{cases_lt, false≢true}
use Rattle.std.proofs.lemmas.Bool.Decides.{nat_tests}
use Rattle.std.proofs.lemmas.Grind.{common_steps}
use Rattle.std.proofs.lemmas.List.{take-append-drop, get_or-take, get_or-drop, length-take, length-drop, drop_more}
use Rattle.std.proofs.lemmas.List.Elements.{All-head, All-tail, All-from_get_or, filter_passes, filter-append}
use Rattle.std.proofs.lemmas.List.Elements.{Contains-append_left, Contains-append_right, Contains-append_cases}
use Rattle.std.proofs.lemmas.List.Kept.{IsStrictlyIncreasing-filter, AllPairs-from_increasing}
use Rattle.std.proofs.lemmas.List.Sorted.{searched}
use Rattle.std.proofs.lemmas.Option.{get_or_from_slice_get, slice_get-get_or, slice_get_within}
use Rattle.c62_serial.specs.Faults.{joined, FindsPlace}

kept : (p : ℕ → Bool) (xs : List ℕ) → All (λ x. p x ≡ true) xs → filter p xs ≡ xs
kept p [] h = refl
kept p (x ∷ xs) h = rw (All-head (λ x. p x ≡ true) x xs h)
    (ap (λ zs. x ∷ zs) (kept p xs (All-tail (λ x. p x ≡ true) x xs h)))

dropped : (p : ℕ → Bool) (xs : List ℕ) → All (λ x. p x ≡ false) xs → filter p xs ≡ []
dropped p [] h = refl
dropped p (x ∷ xs) h = rw (All-head (λ x. p x ≡ false) x xs h) (dropped p xs (All-tail (λ x. p x ≡ false) x xs h))

pub is_below : (x y : ℕ) → x < y → nat_lt x y ≡ true
is_below x y h = grind (arith, nat_tests)

is_not_below : (x y : ℕ) → y ≤ x → nat_lt x y ≡ false
is_not_below x y h = grind (arith, nat_tests)

below_kept : (line : ℕ) (xs : List ℕ) → All (λ x. x < line) xs → filter (λ x. nat_lt x line) xs ≡ xs
below_kept line xs h = kept (λ x. nat_lt x line) xs (λ k d l. is_below (get_or xs k d) line (h k d l))

below_dropped : (line : ℕ) (xs : List ℕ) → All (λ x. line ≤ x) xs → filter (λ x. nat_lt x line) xs ≡ []
below_dropped line xs h = dropped (λ x. nat_lt x line) xs (λ k d l. is_not_below (get_or xs k d) line (h k d l))

above_kept : (line : ℕ) (xs : List ℕ) → All (λ x. line < x) xs → filter (λ x. nat_lt line x) xs ≡ xs
above_kept line xs h = kept (λ x. nat_lt line x) xs (λ k d l. is_below line (get_or xs k d) (h k d l))

above_dropped : (line : ℕ) (xs : List ℕ) → All (λ x. x ≤ line) xs → filter (λ x. nat_lt line x) xs ≡ []
above_dropped line xs h = dropped (λ x. nat_lt line x) xs (λ k d l. is_not_below line (get_or xs k d) (h k d l))

below_weaker : (line : ℕ) (xs : List ℕ) → All (λ x. x < line) xs → All (λ x. x ≤ line) xs
below_weaker line xs h = λ k d l. (let e : get_or xs k d < line = h k d l in omega arith)

above_weaker : (line : ℕ) (xs : List ℕ) → All (λ x. line < x) xs → All (λ x. line ≤ x) xs
above_weaker line xs h = λ k d l. (let e : line < get_or xs k d = h k d l in omega arith)

-- a line that is new stands between those below and those above
joined_new : (line : ℕ) (xs ys : List ℕ) → All (λ x. x < line) xs → All (λ y. line < y) ys
    → joined line (xs ++ ys) ≡ xs ++ line ∷ ys
joined_new line xs ys below above =
    rw (
      filter-append (λ x. nat_lt x line) xs ys,
      filter-append (λ x. nat_lt line x) xs ys,
      below_kept line xs below,
      below_dropped line ys (above_weaker line ys above),
      above_dropped line xs (below_weaker line xs below),
      above_kept line ys above,
    )
    (grind (arith, common_steps))

not_below_itself : (line : ℕ) → nat_lt line line ≡ false
not_below_itself line = is_not_below line line (omega arith)

-- a line that stands there changes nothing
joined_old : (line : ℕ) (xs ys : List ℕ) → All (λ x. x < line) xs → All (λ y. line < y) ys
    → joined line (xs ++ line ∷ ys) ≡ xs ++ line ∷ ys
joined_old line xs ys below above =
    rw (
      filter-append (λ x. nat_lt x line) xs (line ∷ ys),
      filter-append (λ x. nat_lt line x) xs (line ∷ ys),
      not_below_itself line,
      below_kept line xs below,
      below_dropped line ys (above_weaker line ys above),
      above_dropped line xs (below_weaker line xs below),
      above_kept line ys above,
    )
    (grind (arith, common_steps))

front_below : (line i : ℕ) (lines : List ℕ) → i ≤ length lines → ((k : ℕ) → k < i → get_or lines k 0 < line)
    → All (λ x. x < line) (take i lines)
front_below line i lines l h = All-from_get_or (λ x. x < line) (take i lines) 0
    (λ k b. (let c : k < i = omega (arith, length-take i lines) in rw (get_or-take i lines k 0 c) (h k c)))

back_above : (line i : ℕ) (lines : List ℕ) → ((k : ℕ) → i ≤ k → k < length lines → line < get_or lines k 0)
    → All (λ x. line < x) (drop i lines)
back_above line i lines h = All-from_get_or (λ x. line < x) (drop i lines) 0
    (λ k b. rw (get_or-drop i lines k 0) (h (i + k) (omega arith) (omega (arith, length-drop i lines))))

pub joined_insert : (line i : ℕ) (lines : List ℕ) → i ≤ length lines → ((k : ℕ) → k < i → get_or lines k 0 < line)
    → ((k : ℕ) → i ≤ k → k < length lines → line < get_or lines k 0) → joined line lines ≡ insert lines i line
joined_insert line i lines l below above =
    let e : joined line (take i lines ++ drop i lines) ≡ take i lines ++ line ∷ drop i lines
    = joined_new line (take i lines) (drop i lines) (front_below line i lines l below) (back_above line i lines above)
    in
    rw take-append-drop at e

apart : (lines : List ℕ) (i j : ℕ) → IsStrictlyIncreasing lines → i < j → j < length lines
    → get_or lines i 0 < get_or lines j 0
apart lines i j rising l b = AllPairs-from_increasing lines rising i j 0 l b

pub joined_same : (line i : ℕ) (lines : List ℕ) → IsStrictlyIncreasing lines → i < length lines
    → get_or lines i 0 ≡ line → joined line lines ≡ lines
joined_same line i lines rising l e =
    let front : All (λ x. x < line) (take i lines) = front_below line i lines (omega arith)
    (λ k b. rw (← e) (apart lines k i rising b l)) in
    let back : All (λ x. line < x) (drop (i + 1) lines) = back_above line (i + 1) lines
    (λ k b c. rw (← e) (apart lines i k rising (omega arith) c)) in
    let parts : lines ≡ take i lines ++ line ∷ drop (i + 1) lines
    = grind (arith, take-append-drop i lines, drop_more lines i 0 l, e) in
    rw (← parts) at (joined_old line (take i lines) (drop (i + 1) lines) front back)

rising_apart : (lines : List ℕ) (i j : ℕ) → IsStrictlyIncreasing lines → i ≤ j → j < length lines
    → get_or lines i 0 ≤ get_or lines j 0
rising_apart lines i j rising l b = grind (arith, apart lines i j rising)

-- a line that stands somewhere changes nothing
pub joined_standing : (line i : ℕ) (lines : List ℕ) → IsStrictlyIncreasing lines → slice_get lines i ≡ Some line
    → joined line lines ≡ lines
joined_standing line i lines rising at =
    joined_same line i lines rising (slice_get_within lines i line at) (get_or_from_slice_get lines i line 0 at)

-- what a binary search in rising lines finds
pub found : (lines : List ℕ) (line : ℕ) (r : Result ℕ ℕ) → IsStrictlyIncreasing lines
    → IsBinarySearchResult (λ y. nat_cmp y line) lines r
    → FindsPlace line lines r
found lines line (Ok i) rising h =
    let s = searched lines line (Ok i) h (λ i j. rising_apart lines i j rising) in
    let at : slice_get lines i ≡ Some line = slice_get-get_or lines i 0 s.0 ∙ ap (λ (n : ℕ). Some n) s.1 in
    (at, joined_same line i lines rising s.0 s.1)
found lines line (Err i) rising h =
    let s = searched lines line (Err i) h (λ i j. rising_apart lines i j rising) in
    (s.0, joined_insert line i lines s.0 s.1 s.2)

rising_cons : (x : ℕ) (xs : List ℕ) → (0 < length xs → x < get_or xs 0 0) → IsStrictlyIncreasing xs
    → IsStrictlyIncreasing (x ∷ xs)
rising_cons x xs first rising zero b = first (omega arith)
rising_cons x xs first rising (suc k) b = rw add-one (rw add-one at (rising k (omega arith)))

rising_tail : (x : ℕ) (xs : List ℕ) → IsStrictlyIncreasing (x ∷ xs) → IsStrictlyIncreasing xs
rising_tail x xs rising k b = rw add-one (rw add-one at (rising (suc k) (omega arith)))

below_first : (x line : ℕ) (xs ys : List ℕ) → IsStrictlyIncreasing (x ∷ xs) → x < line
    → x < get_or (xs ++ line ∷ ys) 0 0
below_first x line [] ys rising below = below
below_first x line (z ∷ zs) ys rising below = rising 0 (omega arith)

-- two rising lists with a line between them
between : (line : ℕ) (xs ys : List ℕ) → IsStrictlyIncreasing xs → IsStrictlyIncreasing ys → All (λ x. x < line) xs
    → All (λ y. line < y) ys
    → IsStrictlyIncreasing (xs ++ line ∷ ys)
between line [] ys rx ry below above = rising_cons line ys (λ l. above 0 0 l) ry
between line (x ∷ xs) ys rx ry below above =
    rising_cons x (xs ++ line ∷ ys) (λ l. below_first x line xs ys rx (All-head (λ z. z < line) x xs below))
    (between line xs ys (rising_tail x xs rx) ry (All-tail (λ z. z < line) x xs below) above)

passes_below : (line : ℕ) (lines : List ℕ) → All (λ x. x < line) (filter (λ x. nat_lt x line) lines)
passes_below line lines k d l =
    let e : nat_lt (get_or (filter (λ x. nat_lt x line) lines) k d) line ≡ true = filter_passes (λ x. nat_lt x line)
    lines k d l in
    grind (arith, nat_tests)

passes_above : (line : ℕ) (lines : List ℕ) → All (λ x. line < x) (filter (λ x. nat_lt line x) lines)
passes_above line lines k d l =
    let e : nat_lt line (get_or (filter (λ x. nat_lt line x) lines) k d) ≡ true = filter_passes (λ x. nat_lt line x)
    lines k d l in
    grind (arith, nat_tests)

pub joined_rises : (line : ℕ) (lines : List ℕ) → IsStrictlyIncreasing lines → IsStrictlyIncreasing (joined line lines)
joined_rises line lines rising =
    between line (filter (λ x. nat_lt x line) lines) (filter (λ x. nat_lt line x) lines)
    (IsStrictlyIncreasing-filter (λ x. nat_lt x line) lines rising)
    (IsStrictlyIncreasing-filter (λ x. nat_lt line x) lines rising)
    (passes_below line lines) (passes_above line lines)

-- ---- the members of joined lines

here : (x : ℕ) (xs : List ℕ) → Contains (x ∷ xs) x
here x xs = (0, omega arith, refl)

later : (x y : ℕ) (xs : List ℕ) → Contains xs y → Contains (x ∷ xs) y
later x y xs c = (suc c.0, omega arith, c.2)

cases : (x y : ℕ) (xs : List ℕ) → Contains (x ∷ xs) y → (x ≡ y) ⊎ Contains xs y
cases x y xs c = at c.0 c.1 c.2
  where
    at : (k : ℕ) → k < length (x ∷ xs) → slice_index_or (x ∷ xs) k y ≡ y → (x ≡ y) ⊎ Contains xs y
    at zero l e = inl e
    at (suc k) l e = inr (k, omega arith, e)

filtered : (p : ℕ → Bool) (xs : List ℕ) (y : ℕ) → Contains (filter p xs) y → Contains xs y
filtered p [] y c = c
filtered p (x ∷ xs) y c = either (p x) (filtered p xs y) c
  where
    either : (b : Bool) → (Contains (filter p xs) y → Contains xs y)
        → Contains (cond b (x ∷ filter p xs) (filter p xs)) y → Contains (x ∷ xs) y
    either true rest d = elim (cases x y (filter p xs) d)
        [ inl e ↦ (0, omega arith, e) | inr r ↦ later x y xs (rest r) ]
    either false rest d = later x y xs (rest d)

passed : (p : ℕ → Bool) (xs : List ℕ) (y : ℕ) → p y ≡ true → Contains xs y → Contains (filter p xs) y
passed p [] y h c = c
passed p (x ∷ xs) y h c = by_case (p x) refl (cases x y xs c) (passed p xs y h)
  where
    by_case : (b : Bool) → p x ≡ b → (x ≡ y) ⊎ Contains xs y → (Contains xs y → Contains (filter p xs) y)
        → Contains (cond b (x ∷ filter p xs) (filter p xs)) y
    by_case true e (inl f) rest = (0, omega arith, f)
    by_case true e (inr r) rest = later x y (filter p xs) (rest r)
    by_case false e (inl f) rest = absurd (false≢true (sym e ∙ (rw f h)))
    by_case false e (inr r) rest = rest r

into : (lines : List ℕ) (line other : ℕ) → Contains (joined line lines) other → (other ≡ line) ⊎ Contains lines other
into lines line other c = elim
    (Contains-append_cases (filter (λ x. nat_lt x line) lines) (line ∷ filter (λ x. nat_lt line x) lines) other c) [
      | inl l ↦ inr (filtered (λ x. nat_lt x line) lines other l)
      | inr r ↦ from_line (cases line other (filter (λ x. nat_lt line x) lines) r)
    ]
  where
    from_line : (line ≡ other) ⊎ Contains (filter (λ x. nat_lt line x) lines) other → (other ≡ line)
        ⊎ Contains lines other
    from_line (inl e) = inl (sym e)
    from_line (inr r) = inr (filtered (λ x. nat_lt line x) lines other r)

stands : (lines : List ℕ) (line : ℕ) → Contains (joined line lines) line
stands lines line =
    Contains-append_right (filter (λ x. nat_lt x line) lines) (line ∷ filter (λ x. nat_lt line x) lines) line
    (here line (filter (λ x. nat_lt line x) lines))

held : (lines : List ℕ) (line other : ℕ) → Contains lines other → (other < line) ⊎ (line ≤ other)
    → Contains (joined line lines) other
held lines line other c (inl l) =
    Contains-append_left (filter (λ x. nat_lt x line) lines) (line ∷ filter (λ x. nat_lt line x) lines) other
    (passed (λ x. nat_lt x line) lines other (is_below other line l) c)
held lines line other c (inr l) = by_rest (cases_lt line other)
  where
    by_rest : (line < other) ⊎ (other ≤ line) → Contains (joined line lines) other
    by_rest (inl m) =
        Contains-append_right (filter (λ x. nat_lt x line) lines) (line ∷ filter (λ x. nat_lt line x) lines) other
        (later line other (filter (λ x. nat_lt line x) lines)
        (passed (λ x. nat_lt line x) lines other (is_below line other m) c))
    by_rest (inr m) = let e : line ≡ other = omega arith in let P : ℕ
        → Type 0 = λ z. Contains (joined line lines) z in subst P e (stands lines line)

out : (lines : List ℕ) (line other : ℕ) → (other ≡ line) ⊎ Contains lines other → Contains (joined line lines) other
out lines line other (inl e) = let P : ℕ
    → Type 0 = λ z. Contains (joined line lines) z in subst P (sym e) (stands lines line)
out lines line other (inr c) = held lines line other c (cases_lt other line)

-- among the lines after one joined them are that one and those that were
pub joined_holds : (lines : List ℕ) (line other : ℕ)
    → Contains (joined line lines) other ↔ ((other ≡ line) ⊎ Contains lines other)
joined_holds lines line other = (into lines line other, out lines line other)

-- ---- rising lines with the same members

member_first : (x n : ℕ) (xs : List ℕ) → IsStrictlyIncreasing (x ∷ xs) → Contains (x ∷ xs) n → x ≤ n
member_first x n xs rising (zero, l, e) = omega (arith, e)
member_first x n xs rising (suc k, l, e) = let f : x < get_or xs k n = AllPairs-from_increasing (x ∷ xs) rising 0
    (suc k) n (omega arith) l in omega (arith, e, f)

member_later : (x n : ℕ) (xs : List ℕ) → IsStrictlyIncreasing (x ∷ xs) → Contains xs n → x < n
member_later x n xs rising (k, l, e) = let f : x < get_or xs k n = AllPairs-from_increasing (x ∷ xs) rising 0 (suc k) n
    (omega arith) (omega arith) in omega (arith, e, f)

rest_of : (x y n : ℕ) (xs ys : List ℕ) → x ≡ y → IsStrictlyIncreasing (x ∷ xs)
    → (Contains (x ∷ xs) n → Contains (y ∷ ys) n) → Contains xs n → Contains ys n
rest_of x y n xs ys e rising h c = elim (cases y n ys (h (later x n xs c))) [
  | inl f ↦ (let l : x < n = member_later x n xs rising c in absurd (omega (arith, e, f, l)))
  | inr r ↦ r
]

pub same_rising : (xs ys : List ℕ) → IsStrictlyIncreasing xs → IsStrictlyIncreasing ys
    → ((n : ℕ) → Contains xs n ↔ Contains ys n) → xs ≡ ys
same_rising [] [] rx ry h = refl
same_rising [] (y ∷ ys) rx ry h = let c : Contains [] y = (h y).1 (here y ys) in absurd (omega (arith, c.1))
same_rising (x ∷ xs) [] rx ry h = let c : Contains [] x = (h x).0 (here x xs) in absurd (omega (arith, c.1))
same_rising (x ∷ xs) (y ∷ ys) rx ry h =
    let l : y ≤ x = member_first y x ys ry ((h x).0 (here x xs)) in
    let m : x ≤ y = member_first x y xs rx ((h y).1 (here y ys)) in
    let e : x ≡ y = omega (arith, l, m) in
    let rest = same_rising xs ys (rising_tail x xs rx) (rising_tail y ys ry)
    (λ n. (rest_of x y n xs ys e rx (h n).0, rest_of y x n ys xs (sym e) ry (h n).1)) in
    ap (λ (zs : List ℕ). x ∷ zs) rest ∙ ap (λ (z : ℕ). z ∷ ys) e
