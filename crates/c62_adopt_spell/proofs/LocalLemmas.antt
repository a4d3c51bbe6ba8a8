-- Names of local labels stand nowhere in their text, and each is of one label.
use Rattle.std.proofs.Common.{◌≡◌, ◌<◌, ◌≤◌, ◌^◌, ◌∙◌, ap, sym, refl, ℕ, zero, suc, ◌+◌, List, [], ◌∷◌, ◌++◌}
use Rattle.std.proofs.Common.{length, true, append_assoc, append-nil, arith}
use Rattle.std.specs.Prelude.{codes, decimal, max, replicate}
use Rattle.std.proofs.lemmas.Bool.Decides.{nat_tests}
use Rattle.std.proofs.lemmas.List.{append_cancel_left, length-append, length-replicate}
use Rattle.std.proofs.lemmas.Fmt.{decimal_injective, digits_decimal}
use Rattle.std.specs.Char.{is_ascii_digit}
use Rattle.std.specs.List.{list_all}
use Rattle.std.proofs.lemmas.Bool.{and_parts}
use Rattle.c62_token.proofs.SpelledNumbers.{own}
use Rattle.c62_token.specs.Number.{is_label}
use Rattle.c62_line.proofs.SpelledOperands.{label_parts}
use Rattle.c62_adopt_spell.specs.Local.{local_name, longest, mark_of, run_with}
use Rattle.c62_adopt_spell.specs.Laws.{AreApart, StandsNowhere}

-- no run is longer than the longest
most_stays : (most run : ℕ) (text : List ℕ) → most ≤ longest most run text
most_stays most run [] = omega arith
most_stays most run (b ∷ text) =
    let more : most ≤ max most (run_with run b) = omega arith in
    let rest = most_stays (max most (run_with run b)) (run_with run b) text in
    omega (arith, more, rest)

dollar_more : (least run : ℕ) → least ≤ run → least + 1 ≤ 32 → least + 1 ≤ run_with run 36
dollar_more least run some small = grind (arith, nat_tests)

run_counts : (k least most run : ℕ) (text : List ℕ) → least ≤ run → least + suc k ≤ 32
    → least + suc k ≤ longest most run (replicate (suc k) 36 ++ text)
run_counts zero least most run text some small =
    let step = dollar_more least run some (omega (arith, small)) in
    let more : run_with run 36 ≤ max most (run_with run 36) = omega arith in
    let rest = most_stays (max most (run_with run 36)) (run_with run 36) text in
    omega (arith, step, more, rest)
run_counts (suc k) least most run text some small =
    let step = dollar_more least run some (omega (arith, small)) in
    let rest = run_counts k (least + 1) (max most (run_with run 36)) (run_with run 36) text step
    (omega (arith, small)) in
    omega (arith, rest)

run_within : (k most run : ℕ) (front text : List ℕ) → suc k ≤ 32
    → suc k ≤ longest most run (front ++ (replicate (suc k) 36 ++ text))
run_within k most run [] text small =
    let run = run_counts k 0 most run text (omega arith) (omega (arith, small)) in
    omega (arith, run)
run_within k most run (b ∷ front) text small =
    run_within k (max most (run_with run b)) (run_with run b) front text small

too_long : (k : ℕ) (text front rest : List ℕ) → longest 0 0 text ≡ k → k + 1 ≤ 32
    → text ≡ front ++ (replicate (suc k) 36 ++ rest) → ⊥
too_long k text front rest most small is =
    let here = run_within k 0 0 front rest (omega (arith, small)) in
    let there : suc k ≤ longest 0 0 text = rw is here in
    absurd (omega (arith, there, most))

mark_fits : (k : ℕ) (rest : List ℕ) → is_label (replicate (suc k) 36 ++ rest) ≡ true → k + 1 ≤ 32
mark_fits k rest is =
    let few = (label_parts (replicate (suc k) 36 ++ rest) is).2 in
    let long = length-append (replicate (suc k) 36) rest in
    let same = length-replicate {A = ℕ} (suc k) 36 in
    grind (arith, nat_tests, few, long, same)

nowhere_by : (k : ℕ) (text front behind rest name : List ℕ) → longest 0 0 text ≡ k
    → name ≡ replicate (suc k) 36 ++ rest → is_label name ≡ true → text ≡ front ++ (name ++ behind) → ⊥
nowhere_by k text front behind rest name most named label is =
    too_long k text front (rest ++ behind) most (mark_fits k rest (rw named at label))
    (is ∙ rw named (ap (λ (bytes : List ℕ). front ++ bytes) (append_assoc (replicate (suc k) 36) rest behind)))

shape : (mark number count : List ℕ) → mark ++ number ++ codes "$" ++ count ≡ mark ++ (number ++ 36 ∷ count)
shape mark number count = simp (append_assoc, append-nil) refl

pub nowhere : (text : List ℕ) (n count : ℕ) → StandsNowhere text (local_name (mark_of text) n count)
nowhere text n count front behind label is =
    let next : longest 0 0 text + 1 ≡ suc (longest 0 0 text) = omega arith in
    let named : local_name (mark_of text) n count ≡ replicate (suc (longest 0 0 text)) 36 ++ (decimal n ++ 36 ∷ decimal count) =
    shape (mark_of text) (decimal n) (decimal count)
    ∙ ap (λ (m : ℕ). replicate m 36 ++ (decimal n ++ 36 ∷ decimal count)) next
    in
    nowhere_by (longest 0 0 text) text front behind (decimal n ++ 36 ∷ decimal count)
    (local_name (mark_of text) n count) refl named label is

-- ---- each is of one label

split : (xs ys s t : List ℕ) → list_all is_ascii_digit xs ≡ true → list_all is_ascii_digit ys ≡ true
    → xs ++ 36 ∷ s ≡ ys ++ 36 ∷ t → (xs ≡ ys) × (s ≡ t)
split [] [] s t one other is = (refl, cc)
split [] (y ∷ ys) s t one other is =
    let first : 36 ≡ y = cc in
    absurd (grind (arith, nat_tests, first))
split (x ∷ xs) [] s t one other is =
    let first : x ≡ 36 = cc in
    absurd (grind (arith, nat_tests, first))
split (x ∷ xs) (y ∷ ys) s t one other is =
    let first : x ≡ y = cc in
    let rest = split xs ys s t (and_parts (is_ascii_digit x) (list_all is_ascii_digit xs) one).1
    (and_parts (is_ascii_digit y) (list_all is_ascii_digit ys) other).1 cc in
    (rw first (ap (λ (l : List ℕ). y ∷ l) rest.0), rest.1)

pub apart : (mark : List ℕ) → AreApart mark
apart mark n m count other n_small m_small count_small other_small is =
    let parts = split (decimal n) (decimal m) (decimal count) (decimal other) (digits_decimal own n n_small)
    (digits_decimal own m m_small)
    (append_cancel_left mark (decimal n ++ 36 ∷ decimal count) (decimal m ++ 36 ∷ decimal other)
    (sym (shape mark (decimal n) (decimal count)) ∙ is ∙ shape mark (decimal m) (decimal other))) in
    (decimal_injective n m n_small m_small parts.0, decimal_injective count other count_small other_small parts.1)
