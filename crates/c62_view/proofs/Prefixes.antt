-- Beginnings of one list.
use Rattle.std.proofs.Common.{◌≡◌, ◌↔◌, ℕ, ◌+◌, ◌≤◌, Bool, true, false, List, [], ◌++◌, length, take, drop, refl}
use Rattle.std.proofs.Common.{length-append, sym, ap, ◌∙◌, arith}
use Rattle.std.specs.Prelude.{IsTrue, MatchBool}
use Rattle.std.proofs.lemmas.Bool.{false≢true, leb-true, leb-false}
use Rattle.std.proofs.lemmas.List.{append-nil, append_assoc, take-append-le, take-append-drop, take_all}
use lib.Dec.{leb}
use mathlib.Core.List.{IsPrefix}

module _ {X : Type 0} where
  pub prefix_self : (xs : List X) → IsPrefix xs xs
  prefix_self xs = ([], append-nil xs)

  pub prefix_trans : (xs ys zs : List X) → IsPrefix xs ys → IsPrefix ys zs → IsPrefix xs zs
  prefix_trans xs ys zs (more, here) (rest, there) = (
    more ++ rest,
    sym (append_assoc xs more rest)
        ∙ (ap (λ (front : List X). front ++ rest) here ∙ there),
  )

  -- as many elements of the whole as a beginning has are that beginning
  cut : (n : ℕ) (xs zs : List X) → n ≤ length xs → IsPrefix xs zs → take n zs ≡ take n xs
  cut n xs zs few (rest, is) = ap (take n) (sym is) ∙ take-append-le n xs rest few

  -- of two beginnings of one list, the one that is not longer begins the other
  pub prefix_shorter : (xs ys zs : List X) → IsPrefix xs zs → IsPrefix ys zs → length xs ≤ length ys → IsPrefix xs ys
  prefix_shorter xs ys zs one other few =
      let n : ℕ = length xs in
      let same : take n ys ≡ xs = sym (cut n ys zs few other)
      ∙ (cut n xs zs (omega arith) one ∙ take_all n xs (omega arith)) in
      (drop n ys, ap (λ (front : List X). front ++ drop n ys) (sym same) ∙ take-append-drop n ys)

  -- a beginning that is as long as the whole is the whole
  pub prefix_whole : (xs ys : List X) → IsPrefix xs ys → length ys ≤ length xs → xs ≡ ys
  prefix_whole xs ys begins long = sym (take_all (length xs) xs (omega arith))
      ∙ (sym (cut (length xs) xs ys (omega arith) begins) ∙ take_all (length xs) ys long)

  -- two beginnings of one list are told apart by how long they are
  pub begun_by_count : (n m : ℕ) (xs ys zs : List X) → n ≡ length xs → m ≡ length ys → IsPrefix xs zs → IsPrefix ys zs
      → (b : Bool) → leb n m ≡ b → MatchBool b (IsPrefix xs ys) (IsPrefix ys xs)
  begun_by_count n m xs ys zs is his one other true e = let few = leb-true n m e in prefix_shorter xs ys zs one other
      (omega (arith, few, is, his))
  begun_by_count n m xs ys zs is his one other false e = let many = leb-false n m e in prefix_shorter ys xs zs other one
      (omega (arith, many, is, his))

  -- and the one that is longer begins no beginning of it that is shorter
  pub begins_by_count : (n m : ℕ) (xs ys zs : List X) → n ≡ length xs → m ≡ length ys → IsPrefix xs zs → IsPrefix ys zs
      → (b : Bool)
      → leb n m ≡ b → IsTrue b ↔ IsPrefix xs ys
  begins_by_count n m xs ys zs is his one other true e =
      let few = leb-true n m e in (λ _. prefix_shorter xs ys zs one other (omega (arith, few, is, his)), λ _. refl)
  begins_by_count n m xs ys zs is his one other false e = (
    λ yes. absurd (false≢true yes),
    λ begins.
        let many = leb-false n m e in
        let whole : length xs + length begins.0 ≡ length ys = sym (length-append xs begins.0) ∙ ap length begins.1 in
        absurd (omega (arith, many, is, his, whole)),
  )
