-- An operation is found among those whose names begin so.
use Rattle.c62_line.proofs.Common.{cond_both, nat_tests, ◌≡◌, ◌≤◌, ℕ, length, get_or, arith, Bool, true, eqb, List, []}
use Rattle.c62_line.proofs.Common.{◌∷◌, Option, Some, refl, sym}
use Rattle.c62_line.proofs.Common.{ap, ◌∙◌, to_ascii_lowercase, filter, bytes_eq, Op, Add, mnemonic_of, begins, spells}
use Rattle.std.specs.List.{find}
use Rattle.std.proofs.lemmas.Slice.Eq.{bytes_eq-Decides}
use Rattle.c62_token.proofs.TokenLemmas.{on_test}
use Rattle.c62_op.specs.Table.{all_operations}
use Rattle.c62_line.specs.Mnemonic.{begins_so, operation_named}

-- what passes a test is found among those that pass a weaker one
find_filter : (test weaker : Op → Bool) → ((x : Op) → test x ≡ true → weaker x ≡ true) → (xs : List Op)
    → find test xs ≡ find test (filter weaker xs)
find_filter test weaker passes [] = refl
find_filter test weaker passes (x ∷ xs) = rw (on_test (find test), find_filter test weaker passes xs)
    (grind (arith, passes x))

-- a word that spells a name begins as the name does
first_same : (name : List ℕ) (b : ℕ) (rest : List ℕ) → spells name (b ∷ rest) ≡ true
    → begins (λ c. eqb (to_ascii_lowercase c) (to_ascii_lowercase b)) name ≡ true
first_same [] b rest spelled = absurd cc
first_same (n ∷ name) b rest spelled = grind (arith, nat_tests)

-- the operations that begin so are all among which a word is found
pub named_by : (ops : List Op) (name : List ℕ) (letter : ℕ) → 1 ≤ length name
    → letter ≡ to_ascii_lowercase (get_or name 0 0)
    → filter (begins_so letter) ops ≡ filter (begins_so letter) all_operations
    → find (λ op. spells (mnemonic_of op) name) ops ≡ operation_named name
unfolding operation_named
named_by ops [] letter some is same = absurd (omega (arith, some))
named_by ops (b ∷ rest) letter some is same =
    let spelled : Op → Bool = λ op. spells (mnemonic_of op) (b ∷ rest) in
    let weaker : (op : Op) → spelled op ≡ true
    → begins_so letter op ≡ true = λ op e. rw is (first_same (mnemonic_of op) b rest e) in
    find_filter spelled (begins_so letter) weaker ops ∙ ap (find spelled) same
    ∙ sym (find_filter spelled (begins_so letter) weaker all_operations)

pub named : (op : Op) → operation_named (mnemonic_of op) ≡ Some op
unfolding operation_named
named Add = refl
named _ = refl

-- an operation whose very name this is
pub named_in_capitals : (ops : List Op) (name : List ℕ) (op : Op)
    → find (λ o. bytes_eq (mnemonic_of o) name) ops ≡ Some op
    → operation_named name ≡ Some op
named_in_capitals [] name op is = absurd cc
named_in_capitals (x ∷ ops) name op is =
    cond_both (bytes_eq (mnemonic_of x) name) (Some x) (find (λ o. bytes_eq (mnemonic_of o) name) ops)
    (λ (found : Option Op). found ≡ Some op → operation_named name ≡ Some op)
    (λ e found. ap operation_named (sym ((bytes_eq-Decides (mnemonic_of x) name).0 e)) ∙ named x ∙ found)
    (λ e found. named_in_capitals ops name op found) is
