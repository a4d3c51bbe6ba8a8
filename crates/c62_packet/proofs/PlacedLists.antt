-- Lists of placed instructions, and what lands of them.
use Rattle.std.proofs.Common.{arith, ◌≡◌, ℕ, zero, suc, ◌+◌, ◌<◌, ◌≤◌, List, [], ◌∷◌, length, Bool, true, false, refl}
use Rattle.std.proofs.Common.{sym, ◌∙◌}
use Rattle.std.specs.Prelude.{◌==◌, ◌&&◌, Contains, All}
use Rattle.std.specs.List.{list_any}
use Rattle.std.proofs.lemmas.Bool.{or_parts, false≢true, false_from_ne_true}
use Rattle.std.proofs.lemmas.Bool.Decides.{nat_tests}
use Rattle.std.proofs.lemmas.List.Elements.{All-nil, All-cons, All-contains, All-tail}
use Rattle.std.proofs.lemmas.Option.{same_Some, none-some}
use Rattle.c62_op.specs.declared.register.Reg.{Reg}
use Rattle.c62_op.specs.Takes.{same_reg}
use Rattle.c62_op.specs.declared.operands.Op.{Op}
use Rattle.c62_op.specs.Shape.{delay_of}
use Rattle.c62_insn.specs.Insn.{op_of, register_writes}
use Rattle.c62_insn.proofs.InsnLemmas.{timely_writes}
use Rattle.c62_rules.specs.PacketRules.{Issue, IsIssued}
use Rattle.c62_packet.specs.declared.placed.Placed.{Placed}
use Rattle.c62_packet.specs.Packed.{issue_of, issued}
use Rattle.c62_packet.specs.Clash.{is_landing, lands}

-- ---- lists of placed instructions

pub both : (a b : Bool) → a ≡ true → b ≡ true → (a && b) ≡ true
both a b x y = rw (x, y) refl

pub same_number : (a b : ℕ) → a ≡ b → (a == b) ≡ true
same_number a b e = grind (arith, nat_tests)

pub number_same : (a b : ℕ) → (a == b) ≡ true → a ≡ b
number_same a b h = grind (arith, nat_tests)

-- what is issued is a placed instruction, and passes no test that none of them passes
pub record IsOneOf (xs : List Placed) (j : ℕ) (q : Issue) : Type 0 where
  pub one : Placed
  pub is : q ≡ issue_of one
  pub there : Contains xs one
  pub fails : (test : Placed → Bool) → list_any test xs ≡ false → test one ≡ false

pub issued-one : (xs : List Placed) (j : ℕ) (q : Issue) → IsIssued (issued xs) j q → IsOneOf xs j q
issued-one [] j q at = absurd (none-some q at)
issued-one (x ∷ xs) zero q at = record {
  one = x;
  is = sym (same_Some (issue_of x) q at);
  there = (0, omega arith, refl);
  fails = λ test h. (or_parts (test x) (list_any test xs) h).0;
}
issued-one (x ∷ xs) (suc j) q at =
    let rest : IsOneOf xs j q = issued-one xs j q at in
    let there : Contains (x ∷ xs) rest.one =
    (suc rest.there.0, (let low : rest.there.0 < length xs = rest.there.1 in omega arith), rest.there.2) in
    record {
      one = rest.one;
      is = rest.is;
      there = there;
      fails = λ test h. rest.fails test
          (or_parts (test x) (list_any test xs) h).1;
    }

-- where no issued one passes, none does
pub none-issued : (test : Placed → Bool) (xs : List Placed)
    → ((j : ℕ) (s : Placed) → IsIssued (issued xs) j (issue_of s) → test s ≡ true → ⊥)
    → list_any test xs ≡ false
none-issued test [] none = refl
none-issued test (x ∷ xs) none =
    let here : test x ≡ false = false_from_ne_true (test x) (none 0 x refl) in
    rw here (none-issued test xs (λ j s at. none (suc j) s at))

-- a write doesn't land before it is issued
and-false : (a b : Bool) → b ≡ false → (a && b) ≡ false
and-false true b e = e
and-false false b e = refl

none-lands : (from cycle : ℕ) (reg : Reg) (writes : List (Reg × ℕ)) → cycle < from
    → list_any (is_landing from reg cycle) writes ≡ false
none-lands from cycle reg [] late = refl
none-lands from cycle reg (write ∷ writes) late =
    let other : (from + write.1 == cycle) ≡ false = grind (arith, nat_tests) in
    let here : is_landing from reg cycle write ≡ false = and-false (same_reg write.0 reg) (from + write.1 == cycle)
    other in
    rw (here, none-lands from cycle reg writes late) refl

pub lands-late : (reg : Reg) (cycle : ℕ) (q : Placed) → cycle < q.cycle → lands reg cycle q ≡ false
lands-late reg cycle q late = none-lands q.cycle cycle reg (register_writes q.insn) late

-- nor later than the delay slots of its instruction last
none-timely : (op : Op) (from cycle : ℕ) (reg : Reg) (writes : List (Reg × ℕ))
    → All (λ write. write.1 ≤ delay_of op) writes → from + delay_of op < cycle
    → list_any (is_landing from reg cycle) writes ≡ false
none-timely op from cycle reg [] timely early = refl
none-timely op from cycle reg (write ∷ writes) timely early =
    let within : write.1 ≤ delay_of op = timely 0 write (omega arith) in
    let other : (from + write.1 == cycle) ≡ false = grind (arith, nat_tests) in
    let here : is_landing from reg cycle write ≡ false = and-false (same_reg write.0 reg) (from + write.1 == cycle)
    other in
    rw (here, none-timely op from cycle reg writes (All-tail (λ w. w.1 ≤ delay_of op) write writes timely) early) refl

pub lands-early : (reg : Reg) (cycle : ℕ) (q : Placed) → q.cycle + delay_of (op_of q.insn) < cycle
    → lands reg cycle q ≡ false
lands-early reg cycle q early =
    none-timely (op_of q.insn) q.cycle cycle reg (register_writes q.insn)
    (λ k d within. (timely_writes q.insn k d within).1) early

pub all-fail : {X : Type 0} (test : X → Bool) (xs : List X) → list_any test xs ≡ false → All (λ y. test y ≡ false) xs
all-fail test [] h = All-nil (λ y. test y ≡ false)
all-fail test (y ∷ xs) h =
    let parts = or_parts (test y) (list_any test xs) h in
    All-cons (λ z. test z ≡ false) y xs parts.0 (all-fail test xs parts.1)

-- a test that one passes
pub any-contained : {X : Type 0} (test : X → Bool) (xs : List X) (x : X) → Contains xs x → test x ≡ true
    → list_any test xs ≡ false → ⊥
any-contained test xs x is passes fails = false≢true
    (sym (All-contains (λ y. test y ≡ false) xs x (all-fail test xs fails) is) ∙ passes)

pub some-contained : {X : Type 0} (test : X → Bool) (xs : List X) → list_any test xs ≡ true → (x : X) × Contains xs x
    × (test x ≡ true)
some-contained test [] h = absurd (false≢true h)
some-contained {X} test (x ∷ xs) h = by_head (test x) refl (λ rest. some-contained test xs rest)
  where
    by_head : (b : Bool) → test x ≡ b → (list_any test xs ≡ true → (y : X) × Contains xs y × (test y ≡ true))
        → (y : X) × Contains (x ∷ xs) y × (test y ≡ true)
    by_head true e later = (x, (0, omega arith, refl), e)
    by_head false e later =
        let rest = later (rw e at h) in
        (rest.0, (suc rest.1.0, (let low : rest.1.0 < length xs = rest.1.1 in omega arith), rest.1.2), rest.2)
