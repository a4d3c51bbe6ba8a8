-- What is asked of steps and branches behind the instructions above the label, and what is told of them.
use Rattle.std.proofs.Common.{◌≡◌, ℕ, ◌+◌, ◌<◌, ◌≤◌, ℤ, pos, ◌-ℤ◌, ◌≤ℤ◌, Bool, true, false, List, [], ◌∷◌}
use Rattle.std.proofs.Common.{◌++◌, length, get_or, Option, Some, None, refl, sym, ◌∙◌, ap, subst, ◌⊎◌, inl, inr}
use Rattle.std.proofs.Common.{⊎_elim, arith}
use Rattle.std.specs.Prelude.{All, Contains, MatchOption}
use Rattle.std.proofs.lemmas.Bool.{cases_lt, false≢true}
use Rattle.std.proofs.lemmas.Int.{ints}
use Rattle.std.proofs.lemmas.List.{get_or_default}
use Rattle.std.proofs.lemmas.List.Elements.{Contains-append_left, Contains-append_right}
use Rattle.c62_op.specs.declared.register.Reg.{Reg}
use Rattle.c62_insn.specs.Insn.{register_writes, reads_register}
use Rattle.c62_pair.specs.declared.uses.Uses.{Uses}
use Rattle.c62_pair.specs.declared.reg_set.RegSet.{RegSet}
use Rattle.c62_pair.specs.RegSet.{reg_in}
use Rattle.c62_depend.proofs.Bounds.{write_of, set_of}
use Rattle.c62_packet.specs.declared.placed.Placed.{Placed}
use Rattle.c62_meaning.proofs.Lookup.{In, In_from_Contains, Contains_from_In, In-append_cases}
use Rattle.c62_loop.specs.Counter.{steps_on}
use Rattle.c62_loop.specs.Whole.{entry_of, IsAsked, ComesBehind, ComeBehind}
use Rattle.c62_loop.specs.Whole.IsAsked.{Lands, Reads}
use Rattle.c62_loop.proofs.Machines.{In-All}
use Rattle.c62_loop_match.specs.declared.early.Early.{Early}
use Rattle.c62_loop_match.specs.Begin.{IsMost, IsEarlyStart, HoldEarlyStart}

-- ---- of two

-- the registers that are written late or at once, and when
abbrev landing : Uses → Bool → RegSet
landing u true = u.results
landing u false = u.at_once

abbrev after : Uses → Bool → ℕ
after u true = u.delay
after u false = 0

abbrev Told : Uses → Reg → ℕ → Type 0
Told u reg d = ((d ≡ u.delay) × (reg_in u.results reg ≡ true)) ⊎ ((d ≡ 0) × (reg_in u.at_once reg ≡ true))

-- a write is one with the delay of the instruction, or at once
told_by : (u : Uses) (reg : Reg) (d : ℕ) (late : Bool) → d ≡ after u late → reg_in (landing u late) reg ≡ true
    → Told u reg d
told_by u reg d true e h = inl (e, h)
told_by u reg d false e h = inr (e, h)

told : (u : Uses) (reg : Reg) (d : ℕ) → Contains (register_writes u.insn) (reg, d) → Told u reg d
told u reg d w = let found = set_of u reg d w in told_by u reg d found.0 found.1 found.2

module _ (counter : Reg) (p q : Placed) (u : Uses) (is : u.insn ≡ p.insn) where
  writes : (d : ℕ) → Contains (register_writes p.insn) (counter, d) → Contains (register_writes u.insn) (counter, d)
  writes d w = subst (λ insn. Contains (register_writes insn) (counter, d)) (sym is) w

  pub by_result : reg_in u.results counter ≡ true → IsMost counter p q (u.delay + 1)
  by_result h = record {
    asked = Lands u.delay (subst (λ insn. Contains (register_writes insn) (counter, u.delay)) is
        (write_of u true counter h)) refl;
    most = most;
  }
    where
      most : (other : ℕ) → IsAsked counter p q other → other ≤ u.delay + 1
      most other (Lands d w e) = elim (told u counter d (writes d w)) [
        | inl late ↦ (let same : d ≡ u.delay = late.0 in omega arith)
        | inr now ↦ (let same : d ≡ 0 = now.0 in omega arith)
      ]
      most other (Reads r s e) = omega arith

  pub by_change : reg_in u.results counter ≡ false → reg_in u.at_once counter ≡ true → IsMost counter p q 1
  by_change none h = record {
    asked = Lands 0 (subst (λ insn. Contains (register_writes insn) (counter, 0)) is
        (write_of u false counter h)) refl;
    most = most;
  }
    where
      most : (other : ℕ) → IsAsked counter p q other → other ≤ 1
      most other (Lands d w e) = elim (told u counter d (writes d w)) [
        | inl late ↦ absurd (false≢true (sym none ∙ late.1))
        | inr now ↦ (let same : d ≡ 0 = now.0 in omega arith)
      ]
      most other (Reads r s e) = omega arith

  module _ (none : reg_in u.results counter ≡ false) (neither : reg_in u.at_once counter ≡ false) where
    no_write : (d : ℕ) → Contains (register_writes p.insn) (counter, d) → ⊥
    no_write d w = elim (told u counter d (writes d w)) [
      | inl late ↦ false≢true (sym none ∙ late.1)
      | inr now ↦ false≢true (sym neither ∙ now.1)
    ]

    pub by_read : reg_in u.reads counter ≡ true → steps_on counter (entry_of q) ≡ true → IsMost counter p q 0
    by_read reads steps = record { asked = Reads read steps refl; most = most }
      where
        read : reads_register p.insn counter ≡ true
        read = subst (λ insn. reads_register insn counter ≡ true) is (sym (u.reads_are counter) ∙ reads)

        most : (other : ℕ) → IsAsked counter p q other → other ≤ 0
        most other (Lands d w e) = absurd (no_write d w)
        most other (Reads r s e) = omega arith

    pub not_asked : (reg_in u.reads counter ≡ true → steps_on counter (entry_of q) ≡ true → ⊥) → (needs : ℕ)
        → IsAsked counter p q needs → ⊥
    not_asked free needs (Lands d w e) = no_write d w
    not_asked free needs (Reads r s e) =
        free (u.reads_are counter ∙ subst (λ insn. reads_register insn counter ≡ true) (sym is) r) s

pub free_behind : (counter : Reg) (p q : Placed) → ((needs : ℕ) → IsAsked counter p q needs → ⊥)
    → ComesBehind counter p q
free_behind counter p q free needs asked = absurd (free needs asked)

pub comes_behind : (counter : Reg) (p q : Placed) (most : ℕ) → IsMost counter p q most
    → pos most ≤ℤ (pos q.cycle -ℤ pos p.cycle) → ComesBehind counter p q
comes_behind counter p q most is fits needs asked =
    let less : needs ≤ most = is.most needs asked in omega (arith, ints, fits, less)

-- ---- of lists

pub more : {X : Type 0} (P : X → Type 0) (xs : List X) (n : ℕ) (x : X) → n < length xs → x ≡ get_or xs n x → P x
    → ((k : ℕ) (d : X) → k < n → P (get_or xs k d)) → (k : ℕ) (d : X) → k < n + 1 → P (get_or xs k d)
more P xs n x inside is one old k d l =
    ⊎_elim {C = P (get_or xs k d)} (λ (h : k < n). old k d h)
    (λ (h : n ≤ k). (let s : n ≡ k = omega arith in
    subst P (is ∙ get_or_default xs n x d inside ∙ ap (λ m. get_or xs m d) s) one))
    (cases_lt k n)

alone : (p x : Placed) → Contains (p ∷ []) x → p ≡ x
alone p x c = only (In_from_Contains x (p ∷ []) c)
  where
    only : In x (p ∷ []) → p ≡ x
    only (inl e) = e
    only (inr h) = absurd h

module _ (counter : Reg) where
  pub among_all : (p : Placed) (qs : List Placed) → All (λ q. ComesBehind counter p q) qs
      → ComeBehind counter (p ∷ []) qs
  among_all p qs all x q c d =
      subst (λ z. ComesBehind counter z q) (alone p x c)
      (In-All (λ y. ComesBehind counter p y) qs all q (In_from_Contains q qs d))

  pub among_early : (p q : Placed) (qs : List Placed) (early : Early) → Contains qs q
      → IsEarlyStart counter p q early → HoldEarlyStart counter (p ∷ []) qs early
  among_early p q qs early inside starts = record {
    first = p;
    second = q;
    is_first = Contains_from_In p (p ∷ []) (inl refl);
    is_second = inside;
    starts = starts;
  }

  pub any_all : (ps qs : List Placed) → All (λ p. ComeBehind counter (p ∷ []) qs) ps → ComeBehind counter ps qs
  any_all ps qs all p q c d =
      In-All (λ x. ComeBehind counter (x ∷ []) qs) ps all p (In_from_Contains p ps c) p q
      (Contains_from_In p (p ∷ []) (inl refl)) d

  pub any_early : (p : Placed) (ps qs : List Placed) (early : Early) → Contains ps p
      → HoldEarlyStart counter (p ∷ []) qs early → HoldEarlyStart counter ps qs early
  any_early p ps qs early inside found = record {
    first = found.first;
    second = found.second;
    is_first = subst (λ z. Contains ps z) (alone p found.first found.is_first) inside;
    is_second = found.is_second;
    starts = found.starts;
  }

  -- ---- of prolog and kernel

  pub of_prolog : (ps early kernel : List Placed) (found : Early) → HoldEarlyStart counter ps early found
      → HoldEarlyStart counter ps (early ++ kernel) found
  of_prolog ps early kernel found held = record {
    first = held.first;
    second = held.second;
    is_first = held.is_first;
    is_second = Contains-append_left early kernel held.second held.is_second;
    starts = held.starts;
  }

  pub of_kernel : (ps early kernel : List Placed) (found : Option Early) → ComeBehind counter ps early
      → MatchOption found (ComeBehind counter ps kernel) (HoldEarlyStart counter ps kernel)
      → MatchOption found (ComeBehind counter ps (early ++ kernel)) (HoldEarlyStart counter ps (early ++ kernel))
  of_kernel ps early kernel None before behind =
      λ p q c d. elim (In-append_cases q early kernel (In_from_Contains q (early ++ kernel) d)) [
        | inl h ↦ before p q c (Contains_from_In q early h)
        | inr h ↦ behind p q c (Contains_from_In q kernel h)
      ]
  of_kernel ps early kernel (Some found) before held = record {
    first = held.first;
    second = held.second;
    is_first = held.is_first;
    is_second = Contains-append_right early kernel held.second held.is_second;
    starts = held.starts;
  }
