-- The marks of what goes with a number, and a copy of what is left.
use Rattle.std.proofs.Common.{◌≡◌, ℕ, zero, suc, ◌+◌, ◌<◌, ◌≤◌, ◌↔◌, List, [], ◌∷◌, ◌++◌, length, Bool, true, false}
use Rattle.std.proofs.Common.{cond, Option, None, get_or, set, take, IsSome, IsTrue, inl, inr, sym, ap, refl, ◌∙◌}
use Rattle.std.proofs.Common.{arith, get_or-set_same, get_or-set_other, length-set}
use Rattle.std.proofs.lemmas.Bool.{cases_eq, false≢true}
use Rattle.std.proofs.lemmas.List.{get_or-take, ext_get_or, length-take-le}
use Rattle.c62_insn.specs.declared.insn.Insn.{Insn}
use Rattle.c62_sheet.specs.declared.entry.Entry.{Entry}
use Rattle.c62_sheet.specs.declared.entry.Entry.TheVariants.{Withdraw}
use Rattle.c62_sheet.specs.declared.entry.Spot.{Spot}
use Rattle.c62_sheet.specs.declared.entry.Who.{Who}
use Rattle.c62_sheet.specs.Lawful.{Spots, spot_at, withdrawn, IsLawful}
use Rattle.c62_sheet.specs.Journal.{replayed}
use Rattle.c62_sheet.specs.Chain.{Leads, IsMarked, Marks}
use Rattle.c62_board.specs.Withdrawal.{GoesWith, Withdraws, IsLeft, left_at}
use Rattle.c62_board.proofs.TakingOut.{IsTakingOut, taking_none, taking_skip, taking_take, taking_all}
use Rattle.c62_board.proofs.Withdrawals.{kept_below}
use Rattle.c62_read.specs.declared.limits.TheConstants.{MOST_INSTRUCTIONS}

-- ---- marks of what goes with a number

-- of the numbers below j those that go with i are marked, and of the others those to which a chain leads from it
pub record AreNarrowed (block : List Insn) (set : Spots) (i j : ℕ) (marks : List Bool) : Type 0 where
  pub many : length marks ≡ MOST_INSTRUCTIONS
  pub go : (k : ℕ) → k < j → k < length block → IsMarked marks k ↔ GoesWith block set i k
  pub led : (k : ℕ) → j ≤ k → k < length block → IsMarked marks k ↔ Leads block i k

pub narrowed_none : (block : List Insn) (set : Spots) (i : ℕ) (marks : List Bool) → length marks ≡ MOST_INSTRUCTIONS
    → Marks block (Leads block i) marks
    → AreNarrowed block set i 0 marks
narrowed_none block set i marks many led = record {
  many = many;
  go = λ k lt within. absurd (omega (arith, lt));
  led = λ k le within. led k within;
}

pub narrowed_more : (block : List Insn) (spots : Spots) (i j : ℕ) (marks : List Bool) (b : Bool) → j < length block
    → j < MOST_INSTRUCTIONS
    → IsTrue b ↔ (IsMarked marks j × IsSome (spot_at spots j)) → AreNarrowed block spots i j marks
    → AreNarrowed block spots i (j + 1) (set marks j b)
narrowed_more block spots i j marks b within low is so_far = record {
  many = length-set marks j b ∙ so_far.many;
  go = λ k lt in_block. elim (cases_eq k j) [
    | inl e ↦
        let here : get_or (set marks j b) k false ≡ b = ap (λ (x : ℕ). get_or (set marks j b) x false) e
        ∙ get_or-set_same marks j b false (rw so_far.many low) in (
          λ marked. (let w = is.0 (sym here ∙ marked) in
              record { taken = rw e w.1; led = rw e ((so_far.led j (omega arith) within).0 w.0) }),
          λ g. here ∙ is.1 ((so_far.led j (omega arith) within).1 (rw e at g.led), rw e at g.taken),
        )
    | inr ne ↦
        let there : get_or (set marks j b) k false ≡ get_or marks k false = get_or-set_other marks j k b false ne in
        let old = so_far.go k (omega arith) in_block in
        (λ marked. old.0 (sym there ∙ marked), λ g. there ∙ old.1 g)
  ];
  led = λ k le in_block.
      let there : get_or (set marks j b) k false ≡ get_or marks k false = get_or-set_other marks j k b false
      (omega arith) in
      let old = so_far.led k (omega arith) in_block in
      (λ marked. old.0 (sym there ∙ marked), λ g. there ∙ old.1 g);
}

pub narrowed_all : (block : List Insn) (set : Spots) (i j : ℕ) (marks : List Bool) → length block ≤ j
    → AreNarrowed block set i j marks
    → Marks block (GoesWith block set i) marks
narrowed_all block set i j marks all narrowed k within = narrowed.go k (omega arith) within

-- ---- a copy of what is left

abbrev pub set_spot : Spots → ℕ → Option Spot → Spots
set_spot rest k o = set rest k o

-- what is marked can be taken out, from the highest down to m
pub taken_down : (block : List Insn) (set : Spots) (i : ℕ) (who : Who) (marks : List Bool) → IsLawful block set
    → Marks block (GoesWith block set i) marks
    → (d m : ℕ) → d + m ≡ length block → (now : Spots) × (es : List Entry) × IsTakingOut block set i who m now es
taken_down block set i who marks lawful marked zero m all =
    (set, [], taking_none block set i who m lawful (omega (arith, all)))
taken_down block set i who marks lawful marked (suc d) m all =
    here (taken_down block set i who marks lawful marked d (suc m) (omega (arith, all))) (get_or marks m false) refl
  where
    within : m < length block
    within = omega (arith, all)

    here : ((now : Spots) × (es : List Entry) × IsTakingOut block set i who (suc m) now es) → (b : Bool)
        → get_or marks m false ≡ b
        → (now : Spots) × (es : List Entry) × IsTakingOut block set i who m now es
    here r true is = (
      withdrawn r.0 m,
      r.1 ++ Withdraw m who ∷ [],
      taking_take block set r.0 i m (suc m) who r.1 refl within
          ((marked m within).0 is) r.2,
    )
    here r false is = (
      r.0,
      r.1,
      taking_skip block set r.0 i m (suc m) who r.1 refl
          (λ (g : GoesWith block set i m). false≢true (sym is ∙ (marked m within).1 g)) r.2,
    )

-- one number more is copied
pub copy_one : (marks : List Bool) (set rest : Spots) (k : ℕ) (o : Option Spot) → o ≡ left_at marks set k
    → k < length rest
    → ((j : ℕ) → j < k → spot_at rest j ≡ left_at marks set j) → (j : ℕ) → j < k + 1
    → spot_at (set_spot rest k o) j ≡ left_at marks set j
copy_one marks set rest k o is within so_far j lt = elim (cases_eq j k) [
  | inl e ↦ ap (λ (x : ℕ). spot_at (set_spot rest k o) x) e ∙ get_or-set_same rest k o None within ∙ is
      ∙ ap (left_at marks set) (sym e)
  | inr ne ↦ get_or-set_other rest k j o None ne ∙ so_far j (omega arith)
]

-- a copy without what is marked is what is left
pub copy_is_left : (block : List Insn) (set rest : Spots) (i : ℕ) (who : Who) (marks : List Bool) → IsLawful block set
    → Marks block (GoesWith block set i) marks
    → length block ≤ length rest → ((k : ℕ) → k < length block → spot_at rest k ≡ left_at marks set k)
    → IsLeft block set i who (take (length block) rest)
copy_is_left block set rest i who marks lawful marked room are =
    from (taken_down block set i who marks lawful marked (length block) 0 (omega arith))
  where
    from : ((now : Spots) × (es : List Entry) × IsTakingOut block set i who 0 now es)
        → IsLeft block set i who (take (length block) rest)
    from r = record {
      entries = r.1;
      withdraws = out;
      legal = r.2.legal;
      spots = ext_get_or None (take (length block) rest) (replayed set r.1) (length-take-le (length block) rest room
          ∙ sym sized)
          (λ k lt. (let within : k < length block = rw (← length-take-le (length block) rest room) lt in
          get_or-take (length block) rest k None within ∙ are k within ∙ here k within (get_or marks k false) refl));
    }
      where
        out : Withdraws block set i who r.1
        out = taking_all block set r.0 i 0 who r.1 refl r.2

        sized : length (replayed set r.1) ≡ length block
        sized = rw (← r.2.spots) r.2.lawful.sized

        here : (k : ℕ) → k < length block → (b : Bool) → get_or marks k false ≡ b
            → left_at marks set k ≡ spot_at (replayed set r.1) k
        here k within true is = ap (λ (b : Bool). cond {A = Option Spot} b None (spot_at set k)) is
            ∙ sym (rw (← r.2.spots) (r.2.gone k (omega arith) ((marked k within).0 is)))
        here k within false is = ap (λ (b : Bool). cond {A = Option Spot} b None (spot_at set k)) is
            ∙ sym (kept_below block set set i who (length block) k r.1 out
            (λ (g : GoesWith block set i k). false≢true (sym is ∙ (marked k within).1 g)))
