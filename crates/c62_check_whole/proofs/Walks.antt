-- One text with the lines of all parts of a program, each over its own rows.
use Rattle.std.proofs.Common.{◌≡◌, ℕ, zero, suc, ◌+◌, ◌<◌, ◌≤◌, true, List, length, Some, refl, sym, ◌∙◌, subst}
use Rattle.std.proofs.Common.{◌⊎◌, inl, inr, ⊎_elim, arith}
use Rattle.std.specs.Prelude.{slice_get}
use Rattle.std.proofs.lemmas.Bool.{cases_lt}
use Rattle.std.proofs.lemmas.Option.{same_Some, slice_get_within}
use Rattle.clap.specs.Words.{Text as Name}
use Rattle.c62_op.specs.declared.register.Reg.{Reg}
use Rattle.c62_read.specs.Block.{Serial}
use Rattle.c62_flight.specs.Text.{Text}
use Rattle.c62_check_loop.specs.Relined.{AreRelined}
use Rattle.c62_check_rest.specs.Starts.{start_at}
use Rattle.c62_check_loops.specs.Fit.{block_behind}
use Rattle.c62_check_loops.specs.Told.{AreLoopsTold}
use Rattle.c62_check_loops.proofs.Loops.{there_at}
use Rattle.c62_check_whole.proofs.Texts.{SameRows, splice, splice_relined, splice_low, splice_high}
use Rattle.c62_check_whole.proofs.BlockTexts.{own, own_relined}
use Rattle.c62_check_whole.proofs.Parts.{Part, Enters, part_at}
use Rattle.c62_check_whole.proofs.Behind.{behind_loop, behind_block, behind_pass, none_inside, first_below, above_behind}

module _ (trips : List (Name × ℕ)) (apart : List Reg) (blocks : List Serial) (packets : Text) (answer : List ℕ)
    (is : AreLoopsTold trips apart blocks packets answer true true) where
  abbrev Of : ℕ → Type 0
  Of k = Part trips apart blocks packets answer is k

  abbrev Enter : ℕ → ℕ → Type 0
  Enter k row = Enters trips apart blocks packets answer is k row

  -- over its own rows the text has the lines of the part
  abbrev pub Agrees : Text → (k : ℕ) → Of k → Type 0
  Agrees text k (inl p) = SameRows p.of.same.loop.text text p.of.first p.of.last
  Agrees text k (inr (inl p)) =
      SameRows (own is.starts packets k p.block p.first p.count p.ends p.checked) text p.first (p.first + p.count)
  Agrees text k (inr (inr p)) = Unit {0}

  -- a text that agrees with all parts from a block on, which begin at a row or behind it
  pub record Walk (k row : ℕ) : Type 0 where
    pub text : Text
    pub relined : AreRelined packets text
    pub each : (j start : ℕ) (block : Serial) → k ≤ j → slice_get blocks j ≡ Some block → Enter j start
        → (row ≤ start) × ((part : Of j) × Agrees text j part)

  -- behind the last block there are none
  ended : (k row : ℕ) → length blocks ≤ k → Walk k row
  ended k row beyond = record {
    text = packets;
    relined = record { rows = refl; aims = refl };
    each = λ j start block low there enters. absurd (let within = slice_get_within blocks j block there in
        omega (arith, beyond, low, within));
  }

  same_start : (k one other : ℕ) → start_at is.starts k ≡ Some one → start_at is.starts k ≡ Some other → one ≡ other
  same_start k one other a b = same_Some one other (sym a ∙ b)

  -- what agrees behind a row still does
  kept : (text other : Text) (later j start : ℕ) → ((row : ℕ) → later ≤ row → SameRows text other row (row + 1))
      → later ≤ start → Enter j start → (part : Of j) → Agrees text j part → Agrees other j part
  kept text other later j start behind low enters (inl p) agrees =
      let begins : start_at is.starts j ≡ Some p.of.first
      = subst (λ (n : ℕ). start_at is.starts n ≡ Some p.of.first) p.is_first p.of.begins in
      let first : start ≡ p.of.first = same_start j start p.of.first enters.at begins in
      λ q l h. agrees q l h ∙ behind q (omega (arith, low, first, l)) q (omega arith) (omega arith)
  kept text other later j start behind low enters (inr (inl p)) agrees =
      let first : start ≡ p.first = same_start j start p.first enters.at p.begins in
      λ q l h. agrees q l h ∙ behind q (omega (arith, low, first, l)) q (omega arith) (omega arith)
  kept text other later j start behind low enters (inr (inr p)) agrees = agrees

  -- one part more
  extend : (k row next later : ℕ) (one : Text) → AreRelined packets one → row ≤ later → k < next
      → ((b start : ℕ) → k < b → b < next → Enter b start → ⊥) → Enter k row → (part : Of k)
      → ((text : Text) → SameRows one text row later → Agrees text k part) → Walk next later → Walk k row
  extend k row next later one one_is rises more inside enters part agrees walk = record {
    text = text;
    relined = splice_relined packets one walk.text one_is walk.relined later;
    each = λ j start block low there other. by_place j start block there other low (cases_lt k j);
  }
    where
      text : Text
      text = splice packets one walk.text one_is walk.relined later

      behind : (r : ℕ) → later ≤ r → SameRows walk.text text r (r + 1)
      behind r l q low high = splice_high packets one walk.text one_is walk.relined later q (omega (arith, l, low))

      here : Agrees text k part
      here = agrees text
          (λ q low high. splice_low packets one walk.text one_is walk.relined later q (omega arith) high)

      by_place : (j start : ℕ) (block : Serial) → slice_get blocks j ≡ Some block → Enter j start → k ≤ j
          → (k < j) ⊎ (j ≤ k) → (row ≤ start) × ((p : Of j) × Agrees text j p)
      by_place j start block there other low (inr l) =
          let same : k ≡ j = omega (arith, l, low) in
          let first : row ≡ start = same_start j row start
          (subst (λ (n : ℕ). start_at is.starts n ≡ Some row) same enters.at) other.at in
          (omega (arith, first), subst (λ (n : ℕ). (p : Of n) × Agrees text n p) same (part, here))
      by_place j start block there other low (inl l) =
          ⊎_elim {C = (row ≤ start) × ((p : Of j) × Agrees text j p)} (λ (b : j < next). absurd
          (inside j start l b other)) (λ (b : next ≤ j).
          (let rest = walk.each j start block b there other in (
            omega (arith, rises, rest.0),
            (rest.1.0, kept walk.text text later j start behind rest.0 other rest.1.0 rest.1.1),
          )))
          (cases_lt j next)

  by_part : (fuel k row : ℕ) → ((next later : ℕ) → length blocks ≤ fuel + next → Enter next later → Walk next later)
      → length blocks ≤ suc fuel + k → Enter k row → Of k → Walk k row
  by_part fuel k row rest long enters (inl p) =
      let begins : start_at is.starts k ≡ Some p.of.first
      = subst (λ (n : ℕ). start_at is.starts n ≡ Some p.of.first) p.is_first p.of.begins in
      let first : row ≡ p.of.first = same_start k row p.of.first enters.at begins in
      let low = p.of.same.first_is in
      let high : p.of.last ≡ p.of.same.loop.first + p.of.same.loop.prolog + p.of.same.loop.kernel
      + p.of.same.loop.epilog
      = p.of.same.last_is in
      let begin = p.is_first in
      let below = first_below trips apart blocks packets answer is p.number in
      let behind = above_behind trips apart blocks packets answer is p.number in
      let more : k < block_behind blocks p.number = omega (arith, begin, below, behind) in
      extend k row (block_behind blocks p.number) p.of.last p.of.same.loop.text p.of.same.relined
      (omega (arith, first, low, high)) more
      (λ b start l h other. none_inside trips apart blocks packets answer is p.number p.of b start
      (subst (λ (n : ℕ). n < b) (sym begin) l) h other)
      enters (inl p)
      (λ text same. subst (λ (n : ℕ). SameRows p.of.same.loop.text text n p.of.last) first same)
      (rest (block_behind blocks p.number) p.of.last (omega (arith, long, more))
      (behind_loop trips apart blocks packets answer is p.number p.of))
  by_part fuel k row rest long enters (inr (inl p)) =
      let first : row ≡ p.first = same_start k row p.first enters.at p.begins in
      let mine : Text = own is.starts packets k p.block p.first p.count p.ends p.checked in
      extend k row (k + 1) (p.first + p.count) mine
      (own_relined is.starts packets k p.block p.first p.count p.ends p.checked) (omega (arith, first)) (omega arith)
      (λ b start l h other. absurd (omega (arith, l, h))) enters (inr (inl p))
      (λ text same. subst (λ (n : ℕ). SameRows mine text n (p.first + p.count)) first same)
      (rest (k + 1) (p.first + p.count) (omega (arith, long))
      (behind_block trips apart blocks packets answer is k p))
  by_part fuel k row rest long enters (inr (inr p)) =
      let first : row ≡ p.row = same_start k row p.row enters.at p.begins in
      extend k row (k + 1) p.row packets (record { rows = refl; aims = refl }) (omega (arith, first)) (omega arith)
      (λ b start l h other. absurd (omega (arith, l, h))) enters (inr (inr p)) (λ text same. tt)
      (rest (k + 1) p.row (omega (arith, long)) (behind_pass trips apart blocks packets answer is k p))

  pub walk : (fuel k row : ℕ) → length blocks ≤ fuel + k → Enter k row → Walk k row
  walk zero k row long enters = ended k row (omega (arith, long))
  walk (suc fuel) k row long enters =
      ⊎_elim {C = Walk k row} (λ (l : k < length blocks).
      (let has = there_at blocks k l in
      by_part fuel k row (walk fuel) long enters
      (part_at trips apart blocks packets answer is k row has.0 has.1 enters)))
      (λ (l : length blocks ≤ k). ended k row l) (cases_lt k (length blocks))
