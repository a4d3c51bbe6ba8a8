-- The raised bound, from what its begin would have as raised height.
use Rattle.std.proofs.Common.{arith, ◌≡◌, ℕ, ◌+◌, ◌<◌, List, [], ◌∷◌, length, Option, None, refl, ◌∙◌, inl}
use Rattle.std.specs.Prelude.{ℤ}
use Rattle.std.proofs.lemmas.Option.{none-some}
use Rattle.c62_insn.specs.declared.insn.Insn.{Insn}
use Rattle.c62_raised.specs.Raised.{AreRaised, AreAtOnce, IsRaised, IsRaisedLength, with_first}

no_instruction : IsRaisedLength [] 0
no_instruction = record {
  height = λ j. 0;
  heights = λ i within. absurd (omega (arith, within));
  lead = λ j. None;
  at_once = record { each = λ j low. absurd (omega (arith, low)); others = λ j high. refl };
  behind = 0;
  is = record {
    own = omega arith;
    ones = λ j before e. absurd (none-some before e);
    crowds = λ room last crowd w. (let within = w.within in absurd (omega (arith, within)));
    attained = inl refl;
  };
  whole = refl;
}

pub empty_length : (block : List Insn) → length block ≡ 0 → IsRaisedLength block 0
empty_length [] none = no_instruction
empty_length (insn ∷ block) none = absurd (omega (arith, none))

first_more : (block : List Insn) (behind : ℕ) → 0 < length block → behind + 1 ≡ with_first block behind
first_more [] behind some = absurd (omega (arith, some))
first_more (insn ∷ block) behind some = refl

pub some_length : (block : List Insn) (height : ℕ → ℕ) (lead : ℕ → Option ℤ) (behind cycles : ℕ) → 0 < length block
    → AreRaised block height
    → AreAtOnce block lead
    → IsRaised block height lead 0 behind → cycles ≡ behind + 1 → IsRaisedLength block cycles
some_length block height lead behind cycles some heights at_once is e =
    record {
      height = height;
      heights = heights;
      lead = lead;
      at_once = at_once;
      behind = behind;
      is = is;
      whole = e
          ∙ first_more block behind some;
    }
