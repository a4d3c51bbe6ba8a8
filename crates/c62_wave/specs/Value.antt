-- What a signal shows, and how a dump writes it (docs/WAVE.md, "Changes").
use Rattle.std.specs.Prelude.{ℕ, zero, suc, ◌+◌, ◌-◌, ◌/◌, ◌%◌, ◌^◌, max, Bool, true, false, ◌==◌, List, [], ◌∷◌, ◌++◌, codes}
use Rattle.std.specs.Int.Count.{count_leading_zeros}
use Rattle.c62_wave.specs.declared.value.Value.{Value}
use Rattle.c62_wave.specs.declared.value.Value.TheVariants.{Word, Idle, Unknown}

-- both show the same
abbrev pub is_same : Value → Value → Bool
is_same (Word one) (Word other) = one == other
is_same Idle Idle = true
is_same Unknown Unknown = true
is_same one other = false

-- the lowest binary digits of a number, so many of them
unfoldable pub bits : (count number : ℕ) → List ℕ
bits zero number = []
bits (suc more) number = (48 + number / 2 ^ more % 2) ∷ bits more number

-- how many digits a word has without zeros in front: one at least
abbrev pub digits_of : ℕ → ℕ
digits_of word = max 1 (32 - count_leading_zeros 32 word)

-- `b1010`; `z` is drawn as a gap, and `x` as unknown
unfoldable pub value_text : Value → List ℕ
value_text (Word number) = codes "b" ++ bits (digits_of number) number
value_text Idle = codes "bz"
value_text Unknown = codes "bx"
