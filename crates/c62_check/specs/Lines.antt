-- The lines that tell what was found (docs/CHECK.md).
use Rattle.std.specs.Prelude.{ℕ, ◌+◌, List, [], ◌∷◌, ◌++◌, Option, Some, None, decimal, codes, slice_get}
use Rattle.std.specs.Fmt.{signed_decimal}
use Rattle.std.specs.List.{flat_map}
use Rattle.c62_check.specs.declared.early.Early.{Early}
use Rattle.c62_reason.specs.Words.{reason_words}
use Rattle.c62_check.specs.declared.verdict.Verdict.{Verdict as Answer}
use Rattle.c62_check.specs.declared.verdict.Verdict.TheVariants.{Same, Missing, Extra, TooEarly}

-- `block K`, and what is told of that block
abbrev pub block_line : ℕ → List ℕ → List ℕ
block_line number what = codes "block " ++ decimal number ++ codes " " ++ what ++ codes "\n"

-- `early M after L`
unfoldable pub early_lines : Early → List ℕ
early_lines early = codes "early " ++ decimal early.line ++ codes " after " ++ decimal early.after

-- ` needs N has C`
unfoldable pub early_cycles : Early → List ℕ
early_cycles early = codes " needs " ++ signed_decimal early.needs ++ codes " has " ++ signed_decimal early.has

-- what is told of an instruction that comes too early
unfoldable pub early_words : Early → List ℕ
early_words early = early_lines early ++ early_cycles early ++ codes " " ++ reason_words early.reason

-- the lines of a block: one, or one for each instruction that comes too early
unfoldable pub verdict_lines : ℕ → Answer → List ℕ
verdict_lines number Same = block_line number (codes "same")
verdict_lines number (Missing line) = block_line number (codes "missing " ++ decimal line)
verdict_lines number (Extra line) = block_line number (codes "extra " ++ decimal line)
verdict_lines number (TooEarly early) = flat_map (λ each. block_line number (early_words each)) early.items

-- the lines of the blocks from this number on
abbrev pub lines_from : ℕ → List Answer → List ℕ
lines_from number [] = []
lines_from number (answer ∷ answers) = verdict_lines number answer ++ lines_from (number + 1) answers

-- ---- blocks that differ in their labels

-- a label, and `-` for none
unfoldable pub label_name : Option (List ℕ) → List ℕ
label_name None = codes "-"
label_name (Some label) = label

unfoldable pub label_words : Option (List ℕ) → Option (List ℕ) → List ℕ
label_words listed label = codes "label " ++ label_name listed ++ codes " not " ++ label_name label

-- of the label that a block has in the listing, and that which it has in the text, where it is there
unfoldable pub other_words : Option (Option (List ℕ)) → Option (Option (List ℕ)) → List ℕ
other_words (Some listed) (Some label) = label_words listed label
other_words None label = codes "only in text"
other_words listed None = codes "only in listing"

-- the line of the block of this number, by the labels that blocks have in the listing, and those that they have in the text
abbrev pub other_line : (listed labels : List (Option (List ℕ))) → ℕ → List ℕ
other_line listed labels number = block_line number (other_words (slice_get listed number) (slice_get labels number))

-- all that is told: of the blocks of these numbers how they differ, and of each block that both have what is found of it
abbrev pub told_lines : (listed labels : List (Option (List ℕ))) → (others : List ℕ) → List Answer → List ℕ
told_lines listed labels others verdicts = flat_map (λ number. other_line listed labels number) others ++ lines_from 0 verdicts
