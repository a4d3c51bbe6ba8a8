-- What is told of the loops of a program (docs/SCHEDULING.md, "Loops of a program").
use Rattle.std.specs.Prelude.{ℕ, ◌-◌, List, [], ◌∷◌, ◌++◌, Option, Some, None, codes, decimal, slice_get}
use Rattle.std.specs.List.{flat_map}
use Rattle.c62_op.specs.declared.register.Reg.{Reg}
use Rattle.c62_op.specs.Name.{register_name}
use Rattle.c62_read.specs.Block.{Serial}
use Rattle.c62_grid.specs.Words.{counted}
use Rattle.c62_modulo.specs.declared.made.Shortness.{Shortness}
use Rattle.c62_modulo.specs.declared.made.Shortness.TheVariants.{Shortest, Over}
use Rattle.c62_pipeline.specs.declared.chosen.Kept.{Kept}
use Rattle.c62_pipeline.specs.declared.chosen.Kept.TheVariants.{Pipelined, Several, NoCounter, Used, NoTrips, MayMeet, TooFew, NotShorter, NotChecked}
use Rattle.c62_pipeline.specs.declared.chosen.Choice.{Choice}
use Rattle.c62_pipeline.specs.declared.written.Pipelining.{Pipelining}
use Rattle.c62_pipeline.specs.Limit.{limit_told}

-- whether a trip of so many cycles can be shorter: `2 over the bound of 1`
abbrev pub shortness_words : ℕ → Shortness → List ℕ
shortness_words cycles Shortest = codes "no II is shorter for one iteration a trip, these registers and nothing past the end"
shortness_words cycles (Over bound) = decimal (cycles - bound) ++ codes " over the bound of " ++ decimal bound

-- `2 cycles 7 stages from 7 trips; no II is shorter for one iteration a trip, these registers and nothing past the end`
abbrev pub trip_words : ℕ → ℕ → Shortness → List ℕ
trip_words cycles stages shortness =
    counted cycles (codes "cycle") ++ codes " " ++ counted stages (codes "stage") ++ codes " from " ++ counted stages (codes "trip") ++ codes "; "
    ++ shortness_words cycles shortness

-- `7 and 9`
unfoldable pub both_words : ℕ → ℕ → List ℕ
both_words first second = decimal first ++ codes " and " ++ decimal second

unfoldable pub accesses_front : List ℕ
accesses_front = codes "left: the accesses of lines "

unfoldable pub accesses_end : List ℕ
accesses_end = codes " aren't promised to be apart"

unfoldable pub meeting_words : ℕ → ℕ → List ℕ
meeting_words first second = accesses_front ++ both_words first second ++ accesses_end

unfoldable pub several_front : List ℕ
several_front = codes "left: it has "

-- `left: it has 2 blocks`
unfoldable pub several_words : ℕ → List ℕ
several_words count = several_front ++ counted count (codes "block")

unfoldable pub used_front : List ℕ
used_front = codes "left: line "

unfoldable pub used_middle : List ℕ
used_middle = codes " uses the counter "

-- `left: line 3 uses the counter A1`
unfoldable pub used_words : ℕ → Reg → List ℕ
used_words line counter = used_front ++ decimal line ++ used_middle ++ register_name counter

unfoldable pub few_front : List ℕ
few_front = codes "left: packets that are shorter need "

-- `left: packets that are shorter need 7 trips`
unfoldable pub few_words : ℕ → List ℕ
few_words stages = few_front ++ counted stages (codes "trip")

-- what became of a loop
abbrev pub kept_words : Kept → List ℕ
kept_words (Pipelined cycles stages shortness) = trip_words cycles stages shortness
kept_words (Several count) = several_words count
kept_words NoCounter = codes "left: no counter that goes down by one"
kept_words (Used line counter) = used_words line counter
kept_words NoTrips = codes "left: no trips are promised"
kept_words (MayMeet first second) = meeting_words first second
kept_words (TooFew stages) = few_words stages
kept_words NotShorter = codes "left: none is found that is shorter"
kept_words NotChecked = codes "left: what is found isn't told to do the same"

-- the label of a loop's block, or the number of one without
abbrev pub loop_name : ℕ → Option (List ℕ) → List ℕ
loop_name number None = decimal number
loop_name number (Some label) = label

abbrev pub name_in : ℕ → Option Serial → List ℕ
name_in number None = decimal number
name_in number (Some block) = loop_name number block.label

-- `loop L left: no trips are promised`
unfoldable pub choice_line : List Serial → Choice → List ℕ
choice_line blocks choice =
    codes "loop " ++ name_in choice.number (slice_get blocks choice.number) ++ codes " " ++ kept_words choice.kept
    ++ limit_told choice.limit ++ codes "\n"

-- a line for each loop
abbrev pub loop_lines : List Serial → Pipelining → List ℕ
loop_lines blocks written = flat_map (choice_line blocks) written.loops.items
