-- What is in flight where a block is over, and the cycles that lack until it has landed (docs/ADOPT.md, "Faults of a text" and
-- "Cycles that lack").
use Rattle.std.specs.Prelude.{ℕ, ◌+◌, ◌-◌, min, max, Bool, false, not, ◌&&◌, nat_lt, if◌then◌else◌, List, [], ◌∷◌, Option, Some, None}
use Rattle.std.specs.List.{find, list_any}
use Rattle.std.specs.Option.{option_map_or}
use Rattle.c62_op.specs.Shape.{is_branch}
use Rattle.c62_line.specs.declared.fault.Cause.TheVariants.{UnknownTarget}
use Rattle.c62_read.specs.Program.{Name, label_is}
use Rattle.c62_adopt_cut.specs.declared.fault.TextCause.{TextCause}
use Rattle.c62_adopt_cut.specs.declared.fault.TextCause.TheVariants.{TwoBranches, NotDrained}
use Rattle.c62_adopt_cut.specs.Blocks.{Issue, Draft}
use Rattle.c62_adopt_cut.specs.Text.{Cut, Refusal, end_of, read_cause}

abbrev pub branches : Issue → Bool
branches issue = is_branch issue.parts.op

-- the cycle of the text in which a block is over, where the next one, or the text's end, is in this cycle
abbrev pub over_in : ℕ → Draft → ℕ
over_in next draft = option_map_or (λ issue. min next (draft.start + issue.cycle + 6)) (find branches draft.issues) next

-- the cycle before which all lands of these instructions, whose block begins in this cycle
abbrev pub landed : ℕ → List Issue → ℕ
landed start [] = 0
landed start (issue ∷ issues) = max (end_of issue.parts (start + issue.cycle)) (landed start issues)

-- How many cycles a block lacks, where the next one, or the text's end, is in this cycle: those until all has landed. One with a
-- branch lacks none, as the branch takes effect all the same.
abbrev pub lacking : ℕ → Draft → ℕ
lacking next draft = if list_any branches draft.issues then 0 else landed draft.start draft.issues - next

-- where the next block, or the text's end, is once the cycles are added that lack
abbrev pub next_drained : Bool → ℕ → Draft → ℕ
next_drained drain next draft = if drain then next + lacking next draft else next

-- whether the instruction branches to a label that none of these blocks has
abbrev pub is_lost : List Draft → Option Name → Bool
is_lost drafts None = false
is_lost drafts (Some label) = not (list_any (λ draft. label_is label draft.label) drafts)

-- what stands against an instruction of a block that begins and is over in these cycles, before others of the block: a branch
-- to no label, a second branch behind it in its delay slots, and that it is in flight when the block is over
abbrev pub issue_fault : List Draft → ℕ → ℕ → Issue → List Issue → Option TextCause
issue_fault drafts start over issue others =
    if is_lost drafts issue.target then Some (read_cause UnknownTarget)
    else (if branches issue && list_any branches others then Some TwoBranches
    else (if nat_lt over (end_of issue.parts (start + issue.cycle)) then Some NotDrained
    else None))

abbrev pub or_later : ℕ → Option TextCause → Option Refusal → Option Refusal
or_later line (Some cause) later = Some (line, cause)
or_later line None later = later

-- the first of these instructions that has a fault
abbrev pub first_faulty : List Draft → ℕ → ℕ → List Issue → Option Refusal
first_faulty drafts start over [] = None
first_faulty drafts start over (issue ∷ others) =
    or_later issue.line (issue_fault drafts start over issue others) (first_faulty drafts start over others)

abbrev pub next_start : ℕ → List Draft → ℕ
next_start end [] = end
next_start end (draft ∷ drafts) = draft.start

abbrev pub or_behind : Option Refusal → Option Refusal → Option Refusal
or_behind (Some refusal) behind = Some refusal
or_behind None behind = behind

-- the first of a block's instructions that has a fault, where the next block, or the text's end, is in this cycle
unfoldable pub faulty_in : Bool → List Draft → ℕ → Draft → Option Refusal
faulty_in drain whole next draft = first_faulty whole draft.start (over_in (next_drained drain next draft) draft) draft.issues

-- the first faulty instruction of these blocks of a text, which is over in this cycle
abbrev pub faulty_among : Bool → List Draft → ℕ → List Draft → Option Refusal
faulty_among drain whole end [] = None
faulty_among drain whole end (draft ∷ drafts) =
    or_behind (faulty_in drain whole (next_start end drafts) draft) (faulty_among drain whole end drafts)

-- the first instruction of a text that has a fault because of the lines below it, with the cycles added that lack or without them
abbrev pub first_in_flight : Bool → Cut → Option Refusal
first_in_flight drain cut = faulty_among drain cut.drafts cut.cycles cut.drafts

-- how many cycles lack before the blocks' ends, of a text that is over in this cycle
abbrev pub all_lacking : ℕ → List Draft → ℕ
all_lacking end [] = 0
all_lacking end (draft ∷ drafts) = lacking (next_start end drafts) draft + all_lacking end drafts

-- how many cycles are added to a text that is drained
abbrev pub cycles_lacking : Cut → ℕ
cycles_lacking cut = all_lacking cut.cycles cut.drafts
