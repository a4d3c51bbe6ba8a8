-- What is said of the name of a fault or a rule, or of a word of `check` or `show` (docs/FAULTS.md, "Names").
use Rattle.std.specs.Prelude.{ℕ, List, [], ◌∷◌, ◌++◌, codes, find, Option, option_map}
use Rattle.std.specs.Option.{option_or}
use Rattle.c62_insn.specs.declared.fault.FormFault.TheVariants.{NoUnit, BadSide, BadCondition, ConstantRange, TwoCrossed}
use Rattle.c62_token.specs.Number.{spells}
use Rattle.c62_line.specs.Fault.{cause_name}
use Rattle.c62_line.specs.declared.fault.Cause.{Cause}
use Rattle.c62_line.specs.declared.fault.Cause.TheVariants.{BadLabel, UnknownMnemonic, BadUnit, BadOperand, Form, ParallelBar, Directive, UnknownTarget}
use Rattle.c62_explain.specs.Sentence.{sentence}
use Rattle.c62_explain.specs.declared.topic.Topic.{Topic}
use Rattle.c62_explain.specs.declared.topic.Topic.TheVariants as on
use Rattle.c62_explain.specs.declared.topic.TheConstants.{CAUSES, TOPICS}

-- a line that has this fault; none where one line alone hasn't
abbrev pub example : Cause → List ℕ
example ParallelBar = codes "|| ADD A1,A2,A3"
example BadLabel = codes "A1: MVK 1,A2"
example Directive = codes ".text"
example UnknownMnemonic = codes "MVC CSR,B0"
example BadUnit = codes "MVK .M1 1,A1"
example BadOperand = codes "MVK 1,A16"
example (Form BadCondition) = codes "[A3] MVK 1,A1"
example (Form ConstantRange) = codes "MVK 32768,A1"
example (Form TwoCrossed) = codes "ADD B1,B2,A0"
example (Form BadSide) = codes "ADD .L2 A1,A2,A3"
example (Form NoUnit) = codes "ADD 20,B2,A3"
example UnknownTarget = codes "B NOWHERE"
example _ = []

-- the line with an example, where there is one
abbrev pub example_line : List ℕ → List ℕ
example_line [] = []
example_line (first ∷ rest) = codes "example: " ++ (first ∷ rest) ++ codes "\n"

-- a name, what it says, an example and a page
abbrev pub page_of : (name says shown page : List ℕ) → List ℕ
page_of name says shown page = name ++ codes ": " ++ says ++ codes "\n" ++ example_line shown ++ codes "see " ++ page ++ codes "\n"

-- the same of a fault of a serial text
abbrev pub cause_page : Cause → List ℕ
cause_page cause = page_of (cause_name cause) (sentence cause) (example cause) (codes "docs/SERIAL_TEXT.md, \"Faults of a line\"")

-- a fault or a rule that serial texts don't have, or a word of `check` or `show`: its name, what it is, lines that have it, and its page
abbrev pub topic_name : Topic → List ℕ
topic_name on.UnitWanted = codes "UnitWanted"
topic_name on.Shape = codes "Shape"
topic_name on.TwoBranches = codes "TwoBranches"
topic_name on.NotDrained = codes "NotDrained"
topic_name on.TooManyCycles = codes "TooManyCycles"
topic_name on.P1 = codes "P1"
topic_name on.P2 = codes "P2"
topic_name on.P3 = codes "P3"
topic_name on.P4 = codes "P4"
topic_name on.P5 = codes "P5"
topic_name on.OtherSection = codes "OtherSection"
topic_name on.Padding = codes "Padding"
topic_name on.TooManyTargets = codes "TooManyTargets"
topic_name on.NoListing = codes "NoListing"
topic_name on.Same = codes "same"
topic_name on.Missing = codes "missing"
topic_name on.Extra = codes "extra"
topic_name on.Early = codes "early"
topic_name on.Uneven = codes "uneven"
topic_name on.Outside = codes "outside"
topic_name on.Counter = codes "counter"
topic_name on.Branch = codes "branch"
topic_name on.But = codes "but"
topic_name on.Undrained = codes "undrained"
topic_name on.Branches = codes "branches"
topic_name on.Clash = codes "clash"
topic_name on.Unchecked = codes "unchecked"
topic_name on.Bound = codes "bound"
topic_name on.Path = codes "path"
topic_name on.Units = codes "units"
topic_name on.Use = codes "use"
topic_name on.Lands = codes "lands"
topic_name on.Idle = codes "idle"
topic_name on.Slack = codes "slack"
topic_name on.After = codes "after"
topic_name on.Taken = codes "taken"
topic_name on.Nothing = codes "nothing"
topic_name on.Live = codes "live"
topic_name on.Unused = codes "unused"

abbrev pub topic_sentence : Topic → List ℕ
topic_sentence on.UnitWanted = codes "in a packet each instruction names its unit"
topic_sentence on.Shape = codes "this isn't a line as a listing has it"
topic_sentence on.TwoBranches = codes "a branch is in the delay slots of another"
topic_sentence on.NotDrained = codes "something is still in flight where its block is over"
topic_sentence on.TooManyCycles = codes "a block has more cycles than it may have"
topic_sentence on.P1 = codes "two instructions of one cycle are on one unit"
topic_sentence on.P2 = codes "two instructions of one cycle use one cross path"
topic_sentence on.P3 = codes "two accesses of one cycle use one data path"
topic_sentence on.P4 = codes "the instructions of one cycle read a register more than four times"
topic_sentence on.P5 = codes "two writes of one register land in one cycle"
topic_sentence on.OtherSection = codes "this stands in another section than the code"
topic_sentence on.Padding = codes "this alignment may be padded with cycles that code runs through"
topic_sentence on.TooManyTargets = codes "a text has at most 256 labels that are named"
topic_sentence on.NoListing = codes "what is to be checked has no line `---`, and so no listing"
topic_sentence on.Same = codes "the packets are a schedule of the block, or do what the loop does"
topic_sentence on.Missing = codes "the packets lack an instruction of this line of the text"
topic_sentence on.Extra = codes "the block or the loop lacks an instruction of this line of the packets"
topic_sentence on.Early = codes "an instruction comes fewer cycles behind another than it must"
topic_sentence on.Uneven = codes "prolog and epilog hold this instruction in another number of iterations than the loop's first"
topic_sentence on.Outside = codes "all instructions of the loop are there, but its steps, branches or rows aren't as is asked"
topic_sentence on.Counter = codes "the block that this branch of the text ends doesn't count down by one"
topic_sentence on.Branch = codes "this branch of the packets takes effect at the end of no pass of the kernel"
topic_sentence on.But = codes "the loads past the last iteration change these registers, and those of these lines may fault"
topic_sentence on.Undrained = codes "something that the rows of the block issue lands when they are over, or later"
topic_sentence on.Branches = codes "the rows of the block hold more than one branch"
topic_sentence on.Clash = codes "two writes of a register land in one cycle of the rows of the block"
topic_sentence on.Unchecked = codes "which rows are those of the block isn't known, or some rows belong to no block"
topic_sentence on.Bound = codes "each schedule of the block has at least so many cycles"
topic_sentence on.Path = codes "the critical path: each of its lines must come so many cycles behind the one before"
topic_sentence on.Units = codes "so many instructions wait for these units that the block has at least so many cycles"
topic_sentence on.Use = codes "in how many of 100 cycles the unit or the path is used"
topic_sentence on.Lands = codes "which writes land in the cycle, so that the next one can read them"
topic_sentence on.Idle = codes "nothing is issued in these cycles"
topic_sentence on.Slack = codes "by how many cycles the instruction could be issued later, as far as dependences go"
topic_sentence on.After = codes "a cycle earlier the instruction would come too early behind this line"
topic_sentence on.Taken = codes "this line has the unit or the path that the instruction wants in the cycle before"
topic_sentence on.Nothing = codes "the instruction finds all that it needs in the cycle before"
topic_sentence on.Live = codes "how many registers of a side at most hold a value that is still read"
topic_sentence on.Unused = codes "no instruction of the block reads or writes these registers"

abbrev pub topic_example : Topic → List ℕ
topic_example on.UnitWanted = codes "ADD A1,A2,A3"
topic_example on.Shape = codes "add .l1 a1,a2,a3"
topic_example on.TwoBranches = codes "two lines B .S1 L, one behind the other"
topic_example on.NotDrained = codes "LDW .D1T1 *A4,A5 as the last line"
topic_example on.P1 = codes "ADD .L1 A1,A2,A3 and SUB .L1 A4,A5,A6"
topic_example on.P2 = codes "ADD .L1X A1,B1,A2 and SUB .S1X A3,B3,A4"
topic_example on.P3 = codes "LDW .D1T1 *A4,A5 and LDW .D2T1 *B4,A6"
topic_example on.P4 = codes "ADD .L1 A1,A1,A5, MPY .M1 A1,A1,A4 and SUB .S1 A1,A2,A3"
topic_example on.P5 = codes "MPY .M1 A1,A2,A3, and a cycle later ADD .L1 A4,A5,A3"
topic_example on.OtherSection = codes "ADD .L1 A1,A2,A3 below .data"
topic_example on.Padding = codes ".align 6 below MVK .S1 1,A1"
topic_example on.Same = codes "block 0 same"
topic_example on.Missing = codes "block 0 missing 3"
topic_example on.Extra = codes "block 0 extra 7"
topic_example on.Early = codes "block 0 early 7 after 4 needs 5 has 4 reads A5"
topic_example on.Uneven = codes "loop L uneven 3"
topic_example on.Outside = codes "loop L outside"
topic_example on.Counter = codes "loop L counter 9"
topic_example on.Branch = codes "loop L branch 12"
topic_example on.But = codes "loop L same from 1 trips cycles 1 but A2 fault 3"
topic_example on.Undrained = codes "block 0 undrained"
topic_example on.Branches = codes "block 0 branches"
topic_example on.Clash = codes "block 0 clash"
topic_example on.Unchecked = codes "rows unchecked"
topic_example on.Bound = codes "15 over the bound of 80"
topic_example on.Path = codes "path 3: lines 23 -A6:1- 24 -A5:1- 25"
topic_example on.Units = codes "units 4: 2 on .S1, and 2 behind the last"
topic_example on.Idle = codes "1-4 idle, landing: A5 in 4"
topic_example on.After = codes "after 23 needs 1 reads A6"
topic_example on.Taken = codes ".S1 taken by 24"
topic_example on.Live = codes "live A: 3 at most, in cycle 2"
topic_example on.Unused = codes "unused A0 A1"
topic_example _ = []

abbrev pub topic_page : Topic → List ℕ
topic_page on.UnitWanted = codes "docs/ADOPT.md"
topic_page on.Shape = codes "docs/LISTING.md"
topic_page on.TwoBranches = codes "docs/LISTING.md"
topic_page on.NotDrained = codes "docs/LISTING.md"
topic_page on.TooManyCycles = codes "docs/ADOPT.md"
topic_page on.P1 = codes "docs/MACHINE.md"
topic_page on.P2 = codes "docs/MACHINE.md"
topic_page on.P3 = codes "docs/MACHINE.md"
topic_page on.P4 = codes "docs/MACHINE.md"
topic_page on.P5 = codes "docs/MACHINE.md"
topic_page on.OtherSection = codes "docs/ADOPT.md"
topic_page on.Padding = codes "docs/ADOPT.md"
topic_page on.TooManyTargets = codes "docs/EXEC.md"
topic_page on.NoListing = codes "docs/CHECK.md"
topic_page on.Same = codes "docs/CHECK.md"
topic_page on.Missing = codes "docs/CHECK.md"
topic_page on.Extra = codes "docs/CHECK.md"
topic_page on.Early = codes "docs/CHECK.md"
topic_page on.Uneven = codes "docs/CHECK.md"
topic_page on.Outside = codes "docs/CHECK.md"
topic_page on.Counter = codes "docs/CHECK.md"
topic_page on.Branch = codes "docs/CHECK.md"
topic_page on.But = codes "docs/CHECK.md"
topic_page on.Undrained = codes "docs/CHECK.md"
topic_page on.Branches = codes "docs/CHECK.md"
topic_page on.Clash = codes "docs/CHECK.md"
topic_page on.Unchecked = codes "docs/CHECK.md"
topic_page on.Bound = codes "docs/SHOW.md"
topic_page on.Path = codes "docs/SHOW.md"
topic_page on.Units = codes "docs/SHOW.md"
topic_page on.Use = codes "docs/SHOW.md"
topic_page on.Lands = codes "docs/SHOW.md"
topic_page on.Idle = codes "docs/SHOW.md"
topic_page on.Slack = codes "docs/SHOW.md"
topic_page on.After = codes "docs/SHOW.md"
topic_page on.Taken = codes "docs/SHOW.md"
topic_page on.Nothing = codes "docs/SHOW.md"
topic_page on.Live = codes "docs/SHOW.md"
topic_page on.Unused = codes "docs/SHOW.md"

-- what is said of it
abbrev pub topic_text : Topic → List ℕ
topic_text topic = page_of (topic_name topic) (topic_sentence topic) (topic_example topic) (topic_page topic)

-- the fault of a serial text that has this name, in either case
unfoldable pub known_cause : List ℕ → Option Cause
known_cause word = find (λ cause. spells (cause_name cause) word) CAUSES

-- the other fault, the rule or the word that has this name
unfoldable pub known_topic : List ℕ → Option Topic
known_topic word = find (λ topic. spells (topic_name topic) word) TOPICS

-- what is said of a name: none of other words
abbrev pub page_in : List ℕ → Option (List ℕ)
page_in word = option_or (option_map cause_page (known_cause word)) (option_map topic_text (known_topic word))
