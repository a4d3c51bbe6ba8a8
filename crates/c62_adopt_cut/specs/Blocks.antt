-- The blocks of a text of packets (docs/ADOPT.md, "Blocks").
use Rattle.std.specs.Prelude.{ℕ, ◌-◌, Bool, false, ◌==◌, if◌then◌else◌, List, [], ◌∷◌, ◌++◌, Option, Some, None, option_map}
use Rattle.std.specs.Option.{option_to_list}
use Rattle.c62_line.specs.Line.{Parts, Says, Does, Jumps}
use Rattle.c62_read.specs.Program.{Name}
use Rattle.c62_adopt_line.specs.Line.{Line}
use Rattle.c62_adopt_cut.specs.declared.clock.Stand.{Stand}

-- an instruction with the label that it branches to, if it branches to one, its line, and its cycle in its block
pub record Issue : Type 0 where
  pub parts : Parts
  pub target : Option Name
  pub line : ℕ
  pub cycle : ℕ

-- a block: its label, the cycle of the text in which it begins, and its instructions in the order of their lines
pub record Draft : Type 0 where
  pub label : Option Name
  pub start : ℕ
  pub issues : List Issue

-- the blocks that are over, and the one that the next line may go on with
pub record Drafts : Type 0 where
  pub done : List Draft
  pub current : Option Draft

abbrev pub no_drafts : Drafts
no_drafts = record { done = []; current = None }

abbrev pub all_drafts : Drafts → List Draft
all_drafts drafts = drafts.done ++ option_to_list drafts.current

abbrev pub new_draft : Option Name → ℕ → Draft
new_draft label start = record { label = label; start = start; issues = [] }

abbrev pub with_block : Option Name → ℕ → Drafts → Drafts
with_block label start drafts = record { done = all_drafts drafts; current = Some (new_draft label start) }

-- a label begins a block
abbrev pub with_label : Option Name → ℕ → Drafts → Drafts
with_label None start drafts = drafts
with_label (Some label) start drafts = with_block (Some label) start drafts

abbrev pub begins_at : ℕ → Option Draft → Bool
begins_at start None = false
begins_at start (Some draft) = draft.start == start

-- an instruction begins one where the block before it began in another cycle than its own does
abbrev pub opened : ℕ → Drafts → Drafts
opened start drafts = if begins_at start drafts.current then drafts else with_block None start drafts

abbrev pub with_issue : Issue → Draft → Draft
with_issue issue draft = record draft { issues = draft.issues ++ issue ∷ [] }

abbrev pub add_issue : Issue → Drafts → Drafts
add_issue issue drafts = record { done = drafts.done; current = option_map (with_issue issue) drafts.current }

abbrev pub issue_at : Stand → ℕ → Parts → Option Name → Issue
issue_at stand number parts target = record { parts = parts; target = target; line = number; cycle = stand.cycle - stand.start }

abbrev pub with_says : ℕ → Stand → Says → Drafts → Drafts
with_says number stand (Does parts) drafts = add_issue (issue_at stand number parts None) (opened stand.start drafts)
with_says number stand (Jumps parts target) drafts = add_issue (issue_at stand number parts (Some target)) (opened stand.start drafts)
with_says number stand _ drafts = drafts

-- the blocks with what a line of this number says that stands there
abbrev pub with_line : ℕ → Stand → Line → Drafts → Drafts
with_line number stand line drafts = with_says number stand line.says (with_label line.label stand.cycle drafts)
