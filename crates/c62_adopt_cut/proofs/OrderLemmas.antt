-- Instructions of a block stand in order.
use Rattle.std.proofs.Common.{◌≡◌, ◌≤◌, ◌+◌, ◌-◌, ◌++◌, refl, true, ℕ, List, ◌∷◌, [], length, Option, Some, None, arith}
use Rattle.std.proofs.Common.{inl, inr}
use Rattle.std.specs.Prelude.{IfSome}
use Rattle.std.specs.List.{AllByRecursion}
use Rattle.std.specs.List.Sorted.{IsNonDecreasingBy}
use Rattle.std.specs.Option.{option_to_list}
use Rattle.std.proofs.lemmas.Bool.{cases_Bool, eqb-true}
use Rattle.std.proofs.lemmas.Bool.Decides.{nat_tests}
use Rattle.std.proofs.lemmas.List.Elements.{All-from_recursion}
use Rattle.std.proofs.lemmas.List.Sorted.{IsNonDecreasingBy-push}
use Rattle.c62_line.specs.Line.{Parts, Says, Nothing, Pause, Does, Jumps}
use Rattle.c62_read.specs.Program.{Name}
use Rattle.c62_adopt_line.specs.Line.{Line}
use Rattle.c62_adopt_line.specs.Laws.{IsWhole}
use Rattle.c62_adopt_cut.specs.declared.clock.Stand.{Stand}
use Rattle.c62_adopt_cut.specs.Cut.{is_filled, stand_of}
use Rattle.c62_adopt_cut.specs.Blocks.{Issue, Draft, Drafts, add_issue, all_drafts, begins_at, issue_at, new_draft}
use Rattle.c62_adopt_cut.specs.Blocks.{opened, with_block, with_issue, with_label, with_line, with_says}
use Rattle.c62_adopt_cut.specs.Laws.{BlocksAreInOrder, IsInOrder}
use Rattle.c62_adopt_cut.proofs.KeptLemmas.{IsFree, text_kept}
use Rattle.c62_adopt_cut.proofs.StandLemmas.{latest, latest_rises, stand_late, stand_latest, stand_low}
use Rattle.c62_read.proofs.CutLemmas.{all_more}
use Rattle.c62_op.specs.declared.set.InstructionSet.{InstructionSet}

-- ---- a block

-- the instructions stand in order, none below this line or behind this cycle of the text
record IsInOrderTo (line cycle : ℕ) (draft : Draft) : Type 0 where
  order : IsInOrder draft
  lines : AllByRecursion (λ issue. issue.line ≤ line) draft.issues
  cycles : AllByRecursion (λ issue. draft.start + issue.cycle ≤ cycle) draft.issues

new_to : (line cycle : ℕ) (label : Option Name) (start : ℕ) → IsInOrderTo line cycle (new_draft label start)
new_to line cycle label start =
    record {
      order = record
          { lines = λ i j d low below. absurd (omega arith); cycles = λ i j d low below. absurd (omega arith) };
      lines = tt;
      cycles = tt;
    }

module _ (measure : Issue → ℕ) where
  all_up_to : (least most : ℕ) (issues : List Issue) → least ≤ most
      → AllByRecursion (λ issue. measure issue ≤ least) issues
      → AllByRecursion (λ issue. measure issue ≤ most) issues
  all_up_to least most [] low all = tt
  all_up_to least most (issue ∷ issues) low all = (omega (arith, all.0), all_up_to least most issues low all.1)

  -- the next of these, where none before it is further
  one_further : (most : ℕ) (issues : List Issue) (issue : Issue) → IsNonDecreasingBy measure issues
      → AllByRecursion (λ other. measure other ≤ most) issues → most ≤ measure issue
      → IsNonDecreasingBy measure (issues ++ issue ∷ [])
  one_further most issues issue order all low =
      IsNonDecreasingBy-push measure issues issue order (λ d some.
      let last = All-from_recursion (λ other. measure other ≤ most) issues all (length issues - 1) d (omega arith) in
      omega arith)

up_to : (line more cycle later : ℕ) (draft : Draft) → line ≤ more → cycle ≤ later → IsInOrderTo line cycle draft
    → IsInOrderTo more later draft
up_to line more cycle later draft lower behind is =
    record {
      order = is.order;
      lines = all_up_to (λ issue. issue.line) line more draft.issues lower is.lines;
      cycles = all_up_to (λ issue. draft.start + issue.cycle) cycle later draft.issues behind is.cycles;
    }

issue_to : (line cycle : ℕ) (issue : Issue) (draft : Draft) → IsInOrderTo line cycle draft → line ≤ issue.line
    → cycle ≤ draft.start + issue.cycle
    → IsInOrderTo issue.line (draft.start + issue.cycle) (with_issue issue draft)
issue_to line cycle issue draft is lower behind =
    let here = up_to line issue.line cycle (draft.start + issue.cycle) draft lower behind is in
    record {
      order = record {
        lines = one_further (λ other. other.line) issue.line draft.issues issue is.order.lines here.lines (omega arith);
        cycles =
            one_further (λ other. other.cycle) issue.cycle draft.issues issue is.order.cycles
            (by_start draft.issues here.cycles) (omega arith);
      };
      lines = all_more (λ other. other.line ≤ issue.line) draft.issues (issue ∷ []) here.lines (omega arith, tt);
      cycles =
          all_more (λ other. draft.start + other.cycle ≤ draft.start + issue.cycle) draft.issues (issue ∷ [])
          here.cycles (omega arith, tt);
    }
  where
    by_start : (issues : List Issue)
        → AllByRecursion (λ other. draft.start + other.cycle ≤ draft.start + issue.cycle) issues
        → AllByRecursion (λ other. other.cycle ≤ issue.cycle) issues
    by_start [] all = tt
    by_start (other ∷ others) all = (omega (arith, all.0), by_start others all.1)

-- ---- blocks

record AreInOrderTo (line cycle : ℕ) (drafts : Drafts) : Type 0 where
  done : AllByRecursion IsInOrder drafts.done
  current : IfSome drafts.current (IsInOrderTo line cycle)

current_order : (line cycle : ℕ) (current : Option Draft) → IfSome current (IsInOrderTo line cycle)
    → AllByRecursion IsInOrder (option_to_list current)
current_order line cycle None is = tt
current_order line cycle (Some draft) is = (is.order, tt)

all_order : (line cycle : ℕ) (drafts : Drafts) → AreInOrderTo line cycle drafts
    → AllByRecursion IsInOrder (all_drafts drafts)
all_order line cycle drafts are =
    all_more IsInOrder drafts.done (option_to_list drafts.current) are.done
    (current_order line cycle drafts.current are.current)

current_up_to : (line more cycle later : ℕ) (current : Option Draft) → line ≤ more → cycle ≤ later
    → IfSome current (IsInOrderTo line cycle)
    → IfSome current (IsInOrderTo more later)
current_up_to line more cycle later None lower behind is = tt
current_up_to line more cycle later (Some draft) lower behind is = up_to line more cycle later draft lower behind is

all_to : (line more cycle later : ℕ) (drafts : Drafts) → line ≤ more → cycle ≤ later → AreInOrderTo line cycle drafts
    → AreInOrderTo more later drafts
all_to line more cycle later drafts lower behind are =
    record { done = are.done; current = current_up_to line more cycle later drafts.current lower behind are.current }

block_to : (line cycle : ℕ) (label : Option Name) (start : ℕ) (drafts : Drafts) → AreInOrderTo line cycle drafts
    → AreInOrderTo line cycle (with_block label start drafts)
block_to line cycle label start drafts are = record
    { done = all_order line cycle drafts are; current = new_to line cycle label start }

label_to : (line cycle : ℕ) (label : Option Name) (start : ℕ) (drafts : Drafts) → AreInOrderTo line cycle drafts
    → AreInOrderTo line cycle (with_label label start drafts)
label_to line cycle None start drafts are = are
label_to line cycle (Some label) start drafts are = block_to line cycle (Some label) start drafts are

-- ---- a line

module _ (number cycle : ℕ) (stand : Stand) (low : stand.start ≤ stand.cycle) (behind : cycle ≤ stand.cycle) where
  add_to : (parts : Parts) (target : Option Name) (done : List Draft) (current : Option Draft)
      → AreInOrderTo number cycle (record { done = done; current = current }) → begins_at stand.start current ≡ true
      → AreInOrderTo number stand.cycle
      (add_issue (issue_at stand number parts target) (record { done = done; current = current }))
  add_to parts target done None are begins = absurd cc
  add_to parts target done (Some draft) are begins =
      let here : draft.start ≡ stand.start = eqb-true draft.start stand.start begins in
      let issue = issue_at stand number parts target in
      let same : draft.start + issue.cycle ≡ stand.cycle = omega arith in
      record {
        done = are.done;
        current = rw same at (issue_to number cycle issue draft are.current (omega arith) (omega arith));
      }

  opened_to : (parts : Parts) (target : Option Name) (drafts : Drafts) → AreInOrderTo number cycle drafts
      → AreInOrderTo number stand.cycle (add_issue (issue_at stand number parts target) (opened stand.start drafts))
  opened_to parts target drafts are = elim (cases_Bool (begins_at stand.start drafts.current)) [
    | inl begins ↦ rw begins (add_to parts target drafts.done drafts.current are begins)
    | inr other ↦
        rw other (add_to parts target (all_drafts drafts) (Some (new_draft None stand.start))
        (block_to number cycle None stand.start drafts are)
        (grind (arith, nat_tests)))
  ]

  -- what is said stands in this cycle, and nothing that is said in any
  says_to : (later : ℕ) (says : Says) (drafts : Drafts) → cycle ≤ later → (is_filled says ≡ true → stand.cycle ≤ later)
      → AreInOrderTo number cycle drafts → AreInOrderTo (number + 1) later (with_says number stand says drafts)
  says_to later Nothing drafts rises filled are = all_to number (number + 1) cycle later drafts (omega arith) rises are
  says_to later (Pause n) drafts rises filled are = all_to number (number + 1) cycle later drafts (omega arith) rises
      are
  says_to later (Does parts) drafts rises filled are =
      all_to number (number + 1) stand.cycle later _ (omega arith) (filled refl) (opened_to parts None drafts are)
  says_to later (Jumps parts target) drafts rises filled are =
      all_to number (number + 1) stand.cycle later _ (omega arith) (filled refl)
      (opened_to parts (Some target) drafts are)

line_to : (isa : InstructionSet) (above : List Line) (number : ℕ) (drafts : Drafts) (line : Line) → IsWhole isa line
    → IsFree above drafts line
    → AreInOrderTo number (latest above) drafts
    → AreInOrderTo (number + 1) (latest (line ∷ above)) (with_line number (stand_of above line) line drafts)
line_to isa above number drafts line whole free are =
    let stand = stand_of above line in
    says_to number (latest above) stand (stand_low above line) (stand_late above line free.bars) (latest (line ∷ above))
    line.says
    (with_label line.label stand.cycle drafts) (latest_rises above line)
    (λ filled. let same = stand_latest above line filled free.bars whole.beside in omega arith)
    (label_to number (latest above) line.label stand.cycle drafts are)

pub blocks_are_in_order : (isa : InstructionSet) (text : List ℕ) → BlocksAreInOrder isa text
blocks_are_in_order isa = text_kept isa (λ above number drafts. AreInOrderTo number (latest above) drafts)
    (AllByRecursion IsInOrder) (record {
      first = record { done = tt; current = tt };
      next = line_to isa;
      last = λ above number drafts are. all_order number (latest above) drafts are;
    })
