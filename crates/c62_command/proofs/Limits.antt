-- The numbers of options, where clap takes the words.
use Rattle.std.proofs.Common.{◌≡◌, ◌≢◌, ℕ, true, false, List, [], Option, Some, None, refl, ap, subst, arith}
use Rattle.std.specs.Prelude.{pos, find, codes, IfSome, option_map}
use Rattle.std.specs.Option.{option_map_or}
use Rattle.std.proofs.lemmas.Option.{same_Some}
use Rattle.clap.specs.ValueTests.{is_signed_in}
use Rattle.clap.specs.Faults.{entered_fault, fault_of, level_fault, walk_fault}
use Rattle.clap.specs.Walk.{Row, Text, answers_to, first_of, nothing_held, rows_after, stop_after, walk_from}
use Rattle.clap.specs.Simple.{Shape, argument_words, built, entered, label_of, names_of, rows_at, subcommand_of}
use Rattle.clap.specs.Kinds.{values_kinds}
use Rattle.clap.specs.declared.builder.action.ArgAction.TheVariants as action
use Rattle.clap.specs.declared.builder.value_parser.ValueParser.TheVariants as parser
use Rattle.c62_op.proofs.Chains.{◌⨾◌}
use Rattle.c62_command.specs.CommandLine.{TakesLimits, tool_app}
use Rattle.c62_command.proofs.PassedRows.{AreGood, Each, IsChecked, first_none, found, then_none}
use Rattle.c62_command.proofs.Passed.{first_good, level_good}
use Rattle.c62_command.proofs.InRange.{values_pass, given}

-- ---- the subcommand

module _ (option : Text) (Passes : Text → Type 0) where
  abbrev AreChecked : Shape → Type 0
  AreChecked s = Each (IsChecked option Passes) s.rules

  entered_good : Each AreChecked (built tool_app).subs
      → (stop : Option (Text × List Text)) (name : Text) (rows : List Row)
      → entered_fault (built tool_app) stop ≡ []
      → entered (built tool_app) stop ≡ Some (name, rows) → AreGood option Passes rows
  entered_good checks None name rows none is = absurd cc
  entered_good checks (Some p) name rows none is = go (find (λ s. answers_to p.0 (label_of s)) (built tool_app).subs)
      (found AreChecked (λ s. answers_to p.0 (label_of s)) (built tool_app).subs checks) none is
    where
      go : (o : Option Shape) → IfSome o AreChecked
          → option_map_or (λ s. level_fault s [] nothing_held p.1 false []) o [] ≡ []
          → option_map (λ s. rows_at s p.1) o ≡ Some (name, rows)
          → AreGood option Passes rows
      go None checked n e = absurd cc
      go (Some s) checked n e =
          let same : rows_after s.rules [] p.1 ≡ rows = ap (λ (q : Text × List Row). q.1)
          (same_Some (rows_at s p.1) (name, rows) e) in
          subst (AreGood option Passes) same (level_good option Passes s checked p.1 n)

  -- where clap takes the words, the value of the option passes
  passing : Each AreChecked (built tool_app).subs → (words : List Text) (name : Text) (rows : List Row)
      → fault_of tool_app words ≡ []
      → subcommand_of tool_app words ≡ Some (name, rows) → IfSome (first_of option rows) Passes
  passing checks words name rows none is =
      let all = argument_words tool_app words in
      let top = (built tool_app).top in
      let names = names_of (built tool_app) in
      let stop = stop_after top.rules names all in
      let walks = walk_fault top names (walk_from nothing_held) all in
      let below = entered_fault (built tool_app) stop in
      let entered_none : below ≡ [] = first_none below _ (then_none walks _ none) in
      first_good option Passes rows (entered_good checks stop name rows entered_none is)

-- ---- the options

abbrev IsBlocks : Text → Type 0
IsBlocks text = is_signed_in (pos 1) (pos 1000000) text ≡ true

abbrev IsCycles : Text → Type 0
IsCycles text = is_signed_in (pos 1) (pos 1000000000) text ≡ true

abbrev IsBudget : Text → Type 0
IsBudget text = is_signed_in (pos 0) (pos 1000) text ≡ true

abbrev IsChoices : Text → Type 0
IsChoices text = is_signed_in (pos 0) (pos 10000) text ≡ true

-- an option of another name, and one that takes a number
other : {X : Type 0} → false ≡ true → X
other e = absurd cc

number_in : (least most : ℕ) → true ≡ true → (action.Set ≢ action.Count) × ((values : List Text)
    → values_kinds false (parser.Signed (pos least) (pos most)) values ≡ []
    → Each (λ v. is_signed_in (pos least) (pos most) v ≡ true) values)
number_in least most e = ((λ count. absurd cc), values_pass false (parser.Signed (pos least) (pos most)))

blocks_checked : Each (AreChecked (codes "blocks") IsBlocks) (built tool_app).subs
blocks_checked =
    (other ⨾ other ⨾ other ⨾ other ⨾ other ⨾ other ⨾ other ⨾ other ⨾ other ⨾ other ⨾ tt)
    ⨾ (other ⨾ other ⨾ other ⨾ other ⨾ other ⨾ other ⨾ other ⨾ other ⨾ other ⨾ other ⨾ other ⨾ other ⨾ other
    ⨾ other ⨾ other ⨾ tt)
    ⨾ (other ⨾ other ⨾ other ⨾ other ⨾ other ⨾ other ⨾ other ⨾ other ⨾ other ⨾ number_in 1 1000000 ⨾ other
    ⨾ other ⨾ other ⨾ other ⨾ other ⨾ tt)
    ⨾ (other ⨾ number_in 1 1000000 ⨾ other ⨾ other ⨾ other ⨾ other ⨾ other ⨾ tt)
    ⨾ (other ⨾ number_in 1 1000000 ⨾ other ⨾ other ⨾ other ⨾ other ⨾ other ⨾ tt)
    ⨾ (other ⨾ other ⨾ other ⨾ other ⨾ other ⨾ other ⨾ other ⨾ other ⨾ tt)
    ⨾ (other ⨾ other ⨾ other ⨾ other ⨾ tt)
    ⨾ (other ⨾ other ⨾ other ⨾ other ⨾ other ⨾ other ⨾ tt)
    ⨾ (other ⨾ tt)
    ⨾ tt

eject_checked : Each (AreChecked (codes "eject") IsBudget) (built tool_app).subs
eject_checked =
    (other ⨾ number_in 0 1000 ⨾ other ⨾ other ⨾ other ⨾ other ⨾ other ⨾ other ⨾ other ⨾ other ⨾ tt)
    ⨾ (other ⨾ number_in 0 1000 ⨾ other ⨾ other ⨾ other ⨾ other ⨾ other ⨾ other ⨾ other ⨾ other ⨾ other ⨾ other
    ⨾ other ⨾ other ⨾ other ⨾ tt)
    ⨾ (other ⨾ number_in 0 1000 ⨾ other ⨾ other ⨾ other ⨾ other ⨾ other ⨾ other ⨾ other ⨾ other ⨾ other ⨾ other
    ⨾ other ⨾ other ⨾ other ⨾ tt)
    ⨾ (other ⨾ other ⨾ other ⨾ other ⨾ other ⨾ other ⨾ other ⨾ tt)
    ⨾ (other ⨾ other ⨾ other ⨾ other ⨾ other ⨾ other ⨾ other ⨾ tt)
    ⨾ (other ⨾ other ⨾ other ⨾ other ⨾ other ⨾ other ⨾ other ⨾ other ⨾ tt)
    ⨾ (other ⨾ other ⨾ other ⨾ other ⨾ tt)
    ⨾ (other ⨾ other ⨾ other ⨾ other ⨾ other ⨾ other ⨾ tt)
    ⨾ (other ⨾ tt)
    ⨾ tt

cycles_checked : Each (AreChecked (codes "cycles") IsCycles) (built tool_app).subs
cycles_checked =
    (other ⨾ other ⨾ other ⨾ other ⨾ other ⨾ other ⨾ other ⨾ other ⨾ other ⨾ other ⨾ tt)
    ⨾ (other ⨾ other ⨾ other ⨾ other ⨾ other ⨾ other ⨾ other ⨾ other ⨾ other ⨾ other ⨾ other ⨾ other ⨾ other
    ⨾ other ⨾ other ⨾ tt)
    ⨾ (other ⨾ other ⨾ other ⨾ other ⨾ other ⨾ other ⨾ other ⨾ other ⨾ number_in 1 1000000000 ⨾ other ⨾ other
    ⨾ other ⨾ other ⨾ other ⨾ other ⨾ tt)
    ⨾ (other ⨾ other ⨾ other ⨾ other ⨾ other ⨾ other ⨾ other ⨾ tt)
    ⨾ (other ⨾ other ⨾ other ⨾ other ⨾ other ⨾ other ⨾ other ⨾ tt)
    ⨾ (number_in 1 1000000000 ⨾ other ⨾ other ⨾ other ⨾ other ⨾ other ⨾ other ⨾ other ⨾ tt)
    ⨾ (other ⨾ other ⨾ other ⨾ other ⨾ tt)
    ⨾ (other ⨾ other ⨾ other ⨾ other ⨾ other ⨾ other ⨾ tt)
    ⨾ (other ⨾ tt)
    ⨾ tt

search_checked : Each (AreChecked (codes "search") IsChoices) (built tool_app).subs
search_checked =
    (other ⨾ other ⨾ other ⨾ number_in 0 10000 ⨾ other ⨾ other ⨾ other ⨾ other ⨾ other ⨾ other ⨾ tt)
    ⨾ (other ⨾ other ⨾ other ⨾ number_in 0 10000 ⨾ other ⨾ other ⨾ other ⨾ other ⨾ other ⨾ other ⨾ other ⨾ other
    ⨾ other ⨾ other ⨾ other ⨾ tt)
    ⨾ (other ⨾ other ⨾ other ⨾ number_in 0 10000 ⨾ other ⨾ other ⨾ other ⨾ other ⨾ other ⨾ other ⨾ other ⨾ other
    ⨾ other ⨾ other ⨾ other ⨾ tt)
    ⨾ (other ⨾ other ⨾ other ⨾ other ⨾ other ⨾ other ⨾ other ⨾ tt)
    ⨾ (other ⨾ other ⨾ other ⨾ other ⨾ other ⨾ other ⨾ other ⨾ tt)
    ⨾ (other ⨾ other ⨾ other ⨾ other ⨾ other ⨾ other ⨾ other ⨾ other ⨾ tt)
    ⨾ (other ⨾ other ⨾ other ⨾ other ⨾ tt)
    ⨾ (other ⨾ other ⨾ other ⨾ other ⨾ other ⨾ other ⨾ tt)
    ⨾ (other ⨾ tt)
    ⨾ tt

pub takes_limits : (words : List Text) → TakesLimits words
takes_limits words name rows none is = record {
  blocks = given 32 1 1000000 1000 (first_of (codes "blocks") rows) (λ e. absurd cc) (omega arith)
      (passing (codes "blocks") IsBlocks blocks_checked words name rows none is);
  cycles = given 32 1 1000000000 1000000 (first_of (codes "cycles") rows) (λ e. absurd cc) (omega arith)
      (passing (codes "cycles") IsCycles cycles_checked words name rows none is);
  eject = given 16 0 1000 0 (first_of (codes "eject") rows) (λ e. refl) (omega arith)
      (passing (codes "eject") IsBudget eject_checked words name rows none is);
  search = given 16 0 10000 0 (first_of (codes "search") rows) (λ e. refl) (omega arith)
      (passing (codes "search") IsChoices search_checked words name rows none is);
}
