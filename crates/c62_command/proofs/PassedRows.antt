-- What was found for an argument is good, where its values passed its parser.
use Rattle.std.proofs.Common.{◌≡◌, ◌≢◌, ℕ, ◌+◌, min, Bool, true, false, List, [], ◌∷◌, ◌++◌, Some, refl, subst, arith}
use Rattle.std.proofs.lemmas.Bool.{eqb-true}
use Rattle.std.specs.Prelude.{◌||◌, if◌then◌else◌, find, IfSome, length}
use Rattle.std.specs.Str.{bytes_eq}
use Rattle.std.proofs.lemmas.Slice.Eq.{bytes_eq-Decides}
use Rattle.clap.specs.Kinds.{Kinds, or_else, request_kinds}
use Rattle.clap.specs.Faults.{action_fault, default_fault, repeat_fault, use_fault, values_fault}
use Rattle.clap.specs.Walk.{Row, Rule, Text, action_of, at_row, count_of, default_rows, has_row, is_empty, more_values}
use Rattle.clap.specs.Walk.{new_count, reading_by, used, used_as, values_or_missing, with_count, with_default}
use Rattle.clap.specs.Walk.{with_values, without}
use Rattle.clap.specs.declared.builder.action.ArgAction.{ArgAction}
use Rattle.clap.specs.declared.builder.action.ArgAction.TheVariants as action
use Rattle.clap.specs.declared.parser.matches.ValueSource.{ValueSource}
use Rattle.clap.specs.declared.parser.matches.ValueSource.TheVariants.{DefaultValue, CommandLine}
use Rattle.clap.specs.declared.builder.value_parser.Reading.{Reading}

pub first_none : (a b : Kinds) → or_else a b ≡ [] → a ≡ []
first_none [] b e = refl
first_none (k ∷ ks) b e = absurd cc

pub then_none : (a b : Kinds) → or_else a b ≡ [] → b ≡ []
then_none [] b e = e
then_none (k ∷ ks) b e = absurd cc

-- two names of a third are one
same_name : (row name id : Text) → bytes_eq row name ≡ true → bytes_eq row id ≡ true → bytes_eq name id ≡ true
same_name row name id is e = subst (λ (t : Text). bytes_eq t id ≡ true) ((bytes_eq-Decides row name).0 is) e

-- P holds of each of these
abbrev pub Each : {X : Type 0} → (X → Type 0) → List X → Type 0
Each P [] = Unit {0}
Each P (x ∷ xs) = P x × Each P xs

each_append : {X : Type 0} (P : X → Type 0) (xs ys : List X) → Each P xs → Each P ys → Each P (xs ++ ys)
each_append P [] ys all more = more
each_append P (x ∷ xs) ys all more = (all.0, each_append P xs ys all.1 more)

pub found : {X : Type 0} (P : X → Type 0) (p : X → Bool) (xs : List X) → Each P xs → IfSome (find p xs) P
found P p [] all = tt
found P p (x ∷ xs) all = go (p x) (found P p xs all.1)
  where
    go : (b : Bool) → IfSome (find p xs) P → IfSome (if b then Some x else find p xs) P
    go true rest = all.0
    go false rest = rest

module _ (id : Text) (Good : Text → Type 0) where
  -- what was found for the argument of this id is good
  abbrev pub IsGood : Row → Type 0
  IsGood r = bytes_eq r.id id ≡ true → Each Good r.values

  abbrev pub AreGood : List Row → Type 0
  AreGood rows = Each IsGood rows

  -- where an argument has this id, its values are good once they pass
  abbrev pub Checks : Rule → ArgAction → Type 0
  Checks a x = bytes_eq a.id id ≡ true → (x ≢ action.Count)
      × ((values : List Text) → values_fault a values ≡ [] → Each Good values)

  abbrev pub IsChecked : Rule → Type 0
  IsChecked a = Checks a (action_of a)

  at_row_good : (name : Text) (change : Row → List Row) (missing rows : List Row)
      → ((r : Row) → bytes_eq r.id name ≡ true → IsGood r → AreGood (change r))
      → AreGood missing → AreGood rows → AreGood (at_row name change missing rows)
  at_row_good name change missing [] changed absent good = absent
  at_row_good name change missing (r ∷ rs) changed absent good = go (bytes_eq r.id name) refl
      (at_row_good name change missing rs changed absent good.1)
    where
      go : (b : Bool) → bytes_eq r.id name ≡ b → AreGood (at_row name change missing rs)
          → AreGood (if b then change r ++ rs else r ∷ at_row name change missing rs)
      go true is rest = each_append IsGood (change r) rs (changed r is good.0) good.1
      go false is rest = (good.0, rest)

  without_good : (name : Text) (rows : List Row) → AreGood rows → AreGood (without name rows)
  without_good name rows good = at_row_good name (λ _. []) [] rows (λ r is g. tt) tt good

  with_values_good : (name : Text) (how : Reading) (s : ValueSource) (values : List Text) (rows : List Row)
      → (bytes_eq name id ≡ true → Each Good values)
      → AreGood rows → AreGood (with_values name how s values rows)
  with_values_good name how s values rows suits good =
      at_row_good name (more_values s values) _ rows
      (λ r is g. (λ e. each_append Good r.values values (g e) (suits (same_name r.id name id is e)), tt)) (suits, tt)
      good

  with_count_good : (name : Text) (how : Reading) (s : ValueSource) (n : ℕ) (rows : List Row)
      → (bytes_eq name id ≡ true → ⊥) → AreGood rows
      → AreGood (with_count name how s n rows)
  with_count_good name how s n rows other good =
      at_row_good name (new_count s n) _ rows (λ r is g. (λ e. absurd (other (same_name r.id name id is e)), tt))
      (λ e. absurd (other e), tt) good

  -- ---- one use

  used_as_good : (x : ArgAction) (again : Bool) (a : Rule) (values : List Text) (rows : List Row) → Checks a x
      → action_fault x again a values rows ≡ []
      → AreGood rows → AreGood (used_as x a.id (reading_by a) values rows)
  used_as_good action.Set again a values rows checks none good =
      with_values_good a.id (reading_by a) CommandLine values (without a.id rows)
      (λ e. (checks e).1 values (then_none (repeat_fault again a.id rows) (values_fault a values) none))
      (without_good a.id rows good)
  used_as_good action.SetTrue again a values rows checks none good =
      with_values_good a.id (reading_by a) CommandLine values (without a.id rows)
      (λ e. (checks e).1 values (then_none (repeat_fault again a.id rows) (values_fault a values) none))
      (without_good a.id rows good)
  used_as_good action.SetFalse again a values rows checks none good =
      with_values_good a.id (reading_by a) CommandLine values (without a.id rows)
      (λ e. (checks e).1 values (then_none (repeat_fault again a.id rows) (values_fault a values) none))
      (without_good a.id rows good)
  used_as_good action.Append again a values rows checks none good = with_values_good a.id (reading_by a) CommandLine
      values rows (λ e. (checks e).1 values none) good
  used_as_good action.Count again a [] rows checks none good = with_count_good a.id (reading_by a) CommandLine
      (min (count_of a.id rows + 1) 255) (without a.id rows) (λ e. (checks e).0 refl) (without_good a.id rows good)
  used_as_good action.Count again a (v ∷ vs) rows checks none good =
      with_values_good a.id (reading_by a) CommandLine (v ∷ vs) (without a.id rows) (λ e. absurd ((checks e).0 refl))
      (without_good a.id rows good)
  used_as_good action.Help again a values rows checks none good = good
  used_as_good action.HelpShort again a values rows checks none good = good
  used_as_good action.HelpLong again a values rows checks none good = good
  used_as_good action.Version again a values rows checks none good = good

  pub used_good : (again : Bool) (a : Rule) (values : List Text) (rows : List Row) → IsChecked a
      → use_fault again a values rows ≡ [] → AreGood rows → AreGood (used a values rows)
  used_good again a values rows checks none good =
      used_as_good (action_of a) again a (values_or_missing a values) rows checks
      (then_none _ (action_fault (action_of a) again a (values_or_missing a values) rows) none) good

  pub with_default_good : (a : Rule) (rows : List Row) → IsChecked a → default_fault rows a ≡ [] → AreGood rows
      → AreGood (with_default rows a)
  with_default_good a rows checks none good = go (has_row a.id rows) a.defaults (is_empty a.defaults) refl none
    where
      go : (b : Bool) (defaults : List Text) (e : Bool) → is_empty defaults ≡ e
          → (if b || e then [] else or_else (request_kinds (action_of a)) (values_fault a defaults)) ≡ []
          → AreGood (if b then rows else default_rows a.id (reading_by a) defaults rows)
      go true defaults e is n = good
      go false [] e is n = good
      go false (v ∷ vs) true is n = let none_there : length (v ∷ vs) ≡ 0 = eqb-true (length (v ∷ vs)) 0 is in absurd
          (omega arith)
      go false (v ∷ vs) false is n = with_values_good a.id (reading_by a) DefaultValue (v ∷ vs) rows
          (λ e. (checks e).1 (v ∷ vs) (then_none (request_kinds (action_of a)) (values_fault a (v ∷ vs)) n)) good
