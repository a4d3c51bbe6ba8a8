-- Where clap takes the words of a subcommand, the values of each argument passed its parser.
use Rattle.std.proofs.Common.{◌≡◌, ℕ, zero, suc, Bool, true, false, List, [], ◌∷◌, Option, Some, None, refl}
use Rattle.std.specs.Prelude.{if◌then◌else◌, find, fold, is_some, IfSome, not, ◌&&◌, option_and_then, slice_get, drop}
use Rattle.std.specs.Prelude.{length, encode_utf8}
use Rattle.std.specs.Option.{option_map_or}
use Rattle.std.specs.Str.{bytes_eq, chars}
use Rattle.clap.specs.Lexer.{long_of, short_of}
use Rattle.clap.specs.Kinds.{Kinds, or_else}
use Rattle.clap.specs.Faults.{bundle_fault, bundle_step_fault, check_fault, default_fault, defaults_fault}
use Rattle.clap.specs.Faults.{flag_word_fault, flags_fault, level_fault, long_fault, option_fault, positional_fault}
use Rattle.clap.specs.Faults.{react_fault, settle_fault, short_fault, step_fault, stray_fault, turn_fault, use_fault}
use Rattle.clap.specs.Faults.{walk_fault, word_fault}
use Rattle.clap.specs.Walk.{Held, Outcome, Row, Rule, Step, Text, Waiting, Walk, after_flag, after_step, arg_by_id}
use Rattle.clap.specs.Walk.{arg_by_index, arg_by_long, arg_by_short, attached_value, bundle, bundle_met, bundle_step}
use Rattle.clap.specs.Walk.{done, finished, first_of, flag_met, has_long, has_short, idle, is_pending, long_met}
use Rattle.clap.specs.Walk.{long_or_other, next, nothing_held, option, option_met, option_word, plain, plain_word}
use Rattle.clap.specs.Walk.{positional, positional_held, reacted, refused, rows_after, settled, settled_rows, short_met}
use Rattle.clap.specs.Walk.{short_or_plain, subcommand, subcommand_or_other, takes_several, takes_values, to_positional}
use Rattle.clap.specs.Walk.{trailing, used_by_id, value, waits, walk, walk_from, walked, walked_from, with_default}
use Rattle.clap.specs.Walk.{word_met}
use Rattle.clap.specs.Simple.{Shape}
use Rattle.clap.specs.declared.error.kind.ErrorKind.TheVariants as kind
use Rattle.c62_command.proofs.PassedRows.{AreGood as HaveGood, IsChecked as ChecksRule, Each, first_none, found}
use Rattle.c62_command.proofs.PassedRows.{then_none, used_good, with_default_good}

module _ (id : Text) (Good : Text → Type 0) where
  abbrev AreGood : List Row → Type 0
  AreGood rows = HaveGood id Good rows

  abbrev IsChecked : Rule → Type 0
  IsChecked a = ChecksRule id Good a

  -- ---- the words of a subcommand

  module _ (c : List Rule) (all : Each IsChecked c) (again : Bool) where
    settled_rows_good : (pending : Option (Text × List Text)) (rows : List Row)
        → option_map_or (λ p. option_map_or (λ a. use_fault again a p.1 rows) (arg_by_id c p.0) []) pending [] ≡ []
        → AreGood rows → AreGood (settled_rows c pending rows)
    settled_rows_good None rows none good = good
    settled_rows_good (Some p) rows none good = go (arg_by_id c p.0) (found IsChecked (λ a. bytes_eq a.id p.0) c all)
        none
      where
        go : (o : Option Rule) → IfSome o IsChecked → option_map_or (λ a. use_fault again a p.1 rows) o [] ≡ []
            → AreGood (used_by_id o p.1 rows)
        go None checks n = good
        go (Some a) checks n = used_good id Good again a p.1 rows checks n good

    settled_good : (h : Held) → settle_fault c again h ≡ [] → AreGood h.rows → AreGood (settled c h).rows
    settled_good h none good = settled_rows_good h.pending h.rows none good

    reacted_good : (a : Rule) (values : List Text) (h : Held) → IsChecked a → react_fault c again a values h ≡ []
        → AreGood h.rows → AreGood (reacted c a values h).rows
    reacted_good a values h checks none good =
        used_good id Good again a values (settled c h).rows checks
        (then_none (settle_fault c again h) (use_fault again a values (settled c h).rows) none)
        (settled_good h (first_none (settle_fault c again h) (use_fault again a values (settled c h).rows) none) good)

    option_met_good : (a : Rule) (v : Option Text) (h : Held) → IsChecked a → option_fault c again a v h ≡ []
        → AreGood h.rows → AreGood (option_met c a v h).0.rows
    option_met_good a (Some v) h checks none good = reacted_good a (v ∷ []) h checks none good
    option_met_good a None h checks none good = settled_good h none good

    long_met_good : (o : Option Rule) (v : Option Text) (h : Held) → IfSome o IsChecked → long_fault c again o v h ≡ []
        → AreGood h.rows → AreGood (long_met c o v h).0.rows
    long_met_good None v h checks none good = good
    long_met_good (Some a) v h checks none good = go (takes_values a) v none
      where
        go : (b : Bool) (v : Option Text)
            → (if b then option_fault c again a v h else
            (if is_some v then kind.TooManyValues ∷ [] else react_fault c again a [] h)) ≡ []
            → AreGood (if b then option_met c a v h else flag_met c a v h).0.rows
        go true v n = option_met_good a v h checks n good
        go false (Some v) n = good
        go false None n = reacted_good a [] h checks n good

    short_met_good : (o : Option Rule) (rest : Text) (h : Held) (step : Held → Held × Outcome) (fault : Held → Kinds)
        → IfSome o IsChecked
        → ((now : Held) → fault now ≡ [] → AreGood now.rows → AreGood (step now).0.rows)
        → short_fault c again o rest h fault ≡ [] → AreGood h.rows
        → AreGood (short_met c o rest h step).0.rows
    short_met_good None rest h step fault checks more none good = good
    short_met_good (Some a) rest h step fault checks more none good = go (takes_values a) none
      where
        go : (b : Bool) → (if b then option_fault c again a (attached_value rest) h else or_else
            (react_fault c again a [] h) (fault (reacted c a [] h))) ≡ []
            → AreGood (if b then option_met c a (attached_value rest) h else step (reacted c a [] h)).0.rows
        go true n = option_met_good a (attached_value rest) h checks n good
        go false n =
            more (reacted c a [] h) (then_none (react_fault c again a [] h) (fault (reacted c a [] h)) n)
            (reacted_good a [] h checks (first_none (react_fault c again a [] h) (fault (reacted c a [] h)) n) good)

    bundle_met_good : (k : ℕ) (flags : Text) (skip : ℕ) (so_far : Outcome) (h : Held)
        → flags_fault c again k flags skip h ≡ [] → AreGood h.rows
        → AreGood (bundle_met c k flags skip so_far h).0.rows
    unfolding bundle_met flags_fault
    bundle_met_good zero flags skip so_far h none good = good
    bundle_met_good (suc k) flags skip so_far h none good =
        go (λ rest less so_far_now now none_now good_now. bundle_met_good k rest less so_far_now now none_now good_now)
        (slice_get (chars flags) 0) skip none
      where
        go : ((rest : Text) (less : ℕ) (so_far_now : Outcome) (now : Held) → flags_fault c again k rest less now ≡ []
            → AreGood now.rows
            → AreGood (bundle_met c k rest less so_far_now now).0.rows)
            → (x : Option ℕ) (skip : ℕ) → bundle_step_fault c again x flags skip h (flags_fault c again k) ≡ []
            → AreGood (bundle_step c x flags skip so_far h (bundle_met c k)).0.rows
        go more None skip n = good
        go more (Some x) zero n =
            let rest = drop (length (encode_utf8 x)) flags in
            short_met_good (arg_by_short c x) rest h (bundle_met c k rest 0 done) (flags_fault c again k rest 0)
            (found IsChecked (λ a. not (is_some a.index) && has_short a x) c all)
            (λ now none_now good_now. more rest 0 done now none_now good_now) n good
        go more (Some x) (suc less) n = more (drop (length (encode_utf8 x)) flags) less so_far h n good

    plain_good : (waiting : Waiting) (word : Text) (h : Held) → AreGood h.rows
        → AreGood (plain_word c waiting word h).0.rows
    plain_good idle word h good = good
    plain_good positional word h good = good
    plain_good (option name) word h good = go (arg_by_id c name)
      where
        go : (o : Option Rule) → AreGood (option_word o name word h).0.rows
        go None = good
        go (Some a) = good

    after_flag_good : (waiting : Waiting) (word : Text) (h : Held) (outcome : Outcome) → AreGood h.rows
        → AreGood (after_flag c waiting word h outcome).0.rows
    after_flag_good waiting word h done good = good
    after_flag_good waiting word h (waits name) good = good
    after_flag_good waiting word h plain good = plain_good waiting word h good
    after_flag_good waiting word h refused good = plain_good waiting word h good

    flag_word_good : (waiting : Waiting) (word : Text) (l : Option (Text × Option Text)) (h : Held)
        → flag_word_fault c again l word h ≡ [] → AreGood h.rows
        → AreGood (long_or_other c waiting word l h).0.rows
    flag_word_good waiting word (Some p) h none good =
        after_flag_good waiting word (long_met c (arg_by_long c p.0) p.1 h).0 (long_met c (arg_by_long c p.0) p.1 h).1
        (long_met_good (arg_by_long c p.0) p.1 h (found IsChecked (λ a. not (is_some a.index) && has_long a p.0) c all)
        none good)
    flag_word_good waiting word None h none good = go (short_of word) none
      where
        go : (o : Option Text) → option_map_or (λ flags. bundle_fault c again flags h) o [] ≡ []
            → AreGood (short_or_plain c waiting word o h).0.rows
        go None n = plain_good waiting word h good
        go (Some flags) n =
            after_flag_good waiting word (bundle c flags h).0 (bundle c flags h).1
            (bundle_met_good (length flags) flags h.skip plain (record h { skip = 0 }) n good)

    other_good : (waiting : Waiting) (position : ℕ) (word : Text) (h : Held)
        → (if bytes_eq word (45 ∷ 45 ∷ []) then [] else flag_word_fault c again (long_of word) word h) ≡ []
        → AreGood h.rows
        → AreGood (subcommand_or_other c None waiting position word h).0.rows
    other_good waiting position word h none good = go (bytes_eq word (45 ∷ 45 ∷ [])) none
      where
        go : (b : Bool) → (if b then [] else flag_word_fault c again (long_of word) word h) ≡ []
            → AreGood (if b then (h, trailing position) else long_or_other c waiting word (long_of word) h).0.rows
        go true n = good
        go false n = flag_word_good waiting word (long_of word) h n good

    positional_good : (a : Rule) (word : Text) (h : Held) → positional_fault c again a h ≡ [] → AreGood h.rows
        → AreGood (positional_held c a word h).rows
    positional_good a word h none good = go (is_pending a h.pending && takes_several a) none
      where
        go : (b : Bool) → (if b then [] else settle_fault c again h) ≡ [] → AreGood (if b then h else settled c h).rows
        go true n = good
        go false n = settled_good h n good

  defaults_good : (c : List Rule) (rows : List Row) → Each IsChecked c → defaults_fault rows c ≡ [] → AreGood rows
      → AreGood (fold with_default rows c)
  unfolding defaults_fault
  defaults_good [] rows all none good = good
  defaults_good (a ∷ rest) rows all none good =
      defaults_good rest (with_default rows a) all.1
      (then_none (default_fault rows a) (defaults_fault (with_default rows a) rest) none)
      (with_default_good id Good a rows all.0
      (first_none (default_fault rows a) (defaults_fault (with_default rows a) rest) none) good)

  module _ (s : Shape) (all : Each IsChecked s.rules) where
    word_good : (is_trailing : Bool) (waiting : Waiting) (position : ℕ) (word : Text) (h : Held)
        → word_fault s [] is_trailing waiting word h ≡ [] → AreGood h.rows
        → AreGood (word_met s.rules [] is_trailing waiting position word h).0.rows
    word_good true waiting position word h none good = good
    word_good false idle position word h none good = other_good s.rules all s.args_override_self idle position word h
        none good
    word_good false positional position word h none good = other_good s.rules all s.args_override_self positional
        position word h none good
    word_good false (option name) position word h none good = other_good s.rules all s.args_override_self (option name)
        position word h none good

    after_step_good : (word : Text) (w : Walk) (h : Held) (step : Step) → step_fault s w.position h step ≡ []
        → AreGood h.rows → AreGood (after_step s.rules word w h step).held.rows
    after_step_good word w h (next waiting) none good = good
    after_step_good word w h (trailing position) none good = good
    after_step_good word w h (subcommand name) none good = good
    after_step_good word w h value none good = go (arg_by_index s.rules w.position) none
      where
        go : (o : Option Rule)
            → option_map_or (λ a. positional_fault s.rules s.args_override_self a h) o (stray_fault s) ≡ []
            → AreGood (to_positional s.rules o word w h).held.rows
        go None n = good
        go (Some a) n = positional_good s.rules all s.args_override_self a word h n good

    walked_good : (w : Walk) (word : Text) → turn_fault s [] w word ≡ [] → AreGood w.held.rows
        → AreGood (walked s.rules [] w word).held.rows
    unfolding walked
    walked_good w word none good = go w.stopped none
      where
        go : (o : Option (Text × List Text))
            → (if is_some o then [] else or_else (word_fault s [] w.is_trailing w.waiting word w.held)
            (step_fault s w.position
            (word_met s.rules [] w.is_trailing w.waiting w.position word w.held).0
            (word_met s.rules [] w.is_trailing w.waiting w.position word w.held).1)) ≡ []
            → AreGood (walked_from s.rules [] o w word).held.rows
        go (Some p) n = good
        go None n =
            let met_now = word_met s.rules [] w.is_trailing w.waiting w.position word w.held in
            after_step_good word w met_now.0 met_now.1
            (then_none (word_fault s [] w.is_trailing w.waiting word w.held)
            (step_fault s w.position met_now.0 met_now.1) n)
            (word_good w.is_trailing w.waiting w.position word w.held
            (first_none (word_fault s [] w.is_trailing w.waiting word w.held)
            (step_fault s w.position met_now.0 met_now.1) n) good)

    walk_good : (w : Walk) (words : List Text) → walk_fault s [] w words ≡ [] → AreGood w.held.rows
        → AreGood (fold (walked s.rules []) w words).held.rows
    unfolding walk_fault
    walk_good w [] none good = good
    walk_good w (word ∷ rest) none good =
        walk_good (walked s.rules [] w word) rest
        (then_none (turn_fault s [] w word) (walk_fault s [] (walked s.rules [] w word) rest) none)
        (walked_good w word (first_none (turn_fault s [] w word) (walk_fault s [] (walked s.rules [] w word) rest) none)
        good)

    -- what was found of a subcommand's words, where they have no fault
    pub level_good : (words : List Text) → level_fault s [] nothing_held words false [] ≡ []
        → AreGood (rows_after s.rules [] words)
    level_good words none =
        let end = (walk s.rules [] nothing_held words).held in
        let settles = settle_fault s.rules s.args_override_self end in
        let defaults = defaults_fault (settled s.rules end).rows s.rules in
        let checked = check_fault s (finished s.rules end) false in
        let after_walk : or_else settles (or_else defaults checked) ≡ [] = then_none
        (walk_fault s [] (walk_from nothing_held) words) (or_else settles (or_else defaults checked)) none in
        let walked_ok : AreGood end.rows = walk_good (walk_from nothing_held) words
        (first_none (walk_fault s [] (walk_from nothing_held) words)
        (or_else settles (or_else defaults checked)) none) tt in
        defaults_good s.rules (settled s.rules end).rows all
        (first_none defaults checked (then_none settles (or_else defaults checked) after_walk))
        (settled_good s.rules all s.args_override_self end (first_none settles (or_else defaults checked) after_walk)
        walked_ok)

  -- the first value that was found
  pub first_good : (rows : List Row) → AreGood rows → IfSome (first_of id rows) Good
  first_good [] good = tt
  first_good (r ∷ rows) good = go (bytes_eq r.id id) refl (first_good rows good.1)
    where
      value_good : (values : List Text) → Each Good values → IfSome (slice_get values 0) Good
      value_good [] g = tt
      value_good (v ∷ values) g = g.0

      go : (b : Bool) → bytes_eq r.id id ≡ b → IfSome (first_of id rows) Good
          → IfSome (option_and_then (λ row. slice_get row.values 0)
          (if b then Some r else find (λ row. bytes_eq row.id id) rows)) Good
      go true is rest = value_good r.values (good.0 is)
      go false is rest = rest
