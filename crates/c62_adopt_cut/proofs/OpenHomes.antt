-- The homes of instructions while their block is open.
use Rattle.std.proofs.Common.{◌≡◌, ◌≤◌, ◌-◌, ◌==◌, ◌∙◌, ap, sym, cond, refl, true, false, ℕ, Bool, List, ◌∷◌, ◌++◌, []}
use Rattle.std.proofs.Common.{length, Option, Some, None, arith, inl, inr, append-nil, append_assoc, subst}
use Rattle.std.specs.List.{AllByRecursion, flat_map}
use Rattle.std.specs.List.Sorted.{IsNonDecreasing}
use Rattle.std.specs.Option.{option_to_list}
use Rattle.std.proofs.lemmas.Bool.{cases_Bool, eqb-true}
use Rattle.std.proofs.lemmas.Bool.Decides.{nat_tests}
use Rattle.std.proofs.lemmas.List.{map-append}
use Rattle.std.proofs.lemmas.List.Concat.{flat_map-append}
use Rattle.std.proofs.lemmas.List.Elements.{All-from_recursion}
use Rattle.std.proofs.lemmas.List.Sorted.{IsNonDecreasingBy-push}
use Rattle.c62_read.specs.Program.{Name}
use Rattle.c62_read.proofs.CutLemmas.{all_more}
use Rattle.c62_adopt_cut.specs.Blocks.{Issue, Draft, Drafts, add_issue, all_drafts, begins_at, new_draft, opened}
use Rattle.c62_adopt_cut.specs.Blocks.{with_block, with_issue}
use Rattle.c62_adopt_cut.specs.Laws.{labels_given}
use Rattle.c62_adopt_cut.specs.Home.{Home, home, homes_of, starts_of}
use Rattle.c62_adopt_cut.proofs.NameLemmas.{last_given}

-- ---- the last block of several

last_homes : (drafts : List Draft) (last : Draft)
    → flat_map homes_of (drafts ++ last ∷ []) ≡ flat_map homes_of drafts ++ homes_of last
last_homes drafts last =
    flat_map-append homes_of drafts (last ∷ [])
    ∙ ap (λ (homes : List Home). flat_map homes_of drafts ++ homes) (append-nil (homes_of last))

last_starts : (drafts : List Draft) (last : Draft)
    → starts_of (drafts ++ last ∷ []) ≡ starts_of drafts ++ last.start ∷ []
last_starts drafts last = map-append (λ (draft : Draft). draft.start) drafts (last ∷ [])

one_home_more : (drafts : List Draft) (last : Draft) (issue : Issue)
    → flat_map homes_of (drafts ++ with_issue issue last ∷ []) ≡ flat_map homes_of (drafts ++ last ∷ []) ++ home
    last.label last.start issue ∷ []
one_home_more drafts last issue =
    let more = home last.label last.start issue ∷ [] in
    last_homes drafts (with_issue issue last)
    ∙ ap (λ (homes : List Home). flat_map homes_of drafts ++ homes)
    (map-append (home last.label last.start) last.issues (issue ∷ []))
    ∙ sym (append_assoc (flat_map homes_of drafts) (homes_of last) more)
    ∙ ap (λ (homes : List Home). homes ++ more) (sym (last_homes drafts last))

starts_rise : (starts : List ℕ) (low start : ℕ) → IsNonDecreasing starts → AllByRecursion (λ other. other ≤ low) starts
    → low ≤ start
    → IsNonDecreasing (starts ++ start ∷ [])
starts_rise starts low start order all more =
    IsNonDecreasingBy-push (λ (other : ℕ). other) starts start order (λ d some.
    let last = All-from_recursion (λ (other : ℕ). other ≤ low) starts all (length starts - 1) d (omega arith) in omega
    (arith, last, more))

pub all_low : (least most : ℕ) (starts : List ℕ) → least ≤ most → AllByRecursion (λ start. start ≤ least) starts
    → AllByRecursion (λ start. start ≤ most) starts
all_low least most [] more all = tt
all_low least most (start ∷ starts) more all = (omega (arith, more, all.0), all_low least most starts more all.1)

-- ---- the open block

-- A block that begins where the open one does has its label, and one that begins behind that has none.
abbrev pub Names : (ℕ → Option Name) → Option Draft → Type 0
Names found None = (start : ℕ) → found start ≡ None
Names found (Some draft) = (start : ℕ) → draft.start ≤ start
    → found start ≡ cond (start == draft.start) draft.label None

-- what the blocks have, none of which begins behind this cycle
pub record Have (found : ℕ → Option Name) (low : ℕ) (homes : List Home) (labels : List Name) (cuts : ℕ
    → Type 0) (drafts : Drafts) : Type 0 where
  pub instructions : flat_map homes_of (all_drafts drafts) ≡ homes
  pub labels_are : labels_given (all_drafts drafts) ≡ labels
  pub at_cuts : AllByRecursion cuts (starts_of (all_drafts drafts))
  pub rising : IsNonDecreasing (starts_of (all_drafts drafts))
  pub low_enough : AllByRecursion (λ start. start ≤ low) (starts_of (all_drafts drafts))
  pub named : Names found drafts.current

module _ (found : ℕ → Option Name) (low : ℕ) (homes : List Home) (labels : List Name) (cuts : ℕ
    → Type 0) (drafts : Drafts) (have : Have found low homes labels cuts drafts) where
  -- a block that begins here
  pub new_has : (others : ℕ → Option Name) (label : Option Name) (start : ℕ) → low ≤ start → cuts start
      → ((cycle : ℕ) → start ≤ cycle → others cycle ≡ cond (cycle == start) label None)
      → Have others start homes (labels ++ option_to_list label) cuts (with_block label start drafts)
  new_has others label start more cut names =
      let before = all_drafts drafts in
      let new = new_draft label start in
      let starts : starts_of (before ++ new ∷ []) ≡ starts_of before ++ start ∷ [] = last_starts before new in
      record {
        instructions = last_homes before new ∙ append-nil (flat_map homes_of before) ∙ have.instructions;
        labels_are = last_given before new ∙ ap (λ (given : List Name). given ++ option_to_list label) have.labels_are;
        at_cuts = rw starts (all_more cuts (starts_of before) (start ∷ []) have.at_cuts (cut, tt));
        rising = rw starts (starts_rise (starts_of before) low start have.rising have.low_enough more);
        low_enough = rw starts
            (all_more (λ other. other ≤ start) (starts_of before) (start ∷ [])
            (all_low low start (starts_of before) more have.low_enough) (omega arith, tt));
        named = names;
      }

-- an instruction more in the open block, which begins here
add_has : (found : ℕ → Option Name) (low : ℕ) (homes : List Home) (labels : List Name) (cuts : ℕ
    → Type 0) (done : List Draft) (current : Option Draft) (start : ℕ) (issue : Issue)
    → Have found low homes labels cuts (record { done = done; current = current }) → begins_at start current ≡ true
    → Have found low (homes ++ home (found start) start issue ∷ []) labels cuts
    (add_issue issue (record { done = done; current = current }))
add_has found low homes labels cuts done None start issue have begins = absurd cc
add_has found low homes labels cuts done (Some draft) start issue have begins =
    let here : draft.start ≡ start = eqb-true draft.start start begins in
    let named : found start ≡ draft.label = have.named start (omega (arith, here))
    ∙ (let same : (start == draft.start) ≡ true = grind (arith, nat_tests, here) in rw same refl) in
    let starts : starts_of (done ++ with_issue issue draft ∷ []) ≡ starts_of (done ++ draft ∷ []) =
    last_starts done (with_issue issue draft) ∙ sym (last_starts done draft) in
    record {
      instructions = one_home_more done draft issue ∙ rw (have.instructions, here, ← named) refl;
      labels_are = last_given done (with_issue issue draft) ∙ sym (last_given done draft) ∙ have.labels_are;
      at_cuts = rw starts have.at_cuts;
      rising = rw starts have.rising;
      low_enough = rw starts have.low_enough;
      named = have.named;
    }

-- no block that begins behind the open one has a label
no_name : (found : ℕ → Option Name) (low : ℕ) (drafts : List Draft) (current : Option Draft) (start : ℕ)
    → Names found current
    → AllByRecursion (λ other. other ≤ low) (starts_of (drafts ++ option_to_list current)) → low ≤ start
    → begins_at start current ≡ false → (cycle : ℕ) → start ≤ cycle
    → found cycle ≡ None
no_name found low drafts None start names all more other cycle behind = names cycle
no_name found low [] (Some draft) start names all more other cycle behind =
    let lower = all.0 in
    let apart : (cycle == draft.start) ≡ false = grind (arith, nat_tests, lower, more, other, behind) in
    names cycle (omega (arith, lower, more, behind)) ∙ rw apart refl
no_name found low (first ∷ drafts) (Some draft) start names all more other cycle behind =
    no_name found low drafts (Some draft) start names all.1 more other cycle behind

pub opened_has : (found : ℕ → Option Name) (low : ℕ) (homes : List Home) (labels : List Name) (cuts : ℕ
    → Type 0) (drafts : Drafts) (start : ℕ) (issue : Issue)
    → Have found low homes labels cuts drafts → low ≤ start → cuts start
    → Have found start (homes ++ home (found start) start issue ∷ []) labels cuts
    (add_issue issue (opened start drafts))
opened_has found low homes labels cuts drafts start issue have more cut = elim
    (cases_Bool (begins_at start drafts.current)) [
      | inl begins ↦
          rw begins (lower (add_has found low homes labels cuts drafts.done drafts.current start issue have begins))
      | inr other ↦
          let none = no_name found low drafts.done drafts.current start have.named have.low_enough more other in
          let names : (cycle : ℕ) → start ≤ cycle → found cycle ≡ cond (cycle == start) None None =
          λ cycle behind. none cycle behind ∙ both (cycle == start) None in
          let new = new_has found low homes labels cuts drafts have found None start more cut names in
          rw other (add_has found start homes labels cuts (all_drafts drafts) (Some (new_draft None start)) start issue
          (subst (λ (given : List Name). Have found start homes given cuts (with_block None start drafts))
          (append-nil labels) new) (grind (arith, nat_tests)))
    ]
  where
    both : (b : Bool) (name : Option Name) → name ≡ cond b name name
    both true name = refl
    both false name = refl

    lower : {more_homes : List Home} {later : Drafts} → Have found low more_homes labels cuts later
        → Have found start more_homes labels cuts later
    lower {more_homes} {later} is = record {
      instructions = is.instructions;
      labels_are = is.labels_are;
      at_cuts = is.at_cuts;
      rising = is.rising;
      low_enough = all_low low start (starts_of (all_drafts later)) more is.low_enough;
      named = is.named;
    }
