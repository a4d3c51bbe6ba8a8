-- Blocks of a text have labels that differ, or instructions.
use Rattle.std.proofs.Common.{◌≡◌, ◌<◌, ◌++◌, ◌∙◌, ap, sym, refl, true, false, ℕ, Bool, List, ◌∷◌, [], length, Option}
use Rattle.std.proofs.Common.{Some, None}
use Rattle.std.proofs.Common.{arith, inl, inr, append-nil, length-append}
use Rattle.std.specs.Prelude.{map, IfSome, IsTrue}
use Rattle.std.specs.List.{AllByRecursion, IsDistinct, flat_map, list_any}
use Rattle.std.specs.Option.{option_to_list}
use Rattle.std.specs.Str.{bytes_eq}
use Rattle.std.proofs.lemmas.Bool.{cases_Bool}
use Rattle.std.proofs.lemmas.Bool.Decides.{nat_tests}
use Rattle.std.proofs.lemmas.Cmp.{nat_list_eq_equiv}
use Rattle.std.proofs.lemmas.List.{map-append}
use Rattle.std.proofs.lemmas.List.Concat.{flat_map-append}
use Rattle.std.proofs.lemmas.Map.Keys.{IsDistinct-push}
use mathlib.Core.Path.{fun_ext}
use Rattle.c62_token.specs.Number.{is_label}
use Rattle.c62_line.specs.Line.{Says, Nothing, Pause, Does, Jumps}
use Rattle.c62_read.specs.Program.{Name, label_is}
use Rattle.c62_adopt_line.specs.Line.{Line}
use Rattle.c62_adopt_line.specs.Laws.{IsWhole}
use Rattle.c62_adopt_cut.specs.declared.clock.Stand.{Stand}
use Rattle.c62_adopt_cut.specs.Cut.{stand_of}
use Rattle.c62_adopt_cut.specs.Blocks.{Issue, Draft, Drafts, add_issue, all_drafts, begins_at, issue_at, new_draft}
use Rattle.c62_adopt_cut.specs.Blocks.{opened, with_issue, with_label, with_line, with_says}
use Rattle.c62_adopt_cut.specs.Text.{is_taken}
use Rattle.c62_adopt_cut.specs.Laws.{AreNamed, BlocksAreNamed, labels_given}
use Rattle.c62_adopt_cut.proofs.KeptLemmas.{IsFree, text_kept}
use Rattle.c62_read.proofs.CutLemmas.{all_more}
use Rattle.c62_op.specs.declared.set.InstructionSet.{InstructionSet}

-- ---- labels

append_given : (xs ys : List Draft) → labels_given (xs ++ ys) ≡ labels_given xs ++ labels_given ys
append_given xs ys =
    ap (flat_map option_to_list) (map-append (λ (draft : Draft). draft.label) xs ys)
    ∙ flat_map-append option_to_list (map (λ (draft : Draft). draft.label) xs) (map (λ (draft : Draft). draft.label) ys)

pub last_given : (drafts : List Draft) (last : Draft)
    → labels_given (drafts ++ last ∷ []) ≡ labels_given drafts ++ option_to_list last.label
last_given drafts last =
    append_given drafts (last ∷ [])
    ∙ ap (λ (labels : List Name). labels_given drafts ++ labels) (append-nil (option_to_list last.label))

taken_by : (label : Name) (drafts : List Draft)
    → list_any (λ draft. label_is label draft.label) drafts ≡ list_any (λ other. bytes_eq other label)
    (labels_given drafts)
taken_by label [] = refl
taken_by label (draft ∷ drafts) = grind (arith, nat_tests, taken_by label drafts)

distinct_more : (drafts : List Draft) (label : Name) → IsDistinct bytes_eq (labels_given drafts)
    → list_any (λ draft. label_is label draft.label) drafts ≡ false
    → IsDistinct bytes_eq (labels_given drafts ++ label ∷ [])
distinct_more drafts label distinct free =
    let flipped = ap (λ (test : Name → Bool). list_any test (labels_given drafts))
    (fun_ext (nat_list_eq_equiv.symm label)) in
    IsDistinct-push nat_list_eq_equiv (labels_given drafts) label distinct (flipped ∙ sym (taken_by label drafts)
    ∙ free)

-- ---- blocks

abbrev HasBegun : Draft → Type 0
HasBegun draft = draft.label ≡ None → 0 < length draft.issues

-- a block that goes on, or a new one, with the same labels
record AreLabelled (labels : List Name) (drafts : List Draft) : Type 0 where
  pub same : labels_given drafts ≡ labels
  pub begun : AllByRecursion HasBegun drafts

issue_begun : (issue : Issue) (draft : Draft) → HasBegun (with_issue issue draft)
issue_begun issue draft none = omega (arith, length-append draft.issues (issue ∷ []))

begun_parts : (xs ys : List Draft) → AllByRecursion HasBegun (xs ++ ys) → AllByRecursion HasBegun xs
begun_parts [] ys all = tt
begun_parts (x ∷ xs) ys all = (all.0, begun_parts xs ys all.1)

add_labelled : (issue : Issue) (done : List Draft) (draft : Draft) → AllByRecursion HasBegun done
    → AreLabelled (labels_given (done ++ draft ∷ [])) (done ++ with_issue issue draft ∷ [])
add_labelled issue done draft begun = record {
  same = last_given done (with_issue issue draft) ∙ sym (last_given done draft);
  begun = all_more HasBegun done (with_issue issue draft ∷ []) begun (issue_begun issue draft, tt);
}

go_on_labelled : (issue : Issue) (start : ℕ) (done : List Draft) (current : Option Draft)
    → begins_at start current ≡ true
    → AllByRecursion HasBegun (done ++ option_to_list current)
    → AreLabelled (labels_given (done ++ option_to_list current))
    (all_drafts (add_issue issue (record { done = done; current = current })))
go_on_labelled issue start done None begins begun = absurd cc
go_on_labelled issue start done (Some draft) begins begun = add_labelled issue done draft
    (begun_parts done (draft ∷ []) begun)

new_labelled : (issue : Issue) (start : ℕ) (drafts : List Draft) → AllByRecursion HasBegun drafts
    → AreLabelled (labels_given drafts) (drafts ++ with_issue issue (new_draft None start) ∷ [])
new_labelled issue start drafts begun =
    let added = add_labelled issue drafts (new_draft None start) begun in
    record {
      same = added.same ∙ last_given drafts (new_draft None start)
          ∙ append-nil (labels_given drafts);
      begun = added.begun;
    }

opened_labelled : (issue : Issue) (start : ℕ) (drafts : Drafts) → AllByRecursion HasBegun (all_drafts drafts)
    → AreLabelled (labels_given (all_drafts drafts)) (all_drafts (add_issue issue (opened start drafts)))
opened_labelled issue start drafts begun = elim (cases_Bool (begins_at start drafts.current)) [
  | inl begins ↦ rw begins (go_on_labelled issue start drafts.done drafts.current begins begun)
  | inr other ↦ rw other (new_labelled issue start (all_drafts drafts) begun)
]

says_labelled : (number : ℕ) (stand : Stand) (says : Says) (drafts : Drafts)
    → AllByRecursion HasBegun (all_drafts drafts)
    → AreLabelled (labels_given (all_drafts drafts)) (all_drafts (with_says number stand says drafts))
says_labelled number stand Nothing drafts begun = record { same = refl; begun = begun }
says_labelled number stand (Pause n) drafts begun = record { same = refl; begun = begun }
says_labelled number stand (Does parts) drafts begun = opened_labelled (issue_at stand number parts None) stand.start
    drafts begun
says_labelled number stand (Jumps parts target) drafts begun = opened_labelled
    (issue_at stand number parts (Some target)) stand.start drafts begun

-- ---- a line

label_named : (label : Option Name) (start : ℕ) (drafts : Drafts) → IfSome label (λ word. IsTrue (is_label word))
    → is_taken label drafts ≡ false
    → AreNamed (all_drafts drafts) → AreNamed (all_drafts (with_label label start drafts))
label_named None start drafts labelled free named = named
label_named (Some label) start drafts labelled free named =
    let last = last_given (all_drafts drafts) (new_draft (Some label) start) in
    record {
      labels =
          rw last (all_more (λ (word : Name). IsTrue (is_label word)) (labels_given (all_drafts drafts)) (label ∷ [])
          named.labels (labelled, tt));
      distinct = rw last (distinct_more (all_drafts drafts) label named.distinct free);
      begun = all_more HasBegun (all_drafts drafts) (new_draft (Some label) start ∷ []) named.begun
          ((λ none. absurd cc), tt);
    }

says_named : (number : ℕ) (stand : Stand) (says : Says) (drafts : Drafts) → AreNamed (all_drafts drafts)
    → AreNamed (all_drafts (with_says number stand says drafts))
says_named number stand says drafts named =
    let labelled = says_labelled number stand says drafts named.begun in
    record {
      labels = rw labelled.same named.labels;
      distinct = rw labelled.same named.distinct;
      begun = labelled.begun;
    }

line_named : (isa : InstructionSet) (above : List Line) (number : ℕ) (drafts : Drafts) (line : Line) → IsWhole isa line
    → IsFree above drafts line
    → AreNamed (all_drafts drafts) → AreNamed (all_drafts (with_line number (stand_of above line) line drafts))
line_named isa above number drafts line whole free named =
    let stand = stand_of above line in
    says_named number stand line.says (with_label line.label stand.cycle drafts)
    (label_named line.label stand.cycle drafts whole.label free.taken named)

none_named : AreNamed []
unfolding IsDistinct
none_named = record { labels = tt; distinct = tt; begun = tt }

pub blocks_are_named : (isa : InstructionSet) (text : List ℕ) → BlocksAreNamed isa text
blocks_are_named isa = text_kept isa (λ above number drafts. AreNamed (all_drafts drafts)) AreNamed (record {
  first = none_named;
  next = line_named isa;
  last = λ above number drafts named. named;
})
