-- What is told of a text, as a relation.
use Rattle.std.proofs.Common.{◌≡◌, ℕ, zero, suc, ◌+◌, ◌<◌, ◌≤◌, Bool, true, false, ◌&&◌, leb, List, [], ◌∷◌, ◌++◌}
use Rattle.std.proofs.Common.{length, Option, Some, None, refl, sym, ◌∙◌, ap, subst, ◌⊎◌, inl, inr, arith}
use Rattle.std.specs.Prelude.{Contains}
use Rattle.std.specs.List.{list_any}
use Rattle.std.specs.Option.{option_or}
use Rattle.std.proofs.lemmas.Bool.{cases_Bool, and_parts, false≢true}
use Rattle.std.proofs.lemmas.Bool.Decides.{nat_tests}
use Rattle.std.proofs.lemmas.Option.{same_Some}
use Rattle.c62_op.specs.declared.register.Reg.{Reg}
use Rattle.c62_op.specs.Shape.{writes_of}
use Rattle.c62_adopt_cut.specs.Blocks.{Issue, Draft}
use Rattle.c62_adopt_cut.specs.Text.{Cut}
use Rattle.c62_adopt_cut.specs.Flight.{branches, next_start}
use Rattle.c62_adopt_late.specs.declared.late.Late.{Late}
use Rattle.c62_adopt_late.specs.Late.{cycle_at, is_read_old, late, late_among, late_in, late_issue, late_write}
use Rattle.c62_adopt_late.specs.Laws.{IsLate, LateIsTold}

-- ---- lists and options

abbrev In : {X : Type 0} → X → List X → Type 0
In x [] = ⊥
In x (y ∷ ys) = (y ≡ x) ⊎ In x ys

in_list : {X : Type 0} (x : X) (xs : List X) → Contains xs x → In x xs
in_list x [] (k, l, e) = absurd (omega arith)
in_list x (y ∷ ys) (zero, l, e) = inl e
in_list x (y ∷ ys) (suc k, l, e) = inr (in_list x ys (k, omega arith, e))

contained : {X : Type 0} (x : X) (xs : List X) → In x xs → Contains xs x
contained x [] h = absurd h
contained x (y ∷ ys) (inl e) = (0, omega arith, e)
contained x (y ∷ ys) (inr h) = let r = contained x ys h in let l : r.0 < length ys = r.1 in (suc r.0, omega arith, r.2)

or_some : {X : Type 0} (first second : Option X) (x : X) → option_or first second ≡ Some x → (first ≡ Some x)
    ⊎ (second ≡ Some x)
or_some None second x e = inr e
or_some (Some y) second x e = inl e

or_none : {X : Type 0} (first second : Option X) → option_or first second ≡ None → (first ≡ None) × (second ≡ None)
or_none None second e = (refl, e)
or_none (Some y) second e = absurd cc

-- ---- the writes of an instruction

abbrev Test : List Draft → ℕ → ℕ → Reg × ℕ → Bool
Test drafts next cycle write = leb next (cycle + write.1) && is_read_old write.0 (cycle + write.1) drafts

module _ (drafts : List Draft) (next line cycle : ℕ) where
  write_some : (writes : List (Reg × ℕ)) (told : Late) → late_write drafts next line cycle writes ≡ Some told
      → (write : Reg × ℕ) × In write writes × (Test drafts next cycle write ≡ true) × (told ≡ late write.0 line)
  write_some [] told e = absurd cc
  write_some (write ∷ writes) told e = elim (cases_Bool (Test drafts next cycle write)) [
    | inl here ↦ (write, inl refl, here, sym (same_Some (late write.0 line) told (rw here at e)))
    | inr other ↦ (let r = write_some writes told (rw other at e) in (r.0, inr r.1, r.2, r.3))
  ]

  write_none : (writes : List (Reg × ℕ)) → late_write drafts next line cycle writes ≡ None → (write : Reg × ℕ)
      → In write writes → Test drafts next cycle write ≡ true → ⊥
  write_none [] e write h t = h
  write_none (first ∷ writes) e write h t = elim (cases_Bool (Test drafts next cycle first)) [
    | inl here ↦ absurd (let no = rw here at e in cc)
    | inr other ↦ by (rw other at e) other (write_none writes) h
  ]
    where
      by : late_write drafts next line cycle writes ≡ None → Test drafts next cycle first ≡ false
          → (late_write drafts next line cycle writes ≡ None → (w : Reg × ℕ) → In w writes
          → Test drafts next cycle w ≡ true → ⊥) → In write (first ∷ writes) → ⊥
      by none other rest (inl same) = false≢true (sym other
          ∙ subst (λ (w : Reg × ℕ). Test drafts next cycle w ≡ true) (sym same) t)
      by none other rest (inr later) = rest none write later t

-- ---- the instructions of a block

abbrev Writes : Issue → List (Reg × ℕ)
Writes issue = writes_of issue.parts.op issue.parts.operands

module _ (drafts : List Draft) (next start : ℕ) where
  -- an instruction of these with such a write
  record IsOne (issues : List Issue) (told : Late) : Type 0 where
    issue : Issue
    inside : In issue issues
    write : Reg × ℕ
    writes : In write (Writes issue)
    test : Test drafts next (cycle_at start issue) write ≡ true
    is : told ≡ late write.0 issue.line

  issue_some : (issues : List Issue) (told : Late) → late_issue drafts next start issues ≡ Some told → IsOne issues told
  issue_some [] told e = absurd cc
  issue_some (issue ∷ issues) told e = elim
      (or_some (late_write drafts next issue.line (cycle_at start issue) (Writes issue))
      (late_issue drafts next start issues) told e) [
        | inl here ↦
            let w = write_some drafts next issue.line (cycle_at start issue) (Writes issue) told here in
            record { issue = issue; inside = inl refl; write = w.0; writes = w.1; test = w.2; is = w.3 }
        | inr later ↦
            let r = issue_some issues told later in
            record {
              issue = r.issue;
              inside = inr r.inside;
              write = r.write;
              writes = r.writes;
              test = r.test;
              is = r.is;
            }
      ]

  issue_none : (issues : List Issue) → late_issue drafts next start issues ≡ None → (issue : Issue) (write : Reg × ℕ)
      → In issue issues → In write (Writes issue)
      → Test drafts next (cycle_at start issue) write ≡ true → ⊥
  issue_none [] e issue write h w t = h
  issue_none (first ∷ issues) e issue write (inl same) w t =
      let both = or_none (late_write drafts next first.line (cycle_at start first) (Writes first))
      (late_issue drafts next start issues) e in
      write_none drafts next first.line (cycle_at start first) (Writes first) both.0 write
      (subst (λ (i : Issue). In write (Writes i)) (sym same) w)
      (subst (λ (i : Issue). Test drafts next (cycle_at start i) write ≡ true) (sym same) t)
  issue_none (first ∷ issues) e issue write (inr h) w t =
      let both = or_none (late_write drafts next first.line (cycle_at start first) (Writes first))
      (late_issue drafts next start issues) e in
      issue_none issues both.1 issue write h w t

-- ---- the blocks

module _ (end : ℕ) where
  block_some : (draft : Draft) (behind : List Draft) (told : Late) → late_in end behind draft ≡ Some told
      → IsLate end (draft ∷ behind) told
  block_some draft behind told e = elim (cases_Bool (list_any branches draft.issues)) [
    | inl branch ↦ absurd (let no = rw branch at e in cc)
    | inr alone ↦
        let r = issue_some behind (next_start end behind) draft.start draft.issues told (rw alone at e) in
        let both : (leb (next_start end behind) (cycle_at draft.start r.issue + r.write.1) ≡ true)
        × (is_read_old r.write.0 (cycle_at draft.start r.issue + r.write.1) behind ≡ true)
        = and_parts (leb (next_start end behind) (cycle_at draft.start r.issue + r.write.1))
        (is_read_old r.write.0 (cycle_at draft.start r.issue + r.write.1) behind) r.test in
        let flies : next_start end behind ≤ cycle_at draft.start r.issue + r.write.1 = grind (arith, nat_tests, both.0)
        in
        record {
          front = [];
          draft = draft;
          behind = behind;
          whole = refl;
          alone = alone;
          issue = r.issue;
          inside = contained r.issue draft.issues r.inside;
          write = r.write;
          writes = contained r.write (Writes r.issue) r.writes;
          flies = flies;
          read = both.1;
          reg = ap (λ (l : Late). l.reg) r.is;
          line = ap (λ (l : Late). l.line) r.is;
        }
  ]

  some_late : (drafts : List Draft) (told : Late) → late_among end drafts ≡ Some told → IsLate end drafts told
  some_late [] told e = absurd cc
  some_late (draft ∷ drafts) told e = elim (or_some (late_in end drafts draft) (late_among end drafts) told e) [
    | inl here ↦ block_some draft drafts told here
    | inr later ↦
        let r = some_late drafts told later in
        record {
          front = draft ∷ r.front;
          draft = r.draft;
          behind = r.behind;
          whole = ap (λ (others : List Draft). draft ∷ others) r.whole;
          alone = r.alone;
          issue = r.issue;
          inside = r.inside;
          write = r.write;
          writes = r.writes;
          flies = r.flies;
          read = r.read;
          reg = r.reg;
          line = r.line;
        }
  ]

  none_there : (front : List Draft) (draft : Draft) (behind : List Draft)
      → late_among end (front ++ draft ∷ behind) ≡ None → late_in end behind draft ≡ None
  none_there [] draft behind e = (or_none (late_in end behind draft) (late_among end behind) e).0
  none_there (first ∷ front) draft behind e =
      none_there front draft behind
      (or_none (late_in end (front ++ draft ∷ behind) first) (late_among end (front ++ draft ∷ behind)) e).1

  none_late : (drafts : List Draft) → late_among end drafts ≡ None → (told : Late) → IsLate end drafts told → ⊥
  none_late drafts e told is =
      let none = none_there is.front is.draft is.behind (ap (late_among end) (sym is.whole) ∙ e) in
      let flies = is.flies in
      let early : leb (next_start end is.behind) (cycle_at is.draft.start is.issue + is.write.1) ≡ true = grind
      (arith, nat_tests, flies) in
      let read = is.read in
      issue_none is.behind (next_start end is.behind) is.draft.start is.draft.issues (rw is.alone at none) is.issue
      is.write
      (in_list is.issue is.draft.issues is.inside) (in_list is.write (Writes is.issue) is.writes)
      (rw (early, read) refl)

pub late_is_told : (cut : Cut) → LateIsTold cut
late_is_told cut = record {
  some = λ told e. some_late cut.cycles cut.drafts told e;
  none = λ e told is. none_late cut.cycles cut.drafts e
      told is;
}
