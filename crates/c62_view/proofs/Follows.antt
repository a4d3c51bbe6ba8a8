-- Entries that are played one after another.
use Rattle.std.proofs.Common.{◌≡◌, ◌↔◌, ℕ, zero, suc, ◌+◌, ◌<◌, Bool, true, false, List, [], ◌∷◌, ◌++◌, length, take}
use Rattle.std.proofs.Common.{get_or, sym, ap, ◌∙◌, subst, arith, IsTrue}
use Rattle.std.proofs.lemmas.List.{take_more}
use Rattle.std.proofs.lemmas.Bool.{false≢true}
use Rattle.std.specs.Bool.{OnTrue, OnFalse}
use Rattle.c62_insn.specs.declared.insn.Insn.{Insn}
use Rattle.c62_read.specs.Block.{Serial}
use Rattle.c62_depend.specs.Plan.{insns_of}
use Rattle.c62_sheet.specs.declared.entry.Entry.{Entry}
use Rattle.c62_sheet.specs.Lawful.{Spots, Placements}
use Rattle.c62_sheet.specs.Journal.{after, replayed, Permits, IsLegal}
use Rattle.c62_board.specs.State.{nothing_of}
use Rattle.c62_board.proofs.Journals.{replayed_more, replayed-append}

pub permitted : (block : List Insn) (set : Spots) (es : List Entry) (k : ℕ) (d : Entry) → k < length es
    → IsLegal block set es → Permits block (replayed set (take k es)) (get_or es k d)
permitted block set [] k d h l = absurd (omega arith)
permitted block set (e ∷ es) zero d h l = l.0
permitted block set (e ∷ es) (suc k) d h l = permitted block (after set e) es k d (omega arith) l.1

pub legal_first : (block : List Insn) (set : Spots) (xs ys : List Entry) → IsLegal block set (xs ++ ys)
    → IsLegal block set xs
legal_first block set [] ys l = tt
legal_first block set (x ∷ xs) ys l = (l.0, legal_first block (after set x) xs ys l.1)

pub legal_rest : (block : List Insn) (set : Spots) (xs ys : List Entry) → IsLegal block set (xs ++ ys)
    → IsLegal block (replayed set xs) ys
legal_rest block set [] ys l = l
legal_rest block set (x ∷ xs) ys l = legal_rest block (after set x) xs ys l.1

abbrev pub Done : Bool → Placements → Placements → Entry → Type 0
Done b old new e = OnTrue b (new ≡ record old { spots = after old.spots e })

abbrev pub Refused : Bool → Placements → Placements → Type 0
Refused b old new = OnFalse b (new ≡ old)

pub same_plan : (b : Bool) (old new : Placements) (e : Entry) → Done b old new e → Refused b old new
    → new.plan ≡ old.plan
same_plan true old new e done refused = ap (λ (p : Placements). p.plan) done
same_plan false old new e done refused = ap (λ (p : Placements). p.plan) refused

pub follows : (b : Bool) (plan : Serial) (set : Spots) (old new : Placements) (es : List Entry) (k : ℕ) (d : Entry)
    → k < length es → old.plan ≡ plan
    → (IsLegal (insns_of plan) set es → old.spots ≡ replayed set (take k es)) → Done b old new (get_or es k d)
    → IsTrue b ↔ Permits (insns_of old.plan) old.spots (get_or es k d)
    → IsLegal (insns_of plan) set es → new.spots ≡ replayed set (take (k + 1) es)
follows true plan set old new es k d lt same is done legal l = rw (take_more es k d lt)
    (ap (λ (p : Placements). p.spots) done ∙ sym (replayed_more set old.spots (take k es) (get_or es k d) (is l)))
follows false plan set old new es k d lt same is done legal l =
    let may : Permits (insns_of plan) (replayed set (take k es)) (get_or es k d) = permitted (insns_of plan) set es k d
    lt l in
    let may' : Permits (insns_of old.plan) old.spots (get_or es k d) = rw (same, is l) may in
    absurd (false≢true (legal.1 may'))

pub went_on : (plan plan' : Serial) (old new : Spots) (es more all : List Entry) → plan' ≡ plan → all ≡ es ++ more
    → (IsLegal (insns_of plan) (nothing_of plan) es → old ≡ replayed (nothing_of plan) es)
    → (IsLegal (insns_of plan) old more → new ≡ replayed old more)
    → IsLegal (insns_of plan') (nothing_of plan') all → new ≡ replayed (nothing_of plan') all
went_on plan plan' old new es more all same is before step legal =
    let l : IsLegal (insns_of plan) (nothing_of plan) (es ++ more) = subst (λ (t : Serial
    × List Entry). IsLegal (insns_of t.0) (nothing_of t.0) t.1) (ap (λ (p : Serial). (p, all)) same
    ∙ ap (λ (z : List Entry). (plan, z)) is) legal in
    let o : old ≡ replayed (nothing_of plan) es = before (legal_first (insns_of plan) (nothing_of plan) es more l) in
    let m : IsLegal (insns_of plan) old more = rw o (legal_rest (insns_of plan) (nothing_of plan) es more l) in
    rw (same, is) (step m ∙ (ap (λ (s : Spots). replayed s more) o ∙ sym (replayed-append (nothing_of plan) es more)))
