-- A block has one raised bound.
use Rattle.std.proofs.Common.{arith, ◌≡◌, ℕ, ◌<◌, List, length, Option, Some, sym, ap, ◌∙◌, inl, inr}
use Rattle.std.specs.Prelude.{ℤ}
use Rattle.std.proofs.lemmas.Bool.{cases_lt}
use Rattle.std.proofs.lemmas.Option.{none-some}
use Rattle.c62_insn.specs.declared.insn.Insn.{Insn}
use Rattle.c62_raised.specs.Raised.{AreAtOnce, IsRaisedLength, with_first}
use Rattle.c62_raised.specs.Laws.{HasOneRaisedLength}
use Rattle.c62_raised.proofs.Heights.{AreAlike, one_height, one_raised, raised_same}

same_leads : (block : List Insn) (from to : ℕ → Option ℤ) (j : ℕ) → AreAtOnce block from → AreAtOnce block to
    → from j ≡ to j
same_leads block from to j p q = elim (cases_lt j (length block)) [
  | inl low ↦ p.each j low ∙ sym (q.each j low)
  | inr high ↦ p.others j (omega (arith, high)) ∙ sym (q.others j (omega (arith, high)))
]

inside : (block : List Insn) (lead : ℕ → Option ℤ) (j : ℕ) (before : ℤ) → AreAtOnce block lead → lead j ≡ Some before
    → j < length block
inside block lead j before p e = elim (cases_lt j (length block)) [
  | inl low ↦ low
  | inr high ↦ absurd (none-some before (sym (p.others j (omega (arith, high))) ∙ e))
]

alike : (block : List Insn) (a b : ℕ) (p : IsRaisedLength block a) (q : IsRaisedLength block b)
    → AreAlike p.height p.lead q.height q.lead
alike block a b p q j before e = (
  sym (same_leads block p.lead q.lead j p.at_once q.at_once) ∙ e,
  one_height block p.height q.height p.heights q.heights (length block) j (inside block p.lead j before p.at_once e)
      (omega arith),
)

pub one_raised_length : (block : List Insn) → HasOneRaisedLength block
one_raised_length block a b p q =
    let same : p.behind ≡ q.behind =
    one_raised block q.height q.lead 0 p.behind q.behind
    (raised_same block p.height q.height p.lead q.lead 0 p.behind (alike block a b p q) (alike block b a q p) p.is) q.is
    in
    p.whole ∙ ap (with_first block) same ∙ sym q.whole
