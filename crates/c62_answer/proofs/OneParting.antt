-- An input has one parting.
use Rattle.std.proofs.Common.{◌≡◌, ◌∙◌, ℕ, List, ◌++◌, length, take, drop, sym, ap, subst, arith}
use Rattle.std.specs.Prelude.{codes}
use Rattle.std.proofs.Math.Seq.{drop-append_seam, take-append_seam}
use Rattle.std.proofs.lemmas.List.{append_cancel_left}
use Rattle.c62_answer.specs.Parting.{IsCut, IsEnded, IsPartedOnce}

-- behind one end of a line one thing stands
same_rest : (end listing rest : List ℕ) → IsEnded end listing → IsEnded end rest → listing ≡ rest
same_rest end listing rest one other = grind arith

-- a cut is where its text ends
module _ (input text listing : List ℕ) (cut : IsCut input text listing) where
  cut_text : text ≡ take (length text) input
  cut_text = sym (ap (λ (xs : List ℕ). take (length text) xs) cut.whole ∙ take-append_seam text cut.behind)

  cut_end : codes "---" ++ cut.begun.end ≡ drop (length text) input
  cut_end = sym (ap (λ (xs : List ℕ). drop (length text) xs) cut.whole ∙ drop-append_seam text cut.behind
      ∙ cut.begun.whole)

pub one_parting : (input : List ℕ) → IsPartedOnce input
one_parting input text listing other rest one two =
    let least = one.first other rest two.cut in
    let most = two.first text listing one.cut in
    let size : length text ≡ length other = omega (arith, least, most) in
    let ends : codes "---" ++ one.cut.begun.end ≡ codes "---" ++ two.cut.begun.end =
    cut_end input text listing one.cut ∙ ap (λ (n : ℕ). drop n input) size ∙ sym (cut_end input other rest two.cut) in
    let end : one.cut.begun.end ≡ two.cut.begun.end = append_cancel_left (codes "---") one.cut.begun.end
    two.cut.begun.end ends in (
      cut_text input text listing one.cut ∙ ap (λ (n : ℕ). take n input) size ∙ sym (cut_text input other rest two.cut),
      same_rest two.cut.begun.end listing rest (subst (λ (xs : List ℕ). IsEnded xs listing) end one.cut.begun.ended)
          two.cut.begun.ended,
    )
