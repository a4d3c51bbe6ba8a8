use Rattle.c62_token.proofs.Common.{sym, ◌∙◌}
use Rattle.std.proofs.lemmas.List.{take_rest}
use Rattle.c62_place.proofs.PlaceLemmas.{first_place}
use Rattle.c62_place.proofs.place.first_token.Goals as goal

pub returns : goal.returns
returns c = first_place _ _ _ _ c.blanks-start.ensures.within c.blanks-start.ensures.same c.blanks-start.ensures.ends
    (sym (rw take_rest at c.new.ensures) ∙ c.in_ok-word.ensures)
