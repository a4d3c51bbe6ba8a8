use Rattle.std.proofs.Common.{◌<◌, ℕ, ◌+◌, List, ◌∷◌, length, take, sym, ap, ◌∙◌, rules}
use Rattle.std.proofs.lemmas.List.{take_rest}
use Rattle.c62_listing_reader.specs.Text.{lines_in}
use Rattle.c62_listing_reader.proofs.TextLemmas.{first_is, only_is, fed}
use Rattle.c62_listing_reader.proofs.text.first_line.Goals as goal

pub returns-in-Some-clause-found : goal.returns-in-Some-clause-found
returns-in-Some-clause-found c =
    let text = c.args.text.now in
    first_is text c.in-Some.end (rw c.in-Some.is at c.memchr.ensures)
    ∙ ap (λ (rest : List ℕ). fed (take c.in-Some.end text) ∷ lines_in rest) (sym (take_rest text (c.in-Some.end + 1)))

pub returns-in-None-clause-found : goal.returns-in-None-clause-found
returns-in-None-clause-found c =
    let some : 0 < length c.args.text.now = search rules in
    only_is c.args.text.now some (rw c.in-None.is at c.memchr.ensures)
