use Rattle.std.proofs.Common.{◌≡◌, ◌++◌, ◌∙◌, [], ap, sym, drop}
use Rattle.std.proofs.lemmas.List.{append-nil, drop_all}
use Rattle.c62_rows.specs.Word.{undotted}
use Rattle.c62_rows.proofs.word.undotted.Goals as goal

pub returns : goal.returns
returns c =
    let plain = c.loop-b.plain.items in
    let none : drop c.loop-b.b-index c.args.name.now ≡ [] = drop_all c.loop-b.b-index c.args.name.now
    c.loop-b-test.false in
    sym (append-nil plain) ∙ ap (λ rest. plain ++ undotted rest) (sym none) ∙ c.loop-b.invariant
