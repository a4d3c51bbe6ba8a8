use Rattle.std.proofs.Common.{◌≡◌, List, ℕ, append_assoc, subst}
use Rattle.std.specs.Prelude.{OnOk, codes, decimal}
use Rattle.c62_faulted.proofs.sentence.push_multiple.Goals as goal

pub returns : goal.returns
returns c =
    subst (λ (text : List ℕ). OnOk c.push_counted.result (c.push_counted.new.out.items ≡ text))
    (append_assoc c.args.out.now.items (codes ", no multiple of ") (decimal c.args.size)) c.push_counted.ensures
