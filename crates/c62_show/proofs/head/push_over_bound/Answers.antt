use Rattle.std.proofs.Common.{◌≡◌, ◌∙◌, ◌++◌, ap, append_assoc}
use Rattle.std.specs.Prelude.{codes, decimal, string_bytes}
use Rattle.c62_show.specs.Head.{over_bound}
use Rattle.c62_show.proofs.head.push_over_bound.Goals as goal

pub returns : goal.returns
unfolding over_bound
returns c =
    let words = codes " over the bound of " in
    let begun : string_bytes c.push_str.new.self ≡ string_bytes c.args.out.now ++ words = c.in_ok-push_str.ensures.bytes
    in
    c.in_ok-push_number.ensures
    ∙ (ap (λ text. text ++ decimal c.args.least) begun
    ∙ append_assoc (string_bytes c.args.out.now) words (decimal c.args.least))
