use Rattle.std.proofs.Common.{List, ℕ, ◌∙◌, ◌++◌, ap}
use Rattle.std.specs.Option.{option_copied}
use Rattle.std.proofs.lemmas.Result.{on_ok_weaker}
use Rattle.c62_check.proofs.Others.{got_is, other_line_is}
use Rattle.c62_check.proofs.checked.push_other.Goals as goal

pub returns : goal.returns
returns c =
    let packets = c.args.packets.now in
    let blocks = c.args.blocks.now in
    let number = c.args.number in
    let line = other_line_is blocks packets number (option_copied c.get.result) (option_copied c.get-2.result)
    (got_is packets number c.get.result c.get.ensures.lookup.0 c.get.ensures.lookup.1)
    (got_is blocks number c.get-2.result c.get-2.ensures.lookup.0 c.get-2.ensures.lookup.1) in
    on_ok_weaker c.push_difference.result (λ e. e ∙ ap (λ (l : List ℕ). c.args.out.now.items ++ l) line)
    c.push_difference.ensures
