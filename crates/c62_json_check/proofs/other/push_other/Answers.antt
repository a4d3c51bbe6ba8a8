use Rattle.std.proofs.Common.{List, subst}
use Rattle.std.specs.Option.{option_copied}
use Rattle.json.specs.Token.{Token}
use Rattle.c62_json.specs.Document.{Adds}
use Rattle.c62_check.proofs.Others.{got_is}
use Rattle.c62_json_check.proofs.Others.{other_object_is}
use Rattle.c62_json_check.proofs.other.push_other.Goals as goal

pub returns : goal.returns
returns c =
    let packets = c.args.packets.now in
    let blocks = c.args.blocks.now in
    let number = c.args.number in
    subst (λ (tokens : List Token). Adds c.push_labels.result c.args.out.now c.push_labels.new.out tokens)
    (other_object_is blocks packets number (option_copied c.get.result) (option_copied c.get-2.result)
    (got_is packets number c.get.result c.get.ensures.lookup.0 c.get.ensures.lookup.1)
    (got_is blocks number c.get-2.result c.get-2.ensures.lookup.0 c.get-2.ensures.lookup.1))
    c.push_labels.ensures
