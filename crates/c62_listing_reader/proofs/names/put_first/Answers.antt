use Rattle.std.proofs.Common.{arith}
use Rattle.std.specs.BTreeMap.Entry.{map_with_value}
use Rattle.std.proofs.lemmas.Map.Text.{btree_map_updates_str}
use Rattle.std.proofs.lemmas.Slice.Eq.{bytes_eq-Decides}
use Rattle.c62_listing_reader.proofs.names.put_first.Goals as goal

pub returns : goal.returns
returns c =
    let label = c.args.label.now in
    let put = map_with_value c.in_ok-numbers.field-0 c.or_insert.result.now in
    let puts = btree_map_updates_str label c.args.numbers.now put _
    (c.in_ok-numbers.ensures.update.0 c.or_insert.result.now) in
    λ other. grind (arith, puts other, bytes_eq-Decides label other)
