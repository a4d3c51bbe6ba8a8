use Rattle.std.proofs.Common.{ap, is_some, ◌∙◌}
use Rattle.c62_listing_reader.specs.Reading.{entries_of}
use Rattle.c62_listing_reader.proofs.NameLemmas.{has_number}
use Rattle.c62_listing_reader.proofs.names.Names.has.Goals as goal

pub returns : goal.returns
returns c =
    let label = c.args.label.now in
    let names = c.args.self.now in
    c.contains_key.ensures ∙ ap is_some (names.found label) ∙ has_number label (entries_of names)
