use Rattle.std.proofs.Common.{◌≡◌, rules}
use Rattle.std.specs.Map.{lookup}
use Rattle.std.specs.Str.{bytes_eq}
use Rattle.c62_reach.proofs.IndexLemmas.{within}
use Rattle.c62_reach.proofs.index.Index.part_named.Goals as goal

pub returns-clause-within : goal.returns-clause-within
returns-clause-within c =
    let found : c.copied.result ≡ lookup (bytes_eq c.args.name.now) c.args.self.now.first.entries = search rules in
    λ parts indexed. within parts c.args.self.now c.args.name.now c.copied.result found indexed
