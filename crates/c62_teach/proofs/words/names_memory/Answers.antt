use Rattle.std.proofs.Common.{Global, ◌∙◌}
use Rattle.std.specs.Prelude.{string_bytes}
use Rattle.c62_teach.specs.Words.{is_of_memory}
use Rattle.c62_teach.proofs.Listed.{any_mapped}
use Rattle.c62_teach.proofs.words.names_memory.Goals as goal

pub returns : goal.returns
returns c = c.has_memory.ensures ∙ any_mapped is_of_memory (string_bytes {Z = Global}) c.args.words.now
