use Rattle.std.proofs.Common.{Global, ◌∙◌}
use Rattle.std.specs.Prelude.{codes, string_bytes}
use Rattle.std.specs.Str.{bytes_eq}
use Rattle.c62_teach.proofs.Listed.{any_mapped}
use Rattle.c62_teach.proofs.words.asks_strict.Goals as goal

pub returns : goal.returns
returns c = c.has_strict.ensures
    ∙ any_mapped (λ text. bytes_eq text (codes "--strict")) (string_bytes {Z = Global}) c.args.words.now
