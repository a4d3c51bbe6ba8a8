use Rattle.std.proofs.Common.{sym, subst}
use Rattle.std.specs.Str.{IsUtf8}
use Rattle.c62_listing.proofs.LabelLemmas.{label-utf8}
use Rattle.c62_listing.proofs.writer.label_text.Goals as goal

pub unreachable-requires : goal.unreachable-requires
unreachable-requires c = c.in-Err.ensures.cases.0
    (subst IsUtf8 (sym c.as_bytes.ensures.same) (label-utf8 c.args.label.now c.as_bytes.ensures.label))
