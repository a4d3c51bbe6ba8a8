use Rattle.c62_explain_packets.proofs.RemarkLemmas.{lints_listing}
use Rattle.c62_explain_packets.proofs.linted.lint_listing.Goals as goal

pub returns-clause-linted : goal.returns-clause-linted
returns-clause-linted c =
    lints_listing c.args.isa _ _ _ c.in_ok-remarks.remarks c.in_ok-remarks.ensures c.in_ok-lines.ensures
