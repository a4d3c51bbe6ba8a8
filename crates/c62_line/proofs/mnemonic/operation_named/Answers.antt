use Rattle.c62_line.proofs.Common.{refl, sym, ◌∙◌, arith, nil_from_length}
use Rattle.c62_line.specs.Mnemonic.{operation_named}
use Rattle.c62_line.proofs.NameLemmas.{named_by, named_in_capitals}
use Rattle.c62_line.proofs.mnemonic.operation_named.Goals as goal

pub returns-in-empty : goal.returns-in-empty
unfolding operation_named
returns-in-empty c = rw (nil_from_length c.args.name.now (omega (arith, c.in-empty.len_below))) refl

pub returns-in-Some : goal.returns-in-Some
returns-in-Some c = sym (named_in_capitals c.of_length.result.now c.args.name.now c.in-Some.op (sym c.in-Some.ensures))

pub returns-in-None : goal.returns-in-None
returns-in-None c =
    c.named_among.ensures
    ∙ named_by c.beginning_with.result.now c.args.name.now c.to_ascii_lowercase.result
    (omega (arith, c.in-len1-up.len_at_least))
    c.to_ascii_lowercase.ensures.value c.beginning_with.ensures
