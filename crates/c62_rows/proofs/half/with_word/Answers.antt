use Rattle.std.proofs.Common.{rules, ℤ, ap, sym, ◌∙◌, w64, FitsSigned}
use Rattle.std.proofs.lemmas.Int.{to_z-of_z}
use Rattle.std.specs.Option.{option_copied}
use Rattle.c62_line.specs.Line.{parts_of}
use Rattle.c62_rows.specs.Word.{with_half, with_word}
use Rattle.c62_rows.proofs.half.with_word.Goals as goal

pub returns-in-Some : goal.returns-in-Some
returns-in-Some c =
    let fits : FitsSigned w64 c.word_of.result = search rules in
    c.with_half.ensures ∙ ap (λ (k : ℤ). with_half k (parts_of c.args.insn)) (to_z-of_z w64 c.word_of.result fits
    ∙ c.word_of.ensures)
    ∙ ap (λ w. with_word (option_copied w) c.args.labels.now.entries (parts_of c.args.insn)) (sym c.in-Some.is)
