use Rattle.c62_read.proofs.Common.{length, lt-ltb, refl, ap, inr, ◌∙◌, map, block_parts, Drafts}
use Rattle.std.proofs.lemmas.Result.{err_from_is_err_and}
use Rattle.c62_read.proofs.ProgramLaws.{targets_read}
use Rattle.c62_read.proofs.WalkLemmas.{program_by, program_read, program_refused}
use Rattle.c62_read.proofs.program.read_program.Goals as goal
use Rattle.c62_read.specs.declared.limits.TheConstants.{MOST_BYTES}

pub returns-then-text-gt-MOST_BYTES-clause-err : goal.returns-then-text-gt-MOST_BYTES-clause-err
returns-then-text-gt-MOST_BYTES-clause-err c =
    inr (rw (
      c.at.ensures,
      program_by c.args.isa c.args.text.now,
      lt-ltb MOST_BYTES (length c.args.text.now)
          c.if-text-gt-MOST_BYTES.true,
    ) refl)

pub returns-in_err-reader-clause-err : goal.returns-in_err-reader-clause-err
returns-in_err-reader-clause-err c =
    let p = err_from_is_err_and c.from_residual.result c.from_residual.ensures.1 in
    rw (p.1, p.2) (program_refused c.args.isa c.args.text.now c.if-text-gt-MOST_BYTES.false c.in_err-reader.field-0.0
    c.in_err-reader.ensures.err)

pub returns-clause-ok : goal.returns-clause-ok
returns-clause-ok c =
    program_read c.args.isa _ c.if-text-gt-MOST_BYTES.false _ c.in_ok-reader.ensures.ok _
    (ap (λ (d : Drafts). d.done) c.in_ok-end_block.ensures) _
    (ap (map block_parts) c.new.ensures ∙ c.in_ok-all_blocks.ensures.made)

pub new-requires-clause-targets : goal.new-requires-clause-targets
new-requires-clause-targets c =
    targets_read c.args.isa c.args.text.now _
    (program_read c.args.isa _ c.if-text-gt-MOST_BYTES.false _ c.in_ok-reader.ensures.ok _
    (ap (λ (d : Drafts). d.done) c.in_ok-end_block.ensures) _
    c.in_ok-all_blocks.ensures.made)
