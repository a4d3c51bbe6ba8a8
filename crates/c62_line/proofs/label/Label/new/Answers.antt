use Rattle.c62_line.proofs.Common.{arith}
use Rattle.std.proofs.lemmas.Grind.{common_steps}
use Rattle.c62_token.proofs.NumberLemmas.{label_few}
use Rattle.c62_line.proofs.label.Label.new.Goals as goal

pub slice_bounds-copy_from_slice-end : goal.slice_bounds-copy_from_slice-end
slice_bounds-copy_from_slice-end c = grind (arith, common_steps, label_few c.args.word.now)

pub copy_from_slice-requires : goal.copy_from_slice-requires
copy_from_slice-requires c = grind (arith, common_steps, label_few c.args.word.now)

pub slice_bounds-bytes-end : goal.slice_bounds-bytes-end
slice_bounds-bytes-end c = label_few c.args.word.now c.requires
