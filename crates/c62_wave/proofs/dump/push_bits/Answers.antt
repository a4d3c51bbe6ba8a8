use Rattle.std.proofs.Common.{◌∙◌, ◌++◌, ◌∷◌, [], ◌+◌, ◌-◌, ◌/◌, ◌%◌, ◌^◌, ◌<◌, ap, sym, append_assoc, arith}
use Rattle.c62_wave.specs.Value.{bits}
use Rattle.c62_wave.proofs.Texts.{first_bit}
use Rattle.c62_wave.proofs.dump.push_bits.Goals as goal

pub loop-left-preserved : goal.loop-left-preserved
loop-left-preserved c =
    let some : 0 < c.loop-left.left = omega arith in (
      omega arith,
      ap (λ xs. xs ++ bits (c.loop-left.left - 1) c.args.number) c.in_ok-push.ensures.items
          ∙ append_assoc c.loop-left.out.items ((48 + c.args.number / 2 ^ (c.loop-left.left - 1) % 2) ∷ [])
          (bits (c.loop-left.left - 1) c.args.number)
          ∙ ap (λ xs. c.loop-left.out.items ++ xs) (sym (first_bit c.loop-left.left c.args.number some))
          ∙ c.loop-left.invariant.1,
    )
