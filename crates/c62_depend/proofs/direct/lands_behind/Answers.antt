use Rattle.c62_depend.proofs.Common.{◌≡◌, arith, ints, sym, ap, ◌∙◌, ℤ, pos, ◌+ℤ◌, insns_in, delay_at}
use Rattle.std.specs.Prelude.{FitsSigned, int_le}
use Rattle.std.proofs.Common.{rules, w8, w32, to_z, of_z}
use Rattle.std.proofs.lemmas.Int.{to_z-of_z}
use Rattle.c62_depend.proofs.Linked.{delay_is}
use Rattle.c62_depend.proofs.direct.lands_behind.Goals as goal

pub returns : goal.returns
returns c =
    let small : FitsSigned w8 c.args.link.latency = search rules in
    let first : FitsSigned w32 c.from.result = search rules in
    let second : FitsSigned w32 c.from-2.result = search rules in
    let third : FitsSigned w32 c.from-3.result = search rules in
    let sum : FitsSigned w32 (c.from-2.result +ℤ c.from-3.result) = search rules in
    rw (
      to_z-of_z w32 c.from.result first,
      to_z-of_z w32 c.from-2.result second,
      to_z-of_z w32 c.from-3.result third,
      to_z-of_z w32 (c.from-2.result +ℤ c.from-3.result) sum,
      c.from.ensures,
      c.from-2.ensures,
      c.from-3.ensures,
      to_z-of_z w8 c.args.link.latency small,
    )
    (ap (λ n. int_le (pos c.args.first.now.delay) (c.args.link.latency +ℤ pos n))
    (sym (delay_is c.args.uses.now c.args.link.number c.index-uses-link.result c.requires.within c.index-uses-link.is)))
