-- No trip is shorter than what is asked of each.
use Rattle.std.proofs.Common.{arith, ℕ, ◌≤◌, List, sym, subst}
use Rattle.c62_op.specs.declared.register.Reg.{Reg}
use Rattle.c62_read.specs.declared.block.SerialInsn.{SerialInsn}
use Rattle.c62_loop.specs.Counter.{work_of}
use Rattle.c62_loop.specs.Loop.{Region, interval}
use Rattle.c62_loop.specs.Whole.{insns_in}
use Rattle.c62_loop_match.specs.declared.promise.Promise.{Promise}
use Rattle.c62_loop_match.specs.Promise.{promises}
use Rattle.c62_loop_bound.specs.Least.{body_of, IsAsked}
use Rattle.c62_loop_bound.proofs.Shorter.{none_shorter}
use Rattle.c62_modulo.specs.Made.{NoneIsShorter}

pub none_is_shorter : (promise : Promise) (region : Region) (least cycles : ℕ)
    → IsAsked (promises promise) region.counter (body_of region) least → cycles ≤ least
    → NoneIsShorter promise region.counter region.body cycles
none_is_shorter promise region least cycles asked few other counter body loop most decided rows =
    let one = subst (λ (reg : Reg). IsAsked (promises promise) reg (insns_in (work_of reg region.body)) least)
    (sym counter) asked in
    let two = subst (λ (entries : List SerialInsn). IsAsked (promises promise) other.counter
    (insns_in (work_of other.counter entries)) least) (sym body) one in
    let below : least ≤ interval loop = none_shorter promise other least two loop most decided rows in
    omega (arith, few, below)
