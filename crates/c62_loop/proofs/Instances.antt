-- Instances of an instruction: early ones, those of passes, and late ones.
use Rattle.std.proofs.Common.{◌≡◌, ℕ, suc, ◌+◌, ◌-◌, ◌<◌, ◌≤◌, length, get_or, arith}
use Rattle.std.proofs.lemmas.Bool.{cond-true, lt-ltb}
use Rattle.c62_meaning.specs.Cut.{moved}
use Rattle.c62_loop.specs.Stage.{Stage, cycles_in, instance_of}
use Rattle.std.proofs.lemmas.Bool.Decides.{nat_tests}

module _ (interval : ℕ) (stage : Stage) where
  pub instance_early : (n t : ℕ) → t < length stage.early
      → instance_of interval n t stage ≡ get_or stage.early t stage.kernel
  instance_early n t l = cond-true _ _ _ (lt-ltb t (length stage.early) l)

  pub instance_pass : (n t : ℕ) → length stage.early ≤ t → t < length stage.early + n
      → instance_of interval n t stage ≡ moved (cycles_in interval (t - length stage.early)) stage.kernel
  instance_pass n t l u = grind arith

  pub instance_late : (n t : ℕ) → length stage.early + n ≤ t
      → instance_of interval n t stage ≡ moved (cycles_in interval n)
      (get_or stage.late (t - (length stage.early + n)) stage.kernel)
  instance_late n t l = grind arith

  abbrev held : ℕ
  held = length stage.early

  -- with a pass more an instance stays, but for those behind the last pass
  pub instance_stays : (passes t : ℕ) → t < held + passes
      → instance_of interval (suc passes) t stage ≡ instance_of interval passes t stage
  instance_stays passes t l = grind (arith, nat_tests)

  -- one that is not early comes a round later, and so many cycles
  pub instance_comes : (passes t : ℕ) → held ≤ t
      → (instance_of interval (suc passes) (suc t) stage).cycle ≡
      (instance_of interval passes t stage).cycle + interval
  instance_comes passes t l = grind (arith, nat_tests)
