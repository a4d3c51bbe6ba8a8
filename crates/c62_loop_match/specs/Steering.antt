-- How the steps and branches of prolog and kernel count the passes (docs/CHECK.md, "Pipelined loops").
use Rattle.std.specs.Prelude.{◌≡◌, ◌⊎◌, ℕ, suc, ◌+◌, ◌≤◌, Bool, ◌||◌, List, [], ◌∷◌, map, IsTrue, IsFalse}
use Rattle.c62_op.specs.declared.register.Reg.{Reg}
use Rattle.c62_packet.specs.declared.placed.Placed.{Placed}
use Rattle.c62_meaning.specs.Cut.{moved}
use Rattle.c62_loop.specs.Counter.{size_of, steps_on}
use Rattle.c62_loop.specs.Whole.{Control, entry_of, AreInTurn, StandInTurn}
use Rattle.c62_loop_match.specs.declared.steering.Count.{Count}
use Rattle.c62_loop_match.specs.declared.steering.Rule.{Rule}
use Rattle.c62_loop_match.specs.Form.{is_step, is_test, stops}

abbrev pub is_control : Reg → ℕ → Placed → Bool
is_control counter label p = is_step counter p.insn || is_test counter label p.insn

-- ---- counting

-- A step lowers the counter; it finds as much as it takes where one pass is to be made, or stops at zero. A branch ends the next
-- pass, and the steps before it have lowered the counter by the iterations that prolog and epilog hold, and by one for each pass up to it.
pub data CountsOne (rule : Rule) (count : Count) (p : Placed) (next : Count) : Type 0 where
  Lowers : IsTrue (steps_on rule.counter (entry_of p)) → (count.steps + size_of (entry_of p) ≤ rule.most + 1) ⊎ IsTrue (stops rule.counter p.insn)
      → next.steps ≡ count.steps + size_of (entry_of p) → next.pass ≡ count.pass → next.end ≡ count.end → CountsOne rule count p next
  Ends : IsFalse (steps_on rule.counter (entry_of p)) → p.cycle + 6 ≡ count.end → count.steps ≡ rule.most + suc count.pass
      → next.steps ≡ count.steps → next.pass ≡ suc count.pass → next.end ≡ count.end + rule.interval → CountsOne rule count p next

-- so do these, one behind the other
abbrev pub CountsAll : Rule → Count → List Placed → Count → Type 0
CountsAll rule count [] last = last ≡ count
CountsAll rule count (p ∷ placed) last = (next : Count) × CountsOne rule count p next × CountsAll rule next placed last

-- From the end of the prolog, and no pass, the prolog's count, and then the kernel's, which lower the counter by one more and end
-- one pass more.
pub record CountPasses (rule : Rule) (prolog : ℕ) (control : Control) : Type 0 where
  pub first : Count
  pub early : Count
  pub last : Count
  pub no_steps : first.steps ≡ 0
  pub no_pass : first.pass ≡ 0
  pub end : first.end ≡ prolog + rule.interval
  pub of_prolog : CountsAll rule first control.early early
  pub of_kernel : CountsAll rule early control.kernel last
  pub enough : rule.most ≤ early.steps
  pub one_step : last.steps ≡ early.steps + 1
  pub one_pass : last.pass ≡ early.pass + 1

-- ---- turns

pub record ComeInTurn (counter : Reg) (interval : ℕ) (control : Control) : Type 0 where
  pub early : StandInTurn counter control.early
  pub kernel : StandInTurn counter control.kernel
  pub seam : AreInTurn counter control.early (map (moved 0) control.kernel)
  pub next : AreInTurn counter control.kernel (map (moved interval) control.kernel)
