-- Branches that take effect at the end of no pass (docs/CHECK.md, "How it is decided").
use Rattle.std.specs.Prelude.{◌≡◌, ℕ, ◌+◌, ◌*◌, List, Contains, IsTrue}
use Rattle.c62_packet.specs.declared.placed.Placed.{Placed}
use Rattle.c62_loop_match.specs.declared.steering.Rule.{Rule}
use Rattle.c62_loop_match.specs.Form.{is_test}

-- it branches to the label of this number while the counter isn't 0, and takes effect at the end of no pass, where the first begins in this cycle
pub record GoesAstray (rule : Rule) (begin label : ℕ) (p : Placed) : Type 0 where
  pub tests : IsTrue (is_test rule.counter label p.insn)
  pub ends : (pass : ℕ) → p.cycle + 6 ≡ begin + rule.interval * (pass + 1) → ⊥

-- some of these on this line does
pub record HoldsAstray (rule : Rule) (begin label : ℕ) (placed : List Placed) (line : ℕ) : Type 0 where
  pub branch : Placed
  pub among : Contains placed branch
  pub goes : GoesAstray rule begin label branch
  pub line_is : line ≡ branch.line
