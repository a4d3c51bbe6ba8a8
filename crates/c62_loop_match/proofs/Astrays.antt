-- Branches that go astray, in one list and in two.
use Rattle.std.proofs.Common.{ℕ, List, ◌++◌, Option, Some, None}
use Rattle.std.specs.Prelude.{IfSome}
use Rattle.std.proofs.lemmas.List.Elements.{Contains-append_left, Contains-append_right}
use Rattle.c62_packet.specs.declared.placed.Placed.{Placed}
use Rattle.c62_loop_match.specs.declared.steering.Rule.{Rule}
use Rattle.c62_loop_match.specs.Astray.{HoldsAstray}

pub left : (rule : Rule) (begin label : ℕ) (early kernel : List Placed) (line : ℕ)
    → HoldsAstray rule begin label early line → HoldsAstray rule begin label (early ++ kernel) line
left rule begin label early kernel line found = record {
  branch = found.branch;
  among = Contains-append_left early kernel found.branch found.among;
  goes = found.goes;
  line_is = found.line_is;
}

pub right : (rule : Rule) (begin label : ℕ) (early kernel : List Placed) (found : Option ℕ)
    → IfSome found (HoldsAstray rule begin label kernel)
    → IfSome found (HoldsAstray rule begin label (early ++ kernel))
right rule begin label early kernel None found = tt
right rule begin label early kernel (Some line) found = record {
  branch = found.branch;
  among = Contains-append_right early kernel found.branch found.among;
  goes = found.goes;
  line_is = found.line_is;
}
