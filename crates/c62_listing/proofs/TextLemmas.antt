-- Texts of lines.
use Rattle.std.proofs.Common.{arith, ◌≡◌, ℕ, ◌-◌, ◌<◌, ◌≤◌, List, [], ◌∷◌, ◌++◌, true, false, ap, ◌∙◌, append-nil}
use Rattle.std.specs.Prelude.{nat_lt, codes}
use Rattle.std.proofs.lemmas.Bool.Decides.{nat_tests}
use Rattle.std.proofs.lemmas.Grind.{flat_map-append}
use Rattle.c62_insn.specs.Spelling.{spelling}
use Rattle.c62_packet.specs.declared.placed.Placed.{Placed}
use Rattle.c62_listing.specs.Listing.{idle_lines, whole_line, placed_lines, text_of}

-- a line behind others
pub text_of-last : (lines : List (List ℕ)) (line : List ℕ)
    → text_of (lines ++ line ∷ []) ≡ text_of lines ++ (line ++ codes "\n")
text_of-last lines line =
    flat_map-append (λ (one : List ℕ). one ++ codes "\n") lines (line ∷ [])
    ∙ ap (λ (rest : List ℕ). text_of lines ++ rest) (append-nil (line ++ codes "\n"))

pub beside_text : (name : ℕ → List ℕ) (next : ℕ) (p : Placed) → p.cycle < next
    → text_of (placed_lines name next p) ≡ whole_line name (codes "|| ") p
beside_text name next p lt =
    let test : nat_lt p.cycle next ≡ true = grind (arith, nat_tests) in
    rw test (append-nil (whole_line name (codes "|| ") p))

pub first_text : (name : ℕ → List ℕ) (next : ℕ) (p : Placed) → next ≤ p.cycle
    → text_of (placed_lines name next p) ≡ text_of (idle_lines (p.cycle - next)) ++ whole_line name (codes "   ") p
first_text name next p le =
    let test : nat_lt p.cycle next ≡ false = grind (arith, nat_tests) in
    rw test (text_of-last (idle_lines (p.cycle - next)) (codes "   " ++ spelling name p.insn p.unit))
