-- Each line has one instruction.
use Rattle.std.proofs.Common.{◌≡◌, ◌+◌, ◌≤◌, List, [], ◌∷◌, length, Option, sym, ◌∙◌, ap, ◌⊎◌, inl, inr, arith}
use Rattle.c62_line.specs.Line.{Says, Nothing, Pause, Does, Jumps}
use Rattle.c62_adopt_line.specs.Line.{Line}
use Rattle.c62_adopt_cut.specs.Cut.{stand_of}
use Rattle.c62_adopt_cut.specs.Home.{Home, home_in, home_said, homes_in, label_in}
use Rattle.c62_meaning.proofs.Lookup.{In, In-append_cases}
use Rattle.c62_read.specs.Program.{Name}

-- ---- each line has one instruction

own_line : (above : List Line) (line : Line) (h : Home) → In h (home_in above line) → h.issue.line ≡ length above + 1
own_line above line h there = by (label_in (stand_of above line).start (line ∷ above)) line.says there
  where
    by : (label : Option Name) (says : Says) → In h (home_said (length above + 1) (stand_of above line) label says)
        → h.issue.line ≡ length above + 1
    by label Nothing there = absurd there
    by label (Pause n) there = absurd there
    by label (Does parts) (inl e) = ap (λ (k : Home). k.issue.line) (sym e)
    by label (Does parts) (inr none) = absurd none
    by label (Jumps parts target) (inl e) = ap (λ (k : Home). k.issue.line) (sym e)
    by label (Jumps parts target) (inr none) = absurd none

pub line_bound : (lines : List Line) (h : Home) → In h (homes_in lines) → h.issue.line ≤ length lines
line_bound [] h there = absurd there
line_bound (line ∷ above) h there = elim (In-append_cases h (homes_in above) (home_in above line) there) [
  | inl old ↦ (let l = line_bound above h old in omega (arith, l))
  | inr own ↦ (let e = own_line above line h own in omega (arith, e))
]

one_own : (above : List Line) (line : Line) (h k : Home) → In h (home_in above line) → In k (home_in above line) → h ≡ k
one_own above line h k there other = by (label_in (stand_of above line).start (line ∷ above)) line.says there other
  where
    by : (label : Option Name) (says : Says) → In h (home_said (length above + 1) (stand_of above line) label says)
        → In k (home_said (length above + 1) (stand_of above line) label says) → h ≡ k
    by label Nothing there other = absurd there
    by label (Pause n) there other = absurd there
    by label (Does parts) (inl e) (inl f) = sym e ∙ f
    by label (Does parts) (inl e) (inr none) = absurd none
    by label (Does parts) (inr none) other = absurd none
    by label (Jumps parts target) (inl e) (inl f) = sym e ∙ f
    by label (Jumps parts target) (inl e) (inr none) = absurd none
    by label (Jumps parts target) (inr none) other = absurd none

pub one_home : (lines : List Line) (h k : Home) → In h (homes_in lines) → In k (homes_in lines)
    → h.issue.line ≡ k.issue.line → h ≡ k
one_home [] h k there other same = absurd there
one_home (line ∷ above) h k there other same =
    by (λ a b. one_home above h k a b same) (In-append_cases h (homes_in above) (home_in above line) there)
    (In-append_cases k (homes_in above) (home_in above line) other)
  where
    by : (In h (homes_in above) → In k (homes_in above) → h ≡ k) → In h (homes_in above) ⊎ In h (home_in above line)
        → In k (homes_in above) ⊎ In k (home_in above line) → h ≡ k
    by rest (inl a) (inl b) = rest a b
    by rest (inl a) (inr b) = absurd
        (let l = line_bound above h a in let e = own_line above line k b in omega (arith, l, e, same))
    by rest (inr a) (inl b) = absurd
        (let l = line_bound above k b in let e = own_line above line h a in omega (arith, l, e, same))
    by rest (inr a) (inr b) = one_own above line h k a b
