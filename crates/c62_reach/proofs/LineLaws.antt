-- Each line of what is taken is that of the text, or empty.
use Rattle.std.proofs.Common.{◌≡◌, ◌⊎◌, ◌∙◌, ℕ, Bool, true, false, List, [], ◌∷◌, ◌++◌, refl, sym, ap, subst, inl, inr}
use Rattle.std.proofs.Common.{arith, append_assoc, append-nil, cond, eqb, ◌||◌, drop}
use Rattle.std.specs.Prelude.{codes, slice_index_or}
use Rattle.std.specs.List.{list_any}
use Rattle.std.proofs.lemmas.Bool.Decides.{nat_tests}
use Rattle.std.proofs.lemmas.Bool.{eqb-true}
use Rattle.c62_read.specs.Text.{is_line_feed}
use Rattle.c62_token.specs.Token.{grow}
use Rattle.c62_reach.specs.Ended.{ended_lines}
use Rattle.c62_reach.specs.Laws.{KeepsLines, StandFor}
use Rattle.c62_reach.specs.Taken.{behind_first, below_at, first_of, here_at, line_taken, stays, taken_below}
use Rattle.c62_reach.proofs.Lines.{at_end, before_feed}
use Rattle.c62_op.specs.declared.set.InstructionSet.{InstructionSet}

-- ---- lines with their ends

-- a line ends in a line feed, the only one
record IsFed (line : List ℕ) : Type 0 where
  front : List ℕ
  none : list_any is_line_feed front ≡ false
  split : line ≡ front ++ 10 ∷ []

-- the last one may have none
record IsOpenEnded (line : List ℕ) : Type 0 where
  first : ℕ
  rest : List ℕ
  none : list_any is_line_feed (first ∷ rest) ≡ false
  split : line ≡ first ∷ rest

abbrev AreEnded : List (List ℕ) → Type 0
AreEnded [] = Unit {0}
AreEnded (line ∷ []) = IsFed line ⊎ IsOpenEnded line
AreEnded (line ∷ other ∷ lines) = IsFed line × AreEnded (other ∷ lines)

feed : IsFed (10 ∷ [])
feed = record { front = []; none = refl; split = refl }

fed_more : (b : ℕ) (line : List ℕ) → eqb b 10 ≡ false → IsFed line → IsFed (b ∷ line)
fed_more b line other is = record {
  front = b ∷ is.front;
  none = grind (arith, nat_tests, other, is.none);
  split = ap (λ (l : List ℕ). b ∷ l)
      is.split;
}

with_feed : (lines : List (List ℕ)) → AreEnded lines → AreEnded ((10 ∷ []) ∷ lines)
with_feed [] are = inl feed
with_feed (line ∷ lines) are = (feed, are)

with_byte : (b : ℕ) (lines : List (List ℕ)) → eqb b 10 ≡ false → AreEnded lines → AreEnded (grow b lines)
with_byte b [] other are = inr (record { first = b; rest = []; none = grind (arith, nat_tests, other); split = refl })
with_byte b (line ∷ []) other (inl fed) = inl (fed_more b line other fed)
with_byte b (line ∷ []) other (inr last) =
    inr (record { first = b; rest = line; none = rw (last.split, other) last.none; split = refl })
with_byte b (line ∷ next ∷ lines) other are = (fed_more b line other are.0, are.1)

one_more : (b : ℕ) (lines : List (List ℕ)) (same : Bool) → eqb b 10 ≡ same → AreEnded lines
    → AreEnded (cond same ((b ∷ []) ∷ lines) (grow b lines))
one_more b lines true same are = subst (λ (c : ℕ). AreEnded ((c ∷ []) ∷ lines)) (sym (eqb-true b 10 same))
    (with_feed lines are)
one_more b lines false other are = with_byte b lines other are

are_ended : (text : List ℕ) → AreEnded (ended_lines text)
are_ended [] = tt
are_ended (b ∷ rest) = one_more b (ended_lines rest) (eqb b 10) refl (are_ended rest)

-- ---- what is taken of them

fed_first : (line rest : List ℕ) → IsFed line → ended_lines (line ++ rest) ≡ line ∷ ended_lines rest
fed_first line rest is =
    rw is.split (ap ended_lines (append_assoc is.front (10 ∷ []) rest) ∙ before_feed is.front rest is.none)

last_first : (line : List ℕ) → IsFed line ⊎ IsOpenEnded line → ended_lines (line ++ []) ≡ line ∷ []
last_first line (inl fed) = fed_first line [] fed
last_first line (inr last) = rw last.split (ap ended_lines (append-nil (last.first ∷ last.rest))
    ∙ at_end last.first last.rest last.none)

-- whichever stands there
one_stands : (here : Bool) (spelled line rest : List ℕ) (others : List (List ℕ))
    → ended_lines (line ++ rest) ≡ line ∷ ended_lines rest
    → StandFor others (ended_lines rest) → StandFor (line ∷ others) (ended_lines (line_taken here spelled line ++ rest))
one_stands here spelled line rest others first stand = at (here || stays spelled)
  where
    at : (b : Bool) → StandFor (line ∷ others) (ended_lines (cond b line (codes "\n") ++ rest))
    at true = subst (StandFor (line ∷ others)) (sym first) (inl refl, stand)
    at false = (inr refl, stand)

all_stand : (here : Bool) (below : List Bool) (lines spelled : List (List ℕ)) → AreEnded lines
    → StandFor lines (ended_lines (taken_below here below lines spelled))
unfolding taken_below
all_stand here below [] spelled are = tt
all_stand here below (line ∷ []) spelled are =
    one_stands (here_at (first_of spelled) here below) (first_of spelled) line [] [] (last_first line are) tt
all_stand here below (line ∷ other ∷ lines) spelled are =
    let rest = taken_below (here_at (first_of spelled) here below) (below_at (first_of spelled) below) (other ∷ lines)
    (behind_first spelled) in
    one_stands (here_at (first_of spelled) here below) (first_of spelled) line rest (other ∷ lines)
    (fed_first line rest are.0)
    (all_stand (here_at (first_of spelled) here below) (below_at (first_of spelled) below) (other ∷ lines)
    (behind_first spelled) are.1)

pub keeps_lines : (isa : InstructionSet) (name text other : List ℕ) → KeepsLines isa name text other
keeps_lines isa name text other is =
    subst (λ (o : List ℕ). StandFor (ended_lines text) (ended_lines o)) (sym is.taken)
    (all_stand (slice_index_or is.marks 0 false) (drop 1 is.marks) (ended_lines text) _ (are_ended text))
