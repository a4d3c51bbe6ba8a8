-- What is taken of a text, line by line.
use Rattle.std.proofs.Common.{◌≡◌, ◌<◌, ◌+◌, ◌∙◌, ◌++◌, ◌∷◌, [], ℕ, Bool, List, Result, Ok, Err, length, take, inl, ap}
use Rattle.std.proofs.Common.{sym, append_assoc, append-nil}
use Rattle.std.specs.Prelude.{MatchResult}
use Rattle.c62_adopt_cut.specs.Text.{most_bytes}
use Rattle.c62_reach.specs.declared.fault.ReachFault.{ReachFault}
use Rattle.c62_reach.specs.declared.fault.ReachFault.TheVariants.{Memory}
use Rattle.c62_reach.specs.Ended.{ended_lines}
use Rattle.c62_reach.specs.Taken.{IsTaken, Lacks, behind_first, below_at, first_of, here_at, line_taken, taken_below}
use Rattle.c62_op.specs.declared.set.InstructionSet.{InstructionSet}

pub line_more : (here : Bool) (below : List Bool) (front line : List ℕ) (lines spelled : List (List ℕ))
    → (front ++ line_taken (here_at (first_of spelled) here below) (first_of spelled) line)
    ++ taken_below (here_at (first_of spelled) here below) (below_at (first_of spelled) below) lines
    (behind_first spelled)
    ≡ front ++ taken_below here below (line ∷ lines) spelled
unfolding taken_below
line_more here below front line lines spelled =
    append_assoc front (line_taken (here_at (first_of spelled) here below) (first_of spelled) line)
    (taken_below (here_at (first_of spelled) here below) (below_at (first_of spelled) below) lines
    (behind_first spelled))

-- a line more
pub taken_more : (here new_here : Bool) (below new_below : List Bool) (old new line spelled : List ℕ)
    (lines after others new_others : List (List ℕ))
    → new ≡ old ++ line_taken new_here spelled line → new_here ≡ here_at spelled here below
    → new_below ≡ below_at spelled below → spelled ≡ first_of others
    → new_others ≡ behind_first others → lines ≡ line ∷ after
    → new ++ taken_below new_here new_below after new_others ≡ old ++ taken_below here below lines others
taken_more here new_here below new_below old new line spelled lines after others new_others added here_is below_is
    spelled_is others_is lines_is =
    rw (added, here_is, below_is, spelled_is, others_is, lines_is) (line_more here below old line after others)

-- where none is left
pub taken_whole : (here : Bool) (below : List Bool) (old rest whole : List ℕ) (others : List (List ℕ)) → rest ≡ []
    → old ++ taken_below here below (ended_lines rest) others ≡ whole → old ≡ whole
unfolding taken_below
taken_whole here below old rest whole others none all =
    sym (append-nil old) ∙ ap (λ (r : List ℕ). old ++ taken_below here below (ended_lines r) others) (sym none) ∙ all

-- ---- a text that is too long

pub taken_long : (isa : InstructionSet) {X : Type 0} (items : X → List ℕ) (name text : List ℕ)
    (result : Result X ReachFault)
    → most_bytes < length text
    → MatchResult result (λ other. items other ≡ take (most_bytes + 1) text) (λ fault. fault ≡ Memory)
    → MatchResult result (λ other. IsTaken isa name text (items other)) (Lacks isa name text)
taken_long isa items name text (Ok other) long own = inl (record { long = long; own = own })
taken_long isa items name text (Err fault) long memory = rw memory tt
