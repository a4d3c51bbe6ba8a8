-- The faulted lines of a run: those that were, and those of instructions whose accesses fault.
use Rattle.std.proofs.Common.{◌≡◌, ℕ, zero, suc, ◌<◌, Bool, true, false, List, [], ◌∷◌, refl, sym, ◌∙◌, subst, ◌⊎◌, inl}
use Rattle.std.proofs.Common.{inr, arith}
use Rattle.std.specs.Prelude.{◌↔◌, Contains, fold}
use Rattle.std.specs.List.Sorted.{IsStrictlyIncreasing}
use Rattle.std.proofs.lemmas.Bool.{cases_eq, false≢true, cond_both}
use Rattle.c62_serial.specs.Effect.{Act, is_fault}
use Rattle.c62_serial.specs.Faults.{after_fault}
use Rattle.c62_serial.proofs.FaultLemmas.{joined_rises, joined_holds}
use Rattle.c62_packet.specs.declared.placed.Placed.{Placed}
use Rattle.c62_meaning.specs.Packet.{Did}
use Rattle.c62_meaning.specs.Meaning.{HasFaulted}
use Rattle.c62_meaning.proofs.Lookup.{In, In_from_Contains, Contains_from_In}
use Rattle.c62_meaning.proofs.SameRuns.{Numbered, machine_at, serial_act, IsBlock}
use Rattle.c62_meaning.proofs.Ends.{AllStand, AllAgree}

-- ---- one more line

line_into : (lines : List ℕ) (line : ℕ) (fault : Bool) (other : ℕ) → Contains (after_fault lines line fault) other
    → ((fault ≡ true) × (line ≡ other)) ⊎ Contains lines other
line_into lines line true other c = grind (arith, joined_holds lines line other)
line_into lines line false other c = inr c

line_out : (lines : List ℕ) (line : ℕ) (fault : Bool) (other : ℕ) → ((fault ≡ true) × (line ≡ other))
    ⊎ Contains lines other
    → Contains (after_fault lines line fault) other
line_out lines line true other (inl e) = (joined_holds lines line other).1 (inl (sym e.1))
line_out lines line true other (inr r) = (joined_holds lines line other).1 (inr r)
line_out lines line false other (inl e) = absurd (false≢true e.0)
line_out lines line false other (inr r) = r

-- ---- the serial run

abbrev pub FaultedBelow : Numbered → ℕ → ℕ → Type 0
FaultedBelow b i line = (j : ℕ) × (j < i) × ((b.entry j).line ≡ line) × (is_fault (serial_act b j).access ≡ true)

serial_into : (b : Numbered) (i line : ℕ) → Contains (machine_at b i).faults line → Contains b.opening.faults line
    ⊎ FaultedBelow b i line
serial_into b zero line c = inl c
serial_into b (suc i) line c =
    elim (line_into (machine_at b i).faults (b.entry i).line (is_fault (serial_act b i).access) line c) [
      | inl e ↦ inr (i, omega arith, e.1, e.0)
      | inr r ↦ elim (serial_into b i line r) [
        | inl q ↦ inl q
        | inr q ↦ (let l : q.0 < i = q.1 in inr (q.0, omega arith, q.2, q.3))
      ]
    ]

serial_out : (b : Numbered) (i line : ℕ) → Contains b.opening.faults line ⊎ FaultedBelow b i line
    → Contains (machine_at b i).faults line
serial_out b zero line (inl c) = c
serial_out b zero line (inr q) = let l : q.0 < 0 = q.1 in absurd (omega arith)
serial_out b (suc i) line (inl c) =
    line_out (machine_at b i).faults (b.entry i).line (is_fault (serial_act b i).access) line
    (inr (serial_out b i line (inl c)))
serial_out b (suc i) line (inr (j, l, e, f)) =
    elim (cases_eq j i) [
      | inl s ↦ line_out (machine_at b i).faults (b.entry i).line (is_fault (serial_act b i).access) line
          (inl (subst (λ k. is_fault (serial_act b k).access ≡ true) s f, subst (λ k. (b.entry k).line ≡ line) s e))
      | inr ne ↦ (let m : j < i = omega arith in
          line_out (machine_at b i).faults (b.entry i).line (is_fault (serial_act b i).access) line
          (inr (serial_out b i line (inr (j, m, e, f)))))
    ]

pub faults_end : (block : List Placed) (b : Numbered) (did : Did) (line : ℕ) → IsBlock block b → AllStand b
    → AllAgree b did
    → Contains (machine_at b b.count).faults line ↔ (Contains b.opening.faults line ⊎ HasFaulted block did line)
faults_end block b did line is stand agree = (
  (λ c. elim (serial_into b b.count line c) [ inl q ↦ inl q | inr q ↦ inr (there q) ]),
  (λ h. serial_out b b.count line
      (elim h [
        | inl q ↦ inl q
        | inr q ↦ inr (here q (is.only q.placed (In_from_Contains q.placed block q.inside)))
      ])),
)
  where
    there : FaultedBelow b b.count line → HasFaulted block did line
    there (j, l, e, f) = record {
      placed = b.at j;
      inside = Contains_from_In (b.at j) block (is.all j l);
      of_line = sym (stand j l).line ∙ e;
      faults = subst (λ (a : Act). is_fault a.access ≡ true) (sym (agree j l)) f;
    }

    here : (h : HasFaulted block did line) → (i : ℕ) × (i < b.count) × (h.placed ≡ b.at i) → FaultedBelow b b.count line
    here h (i, l, e) = (
      i,
      l,
      (stand i l).line ∙ subst (λ (z : Placed). z.line ≡ line) e h.of_line,
      subst (λ (a : Act). is_fault a.access ≡ true) (agree i l)
          (subst (λ z. is_fault (did z).access ≡ true) e h.faults),
    )

-- ---- a list of lines made of a run

abbrev on_fault : Did → List ℕ → Placed → List ℕ
on_fault did lines p = after_fault lines p.line (is_fault (did p).access)

abbrev pub lines_after : Did → List ℕ → List Placed → List ℕ
lines_after did lines block = fold (on_fault did) lines block

abbrev FaultedIn : List Placed → Did → ℕ → Type 0
FaultedIn ps did line = (p : Placed) × In p ps × (p.line ≡ line) × (is_fault (did p).access ≡ true)

lines_into : (did : Did) (lines : List ℕ) (ps : List Placed) (line : ℕ) → Contains (lines_after did lines ps) line
    → Contains lines line ⊎ FaultedIn ps did line
lines_into did lines [] line c = inl c
lines_into did lines (p ∷ ps) line c =
    elim (lines_into did (on_fault did lines p) ps line c) [
      | inl q ↦ elim (line_into lines p.line (is_fault (did p).access) line q) [
        | inl e ↦ inr (p, inl refl, e.1, e.0)
        | inr r ↦ inl r
      ]
      | inr q ↦ inr (q.0, inr q.1, q.2, q.3)
    ]

lines_out : (did : Did) (lines : List ℕ) (ps : List Placed) (line : ℕ) → Contains lines line ⊎ FaultedIn ps did line
    → Contains (lines_after did lines ps) line
lines_out did lines [] line (inl c) = c
lines_out did lines [] line (inr q) = absurd q.1
lines_out did lines (p ∷ ps) line (inl c) = lines_out did (on_fault did lines p) ps line
    (inl (line_out lines p.line (is_fault (did p).access) line (inr c)))
lines_out did lines (p ∷ ps) line (inr (q, inl s, e, f)) =
    lines_out did (on_fault did lines p) ps line
    (inl (line_out lines p.line (is_fault (did p).access) line
    (inl (subst (λ z. is_fault (did z).access ≡ true) (sym s) f, subst (λ (z : Placed). z.line ≡ line) (sym s) e))))
lines_out did lines (p ∷ ps) line (inr (q, inr h, e, f)) = lines_out did (on_fault did lines p) ps line
    (inr (q, h, e, f))

pub lines_rise : (did : Did) (lines : List ℕ) (ps : List Placed) → IsStrictlyIncreasing lines
    → IsStrictlyIncreasing (lines_after did lines ps)
lines_rise did lines [] rises = rises
lines_rise did lines (p ∷ ps) rises =
    lines_rise did (on_fault did lines p) ps
    (cond_both (is_fault (did p).access) _ lines IsStrictlyIncreasing (λ _. joined_rises p.line lines rises)
    (λ _. rises))

pub lines_hold : (did : Did) (lines : List ℕ) (block : List Placed) (line : ℕ)
    → Contains (lines_after did lines block) line ↔ (Contains lines line ⊎ HasFaulted block did line)
lines_hold did lines block line = (
  (λ c. elim (lines_into did lines block line c) [
    | inl q ↦ inl q
    | inr q ↦ inr
        (record { placed = q.0; inside = Contains_from_In q.0 block q.1; of_line = q.2; faults = q.3 })
  ]),
  (λ h. lines_out did lines block line
      (elim h [
        | inl q ↦ inl q
        | inr q ↦ inr
            (q.placed, In_from_Contains q.placed block q.inside, q.of_line, q.faults)
      ])),
)
