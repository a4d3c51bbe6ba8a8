-- What may read a register, one block after the other.
use Rattle.std.proofs.Common.{◌≡◌, ℕ, zero, suc, ◌+◌, ◌<◌, List, [], ◌∷◌, ◌++◌, length, Option, Some, None, refl, sym}
use Rattle.std.proofs.Common.{ap, subst, arith, ◌∙◌}
use Rattle.std.proofs.Common.{inl, inr}
use Rattle.std.specs.Prelude.{slice_get, option_and_then, if◌then◌else◌}
use Rattle.std.specs.Option.{option_flatten}
use Rattle.std.proofs.lemmas.List.{length-append}
use Rattle.std.proofs.lemmas.Option.{none-some, slice_get_cases, slice_get_past}
use Rattle.c62_op.specs.declared.register.Reg.{Reg}
use Rattle.c62_read.specs.Block.{Serial}
use Rattle.c62_check_loop.specs.Region.{last_of}
use Rattle.c62_check_loops.specs.Reading.{AreFound, AreFoundNext, falls_through, first_line, first_of, found_at, line_from, line_within, target_by}
use Rattle.c62_check_loops.proofs.Loops.{each_pushed}

module _ (blocks : List Serial) (reg : Reg) where
  pub none_found : AreFound blocks reg 0 []
  none_found number = refl

  pub none_next : (found : List (Option ℕ)) → AreFoundNext blocks reg found 0 []
  none_next found = record { counted = refl; each = λ number line at. absurd (none-some line at) }

  pub line_next : (found : List (Option ℕ)) (count : ℕ) (lines : List (Option ℕ)) (line : Option ℕ)
      → AreFoundNext blocks reg found count lines → line ≡ line_from reg (slice_get blocks count) (found_at found) count
      → AreFoundNext blocks reg found (count + 1) (lines ++ line ∷ [])
  line_next found count lines line are is =
      let counted = are.counted in
      record {
        counted = (let many = length-append lines (line ∷ []) in omega (arith, many, counted));
        each = each_pushed (λ number l. l ≡ line_from reg (slice_get blocks number) (found_at found) number) count lines
            line counted are.each is;
      }

  -- no block comes after the last
  none_past : (most number : ℕ) → slice_get blocks number ≡ None → line_within blocks reg most number ≡ None
  none_past zero number none = refl
  none_past (suc most) number none =
      ap (λ (b : Option Serial). line_from reg b (line_within blocks reg most) number) none

  -- what is found alike after each block is found alike
  jumps_alike : (after after' : ℕ → Option ℕ) → ((number : ℕ) → after number ≡ after' number) → (target : Option ℕ)
      → option_and_then after target ≡ option_and_then after' target
  jumps_alike after after' same None = refl
  jumps_alike after after' same (Some target) = same target

  found_alike : (block : Option Serial) (after after' : ℕ → Option ℕ) → ((number : ℕ) → after number ≡ after' number)
      → (number : ℕ) → line_from reg block after number ≡ line_from reg block after' number
  found_alike None after after' same number = refl
  found_alike (Some block) after after' same number =
      ap (λ (line : Option ℕ). first_line (first_of reg block.insns) line
      (if falls_through (last_of block.insns) then after (number + 1) else None))
      (jumps_alike after after' same (target_by (last_of block.insns)))
      ∙ ap (λ (line : Option ℕ). first_line (first_of reg block.insns)
      (option_and_then after' (target_by (last_of block.insns)))
      (if falls_through (last_of block.insns) then line else None))
      (same (number + 1))

  found_again : (most : ℕ) (found lines : List (Option ℕ)) → AreFound blocks reg most found
      → AreFoundNext blocks reg found (length blocks) lines → (number : ℕ)
      → found_at lines number ≡ line_within blocks reg (suc most) number
  found_again most found lines are next number = elim (slice_get_cases lines number).1 [
    | inl (line, within, there, read) ↦
        ap option_flatten there
        ∙ (next.each number line there
        ∙ found_alike (slice_get blocks number) (found_at found) (line_within blocks reg most) are number)
    | inr (past, none) ↦
        let counted = next.counted in
        ap option_flatten none
        ∙ sym (none_past (suc most) number (slice_get_past blocks number (omega (arith, past, counted))))
  ]

  pub found_more : (most : ℕ) (found lines : List (Option ℕ)) → AreFound blocks reg most found
      → AreFoundNext blocks reg found (length blocks) lines → AreFound blocks reg (most + 1) lines
  found_more most found lines are next number =
      let more : suc most ≡ most + 1 = omega arith in
      found_again most found lines are next number ∙ ap (λ (n : ℕ). line_within blocks reg n number) more
