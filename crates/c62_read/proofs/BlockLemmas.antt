-- Blocks as they are read and made: at most 256 instructions, and a branch only as the last.
use Rattle.c62_read.proofs.Common.{◌≡◌, ℕ, Bool, ◌||◌, List, [], ◌∷◌, Option, Some, None, refl, ap, ◌<◌, suc, true}
use Rattle.c62_read.proofs.Common.{◌&&◌, length, arith, leb, get_or}
use Rattle.c62_read.proofs.Common.{map, length-map, list_any, position_or_len, BlockReader, label_is, target_number}
use Rattle.c62_read.proofs.Common.{Numbered, aimed, numbered_of}
use Rattle.c62_read.proofs.Common.{draft_of, number_among, map-map, SerialInsn, branch_last, is_block}
use Rattle.c62_read.specs.Program.{Name}
use Rattle.c62_read.specs.declared.limits.TheConstants.{MOST_INSTRUCTIONS}

-- the labels are those of the reader's blocks
pub any_draft : (label : List ℕ) (blocks : List BlockReader)
    → list_any (λ draft. label_is label draft.label) (map draft_of blocks) ≡ list_any
    (λ block. label_is label block.label) blocks
any_draft label [] = refl
any_draft label (block ∷ blocks) = ap (λ (others : Bool). label_is label block.label || others) (any_draft label blocks)

pub position_map : {X Y : Type 0} (test : Y → Bool) (f : X → Y) (xs : List X)
    → position_or_len test (map f xs) ≡ position_or_len (λ x. test (f x)) xs
position_map test f [] = refl
position_map test f (x ∷ xs) = rw (position_map test f xs) refl

-- the number of a block by the labels of all
pub number_is : (blocks : List BlockReader) (target : Option Name)
    → number_among (map (λ block. block.label) blocks) target ≡ target_number (map draft_of blocks) target
number_is blocks None = refl
number_is blocks (Some label) = simp (position_map, length-map)

pub aimed_block : (number : ℕ) (insns old : List SerialInsn)
    → map numbered_of insns ≡ map (aimed number) (map numbered_of old)
    → (leb (length (map numbered_of old)) MOST_INSTRUCTIONS
    && branch_last (map (λ (e : Numbered). e.parts.op) (map numbered_of old))) ≡ true
    → is_block insns ≡ true
aimed_block number insns old same whole =
    let count = simp length-map at (ap length same) in
    let ops = simp map-map at (ap (map (λ (e : Numbered). e.parts.op)) same) in
    rw (count, ops) (simp (length-map, map-map) at whole)

-- what is aimed entry by entry
pub all_aimed : (number : ℕ) (new old : List SerialInsn) → length new ≡ length old
    → ((k : ℕ) (d : SerialInsn) → k < length old
    → numbered_of (get_or new k d) ≡ aimed number (numbered_of (get_or old k d)))
    → map numbered_of new ≡ map (aimed number) (map numbered_of old)
all_aimed number [] [] same at = refl
all_aimed number (n ∷ new) (o ∷ old) same at =
    rw (
      at 0 n (omega arith),
      all_aimed number new old (omega (arith, same))
          (λ k d less. at (suc k) d (omega (arith, less))),
    ) refl
all_aimed number new old same at = absurd (omega arith)
