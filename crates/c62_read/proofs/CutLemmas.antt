-- The blocks that are cut from labels and instructions.
use Rattle.c62_read.proofs.Common.{◌≡◌, ℕ, Bool, true, false, cond, ◌||◌, List, [], ◌∷◌, ◌++◌, Some, None, refl, arith}
use Rattle.c62_read.proofs.Common.{is_some, map, flat_map}
use Rattle.c62_read.proofs.Common.{list_all, list_any, or_left, or_right, nat_tests, branch_last, cond_both, Begins}
use Rattle.c62_read.proofs.Common.{Draft, Item, Numbered, Runs}
use Rattle.c62_read.proofs.Common.{aimed, cut, glue, is_overfull, joined, piece_of, block_in, is_whole, settled}
use Rattle.c62_read.proofs.Common.{target_number, Says, Nothing, Does}
use Rattle.c62_read.proofs.Common.{Jumps}
use Rattle.std.specs.List.{AllByRecursion}
use Rattle.c62_read.specs.Program.{Name, ends_block}
use Rattle.c62_read.specs.Walk.{draft_operations}
use Rattle.c62_read.specs.Laws.{begin_well, items_of}
use Rattle.c62_line.proofs.SaysLemmas.{IsProper, has_no_block}

-- ---- an instruction and the number of its target

-- one that names no block needs none
free_entry : (number : ℕ) (entry : Numbered) → has_no_block entry.parts.operands ≡ true → aimed number entry ≡ entry
free_entry number entry free = grind arith

-- what an item says
abbrev said_by : Item → Says
said_by (Begins label) = Nothing
said_by (Runs entry None) = Does entry.parts
said_by (Runs entry (Some target)) = Jumps entry.parts target

-- what may be cut: an instruction that names no block, or a branch to block 0
abbrev pub AllProper : List Item → Type 0
AllProper items = AllByRecursion (λ item. IsProper (said_by item)) items

pub all_more : {X : Type 0} (P : X → Type 0) (xs ys : List X) → AllByRecursion P xs → AllByRecursion P ys
    → AllByRecursion P (xs ++ ys)
all_more P [] ys all more = more
all_more P (x ∷ xs) ys all more = (all.0, all_more P xs ys all.1 more)

-- ---- what holds of each cut: each item is a block by itself, or joins the first block

-- whether a block begins here, behind a branch or by its label
abbrev parted : Bool → List Draft → Bool
parted ends [] = true
parted ends (draft ∷ drafts) = ends || is_some draft.label

module _ (P : List Item → List Draft → Type 0) (none : P [] [])
    (apart : (item : Item) (items : List Item) (drafts : List Draft) → parted (ends_block item) drafts ≡ true
    → P items drafts
    → P (item ∷ items) (piece_of item ∷ drafts))
    (joins : (item : Item) (items : List Item) (draft : Draft) (drafts : List Draft) → ends_block item ≡ false
    → draft.label ≡ None
    → P items (draft ∷ drafts) → P (item ∷ items) (joined (piece_of item) draft ∷ drafts)) where
  one_more : (item : Item) (items : List Item) (drafts : List Draft) → P items drafts
      → P (item ∷ items) (cond (ends_block item) (piece_of item ∷ drafts) (glue (piece_of item) drafts))
  one_more item items [] p = cond_both (ends_block item) _ _ (P (item ∷ items)) (λ _. apart item items [] refl p)
      (λ _. apart item items [] refl p)
  one_more item items (draft ∷ drafts) p =
      cond_both (ends_block item) _ _ (P (item ∷ items))
      (λ ends. apart item items (draft ∷ drafts) (or_left (ends_block item) (is_some draft.label) ends) p)
      (λ goes. cond_both (is_some draft.label) _ _ (P (item ∷ items))
      (λ own. apart item items (draft ∷ drafts) (or_right (ends_block item) (is_some draft.label) own) p)
      (λ none. joins item items draft drafts goes (grind arith) p))

  cut_all : (items : List Item) → P items (cut items)
  cut_all [] = none
  cut_all (item ∷ items) = one_more item items (cut items) (cut_all items)

-- ---- the blocks one after the other are what was cut, and begin and end as they may

-- branches stand last
abbrev pub ends_last : Draft → Bool
ends_last draft = branch_last (draft_operations draft)

-- the blocks as a program has them, where a target's number is the index of its draft among these
module _ (all : List Draft) where
  abbrev pub aim_in : Name → ℕ
  aim_in label = target_number all (Some label)

  -- the blocks have these items one after the other, they begin as they may, and branches stand last
  abbrev IsCutOf : List Item → List Draft → Type 0
  IsCutOf items drafts =
      (AllProper items → flat_map items_of (map (block_in all) drafts) ≡ map (settled aim_in) items)
      × (begin_well true (map (block_in all) drafts) ≡ true)
      × (list_all ends_last drafts ≡ true)

  pub cut_is : (items : List Item) → IsCutOf items (cut items)
  cut_is items =
      cut_all IsCutOf (λ fit. refl, refl, refl)
      (λ item others drafts parts have. (
        λ fit. grind (arith, have.0 fit.1, free_entry),
        grind (arith, nat_tests, have.1),
        grind
            (arith, nat_tests, have.2),
      ))
      (λ item others draft drafts goes none have. (
        λ fit. grind (arith, nat_tests, have.0 fit.1, free_entry),
        grind (arith, nat_tests, have.1),
        grind
            (arith, nat_tests, have.2),
      )) items

-- blocks that are not overfull, and end so, are whole
pub all_whole : (drafts : List Draft) → list_any is_overfull drafts ≡ false → list_all ends_last drafts ≡ true
    → list_all is_whole drafts ≡ true
all_whole [] small last = refl
all_whole (draft ∷ drafts) small last = grind (arith, nat_tests, all_whole drafts)
