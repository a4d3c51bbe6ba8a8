-- A test of blocks as they are read.
use Rattle.std.proofs.Common.{◌≡◌, List, [], ◌∷◌, refl, ap, ◌||◌, Bool}
use Rattle.std.specs.Prelude.{map}
use Rattle.std.specs.List.{list_any}
use Rattle.c62_adopt_cut.specs.declared.draft.Draft.{Draft as DraftRead}
use Rattle.c62_adopt_cut.specs.Blocks.{Draft}
use Rattle.c62_adopt_cut.specs.Drafted.{draft_of}

module _ (test : Draft → Bool) where
  pub any_draft : (drafts : List DraftRead)
      → list_any test (map draft_of drafts) ≡ list_any (λ (draft : DraftRead). test (draft_of draft)) drafts
  any_draft [] = refl
  any_draft (draft ∷ drafts) = ap (λ (others : Bool). test (draft_of draft) || others) (any_draft drafts)
