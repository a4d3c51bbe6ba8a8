-- The blocks that are read of a text are sound where they keep the packet rules and nothing is in flight.
use Rattle.std.proofs.Common.{arith, ◌≡◌, ℕ, ◌≤◌, Bool, List, [], ◌∷◌, length, map, sym, subst, None}
use Rattle.std.specs.Prelude.{All, IsTrue}
use Rattle.std.specs.List.{AllByRecursion, AllZip}
use Rattle.std.proofs.lemmas.List.{length-map}
use Rattle.std.proofs.lemmas.List.Elements.{All-nil, All-cons}
use Rattle.c62_packet.specs.Packed.{Packed}
use Rattle.c62_packet.specs.Packets.{is_closed}
use Rattle.c62_adopt_cut.specs.declared.draft.Draft.{Draft as DraftRead}
use Rattle.c62_adopt_cut.specs.declared.text.Cut.{Cut as CutRead}
use Rattle.c62_adopt_cut.specs.Blocks.{Draft}
use Rattle.c62_adopt_cut.specs.Text.{Cut, text_cut}
use Rattle.c62_adopt_cut.specs.Drafted.{draft_of, cut_of}
use Rattle.c62_adopt_cut.specs.Flight.{first_in_flight}
use Rattle.c62_adopt_cut.specs.Laws.{IsFine, AreFine, AreOver}
use Rattle.c62_adopt_cut.proofs.FineLemmas.{blocks_are_fine}
use Rattle.c62_adopt_cut.proofs.OverLemmas.{blocks_are_over}
use Rattle.c62_adopt.specs.Blocks.{IsBlockOf}
use Rattle.c62_adopt.specs.Packing.{IsSound}
use Rattle.c62_adopt.proofs.AimLemmas.{AreAimed, blocks_are_aimed, packets_closed}
use Rattle.c62_read.specs.declared.limits.TheConstants.{MOST_BLOCKS}
use Rattle.c62_op.specs.declared.set.InstructionSet.{InstructionSet}

all_fine : (isa : InstructionSet) (drafts : List DraftRead) → AllByRecursion (IsFine isa) (map draft_of drafts)
    → All (λ draft. IsFine isa (draft_of draft)) drafts
all_fine isa [] fine = All-nil (λ (draft : DraftRead). IsFine isa (draft_of draft))
all_fine isa (draft ∷ drafts) fine = All-cons (λ (other : DraftRead). IsFine isa (draft_of other)) draft drafts fine.0
    (all_fine isa drafts fine.1)

sound_by : (isa : InstructionSet) (drain : Bool) (whole : List Draft) (end : ℕ) (drafts : List DraftRead)
    → AllByRecursion (IsFine isa) (map draft_of drafts)
    → AreOver drain whole end (map draft_of drafts) → All (λ draft. IsSound isa whole (draft_of draft)) drafts
sound_by isa drain whole end [] fine over = All-nil (λ (draft : DraftRead). IsSound isa whole (draft_of draft))
sound_by isa drain whole end (draft ∷ drafts) fine over =
    All-cons (λ (other : DraftRead). IsSound isa whole (draft_of other)) draft drafts
    (record { fine = fine.0; next = _; over = over.0 }) (sound_by isa drain whole end drafts fine.1 over.1)

module _ (isa : InstructionSet) (text : List ℕ) (cut : CutRead) (read : cut_of cut ≡ text_cut isa text) where
  are_fine : AreFine isa (map draft_of cut.drafts.items)
  are_fine = subst (λ (c : Cut). AreFine isa c.drafts) (sym read) (blocks_are_fine isa text)

  pub cut_few : length cut.drafts.items ≤ MOST_BLOCKS
  cut_few = let few = are_fine.few in omega (arith, few, length-map cut.drafts.items draft_of)

  pub cut_fine : All (λ draft. IsFine isa (draft_of draft)) cut.drafts.items
  cut_fine = all_fine isa cut.drafts.items are_fine.fine

  pub cut_sound : (drain : Bool) → first_in_flight drain (cut_of cut) ≡ None
      → All (λ draft. IsSound isa (map draft_of cut.drafts.items) (draft_of draft)) cut.drafts.items
  cut_sound drain none =
      sound_by isa drain (map draft_of cut.drafts.items) cut.cycles cut.drafts.items are_fine.fine
      (blocks_are_over drain (cut_of cut) none)

  pub cut_closed : (drain : Bool) (packets : List Packed)
      → AllZip (IsBlockOf (map draft_of cut.drafts.items)) (map draft_of cut.drafts.items) packets
      → first_in_flight drain (cut_of cut) ≡ None → IsTrue (is_closed packets)
  cut_closed drain packets zip none =
      packets_closed drain (map draft_of cut.drafts.items) cut.cycles packets zip
      (subst (λ (c : Cut). AreAimed c.drafts) (sym read) (blocks_are_aimed isa text))
      (blocks_are_over drain (cut_of cut) none)
