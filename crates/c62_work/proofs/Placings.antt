-- Placings of a side, one after the other.
use Rattle.std.proofs.Common.{◌≡◌, ℕ, ◌+◌, List, [], ◌∷◌, ◌++◌, length, Option, Some, None, IfSome, refl, sym, ap}
use Rattle.std.proofs.Common.{subst, ◌∙◌, append_assoc, append-nil, length-append, arith}
use mathlib.Core.List.{IsPrefix}
use Rattle.std.proofs.lemmas.List.Elements.{All-push}
use Rattle.c62_op.specs.declared.register.Side.{Side}
use Rattle.c62_sheet.specs.declared.entry.Entry.{Entry}
use Rattle.c62_sheet.specs.declared.entry.Entry.TheVariants.{Place}
use Rattle.c62_sheet.specs.declared.entry.Spot.{Spot}
use Rattle.c62_board.specs.Who.{who_of}
use Rattle.c62_work.specs.Worker.{AddsPlacings, PlacesFor}

pub placings_none : (side : Side) (journal : List Entry) → AddsPlacings side 0 journal journal
placings_none side journal = record {
  entries = [];
  adds = sym (append-nil journal);
  counts = refl;
  places = λ k d less. absurd (omega arith);
}

pub placings_more : (side : Side) (count : ℕ) (old mid new : List Entry) (i : ℕ) (s : Spot)
    → AddsPlacings side count old mid
    → new ≡ mid ++ Place i s (who_of side) ∷ [] → AddsPlacings side (count + 1) old new
placings_more side count old mid new i s before is =
    let more : List Entry = before.entries ++ Place i s (who_of side) ∷ [] in
    let long : length more ≡ length before.entries + 1 = length-append before.entries (Place i s (who_of side) ∷ []) in
    record {
      entries = more;
      adds = is ∙ (ap (λ (es : List Entry). es ++ Place i s (who_of side) ∷ []) before.adds
          ∙ append_assoc old before.entries (Place i s (who_of side) ∷ []));
      counts = omega (arith, long, before.counts);
      places = All-push (PlacesFor side) before.entries (Place i s (who_of side)) before.places refl;
    }

-- what follows where something is planned
pub where_some : {X : Type 0} (o : Option X) (P Q : X → Type 0) → IfSome o P → ((x : X) → P x → Q x) → IfSome o Q
where_some None P Q is follows = tt
where_some (Some x) P Q is follows = follows x is

-- the last round is one more than those of the loop
pub placings_all : (side : Side) (count rounds : ℕ) (old mid new : List Entry) (i : ℕ) (s : Spot) → count ≡ rounds
    → AddsPlacings side count old mid
    → new ≡ mid ++ Place i s (who_of side) ∷ [] → AddsPlacings side (rounds + 1) old new
placings_all side count rounds old mid new i s all before is =
    subst (λ (n : ℕ). AddsPlacings side (n + 1) old new) all (placings_more side count old mid new i s before is)

pub prefix_trans : {X : Type 0} (xs ys zs : List X) → IsPrefix xs ys → IsPrefix ys zs → IsPrefix xs zs
prefix_trans {X} xs ys zs (more, here) (rest, there) =
    (more ++ rest, sym (append_assoc xs more rest) ∙ (ap (λ (front : List X). front ++ rest) here ∙ there))
