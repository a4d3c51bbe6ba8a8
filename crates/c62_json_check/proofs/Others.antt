-- The object of a block that differs in its label.
use Rattle.std.proofs.Common.{◌≡◌, ℕ, List, Option, sym, ap, ◌∙◌}
use Rattle.std.specs.Prelude.{option_map, slice_get}
use Rattle.json.specs.Token.{Token}
use Rattle.c62_json.specs.Document.{object}
use Rattle.c62_read.specs.Block.{Serial, labels_in}
use Rattle.c62_packet.specs.Packed.{Packed}
use Rattle.c62_packet.specs.Packets.{labels_of}
use Rattle.c62_check.proofs.Others.{block_at, listed_at}
use Rattle.c62_json_check.specs.Members.{label_members, other_object}

abbrev Label : Type 0
Label = Option (Option (List ℕ))

-- by what is got of both
pub other_object_is : (program : List Serial) (packets : List Packed) (number : ℕ) (listed : Option Packed)
    (block : Option Serial) → listed ≡ slice_get packets number → block ≡ slice_get program number
    → object (label_members number (option_map (λ one. one.label) listed) (option_map (λ other. other.label) block))
    ≡ other_object (labels_of packets) (labels_in program) number
other_object_is program packets number listed block one other =
    ap (λ (l : Label). object (label_members number l (option_map (λ (b : Serial). b.label) block)))
    (sym (listed_at packets number listed one))
    ∙ ap (λ (l : Label). object (label_members number (slice_get (labels_of packets) number) l))
    (sym (block_at program number block other))
