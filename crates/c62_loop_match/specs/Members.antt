-- Lists that hold the same, in whatever order and as often as they like.
use Rattle.std.specs.Prelude.{◌↔◌, List, Contains}
use Rattle.c62_packet.specs.declared.placed.Placed.{Placed}

abbrev pub AreWithin : List Placed → List Placed → Type 0
AreWithin ones others = (p : Placed) → Contains ones p → Contains others p

abbrev pub AreOneSet : List Placed → List Placed → Type 0
AreOneSet ones others = (p : Placed) → Contains ones p ↔ Contains others p
