-- What is kept of the lines that were passed.
use Rattle.std.specs.Prelude.{◌≡◌, ℕ, ◌+◌, ◌*◌, ◌≤◌, nat_le, nat_lt, if◌then◌else◌, List, ◌∷◌, length, Option, Some, None, is_some, option_map, IfSome}
use Rattle.c62_adopt_line.specs.Line.{Line}
use Rattle.c62_adopt_cut.specs.declared.clock.Clock.{Clock}
use Rattle.c62_adopt_cut.specs.declared.clock.Stand.{Stand}
use Rattle.c62_adopt_cut.specs.Cut.{begins_packet, cycles_of, cuts_of, is_cut_behind, last_packet, place_of, start_of, stand_at, with_label_cut}

-- Of these cuts this is the last, and the other the last that is not behind this cycle, where it isn't the former.
pub record AreCuts (now start last : ℕ) (cuts : List ℕ) : Type 0 where
  pub starts : (cycle : ℕ) → now ≤ cycle → start_of cycle cuts ≡ (if nat_le last cycle then last else start)
  pub behind : (cycle : ℕ) → is_cut_behind cycle cuts ≡ nat_lt cycle last
  pub below : start ≤ now
  pub near : last ≤ now + 6

-- the clock tells the cycle, the cuts and the last packet of these lines
pub record IsClockOf (clock : Clock) (above : List Line) : Type 0 where
  pub now : clock.now ≡ cycles_of above
  pub cuts : AreCuts clock.now clock.start clock.last (cuts_of above)
  pub packet : clock.packet ≡ option_map stand_at (last_packet above)
  pub early : IfSome clock.packet (λ stand. stand.cycle ≤ clock.now)
  pub small : clock.now ≤ 255 * length above

-- the clock where the line stands that is next: a label there has cut the text
pub record IsClockAt (clock : Clock) (above : List Line) (line : Line) : Type 0 where
  pub now : clock.now ≡ cycles_of above
  pub cuts : AreCuts clock.now clock.start clock.last (with_label_cut (place_of above line) (cuts_of above))
  pub packet : clock.packet ≡ option_map stand_at (last_packet above)
  pub early : IfSome clock.packet (λ stand. stand.cycle ≤ clock.now)

-- the same where a branch in that line has cut it, too
pub record IsClockBehind (clock : Clock) (above : List Line) (line : Line) : Type 0 where
  pub now : clock.now ≡ cycles_of above
  pub cuts : AreCuts clock.now clock.start clock.last (cuts_of (line ∷ above))
  pub packet : clock.packet ≡ option_map stand_at (last_packet above)
  pub early : IfSome clock.packet (λ stand. stand.cycle ≤ clock.now)

-- the clock tells of some lines
abbrev pub HasClock : Clock → Type 0
HasClock clock = (above : List Line) × IsClockOf clock above

-- where the last packet stands, below a line that stands here
abbrev pub packet_below : Option Stand → Stand → Line → Option Stand
packet_below packet stand line = if begins_packet line then Some stand else (if is_some line.label then None else packet)
