-- Values that cells get at times: registers by delayed writes, bytes of memory by stores (docs/MACHINE.md, "Cycles and
-- delays" and "Memory"; SPRU189, "Delay Slots"). The cell of a register is its index, and that of a byte its address.
use Rattle.std.specs.Prelude.{ℕ, ◌==◌, ◌&&◌, nat_lt, List, [], ◌∷◌, Option, Some, None, if◌then◌else◌}

-- a cell gets a value at a time
pub record Landing : Type 0 where
  pub cell : ℕ
  pub time : ℕ
  pub value : ℕ

-- the later of two
abbrev pub later : Landing → Option Landing → Landing
later landing None = landing
later landing (Some other) = if nat_lt other.time landing.time then landing else other

-- of the landings at a cell before t, the one of greatest time
abbrev pub latest : ℕ → ℕ → List Landing → Option Landing
latest cell t [] = None
latest cell t (landing ∷ rest) =
    if (landing.cell == cell) && nat_lt landing.time t then Some (later landing (latest cell t rest)) else latest cell t rest

abbrev pub value_or : Option Landing → ℕ → ℕ
value_or None opening = opening
value_or (Some landing) opening = landing.value

-- what a cell holds before t: the value of the latest landing there, and the opening one where there is none
abbrev pub value_before : ℕ → ℕ → List Landing → ℕ → ℕ
value_before cell t landings opening = value_or (latest cell t landings) opening
