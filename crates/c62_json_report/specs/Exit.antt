-- How a run ended (docs/JSON.md, "The exit").
use Rattle.std.specs.Prelude.{ℕ, List, [], ◌∷◌, codes}
use Rattle.json.specs.Token.{Token, key, string}
use Rattle.c62_op.specs.Name.{register_name}
use Rattle.c62_serial.specs.declared.chain.End.{End}
use Rattle.c62_serial.specs.declared.chain.End.TheVariants as chain
use Rattle.c62_flight.specs.declared.stop.Stop.{Stop}
use Rattle.c62_flight.specs.declared.stop.Stop.TheVariants as flight
use Rattle.c62_json.specs.Document.{array, count, object}

-- what ended it, and what is told of that
abbrev pub ended_by : List ℕ → List Token → List Token
ended_by what told = object (key (codes "by") ∷ string what ∷ told)

-- how a chain of blocks ended
unfoldable pub exit : End → List Token
exit chain.End = ended_by (codes "end") []
exit chain.Limit = ended_by (codes "limit") []
exit (chain.Register value) = ended_by (codes "register") (key (codes "value") ∷ count value ∷ [])

-- the lines of two instructions
unfoldable pub lines : ℕ → ℕ → List Token
lines first second = key (codes "lines") ∷ array (count first ∷ count second ∷ [])

-- how a run in flight stopped: as a chain of blocks ends, or at what the machine says nothing of
unfoldable pub stop : Stop → List Token
stop flight.End = exit chain.End
stop flight.Limit = exit chain.Limit
stop (flight.Register value) = exit (chain.Register value)
stop (flight.Clash reg first second) =
    ended_by (codes "clash") (key (codes "register") ∷ string (register_name reg) ∷ lines first second)
stop (flight.Branches first second) = ended_by (codes "branches") (lines first second)
