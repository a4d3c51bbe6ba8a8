-- The line and the object that tell how a run ended are of one ending.
use Rattle.std.proofs.Common.{◌≡◌, ℕ, List, [], ◌∷◌, ◌++◌, append_assoc, refl}
use Rattle.std.specs.Prelude.{codes, decimal, Some, None}
use Rattle.std.proofs.lemmas.List.{append-nil}
use Rattle.json.specs.Token.{Token}
use Rattle.c62_op.specs.Name.{register_name}
use Rattle.c62_serial.specs.declared.chain.End.{End}
use Rattle.c62_serial.specs.declared.chain.End.TheVariants as chain
use Rattle.c62_flight.specs.declared.stop.Stop.{Stop}
use Rattle.c62_flight.specs.declared.stop.Stop.TheVariants as flight
use Rattle.c62_report.specs.Report.{exit_line}
use Rattle.c62_report.specs.Flight.{stop_line}
use Rattle.c62_json_report.specs.Exit.{exit, lines, stop}
use Rattle.c62_json_report.specs.Alike.{Ending, TellOneEnding, ending_line, ending_object}

told_by : (text : List ℕ) (told : List Token) (ending : Ending)
    → text ≡ ending_line ending → told ≡ ending_object ending → TellOneEnding text told
told_by text told ending is_line is_object = record { ending = ending; line_is = is_line; object_is = is_object }

-- the line of a clash, and that of branches, in both orders of joining
of_clash : (exit what space name first second stop : List ℕ)
    → ((exit ++ what ++ space) ++ name) ++ (space ++ first ++ space ++ second ++ stop)
    ≡ (exit ++ what ++ [] ++ (space ++ name) ++ ((space ++ first) ++ ((space ++ second) ++ []))) ++ stop
of_clash exit what space name first second stop = simp (append_assoc, append-nil) refl

of_branches : (exit what space first second stop : List ℕ)
    → (exit ++ what) ++ (space ++ first ++ space ++ second ++ stop)
    ≡ (exit ++ what ++ [] ++ [] ++ ((space ++ first) ++ ((space ++ second) ++ []))) ++ stop
of_branches exit what space first second stop = simp (append_assoc, append-nil) refl

pub end_told : (end : End) → TellOneEnding (exit_line end) (exit end)
unfolding exit_line exit
end_told chain.End = told_by _ _ (record { what = codes "end"; value = None; register = None; lines = [] }) refl refl
end_told chain.Limit =
    told_by _ _ (record { what = codes "limit"; value = None; register = None; lines = [] }) refl refl
end_told (chain.Register value) =
    told_by _ _ (record { what = codes "register"; value = Some value; register = None; lines = [] })
    (simp append_assoc refl) refl

pub stop_told : (stopped : Stop) → TellOneEnding (stop_line stopped) (stop stopped)
unfolding stop_line stop lines
stop_told flight.End = end_told chain.End
stop_told flight.Limit = end_told chain.Limit
stop_told (flight.Register value) = end_told (chain.Register value)
stop_told (flight.Clash reg first second) =
    told_by _ _ (record {
      what = codes "clash";
      value = None;
      register = Some (register_name reg);
      lines = first ∷ second ∷ [];
    })
    (of_clash (codes "exit ") (codes "clash") (codes " ") (register_name reg) (decimal first) (decimal second)
    (codes "\n")) refl
stop_told (flight.Branches first second) =
    told_by _ _ (record { what = codes "branches"; value = None; register = None; lines = first ∷ second ∷ [] })
    (of_branches (codes "exit ") (codes "branches") (codes " ") (decimal first) (decimal second) (codes "\n")) refl
