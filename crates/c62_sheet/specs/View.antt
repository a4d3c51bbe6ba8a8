-- A sheet by its fields.
use Rattle.c62_depend.specs.Plan.{insns_of, IsPlan}
use Rattle.c62_sheet.specs.declared.sheet.Sheet.TheInside.{Inside}
use Rattle.c62_sheet.specs.Lawful.{Placements, IsLawful}
use Rattle.c62_sheet.specs.Index.{IsIndex}
use Rattle.c62_sheet.specs.Early.{AreEarly}
use Rattle.c62_sheet.specs.Ready.{AreReady}
use Rattle.c62_sheet.specs.Rows.{AreRows}
use Rattle.c62_sheet.specs.Standing.{AreStanding}

abbrev pub placements_of : Inside → Placements
placements_of sheet = record { plan = sheet.plan; spots = sheet.spots.items }

-- what is placed is lawful, the index tells what is missing, the early cycles and the ready numbers are kept, the rows tell
-- what is taken, and who stands where is known
pub record IsKept (sheet : Inside) : Type 0 where
  pub known : IsPlan (insns_of sheet.plan)
  pub lawful : IsLawful (insns_of sheet.plan) sheet.spots.items
  pub index : IsIndex (insns_of sheet.plan) sheet.spots.items sheet.missing.items
  pub early : AreEarly (insns_of sheet.plan) sheet.spots.items sheet.earliest.items
  pub ready : AreReady (insns_of sheet.plan) sheet.spots.items sheet.ready
  pub rows : AreRows (insns_of sheet.plan) sheet.spots.items sheet.rows.items
  pub standing : AreStanding (insns_of sheet.plan) sheet.spots.items sheet.standing.items
