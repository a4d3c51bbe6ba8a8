use Rattle.c62_sheet.proofs.sheet.Sheet.is_last.Goals as goal

pub returns : goal.returns
returns c = rw (← c.self.view_is, ← c.deref.ensures.value) c.is_last.ensures
