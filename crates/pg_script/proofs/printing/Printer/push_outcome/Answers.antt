use Rattle.pg_script.proofs.printing.Printer.push_outcome.Goals as goal

pub returns-in-Duplicate : goal.returns-in-Duplicate
returns-in-Duplicate c = rw c.in-Duplicate.is c.push_at_row.ensures

pub returns-in-TooManyWrites : goal.returns-in-TooManyWrites
returns-in-TooManyWrites c = rw c.in-TooManyWrites.is c.push_at_row-in-TooManyWrites.ensures

pub returns-in-LogFull : goal.returns-in-LogFull
returns-in-LogFull c = rw c.in-LogFull.is c.push_full.ensures
