use Rattle.recover.proofs.looking.into_rows.Goals as goal

-- the rows are those of the kernel's state; the kernel is dropped after them
pub returns : goal.returns
returns c = c.copy-rows.ensures
