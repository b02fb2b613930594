use Rattle.inspect.proofs.Copied.{copies_into}
use Rattle.inspect.proofs.copy_program.copy_into.Goals as goal

pub returns : goal.returns
returns g c =
    copies_into _ _ _ _ _ _ c.in-Ok.to c.copy.new.to c.copy.result c.in-Ok.ensures.path c.copy.ensures.copied
