use Rattle.std.proofs.Common.{◌∙◌}
use Rattle.inspect.proofs.Copied.{copies_part}
use Rattle.inspect.proofs.copy_program.copy_folder.Goals as goal

pub returns : goal.returns
returns g c =
    copies_part c.copy_as.result c.args.path.now c.as_str.result.now _
    (c.without_slash-path.result.now, c.without_slash-path.ensures, c.as_str.ensures.value ∙ c.in-Ok.ensures.ok)
    c.copy_as.ensures
