use Rattle.std.proofs.Common.{◌∙◌}
use Rattle.codes.proofs.Numbers.{code_found, code_if_found}
use Rattle.codes.proofs.kern_return.KernReturn.from_number.Goals as goal

pub returns-clause-found : goal.returns-clause-found
returns-clause-found c = code_if_found c.find_number.result c.args.number c.find_number.ensures

pub returns-clause-only : goal.returns-clause-only
returns-clause-only c = λ code is. c.find_number.ensures ∙ code_found code c.args.number is
