use Rattle.std.proofs.Common.{◌++◌, ap, ◌∙◌}
use Rattle.words.specs.Words.{word}
use Rattle.script_runner.proofs.row.code_of.Goals as goal

pub returns-clause-found : goal.returns-clause-found
returns-clause-found c = record {
  content_length = c.in_ok-content.field-0-0;
  number = c.in_ok-after_number.field-0-0;
  results = c.in_ok-code.field-0-1.now;
  is = c.in_ok-content.ensures.found
      ∙ ap (λ xs. word c.in_ok-content.field-0-0 ++ xs)
      (c.in_ok-after_number.ensures.found ∙ ap
      (λ xs. word c.in_ok-after_number.field-0-0 ++ xs) c.in_ok-code.ensures.found);
}
