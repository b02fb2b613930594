use Rattle.std.proofs.Common.{◌≡◌, ◌<◌, ◌∙◌, [], ◌∷◌, length, length-drop, ap, sym, arith}
use Rattle.std.proofs.lemmas.Grind.{common_steps}
use Rattle.script.specs.Scripts.{lines_of, script_read}
use Rattle.script.proofs.ScriptsAgain.{lines_next, next_read, next_fault, none_left, printed_ok, printed_fault}
use Rattle.script.proofs.text.read_script.Goals as goal

pub loop-rest-smaller : goal.loop-rest-smaller
loop-rest-smaller c =
    let some : 0 < length c.loop-rest.rest.now = grind (arith, common_steps) in
    omega (arith, some, simp length-drop at (ap length c.first_line.ensures.rest))

pub loop-rest-preserved : goal.loop-rest-preserved
loop-rest-preserved c =
    let some : 0 < length c.loop-rest.rest.now = grind (arith, common_steps) in
    let next : lines_of c.loop-rest.rest.now ≡ c.first_line.result.0.now ∷ lines_of c.first_line.result.1.now =
    lines_next _ _ _ (λ e. absurd (omega (arith, some, ap length e))) c.first_line.ensures.line
    c.first_line.ensures.rest in
    record {
      is = next_read _ _ _ _ _ _ next c.in-Ok.ensures ∙ c.loop-rest.invariant.is;
      in_range =
          omega (
            arith,
            some,
            c.loop-rest.invariant.in_range,
            simp length-drop at (ap length c.first_line.ensures.rest),
          );
    }

pub returns-in-Err-clause-read : goal.returns-in-Err-clause-read
returns-in-Err-clause-read c =
    let some : 0 < length c.loop-rest.rest.now = grind (arith, common_steps) in
    let next : lines_of c.loop-rest.rest.now ≡ c.first_line.result.0.now ∷ lines_of c.first_line.result.1.now =
    lines_next _ _ _ (λ e. absurd (omega (arith, some, ap length e))) c.first_line.ensures.line
    c.first_line.ensures.rest in
    next_fault c.in-Err.fault _ _ _ _ _ _ next c.in-Err.ensures c.loop-rest.invariant.is

pub returns-in-Err-clause-printed : goal.returns-in-Err-clause-printed
returns-in-Err-clause-printed c = λ xs are is.
    let some : 0 < length c.loop-rest.rest.now = grind (arith, common_steps) in
    let next : lines_of c.loop-rest.rest.now ≡ c.first_line.result.0.now ∷ lines_of c.first_line.result.1.now =
    lines_next _ _ _ (λ e. absurd (omega (arith, some, ap length e))) c.first_line.ensures.line
    c.first_line.ensures.rest in
    printed_fault c.in-Err.fault _ xs c.args.text.now are is
    (next_fault c.in-Err.fault _ _ _ _ _
    (script_read c.args.text.now) next c.in-Err.ensures c.loop-rest.invariant.is)

pub returns-clause-read : goal.returns-clause-read
returns-clause-read c =
    let none : c.loop-rest.rest.now ≡ [] = grind (arith, common_steps) in
    sym c.loop-rest.invariant.is ∙ none_left _ _ _ none

pub returns-clause-printed : goal.returns-clause-printed
returns-clause-printed c = λ xs are is.
    let none : c.loop-rest.rest.now ≡ [] = grind (arith, common_steps) in
    printed_ok xs c.args.text.now c.loop-rest.lines.items are is (sym c.loop-rest.invariant.is ∙ none_left _ _ _ none)
