use Rattle.std.proofs.Common.{rules, ◌≡◌, ◌==◌, ℕ, zero, suc, Some, not, refl, ap, sym, ◌∙◌}
use Rattle.frame_service.specs.Asking.{is_patient}
use Rattle.frame_service.proofs.taking.is_patient.Goals as goal

patient : (milliseconds : ℕ) → not (milliseconds == 0) ≡ is_patient (Some milliseconds)
patient zero = refl
patient (suc more) = search rules

pub returns-in-Some : goal.returns-in-Some
returns-in-Some c = patient c.in-Some.milliseconds ∙ ap is_patient (sym c.in-Some.is)
