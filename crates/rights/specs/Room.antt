-- If there is room for the names that are needed, there is room for the name that a right gets.
use Rattle.std.specs.Prelude.{◌≡◌, ℕ, ◌+◌, ◌<◌, ◌≤◌, Bool, true, ◌&&◌, [], ◌∷◌, Option, None, Some, is_none, MatchOption, if◌then◌else◌, refl}
use Rattle.std.proofs.Common.{sym, ◌∙◌, ap, subst, arith}
use Rattle.std.specs.FinMap as finmap
use Rattle.codes.specs.declared.limits.TheConstants.{MAX_NAMES}
use Rattle.ipc_model.specs.declared.message.CarriedRight.{CarriedRight}
use Rattle.ipc_model.specs.declared.message.PortInMessage.{PortInMessage}
use Rattle.ipc_model.specs.declared.message.PortInMessage.TheVariants as in_message
use Rattle.ipc_model.specs.declared.message.RightKind.{RightKind}
use Rattle.ipc_model.specs.declared.message.RightKind.TheVariants as kind
use Rattle.ipc_laws.specs.Arrivals.{named_there}
use Rattle.ipc_model.specs.rights.CopyOut.{MayArrive, MayBeNamed, names_needed, wants_name}
use Rattle.ipc_model.specs.state.Ipc.{Names, IsUnused, name_of_port}

-- the number of names that one right needs
abbrev count_of : Bool → ℕ
count_of wanted = (if wanted then 1 else 0) + 0

module _ (names : Names) (name : ℕ) (free : finmap.get names name ≡ None) where
  room_by : (serial : ℕ) (o : Option ℕ) → name_of_port names serial ≡ o
      → MatchOption o (IsUnused names name) (λ there. name ≡ there)
      → finmap.len names + count_of (is_none o && true) ≤ MAX_NAMES → finmap.len names < MAX_NAMES
  room_by serial None is may fits = omega (arith, fits)
  room_by serial (Some there) is may fits =
      let held = named_there names serial there is in
      absurd (cc (sym free ∙ ap (finmap.get names) may ∙ held.1))

  room_for : (kind : RightKind) (serial : ℕ) → MayBeNamed names kind serial name
      → finmap.len names + count_of (wants_name names [] kind (in_message.Live serial)) ≤ MAX_NAMES
      → finmap.len names < MAX_NAMES
  room_for kind.SendOnce serial may fits = omega (arith, fits)
  room_for kind.Send serial may fits = room_by serial (name_of_port names serial) refl may fits
  room_for kind.Receive serial may fits = room_by serial (name_of_port names serial) refl may fits

-- there is room for a right that arrives under an unused name
pub room_to_come : (names : Names) (right : CarriedRight) (serial name : ℕ) → right.port ≡ in_message.Live serial
    → finmap.len names + names_needed names [] (right ∷ []) ≤ MAX_NAMES
    → MayArrive names right.kind right.port name → finmap.get names name ≡ None → finmap.len names < MAX_NAMES
room_to_come names right serial name live fits may free =
    room_for names name free right.kind serial
    (subst (λ (port : PortInMessage). MayArrive names right.kind port name) live may)
    (subst (λ (port : PortInMessage). finmap.len names + count_of (wants_name names [] right.kind port) ≤ MAX_NAMES)
    live fits)
