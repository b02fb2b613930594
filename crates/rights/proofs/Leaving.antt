-- Facts about the entry of a name after a right was taken, and about a moved receive right.
use Rattle.std.proofs.Common.{◌≡◌, ◌++◌, if◌then◌else◌, ℕ, Bool, true, List, [], Option, None, Some, Result, Ok, Err, OnOk, option_map, refl, sym, ◌∙◌, ap}
use Rattle.std.specs.FinMap.{get, insert}
use Rattle.ipc_model.specs.declared.entry.Entry.{Entry}
use Rattle.ipc_model.specs.declared.port.PortState.{PortState}
use Rattle.ipc_model.specs.effects.Effects.{Effect, port_deleted}
use Rattle.ipc_model.specs.rights.CopyIn.{moved_port, notices_of_left}
use Rattle.ipc_model.specs.state.Ipc.{Ipc, is_empty_entry, request_of, with_port}
use Rattle.ipc_state.specs.Passed.{PortNumbers, numbers_of, with_numbers}
use Rattle.ipc_state.specs.Running.{Running}

pub left_notified : {T E : Type 0} (r : Result T E) (name : ℕ) (entry : Entry) (request : Option ℕ)
    (old new : List Effect)
    → is_empty_entry entry ≡ true → request ≡ request_of entry
    → OnOk r (new ≡ old ++ port_deleted name request) → OnOk r (new ≡ old ++ notices_of_left name entry)
left_notified (Err e) name entry request old new empty is notified = tt
left_notified (Ok v) name entry request old new empty is notified =
    notified ∙ (ap (λ (o : Option ℕ). old ++ port_deleted name o) is ∙ ap
    (λ (b : Bool). old ++ (if b then port_deleted name (request_of entry) else [])) (sym empty))

abbrev reset : PortNumbers → PortNumbers
reset numbers = record numbers { set = None; sequence_number = 0; make_send_count = 0 }

moved_is : (state : Ipc) (serial : ℕ) (numbers : PortNumbers)
    → Some numbers ≡ option_map numbers_of (get state.ports serial)
    → with_port state serial (with_numbers (reset numbers)) ≡ moved_port state serial
moved_is state serial numbers there = by_case (get state.ports serial) refl there
  where
    changed_in : (PortState → PortState) → Option PortState → Ipc
    changed_in change o =
        elim o as (λ _. Ipc) [
          | None ↦ state
          | Some port ↦
              record state { ports = insert state.ports serial (change port) }
        ]

    by_case : (o : Option PortState) → get state.ports serial ≡ o → Some numbers ≡ option_map numbers_of o
        → with_port state serial (with_numbers (reset numbers)) ≡ moved_port state serial
    by_case None at is = absurd (cc is)
    by_case (Some port) at is =
        let same : numbers ≡ numbers_of port = cc is in
        ap (changed_in (with_numbers (reset numbers))) at
        ∙ (ap (λ (n : PortNumbers). changed_in (with_numbers (reset n)) (Some port)) same
        ∙ ap (changed_in (λ (p : PortState). record p { set = None; sequence_number = 0; make_send_count = 0 }))
        (sym at))

pub moved_if : {T E : Type 0} (r : Result T E) (old new : Running) (serial : ℕ) (numbers : PortNumbers)
    → Some numbers ≡ option_map numbers_of (get old.current.ports serial)
    → OnOk r (new ≡ record old { current = with_port old.current serial (with_numbers (reset numbers)) })
    → OnOk r (new.current ≡ moved_port old.current serial)
moved_if (Err e) old new serial numbers there set = tt
moved_if (Ok v) old new serial numbers there set =
    ap (λ (r : Running). r.current) set ∙ moved_is old.current serial numbers there
