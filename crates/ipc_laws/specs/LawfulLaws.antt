-- A state is lawful exactly where it is lawful with no effects left.
use Rattle.std.specs.Prelude.{◌≡◌, ℕ, ◌==◌, ◌&&◌, [], count_by}
use Rattle.std.proofs.Common.{sym, ◌∙◌, ap, inl, inr, arith}
use Rattle.std.proofs.lemmas.List.{append-nil}
use Rattle.ipc_model.specs.declared.port.PortState.{PortState}
use Rattle.ipc_model.specs.declared.message.RightKind.TheVariants as kind
use Rattle.ipc_model.specs.state.Lawful.{Lawful, LawfulBut, IsHeldAlongsideSet, IsReleased, count_with}
use Rattle.ipc_model.specs.state.Placed.{Right, placed, receive_count, same_kind}
use Rattle.ipc_model.specs.state.Ipc.{Ipc}

-- lawful with no effects left
abbrev pub LawfulAtRest : Ipc → Type 0
LawfulAtRest state = LawfulBut state []

none_waits : (state : Ipc) (serial : ℕ) → count_with kind.Receive state [] serial ≡ receive_count state serial
none_waits state serial =
    ap (count_by (λ (r : Right). same_kind r.kind kind.Receive && r.port == serial)) (append-nil (placed state))

pub at_rest : (state : Ipc) → Lawful state → LawfulAtRest state
at_rest state lawful = record {
  first_space = lawful.first_space;
  spaces = lawful.spaces;
  ports = lawful.ports;
  few_ports = lawful.few_ports;
  next = lawful.next;
  one_receive = λ (serial : ℕ) (live : _). none_waits state serial ∙ lawful.one_receive serial live;
  live = lawful.live;
  waits = tt;
  sets = λ (serial set : ℕ) (port : PortState) (at : _) (is : _). inl (lawful.sets serial set port at is);
}

none_released : (serial : ℕ) → IsReleased [] serial → ⊥
none_released serial (k, less, is) = absurd (omega (arith, less))

pub alone : (state : Ipc) → LawfulAtRest state → Lawful state
alone state lawful = record {
  first_space = lawful.first_space;
  spaces = lawful.spaces;
  ports = lawful.ports;
  few_ports = lawful.few_ports;
  next = lawful.next;
  one_receive = λ (serial : ℕ) (live : _). sym (none_waits state serial) ∙ lawful.one_receive serial live;
  live = lawful.live;
  sets =
      λ (serial set : ℕ) (port : PortState) (at : _) (is : _). elim (lawful.sets serial set port at is)
      as (λ _. IsHeldAlongsideSet state serial set) [
        | inl held ↦ held
        | inr waits ↦ absurd (none_released serial waits)
      ];
}

abbrev pub LawfulIsAtRest : Type 0
LawfulIsAtRest = (state : Ipc) → (Lawful state → LawfulBut state []) × (LawfulBut state [] → Lawful state)

pub lawful_is_at_rest : LawfulIsAtRest
lawful_is_at_rest state = (at_rest state, alone state)
