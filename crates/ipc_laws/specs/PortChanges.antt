-- A change of what a live port keeps besides its rights keeps a state lawful with its effects, and acyclic.
use Rattle.std.specs.Prelude.{◌≡◌, ◌⊎◌, ℕ, Bool, true, false, List, Option, None, Some, refl}
use Rattle.std.proofs.Common.{sym, ◌∙◌, ap, subst, inl, inr, arith}
use Rattle.std.specs.Ordering.{nat_cmp}
use Rattle.std.specs.FinMap as finmap
use Rattle.ipc_model.specs.declared.port.PortState.{PortState}
use Rattle.ipc_model.specs.state.Circular.{Acyclic, carries}
use Rattle.ipc_laws.specs.Dangling.{dead_before}
use Rattle.ipc_model.specs.effects.Effects.{Effect}
use Rattle.ipc_laws.specs.EffectParts.{Parts, changed_parts}
use Rattle.ipc_laws.specs.EffectRanks.{fewer_edges, changed_edges}
use Rattle.ipc_laws.specs.EffectWeights.{with_port_weigh}
use Rattle.ipc_laws.specs.EffectsKeep.{dangles_none, parts_of}
use Rattle.ipc_model.specs.state.Lawful.{LawfulBut, LawfulPort, IsHeldAlongsideSet, IsReleased}
use Rattle.ipc_laws.specs.ListLaws.{some_same}
use Rattle.ipc_laws.specs.MapLaws.{get-here, get-there}
use Rattle.ipc_laws.specs.Others.{number_decided, with_port_lives, with_port_spaces}
use Rattle.ipc_model.specs.state.Ipc.{Ipc, Names, with_port, lives}
use Rattle.ipc_laws.specs.Weights.{Weight, port_weigh, state_weigh, receive_of, any_of, count-receive, count-any}

-- What has to be shown of such a change: the port keeps its rights and its messages, stays lawful, and if it is in a
-- set it is held in the set's space, or its receive right waits.
pub record PortMove (state : Ipc) (effects : List Effect) (serial : ℕ) (change : PortState → PortState) : Type 0 where
  pub port : PortState
  pub there : finmap.get state.ports serial ≡ Some port
  pub lawful : (p : PortState) → LawfulPort p → LawfulPort (change p)
  pub rights : (w : Weight) → port_weigh w serial (change port) ≡ port_weigh w serial port
  pub carried : (inner : ℕ) (p : PortState) → carries inner (change p) ≡ true → carries inner p ≡ true
  pub member : (set : ℕ) → (change port).set ≡ Some set → IsHeldAlongsideSet state serial set
      ⊎ IsReleased effects serial

same_weight : (w : Weight) (state : Ipc) (effects : List Effect) (serial : ℕ) (change : PortState → PortState)
    → PortMove state effects serial change → state_weigh w (with_port state serial change) ≡ state_weigh w state
same_weight w state effects serial change move =
    omega (arith, with_port_weigh w state serial change move.port move.there, move.rights w)

live_before : (state : Ipc) (serial q : ℕ) (change : PortState → PortState)
    → lives (with_port state serial change) q ≡ true → lives state q ≡ true
live_before state serial q change live = elim (lives state q) as (λ (b : Bool). lives state q ≡ b → b ≡ true) [
  | true ↦ λ (e : _). refl
  | false ↦ λ (dead : _). absurd (cc (sym live ∙ with_port_lives state serial change q dead))
] refl

alongside_still : (state : Ipc) (serial other set : ℕ) (change : PortState → PortState)
    → IsHeldAlongsideSet state other set → IsHeldAlongsideSet (with_port state serial change) other set
alongside_still state serial other set change held =
    subst (λ (s : finmap.FinMap nat_cmp Names). IsHeldAlongsideSet (record state { spaces = s }) other set)
    (sym (with_port_spaces state serial change)) held

changed_members : (state : Ipc) (effects : List Effect) (serial : ℕ) (change : PortState → PortState)
    → PortMove state effects serial change → LawfulBut state effects
    → (other set : ℕ) (port : PortState) → finmap.get (with_port state serial change).ports other ≡ Some port
    → port.set ≡ Some set → IsHeldAlongsideSet (with_port state serial change) other set ⊎ IsReleased effects other
changed_members state effects serial change move lawful other set port at is =
    let inserted : with_port state serial change
    ≡ record state { ports = finmap.insert state.ports serial (change move.port) } =
    ap (λ (o : Option PortState). elim o as (λ _. Ipc)
    [ None ↦ state | Some p ↦ record state { ports = finmap.insert state.ports serial (change p) } ]) move.there in
    let at_there : finmap.get (finmap.insert state.ports serial (change move.port)) other ≡ Some port =
    ap (λ (s : Ipc). finmap.get s.ports other) (sym inserted) ∙ at in
    let before : IsHeldAlongsideSet state other set ⊎ IsReleased effects other =
    elim (number_decided other serial) as (λ _. IsHeldAlongsideSet state other set ⊎ IsReleased effects other) [
      | inl apart ↦ lawful.sets other set port
          (sym (get-there state.ports serial (change move.port) other apart) ∙ at_there) is
      | inr same ↦
          let changed : change move.port ≡ port =
          some_same (change move.port) port
          (sym (get-here state.ports serial (change move.port))
          ∙ ap (finmap.get (finmap.insert state.ports serial (change move.port))) (sym same) ∙ at_there) in
          subst (λ (k : ℕ). IsHeldAlongsideSet state k set ⊎ IsReleased effects k) (sym same)
          (move.member set (ap (λ (p : PortState). p.set) changed ∙ is))
    ] in
    elim before as (λ _. IsHeldAlongsideSet (with_port state serial change) other set ⊎ IsReleased effects other) [
      | inl held ↦ inl (alongside_still state serial other set change held)
      | inr waits ↦ inr waits
    ]

-- Such a change keeps the state lawful, and acyclic.
abbrev pub PortMovesLawfully : Type 0
PortMovesLawfully =
    (state : Ipc) (effects : List Effect) (serial : ℕ) (change : PortState → PortState)
    → PortMove state effects serial change → LawfulBut state effects → Acyclic state
    → LawfulBut (with_port state serial change) effects × Acyclic (with_port state serial change)

pub port_moves_lawfully : PortMovesLawfully
port_moves_lawfully state effects serial change move lawful acyclic =
    let parts : Parts (with_port state serial change) =
    changed_parts state serial change move.port move.there move.lawful (parts_of state effects lawful) in (
      record {
        first_space = parts.first_space;
        spaces = parts.spaces;
        ports = parts.ports;
        few_ports = parts.few_ports;
        next = parts.next;
        one_receive = λ (q : ℕ) (live : _).
            count-receive (with_port state serial change) effects q
            ∙ omega (
              arith,
              same_weight (receive_of q) state effects serial change move,
              count-receive state effects q,
              lawful.one_receive q (live_before state serial q change live),
            );
        live = λ (q : ℕ) (dead : _).
            count-any (with_port state serial change) q ∙ same_weight (any_of q) state effects serial change move
            ∙ dangles_none state effects lawful q (dead_before state serial q change dead);
        waits = lawful.waits;
        sets = changed_members state effects serial change move lawful;
      },
      fewer_edges state (with_port state serial change) (changed_edges state serial change move.carried) acyclic,
    )
