-- The opening state is lawful and acyclic.
use Rattle.std.specs.Prelude.{◌≡◌, ℕ, true, List, [], ◌∷◌, Some, is_some, length, refl}
use Rattle.std.proofs.Common.{sym, ◌∙◌, ap, subst, inl, inr, arith}
use Rattle.std.specs.Ordering.{nat_cmp}
use Rattle.std.specs.FinMap as finmap
use Rattle.std.specs.FinMap.{get-empty, len-empty, len-entries}
use Rattle.ipc_model.specs.declared.entry.Entry.{Entry}
use Rattle.ipc_model.specs.declared.port.PortState.{PortState}
use Rattle.ipc_model.specs.state.Circular.{Acyclic, Carries}
use Rattle.ipc_model.specs.state.Lawful.{Lawful, LawfulNames}
use Rattle.ipc_laws.specs.LawfulLaws.{alone}
use Rattle.ipc_model.specs.encodings.Images.{image_encoding, image_encoding_of}
use Rattle.ipc_laws.specs.ListLaws.{some_same}
use Rattle.ipc_laws.specs.MapLaws.{get-here, get-there, map_rules}
use Rattle.ipc_laws.specs.MapSums.{total, total-new, weigh}
use Rattle.ipc_laws.specs.Others.{number_decided}
use Rattle.ipc_model.specs.declared.reply.NumberedReply.{NumberedReply}
use Rattle.ipc_model.specs.state.Ipc.{Names, opening_ipc, lives}
use Rattle.ipc_model.specs.state.LawfulState.{LawfulState}
use Rattle.ipc_model.specs.state.State.{opening_state}
use Rattle.ipc_laws.specs.Weights.{Weight, state_weigh, any_of, names_weigh, entry_weigh, port_weigh, count-any}

pub none_in_empty : {X : Type 0} (k : ℕ) (x : X) → finmap.get (finmap.empty {X = X} {R = nat_cmp}) k ≡ Some x → ⊥
none_in_empty {X} k x there = absurd (cc (sym (get-empty nat_cmp k) ∙ there))

no_entries : {A : Type 0} (es : List A) → length es ≡ 0 → es ≡ []
no_entries [] e = refl
no_entries (e ∷ es) long = absurd (omega (arith, long))

pub total-empty : {X : Type 0} (f : ℕ → X → ℕ) → total f (finmap.empty {X = X} {R = nat_cmp}) ≡ 0
total-empty {X} f =
    ap (weigh (λ (e : ℕ × X). f e.0 e.1))
    (no_entries (finmap.entries (finmap.empty {X = X} {R = nat_cmp}))
    (sym (len-entries {R = nat_cmp} (finmap.empty {X = X})) ∙ len-empty nat_cmp X))

pub no_names_lawful : LawfulNames finmap.empty
no_names_lawful = record {
  few = omega (arith, len-empty nat_cmp Entry);
  named = λ (name : ℕ) (entry : Entry) (at : _). absurd (none_in_empty name entry at);
  one_name =
      λ (one other serial : ℕ) (first second : Entry) (at : _) (at_too : _) (held : _) (held_too : _). absurd
      (none_in_empty one first at);
}

-- the only space is space 1
only_space : (space : ℕ) (names : Names) → finmap.get opening_ipc.spaces space ≡ Some names → (space ≡ 1)
    × (finmap.empty ≡ names)
only_space space names at = elim (number_decided space 1) as (λ _. (space ≡ 1) × (finmap.empty ≡ names)) [
  | inl apart ↦ absurd (none_in_empty space names (sym (get-there finmap.empty 1 finmap.empty space apart) ∙ at))
  | inr same ↦ (
    same,
    some_same finmap.empty names
        (sym (get-here finmap.empty 1 finmap.empty)
        ∙ ap (finmap.get (finmap.insert finmap.empty 1 finmap.empty)) (sym same) ∙ at),
  )
]

no_weight : (w : Weight) → state_weigh w opening_ipc ≡ 0
unfolding state_weigh
no_weight w =
    omega (
      arith,
      total-new (λ s n. names_weigh w n) finmap.empty 1 finmap.empty (get-empty nat_cmp 1),
      total-empty {X = Names} (λ s n. names_weigh w n),
      total-empty {X = Entry} (λ n e. entry_weigh w e),
      total-empty {X = PortState} (port_weigh w),
    )

no_port_lives : (serial : ℕ) → lives opening_ipc serial ≡ true → ⊥
no_port_lives serial live = absurd (cc (sym (ap is_some (get-empty {X = PortState} nat_cmp serial)) ∙ live))

opening_ipc_is_lawful : Lawful opening_ipc × Acyclic opening_ipc
opening_ipc_is_lawful = (
  alone opening_ipc (record {
    first_space = (finmap.empty, get-here finmap.empty 1 finmap.empty);
    spaces = λ (space : ℕ) (names : Names) (at : _).
        let only = only_space space names at in
        (omega (arith, only.0), omega (arith, only.0), subst LawfulNames only.1 no_names_lawful);
    ports = λ (serial : ℕ) (port : PortState) (at : _). absurd (none_in_empty serial port at);
    few_ports = omega (arith, len-empty nat_cmp PortState);
    next = (omega arith, omega arith);
    one_receive = λ (serial : ℕ) (live : _). absurd (no_port_lives serial live);
    live = λ (serial : ℕ) (dead : _). count-any opening_ipc serial ∙ no_weight (any_of serial);
    waits = tt;
    sets = λ (serial set : ℕ) (port : PortState) (at : _) (is : _). absurd (none_in_empty serial port at);
  }),
  (
    λ (serial : ℕ). 0,
    λ (outer inner : ℕ) (carries : Carries opening_ipc outer inner). absurd
        (none_in_empty outer carries.0 carries.1),
  ),
)

-- The opening state is lawful and acyclic.
abbrev pub OpeningIsLawful : Type 0
OpeningIsLawful = LawfulState opening_state × Acyclic opening_state.ipc

pub opening_is_lawful : OpeningIsLawful
opening_is_lawful = (
  record {
    ipc = opening_ipc_is_lawful.0;
    kept = λ (space : ℕ) (answer : NumberedReply) (at : _). absurd (cc (sym (get-empty nat_cmp space) ∙ at));
  },
  opening_ipc_is_lawful.1,
)

-- its image
pub opening-image : image_encoding opening_state
    ≡ 1 ∷ 0 ∷ 0 ∷ 0 ∷ 0 ∷ 0 ∷ 0 ∷ 0 ∷ 1 ∷ 0 ∷ 0 ∷ 0 ∷ 1 ∷ 0 ∷ 0 ∷ 0 ∷ 0 ∷ 0 ∷ 0 ∷ 0 ∷ 0 ∷ 0 ∷ 0 ∷ 0 ∷ 0 ∷ 0 ∷ 0 ∷ 0 ∷ []
unfolding image_encoding_of
opening-image = simp map_rules
