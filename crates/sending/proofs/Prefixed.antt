-- Pending effects precede the notices of rights that are taken.
use Rattle.std.proofs.Common.{◌≡◌, ℕ, Bool, true, false, List, [], ◌∷◌, ◌++◌, Option, None, Some, option_map, if◌then◌else◌, refl, ◌∙◌, ap, append_assoc}
use Rattle.ipc_model.specs.effects.Effects.{Effect}
use Rattle.ipc_model.specs.messages.Items.{Item, names_of_item}
use Rattle.ipc_model.specs.messages.Sending.{TakenRights, take_right, take_rights, take_item, take_items, passed}
use Rattle.ipc_model.specs.rights.CopyIn.{Taken, copy_in}
use Rattle.ipc_model.specs.rights.Dispositions.{Disposition, disposition_of, received_kind}
use Rattle.ipc_model.specs.state.Ipc.{is_null_or_dead}

abbrev pub beyond : List Effect → TakenRights → TakenRights
beyond waiting taken = record taken { notices = waiting ++ taken.notices }

one : (space name : ℕ) (disposition : Disposition) (waiting : List Effect) (taken : TakenRights)
    → take_right space name disposition (beyond waiting taken)
    ≡ option_map (beyond waiting) (take_right space name disposition taken)
one space name disposition waiting taken = by_name (is_null_or_dead name)
  where
    by_copy : (o : Option Taken)
        → option_map (λ (next : Taken).
        record {
          rights = taken.rights ++ next.right ∷ [];
          state = next.state;
          notices = (waiting ++ taken.notices) ++ next.notices;
        }) o
        ≡ option_map (beyond waiting) (option_map
        (λ (next : Taken). record {
          rights = taken.rights ++ next.right ∷ [];
          state = next.state;
          notices = taken.notices ++ next.notices;
        }) o)
    by_copy None = refl
    by_copy (Some next) =
        ap (λ (l : List Effect). Some
        (record { rights = taken.rights ++ next.right ∷ []; state = next.state; notices = l }))
        (append_assoc waiting taken.notices next.notices)

    by_name : (b : Bool)
        → (if b then Some (record taken {
          rights = taken.rights ++ (record { kind = received_kind disposition; port = passed name }) ∷ [];
          notices = waiting ++ taken.notices;
        })
        else option_map (λ (next : Taken).
        record {
          rights = taken.rights ++ next.right ∷ [];
          state = next.state;
          notices = (waiting ++ taken.notices) ++ next.notices;
        }) (copy_in taken.state space name disposition))
        ≡ option_map (beyond waiting)
        (if b then Some (record taken {
          rights = taken.rights
              ++ (record { kind = received_kind disposition; port = passed name }) ∷ [];
        })
        else option_map (λ (next : Taken).
        record {
          rights = taken.rights ++ next.right ∷ [];
          state = next.state;
          notices = taken.notices ++ next.notices;
        }) (copy_in taken.state space name disposition))
    by_name true = refl
    by_name false = by_copy (copy_in taken.state space name disposition)

abbrev go_on : (TakenRights → Option TakenRights) → Option TakenRights → Option TakenRights
go_on next o = elim o as (λ _. Option TakenRights) [ None ↦ None | Some taken ↦ next taken ]

after : (next : TakenRights → Option TakenRights) (waiting : List Effect)
    → ((taken : TakenRights) → next (beyond waiting taken) ≡ option_map (beyond waiting) (next taken))
    → (o : Option TakenRights)
    → go_on next (option_map (beyond waiting) o) ≡ option_map (beyond waiting) (go_on next o)
after next waiting same None = refl
after next waiting same (Some taken) = same taken

all : (space : ℕ) (disposition : Disposition) (names : List ℕ) (waiting : List Effect) (taken : TakenRights)
    → take_rights space disposition names (beyond waiting taken)
    ≡ option_map (beyond waiting) (take_rights space disposition names taken)
all space disposition [] waiting taken = refl
all space disposition (name ∷ names) waiting taken =
    ap (go_on (take_rights space disposition names)) (one space name disposition waiting taken)
    ∙ after (take_rights space disposition names) waiting (all space disposition names waiting)
    (take_right space name disposition taken)

in_item : (space : ℕ) (item : Item) (by : Option Disposition) (waiting : List Effect) (taken : TakenRights)
    → take_item space item by (beyond waiting taken) ≡ option_map (beyond waiting) (take_item space item by taken)
in_item space item None waiting taken = refl
in_item space item (Some disposition) waiting taken = all space disposition (names_of_item item) waiting taken

pub in_items : (space : ℕ) (items : List Item) (waiting : List Effect) (taken : TakenRights)
    → take_items space items (beyond waiting taken) ≡ option_map (beyond waiting) (take_items space items taken)
in_items space [] waiting taken = refl
in_items space (item ∷ items) waiting taken =
    ap (go_on (take_items space items)) (in_item space item (disposition_of item.type_name) waiting taken)
    ∙ after (take_items space items) waiting (in_items space items waiting)
    (take_item space item (disposition_of item.type_name) taken)
