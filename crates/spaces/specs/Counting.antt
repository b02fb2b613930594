-- The send and send-once rights of names, with the targets of their requests, counted by port.
use Rattle.std.proofs.Common.{◌≡◌, ℕ, ◌+◌, ◌^◌, ◌<◌, ◌==◌, Bool, true, false, cond, Option, None, Some, refl, sym, ◌∙◌, ap, subst, arith}
use Rattle.std.specs.Prelude.{if◌then◌else◌}
use Rattle.std.specs.Cmp.{nat_cmp_total}
use Rattle.std.specs.Ordering.{nat_cmp, eq_by_cmp}
use Rattle.std.specs.FinMap.{empty, get, insert, remove, get-empty, get-insert, get-remove, same_map, nat_cmp-IsAntisymmetric}
use Rattle.ipc_laws.specs.EntryChanges.{under, changed, changed_weight}
use Rattle.ipc_laws.specs.MapLaws.{entries_none}
use Rattle.ipc_laws.specs.MapSums.{total, weigh, weight, total-new, total-insert, total-remove}
use Rattle.ipc_laws.specs.Weights.{Weight, entry_weigh, target_weigh, names_weigh}
use Rattle.ipc_model.specs.declared.entry.Entry.{Entry}
use Rattle.ipc_model.specs.declared.entry.Entry.TheVariants.{Port, SendOnce, Set, Dead}
use Rattle.ipc_model.specs.declared.message.RightKind.TheVariants as kind
use Rattle.ipc_model.specs.state.Ipc.{Names}
use Rattle.port_indexes.specs.Counts.{Counts, count_at, none_counted}
use Rattle.port_indexes.specs.Rights.{AreCounted, right_weight, right_more, right_fewer, counted_more, counted_fewer, counted_same}
use Rattle.spaces.specs.Slots.{SpaceMap, names_changed}

-- the weight of the rights of all names, with the targets of their requests
abbrev pub spaces_weigh : Weight → SpaceMap → ℕ
spaces_weigh w spaces = total (λ space names. names_weigh w names) spaces

-- serials fit 64 bits
abbrev pub IsWordIfSome : Option ℕ → Type 0
IsWordIfSome None = Unit {0}
IsWordIfSome (Some serial) = serial < 2 ^ 64

abbrev pub AreWords : Option Entry → Type 0
AreWords None = Unit {0}
AreWords (Some (Port rights)) = (rights.port < 2 ^ 64) × IsWordIfSome rights.dead_name_target
AreWords (Some (SendOnce port target)) = (port < 2 ^ 64) × IsWordIfSome target
AreWords (Some Set) = Unit {0}
AreWords (Some (Dead references)) = Unit {0}

-- the counts with, and without, the target of a request, a send right if there are references, and the rights of an
-- entry
abbrev pub target_more : Counts → Option ℕ → Counts
target_more counts None = counts
target_more counts (Some serial) = right_more counts kind.SendOnce serial

abbrev pub target_fewer : Counts → Option ℕ → Counts
target_fewer counts None = counts
target_fewer counts (Some serial) = right_fewer counts kind.SendOnce serial

abbrev pub send_more : Counts → ℕ → ℕ → Counts
send_more counts references port = if references == 0 then counts else right_more counts kind.Send port

abbrev pub send_fewer : Counts → ℕ → ℕ → Counts
send_fewer counts references port = if references == 0 then counts else right_fewer counts kind.Send port

abbrev pub entry_more : Counts → Option Entry → Counts
entry_more counts None = counts
entry_more counts (Some (Port rights)) = target_more (send_more counts rights.send rights.port) rights.dead_name_target
entry_more counts (Some (SendOnce port target)) = target_more (right_more counts kind.SendOnce port) target
entry_more counts (Some Set) = counts
entry_more counts (Some (Dead references)) = counts

abbrev pub entry_fewer : Counts → Option Entry → Counts
entry_fewer counts None = counts
entry_fewer counts (Some (Port rights)) =
    send_fewer (target_fewer counts rights.dead_name_target) rights.send rights.port
entry_fewer counts (Some (SendOnce port target)) = right_fewer (target_fewer counts target) kind.SendOnce port
entry_fewer counts (Some Set) = counts
entry_fewer counts (Some (Dead references)) = counts

module _ (f : Weight → ℕ) (counts : Counts) where
  target_counted : (target : Option ℕ) → IsWordIfSome target → AreCounted f counts
      → AreCounted (λ w. f w + target_weigh w target) (target_more counts target)
  target_counted None small are = counted_same f (λ w. f w + 0) counts (λ w. omega arith) are
  target_counted (Some serial) small are = counted_more f counts kind.SendOnce serial small are

  target_discounted : (target : Option ℕ) → IsWordIfSome target → AreCounted (λ w. f w + target_weigh w target) counts
      → AreCounted f (target_fewer counts target)
  target_discounted None small are = counted_same (λ w. f w + 0) f counts (λ w. omega arith) are
  target_discounted (Some serial) small are = counted_fewer f counts kind.SendOnce serial small are

  send_counted : (references port : ℕ) → port < 2 ^ 64 → AreCounted f counts
      → AreCounted (λ w. f w + (if references == 0 then 0 else w kind.Send port)) (send_more counts references port)
  send_counted references port small are =
      elim (references == 0) as (λ (b : Bool). AreCounted
      (λ w. f w + cond b 0 (w kind.Send port)) (cond b counts (right_more counts kind.Send port))) [
        | true ↦ counted_same f (λ w. f w + 0) counts (λ w. omega arith) are
        | false ↦ counted_more f counts kind.Send port small are
      ]

  send_discounted : (references port : ℕ) → port < 2 ^ 64
      → AreCounted (λ w. f w + (if references == 0 then 0 else w kind.Send port)) counts
      → AreCounted f (send_fewer counts references port)
  send_discounted references port small are =
      elim (references == 0) as (λ (b : Bool). AreCounted (λ w. f w + cond b 0 (w kind.Send port)) counts
      → AreCounted f (cond b counts (right_fewer counts kind.Send port))) [
        | true ↦ λ (had : _). counted_same (λ w. f w + 0) f counts (λ w. omega arith) had
        | false ↦ λ (had : _). counted_fewer f counts kind.Send port small had
      ] are

  receive_counted : (receive : Bool) (port : ℕ) → port < 2 ^ 64 → AreCounted f counts
      → AreCounted (λ w. f w + (if receive then w kind.Receive port else 0)) counts
  receive_counted true port small are = counted_more f counts kind.Receive port small are
  receive_counted false port small are = counted_same f (λ w. f w + 0) counts (λ w. omega arith) are

  receive_discounted : (receive : Bool) (port : ℕ) → port < 2 ^ 64
      → AreCounted (λ w. f w + (if receive then w kind.Receive port else 0)) counts → AreCounted f counts
  receive_discounted true port small are = counted_fewer f counts kind.Receive port small are
  receive_discounted false port small are = counted_same (λ w. f w + 0) f counts (λ w. omega arith) are

-- the rights of an entry are added to the counts, or subtracted
pub entry_counted : (f : Weight → ℕ) (counts : Counts) (entry : Option Entry) → AreWords entry → AreCounted f counts
    → AreCounted (λ w. f w + under w entry) (entry_more counts entry)
entry_counted f counts None small are = counted_same f (λ w. f w + 0) counts (λ w. omega arith) are
entry_counted f counts (Some (Port rights)) small are =
    counted_same _ (λ w. f w + entry_weigh w (Port rights)) _ (λ w. omega arith)
    (target_counted _ (send_more counts rights.send rights.port) rights.dead_name_target small.1
    (send_counted (λ w. f w + (if rights.receive then w kind.Receive rights.port else 0)) counts rights.send rights.port
    small.0 (receive_counted f counts rights.receive rights.port small.0 are)))
entry_counted f counts (Some (SendOnce port target)) small are =
    counted_same _ (λ w. f w + entry_weigh w (SendOnce port target)) _ (λ w. omega arith)
    (target_counted (λ w. f w + w kind.SendOnce port) (right_more counts kind.SendOnce port) target small.1
    (counted_more f counts kind.SendOnce port small.0 are))
entry_counted f counts (Some Set) small are = counted_same f (λ w. f w + 0) counts (λ w. omega arith) are
entry_counted f counts (Some (Dead references)) small are = counted_same f (λ w. f w + 0) counts (λ w. omega arith) are

pub entry_discounted : (f : Weight → ℕ) (counts : Counts) (entry : Option Entry) → AreWords entry
    → AreCounted (λ w. f w + under w entry) counts → AreCounted f (entry_fewer counts entry)
entry_discounted f counts None small are = counted_same (λ w. f w + 0) f counts (λ w. omega arith) are
entry_discounted f counts (Some (Port rights)) small are =
    let received : Weight → ℕ = λ w. f w + (if rights.receive then w kind.Receive rights.port else 0) in
    let sent : Weight → ℕ = λ w. received w + (if rights.send == 0 then 0 else w kind.Send rights.port) in
    receive_discounted f _ rights.receive rights.port small.0
    (send_discounted received _ rights.send rights.port small.0
    (target_discounted sent counts rights.dead_name_target small.1
    (counted_same (λ w. f w + entry_weigh w (Port rights))
    (λ w. sent w + target_weigh w rights.dead_name_target) counts (λ w. omega arith) are)))
entry_discounted f counts (Some (SendOnce port target)) small are =
    let sent : Weight → ℕ = λ w. f w + w kind.SendOnce port in
    counted_fewer f _ kind.SendOnce port small.0
    (target_discounted sent counts target small.1
    (counted_same (λ w. f w + entry_weigh w (SendOnce port target)) (λ w. sent w + target_weigh w target) counts
    (λ w. omega arith) are))
entry_discounted f counts (Some Set) small are = counted_same (λ w. f w + 0) f counts (λ w. omega arith) are
entry_discounted f counts (Some (Dead references)) small are =
    counted_same (λ w. f w + 0) f counts (λ w. omega arith) are

-- The weight of the spaces after the entry of a name was replaced.
replaced : (names : Names) (name : ℕ) (change : Names → Names) (o : Option Entry)
    → ((n : ℕ) → get (change names) n ≡ cond (eq_by_cmp nat_cmp n name) o (get names n))
    → change names ≡ changed names name o
replaced names name change None each =
    same_map nat_cmp_total nat_cmp-IsAntisymmetric (change names) (remove names name)
    (λ n. each n ∙ sym (get-remove nat_cmp_total names name n))
replaced names name change (Some entry) each =
    same_map nat_cmp_total nat_cmp-IsAntisymmetric (change names) (insert names name entry)
    (λ n. each n ∙ sym (get-insert nat_cmp_total names name entry n))

pub moved_weight : (w : Weight) (spaces : SpaceMap) (space name : ℕ) (names : Names) (change : Names → Names)
    (o : Option Entry) → get spaces space ≡ Some names
    → ((n : ℕ) → get (change names) n ≡ cond (eq_by_cmp nat_cmp n name) o (get names n))
    → spaces_weigh w spaces + under w o ≡ spaces_weigh w (names_changed spaces space change) + under w (get names name)
moved_weight w spaces space name names change o there each =
    omega (
      arith,
      total-insert (λ (s : ℕ) (ns : Names). names_weigh w ns) spaces space (change names),
      ap (weight (λ (s : ℕ) (ns : Names). names_weigh w ns) space) there,
      ap (names_weigh w) (replaced names name change o each),
      changed_weight w names name (get names name) o refl,
      ap (λ (m : Option Names). spaces_weigh w
          (elim m as (λ _. SpaceMap) [ None ↦ spaces | Some ns ↦ insert spaces space (change ns) ])) there,
    )

-- the counts of the rights of all names in the spaces
abbrev pub SpacesAreCounted : SpaceMap → Counts → Type 0
SpacesAreCounted spaces counts = AreCounted (λ w. spaces_weigh w spaces) counts

pub moved_counted : (spaces : SpaceMap) (old new : Counts) (space name : ℕ) (names : Names) (change : Names → Names)
    (o : Option Entry) → get spaces space ≡ Some names
    → ((n : ℕ) → get (change names) n ≡ cond (eq_by_cmp nat_cmp n name) o (get names n)) → AreWords (get names name)
    → AreWords o → new ≡ entry_fewer (entry_more old o) (get names name) → SpacesAreCounted spaces old
    → SpacesAreCounted (names_changed spaces space change) new
moved_counted spaces old new space name names change o there each small other is are =
    subst (SpacesAreCounted (names_changed spaces space change)) (sym is)
    (entry_discounted (λ w. spaces_weigh w (names_changed spaces space change)) (entry_more old o)
    (get names name) small
    (counted_same (λ w. spaces_weigh w spaces + under w o)
    (λ w. spaces_weigh w (names_changed spaces space change) + under w (get names name)) (entry_more old o)
    (λ w. moved_weight w spaces space name names change o there each)
    (entry_counted (λ w. spaces_weigh w spaces) old o other are)))

-- no spaces
no_names : (w : Weight) → names_weigh w empty ≡ 0
no_names w = ap (weigh (λ (e : ℕ × Entry). entry_weigh w e.1)) entries_none

no_spaces : (w : Weight) → spaces_weigh w empty ≡ 0
no_spaces w = ap (weigh (λ (e : ℕ × Names). names_weigh w e.1)) entries_none

pub nothing_counted : (spaces : SpaceMap) (counts : Counts) → spaces ≡ empty → counts ≡ empty
    → SpacesAreCounted spaces counts
nothing_counted spaces counts none nothing = record {
  sends = λ serial small. none_of 0 serial ∙ sym (weighs_none (right_weight kind.Send serial));
  onces = λ serial small. none_of 1 serial ∙ sym (weighs_none (right_weight kind.SendOnce serial));
}
  where
    none_of : (first serial : ℕ) → count_at counts first serial ≡ 0
    none_of first serial =
        ap (λ (m : Counts). count_at m first serial) nothing ∙ none_counted empty first serial (get-empty nat_cmp _)

    weighs_none : (w : Weight) → spaces_weigh w spaces ≡ 0
    weighs_none w = ap (spaces_weigh w) none ∙ no_spaces w

-- a space without names doesn't change the counts
pub opened_counted : (spaces : SpaceMap) (space : ℕ) (counts : Counts) → get spaces space ≡ None
    → SpacesAreCounted spaces counts → SpacesAreCounted (insert spaces space empty) counts
opened_counted spaces space counts none are =
    counted_same (λ w. spaces_weigh w spaces) (λ w. spaces_weigh w (insert spaces space empty)) counts
    (λ w. omega (arith, total-new (λ (s : ℕ) (ns : Names). names_weigh w ns) spaces space empty none, no_names w))
    are

pub closed_counted : (spaces : SpaceMap) (space : ℕ) (counts : Counts)
    → ((names : Names) → get spaces space ≡ Some names → names ≡ empty) → SpacesAreCounted spaces counts
    → SpacesAreCounted (remove spaces space) counts
closed_counted spaces space counts none are =
    counted_same (λ w. spaces_weigh w spaces) (λ w. spaces_weigh w (remove spaces space)) counts
    (λ w. omega (
      arith,
      total-remove (λ (s : ℕ) (ns : Names). names_weigh w ns) spaces space,
      weighs_none w (get spaces space) refl,
    )) are
  where
    weighs_none : (w : Weight) (o : Option Names) → get spaces space ≡ o
        → weight (λ (s : ℕ) (ns : Names). names_weigh w ns) space (get spaces space) ≡ 0
    weighs_none w None at = ap (weight (λ (s : ℕ) (ns : Names). names_weigh w ns) space) at
    weighs_none w (Some names) at =
        ap (weight (λ (s : ℕ) (ns : Names). names_weigh w ns) space) at ∙ ap (names_weigh w) (none names at)
        ∙ no_names w
