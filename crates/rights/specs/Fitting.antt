-- Rights that arrive one after another under names for which there is room.
use Rattle.std.specs.Prelude.{◌≡◌, ◌≢◌, ℕ, ◌+◌, ◌<◌, ◌≤◌, Bool, true, false, cond, ◌&&◌, ◌||◌, not, ◌==◌, List, [], ◌∷◌, Option, None, Some, is_none, is_some, MatchOption, if◌then◌else◌, refl}
use Rattle.std.proofs.Common.{sym, ◌∙◌, ap, subst, inl, inr, arith}
use Rattle.std.specs.Cmp.{nat_cmp_total}
use Rattle.std.specs.List.{list_any}
use Rattle.std.specs.FinMap as finmap
use Rattle.std.specs.FinMap.{len-insert}
use Rattle.codes.specs.declared.limits.TheConstants.{MAX_NAMES}
use Rattle.ipc_model.specs.declared.entry.Entry.{Entry}
use Rattle.ipc_model.specs.declared.entry.Entry.TheVariants.{Port, SendOnce, Set, Dead}
use Rattle.ipc_model.specs.declared.entry.PortRights.{PortRights}
use Rattle.ipc_model.specs.declared.message.CarriedRight.{CarriedRight}
use Rattle.ipc_model.specs.declared.message.PortInMessage.{PortInMessage}
use Rattle.ipc_model.specs.declared.message.PortInMessage.TheVariants as in_message
use Rattle.ipc_model.specs.declared.message.RightKind.{RightKind}
use Rattle.ipc_model.specs.declared.message.RightKind.TheVariants as kind
use Rattle.ipc_model.specs.rights.CopyOut.{MayArrive, names_after, merged_entry, merged_rights, new_entry, names_needed, named_with, wants_name}
use Rattle.ipc_model.specs.state.Ipc.{Names, IsUnused, name_of_port, port_held}
use Rattle.ipc_laws.specs.Arrivals.{HasName, named_there, not_unnamed, same_live}
use Rattle.ipc_laws.specs.ListLaws.{some_same}
use Rattle.ipc_laws.specs.MapLaws.{get-here, get-there}
use Rattle.ipc_laws.specs.Others.{number_decided, number_same}

-- The space has room for the names that the rights need, and each port counted as named has a name.
pub record Fits (start now : Names) (named : List ℕ) (rights : List CarriedRight) : Type 0 where
  pub room : finmap.len now + names_needed start named rights ≤ MAX_NAMES
  pub known : (serial : ℕ) → (is_none (name_of_port start serial) && not (list_any (λ port. port == serial) named))
      ≡ false → HasName now serial

-- The effect of one arriving right on the names: ports keep their names, the right's own port has one, and there is one
-- name more only if the right needed one.
record HasArrived (names after : Names) (what : RightKind) (port : PortInMessage) : Type 0 where
  still : (serial : ℕ) → HasName names serial → HasName after serial
  own : (serial : ℕ) → port ≡ in_message.Live serial → what ≢ kind.SendOnce → HasName after serial
  more : finmap.len after ≤ finmap.len names + 1
  same : ((serial : ℕ) → port ≡ in_message.Live serial → (what ≢ kind.SendOnce) × HasName names serial)
      → finmap.len after ≡ finmap.len names

one_more : (names : Names) (name : ℕ) (entry : Entry)
    → finmap.len (finmap.insert names name entry) ≤ finmap.len names + 1
one_more names name entry =
    subst (λ (n : ℕ). n ≤ finmap.len names + 1) (sym (len-insert nat_cmp_total names name entry))
    (elim (finmap.contains_key names name)
    as (λ (b : Bool). cond b (finmap.len names) (finmap.len names + 1) ≤ finmap.len names + 1)
    [ true ↦ omega arith | false ↦ omega arith ])

no_more : (names : Names) (name : ℕ) (entry before : Entry) → finmap.get names name ≡ Some before
    → finmap.len (finmap.insert names name entry) ≡ finmap.len names
no_more names name entry before at =
    len-insert nat_cmp_total names name entry ∙ ap
    (λ (b : Bool). cond b (finmap.len names) (finmap.len names + 1)) (ap is_some at)

named_still : (names : Names) (name serial : ℕ) (entry : Entry)
    → ((e : Entry) → finmap.get names name ≡ Some e → port_held e ≡ Some serial → port_held entry ≡ Some serial)
    → HasName names serial → HasName (finmap.insert names name entry) serial
named_still names name serial entry keeps has =
    elim (number_decided has.name name) as (λ _. HasName (finmap.insert names name entry) serial) [
      | inl apart ↦ record {
        name = has.name;
        entry = has.entry;
        at = get-there names name entry has.name apart ∙ has.at;
        held = has.held;
      }
      | inr same ↦ record {
        name = name;
        entry = entry;
        at = get-here names name entry;
        held = keeps has.entry (ap (finmap.get names) (sym same) ∙ has.at) has.held;
      }
    ]

held_new : (what : RightKind) (serial : ℕ) → what ≢ kind.SendOnce → port_held (new_entry what serial) ≡ Some serial
held_new kind.Receive serial apart = refl
held_new kind.Send serial apart = refl
held_new kind.SendOnce serial apart = absurd (apart refl)

merged_holds : (what : RightKind) (rights : PortRights)
    → port_held (Port (merged_rights what rights)) ≡ Some rights.port
merged_holds kind.Receive rights = refl
merged_holds kind.Send rights = refl
merged_holds kind.SendOnce rights = refl

-- the right arrives under an unused name
fresh : (names : Names) (what : RightKind) (serial name : ℕ) → finmap.get names name ≡ None
    → ((other : ℕ) → in_message.Live serial ≡ in_message.Live other → HasName names other → what ≢ kind.SendOnce → ⊥)
    → HasArrived names (finmap.insert names name (merged_entry what serial (finmap.get names name))) what
    (in_message.Live serial)
fresh names what serial name free alone =
    subst (λ (o : Option Entry). HasArrived names (finmap.insert names name (merged_entry what serial o)) what
    (in_message.Live serial)) (sym free)
    (record {
      still =
          λ (other : ℕ) (has : _). named_still names name other (new_entry what serial)
          (λ (e : Entry) (at : _) (_ : _). absurd (cc (sym free ∙ at))) has;
      own =
          λ (other : ℕ) (is : _) (apart : _).
          record {
            name = name;
            entry = new_entry what serial;
            at = get-here names name (new_entry what serial);
            held = held_new what serial apart ∙ ap (λ k. Some k) (same_live serial other is);
          };
      more = one_more names name (new_entry what serial);
      same = λ (has : _). absurd (alone serial refl (has serial refl).1 (has serial refl).0);
    })

-- the right arrives under the name of its port
merged : (names : Names) (what : RightKind) (name : ℕ) (entry : Entry) (serial : ℕ) → finmap.get names name ≡ Some entry
    → port_held entry ≡ Some serial
    → HasArrived names (finmap.insert names name (merged_entry what serial (finmap.get names name))) what
    (in_message.Live serial)
merged names what name (Port rights) serial at held =
    let into : Entry = Port (merged_rights what rights) in
    let holds : port_held into ≡ Some serial = merged_holds what rights ∙ held in
    subst (λ (o : Option Entry). HasArrived names (finmap.insert names name (merged_entry what serial o)) what
    (in_message.Live serial)) (sym at)
    (record {
      still =
          λ (other : ℕ) (has : _). named_still names name other into
          (λ (e : Entry) (at_too : _) (held_too : _). holds ∙ sym held
          ∙ sym (ap port_held (some_same e (Port rights) (sym at_too ∙ at))) ∙ held_too) has;
      own =
          λ (other : ℕ) (is : _) (_ : _).
          record {
            name = name;
            entry = into;
            at = get-here names name into;
            held = holds ∙ ap (λ k. Some k) (same_live serial other is);
          };
      more = one_more names name into;
      same = λ (_ : _). no_more names name into (Port rights) at;
    })
merged names what name (SendOnce port target) serial at held = absurd (cc held)
merged names what name Set serial at held = absurd (cc held)
merged names what name (Dead references) serial at held = absurd (cc held)

by_name : (names : Names) (what : RightKind) (serial name : ℕ) (there : Option ℕ) → name_of_port names serial ≡ there
    → what ≢ kind.SendOnce → MatchOption there (IsUnused names name) (λ known. name ≡ known)
    → HasArrived names (finmap.insert names name (merged_entry what serial (finmap.get names name))) what
    (in_message.Live serial)
by_name names what serial name None is apart unused =
    fresh names what serial name unused.free
    (λ (other : ℕ) (live : _) (has : _) (_ : _). not_unnamed names serial
    (subst (HasName names) (sym (same_live serial other live)) has) is)
by_name names what serial name (Some known) is apart same =
    let at = named_there names serial known is in
    merged names what name at.0 serial (ap (finmap.get names) same ∙ at.1) at.2

arrived : (names : Names) (what : RightKind) (port : PortInMessage) (name : ℕ) → MayArrive names what port name
    → HasArrived names (names_after names what port name) what port
arrived names what in_message.Null name may =
    record {
      still = λ (_ : _) (has : _). has;
      own = λ (_ : _) (is : _) (_ : _). absurd (cc is);
      more = omega arith;
      same = λ (_ : _). refl;
    }
arrived names what in_message.Dead name may =
    record {
      still = λ (_ : _) (has : _). has;
      own = λ (_ : _) (is : _) (_ : _). absurd (cc is);
      more = omega arith;
      same = λ (_ : _). refl;
    }
arrived names kind.SendOnce (in_message.Live serial) name unused =
    fresh names kind.SendOnce serial name unused.free (λ (_ : _) (_ : _) (_ : _) (apart : _). apart refl)
arrived names kind.Send (in_message.Live serial) name may =
    by_name names kind.Send serial name (name_of_port names serial) refl (λ (e : _). cc e) may
arrived names kind.Receive (in_message.Live serial) name may =
    by_name names kind.Receive serial name (name_of_port names serial) refl (λ (e : _). cc e) may

-- a port whose right needs no name by the count has a name
has_one : (start now : Names) (named : List ℕ) (rights : List CarriedRight) (what : RightKind) (port : PortInMessage)
    → Fits start now named rights → wants_name start named what port ≡ false → (serial : ℕ)
    → port ≡ in_message.Live serial
    → (what ≢ kind.SendOnce) × HasName now serial
has_one start now named rights what in_message.Null fits unwanted serial is = absurd (cc is)
has_one start now named rights what in_message.Dead fits unwanted serial is = absurd (cc is)
has_one start now named rights kind.SendOnce (in_message.Live n) fits unwanted serial is = absurd (cc unwanted)
has_one start now named rights kind.Send (in_message.Live n) fits unwanted serial is =
    ((λ (e : _). cc e), subst (HasName now) (same_live n serial is) (fits.known n unwanted))
has_one start now named rights kind.Receive (in_message.Live n) fits unwanted serial is =
    ((λ (e : _). cc e), subst (HasName now) (same_live n serial is) (fits.known n unwanted))

one_named : (start now after : Names) (named : List ℕ) (rights : List CarriedRight) (what : RightKind) (n : ℕ)
    → Fits start now named rights → ((serial : ℕ) → HasName now serial → HasName after serial) → what ≢ kind.SendOnce
    → ((serial : ℕ) → in_message.Live n ≡ in_message.Live serial → what ≢ kind.SendOnce → HasName after serial)
    → (serial : ℕ) → (is_none (name_of_port start serial) && not
    (n == serial || list_any (λ port. port == serial) named)) ≡ false → HasName after serial
one_named start now after named rights what n fits still apart own serial unwanted =
    elim (n == serial) as (λ (b : Bool). (n == serial) ≡ b
    → (is_none (name_of_port start serial) && not (b || list_any (λ port. port == serial) named)) ≡ false
    → HasName after serial) [
      | true ↦ λ (same : _) (_ : _). own serial (ap (λ k. in_message.Live k) (number_same n serial same)) apart
      | false ↦ λ (_ : _) (e : _). still serial (fits.known serial e)
    ] refl unwanted

known_later : (start now after : Names) (named : List ℕ) (rights : List CarriedRight) (what : RightKind)
    (port : PortInMessage) → Fits start now named rights → ((serial : ℕ) → HasName now serial → HasName after serial)
    → ((serial : ℕ) → port ≡ in_message.Live serial → what ≢ kind.SendOnce → HasName after serial)
    → (serial : ℕ) → (is_none (name_of_port start serial) && not
    (list_any (λ port. port == serial) (named_with named what port))) ≡ false → HasName after serial
known_later start now after named rights what in_message.Null fits still own serial unwanted =
    still serial (fits.known serial unwanted)
known_later start now after named rights what in_message.Dead fits still own serial unwanted =
    still serial (fits.known serial unwanted)
known_later start now after named rights kind.SendOnce (in_message.Live n) fits still own serial unwanted =
    still serial (fits.known serial unwanted)
known_later start now after named rights kind.Send (in_message.Live n) fits still own serial unwanted =
    one_named start now after named rights kind.Send n fits still (λ (is : _). cc is) own serial unwanted
known_later start now after named rights kind.Receive (in_message.Live n) fits still own serial unwanted =
    one_named start now after named rights kind.Receive n fits still (λ (is : _). cc is) own serial unwanted

-- if the right arrives under an unused name, the count includes it
by_named : (start now : Names) (named : List ℕ) (rights : List CarriedRight) (what : RightKind) (port : PortInMessage)
    (name : ℕ) → MayArrive now what port name → finmap.get now name ≡ None → (serial : ℕ)
    → port ≡ in_message.Live serial
    → ((what ≢ kind.SendOnce) × HasName now serial → ⊥)
by_named start now named rights what in_message.Null name may free serial is has = cc is
by_named start now named rights what in_message.Dead name may free serial is has = cc is
by_named start now named rights kind.SendOnce (in_message.Live n) name may free serial is has = has.0 refl
by_named start now named rights kind.Send (in_message.Live n) name may free serial is has =
    not_free now n name (name_of_port now n) refl may free (subst (HasName now) (sym (same_live n serial is)) has.1)
  where
    not_free : (names : Names) (n name : ℕ) (there : Option ℕ) → name_of_port names n ≡ there
        → MatchOption there (IsUnused names name) (λ known. name ≡ known) → finmap.get names name ≡ None
        → HasName names n → ⊥
    not_free names n name None at unused free has = not_unnamed names n has at
    not_free names n name (Some known) at same free has =
        let there = named_there names n known at in
        cc (sym free ∙ ap (finmap.get names) same ∙ there.1)
by_named start now named rights kind.Receive (in_message.Live n) name may free serial is has =
    not_free now n name (name_of_port now n) refl may free (subst (HasName now) (sym (same_live n serial is)) has.1)
  where
    not_free : (names : Names) (n name : ℕ) (there : Option ℕ) → name_of_port names n ≡ there
        → MatchOption there (IsUnused names name) (λ known. name ≡ known) → finmap.get names name ≡ None
        → HasName names n → ⊥
    not_free names n name None at unused free has = not_unnamed names n has at
    not_free names n name (Some known) at same free has =
        let there = named_there names n known at in
        cc (sym free ∙ ap (finmap.get names) same ∙ there.1)

pub room_for_one : (start now : Names) (named : List ℕ) (right : CarriedRight) (rights : List CarriedRight)
    (name serial : ℕ) → right.port ≡ in_message.Live serial → Fits start now named (right ∷ rights)
    → MayArrive now right.kind right.port name
    → finmap.get now name ≡ None → finmap.len now < MAX_NAMES
room_for_one start now named right rights name serial live fits may free =
    elim (wants_name start named right.kind right.port)
    as (λ (b : Bool). wants_name start named right.kind right.port ≡ b
    → finmap.len now + ((if b then 1 else 0) + names_needed start (named_with named right.kind right.port) rights)
    ≤ MAX_NAMES → finmap.len now < MAX_NAMES) [
      | true ↦ λ (_ : _) (room : _). omega (arith, room)
      | false ↦ λ (unwanted : _) (_ : _).
          absurd (by_named start now named rights right.kind right.port name may free serial live
          (has_one start now named (right ∷ rights) right.kind right.port fits unwanted serial live))
    ] refl fits.room

-- the remaining rights fit after the first one has arrived
pub fits_later : (start now : Names) (named : List ℕ) (right : CarriedRight) (rights : List CarriedRight) (name : ℕ)
    → Fits start now named (right ∷ rights) → MayArrive now right.kind right.port name
    → Fits start (names_after now right.kind right.port name) (named_with named right.kind right.port) rights
fits_later start now named right rights name fits may =
    let here = arrived now right.kind right.port name may in
    let next : Names = names_after now right.kind right.port name in
    record {
      room =
          elim (wants_name start named right.kind right.port)
          as (λ (b : Bool). wants_name start named right.kind right.port ≡ b
          → finmap.len now + ((if b then 1 else 0) + names_needed start (named_with named right.kind right.port) rights)
          ≤ MAX_NAMES
          → finmap.len next + names_needed start (named_with named right.kind right.port) rights ≤ MAX_NAMES) [
            | true ↦ λ (_ : _) (room : _). omega (arith, room, here.more)
            | false ↦ λ (unwanted : _) (room : _). omega
                (arith, room, here.same (has_one start now named (right ∷ rights) right.kind right.port fits unwanted))
          ] refl fits.room;
      known = known_later start now next named (right ∷ rights) right.kind right.port fits here.still here.own;
    }

-- initially the named ports are those with names in the space
pub fits_first : (names : Names) (rights : List CarriedRight)
    → finmap.len names + names_needed names [] rights ≤ MAX_NAMES → Fits names names [] rights
fits_first names rights room = record {
  room = room;
  known =
      λ (serial : ℕ) (unwanted : _). elim (name_of_port names serial)
      as (λ (o : Option ℕ). name_of_port names serial ≡ o → (is_none o && not false) ≡ false → HasName names serial) [
        | None ↦ λ (_ : _) (e : _). absurd (cc e)
        | Some name ↦ λ (is : _) (_ : _). let at = named_there names serial name is in
            record { name = name; entry = at.0; at = at.1; held = at.2 }
      ] refl unwanted;
}
