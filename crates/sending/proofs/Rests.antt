-- Rights that are taken one after another: refusals, and effects that were pending before.
use Rattle.std.proofs.Common.{◌≡◌, ℕ, ◌<◌, List, [], ◌∷◌, ◌++◌, length, drop, map, Option, None, Some, option_map, Result, Ok, Err, sym, ◌∙◌, ap, subst, append-nil, get_or, suc}
use Rattle.std.proofs.Math.Seq.{drop-cons}
use Rattle.codes.specs.declared.kern_return.KernReturn.{KernReturn}
use Rattle.ipc_model.specs.calls.Tests.{or_refused}
use Rattle.ipc_model.specs.declared.message.CarriedRight.{CarriedRight}
use Rattle.ipc_model.specs.effects.Effects.{Effect}
use Rattle.ipc_model.specs.messages.Items.{Item}
use Rattle.ipc_model.specs.messages.Sending.{TakenRights, take_item, take_items}
use Rattle.ipc_model.specs.rights.Dispositions.{disposition_of}
use Rattle.ipc_model.specs.state.Ipc.{Ipc}
use Rattle.sending.specs.Agrees.{Agrees, IsNoMemory}
use Rattle.sending.specs.SoFar.{so_far}
use Rattle.sending.specs.declared.fault.SendFault.{SendFault}
use Rattle.sending.specs.declared.fault.SendFault.TheVariants.{Refused, NoMemory}
use Rattle.sending.proofs.Prefixed.{beyond, in_items}
use Rattle.type_desc.specs.Values.{item_value}
use Rattle.type_desc.specs.declared.item.Item as declared

abbrev go_on : (TakenRights → Option TakenRights) → Option TakenRights → Option TakenRights
go_on next o = elim o as (λ _. Option TakenRights) [ None ↦ None | Some taken ↦ next taken ]

pub want_is : {X Y : Type 0} (r : Result X KernReturn) (Is : X → Y → Type 0) (fault : SendFault) → IsNoMemory fault
    → Agrees r Is (Err fault)
want_is (Ok x) Is fault want = want
want_is (Err code) Is (Refused other) want = absurd want
want_is (Err code) Is NoMemory want = tt

-- if the first part fails, the whole fails
failed_first : {X Y : Type 0} (code : KernReturn) (o : Option TakenRights) (next : TakenRights → Option TakenRights)
    (Is : TakenRights → X → Type 0) (Then : TakenRights → Y → Type 0) (fault : SendFault)
    → Agrees (or_refused code o) Is (Err fault) → Agrees (or_refused code (go_on next o)) Then (Err fault)
failed_first code None next Is Then fault is = is
failed_first code (Some taken) next Is Then fault is = want_is (or_refused code (next taken)) Then fault is

-- one of the remaining items is refused
pub failed_item : {X Y : Type 0} (code : KernReturn) (space : ℕ) (items : List declared.Item) (at : ℕ)
    (item : declared.Item) (taken : TakenRights) (whole : Option TakenRights) (Is : TakenRights → X → Type 0)
    (Then : TakenRights → Y → Type 0) (fault : SendFault)
    → whole ≡ take_items space (map item_value (drop at items)) taken → at < length items → item ≡ get_or items at item
    → Agrees (or_refused code (take_item space (item_value item) (disposition_of item.type_name) taken)) Is (Err fault)
    → Agrees (or_refused code whole) Then (Err fault)
failed_item code space items at item taken whole Is Then fault left less is failed =
    let first : drop at items ≡ item ∷ drop (suc at) items =
    drop-cons items at item less ∙ ap (λ (i : declared.Item). i ∷ drop (suc at) items) (sym is) in
    let whole_is : whole ≡ go_on (take_items space (map item_value (drop (suc at) items)))
    (take_item space (item_value item) (disposition_of item.type_name) taken) = left ∙ ap
    (λ (l : List declared.Item). take_items space (map item_value l) taken) first in
    subst (λ (o : Option TakenRights). Agrees (or_refused code o) Then (Err fault)) (sym whole_is)
    (failed_first code (take_item space (item_value item) (disposition_of item.type_name) taken)
    (take_items space (map item_value (drop (suc at) items))) Is Then fault failed)

-- Pending effects precede the new ones.

mapped_failed : {X Y : Type 0} (code : KernReturn) (o : Option TakenRights) (change : TakenRights → TakenRights)
    (Is : TakenRights → X → Type 0) (Then : TakenRights → Y → Type 0) (fault : SendFault)
    → Agrees (or_refused code (option_map change o)) Is (Err fault) → Agrees (or_refused code o) Then (Err fault)
mapped_failed code None change Is Then fault is = is
mapped_failed code (Some taken) change Is Then fault is = is

mapped_given : {X Y : Type 0} (code : KernReturn) (o : Option TakenRights) (waiting after : List Effect) (state : Ipc)
    (x : X) (y : Y) (rights : Y → List CarriedRight)
    → Agrees (or_refused code (option_map (beyond waiting) o))
    (λ taken (_ : X). so_far (rights y) state after ≡ taken) (Ok x)
    → Agrees (or_refused code o) (λ taken (v : Y). (rights v ≡ taken.rights) × (state ≡ taken.state)
    × (after ≡ waiting ++ taken.notices)) (Ok y)
mapped_given code None waiting after state x y rights is = absurd is
mapped_given code (Some taken) waiting after state x y rights is = (
  ap (λ (t : TakenRights). t.rights) is,
  ap (λ (t : TakenRights). t.state) is,
  ap (λ (t : TakenRights). t.notices) is,
)

start_is : (space : ℕ) (items : List Item) (state : Ipc) (waiting : List Effect) (none : List CarriedRight)
    → none ≡ [] → take_items space items (so_far none state waiting)
    ≡ option_map (beyond waiting) (take_items space items (so_far [] state []))
start_is space items state waiting none is =
    ap (λ (l : List CarriedRight). take_items space items (so_far l state waiting)) is
    ∙ ap (λ (l : List Effect). take_items space items (so_far [] state l)) (sym (append-nil waiting))
    ∙ in_items space items waiting (so_far [] state [])

pub body_failed : {X Y : Type 0} (code : KernReturn) (space : ℕ) (items : List Item) (state : Ipc)
    (waiting : List Effect) (none : List CarriedRight) (Is : TakenRights → X → Type 0) (Then : TakenRights → Y → Type 0)
    (fault : SendFault) → none ≡ []
    → Agrees (or_refused code (take_items space items (so_far none state waiting))) Is (Err fault)
    → Agrees (or_refused code (take_items space items (so_far [] state []))) Then (Err fault)
body_failed code space items state waiting none Is Then fault is failed =
    mapped_failed code (take_items space items (so_far [] state [])) (beyond waiting) Is Then fault
    (subst (λ (o : Option TakenRights). Agrees (or_refused code o) Is (Err fault))
    (start_is space items state waiting none is) failed)

pub body_given : {X Y : Type 0} (code : KernReturn) (space : ℕ) (items : List Item) (state : Ipc)
    (waiting : List Effect) (none : List CarriedRight) (after : List Effect) (new : Ipc) (x : X) (y : Y)
    (rights : Y → List CarriedRight) → none ≡ []
    → Agrees (or_refused code (take_items space items (so_far none state waiting)))
    (λ taken (_ : X). so_far (rights y) new after ≡ taken) (Ok x)
    → Agrees (or_refused code (take_items space items (so_far [] state [])))
    (λ taken (v : Y). (rights v ≡ taken.rights) × (new ≡ taken.state) × (after ≡ waiting ++ taken.notices)) (Ok y)
body_given code space items state waiting none after new x y rights is given =
    mapped_given code (take_items space items (so_far [] state [])) waiting after new x y rights
    (subst (λ (o : Option TakenRights). Agrees (or_refused code o)
    (λ taken (_ : _). so_far (rights y) new after ≡ taken) (Ok x))
    (start_is space items state waiting none is) given)
