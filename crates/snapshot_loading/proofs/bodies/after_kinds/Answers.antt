use Rattle.std.proofs.Common.{◌≡◌, All, true, refl, sym, subst}
use Rattle.ipc_model.specs.declared.message.CarriedRight.{CarriedRight}
use Rattle.ipc_model.specs.declared.message.RightKind.{RightKind}
use Rattle.ipc_model.specs.messages.Items.{is_port_item}
use Rattle.snapshot_loading.specs.KindLaws.{kinds_all, kinds_front}
use Rattle.type_desc.specs.Values.{item_value}
use Rattle.snapshot_loading.proofs.bodies.after_kinds.Goals as goal

pub returns-then-are_all : goal.returns-then-are_all
returns-then-are_all c =
    let item = item_value c.args.item.now in
    let front = c.split_at.result.0.now in
    kinds_front item c.args.rights.now front c.split_at.result.1.now
    (cc (c.if-not-is_port.ensures, c.if-not-is_port.false)) c.split_at.ensures.by_index.0
    c.split_at.ensures.front_len
    (subst (λ (what : RightKind). All (λ (right : CarriedRight). right.kind ≡ what) front) c.kind_of.ensures
    (c.if-are_all.ensures.0 refl))

pub returns-else-are_all : goal.returns-else-are_all
returns-else-are_all c = λ more is.
    let item = item_value c.args.item.now in
    let front = c.split_at.result.0.now in
    let port : is_port_item item ≡ true = cc (c.if-not-is_port.ensures, c.if-not-is_port.false) in
    cc (c.if-are_all.ensures.1 (subst
    (λ (what : RightKind). All (λ (right : CarriedRight). right.kind ≡ what) front) (sym c.kind_of.ensures)
    (kinds_all item c.args.rights.now front c.split_at.result.1.now more port c.split_at.ensures.by_index.0
    c.split_at.ensures.front_len is)))
