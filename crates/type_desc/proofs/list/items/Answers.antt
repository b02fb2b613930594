use Rattle.std.proofs.Common.{◌≡◌, List, [], ◌∷◌, map, ap, sym, ◌∙◌, subst}
use Rattle.std.proofs.lemmas.List.{map-append}
use Rattle.std.proofs.lemmas.Result.{err_from_is_err_and}
use Rattle.ipc_model.specs.messages.Items.{Item, items_of}
use Rattle.type_desc.specs.Reading.{with_front, one_more, all_read, one_fault}
use Rattle.type_desc.specs.Values.{item_value}
use Rattle.type_desc.proofs.list.items.Goals as goal

pub returns-in_err-item-clause-fault : goal.returns-in_err-item-clause-fault
returns-in_err-item-clause-fault c =
    let failed =
    one_fault _ _ _ _ c.loop-rest.invariant
    (sym c.is_empty.ensures ∙ c.loop-rest-test.true) c.in_err-item.ensures.refused in
    let returned = err_from_is_err_and c.from_residual.result c.from_residual.ensures.1 in
    rw (returned.1, returned.2) failed

pub loop-rest-preserved : goal.loop-rest-preserved
loop-rest-preserved c =
    let read =
    one_more _ _ c.in_ok-item.beyond.now _ (item_value c.in_ok-item.item) c.loop-rest.invariant
    (sym c.is_empty.ensures ∙ c.loop-rest-test.true) c.in_ok-item.ensures.passes c.in_ok-item.ensures.item
    c.in_ok-item.ensures.rest in
    let added =
    ap (map item_value) c.in_ok-push.ensures.items
    ∙ map-append item_value c.loop-rest.items.items (c.in_ok-item.item ∷ []) in
    subst (λ (front : List Item). items_of c.args.body.now ≡ with_front front (items_of c.in_ok-item.beyond.now))
    (sym added) read

pub returns-clause-found : goal.returns-clause-found
returns-clause-found c = all_read _ _ _ c.loop-rest.invariant (sym c.is_empty.ensures ∙ c.loop-rest-test.false)
