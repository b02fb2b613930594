use Rattle.std.proofs.Common.{◌≡◌, ◌<◌, ◌++◌, [], ◌∷◌, length, take, sym, ◌∙◌, ap, subst, arith}
use Rattle.std.proofs.lemmas.List.{take_more, take_all}
use Rattle.disk.specs.Log.{slots_of}
use Rattle.disk.proofs.Crashes.{IsTornReplay, torn_replay_none, torn_replay_on, left_is_left}
use Rattle.disk.proofs.memory.MemDisk.left_by_crash.Goals as goal

pub loop-call-init : goal.loop-call-init
loop-call-init c = torn_replay_none _ _ _ c.in_ok-left.ensures c.in_ok-seen.ensures

pub loop-call-preserved : goal.loop-call-preserved
loop-call-preserved c =
    let items = c.deref-call-items.result.now in
    let at = c.loop-call.call-index in
    let inside : at < length items = omega arith in
    torn_replay_on _ _ _ c.call-item.result _ _ _ _ c.loop-call.invariant
    (take_more items at c.call-item.result inside ∙ ap (λ call. take at items ++ call ∷ []) (sym c.call-item.is))
    c.in_ok-redo.ensures.seen c.in_ok-redo.ensures.left

pub returns : goal.returns
returns c =
    let log = c.args.self.now.log.items in
    let all : take c.loop-call.call-index c.deref-call-items.result.now ≡ take (length log) log =
    take_all _ _ (omega arith) ∙ c.deref-call-items.ensures.value ∙ sym (take_all (length log) log (omega arith)) in
    let torn =
    subst (λ l. IsTornReplay (slots_of c.args.self.now.first) l (slots_of c.loop-call.left)
    (slots_of c.loop-call.seen)) all c.loop-call.invariant in
    left_is_left _ _ _ _ torn
