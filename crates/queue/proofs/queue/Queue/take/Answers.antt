use Rattle.std.proofs.Common.{List, take, drop, ap, sym, ◌∙◌}
use Rattle.std.proofs.lemmas.List.{drop-drop}
use Rattle.ipc_model.specs.declared.message.Message.{Message}
use Rattle.queue.specs.TrackedList.{TrackedList}
use Rattle.queue.proofs.queue.Queue.take.Goals as goal

pub returns-then-self-len : goal.returns-then-self-len
returns-then-self-len c =
    let items = c.self.inside.messages.items in
    ap (λ (l : List Message). record { before = take c.self.inside.before items; current = l })
    (sym (drop-drop 1 c.self.inside.taken items)) ∙ ap
    (λ (t : TrackedList Message). record { before = t.before; current = drop 1 t.current }) c.self.view_is
