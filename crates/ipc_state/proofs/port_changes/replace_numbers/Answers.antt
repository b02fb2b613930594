use Rattle.std.proofs.Common.{sym, subst}
use Rattle.ipc_state.specs.Members.{AreMembers}
use Rattle.ports.specs.Passed.{TrackedPorts}
use Rattle.ipc_state.proofs.Kept.{numbers_replaced}
use Rattle.ipc_state.proofs.port_changes.replace_numbers.Goals as goal

pub returns-clause-members : goal.returns-clause-members
returns-clause-members c = λ are.
    subst (λ (p : TrackedPorts). AreMembers c.args.spaces.now.current p.current.ports c.move_places.new.members.current)
    (sym (c.in_ok-set_numbers.ensures.ok))
    (numbers_replaced c.args.spaces.now.current c.args.ports.now.current.ports c.args.serial c.args.former
    c.args.numbers c.args.members.now.current c.move_places.new.members.current c.requires.there
    c.in_ok-move_places.ensures.ok are)
