use Rattle.std.proofs.Common.{ap, sym, ◌∙◌}
use Rattle.std.specs.FinMap.{get, insert}
use Rattle.ipc_model.specs.state.Ipc.{Names}
use Rattle.spaces.specs.Laws.{both}
use Rattle.spaces.specs.Slots.{SpaceMap, TrackedSpaces, names_changed}
use Rattle.spaces.specs.Renamed.{renamed, none_removed, not_renamed, room_left}
use Rattle.spaces.proofs.spaces.Spaces.rename.Goals as goal

pub returns-in_default-clause-ok : goal.returns-in_default-clause-ok
returns-in_default-clause-ok c =
    let none = sym c.in_ok-former.ensures.former ∙ c.in_default.is in
    c.in_ok-former.ensures.ok
    ∙ ap (λ (s : SpaceMap). record c.args.self.now { current = s })
    (none_removed c.args.self.now.current c.args.space c.args.from none
    ∙ not_renamed c.args.self.now.current c.args.space c.args.from c.args.to none)

pub put_name-requires-clause-room : goal.put_name-requires-clause-room
put_name-requires-clause-room c = λ names there _.
    room_left c.args.self.now.current c.args.space c.args.from c.in-Some.entry names
    (sym c.in_ok-former.ensures.former ∙ c.in-Some.is)
    (ap (λ (t : TrackedSpaces). get t.current c.args.space) (sym c.in_ok-former.ensures.ok) ∙ there)
    c.show_names_few.ensures

pub returns-clause-ok : goal.returns-clause-ok
returns-clause-ok c =
    let change : Names → Names = λ names. insert names c.args.to c.in-Some.entry in
    let whole =
    renamed c.args.self.now.current c.args.space c.args.from c.args.to c.in-Some.entry
    (sym c.in_ok-former.ensures.former ∙ c.in-Some.is) in
    let first = c.in_ok-former.ensures.ok in
    c.in_ok-put_name.ensures.ok ∙ both _ _ _ _ (ap (λ (t : TrackedSpaces). t.before) first)
    (ap (λ (t : TrackedSpaces). names_changed t.current c.args.space change) first ∙ whole)
