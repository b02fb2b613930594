use Rattle.std.proofs.Common.{ℕ, ◌+◌, Option, List, ◌++◌, append_assoc, append-nil, ap, sym, ◌∙◌, arith}
use Rattle.ipc_model.specs.calls.PortCalls.{names_in}
use Rattle.ipc_model.specs.state.Ipc.{entry_at}
use Rattle.ipc_model.specs.declared.entry.Entry.{Entry}
use Rattle.ipc_state.specs.SetNames.{from_all, from_next, from_none, member_at, members_from}
use Rattle.ipc_state.specs.There.{entry_named}
use Rattle.ipc_state.proofs.state.IpcState.members.Goals as goal

abbrev Items : Type 0
Items = List (ℕ × ℕ)

pub loop-name-init : goal.loop-name-init
loop-name-init c = record {
  gathered =
      ap (λ (xs : Items). xs ++ members_from c.args.self.now.current c.args.set
      (names_in c.args.self.now.current c.args.space) 0) c.new-members.ensures.items
      ∙ from_all c.args.self.now.current c.args.set (names_in c.args.self.now.current c.args.space);
  fits = omega arith;
}

pub loop-name-preserved : goal.loop-name-preserved
loop-name-preserved c =
    let state = c.args.self.now.current in
    let names = names_in state c.args.space in
    record {
      gathered =
          ap (λ (xs : Items). xs ++ members_from state c.args.set names (c.from-from.result + 1))
          c.in_ok-add_member.ensures
          ∙ ap (λ (n : ℕ). (c.loop-name.members.items
          ++ member_at state c.args.set c.in-Some.name (entry_at state c.args.space c.in-Some.name))
          ++ members_from state c.args.set names (n + 1)) c.from-from.ensures
          ∙ append_assoc c.loop-name.members.items
          (member_at state c.args.set c.in-Some.name (entry_at state c.args.space c.in-Some.name))
          (members_from state c.args.set names (c.in-Some.name + 1))
          ∙ ap (λ (o : Option Entry). c.loop-name.members.items
          ++ (member_at state c.args.set c.in-Some.name o
          ++ members_from state c.args.set names (c.in-Some.name + 1)))
          (entry_named state c.args.space c.in-Some.name)
          ∙ ap (λ (xs : Items). c.loop-name.members.items ++ xs)
          (sym (from_next state c.args.set names c.loop-name.from c.in-Some.name c.in-Some.ensures.0
          c.in-Some.ensures.1))
          ∙ c.loop-name.invariant.gathered;
      fits = omega (arith, c.from-from.ensures);
    }

pub returns : goal.returns
returns c =
    let state = c.args.self.now.current in
    sym (append-nil c.loop-name.members.items) ∙ ap
    (λ (xs : Items). c.loop-name.members.items ++ xs)
    (sym (from_none state c.args.set (names_in state c.args.space) c.loop-name.from c.in_default.ensures))
    ∙ c.loop-name.invariant.gathered
