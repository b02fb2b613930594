use Rattle.std.proofs.Common.{◌≡◌, ℕ, Option, is_some, is_none, sym, ◌∙◌, ap, arith}
use Rattle.std.specs.FinMap as finmap
use Rattle.ipc_model.specs.calls.PortCalls.{names_in}
use Rattle.ipc_model.specs.state.Ipc.{Ipc}
use Rattle.port_calls.proofs.Asking.{as_many_names, room_left}
use Rattle.port_calls.proofs.requests.replace_target.Goals as goal

pub give_back-requires : goal.give_back-requires
give_back-requires c = record {
  room = λ asked.
      let left =
      room_left c.args.state.now.current c.args.space c.args.asked.name c.args.asked.variant c.args.asked.sync
      (is_none c.args.target) c.requires.allowed
      (ap (λ (o : Option ℕ). is_some o) (sym c.target_under-former.ensures) ∙ asked) in
      let same : finmap.len (names_in c.set_request.new.state.current c.args.space)
      ≡ finmap.len (names_in c.args.state.now.current c.args.space) =
      ap (λ (s : Ipc). finmap.len (names_in s c.args.space)) c.in_ok-set_request.ensures.state
      ∙ as_many_names c.args.state.now.current c.args.space c.args.asked.name c.args.asked.variant c.args.asked.sync
      c.args.target in
      omega (arith, left, same);
}
