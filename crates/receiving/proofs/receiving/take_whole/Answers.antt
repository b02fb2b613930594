use Rattle.std.proofs.Common.{ℕ, List, ◌++◌, length, sym, ap, subst, ◌∙◌}
use Rattle.std.specs.FinMap as finmap
use Rattle.codes.specs.declared.kern_return.KernReturn.TheVariants.{Success}
use Rattle.ipc_laws.specs.ReceiveArgumentLaws.{as_many_names}
use Rattle.ipc_model.specs.calls.PortCalls.{names_in}
use Rattle.ipc_model.specs.declared.plain_reply.PlainReply.TheVariants as reply
use Rattle.ipc_model.specs.declared.message.CarriedRight.{CarriedRight}
use Rattle.ipc_model.specs.declared.message.RightKind.{RightKind}
use Rattle.ipc_model.specs.messages.Receiving.{destination_consumed, message_size, received_encoding}
use Rattle.ipc_model.specs.rights.CopyOut.{Arrives}
use Rattle.ipc_model.specs.state.Ipc.{Ipc}
use Rattle.rights.specs.Passed.{Running}
use Rattle.receiving.specs.TakingLaws.{whole_received}
use Rattle.receiving.proofs.receiving.take_whole.Goals as goal

pub oldest_encoding-requires-clause-given : goal.oldest_encoding-requires-clause-given
oldest_encoding-requires-clause-given c = λ port message later live first.
    let same = ap (λ (s : Ipc). finmap.get s.ports c.args.source.port) c.in_ok-arrive.ensures.ok in
    let many = as_many_names _ _ _ _ c.in_ok-arrive.ensures.arrives in
    ap length c.as_slice.ensures.value ∙ many ∙ ap length (c.requires.rights port message later (sym same ∙ live) first)

pub returns-clause-received : goal.returns-clause-received
returns-clause-received c = λ port message later live first.
    let old = c.args.state.now.current in
    let serial = c.args.source.port in
    let same = ap (λ (s : Ipc). finmap.get s.ports serial) c.in_ok-arrive.ensures.ok in
    let outline = c.requires.outline port message later live first in
    let encoding =
    c.in_ok-encoding.ensures port message later (same ∙ live) first ∙ ap
    (λ (given : List ℕ). received_encoding message c.args.source.member port.sequence_number given)
    c.as_slice.ensures.value in
    whole_received old c.args.space
    (names_in old c.args.space) c.args.source.member serial port message _ c.arrive.new.state.current
    c.take_message.new.self.current c.consume.new.effects c.args.effects.now
    c.args.rights.now c.arrive.new.given.items c.in_ok-encoding.encoding.items
    (names_in c.arrive.new.state.current c.args.space) c.args.outline.size
    (c.requires.rights port message later live first) c.in_ok-arrive.ensures.arrives outline.0 encoding
    (ap (reply.Message Success c.args.outline.size c.args.source.member) c.new.ensures) c.in_ok-arrive.ensures.ok
    (ap (λ (r : Running). r.current) c.in_ok-take_message.ensures.ok) c.requires.none
    (c.in_ok-consume.ensures ∙ ap (λ (right : RightKind). c.args.effects.now ++ destination_consumed right serial)
    outline.1)

pub returns-clause-wanted : goal.returns-clause-wanted
returns-clause-wanted c = λ port message later live first last arrives.
    let old = c.args.state.now.current in
    let names = names_in old c.args.space in
    let serial = c.args.source.port in
    let same = ap (λ (s : Ipc). finmap.get s.ports serial) c.in_ok-arrive.ensures.ok in
    let outline = c.requires.outline port message later live first in
    let encoding =
    c.in_ok-encoding.ensures port message later (same ∙ live) first ∙ ap
    (λ (given : List ℕ). received_encoding message c.args.source.member port.sequence_number given)
    c.as_slice.ensures.value in
    let given =
    c.in_ok-arrive.ensures.wanted last
    (subst (λ (l : List CarriedRight). Arrives names l c.args.names.now last)
    (sym (c.requires.rights port message later live first)) arrives) in
    ap (λ (n : ℕ). reply.Message Success n c.args.source.member c.new.result) outline.0
    ∙ ap (reply.Message Success (message_size message) c.args.source.member)
    (c.new.ensures ∙ encoding ∙ ap
    (λ (l : List ℕ). received_encoding message c.args.source.member port.sequence_number l) given)
