use Rattle.std.proofs.Common.{◌≡◌, ℕ, ◌+◌, ◌<◌, true, false, nat_lt, List, [], refl, sym, ap, subst, ◌∙◌, arith}
use Rattle.std.proofs.lemmas.Bool.{lt-ltb, le-ltb}
use Rattle.std.specs.FinMap as finmap
use Rattle.codes.specs.declared.limits.TheConstants.{MAX_NAMES}
use Rattle.ipc_model.specs.calls.PortCalls.{names_in}
use Rattle.ipc_model.specs.declared.message.CarriedRight.{CarriedRight}
use Rattle.ipc_model.specs.messages.Receiving.{arriving, message_size}
use Rattle.ipc_model.specs.rights.CopyOut.{names_needed}
use Rattle.receiving.specs.Shows.{arguments_of}
use Rattle.receiving.specs.TakingLaws.{large_reported, lacking_reported, names_lawful, oldest_lawful, was_lacking, was_large, was_received, whole_reported}
use Rattle.receiving.proofs.receiving.take_out.Goals as goal

pub returns-then-outline-asked-clause-acts : goal.returns-then-outline-asked-clause-acts
returns-then-outline-asked-clause-acts c = λ port message later live first.
    let outline = c.in-Some.ensures.some port message later live first in
    let large : nat_lt c.args.asked.limit (message_size message) ≡ true =
    lt-ltb c.args.asked.limit (message_size message)
    (subst (λ (n : ℕ). c.args.asked.limit < n) outline.0 c.if-outline-asked.true) in
    was_large c.args.state.now.current c.args.space (names_in c.args.state.now.current c.args.space)
    (arguments_of c.args.asked) c.args.source.member c.args.source.port port message c.in_ok-reply.reply
    c.too_large.new.state.current c.too_large.new.effects
    large (c.in_ok-reply.ensures.large port message later live first outline.0 outline.1)

pub returns-then-outline-asked-clause-shown : goal.returns-then-outline-asked-clause-shown
returns-then-outline-asked-clause-shown c = λ port message later live first other last others _ may.
    let outline = c.in-Some.ensures.some port message later live first in
    let large : nat_lt c.args.asked.limit (message_size message) ≡ true =
    lt-ltb c.args.asked.limit (message_size message)
    (subst (λ (n : ℕ). c.args.asked.limit < n) outline.0 c.if-outline-asked.true) in
    large_reported c.args.state.now.current c.args.space (names_in c.args.state.now.current c.args.space)
    (arguments_of c.args.asked) c.args.source.member c.args.source.port port message c.in_ok-reply.reply
    c.too_large.new.state.current c.too_large.new.effects other last others
    large (c.in_ok-reply.ensures.large port message later live first outline.0 outline.1) may

pub returns-then-lacks_room-clause-acts : goal.returns-then-lacks_room-clause-acts
returns-then-lacks_room-clause-acts c = λ port message later live first.
    let names = names_in c.args.state.now.current c.args.space in
    let outline = c.in-Some.ensures.some port message later live first in
    let small : nat_lt c.args.asked.limit (message_size message) ≡ false =
    le-ltb c.args.asked.limit (message_size message) (omega (arith, outline.0, c.if-outline-asked.false)) in
    let rights : c.as_slice.result.now ≡ arriving message =
    c.as_slice.ensures.value ∙ c.in_ok-rights.ensures port message later live first in
    let lacks =
    ap (λ (l : List CarriedRight). nat_lt MAX_NAMES (finmap.len names + names_needed names [] l)) (sym rights)
    ∙ sym c.lacks_room.ensures ∙ c.if-lacks_room.true in
    was_lacking c.args.state.now.current c.args.space names
    (arguments_of c.args.asked) c.args.source.member c.args.source.port port message
    c.without_message-then-lacks_room.result c.args.state.now.current c.args.effects.now
    small lacks c.without_message-then-lacks_room.ensures refl c.requires.none

pub returns-then-lacks_room-clause-shown : goal.returns-then-lacks_room-clause-shown
returns-then-lacks_room-clause-shown c = λ port message later live first other last others _ may.
    let names = names_in c.args.state.now.current c.args.space in
    let outline = c.in-Some.ensures.some port message later live first in
    let small : nat_lt c.args.asked.limit (message_size message) ≡ false =
    le-ltb c.args.asked.limit (message_size message) (omega (arith, outline.0, c.if-outline-asked.false)) in
    let rights : c.as_slice.result.now ≡ arriving message =
    c.as_slice.ensures.value ∙ c.in_ok-rights.ensures port message later live first in
    let lacks =
    ap (λ (l : List CarriedRight). nat_lt MAX_NAMES (finmap.len names + names_needed names [] l)) (sym rights)
    ∙ sym c.lacks_room.ensures ∙ c.if-lacks_room.true in
    lacking_reported c.args.state.now.current c.args.space names
    (arguments_of c.args.asked) c.args.source.member c.args.source.port port message
    c.without_message-then-lacks_room.result other last others
    small lacks c.without_message-then-lacks_room.ensures may

pub take_whole-requires-clause-rights : goal.take_whole-requires-clause-rights
take_whole-requires-clause-rights c =
    λ port message later live first. c.as_slice-2.ensures.value ∙ c.in_ok-rights.ensures port message later live first

pub returns-clause-acts : goal.returns-clause-acts
returns-clause-acts c = λ port message later live first.
    let names = names_in c.args.state.now.current c.args.space in
    let outline = c.in-Some.ensures.some port message later live first in
    let small : nat_lt c.args.asked.limit (message_size message) ≡ false =
    le-ltb c.args.asked.limit (message_size message) (omega (arith, outline.0, c.if-outline-asked.false)) in
    let rights : c.as_slice.result.now ≡ arriving message =
    c.as_slice.ensures.value ∙ c.in_ok-rights.ensures port message later live first in
    let fits =
    ap (λ (l : List CarriedRight). nat_lt MAX_NAMES (finmap.len names + names_needed names [] l)) (sym rights)
    ∙ sym c.lacks_room.ensures ∙ c.if-lacks_room.false in
    was_received c.args.state.now.current c.args.space names
    (arguments_of c.args.asked) c.args.source.member c.args.source.port port message c.in_ok-reply-2.reply
    c.take_whole.new.state.current c.take_whole.new.effects
    small fits (c.in_ok-reply-2.ensures.received port message later live first)

pub returns-clause-shown : goal.returns-clause-shown
returns-clause-shown c = λ port message later live first other last others shows may.
    let old = c.args.state.now.current in
    let names = names_in old c.args.space in
    let outline = c.in-Some.ensures.some port message later live first in
    let small : nat_lt c.args.asked.limit (message_size message) ≡ false =
    le-ltb c.args.asked.limit (message_size message) (omega (arith, outline.0, c.if-outline-asked.false)) in
    let rights : c.as_slice.result.now ≡ arriving message =
    c.as_slice.ensures.value ∙ c.in_ok-rights.ensures port message later live first in
    let fits =
    ap (λ (l : List CarriedRight). nat_lt MAX_NAMES (finmap.len names + names_needed names [] l)) (sym rights)
    ∙ sym c.lacks_room.ensures ∙ c.if-lacks_room.false in
    whole_reported old c.args.space names
    (arguments_of c.args.asked) c.args.source.member c.args.source.port port message c.in_ok-reply-2.reply
    c.args.names.now other last others
    small fits (oldest_lawful old c.args.source.port port message later c.requires.lawful live first)
    (names_lawful old c.args.space c.requires.lawful c.requires.there)
    (c.in_ok-reply-2.ensures.wanted port message later live first) shows may
