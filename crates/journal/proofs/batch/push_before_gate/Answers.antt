use Rattle.std.proofs.Common.{◌≡◌, ◌-◌, ◌++◌, ◌∷◌, [], List, ℕ, ap, ◌∙◌, arith, append_assoc, length, length-append, take}
use Rattle.ipc_model.specs.encodings.Encodings.{record_encoding}
use Rattle.ipc_model.specs.store.Store.{closed_gate}
use Rattle.journal.proofs.Room.{added, entry_of, longest}
use Rattle.journal.proofs.batch.push_before_gate.Goals as goal

pub overflow_sub-size : goal.overflow_sub-size
overflow_sub-size c =
    let entry = entry_of c.args.space c.args.call.now c.args.reply.now in
    let more : List ℕ = record_encoding c.args.number entry in
    let front = c.truncate.new.self in
    let is =
    added c.push_exchange.result c.args.number entry front.items c.push_exchange.new.out.items front.len front.cap
    c.requires.call c.requires.reply (omega (arith, c.requires.room, c.truncate.ensures.len, c.truncate.ensures.capacity))
    c.push_exchange.ensures.full c.push_exchange.ensures.ok in
    omega (
      arith,
      ap length is,
      length-append front.items more,
      front.ok.0,
      c.push_exchange.new.out.ok.0,
      c.truncate.ensures.len,
      c.len-end.ensures,
      c.len.ensures,
    )

pub push_reserved-requires : goal.push_reserved-requires
push_reserved-requires c =
    let entry = entry_of c.args.space c.args.call.now c.args.reply.now in
    let more : List ℕ = record_encoding c.args.number entry in
    let front = c.truncate.new.self in
    let is =
    added c.push_exchange.result c.args.number entry front.items c.push_exchange.new.out.items front.len front.cap
    c.requires.call c.requires.reply (omega (arith, c.requires.room, c.truncate.ensures.len, c.truncate.ensures.capacity))
    c.push_exchange.ensures.full c.push_exchange.ensures.ok in
    omega (
      arith,
      ap length is,
      length-append front.items more,
      front.ok.0,
      c.args.encoding.now.ok.0,
      c.push_exchange.new.out.ok.0,
      c.push_exchange.ensures.room,
      c.truncate.ensures.len,
      c.truncate.ensures.capacity,
      c.len-end.ensures,
      c.requires.some,
      c.requires.room,
      longest c.args.number entry c.requires.call c.requires.reply,
    )

pub returns-clause-encoding : goal.returns-clause-encoding
returns-clause-encoding c =
    let entry = entry_of c.args.space c.args.call.now c.args.reply.now in
    let more : List ℕ = record_encoding c.args.number entry in
    let front = c.truncate.new.self in
    let is =
    added c.push_exchange.result c.args.number entry front.items c.push_exchange.new.out.items front.len front.cap
    c.requires.call c.requires.reply (omega (arith, c.requires.room, c.truncate.ensures.len, c.truncate.ensures.capacity))
    c.push_exchange.ensures.full c.push_exchange.ensures.ok in
    let ends : c.len-end.result - 1 ≡ length c.args.encoding.now.items - 1 =
    omega (arith, c.len-end.ensures, c.args.encoding.now.ok.0) in
    c.push_reserved.ensures.items ∙ ap (λ (l : List ℕ). l ++ closed_gate ∷ []) is
    ∙ append_assoc front.items more (closed_gate ∷ [])
    ∙ ap (λ (l : List ℕ). l ++ (more ++ closed_gate ∷ [])) (c.truncate.ensures.items ∙ ap
    (λ (n : ℕ). take n c.args.encoding.now.items) ends)

pub returns-clause-size : goal.returns-clause-size
returns-clause-size c =
    let entry = entry_of c.args.space c.args.call.now c.args.reply.now in
    let more : List ℕ = record_encoding c.args.number entry in
    let front = c.truncate.new.self in
    let is =
    added c.push_exchange.result c.args.number entry front.items c.push_exchange.new.out.items front.len front.cap
    c.requires.call c.requires.reply (omega (arith, c.requires.room, c.truncate.ensures.len, c.truncate.ensures.capacity))
    c.push_exchange.ensures.full c.push_exchange.ensures.ok in
    omega (
      arith,
      ap length is,
      length-append front.items more,
      front.ok.0,
      c.args.encoding.now.ok.0,
      c.push_exchange.new.out.ok.0,
      c.truncate.ensures.len,
      c.len-end.ensures,
      c.len.ensures,
      c.requires.some,
    )
