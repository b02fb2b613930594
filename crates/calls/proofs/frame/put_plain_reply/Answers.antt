use Rattle.std.proofs.Common.{ℕ, List, ◌++◌, flat_map, length, arith, ap, sym, ◌∙◌, append_assoc}
use Rattle.codes.specs.KernReturn.{number_of}
use Rattle.codes.specs.declared.call_number.TheConstants.{MACH_MSG, MACH_PORT_GET_SET_STATUS, MACH_PORT_NAMES}
use Rattle.ipc_model.specs.declared.plain_reply.NamedType.{NamedType}
use Rattle.ipc_model.specs.declared.plain_reply.PlainReply.{PlainReply}
use Rattle.ipc_model.specs.declared.plain_reply.PlainReply.TheVariants as reply
use Rattle.ipc_model.specs.encodings.PlainCalls.{done_encoding, reply_encoding}
use Rattle.words.specs.Words.{word}
use Rattle.calls.specs.Rows.{names_encoding}
use Rattle.calls.proofs.Lengths.{few_bytes, few_names, few_members}
use Rattle.calls.proofs.frame.put_plain_reply.Goals as goal

pub overflow_cast-names : goal.overflow_cast-names
overflow_cast-names c =
    let few = few_names c.args.reply.now c.in-Names.names (length (reply_encoding c.args.reply.now))
    c.in-Names.is (omega arith) in
    omega (arith, few, c.requires.limit, ap length c.as_slice-names.ensures)

pub put_names-requires-clause-room : goal.put_names-requires-clause-room
put_names-requires-clause-room c =
    let few = few_names c.args.reply.now c.in-Names.names (length (reply_encoding c.args.reply.now))
    c.in-Names.is (omega arith) in
    omega (
      arith,
      few,
      c.requires.limit,
      ap length c.as_slice-names.ensures,
      c.start_reply-in-Names.ensures.length,
      c.start_reply-in-Names.ensures.room,
      c.requires.room,
    )

pub put_names-requires-clause-limit : goal.put_names-requires-clause-limit
put_names-requires-clause-limit c =
    let few = few_names c.args.reply.now c.in-Names.names (length (reply_encoding c.args.reply.now))
    c.in-Names.is (omega arith) in
    omega (
      arith,
      few,
      c.requires.limit,
      ap length c.as_slice-names.ensures,
      c.start_reply-in-Names.ensures.length,
      c.start_reply-in-Names.ensures.room,
      c.requires.room,
    )

pub overflow_cast-members : goal.overflow_cast-members
overflow_cast-members c =
    let few =
    few_members c.args.reply.now c.in-SetStatus.members (length (reply_encoding c.args.reply.now)) c.in-SetStatus.is
    (omega arith) in
    omega (arith, few, c.requires.limit, ap length c.as_slice-members.ensures)

pub put_words-requires-clause-room : goal.put_words-requires-clause-room
put_words-requires-clause-room c =
    let few =
    few_members c.args.reply.now c.in-SetStatus.members (length (reply_encoding c.args.reply.now)) c.in-SetStatus.is
    (omega arith) in
    omega (
      arith,
      few,
      c.requires.limit,
      ap length c.as_slice-members.ensures,
      c.start_reply-in-SetStatus.ensures.length,
      c.start_reply-in-SetStatus.ensures.room,
      c.requires.room,
    )

pub put_words-requires-clause-limit : goal.put_words-requires-clause-limit
put_words-requires-clause-limit c =
    let few =
    few_members c.args.reply.now c.in-SetStatus.members (length (reply_encoding c.args.reply.now)) c.in-SetStatus.is
    (omega arith) in
    omega (
      arith,
      few,
      c.requires.limit,
      ap length c.as_slice-members.ensures,
      c.start_reply-in-SetStatus.ensures.length,
      c.start_reply-in-SetStatus.ensures.room,
      c.requires.room,
    )

pub put_bytes-requires-clause-room : goal.put_bytes-requires-clause-room
put_bytes-requires-clause-room c =
    let few =
    few_bytes c.args.reply.now c.in-Message.code c.in-Message.size c.in-Message.member c.in-Message.message
    (length (reply_encoding c.args.reply.now)) c.in-Message.is (omega arith) in
    omega (
      arith,
      few,
      c.requires.limit,
      c.requires.room,
      ap length c.as_slice.ensures,
      c.start_reply-in-Message.ensures.length,
      c.start_reply-in-Message.ensures.room,
    )

pub put_bytes-requires-clause-limit : goal.put_bytes-requires-clause-limit
put_bytes-requires-clause-limit c =
    let few =
    few_bytes c.args.reply.now c.in-Message.code c.in-Message.size c.in-Message.member c.in-Message.message
    (length (reply_encoding c.args.reply.now)) c.in-Message.is (omega arith) in
    omega (
      arith,
      few,
      c.requires.limit,
      c.requires.room,
      ap length c.as_slice.ensures,
      c.start_reply-in-Message.ensures.length,
      c.start_reply-in-Message.ensures.room,
    )

pub returns-in-Names-clause-content : goal.returns-in-Names-clause-content
unfolding reply_encoding
returns-in-Names-clause-content c =
    let front = flat_map word c.args.front.now in
    let names = c.as_slice-names.result.now in
    c.put_names.ensures.content
    ∙ ap (λ (l : List ℕ). l ++ names_encoding names) c.start_reply-in-Names.ensures.content
    ∙ append_assoc front (done_encoding MACH_PORT_NAMES (word (length names))) (names_encoding names)
    ∙ ap (λ (s : List NamedType). front ++ reply_encoding (reply.Names s)) c.as_slice-names.ensures
    ∙ ap (λ (r : PlainReply). front ++ reply_encoding r) (sym c.in-Names.is)

pub returns-in-SetStatus-clause-content : goal.returns-in-SetStatus-clause-content
unfolding reply_encoding
returns-in-SetStatus-clause-content c =
    let front = flat_map word c.args.front.now in
    let members = c.as_slice-members.result.now in
    c.put_words.ensures.content
    ∙ ap (λ (l : List ℕ). l ++ flat_map word members) c.start_reply-in-SetStatus.ensures.content
    ∙ append_assoc front (done_encoding MACH_PORT_GET_SET_STATUS (word (length members))) (flat_map word members)
    ∙ ap (λ (s : List ℕ). front ++ reply_encoding (reply.SetStatus s)) c.as_slice-members.ensures
    ∙ ap (λ (r : PlainReply). front ++ reply_encoding r) (sym c.in-SetStatus.is)

pub returns-in-Message-clause-content : goal.returns-in-Message-clause-content
unfolding reply_encoding
returns-in-Message-clause-content c =
    let front = flat_map word c.args.front.now in
    let m = c.in-Message in
    let head = word MACH_MSG ++ (word (number_of m.code) ++ (word m.size ++ word m.member)) in
    c.put_bytes.ensures.content
    ∙ ap (λ (l : List ℕ). l ++ c.as_slice.result.now)
    (c.start_reply-in-Message.ensures.content
    ∙ ap (λ (n : ℕ). front ++ (word MACH_MSG ++ (word n ++ (word m.size ++ word m.member))))
    c.number-in-Message.ensures)
    ∙ append_assoc front head c.as_slice.result.now
    ∙ ap (λ (s : List ℕ). front ++ reply_encoding (reply.Message m.code m.size m.member s)) c.as_slice.ensures
    ∙ ap (λ (r : PlainReply). front ++ reply_encoding r) (sym m.is)
