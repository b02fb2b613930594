use Rattle.std.proofs.Common.{◌≡◌, ◌++◌, ℕ, List, Result, Ok, Err, OnErr, length, ap, ◌∙◌, arith, append_assoc, length-append}
use Rattle.std.proofs.lemmas.Result.{on_ok_weaker}
use Rattle.ipc_laws.specs.BatchLaws.{length-record_encoding}
use Rattle.ipc_model.specs.declared.record.Record.{Record}
use Rattle.ipc_model.specs.encodings.Encodings.{call_encoding, reply_encoding, canonical_call, record_encoding}
use Rattle.words.specs.WordLaws.{length-long_word, length-word}
use Rattle.words.specs.Words.{word, long_word, frame_encoding}
use Rattle.record.proofs.write.push_exchange.Goals as goal

-- four parts that were appended one after another
added : (old number space call reply a b c new : List ℕ) → a ≡ old ++ number → b ≡ a ++ space → c ≡ b ++ call
    → new ≡ c ++ reply → new ≡ old ++ (number ++ (space ++ (call ++ reply)))
added old number space call reply a b c new is_a is_b is_c is =
    is ∙ ap (λ (l : List ℕ). l ++ reply) is_c ∙ append_assoc b call reply
    ∙ ap (λ (l : List ℕ). l ++ (call ++ reply)) is_b ∙ append_assoc a space (call ++ reply)
    ∙ ap (λ (l : List ℕ). l ++ (space ++ (call ++ reply))) is_a ∙ append_assoc old number (space ++ (call ++ reply))

-- a fact holds in case of an error too
at_error : {T E P : Type 0} (result : Result T E) → P → OnErr result P
at_error (Ok x) holds = tt
at_error (Err e) holds = holds

pub returns-in_err-push_call_frame-clause-full : goal.returns-in_err-push_call_frame-clause-full
returns-in_err-push_call_frame-clause-full c =
    let entry : Record = record { space = c.args.space; call = c.args.call.now; reply = c.args.reply.now } in
    let old = c.args.out.now in
    let numbered = c.push_long_word.new.out in
    let placed = c.push_word.new.out in
    at_error c.from_residual-in_err-push_call_frame.result (omega (
      arith,
      c.in_err-push_call_frame.ensures.full,
      c.in_ok-push_word.ensures.room,
      c.in_ok-push_long_word.ensures.room,
      old.ok.0,
      placed.ok.0,
      ap length c.in_ok-push_word.ensures.ok,
      ap length c.in_ok-push_long_word.ensures.ok,
      length-append numbered.items (word c.args.space),
      length-append old.items (long_word c.args.number),
      length-long_word c.args.number,
      length-word c.args.space,
      length-record_encoding c.args.number entry,
    ))

pub returns-clause-ok : goal.returns-clause-ok
unfolding record_encoding
returns-clause-ok c =
    on_ok_weaker c.push_reply_frame.result
    (added c.args.out.now.items (long_word c.args.number) (word c.args.space)
    (frame_encoding (call_encoding (canonical_call c.args.call.now))) (frame_encoding (reply_encoding c.args.reply.now))
    c.push_long_word.new.out.items c.push_word.new.out.items c.push_call_frame.new.out.items
    c.push_reply_frame.new.out.items c.in_ok-push_long_word.ensures.ok c.in_ok-push_word.ensures.ok
    c.in_ok-push_call_frame.ensures.ok) c.push_reply_frame.ensures.ok
