-- Scripts line by line, computed.
use Rattle.std.proofs.Common.{◌≡◌, [], ◌∷◌, ◌++◌, refl}
use Rattle.std.specs.Prelude.{codes, Ok, Err}
use Rattle.codes.specs.declared.kern_return.KernReturn.TheVariants.{InvalidValue}
use Rattle.ipc_model.specs.declared.call.Call.TheVariants.{Plain, Numbered}
use Rattle.ipc_model.specs.declared.plain_call.PlainCall.TheVariants as call
use Rattle.ipc_model.specs.declared.plain_reply.PlainReply.TheVariants as reply
use Rattle.ipc_model.specs.declared.reply.Reply.TheVariants as variants
use Rattle.script.specs.vocabulary.Kinds.{read_word}
use Rattle.script.specs.vocabulary.Spaced.{words_of, column_of}
use Rattle.script.specs.declared.fault.Expected.TheVariants as expected
use Rattle.script.specs.declared.fault.LineFault.TheVariants as line_fault
use Rattle.script.specs.Calls.{after_at, call_at, numbered_at, own_call_at, plain_call_at}
use Rattle.script.specs.Lines.{exchange_at, line_read}
use Rattle.script.specs.Plain.{arguments_at, plain_at}
use Rattle.script.specs.Reading.{number_at, value_at, label_at, last}
use Rattle.script.specs.Replies.{last_value, results_at, made_at, numbered_reply_at, own_reply_at, plain_reply_at, refusal_at, reply_at, silence}
use Rattle.script.specs.Scripts.{lines_of, lines_read, script_read}

-- comments and blank lines contain no call, but count as lines
comments_count : script_read (codes "# a task" ++ 10 ∷ 10 ∷ codes "type 256 = 0x30000" ++ 10
    ∷ codes " destroy 0x1 # done")
    ≡ Ok (record {
      number = 3;
      exchange = record { call = Plain (call.Type 256); reply = variants.Plain (reply.Type 0x30000) };
    } ∷
    record {
      number = 4;
      exchange = record { call = Plain (call.Destroy 1); reply = variants.Plain (reply.Done 6) };
    } ∷ [])
unfolding lines_of lines_read line_read words_of exchange_at call_at own_call_at plain_call_at label_at after_at
    plain_at arguments_at value_at number_at
    read_word reply_at own_reply_at plain_reply_at results_at last_value last silence
comments_count = refl

-- the first line that can't be read is reported
first_fault : script_read (codes "destroy 0x1" ++ 10 ∷ codes "destroy  nine # no name" ++ 10 ∷ codes "destroy" ++ 10
    ∷ []) ≡ Err (record { line = 2; fault = line_fault.Unreadable 9 expected.Number })
unfolding lines_of lines_read line_read words_of exchange_at call_at own_call_at plain_call_at label_at after_at
    plain_at arguments_at value_at number_at
    read_word reply_at own_reply_at plain_reply_at silence column_of
first_fault = refl

-- a numbered call and its reply
numbered_line : script_read (codes "numbered 7 destroy 0x1 : 7" ++ 10
    ∷ codes "numbered 6 destroy 1 ! KERN_INVALID_VALUE")
    ≡ Ok (record {
      number = 1;
      exchange = record {
        call = Numbered (record { request = 7; call = call.Destroy 1 });
        reply = variants.Numbered (record { request = 7; reply = reply.Done 6 });
      };
    } ∷
    record {
      number = 2;
      exchange = record {
        call = Numbered (record { request = 6; call = call.Destroy 1 });
        reply = variants.Plain (reply.Refused 22 InvalidValue);
      };
    } ∷ [])
unfolding lines_of lines_read line_read words_of exchange_at call_at numbered_at plain_call_at label_at after_at
    plain_at arguments_at value_at number_at read_word reply_at numbered_reply_at made_at own_reply_at plain_reply_at refusal_at
    last silence
numbered_line = refl
