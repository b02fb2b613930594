-- The options of a send or a receive in a record.
use Rattle.std.proofs.Common.{◌≡◌, ℕ, ◌<◌, ◌^◌, true, false, List, ◌++◌, bit_and, refl, sym, subst, arith}
use Rattle.bitflags.specs.Sets.{known_bits, known_from}
use Rattle.codes.specs.declared.call_number.TheConstants.{MACH_MSG}
use Rattle.codes.specs.MessageOptions.{option_rows}
use Rattle.ipc_model.specs.declared.plain_call.PlainCall.{PlainCall}
use Rattle.ipc_model.specs.declared.plain_call.PlainCall.TheVariants as call
use Rattle.ipc_model.specs.calls.PlainStep.{number_of_call}
use Rattle.ipc_model.specs.encodings.PlainCalls.{arguments_encoding}
use Rattle.words.specs.WordLaws.{same_word}
use Rattle.words.specs.Words.{word}

-- every option that a record contains is known
pub known_option : (option : ℕ) (words : List ℕ) (c : PlainCall) → option < 2 ^ 32 → number_of_call c ≡ MACH_MSG
    → word option ++ words ≡ arguments_encoding c
    → bit_and option (known_bits option_rows) ≡ option
unfolding known_from
known_option option words (call.Send message) fits number is =
    subst (λ (n : ℕ). bit_and n 0x913 ≡ n) (sym (same_word option 1 words _ fits (omega arith) is)) refl
known_option option words (call.Receive limit true name waited) fits number is =
    subst (λ (n : ℕ). bit_and n 0x913 ≡ n) (sym (same_word option 0x802 words _ fits (omega arith) is)) refl
known_option option words (call.Receive limit false name waited) fits number is =
    subst (λ (n : ℕ). bit_and n 0x913 ≡ n) (sym (same_word option 2 words _ fits (omega arith) is)) refl
known_option option words c fits number is = absurd (omega (arith, number))
