-- Sends and receives in records.
use Rattle.std.proofs.Common.{◌≡◌, ℕ, ◌+◌, ◌<◌, ◌^◌, Bool, true, false, not, eqb, List, [], ◌++◌, drop, Option, Some, slice_index, refl, sym, ap, subst, ◌∙◌, arith}
use Rattle.std.proofs.lemmas.Bool.Decides.{Decides-eqb}
use Rattle.std.proofs.lemmas.Slice.Eq.{slice_eq-Decides}
use Rattle.std.specs.Cmp.Lexicographic.{pointwise}
use Rattle.codes.specs.declared.call_number.TheConstants.{MACH_MSG}
use Rattle.ipc_model.specs.declared.plain_call.PlainCall.{PlainCall}
use Rattle.ipc_model.specs.declared.plain_call.PlainCall.TheVariants as call
use Rattle.ipc_model.specs.calls.PlainStep.{number_of_call}
use Rattle.ipc_model.specs.encodings.PlainCalls.{arguments_encoding, receive_option, number_of_bool, IsCanonicalCall}
use Rattle.ipc_model.specs.messages.Kept.{canonical_message}
use Rattle.words.specs.Words.{AreBytes, word}
use Rattle.calls.proofs.Masks.{at_drop}

true_of_not : (b : Bool) → not b ≡ false → b ≡ true
true_of_not true is = refl
true_of_not false is = absurd cc

false_of_not : (b : Bool) → not b ≡ true → b ≡ true → ⊥
false_of_not true is same = cc
false_of_not false is same = cc

-- byte strings in which no position differs are equal
pub same_bytes : (xs ys : List ℕ) (differ : Bool) → differ ≡ not (pointwise eqb xs ys) → differ ≡ false → xs ≡ ys
same_bytes xs ys differ is none =
    (slice_eq-Decides Decides-eqb xs ys (pointwise eqb xs ys) refl).0
    (true_of_not (pointwise eqb xs ys) (sym is ∙ none))

pub other_bytes : (xs ys : List ℕ) (differ : Bool) → differ ≡ not (pointwise eqb xs ys) → differ ≡ true → xs ≡ ys → ⊥
other_bytes xs ys differ is some same =
    false_of_not (pointwise eqb xs ys) (sym is ∙ some)
    ((slice_eq-Decides Decides-eqb xs ys (pointwise eqb xs ys) refl).1 same)

-- the rest of bytes is bytes
pub bytes_after : (bytes beyond : List ℕ) (n : ℕ) → AreBytes bytes → drop n bytes ≡ beyond → AreBytes beyond
bytes_after bytes beyond n are is i =
    subst (λ (l : List ℕ). slice_index l i < 256) is
    (subst (λ (k : ℕ). k < 256) (sym (at_drop n bytes i)) (are (n + i)))

-- only a receive follows the option of a receive
pub only_receipt : (large : Bool) (words : List ℕ) (r : Option PlainCall)
    → ((limit name : ℕ) (waited : Bool) → limit < 2 ^ 32 → name < 2 ^ 32
    → words ≡ word limit ++ (word name ++ word (number_of_bool waited))
    → r ≡ Some (call.Receive limit large name waited))
    → (c : PlainCall) → IsCanonicalCall c → number_of_call c ≡ MACH_MSG
    → word (receive_option large) ++ words ≡ arguments_encoding c → r ≡ Some c
only_receipt true words r only (call.Send message) fits number is = absurd cc
only_receipt false words r only (call.Send message) fits number is = absurd cc
only_receipt true words r only (call.Receive limit true name waited) fits number is =
    only limit name waited fits.fits.0 fits.fits.1 (ap (λ (l : List ℕ). drop 4 l) is)
only_receipt true words r only (call.Receive limit false name waited) fits number is = absurd cc
only_receipt false words r only (call.Receive limit true name waited) fits number is = absurd cc
only_receipt false words r only (call.Receive limit false name waited) fits number is =
    only limit name waited fits.fits.0 fits.fits.1 (ap (λ (l : List ℕ). drop 4 l) is)
only_receipt large words r only c fits number is = absurd (omega (arith, number))

-- a canonical message is its own canonical form
message_of : PlainCall → List ℕ
message_of (call.Send message) = message
message_of c = []

pub kept_same : (message : List ℕ) → IsCanonicalCall (call.Send message) → canonical_message message ≡ message
unfolding message_of
kept_same message is = ap message_of is.kept
