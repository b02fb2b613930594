-- The encodings of a header and a body together are the message's encoding, and are decoded to the same header and
-- body.
use Rattle.std.specs.Prelude.{◌≡◌, ℕ, ◌+◌, ◌*◌, ◌/◌, ◌%◌, ◌^◌, ◌<◌, Bool, true, false, ◌==◌, List, ◌++◌, length}
use Rattle.std.proofs.Common.{sym, ◌∙◌, ap, arith}
use Rattle.std.proofs.lemmas.Bool.{eq-eqb}
use Rattle.byteorder.specs.Endian.{little_number}
use Rattle.ipc_model.specs.messages.Messages.{HasUsedParts, message_encoding, header_length, complex_bit, is_complex}
use Rattle.msg_header.specs.declared.header.Header.{Header}
use Rattle.msg_header.specs.Headers.{parts_by, header_bits, header_encoding, HeaderFits}
use Rattle.words.specs.WordLaws.{little_number-word}
use Rattle.words.specs.Words.{word}

-- The encodings of a header and a body together are the encoding of the message, if the header's size is the length of
-- both.
abbrev pub HeaderAndBodyAreAMessage : Type 0
HeaderAndBodyAreAMessage = (header : Header) (seqno : ℕ) (body : List ℕ) → header.size ≡ header_length + length body
    → header_encoding header seqno ++ body
    ≡ message_encoding (header_bits header) header.remote header.local seqno header.id body

pub header_and_body : HeaderAndBodyAreAMessage
unfolding header_encoding
header_and_body header seqno body whole =
    ap (λ (size : ℕ). word (header_bits header)
    ++ (word size ++ (word header.remote ++ (word header.local ++ (word seqno ++ (word header.id ++ body)))))) whole

-- The encoding of a header whose fields fit, and whose size is the length of header and body, is a message with its
-- fields and this body.
abbrev pub WrittenHeadersAreRead : Type 0
WrittenHeadersAreRead =
    (header : Header) (seqno : ℕ) (body : List ℕ) → HeaderFits header → header.size ≡ header_length + length body
    → HasUsedParts (header_encoding header seqno ++ body) (parts_by header body)

complex_back : (remote local : ℕ) (complex : Bool) → remote < 2 ^ 8 → local < 2 ^ 8
    → is_complex (remote + local * 2 ^ 8 + complex_bit complex) ≡ complex
complex_back remote local true r l = eq-eqb (((remote + local * 2 ^ 8 + 2 ^ 31) / 2 ^ 31) % 2) 1 (omega (arith, r, l))
complex_back remote local false r l =
    let none : ((remote + local * 2 ^ 8 + 0) / 2 ^ 31) % 2 ≡ 0 = omega (arith, r, l) in
    ap (λ (n : ℕ). n == 1) none

bits_fit : (remote local : ℕ) (complex : Bool) → remote < 2 ^ 8 → local < 2 ^ 8
    → remote + local * 2 ^ 8 + complex_bit complex < 2 ^ 32
bits_fit remote local true r l = omega (arith, r, l)
bits_fit remote local false r l = omega (arith, r, l)

remote_back : (remote local : ℕ) (complex : Bool) → remote < 2 ^ 8 → local < 2 ^ 8
    → (remote + local * 2 ^ 8 + complex_bit complex) % 2 ^ 8 ≡ remote
remote_back remote local true r l = omega (arith, r, l)
remote_back remote local false r l = omega (arith, r, l)

local_back : (remote local : ℕ) (complex : Bool) → remote < 2 ^ 8 → local < 2 ^ 8
    → ((remote + local * 2 ^ 8 + complex_bit complex) / 2 ^ 8) % 2 ^ 8 ≡ local
local_back remote local true r l = omega (arith, r, l)
local_back remote local false r l = omega (arith, r, l)

pub written_back : WrittenHeadersAreRead
unfolding header_encoding
written_back header seqno body fits whole =
    let remote : ℕ = header.remote_disposition in
    let local : ℕ = header.local_disposition in
    let bits : ℕ = header_bits header in
    let beyond : List ℕ =
    word header.size ++ (word header.remote ++ (word header.local ++ (word seqno ++ (word header.id ++ body)))) in
    let bits_is : little_number 4 (word bits ++ beyond) ≡ bits =
    little_number-word bits beyond
    (bits_fit remote local header.complex fits.remote_disposition fits.local_disposition) in
    let remote_is : little_number 4
    (word header.remote ++ (word header.local ++ (word seqno ++ (word header.id ++ body))))
    ≡ header.remote = little_number-word header.remote
    (word header.local ++ (word seqno ++ (word header.id ++ body))) fits.remote in
    let local_is : little_number 4 (word header.local ++ (word seqno ++ (word header.id ++ body))) ≡ header.local =
    little_number-word header.local (word seqno ++ (word header.id ++ body)) fits.local in
    let id_is : little_number 4 (word header.id ++ body) ≡ header.id = little_number-word header.id body fits.id in
    let size_is : length (word bits ++ beyond) ≡ header.size = omega (arith, whole) in
    record {
      whole = omega arith;
      parts_are = sym (λ i. record {
        size = size_is i;
        remote_disposition =
            (ap (λ (n : ℕ). n % 2 ^ 8) bits_is
            ∙ remote_back remote local header.complex fits.remote_disposition fits.local_disposition) i;
        local_disposition =
            (ap (λ (n : ℕ). (n / 2 ^ 8) % 2 ^ 8) bits_is
            ∙ local_back remote local header.complex fits.remote_disposition fits.local_disposition) i;
        complex =
            (ap is_complex bits_is ∙ complex_back remote local header.complex fits.remote_disposition
            fits.local_disposition) i;
        remote = remote_is i;
        local = local_is i;
        id = id_is i;
        body = body;
      });
    }
