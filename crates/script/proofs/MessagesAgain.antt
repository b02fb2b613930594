-- Messages are read back as they are printed.
use Rattle.std.proofs.Common.{◌≡◌, ℕ, ◌+◌, ◌*◌, ◌%◌, ◌/◌, ◌^◌, ◌<◌, ◌≤◌, Bool, true, false, ◌&&◌, ◌==◌, List, [], ◌∷◌, ◌++◌, length, drop, take, length-drop, cond, refl, sym, ap, ◌∙◌, arith, Some, None, Ok, append_assoc}
use Rattle.std.specs.Prelude.{nat_le, nat_lt, codes}
use Rattle.std.specs.Str.{bytes_eq}
use Rattle.std.proofs.lemmas.Bool.{eqb-true, and_parts}
use Rattle.std.proofs.lemmas.Bool.Decides.{nat_tests}
use Rattle.std.proofs.lemmas.List.{drop-drop, take-append-drop}
use Rattle.std.proofs.lemmas.Slice.Eq.{bytes_eq-Decides}
use Rattle.byteorder.specs.Endian.{little_number}
use Rattle.byteorder.specs.Numbers.{little_from-lt}
use Rattle.words.specs.WordLaws.{word-little_number}
use Rattle.words.specs.Words.{AreBytes}
use Rattle.words.specs.Words.{word}
use Rattle.script.specs.declared.vocabulary.kind.Kind.TheVariants as kind
use Rattle.script.specs.declared.vocabulary.kind.Kind.TheVariants.{Hexadecimal, Decimal, Disposition}
use Rattle.script.specs.declared.vocabulary.header.Header.{Header}
use Rattle.script.specs.vocabulary.Kinds.{value_word, read_word}
use Rattle.script.specs.printing.Bytes.{bytes_word}
use Rattle.script.specs.printing.Items.{body_words}
use Rattle.script.specs.printing.Messages.{optional_words, flag_words, local_words, header_of, header_words, message_words}
use Rattle.script.specs.Items.{body_at}
use Rattle.script.specs.Messages.{header_encoding, further_at, local_at, rights_at, header_at, message_at}
use Rattle.script.specs.declared.fault.Expected.TheVariants as expected
use Rattle.script.specs.Reading.{Reading, ◌>>=◌, value_at, bounded_at, label_at, labelled_at, optional_at, flag_at}
use Rattle.script.proofs.ItemsAgain.{bytes_after, past_body, body_again}
use Rattle.script.proofs.ReadingAgain.{bounded_again}
use Rattle.script.proofs.ReadingAgain.{value_again, label_again, other_label, labelled_again, optional_again, flag_again, past_optional, bytes_at_again, NoLabel}
use Rattle.script.proofs.ValuesAgain.{word_again}

pub further_again : (n : ℕ) (ws : List (List ℕ)) → n < 0x8000 → label_at (codes "bits") ws ≡ None
    → further_at (optional_words (codes "bits") Hexadecimal n ++ ws) ≡ Ok (n, ws)
unfolding further_at optional_words
further_again n ws small none =
    elim (n == 0) as (λ (b : Bool). (n == 0) ≡ b → elim
    (label_at (codes "bits") (cond b [] (codes "bits" ∷ value_word Hexadecimal n ∷ []) ++ ws)) as
    (λ _. Reading (ℕ × List (List ℕ))) [
      | None ↦ Ok (0, cond b [] (codes "bits" ∷ value_word Hexadecimal n ∷ []) ++ ws)
      | Some rest ↦ bounded_at
          expected.Number Hexadecimal 0x8000 rest
    ] ≡ Ok (n, ws)) [
      | true ↦ λ (is : _). rw none (ap (λ (m : ℕ). Ok (m, ws)) (sym (eqb-true n 0 is)))
      | false ↦ λ (_ : _). rw (label_again (codes "bits") (value_word Hexadecimal n ∷ ws))
          (bounded_again expected.Number kind.Hexadecimal 0x8000 n ws tt small (omega arith))
    ] refl

pub local_again : (d n : ℕ) (ws : List (List ℕ)) → d < 0x100 → n < 2 ^ 32 → label_at (codes "local") ws ≡ None
    → local_at (local_words d n ++ ws) ≡ Ok (d, n, ws)
unfolding local_at local_words
local_again d n ws small fits none = elim (d == 0 && n == 0) as (λ (b : Bool). (d == 0 && n == 0) ≡ b →
    elim (label_at (codes "local") (cond b [] (codes "local" ∷ value_word Disposition d ∷ value_word Hexadecimal n
    ∷ []) ++ ws)) as (λ _. Reading (ℕ × ℕ × List (List ℕ))) [
      | None ↦ Ok (0, 0, cond b [] (codes "local" ∷ value_word Disposition d ∷ value_word Hexadecimal n ∷ []) ++ ws)
      | Some rest ↦ bounded_at expected.Number Disposition 0x100 rest >>= λ r. value_at Hexadecimal r.1 >>= λ m. Ok
          (r.0, m.0, m.1)
    ] ≡ Ok (d, n, ws)) [
      | true ↦ λ (is : _).
          let parts = and_parts (d == 0) (n == 0) is in
          rw none (ap (λ (m : ℕ). Ok (m, 0, ws)) (sym (eqb-true d 0 parts.0)) ∙ ap
          (λ (m : ℕ). Ok (d, m, ws)) (sym (eqb-true n 0 parts.1)))
      | false ↦ λ (_ : _).
          rw (label_again (codes "local") (value_word Disposition d ∷ value_word Hexadecimal n ∷ ws))
          (rw (bounded_again expected.Number kind.Disposition 0x100 d (value_word Hexadecimal n ∷ ws) tt small
          (omega arith)) (rw (value_again kind.Hexadecimal n ws tt fits) refl))
    ] refl

-- the words of a header are numbers of four bytes
pub record FitsHeader (h : Header) : Type 0 where
  pub bits : h.bits < 2 ^ 32
  pub size : h.size < 2 ^ 32
  pub remote : h.remote < 2 ^ 32
  pub local : h.local < 2 ^ 32
  pub seqno : h.seqno < 2 ^ 32
  pub id : h.id < 2 ^ 32

-- the bits are put together again
bits_joined : (n : ℕ) → n < 2 ^ 32
    → (n % 0x100 + (n / 0x100 % 0x100) * 0x100 + (n / 0x1_0000 % 0x8000) * 0x1_0000 + cond
    (nat_le 0x8000_0000 n) 0x8000_0000 0) ≡ n
bits_joined n fits =
    elim (nat_le 0x8000_0000 n) as (λ (b : Bool). nat_le 0x8000_0000 n ≡ b
    → n % 0x100 + (n / 0x100 % 0x100) * 0x100 + (n / 0x1_0000 % 0x8000) * 0x1_0000 + cond b 0x8000_0000 0 ≡ n) [
      | true ↦ λ (is : _). let high : 0x8000_0000 ≤ n = grind (arith, nat_tests) in omega (arith, high)
      | false ↦ λ (is : _). let low : n < 0x8000_0000 = grind (arith, nat_tests) in omega (arith, low)
    ] refl

header_parts : (start remote local id complex further size seqno ws : List (List ℕ)) (h : Header)
    → bounded_at expected.Message Disposition 0x100 start ≡ Ok (h.bits % 0x100, remote)
    → value_at Hexadecimal remote ≡ Ok (h.remote, local)
    → local_at local ≡ Ok (h.bits / 0x100 % 0x100, h.local, id)
    → labelled_at (codes "id") Decimal id ≡ Ok (h.id, complex)
    → flag_at (codes "complex") complex ≡ (nat_le 0x8000_0000 h.bits, further)
    → further_at further ≡ Ok (h.bits / 0x1_0000 % 0x8000, size)
    → optional_at (codes "size") Decimal size ≡ Ok (h.size, seqno)
    → optional_at (codes "seqno") Decimal seqno ≡ Ok (h.seqno, ws)
    → header_at start ≡ Ok (
      record h {
        bits = h.bits % 0x100 + (h.bits / 0x100 % 0x100) * 0x100 + (h.bits / 0x1_0000 % 0x8000) * 0x1_0000 + cond
            (nat_le 0x8000_0000 h.bits) 0x8000_0000 0;
      },
      ws,
    )
unfolding header_at rights_at
header_parts start remote local id complex further size seqno ws h e1 e2 e3 e4 e5 e6 e7 e8 =
    rw (e1, e2, e3, e4, e5, e6, e7, e8) refl

-- the words of a header, followed by others, are read as the header
pub header_again : (h : Header) (ws : List (List ℕ)) → FitsHeader h → label_at (codes "complex") ws ≡ None
    → label_at (codes "bits") ws ≡ None
    → label_at (codes "size") ws ≡ None → label_at (codes "seqno") ws ≡ None → header_at (header_words h ++ ws)
    ≡ Ok (h, ws)
unfolding header_at header_words rights_at
header_again h ws fits no_complex no_bits no_size no_seqno =
    let seqno : List (List ℕ) = optional_words (codes "seqno") Decimal h.seqno ++ ws in
    let size : List (List ℕ) = optional_words (codes "size") Decimal h.size ++ seqno in
    let further : List (List ℕ) = optional_words (codes "bits") Hexadecimal (h.bits / 0x1_0000 % 0x8000) ++ size in
    let complex : List (List ℕ) = flag_words (codes "complex") (nat_le 0x8000_0000 h.bits) ++ further in
    let id : List (List ℕ) = codes "id" ∷ value_word Decimal h.id ∷ complex in
    let local : List (List ℕ) = local_words (h.bits / 0x100 % 0x100) h.local ++ id in
    let remote : List (List ℕ) = value_word Hexadecimal h.remote ∷ local in
    let start : List (List ℕ) = value_word Disposition (h.bits % 0x100) ∷ remote in
    let past_size : (label : List ℕ) → bytes_eq (codes "seqno") label ≡ false → bytes_eq (codes "size") label ≡ false
    → label_at label ws ≡ None → label_at label size ≡ None
    = λ label a b none. past_optional label (codes "size") Decimal h.size seqno b
    (past_optional label (codes "seqno") Decimal h.seqno ws a none) in
    let e_rd =
    bounded_again expected.Message kind.Disposition 0x100 (h.bits % 0x100) remote tt (omega arith) (omega arith) in
    let e_remote = value_again kind.Hexadecimal h.remote local tt fits.remote in
    let e_local = local_again (h.bits / 0x100 % 0x100) h.local id (omega arith) fits.local
    (other_label (codes "local") (codes "id") (value_word Decimal h.id ∷ complex) refl) in
    let e_id = labelled_again (codes "id") kind.Decimal h.id complex tt fits.id in
    let e_complex = flag_again (codes "complex") (nat_le 0x8000_0000 h.bits) further
    (past_optional (codes "complex") (codes "bits") Hexadecimal (h.bits / 0x1_0000 % 0x8000) size refl
    (past_size (codes "complex") refl refl no_complex)) in
    let e_further = further_again (h.bits / 0x1_0000 % 0x8000) size (omega arith)
    (past_size (codes "bits") refl refl no_bits) in
    let e_size = optional_again (codes "size") kind.Decimal h.size seqno tt fits.size
    (past_optional (codes "size") (codes "seqno") Decimal h.seqno ws refl no_size) in
    let e_seqno = optional_again (codes "seqno") kind.Decimal h.seqno ws tt fits.seqno no_seqno in
    let grouped : header_words h ++ ws ≡ start = simp append_assoc in
    ap header_at grouped
    ∙ header_parts start remote local id complex further size seqno ws h e_rd e_remote e_local e_id e_complex e_further
    e_size e_seqno
    ∙ ap (λ (n : ℕ). Ok (record h { bits = n }, ws)) (bits_joined h.bits fits.bits)

-- the first word of a message, and its rest
front_word : (n : ℕ) (m rest : List ℕ) → AreBytes m → n + 4 ≤ length m
    → word (little_number 4 (drop n m)) ++ drop (n + 4) m ≡ drop n m
front_word n m rest fits long =
    let enough : 4 ≤ length (drop n m) = omega (arith, length-drop n m) in
    ap (λ (l : List ℕ). l ++ drop (n + 4) m) (word-little_number (drop n m) (bytes_after n m fits) enough)
    ∙ ap (λ (l : List ℕ). take 4 (drop n m) ++ l) (sym (drop-drop 4 n m)) ∙ take-append-drop 4 (drop n m)

-- a message is its header and its body
pub message_is : (m : List ℕ) → AreBytes m → 24 ≤ length m → header_encoding (header_of m) (drop 24 m) ≡ m
unfolding header_encoding
message_is m fits long =
    simp append_assoc
    (ap (λ (l : List ℕ). word (little_number 4 m)
    ++ (word (little_number 4 (drop 4 m))
    ++ (word (little_number 4 (drop 8 m))
    ++ (word (little_number 4 (drop 12 m)) ++ (word (little_number 4 (drop 16 m)) ++ l)))))
    (front_word 20 m [] fits (omega arith))
    ∙ ap (λ (l : List ℕ). word (little_number 4 m)
    ++ (word (little_number 4 (drop 4 m))
    ++ (word (little_number 4 (drop 8 m)) ++ (word (little_number 4 (drop 12 m)) ++ l))))
    (front_word 16 m [] fits (omega arith))
    ∙ ap (λ (l : List ℕ). word (little_number 4 m)
    ++ (word (little_number 4 (drop 4 m)) ++ (word (little_number 4 (drop 8 m)) ++ l)))
    (front_word 12 m [] fits (omega arith))
    ∙ ap (λ (l : List ℕ). word (little_number 4 m) ++ (word (little_number 4 (drop 4 m)) ++ l))
    (front_word 8 m [] fits (omega arith))
    ∙ ap (λ (l : List ℕ). word (little_number 4 m) ++ l) (front_word 4 m [] fits (omega arith))
    ∙ front_word 0 m [] fits (omega arith))

-- four bytes are a number below 2 ^ 32
number_fits : (bytes : List ℕ) → AreBytes bytes → little_number 4 bytes < 2 ^ 32
number_fits bytes fits = omega (arith, little_from-lt 0 4 bytes fits)

pub fits_header : (m : List ℕ) → AreBytes m → FitsHeader (header_of m)
fits_header m fits = record {
  bits = number_fits m fits;
  size = number_fits (drop 4 m) (bytes_after 4 m fits);
  remote = number_fits (drop 8 m) (bytes_after 8 m fits);
  local = number_fits (drop 12 m) (bytes_after 12 m fits);
  seqno = number_fits (drop 16 m) (bytes_after 16 m fits);
  id = number_fits (drop 20 m) (bytes_after 20 m fits);
}

-- a number's word isn't the label of bytes
no_bytes_label : (n : ℕ) → n < 2 ^ 32 → bytes_eq (value_word Disposition n) (codes "bytes") ≡ false
unfolding read_word
no_bytes_label n fits =
    elim (bytes_eq (value_word Disposition n) (codes "bytes")) as
    (λ (b : Bool). bytes_eq (value_word Disposition n) (codes "bytes") ≡ b → b ≡ false) [
      | true ↦ λ (same : _).
          let e : value_word Disposition n ≡ codes "bytes" =
          (bytes_eq-Decides (value_word Disposition n) (codes "bytes")).0 same in
          let wrong : read_word kind.Disposition (codes "bytes") ≡ Some n =
          ap (read_word kind.Disposition) (sym e) ∙ word_again kind.Disposition n fits in
          let none : read_word kind.Disposition (codes "bytes") ≡ None = refl in
          absurd (cc)
      | false ↦ λ (_ : _). refl
    ] refl

-- a header's first word
pub header_first : (h : Header) → (rest : List (List ℕ))
    × (header_words h ≡ value_word Disposition (h.bits % 0x100) ∷ rest)
unfolding header_words
header_first h = (_, refl)

message_parts : (start rest ws : List (List ℕ)) (h : Header) (body : List ℕ) → label_at (codes "bytes") start ≡ None
    → header_at start ≡ Ok (h, rest)
    → body_at rest ≡ Ok (body, ws) → message_at start ≡ Ok (header_encoding h body, ws)
unfolding message_at
message_parts start rest ws h body e1 e2 e3 = rw (e1, message_at) (rw (e2, e3) refl)

pub message_again : (m : List ℕ) (ws : List (List ℕ)) → AreBytes m → NoLabel ws
    → message_at (message_words m ++ ws) ≡ Ok (m, ws)
unfolding message_at message_words
message_again m ws fits none = elim (nat_lt (length m) 24) as (λ (b : Bool). nat_lt (length m) 24 ≡ b →
    message_at (cond b (codes "bytes" ∷ bytes_word m ∷ []) (header_words (header_of m) ++ body_words (drop 24 m))
    ++ ws) ≡ Ok (m, ws)) [
      | true ↦ λ (_ : _). rw (label_again (codes "bytes") (bytes_word m ∷ ws), message_at) (bytes_at_again m ws fits)
      | false ↦ λ (is : _).
          let long : 24 ≤ length m = grind (arith, nat_tests) in
          let h : Header = header_of m in
          let body : List ℕ = drop 24 m in
          let rest : List (List ℕ) = body_words body ++ ws in
          let past : (label : List ℕ) → bytes_eq (codes "item") label ≡ false → bytes_eq (codes "data") label ≡ false
          → label_at label ws ≡ None → label_at label rest ≡ None
          = λ label item data_apart no. past_body label body ws (bytes_after 24 m fits) item data_apart no in
          let e_header = header_again h rest (fits_header m fits)
          (past (codes "complex") refl refl (none.0 (codes "complex") refl))
          (past (codes "bits") refl refl (none.0 (codes "bits") refl))
          (past (codes "size") refl refl (none.0 (codes "size") refl))
          (past (codes "seqno") refl refl (none.0 (codes "seqno") refl)) in
          let e_body = body_again body ws (bytes_after 24 m fits) none in
          let first = header_first h in
          let e_label : label_at (codes "bytes") (header_words h ++ rest) ≡ None =
          ap (λ (l : List (List ℕ)). label_at (codes "bytes") (l ++ rest)) first.1
          ∙ other_label (codes "bytes") (value_word Disposition (h.bits % 0x100)) (first.0 ++ rest)
          (no_bytes_label (h.bits % 0x100) (omega arith)) in
          ap message_at (append_assoc (header_words h) (body_words body) ws)
          ∙ message_parts (header_words h ++ rest) rest ws h body e_label e_header e_body ∙ ap
          (λ (l : List ℕ). Ok (l, ws)) (message_is m fits long)
    ] refl
