-- The front of an input in terms of the steps that read it. The bytes of a frame are read back as that frame.
use Rattle.std.proofs.Common.{◌≡◌, ℕ, ◌<◌, ◌≤◌, true, false, eqb, ltb, List, [], ◌++◌, length, take, drop, Option, Some, None, Ok, Err, IfSome, refl, sym, ap, subst, ◌∙◌, append_assoc, arith, le-ltb, lt-ltb, ne_eqb, length-append, take_at, drop_at}
use Rattle.std.proofs.KnownBytes.{Consumes-trans}
use Rattle.byteorder.specs.Endian.{little_number}
use Rattle.byteorder.specs.Numbers.{little_number-reads_back}
use Rattle.words.specs.Words.{word, frame_encoding}
use Rattle.wire.specs.declared.fault.WireFault.{WireFault}
use Rattle.wire.specs.declared.fault.WireFault.TheVariants.{Short, TooLong, Device, NoMemory}
use Rattle.wire.specs.Frame.{FrameValue, whole, faulty, content_at, front_of, IsContentLength, IsWithinFrame, IsReadOf}
use Rattle.wire.specs.Reading.{IsLengthOf, IsContentOf}

-- the length word of an input and the rest
front_parts : (input : List ℕ) (n : ℕ) (rest : List ℕ) → 4 ≤ length input → little_number 4 input ≡ n
    → drop 4 input ≡ rest → front_of input ≡ content_at n rest
front_parts input n rest long number-is rest-is =
    let some : eqb (length input) 0 ≡ false = ne_eqb _ _ (omega arith) in
    let enough : ltb (length input) 4 ≡ false = le-ltb _ _ long in
    rw (some, enough, number-is, rest-is) refl

-- the front of an input that begins with the length word n
front_after : (n : ℕ) (rest : List ℕ) → IsContentLength n → front_of (word n ++ rest) ≡ content_at n rest
front_after n rest fits =
    front_parts (word n ++ rest) n rest (omega (arith, length-append (word n) rest))
    (little_number-reads_back 4 n rest (omega (arith, fits.greatest))) refl

-- the front where the bytes after the length word suffice, and where they don't
content_whole : (n : ℕ) (rest : List ℕ) → IsContentLength n → n ≤ length rest
    → content_at n rest ≡ whole (take n rest) (drop n rest)
content_whole n rest fits long =
    let least : ltb n 4 ≡ false = le-ltb _ _ fits.least in
    let greatest : ltb 65_532 n ≡ false = le-ltb _ _ fits.greatest in
    let enough : ltb (length rest) n ≡ false = le-ltb _ _ long in
    rw (least, greatest, enough) refl

content_short : (n : ℕ) (rest : List ℕ) → IsContentLength n → length rest < n → content_at n rest ≡ faulty Short []
content_short n rest fits short =
    let least : ltb n 4 ≡ false = le-ltb _ _ fits.least in
    let greatest : ltb 65_532 n ≡ false = le-ltb _ _ fits.greatest in
    let few : ltb (length rest) n ≡ true = lt-ltb _ _ short in
    rw (least, greatest, few) refl

-- the bytes of a frame are a whole frame, whatever follows them
front_of_encoding : (content rest : List ℕ) → IsContentLength (length content)
    → front_of (frame_encoding content ++ rest) ≡ whole content rest
front_of_encoding content rest fits =
    let regrouped : frame_encoding content ++ rest ≡ word (length content) ++ (content ++ rest) =
    append_assoc (word (length content)) content rest in
    let long : length content ≤ length (content ++ rest) = omega (arith, length-append content rest) in
    let parts : whole (take (length content) (content ++ rest)) (drop (length content) (content ++ rest))
    ≡ whole content rest = rw (
      take_at content rest (length content) refl,
      drop_at content rest (length content) refl,
    ) refl in
    ap front_of regrouped ∙ front_after (length content) (content ++ rest) fits
    ∙ content_whole (length content) (content ++ rest) fits long ∙ parts

-- a length word and a content of that length are a frame
frame_encoding_of : (n : ℕ) (content rest : List ℕ) → length content ≡ n
    → word n ++ (content ++ rest) ≡ frame_encoding content ++ rest
frame_encoding_of n content rest len =
    ap (λ (k : ℕ). word k ++ (content ++ rest)) (sym len) ∙ sym (append_assoc (word (length content)) content rest)

-- a frame that both steps read was at the front of the input
frame_found : (old mid new : Option (List ℕ)) (n : ℕ) (frame : FrameValue)
    → IfSome old (λ input. IsLengthOf input (Ok (Some n)) mid)
    → IfSome mid (λ input. IsContentOf n input (Ok frame) new)
    → IfSome old (λ input. (rest : List ℕ) × (input ≡ frame_encoding frame.content ++ rest) × (new ≡ Some rest))
frame_found None mid new n frame first second = tt
frame_found (Some xs) None new n frame first second = absurd cc
frame_found (Some xs) (Some ys) new n frame first second =
    let same : ys ≡ first.0 = cc in
    let (rest, split, len, left) = second in (
      rest,
      first.1 ∙ ap (λ (b : List ℕ). word n ++ b) (sym same ∙ split) ∙ frame_encoding_of n frame.content rest len,
      left,
    )

-- the result of reading a frame, from the results of both steps
pub frame_read : (old mid new : Option (List ℕ)) (n : ℕ) (frame : FrameValue) → IsContentLength n
    → IfSome old (λ input. IsLengthOf input (Ok (Some n)) mid)
    → IfSome mid (λ input. IsContentOf n input (Ok frame) new)
    → IfSome old (λ input. IsReadOf input (Ok (Some frame)) new)
frame_read None mid new n frame fits first second = tt
frame_read (Some xs) None new n frame fits first second = absurd cc
frame_read (Some xs) (Some ys) new n frame fits first second =
    let (rest, encoding, left) = frame_found (Some xs) (Some ys) new n frame first second in
    let same_length : length frame.content ≡ n = second.2 in (
      rest,
      ap front_of encoding ∙ front_of_encoding frame.content rest (subst IsContentLength (sym same_length) fits),
      left,
    )

-- the number of a length word, with any bytes after it
number_after : (n : ℕ) (rest : List ℕ) → IsContentLength n → little_number 4 (word n ++ rest) ≡ n
number_after n rest fits = little_number-reads_back 4 n rest (omega (arith, fits.greatest))

-- part of the content, after the length word, is within the frame
within_frame : (n : ℕ) (taken : List ℕ) → IsContentLength n → length taken ≤ n → IsWithinFrame (word n ++ taken)
within_frame n taken fits few =
    λ (long : 4 < length (word n ++ taken)).
    let number-is = number_after n taken fits in
    (subst IsContentLength (sym number-is) fits, omega (arith, number-is, length-append (word n) taken))

-- a fault in the content after a length word
after_length : (ys : List ℕ) (new : Option (List ℕ)) (n : ℕ) (fault : WireFault) → IsContentLength n
    → IsContentOf n ys (Err fault) new → IsReadOf (word n ++ ys) (Err fault) new
after_length ys new n Short fits second = ([], front_after n ys fits ∙ content_short n ys fits second.0, second.1)
after_length ys new n TooLong fits second = absurd second
after_length ys new n Device fits second =
    let (taken, few, consumed) = second in (
      word n ++ taken,
      Consumes-trans (Some (word n ++ ys)) (Some ys) new (word n) taken refl consumed,
      within_frame n taken fits few,
    )
after_length ys new n NoMemory fits second =
    (omega (arith, length-append (word n) ys), subst IsContentLength (sym (number_after n ys fits)) fits, second)

-- the result of reading a frame if the second step fails
pub content_failed : (old mid new : Option (List ℕ)) (n : ℕ) (fault : WireFault) → IsContentLength n
    → IfSome old (λ input. IsLengthOf input (Ok (Some n)) mid)
    → IfSome mid (λ input. IsContentOf n input (Err fault) new)
    → IfSome old (λ input. IsReadOf input (Err fault) new)
content_failed None mid new n fault fits first second = tt
content_failed (Some xs) None new n fault fits first second = absurd cc
content_failed (Some xs) (Some ys) new n fault fits first second =
    let same : ys ≡ first.0 = cc in
    let split : xs ≡ word n ++ ys = first.1 ∙ ap (λ (b : List ℕ). word n ++ b) (sym same) in
    subst (λ (x : List ℕ). IsReadOf x (Err fault) new) (sym split) (after_length ys new n fault fits second)
