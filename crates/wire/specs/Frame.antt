-- The value of a frame, and how the front of an input is read.
use Rattle.std.specs.Prelude.{◌≡◌, refl, ℕ, ◌+◌, ◌<◌, ◌≤◌, List, [], length, take, drop, Option, None, Some, Result, Ok, Err, nat_lt, ◌==◌, if◌then◌else◌}
use Rattle.std.specs.Io.KnownBytes.{Consumes}
use Rattle.std.specs.Coded.{Coded, code_by, coded×, coded_list, coded_ℕ}
use Rattle.byteorder.specs.Endian.{little_number}
use Rattle.codes.specs.declared.limits.TheConstants.{MIN_FRAME_CONTENT, MAX_FRAME_CONTENT}
use Rattle.wire.specs.declared.fault.WireFault.{WireFault}
use Rattle.wire.specs.declared.fault.WireFault.TheVariants.{Short, TooLong, Device, NoMemory}

-- a frame's content, and the length up to which the content grows without an allocation
pub record FrameValue : Type 0 where
  pub content : List ℕ
  pub room : ℕ

abbrev pub frame_code : Coded FrameValue
frame_code =
    code_by (List ℕ × ℕ) (coded× (coded_list coded_ℕ) coded_ℕ) (λ f. (f.content, f.room))
    (λ p. record { content = p.0; room = p.1 }) (λ _. refl)

-- n is a valid value of a frame's length word
pub record IsContentLength (n : ℕ) : Type 0 where
  pub least : MIN_FRAME_CONTENT ≤ n
  pub greatest : n ≤ MAX_FRAME_CONTENT

-- The front of an input: its end, a whole frame's content, or the first fault, each with the input that is left after
-- the bytes that were read.
pub data Front : Type 0 where
  ended : Front
  whole : (content left : List ℕ) → Front
  faulty : (fault : WireFault) (left : List ℕ) → Front

-- the front of an input after a length word of n
abbrev pub content_at : ℕ → List ℕ → Front
content_at n rest =
    if nat_lt n MIN_FRAME_CONTENT then faulty Short rest
    else if nat_lt MAX_FRAME_CONTENT n then faulty TooLong rest
    else if nat_lt (length rest) n then faulty Short []
    else whole (take n rest) (drop n rest)

abbrev pub front_of : List ℕ → Front
front_of input =
    if length input == 0 then ended
    else if nat_lt (length input) 4 then faulty Short []
    else content_at (little_number 4 input) (drop 4 input)

-- The bytes end within the first frame: not after its end, and not after its length word if that is invalid.
abbrev pub IsWithinFrame : List ℕ → Type 0
IsWithinFrame taken =
    4 < length taken → IsContentLength (little_number 4 taken) × (length taken ≤ 4 + little_number 4 taken)

-- Reading the input may have this result and leave this of it. Memory may run out once the length was read, and a
-- reader may fail at any byte of the frame.
abbrev pub IsReadOf : List ℕ → Result (Option FrameValue) WireFault → Option (List ℕ) → Type 0
IsReadOf input (Ok None) left = (front_of input ≡ ended) × (left ≡ Some [])
IsReadOf input (Ok (Some frame)) left =
    (rest : List ℕ) × (front_of input ≡ whole frame.content rest) × (left ≡ Some rest)
IsReadOf input (Err Short) left = (rest : List ℕ) × (front_of input ≡ faulty Short rest) × (left ≡ Some rest)
IsReadOf input (Err TooLong) left = (rest : List ℕ) × (front_of input ≡ faulty TooLong rest) × (left ≡ Some rest)
IsReadOf input (Err Device) left = (taken : List ℕ) × Consumes (Some input) left taken × IsWithinFrame taken
IsReadOf input (Err NoMemory) left =
    (4 ≤ length input) × IsContentLength (little_number 4 input) × (left ≡ Some (drop 4 input))

-- A read of an input that begins with the frame of this content may have this result: the frame, a fault of the reader,
-- or out of memory.
abbrev pub IsFrameRead : List ℕ → Result (Option FrameValue) WireFault → Type 0
IsFrameRead content (Ok None) = ⊥
IsFrameRead content (Ok (Some frame)) = frame.content ≡ content
IsFrameRead content (Err Short) = ⊥
IsFrameRead content (Err TooLong) = ⊥
IsFrameRead content (Err Device) = Unit {0}
IsFrameRead content (Err NoMemory) = Unit {0}
