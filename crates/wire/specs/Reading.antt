-- The two steps of reading a frame, each with its result and the input that it leaves.
use Rattle.std.specs.Prelude.{◌≡◌, ℕ, ◌<◌, ◌≤◌, List, [], ◌++◌, length, Option, None, Some, Result, Ok, Err}
use Rattle.std.specs.Io.KnownBytes.{Consumes}
use Rattle.words.specs.Words.{word}
use Rattle.wire.specs.Frame.{FrameValue, ended, faulty, front_of}
use Rattle.wire.specs.declared.fault.WireFault.{WireFault}
use Rattle.wire.specs.declared.fault.WireFault.TheVariants.{Short, TooLong, Device, NoMemory}

-- if the input is known before and after, at most n bytes were consumed from its front
abbrev pub ConsumesPart : Option (List ℕ) → Option (List ℕ) → ℕ → Type 0
ConsumesPart old new n = (taken : List ℕ) × (length taken ≤ n) × Consumes old new taken

-- reading the length word of the input may have this result and leave this of it
abbrev pub IsLengthOf : List ℕ → Result (Option ℕ) WireFault → Option (List ℕ) → Type 0
IsLengthOf input (Ok None) left = (front_of input ≡ ended) × (left ≡ Some [])
IsLengthOf input (Ok (Some n)) left = (rest : List ℕ) × (input ≡ word n ++ rest) × (left ≡ Some rest)
IsLengthOf input (Err Short) left = (rest : List ℕ) × (front_of input ≡ faulty Short rest) × (left ≡ Some rest)
IsLengthOf input (Err TooLong) left = (rest : List ℕ) × (front_of input ≡ faulty TooLong rest) × (left ≡ Some rest)
IsLengthOf input (Err Device) left = ConsumesPart (Some input) left 4
IsLengthOf input (Err NoMemory) left = ⊥

-- reading n bytes of content may have this result and leave this of the input
abbrev pub IsContentOf : ℕ → List ℕ → Result FrameValue WireFault → Option (List ℕ) → Type 0
IsContentOf n input (Ok frame) left =
    (rest : List ℕ) × (input ≡ frame.content ++ rest) × (length frame.content ≡ n) × (left ≡ Some rest)
IsContentOf n input (Err Short) left = (length input < n) × (left ≡ Some [])
IsContentOf n input (Err TooLong) left = ⊥
IsContentOf n input (Err Device) left = ConsumesPart (Some input) left n
IsContentOf n input (Err NoMemory) left = left ≡ Some input
