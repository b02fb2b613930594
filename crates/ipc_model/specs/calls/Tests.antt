-- Tests of a call, in the order in which they are made.
use Rattle.std.specs.Prelude.{◌≡◌, Bool, true, List, [], ◌∷◌, Option, None, Some, Result, Ok, Err, MatchOption, if◌then◌else◌}
use Rattle.codes.specs.declared.kern_return.KernReturn.{KernReturn}
use Rattle.ipc_model.specs.declared.plain_reply.PlainReply.{PlainReply}
use Rattle.ipc_model.specs.effects.Effects.{Effect}
use Rattle.ipc_model.specs.state.Ipc.{Ipc}

-- A test is true where it fails, and then the call is refused with the code paired with it.
abbrev pub Tests : Type 0
Tests = List (Bool × KernReturn)

-- a test that fails in any case
abbrev pub always_failing : KernReturn → Tests
always_failing code = (true, code) ∷ []

-- the code of the first test that fails
abbrev pub first_failing : Tests → Option KernReturn
first_failing [] = None
first_failing ((fails, code) ∷ tests) = if fails then Some code else first_failing tests

-- the call is refused with this reply: it changes nothing, and sets nothing off
abbrev pub IsRefusedWith : PlainReply → Ipc → PlainReply → Ipc → List Effect → Type 0
IsRefusedWith refusal old answer new effects = (answer ≡ refusal) × (new ≡ old) × (effects ≡ [])

-- If a test fails, the call is refused with its code; otherwise it is done.
abbrev pub RefusedOrDone : Option KernReturn → (KernReturn → Type 0) → Type 0 → Type 0
RefusedOrDone refusal refused done = MatchOption refusal done refused

-- a value, or a code where there is none
abbrev pub or_refused : {X : Type 0} → KernReturn → Option X → Result X KernReturn
or_refused code None = Err code
or_refused code (Some x) = Ok x

-- what comes next, unless the call is refused before
abbrev pub and_then : {X Y : Type 0} → Result X KernReturn → (X → Result Y KernReturn) → Result Y KernReturn
and_then (Ok x) next = next x
and_then (Err code) next = Err code

-- the next value, unless a test fails
abbrev pub unless_failing : {X : Type 0} → Tests → Result X KernReturn → Result X KernReturn
unless_failing [] next = next
unless_failing ((fails, code) ∷ tests) next = if fails then Err code else unless_failing tests next
