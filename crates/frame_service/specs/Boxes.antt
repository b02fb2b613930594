-- What waits between a stream and a connection's frames: the bytes that came and aren't read, and those that are to go out.
use Rattle.std.specs.Prelude.{◌≡◌, ◌≢◌, ℕ, List, ◌++◌, Option, refl}
use Rattle.std.specs.Coded.{Coded, code_by, coded×, coded_list, coded_ℕ}
use Rattle.std.specs.Io.KnownBytes.{Appends, Consumes, Keeps, append_known, prepend_known}
use Rattle.frame_service.specs.declared.inbox.Filled.{Filled}
use Rattle.frame_service.specs.declared.inbox.Filled.TheVariants as filled
use Rattle.frame_service.specs.declared.inbox.Source.{Source}
use Rattle.frame_service.specs.declared.inbox.Source.TheVariants.{Open}
use Rattle.frame_service.specs.contracts.inbox.Source as source

-- the stream, the bytes that came from it and aren't read, and what it still has
pub record InboxValue (R : Type 0) : Type 0 where
  pub stream : R
  pub bytes : List ℕ
  pub source : Source

abbrev pub inbox_code : {R : Type 0} → Coded R → Coded (InboxValue R)
inbox_code {R} code =
    code_by (R × (List ℕ × Source)) (coded× code (coded× (coded_list coded_ℕ) source.the_row.coded))
    (λ b. (b.stream, (b.bytes, b.source))) (λ p. record { stream = p.0; bytes = p.1.0; source = p.1.1 }) (λ _. refl)

-- what reads give from here on, where it is known: what came, and then what the stream has
abbrev pub inbox_remaining : {R : Type 0} → (R → Option (List ℕ)) → InboxValue R → Option (List ℕ)
inbox_remaining remaining b = prepend_known b.bytes (remaining b.stream)

module _ {R : Type 0} (remaining : R → Option (List ℕ)) (old : InboxValue R) where
  -- The stream gave these bytes, which come after what had come before, and nothing else changed.
  pub record Grows (new : InboxValue R) : Type 0 where
    pub more : List ℕ
    pub bytes : new.bytes ≡ old.bytes ++ more
    pub given : Consumes (remaining old.stream) (remaining new.stream) more
    pub goes_on : (old.source ≡ Open) × (new.source ≡ Open)

  -- nothing came
  pub record Stays (new : InboxValue R) : Type 0 where
    pub bytes : new.bytes ≡ old.bytes
    pub kept : Keeps (remaining old.stream) (remaining new.stream)

  -- What came of asking a stream once.
  abbrev pub FillsFrom : Filled → InboxValue R → Type 0
  FillsFrom filled.Some new = Grows new
  FillsFrom filled.None new = Stays new × (new.source ≡ Open)
  FillsFrom filled.Over new = Stays new × (new.source ≢ Open)
  FillsFrom filled.NoMemory new = Stays new × (new.source ≡ Open)

-- the stream, and the bytes that it is to be given and hasn't taken
pub record OutboxValue (W : Type 0) : Type 0 where
  pub stream : W
  pub bytes : List ℕ

abbrev pub outbox_code : {W : Type 0} → Coded W → Coded (OutboxValue W)
outbox_code {W} code =
    code_by (W × List ℕ) (coded× code (coded_list coded_ℕ)) (λ b. (b.stream, b.bytes))
    (λ p. record { stream = p.0; bytes = p.1 }) (λ _. refl)

-- all that was written: what the stream holds, where that is known, and then what it hasn't taken
abbrev pub outbox_contents : {W : Type 0} → (W → Option (List ℕ)) → OutboxValue W → Option (List ℕ)
outbox_contents contents b = append_known (contents b.stream) b.bytes

-- The stream took this much of what it hadn't taken, from the front.
pub record Gives {W : Type 0} (contents : W → Option (List ℕ)) (old new : OutboxValue W) : Type 0 where
  pub given : List ℕ
  pub bytes : old.bytes ≡ given ++ new.bytes
  pub taken : Appends (contents old.stream) (contents new.stream) given
