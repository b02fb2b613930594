use Rattle.std.proofs.Common.{◌≡◌, ℕ, Err, List, ◌∙◌, ◌++◌, sym, ap, subst, arith, drop, length, take}
use Rattle.std.specs.Prelude.{◌-◌, min}
use Rattle.std.proofs.lemmas.Result.{err_from_is_err_and}
use Rattle.disk.specs.Moments.{one_more}
use Rattle.disk.specs.Slots.{Slots, slot_of}
use Rattle.recover.specs.Loaded.{HoldsEncoding}
use Rattle.recover.proofs.Faults.{counts_device, counts_memory, counts_ok, counts_same}
use Rattle.recover.proofs.Texts.{filled, read_length, encoding_read}
use Rattle.disk.proofs.Moments.{unchanged_then}
use Rattle.recover.proofs.loading.read_encoding.Goals as goal

pub returns-clause-encoding : goal.returns-clause-encoding
returns-clause-encoding g c = λ honest.
    let slot : List ℕ = slot_of (g.D.Disk.view c.args.disk.now).seen c.args.slot in
    let later : List ℕ = slot_of (g.D.Disk.view c.encoding_length.new.disk).seen c.args.slot in
    let same : later ≡ slot = ap (λ (s : Slots). slot_of s c.args.slot) (c.in_ok-size.ensures.seen honest) in
    let old : List ℕ = c.deref_mut.result.now in
    let made : length old ≡ c.in_ok-size.size = c.deref_mut.ensures.len ∙ c.in_ok-encoding.ensures.len in
    let word = c.in_ok-size.ensures.length honest in
    let whole =
    read_length later c.read.new.buffer old c.in_ok-read.field-0 (c.in_ok-read.ensures.count honest)
    (c.in_ok-read.ensures.bytes honest) in
    subst (HoldsEncoding slot) (sym
    (filled c.read.new.buffer c.in_ok-encoding.encoding.items c.in_ok-encoding.encoding.len
    (omega (arith, whole, made, c.in_ok-encoding.ensures.len))))
    (encoding_read slot c.read.new.buffer old word.0 c.in_ok-read.field-0 c.in_ok-size.size word.1
    c.in_ok-size.ensures.fits
    (omega (arith, c.if-room-size.false, c.saturating_sub-room.ensures, c.length.ensures honest, ap length same))
    (c.requires honest).0 made
    (c.in_ok-read.ensures.count honest ∙ ap (λ (l : List ℕ). min (length old) (length l - 24)) same)
    (subst (λ (l : List ℕ). c.read.new.buffer ≡ take c.in_ok-read.field-0 (drop 24 l)
    ++ drop c.in_ok-read.field-0 old) same (c.in_ok-read.ensures.bytes honest)))

pub returns-in_err-size-clause-reads_only : goal.returns-in_err-size-clause-reads_only
returns-in_err-size-clause-reads_only g c = λ honest.
    record { seen = c.encoding_length.ensures.seen honest; time = c.encoding_length.ensures.time honest }

pub returns-in_err-size-clause-failures : goal.returns-in_err-size-clause-failures
returns-in_err-size-clause-failures g c =
    let p = err_from_is_err_and c.from_residual.result c.from_residual.ensures.1 in
    counts_device _ _ c.from_residual.result (p.1 ∙ ap Err p.2) c.in_err-size.ensures.failures.err

-- the slot ends within the encoding
pub returns-then-room-size-clause-reads_only : goal.returns-then-room-size-clause-reads_only
returns-then-room-size-clause-reads_only g c = λ honest.
    record { seen = c.encoding_length.ensures.seen honest; time = c.encoding_length.ensures.time honest }

pub returns-then-room-size-clause-failures : goal.returns-then-room-size-clause-failures
returns-then-room-size-clause-failures g c =
    counts_same _ _ _ (λ reported. cc reported) c.in_ok-size.ensures.failures.ok

pub returns-in_err-encoding-clause-reads_only : goal.returns-in_err-encoding-clause-reads_only
returns-in_err-encoding-clause-reads_only g c = λ honest.
    record { seen = c.encoding_length.ensures.seen honest; time = c.encoding_length.ensures.time honest }

pub returns-in_err-encoding-clause-failures : goal.returns-in_err-encoding-clause-failures
returns-in_err-encoding-clause-failures g c =
    let p = err_from_is_err_and c.from_residual-in_err-encoding.result c.from_residual-in_err-encoding.ensures.1 in
    counts_memory _ _ c.from_residual-in_err-encoding.result (p.1 ∙ ap Err p.2) c.in_ok-size.ensures.failures.ok

pub returns-in_err-read-clause-reads_only : goal.returns-in_err-read-clause-reads_only
returns-in_err-read-clause-reads_only g c = λ honest. record {
  seen = c.read.ensures.seen honest ∙ c.encoding_length.ensures.seen honest;
  time = unchanged_then _ _ _ (c.encoding_length.ensures.time honest) (c.read.ensures.time honest);
}

pub returns-in_err-read-clause-failures : goal.returns-in_err-read-clause-failures
returns-in_err-read-clause-failures g c =
    let p = err_from_is_err_and c.from_residual-in_err-read.result c.from_residual-in_err-read.ensures.1 in
    counts_device _ _ c.from_residual-in_err-read.result (p.1 ∙ ap Err p.2)
    (c.in_err-read.ensures.failures.err ∙ ap one_more c.in_ok-size.ensures.failures.ok)

pub returns-clause-reads_only : goal.returns-clause-reads_only
returns-clause-reads_only g c = λ honest. record {
  seen = c.read.ensures.seen honest ∙ c.encoding_length.ensures.seen honest;
  time = unchanged_then _ _ _ (c.encoding_length.ensures.time honest) (c.read.ensures.time honest);
}

pub returns-clause-failures : goal.returns-clause-failures
returns-clause-failures g c =
    counts_ok _ _ _ (c.in_ok-read.ensures.failures.ok ∙ c.in_ok-size.ensures.failures.ok)
