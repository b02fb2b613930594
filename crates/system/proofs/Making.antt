-- How a call changes the half that makes calls.
use Rattle.std.proofs.Common.{◌≡◌, inl, inr, ℕ, ◌+◌, ◌-◌, ◌^◌, ◌≤◌, ◌<◌, ◌∙◌, ap, Bool, true, false, List, ◌++◌, length, take, length-append, Result, Ok, Err, OnErr, arith, refl, subst, sym}
use Rattle.std.specs.Prelude.{IfOk, IsErrOf, MatchBool, if◌then◌else◌}
use Rattle.std.proofs.Math.Dec.{leb}
use Rattle.std.proofs.lemmas.List.{take_at}
use Rattle.std.proofs.lemmas.Bool.Decides.{leb_tells}
use Rattle.codes.specs.declared.limits.TheConstants.{MAX_RECORDS}
use Rattle.store_half.specs.epoch_log.Logs.{EpochLogValue, entry_of, log_after, with_record}
use Rattle.ipc_model.specs.calls.Step.{has_record}
use Rattle.ipc_model.specs.declared.call.Call.{Call}
use Rattle.ipc_model.specs.declared.reply.Reply.{Reply}
use Rattle.ipc_model.specs.encodings.Encodings.{record_encoding}
use Rattle.journal.specs.Batch.{without_last}
use Rattle.system.specs.Halves.{CanCut, Gives, KernelValue, TicketValue}
use Rattle.system.specs.declared.kernel_half.SubmitFault.{SubmitFault}
use Rattle.system.specs.declared.kernel_half.SubmitFault.TheVariants as fault

-- the epoch log after a call, with a record or without
module _ (old new : EpochLogValue) (space : ℕ) (c : Call) (answer : Reply)
    (with_one : has_record c answer ≡ true → new ≡ with_record old (entry_of space c answer))
    (with_none : has_record c answer ≡ false → new ≡ old) where
  pub log_is_after : new ≡ log_after old space c answer
  log_is_after = by (has_record c answer) refl
    where
      by : (b : Bool) → has_record c answer ≡ b → new ≡ (if b then with_record old (entry_of space c answer) else old)
      by true is = with_one is
      by false is = with_none is

  pub no_fewer : (handed : ℕ) → handed ≤ old.made → handed ≤ new.made
  no_fewer handed few = by (has_record c answer) refl
    where
      by : (b : Bool) → has_record c answer ≡ b → handed ≤ new.made
      by true is = subst (λ (r : EpochLogValue). handed ≤ r.made) (sym (with_one is)) (omega (arith, few))
      by false is = subst (λ (r : EpochLogValue). handed ≤ r.made) (sym (with_none is)) few

-- what a value at `Ok` is follows from what it is known to be
pub at_ok : {T E : Type 0} (P Q : T → Type 0) (r : Result T E) → ((v : T) → P v → Q v) → IfOk r P → IfOk r Q
at_ok P Q (Ok v) follows holds = follows v holds
at_ok P Q (Err f) follows holds = tt

-- where the epoch log is full, no call that was made has a record
pub learns_nothing : {E : Type 0} (r : Result TicketValue E) (old new : KernelValue) (space : ℕ) (c : Call)
    (P : TicketValue → Type 0) → MAX_RECORDS ≤ old.log.length → IfOk r (λ ticket. Gives old space c ticket new)
    → IfOk r (λ ticket. has_record c ticket.answer ≡ true → P ticket)
learns_nothing r old new space c P full gives =
    at_ok (λ ticket. Gives old space c ticket new) (λ ticket. has_record c ticket.answer ≡ true → P ticket) r
    (λ ticket given is. absurd (omega (arith, given.room is, full))) gives

-- what holds at an exit with a fault
pub with_fault : {T E : Type 0} (P : Type 0) (r : Result T E) → P → OnErr r P
with_fault P (Ok v) holds = tt
with_fault P (Err f) holds = holds

-- running out of memory isn't a full epoch log
pub memory_no_full : {T : Type 0} (r : Result T SubmitFault) → r ≡ Err fault.NoMemory → IsErrOf r fault.EpochFull → ⊥
memory_no_full (Ok v) is acknowledged = cc is
memory_no_full (Err f) is acknowledged = cc (is, acknowledged)

-- a number is at most another, or isn't, by the test
pub due_or_not : (a b seen handed : ℕ) → a ≡ seen → b ≡ handed → MatchBool (leb a b) (seen ≤ handed) (handed < seen)
due_or_not a b seen handed same_seen same_handed =
    elim (leb_tells a b) as (λ _. MatchBool (leb a b) (seen ≤ handed) (handed < seen)) [
      | inl within ↦ subst (λ (t : Bool). MatchBool t (seen ≤ handed) (handed < seen)) (sym within.0)
          (omega (arith, within.1, same_seen, same_handed))
      | inr beyond ↦ subst (λ (t : Bool). MatchBool t (seen ≤ handed) (handed < seen)) (sym beyond.0)
          (omega (arith, beyond.1, same_seen, same_handed))
    ]

-- the next epoch may begin, by the tests
pub can_cut : (is_cut : Bool) (epoch older : ℕ) (half : KernelValue) → is_cut ≡ half.is_cut → epoch ≡ half.epoch
    → older ≡ half.older.count → is_cut ≡ false → epoch < 2 ^ 64 - 1 → (count : ℕ) → count ≡ older → count ≤ 0
    → CanCut half
can_cut is_cut epoch older half same_cut same_epoch same_older over next count counted none =
    record {
      over = sym same_cut ∙ over;
      next = subst (λ n. n < 2 ^ 64 - 1) same_epoch next;
      none_older = omega (arith, same_older, counted, none);
    }

one_less : (n : ℕ) → n + 1 - 1 ≡ n
one_less n = omega arith

-- a record that was written and taken out again
pub record_out : (old with_one new : EpochLogValue) (space : ℕ) (c : Call) (answer : Reply) (size : ℕ)
    → with_one ≡ with_record old (entry_of space c answer)
    → size ≡ length (record_encoding old.length (entry_of space c answer))
    → new ≡ record {
      length = with_one.length - 1;
      made = with_one.made - 1;
      waiting = without_last with_one.waiting size;
    } → new ≡ old
record_out old with_one new space c answer size written long is =
    let encoding : List ℕ = record_encoding old.length (entry_of space c answer) in
    let less : length (old.waiting.body ++ encoding) - size ≡ length old.waiting.body =
    omega (arith, length-append old.waiting.body encoding, long) in
    is ∙ ap (λ (r : EpochLogValue).
    record { length = r.length - 1; made = r.made - 1; waiting = without_last r.waiting size }) written
    ∙ (λ i. record {
      length = one_less old.length i;
      made = one_less old.made i;
      waiting = record {
        count = one_less old.waiting.count i;
        body = (ap (λ n. take n (old.waiting.body ++ encoding)) less
            ∙ take_at old.waiting.body encoding (length old.waiting.body) refl) i;
      };
    })
