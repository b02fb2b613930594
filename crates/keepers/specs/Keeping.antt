-- What is kept under the lock of the kernel, and what a call there makes of it.
use Rattle.std.specs.Prelude.{◌≡◌, ◌≢◌, ◌⊎◌, ℕ, ◌+◌, ◌-◌, ◌<◌, Bool, List, [], ◌∷◌, ◌++◌, length, Option, None, Some, option_map, if◌then◌else◌, refl}
use Rattle.std.specs.Coded.{Coded, code_by, coded×, coded_ℕ, coded_option}
use Rattle.history.specs.Entries.{Begins, records_of}
use Rattle.history.specs.Pasts.{PastValue, past_code}
use Rattle.history.specs.declared.entry.Entry.{Entry}
use Rattle.ipc_model.specs.calls.Step.{Step, Steps, has_record}
use Rattle.ipc_model.specs.declared.call.Call.{Call}
use Rattle.ipc_model.specs.declared.reply.Reply.{Reply}
use Rattle.ipc_model.specs.history.History.{called}
use Rattle.ipc_model.specs.state.LawfulState.{LawfulState}
use Rattle.ipc_model.specs.state.State.{State}
use Rattle.keepers.specs.Tokens.{SessionValue, Did, IsHistory, entry_by, with_entry}
use Rattle.keepers.specs.Storing.{EndValue, LoadValue}
use Rattle.system.specs.Core.{Counts, IsApplied, Wait}
use Rattle.system.specs.Halves.{Cuts, Gives, KernelValue, TakesBatch, TicketValue, first_half, kernel_code}

-- The half that makes calls, and the history (none while a call is being made). Of the records that were made since the
-- store was opened, `earlier` were made before this epoch, whose log began with `opened` ones, and `taken` were taken
-- to be stored; the log of the epoch before has `older` records.
pub record KernelCoreValue : Type 0 where
  pub half : KernelValue
  pub past : Option PastValue
  pub opened : ℕ
  pub earlier : ℕ
  pub taken : ℕ
  pub older : ℕ

abbrev pub kernel_core_code : Coded KernelCoreValue
kernel_core_code =
    code_by (KernelValue × (Option PastValue × (ℕ × (ℕ × (ℕ × ℕ)))))
    (coded× kernel_code (coded× (coded_option past_code)
    (coded× coded_ℕ (coded× coded_ℕ (coded× coded_ℕ coded_ℕ)))))
    (λ c. (c.half, (c.past, (c.opened, (c.earlier, (c.taken, c.older))))))
    (λ p. record {
      half = p.0;
      past = p.1.0;
      opened = p.1.1.0;
      earlier = p.1.1.1.0;
      taken = p.1.1.1.1.0;
      older = p.1.1.1.1.1;
    }) (λ _. refl)

-- The history is what was applied: it runs from the base to the kernel's state, and those of its records that weren't
-- taken wait.
pub record IsKernelCore (base : State) (half : KernelValue) (entries : List Entry)
    (opened earlier taken older : ℕ) : Type 0 where
  pub applied : IsApplied base (records_of entries) half.kernel half.log.made
  pub counts : Counts opened earlier taken taken (length (records_of entries)) older half.log.length
  pub waits : Wait opened earlier taken (records_of entries) older half.older half.log.waiting

-- what continues from a state in an epoch, whose log has this many records, with a history that begins there
abbrev pub first_core : State → ℕ → ℕ → PastValue → KernelCoreValue
first_core kernel epoch records past =
    record {
      half = first_half kernel epoch records;
      past = Some past;
      opened = records;
      earlier = 0;
      taken = 0;
      older = 0;
    }

-- what lies under the lock of the kernel
pub record KernelKeeperValue : Type 0 where
  pub core : KernelCoreValue

abbrev pub keeper_code : Coded KernelKeeperValue
keeper_code =
    code_by KernelCoreValue kernel_core_code (λ k. k.core) (λ core. record { core = core }) (λ _. refl)

-- the entries of the history that is kept
abbrev pub entries_in : KernelCoreValue → Option (List Entry)
entries_in core = option_map (λ p. p.entries) core.past

-- how many entry blocks came before the one in which the history continues
abbrev pub blocks_in : KernelCoreValue → Option ℕ
blocks_in core = option_map (λ p. p.blocks) core.past

-- The number, in its epoch, of the first record that wasn't taken: in the epoch before, or in this one.
abbrev pub first_number : ℕ → ℕ → ℕ → ℕ → Bool → ℕ
first_number opened earlier older taken is_older =
    if is_older then older - (earlier - taken) else opened + (taken - earlier)

-- The two that learn of a record: the history that is kept, and the one that a session of this number has seen.
pub record BothPastsValue : Type 0 where
  pub number : ℕ
  pub kept : PastValue
  pub mine : PastValue

abbrev pub both_pasts_code : Coded BothPastsValue
both_pasts_code =
    code_by (ℕ × (PastValue × PastValue)) (coded× coded_ℕ (coded× past_code past_code))
    (λ b. (b.number, (b.kept, b.mine))) (λ p. record { number = p.0; kept = p.1.0; mine = p.1.1 }) (λ _. refl)

abbrev pub both_learned : BothPastsValue → ℕ → Call → Reply → BothPastsValue
both_learned old space c answer = record {
  number = old.number;
  kept = with_entry old.kept (entry_by old.number space c answer);
  mine = with_entry old.mine (entry_by old.number space c answer);
}

-- what a call adds to the history
abbrev pub entries_of_call : ℕ → ℕ → Call → TicketValue → List Entry
entries_of_call number space c ticket =
    if has_record c ticket.answer then entry_by number space c ticket.answer ∷ [] else []

-- A call was made in the state after all of the history, of which its session had seen a prefix. The session has then
-- seen all of it, with the call's record, if there is one.
pub record Applies (base : State) (number space : ℕ) (seen : List Entry) (c : Call) (ticket : TicketValue)
    (after : List Entry) (old_made new_made : ℕ) : Type 0 where
  pub before : List Entry
  pub begins : Begins seen before
  pub after_is : after ≡ before ++ entries_of_call number space c ticket
  pub kernel : State
  pub lawful : LawfulState kernel
  pub next : State
  pub run : Steps base (records_of before) kernel
  pub step : Step kernel space c ticket.answer next
  pub history : IsHistory base after
  pub seen_is : ticket.seen ≡ length after
  pub old_counted : old_made ≡ length before
  pub new_counted : new_made ≡ length after

-- A session made a call right after this history, in the state that it leads to, which is lawful. The session has then
-- seen all of it, with the call's record, if there is one.
pub record MadeAfter (base : State) (before : List Entry) (old : SessionValue) (c : Call) (ticket : TicketValue)
    (new : SessionValue) : Type 0 where
  pub did : Did base old (called c ticket.answer) new
  pub all : new.past.entries ≡ before ++ entries_of_call old.number old.task.space c ticket
  pub kernel : State
  pub run : Steps base (records_of before) kernel
  pub lawful : LawfulState kernel
  pub next : State
  pub step : Step kernel old.task.space c ticket.answer next
  pub seen : new.task.seen ≡ length new.past.entries
  pub ticket_seen : ticket.seen ≡ new.task.seen

-- A session that makes no call may have seen more of the history.
pub record Learns (base : State) (seen after : List Entry) : Type 0 where
  pub begins : Begins seen after
  pub history : IsHistory base after

-- What a session has seen can't be recognized as a prefix of the history that is kept: it is in another entry block, or
-- longer.
abbrev pub IsApart : Option PastValue → PastValue → Type 0
IsApart None seen = ⊥
IsApart (Some kept) seen = (seen.blocks ≢ kept.blocks) ⊎ (length kept.entries < length seen.entries)

-- A call was made and is kept: a ticket was given, and the history has the call's entry, if it has one.
pub record Makes (old : KernelCoreValue) (number space : ℕ) (c : Call) (ticket : TicketValue)
    (new : KernelCoreValue) : Type 0 where
  pub gives : Gives old.half space c ticket new.half
  pub entries : entries_in new ≡ option_map (λ l. l ++ entries_of_call number space c ticket) (entries_in old)
  pub rest : new ≡ record old { half = new.half; past = new.past }

-- Records that waited were taken to be stored, with the history up to them: the ones after those that were taken
-- before.
pub record Loads (old : KernelCoreValue) (load : LoadValue) (new : KernelCoreValue) : Type 0 where
  pub takes : TakesBatch old.half (record { epoch = load.epoch; batch = load.batch }) new.half
  pub entries : entries_in old ≡ Some load.entries
  pub first : load.first ≡ old.taken
  pub rest : new ≡ record old { half = new.half; taken = old.taken + load.batch.count }

-- Nothing changed except the entry block in which the history continues.
pub record IsSame (old new : KernelCoreValue) : Type 0 where
  pub entries : entries_in new ≡ entries_in old
  pub rest : new ≡ record old { past = new.past }

-- The epoch ended after all of the history.
pub record Ends (old : KernelCoreValue) (end : EndValue) (new : KernelCoreValue) : Type 0 where
  pub cuts : Cuts old.half end.cut new.half
  pub entries : entries_in old ≡ Some end.entries
  pub all : end.earlier ≡ length end.entries
  pub same : entries_in new ≡ entries_in old
  pub rest : new ≡ record old {
    half = new.half;
    past = new.past;
    opened = 0;
    earlier = end.earlier;
    older = old.half.log.length;
  }
