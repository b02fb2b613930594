-- A call in the state after all of the history.
use Rattle.std.proofs.Common.{◌≡◌, ℕ, Bool, true, false, List, [], ◌∷◌, ◌++◌, length, refl, sym, ap, subst, ◌∙◌}
use Rattle.std.specs.Prelude.{if◌then◌else◌}
use Rattle.std.proofs.lemmas.List.{map-append, length-map}
use Rattle.history.specs.Entries.{Begins, records_of}
use Rattle.history.specs.declared.entry.Entry.{Entry}
use Rattle.ipc_laws.specs.RunLaws.{steps_run}
use Rattle.ipc_laws.specs.RunsKeep.{runs_keep_lawful}
use Rattle.ipc_model.specs.calls.Step.{Steps, has_record}
use Rattle.ipc_model.specs.declared.call.Call.{Call}
use Rattle.ipc_model.specs.declared.record.Record.{Record}
use Rattle.ipc_model.specs.state.State.{State}
use Rattle.keepers.specs.Keeping.{Applies, IsKernelCore, entries_of_call}
use Rattle.keepers.specs.Tokens.{entry_by}
use Rattle.system.proofs.Logs.{Grows, grown}
use Rattle.system.specs.Core.{Wait}
use Rattle.system.specs.Halves.{Gives, KernelValue, TicketValue}
use Rattle.system.specs.Passed.{entry_of}

pub counted : (entries : List Entry) → length (records_of entries) ≡ length entries
counted entries = length-map entries (λ (e : Entry). e.«record»)

records_of_call : (number space : ℕ) (c : Call) (ticket : TicketValue) (b : Bool)
    → records_of (if b then entry_by number space c ticket.answer ∷ [] else [])
    ≡ (if b then entry_of space c ticket.answer ∷ [] else [])
records_of_call number space c ticket true = refl
records_of_call number space c ticket false = refl

pub records_after : (entries : List Entry) (number space : ℕ) (c : Call) (ticket : TicketValue)
    → records_of (entries ++ entries_of_call number space c ticket) ≡ records_of entries
    ++ (if has_record c ticket.answer then entry_of space c ticket.answer ∷ [] else [])
records_after entries number space c ticket =
    map-append (λ (e : Entry). e.«record») entries (entries_of_call number space c ticket) ∙ ap
    (λ (l : List Record). records_of entries ++ l)
    (records_of_call number space c ticket (has_record c ticket.answer))

module _ (base : State) (old new : KernelValue) (entries : List Entry) (opened earlier taken older number space : ℕ)
    (c : Call) (ticket : TicketValue) (core : IsKernelCore base old entries opened earlier taken older)
    (gives : Gives old space c ticket new) where
  abbrev after : List Entry
  after = entries ++ entries_of_call number space c ticket

  more : Grows base opened earlier taken taken (records_of entries) older old.older old new (records_of after)
  more =
      subst (Grows base opened earlier taken taken (records_of entries) older old.older old new)
      (sym (records_after entries number space c ticket))
      (grown base opened earlier taken taken
      (records_of entries) older old.older old new core.applied core.counts core.waits space c ticket gives
      (has_record c ticket.answer) refl)

  -- the core stays valid
  pub core_after : IsKernelCore base new after opened earlier taken older
  core_after = record {
    applied = more.all;
    counts = more.counts;
    waits =
        subst (λ (k : KernelValue). Wait opened earlier taken (records_of after) older k.older new.log.waiting)
        (sym gives.rest) more.waits;
  }

  -- The session that made it has then seen all.
  pub applies : (seen mine : List Entry) → Begins seen entries → mine ≡ after
      → Applies base number space seen c ticket mine old.log.made new.log.made
  applies seen mine begins is = record {
    before = entries;
    begins = begins;
    after_is = is;
    kernel = old.kernel;
    lawful =
        (runs_keep_lawful base (records_of entries) old.kernel core.applied.fit core.applied.lawful core.applied.acyclic
        (steps_run base old.kernel (records_of entries) core.applied.run)).0;
    next = new.kernel;
    run = core.applied.run;
    step = gives.step;
    history =
        record {
          state = new.kernel;
          run = subst
              (λ (l : List Entry). Steps base (records_of l) new.kernel) (sym is) more.all.run;
        };
    seen_is = gives.seen ∙ more.all.made_is ∙ counted after ∙ ap length (sym is);
    old_counted = core.applied.made_is ∙ counted entries;
    new_counted = more.all.made_is ∙ counted after ∙ ap length (sym is);
  }
